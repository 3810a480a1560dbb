-- Well-formed contexts by kinds, and what opening, closing and added entries do to what is well formed.
use Rattle.std.proofs.Common.{◌≡◌, ◌≢◌, ℕ, suc, List, [], ◌∷◌, length, Some, true, refl, sym, ap, ◌∙◌, subst}
use Rattle.std.proofs.lemmas.Bool.{and_from}
use Rattle.cc_capture.specs.declared.var.Var.{Var}
use Rattle.cc_capture.specs.declared.var.Var.TheVariants.{Bound, Free}
use Rattle.cc_capture.specs.declared.var.Elem.{Elem}
use Rattle.cc_capture.specs.declared.var.Elem.TheVariants.{Var as Variable, Cap, Hole}
use Rattle.cc_capture.specs.Sets.{Set}
use Rattle.cc_core.specs.Shapes.{Shape, BaseShape, AnyShape, TypeVariable, FunctionShape, TypeFunctionShape, BoxShape, ExitShape}
use Rattle.cc_core.specs.Terms.{Term}
use Rattle.cc_core.specs.Contexts.{Bind, TermEntry, TypeEntry, Context}
use Rattle.cc_core.specs.Substitution.{single, put_variable, closed_variable, opening, closing}
use Rattle.cc_core.specs.Occurrences.{Meets, MeetsInSet, IsAskedOf, without, bound_within, positions_below, under_type_binder}
use Rattle.cc_core.specs.WellFormed.{Kind, TermKind, TypeKind, kind_of, kinds_of, is_well_formed_set, is_well_formed_shape, is_well_formed_entry, is_well_formed_context}
use Rattle.cc_core.proofs.Lookups.{length_map, lookup-other}
use Rattle.cc_core.proofs.KindFacts.{IsOfKind, IsKindedElement, IsKindedSet, IsKinded, IsKindedTerm, IsKindedSet-test, IsKinded-test}
use Rattle.cc_core.proofs.KindedActions.{KeepsKinds, KindsGive}
use Rattle.cc_core.proofs.KindRespecting.{single_kinded, KeepsKinds-moving, MovesKinds-opening, MovesKinds-closing, MovesKinds-more, moved_kinds, kinds-positions_below, kinds-bound_within, kinds-under_type_binder}
use Rattle.cc_core.proofs.Sorts.{MeetsIn, HasKinds-meets, TermSort, Sort, Syntax, acted, HasKinds, HasKinds-act}
use Rattle.cc_core.proofs.SubcapturingContexts.{IsKindedEntry, IsKindedContext}

IsKindedEntry-test : (kinds : List Kind) (b : Bind) → IsKindedEntry kinds b → is_well_formed_entry kinds b ≡ true
IsKindedEntry-test kinds (TermEntry s c) k = and_from (is_well_formed_shape kinds [] s) (is_well_formed_set kinds [] c) (IsKinded-test kinds [] s k.0) (IsKindedSet-test kinds [] c k.1)
IsKindedEntry-test kinds (TypeEntry b) k = IsKinded-test kinds [] b k

pub IsKindedContext-test : (g : Context) → IsKindedContext g → is_well_formed_context g ≡ true
IsKindedContext-test [] k = refl
IsKindedContext-test (b ∷ g) k = and_from (is_well_formed_entry (kinds_of g) b) (is_well_formed_context g) (IsKindedEntry-test (kinds_of g) b k.0) (IsKindedContext-test g k.1)

pub length-kinds_of : (g : Context) → length (kinds_of g) ≡ length g
length-kinds_of g = length_map kind_of g

-- the element of a set with one element is of its kind
pub kinded_single : (kinds passed : List Kind) (x : Elem) → IsKindedElement kinds passed x → IsKindedSet kinds passed (single x)
kinded_single kinds passed x k = single_kinded kinds passed x k

pub some_is : {A : Type 0} (a b : A) → Some a ≡ Some b → a ≡ b
some_is a b e = cc

-- with one kind more
pub IsKindedTerm-added : (k : Kind) (kinds beyond : List Kind) (t : Term) → IsKindedTerm kinds beyond t → IsKindedTerm (k ∷ kinds) beyond t
IsKindedTerm-added k kinds beyond t h = moved_kinds TermSort kinds beyond (k ∷ kinds) beyond (MovesKinds-more (k ∷ []) kinds beyond) [] t h

-- conditions that follow from kinds, where there are so many
pub kinds_below : (n : ℕ) (kinds beyond : List Kind) → length kinds ≡ n → KindsGive kinds beyond (positions_below n)
kinds_below n kinds beyond e = subst (λ m. KindsGive kinds beyond (positions_below m)) e (kinds-positions_below kinds beyond)

-- where no binder is beyond, no index is open
pub kinds_bound : (kinds : List Kind) → KindsGive kinds [] (bound_within 0)
kinds_bound kinds = kinds-bound_within kinds []

pub kinds_under_type : (n : ℕ) (kinds : List Kind) → length kinds ≡ n → KindsGive kinds (TypeKind ∷ []) (under_type_binder n)
kinds_under_type n kinds e = subst (λ m. KindsGive kinds (TypeKind ∷ []) (under_type_binder m)) e (kinds-under_type_binder kinds)

module _ (n : ℕ) (k : Kind) (kinds : List Kind) (len : length kinds ≡ n) where
  keeps_opening : KeepsKinds (opening n) kinds (k ∷ []) (k ∷ kinds) []
  keeps_opening =
      subst (λ m. KeepsKinds (opening m) kinds (k ∷ []) (k ∷ kinds) []) len
      (KeepsKinds-moving (put_variable (Free (length kinds))) kinds (k ∷ []) (k ∷ kinds) [] (MovesKinds-opening kinds k))

  keeps_closing : KeepsKinds (closing n) (k ∷ kinds) [] kinds (k ∷ [])
  keeps_closing =
      subst (λ m. KeepsKinds (closing m) (k ∷ kinds) [] kinds (k ∷ [])) len
      (KeepsKinds-moving (closed_variable (length kinds)) (k ∷ kinds) [] kinds (k ∷ []) (MovesKinds-closing kinds k))

  -- what is opened at the next position is well formed with one kind more, and what is closed, with one less
  pub HasKinds-opened : (sort : Sort) (x : Syntax sort) → HasKinds sort kinds (k ∷ []) x → HasKinds sort (k ∷ kinds) [] (acted sort (opening n) 0 x)
  HasKinds-opened sort x h = HasKinds-act sort (opening n) kinds (k ∷ []) (k ∷ kinds) [] keeps_opening [] x h

  pub HasKinds-closed : (sort : Sort) (x : Syntax sort) → HasKinds sort (k ∷ kinds) [] x → HasKinds sort kinds (k ∷ []) (acted sort (closing n) 0 x)
  HasKinds-closed sort x h = HasKinds-act sort (closing n) (k ∷ kinds) [] kinds (k ∷ []) keeps_closing [] x h

  -- what does not name the newest position is well formed without it
  fewer_kind : (passed : List Kind) (v : Var) (kind : Kind) → IsOfKind (k ∷ kinds) passed v kind → v ≢ Free n → IsOfKind kinds passed v kind
  fewer_kind passed (Bound i) kind h ne = h
  fewer_kind passed (Free p) kind h ne = sym (lookup-other k kinds p (λ e. ne (ap Free (e ∙ len)))) ∙ h

  fewer_element : (passed : List Kind) (x : Elem) → IsKindedElement (k ∷ kinds) passed x → IsAskedOf (λ v. v ≢ Free n) x → IsKindedElement kinds passed x
  fewer_element passed (Variable v) h ne = fewer_kind passed v TermKind h ne
  fewer_element passed Cap h ne = tt
  fewer_element passed (Hole m) h ne = tt

  pub IsKindedSet-without : (passed : List Kind) (d : ℕ) (c : Set) → IsKindedSet (k ∷ kinds) passed c → MeetsInSet (without n) d c → IsKindedSet kinds passed c
  IsKindedSet-without passed d c h ne x m = fewer_element passed x (h x m) (ne x m)

  pub IsKinded-without : (passed : List Kind) (d : ℕ) (s : Shape) → IsKinded (k ∷ kinds) passed s → Meets (without n) d s → IsKinded kinds passed s
  IsKinded-without passed d (BaseShape b) h ne = tt
  IsKinded-without passed d AnyShape h ne = tt
  IsKinded-without passed d (TypeVariable v) h ne = fewer_kind passed v TypeKind h ne
  IsKinded-without passed d (FunctionShape t c u e) h ne = (IsKinded-without passed d t h.0 ne.0, IsKindedSet-without passed d c h.1 ne.1, IsKinded-without (TermKind ∷ passed) (suc d) u h.2 ne.2, IsKindedSet-without (TermKind ∷ passed) (suc d) e h.3 ne.3)
  IsKinded-without passed d (TypeFunctionShape b u e) h ne = (IsKinded-without passed d b h.0 ne.0, IsKinded-without (TypeKind ∷ passed) (suc d) u h.1 ne.1, IsKindedSet-without (TypeKind ∷ passed) (suc d) e h.2 ne.2)
  IsKinded-without passed d (BoxShape t c) h ne = (IsKinded-without passed d t h.0 ne.0, IsKindedSet-without passed d c h.1 ne.1)
  IsKinded-without passed d (ExitShape t) h ne = IsKinded-without passed d t h ne

-- the body of a binder that is opened at the number of a context's entries
pub opened_kinded : (sort : Sort) (context : Context) (entry : Bind) (x : Syntax sort) → HasKinds sort (kinds_of context) (kind_of entry ∷ []) x
    → HasKinds sort (kinds_of (entry ∷ context)) [] (acted sort (opening (length context)) 0 x)
opened_kinded sort context entry x h = HasKinds-opened (length context) (kind_of entry) (kinds_of context) (length-kinds_of context) sort x h

-- what is well formed in a context, maybe under binders, has positions below the number of its entries
pub positions_of : (sort : Sort) (context : Context) (passed : List Kind) (x : Syntax sort) → HasKinds sort (kinds_of context) passed x
    → MeetsIn sort (positions_below (length context)) 0 x
positions_of sort context passed x h =
    HasKinds-meets sort (kinds_of context) passed (positions_below (length context)) (kinds_below (length context) (kinds_of context) passed (length-kinds_of context)) [] x h

-- and under the binder of a type variable its index stands at type variables alone
pub places_of : (sort : Sort) (context : Context) (x : Syntax sort) → HasKinds sort (kinds_of context) (TypeKind ∷ []) x
    → MeetsIn sort (under_type_binder (length context)) 0 x
places_of sort context x h =
    HasKinds-meets sort (kinds_of context) (TypeKind ∷ []) (under_type_binder (length context)) (kinds_under_type (length context) (kinds_of context) (length-kinds_of context)) [] x h
