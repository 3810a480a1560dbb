-- Holes stand alone as sets of parameters, and nowhere else: what actions and comparisons make of such shapes.
use Rattle.std.proofs.Common.{◌≡◌, ℕ, zero, suc, Bool, true, false, cond, List, [], ◌∷◌, ◌++◌, length, Option, Some, None, refl, sym, ap, ◌∙◌, subst, inl, inr, append_assoc}
use Rattle.cc_capture.specs.declared.var.Var.{Var}
use Rattle.cc_capture.specs.declared.var.Var.TheVariants.{Bound, Free}
use Rattle.cc_capture.specs.declared.var.Elem.{Elem}
use Rattle.cc_capture.specs.declared.var.Elem.TheVariants.{Var as Variable, Cap, Hole}
use Rattle.cc_capture.specs.Sets.{Set}
use Rattle.cc_capture.proofs.Membership.{Member-flat_image}
use Rattle.cc_core.specs.Shapes.{Shape, BaseShape, AnyShape, TypeVariable, FunctionShape, TypeFunctionShape, BoxShape, ExitShape, CapturingType, capturing}
use Rattle.cc_core.specs.Contexts.{Bind, TermEntry, TypeEntry, Context, lookup}
use Rattle.cc_core.specs.Traversal.{Action, act, act_set}
use Rattle.cc_core.specs.Substitution.{single, moved_element, moving, put_variable, putting_shape, opened_type, put_shape}
use Rattle.cc_core.specs.Occurrences.{IsNoHole, HasNoHoleInSet, Meets, without_holes}
use Rattle.cc_core.specs.Equality.{same_shape}
use Rattle.cc_core.specs.WellFormed.{kinds_of}
use Rattle.std.specs.Prelude.{nat_eq}
use Rattle.cc_core.proofs.KindFacts.{IsKindedSet, IsKinded, IsKindedType}
use Rattle.cc_core.proofs.Lookups.{lookup-cases}
use Rattle.cc_core.proofs.Moving.{Member-single, flat_image-of_single}
use Rattle.cc_core.proofs.Sorts.{TypeSort}
use Rattle.cc_core.proofs.SubcapturingContexts.{IsKindedContext, entry_kinded}
use Rattle.cc_checking.specs.Comparison.{Demand, Comparison, Mismatch, Matches, Comparing, types_compared, bound_in, bound_compared, function_compared, type_function_compared, box_compared, is_any, by_form, comparison}
use Rattle.cc_typing_laws.proofs.ComparisonLemmas.{then_parts}
use Rattle.cc_typing_laws.proofs.FormedContexts.{opened_kinded}
use Rattle.cc_core.specs.Holes.{HasHoleAloneOrNone}

-- no hole in the shape
abbrev pub Closed : Shape → Type 0
Closed (BaseShape b) = Unit {0}
Closed AnyShape = Unit {0}
Closed (TypeVariable v) = Unit {0}
Closed (FunctionShape t c u e) = Closed t × HasNoHoleInSet c × Closed u × HasNoHoleInSet e
Closed (TypeFunctionShape b u e) = Closed b × Closed u × HasNoHoleInSet e
Closed (BoxShape t c) = Closed t × HasNoHoleInSet c
Closed (ExitShape t) = Closed t

-- a hole stands alone as the set of a parameter, and nowhere else
abbrev pub Tame : Shape → Type 0
Tame (BaseShape b) = Unit {0}
Tame AnyShape = Unit {0}
Tame (TypeVariable v) = Unit {0}
Tame (FunctionShape t c u e) = Closed t × HasHoleAloneOrNone c × Tame u × HasNoHoleInSet e
Tame (TypeFunctionShape b u e) = Closed b × Tame u × HasNoHoleInSet e
Tame (BoxShape t c) = Tame t × HasNoHoleInSet c
Tame (ExitShape t) = Closed t

pub closed_tame : (s : Shape) → Closed s → Tame s
closed_tame (BaseShape b) k = tt
closed_tame AnyShape k = tt
closed_tame (TypeVariable v) k = tt
closed_tame (FunctionShape t c u e) k = (k.0, inl k.1, closed_tame u k.2, k.3)
closed_tame (TypeFunctionShape b u e) k = (k.0, closed_tame u k.1, k.2)
closed_tame (BoxShape t c) k = (closed_tame t k.0, k.1)
closed_tame (ExitShape t) k = k

pub closed_from : (d : ℕ) (s : Shape) → Meets without_holes d s → Closed s
closed_from d (BaseShape b) m = tt
closed_from d AnyShape m = tt
closed_from d (TypeVariable v) m = tt
closed_from d (FunctionShape t c u e) m = (closed_from d t m.0, m.1, closed_from (suc d) u m.2, m.3)
closed_from d (TypeFunctionShape b u e) m = (closed_from d b m.0, closed_from (suc d) u m.1, m.2)
closed_from d (BoxShape t c) m = (closed_from d t m.0, m.1)
closed_from d (ExitShape t) m = closed_from d t m

-- an action that puts in no hole and leaves each where it is
pub record LeavesHoles (a : Action) : Type 0 where
  pub puts_none : (d : ℕ) (e : Elem) → IsNoHole e → HasNoHoleInSet (a.element d e)
  pub leaves : (d h : ℕ) → a.element d (Hole h) ≡ single (Hole h)
  pub shapes : (d : ℕ) (v : Var) → Closed (a.shape d v)

pub no_hole_single : (e : Elem) → IsNoHole e → HasNoHoleInSet (single e)
no_hole_single e k x m = subst IsNoHole (sym (Member-single x e m)) k

pub LeavesHoles-moving : (move : ℕ → Var → Var) → LeavesHoles (moving move)
LeavesHoles-moving move = record { puts_none = puts_none; leaves = λ d h. refl; shapes = λ d v. tt }
  where
    puts_none : (d : ℕ) (e : Elem) → IsNoHole e → HasNoHoleInSet (single (moved_element (move d) e))
    puts_none d (Variable v) k = no_hole_single (Variable (move d v)) tt
    puts_none d Cap k = no_hole_single Cap tt
    puts_none d (Hole n) k = absurd k

pub LeavesHoles-putting_shape : (by : Shape) → Closed by → LeavesHoles (putting_shape by)
LeavesHoles-putting_shape by k = record { puts_none = λ d e n. no_hole_single e n; leaves = λ d h. refl; shapes = put }
  where
    put : (d : ℕ) (v : Var) → Closed (put_shape by d v)
    put d (Free p) = tt
    put d (Bound i) = by_test (nat_eq i d)
      where
        by_test : (b : Bool) → Closed (cond b by (TypeVariable (Bound i)))
        by_test true = k
        by_test false = tt

module _ (a : Action) (l : LeavesHoles a) where
  pub act_set_closed : (d : ℕ) (c : Set) → HasNoHoleInSet c → HasNoHoleInSet (act_set a d c)
  act_set_closed d c k x m = let from = (Member-flat_image (a.element d) x c).0 m in l.puts_none d from.0 (k from.0 from.1) x from.2

  pub act_set_alone : (d : ℕ) (c : Set) → HasHoleAloneOrNone c → HasHoleAloneOrNone (act_set a d c)
  act_set_alone d c (inl k) = inl (act_set_closed d c k)
  act_set_alone d c (inr (h, is)) = inr (h, ap (act_set a d) is ∙ flat_image-of_single (a.element d) (Hole h) ∙ l.leaves d h)

  pub act_closed : (d : ℕ) (s : Shape) → Closed s → Closed (act a d s)
  act_closed d (BaseShape b) k = tt
  act_closed d AnyShape k = tt
  act_closed d (TypeVariable v) k = l.shapes d v
  act_closed d (FunctionShape t c u e) k = (act_closed d t k.0, act_set_closed d c k.1, act_closed (suc d) u k.2, act_set_closed (suc d) e k.3)
  act_closed d (TypeFunctionShape b u e) k = (act_closed d b k.0, act_closed (suc d) u k.1, act_set_closed (suc d) e k.2)
  act_closed d (BoxShape t c) k = (act_closed d t k.0, act_set_closed d c k.1)
  act_closed d (ExitShape t) k = act_closed d t k

  pub act_tame : (d : ℕ) (s : Shape) → Tame s → Tame (act a d s)
  act_tame d (BaseShape b) k = tt
  act_tame d AnyShape k = tt
  act_tame d (TypeVariable v) k = closed_tame (a.shape d v) (l.shapes d v)
  act_tame d (FunctionShape t c u e) k = (act_closed d t k.0, act_set_alone d c k.1, act_tame (suc d) u k.2, act_set_closed (suc d) e k.3)
  act_tame d (TypeFunctionShape b u e) k = (act_closed d b k.0, act_tame (suc d) u k.1, act_set_closed (suc d) e k.2)
  act_tame d (BoxShape t c) k = (act_tame d t k.0, act_set_closed d c k.1)
  act_tame d (ExitShape t) k = act_closed d t k

-- an entry: bounds have no hole, and a variable's shape is tame
abbrev pub TameEntry : Bind → Type 0
TameEntry (TermEntry s c) = Tame s × HasHoleAloneOrNone c
TameEntry (TypeEntry b) = Closed b

abbrev pub TameContext : Context → Type 0
TameContext [] = Unit {0}
TameContext (b ∷ g) = TameEntry b × TameContext g

pub tame_entry : (g : Context) (p : ℕ) (b : Bind) → TameContext g → lookup g p ≡ Some b → TameEntry b
tame_entry [] p b t e = cc
tame_entry (x ∷ g) p b t e =
    elim (lookup-cases x g p b e) as (λ _. TameEntry b) [ inl here ↦ subst TameEntry here.1 t.0 | inr older ↦ tame_entry g p b t.1 older ]

-- a demand fits a context: it stands on top of it, is well formed, and has a hole on the right side alone
pub record FitsIn (g : Context) (d : Demand) : Type 0 where
  pub later : Context
  pub is : d.context ≡ later ++ g
  pub formed : IsKindedContext d.context
  pub left : IsKindedSet (kinds_of d.context) [] d.left
  pub right : HasHoleAloneOrNone d.right

abbrev pub AllFitIn : Context → List Demand → Type 0
AllFitIn g [] = Unit {0}
AllFitIn g (d ∷ ds) = FitsIn g d × AllFitIn g ds

pub all_fit_both : (g : Context) (a b : List Demand) → AllFitIn g a → AllFitIn g b → AllFitIn g (a ++ b)
all_fit_both g [] b p q = q
all_fit_both g (d ∷ a) b p q = (p.0, all_fit_both g a b p.1 q)

pub fit_below : (g : Context) (x : Bind) (d : Demand) → FitsIn (x ∷ g) d → FitsIn g d
fit_below g x d f = record { later = f.later ++ (x ∷ []); is = f.is ∙ sym (append_assoc f.later (x ∷ []) g); formed = f.formed; left = f.left; right = f.right }

all_fit_below : (g : Context) (x : Bind) (ds : List Demand) → AllFitIn (x ∷ g) ds → AllFitIn g ds
all_fit_below g x [] f = tt
all_fit_below g x (d ∷ ds) f = (fit_below g x d f.0, all_fit_below g x ds f.1)

abbrev IsFitting : Comparing → Type 0
IsFitting compare = (g : Context) (l r : Shape) (ds : List Demand) → compare g l r ≡ Matches ds → IsKindedContext g → TameContext g
    → IsKinded (kinds_of g) [] l → IsKinded (kinds_of g) [] r → Tame l → Closed r → AllFitIn g ds

fit_types : (compare : Comparing) → IsFitting compare → (g : Context) (l r : CapturingType) (ds : List Demand) → types_compared compare g l r ≡ Matches ds → IsKindedContext g → TameContext g
    → IsKindedType (kinds_of g) [] l → IsKindedType (kinds_of g) [] r → Tame l.shape → Closed r.shape → HasHoleAloneOrNone r.set → AllFitIn g ds
fit_types compare fit g l r ds e k t kl kr tl cr alone =
    let first : List Demand = record { context = g; left = l.set; right = r.set } ∷ [] in
    let parts = then_parts (Matches first) (compare g l.shape r.shape) ds e in
    let same : Matches first ≡ Matches parts.0 = parts.2 in
    let is : first ≡ parts.0 = cc in
    subst (AllFitIn g) (ap (λ one. one ++ parts.1) is ∙ sym parts.4)
    ((record { later = []; is = refl; formed = k; left = kl.1; right = alone }), fit g l.shape r.shape parts.1 parts.3 k t kl.0 kr.0 tl cr)

opening_holes : (n : ℕ) → LeavesHoles (moving (put_variable (Free n)))
opening_holes n = LeavesHoles-moving (put_variable (Free n))

fit_bound : (compare : Comparing) → IsFitting compare → (g : Context) (p : ℕ) (found : Option Bind) (r : Shape) (ds : List Demand) → lookup g p ≡ found
    → bound_compared compare g (bound_in found) r ≡ Matches ds → IsKindedContext g → TameContext g → IsKinded (kinds_of g) [] r → Closed r → AllFitIn g ds
fit_bound compare fit g p (Some (TypeEntry b)) r ds there e k t kr cr =
    fit g b r ds e k t (entry_kinded g p (TypeEntry b) k there) kr (closed_tame b (tame_entry g p (TypeEntry b) t there)) cr
fit_bound compare fit g p (Some (TermEntry s c)) r ds there e k t kr cr = cc
fit_bound compare fit g p None r ds there e k t kr cr = cc

fit_function : (compare : Comparing) → IsFitting compare → (g : Context) (t : Shape) (c : Set) (u : Shape) (d : Set) (r : Shape) (ds : List Demand)
    → function_compared compare g (capturing t c) (capturing u d) r ≡ Matches ds → IsKindedContext g → TameContext g
    → IsKinded (kinds_of g) [] (FunctionShape t c u d) → IsKinded (kinds_of g) [] r → Tame (FunctionShape t c u d) → Closed r → AllFitIn g ds
fit_function compare fit g t c u d (FunctionShape t' c' u' d') ds e k tg kl kr tl cr =
    let under : Context = TermEntry t' c' ∷ g in
    let parts = then_parts (types_compared compare g (capturing t' c') (capturing t c))
    (types_compared compare under (opened_type (length g) (capturing u d)) (opened_type (length g) (capturing u' d'))) ds e in
    let one = fit_types compare fit g (capturing t' c') (capturing t c) parts.0 parts.2 k tg (kr.0, kr.1) (kl.0, kl.1) (closed_tame t' cr.0) tl.0 tl.1 in
    let two = fit_types compare fit under (opened_type (length g) (capturing u d)) (opened_type (length g) (capturing u' d')) parts.1 parts.3 ((kr.0, kr.1), k) ((closed_tame t' cr.0, inl cr.1), tg)
    (opened_kinded TypeSort g (TermEntry t' c') (capturing u d) (kl.2, kl.3)) (opened_kinded TypeSort g (TermEntry t' c') (capturing u' d') (kr.2, kr.3))
    (act_tame (moving (put_variable (Free (length g)))) (opening_holes (length g)) 0 u tl.2) (act_closed (moving (put_variable (Free (length g)))) (opening_holes (length g)) 0 u' cr.2)
    (inl (act_set_closed (moving (put_variable (Free (length g)))) (opening_holes (length g)) 0 d' cr.3)) in
    subst (AllFitIn g) (sym parts.4) (all_fit_both g parts.0 parts.1 one (all_fit_below g (TermEntry t' c') parts.1 two))
fit_function compare fit g t c u d _ ds e k tg kl kr tl cr = cc

fit_type_function : (compare : Comparing) → IsFitting compare → (g : Context) (b u : Shape) (d : Set) (r : Shape) (ds : List Demand)
    → type_function_compared compare g b (capturing u d) r ≡ Matches ds → IsKindedContext g → TameContext g
    → IsKinded (kinds_of g) [] (TypeFunctionShape b u d) → IsKinded (kinds_of g) [] r → Tame (TypeFunctionShape b u d) → Closed r → AllFitIn g ds
fit_type_function compare fit g b u d (TypeFunctionShape b' u' d') ds e k tg kl kr tl cr =
    let results : Comparison = types_compared compare (TypeEntry b ∷ g) (opened_type (length g) (capturing u d)) (opened_type (length g) (capturing u' d')) in
    elim (same_shape b b') as (λ x. same_shape b b' ≡ x → cond x results Mismatch ≡ Matches ds → AllFitIn g ds) [
      | true ↦ λ same found.
          all_fit_below g (TypeEntry b) ds
          (fit_types compare fit (TypeEntry b ∷ g) (opened_type (length g) (capturing u d)) (opened_type (length g) (capturing u' d')) ds found (kl.0, k) (tl.0, tg)
          (opened_kinded TypeSort g (TypeEntry b) (capturing u d) (kl.1, kl.2)) (opened_kinded TypeSort g (TypeEntry b) (capturing u' d') (kr.1, kr.2))
          (act_tame (moving (put_variable (Free (length g)))) (opening_holes (length g)) 0 u tl.1) (act_closed (moving (put_variable (Free (length g)))) (opening_holes (length g)) 0 u' cr.1)
          (inl (act_set_closed (moving (put_variable (Free (length g)))) (opening_holes (length g)) 0 d' cr.2)))
      | false ↦ λ _ found. cc
    ] refl e
fit_type_function compare fit g b u d _ ds e k tg kl kr tl cr = cc

fit_box : (compare : Comparing) → IsFitting compare → (g : Context) (t : Shape) (c : Set) (r : Shape) (ds : List Demand)
    → box_compared compare g (capturing t c) r ≡ Matches ds → IsKindedContext g → TameContext g
    → IsKinded (kinds_of g) [] (BoxShape t c) → IsKinded (kinds_of g) [] r → Tame (BoxShape t c) → Closed r → AllFitIn g ds
fit_box compare fit g t c (BoxShape t' c') ds e k tg kl kr tl cr =
    fit_types compare fit g (capturing t c) (capturing t' c') ds e k tg (kl.0, kl.1) (kr.0, kr.1) tl.0 cr.0 (inl cr.1)
fit_box compare fit g t c _ ds e k tg kl kr tl cr = cc

fit_form : (compare : Comparing) → IsFitting compare → IsFitting (by_form compare)
unfolding by_form
fit_form compare fit g (BaseShape b) r ds e k tg kl kr tl cr = cc
fit_form compare fit g AnyShape r ds e k tg kl kr tl cr = cc
fit_form compare fit g (TypeVariable (Free p)) r ds e k tg kl kr tl cr = fit_bound compare fit g p (lookup g p) r ds refl e k tg kr cr
fit_form compare fit g (TypeVariable (Bound i)) r ds e k tg kl kr tl cr = cc
fit_form compare fit g (FunctionShape t c u d) r ds e k tg kl kr tl cr = fit_function compare fit g t c u d r ds e k tg kl kr tl cr
fit_form compare fit g (TypeFunctionShape b u d) r ds e k tg kl kr tl cr = fit_type_function compare fit g b u d r ds e k tg kl kr tl cr
fit_form compare fit g (BoxShape t c) r ds e k tg kl kr tl cr = fit_box compare fit g t c r ds e k tg kl kr tl cr
fit_form compare fit g (ExitShape u) r ds e k tg kl kr tl cr = cc

pub comparison_fits : (n : ℕ) → IsFitting (comparison n)
unfolding comparison
comparison_fits zero g l r ds e k tg kl kr tl cr = cc
comparison_fits (suc n) g l r ds e k tg kl kr tl cr =
    let later : Comparison = by_form (comparison n) g l r in
    elim (same_shape l r) as (λ t. cond t (Matches []) (cond (is_any r) (Matches []) later) ≡ Matches ds → AllFitIn g ds) [
      | true ↦ λ found. let none : [] ≡ ds = cc in subst (AllFitIn g) none tt
      | false ↦ λ found.
          elim (is_any r) as (λ t. cond t (Matches []) later ≡ Matches ds → AllFitIn g ds) [
            | true ↦ λ found'. let none : [] ≡ ds = cc in subst (AllFitIn g) none tt
            | false ↦ λ found'. fit_form (comparison n) (comparison_fits n) g l r ds found' k tg kl kr tl cr
          ] found
    ] e

pub types_fit : (n : ℕ) (g : Context) (l r : CapturingType) (ds : List Demand) → types_compared (comparison n) g l r ≡ Matches ds → IsKindedContext g → TameContext g
    → IsKindedType (kinds_of g) [] l → IsKindedType (kinds_of g) [] r → Tame l.shape → Closed r.shape → HasHoleAloneOrNone r.set → AllFitIn g ds
types_fit n = fit_types (comparison n) (comparison_fits n)
