-- Exposing, avoiding, comparing and capturing put in no hole.
use Rattle.std.proofs.Common.{◌≡◌, ℕ, zero, suc, Bool, true, false, cond, List, [], ◌∷◌, ◌++◌, length, Option, Some}
use Rattle.std.proofs.Common.{None, refl, sym, ap, ◌∙◌, subst, inl, inr}
use Rattle.std.specs.Prelude.{nat_eq}
use Rattle.std.specs.Option.{option_map}
use Rattle.cc_capture.specs.declared.var.Var.{Var}
use Rattle.cc_capture.specs.declared.var.Var.TheVariants.{Bound, Free}
use Rattle.cc_capture.specs.declared.var.Elem.{Elem}
use Rattle.cc_capture.specs.declared.var.Elem.TheVariants.{Var as Variable, Cap, Hole}
use Rattle.cc_capture.specs.Sets.{Set, Member, empty, remove, union}
use Rattle.cc_capture.proofs.Membership.{Member-flat_image, Member-union, Member-empty, Member-remove}
use Rattle.cc_core.specs.Shapes.{Shape, BaseShape, AnyShape, TypeVariable, FunctionShape, TypeFunctionShape, BoxShape}
use Rattle.cc_core.specs.Shapes.{ExitShape, CapturingType, capturing}
use Rattle.cc_core.specs.Terms.{Term, VariableTerm, LiteralTerm, FunctionTerm, TypeFunctionTerm, BoxTerm, Application}
use Rattle.cc_core.specs.Terms.{TypeApplication, Unboxing, Let, Primitive, Conditional, Repetition, Operation, Boundary}
use Rattle.cc_core.specs.Terms.{Leave}
use Rattle.cc_core.specs.Contexts.{Bind, TermEntry, TypeEntry, Context, lookup}
use Rattle.cc_core.specs.Traversal.{act, act_set}
use Rattle.cc_core.specs.Substitution.{single, moving, moved_element, put_variable, put_shape, putting_shape}
use Rattle.cc_core.specs.Substitution.{opened_type}
use Rattle.cc_core.specs.Occurrences.{MeetsInSet, Meets, MeetsInType, MeetsInTerm}
use Rattle.cc_core.specs.Captured.{captured_variables, variable_set, without_binder, outside, is_unused_value}
use Rattle.cc_core.specs.Equality.{same_shape}
use Rattle.cc_core.proofs.Conditions.{Brings, MeetsInSet-act, Meets-act}
use Rattle.cc_core.proofs.Lookups.{lookup-cases}
use Rattle.cc_core.proofs.Moving.{Member-single}
use Rattle.cc_checking.specs.Comparison.{Demand, Comparison, Mismatch, Matches, Comparing, types_compared, bound_in}
use Rattle.cc_checking.specs.Comparison.{bound_compared, function_compared, type_function_compared, box_compared, is_any}
use Rattle.cc_checking.specs.Comparison.{by_form, comparison}
use Rattle.cc_checking.specs.Exposing.{followed, exposed}
use Rattle.cc_checking.specs.Avoidance.{Sign, Positive, Negative, opposite, has_position, is_free_in, avoided_set, avoided}
use Rattle.cc_checking.specs.Avoidance.{avoided_type}
use Rattle.cc_typing_laws.proofs.Avoiding.{both_some, map_some, unless_some, avoided_type_parts}
use Rattle.cc_typing_laws.proofs.ComparisonLemmas.{then_parts}
use Rattle.cc_known.specs.FilledHoles.{IsHoleBelow, holes_below, HasEntryHolesBelow, HasContextHolesBelow}
use Rattle.cc_known.proofs.FilledAlike.{shape_anywhere}

module _ (n : ℕ) where
  -- in a set, a shape, a type, a demand
  abbrev pub InSet : Set → Type 0
  InSet c = MeetsInSet (holes_below n) 0 c

  abbrev pub InShape : Shape → Type 0
  InShape s = Meets (holes_below n) 0 s

  abbrev pub InType : CapturingType → Type 0
  InType t = MeetsInType (holes_below n) 0 t

  abbrev pub InDemand : Demand → Type 0
  InDemand d = HasContextHolesBelow n d.context × InSet d.left × InSet d.right

  abbrev pub InDemands : List Demand → Type 0
  InDemands [] = Unit {0}
  InDemands (d ∷ ds) = InDemand d × InDemands ds

  -- sets
  pub in_single : (e : Elem) → IsHoleBelow n e → InSet (single e)
  in_single e k x m = subst (IsHoleBelow n) (sym (Member-single x e m)) k

  pub in_empty : InSet empty
  in_empty x m = absurd (Member-empty x m)

  pub in_union : (a b : Set) → InSet a → InSet b → InSet (union a b)
  in_union a b p q x m =
      elim ((Member-union x a b).0 m) as (λ _. IsHoleBelow n x) [ inl l ↦ p x l | inr r ↦ q x r ]

  pub in_variable : (v : Var) → InSet (variable_set v)
  in_variable v = in_single (Variable v) tt

  in_outside : (c : Set) → InSet c → InSet (without_binder c)
  in_outside c k x m = let from = (Member-flat_image outside x c).0 m in by_element from.0 (k from.0 from.1) from.2
    where
      by_element : (e : Elem) → IsHoleBelow n e → Member x (outside e) → IsHoleBelow n x
      by_element (Variable (Bound zero)) b l = absurd (Member-empty x l)
      by_element (Variable (Bound (suc i))) b l = subst (IsHoleBelow n) (sym (Member-single x (Variable (Bound i)) l))
          tt
      by_element (Variable (Free p)) b l = subst (IsHoleBelow n) (sym (Member-single x (Variable (Free p)) l)) tt
      by_element Cap b l = subst (IsHoleBelow n) (sym (Member-single x Cap l)) tt
      by_element (Hole h) b l = subst (IsHoleBelow n) (sym (Member-single x (Hole h) l)) b

  -- what a term captures
  pub in_captured : (d : ℕ) (t : Term) → MeetsInTerm (holes_below n) d t → InSet (captured_variables t)
  in_captured d (VariableTerm v) k = in_variable v
  in_captured d (LiteralTerm l) k = in_empty
  in_captured d (FunctionTerm s c t) k = in_outside (captured_variables t) (in_captured (suc d) t k.2)
  in_captured d (TypeFunctionTerm s t) k = in_outside (captured_variables t) (in_captured (suc d) t k.1)
  in_captured d (BoxTerm v) k = in_empty
  in_captured d (Application v w) k = in_union (variable_set v) (variable_set w) (in_variable v) (in_variable w)
  in_captured d (TypeApplication v s) k = in_variable v
  in_captured d (Unboxing (Some c) v) k = in_union c (variable_set v) k.0 (in_variable v)
  in_captured d (Unboxing None v) k = in_union empty (variable_set v) in_empty (in_variable v)
  in_captured d (Let x s t) k =
      by_test (is_unused_value s (captured_variables t)) (in_outside (captured_variables t) (in_captured (suc d) t k.2))
      (in_captured d s k.1)
    where
      by_test : (b : Bool) → InSet (without_binder (captured_variables t)) → InSet (captured_variables s)
          → InSet (cond b (without_binder (captured_variables t))
          (union (captured_variables s) (without_binder (captured_variables t))))
      by_test true p q = p
      by_test false p q = in_union (captured_variables s) (without_binder (captured_variables t)) q p
  in_captured d (Primitive o v w) k = in_union (variable_set v) (variable_set w) (in_variable v) (in_variable w)
  in_captured d (Conditional x v s t) k =
      in_union (variable_set v) (union (captured_variables s) (captured_variables t)) (in_variable v)
      (in_union (captured_variables s) (captured_variables t) (in_captured d s k.2) (in_captured d t k.3))
  in_captured d (Repetition v w) k = in_union (variable_set v) (variable_set w) (in_variable v) (in_variable w)
  in_captured d (Operation o v (Some w)) k = in_union (variable_set v) (variable_set w) (in_variable v) (in_variable w)
  in_captured d (Operation o v None) k = in_union (variable_set v) empty (in_variable v) in_empty
  in_captured d (Boundary s t) k = in_outside (captured_variables t) (in_captured (suc d) t k.1)
  in_captured d (Leave s c v w) k = in_union (variable_set v) (variable_set w) (in_variable v) (in_variable w)

  -- actions that move variables, and the one that puts in a shape
  moving_brings : (move : ℕ → Var → Var) → Brings (moving move) (holes_below n) (holes_below n)
  moving_brings move = record { element = moved; shape = λ d v m. tt; variable = λ d v m. tt }
    where
      moved : (d : ℕ) (e : Elem) → IsHoleBelow n e → MeetsInSet (holes_below n) d (single (moved_element (move d) e))
      moved d (Variable v) k x m = subst (IsHoleBelow n) (sym (Member-single x (Variable (move d v)) m)) tt
      moved d Cap k x m = subst (IsHoleBelow n) (sym (Member-single x Cap m)) tt
      moved d (Hole h) k x m = subst (IsHoleBelow n) (sym (Member-single x (Hole h) m)) k

  put_brings : (by : Shape) → InShape by → Brings (putting_shape by) (holes_below n) (holes_below n)
  put_brings by k =
      record {
        element = λ d e b x m. subst (IsHoleBelow n) (sym (Member-single x e m)) b;
        shape = put;
        variable = λ d v m. tt;
      }
    where
      put : (d : ℕ) (v : Var) → Unit {0} → Meets (holes_below n) d (put_shape by d v)
      put d (Free p) m = tt
      put d (Bound i) m = by_test (nat_eq i d)
        where
          by_test : (b : Bool) → Meets (holes_below n) d (cond b by (TypeVariable (Bound i)))
          by_test true = shape_anywhere n 0 d by k
          by_test false = tt

  pub set_moved : (move : ℕ → Var → Var) (c : Set) → InSet c → InSet (act_set (moving move) 0 c)
  set_moved move c k = MeetsInSet-act (moving move) (holes_below n) (holes_below n) (moving_brings move) 0 c k

  pub shape_moved : (move : ℕ → Var → Var) (s : Shape) → InShape s → InShape (act (moving move) 0 s)
  shape_moved move s k = Meets-act (moving move) (holes_below n) (holes_below n) (moving_brings move) 0 s k

  pub set_put : (by : Shape) → InShape by → (c : Set) → InSet c → InSet (act_set (putting_shape by) 0 c)
  set_put by k c m = MeetsInSet-act (putting_shape by) (holes_below n) (holes_below n) (put_brings by k) 0 c m

  pub shape_put : (by : Shape) → InShape by → (s : Shape) → InShape s → InShape (act (putting_shape by) 0 s)
  shape_put by k s m = Meets-act (putting_shape by) (holes_below n) (holes_below n) (put_brings by k) 0 s m

  pub outermost_shape : (d : ℕ) (s : Shape) → Meets (holes_below n) d s → InShape s
  outermost_shape d s m = shape_anywhere n d 0 s m

  -- entries
  pub in_entry : (g : Context) (p : ℕ) (b : Bind) → HasContextHolesBelow n g → lookup g p ≡ Some b
      → HasEntryHolesBelow n b
  in_entry [] p b k e = cc
  in_entry (x ∷ g) p b k e =
      elim (lookup-cases x g p b e) as (λ _. HasEntryHolesBelow n b) [
        | inl here ↦ subst (HasEntryHolesBelow n) here.1 k.0
        | inr older ↦ in_entry g p b k.1 older
      ]

  -- exposing
  in_followed : (b : Bind) (m : ℕ) (s : Shape) → HasEntryHolesBelow n b → InShape s → InShape (followed b m s)
  in_followed (TermEntry x c) m s t k = k
  in_followed (TypeEntry b) m (TypeVariable (Free q)) t k = by_test (nat_eq q m)
    where
      by_test : (x : Bool) → InShape (cond x b (TypeVariable (Free q)))
      by_test true = t
      by_test false = tt
  in_followed (TypeEntry b) m (TypeVariable (Bound i)) t k = k
  in_followed (TypeEntry b) m (BaseShape x) t k = k
  in_followed (TypeEntry b) m AnyShape t k = k
  in_followed (TypeEntry b) m (FunctionShape x c u e) t k = k
  in_followed (TypeEntry b) m (TypeFunctionShape x u e) t k = k
  in_followed (TypeEntry b) m (BoxShape x c) t k = k
  in_followed (TypeEntry b) m (ExitShape x) t k = k

  pub in_exposed : (g : Context) (s : Shape) → HasContextHolesBelow n g → InShape s → InShape (exposed g s)
  in_exposed [] s t k = k
  in_exposed (b ∷ g) s t k = in_exposed g (followed b (length g) s) t.1 (in_followed b (length g) s t.0 k)

  -- avoiding
  avoided_set_in : (sign : Sign) (p : ℕ) (d c : Set) → InSet d → InSet c → InSet (avoided_set sign p d c)
  avoided_set_in Negative p d c kd kc = λ e m. kc e ((Member-remove e (Variable (Free p)) c).0 m).1
  avoided_set_in Positive p d c kd kc = by_test (has_position p c)
    where
      by_test : (b : Bool) → InSet (cond b (union (remove (Variable (Free p)) c) d) c)
      by_test true =
          in_union (remove (Variable (Free p)) c) d (λ e m. kc e ((Member-remove e (Variable (Free p)) c).0 m).1) kd
      by_test false = kc

  avoided_in : (sign : Sign) (p : ℕ) (d : Set) → InSet d → (depth : ℕ) (s r : Shape) → Meets (holes_below n) depth s
      → avoided sign p d s ≡ Some r → Meets (holes_below n) depth r
  avoided_in sign p d kd depth (BaseShape b) r m e = let is : BaseShape b ≡ r = cc in
      subst (Meets (holes_below n) depth) is m
  avoided_in sign p d kd depth AnyShape r m e = let is : AnyShape ≡ r = cc in subst (Meets (holes_below n) depth) is m
  avoided_in sign p d kd depth (TypeVariable v) r m e = let is : TypeVariable v ≡ r = cc in
      subst (Meets (holes_below n) depth) is m
  avoided_in sign p d kd depth (FunctionShape t c u x) r m e =
      let parts = both_some (avoided (opposite sign) p d t) (avoided sign p d u)
      (λ t' u'. FunctionShape t' (avoided_set (opposite sign) p d c) u' (avoided_set sign p d x)) r e in
      subst (Meets (holes_below n) depth) (sym parts.4) (
        avoided_in (opposite sign) p d kd depth t parts.0 m.0 parts.2,
        avoided_set_in (opposite sign) p d c kd m.1,
        avoided_in sign p d kd (suc depth) u parts.1 m.2 parts.3,
        avoided_set_in sign p d x kd m.3,
      )
  avoided_in sign p d kd depth (TypeFunctionShape b u x) r m e =
      let unfree = unless_some (is_free_in p b) (option_map (λ u'. TypeFunctionShape b u' (avoided_set sign p d x))
      (avoided sign p d u)) r e in
      let parts = map_some (avoided sign p d u) (λ u'. TypeFunctionShape b u' (avoided_set sign p d x)) r unfree.1 in
      subst (Meets (holes_below n) depth) (sym parts.2)
      (m.0, avoided_in sign p d kd (suc depth) u parts.0 m.1 parts.1, avoided_set_in sign p d x kd m.2)
  avoided_in sign p d kd depth (BoxShape t c) r m e =
      let parts = map_some (avoided sign p d t) (λ t'. BoxShape t' (avoided_set sign p d c)) r e in
      subst (Meets (holes_below n) depth) (sym parts.2)
      (avoided_in sign p d kd depth t parts.0 m.0 parts.1, avoided_set_in sign p d c kd m.1)
  avoided_in sign p d kd depth (ExitShape u) r m e =
      let unfree = unless_some (is_free_in p u) (Some (ExitShape u)) r e in
      let is : ExitShape u ≡ r = cc in
      subst (Meets (holes_below n) depth) is m

  pub avoided_type_in : (p : ℕ) (d : Set) (t r : CapturingType) → InSet d → InType t
      → avoided_type Positive p d t ≡ Some r → InType r
  avoided_type_in p d t r kd m e =
      let parts = avoided_type_parts Positive p d t r e in (
        avoided_in Positive p d kd 0 t.shape r.shape m.0 parts.0,
        subst InSet parts.1
            (avoided_set_in Positive p d t.set kd m.1),
      )

  -- comparing
  pub in_both : (a b : List Demand) → InDemands a → InDemands b → InDemands (a ++ b)
  in_both [] b p q = q
  in_both (d ∷ a) b p q = (p.0, in_both a b p.1 q)

  abbrev AsksWithin : Comparing → Type 0
  AsksWithin compare =
      (g : Context) (l r : Shape) (ds : List Demand) → compare g l r ≡ Matches ds → HasContextHolesBelow n g → InShape l
      → InShape r → InDemands ds

  types_within : (compare : Comparing) → AsksWithin compare → (g : Context) (l r : CapturingType) (ds : List Demand)
      → types_compared compare g l r ≡ Matches ds → HasContextHolesBelow n g → InType l → InType r → InDemands ds
  types_within compare asks g l r ds e k kl kr =
      let first : List Demand = record { context = g; left = l.set; right = r.set } ∷ [] in
      let parts = then_parts (Matches first) (compare g l.shape r.shape) ds e in
      let same : Matches first ≡ Matches parts.0 = parts.2 in
      let is : first ≡ parts.0 = cc in
      subst InDemands (ap (λ one. one ++ parts.1) is ∙ sym parts.4)
      ((k, kl.1, kr.1), asks g l.shape r.shape parts.1 parts.3 k kl.0 kr.0)

  opened_in : (m : ℕ) (u : Shape) (e : Set) → Meets (holes_below n) 1 u → InSet e
      → InType (opened_type m (capturing u e))
  opened_in m u e k ke =
      (shape_moved (put_variable (Free m)) u (outermost_shape 1 u k), set_moved (put_variable (Free m)) e ke)

  bound_within : (compare : Comparing) → AsksWithin compare → (g : Context) (p : ℕ) (found : Option Bind) (r : Shape)
      (ds : List Demand)
      → lookup g p ≡ found → bound_compared compare g (bound_in found) r ≡ Matches ds → HasContextHolesBelow n g
      → InShape r → InDemands ds
  bound_within compare asks g p (Some (TypeEntry b)) r ds there e k kr =
      asks g b r ds e k (in_entry g p (TypeEntry b) k there) kr
  bound_within compare asks g p (Some (TermEntry s c)) r ds there e k kr = cc
  bound_within compare asks g p None r ds there e k kr = cc

  function_within : (compare : Comparing) → AsksWithin compare
      → (g : Context) (t : Shape) (c : Set) (u : Shape) (d : Set)
      (r : Shape) (ds : List Demand)
      → function_compared compare g (capturing t c) (capturing u d) r ≡ Matches ds → HasContextHolesBelow n g
      → InShape (FunctionShape t c u d) → InShape r → InDemands ds
  function_within compare asks g t c u d (FunctionShape t' c' u' d') ds e k kl kr =
      let under : Context = TermEntry t' c' ∷ g in
      let parts = then_parts (types_compared compare g (capturing t' c') (capturing t c))
      (types_compared compare under (opened_type (length g) (capturing u d))
      (opened_type (length g) (capturing u' d'))) ds e in
      let one = types_within compare asks g (capturing t' c') (capturing t c) parts.0 parts.2 k (kr.0, kr.1)
      (kl.0, kl.1) in
      let two = types_within compare asks under (opened_type (length g) (capturing u d))
      (opened_type (length g) (capturing u' d'))
      parts.1 parts.3 ((kr.0, kr.1), k) (opened_in (length g) u d kl.2 kl.3) (opened_in (length g) u' d' kr.2 kr.3) in
      subst InDemands (sym parts.4) (in_both parts.0 parts.1 one two)
  function_within compare asks g t c u d _ ds e k kl kr = cc

  type_function_within : (compare : Comparing) → AsksWithin compare → (g : Context) (b u : Shape) (d : Set) (r : Shape)
      (ds : List Demand)
      → type_function_compared compare g b (capturing u d) r ≡ Matches ds → HasContextHolesBelow n g
      → InShape (TypeFunctionShape b u d) → InShape r → InDemands ds
  type_function_within compare asks g b u d (TypeFunctionShape b' u' d') ds e k kl kr =
      let results : Comparison = types_compared compare (TypeEntry b ∷ g) (opened_type (length g) (capturing u d))
      (opened_type (length g) (capturing u' d')) in
      elim (same_shape b b') as (λ x. cond x results Mismatch ≡ Matches ds → InDemands ds) [
        | true ↦ λ found.
            types_within compare asks (TypeEntry b ∷ g) (opened_type (length g) (capturing u d))
            (opened_type (length g) (capturing u' d')) ds found (kl.0, k) (opened_in (length g) u d kl.1 kl.2)
            (opened_in (length g) u' d' kr.1 kr.2)
        | false ↦ λ found. cc
      ] e
  type_function_within compare asks g b u d _ ds e k kl kr = cc

  box_within : (compare : Comparing) → AsksWithin compare
      → (g : Context) (t : Shape) (c : Set) (r : Shape) (ds : List Demand)
      → box_compared compare g (capturing t c) r ≡ Matches ds → HasContextHolesBelow n g
      → InShape (BoxShape t c) → InShape r → InDemands ds
  box_within compare asks g t c (BoxShape t' c') ds e k kl kr =
      types_within compare asks g (capturing t c) (capturing t' c') ds e k (kl.0, kl.1) (kr.0, kr.1)
  box_within compare asks g t c _ ds e k kl kr = cc

  form_within : (compare : Comparing) → AsksWithin compare → AsksWithin (by_form compare)
  unfolding by_form
  form_within compare asks g (BaseShape b) r ds e k kl kr = cc
  form_within compare asks g AnyShape r ds e k kl kr = cc
  form_within compare asks g (TypeVariable (Free p)) r ds e k kl kr = bound_within compare asks g p (lookup g p) r ds
      refl e k kr
  form_within compare asks g (TypeVariable (Bound i)) r ds e k kl kr = cc
  form_within compare asks g (FunctionShape t c u d) r ds e k kl kr = function_within compare asks g t c u d r ds e k
      kl kr
  form_within compare asks g (TypeFunctionShape b u d) r ds e k kl kr = type_function_within compare asks g b u d r ds
      e k kl kr
  form_within compare asks g (BoxShape t c) r ds e k kl kr = box_within compare asks g t c r ds e k kl kr
  form_within compare asks g (ExitShape u) r ds e k kl kr = cc

  pub shapes_in : (m : ℕ) → AsksWithin (comparison m)
  unfolding comparison
  shapes_in zero g l r ds e k kl kr = cc
  shapes_in (suc m) g l r ds e k kl kr =
      let later : Comparison = by_form (comparison m) g l r in
      elim (same_shape l r) as (λ t. cond t (Matches []) (cond (is_any r) (Matches []) later) ≡ Matches ds
      → InDemands ds) [
        | true ↦ λ found. let none : [] ≡ ds = cc in subst InDemands none tt
        | false ↦ λ found.
            elim (is_any r) as (λ t. cond t (Matches []) later ≡ Matches ds → InDemands ds) [
              | true ↦ λ found'. let none : [] ≡ ds = cc in subst InDemands none tt
              | false ↦ λ found'. form_within (comparison m) (shapes_in m) g l r ds found' k kl kr
            ] found
      ] e

  pub types_in : (m : ℕ) (g : Context) (l r : CapturingType) (ds : List Demand)
      → types_compared (comparison m) g l r ≡ Matches ds
      → HasContextHolesBelow n g → InType l → InType r → InDemands ds
  types_in m = types_within (comparison m) (shapes_in m)
