-- The canonical derivation of a shape below another is valid.
use Rattle.std.proofs.Common.{◌≡◌, ℕ, zero, suc, true, false, cond, List, [], ◌∷◌, ◌++◌, length, Option, Some, None, refl, sym, subst}
use Rattle.cc_capture.specs.declared.var.Var.TheVariants.{Bound, Free}
use Rattle.cc_capture.specs.Sets.{Set}
use Rattle.cc_core.specs.Shapes.{Shape, BaseShape, AnyShape, TypeVariable, FunctionShape, TypeFunctionShape, BoxShape, ExitShape, CapturingType, capturing}
use Rattle.cc_core.specs.Contexts.{Bind, TermEntry, TypeEntry, Context, lookup}
use Rattle.cc_core.specs.Substitution.{opened_type}
use Rattle.cc_core.specs.Equality.{same_shape}
use Rattle.cc_core.specs.WellFormed.{kinds_of, IsWellFormedContext, IsWellFormedShape}
use Rattle.cc_core.specs.Subtyping.{Subtypes}
use Rattle.cc_core.specs.Derivations.{ByTop, ShapeBelow, TypeBelow, Derivation, Node, NoPremise, IsValidComparison, Concludes, ConcludesShapes}
use Rattle.cc_core.proofs.KindFacts.{IsKinded, IsKinded-from, IsKindedType, IsKindedSet-test}
use Rattle.cc_core.proofs.Sorts.{TypeSort}
use Rattle.cc_core.proofs.SubcapturingContexts.{IsKindedContext, IsKindedContext-from, entry_kinded}
use Rattle.cc_checking.proofs.ShapeEquality.{same_shape-true}
use Rattle.cc_checking.specs.Comparison.{Demand, Comparison, Mismatch, Matches, Comparing, types_compared, bound_in, bound_compared, function_compared, type_function_compared, box_compared, is_any, by_form, comparison, AllHold}
use Rattle.cc_checking.specs.Weights.{enough_steps}
use Rattle.cc_checking.specs.CanonicalDerivations.{Deriving, type_derived, alike_derived, bound_derived, functions_derived, type_functions_derived, boxes_derived, form_derived, shape_derived, canonical_shapes}
use Rattle.cc_typing_laws.proofs.ComparisonLemmas.{then_parts, hold_parts, comparison_same, subtyping_compares}
use Rattle.cc_typing_laws.proofs.Endings.{comparison_enough}
use Rattle.cc_typing_laws.proofs.FormedContexts.{opened_kinded, IsKindedContext-test}
use Rattle.cc_checking_laws.proofs.CanonicalSets.{set_derived_valid}

abbrev Shows : Context → Derivation → Shape → Shape → Type 0
Shows g d l r = IsValidComparison g d × ConcludesShapes d l r

abbrev ShowsTypes : Context → Derivation → CapturingType → CapturingType → Type 0
ShowsTypes g d l r = IsValidComparison g d × Concludes d (TypeBelow l r)

abbrev AreValid : Comparing → Deriving → Type 0
AreValid compare derive = (g : Context) (l r : Shape) (ds : List Demand) → compare g l r ≡ Matches ds → AllHold ds → IsKindedContext g → IsKinded (kinds_of g) [] l → IsKinded (kinds_of g) [] r → Shows g (derive g l r) l r

types_valid : (compare : Comparing) (derive : Deriving) → AreValid compare derive → (g : Context) (l r : CapturingType) (ds : List Demand) → types_compared compare g l r ≡ Matches ds → AllHold ds
    → IsKindedContext g → IsKindedType (kinds_of g) [] l → IsKindedType (kinds_of g) [] r → ShowsTypes g (type_derived derive g l r) l r
types_valid compare derive valid g l r ds e h k kl kr =
    let first : List Demand = record { context = g; left = l.set; right = r.set } ∷ [] in
    let parts = then_parts (Matches first) (compare g l.shape r.shape) ds e in
    let same : Matches first ≡ Matches parts.0 = parts.2 in
    let is : first ≡ parts.0 = cc in
    let all : AllHold (first ++ parts.1) = subst (λ one. AllHold (one ++ parts.1)) (sym is) (subst AllHold parts.4 h) in
    let sets = set_derived_valid g l.set r.set (IsKindedContext-test g k) (IsKindedSet-test (kinds_of g) [] l.set kl.1) all.0 in
    let shapes = valid g l.shape r.shape parts.1 parts.3 all.1 k kl.0 kr.0 in
    ((l, r, sets.0, sets.1, shapes.0, shapes.1, refl), refl)

bound_valid : (compare : Comparing) (derive : Deriving) → AreValid compare derive → (g : Context) (p : ℕ) (found : Option Bind) (r : Shape) (ds : List Demand) → lookup g p ≡ found
    → bound_compared compare g (bound_in found) r ≡ Matches ds → AllHold ds → IsKindedContext g → IsKinded (kinds_of g) [] r
    → Shows g (bound_derived derive g (Free p) (bound_in found) r) (TypeVariable (Free p)) r
bound_valid compare derive valid g p (Some (TypeEntry b)) r ds there e h k kr =
    let rest = valid g b r ds e h k (entry_kinded g p (TypeEntry b) k there) kr in
    ((TypeVariable (Free p), b, r, (p, b, there, refl), refl, rest.0, rest.1, refl), refl)
bound_valid compare derive valid g p (Some (TermEntry s c)) r ds there e h k kr = cc
bound_valid compare derive valid g p None r ds there e h k kr = cc

functions_valid : (compare : Comparing) (derive : Deriving) → AreValid compare derive → (g : Context) (t : Shape) (c : Set) (u : Shape) (d : Set) (r : Shape) (ds : List Demand)
    → function_compared compare g (capturing t c) (capturing u d) r ≡ Matches ds → AllHold ds → IsKindedContext g → IsKinded (kinds_of g) [] (FunctionShape t c u d) → IsKinded (kinds_of g) [] r
    → Shows g (functions_derived derive g (capturing t c) (capturing u d) r) (FunctionShape t c u d) r
functions_valid compare derive valid g t c u d (FunctionShape t' c' u' d') ds e h k kl kr =
    let under : Context = TermEntry t' c' ∷ g in
    let parts = then_parts (types_compared compare g (capturing t' c') (capturing t c))
    (types_compared compare under (opened_type (length g) (capturing u d)) (opened_type (length g) (capturing u' d'))) ds e in
    let all = hold_parts parts.0 parts.1 (subst AllHold parts.4 h) in
    let one' = types_valid compare derive valid g (capturing t' c') (capturing t c) parts.0 parts.2 all.0 k (kr.0, kr.1) (kl.0, kl.1) in
    let two' = types_valid compare derive valid under (opened_type (length g) (capturing u d)) (opened_type (length g) (capturing u' d')) parts.1 parts.3 all.1 ((kr.0, kr.1), k)
    (opened_kinded TypeSort g (TermEntry t' c') (capturing u d) (kl.2, kl.3)) (opened_kinded TypeSort g (TermEntry t' c') (capturing u' d') (kr.2, kr.3)) in
    ((t, c, u, d, t', c', u', d', one'.0, one'.1, two'.0, two'.1, refl), refl)
functions_valid compare derive valid g t c u d _ ds e h k kl kr = cc

type_functions_valid : (compare : Comparing) (derive : Deriving) → AreValid compare derive → (g : Context) (b u : Shape) (d : Set) (r : Shape) (ds : List Demand)
    → type_function_compared compare g b (capturing u d) r ≡ Matches ds → AllHold ds → IsKindedContext g → IsKinded (kinds_of g) [] (TypeFunctionShape b u d) → IsKinded (kinds_of g) [] r
    → Shows g (type_functions_derived derive g b (capturing u d) r) (TypeFunctionShape b u d) r
type_functions_valid compare derive valid g b u d (TypeFunctionShape b' u' d') ds e h k kl kr =
    let results : Comparison = types_compared compare (TypeEntry b ∷ g) (opened_type (length g) (capturing u d)) (opened_type (length g) (capturing u' d')) in
    elim (same_shape b b') as (λ x. same_shape b b' ≡ x → cond x results Mismatch ≡ Matches ds → Shows g (type_functions_derived derive g b (capturing u d) (TypeFunctionShape b' u' d')) (TypeFunctionShape b u d) (TypeFunctionShape b' u' d')) [
      | true ↦ λ same found.
          let below = types_valid compare derive valid (TypeEntry b ∷ g) (opened_type (length g) (capturing u d)) (opened_type (length g) (capturing u' d')) ds found h (kl.0, k)
          (opened_kinded TypeSort g (TypeEntry b) (capturing u d) (kl.1, kl.2)) (opened_kinded TypeSort g (TypeEntry b) (capturing u' d') (kr.1, kr.2)) in
          subst (λ x. Shows g (type_functions_derived derive g b (capturing u d) (TypeFunctionShape x u' d')) (TypeFunctionShape b u d) (TypeFunctionShape x u' d')) (same_shape-true b b' same)
          ((b, u, d, u', d', (b, refl), refl, below.0, below.1, refl), refl)
      | false ↦ λ _ found. cc
    ] refl e
type_functions_valid compare derive valid g b u d _ ds e h k kl kr = cc

boxes_valid : (compare : Comparing) (derive : Deriving) → AreValid compare derive → (g : Context) (t : Shape) (c : Set) (r : Shape) (ds : List Demand)
    → box_compared compare g (capturing t c) r ≡ Matches ds → AllHold ds → IsKindedContext g → IsKinded (kinds_of g) [] (BoxShape t c) → IsKinded (kinds_of g) [] r
    → Shows g (boxes_derived derive g (capturing t c) r) (BoxShape t c) r
boxes_valid compare derive valid g t c (BoxShape t' c') ds e h k kl kr =
    let both = types_valid compare derive valid g (capturing t c) (capturing t' c') ds e h k kl kr in ((t, c, t', c', both.0, both.1, refl), refl)
boxes_valid compare derive valid g t c _ ds e h k kl kr = cc

form_valid : (compare : Comparing) (derive : Deriving) → AreValid compare derive → AreValid (by_form compare) (form_derived derive)
unfolding by_form form_derived
form_valid compare derive valid g (BaseShape b) r ds e h k kl kr = cc
form_valid compare derive valid g AnyShape r ds e h k kl kr = cc
form_valid compare derive valid g (TypeVariable (Free p)) r ds e h k kl kr = bound_valid compare derive valid g p (lookup g p) r ds refl e h k kr
form_valid compare derive valid g (TypeVariable (Bound i)) r ds e h k kl kr = cc
form_valid compare derive valid g (FunctionShape t c u d) r ds e h k kl kr = functions_valid compare derive valid g t c u d r ds e h k kl kr
form_valid compare derive valid g (TypeFunctionShape b u d) r ds e h k kl kr = type_functions_valid compare derive valid g b u d r ds e h k kl kr
form_valid compare derive valid g (BoxShape t c) r ds e h k kl kr = boxes_valid compare derive valid g t c r ds e h k kl kr
form_valid compare derive valid g (ExitShape u) r ds e h k kl kr = cc

any_shape : (s : Shape) → is_any s ≡ true → s ≡ AnyShape
any_shape AnyShape e = refl
any_shape _ e = cc

pub shapes_valid : (n : ℕ) → AreValid (comparison n) (shape_derived n)
unfolding comparison shape_derived
shapes_valid zero g l r ds e h k kl kr = cc
shapes_valid (suc n) g l r ds e h k kl kr =
    let later : Comparison = by_form (comparison n) g l r in
    let tree : Derivation = form_derived (shape_derived n) g l r in
    elim (same_shape l r) as (λ t. same_shape l r ≡ t → cond t (Matches []) (cond (is_any r) (Matches []) later) ≡ Matches ds → Shows g (cond t (alike_derived l r) (cond (is_any r) (Node ByTop NoPremise (ShapeBelow l r)) tree)) l r) [
      | true ↦ λ same _. subst (λ x. Shows g (alike_derived l x) l x) (same_shape-true l r same) ((l, refl), refl)
      | false ↦ λ _ found.
          elim (is_any r) as (λ t. is_any r ≡ t → cond t (Matches []) later ≡ Matches ds → Shows g (cond t (Node ByTop NoPremise (ShapeBelow l r)) tree) l r) [
            | true ↦ λ any _. subst (λ x. Shows g (Node ByTop NoPremise (ShapeBelow l x)) l x) (sym (any_shape r any)) ((l, refl), refl)
            | false ↦ λ _ found'. form_valid (comparison n) (shape_derived n) (shapes_valid n) g l r ds found' h k kl kr
          ] refl found
    ] refl e

pub canonical_shapes_valid : (g : Context) (l r : Shape) → IsWellFormedContext g → IsWellFormedShape g l → IsWellFormedShape g r → Subtypes g l r
    → IsValidComparison g (canonical_shapes g l r) × ConcludesShapes (canonical_shapes g l r) l r
canonical_shapes_valid g l r k kl kr below =
    let found = (subtyping_compares g l r).0 below in
    let enough = comparison_enough g l r k kl kr in
    let same = comparison_same g l r found.1.0 (enough_steps g l r) (Matches found.0) (comparison (enough_steps g l r) g l r) found.1.1 refl (λ e. cc) enough in
    shapes_valid (enough_steps g l r) g l r found.0 (sym same) found.2 (IsKindedContext-from g k) (IsKinded-from (kinds_of g) [] l kl) (IsKinded-from (kinds_of g) [] r kr)
