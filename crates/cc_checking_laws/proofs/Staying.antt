-- Shapes that match have the same canonical derivation with any number of steps that is enough for the comparison.
use Rattle.std.proofs.Common.{◌≡◌, ℕ, zero, suc, ◌+◌, ◌-◌, ◌≤◌, true, false, cond, List, [], ◌∷◌, length, Option, Some, None, refl, sym, ap, ◌∙◌, arith}
use Rattle.cc_capture.specs.declared.var.Var.{Var}
use Rattle.cc_capture.specs.declared.var.Var.TheVariants.{Bound, Free}
use Rattle.cc_capture.specs.Sets.{Set}
use Rattle.cc_core.specs.Shapes.{Shape, BaseShape, AnyShape, TypeVariable, FunctionShape, TypeFunctionShape, BoxShape, ExitShape, CapturingType, capturing}
use Rattle.cc_core.specs.Contexts.{TermEntry, TypeEntry, Context}
use Rattle.cc_core.specs.Substitution.{opened_type}
use Rattle.cc_core.specs.Equality.{same_shape}
use Rattle.cc_core.specs.WellFormed.{kinds_of}
use Rattle.cc_core.specs.Derivations.{ByTransitivity, ByTypeVariable, ByFunction, ByTypeFunction, ByBox, ByCapturing, ByTop, ShapeBelow, TypeBelow, Derivation, Node, NoPremise, one, two}
use Rattle.cc_core.proofs.KindFacts.{IsKinded, IsKinded-test}
use Rattle.cc_core.proofs.SubcapturingContexts.{IsKindedContext}
use Rattle.cc_checking.specs.Comparison.{Demand, Comparison, Mismatch, Matches, Comparing, types_compared, bound_compared, bound_of, function_compared, type_function_compared, box_compared, is_any, by_form, comparison, HasDemands}
use Rattle.cc_checking.specs.Weights.{enough_steps}
use Rattle.cc_checking.specs.CanonicalDerivations.{Deriving, set_derived, type_derived, alike_derived, bound_derived, functions_derived, type_functions_derived, boxes_derived, form_derived, shape_derived, canonical_shapes}
use Rattle.cc_typing_laws.proofs.ComparisonLemmas.{then_parts, comparison_same}
use Rattle.cc_typing_laws.proofs.Endings.{comparison_enough}
use Rattle.cc_typing_laws.proofs.FormedContexts.{IsKindedContext-test}

-- two ways to derive shapes agree on those that match
abbrev Agree : Comparing → Deriving → Deriving → Type 0
Agree compare first second = (g : Context) (l r : Shape) (ds : List Demand) → compare g l r ≡ Matches ds → first g l r ≡ second g l r

types_agree : (compare : Comparing) (first second : Deriving) → Agree compare first second → (g : Context) (l r : CapturingType) (ds : List Demand)
    → types_compared compare g l r ≡ Matches ds → type_derived first g l r ≡ type_derived second g l r
types_agree compare first second agree g l r ds e =
    let own : List Demand = record { context = g; left = l.set; right = r.set } ∷ [] in
    let parts = then_parts (Matches own) (compare g l.shape r.shape) ds e in
    ap (λ (d : Derivation). Node ByCapturing (two (set_derived g l.set r.set) d) (TypeBelow l r)) (agree g l.shape r.shape parts.1 parts.3)

bound_agrees : (compare : Comparing) (first second : Deriving) → Agree compare first second → (g : Context) (v : Var) (found : Option Shape) (r : Shape) (ds : List Demand)
    → bound_compared compare g found r ≡ Matches ds → bound_derived first g v found r ≡ bound_derived second g v found r
bound_agrees compare first second agree g v (Some b) r ds e =
    ap (λ (d : Derivation). Node ByTransitivity (two (Node ByTypeVariable NoPremise (ShapeBelow (TypeVariable v) b)) d) (ShapeBelow (TypeVariable v) r)) (agree g b r ds e)
bound_agrees compare first second agree g v None r ds e = refl

functions_agree : (compare : Comparing) (first second : Deriving) → Agree compare first second → (g : Context) (t : Shape) (c : Set) (u : Shape) (d : Set) (r : Shape) (ds : List Demand)
    → function_compared compare g (capturing t c) (capturing u d) r ≡ Matches ds
    → functions_derived first g (capturing t c) (capturing u d) r ≡ functions_derived second g (capturing t c) (capturing u d) r
functions_agree compare first second agree g t c u d (FunctionShape t' c' u' d') ds e =
    let under : Context = TermEntry t' c' ∷ g in
    let parts = then_parts (types_compared compare g (capturing t' c') (capturing t c))
    (types_compared compare under (opened_type (length g) (capturing u d)) (opened_type (length g) (capturing u' d'))) ds e in
    let p = types_agree compare first second agree g (capturing t' c') (capturing t c) parts.0 parts.2 in
    let q = types_agree compare first second agree under (opened_type (length g) (capturing u d)) (opened_type (length g) (capturing u' d')) parts.1 parts.3 in
    λ i. Node ByFunction (two (p i) (q i)) (ShapeBelow (FunctionShape t c u d) (FunctionShape t' c' u' d'))
functions_agree compare first second agree g t c u d _ ds e = refl

type_functions_agree : (compare : Comparing) (first second : Deriving) → Agree compare first second → (g : Context) (b u : Shape) (d : Set) (r : Shape) (ds : List Demand)
    → type_function_compared compare g b (capturing u d) r ≡ Matches ds
    → type_functions_derived first g b (capturing u d) r ≡ type_functions_derived second g b (capturing u d) r
type_functions_agree compare first second agree g b u d (TypeFunctionShape b' u' d') ds e =
    let under : Context = TypeEntry b ∷ g in
    let l : CapturingType = opened_type (length g) (capturing u d) in
    let r : CapturingType = opened_type (length g) (capturing u' d') in
    elim (same_shape b b') as (λ x. cond x (types_compared compare under l r) Mismatch ≡ Matches ds → type_functions_derived first g b (capturing u d) (TypeFunctionShape b' u' d') ≡ type_functions_derived second g b (capturing u d) (TypeFunctionShape b' u' d')) [
      | true ↦ λ found.
          ap (λ (x : Derivation). Node ByTypeFunction (two (alike_derived b b') x) (ShapeBelow (TypeFunctionShape b u d) (TypeFunctionShape b' u' d')))
          (types_agree compare first second agree under l r ds found)
      | false ↦ λ found. cc
    ] e
type_functions_agree compare first second agree g b u d _ ds e = refl

boxes_agree : (compare : Comparing) (first second : Deriving) → Agree compare first second → (g : Context) (t : Shape) (c : Set) (r : Shape) (ds : List Demand)
    → box_compared compare g (capturing t c) r ≡ Matches ds
    → boxes_derived first g (capturing t c) r ≡ boxes_derived second g (capturing t c) r
boxes_agree compare first second agree g t c (BoxShape t' c') ds e =
    ap (λ (d : Derivation). Node ByBox (one d) (ShapeBelow (BoxShape t c) (BoxShape t' c')))
    (types_agree compare first second agree g (capturing t c) (capturing t' c') ds e)
boxes_agree compare first second agree g t c _ ds e = refl

form_agrees : (compare : Comparing) (first second : Deriving) → Agree compare first second → Agree (by_form compare) (form_derived first) (form_derived second)
unfolding by_form form_derived
form_agrees compare first second agree g (BaseShape b) r ds e = refl
form_agrees compare first second agree g AnyShape r ds e = refl
form_agrees compare first second agree g (TypeVariable v) r ds e = bound_agrees compare first second agree g v (bound_of g v) r ds e
form_agrees compare first second agree g (FunctionShape t c u d) r ds e = functions_agree compare first second agree g t c u d r ds e
form_agrees compare first second agree g (TypeFunctionShape b u d) r ds e = type_functions_agree compare first second agree g b u d r ds e
form_agrees compare first second agree g (BoxShape t c) r ds e = boxes_agree compare first second agree g t c r ds e
form_agrees compare first second agree g (ExitShape u) r ds e = refl

stays_more : (n k : ℕ) → Agree (comparison n) (shape_derived n) (shape_derived (n + k))
unfolding comparison shape_derived
stays_more zero k g l r ds e = cc
stays_more (suc n) k g l r ds e =
    let next : suc n + k ≡ suc (n + k) = omega arith in
    let later : Comparison = by_form (comparison n) g l r in
    let tree : Derivation = form_derived (shape_derived n) g l r in
    let other : Derivation = form_derived (shape_derived (n + k)) g l r in
    let top : Derivation = Node ByTop NoPremise (ShapeBelow l r) in
    elim (same_shape l r) as (λ t. cond t (Matches []) (cond (is_any r) (Matches []) later) ≡ Matches ds → cond t (alike_derived l r) (cond (is_any r) top tree) ≡ cond t (alike_derived l r) (cond (is_any r) top other)) [
      | true ↦ λ _. refl
      | false ↦ elim (is_any r) as (λ t. cond t (Matches []) later ≡ Matches ds → cond t top tree ≡ cond t top other) [
        | true ↦ λ _. refl
        | false ↦ λ found. form_agrees (comparison n) (shape_derived n) (shape_derived (n + k)) (stays_more n k) g l r ds found
      ]
    ] e
    ∙ ap (λ x. shape_derived x g l r) (sym next)

-- with more steps
pub stays : (n m : ℕ) → n ≤ m → Agree (comparison n) (shape_derived n) (shape_derived m)
stays n m h g l r ds e =
    let is : n + (m - n) ≡ m = omega arith in
    stays_more n (m - n) g l r ds e ∙ ap (λ x. shape_derived x g l r) is

-- so they are the canonical ones
pub settled : (g : Context) (l r : Shape) (ds : List Demand) → IsKindedContext g → IsKinded (kinds_of g) [] l → IsKinded (kinds_of g) [] r
    → (h : HasDemands g l r ds) → (m : ℕ) → h.0 ≤ m → shape_derived m g l r ≡ canonical_shapes g l r
settled g l r ds f kl kr h m le =
    let e : ℕ = enough_steps g l r in
    let enough = comparison_enough g l r (IsKindedContext-test g f) (IsKinded-test (kinds_of g) [] l kl) (IsKinded-test (kinds_of g) [] r kr) in
    let same = comparison_same g l r h.0 e (Matches ds) (comparison e g l r) h.1 refl (λ x. cc) enough in
    sym (stays h.0 m le g l r ds h.1) ∙ stays h.0 (h.0 + e) (omega arith) g l r ds h.1
    ∙ sym (stays e (h.0 + e) (omega arith) g l r ds (sym same))
