-- Subtyping without a rule of transitivity. It is the same relation as subtyping with one.
use Rattle.std.proofs.Common.{◌≡◌, ℕ, zero, suc, ◌+◌, ◌<◌, true, false, cond, [], ◌∷◌, length, Some, refl, ap, subst, arith}
use Rattle.std.specs.Prelude.{nat_eq}
use Rattle.cc_capture.specs.declared.var.Var.TheVariants.{Free}
use Rattle.cc_capture.specs.Sets.{Set}
use Rattle.cc_core.specs.Shapes.{Shape, BaseShape, AnyShape, TypeVariable, FunctionShape, TypeFunctionShape, BoxShape, ExitShape}
use Rattle.cc_core.specs.Contexts.{Bind, TermEntry, TypeEntry, Context, lookup}
use Rattle.cc_core.specs.Traversal.{act}
use Rattle.cc_core.specs.Substitution.{opened, opened_set, opening}
use Rattle.cc_core.specs.Subcapturing.{variable, SubcapturesSet}
use Rattle.cc_core.specs.Subtyping.{Subtypes, reflexive, transitive, type_variable, top, function, type_function, box}
use Rattle.cc_core.proofs.SubcapturingLemmas.{subcaptures_reflexive, subcaptures_transitive, subcaptures_along, subcaptures_longer}

pub data SubtypesDirectly : Context → Shape → Shape → Type 0 where
  alike : {context : Context} {shape : Shape} → SubtypesDirectly context shape shape
  under_any : {context : Context} {shape : Shape} → SubtypesDirectly context shape AnyShape
  through_bound : {context : Context} {position : ℕ} {bound right : Shape}
      → lookup context position ≡ Some (TypeEntry bound) → SubtypesDirectly context bound right → SubtypesDirectly context (TypeVariable (Free position)) right
  functions : {context : Context} {takes takes' gives gives' : Shape} {c c' e e' : Set}
      → SubcapturesSet context c' c → SubtypesDirectly context takes' takes
      → SubcapturesSet (TermEntry takes' c' ∷ context) (opened_set (length context) e) (opened_set (length context) e')
      → SubtypesDirectly (TermEntry takes' c' ∷ context) (opened (length context) gives) (opened (length context) gives')
      → SubtypesDirectly context (FunctionShape takes c gives e) (FunctionShape takes' c' gives' e')
  type_functions : {context : Context} {bound gives gives' : Shape} {e e' : Set}
      → SubcapturesSet (TypeEntry bound ∷ context) (opened_set (length context) e) (opened_set (length context) e')
      → SubtypesDirectly (TypeEntry bound ∷ context) (opened (length context) gives) (opened (length context) gives')
      → SubtypesDirectly context (TypeFunctionShape bound gives e) (TypeFunctionShape bound gives' e')
  boxes : {context : Context} {content content' : Shape} {c c' : Set}
      → SubcapturesSet context c c' → SubtypesDirectly context content content'
      → SubtypesDirectly context (BoxShape content c) (BoxShape content' c')

-- The second context declares each variable of terms with a set below that in the first one, and is the same besides.
pub record Narrows (wide narrow : Context) : Type 0 where
  pub same_length : length wide ≡ length narrow
  pub bounds : (position : ℕ) (bound : Shape) → lookup wide position ≡ Some (TypeEntry bound) → lookup narrow position ≡ Some (TypeEntry bound)
  pub declared : (position : ℕ) (shape : Shape) (set : Set) → lookup wide position ≡ Some (TermEntry shape set)
      → (shape' : Shape) × (set' : Set) × (lookup narrow position ≡ Some (TermEntry shape' set')) × SubcapturesSet narrow set' set

pub narrows_set : {wide narrow : Context} → Narrows wide narrow → (left right : Set) → SubcapturesSet wide left right → SubcapturesSet narrow left right
narrows_set {narrow = narrow} n left right below e here =
    subcaptures_along (below e here) narrow
    (λ position shape declared above there each.
    let found = n.declared position shape declared there in
    variable found.2 (subcaptures_transitive narrow found.1 declared above found.3 each))

entry_sets : (s s' : Shape) (c c' : Set) → Some (TermEntry s c) ≡ Some (TermEntry s' c') → (s ≡ s') × (c ≡ c')
entry_sets s s' c c' e = (cc, cc)

-- with one entry more on both sides
pub narrows_under : {wide narrow : Context} (entry : Bind) → Narrows wide narrow → Narrows (entry ∷ wide) (entry ∷ narrow)
narrows_under {wide} {narrow} entry n =
    record {
      same_length = ap suc n.same_length;
      bounds = λ position bound there.
          subst (λ m. cond (nat_eq position m) (Some entry) (lookup narrow position) ≡ Some (TypeEntry bound)) n.same_length
          (elim (nat_eq position (length wide)) as (λ t. cond t (Some entry) (lookup wide position) ≡ Some (TypeEntry bound) → cond t (Some entry) (lookup narrow position) ≡ Some (TypeEntry bound)) [
            | true ↦ λ found. found
            | false ↦ λ found. n.bounds position bound found
          ] there);
      declared = λ position shape set there.
          subst (λ m. (shape' : Shape) × (set' : Set) × (cond (nat_eq position m) (Some entry) (lookup narrow position) ≡ Some (TermEntry shape' set')) × SubcapturesSet (entry ∷ narrow) set' set) n.same_length
          (elim (nat_eq position (length wide)) as (λ t. cond t (Some entry) (lookup wide position) ≡ Some (TermEntry shape set)
          → (shape' : Shape) × (set' : Set) × (cond t (Some entry) (lookup narrow position) ≡ Some (TermEntry shape' set')) × SubcapturesSet (entry ∷ narrow) set' set) [
            | true ↦ λ found. (shape, set, found, subcaptures_reflexive (entry ∷ narrow) set)
            | false ↦ λ found.
                let old = n.declared position shape set found in
                (old.0, old.1, old.2, subcaptures_longer narrow (entry ∷ []) old.1 set old.3)
          ] there);
    }

-- with a smaller type for the newest variable
pub narrows_newest : (context : Context) (shape shape' : Shape) (c c' : Set) → SubcapturesSet context c' c → Narrows (TermEntry shape c ∷ context) (TermEntry shape' c' ∷ context)
narrows_newest context shape shape' c c' less =
    record {
      same_length = refl;
      bounds = λ position bound there.
          elim (nat_eq position (length context)) as (λ t. cond t (Some (TermEntry shape c)) (lookup context position) ≡ Some (TypeEntry bound) → cond t (Some (TermEntry shape' c')) (lookup context position) ≡ Some (TypeEntry bound)) [
            | true ↦ λ found. cc
            | false ↦ λ found. found
          ] there;
      declared = λ position s d there.
          elim (nat_eq position (length context)) as (λ t. cond t (Some (TermEntry shape c)) (lookup context position) ≡ Some (TermEntry s d)
          → (s' : Shape) × (d' : Set) × (cond t (Some (TermEntry shape' c')) (lookup context position) ≡ Some (TermEntry s' d')) × SubcapturesSet (TermEntry shape' c' ∷ context) d' d) [
            | true ↦ λ found.
                let less' : SubcapturesSet (TermEntry shape' c' ∷ context) c' c = subcaptures_longer context (TermEntry shape' c' ∷ []) c' c less in
                (shape', c', refl, subst (λ x. SubcapturesSet (TermEntry shape' c' ∷ context) c' x) (entry_sets shape s c d found).1 less')
            | false ↦ λ found. (s, d, found, subcaptures_reflexive (TermEntry shape' c' ∷ context) d)
          ] there;
    }

pub direct_narrows : {wide narrow : Context} {left right : Shape} → SubtypesDirectly wide left right → Narrows wide narrow → SubtypesDirectly narrow left right
direct_narrows alike n = alike
direct_narrows under_any n = under_any
direct_narrows (through_bound {position = position} {bound = bound} there rest) n = through_bound (n.bounds position bound there) (direct_narrows rest n)
direct_narrows {narrow = narrow} (functions {context = context} {takes' = takes'} {gives = gives} {gives' = gives'} {c = c} {c' = c'} {e = e} {e' = e'} sets takes results below) n =
    let under = narrows_under (TermEntry takes' c') n in
    functions (narrows_set n c' c sets) (direct_narrows takes n)
    (subst (λ m. SubcapturesSet (TermEntry takes' c' ∷ narrow) (opened_set m e) (opened_set m e')) n.same_length
    (narrows_set under (opened_set (length context) e) (opened_set (length context) e') results))
    (subst (λ m. SubtypesDirectly (TermEntry takes' c' ∷ narrow) (opened m gives) (opened m gives')) n.same_length (direct_narrows below under))
direct_narrows {narrow = narrow} (type_functions {context = context} {bound = bound} {gives = gives} {gives' = gives'} {e = e} {e' = e'} results below) n =
    let under = narrows_under (TypeEntry bound) n in
    type_functions
    (subst (λ m. SubcapturesSet (TypeEntry bound ∷ narrow) (opened_set m e) (opened_set m e')) n.same_length
    (narrows_set under (opened_set (length context) e) (opened_set (length context) e') results))
    (subst (λ m. SubtypesDirectly (TypeEntry bound ∷ narrow) (opened m gives) (opened m gives')) n.same_length (direct_narrows below under))
direct_narrows (boxes {c = c} {c' = c'} sets below) n = boxes (narrows_set n c c' sets) (direct_narrows below n)

-- how many forms a shape is made of
abbrev pub height : Shape → ℕ
height (BaseShape base) = 0
height AnyShape = 0
height (TypeVariable v) = 0
height (FunctionShape takes c gives e) = suc (height takes + height gives)
height (TypeFunctionShape bound gives e) = suc (height bound + height gives)
height (BoxShape content c) = suc (height content)
height (ExitShape gives) = suc (height gives)

pub height-opened : (position depth : ℕ) (shape : Shape) → height (act (opening position) depth shape) ≡ height shape
height-opened position depth (BaseShape base) = refl
height-opened position depth AnyShape = refl
height-opened position depth (TypeVariable v) = refl
height-opened position depth (FunctionShape takes c gives e) = λ i. suc (height-opened position depth takes i + height-opened position (suc depth) gives i)
height-opened position depth (TypeFunctionShape bound gives e) = λ i. suc (height-opened position depth bound i + height-opened position (suc depth) gives i)
height-opened position depth (BoxShape content c) = λ i. suc (height-opened position depth content i)
height-opened position depth (ExitShape gives) = λ i. suc (height-opened position depth gives i)

-- transitivity at one shape in the middle
abbrev TransitiveAt : Shape → Type 0
TransitiveAt middle = (context : Context) (left right : Shape) → SubtypesDirectly context left middle → SubtypesDirectly context middle right → SubtypesDirectly context left right

abbrev TransitiveBelow : ℕ → Type 0
TransitiveBelow n = (middle : Shape) → height middle < n → TransitiveAt middle

after_any : {context : Context} {right : Shape} → SubtypesDirectly context AnyShape right → (left : Shape) → SubtypesDirectly context left right
after_any alike left = under_any
after_any under_any left = under_any

after_functions : {context : Context} {takes takes' gives gives' right : Shape} {c c' e e' : Set} → (n : ℕ) → TransitiveBelow n → height (FunctionShape takes' c' gives' e') < suc n
    → SubtypesDirectly context (FunctionShape takes' c' gives' e') right
    → SubcapturesSet context c' c → SubtypesDirectly context takes' takes
    → SubcapturesSet (TermEntry takes' c' ∷ context) (opened_set (length context) e) (opened_set (length context) e')
    → SubtypesDirectly (TermEntry takes' c' ∷ context) (opened (length context) gives) (opened (length context) gives')
    → SubtypesDirectly context (FunctionShape takes c gives e) right
after_functions n below small alike sets takes results body = functions sets takes results body
after_functions n below small under_any sets takes results body = under_any
after_functions {context = context} {takes = t1} {gives = g1} {c = c1} {e = e1} n below small
    (functions {takes = t2} {takes' = t3} {gives = g2} {gives' = g3} {c = c2} {c' = c3} {e = e2} {e' = e3} sets' takes' results' body') sets takes results body =
    let narrow = narrows_newest context t2 t3 c2 c3 sets' in
    let under : Context = TermEntry t3 c3 ∷ context in
    let same = height-opened (length context) 0 g2 in
    functions
    (subcaptures_transitive context c3 c2 c1 sets' sets)
    (below t2 (omega arith) context t3 t1 takes' takes)
    (subcaptures_transitive under (opened_set (length context) e1) (opened_set (length context) e2) (opened_set (length context) e3)
    (narrows_set narrow (opened_set (length context) e1) (opened_set (length context) e2) results) results')
    (below (opened (length context) g2) (omega arith) under (opened (length context) g1) (opened (length context) g3) (direct_narrows body narrow) body')

after_type_functions : {context : Context} {bound gives gives' right : Shape} {e e' : Set} → (n : ℕ) → TransitiveBelow n → height (TypeFunctionShape bound gives' e') < suc n
    → SubtypesDirectly context (TypeFunctionShape bound gives' e') right
    → SubcapturesSet (TypeEntry bound ∷ context) (opened_set (length context) e) (opened_set (length context) e')
    → SubtypesDirectly (TypeEntry bound ∷ context) (opened (length context) gives) (opened (length context) gives')
    → SubtypesDirectly context (TypeFunctionShape bound gives e) right
after_type_functions n below small alike results body = type_functions results body
after_type_functions n below small under_any results body = under_any
after_type_functions {context = context} {gives = g1} {e = e1} n below small
    (type_functions {bound = bound} {gives = g2} {gives' = g3} {e = e2} {e' = e3} results' body') results body =
    let under : Context = TypeEntry bound ∷ context in
    let same = height-opened (length context) 0 g2 in
    type_functions
    (subcaptures_transitive under (opened_set (length context) e1) (opened_set (length context) e2) (opened_set (length context) e3) results results')
    (below (opened (length context) g2) (omega arith) under (opened (length context) g1) (opened (length context) g3) body body')

after_boxes : {context : Context} {content content' right : Shape} {c c' : Set} → (n : ℕ) → TransitiveBelow n → height (BoxShape content' c') < suc n
    → SubtypesDirectly context (BoxShape content' c') right
    → SubcapturesSet context c c' → SubtypesDirectly context content content'
    → SubtypesDirectly context (BoxShape content c) right
after_boxes n below small alike sets body = boxes sets body
after_boxes n below small under_any sets body = under_any
after_boxes {context = context} {content = t1} {c = c1} n below small (boxes {content = t2} {content' = t3} {c = c2} {c' = c3} sets' body') sets body =
    boxes (subcaptures_transitive context c1 c2 c3 sets sets') (below t2 (omega arith) context t1 t3 body body')

transitive_step : {context : Context} {left middle right : Shape} → (n : ℕ) → TransitiveBelow n → height middle < suc n
    → SubtypesDirectly context left middle → SubtypesDirectly context middle right → SubtypesDirectly context left right
transitive_step n below small alike second = second
transitive_step n below small under_any second = after_any second _
transitive_step n below small (through_bound there rest) second = through_bound there (transitive_step n below small rest second)
transitive_step n below small (functions sets takes results body) second = after_functions n below small second sets takes results body
transitive_step n below small (type_functions results body) second = after_type_functions n below small second results body
transitive_step n below small (boxes sets body) second = after_boxes n below small second sets body

transitive_below : (n : ℕ) → TransitiveBelow n
transitive_below zero middle small context left right first second = absurd (omega arith)
transitive_below (suc n) middle small context left right first second = transitive_step n (transitive_below n) small first second

pub direct_transitive : (context : Context) (left middle right : Shape) → SubtypesDirectly context left middle → SubtypesDirectly context middle right → SubtypesDirectly context left right
direct_transitive context left middle right first second = transitive_below (suc (height middle)) middle (omega arith) context left right first second

-- the two systems are one
pub direct_from : {context : Context} {left right : Shape} → Subtypes context left right → SubtypesDirectly context left right
direct_from reflexive = alike
direct_from (transitive {context = context} {left = left} {middle = middle} {right = right} first second) = direct_transitive context left middle right (direct_from first) (direct_from second)
direct_from (type_variable there) = through_bound there alike
direct_from top = under_any
direct_from (function sets takes results body) = functions sets (direct_from takes) results (direct_from body)
direct_from (type_function results body) = type_functions results (direct_from body)
direct_from (box sets body) = boxes sets (direct_from body)

pub direct_to : {context : Context} {left right : Shape} → SubtypesDirectly context left right → Subtypes context left right
direct_to alike = reflexive
direct_to under_any = top
direct_to (through_bound there rest) = transitive (type_variable there) (direct_to rest)
direct_to (functions sets takes results body) = function sets (direct_to takes) results (direct_to body)
direct_to (type_functions results body) = type_function results (direct_to body)
direct_to (boxes sets body) = box sets (direct_to body)
