-- Derivations of comparisons are the judgements.
use Rattle.std.proofs.Common.{◌≡◌, ◌↔◌, true, false, List, [], ◌∷◌, length, refl, sym, subst, inl, inr}
use Rattle.std.proofs.lemmas.Bool.{or_left, or_right, both_ways}
use Rattle.cc_capture.specs.declared.var.Var.TheVariants.{Free}
use Rattle.cc_capture.specs.declared.var.Elem.{Elem}
use Rattle.cc_capture.specs.ElementOrder.{same_element-itself}
use Rattle.cc_capture.specs.Rising.{is_listed}
use Rattle.cc_capture.specs.Sets.{Set, Member, contains, empty}
use Rattle.cc_capture.proofs.Membership.{Member-empty, Member-insert, is_listed-cases}
use Rattle.cc_core.specs.Shapes.{Shape, AnyShape, TypeVariable, FunctionShape, TypeFunctionShape, BoxShape, CapturingType, capturing}
use Rattle.cc_core.specs.Contexts.{TermEntry, TypeEntry, Context}
use Rattle.cc_core.specs.Substitution.{single, opened, opened_set}
use Rattle.cc_core.specs.Captured.{variable_set}
use Rattle.cc_core.specs.Subcapturing.{Subcaptures, element, variable, SubcapturesSet}
use Rattle.cc_core.specs.Subtyping.{Subtypes, SubtypesType, reflexive, transitive, type_variable, top, function, type_function, box}
use Rattle.cc_core.specs.Derivations.{ByElement, ByVariable, BySet, ByReflexivity, ByTransitivity, ByTypeVariable, ByTop, ByFunction, ByTypeFunction, ByBox, ByCapturing, Claim, SetBelow, ShapeBelow, TypeBelow, OfType, Derivation, Node, Premises, NoPremise, Premise, one, two, conclusion, IsValidComparison, AreBelow}
use Rattle.cc_core.specs.DerivationLaws.{HasComparison}

-- the members of a list's set, and of the set of one element
listed_first : (x : Elem) (xs : List Elem) → is_listed x (x ∷ xs) ≡ true
listed_first x xs = or_left _ _ (same_element-itself x)

listed_after : (e x : Elem) (xs : List Elem) → is_listed e xs ≡ true → is_listed e (x ∷ xs) ≡ true
listed_after e x xs there = or_right _ _ there

listed : (e : Elem) (set : Set) → Member e set → is_listed e set.list ≡ true
unfolding contains
listed e set here = here

member : (e : Elem) (set : Set) → is_listed e set.list ≡ true → Member e set
unfolding contains
member e set here = here

only_member : (e x : Elem) → Member e (single x) → e ≡ x
only_member e x here = elim ((Member-insert e x empty).0 here) [ inl same ↦ same | inr there ↦ absurd (Member-empty e there) ]

member_of_single : (x : Elem) → Member x (single x)
member_of_single x = (Member-insert x x empty).1 (inl refl)

-- what a claim of a comparison says
abbrev pub Holds : Context → Claim → Type 0
Holds context (SetBelow left right) = SubcapturesSet context left right
Holds context (ShapeBelow left right) = Subtypes context left right
Holds context (TypeBelow left right) = SubtypesType context left right
Holds context (OfType type) = ⊥

holds_as : (context : Context) {claim claim' : Claim} → claim ≡ claim' → Holds context claim' → Holds context claim
holds_as context same holds = subst (Holds context) (sym same) holds

pub held : (context : Context) {claim claim' : Claim} → claim ≡ claim' → Holds context claim → Holds context claim'
held context same holds = subst (Holds context) same holds

mutual
  pub comparison_holds : (derivation : Derivation) (context : Context) → IsValidComparison context derivation → Holds context (conclusion derivation)
  comparison_holds (Node ByElement NoPremise claim) context h =
      holds_as context h.3 (λ e here. element (subst (λ x. Member x h.1) (sym (only_member e h.0 here)) h.2))
  comparison_holds (Node ByVariable (one p) claim) context h =
      let declared_below : SubcapturesSet context h.2 h.3 = held context h.6 (comparison_holds p context h.5) in
      holds_as context h.7
      (λ e here. subst (λ x. Subcaptures context x h.3) (sym (only_member e _ here)) (variable {shape = h.1} h.4 declared_below))
  comparison_holds (Node BySet premises claim) context h =
      holds_as context h.3 (λ e here. elements_hold premises context h.0.list h.1 h.2 e (listed e h.0 here))
  comparison_holds (Node ByReflexivity NoPremise claim) context h = holds_as context h.1 reflexive
  comparison_holds (Node ByTransitivity (two p q) claim) context h =
      let first : Subtypes context h.0 h.1 = held context h.4 (comparison_holds p context h.3) in
      let second : Subtypes context h.1 h.2 = held context h.6 (comparison_holds q context h.5) in
      holds_as context h.7 (transitive first second)
  comparison_holds (Node ByTypeVariable NoPremise claim) context h = holds_as context h.3 (type_variable h.2)
  comparison_holds (Node ByTop NoPremise claim) context h = holds_as context h.1 top
  comparison_holds (Node ByFunction (two p q) claim) context h =
      let parameters = held context h.9 (comparison_holds p context h.8) in
      let results = held (TermEntry h.4 h.5 ∷ context) h.11 (comparison_holds q (TermEntry h.4 h.5 ∷ context) h.10) in
      holds_as context h.12 (function parameters.0 parameters.1 results.0 results.1)
  comparison_holds (Node ByTypeFunction (two p q) claim) context h =
      let results = held (TypeEntry h.0 ∷ context) h.8 (comparison_holds q (TypeEntry h.0 ∷ context) h.7) in
      holds_as context h.9 (type_function results.0 results.1)
  comparison_holds (Node ByBox (one p) claim) context h =
      let contents = held context h.5 (comparison_holds p context h.4) in
      holds_as context h.6 (box contents.0 contents.1)
  comparison_holds (Node ByCapturing (two p q) claim) context h =
      let sets = held context h.3 (comparison_holds p context h.2) in
      let shapes = held context h.5 (comparison_holds q context h.4) in
      holds_as context h.6 (sets, shapes)
  comparison_holds _ context h = absurd h

  elements_hold : (premises : Premises) (context : Context) (elements : List Elem) (right : Set) → AreBelow context elements right premises
      → (e : Elem) → is_listed e elements ≡ true → Subcaptures context e right
  elements_hold NoPremise context [] right h e here = absurd (both_ways false refl here)
  elements_hold (Premise p rest) context (x ∷ xs) right h e here =
      let first : SubcapturesSet context (single x) right = held context h.1 (comparison_holds p context h.0) in
      elim (is_listed-cases e x xs here) [
        | inl same ↦ subst (λ y. Subcaptures context y right) (sym same) (first x (member_of_single x))
        | inr there ↦ elements_hold rest context xs right h.2 e there
      ]
  elements_hold _ context _ right h e here = absurd h

-- one premise for each element
premises_below : (context : Context) (elements : List Elem) (right : Set)
    → ((e : Elem) → is_listed e elements ≡ true → HasComparison context (SetBelow (single e) right))
    → (premises : Premises) × AreBelow context elements right premises
premises_below context [] right each = (NoPremise, tt)
premises_below context (x ∷ xs) right each =
    let first = each x (listed_first x xs) in
    let rest = premises_below context xs right (λ e here. each e (listed_after e x xs here)) in
    (Premise first.0 rest.0, (first.1, first.2, rest.1))

set_node : (context : Context) (left right : Set) → ((e : Elem) → Member e left → HasComparison context (SetBelow (single e) right))
    → HasComparison context (SetBelow left right)
set_node context left right each =
    let premises = premises_below context left.list right (λ e here. each e (member e left here)) in
    (Node BySet premises.0 (SetBelow left right), (left, right, premises.1, refl), refl)

element_comparison : {context : Context} {e : Elem} {set : Set} → Subcaptures context e set → HasComparison context (SetBelow (single e) set)
element_comparison (element {e = e} {set = set} here) =
    (Node ByElement NoPremise (SetBelow (single e) set), (e, set, here, refl), refl)
element_comparison {context = context} (variable {position = position} {shape = shape} {declared = declared} {set = set} there each) =
    let below = set_node context declared set (λ e here. element_comparison (each e here)) in (
      Node ByVariable (one below.0) (SetBelow (variable_set (Free position)) set),
      (position, shape, declared, set, there, below.1, below.2, refl),
      refl,
    )

pub set_comparison : (context : Context) (left right : Set) → SubcapturesSet context left right → HasComparison context (SetBelow left right)
set_comparison context left right below = set_node context left right (λ e here. element_comparison (below e here))

type_node : (context : Context) (left right : CapturingType) → HasComparison context (SetBelow left.set right.set)
    → HasComparison context (ShapeBelow left.shape right.shape) → HasComparison context (TypeBelow left right)
type_node context left right sets shapes = (
  Node ByCapturing (two sets.0 shapes.0) (TypeBelow left right),
  (left, right, sets.1, sets.2, shapes.1, shapes.2, refl),
  refl,
)

-- a shape's derivation and a set's make one of a type
pub both_below : (context : Context) (shape shape' : Shape) (c c' : Set) → SubcapturesSet context c c' → HasComparison context (ShapeBelow shape shape')
    → HasComparison context (TypeBelow (capturing shape c) (capturing shape' c'))
both_below context shape shape' c c' sets shapes =
    type_node context (capturing shape c) (capturing shape' c') (set_comparison context c c' sets) shapes

pub shape_comparison : {context : Context} {left right : Shape} → Subtypes context left right → HasComparison context (ShapeBelow left right)
shape_comparison (reflexive {context = context} {shape = shape}) =
    (Node ByReflexivity NoPremise (ShapeBelow shape shape), (shape, refl), refl)
shape_comparison (transitive {context = context} {left = left} {middle = middle} {right = right} first second) =
    let p = shape_comparison first in
    let q = shape_comparison second in
    (Node ByTransitivity (two p.0 q.0) (ShapeBelow left right), (left, middle, right, p.1, p.2, q.1, q.2, refl), refl)
shape_comparison (type_variable {context = context} {position = position} {bound = bound} there) =
    (Node ByTypeVariable NoPremise (ShapeBelow (TypeVariable (Free position)) bound), (position, bound, there, refl), refl)
shape_comparison (top {context = context} {shape = shape}) = (Node ByTop NoPremise (ShapeBelow shape AnyShape), (shape, refl), refl)
shape_comparison
    (function {context = context} {takes = takes} {takes' = takes'} {gives = gives} {gives' = gives'} {c = c} {c' = c'} {e = e} {e' = e'} takes_sets takes_shapes gives_sets gives_shapes) =
    let p = both_below context takes' takes c' c takes_sets (shape_comparison takes_shapes) in
    let q = both_below (TermEntry takes' c' ∷ context) (opened (length context) gives) (opened (length context) gives') (opened_set (length context) e) (opened_set (length context) e') gives_sets (shape_comparison gives_shapes) in (
      Node ByFunction (two p.0 q.0) (ShapeBelow (FunctionShape takes c gives e) (FunctionShape takes' c' gives' e')),
      (takes, c, gives, e, takes', c', gives', e', p.1, p.2, q.1, q.2, refl),
      refl,
    )
shape_comparison
    (type_function {context = context} {bound = bound} {gives = gives} {gives' = gives'} {e = e} {e' = e'} gives_sets gives_shapes) =
    let p : Derivation = Node ByReflexivity NoPremise (ShapeBelow bound bound) in
    let q = both_below (TypeEntry bound ∷ context) (opened (length context) gives) (opened (length context) gives') (opened_set (length context) e) (opened_set (length context) e') gives_sets (shape_comparison gives_shapes) in (
      Node ByTypeFunction (two p q.0) (ShapeBelow (TypeFunctionShape bound gives e) (TypeFunctionShape bound gives' e')),
      (bound, gives, e, gives', e', (bound, refl), refl, q.1, q.2, refl),
      refl,
    )
shape_comparison (box {context = context} {content = content} {content' = content'} {c = c} {c' = c'} sets shapes) =
    let p = both_below context content content' c c' sets (shape_comparison shapes) in (
      Node ByBox (one p.0) (ShapeBelow (BoxShape content c) (BoxShape content' c')),
      (content, c, content', c', p.1, p.2, refl),
      refl,
    )

-- each judgement of a comparison is one of a valid derivation
has_comparison : (context : Context) (claim : Claim) → HasComparison context claim → Holds context claim
has_comparison context claim derived = held context derived.2 (comparison_holds derived.0 context derived.1)

pub set_derivations : (context : Context) (left right : Set) → SubcapturesSet context left right ↔ HasComparison context (SetBelow left right)
set_derivations context left right = (set_comparison context left right, has_comparison context (SetBelow left right))

pub shape_derivations : (context : Context) (left right : Shape) → Subtypes context left right ↔ HasComparison context (ShapeBelow left right)
shape_derivations context left right = (shape_comparison, has_comparison context (ShapeBelow left right))

pub type_derivations : (context : Context) (left right : CapturingType) → SubtypesType context left right ↔ HasComparison context (TypeBelow left right)
type_derivations context left right =
    (λ below. both_below context left.shape right.shape left.set right.set below.0 (shape_comparison below.1), has_comparison context (TypeBelow left right))
