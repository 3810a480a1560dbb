-- A node of a comparison is an instance of its rule, with valid premises, exactly where its derivation is valid.
use Rattle.std.proofs.Common.{◌≡◌, ℕ, Bool, true, false, ◌&&◌, List, [], ◌∷◌, length, map, Option, Some, None, refl, ap, sym, subst}
use Rattle.std.specs.Prelude.{if◌then◌else◌}
use Rattle.cc_capture.specs.declared.var.Var.{Var}
use Rattle.cc_capture.specs.declared.var.Var.TheVariants.{Bound, Free}
use Rattle.cc_capture.specs.declared.var.Elem.{Elem}
use Rattle.cc_capture.specs.declared.var.Elem.TheVariants.{Var as Variable, Cap, Hole}
use Rattle.cc_capture.specs.Rising.{placed}
use Rattle.cc_capture.specs.Sets.{Set, Member, contains, empty, insert, same_list}
use Rattle.cc_core.specs.Shapes.{Shape, AnyShape, TypeVariable, FunctionShape, TypeFunctionShape, BoxShape, CapturingType, capturing}
use Rattle.cc_core.specs.Contexts.{Bind, TermEntry, TypeEntry, Context, lookup}
use Rattle.cc_core.specs.Substitution.{single, opened, opened_set, opened_type}
use Rattle.cc_core.specs.Equality.{same_shape}
use Rattle.cc_core.specs.Captured.{variable_set}
use Rattle.cc_core.specs.Derivations.{Rule, ByElement, ByVariable, BySet, ByReflexivity, ByTransitivity, ByTypeVariable, ByTop, ByFunction, ByTypeFunction, ByBox, ByCapturing, Claim, SetBelow, ShapeBelow, TypeBelow, OfType, Derivation, Node, Premises, NoPremise, Premise, one, two, conclusion, IsValidComparison, AreBelow}
use Rattle.cc_derivation.specs.Rows.{Place, SetsBelow, ShapesBelow, TypesBelow, Row, row, row_at, set_row, shape_row, type_row, variable_row, functions_row, type_functions_row, boxes_row, is_element, is_declared, entry_at, is_chain, is_bound, is_bounded, is_greatest, same_claim, same_claims}
use Rattle.cc_derivation.specs.Broken.{claims_of, are_as_many}
use Rattle.cc_derivation.specs.ValidityLaws.{IsOfSets, IsOfShapes, IsOfTypes}
use Rattle.cc_derivation.proofs.RowHolds.{IsValidAt, AreValidAt, Provided, RowHolds}
use Rattle.cc_derivation.proofs.Tests.{both, joined, shapes_same, same_shapes, sets_same, same_sets, claims_same, claim_same, one_same, one_wanted, two_same, two_wanted}

-- what is concluded has its kind

of_sets : {claim : Claim} (left right : Set) → claim ≡ SetBelow left right → IsOfSets claim
of_sets left right e = subst IsOfSets (sym e) tt

of_shapes : {claim : Claim} (left right : Shape) → claim ≡ ShapeBelow left right → IsOfShapes claim
of_shapes left right e = subst IsOfShapes (sym e) tt

of_types : {claim : Claim} (left right : CapturingType) → claim ≡ TypeBelow left right → IsOfTypes claim
of_types left right e = subst IsOfTypes (sym e) tt

-- sets of one element

only : (left : Set) (e : Elem) → left.list ≡ e ∷ [] → left ≡ single e
unfolding insert placed empty
only left e same = same_list left (single e) same

element_true : (list : List Elem) (right : Set) → is_element list right ≡ true → (e : Elem) × (list ≡ e ∷ []) × Member e right
element_true [] right h = cc
element_true (e ∷ []) right h = (e, refl, h)
element_true (e ∷ x ∷ list) right h = cc

-- a variable alone

variable_true : (g : Context) (list : List Elem) (right : Set) (premises : Premises) → RowHolds (variable_row g list right) premises
    → (v : Var) × (list ≡ Variable v ∷ []) × RowHolds (Some (row (SetsBelow g ∷ []) (is_declared (entry_at g v) right))) premises
variable_true g [] right premises h = absurd h
variable_true g (Variable v ∷ []) right premises h = (v, refl, h)
variable_true g (Cap ∷ []) right premises h = absurd h
variable_true g (Hole n ∷ []) right premises h = absurd h
variable_true g (Variable v ∷ x ∷ list) right premises h = absurd h
variable_true g (Cap ∷ x ∷ list) right premises h = absurd h
variable_true g (Hole n ∷ x ∷ list) right premises h = absurd h

declared_true : (g : Context) (v : Var) (right : Set) (claim : Claim) → is_declared (entry_at g v) right (claim ∷ []) ≡ true
    → (position : ℕ) × (shape : Shape) × (declared : Set) × (v ≡ Free position) × (lookup g position ≡ Some (TermEntry shape declared)) × (claim ≡ SetBelow declared right)
declared_true g (Bound i) right claim h = cc
declared_true g (Free position) right claim h = there (lookup g position) refl h
  where
    there : (entry : Option Bind) → lookup g position ≡ entry → is_declared entry right (claim ∷ []) ≡ true
        → (at : ℕ) × (shape : Shape) × (declared : Set) × (Free position ≡ Free at) × (lookup g at ≡ Some (TermEntry shape declared)) × (claim ≡ SetBelow declared right)
    there (Some (TermEntry shape declared)) e h = (position, shape, declared, refl, e, one_same claim (SetBelow declared right) h)
    there (Some (TypeEntry bound)) e h = cc
    there None e h = cc

declared_tested : (g : Context) (position : ℕ) (shape : Shape) (declared right : Set) (claim : Claim) → lookup g position ≡ Some (TermEntry shape declared) → claim ≡ SetBelow declared right
    → is_declared (lookup g position) right (claim ∷ []) ≡ true
declared_tested g position shape declared right claim there same = rw there (one_wanted claim (SetBelow declared right) same)

-- the elements of a set

elements_true : (g : Context) (list : List Elem) (right : Set) (premises : Premises)
    → Provided (are_as_many (map (λ e. SetsBelow g) list) (claims_of premises))
    (AreValidAt (map (λ e. SetsBelow g) list) premises × (same_claims (claims_of premises) (map (λ e. SetBelow (single e) right) list) ≡ true))
    → AreBelow g list right premises
elements_true g [] right NoPremise h = tt
elements_true g [] right (Premise p rest) h = absurd h
elements_true g (e ∷ list) right NoPremise h = absurd h
elements_true g (e ∷ list) right (Premise p rest) h =
    let t = parts (are_as_many (map (λ x. SetsBelow g) list) (claims_of rest)) h in
    (t.0, t.1, elements_true g list right rest t.2)
  where
    parts : (b : Bool) → Provided b ((IsValidAt (SetsBelow g) p × AreValidAt (map (λ x. SetsBelow g) list) rest) × ((same_claim (conclusion p) (SetBelow (single e) right) && same_claims (claims_of rest) (map (λ x. SetBelow (single x) right) list)) ≡ true))
        → IsValidComparison g p × (conclusion p ≡ SetBelow (single e) right)
        × Provided b (AreValidAt (map (λ x. SetsBelow g) list) rest × (same_claims (claims_of rest) (map (λ x. SetBelow (single x) right) list) ≡ true))
    parts true h =
        let t = both (same_claim (conclusion p) (SetBelow (single e) right)) (same_claims (claims_of rest) (map (λ x. SetBelow (single x) right) list)) h.1 in
        (h.0.0.0, claims_same (conclusion p) (SetBelow (single e) right) t.0, (h.0.1, t.1))
    parts false h = absurd h

elements_hold : (g : Context) (list : List Elem) (right : Set) (premises : Premises) → AreBelow g list right premises
    → Provided (are_as_many (map (λ e. SetsBelow g) list) (claims_of premises))
    (AreValidAt (map (λ e. SetsBelow g) list) premises × (same_claims (claims_of premises) (map (λ e. SetBelow (single e) right) list) ≡ true))
elements_hold g [] right NoPremise h = (tt, refl)
elements_hold g [] right (Premise p rest) h = absurd h
elements_hold g (e ∷ list) right NoPremise h = absurd h
elements_hold g (e ∷ list) right (Premise p rest) h =
    put (are_as_many (map (λ x. SetsBelow g) list) (claims_of rest)) (elements_hold g list right rest h.2)
  where
    put : (b : Bool) → Provided b (AreValidAt (map (λ x. SetsBelow g) list) rest × (same_claims (claims_of rest) (map (λ x. SetBelow (single x) right) list) ≡ true))
        → Provided b ((IsValidAt (SetsBelow g) p × AreValidAt (map (λ x. SetsBelow g) list) rest) × ((same_claim (conclusion p) (SetBelow (single e) right) && same_claims (claims_of rest) (map (λ x. SetBelow (single x) right) list)) ≡ true))
    put true others =
        (((h.0, of_sets (single e) right h.1), others.0), joined _ _ (claim_same (conclusion p) (SetBelow (single e) right) h.1) others.1)
    put false others = absurd others

-- comparisons of sets

set_node : (g : Context) (rule : Rule) (premises : Premises) (left right : Set) → RowHolds (set_row g rule left right) premises
    → IsValidComparison g (Node rule premises (SetBelow left right))
set_node g ByElement NoPremise left right h =
    let t = element_true left.list right h.1 in
    let same : left ≡ single t.0 = only left t.0 t.1 in
    (t.0, right, t.2, λ i. SetBelow (same i) right)
set_node g ByElement (Premise p rest) left right h = absurd h
set_node g ByVariable premises left right h =
    let t = variable_true g left.list right premises h in
    by_premises t.0 t.1 premises t.2
  where
    by_premises : (v : Var) → left.list ≡ Variable v ∷ [] → (premises : Premises) → RowHolds (Some (row (SetsBelow g ∷ []) (is_declared (entry_at g v) right))) premises
        → IsValidComparison g (Node ByVariable premises (SetBelow left right))
    by_premises v e NoPremise h = absurd h
    by_premises v e (one p) h =
        let t = declared_true g v right (conclusion p) h.1 in
        let same : left ≡ single (Variable v) = only left (Variable v) e in
        let free : v ≡ Free t.0 = t.3 in
        let whole : left ≡ variable_set (Free t.0) = subst (λ w. left ≡ single (Variable w)) free same in
        (t.0, t.1, t.2, right, t.4, h.0.0.0, t.5, λ i. SetBelow (whole i) right)
    by_premises v e (Premise p (Premise q rest)) h = absurd h
set_node g BySet premises left right h = (left, right, elements_true g left.list right premises h, refl)
set_node g _ premises left right h = absurd h

-- comparisons of shapes

chain_true : (left right : Shape) (p q : Claim) → is_chain left right (p ∷ q ∷ []) ≡ true
    → (middle : Shape) × (p ≡ ShapeBelow left middle) × (q ≡ ShapeBelow middle right)
chain_true left right (ShapeBelow first middle) (ShapeBelow middle' last) h =
    let t = both (same_shape first left) (same_shape middle middle' && same_shape last right) h in
    let u = both (same_shape middle middle') (same_shape last right) t.1 in
    let a = shapes_same first left t.0 in
    let b = shapes_same middle middle' u.0 in
    let c = shapes_same last right u.1 in
    (middle, λ i. ShapeBelow (a i) middle, λ i. ShapeBelow ((sym b) i) (c i))
chain_true left right _ _ h = cc

chain_tested : (left middle right : Shape) (p q : Claim) → p ≡ ShapeBelow left middle → q ≡ ShapeBelow middle right → is_chain left right (p ∷ q ∷ []) ≡ true
chain_tested left middle right p q same same' =
    rw (same, same') (joined _ _ (same_shapes left left refl) (joined _ _ (same_shapes middle middle refl) (same_shapes right right refl)))

bounded_true : (g : Context) (left right : Shape) → is_bounded g left right ≡ true
    → (position : ℕ) × (left ≡ TypeVariable (Free position)) × (lookup g position ≡ Some (TypeEntry right))
bounded_true g (TypeVariable (Bound i)) right h = cc
bounded_true g (TypeVariable (Free position)) right h = there (lookup g position) refl h
  where
    there : (entry : Option Bind) → lookup g position ≡ entry → is_bound entry right ≡ true
        → (at : ℕ) × (TypeVariable (Free position) ≡ TypeVariable (Free at)) × (lookup g at ≡ Some (TypeEntry right))
    there (Some (TypeEntry bound)) e h = (position, refl, subst (λ b. lookup g position ≡ Some (TypeEntry b)) (shapes_same bound right h) e)
    there (Some (TermEntry shape declared)) e h = cc
    there None e h = cc
bounded_true g _ right h = cc

bounded_tested : (g : Context) (position : ℕ) (bound : Shape) → lookup g position ≡ Some (TypeEntry bound) → is_bound (lookup g position) bound ≡ true
bounded_tested g position bound there = rw there (same_shapes bound bound refl)

greatest_true : (shape : Shape) → is_greatest shape ≡ true → shape ≡ AnyShape
greatest_true AnyShape h = refl
greatest_true _ h = cc

functions_node : (g : Context) (left right : Shape) (premises : Premises) → RowHolds (functions_row g left right) premises
    → IsValidComparison g (Node ByFunction premises (ShapeBelow left right))
functions_node g (FunctionShape takes c gives e) (FunctionShape takes' c' gives' e') (two p q) h =
    let t = two_same (conclusion p) (conclusion q) _ _ h.1 in
    (takes, c, gives, e, takes', c', gives', e', h.0.0.0, t.0, h.0.1.0.0, t.1, refl)
functions_node g _ _ premises h = absurd h

type_functions_node : (g : Context) (left right : Shape) (premises : Premises) → RowHolds (type_functions_row g left right) premises
    → IsValidComparison g (Node ByTypeFunction premises (ShapeBelow left right))
type_functions_node g (TypeFunctionShape bound gives e) (TypeFunctionShape bound' gives' e') premises h =
    by_test (same_shape bound bound') refl premises h
  where
    by_test : (b : Bool) → same_shape bound bound' ≡ b → (premises : Premises)
        → RowHolds (if b then Some (row (ShapesBelow g ∷ TypesBelow (TypeEntry bound ∷ g) ∷ []) (λ claims. same_claims claims (ShapeBelow bound bound ∷ TypeBelow (opened_type (length g) (capturing gives e)) (opened_type (length g) (capturing gives' e')) ∷ []))) else None) premises
        → IsValidComparison g (Node ByTypeFunction premises (ShapeBelow (TypeFunctionShape bound gives e) (TypeFunctionShape bound' gives' e')))
    by_test false same premises h = absurd h
    by_test true same (two p q) h =
        let t = two_same (conclusion p) (conclusion q) _ _ h.1 in
        let bounds : bound ≡ bound' = shapes_same bound bound' same in
        (bound, gives, e, gives', e', h.0.0.0, t.0, h.0.1.0.0, t.1, λ i. ShapeBelow (TypeFunctionShape bound gives e) (TypeFunctionShape ((sym bounds) i) gives' e'))
    by_test true same NoPremise h = absurd h
    by_test true same (one p) h = absurd h
    by_test true same (Premise p (Premise q (Premise r rest))) h = absurd h
type_functions_node g _ _ premises h = absurd h

boxes_node : (g : Context) (left right : Shape) (premises : Premises) → RowHolds (boxes_row g left right) premises
    → IsValidComparison g (Node ByBox premises (ShapeBelow left right))
boxes_node g (BoxShape content c) (BoxShape content' c') (one p) h =
    (content, c, content', c', h.0.0.0, one_same (conclusion p) _ h.1, refl)
boxes_node g _ _ premises h = absurd h

shape_node : (g : Context) (rule : Rule) (premises : Premises) (left right : Shape) → RowHolds (shape_row g rule left right) premises
    → IsValidComparison g (Node rule premises (ShapeBelow left right))
shape_node g ByReflexivity NoPremise left right h =
    let same : left ≡ right = shapes_same left right h.1 in
    (right, λ i. ShapeBelow (same i) right)
shape_node g ByTransitivity (two p q) left right h =
    let t = chain_true left right (conclusion p) (conclusion q) h.1 in
    (left, t.0, right, h.0.0.0, t.1, h.0.1.0.0, t.2, refl)
shape_node g ByTypeVariable NoPremise left right h =
    let t = bounded_true g left right h.1 in
    let same : left ≡ TypeVariable (Free t.0) = t.1 in
    (t.0, right, t.2, λ i. ShapeBelow (same i) right)
shape_node g ByTop NoPremise left right h =
    let same : right ≡ AnyShape = greatest_true right h.1 in
    (left, λ i. ShapeBelow left (same i))
shape_node g ByFunction premises left right h = functions_node g left right premises h
shape_node g ByTypeFunction premises left right h = type_functions_node g left right premises h
shape_node g ByBox premises left right h = boxes_node g left right premises h
shape_node g _ premises left right h = absurd h

-- comparisons of types

type_node : (g : Context) (rule : Rule) (premises : Premises) (left right : CapturingType) → RowHolds (type_row g rule left right) premises
    → IsValidComparison g (Node rule premises (TypeBelow left right))
type_node g ByCapturing (two p q) left right h =
    let t = two_same (conclusion p) (conclusion q) _ _ h.1 in
    (left, right, h.0.0.0, t.0, h.0.1.0.0, t.1, refl)
type_node g _ premises left right h = absurd h

pub sets_valid : (g : Context) (rule : Rule) (premises : Premises) (claim : Claim) → RowHolds (row_at (SetsBelow g) rule claim) premises
    → IsValidAt (SetsBelow g) (Node rule premises claim)
sets_valid g rule premises (SetBelow left right) h = (set_node g rule premises left right h, tt)
sets_valid g rule premises _ h = absurd h

pub shapes_valid : (g : Context) (rule : Rule) (premises : Premises) (claim : Claim) → RowHolds (row_at (ShapesBelow g) rule claim) premises
    → IsValidAt (ShapesBelow g) (Node rule premises claim)
shapes_valid g rule premises (ShapeBelow left right) h = (shape_node g rule premises left right h, tt)
shapes_valid g rule premises _ h = absurd h

pub types_valid : (g : Context) (rule : Rule) (premises : Premises) (claim : Claim) → RowHolds (row_at (TypesBelow g) rule claim) premises
    → IsValidAt (TypesBelow g) (Node rule premises claim)
types_valid g rule premises (TypeBelow left right) h = (type_node g rule premises left right h, tt)
types_valid g rule premises _ h = absurd h

-- the other way: the place of each kind of claim
abbrev pub kind_place : Context → Claim → Place
kind_place g (SetBelow left right) = SetsBelow g
kind_place g (ShapeBelow left right) = ShapesBelow g
kind_place g (TypeBelow left right) = TypesBelow g
kind_place g (OfType type) = SetsBelow g

-- the row of a node whose claim is known
known : (g : Context) (rule : Rule) (premises : Premises) {claim claim' : Claim} → claim ≡ claim'
    → RowHolds (row_at (kind_place g claim') rule claim') premises → RowHolds (row_at (kind_place g claim) rule claim) premises
known g rule premises same holds = subst (λ c. RowHolds (row_at (kind_place g c) rule c) premises) (sym same) holds

element_row : (g : Context) (e : Elem) (right : Set) → Member e right → RowHolds (set_row g ByElement (single e) right) NoPremise
unfolding insert placed empty
element_row g e right here = (tt, here)

declared_row : (g : Context) (position : ℕ) (right : Set) (p : Derivation) → IsValidAt (SetsBelow g) p → is_declared (lookup g position) right (conclusion p ∷ []) ≡ true
    → RowHolds (set_row g ByVariable (variable_set (Free position)) right) (one p)
unfolding insert placed empty
declared_row g position right p valid holds = ((valid, tt), holds)

bounds_row : (g : Context) (bound gives : Shape) (e : Set) (gives' : Shape) (e' : Set) (premises : Premises)
    → RowHolds (Some (row (ShapesBelow g ∷ TypesBelow (TypeEntry bound ∷ g) ∷ []) (λ claims. same_claims claims (ShapeBelow bound bound ∷ TypeBelow (opened_type (length g) (capturing gives e)) (opened_type (length g) (capturing gives' e')) ∷ [])))) premises
    → RowHolds (type_functions_row g (TypeFunctionShape bound gives e) (TypeFunctionShape bound gives' e')) premises
bounds_row g bound gives e gives' e' premises h =
    let same : same_shape bound bound ≡ true = same_shapes bound bound refl in
    rw same h

pub valid_comparison : (g : Context) (rule : Rule) (premises : Premises) (claim : Claim) → IsValidComparison g (Node rule premises claim)
    → RowHolds (row_at (kind_place g claim) rule claim) premises
valid_comparison g ByElement NoPremise claim h = known g ByElement NoPremise h.3 (element_row g h.0 h.1 h.2)
valid_comparison g ByVariable (one p) claim h =
    known g ByVariable (one p) h.7 (declared_row g h.0 h.3 p (h.5, of_sets h.2 h.3 h.6) (declared_tested g h.0 h.1 h.2 h.3 (conclusion p) h.4 h.6))
valid_comparison g BySet premises claim h = known g BySet premises h.3 (elements_hold g h.0.list h.1 premises h.2)
valid_comparison g ByReflexivity NoPremise claim h = known g ByReflexivity NoPremise h.1 (tt, same_shapes h.0 h.0 refl)
valid_comparison g ByTransitivity (two p q) claim h =
    known g ByTransitivity (two p q) h.7
    (((h.3, of_shapes h.0 h.1 h.4), ((h.5, of_shapes h.1 h.2 h.6), tt)), chain_tested h.0 h.1 h.2 (conclusion p) (conclusion q) h.4 h.6)
valid_comparison g ByTypeVariable NoPremise claim h = known g ByTypeVariable NoPremise h.3 (tt, bounded_tested g h.0 h.1 h.2)
valid_comparison g ByTop NoPremise claim h = known g ByTop NoPremise h.1 (tt, refl)
valid_comparison g ByFunction (two p q) claim h =
    known g ByFunction (two p q) h.12
    (((h.8, of_types _ _ h.9), ((h.10, of_types _ _ h.11), tt)), two_wanted (conclusion p) (conclusion q) _ _ h.9 h.11)
valid_comparison g ByTypeFunction (two p q) claim h =
    known g ByTypeFunction (two p q) h.9
    (bounds_row g h.0 h.1 h.2 h.3 h.4 (two p q)
    (((h.5, of_shapes h.0 h.0 h.6), ((h.7, of_types _ _ h.8), tt)), two_wanted (conclusion p) (conclusion q) _ _ h.6 h.8))
valid_comparison g ByBox (one p) claim h =
    known g ByBox (one p) h.6 (((h.4, of_types _ _ h.5), tt), one_wanted (conclusion p) _ h.5)
valid_comparison g ByCapturing (two p q) claim h =
    known g ByCapturing (two p q) h.6
    (((h.2, of_sets h.0.set h.1.set h.3), ((h.4, of_shapes h.0.shape h.1.shape h.5), tt)), two_wanted (conclusion p) (conclusion q) _ _ h.3 h.5)
valid_comparison g _ premises claim h = absurd h
