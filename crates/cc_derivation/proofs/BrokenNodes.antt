-- No node breaks its rule exactly where the derivation is valid at its place.
use Rattle.std.proofs.Common.{◌≡◌, ◌↔◌, ℕ, Bool, true, false, List, [], ◌∷◌, ◌++◌, Option, Some, None, refl}
use Rattle.std.specs.Prelude.{if◌then◌else◌}
use Rattle.cc_core.specs.Terms.{Term}
use Rattle.cc_core.specs.Contexts.{Context}
use Rattle.cc_core.specs.Derivations.{Rule, Claim, SetBelow, ShapeBelow, TypeBelow, OfType, Derivation, Node, Premises, NoPremise, Premise, IsValidComparison}
use Rattle.cc_derivation.specs.Numbers.{own_number}
use Rattle.cc_derivation.specs.Rows.{Place, Nowhere, TypeOf, SetsBelow, ShapesBelow, TypesBelow, Row, row_at}
use Rattle.cc_derivation.specs.Broken.{claims_of, are_as_many, broken_at, broken, broken_among}
use Rattle.cc_derivation.specs.ValidityLaws.{IsOfSets, IsOfShapes, IsOfTypes, ValidTypingsHaveNoBrokenNode, ValidSetComparisonsHaveNoBrokenNode, ValidShapeComparisonsHaveNoBrokenNode, ValidTypeComparisonsHaveNoBrokenNode}
use Rattle.cc_derivation.proofs.RowHolds.{IsValidAt, AreValidAt, Provided, RowHolds}
use Rattle.cc_derivation.proofs.TypingRows.{typing_valid, valid_typing}
use Rattle.cc_derivation.proofs.ComparisonRows.{sets_valid, shapes_valid, types_valid, kind_place, valid_comparison}

no_parts : (xs ys : List ℕ) → xs ++ ys ≡ [] → (xs ≡ []) × (ys ≡ [])
no_parts [] ys h = (refl, h)
no_parts (x ∷ xs) ys h = cc

instance : (number : ℕ) (b : Bool) → (if b then [] else number ∷ []) ≡ [] → b ≡ true
instance number true e = refl
instance number false e = cc

-- a node with its row

row_true : (number before : ℕ) (row : Option Row) (premises : Premises)
    → ((places : List Place) → broken_among before places premises ≡ [] → AreValidAt places premises)
    → broken_at number row (claims_of premises) (λ places. broken_among before places premises) ≡ [] → RowHolds row premises
row_true number before None premises inner h = cc
row_true number before (Some row) premises inner h =
    counted (are_as_many (row.places (claims_of premises)) (claims_of premises)) h
  where
    counted : (b : Bool)
        → (if b then broken_among before (row.places (claims_of premises)) premises ++ (if row.is_instance (claims_of premises) then [] else number ∷ []) else number ∷ []) ≡ []
        → Provided b (AreValidAt (row.places (claims_of premises)) premises × (row.is_instance (claims_of premises) ≡ true))
    counted true e =
        let t = no_parts (broken_among before (row.places (claims_of premises)) premises) _ e in
        (inner (row.places (claims_of premises)) t.0, instance number (row.is_instance (claims_of premises)) t.1)
    counted false e = cc

row_whole : (number before : ℕ) (row : Option Row) (premises : Premises)
    → ((places : List Place) → AreValidAt places premises → broken_among before places premises ≡ [])
    → RowHolds row premises → broken_at number row (claims_of premises) (λ places. broken_among before places premises) ≡ []
row_whole number before None premises inner h = absurd h
row_whole number before (Some row) premises inner h =
    counted (are_as_many (row.places (claims_of premises)) (claims_of premises)) h
  where
    counted : (b : Bool)
        → Provided b (AreValidAt (row.places (claims_of premises)) premises × (row.is_instance (claims_of premises) ≡ true))
        → (if b then broken_among before (row.places (claims_of premises)) premises ++ (if row.is_instance (claims_of premises) then [] else number ∷ []) else number ∷ []) ≡ []
    counted true e = rw (inner (row.places (claims_of premises)) e.0, e.1) refl
    counted false e = absurd e

mutual
  sound : (before : ℕ) (place : Place) (d : Derivation) → broken before place d ≡ [] → IsValidAt place d
  sound before Nowhere d h = tt
  sound before (TypeOf g t) (Node rule premises claim) h =
      typing_valid g t rule premises claim (row_true (own_number before (Node rule premises claim)) before (row_at (TypeOf g t) rule claim) premises (λ places e. sound_among before places premises e) h)
  sound before (SetsBelow g) (Node rule premises claim) h =
      sets_valid g rule premises claim (row_true (own_number before (Node rule premises claim)) before (row_at (SetsBelow g) rule claim) premises (λ places e. sound_among before places premises e) h)
  sound before (ShapesBelow g) (Node rule premises claim) h =
      shapes_valid g rule premises claim (row_true (own_number before (Node rule premises claim)) before (row_at (ShapesBelow g) rule claim) premises (λ places e. sound_among before places premises e) h)
  sound before (TypesBelow g) (Node rule premises claim) h =
      types_valid g rule premises claim (row_true (own_number before (Node rule premises claim)) before (row_at (TypesBelow g) rule claim) premises (λ places e. sound_among before places premises e) h)

  sound_among : (before : ℕ) (places : List Place) (premises : Premises) → broken_among before places premises ≡ [] → AreValidAt places premises
  sound_among before (place ∷ places) (Premise first rest) h =
      let t = no_parts (broken before place first) _ h in
      (sound before place first t.0, sound_among (own_number before first) places rest t.1)
  sound_among before (place ∷ places) NoPremise h = tt
  sound_among before [] premises h = tt

-- a valid comparison at the place of its kind
sets_row : (g : Context) (rule : Rule) (premises : Premises) (claim : Claim) → IsValidComparison g (Node rule premises claim) → IsOfSets claim
    → RowHolds (row_at (SetsBelow g) rule claim) premises
sets_row g rule premises (SetBelow left right) h kind = valid_comparison g rule premises (SetBelow left right) h
sets_row g rule premises _ h kind = absurd kind

shapes_row : (g : Context) (rule : Rule) (premises : Premises) (claim : Claim) → IsValidComparison g (Node rule premises claim) → IsOfShapes claim
    → RowHolds (row_at (ShapesBelow g) rule claim) premises
shapes_row g rule premises (ShapeBelow left right) h kind = valid_comparison g rule premises (ShapeBelow left right) h
shapes_row g rule premises _ h kind = absurd kind

types_row : (g : Context) (rule : Rule) (premises : Premises) (claim : Claim) → IsValidComparison g (Node rule premises claim) → IsOfTypes claim
    → RowHolds (row_at (TypesBelow g) rule claim) premises
types_row g rule premises (TypeBelow left right) h kind = valid_comparison g rule premises (TypeBelow left right) h
types_row g rule premises _ h kind = absurd kind

mutual
  whole : (before : ℕ) (place : Place) (d : Derivation) → IsValidAt place d → broken before place d ≡ []
  whole before Nowhere d h = refl
  whole before (TypeOf g t) (Node rule premises claim) h =
      row_whole (own_number before (Node rule premises claim)) before (row_at (TypeOf g t) rule claim) premises (λ places e. whole_among before places premises e) (valid_typing g t rule premises claim h)
  whole before (SetsBelow g) (Node rule premises claim) h =
      row_whole (own_number before (Node rule premises claim)) before (row_at (SetsBelow g) rule claim) premises (λ places e. whole_among before places premises e) (sets_row g rule premises claim h.0 h.1)
  whole before (ShapesBelow g) (Node rule premises claim) h =
      row_whole (own_number before (Node rule premises claim)) before (row_at (ShapesBelow g) rule claim) premises (λ places e. whole_among before places premises e) (shapes_row g rule premises claim h.0 h.1)
  whole before (TypesBelow g) (Node rule premises claim) h =
      row_whole (own_number before (Node rule premises claim)) before (row_at (TypesBelow g) rule claim) premises (λ places e. whole_among before places premises e) (types_row g rule premises claim h.0 h.1)

  whole_among : (before : ℕ) (places : List Place) (premises : Premises) → AreValidAt places premises → broken_among before places premises ≡ []
  whole_among before (place ∷ places) (Premise first rest) h =
      rw (whole before place first h.0) (whole_among (own_number before first) places rest h.1)
  whole_among before (place ∷ places) NoPremise h = refl
  whole_among before [] premises h = refl

pub valid_typings : ValidTypingsHaveNoBrokenNode
valid_typings before context term d = (sound before (TypeOf context term) d, whole before (TypeOf context term) d)

pub valid_set_comparisons : ValidSetComparisonsHaveNoBrokenNode
valid_set_comparisons before context d = (sound before (SetsBelow context) d, whole before (SetsBelow context) d)

pub valid_shape_comparisons : ValidShapeComparisonsHaveNoBrokenNode
valid_shape_comparisons before context d = (sound before (ShapesBelow context) d, whole before (ShapesBelow context) d)

pub valid_type_comparisons : ValidTypeComparisonsHaveNoBrokenNode
valid_type_comparisons before context d = (sound before (TypesBelow context) d, whole before (TypesBelow context) d)
