-- The test of a demand, from the tests of its sets.
use Rattle.std.proofs.Common.{◌≡◌, ◌↔◌, Bool, true, false, cond, refl, ap, ◌∙◌}
use Rattle.std.specs.Prelude.{IsTrue}
use Rattle.std.proofs.lemmas.Bool.{both_ways}
use Rattle.cc_capture.specs.Sets.{Set, is_subset}
use Rattle.cc_core.specs.Occurrences.{HasNoHoleInSet}
use Rattle.cc_core.specs.Subcapturing.{SubcapturesSet}
use Rattle.cc_core.specs.WellFormed.{IsWellFormedContext, IsWellFormedSet}
use Rattle.cc_core.proofs.OccurrenceTests.{SaysNo, hole-decides}
use Rattle.cc_checking.specs.Comparison.{Demand}
use Rattle.cc_known.specs.Keeping.{is_below, has_hole, is_demand_settled}
use Rattle.cc_known.proofs.KeptDemands.{test_of_sets_decides}

-- two tests of one fact
pub tests_alike : (a b : Bool) (Fact : Type 0) → (IsTrue a ↔ Fact) → (IsTrue b ↔ Fact) → a ≡ b
tests_alike true true Fact p q = refl
tests_alike true false Fact p q = let clash : IsTrue false = q.1 (p.0 refl) in absurd (both_ways false refl clash)
tests_alike false true Fact p q = let clash : IsTrue false = p.1 (q.0 refl) in absurd (both_ways false refl clash)
tests_alike false false Fact p q = refl

no_tests_alike : (a b : Bool) (Fact : Type 0) → SaysNo a Fact → SaysNo b Fact → a ≡ b
no_tests_alike true true Fact p q = refl
no_tests_alike true false Fact p q = let clash : true ≡ false = p.1 (q.0 refl) in cc
no_tests_alike false true Fact p q = let clash : true ≡ false = q.1 (p.0 refl) in cc
no_tests_alike false false Fact p q = refl

-- a test that says no of a hole is the test of a hole
pub hole_test : (hole : Bool) (c : Set) → ((hole ≡ false) ↔ HasNoHoleInSet c) → hole ≡ has_hole c
hole_test hole c h = no_tests_alike hole (has_hole c) (HasNoHoleInSet c) h (hole-decides.in_set 0 c)

-- a test that decides subcapturing is the test of sets
pub below_test : (below : Bool) (d : Demand) → IsWellFormedContext d.context → IsWellFormedSet d.context d.left
    → (IsTrue below ↔ SubcapturesSet d.context d.left d.right) → below ≡ is_below d.context d.left d.right
below_test below d formed known h =
    tests_alike below (is_below d.context d.left d.right) (SubcapturesSet d.context d.left d.right) h
    (test_of_sets_decides d.context d.left d.right formed known)

-- together they are the test of the demand
pub demand_test : (hole below : Bool) (d : Demand) → IsWellFormedContext d.context → IsWellFormedSet d.context d.left
    → ((hole ≡ false) ↔ HasNoHoleInSet d.right) → (IsTrue below ↔ SubcapturesSet d.context d.left d.right)
    → cond hole (is_subset d.left d.right) below ≡ is_demand_settled d
demand_test hole below d formed known holes decides =
    ap (λ h. cond h (is_subset d.left d.right) below) (hole_test hole d.right holes)
    ∙ ap (λ b. cond (has_hole d.right) (is_subset d.left d.right) b) (below_test below d formed known decides)
