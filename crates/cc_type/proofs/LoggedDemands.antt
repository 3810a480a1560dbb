-- Tests that say the same.
use Rattle.std.proofs.Common.{◌≡◌, ◌↔◌, Bool, true, false, refl}
use Rattle.cc_core.proofs.OccurrenceTests.{SaysNo}

-- two tests that say no to the same are the same
pub same_answers : (a b : Bool) {Fact : Type 0} → SaysNo a Fact → SaysNo b Fact → a ≡ b
same_answers true true p q = refl
same_answers false false p q = refl
same_answers true false p q = let e : true ≡ false = p.1 (q.0 refl) in cc
same_answers false true p q = let e : true ≡ false = q.1 (p.0 refl) in cc

-- two tests that say yes to the same are the same
pub same_tests : (a b : Bool) {Fact : Type 0} → (a ≡ true) ↔ Fact → (b ≡ true) ↔ Fact → a ≡ b
same_tests true true p q = refl
same_tests false false p q = refl
same_tests true false p q = let e : false ≡ true = q.1 (p.0 refl) in cc
same_tests false true p q = let e : false ≡ true = p.1 (q.0 refl) in cc
