-- Two tests that say no of the same fact are one.
use Rattle.std.proofs.Common.{◌≡◌, Bool, true, false, refl, sym}
use Rattle.cc_core.proofs.OccurrenceTests.{SaysNo}

pub same_answers : (a b : Bool) {Fact : Type 0} → SaysNo a Fact → SaysNo b Fact → a ≡ b
same_answers true true p q = refl
same_answers false false p q = refl
same_answers true false p q = p.1 (q.0 refl)
same_answers false true p q = sym (q.1 (p.0 refl))
