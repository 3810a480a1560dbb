use Rattle.std.proofs.Common.{◌≡◌, ◌≤◌, ℕ, List, length, drop}
use Rattle.cc_module_vouching.specs.KeptFindings.{signature_in, first_signature}
use Rattle.cc_module_vouching.proofs.answered.signatures_of.Given as goal

abbrev pub invariant-loop-left : goal.invariant-loop-left
invariant-loop-left l = record {
  within : l.left ≤ length l.definitions;
  finds : (name : List ℕ) → signature_in l.signatures name ≡ first_signature name (drop l.left l.definitions);
}

abbrev pub decreases-loop-left : goal.decreases-loop-left
decreases-loop-left l = l.left
