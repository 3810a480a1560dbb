use Rattle.std.proofs.Common.{◌≡◌, ◌≤◌, take, fold, bit_or}
use Rattle.cc_core.specs.TermViews.{term_of}
use Rattle.cc_binding.specs.NamedBits.{named_bits}
use Rattle.cc_binding.proofs.naming.module_bits.Given as goal

abbrev pub invariant-loop-def : goal.invariant-loop-def
invariant-loop-def l = record {
  bits : l.bits ≡ fold (λ bits it. bit_or bits (named_bits l.first (term_of it.checked.filled.value))) 0 (take l.def-index l.«module».defs.items);
  within : 4294967296 ≤ l.first → l.bits ≡ 0;
}
