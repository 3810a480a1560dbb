use Rattle.std.proofs.Common.{◌≡◌, ◌≤◌, fold, bit_or}
use Rattle.cc_binding.specs.NamedBits.{element_bit}
use Rattle.cc_binding.proofs.naming.set_bits.Given as goal

abbrev pub invariant-loop-elem : goal.invariant-loop-elem
invariant-loop-elem l = record {
  bits : l.bits ≡ fold (λ bits e. bit_or bits (element_bit l.first e)) 0 l.yielded;
  within : 4294967296 ≤ l.first → l.bits ≡ 0;
}
