use Rattle.std.proofs.Common.{◌≡◌, ◌++◌, take}
use Rattle.std.specs.String.{string_bytes}
use Rattle.cc_certificate_text.specs.NodeTexts.{other_numbers}
use Rattle.cc_certificate_writing.proofs.claims.put_others.Given as goal

abbrev pub invariant-loop-number : goal.invariant-loop-number
invariant-loop-number l =
    string_bytes l.out ≡ string_bytes l.fn.out ++ other_numbers (take l.number-index l.numbers)
