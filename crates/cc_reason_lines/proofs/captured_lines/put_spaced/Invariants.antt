use Rattle.std.proofs.Common.{◌≡◌, ◌++◌, take}
use Rattle.std.specs.String.{string_bytes}
use Rattle.cc_reason_lines.specs.LabelledChains.{labelled_all}
use Rattle.cc_reason_lines.proofs.captured_lines.put_spaced.Given as goal

abbrev pub invariant-loop-elem : goal.invariant-loop-elem
invariant-loop-elem l = string_bytes l.out ≡ string_bytes l.fn.out ++ labelled_all l.labels (take l.elem-index l.elems)
