use Rattle.std.proofs.Common.{◌≡◌, ◌++◌, length}
use Rattle.std.specs.String.{string_bytes}
use Rattle.cc_print.specs.TypeTexts.{others_text}
use Rattle.cc_labels.specs.LabelTexts.{labels_in}
use Rattle.cc_labels.proofs.printing.put_others.Given as goal

abbrev pub invariant-loop-elem : goal.invariant-loop-elem
invariant-loop-elem l =
    string_bytes l.out ++ others_text (labels_in l.labels) l.depth l.left
    ≡ string_bytes l.fn.out ++ others_text (labels_in l.labels) l.depth l.fn.elems

abbrev pub decreases-loop-elem : goal.decreases-loop-elem
decreases-loop-elem l = length l.left
