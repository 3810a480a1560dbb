use Rattle.std.proofs.Common.{◌≡◌, ◌++◌, length, map}
use Rattle.cc_labels.specs.LabelTexts.{label_of}
use Rattle.cc_reasons.specs.ReasonTexts.{local_name}
use Rattle.cc_causes.specs.Views.{locals_of}
use Rattle.cc_cause_texts.proofs.scene_labels.put_locals.Given as goal

-- the labels up to here, and those that are to come
abbrev pub invariant-loop-rest : goal.invariant-loop-rest
invariant-loop-rest l =
    map label_of l.labels.items ++ map local_name (locals_of l.rest)
    ≡ map label_of l.fn.labels.items ++ map local_name (locals_of l.locals)

abbrev pub decreases-loop-rest : goal.decreases-loop-rest
decreases-loop-rest l = length (locals_of l.rest)
