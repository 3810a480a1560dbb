use Rattle.std.proofs.Common.{◌≡◌, map, take}
use Rattle.cc_labels.specs.LabelTexts.{label_of}
use Rattle.cc_cause_texts.proofs.scene_labels.name_labels.Given as goal

abbrev pub invariant-loop-name : goal.invariant-loop-name
invariant-loop-name l = map label_of l.labels.items ≡ take l.name-index l.names
