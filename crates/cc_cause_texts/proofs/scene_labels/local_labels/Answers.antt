use Rattle.std.proofs.Common.{ap, ◌∙◌, ◌++◌, map, reverse}
use Rattle.cc_labels.specs.declared.labels.Label.{Label}
use Rattle.cc_labels.specs.LabelTexts.{label_of}
use Rattle.cc_reasons.specs.ReasonTexts.{local_name}
use Rattle.cc_causes.specs.Views.{locals_of}
use Rattle.std.specs.Prelude.{List}
use Rattle.cc_cause_texts.proofs.SceneLabels.{reversed_map}
use Rattle.cc_cause_texts.proofs.scene_labels.local_labels.Goals as goal

pub returns : goal.returns
returns c =
    ap (map label_of) c.reverse.ensures.items ∙ reversed_map label_of c.put_locals.new.labels.items
    ∙ ap reverse
    (c.in_ok-put_locals.ensures
    ∙ ap (λ (l : List Label). map label_of l ++ map local_name (locals_of c.args.locals.now)) c.new-labels.ensures.items)
