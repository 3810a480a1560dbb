use Rattle.std.proofs.Common.{◌++◌, ap, ◌∙◌}
use Rattle.std.proofs.lemmas.Result.{IfOk-weaker}
use Rattle.cc_core.specs.TermViews.{shape_of, type_of}
use Rattle.cc_labels.specs.LabelTexts.{labels_in}
use Rattle.cc_cause_texts.proofs.ToldCauses.{pure_told}
use Rattle.cc_cause_texts.proofs.single_lines.shape_line.Goals as goal

pub returns : goal.returns
returns c =
    let labels = c.args.labels.now.value in
    IfOk-weaker c.type_line.result _ _
    (λ l h. h ∙ ap (λ t. c.args.words.now ++ t)
    (pure_told (labels_in labels) labels.locals (shape_of c.args.shape.now.value) (type_of c.in_ok-ty.ty) c.in_ok-ty.ensures))
    c.type_line.ensures
