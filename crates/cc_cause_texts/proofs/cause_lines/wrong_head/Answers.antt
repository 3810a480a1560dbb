use Rattle.std.proofs.Common.{map, codes, ◌∙◌}
use Rattle.std.proofs.lemmas.Result.{IfOk-weaker}
use Rattle.cc_core.specs.TermViews.{shape_of}
use Rattle.cc_labels.specs.LabelledLines.{line_of}
use Rattle.cc_causes.specs.Views.{scene_of}
use Rattle.cc_cause_texts.proofs.ToldCauses.{shape_labelled, both_lines}
use Rattle.cc_cause_texts.proofs.cause_lines.wrong_head.Goals as goal

pub returns : goal.returns
returns c =
    let names = c.args.names.now in
    let scene = scene_of c.args.scene.now in
    let labels = c.in_ok-labels.labels.value in
    let is = c.in_ok-labels.ensures in
    IfOk-weaker c.two_lines.result _ _
    (λ lines h. (
      0,
      tt,
      both_lines (map line_of lines.items) _ _ _ _ h
          (c.in_ok-first.ensures ∙ shape_labelled names scene labels is (codes "found ") (shape_of c.args.found.now.value))
          c.in_ok-second.ensures,
    ))
    c.two_lines.ensures
