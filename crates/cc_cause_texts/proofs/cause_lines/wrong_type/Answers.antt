use Rattle.std.proofs.Common.{◌++◌, map, codes, ap, ◌∙◌}
use Rattle.cc_core.specs.TermViews.{type_of}
use Rattle.cc_labels.specs.LabelledLines.{line_of}
use Rattle.cc_reasons.specs.Mismatches.{mismatch}
use Rattle.cc_reasons.specs.ReasonTexts.{with_locals, within_lines}
use Rattle.cc_causes.specs.Views.{scene_of}
use Rattle.cc_cause_texts.proofs.ToldCauses.{type_labelled, both_lines}
use Rattle.cc_cause_texts.proofs.cause_lines.wrong_type.Goals as goal

pub returns : goal.returns
returns c =
    let names = c.args.names.now in
    let scene = scene_of c.args.scene.now in
    let labels = c.in_ok-labels.labels.value in
    let is = c.in_ok-labels.ensures in
    let found = (type_of c.args.found.now).shape in
    let wanted = (type_of c.args.wanted.now).shape in
    let steps = c.requires.3.0 in
    let apart = c.requires.3.1 in (
      steps,
      apart,
      c.in_ok-put_within.ensures steps apart
          ∙ ap (λ l. l ++ within_lines (with_locals names scene.locals) found wanted (mismatch steps scene.context found wanted))
          (both_lines (map line_of c.in_ok-lines.lines.items) _ _ _ _ c.in_ok-lines.ensures
          (c.in_ok-first.ensures ∙ type_labelled names scene labels is (codes "found ") (type_of c.args.found.now))
          (c.in_ok-second.ensures ∙ type_labelled names scene labels is (codes "wanted ") (type_of c.args.wanted.now))),
    )
