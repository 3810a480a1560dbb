use Rattle.std.proofs.Common.{◌++◌, map, codes, refl, ap, ◌∙◌}
use Rattle.cc_core.specs.TermViews.{shape_of, context_of}
use Rattle.cc_labels.specs.LabelledLines.{line_of}
use Rattle.cc_labels.proofs.LabelTexts.{on_ok}
use Rattle.cc_reasons.specs.Causes.{Scene}
use Rattle.cc_causes.specs.Views.{locals_of}
use Rattle.cc_cause_texts.proofs.ToldCauses.{shape_labelled, both_lines}
use Rattle.cc_cause_texts.proofs.within.put_parts.Goals as goal

pub returns : goal.returns
returns c =
    let parts = c.args.parts.now in
    let scene : Scene = record { context = context_of parts.ctx; locals = locals_of c.args.locals.now } in
    let labels = c.in_ok-labels.labels.value in
    let told = shape_labelled c.args.names.now scene labels c.in_ok-labels.ensures in
    on_ok c.push_two.result _ _
    (λ h. h ∙ ap (λ l. map line_of c.args.lines.now.items ++ l)
    (both_lines _ _ _ _ _ refl (c.in_ok-found.ensures ∙ told (codes "within found ") (shape_of parts.found.value))
    (c.in_ok-wanted.ensures ∙ told (codes "within wanted ") (shape_of parts.wanted.value))))
    c.push_two.ensures
