use Rattle.std.proofs.Common.{List, ◌++◌, map, codes, ap, subst, ◌∙◌}
use Rattle.cc_capture.specs.declared.var.Elem.{Elem}
use Rattle.cc_core.specs.TermViews.{context_of}
use Rattle.cc_checking.specs.Fillings.{filled_context}
use Rattle.cc_print.specs.TypeTexts.{set_text}
use Rattle.cc_solve.specs.Solutions.{filling_of}
use Rattle.cc_labels.specs.LabelTexts.{labels_in}
use Rattle.cc_labels.specs.LabelledLines.{line_of}
use Rattle.cc_causes.specs.declared.reason.Locals.{Locals}
use Rattle.cc_causes.specs.Views.{locals_of, scene_of}
use Rattle.cc_cause_texts.specs.CauseLines.{IsLabelling}
use Rattle.cc_definition_reasoning.specs.Reasons.{filled_scene}
use Rattle.cc_reason_lines.specs.LabelledChains.{labelled_all, labelled_chains}
use Rattle.cc_reason_lines.proofs.LabelledChains.{filled_labelling, captured_told, scene_alone, lines_told}
use Rattle.cc_reason_lines.proofs.reason_lines.not_below.Goals as goal

pub captured_chains-requires : goal.captured_chains-requires
captured_chains-requires c =
    let alone = scene_alone (filled_context (filling_of c.args.filling.now) (context_of c.args.scene.now.ctx)) c.args.left.now
    (context_of c.in_ok-sets.sets) c.requires c.in_ok-sets.ensures in
    record { context = alone.formed; closed = alone.closed; left = alone.left_formed; closed_left = alone.left_closed }

pub returns : goal.returns
returns c =
    let names = c.args.names.now in
    let scene = scene_of c.args.scene.now in
    let sets = c.args.filling.now in
    let labels = c.in_ok-labels.labels.value in
    let found = c.in_ok-found.found in
    let is = subst (λ (l : Locals). IsLabelling names (record { context = scene.context; locals = locals_of l }) labels) c.deref.ensures c.in_ok-labels.ensures in
    captured_told names (filled_scene sets scene) labels (filled_labelling names scene sets labels is) c.args.devices (context_of c.in_ok-sets.sets)
    c.args.left.now c.args.right.now found.elems.items (map (λ chain. chain.items) found.chains.items) (map line_of c.put_chains.new.lines.items)
    c.requires.formed c.in_ok-sets.ensures c.in_ok-found.ensures.elems c.in_ok-found.ensures.chains
    (lines_told line_of c.new-lines.result.items c.push.new.self.items c.push-2.new.self.items c.in_ok-captured_line.field-0 c.in_ok-set_line.field-0
    (codes "captured" ++ labelled_all labels found.elems.items)
    (codes "allowed " ++ set_text (labels_in labels) labels.locals c.args.right.now)
    (labelled_chains labels (map (λ chain. chain.items) found.chains.items)) (map line_of c.put_chains.new.lines.items)
    c.new-lines.ensures.items c.in_ok-push.ensures.items c.in_ok-push-2.ensures.items
    (c.in_ok-captured_line.ensures ∙ ap (λ (l : List Elem). codes "captured" ++ labelled_all labels l) c.as_slice.ensures.value)
    c.in_ok-set_line.ensures
    (c.in_ok-put_chains.ensures
    ∙ ap (λ l. map line_of c.push-2.new.self.items ++ labelled_chains labels (map (λ chain. chain.items) l)) c.as_slice-2.ensures.value))
