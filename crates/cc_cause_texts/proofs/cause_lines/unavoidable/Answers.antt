use Rattle.std.proofs.Common.{ℕ, List, [], ◌++◌, map, codes, ap, ◌∙◌, encode_utf8_all, slice_index_or}
use Rattle.std.proofs.lemmas.Result.{IfOk-weaker}
use Rattle.cc_core.specs.TermViews.{type_of}
use Rattle.cc_labels.specs.LabelledLines.{line_of}
use Rattle.cc_causes.specs.Views.{scene_of}
use Rattle.cc_cause_texts.proofs.ToldCauses.{type_labelled, both_lines}
use Rattle.cc_cause_texts.proofs.cause_lines.unavoidable.Goals as goal

pub returns : goal.returns
returns c =
    let names = c.args.names.now in
    let scene = scene_of c.args.scene.now in
    let labels = c.in_ok-labels.labels.value in
    let is = c.in_ok-labels.ensures in
    IfOk-weaker c.two_lines.result _ _
    (λ lines h. (
      0,
      tt,
      both_lines (map line_of lines.items) _ _ _ _ h
          (c.in_ok-first.ensures ∙ ap (λ (l : List (List ℕ)). codes "name " ++ encode_utf8_all (slice_index_or l c.args.position [])) is.0)
          (c.in_ok-second.ensures ∙ type_labelled names scene labels is (codes "type ") (type_of c.args.ty.now)),
    ))
    c.two_lines.ensures
