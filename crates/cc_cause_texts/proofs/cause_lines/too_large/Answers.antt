use Rattle.std.proofs.Common.{map, ◌∙◌}
use Rattle.std.proofs.lemmas.Result.{IfOk-weaker}
use Rattle.cc_labels.specs.LabelledLines.{line_of}
use Rattle.cc_cause_texts.proofs.ToldCauses.{limit_told, both_lines}
use Rattle.cc_cause_texts.proofs.cause_lines.too_large.Goals as goal

pub returns : goal.returns
returns c =
    IfOk-weaker c.two_lines.result _ _
    (λ lines h. (0, tt, both_lines (map line_of lines.items) _ _ _ _ h c.in_ok-first.ensures (c.in_ok-second.ensures ∙ limit_told)))
    c.two_lines.ensures
