use Rattle.std.proofs.Common.{ap, ◌∙◌, sym}
use Rattle.cc_summary.specs.Summaries.{without_indent}
use Rattle.cc_summary.proofs.SummaryTexts.{summary_text-parts}
use Rattle.cc_summary.proofs.summary.summary.Goals as goal

pub returns : goal.returns
returns c = λ text is.
    sym (summary_text-parts _ text _ _ _ _ _ _ _ _ _ is c.in_ok-head.ensures.ok
    (ap (λ told. told.items) c.into_bytes-told.ensures.value)
    (c.without_indent.ensures ∙ ap without_indent c.deref.ensures.value)
    c.in_ok-extend_from_slice.ensures.items c.in_ok-push.ensures.items)
