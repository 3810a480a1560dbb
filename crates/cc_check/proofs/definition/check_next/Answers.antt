use Rattle.std.proofs.Common.{sym, ◌∙◌}
use Rattle.std.proofs.lemmas.List.{length-map}
use Rattle.cc_core.specs.TermViews.{bind_of, context_of}
use Rattle.cc_type.proofs.MeasuredEntries.{all_unmeasured}
use Rattle.cc_check.proofs.definition.check_next.Goals as goal

pub check_known-requires-clause-measures : goal.check_known-requires-clause-measures
check_known-requires-clause-measures c =
    all_unmeasured c.args.devices c.new-measures.result (context_of c.args.ctx.now) c.new-measures.ensures.sizes
    c.new-measures.ensures.first
    (c.new-measures.ensures.before ∙ c.len.ensures ∙ sym (length-map c.args.ctx.now bind_of))
