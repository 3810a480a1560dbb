use Rattle.std.proofs.Common.{arith}
use Rattle.cc_core.specs.TermViews.{context_of}
use Rattle.cc_type.proofs.MeasuredEntries.{nothing_measured}
use Rattle.cc_infer.proofs.infer.infer_term.Goals as goal

pub infer_known-requires-clause-measures : goal.infer_known-requires-clause-measures
infer_known-requires-clause-measures c =
    let before = c.new-measures.ensures.before in
    nothing_measured c.new-measures.result (context_of c.args.ctx.now) c.new-measures.ensures.sizes (omega (arith, before))
