use Rattle.std.proofs.Common.{subst, sym, ◌∙◌}
use Rattle.cc_core.specs.TermViews.{context_of}
use Rattle.cc_known.specs.KeptWalks.{IsKnown}
use Rattle.cc_known.proofs.OldestEntries.{learned}
use Rattle.cc_type.proofs.walking.learn_read.Goals as goal

pub learn-requires : goal.learn-requires
learn-requires c =
    let base = context_of c.args.log.now.known.base in
    subst (λ l. IsKnown base l c.in_ok-right.right) (sym c.in_ok-left.ensures.cases)
    (subst (λ r. IsKnown base c.args.left.now r) (sym c.in_ok-right.ensures.cases)
    (learned base (context_of c.args.ctx.now) c.args.left_read.now c.args.right_read.now c.args.left.now c.args.right.now
    c.requires.context c.requires.base (sym c.is_some.ensures ∙ c.if-is_some.false) (sym c.is_some-2.ensures ∙ c.if-is_some-2.false)
    (sym c.wf_set.ensures ∙ c.if-wf_set.true) (sym c.wf_set-then-wf_set.ensures ∙ c.if-wf_set-2.true) c.requires.settled))
