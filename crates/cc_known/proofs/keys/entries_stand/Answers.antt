use Rattle.std.proofs.Common.{◌+◌, length, ap, ◌∙◌, arith}
use Rattle.cc_core.specs.Actions.{renamed_by}
use Rattle.cc_core.specs.TermViews.{context_of}
use Rattle.cc_known.proofs.KeyedPairs.{stands_at_first, stands_more}
use Rattle.cc_known.proofs.keys.entries_stand.Goals as goal

pub loop-index-init : goal.loop-index-init
loop-index-init c =
    let base = context_of c.args.base.now in
    stands_at_first base (context_of c.args.entries.now) (context_of c.args.ctx.now) (renamed_by c.args.to.now)
    (length base + 0) c.entries-first.result c.requires.context c.requires.base c.requires.stays (omega arith)
    c.entries-first.ensures

pub loop-index-preserved : goal.loop-index-preserved
loop-index-preserved c =
    let base = context_of c.args.base.now in
    stands_more base (context_of c.args.entries.now) (context_of c.args.ctx.now) (renamed_by c.args.to.now) c.loop-index.index
    c.loop-index.next c.in_ok-position.position c.in-Some.at c.in_ok-next.next c.loop-index.invariant
    (c.in_ok-position.ensures ∙ ap (λ n. n + c.loop-index.index) c.entries-first.ensures) c.in-Some.ensures
    c.if-at-next.false c.in_ok-next.ensures (c.in_ok-stands_at.ensures c.if-not-branch.false)
