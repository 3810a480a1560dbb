use Rattle.std.proofs.Common.{◌≡◌, ◌<◌, length, sym, ap, ◌∙◌, arith}
use Rattle.cc_core.specs.TermViews.{bind_of, context_of}
use Rattle.cc_core.proofs.Lookups.{length_map, lookup-within}
use Rattle.cc_solve.specs.Solutions.{filling_of}
use Rattle.cc_reason_lines.proofs.FilledSets.{oldest_none, oldest_more, oldest_all}
use Rattle.cc_reason_lines.proofs.filled_sets.filled_sets.Goals as goal

pub loop-position-init : goal.loop-position-init
loop-position-init c = oldest_none (filling_of c.args.filling.now) (context_of c.args.ctx.now) (context_of c.new-sets.result) (ap context_of c.new-sets.ensures)

pub unreachable-requires : goal.unreachable-requires
unreachable-requires c =
    let all = length_map bind_of c.args.ctx.now in
    let low : c.loop-position.position < length (context_of c.args.ctx.now) =
    omega (arith, all, c.loop-position-test.true, c.len-position-end.ensures) in
    let there = lookup-within (context_of c.args.ctx.now) c.loop-position.position low in
    let apart = c.in_default.ensures ∙ there.1 in
    cc

pub loop-position-preserved : goal.loop-position-preserved
loop-position-preserved c =
    oldest_more (filling_of c.args.filling.now) (context_of c.args.ctx.now) (context_of c.loop-position.sets) (context_of c.in_ok-more.more)
    c.loop-position.position (bind_of c.in-Some.bind.now) (bind_of c.in_ok-entry.entry) c.loop-position.invariant (sym c.in-Some.ensures) c.in_ok-entry.ensures
    (ap context_of c.in_ok-more.ensures)

pub returns : goal.returns
returns c =
    let all = length_map bind_of c.args.ctx.now in
    let count : c.loop-position.position ≡ length (context_of c.args.ctx.now) =
    omega (arith, all, c.loop-position-test.false, c.loop-position.auto.position-end, c.len-position-end.ensures) in
    oldest_all (filling_of c.args.filling.now) (context_of c.args.ctx.now) (context_of c.loop-position.sets) c.loop-position.position c.loop-position.invariant count
