use Rattle.std.proofs.lemmas.Result.{IfOk-weaker}
use Rattle.cc_core.specs.Actions.{renamed_by}
use Rattle.cc_core.specs.TermViews.{shape_of, context_of}
use Rattle.cc_known.proofs.KeyedPairs.{met_matches}
use Rattle.cc_known.proofs.keys.is_met.Goals as goal

pub returns : goal.returns
returns c =
    IfOk-weaker c.stand_in.result _ _
    (λ b stands holds log k.
    met_matches log (context_of c.args.base.now) (context_of c.args.ctx.now) c.args.pair.now (renamed_by c.args.to.now)
    c.args.variable (shape_of c.args.right.now.value) c.args.steps c.args.lost (stands holds).1 c.requires.context
    (c.is_of.ensures.variable c.if-not-is_of.false) (c.is_of.ensures.steps c.if-not-is_of.false)
    (c.is_of.ensures.lost c.if-not-is_of.false) (c.in_ok-is_renamed.ensures c.if-not-branch.false) (stands holds).0 k)
    c.stand_in.ensures
