use Rattle.std.proofs.Common.{sym}
use Rattle.cc_core.specs.TermViews.{bind_of, type_of, context_of}
use Rattle.cc_avoid.proofs.AvoidingAnswers.{answer_above, answer_gone, answer_same, answer_formed, answer_at}
use Rattle.cc_avoid.proofs.avoiding.avoid.Goals as goal

pub returns-in-Some-clause-above : goal.returns-in-Some-clause-above
returns-in-Some-clause-above c =
    answer_above (context_of c.args.ctx.now) c.args.position (type_of c.args.ty.now) c.avoid_at.result c.requires.context c.requires.position
    (answer_at (context_of c.args.ctx.now) c.args.position (type_of c.args.ty.now) c.avoid_at.result (bind_of c.in-Some.bind.now) (sym c.in-Some.ensures) c.avoid_at.ensures)

pub returns-in-Some-clause-gone : goal.returns-in-Some-clause-gone
returns-in-Some-clause-gone c =
    answer_gone (context_of c.args.ctx.now) c.args.position (type_of c.args.ty.now) c.avoid_at.result c.requires.context c.requires.position c.requires.ty
    (answer_at (context_of c.args.ctx.now) c.args.position (type_of c.args.ty.now) c.avoid_at.result (bind_of c.in-Some.bind.now) (sym c.in-Some.ensures) c.avoid_at.ensures)

pub returns-in-Some-clause-same : goal.returns-in-Some-clause-same
returns-in-Some-clause-same c =
    answer_same (context_of c.args.ctx.now) c.args.position (type_of c.args.ty.now) c.avoid_at.result c.requires.position
    (answer_at (context_of c.args.ctx.now) c.args.position (type_of c.args.ty.now) c.avoid_at.result (bind_of c.in-Some.bind.now) (sym c.in-Some.ensures) c.avoid_at.ensures)

pub returns-in-Some-clause-formed : goal.returns-in-Some-clause-formed
returns-in-Some-clause-formed c =
    answer_formed (context_of c.args.ctx.now) c.args.position (type_of c.args.ty.now) c.avoid_at.result c.requires.context c.requires.position c.requires.ty
    (answer_at (context_of c.args.ctx.now) c.args.position (type_of c.args.ty.now) c.avoid_at.result (bind_of c.in-Some.bind.now) (sym c.in-Some.ensures) c.avoid_at.ensures)

pub returns-in-Some-clause-exact : goal.returns-in-Some-clause-exact
returns-in-Some-clause-exact c =
    answer_at (context_of c.args.ctx.now) c.args.position (type_of c.args.ty.now) c.avoid_at.result (bind_of c.in-Some.bind.now) (sym c.in-Some.ensures) c.avoid_at.ensures
