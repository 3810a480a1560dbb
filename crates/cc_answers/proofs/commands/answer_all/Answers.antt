use Rattle.std.proofs.Common.{List, [], refl, ap, ◌∙◌, subst}
use Rattle.std.proofs.lemmas.List.{drop_all}
use Rattle.std.proofs.lemmas.Result.{err_from_is_err_and}
use Rattle.cc_replies.specs.Requests.{Request, holding_under}
use Rattle.cc_answers.proofs.Answering.{asked, Stands, stands_first, stands_last, turn_more, turn_stopped}
use Rattle.cc_answers.proofs.commands.answer_all.Goals as goal

pub loop-command-init : goal.loop-command-init
loop-command-init g c = record {
  stands = stands_first c.args.session.now c.args.first.now (asked c.args.commands.now) (g.K.Sink.written c.args.sink.now) c.args.steps.now c.requires.present;
  kept = c.nothing-kept.ensures c.args.session.now.devices c.args.session.now.present;
  no_fault = refl;
}

pub returns-in_err-later-clause-answered : goal.returns-in_err-later-clause-answered
returns-in_err-later-clause-answered g c =
    let error = err_from_is_err_and c.from_residual.result c.from_residual.ensures.1 in
    let old = c.args.session.now in
    let loop = c.loop-command in
    rw (error.1, error.2)
    (turn_stopped old.devices (holding_under c.args.first.now old.present) old.last c.args.commands.now (g.K.Sink.written c.args.sink.now) c.args.steps.now loop.session loop.policy.now
    loop.command-index c.command-item.result (g.K.Sink.written loop.sink) loop.steps loop.refused loop.invariant.stands c.loop-command-test.true
    c.command-item.is c.answer.new.session (g.K.Sink.written c.answer.new.sink) c.answer.new.steps c.requires.differ c.in_err-later.field-0.0
    c.in_err-later.ensures.replied c.in_err-later.ensures.judges)

pub loop-command-preserved : goal.loop-command-preserved
loop-command-preserved g c =
    let old = c.args.session.now in
    let loop = c.loop-command in
    record {
      stands = turn_more old.devices (holding_under c.args.first.now old.present) old.last c.args.commands.now (g.K.Sink.written c.args.sink.now) c.args.steps.now loop.session loop.policy.now
          loop.command-index c.command-item.result (g.K.Sink.written loop.sink) loop.steps loop.refused loop.invariant.stands c.loop-command-test.true
          c.command-item.is c.answer.new.session (g.K.Sink.written c.answer.new.sink) c.answer.new.steps c.policy_after-policy.result.now c.in_ok-later.later c.policy_after-policy.ensures c.in_ok-later.ensures.replied
          c.in_ok-later.ensures.changes c.in_ok-later.ensures.judges c.either-refused.result c.either-refused.ensures;
      kept = c.answer.ensures.kept;
      no_fault = c.in_ok-later.ensures.cause ∙ loop.invariant.no_fault;
    }

pub returns-clause-answered : goal.returns-clause-answered
returns-clause-answered g c =
    let old = c.args.session.now in
    let loop = c.loop-command in
    let P : List Request → Type 0 = λ rs. Stands old.devices (holding_under c.args.first.now old.present) old.last (asked c.args.commands.now) (g.K.Sink.written c.args.sink.now)
    c.args.steps.now loop.session loop.policy.now rs (g.K.Sink.written loop.sink) loop.steps loop.refused in
    stands_last old.devices (holding_under c.args.first.now old.present) old.last (asked c.args.commands.now) (g.K.Sink.written c.args.sink.now) c.args.steps.now loop.session loop.policy.now
    (g.K.Sink.written loop.sink) loop.steps loop.refused
    (subst P (ap asked (drop_all loop.command-index c.args.commands.now c.loop-command-test.false)) loop.invariant.stands)
