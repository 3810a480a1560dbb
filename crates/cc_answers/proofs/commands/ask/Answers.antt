use Rattle.std.proofs.Common.{Err}
use Rattle.cc_io.specs.declared.whole.WriteAll.TheVariants as errors
use Rattle.cc_replies.specs.Requests.{Ask, holding_under}
use Rattle.cc_answers.specs.Requests.{request_of, question_in}
use Rattle.cc_answers.proofs.CommandFacts.{if_some, if_any, replied_before, replied_nothing, ask_changes, ask_judges, ask_judges_in_part}
use Rattle.cc_answers.proofs.commands.ask.Goals as goal

pub returns-in-Ok-clause-replied : goal.returns-in-Ok-clause-replied
returns-in-Ok-clause-replied g c =
    if_some (question_in (request_of c.args.command.now))
    (λ question. replied_before c.args.session.now c.check.new.self c.check.ensures.texts.0 c.args.policy.now (Ask question) (g.K.Sink.written c.args.sink.now)
    (g.K.Sink.written c.answer_checked.new.sink) c.answer_checked.result c.check.ensures.texts.1) c.answer_checked.ensures.replied

pub returns-in-Ok-clause-changes : goal.returns-in-Ok-clause-changes
returns-in-Ok-clause-changes g c =
    if_any (question_in (request_of c.args.command.now))
    (λ question. ask_changes c.args.session.now c.check.new.self c.check.ensures.texts.0 question c.check.ensures.texts.1 c.answer_checked.result)

pub returns-in-Ok-clause-judges : goal.returns-in-Ok-clause-judges
returns-in-Ok-clause-judges g c =
    if_any (question_in (request_of c.args.command.now))
    (λ question. ask_judges c.args.session.now c.check.new.self c.args.steps.now c.check.new.steps question c.answer_checked.result
    c.check.ensures.texts.0 c.check.ensures.texts.1 c.in-Ok.ensures.ok.1 c.check.ensures.ticks)

pub returns-in-Err-clause-replied : goal.returns-in-Err-clause-replied
returns-in-Err-clause-replied g c =
    if_any (question_in (request_of c.args.command.now))
    (λ question. replied_nothing c.args.session.now.devices (holding_under c.args.policy.now c.args.session.now.present) (Ask question) c.requires.differ c.requires.present
    (g.K.Sink.written c.args.sink.now))

pub returns-in-Err-clause-changes : goal.returns-in-Err-clause-changes
returns-in-Err-clause-changes g c =
    if_any (question_in (request_of c.args.command.now))
    (λ question. ask_changes c.args.session.now c.check.new.self c.check.ensures.texts.0 question c.check.ensures.texts.1 (Err errors.NoMemory))

pub returns-in-Err-clause-judges : goal.returns-in-Err-clause-judges
returns-in-Err-clause-judges g c =
    if_any (question_in (request_of c.args.command.now))
    (λ question. ask_judges_in_part c.args.session.now c.check.new.self c.args.steps.now c.check.new.steps question errors.NoMemory
    c.requires.differ c.requires.present c.check.ensures.ticks)
