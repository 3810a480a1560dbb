use Rattle.cc_answers.specs.Requests.{requests_of}
use Rattle.cc_answers.proofs.Answering.{answered_nothing}
use Rattle.cc_answers.proofs.commands.carry_out.Goals as goal

pub returns-in-Err-clause-answered : goal.returns-in-Err-clause-answered
returns-in-Err-clause-answered g c =
    answered_nothing c.args.job.devices (requests_of c.args.job) (g.K.Sink.written c.args.sink.now) c.args.steps.now c.requires.differ
