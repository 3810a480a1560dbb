use Rattle.std.proofs.Common.{subst}
use Rattle.cc_hosting.proofs.HostedAnswers.{nothing_hosted}
use Rattle.cc_hosting.proofs.hosting.host.Goals as goal
use Rattle.cc_hosting.specs.HostedRuns.{RunsHosted}
use Rattle.cc_replies.specs.Requests.{holding_under}

pub returns-in-Ok-clause-runs : goal.returns-in-Ok-clause-runs
returns-in-Ok-clause-runs g c =
    subst (λ d. RunsHosted d (holding_under c.args.policy.now c.args.session.now.present) c.args.module.now c.args.def.now c.args.fuel c.args.reader.now
    c.host_checked.new.reader (g.S.Source.left c.args.source.now) (g.S.Source.left c.host_checked.new.source) c.args.lines.now c.host_checked.new.lines
    (g.K.Sink.written c.args.sink.now) (g.K.Sink.written c.host_checked.new.sink) c.host_checked.result) c.in-Ok.ensures.texts.0
    (subst (λ p. RunsHosted c.check.new.self.devices (holding_under c.args.policy.now p) c.args.module.now c.args.def.now c.args.fuel c.args.reader.now
    c.host_checked.new.reader (g.S.Source.left c.args.source.now) (g.S.Source.left c.host_checked.new.source) c.args.lines.now c.host_checked.new.lines
    (g.K.Sink.written c.args.sink.now) (g.K.Sink.written c.host_checked.new.sink) c.host_checked.result) c.in-Ok.ensures.texts.1 c.host_checked.ensures.runs)

pub returns-in-Err-clause-runs : goal.returns-in-Err-clause-runs
returns-in-Err-clause-runs g c =
    nothing_hosted c.args.session.now.devices c.args.policy.now c.args.session.now.present c.args.module.now c.args.def.now c.args.fuel
    c.requires.differ c.requires.present c.args.reader.now (g.S.Source.left c.args.source.now) c.args.lines.now (g.K.Sink.written c.args.sink.now)
