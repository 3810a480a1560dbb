use Rattle.std.proofs.Common.{◌≡◌, drop}
use Rattle.cc_replies.specs.Requests.{holding_under}
use Rattle.cc_answers.specs.KeptEntries.{IsKeptFor}
use Rattle.cc_answers.proofs.Answering.{asked, Stands}
use Rattle.cc_answers.proofs.commands.answer_all.Given as goal

-- what was carried out so far, and the commands that are left
abbrev pub invariant-loop-command : goal.invariant-loop-command
invariant-loop-command g l = record {
  stands : Stands l.initial.session.devices (holding_under l.first l.initial.session.present) l.initial.session.last (asked l.commands)
      (g.K.Sink.written l.initial.sink) l.initial.steps l.session l.policy (asked (drop l.command-index l.commands))
      (g.K.Sink.written l.sink) l.steps l.refused;
  kept : IsKeptFor l.session.devices l.session.present l.kept;
  no_fault : g.K.Sink.faults l.sink ≡ g.K.Sink.faults l.initial.sink;
}
