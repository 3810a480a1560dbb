use Rattle.std.proofs.Common.{◌++◌, [], subst}
use Rattle.std.specs.String.{string_bytes}
use Rattle.cc_device.specs.DeviceViews.{end_of}
use Rattle.cc_io.specs.Pieces.{IsPassedOn}
use Rattle.cc_io.specs.Wholes.{AppendsFront}
use Rattle.cc_live.proofs.AskedTurns.{end_told}
use Rattle.cc_live.proofs.running.finish.Goals as goal
use Rattle.cc_live.specs.LiveRuns.{told_line}
use Rattle.cc_machine.specs.Machines.{held_by}
use Rattle.cc_replay.specs.RunTexts.{end_text}
use Rattle.cc_runs.specs.Runs.{Ends}

pub returns-in-Ok-clause-streams : goal.returns-in-Ok-clause-streams
returns-in-Ok-clause-streams g c =
    let names = c.args.names.now.names.items in
    subst (IsPassedOn (g.K.Sink.written c.args.sink.now) (g.K.Sink.written c.tell_end.new.sink) (string_bytes c.args.waiting.now) [])
    (end_told names c.args.steps (held_by c.args.machine.now) (end_of c.end-end.result) c.end-end.ensures c.args.machine.now.sound)
    (subst (λ w. IsPassedOn (g.K.Sink.written c.args.sink.now) (g.K.Sink.written c.tell_end.new.sink) (string_bytes c.args.waiting.now) w
    (told_line (end_text names (Ends (end_of c.end-end.result)) c.args.steps))) c.in-Ok.ensures.empty c.in-Ok.ensures.streams)

pub returns-in-Err-clause-streams : goal.returns-in-Err-clause-streams
returns-in-Err-clause-streams g c =
    let names = c.args.names.now.names.items in
    subst (λ t. AppendsFront (g.K.Sink.written c.args.sink.now) (g.K.Sink.written c.tell_end.new.sink) (string_bytes c.args.waiting.now ++ t))
    (end_told names c.args.steps (held_by c.args.machine.now) (end_of c.end-end.result) c.end-end.ensures c.args.machine.now.sound)
    c.in-Err.ensures.streams
