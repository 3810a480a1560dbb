use Rattle.cc_live.proofs.TakenTurns.{runs_of_program, runs_never}
use Rattle.cc_live.proofs.running.run_live.Goals as goal
use Rattle.cc_live.specs.LiveRuns.{live}
use Rattle.cc_machine.specs.Machines.{held_by}
use Rattle.cc_machine.specs.Programs.{start_of}

pub returns-in-Ok-clause-runs : goal.returns-in-Ok-clause-runs
returns-in-Ok-clause-runs g c =
    runs_of_program c.args.names.now.names.items c.args.fuel (held_by c.in-Ok.machine) (start_of c.args.program.now) c.args.reader.now c.run_machine.new.reader
    (g.S.Source.left c.args.source.now) (g.S.Source.left c.run_machine.new.source) c.args.lines.now c.run_machine.new.lines (g.K.Sink.written c.args.sink.now)
    (g.K.Sink.written c.run_machine.new.sink) c.run_machine.result c.in-Ok.ensures.start c.run_machine.ensures.runs

pub returns-in-Err-clause-runs : goal.returns-in-Err-clause-runs
returns-in-Err-clause-runs g c =
    runs_never (live c.args.names.now.names.items c.args.fuel (start_of c.args.program.now)) c.args.reader.now (g.S.Source.left c.args.source.now) c.args.lines.now
    (g.K.Sink.written c.args.sink.now)
