use Rattle.std.proofs.Common.{Ok, refl, sym, ◌∙◌, subst, arith}
use Rattle.std.specs.String.{string_bytes}
use Rattle.cc_live.proofs.TakenTurns.{StandsAt, stands_first, goes_further, fails_so, stops_so, ends_so, ends_no_memory, ends_write_fault}
use Rattle.cc_live.proofs.running.run_machine.Goals as goal
use Rattle.cc_live.specs.LiveTurns.{TakesTurn, turn_of}
use Rattle.cc_machine.specs.Machines.{held_by}

pub loop-machine-init : goal.loop-machine-init
loop-machine-init g c = record {
  stands =
      subst (λ w. StandsAt c.args.names.now.names.items c.args.fuel (held_by c.args.machine.now) c.args.reader.now c.args.reader.now (g.S.Source.left c.args.source.now)
      (g.S.Source.left c.args.source.now) c.args.lines.now c.args.lines.now (g.K.Sink.written c.args.sink.now) (g.K.Sink.written c.args.sink.now) w 0
      (held_by c.args.machine.now)) (sym c.new-waiting.ensures.bytes)
      (stands_first c.args.names.now.names.items c.args.fuel (held_by c.args.machine.now) c.args.reader.now (g.S.Source.left c.args.source.now) c.args.lines.now
      (g.K.Sink.written c.args.sink.now));
  cells = omega arith;
  known = c.requires.known;
  reads = refl;
  writes = refl;
}

pub loop-machine-preserved : goal.loop-machine-preserved
loop-machine-preserved g c = record {
  stands =
      goes_further c.args.names.now.names.items c.args.fuel (held_by c.args.machine.now) c.args.reader.now c.loop-machine.reader (g.S.Source.left c.args.source.now)
      (g.S.Source.left c.loop-machine.source) c.args.lines.now c.loop-machine.lines (g.K.Sink.written c.args.sink.now) (g.K.Sink.written c.loop-machine.sink)
      (string_bytes c.loop-machine.waiting) c.loop-machine.steps (held_by c.loop-machine.machine) c.loop-machine.invariant.stands c.loop-machine-test.ensures.0 c.follow.new.reader (g.S.Source.left c.follow.new.source) c.follow.new.lines (g.K.Sink.written c.follow.new.sink)
      (string_bytes c.follow.new.waiting) (held_by c.follow.new.machine)
      (subst (λ t. TakesTurn (turn_of c.args.names.now.names.items c.loop-machine.steps (held_by c.loop-machine.machine)) (held_by c.follow.new.machine) c.loop-machine.reader c.follow.new.reader
      (g.S.Source.left c.loop-machine.source) (g.S.Source.left c.follow.new.source) c.loop-machine.lines c.follow.new.lines (g.K.Sink.written c.loop-machine.sink)
      (g.K.Sink.written c.follow.new.sink) (string_bytes c.loop-machine.waiting) (string_bytes c.follow.new.waiting) (Ok t)) c.in-Ok-true.field-0-test c.in-Ok-true.ensures.takes);
  cells = omega (arith, c.in-Ok-true.ensures.cells, c.loop-machine.invariant.cells);
  known = c.in-Ok-true.ensures.known;
  reads = c.in-Ok-true.ensures.reads ∙ c.loop-machine.invariant.reads;
  writes = c.in-Ok-true.ensures.writes ∙ c.loop-machine.invariant.writes;
}

pub returns-in-Ok-false-clause-runs : goal.returns-in-Ok-false-clause-runs
returns-in-Ok-false-clause-runs g c =
    stops_so c.args.names.now.names.items c.args.fuel (held_by c.args.machine.now) c.args.reader.now c.loop-machine.reader (g.S.Source.left c.args.source.now)
    (g.S.Source.left c.loop-machine.source) c.args.lines.now c.loop-machine.lines (g.K.Sink.written c.args.sink.now) (g.K.Sink.written c.loop-machine.sink)
    (string_bytes c.loop-machine.waiting) c.loop-machine.steps (held_by c.loop-machine.machine) c.loop-machine.invariant.stands c.loop-machine-test.ensures.0 c.follow.new.reader (g.S.Source.left c.follow.new.source) c.follow.new.lines (g.K.Sink.written c.follow.new.sink)
    (string_bytes c.follow.new.waiting) (held_by c.follow.new.machine)
    (g.K.Sink.written c.stop.new.sink) c.stop.result
    (subst (λ t. TakesTurn (turn_of c.args.names.now.names.items c.loop-machine.steps (held_by c.loop-machine.machine)) (held_by c.follow.new.machine) c.loop-machine.reader c.follow.new.reader
    (g.S.Source.left c.loop-machine.source) (g.S.Source.left c.follow.new.source) c.loop-machine.lines c.follow.new.lines (g.K.Sink.written c.loop-machine.sink)
    (g.K.Sink.written c.follow.new.sink) (string_bytes c.loop-machine.waiting) (string_bytes c.follow.new.waiting) (Ok t)) c.in-Ok-false.field-0-test c.in-Ok-false.ensures.takes)
    c.stop.ensures.stops

pub returns-in-Err-clause-runs : goal.returns-in-Err-clause-runs
returns-in-Err-clause-runs g c =
    fails_so c.args.names.now.names.items c.args.fuel (held_by c.args.machine.now) c.args.reader.now c.loop-machine.reader (g.S.Source.left c.args.source.now)
    (g.S.Source.left c.loop-machine.source) c.args.lines.now c.loop-machine.lines (g.K.Sink.written c.args.sink.now) (g.K.Sink.written c.loop-machine.sink)
    (string_bytes c.loop-machine.waiting) c.loop-machine.steps (held_by c.loop-machine.machine) c.loop-machine.invariant.stands c.loop-machine-test.ensures.0 c.follow.new.reader (g.S.Source.left c.follow.new.source) c.follow.new.lines (g.K.Sink.written c.follow.new.sink)
    (string_bytes c.follow.new.waiting) (held_by c.follow.new.machine)
    _ c.in-Err.ensures.takes

pub returns-in-Ok-clause-runs : goal.returns-in-Ok-clause-runs
returns-in-Ok-clause-runs g c =
    ends_so c.args.names.now.names.items c.args.fuel (held_by c.args.machine.now) c.args.reader.now c.loop-machine.reader (g.S.Source.left c.args.source.now)
    (g.S.Source.left c.loop-machine.source) c.args.lines.now c.loop-machine.lines (g.K.Sink.written c.args.sink.now) (g.K.Sink.written c.loop-machine.sink)
    (string_bytes c.loop-machine.waiting) c.loop-machine.steps (held_by c.loop-machine.machine) c.loop-machine.invariant.stands
    c.loop-machine-test.ensures (g.K.Sink.written c.finish.new.sink) c.in-Ok.refused c.in-Ok.ensures.refused c.in-Ok.ensures.streams

pub returns-in-Err-WriteFault-clause-runs : goal.returns-in-Err-WriteFault-clause-runs
returns-in-Err-WriteFault-clause-runs g c =
    ends_write_fault c.args.names.now.names.items c.args.fuel (held_by c.args.machine.now) c.args.reader.now c.loop-machine.reader (g.S.Source.left c.args.source.now)
    (g.S.Source.left c.loop-machine.source) c.args.lines.now c.loop-machine.lines (g.K.Sink.written c.args.sink.now) (g.K.Sink.written c.loop-machine.sink)
    (string_bytes c.loop-machine.waiting) c.loop-machine.steps (held_by c.loop-machine.machine) c.loop-machine.invariant.stands
    c.loop-machine-test.ensures (g.K.Sink.written c.finish.new.sink) c.in-Err-WriteFault.ensures.streams

pub returns-clause-runs : goal.returns-clause-runs
returns-clause-runs g c =
    ends_no_memory c.args.names.now.names.items c.args.fuel (held_by c.args.machine.now) c.args.reader.now c.loop-machine.reader (g.S.Source.left c.args.source.now)
    (g.S.Source.left c.loop-machine.source) c.args.lines.now c.loop-machine.lines (g.K.Sink.written c.args.sink.now) (g.K.Sink.written c.loop-machine.sink)
    (string_bytes c.loop-machine.waiting) c.loop-machine.steps (held_by c.loop-machine.machine) c.loop-machine.invariant.stands
    c.loop-machine-test.ensures (g.K.Sink.written c.finish.new.sink) c.in-Err-NoMemory.ensures.streams
