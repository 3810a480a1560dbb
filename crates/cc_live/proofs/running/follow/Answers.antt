use Rattle.std.specs.String.{string_bytes}
use Rattle.cc_live.proofs.AskedTurns.{advances_on, advances_no_further, advances_without_memory}
use Rattle.cc_live.proofs.running.follow.Goals as goal
use Rattle.cc_machine.specs.Machines.{held_by}

pub returns-in-Ok-clause-takes : goal.returns-in-Ok-clause-takes
returns-in-Ok-clause-takes g c =
    advances_on c.args.names.now.names.items c.args.steps (held_by c.args.machine.now) (held_by c.advance.new.machine) c.args.reader.now (g.S.Source.left c.args.source.now)
    c.args.lines.now (g.K.Sink.written c.args.sink.now) (g.K.Sink.written c.advance.new.sink) (string_bytes c.args.waiting.now) (string_bytes c.advance.new.waiting)
    c.in-Ok.field-0 c.in-Ok.ensures.advances

pub returns-in-Err-WriteFault-clause-takes : goal.returns-in-Err-WriteFault-clause-takes
returns-in-Err-WriteFault-clause-takes g c =
    advances_no_further c.args.names.now.names.items c.args.steps (held_by c.args.machine.now) (held_by c.advance.new.machine) c.args.reader.now (g.S.Source.left c.args.source.now)
    c.args.lines.now (g.K.Sink.written c.args.sink.now) (g.K.Sink.written c.advance.new.sink) (string_bytes c.args.waiting.now) (string_bytes c.advance.new.waiting)
    c.in-Err-WriteFault.field-0 c.in-Err-WriteFault.ensures.advances

pub returns-in-Err-NoMemory-clause-takes : goal.returns-in-Err-NoMemory-clause-takes
returns-in-Err-NoMemory-clause-takes g c =
    advances_without_memory c.args.names.now.names.items c.args.steps (held_by c.args.machine.now) (held_by c.advance.new.machine) c.args.reader.now (g.S.Source.left c.args.source.now)
    c.args.lines.now (g.K.Sink.written c.args.sink.now) (g.K.Sink.written c.advance.new.sink) (string_bytes c.args.waiting.now) (string_bytes c.advance.new.waiting)
    c.in-Err-NoMemory.field-0 c.in-Err-NoMemory.ensures.advances
