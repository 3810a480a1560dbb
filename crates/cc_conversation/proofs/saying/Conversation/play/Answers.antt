use Rattle.std.proofs.Common.{[], ◌∷◌, Err, subst}
use Rattle.cc_io.specs.Wholes.{WritesWhole}
use Rattle.cc_conversation.proofs.OrderTurns.{played_stops, played_whole, played_write_fault, played_no_memory}
use Rattle.cc_conversation.proofs.saying.Conversation.play.Goals as goal
use Rattle.cc_conversation.specs.Turns.{moment_of}

pub returns-in-Err-clause-told : goal.returns-in-Err-clause-told
returns-in-Err-clause-told g c =
    played_stops (moment_of c.args.self.now) c.args.module.now c.args.def.now c.args.fuel c.args.reader.now c.host-told.new.reader (g.S.Source.left c.args.source.now)
    (g.S.Source.left c.host-told.new.source) c.args.lines.now c.host-told.new.lines (g.K.Sink.written c.args.sink.now) (g.K.Sink.written c.args.sink.now)
    (g.K.Sink.written c.host-told.new.sink) c.in-Err.error c.in-Err.ensures.runs

pub returns-in-Ok-write_all-clause-told : goal.returns-in-Ok-write_all-clause-told
returns-in-Ok-write_all-clause-told g c =
    played_whole (moment_of c.args.self.now) c.args.module.now c.args.def.now c.args.fuel c.args.reader.now c.host-told.new.reader (g.S.Source.left c.args.source.now)
    (g.S.Source.left c.host-told.new.source) c.args.lines.now c.host-told.new.lines (g.K.Sink.written c.args.sink.now) (g.K.Sink.written c.host-told.new.sink)
    (g.K.Sink.written c.write_all.new.sink) c.in-Ok.refused c.in-Ok.ensures.runs c.in-Ok-write_all.ensures.written

pub returns-in-Err-WriteFault-clause-told : goal.returns-in-Err-WriteFault-clause-told
returns-in-Err-WriteFault-clause-told g c =
    played_write_fault (moment_of c.args.self.now) c.args.module.now c.args.def.now c.args.fuel c.args.reader.now c.host-told.new.reader (g.S.Source.left c.args.source.now)
    (g.S.Source.left c.host-told.new.source) c.args.lines.now c.host-told.new.lines (g.K.Sink.written c.args.sink.now) (g.K.Sink.written c.host-told.new.sink)
    (g.K.Sink.written c.write_all.new.sink) c.in-Ok.refused c.in-Ok.ensures.runs
    (subst (λ e. WritesWhole {T = Unit {0}} (g.K.Sink.written c.host-told.new.sink) (g.K.Sink.written c.write_all.new.sink) (Err e) (10 ∷ [])) c.in-Err-WriteFault.field-0-is
    c.in-Err-WriteFault.ensures.written)

pub returns-in-Err-NoMemory-clause-told : goal.returns-in-Err-NoMemory-clause-told
returns-in-Err-NoMemory-clause-told g c =
    played_no_memory (moment_of c.args.self.now) c.args.module.now c.args.def.now c.args.fuel c.args.reader.now c.host-told.new.reader (g.S.Source.left c.args.source.now)
    (g.S.Source.left c.host-told.new.source) c.args.lines.now c.host-told.new.lines (g.K.Sink.written c.args.sink.now) (g.K.Sink.written c.host-told.new.sink)
    (g.K.Sink.written c.write_all.new.sink) c.in-Ok.refused c.in-Ok.ensures.runs
    (subst (λ e. WritesWhole {T = Unit {0}} (g.K.Sink.written c.host-told.new.sink) (g.K.Sink.written c.write_all.new.sink) (Err e) (10 ∷ [])) c.in-Err-NoMemory.field-0-is
    c.in-Err-NoMemory.ensures.written)
