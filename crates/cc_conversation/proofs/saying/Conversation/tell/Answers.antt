use Rattle.std.proofs.Common.{Ok, Err, sym, subst}
use Rattle.cc_conversation.proofs.OrderTurns.{told_whole, told_write_fault, told_no_memory}
use Rattle.cc_conversation.proofs.saying.Conversation.tell.Goals as goal
use Rattle.cc_conversation.specs.Turns.{IsExplained, IsAsideTold, moment_of}
use Rattle.cc_live.specs.declared.running.LiveError.TheVariants as live_errors

pub returns-in-Ok-clause-told : goal.returns-in-Ok-clause-told
returns-in-Ok-clause-told g c =
    subst (λ it. IsAsideTold (moment_of c.args.self.now) it c.args.reader.now c.args.reader.now (g.S.Source.left c.args.source.now)
    (g.S.Source.left c.args.source.now) c.args.lines.now c.args.lines.now (g.K.Sink.written c.args.sink.now) (g.K.Sink.written c.explain.new.sink)
    (Ok c.in-Ok.refused)) (sym c.in-Why.is)
    (told_whole (moment_of c.args.self.now) c.in-Why.name c.args.reader.now (g.S.Source.left c.args.source.now) c.args.lines.now
    (g.K.Sink.written c.args.sink.now) (g.K.Sink.written c.explain.new.sink) c.in-Ok.refused c.in-Ok.ensures.explained)

pub returns-in-Err-WriteFault-clause-told : goal.returns-in-Err-WriteFault-clause-told
returns-in-Err-WriteFault-clause-told g c =
    subst (λ it. IsAsideTold (moment_of c.args.self.now) it c.args.reader.now c.args.reader.now (g.S.Source.left c.args.source.now)
    (g.S.Source.left c.args.source.now) c.args.lines.now c.args.lines.now (g.K.Sink.written c.args.sink.now) (g.K.Sink.written c.explain.new.sink)
    (Err live_errors.WriteFault)) (sym c.in-Why.is)
    (told_write_fault (moment_of c.args.self.now) c.in-Why.name c.args.reader.now (g.S.Source.left c.args.source.now) c.args.lines.now
    (g.K.Sink.written c.args.sink.now) (g.K.Sink.written c.explain.new.sink)
    (subst (λ e. IsExplained (moment_of c.args.self.now) c.in-Why.name (g.K.Sink.written c.args.sink.now) (g.K.Sink.written c.explain.new.sink) (Err e))
    c.in-Err-WriteFault.field-0-is c.in-Err-WriteFault.ensures.explained))

pub returns-clause-told : goal.returns-clause-told
returns-clause-told g c =
    subst (λ it. IsAsideTold (moment_of c.args.self.now) it c.args.reader.now c.args.reader.now (g.S.Source.left c.args.source.now)
    (g.S.Source.left c.args.source.now) c.args.lines.now c.args.lines.now (g.K.Sink.written c.args.sink.now) (g.K.Sink.written c.explain.new.sink)
    (Err live_errors.NoMemory)) (sym c.in-Why.is)
    (told_no_memory (moment_of c.args.self.now) c.in-Why.name c.args.reader.now (g.S.Source.left c.args.source.now) c.args.lines.now
    (g.K.Sink.written c.args.sink.now) (g.K.Sink.written c.explain.new.sink)
    (subst (λ e. IsExplained (moment_of c.args.self.now) c.in-Why.name (g.K.Sink.written c.args.sink.now) (g.K.Sink.written c.explain.new.sink) (Err e))
    c.in-Err-NoMemory.field-0-is c.in-Err-NoMemory.ensures.explained))
