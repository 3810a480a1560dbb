use Rattle.std.proofs.Common.{Err, refl, sym, subst}
use Rattle.std.proofs.KnownBytes.{Appends-nil}
use Rattle.cc_conversation.proofs.Ending.{conversed, conversed_first}
use Rattle.cc_conversation.proofs.GoingOn.{talks_first, heard_fresh, cause_as}
use Rattle.cc_conversation.proofs.conversing.converse.Goals as goal
use Rattle.cc_conversation.specs.Conversed.{Conversed, ends, fresh}
use Rattle.cc_conversation.specs.Turns.{StopCause}

pub returns-in-Ok : goal.returns-in-Ok
returns-in-Ok g c =
    subst (Conversed (ends (g.S.Source.left c.args.source.now) (g.S.Source.faults c.args.source.now) (g.K.Sink.written c.args.sink.now) (g.K.Sink.faults c.args.sink.now))
    (ends (g.S.Source.left c.go_on_behind_first-told.new.source) (g.S.Source.faults c.go_on_behind_first-told.new.source) (g.K.Sink.written c.go_on_behind_first-told.new.sink) (g.K.Sink.faults c.go_on_behind_first-told.new.sink)))
    (sym c.ending_of.ensures)
    (conversed (ends (g.S.Source.left c.args.source.now) (g.S.Source.faults c.args.source.now) (g.K.Sink.written c.args.sink.now) (g.K.Sink.faults c.args.sink.now))
    (ends (g.S.Source.left c.go_on_behind_first-told.new.source) (g.S.Source.faults c.go_on_behind_first-told.new.source) (g.K.Sink.written c.go_on_behind_first-told.new.sink) (g.K.Sink.faults c.go_on_behind_first-told.new.sink))
    c.go_on_behind_first-told.new.reader c.go_on_behind_first-told.new.lines c.go_on_behind_first-told.result
    (c.go_on_behind_first-told.ensures.ends fresh (g.S.Source.left c.args.source.now) (g.K.Sink.written c.args.sink.now)
    (talks_first c.new-reader.result c.hear_first.new.reader (g.S.Source.left c.args.source.now) (g.S.Source.left c.hear_first.new.source)
    (g.K.Sink.written c.args.sink.now) c.hear_first.new.lines c.new-reader.ensures c.in-Ok.ensures.heard))
    (subst (λ n. StopCause n (g.S.Source.faults c.go_on_behind_first-told.new.source) (g.K.Sink.faults c.args.sink.now) (g.K.Sink.faults c.go_on_behind_first-told.new.sink)
    c.go_on_behind_first-told.result) c.in-Ok.ensures.cause c.go_on_behind_first-told.ensures.cause))

pub returns : goal.returns
returns g c =
    subst (Conversed (ends (g.S.Source.left c.args.source.now) (g.S.Source.faults c.args.source.now) (g.K.Sink.written c.args.sink.now) (g.K.Sink.faults c.args.sink.now))
    (ends (g.S.Source.left c.hear_first.new.source) (g.S.Source.faults c.hear_first.new.source) (g.K.Sink.written c.args.sink.now) (g.K.Sink.faults c.args.sink.now)))
    (sym c.ending_of-in-Err.ensures)
    (conversed_first (ends (g.S.Source.left c.args.source.now) (g.S.Source.faults c.args.source.now) (g.K.Sink.written c.args.sink.now) (g.K.Sink.faults c.args.sink.now))
    (ends (g.S.Source.left c.hear_first.new.source) (g.S.Source.faults c.hear_first.new.source) (g.K.Sink.written c.args.sink.now) (g.K.Sink.faults c.args.sink.now))
    c.hear_first.new.reader c.hear_first.new.lines c.in-Err.error
    (heard_fresh c.new-reader.result c.hear_first.new.reader (g.S.Source.left c.args.source.now) (g.S.Source.left c.hear_first.new.source)
    c.hear_first.new.lines c.in-Err.error c.new-reader.ensures c.in-Err.ensures.heard)
    (Appends-nil (g.K.Sink.written c.args.sink.now))
    (cause_as c.in-Err.error (g.S.Source.faults c.args.source.now) (g.S.Source.faults c.hear_first.new.source) c.in-Err.ensures.cause, refl))
