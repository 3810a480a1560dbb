use Rattle.std.proofs.Common.{false, None, Some, Ok, sym, subst}
use Rattle.cc_conversation.proofs.GoingOn.{alike_first}
use Rattle.cc_conversation.proofs.HearingOn.{none_declared}
use Rattle.cc_conversation.proofs.Turning.{order_lost}
use Rattle.cc_conversation.proofs.conversing.go_on_behind_first.Goals as goal
use Rattle.cc_conversation.specs.Turns.{Talks, Awaits, moment_of, opening}
use Rattle.cc_item_reading.specs.ItemReading.{AreDeclared}

pub hear_devices-requires-clause-declared : goal.hear_devices-requires-clause-declared
hear_devices-requires-clause-declared g c = subst AreDeclared (sym c.new-devices.ensures.items) none_declared

pub returns-in-Ok-clause-ends : goal.returns-in-Ok-clause-ends
returns-in-Ok-clause-ends g c = λ start left before talks.
    let hears = subst (λ t. Awaits start c.hear_devices.new.reader left (g.S.Source.left c.hear_devices.new.source) before (g.K.Sink.written c.args.sink.now)
    c.hear_devices.new.lines false (opening c.hear_devices.new.devices.items) (Ok t)) c.in-Ok-Some.field-0-is
    (c.in-Ok-Some.ensures.awaits start left before (g.K.Sink.written c.args.sink.now) (subst (λ ds. Talks start c.args.reader.now left (g.S.Source.left c.args.source.now) before (g.K.Sink.written c.args.sink.now) c.args.lines.now false (opening ds)) (sym c.new-devices.ensures.items) talks)) in
    c.go_on-told.ensures.ends start left before (opening c.hear_devices.new.devices.items)
    (alike_first c.hear_devices.new.devices.items (moment_of c.in-Ok.conversation) c.in-Ok.ensures.moment) hears

pub returns-in-Err-new-clause-ends : goal.returns-in-Err-new-clause-ends
returns-in-Err-new-clause-ends g c = λ start left before talks.
    let hears = subst (λ t. Awaits start c.hear_devices.new.reader left (g.S.Source.left c.hear_devices.new.source) before (g.K.Sink.written c.args.sink.now)
    c.hear_devices.new.lines false (opening c.hear_devices.new.devices.items) (Ok t)) c.in-Ok-Some.field-0-is
    (c.in-Ok-Some.ensures.awaits start left before (g.K.Sink.written c.args.sink.now) (subst (λ ds. Talks start c.args.reader.now left (g.S.Source.left c.args.source.now) before (g.K.Sink.written c.args.sink.now) c.args.lines.now false (opening ds)) (sym c.new-devices.ensures.items) talks)) in (
      false,
      order_lost start c.hear_devices.new.reader left (g.S.Source.left c.hear_devices.new.source) before (g.K.Sink.written c.args.sink.now)
          c.hear_devices.new.lines false (opening c.hear_devices.new.devices.items) c.in-Ok-Some.first hears,
    )

pub returns-in-Ok-None-clause-ends : goal.returns-in-Ok-None-clause-ends
returns-in-Ok-None-clause-ends g c = λ start left before talks.
    let over = subst (λ t. Awaits start c.hear_devices.new.reader left (g.S.Source.left c.hear_devices.new.source) before (g.K.Sink.written c.args.sink.now)
    c.hear_devices.new.lines false (opening c.hear_devices.new.devices.items) (Ok t)) c.in-Ok-None.field-0-is
    (c.in-Ok-None.ensures.awaits start left before (g.K.Sink.written c.args.sink.now) (subst (λ ds. Talks start c.args.reader.now left (g.S.Source.left c.args.source.now) before (g.K.Sink.written c.args.sink.now) c.args.lines.now false (opening ds)) (sym c.new-devices.ensures.items) talks)) in
    (opening c.hear_devices.new.devices.items, over.0, over.1, over.2)
