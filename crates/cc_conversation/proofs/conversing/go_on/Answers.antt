use Rattle.std.proofs.Common.{None, Some, Ok, Err, sym, ◌∙◌, subst}
use Rattle.cc_conversation.proofs.GoingOn.{begun_behind}
use Rattle.cc_conversation.proofs.Turning.{alike_behind, order_lost}
use Rattle.cc_conversation.proofs.conversing.go_on.Goals as goal
use Rattle.cc_conversation.specs.Turns.{Talks, Awaits, behind_order, moment_of}

pub returns-in-Err-clause-ends : goal.returns-in-Err-clause-ends
returns-in-Err-clause-ends g c = λ start left before moment alike hears.
    let at = c.loop.invariant.heard start left before moment alike hears in
    c.in-Err.ensures.carries start left before c.loop.refused at.0 at.1 at.2

pub returns-in-Ok-None-clause-ends : goal.returns-in-Ok-None-clause-ends
returns-in-Ok-None-clause-ends g c = λ start left before moment alike hears.
    let at = c.loop.invariant.heard start left before moment alike hears in
    let now = behind_order at.0 c.loop.order in
    let same = alike_behind at.0 (moment_of c.loop.conversation) (moment_of c.carry_out.new.conversation) c.loop.order at.1 c.in-Ok.ensures.moment in
    let talks = subst (λ b. Talks start c.carry_out.new.reader left (g.S.Source.left c.carry_out.new.source) before (g.K.Sink.written c.carry_out.new.sink)
    c.carry_out.new.lines b now) (sym c.either-refused.ensures) (c.in-Ok.ensures.carries start left before c.loop.refused at.0 at.1 at.2) in
    let told = c.in-Ok-None.ensures.awaits start left before (g.K.Sink.written c.carry_out.new.sink) c.either-refused.result now (same.0 ∙ sym c.devices-devices.ensures)
    (begun_behind at.0 c.loop.order) talks in
    let over = subst (λ t. Awaits start c.hear_order.new.reader left (g.S.Source.left c.hear_order.new.source) before (g.K.Sink.written c.carry_out.new.sink)
    c.hear_order.new.lines c.either-refused.result now (Ok t)) c.in-Ok-None.field-0-is told in
    (now, over.0, over.1, over.2)

pub returns-in-Err-hear_order-clause-ends : goal.returns-in-Err-hear_order-clause-ends
returns-in-Err-hear_order-clause-ends g c = λ start left before moment alike hears.
    let at = c.loop.invariant.heard start left before moment alike hears in
    let now = behind_order at.0 c.loop.order in
    let same = alike_behind at.0 (moment_of c.loop.conversation) (moment_of c.carry_out.new.conversation) c.loop.order at.1 c.in-Ok.ensures.moment in
    let talks = subst (λ b. Talks start c.carry_out.new.reader left (g.S.Source.left c.carry_out.new.source) before (g.K.Sink.written c.carry_out.new.sink)
    c.carry_out.new.lines b now) (sym c.either-refused.ensures) (c.in-Ok.ensures.carries start left before c.loop.refused at.0 at.1 at.2) in
    let told = c.in-Err-hear_order.ensures.awaits start left before (g.K.Sink.written c.carry_out.new.sink) c.either-refused.result now (same.0 ∙ sym c.devices-devices.ensures)
    (begun_behind at.0 c.loop.order) talks in
    (c.either-refused.result, told)

pub loop-preserved : goal.loop-preserved
loop-preserved g c = record {
  heard = λ start left before moment alike hears.
      let at = c.loop.invariant.heard start left before moment alike hears in
      let now = behind_order at.0 c.loop.order in
      let same = alike_behind at.0 (moment_of c.loop.conversation) (moment_of c.carry_out.new.conversation) c.loop.order at.1 c.in-Ok.ensures.moment in
      let talks = subst (λ b. Talks start c.carry_out.new.reader left (g.S.Source.left c.carry_out.new.source) before (g.K.Sink.written c.carry_out.new.sink)
      c.carry_out.new.lines b now) (sym c.either-refused.ensures) (c.in-Ok.ensures.carries start left before c.loop.refused at.0 at.1 at.2) in
      let told = c.in-Ok-Some.ensures.awaits start left before (g.K.Sink.written c.carry_out.new.sink) c.either-refused.result now (same.0 ∙ sym c.devices-devices.ensures)
      (begun_behind at.0 c.loop.order) talks in (
        now,
        same,
        subst (λ t. Awaits start c.hear_order.new.reader left (g.S.Source.left c.hear_order.new.source) before (g.K.Sink.written c.carry_out.new.sink)
            c.hear_order.new.lines c.either-refused.result now (Ok t)) c.in-Ok-Some.field-0-is told,
      );
  under_way = c.in-Ok.ensures.under_way;
  known = c.in-Ok-Some.ensures.known;
  no_read_fault = c.in-Ok-Some.ensures.cause ∙ (c.in-Ok.ensures.cause.0 ∙ c.loop.invariant.no_read_fault);
  no_write_fault = c.in-Ok.ensures.cause.1 ∙ c.loop.invariant.no_write_fault;
}

pub returns-clause-ends : goal.returns-clause-ends
returns-clause-ends g c = λ start left before moment alike hears.
    let at = c.loop.invariant.heard start left before moment alike hears in
    (c.loop.refused, order_lost start c.loop.reader left (g.S.Source.left c.loop.source) before (g.K.Sink.written c.loop.sink) c.loop.lines c.loop.refused at.0 c.loop.order at.2)
