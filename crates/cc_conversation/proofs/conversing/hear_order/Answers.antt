use Rattle.std.proofs.Common.{true, Ok, Err, ◌∙◌, subst}
use Rattle.cc_conversation.proofs.HearingOn.{at_moment, awaits_end, awaits_stop, awaits_none}
use Rattle.cc_conversation.proofs.Turning.{talks_blank}
use Rattle.cc_conversation.proofs.conversing.hear_order.Goals as goal
use Rattle.cc_item_reading.specs.ItemReading.{HearsNextItem}
use Rattle.cc_item_reading.specs.declared.reading.Heard.TheVariants as heard

pub returns-in-Ok-End-clause-awaits : goal.returns-in-Ok-End-clause-awaits
returns-in-Ok-End-clause-awaits g c = λ start left before written refused moment same begun talks.
    awaits_end moment start c.loop.reader c.hear.new.reader left (g.S.Source.left c.loop.source) (g.S.Source.left c.hear.new.source) before written c.loop.lines c.hear.new.lines refused
    (c.loop.invariant.talks start left before written refused moment talks)
    (at_moment c.args.devices.now moment c.loop.reader c.hear.new.reader (g.S.Source.left c.loop.source) (g.S.Source.left c.hear.new.source) c.loop.lines c.hear.new.lines (Ok heard.End) same begun
    (subst (λ t. HearsNextItem c.args.devices.now true c.loop.reader c.hear.new.reader (g.S.Source.left c.loop.source) (g.S.Source.left c.hear.new.source) c.loop.lines c.hear.new.lines (Ok t)) c.in-Ok-End.field-0-is c.in-Ok-End.ensures.heard))

pub returns-in-Err-clause-awaits : goal.returns-in-Err-clause-awaits
returns-in-Err-clause-awaits g c = λ start left before written refused moment same begun talks.
    awaits_stop moment c.in-Err.error start c.loop.reader c.hear.new.reader left (g.S.Source.left c.loop.source) (g.S.Source.left c.hear.new.source) before written c.loop.lines c.hear.new.lines refused
    (c.loop.invariant.talks start left before written refused moment talks)
    (at_moment c.args.devices.now moment c.loop.reader c.hear.new.reader (g.S.Source.left c.loop.source) (g.S.Source.left c.hear.new.source) c.loop.lines c.hear.new.lines (Err c.in-Err.error) same begun c.in-Err.ensures.heard)

pub loop-preserved : goal.loop-preserved
loop-preserved g c = record {
  talks = λ start left before written refused moment talks.
      talks_blank c.args.devices.now true start c.loop.reader c.hear.new.reader left (g.S.Source.left c.loop.source) (g.S.Source.left c.hear.new.source) before written c.loop.lines c.hear.new.lines refused moment
      (c.loop.invariant.talks start left before written refused moment talks)
      (subst (λ t. HearsNextItem c.args.devices.now true c.loop.reader c.hear.new.reader (g.S.Source.left c.loop.source) (g.S.Source.left c.hear.new.source) c.loop.lines c.hear.new.lines (Ok t)) c.in-Ok-Empty.field-0-is c.in-Ok-Empty.ensures.heard);
  known = c.in-Ok-Empty.ensures.known;
  no_fault = c.in-Ok-Empty.ensures.cause ∙ c.loop.invariant.no_fault;
}

pub returns-clause-awaits : goal.returns-clause-awaits
returns-clause-awaits g c = λ start left before written refused moment same begun talks.
    awaits_none moment start c.loop.reader left (g.S.Source.left c.loop.source) before written c.loop.lines refused
    (c.loop.invariant.talks start left before written refused moment talks)
