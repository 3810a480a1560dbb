use Rattle.std.proofs.Common.{None, Some, Ok, Err, refl, ◌∙◌, subst}
use Rattle.cc_conversation.proofs.HearingOn.{awaits_none}
use Rattle.cc_conversation.proofs.conversing.hear_devices.Goals as goal
use Rattle.cc_conversation.specs.Turns.{Waits, opening}

pub returns-in-Ok-Some-clause-awaits : goal.returns-in-Ok-Some-clause-awaits
returns-in-Ok-Some-clause-awaits g c = λ start left before written talks.
    subst (λ t. Waits start c.hear_next.new.reader left (g.S.Source.left c.hear_next.new.source) before written c.hear_next.new.lines (opening c.hear_next.new.devices.items) (Ok t))
    c.in-Ok-Some.field-0-is (c.in-Ok-Some.ensures.turns start left before written (c.loop.invariant.talks start left before written talks))

pub returns-in-Err-clause-awaits : goal.returns-in-Err-clause-awaits
returns-in-Err-clause-awaits g c = λ start left before written talks.
    c.in-Err.ensures.turns start left before written (c.loop.invariant.talks start left before written talks)

pub loop-preserved : goal.loop-preserved
loop-preserved g c = record {
  talks = λ start left before written talks.
      subst (λ t. Waits start c.hear_next.new.reader left (g.S.Source.left c.hear_next.new.source) before written c.hear_next.new.lines (opening c.hear_next.new.devices.items) (Ok t))
      c.in-Ok-None.field-0-is (c.in-Ok-None.ensures.turns start left before written (c.loop.invariant.talks start left before written talks));
  declared = c.in-Ok-None.ensures.declared;
  known = c.in-Ok-None.ensures.known;
  no_fault = c.in-Ok-None.ensures.cause ∙ c.loop.invariant.no_fault;
}

pub returns-clause-awaits : goal.returns-clause-awaits
returns-clause-awaits g c = λ start left before written talks.
    awaits_none (opening c.loop.devices.items) start c.loop.reader left (g.S.Source.left c.loop.source) before written c.loop.lines _
    (c.loop.invariant.talks start left before written talks)
