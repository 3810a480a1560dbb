use Rattle.std.proofs.Common.{◌∙◌, ◌-◌, ap, sym, refl}
use Rattle.std.specs.Str.{chars}
use Rattle.cc_text_reasoning.specs.Breaking.{next_of, behind_inside}
use Rattle.cc_text_reasoning.proofs.Reading.{one_more, no_more, all_turns}
use Rattle.cc_text_reasoning.proofs.breaks.break_of_string.Goals as goal

pub loop-init : goal.loop-init
loop-init c = record { utf8 = c.utf8.text; same = refl }

pub past_inside-requires-text-text : goal.past_inside-requires-text-text
past_inside-requires-text-text c κs = c.loop.invariant.utf8

pub returns-in-None : goal.returns-in-None
returns-in-None c =
    c.next_of.ensures
    ∙ ap next_of (sym (no_more (200 - c.loop.counter) (chars c.loop.rest.now) c.in-None.ensures) ∙ c.loop.invariant.same)

pub loop-preserved : goal.loop-preserved
loop-preserved c =
    record {
      utf8 = c.in-Some.ensures.1;
      same =
          sym (one_more c.loop.counter c.in-Some.ensures.0.0 (chars c.in-Some.behind.now) c.loop-test.true c.in-Some.ensures.0.2)
          ∙ ap (behind_inside (200 - c.loop.counter)) (sym c.in-Some.ensures.0.1) ∙ c.loop.invariant.same;
    }

pub next_of-requires-2-text-text : goal.next_of-requires-2-text-text
next_of-requires-2-text-text c κs = c.loop.invariant.utf8

pub returns : goal.returns
returns c = c.next_of-2.ensures ∙ ap next_of (sym (all_turns (chars c.loop.rest.now) c.loop.counter c.loop-test.false) ∙ c.loop.invariant.same)
