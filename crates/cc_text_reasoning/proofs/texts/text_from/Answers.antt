use Rattle.std.proofs.Common.{◌∙◌, ap, sym, refl}
use Rattle.std.specs.Str.{chars}
use Rattle.cc_text_reasoning.specs.Places.{from_place}
use Rattle.cc_text_reasoning.proofs.Reading.{here, further, shorter}
use Rattle.cc_text_reasoning.proofs.texts.text_from.Goals as goal

pub loop-first-init : goal.loop-first-init
loop-first-init c = record { utf8 = c.utf8.text; same = refl }

pub returns-then-is_same : goal.returns-then-is_same
returns-then-is_same c =
    c.in-Some.ensures.0
    ∙ sym (here c.args.at c.loop-first.place c.in-Some.first (chars c.in-Some.behind.now) (sym c.is_same.ensures ∙ c.if-is_same.true))
    ∙ ap (from_place c.args.at c.loop-first.place) (sym c.in-Some.ensures.0) ∙ c.loop-first.invariant.same

pub loop-first-preserved : goal.loop-first-preserved
loop-first-preserved c =
    record {
      utf8 = c.in-Some.ensures.1;
      same =
          sym (further c.args.at c.loop-first.place c.in_ok-place.place c.in-Some.first (chars c.in-Some.behind.now) (sym c.is_same.ensures ∙ c.if-is_same.false) c.in_ok-place.ensures)
          ∙ ap (from_place c.args.at c.loop-first.place) (sym c.in-Some.ensures.0) ∙ c.loop-first.invariant.same;
    }

pub loop-first-smaller : goal.loop-first-smaller
loop-first-smaller c = shorter (chars c.loop-first.rest.now) (chars c.in-Some.behind.now) c.in-Some.first c.in-Some.ensures.0

pub returns : goal.returns
returns c = c.in_default.ensures ∙ ap (from_place c.args.at c.loop-first.place) (sym c.in_default.ensures) ∙ c.loop-first.invariant.same
