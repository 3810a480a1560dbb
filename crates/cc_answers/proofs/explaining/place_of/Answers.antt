use Rattle.std.proofs.Common.{◌<◌, length, map, Some, inl, inr, refl, sym, ap, ◌∙◌, arith}
use Rattle.std.proofs.lemmas.Bool.{cases_lt}
use Rattle.std.proofs.lemmas.Option.{slice_get_read}
use Rattle.cc_replies.specs.Explanations.{names_of}
use Rattle.cc_answers.proofs.ExplainingFacts.{named_so, not_named_so, stands_carried, nothing_past, one_more_missed}
use Rattle.cc_answers.proofs.explaining.place_of.Goals as goal

pub returns-then-is_named : goal.returns-then-is_named
returns-then-is_named c =
    let defs = c.args.definitions.now in
    let one = c.index-definitions-place.result in
    let here = slice_get_read defs (length defs) c.loop-place.place one refl c.loop-place-test.true c.index-definitions-place.is in
    stands_carried names_of defs c.loop-place.place one here
    ∙ ap (λ t. Some t) (named_so one.«module».now one.def.now c.args.«module».now c.args.def.now (sym c.is_named.ensures ∙ c.if-is_named.true))

pub loop-place-preserved : goal.loop-place-preserved
loop-place-preserved c =
    let defs = c.args.definitions.now in
    let one = c.index-definitions-place.result in
    let here = slice_get_read defs (length defs) c.loop-place.place one refl c.loop-place-test.true c.index-definitions-place.is in
    one_more_missed (map names_of defs) c.loop-place.place (c.args.«module».now, c.args.def.now) c.loop-place.invariant
    (λ is.
    not_named_so one.«module».now one.def.now c.args.«module».now c.args.def.now (sym c.is_named.ensures ∙ c.if-is_named.false)
    (sym (stands_carried names_of defs c.loop-place.place one here) ∙ is))

pub returns : goal.returns
returns c =
    λ place is.
    elim (cases_lt place c.loop-place.place) [
      | inl low ↦ c.loop-place.invariant place low is
      | inr high ↦ nothing_past names_of c.args.definitions.now place (c.args.«module».now, c.args.def.now) (omega arith) is
    ]
