use Rattle.std.proofs.Common.{length, refl, sym, ap, subst, ◌∙◌}
use Rattle.std.specs.List.{AllByRecursion}
use Rattle.std.specs.Str.{bytes_eq}
use Rattle.std.proofs.lemmas.List.{take_all}
use Rattle.std.proofs.lemmas.Option.{same_Some, slice_get_read}
use Rattle.cc_module.specs.declared.judgement.CheckedDef.{CheckedDef}
use Rattle.cc_session.proofs.StandingFacts.{HasOtherName, others_more, found_first, found_nowhere}
use Rattle.cc_session.proofs.standing.place_of_definition.Goals as goal

pub returns-then-eq : goal.returns-then-eq
returns-then-eq c =
    let defs = c.args.defs.now in
    let one = c.index-defs-place.result in
    let here = slice_get_read defs (length defs) c.loop-place.place one refl c.loop-place-test.true
    c.index-defs-place.is in (
      c.loop-place-test.true,
      λ other stands.
          found_first c.args.name.now defs c.loop-place.place other c.loop-place.invariant stands
          (ap (λ (d : CheckedDef). bytes_eq d.name c.args.name.now) (same_Some other one (sym stands ∙ here) ∙ c.index-defs-place.is)
          ∙ sym c.if-eq.ensures),
    )

pub loop-place-preserved : goal.loop-place-preserved
loop-place-preserved c =
    others_more c.args.name.now c.args.defs.now c.loop-place.place c.index-defs-place.result c.loop-place-test.true
    c.index-defs-place.is c.loop-place.invariant
    (ap (λ (d : CheckedDef). bytes_eq d.name c.args.name.now) c.index-defs-place.is ∙ sym c.if-eq.ensures)

pub returns : goal.returns
returns c =
    found_nowhere c.args.name.now c.args.defs.now
    (subst (AllByRecursion (HasOtherName c.args.name.now))
    (take_all c.loop-place.place c.args.defs.now c.loop-place-test.false) c.loop-place.invariant)
