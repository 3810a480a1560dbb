use Rattle.std.proofs.Common.{◌≡◌, ◌+◌, ◌-◌, ◌<◌, ◌∙◌, ap, sym, drop, length, arith, ℕ, Some, if◌then◌else◌}
use Rattle.std.proofs.lemmas.List.{drop_all}
use Rattle.std.specs.Str.{bytes_eq}
use Rattle.cc_module.specs.declared.judgement.CheckedDef.{CheckedDef}
use Rattle.cc_module.specs.DefinitionPlaces.{place_in, first_named, definition_at}
use Rattle.cc_module.proofs.NamedDefinitions.{found_more}
use Rattle.cc_module.proofs.definitions.places_of.Goals as goal

pub loop-left-init : goal.loop-left-init
loop-left-init c =
    record {
      within = omega arith;
      finds = λ name.
          ap (definition_at c.args.defs.now) (c.new-places.ensures name)
          ∙ sym (ap (first_named name) (drop_all (length c.args.defs.now) c.args.defs.now (omega arith)));
    }

pub loop-left-preserved : goal.loop-left-preserved
loop-left-preserved c =
    let left : ℕ = c.loop-left.left - 1 in
    let next : c.loop-left.left ≡ left + 1 = omega (arith, c.loop-left-test.true) in
    let within : left < length c.args.defs.now = omega (arith, c.loop-left.invariant.within, c.loop-left-test.true) in
    record {
      within = omega (arith, c.loop-left.invariant.within);
      finds =
          found_more c.args.defs.now left c.index-defs-left.result within c.index-defs-left.is c.loop-left.places
          c.put.new.self
          (λ name. c.loop-left.invariant.finds name ∙ ap (λ n. first_named name (drop n c.args.defs.now)) next)
          (λ name.
          c.in_ok-put.ensures name
          ∙ ap (λ (d : CheckedDef). if bytes_eq d.name name then Some left else place_in c.loop-left.places name)
          (sym c.index-defs-left.is));
    }

pub returns : goal.returns
returns c = λ name.
    c.loop-left.invariant.finds name
    ∙ ap (λ n. first_named name (drop n c.args.defs.now))
    (let none : c.loop-left.left ≡ 0 = omega (arith, c.loop-left-test.false) in none)
