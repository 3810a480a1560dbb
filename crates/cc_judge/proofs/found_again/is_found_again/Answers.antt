use Rattle.std.proofs.Common.{◌<◌, length, arith, sym, subst, ◌∙◌}
use Rattle.std.proofs.lemmas.List.{get_or_read}
use Rattle.std.specs.Prelude.{None}
use Rattle.cc_module.specs.Findings.{finding_of}
use Rattle.cc_parse.specs.Trees.{import_syntax}
use Rattle.cc_judge.specs.declared.findings.Source.{Source}
use Rattle.cc_judge.specs.Found.{IsSource}
use Rattle.cc_judge.proofs.FoundAgain.{found_again}
use Rattle.cc_judge.proofs.TextPlaces.{place_of_key}
use Rattle.cc_judge.proofs.found_again.is_found_again.Goals as goal

pub returns-then-is_found : goal.returns-then-is_found
returns-then-is_found c =
    λ yes.
    let (at, is) = c.keeps.ensures yes in
    let P : Source → Type 0 = λ s. IsSource c.args.texts.now c.args.name.now c.args.import.now.module s in
    let (stands, ahead) = subst P c.in-At.is c.requires.source in
    let (inside, same) = place_of_key c.args.texts.now c.in-At.at c.args.import.now.module stands in
    let within : c.in-At.at < length c.args.plans.now = omega (arith, inside, c.requires.count) in
    found_again c.args.devices.now c.args.texts.now c.args.last.now.verdicts.items c.args.last.now.grounds.items
    c.requires.kept.names c.requires.kept.one_each c.requires.present c.args.plans.now c.requires.plans c.in-At.at at
    (sym (get_or_read c.args.plans.now c.in-At.at c.index-plans-at.result within c.index-plans-at.is None) ∙ is)
    c.args.name.now (import_syntax c.args.import.now) stands ahead (finding_of c.args.old.now) c.requires.old
    (sym c.is_found.ensures ∙ c.if-is_found.true)
