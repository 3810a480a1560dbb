use Rattle.std.proofs.Common.{arith, subst}
use Rattle.cc_judge.proofs.TextPlaces.{place_of_key}
use Rattle.std.proofs.lemmas.Result.{IfOk-weaker}
use Rattle.cc_parse.specs.Trees.{import_syntax}
use Rattle.cc_module.specs.Findings.{finding_of}
use Rattle.cc_judge.specs.declared.findings.Source.{Source}
use Rattle.cc_judge.specs.Found.{IsSource}
use Rattle.cc_judge.proofs.FoundImports.{found_unknown, found_cycle, found_planned}
use Rattle.cc_judge.proofs.findings.finding.Goals as goal

pub returns-in-Absent : goal.returns-in-Absent
returns-in-Absent c =
    let import = c.args.import.now in
    let P : Source → Type 0 = λ s. IsSource c.args.texts.now c.args.name.now import.module s in
    found_unknown c.args.texts.now c.args.last.now.verdicts.items c.args.plans.now c.args.name.now
    (import_syntax import) (subst P c.in-Absent.is c.requires.source)

pub returns-in-Cycle : goal.returns-in-Cycle
returns-in-Cycle c =
    let import = c.args.import.now in
    let P : Source → Type 0 = λ s. IsSource c.args.texts.now c.args.name.now import.module s in
    let (at, stands, back) = subst P c.in-Cycle.is c.requires.source in
    found_cycle c.args.texts.now c.args.last.now.verdicts.items c.args.plans.now c.args.name.now (import_syntax import)
    c.requires.present at stands back

pub returns-in-At : goal.returns-in-At
returns-in-At c =
    let import = c.args.import.now in
    let P : Source → Type 0 = λ s. IsSource c.args.texts.now c.args.name.now import.module s in
    let (stands, ahead) = subst P c.in-At.is c.requires.source in
    IfOk-weaker c.finding_by.result _ _
    (λ f found.
    found_planned c.args.texts.now c.args.last.now.verdicts.items c.args.plans.now c.args.name.now
    (import_syntax import) c.requires.present c.in-At.at stands ahead c.index-plans-at.result (finding_of f)
    (omega (arith, c.requires.count, (place_of_key c.args.texts.now c.in-At.at import.module stands).0))
    c.index-plans-at.is found)
    c.finding_by.ensures
