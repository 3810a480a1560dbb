use Rattle.std.proofs.Common.{sym, ap, subst, ◌∙◌}
use Rattle.cc_judge.specs.KnownGraphs.{entries_of}
use Rattle.cc_module.specs.Findings.{finding_of}
use Rattle.cc_parse.specs.Trees.{import_syntax}
use Rattle.cc_import_reasoning.specs.Circles.{FindsCircle}
use Rattle.cc_import_reasoning.proofs.GivenImports.{tells_no_module, tells_no_definition, tells_refused, tells_no_refusal, tells_circle, tells_no_circle}
use Rattle.cc_import_reasoning.proofs.reason.cause.Goals as goal

pub returns-in-Unknown : goal.returns-in-Unknown
returns-in-Unknown c = λ texts all given present finds.
    tells_no_module texts all (entries_of c.args.modules.now) c.args.name.now (import_syntax c.args.import.now) (ap finding_of (sym c.in-Unknown.is) ∙ finds)

pub returns-in-NoDef : goal.returns-in-NoDef
returns-in-NoDef c = λ texts all given present finds.
    tells_no_definition texts all (entries_of c.args.modules.now) c.args.name.now (import_syntax c.args.import.now) (ap finding_of (sym c.in-NoDef.is) ∙ finds)

pub returns-in-Some : goal.returns-in-Some
returns-in-Some c = λ texts all given present finds.
    tells_refused texts all (entries_of c.args.modules.now) c.args.name.now (import_syntax c.args.import.now) c.in-Some.diag
    (c.in-Some.ensures texts all given.verdicts_are) (ap finding_of (sym c.in-RefusedModule.is) ∙ finds)

pub returns-in-None : goal.returns-in-None
returns-in-None c = λ texts all given present finds.
    tells_no_refusal texts all (entries_of c.args.modules.now) c.args.name.now (import_syntax c.args.import.now)
    (c.in-None.ensures texts all given.verdicts_are) (ap finding_of (sym c.in-RefusedModule.is) ∙ finds)

pub returns-in-Some-2 : goal.returns-in-Some-2
returns-in-Some-2 c = λ texts all given present finds.
    let graph = entries_of c.args.modules.now in
    let one = import_syntax c.args.import.now in
    tells_circle texts all graph c.args.name.now one given.graph_is c.in-Some-2.places
    (subst (λ found. FindsCircle graph c.args.name.now one.source found) c.in-Some-2.is c.in_ok-places-in-Cycle.ensures)
    (ap finding_of (sym c.in-Cycle.is) ∙ finds)

pub returns-in-None-2 : goal.returns-in-None-2
returns-in-None-2 c = λ texts all given present finds.
    let graph = entries_of c.args.modules.now in
    let one = import_syntax c.args.import.now in
    tells_no_circle texts all graph c.args.name.now one given.graph_is present
    (subst (λ found. FindsCircle graph c.args.name.now one.source found) c.in-None-2.is c.in_ok-places-in-Cycle.ensures)
    (ap finding_of (sym c.in-Cycle.is) ∙ finds)
