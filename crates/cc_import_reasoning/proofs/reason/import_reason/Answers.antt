use Rattle.std.proofs.Common.{◌≡◌, length, map, subst, arith}
use Rattle.std.proofs.lemmas.List.{length-map}
use Rattle.cc_judge.specs.KnownGraphs.{entries_of}
use Rattle.cc_parse.specs.Trees.{import_syntax}
use Rattle.cc_verdicts.specs.PresentTexts.{finding_for}
use Rattle.cc_import_reasoning.specs.ToldImports.{reason_of, TellsOne}
use Rattle.cc_import_reasoning.proofs.GivenImports.{none_missing, first_told, one_more, import_at, found_at}
use Rattle.cc_import_reasoning.proofs.reason.import_reason.Goals as goal

pub returns-in-Some : goal.returns-in-Some
returns-in-Some c = λ texts all given present are.
    let graph = entries_of c.args.modules.now in
    let name = c.args.name.now in
    let imports = map import_syntax c.args.imports.now in
    let at = c.loop-at.at in
    let one = c.index-imports-at.result in
    let low = c.loop-at-test.true in
    let count = c.requires.count in
    let stands = import_at c.args.imports.now at one (omega arith) c.index-imports-at.is in
    let finds = found_at c.args.findings.now imports (finding_for texts all name) are at c.index-findings-at.result (import_syntax one) low c.index-findings-at.is stands in
    let it = subst (λ told. TellsOne texts all graph name (import_syntax one) told) c.in-Some.is (c.in_ok-told.ensures texts all given present finds) in (
      import_syntax one,
      stands,
      first_told texts all name imports at (import_syntax one) (reason_of graph name (import_syntax one) c.in-Some.cause) stands it
          (c.loop-at.invariant texts all given present are),
    )

pub loop-at-preserved : goal.loop-at-preserved
loop-at-preserved c = λ texts all given present are.
    let graph = entries_of c.args.modules.now in
    let name = c.args.name.now in
    let imports = map import_syntax c.args.imports.now in
    let at = c.loop-at.at in
    let one = c.index-imports-at.result in
    let low = c.loop-at-test.true in
    let count = c.requires.count in
    let stands = import_at c.args.imports.now at one (omega arith) c.index-imports-at.is in
    let finds = found_at c.args.findings.now imports (finding_for texts all name) are at c.index-findings-at.result (import_syntax one) low c.index-findings-at.is stands in
    let it = subst (λ told. TellsOne texts all graph name (import_syntax one) told) c.in_default.is (c.in_ok-told.ensures texts all given present finds) in
    one_more texts all name imports at (import_syntax one) stands (c.loop-at.invariant texts all given present are) it

pub returns : goal.returns
returns c = λ texts all given present are.
    let imports = map import_syntax c.args.imports.now in
    let past = c.loop-at-test.false in
    let count = c.requires.count in
    let many : length imports ≡ length c.args.imports.now = length-map c.args.imports.now import_syntax in
    none_missing texts all c.args.name.now imports
    (λ other one low stands. c.loop-at.invariant texts all given present are other one (omega arith) stands)
