use Rattle.std.proofs.Common.{◌≡◌, ℕ, List, length, map, Option, Some, None, IsTrue, sym, ap, subst, ◌∙◌}
use Rattle.std.proofs.lemmas.Bool.{ltb-true}
use Rattle.std.specs.String.{string_bytes}
use Rattle.cc_graph.specs.Graph.{ImportMap, IsImportMap, is_present}
use Rattle.cc_import_reasoning.specs.ToldImports.{AreOfTexts, reason_of, TellsFirst}
use Rattle.cc_import_reasoning.specs.declared.reason.MissingImport.{MissingImport}
use Rattle.cc_judge.specs.KnownGraphs.{entries_of}
use Rattle.cc_judge.specs.declared.importing.Importing.{Importing}
use Rattle.cc_module_reasons.specs.ImportReasonTexts.{import_reason_lines}
use Rattle.cc_parse.specs.Trees.{import_syntax}
use Rattle.cc_verdicts.proofs.Schedules.{graph_sorted}
use Rattle.cc_verdicts.specs.PresentTexts.{Texts, ArePresent, graph_of}
use Rattle.cc_why.proofs.FoundImports.{missing_told, stands_there}
use Rattle.cc_why.proofs.SessionFacts.{verdicts_by_name, verdicts_sorted}
use Rattle.cc_why.proofs.imports.missing_lines.Goals as goal

pub import_reason-requires-clause-ordered : goal.import_reason-requires-clause-ordered
import_reason-requires-clause-ordered c =
    subst (λ (modules : List Importing). IsImportMap (entries_of modules)) (sym c.deref-2.ensures.value)
    (subst (λ (graph : ImportMap). IsImportMap graph) c.in_ok-modules.ensures
    (graph_sorted c.present.result.now (subst (λ (texts : Texts). ArePresent texts) (sym c.present.ensures) c.requires.present)))

pub import_reason-requires-clause-names : goal.import_reason-requires-clause-names
import_reason-requires-clause-names c =
    let session = c.args.session.now in
    let (all, are, current) = c.verdicts.ensures.current in
    verdicts_sorted session.present all c.verdicts.result.now c.requires.present
    (verdicts_by_name session.present all session.last c.verdicts.result.now current c.verdicts.ensures.answer)

pub returns-in-Some-get : goal.returns-in-Some-get
returns-in-Some-get c = λ all current there are.
    let session = c.args.session.now in
    let name = c.args.name.now in
    let imports = c.args.imports.now in
    let missing = c.in-Some.missing in
    let one = c.in-Some-get.import.now in
    let graph : entries_of c.deref-2.result.now ≡ graph_of session.present =
    ap entries_of c.deref-2.ensures.value ∙ sym c.in_ok-modules.ensures ∙ ap graph_of c.present.ensures in
    let again : c.deref-in-Some-get.result.now ≡ c.deref-2.result.now = c.deref-in-Some-get.ensures.value ∙ sym c.deref-2.ensures.value in
    let told = c.in_ok-missing.ensures session.present all
    (record { graph_is = graph; verdicts_are = verdicts_by_name session.present all session.last c.verdicts.result.now current c.verdicts.ensures.answer })
    (subst (λ (g : ImportMap). IsTrue (is_present g name)) (sym graph) there) are in
    let found = c.in-Some-get.ensures.lookup in
    missing_told session.present all (entries_of c.deref-2.result.now) name imports missing
    (subst (λ (o : Option MissingImport). TellsFirst session.present all (entries_of c.deref-2.result.now) name (map import_syntax imports) o) c.in-Some.is told)
    one (ltb-true missing.import (length imports) (sym found.0)) found.1 (map string_bytes c.in_ok-lines-in-Some-get.lines.items)
    (c.in_ok-lines-in-Some-get.ensures
    ∙ ap (λ (modules : List Importing). import_reason_lines (reason_of (entries_of modules) name (import_syntax one) missing.cause)) again)

pub returns-in-Some : goal.returns-in-Some
returns-in-Some c = λ all current there are.
    let session = c.args.session.now in
    let name = c.args.name.now in
    let imports = c.args.imports.now in
    let graph : entries_of c.deref-2.result.now ≡ graph_of session.present =
    ap entries_of c.deref-2.ensures.value ∙ sym c.in_ok-modules.ensures ∙ ap graph_of c.present.ensures in
    let told = c.in_ok-missing.ensures session.present all
    (record { graph_is = graph; verdicts_are = verdicts_by_name session.present all session.last c.verdicts.result.now current c.verdicts.ensures.answer })
    (subst (λ (g : ImportMap). IsTrue (is_present g name)) (sym graph) there) are in
    absurd
    (stands_there session.present all (entries_of c.deref-2.result.now) name imports c.in-Some.missing
    (subst (λ (o : Option MissingImport). TellsFirst session.present all (entries_of c.deref-2.result.now) name (map import_syntax imports) o) c.in-Some.is told)
    c.in-None-get.ensures.lookup.0)

pub returns : goal.returns
returns c = λ all current there are.
    let session = c.args.session.now in
    let name = c.args.name.now in
    let imports = c.args.imports.now in
    let graph : entries_of c.deref-2.result.now ≡ graph_of session.present =
    ap entries_of c.deref-2.ensures.value ∙ sym c.in_ok-modules.ensures ∙ ap graph_of c.present.ensures in
    let told = c.in_ok-missing.ensures session.present all
    (record { graph_is = graph; verdicts_are = verdicts_by_name session.present all session.last c.verdicts.result.now current c.verdicts.ensures.answer })
    (subst (λ (g : ImportMap). IsTrue (is_present g name)) (sym graph) there) are in
    subst (λ (o : Option MissingImport). TellsFirst session.present all (entries_of c.deref-2.result.now) name (map import_syntax imports) o) c.in-None.is told
