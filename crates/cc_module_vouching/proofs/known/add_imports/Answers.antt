use Rattle.std.proofs.Common.{Option, map, subst}
use Rattle.std.proofs.lemmas.List.{drop_all}
use Rattle.cc_base.specs.declared.code.Diag.{Diag}
use Rattle.cc_parse.specs.Trees.{import_syntax}
use Rattle.cc_module_vouching.specs.KnownImports.{AddsImport}
use Rattle.cc_module_vouching.proofs.KnownBinds.{none_added, imports_more, imports_stop, imports_end}
use Rattle.cc_module_vouching.proofs.known.add_imports.Goals as goal

pub loop-import-init : goal.loop-import-init
loop-import-init c = none_added c.args.modules.now (map import_syntax c.args.imports.now) c.args.known.now.items

pub loop-import-preserved : goal.loop-import-preserved
loop-import-preserved c =
    imports_more c.args.modules.now c.args.imports.now c.args.known.now.items c.loop-import.known.items
    c.add_import.new.known.items c.loop-import.import-index c.import-item.result c.loop-import-test.true c.import-item.is
    (subst (λ (m : Option Diag). AddsImport c.args.modules.now (import_syntax c.import-item.result)
    c.loop-import.known.items c.add_import.new.known.items m) c.in_default.is c.in_ok-missing.ensures)
    c.loop-import.invariant

pub returns-in-Some : goal.returns-in-Some
returns-in-Some c =
    imports_stop c.args.modules.now c.args.imports.now c.args.known.now.items c.loop-import.known.items
    c.add_import.new.known.items c.loop-import.import-index c.import-item.result c.in-Some.diag c.loop-import-test.true
    c.import-item.is
    (subst (λ (m : Option Diag). AddsImport c.args.modules.now (import_syntax c.import-item.result)
    c.loop-import.known.items c.add_import.new.known.items m) c.in-Some.is c.in_ok-missing.ensures)
    c.loop-import.invariant

pub returns : goal.returns
returns c =
    imports_end c.args.modules.now c.args.imports.now c.args.known.now.items c.loop-import.known.items
    c.loop-import.import-index (drop_all c.loop-import.import-index c.args.imports.now c.loop-import-test.false)
    c.loop-import.invariant
