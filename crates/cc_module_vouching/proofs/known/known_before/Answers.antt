use Rattle.std.proofs.Common.{Option, map, ap, ◌++◌, ◌∙◌, subst}
use Rattle.cc_base.specs.declared.code.Diag.{Diag}
use Rattle.cc_parse.specs.Trees.{import_syntax}
use Rattle.cc_module_vouching.specs.KnownImports.{binds_among, AddsImports}
use Rattle.cc_module_vouching.proofs.known.known_before.Goals as goal

pub returns-in-None : goal.returns-in-None
returns-in-None c =
    let imports = map import_syntax c.args.imports.now in
    let added = subst (λ (m : Option Diag). AddsImports c.args.modules.now imports c.in_ok-known.known.items
    c.add_imports.new.known.items m) c.in-None.is c.in_ok-missing.ensures in
    (added.0, added.1 ∙ ap (λ b. b ++ binds_among c.args.modules.now imports) c.in_ok-known.ensures)

pub returns-in-Some : goal.returns-in-Some
returns-in-Some c =
    subst (λ (m : Option Diag). AddsImports c.args.modules.now (map import_syntax c.args.imports.now)
    c.in_ok-known.known.items c.add_imports.new.known.items m) c.in-Some.is c.in_ok-missing.ensures
