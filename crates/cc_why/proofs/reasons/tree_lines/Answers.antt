use Rattle.std.proofs.Common.{◌≡◌, Bool, true, false, None, List, length, map, sym, ap, ◌∙◌}
use Rattle.cc_core.proofs.Lookups.{length_map}
use Rattle.cc_parse.specs.Trees.{import_syntax, module_syntax}
use Rattle.cc_why.proofs.FoundImports.{imports_found}
use Rattle.cc_why.proofs.reasons.tree_lines.Goals as goal

not_both : (found : Bool) → found ≡ true → found ≡ false → ⊥
not_both found is other = cc

pub returns-else-are_found : goal.returns-else-are_found
returns-else-are_found c =
    let session = c.args.session.now in
    let tree = c.args.tree.now in
    imports_found session.devices session.present session.last c.args.name.now tree c.args.findings.now c.deref.result.now c.missing_lines.result
    c.deref.ensures.value
    (λ none.
    not_both c.are_found.result
    ((c.are_found.ensures (module_syntax tree).imports (length_map import_syntax tree.imports.items ∙ sym c.requires.one_each)).1 none)
    c.if-are_found.false)
    c.missing_lines.ensures
