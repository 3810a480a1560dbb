use Rattle.std.proofs.Common.{◌∙◌, ◌∷◌, ◌++◌, ap, map, take, sym}
use Rattle.std.specs.Option.{option_map}
use Rattle.cc_parse.specs.Trees.{import_syntax, imports_syntax}
use Rattle.cc_verdicts.specs.PresentTexts.{with_module}
use Rattle.cc_judge.specs.Dependencies.{sources_of}
use Rattle.cc_judge.specs.KnownGraphs.{entries_of}
use Rattle.cc_judge.proofs.GraphAgain.{entry_taken}
use Rattle.cc_judge.proofs.known_graph.place_past.Goals as goal

pub returns-then-is_module-clause-past : goal.returns-then-is_module-clause-past
returns-then-is_module-clause-past c =
    let entries = entries_of c.args.modules.now in
    let name = c.args.name.now in
    let at = c.args.at in
    λ rest.
    ap (λ o. take at entries ++ with_module name (option_map imports_syntax o) rest) c.in-Some.is
    ∙ ap (λ is. take at entries ++ (name, sources_of (map import_syntax is)) ∷ rest) (sym c.as_slice.ensures.value)
    ∙ entry_taken entries at (name, sources_of (map import_syntax c.as_slice.result.now))
    (c.is_module.ensures.0 c.if-is_module.true) rest
