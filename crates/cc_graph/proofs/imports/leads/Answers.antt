use Rattle.std.proofs.Common.{ap, ◌∙◌, [], arith}
use Rattle.std.proofs.lemmas.List.{get_or_default}
use Rattle.cc_graph.proofs.GraphLemmas.{found_name, no_way_from, way_between, way_by_import}
use Rattle.cc_graph.specs.Places.{has_bit}
use Rattle.cc_graph.proofs.imports.leads.Goals as goal

pub returns-in_default : goal.returns-in_default
returns-in_default c = no_way_from c.args.modules.now c.args.from.now c.args.to.now c.in_default.ensures

pub returns-in-Some-place_of : goal.returns-in-Some-place_of
returns-in-Some-place_of c =
    let start = c.in-Some.ensures in
    let end = c.in-Some-place_of.ensures in
    c.has.ensures
    ∙ ap (λ r. has_bit r c.in-Some-place_of.last) (c.index-closed-first.is
    ∙ get_or_default c.args.closed.now c.in-Some.first c.index-closed-first.result [] (omega
    (arith, c.requires.closed.count, start.0)))
    ∙ way_between c.args.modules.now c.args.closed.now c.requires.closed c.args.from.now c.args.to.now
    c.in-Some.first c.in-Some-place_of.last start.0 end.0
    (found_name c.args.modules.now c.args.from.now c.in-Some.first start.0 start.1)
    (found_name c.args.modules.now c.args.to.now c.in-Some-place_of.last end.0 end.1)

pub returns-in-None : goal.returns-in-None
returns-in-None c =
    let start = c.in-Some.ensures in
    way_by_import c.args.modules.now c.requires.ordered c.args.closed.now c.requires.closed c.args.from.now
    c.args.to.now c.in-Some.first
    c.index-closed-first-in-None.result c.is_imported_from.result start.0
    (found_name c.args.modules.now c.args.from.now c.in-Some.first start.0 start.1)
    (c.index-closed-first-in-None.is
    ∙ get_or_default c.args.closed.now c.in-Some.first c.index-closed-first-in-None.result [] (omega
    (arith, c.requires.closed.count, start.0)))
    c.is_imported_from.ensures.yes c.is_imported_from.ensures.no
