use Rattle.std.proofs.Common.{◌≡◌, ◌+◌, map, drop, sym, ap, ◌∙◌}
use Rattle.std.proofs.lemmas.List.{drop_all}
use Rattle.cc_mnf.specs.CoreModules.{definition_of, core_definitions}
use Rattle.cc_mnf.specs.ElaboratedModules.{elaborated_definitions}
use Rattle.cc_mnf.proofs.ModuleLoops.{behind_done, all_done, definition_turns, definitions-push, drop_next}
use Rattle.cc_mnf.proofs.elaborate.definitions.Goals as goal
use Rattle.cc_parse.specs.Trees.{def_syntax}

pub loop-def-preserved : goal.loop-def-preserved
loop-def-preserved c =
    let defs = c.args.defs.now in
    let names = c.loop-def.names in
    let done = core_definitions c.loop-def.definitions in
    let def = c.def-item.result in
    let next = c.in_ok-next.next in
    let rest = map def_syntax (drop (c.loop-def.def-index + 1) defs) in
    let left = drop_next defs c.loop-def.def-index def c.loop-def-test.true c.def-item.is in
    let was = ap (λ ds. behind_done done (elaborated_definitions names (map def_syntax ds))) (sym left) ∙ c.loop-def.invariant in
    let new = sym c.contains.ensures ∙ c.if-contains.false in
    let more = definitions-push c.loop-def.definitions.items c.push.new.self.items next c.in_ok-push.ensures.items in
    ap (λ ds. behind_done ds (elaborated_definitions c.definition.new.names rest)) more
    ∙ definition_turns names c.definition.new.names done (def_syntax def) rest (definition_of next) _ was new c.in_ok-next.ensures.names c.in_ok-next.ensures.exact

pub returns : goal.returns
returns c =
    let defs = c.args.defs.now in
    let names = c.loop-def.names in
    let done = core_definitions c.loop-def.definitions in
    let none = drop_all c.loop-def.def-index defs c.loop-def-test.false in
    sym c.loop-def.invariant
    ∙ ap (λ ds. behind_done done (elaborated_definitions names (map def_syntax ds))) none
    ∙ all_done done names
