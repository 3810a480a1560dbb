use Rattle.std.proofs.Common.{◌+◌, ◌<◌, ◌≤◌, map, length, drop, Err, refl, sym, subst, arith}
use Rattle.std.proofs.lemmas.List.{drop_all}
use Rattle.std.proofs.lemmas.Option.{slice_get_read}
use Rattle.cc_core.specs.TermViews.{context_of}
use Rattle.cc_check.specs.Definitions.{accepted_of, definition_of as checked_definition_of}
use Rattle.cc_check.specs.Judging.{Judges}
use Rattle.cc_known.specs.Measures.{AreAllMeasuresOf}
use Rattle.cc_mnf.specs.CoreModules.{definition_of}
use Rattle.cc_parse.specs.Trees.{def_syntax}
use Rattle.cc_reasons.specs.NamedBinders.{binder_names}
use Rattle.cc_reasons.specs.RefusedDefinitions.{names_of_binders}
use Rattle.cc_module_reasoning.proofs.FirstRefused.{StandsAt, stands_behind, stands_counted, binders_at, explained_here, none_refused, slice_get_mapped, drop_next}
use Rattle.cc_module_reasoning.proofs.definitions.first_refused.Goals as goal

pub loop-index-preserved : goal.loop-index-preserved
loop-index-preserved c =
    let devices = c.args.devices in
    let start = context_of c.args.ctx in
    let all = map definition_of c.args.defs.now in
    let names = names_of_binders (map def_syntax c.args.trees.now) in
    let i = c.loop-index.index in
    let now = context_of c.loop-index.globals in
    let below : i < length c.args.defs.now = omega (arith, c.loop-index-test.true, c.loop-index.auto.index-end) in
    let rest = map definition_of (drop (i + 1) c.args.defs.now) in
    let here = subst (λ l. StandsAt devices start all names i now (map definition_of l))
    (drop_next c.args.defs.now i c.index-defs-index.result below c.index-defs-index.is) c.loop-index.invariant.stands in
    let next = stands_behind devices start all names i now (definition_of c.index-defs-index.result) rest here
    (accepted_of c.in-Ok.checked) c.in-Ok.ensures.verdict in
    record {
      stands = subst (λ g. StandsAt devices start all names (i + 1) g rest) (sym c.in_ok-globals-in-Ok.ensures)
          (stands_counted devices start _ all rest names i (i + 1) (omega arith) next);
      measured = subst (AreAllMeasuresOf devices c.check_known.new.measures) (sym c.in_ok-globals-in-Ok.ensures)
          c.in-Ok.ensures.measures;
    }

pub returns-in-Err-Refused : goal.returns-in-Err-Refused
returns-in-Err-Refused c =
    let devices = c.args.devices in
    let start = context_of c.args.ctx in
    let all = map definition_of c.args.defs.now in
    let names = names_of_binders (map def_syntax c.args.trees.now) in
    let i = c.loop-index.index in
    let now = context_of c.loop-index.globals in
    let below : i < length c.args.defs.now = omega (arith, c.loop-index-test.true, c.loop-index.auto.index-end) in
    let within : i < length c.args.trees.now = omega (arith, below, c.requires.even) in
    let rest = map definition_of (drop (i + 1) c.args.defs.now) in
    let here = subst (λ l. StandsAt devices start all names i now (map definition_of l))
    (drop_next c.args.defs.now i c.index-defs-index.result below c.index-defs-index.is) c.loop-index.invariant.stands in
    let tree = slice_get_mapped c.args.trees.now i c.index-trees-index.result
    (slice_get_read c.args.trees.now (length c.args.trees.now) i c.index-trees-index.result refl within c.index-trees-index.is) in
    explained_here devices start all names i now (definition_of c.index-defs-index.result) rest
    (binder_names (def_syntax c.index-trees-index.result).right) c.in-Err-Refused.field-0-0.code c.in-Err-Refused.field-0-0.place
    c.in_ok-found-in-Err-Refused.found c.behind.result here
    (binders_at (map def_syntax c.args.trees.now) i (def_syntax c.index-trees-index.result) tree)
    (subst (λ e. Judges devices now (checked_definition_of c.index-defs-index.result) (Err e)) c.in-Err-Refused.field-0-is
    c.in-Err-Refused.ensures.verdict)
    c.in_ok-found-in-Err-Refused.ensures c.behind.ensures

pub returns : goal.returns
returns c =
    let past : length c.args.defs.now ≤ c.loop-index.index = omega (arith, c.loop-index-test.false, c.loop-index.auto.index-end) in
    none_refused c.args.devices (context_of c.args.ctx) (context_of c.loop-index.globals) (map definition_of c.args.defs.now)
    (names_of_binders (map def_syntax c.args.trees.now)) c.loop-index.index
    (subst (λ l. StandsAt c.args.devices (context_of c.args.ctx) (map definition_of c.args.defs.now)
    (names_of_binders (map def_syntax c.args.trees.now)) c.loop-index.index (context_of c.loop-index.globals) (map definition_of l))
    (drop_all c.loop-index.index c.args.defs.now past) c.loop-index.invariant.stands)
