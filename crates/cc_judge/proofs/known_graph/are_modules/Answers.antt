use Rattle.std.proofs.Common.{◌∙◌, ◌++◌, ◌+◌, ap, take, drop, get_or, sym, arith}
use Rattle.std.proofs.lemmas.Bool.{eqb-true, eq-eqb}
use Rattle.std.proofs.lemmas.List.{get_or_default}
use Rattle.cc_verdicts.specs.PresentTexts.{graph_of, with_module}
use Rattle.cc_judge.specs.KnownGraphs.{entries_of}
use Rattle.cc_judge.proofs.GraphAgain.{graph_from, graph_end, all_taken, place_behind}
use Rattle.cc_judge.proofs.known_graph.are_modules.Goals as goal

pub place_past-requires : goal.place_past-requires
place_past-requires c = c.loop-place.invariant.fits

pub loop-place-preserved : goal.loop-place-preserved
loop-place-preserved c =
    let texts = c.args.texts.now in
    let place = c.loop-place.place in
    let entries = entries_of c.args.modules.now in
    let entry = get_or texts place c.index-texts-place.result in
    let rest = graph_of (drop (place + 1) texts) in
    record {
      within = omega (arith, c.loop-place-test.true);
      fits = c.in-Some.ensures.within;
      same =
          c.loop-place.invariant.same
          ∙ ap (λ g. take c.loop-place.at entries ++ g)
          (graph_from texts c.args.readings.now c.requires place entry c.index-readings-place.result c.loop-place-test.true
          (get_or_default texts place c.index-texts-place.result entry c.loop-place-test.true) c.index-readings-place.is
          ∙ ap (λ o. with_module entry.0 o rest) (sym c.imports.ensures))
          ∙ c.in-Some.ensures.past rest;
    }

pub returns-in-None : goal.returns-in-None
returns-in-None c =
    let texts = c.args.texts.now in
    let place = c.loop-place.place in
    let entries = entries_of c.args.modules.now in
    let entry = get_or texts place c.index-texts-place.result in
    let rest = graph_of (drop (place + 1) texts) in
    let first = graph_from texts c.args.readings.now c.requires place entry c.index-readings-place.result
    c.loop-place-test.true (get_or_default texts place c.index-texts-place.result entry c.loop-place-test.true)
    c.index-readings-place.is
    ∙ ap (λ o. with_module entry.0 o rest) (sym c.imports.ensures) in (
      λ same. cc,
      λ all.
          absurd
          (c.in-None.ensures.other rest
          (sym (ap (λ g. take c.loop-place.at entries ++ g) first) ∙ sym c.loop-place.invariant.same ∙ all)),
    )

pub returns : goal.returns
returns c =
    let at = c.loop-place.at in
    let modules = c.args.modules.now in
    let taken = graph_end c.args.texts.now c.loop-place.place (take at (entries_of modules))
    (omega (arith, c.loop-place-test.false)) c.loop-place.invariant.same in (
      λ same. taken ∙ all_taken modules at (eqb-true at _ same),
      λ all. eq-eqb at _ (place_behind modules at c.loop-place.invariant.fits (sym taken ∙ all)),
    )
