use Rattle.std.proofs.Common.{◌≤◌, ◌+◌, if◌then◌else◌, Bool, ap, get_or, map, subst, arith}
use Rattle.std.proofs.lemmas.Result.{IfOk-weaker}
use Rattle.std.specs.Option.{option_map}
use Rattle.cc_module.specs.Findings.{finding_of}
use Rattle.cc_parse.specs.Trees.{imports_syntax}
use Rattle.cc_judge.proofs.Graphs.{read_length}
use Rattle.cc_judge.proofs.RightPlans.{made_fits, made_found, made_judged, made_stale, made_right, plans_counted, stays_right}
use Rattle.cc_judge.specs.Kept.{judgements_of}
use Rattle.cc_judge.proofs.judging.plan_new.Goals as goal

pub index-text-requires : goal.index-text-requires
index-text-requires g c =
    omega (
      arith,
      c.requires.within,
      c.args.dependencies.now.readings.ok.0,
      read_length c.args.texts.now c.args.dependencies.now.readings.items c.requires.found.read,
    )

pub findings_of-requires-clause-graph : goal.findings_of-requires-clause-graph
findings_of-requires-clause-graph g c = c.requires.found.graph

pub findings_of-requires-clause-count : goal.findings_of-requires-clause-count
findings_of-requires-clause-count g c =
    plans_counted c.args.devices.now c.args.texts.now (judgements_of c.args.last.now) c.args.plans.now
    c.requires.differ c.requires.present c.requires.plans

pub plan_module-requires-clause-fit : goal.plan_module-requires-clause-fit
plan_module-requires-clause-fit g c =
    made_fits c.args.devices.now c.args.texts.now c.requires.differ c.requires.present
    c.args.dependencies.now.readings.items c.requires.found.read c.args.last.now.verdicts.items
    c.args.last.now.grounds.items c.args.plans.now c.requires.plans c.args.place c.requires.within c.requires.asked
    (get_or c.args.texts.now c.args.place c.index-texts-place.result)
    (ap (get_or c.args.texts.now c.args.place) c.index-texts-place.is) c.index-text.result.now c.index-text.ensures
    (option_map imports_syntax c.imports.result.now) c.imports.ensures
    (map finding_of c.in_ok-found.found.items) c.in_ok-found.ensures

pub plan_module-requires-clause-found : goal.plan_module-requires-clause-found
plan_module-requires-clause-found g c =
    made_found c.args.devices.now c.args.texts.now c.requires.differ c.requires.present
    c.args.dependencies.now.readings.items c.requires.found.read c.args.last.now.verdicts.items
    c.args.last.now.grounds.items c.args.plans.now c.requires.plans c.args.place c.requires.within c.requires.asked
    (get_or c.args.texts.now c.args.place c.index-texts-place.result)
    (ap (get_or c.args.texts.now c.args.place) c.index-texts-place.is) c.index-text.result.now c.index-text.ensures
    (option_map imports_syntax c.imports.result.now) c.imports.ensures
    (map finding_of c.in_ok-found.found.items) c.in_ok-found.ensures

pub returns-in_err-found-clause-ticks : goal.returns-in_err-found-clause-ticks
returns-in_err-found-clause-ticks g c = λ all are. omega arith

pub returns-clause-ticks : goal.returns-clause-ticks
returns-clause-ticks g c =
    λ all are.
    let P : Bool → Type 0 = λ b. c.plan_module.new.steps ≤ c.args.steps.now + (if b then 1 else 0) in
    subst P
    (made_stale c.args.devices.now c.args.texts.now c.requires.differ c.requires.present
    c.args.dependencies.now.readings.items c.requires.found.read c.args.last.now.verdicts.items
    c.args.last.now.grounds.items c.args.plans.now c.requires.plans c.args.place c.requires.within c.requires.asked
    (get_or c.args.texts.now c.args.place c.index-texts-place.result)
    (ap (get_or c.args.texts.now c.args.place) c.index-texts-place.is) c.index-text.result.now c.index-text.ensures
    (option_map imports_syntax c.imports.result.now) c.imports.ensures
    (map finding_of c.in_ok-found.found.items) c.in_ok-found.ensures all are)
    c.plan_module.ensures.ticks

pub returns-clause-plan : goal.returns-clause-plan
returns-clause-plan g c =
    IfOk-weaker c.plan_module.result _ _
    (made_right c.args.devices.now c.args.texts.now c.requires.differ c.requires.present
    c.args.dependencies.now.readings.items c.requires.found.read c.args.last.now.verdicts.items
    c.args.last.now.grounds.items c.args.plans.now c.requires.plans c.args.place c.requires.within c.requires.asked
    (get_or c.args.texts.now c.args.place c.index-texts-place.result)
    (ap (get_or c.args.texts.now c.args.place) c.index-texts-place.is) c.index-text.result.now c.index-text.ensures
    (option_map imports_syntax c.imports.result.now) c.imports.ensures
    (map finding_of c.in_ok-found.found.items) c.in_ok-found.ensures)
    c.plan_module.ensures.plan

pub index-judged-requires : goal.index-judged-requires
index-judged-requires g c =
    omega (arith, c.requires.within, c.args.dependencies.now.judged.ok.0, c.requires.found.judged.count)

pub plan_module-requires-clause-judged : goal.plan_module-requires-clause-judged
plan_module-requires-clause-judged g c =
    made_judged c.args.devices.now c.args.texts.now c.requires.present c.args.dependencies.now.readings.items
    c.requires.found.read (judgements_of c.args.last.now) c.args.place c.requires.within
    (get_or c.args.texts.now c.args.place c.index-texts-place.result)
    (ap (get_or c.args.texts.now c.args.place) c.index-texts-place.is) c.index-text.result.now c.index-text.ensures
    c.args.dependencies.now.judged.items c.requires.found.judged c.index-judged.result.now c.index-judged.ensures

pub place_that_stays-requires-clause-count : goal.place_that_stays-requires-clause-count
place_that_stays-requires-clause-count g c =
    plans_counted c.args.devices.now c.args.texts.now (judgements_of c.args.last.now) c.args.plans.now
    c.requires.differ c.requires.present c.requires.plans

pub place_that_stays-requires-clause-judged : goal.place_that_stays-requires-clause-judged
place_that_stays-requires-clause-judged g c =
    made_judged c.args.devices.now c.args.texts.now c.requires.present c.args.dependencies.now.readings.items
    c.requires.found.read (judgements_of c.args.last.now) c.args.place c.requires.within
    (get_or c.args.texts.now c.args.place c.index-texts-place.result)
    (ap (get_or c.args.texts.now c.args.place) c.index-texts-place.is) c.index-text.result.now c.index-text.ensures
    c.args.dependencies.now.judged.items c.requires.found.judged c.index-judged.result.now c.index-judged.ensures

pub returns-in-Some-clause-plan : goal.returns-in-Some-clause-plan
returns-in-Some-clause-plan g c =
    stays_right c.args.devices.now c.args.texts.now c.requires.present c.args.dependencies.now.readings.items
    c.requires.found.read (judgements_of c.args.last.now) c.args.place c.requires.within
    (get_or c.args.texts.now c.args.place c.index-texts-place.result)
    (ap (get_or c.args.texts.now c.args.place) c.index-texts-place.is) c.index-text.result.now c.index-text.ensures
    c.requires.kept.judged c.in-Some.at c.in-Some.ensures
