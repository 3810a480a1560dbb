use Rattle.std.proofs.Common.{◌≡◌, ◌+◌, ◌-◌, ◌<◌, ◌∙◌, ap, drop, get_or, length, arith, ℕ}
use Rattle.std.proofs.lemmas.List.{get_or_default}
use Rattle.std.proofs.lemmas.Result.{IfOk-weaker}
use Rattle.cc_verdicts.specs.PresentTexts.{graph_of}
use Rattle.std.specs.Option.{option_map}
use Rattle.cc_parse.specs.Trees.{imports_syntax}
use Rattle.cc_judge.specs.Dependencies.{inserted}
use Rattle.cc_judge.proofs.Graphs.{graph_step, graph_start, read_length}
use Rattle.cc_judge.proofs.dependencies.import_graph.Goals as goal

pub loop-left-init : goal.loop-left-init
loop-left-init c = record { within = omega arith; made = c.new-graph.ensures ∙ graph_start c.args.texts.now }

pub bounds-readings-left : goal.bounds-readings-left
bounds-readings-left c =
    omega (arith, c.loop-left.invariant.within, c.loop-left-test.true, read_length c.args.texts.now c.args.readings.now c.requires.read)

pub loop-left-preserved : goal.loop-left-preserved
loop-left-preserved c =
    let left : ℕ = c.loop-left.left - 1 in
    let next : c.loop-left.left ≡ left + 1 = omega (arith, c.loop-left-test.true) in
    let within : left < length c.args.texts.now = omega (arith, c.loop-left.invariant.within, c.loop-left-test.true) in
    let entry = get_or c.args.texts.now left c.index-texts-left.result in
    record {
      within = omega (arith, c.loop-left.invariant.within);
      made =
          c.in_ok-insert_reading.ensures
          ∙ ap (inserted entry.0 (option_map imports_syntax c.imports.result.now))
          (c.loop-left.invariant.made ∙ ap (λ n. graph_of (drop n c.args.texts.now)) next)
          ∙ ap (λ o. inserted entry.0 o (graph_of (drop (left + 1) c.args.texts.now))) c.imports.ensures
          ∙ graph_step c.args.texts.now c.requires.present c.args.readings.now c.requires.read left
          entry c.index-readings-left.result within
          (get_or_default c.args.texts.now left c.index-texts-left.result entry within) c.index-readings-left.is;
    }

pub returns : goal.returns
returns c =
    IfOk-weaker c.close.result _ _
    (λ graph same.
    same ∙ c.loop-left.invariant.made
    ∙ ap (λ n. graph_of (drop n c.args.texts.now)) (let none : c.loop-left.left ≡ 0 = omega (arith, c.loop-left-test.false) in none))
    c.close.ensures.same
