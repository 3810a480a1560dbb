use Rattle.std.proofs.Common.{◌≡◌, ◌+◌, ◌-◌, [], ◌∷◌, ◌++◌, map, Some, None, sym, ap, subst, ◌∙◌, arith}
use Rattle.std.specs.Str.{bytes_eq}
use Rattle.std.proofs.lemmas.List.{append-nil}
use Rattle.cc_graph.specs.Graph.{imported}
use Rattle.cc_graph.specs.Places.{name_at}
use Rattle.cc_judge.specs.KnownGraphs.{entries_of}
use Rattle.cc_import_reasoning.specs.Circles.{FindsFirstAt}
use Rattle.cc_reasons.specs.ShortestChains.{IsFirstShortestToEnd}
use Rattle.cc_import_reasoning.proofs.FirstWays.{step_on, some_step, no_step, pushed}
use Rattle.cc_import_reasoning.proofs.FoundPlaces.{as_many}
use Rattle.cc_import_reasoning.proofs.MarkedNames.{imported_at, sources_at}
use Rattle.cc_import_reasoning.proofs.circle.way.Goals as goal

pub returns-in_default : goal.returns-in_default
returns-in_default c = λ end within known.
    let modules = c.args.modules.now in
    let graph = entries_of modules in
    let at = c.loop-left.at in
    let low = c.loop-left.invariant.low in
    let many = as_many modules in
    let test = c.loop-left-test.true in
    let sources : c.as_slice-names.result.now ≡ imported graph (name_at graph at) =
    c.as_slice-names.ensures.value ∙ ap (λ one. one.sources.items) (sym c.index-modules-at.is)
    ∙ sources_at modules at c.index-modules-at.result (omega arith) c.index-modules-at.is
    ∙ sym (imported_at graph c.requires.ordered at low) in
    let number : c.loop-left.left ≡ (c.loop-left.left - 1) + 1 = omega arith in
    absurd (some_step graph c.requires.ordered end within c.args.distances.now c.requires.count known at (c.loop-left.left - 1) low
    (c.loop-left.invariant.known ∙ ap (λ k. Some k) number)
    (subst (λ names. FindsFirstAt graph c.args.distances.now (c.loop-left.left - 1) names None) sources c.in_default.ensures))

pub loop-left-preserved : goal.loop-left-preserved
loop-left-preserved c =
    let modules = c.args.modules.now in
    let graph = entries_of modules in
    let at = c.loop-left.at in
    let next = c.in-Some.next in
    let low = c.loop-left.invariant.low in
    let many = as_many modules in
    let test = c.loop-left-test.true in
    let sources : c.as_slice-names.result.now ≡ imported graph (name_at graph at) =
    c.as_slice-names.ensures.value ∙ ap (λ one. one.sources.items) (sym c.index-modules-at.is)
    ∙ sources_at modules at c.index-modules-at.result (omega arith) c.index-modules-at.is
    ∙ sym (imported_at graph c.requires.ordered at low) in
    let number : c.loop-left.left ≡ (c.loop-left.left - 1) + 1 = omega arith in
    let first = subst (λ names. FindsFirstAt graph c.args.distances.now (c.loop-left.left - 1) names (Some next)) sources c.in-Some.ensures in
    record {
      low = first.within;
      known = first.known;
      way = λ end within known others it.
          let longer =
          step_on graph c.requires.ordered end within c.args.distances.now c.requires.count known at (c.loop-left.left - 1) next low
          (c.loop-left.invariant.known ∙ ap (λ k. Some k) number) first others it in
          subst (λ chain. IsFirstShortestToEnd (imported graph) (bytes_eq (name_at graph end)) (name_at graph c.args.from) chain)
          (pushed (name_at graph) c.loop-left.places.items next others ∙ ap (λ places. map (name_at graph) places ++ others) (sym c.in_ok-push-2.ensures.items))
          (c.loop-left.invariant.way end within known (name_at graph next ∷ others) longer);
    }

pub returns : goal.returns
returns c = λ end within known.
    let graph = entries_of c.args.modules.now in
    let test = c.loop-left-test.false in
    let none : c.loop-left.left ≡ 0 = omega arith in
    subst (λ chain. IsFirstShortestToEnd (imported graph) (bytes_eq (name_at graph end)) (name_at graph c.args.from) chain)
    (append-nil (map (name_at graph) c.loop-left.places.items))
    (c.loop-left.invariant.way end within known []
    (no_step graph c.requires.ordered end within c.args.distances.now c.requires.count known c.loop-left.at c.loop-left.invariant.low
    (c.loop-left.invariant.known ∙ ap (λ k. Some k) none)))
