use Rattle.std.proofs.Common.{ℕ, List, ◌++◌, ◌∷◌, codes, encode_utf8_all, flat_map, sym, ap, ◌∙◌}
use Rattle.std.proofs.lemmas.List.{take_all}
use Rattle.std.proofs.lemmas.List.Folds.{flat_map-map}
use Rattle.cc_graph.specs.Places.{name_at}
use Rattle.cc_judge.specs.KnownGraphs.{entries_of}
use Rattle.cc_import_reasoning.proofs.lines.circle_line.Goals as goal

pub returns : goal.returns
returns c =
    let word : List ℕ → List ℕ = λ name. 32 ∷ encode_utf8_all name in
    let named = name_at (entries_of c.args.modules.now) in
    c.loop-place.invariant
    ∙ ap (λ words. codes "circle" ++ (32 ∷ encode_utf8_all c.args.name.now) ++ words)
    (ap (flat_map (λ place. word (named place))) (take_all c.loop-place.place-index c.args.places.now c.loop-place-test.false)
    ∙ sym (flat_map-map word named c.args.places.now))
