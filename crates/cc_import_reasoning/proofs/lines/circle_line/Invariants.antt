use Rattle.std.proofs.Common.{◌≡◌, ◌++◌, ◌∷◌, codes, encode_utf8_all, flat_map, take}
use Rattle.std.specs.String.{string_bytes}
use Rattle.cc_graph.specs.Places.{name_at}
use Rattle.cc_judge.specs.KnownGraphs.{entries_of}
use Rattle.cc_import_reasoning.proofs.lines.circle_line.Given as goal

-- the names up to here
abbrev pub invariant-loop-place : goal.invariant-loop-place
invariant-loop-place l =
    string_bytes l.line
    ≡ codes "circle" ++ (32 ∷ encode_utf8_all l.name)
    ++ flat_map (λ place. 32 ∷ encode_utf8_all (name_at (entries_of l.modules) place)) (take l.place-index l.places)
