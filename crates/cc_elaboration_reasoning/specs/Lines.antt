-- The text of lines that stand behind one another, each behind the same text.
use Rattle.std.specs.Prelude.{ℕ, List, [], ◌∷◌, ◌++◌}
use Rattle.std.specs.List.{flat_map}

abbrev pub lines_text : List ℕ → List (List ℕ) → List ℕ
lines_text before lines = flat_map (λ line. (before ++ line) ++ 10 ∷ []) lines
