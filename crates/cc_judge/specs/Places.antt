-- Places among names that stand in order, and what stands there. They serve the code alone.
use Rattle.std.specs.Prelude.{◌≡◌, ℕ, ◌<◌, ◌≤◌, false, List, [], length, slice_index_or}
use Rattle.std.specs.List.{list_any}
use Rattle.std.specs.Str.{bytes_eq}
use Rattle.std.specs.declared.cmp.Ordering.TheVariants.{Less, Greater}
use Rattle.cc_base.specs.Names.{compare_names}
use Rattle.cc_verdicts.specs.PresentTexts.{Texts}

-- the name is none of these
abbrev pub IsAbsentKey : List (List ℕ) → List ℕ → Type 0
IsAbsentKey keys name = list_any (bytes_eq name) keys ≡ false

-- the name comes behind those before the place, and before the others
pub record IsGap (keys : List (List ℕ)) (name : List ℕ) (gap : ℕ) : Type 0 where
  pub within : gap ≤ length keys
  pub before : (place : ℕ) → place < gap → compare_names name (slice_index_or keys place []) ≡ Greater
  pub after : (place : ℕ) → gap ≤ place → place < length keys
      → compare_names name (slice_index_or keys place []) ≡ Less

-- the present module at the place
abbrev pub entry_at : Texts → ℕ → List ℕ × List ℕ
entry_at texts place = slice_index_or texts place ([], [])

abbrev pub name_at : Texts → ℕ → List ℕ
name_at texts place = (entry_at texts place).0

abbrev pub text_at : Texts → ℕ → List ℕ
text_at texts place = (entry_at texts place).1
