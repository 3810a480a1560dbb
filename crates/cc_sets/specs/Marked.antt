-- Marks at positions, as the list that says of each position whether it is marked.
use Rattle.std.specs.Prelude.{◌≡◌, ℕ, ◌-◌, ◌*◌, ◌/◌, ◌%◌, ◌<◌, nat_eq, Bool, true, false, List, length, map}
use Rattle.std.specs.Prelude.{slice_index, slice_index_or}
use Rattle.std.specs.Int.{bit_at}
use Rattle.std.specs.List.{range_with_len}

-- whether the position is marked; where there is no room for it, it is not
abbrev pub is_marked : ℕ → List Bool → Bool
is_marked position marks = slice_index_or marks position false

-- no position is marked
abbrev pub IsClear : List Bool → Type 0
IsClear marks = (position : ℕ) → is_marked position marks ≡ false

-- the greatest position that is marked
abbrev pub IsLastMarked : ℕ → List Bool → Type 0
IsLastMarked position marks =
    (is_marked position marks ≡ true) × ((other : ℕ) → position < other → is_marked other marks ≡ false)

-- Whether a position is marked in words of 64 bits. The first position of a word is its highest bit, so the zeros at
-- the end of a word lead to the last position that is marked in it.
abbrev pub is_marked_in : List ℕ → ℕ → Bool
is_marked_in words position = nat_eq (bit_at (slice_index words (position / 64)) (63 - position % 64)) 1

-- the marks that words stand for
unfoldable pub marks_of : List ℕ → List Bool
marks_of words = map (is_marked_in words) (range_with_len 0 (64 * length words))
