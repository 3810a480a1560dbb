-- Sets of numbers as words of 64 bits, in the order of their indexes, where only words with a bit set stand.
use Rattle.std.specs.Prelude.{◌≡◌, ℕ, zero, suc, ◌+◌, ◌*◌, ◌/◌, ◌%◌, ◌^◌, ◌<◌, ◌≤◌, bit_and, bit_or}
use Rattle.std.specs.Prelude.{cond, eqb, ltb, Bool, true, ◌&&◌, List, [], ◌∷◌, map}
use Rattle.std.specs.Int.{w64, bit_at, bit_not}
use Rattle.std.specs.List.{filter, flat_map, list_all, range_with_len}
use lib.Pointwise.{pointwise}
use Rattle.cc_capture.specs.declared.var.Elem.{Elem}
use Rattle.cc_capture.specs.declared.words.Word.{Word}
use Rattle.cc_capture.specs.Numbers.{element_at}

-- whether the bit at a place is set
abbrev pub has_bit : ℕ → ℕ → Bool
has_bit bits place = eqb (bit_at bits place) 1

-- the places of the bits that are set
abbrev pub bit_places : ℕ → List ℕ
bit_places bits = filter (has_bit bits) (range_with_len 0 64)

-- the numbers in a word
abbrev pub word_numbers : Word → List ℕ
word_numbers w = map (λ place. w.at * 64 + place) (bit_places w.bits)

-- the numbers in a list of words
abbrev pub numbers : List Word → List ℕ
numbers ws = flat_map word_numbers ws

-- the elements that have these numbers
abbrev pub elements : List Word → List Elem
elements ws = map element_at (numbers ws)

-- the bits of the word with an index: none where there is no such word
abbrev pub word_bits : ℕ → List Word → ℕ
word_bits at [] = zero
word_bits at (w ∷ ws) = cond (eqb w.at at) w.bits (word_bits at ws)

-- whether the number is in one of the words
abbrev pub holds : ℕ → List Word → Bool
holds n ws = has_bit (word_bits (n / 64) ws) (n % 64)

-- the index comes before those of the words
abbrev pub IsBefore : ℕ → List Word → Type 0
IsBefore at [] = Unit {0}
IsBefore at (w ∷ ws) = (at < w.at) × IsBefore at ws

-- a word has 64 bits, and none set past the number of the last element
abbrev pub IsBounded : Word → Type 0
IsBounded w =
    (w.bits < 2 ^ 64) × ((place : ℕ) → place < 64 → has_bit w.bits place ≡ true → w.at * 64 + place ≤ 12884901888)

-- and has a bit set
abbrev pub IsWord : Word → Type 0
IsWord w = (0 < w.bits) × IsBounded w

-- the words stand in the order of their indexes
abbrev pub IsSparse : List Word → Type 0
IsSparse [] = Unit {0}
IsSparse (w ∷ ws) = IsWord w × IsBefore w.at ws × IsSparse ws

-- the index in the list of the first word that does not come before one with the index at
abbrev pub place : ℕ → List Word → ℕ
place at [] = zero
place at (w ∷ ws) = cond (ltb w.at at) (suc (place at ws)) zero

-- the word of one number alone
unfoldable pub single : ℕ → Word
single n = record { at = n / 64; bits = 1 * 2 ^ (n % 64) % 2 ^ 64 }

-- the words of both, where x is the first of the one side and f unites what follows it with a list
unfoldable pub joined_from : Word → (List Word → List Word) → List Word → List Word
joined_from x f [] = x ∷ f []
joined_from x f (y ∷ ys) =
    cond (ltb x.at y.at) (x ∷ f (y ∷ ys))
    (cond (ltb y.at x.at) (y ∷ joined_from x f ys) (record { at = x.at; bits = bit_or x.bits y.bits } ∷ f ys))

-- the words of both lists: their bits united where both have a word with one index
unfoldable pub joined : List Word → List Word → List Word
joined [] ys = ys
joined (x ∷ xs) ys = joined_from x (joined xs) ys

-- the words without the number
unfoldable pub without : ℕ → List Word → List Word
without n [] = []
without n (w ∷ ws) =
    cond (eqb w.at (n / 64))
    (cond (eqb (bit_and w.bits (bit_not w64 (1 * 2 ^ (n % 64) % 2 ^ 64))) 0) ws
    (record { at = w.at; bits = bit_and w.bits (bit_not w64 (1 * 2 ^ (n % 64) % 2 ^ 64)) } ∷ ws))
    (w ∷ without n ws)

-- whether each bit of the one list is a bit of the other
abbrev pub is_within : List Word → List Word → Bool
is_within xs ys = list_all (λ x. eqb (bit_and x.bits (bit_not w64 (word_bits x.at ys))) 0) xs

-- whether two words are one
abbrev pub same_word : Word → Word → Bool
same_word x y = eqb x.at y.at && eqb x.bits y.bits

-- whether the two lists have the same words
abbrev pub same_words : List Word → List Word → Bool
same_words = pointwise same_word
