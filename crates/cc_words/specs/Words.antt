-- Words of a line, and the names and numbers that words are.
use Rattle.std.specs.Prelude.{ℕ, zero, suc, Bool, false, ◌&&◌, ◌||◌, not, ◌==◌, nat_le, nat_lt, ℤ, pos, negsuc}
use Rattle.std.specs.Prelude.{List, [], ◌∷◌, ◌++◌, length, take, drop, codes, encode_utf8_all, Option, Some, None, if◌then◌else◌}
use Rattle.std.specs.Option.{option_map, option_and_then}
use Rattle.std.specs.List.{list_all, flat_map}
use Rattle.std.specs.Char.{is_ascii_digit}
use Rattle.std.specs.Str.{chars, is_utf8, bytes_eq}
use Rattle.std.specs.Str.Parse.{digits_value}
use Rattle.cc_base.specs.Names.{spells_name, IsName}

-- a step, and the next one where it gave something
infixl 10 ◌>>=◌
abbrev pub ◌>>=◌ : {A B : Type 0} → Option A → (A → Option B) → Option B
o >>= f = option_and_then f o

-- the bytes behind the prefix
abbrev pub after_prefix : List ℕ → List ℕ → Option (List ℕ)
after_prefix bytes prefix =
    if bytes_eq (take (length prefix) bytes) prefix then Some (drop (length prefix) bytes) else None

-- the bytes before the first c, and those behind it
abbrev pub cut_at : ℕ → List ℕ → Option (List ℕ × List ℕ)
cut_at c [] = None
cut_at c (b ∷ bs) = if b == c then Some ([], bs) else option_map (λ cut. (b ∷ cut.0, cut.1)) (cut_at c bs)

-- the byte before the first word
abbrev pub before_first : ℕ → List (List ℕ) → List (List ℕ)
before_first b [] = (b ∷ []) ∷ []
before_first b (word ∷ words) = (b ∷ word) ∷ words

-- what stands between the bytes c
abbrev pub split_at : ℕ → List ℕ → List (List ℕ)
split_at c [] = [] ∷ []
split_at c (b ∷ bs) = if b == c then [] ∷ split_at c bs else before_first b (split_at c bs)

-- the words with the byte between them
abbrev pub joined : ℕ → List (List ℕ) → List ℕ
joined byte [] = []
joined byte (word ∷ words) = word ++ flat_map (λ other. byte ∷ other) words

-- the first word, and those behind it
abbrev pub first_and_rest : List (List ℕ) → Option (List ℕ × List (List ℕ))
first_and_rest [] = None
first_and_rest (word ∷ words) = Some (word, words)

-- the word, where there is one alone
abbrev pub one_of : List (List ℕ) → Option (List ℕ)
one_of [] = None
one_of (word ∷ []) = Some word
one_of (word ∷ other ∷ words) = None

-- the two words, where there are two
abbrev pub two_of : List (List ℕ) → Option (List ℕ × List ℕ)
two_of [] = None
two_of (word ∷ []) = None
two_of (word ∷ other ∷ []) = Some (word, other)
two_of (word ∷ other ∷ more ∷ words) = None

-- the name that a word is
unfoldable pub name_of : List ℕ → Option (List ℕ)
name_of word = if is_utf8 word && spells_name (chars word) then Some (chars word) else None

-- there is a first byte, and it is no 0 unless it stands alone
abbrev pub begins_numeral : List ℕ → Bool
begins_numeral [] = false
begins_numeral (b ∷ bs) = not (b == 48) || length (b ∷ bs) == 1

-- digits, the first of which is no 0 unless it stands alone
abbrev pub is_numeral : List ℕ → Bool
is_numeral word = begins_numeral word && list_all is_ascii_digit word

-- the number up to the limit that a word writes
unfoldable pub number_of : ℕ → List ℕ → Option ℕ
number_of most word =
    if is_numeral word && nat_le (digits_value 10 word) most then Some (digits_value 10 word) else None

-- the number has 64 bits with its sign
abbrev pub has_64_bits : ℤ → Bool
has_64_bits (pos n) = nat_lt n 9223372036854775808
has_64_bits (negsuc n) = nat_lt n 9223372036854775808

-- what stands behind a minus: no 0
abbrev pub negative_of : ℕ → Option ℤ
negative_of zero = None
negative_of (suc n) = Some (negsuc n)

-- the number behind a minus, or the number of the word where there is none
abbrev pub signed_with : List ℕ → Option (List ℕ) → Option ℤ
signed_with word (Some digits) = option_and_then negative_of (number_of 9223372036854775808 digits)
signed_with word None = option_map pos (number_of 9223372036854775807 word)

-- the number of 64 bits with its sign that a word writes
unfoldable pub signed_of : List ℕ → Option ℤ
signed_of word = signed_with word (after_prefix word (codes "-"))

-- what each of the words is, where each is something
abbrev pub all_of : {A : Type 0} → (List ℕ → Option A) → List (List ℕ) → Option (List A)
all_of read [] = Some []
all_of read (word ∷ words) = option_and_then (λ x. option_map (λ xs. x ∷ xs) (all_of read words)) (read word)

-- two names
abbrev pub IsPair : List ℕ × List ℕ → Type 0
IsPair pair = IsName pair.0 × IsName pair.1

-- the two names with a point between them
abbrev pub pair_text : List ℕ × List ℕ → List ℕ
pair_text pair = encode_utf8_all pair.0 ++ codes "." ++ encode_utf8_all pair.1

-- the two names with a point between them that a word is
unfoldable pub pair_of : List ℕ → Option (List ℕ × List ℕ)
pair_of word = do
  two ← two_of (split_at 46 word)
  first ← name_of two.0
  second ← name_of two.1
  Some (first, second)
