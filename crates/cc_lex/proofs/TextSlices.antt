-- The bytes of a text from an offset on, and the characters that they spell.
use Rattle.std.proofs.Common.{◌≡◌, ℕ, ◌+◌, ◌≤◌, true, List, [], ◌∷◌, ◌++◌, length, take, drop, refl, sym, ap, ◌∙◌, arith, encode_utf8, encode_utf8_all}
use Rattle.std.specs.Str.{all_scalars}
use Rattle.std.proofs.lemmas.List.{take_at, drop_at, drop-drop}
use Rattle.std.proofs.lemmas.Str.{encodes-append, length-encode, len_utf8_bounds}
use Rattle.cc_lex.specs.Lexical.{byte_count}
use Rattle.cc_lex.proofs.Booleans.{both, both_true}
use lib.Utf8.{scalar, scalars, encodes}

-- the parts of characters are characters
pub scalars-parts : (xs ys : List ℕ) → all_scalars (xs ++ ys) ≡ true → (all_scalars xs ≡ true) × (all_scalars ys ≡ true)
scalars-parts [] ys h = (refl, h)
scalars-parts (x ∷ xs) ys h =
    let each = both (scalar x) (scalars (xs ++ ys)) h in
    let rest = scalars-parts xs ys each.1 in
    (both_true (scalar x) (scalars xs) each.0 rest.0, rest.1)

-- from `from` on, the text goes on with these characters
abbrev pub GoesOn : List ℕ → ℕ → List ℕ → Type 0
GoesOn bs from cs = (drop from bs ≡ encode_utf8_all cs) × (all_scalars cs ≡ true)

-- it goes on after the first of them
pub goes_on-past : (bs : List ℕ) (from : ℕ) (cs ds : List ℕ) → GoesOn bs from (cs ++ ds) → GoesOn bs (from + byte_count cs) ds
goes_on-past bs from cs ds h =
    let parts : drop from bs ≡ encodes cs ++ encodes ds = h.0 ∙ encodes-append cs ds in
    let behind : drop (from + byte_count cs) bs ≡ drop (byte_count cs) (drop from bs) = sym (drop-drop (byte_count cs) from bs) in
    (behind ∙ (ap (drop (byte_count cs)) parts ∙ drop_at (encodes cs) (encodes ds) (byte_count cs) refl), (scalars-parts cs ds h.1).1)

-- the bytes up to a later place are those of the characters between
pub goes_on-bytes : (bs : List ℕ) (from : ℕ) (cs ds : List ℕ) → GoesOn bs from (cs ++ ds) → take (byte_count cs) (drop from bs) ≡ encode_utf8_all cs
goes_on-bytes bs from cs ds h =
    let parts : drop from bs ≡ encodes cs ++ encodes ds = h.0 ∙ encodes-append cs ds in
    ap (take (byte_count cs)) parts ∙ take_at (encodes cs) (encodes ds) (byte_count cs) refl

pub some-byte : (c : ℕ) → 1 ≤ length (encode_utf8 c)
some-byte c =
    let bounds = len_utf8_bounds c in
    let count = length-encode c in
    omega arith
