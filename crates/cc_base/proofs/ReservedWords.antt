-- A reserved word is ASCII, so its bytes are its code points, and a text is none of another length.
use Rattle.std.proofs.Common.{◌≡◌, ◌<◌, ℕ, zero, suc, Bool, true, false, cond, ◌&&◌, ◌||◌, ◌==◌, ltb, List, [], ◌∷◌, length, map, refl, sym, ap, ◌∙◌, arith}
use Rattle.std.specs.List.{list_any}
use Rattle.std.specs.Str.{bytes_eq, chars, IsUtf8, IsAscii}
use Rattle.std.proofs.lemmas.Str.{chars-IsAscii, encodes-IsAscii, encodes-chars}
use Rattle.std.proofs.lemmas.Slice.Eq.{bytes_eq-Decides}
use Rattle.std.proofs.lemmas.Bool.Decides.{same_from_decides, Decides-ltb, Decides-eqb}
use Rattle.cc_base.specs.Names.{is_reserved, reserved_words}
use Rattle.cc_base.specs.declared.name.TheConstants.{RESERVED_WORDS}
use lib.Utf8.{encodes}

abbrev is_ascii_word : List ℕ → Bool
is_ascii_word [] = true
is_ascii_word (c ∷ cs) = ltb c 128 && is_ascii_word cs

both : (a b : Bool) → (a && b) ≡ true → (a ≡ true) × (b ≡ true)
both true true h = (refl, refl)
both true false h = cc
both false b h = cc

IsAscii-word : (cs : List ℕ) → is_ascii_word cs ≡ true → IsAscii cs
IsAscii-word [] h zero = omega arith
IsAscii-word [] h (suc i) = omega arith
IsAscii-word (c ∷ cs) h zero = (Decides-ltb c 128).0 (both (ltb c 128) (is_ascii_word cs) h).0
IsAscii-word (c ∷ cs) h (suc i) = IsAscii-word cs (both (ltb c 128) (is_ascii_word cs) h).1 i

bytes_eq-chars : (w bs : List ℕ) → IsAscii w → IsUtf8 bs → bytes_eq w bs ≡ bytes_eq w (chars bs)
bytes_eq-chars w bs a u =
    let left = bytes_eq-Decides w bs in
    let right = bytes_eq-Decides w (chars bs) in
    same_from_decides _ _ left (λ h. sym (encodes-IsAscii w a) ∙ (ap encodes (right.0 h) ∙ encodes-chars bs u), λ h. right.1 (sym (chars-IsAscii w a) ∙ ap chars h))

or-false : (b c : Bool) → b ≡ false → (b || c) ≡ c
or-false true c h = cc
or-false false c h = refl

opposite : (b : Bool) → b ≡ true → b ≡ false → ⊥
opposite b h k = cc

other-length : (w bs : List ℕ) (n : ℕ) (b : Bool) → bytes_eq w bs ≡ b → length bs ≡ n → length w == n ≡ false → b ≡ false
other-length w bs n false e l h = refl
other-length w bs n true e l h =
    let same = (bytes_eq-Decides w bs).0 e in
    absurd (opposite (length w == n) ((Decides-eqb (length w) n).1 (ap length same ∙ l)) h)

longer : (w bs : List ℕ) (n : ℕ) (b : Bool) → bytes_eq w bs ≡ b → ltb (length w) (suc n) ≡ true → n < length bs → b ≡ false
longer w bs n false e h l = refl
longer w bs n true e h l =
    let lengths : length w ≡ length bs = ap length ((bytes_eq-Decides w bs).0 e) in
    let short : length w < suc n = (Decides-ltb (length w) (suc n)).0 h in
    absurd (omega arith)

module _ {W : Type 0} (text_of : W → List ℕ) where
  abbrev are_ascii : List W → Bool
  are_ascii [] = true
  are_ascii (w ∷ ws) = is_ascii_word (text_of w) && are_ascii ws

  any-chars :
      (ws : List W) (bs : List ℕ) → are_ascii ws ≡ true → IsUtf8 bs
      → list_any (λ word. bytes_eq (text_of word) bs) ws ≡ list_any (λ word. bytes_eq word (chars bs)) (map text_of ws)
  any-chars [] bs h u = refl
  any-chars (w ∷ ws) bs h u =
      let each = both (is_ascii_word (text_of w)) (are_ascii ws) h in
      let head = bytes_eq-chars (text_of w) bs (IsAscii-word (text_of w) each.0) u in
      let rest = any-chars ws bs each.1 u in
      cc

  -- those with so many letters
  abbrev pub of_length : ℕ → List W → List W
  of_length n [] = []
  of_length n (w ∷ ws) = cond (length (text_of w) == n) (w ∷ of_length n ws) (of_length n ws)

  any-with : (w : W) (some all : List W) (bs : List ℕ) (n : ℕ) (b : Bool) → length (text_of w) == n ≡ b → length bs ≡ n
      → list_any (λ word. bytes_eq (text_of word) bs) some ≡ list_any (λ word. bytes_eq (text_of word) bs) all
      → list_any (λ word. bytes_eq (text_of word) bs) (cond b (w ∷ some) some) ≡ list_any (λ word. bytes_eq (text_of word) bs) (w ∷ all)
  any-with w some all bs n true e l h = ap (λ o. bytes_eq (text_of w) bs || o) h
  any-with w some all bs n false e l h =
      h ∙ sym (or-false (bytes_eq (text_of w) bs) (list_any (λ word. bytes_eq (text_of word) bs) all)
      (other-length (text_of w) bs n (bytes_eq (text_of w) bs) refl l e))

  -- a text is none of those with another number of letters
  any-of_length : (ws : List W) (bs : List ℕ) (n : ℕ) → length bs ≡ n
      → list_any (λ word. bytes_eq (text_of word) bs) (of_length n ws) ≡ list_any (λ word. bytes_eq (text_of word) bs) ws
  any-of_length [] bs n l = refl
  any-of_length (w ∷ ws) bs n l =
      any-with w (of_length n ws) ws bs n (length (text_of w) == n) refl l (any-of_length ws bs n l)

  abbrev are_short : ℕ → List W → Bool
  are_short n [] = true
  are_short n (w ∷ ws) = ltb (length (text_of w)) (suc n) && are_short n ws

  -- a text is none of those with fewer letters
  any-longer : (ws : List W) (bs : List ℕ) (n : ℕ) → are_short n ws ≡ true → n < length bs
      → list_any (λ word. bytes_eq (text_of word) bs) ws ≡ false
  any-longer [] bs n h l = refl
  any-longer (w ∷ ws) bs n h l =
      let each = both (ltb (length (text_of w)) (suc n)) (are_short n ws) h in
      or-false (bytes_eq (text_of w) bs) (list_any (λ word. bytes_eq (text_of word) bs) ws)
      (longer (text_of w) bs n (bytes_eq (text_of w) bs) refl each.0 l)
      ∙ any-longer ws bs n each.1 l

pub is_reserved-chars : (bs : List ℕ) → IsUtf8 bs → list_any (λ word. bytes_eq word.now bs) RESERVED_WORDS ≡ is_reserved (chars bs)
unfolding is_reserved reserved_words
is_reserved-chars bs u = any-chars (λ word. word.now) RESERVED_WORDS bs refl u

pub is_reserved-length : (n : ℕ) (bs : List ℕ) (b : Bool) → IsUtf8 bs → length bs ≡ n
    → b ≡ list_any (λ word. bytes_eq word.now bs) (of_length (λ word. word.now) n RESERVED_WORDS) → b ≡ is_reserved (chars bs)
is_reserved-length n bs b u l e = e ∙ (any-of_length (λ word. word.now) RESERVED_WORDS bs n l ∙ is_reserved-chars bs u)

pub is_reserved-longer : (bs : List ℕ) → IsUtf8 bs → 8 < length bs → false ≡ is_reserved (chars bs)
is_reserved-longer bs u l = sym (any-longer (λ word. word.now) RESERVED_WORDS bs 8 refl l) ∙ is_reserved-chars bs u
