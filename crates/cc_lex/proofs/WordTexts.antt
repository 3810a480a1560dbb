-- A reserved word is ASCII, so its bytes are its code points.
use Rattle.std.proofs.Common.{◌≡◌, ℕ, zero, suc, Bool, true, false, cond, ◌&&◌, ◌==◌, ltb, List, [], ◌∷◌, length, refl, sym, ap, ◌∙◌, arith, find, Option, Some}
use Rattle.std.specs.Str.{bytes_eq, chars, IsUtf8, IsAscii}
use Rattle.std.proofs.lemmas.Str.{chars-IsAscii, encodes-IsAscii, encodes-chars}
use Rattle.std.proofs.lemmas.Slice.Eq.{bytes_eq-Decides}
use Rattle.std.proofs.lemmas.Bool.Decides.{same_from_decides, Decides-ltb, Decides-eqb}
use Rattle.cc_lex.proofs.Booleans.{both, opposite, if_false}
use Rattle.cc_lex.specs.declared.token.Word.{Word}
use Rattle.cc_lex.specs.declared.token.Word.TheVariants as words
use Rattle.cc_lex.specs.Forms.{word_text}
use Rattle.cc_lex.specs.Lexemes.{WordLexeme}
use Rattle.cc_lex.specs.Cutting.{all_words, word_of, word_or_name}
use Rattle.cc_lex.proofs.Spelling.{word_of-text}
use lib.Utf8.{encodes}

abbrev is_ascii_text : List ℕ → Bool
is_ascii_text [] = true
is_ascii_text (c ∷ cs) = ltb c 128 && is_ascii_text cs

IsAscii-text : (cs : List ℕ) → is_ascii_text cs ≡ true → IsAscii cs
IsAscii-text [] h zero = omega arith
IsAscii-text [] h (suc i) = omega arith
IsAscii-text (c ∷ cs) h zero = (Decides-ltb c 128).0 (both (ltb c 128) (is_ascii_text cs) h).0
IsAscii-text (c ∷ cs) h (suc i) = IsAscii-text cs (both (ltb c 128) (is_ascii_text cs) h).1 i

bytes_eq-chars : (w bs : List ℕ) → IsAscii w → IsUtf8 bs → bytes_eq w bs ≡ bytes_eq w (chars bs)
bytes_eq-chars w bs a u =
    let left = bytes_eq-Decides w bs in
    let right = bytes_eq-Decides w (chars bs) in
    same_from_decides _ _ left (λ h. sym (encodes-IsAscii w a) ∙ (ap encodes (right.0 h) ∙ encodes-chars bs u), λ h. right.1 (sym (chars-IsAscii w a) ∙ ap chars h))

module _ {W : Type 0} (text_of : W → List ℕ) where
  abbrev are_ascii : List W → Bool
  are_ascii [] = true
  are_ascii (w ∷ ws) = is_ascii_text (text_of w) && are_ascii ws

  find-chars :
      (ws : List W) (bs : List ℕ) → are_ascii ws ≡ true → IsUtf8 bs
      → find (λ word. bytes_eq (text_of word) bs) ws ≡ find (λ word. bytes_eq (text_of word) (chars bs)) ws
  find-chars [] bs h u = refl
  find-chars (w ∷ ws) bs h u =
      let each = both (is_ascii_text (text_of w)) (are_ascii ws) h in
      let head = bytes_eq-chars (text_of w) bs (IsAscii-text (text_of w) each.0) u in
      let rest = find-chars ws bs each.1 u in
      cc

  -- those with so many letters
  abbrev pub of_length : ℕ → List W → List W
  of_length n [] = []
  of_length n (w ∷ ws) = cond (length (text_of w) == n) (w ∷ of_length n ws) (of_length n ws)

  other-length : (w : W) (bs : List ℕ) (n : ℕ) (b : Bool) → bytes_eq (text_of w) bs ≡ b → length bs ≡ n → length (text_of w) == n ≡ false → b ≡ false
  other-length w bs n false e l h = refl
  other-length w bs n true e l h =
      let same = (bytes_eq-Decides (text_of w) bs).0 e in
      absurd (opposite (length (text_of w) == n) ((Decides-eqb (length (text_of w)) n).1 (ap length same ∙ l)) h)

  find-with : (w : W) (some all : List W) (bs : List ℕ) (n : ℕ) (b : Bool) → length (text_of w) == n ≡ b → length bs ≡ n → find (λ word. bytes_eq (text_of word) bs) some ≡ find (λ word. bytes_eq (text_of word) bs) all → find (λ word. bytes_eq (text_of word) bs) (cond b (w ∷ some) some) ≡ find (λ word. bytes_eq (text_of word) bs) (w ∷ all)
  find-with w some all bs n true e l h = ap (λ o. cond (bytes_eq (text_of w) bs) (Some w) o) h
  find-with w some all bs n false e l h = h ∙ sym (if_false (Some w) (find (λ word. bytes_eq (text_of word) bs) all) (other-length w bs n (bytes_eq (text_of w) bs) refl l e))

  -- a text is none of those with another number of letters
  pub find-of_length : (ws : List W) (bs : List ℕ) (n : ℕ) → length bs ≡ n → find (λ word. bytes_eq (text_of word) bs) (of_length n ws) ≡ find (λ word. bytes_eq (text_of word) bs) ws
  find-of_length [] bs n l = refl
  find-of_length (w ∷ ws) bs n l = find-with w (of_length n ws) ws bs n (length (text_of w) == n) refl l (find-of_length ws bs n l)

pub word_of-chars : (bs : List ℕ) → IsUtf8 bs → find (λ word. bytes_eq (word_text word) bs) all_words ≡ word_of (chars bs)
unfolding word_of
word_of-chars bs u = find-chars word_text all_words bs refl u

pub word_of-length : (n : ℕ) (bs : List ℕ) (o : Option Word) → IsUtf8 bs → length bs ≡ n → o ≡ find (λ word. bytes_eq (word_text word) bs) (of_length word_text n all_words) → o ≡ word_of (chars bs)
word_of-length n bs o u l e = e ∙ (find-of_length word_text all_words bs n l ∙ word_of-chars bs u)

-- a word is the one with its letters

ascii-word : (w : Word) → is_ascii_text (word_text w) ≡ true
ascii-word words.Import = refl
ascii-word words.Def = refl
ascii-word words.Rec = refl
ascii-word words.Fun = refl
ascii-word words.Val = refl
ascii-word words.If = refl
ascii-word words.Then = refl
ascii-word words.Else = refl
ascii-word words.Box = refl
ascii-word words.Unbox = refl
ascii-word words.Boundary = refl
ascii-word words.Exit = refl
ascii-word words.Repeat = refl
ascii-word words.True = refl
ascii-word words.False = refl
ascii-word words.Unit = refl
ascii-word words.Cap = refl
ascii-word words.UnitType = refl
ascii-word words.BoolType = refl
ascii-word words.IntType = refl
ascii-word words.StrType = refl
ascii-word words.AnyType = refl
ascii-word words.ConsoleType = refl
ascii-word words.FileType = refl
ascii-word words.CounterType = refl
ascii-word words.ExitType = refl
ascii-word words.BoxType = refl

pub word-spelled : (w : Word) (bs : List ℕ) → bytes_eq (word_text w) bs ≡ true → WordLexeme w ≡ word_or_name (chars bs) (word_of (chars bs))
word-spelled w bs h =
    let same : word_text w ≡ bs = (bytes_eq-Decides (word_text w) bs).0 h in
    let plain : chars bs ≡ word_text w = ap chars (sym same) ∙ chars-IsAscii (word_text w) (IsAscii-text (word_text w) (ascii-word w)) in
    rw (plain, word_of-text w) refl
