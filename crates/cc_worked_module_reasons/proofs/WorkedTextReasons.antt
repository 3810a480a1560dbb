-- Worked reasons of texts, by computation.
use Rattle.std.proofs.Common.{◌≡◌, ℕ, true, false, List, [], ◌∷◌, ◌++◌, refl, sym, subst, ◌∙◌}
use Rattle.std.specs.Char.{is_ascii_digit}
use Rattle.std.specs.Str.{chars, is_utf8}
use Rattle.std.specs.Str.Lossy.{utf8_valid_len}
use Rattle.std.specs.Prelude.{codes, encode_utf8_all, replicate, take, IsUtf8}
use Rattle.std.proofs.lemmas.Str.{is_utf8-from_IsUtf8}
use lib.Utf8.{encode}
use Rattle.cc_worked_texts.specs.TextVerdicts.{place, repeated}
use Rattle.cc_base.specs.Names.{first_passes}
use Rattle.cc_base.specs.declared.code.Code.TheVariants.{E02, E04}
use Rattle.cc_base.specs.declared.place.Place.{Place}
use Rattle.cc_lex.specs.Lexical.{start, place_past, BeginsTooGreat}
use Rattle.cc_text_reasons.proofs.Breaks.{text_front}
use Rattle.cc_text_reasons.proofs.RefusedTexts.{told, breaks, one_break, one_place, refused_texts_have_a_reason}
use Rattle.cc_text_reasons.specs.TextReasons.{Break, BreaksAt, at_character, at_end, too_great, TextReason, NotUtf8, Broken, TooHigh, text_code, HasTextReason, is_not_utf8, is_broken, is_unwanted, is_too_high}
use Rattle.cc_verdicts.proofs.ReadingLaws.{text_has_one_reading}
use Rattle.cc_verdicts.specs.Readings.{IsNoModule}
use Rattle.cc_worked_module_reasons.specs.TextReasonRows as example
use Rattle.cc_worked_texts.proofs.ComputedModules.{text_computing, letters_computing}
use Rattle.cc_worked_texts.proofs.QuickTokens.{quick_reading, same_reading}

no_digit : (rest : List ℕ) → first_passes is_ascii_digit rest ≡ false → BeginsTooGreat rest → ⊥
no_digit rest e it = by it.cs it.too_great.0.0 it.front
  where
    by : (cs : List ℕ) → first_passes is_ascii_digit cs ≡ true → rest ≡ cs ++ it.after → ⊥
    by [] h is = cc
    by (c ∷ cs) h is = let same : first_passes is_ascii_digit (c ∷ (cs ++ it.after)) ≡ false = subst (λ r. first_passes is_ascii_digit r ≡ false) is e in cc

told_is : (rest : List ℕ) (break : Break) → first_passes is_ascii_digit rest ≡ false → BreaksAt rest break → break ≡ told rest
told_is rest break e (at_character front c behind nothing is it) = one_break rest _ (told rest) (at_character front c behind nothing is it) (breaks rest nothing)
told_is rest break e (at_end nothing it) = one_break rest _ (told rest) (at_end nothing it) (breaks rest nothing)
told_is rest break e (too_great great) = absurd (no_digit rest e great)

of_broken : (text before rest : List ℕ) (reason : TextReason) (at : Place) → E02 ≡ text_code reason → chars text ≡ before ++ rest
    → at ≡ place_past start before → first_passes is_ascii_digit rest ≡ false → HasTextReason text reason at → HasTextReason text (Broken (told rest)) at
of_broken text before rest reason at code is there e (is_not_utf8 not) = cc
of_broken text before rest reason at code is there e (is_broken before' rest' break utf8 is' stops it) =
    let same : rest' ≡ rest = one_place (chars text) before' rest' before rest is' is there in
    let told_so : break ≡ told rest = told_is rest break e (subst (λ r. BreaksAt r break) same it) in
    subst (λ b. HasTextReason text (Broken b) (place_past start before')) told_so (is_broken before' rest' break utf8 is' stops it)
of_broken text before rest reason at code is there e (is_unwanted tokens front more wanted has is' low none wants) = cc
of_broken text before rest reason at code is there e (is_too_high tokens front more has is' low high) = cc

-- a text that is refused where this rest begins, which is of no number
pub broken : (text before rest : List ℕ) (at : Place) → quick_reading text ≡ IsNoModule E02 at → chars text ≡ before ++ rest
    → at ≡ place_past start before → first_passes is_ascii_digit rest ≡ false → HasTextReason text (Broken (told rest)) at
broken text before rest at reads is there e =
    let (reason, code, it) = refused_texts_have_a_reason text E02 at ((text_has_one_reading text (IsNoModule E02 at)).1 (sym reads ∙ sym (same_reading text))) in
    of_broken text before rest reason at code is there e it

-- the same behind the front of a definition
breaks_behind : (rest : List ℕ) → quick_reading (codes "def a = " ++ rest) ≡ IsNoModule E02 (record { line = 1; col = 9 })
    → chars (codes "def a = " ++ rest) ≡ codes "def a = " ++ rest → first_passes is_ascii_digit rest ≡ false → example.Breaks rest (told rest)
breaks_behind rest reads is e = broken (codes "def a = " ++ rest) (codes "def a = ") rest (record { line = 1; col = 9 }) reads is refl e

pub broken_tokens : example.BrokenTokens
unfolding letters_computing told text_front
broken_tokens = record {
  alone = breaks_behind (codes "@") refl refl refl;
  before_a_name = breaks_behind (codes "@a") refl refl refl;
  mark = breaks_behind (codes "!") refl refl refl;
  one_slash = breaks_behind (codes "/") refl refl refl;
  slash_and_space = breaks_behind (codes "/ 1") refl refl refl;
  slash_and_star = breaks_behind (codes "/* 1 */") refl refl refl;
  open_string = breaks_behind (34 ∷ codes "ab") refl refl refl;
  open_in_its_line = breaks_behind (34 ∷ codes "ab" ++ 10 ∷ 34 ∷ []) refl refl refl;
  lone_quote = breaks_behind (34 ∷ []) refl refl refl;
  backslash = breaks_behind (34 ∷ codes "a" ++ 92 ∷ 34 ∷ []) refl refl refl;
  tab = breaks_behind (34 ∷ 9 ∷ 34 ∷ []) refl refl refl;
  too_long = breaks_behind (34 ∷ replicate 200 97 ++ 98 ∷ 34 ∷ []) refl refl refl;
}

pub broken_places : example.BrokenPlaces
unfolding letters_computing told text_front
broken_places = record {
  in_the_second_line = broken (codes "def a = 1" ++ 10 ∷ codes "@ " ++ 34 ∷ []) (codes "def a = 1" ++ 10 ∷ []) (codes "@ " ++ 34 ∷ []) _ refl refl refl refl;
  behind_a_comment = broken (codes "// " ++ 34 ∷ 10 ∷ codes "def a = /") (codes "// " ++ 34 ∷ 10 ∷ codes "def a = ") (codes "/") _ refl refl refl refl;
}

-- a text of which this byte is the first that is not UTF-8
not_utf8 : (text : List ℕ) (byte : ℕ) (at : Place) → is_utf8 text ≡ false → utf8_valid_len text ≡ byte
    → place_past start (chars (take byte text)) ≡ at → HasTextReason text (NotUtf8 byte) at
not_utf8 text byte at bad is there =
    subst (λ n. place_past start (chars (take n text)) ≡ at → HasTextReason text (NotUtf8 n) at) is
    (λ same. subst (λ p. HasTextReason text (NotUtf8 (utf8_valid_len text)) p) same (is_not_utf8 none)) there
  where
    none : IsUtf8 text → ⊥
    none utf8 = let yes : is_utf8 text ≡ true = is_utf8-from_IsUtf8 text utf8 in cc

pub bad_bytes : example.BadBytes
unfolding encode is_utf8 chars utf8_valid_len
bad_bytes = record {
  first = not_utf8 (255 ∷ codes "def a = 1") 0 (place 1 1) refl refl refl;
  within = not_utf8 (codes "def a = " ++ 255 ∷ codes "1") 8 (place 1 9) refl refl refl;
  last = not_utf8 (codes "def a = 1" ++ 254 ∷ []) 9 (place 1 10) refl refl refl;
  first_of_two = not_utf8 (codes "a" ++ 255 ∷ codes "b" ++ 255 ∷ []) 1 (place 1 2) refl refl refl;
  lone = not_utf8 (codes "ab" ++ 128 ∷ []) 2 (place 1 3) refl refl refl;
  cut_at_the_end = not_utf8 (codes "ab" ++ 195 ∷ []) 2 (place 1 3) refl refl refl;
  cut_within = not_utf8 (codes "ab" ++ 226 ∷ 130 ∷ codes "c") 2 (place 1 3) refl refl refl;
  too_long = not_utf8 (codes "a" ++ 192 ∷ 175 ∷ []) 1 (place 1 2) refl refl refl;
  surrogate = not_utf8 (codes "a" ++ 237 ∷ 160 ∷ 128 ∷ []) 1 (place 1 2) refl refl refl;
  too_great = not_utf8 (codes "a" ++ 244 ∷ 144 ∷ 128 ∷ 128 ∷ []) 1 (place 1 2) refl refl refl;
  behind_two_bytes = not_utf8 (encode_utf8_all (codes "é") ++ 255 ∷ []) 2 (place 1 2) refl refl refl;
  in_the_second_line = not_utf8 (codes "ab" ++ 10 ∷ codes "c" ++ 255 ∷ []) 4 (place 2 2) refl refl refl;
  behind_a_broken_token = not_utf8 (codes "@" ++ 255 ∷ []) 1 (place 1 2) refl refl refl;
}

of_high : (text : List ℕ) (reason : TextReason) (at : Place) → E04 ≡ text_code reason → HasTextReason text reason at → HasTextReason text TooHigh at
of_high text reason at code (is_not_utf8 not) = cc
of_high text reason at code (is_broken before rest break utf8 is stops it) = cc
of_high text reason at code (is_unwanted tokens front more wanted has is low none wants) = cc
of_high text reason at code (is_too_high tokens front more has is low high) = is_too_high tokens front more has is low high

-- a text that is refused with a tree that is too high
high : (text : List ℕ) (at : Place) → quick_reading text ≡ IsNoModule E04 at → HasTextReason text TooHigh at
high text at reads =
    let (reason, code, it) = refused_texts_have_a_reason text E04 at ((text_has_one_reading text (IsNoModule E04 at)).1 (sym reads ∙ sym (same_reading text))) in
    of_high text reason at code it

pub high_trees : example.HighTrees
unfolding text_computing
high_trees = record {
  right_side_of_a_val = high (codes "def a = val x = " ++ repeated 99 (codes "(") ++ codes "1" ++ repeated 99 (codes ")") ++ codes "; x") (place 1 115) refl;
  body_of_a_function = high (codes "def a = fun (x: Int) => " ++ repeated 99 (codes "(") ++ codes "1" ++ repeated 99 (codes ")")) (place 1 123) refl;
}
