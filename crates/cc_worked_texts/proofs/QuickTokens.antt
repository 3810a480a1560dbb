-- Reading the tokens of a text with less computation: only the branch that is taken is computed, and letters of ASCII
-- are told apart without the tables of Unicode.
use Rattle.std.proofs.Common.{◌≡◌, ◌∙◌, ℕ, zero, suc, ◌+◌, ◌<◌, ◌≤◌, Bool, true, false, ◌&&◌, ◌||◌, ◌==◌, not, if◌then◌else◌, List, [], ◌∷◌, length, take, drop, Option, Some, None, refl, sym, ap, subst, arith}
use Rattle.std.specs.Prelude.{nat_le, encode_utf8}
use Rattle.std.specs.Char.{is_ascii_digit, is_ascii_alphabetic, is_ascii_alphanumeric}
use Rattle.std.specs.List.{prefix_len}
use Rattle.std.specs.Str.{chars, is_utf8, IsAscii}
use Rattle.std.specs.Str.Lossy.{utf8_valid_len}
use Rattle.std.proofs.Math.Dec.{ltb}
use Rattle.std.proofs.lemmas.Bool.{both_ways, ltb-true, ltb-false}
use Rattle.std.proofs.lemmas.Str.{is_utf8-from_IsUtf8, IsUtf8-from_ascii, chars-IsAscii}
use Rattle.std.proofs.lemmas.Str.Ascii.{IsAscii-nil, IsAscii-cons}
use Rattle.unicode_ident.specs.Ident.{is_xid_start, is_xid_continue}
use Rattle.unicode_ident.proofs.Computing.{unicode_ident}
use Rattle.cc_base.specs.declared.code.Code.TheVariants.{E01}
use Rattle.cc_base.specs.declared.place.Place.{Place}
use Rattle.cc_base.specs.Names.{first_passes}
use Rattle.cc_lex.specs.declared.form.Form.TheVariants as forms
use Rattle.cc_lex.specs.Forms.{stands_in_string}
use Rattle.cc_lex.specs.Lexical.{start, place_past, place_after, is_white, SpannedLexeme, ToTheEnd}
use Rattle.cc_lex.specs.Cutting.{Front, Cutting, cut, found, blank_of, front_of, token_of, spelled_front, string_front, symbol_front, long_symbol, short_symbol}
use Rattle.cc_verdicts.specs.Readings.{TextReading, IsNoModule, of_cutting, reading_of_text}

-- a choice, of which one side alone is computed
same_choice : {A : Type 0} (b : Bool) {x y x' y' : A} → x ≡ x' → y ≡ y' → (if b then x else y) ≡ elim b as (λ _. A) [ true ↦ x' | false ↦ y' ]
same_choice true e f = e
same_choice false e f = f

-- LETTERS

unfoldable pub quick_start : ℕ → Bool
quick_start c = elim (ltb c 128) as (λ _. Bool) [ true ↦ is_ascii_alphabetic c | false ↦ is_xid_start c ]

unfoldable pub quick_continue : ℕ → Bool
quick_continue c = elim (ltb c 128) as (λ _. Bool) [ true ↦ is_ascii_alphanumeric c || c == 95 | false ↦ is_xid_continue c ]

unfoldable same_truth : Bool → Bool → Bool
same_truth true b = b
same_truth false b = not b

same_truth_is : (a b : Bool) → same_truth a b ≡ true → a ≡ b
unfolding same_truth
same_truth_is true true e = refl
same_truth_is true false e = sym e
same_truth_is false true e = e
same_truth_is false false e = refl

both_true : (a b : Bool) → (a && b) ≡ true → (a ≡ true) × (b ≡ true)
both_true true b e = (refl, e)
both_true false b e = absurd (both_ways false refl e)

unfoldable all_below : (ℕ → Bool) → ℕ → Bool
all_below p zero = true
all_below p (suc n) = p n && all_below p n

below_step : (p : ℕ → Bool) (n c : ℕ) → p n ≡ true → (c < n → p c ≡ true) → c < suc n → (b : Bool) → ltb c n ≡ b → p c ≡ true
below_step p n c last before less true e = before (ltb-true c n e)
below_step p n c last before less false e =
    let most : n ≤ c = ltb-false c n e in let same : n ≡ c = omega arith in subst (λ k. p k ≡ true) same last

below_passes : (p : ℕ → Bool) (n c : ℕ) → all_below p n ≡ true → c < n → p c ≡ true
unfolding all_below
below_passes p zero c e less = absurd (omega (arith, less))
below_passes p (suc n) c e less =
    let parts = both_true (p n) (all_below p n) e in
    below_step p n c parts.0 (λ before. below_passes p n c parts.1 before) less (ltb c n) refl

start_letters : all_below (λ c. same_truth (is_xid_start c) (is_ascii_alphabetic c)) 128 ≡ true
unfolding all_below same_truth unicode_ident is_xid_start
start_letters = refl

continue_letters : all_below (λ c. same_truth (is_xid_continue c) (is_ascii_alphanumeric c || c == 95)) 128 ≡ true
unfolding all_below same_truth unicode_ident is_xid_continue
continue_letters = refl

same_start : (c : ℕ) → is_xid_start c ≡ quick_start c
unfolding quick_start
same_start c = go (ltb c 128) refl
  where
    go : (b : Bool) → ltb c 128 ≡ b → is_xid_start c ≡ elim b as (λ _. Bool) [ true ↦ is_ascii_alphabetic c | false ↦ is_xid_start c ]
    go true e = same_truth_is _ _ (below_passes (λ k. same_truth (is_xid_start k) (is_ascii_alphabetic k)) 128 c start_letters (ltb-true c 128 e))
    go false e = refl

same_continue : (c : ℕ) → is_xid_continue c ≡ quick_continue c
unfolding quick_continue
same_continue c = go (ltb c 128) refl
  where
    go : (b : Bool) → ltb c 128 ≡ b → is_xid_continue c ≡ elim b as (λ _. Bool) [ true ↦ is_ascii_alphanumeric c || c == 95 | false ↦ is_xid_continue c ]
    go true e = same_truth_is _ _ (below_passes (λ k. same_truth (is_xid_continue k) (is_ascii_alphanumeric k || k == 95)) 128 c continue_letters (ltb-true c 128 e))
    go false e = refl

-- TOKENS

unfoldable pub quick_prefix : (ℕ → Bool) → List ℕ → ℕ
quick_prefix p [] = 0
quick_prefix p (c ∷ cs) = elim (p c) as (λ _. ℕ) [ true ↦ 1 + quick_prefix p cs | false ↦ 0 ]

same_prefix : (p q : ℕ → Bool) → ((c : ℕ) → p c ≡ q c) → (cs : List ℕ) → prefix_len p cs ≡ quick_prefix q cs
unfolding quick_prefix
same_prefix p q same [] = refl
same_prefix p q same (c ∷ cs) =
    ap (λ b. if b then 1 + prefix_len p cs else 0) (same c) ∙ same_choice (q c) (ap (λ n. 1 + n) (same_prefix p q same cs)) refl

unfoldable pub quick_string : List ℕ → Option Front
quick_string cs =
    let n = quick_prefix stands_in_string cs in
    if nat_le n 200 && first_passes (λ c. c == 34) (drop n cs) then Some (forms.Text, n + 1) else None

same_string : (cs : List ℕ) → string_front cs ≡ quick_string cs
unfolding quick_string
same_string cs =
    ap (λ n. if nat_le n 200 && first_passes (λ c. c == 34) (drop n cs) then Some (forms.Text, n + 1) else None)
    (same_prefix stands_in_string stands_in_string (λ c. refl) cs)

unfoldable pub quick_front : ℕ → List ℕ → Option Front
quick_front c cs = elim (is_ascii_digit c) as (λ _. Option Front) [
  | true ↦ Some (forms.Digits, quick_prefix is_ascii_digit cs)
  | false ↦ elim (quick_start c) as (λ _. Option Front) [
    | true ↦ Some (forms.Word, quick_prefix quick_continue cs)
    | false ↦ elim (c == 34) as (λ _. Option Front) [ true ↦ quick_string cs | false ↦ symbol_front (long_symbol c cs) (short_symbol c) ]
  ]
]

same_front : (c : ℕ) (cs : List ℕ) → front_of c cs ≡ quick_front c cs
unfolding front_of quick_front
same_front c cs =
    same_choice (is_ascii_digit c) (ap (λ n. Some (forms.Digits, n)) (same_prefix is_ascii_digit is_ascii_digit (λ d. refl) cs))
    (ap (λ b. if b then Some (forms.Word, prefix_len is_xid_continue cs) else if c == 34 then string_front cs else symbol_front (long_symbol c cs) (short_symbol c)) (same_start c)
    ∙ same_choice (quick_start c) (ap (λ n. Some (forms.Word, n)) (same_prefix is_xid_continue quick_continue same_continue cs))
    (same_choice (c == 34) (same_string cs) refl))

unfoldable pub quick_blank : ℕ → List ℕ → Option ℕ
quick_blank c cs = elim (is_white c) as (λ _. Option ℕ) [
  | true ↦ Some 0
  | false ↦ elim (c == 47 && first_passes (λ d. d == 47) cs) as (λ _. Option ℕ) [
    | true ↦ Some (quick_prefix (λ d. not (d == 10)) cs)
    | false ↦ None
  ]
]

same_blank : (c : ℕ) (cs : List ℕ) → blank_of c cs ≡ quick_blank c cs
unfolding blank_of quick_blank
same_blank c cs =
    same_choice (is_white c) refl
    (same_choice (c == 47 && first_passes (λ d. d == 47) cs)
    (ap Some (same_prefix (λ d. not (d == 10)) (λ d. not (d == 10)) (λ d. refl) cs)) refl)

unfoldable pub quick_token : Place → ℕ → ℕ → List ℕ → Option (SpannedLexeme × ℕ)
quick_token p o c cs = spelled_front p o c cs (quick_front c cs)

same_token : (p : Place) (o c : ℕ) (cs : List ℕ) → token_of p o c cs ≡ quick_token p o c cs
unfolding token_of quick_token
same_token p o c cs = ap (spelled_front p o c cs) (same_front c cs)

unfoldable pub quick_cut : ℕ → Place → ℕ → List ℕ → Cutting
quick_cut n p o [] = record { tokens = []; extent = ToTheEnd }
quick_cut (suc n) p o (c ∷ cs) = quick_cut n (place_after p c) (o + length (encode_utf8 c)) cs
quick_cut zero p o (c ∷ cs) =
    found p (quick_blank c cs) (quick_token p o c cs) (λ n. quick_cut n (place_after p c) (o + length (encode_utf8 c)) cs)

same_cut : (n : ℕ) (p : Place) (o : ℕ) (cs : List ℕ) → cut n p o cs ≡ quick_cut n p o cs
unfolding quick_cut
same_cut n p o [] = refl
same_cut (suc n) p o (c ∷ cs) = same_cut n (place_after p c) (o + length (encode_utf8 c)) cs
same_cut zero p o (c ∷ cs) = λ i.
    found p (same_blank c cs i) (same_token p o c cs i) (λ n. same_cut n (place_after p c) (o + length (encode_utf8 c)) cs i)

-- TEXTS

unfoldable pub all_ascii : List ℕ → Bool
all_ascii [] = true
all_ascii (c ∷ cs) = ltb c 128 && all_ascii cs

all_ascii_is : (cs : List ℕ) → all_ascii cs ≡ true → IsAscii cs
unfolding all_ascii
all_ascii_is [] e = IsAscii-nil
all_ascii_is (c ∷ cs) e =
    let parts = both_true (ltb c 128) (all_ascii cs) e in IsAscii-cons c cs (ltb-true c 128 parts.0) (all_ascii_is cs parts.1)

-- what a text is that may have other characters than those of ASCII
unfoldable pub quick_utf8_reading : List ℕ → TextReading
quick_utf8_reading text = elim (is_utf8 text) as (λ _. TextReading) [
  | true ↦ of_cutting (place_past start (chars text)) (quick_cut 0 start 0 (chars text))
  | false ↦ IsNoModule E01 (place_past start (chars (take (utf8_valid_len text) text)))
]

-- what a text is, with less computation
unfoldable pub quick_reading : List ℕ → TextReading
quick_reading text = elim (all_ascii text) as (λ _. TextReading) [
  | true ↦ of_cutting (place_past start text) (quick_cut 0 start 0 text)
  | false ↦ quick_utf8_reading text
]

utf8_reading : (text : List ℕ) → reading_of_text text ≡ quick_utf8_reading text
unfolding reading_of_text quick_utf8_reading
utf8_reading text =
    same_choice (is_utf8 text) (ap (of_cutting (place_past start (chars text))) (same_cut 0 start 0 (chars text))) refl

ascii_reading : (text : List ℕ) → IsAscii text → reading_of_text text ≡ of_cutting (place_past start text) (quick_cut 0 start 0 text)
unfolding reading_of_text
ascii_reading text is =
    ap (λ b. if b then of_cutting (place_past start (chars text)) (cut 0 start 0 (chars text)) else IsNoModule E01 (place_past start (chars (take (utf8_valid_len text) text))))
    (is_utf8-from_IsUtf8 text (IsUtf8-from_ascii text is))
    ∙ ap (λ cs. of_cutting (place_past start cs) (cut 0 start 0 cs)) (chars-IsAscii text is)
    ∙ ap (of_cutting (place_past start text)) (same_cut 0 start 0 text)

pub same_reading : (text : List ℕ) → reading_of_text text ≡ quick_reading text
unfolding quick_reading
same_reading text = go (all_ascii text) refl
  where
    go : (b : Bool) → all_ascii text ≡ b → reading_of_text text ≡ elim b as (λ _. TextReading) [ true ↦ of_cutting (place_past start text) (quick_cut 0 start 0 text) | false ↦ quick_utf8_reading text ]
    go true e = ascii_reading text (all_ascii_is text e)
    go false e = utf8_reading text

-- all that reading the tokens of a text unfolds
unfoldable pub quick_tokens : Unit {0}
unfolding quick_reading quick_utf8_reading all_ascii quick_cut quick_token quick_blank quick_front quick_string quick_prefix quick_start quick_continue
quick_tokens = tt

-- all that it unfolds besides where there are other characters than those of ASCII
unfoldable pub quick_letters : Unit {0}
unfolding unicode_ident is_xid_start is_xid_continue is_utf8 chars utf8_valid_len
quick_letters = tt
