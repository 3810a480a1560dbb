-- Words that are literals, and texts in quotes.
use Rattle.std.proofs.Common.{◌≡◌, ℕ, zero, suc, ◌+◌, ◌/◌, ◌%◌, ◌^◌, ◌<◌, ◌≤◌, Bool, true, false, not, ◌&&◌, ◌||◌, ◌==◌, ◌⊎◌, inl, inr, cond, ltb, List, [], ◌∷◌, ◌++◌, Option, Some, None, length, decimal, codes, bytes_eq, refl, sym, ap, subst, ◌∙◌, arith, ⊎_elim}
use Rattle.std.specs.Prelude.{encode_utf8_all, nat_le, pos}
use Rattle.std.specs.Option.{option_map}
use Rattle.std.specs.List.{list_all, list_any}
use Rattle.std.specs.Str.{chars, is_utf8, IsUtf8}
use Rattle.std.specs.Char.{is_ascii_alphabetic}
use Rattle.std.proofs.lemmas.Bool.{cases_lt, true≢false}
use Rattle.std.proofs.lemmas.Bool.Decides.{nat_tests, Decides-eqb}
use Rattle.std.proofs.lemmas.Fmt.{decimal_by_steps}
use Rattle.std.proofs.lemmas.Slice.Eq.{bytes_eq-Decides}
use Rattle.std.proofs.lemmas.Str.{encode_ascii, chars-encodes, encodes-chars, IsUtf8-from_is_utf8, is_utf8-from_IsUtf8}
use Rattle.unicode_ident.specs.Ident.{is_xid_start}
use Rattle.unicode_ident.proofs.IdentLemmas.{is_xid_start-ascii}
use Rattle.cc_base.specs.Names.{IsName, first_passes, is_reserved}
use Rattle.cc_base.specs.Literals.{Literal, UnitLiteral, TruthLiteral, NumberLiteral, TextLiteral}
use Rattle.cc_words.specs.Words.{number_of}
use Rattle.cc_words.proofs.Steps.{Lacks, Lacks-append}
use Rattle.cc_words.proofs.Numbers.{number_of_gives, number_of-decimal}
use Rattle.cc_lex.specs.Forms.{stands_in_string}
use Rattle.cc_print.proofs.Words.{Begins, begins_append, both, clash, name_not_reserved}
use Rattle.cc_print.specs.TermTexts.{literal_text}
use Rattle.cc_certificate_text.specs.Certificates.{IsWrittenLiteral}
use Rattle.cc_certificate_text.specs.Reading.{literal_where, text_of, number_literal, literal_of}
use Rattle.cc_certificate_text.proofs.ReadSets.{false_unless, map_gives}
use lib.Utf8.{scalars, encode, next}

-- a byte that is no digit
IsNoDigit : ℕ → Type 0
IsNoDigit b = (48 ≤ b) × (b ≤ 57) → ⊥

IsDigit : ℕ → Type 0
IsDigit b = (48 ≤ b) × (b ≤ 57)

begins_cond : (P : ℕ → Type 0) (test : Bool) (xs ys : List ℕ) → Begins P xs → Begins P ys → Begins P (cond test xs ys)
begins_cond P true xs ys p q = p
begins_cond P false xs ys p q = q

high_begins : (c : ℕ) → 128 ≤ c → Begins IsNoDigit (encode c)
unfolding encode IsNoDigit
high_begins c high =
    begins_cond IsNoDigit (ltb c 128) _ _ (λ e. omega (arith, e.1))
    (begins_cond IsNoDigit (ltb c 2048) _ _ (λ e. omega (arith, e.1))
    (begins_cond IsNoDigit (ltb c 65536) _ _ (λ e. omega (arith, e.1)) (λ e. omega (arith, e.1))))

digit_no_start : (c : ℕ) → is_xid_start c ≡ true → (48 ≤ c) × (c ≤ 57) → ⊥
digit_no_start c starts digit =
    let low : c < 128 = omega (arith, digit.1) in
    clash (is_xid_start c) starts (is_xid_start-ascii c low ∙ no_letter c digit.0 digit.1)
  where
    no_letter : (c : ℕ) → 48 ≤ c → c ≤ 57 → is_ascii_alphabetic c ≡ false
    no_letter c above below = grind (arith, nat_tests)

character_begins : (c : ℕ) → is_xid_start c ≡ true → Begins IsNoDigit (encode c)
unfolding IsNoDigit
character_begins c starts =
    ⊎_elim (λ low. subst (Begins IsNoDigit) (sym (encode_ascii c low)) (digit_no_start c starts))
    (high_begins c) (cases_lt c 128)

starts_of : (name : List ℕ) → IsName name → first_passes is_xid_start name ≡ true
starts_of name named = (both _ _ (both _ _ named).0).0

name_begins : (name : List ℕ) → IsName name → Begins IsNoDigit (encode_utf8_all name)
name_begins [] named = absurd (true≢false (sym (starts_of [] named)))
name_begins (c ∷ cs) named =
    begins_append IsNoDigit (encode c) (encode_utf8_all cs) (character_begins c (starts_of (c ∷ cs) named))

decimal_begins : (n : ℕ) → n < 2 ^ 64 → Begins IsDigit (decimal n)
unfolding IsDigit
decimal_begins n small =
    decimal_by_steps (λ n ds. Begins IsDigit ds) (λ d h. (omega arith, omega arith)) (λ n ds h p. begins_append IsDigit ds _ p) n small

begins_apart : (bs : List ℕ) → Begins IsDigit bs → Begins IsNoDigit bs → ⊥
unfolding IsDigit IsNoDigit
begins_apart [] p q = p
begins_apart (b ∷ bs) p q = q p

-- no name is a number
pub name_no_number : (name : List ℕ) (n : ℕ) → n < 2 ^ 64 → IsName name → encode_utf8_all name ≡ decimal n → ⊥
name_no_number name n small named e =
    begins_apart (decimal n) (decimal_begins n small) (subst (Begins IsNoDigit) e (name_begins name named))

-- nor does a number begin with a low line
pub number_no_low_line : (n : ℕ) (rest : List ℕ) → n < 2 ^ 64 → decimal n ≡ 95 ∷ rest → ⊥
unfolding IsDigit
number_no_low_line n rest small e =
    let digit = subst (Begins IsDigit) e (decimal_begins n small) in omega (arith, digit.1)

-- the word is empty, or begins with a byte beyond the digits
abbrev pub IsLetters : List ℕ → Type 0
IsLetters [] = Unit {0}
IsLetters (b ∷ bs) = nat_le b 57 ≡ false

-- such a word is no number
pub number_no_letters : (n : ℕ) (word : List ℕ) → n < 2 ^ 64 → IsLetters word → decimal n ≡ word → ⊥
unfolding IsDigit
number_no_letters n [] small letters e = subst (Begins IsDigit) e (decimal_begins n small)
number_no_letters n (b ∷ bs) small letters e =
    let digit = subst (Begins IsDigit) e (decimal_begins n small) in
    clash (nat_le b 57) (low digit.1) letters
  where
    low : b ≤ 57 → nat_le b 57 ≡ true
    low h = grind (arith, nat_tests)

-- LITERALS

number_written : (word : List ℕ) (l : Literal) → number_literal word ≡ Some l → IsWrittenLiteral l × (word ≡ literal_text l)
unfolding number_literal
number_written word l h =
    let found = map_gives (λ n. NumberLiteral (pos n)) (number_of 9223372036854775807 word) l h in
    let number = number_of_gives 9223372036854775807 word found.0 (omega arith) found.1 in
    subst (λ x. IsWrittenLiteral x × (word ≡ literal_text x)) (sym found.2) (omega (arith, number.0), number.1)

literal_in : (word : List ℕ) (l : Literal) (a b c : Bool) → bytes_eq word (codes "unit") ≡ a → bytes_eq word (codes "true") ≡ b
    → bytes_eq word (codes "false") ≡ c
    → cond a (Some UnitLiteral) (cond b (Some (TruthLiteral true)) (cond c (Some (TruthLiteral false)) (number_literal word))) ≡ Some l
    → IsWrittenLiteral l × (word ≡ literal_text l)
literal_in word l true b c e f g h =
    let is : UnitLiteral ≡ l = cc in
    subst (λ x. IsWrittenLiteral x × (word ≡ literal_text x)) is (tt, (bytes_eq-Decides word (codes "unit")).0 e)
literal_in word l false true c e f g h =
    let is : TruthLiteral true ≡ l = cc in
    subst (λ x. IsWrittenLiteral x × (word ≡ literal_text x)) is (tt, (bytes_eq-Decides word (codes "true")).0 f)
literal_in word l false false true e f g h =
    let is : TruthLiteral false ≡ l = cc in
    subst (λ x. IsWrittenLiteral x × (word ≡ literal_text x)) is (tt, (bytes_eq-Decides word (codes "false")).0 g)
literal_in word l false false false e f g h = number_written word l h

pub literal_of_gives : (word : List ℕ) (l : Literal) → literal_of word ≡ Some l → IsWrittenLiteral l × (word ≡ literal_text l)
unfolding literal_of
literal_of_gives word l h =
    literal_in word l (bytes_eq word (codes "unit")) (bytes_eq word (codes "true")) (bytes_eq word (codes "false")) refl refl refl h

number_is_no : (n : ℕ) (word : List ℕ) (first : ℕ) → n < 2 ^ 64 → Begins IsNoDigit word → bytes_eq (decimal n) word ≡ false
number_is_no n word first small letter =
    false_unless (bytes_eq (decimal n) word)
    (λ t. begins_apart (decimal n) (decimal_begins n small) (subst (Begins IsNoDigit) (sym ((bytes_eq-Decides (decimal n) word).0 t)) letter))

letter : (b : ℕ) (bs : List ℕ) → 57 < b → Begins IsNoDigit (b ∷ bs)
unfolding IsNoDigit
letter b bs high = λ e. omega (arith, high, e.1)

pub literal_of-number : (n : ℕ) → n < 2 ^ 63 → literal_of (decimal n) ≡ Some (NumberLiteral (pos n))
unfolding literal_of number_literal
literal_of-number n low =
    let small : n < 2 ^ 64 = omega (arith, low) in
    rw (
      number_is_no n (codes "unit") 0 small (letter 117 (codes "nit") (omega arith)),
      number_is_no n (codes "true") 0 small (letter 116 (codes "rue") (omega arith)),
      number_is_no n (codes "false") 0 small (letter 102 (codes "alse") (omega arith)),
      number_of-decimal 9223372036854775807 n (omega arith) (omega (arith, low)),
    ) refl

pub literal_of-unit : literal_of (codes "unit") ≡ Some UnitLiteral
unfolding literal_of
literal_of-unit = refl

pub literal_of-true : literal_of (codes "true") ≡ Some (TruthLiteral true)
unfolding literal_of
literal_of-true = refl

pub literal_of-false : literal_of (codes "false") ≡ Some (TruthLiteral false)
unfolding literal_of
literal_of-false = refl

literal_where_gives : (test : Bool) (x l : Literal) → literal_where test x ≡ Some l → (test ≡ true) × (x ≡ l)
literal_where_gives true x l h = (refl, cc)
literal_where_gives false x l h = cc

scalar_characters : (word : List ℕ) → IsUtf8 word → scalars (chars word) ≡ true
scalar_characters word utf8 =
    let same : chars word ≡ utf8.0 = ap chars (sym utf8.1.1) ∙ chars-encodes utf8.0 utf8.1.0 in
    ap scalars same ∙ utf8.1.0

pub text_of_gives : (word : List ℕ) (l : Literal) → text_of word ≡ Some l
    → IsWrittenLiteral l × (literal_text l ≡ 34 ∷ (word ++ 34 ∷ []))
unfolding text_of
text_of_gives word l h =
    let found = literal_where_gives (is_utf8 word && (list_all stands_in_string (chars word) && nat_le (length (chars word)) 200)) (TextLiteral (chars word)) l h in
    let first = both (is_utf8 word) (list_all stands_in_string (chars word) && nat_le (length (chars word)) 200) found.0 in
    let tests = both (list_all stands_in_string (chars word)) (nat_le (length (chars word)) 200) first.1 in
    let utf8 = IsUtf8-from_is_utf8 word first.0 in
    let short : length (chars word) ≤ 200 = grind (arith, nat_tests) in
    subst (λ x. IsWrittenLiteral x × (literal_text x ≡ 34 ∷ (word ++ 34 ∷ []))) found.1
    ((scalar_characters word utf8, tests.0, short), ap (λ z. 34 ∷ (z ++ 34 ∷ [])) (encodes-chars word utf8))

pub text_of-text : (text : List ℕ) → IsWrittenLiteral (TextLiteral text) → text_of (encode_utf8_all text) ≡ Some (TextLiteral text)
unfolding text_of
text_of-text text ok =
    let same = chars-encodes text ok.0 in
    let utf8 : is_utf8 (encode_utf8_all text) ≡ true = is_utf8-from_IsUtf8 (encode_utf8_all text) (text, (ok.0, refl)) in
    let short : nat_le (length text) 200 ≡ true = let h = ok.2 in grind (arith, nat_tests) in
    rw (utf8, same, ok.1, short) refl

-- NO QUOTE STANDS IN A TEXT

lacks_cond : (test : Bool) (xs ys : List ℕ) → Lacks 34 xs → Lacks 34 ys → Lacks 34 (cond test xs ys)
lacks_cond true xs ys p q = p
lacks_cond false xs ys p q = q

high_byte : (b : ℕ) → 128 ≤ b → (b == 34) ≡ false
high_byte b high = grind (arith, nat_tests)

lacks_high : (c : ℕ) → 128 ≤ c → Lacks 34 (encode c)
unfolding encode
lacks_high c high =
    let next_byte : (b : ℕ) → (next b == 34) ≡ false = λ b. high_byte (next b) (omega arith) in
    lacks_cond (ltb c 128) _ _ (high_byte c high, tt)
    (lacks_cond (ltb c 2048) _ _ (high_byte _ (omega arith), (next_byte c, tt))
    (lacks_cond (ltb c 65536) _ _ (high_byte _ (omega arith), (next_byte (c / 64), (next_byte c, tt)))
    (high_byte _ (omega arith), (next_byte (c / 4096), (next_byte (c / 64), (next_byte c, tt))))))

no_quote : (c : ℕ) → stands_in_string c ≡ true → (c == 34) ≡ false
no_quote c h = false_unless (c == 34) (λ t. quote_out c ((Decides-eqb c 34).0 t) h)
  where
    quote_out : (c : ℕ) → c ≡ 34 → stands_in_string c ≡ true → ⊥
    quote_out c e h = let k : stands_in_string 34 ≡ true = subst (λ x. stands_in_string x ≡ true) e h in clash (stands_in_string 34) k refl

pub lacks_quote : (text : List ℕ) → list_all stands_in_string text ≡ true → Lacks 34 (encode_utf8_all text)
lacks_quote [] h = tt
lacks_quote (c ∷ cs) h =
    let each = both (stands_in_string c) (list_all stands_in_string cs) h in
    Lacks-append 34 (encode c) (encode_utf8_all cs)
    (⊎_elim (λ low. subst (Lacks 34) (sym (encode_ascii c low)) (no_quote c each.0, tt)) (lacks_high c) (cases_lt c 128))
    (lacks_quote cs each.1)
