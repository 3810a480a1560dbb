-- Words of a text: runs of letters, digits and low lines, and of the bytes of characters beyond ASCII.
use Rattle.std.proofs.Common.{◌≡◌, ℕ, ◌+◌, ◌/◌, ◌%◌, ◌^◌, ◌<◌, ◌≤◌, Bool, true, false, not, ◌&&◌, ◌||◌, ◌==◌, cond, ltb, List, [], ◌∷◌, ◌++◌, get_or, drop, decimal, refl, sym, ap, subst, ◌∙◌, arith, ⊎_elim, bytes_eq}
use Rattle.std.specs.Prelude.{encode_utf8_all}
use Rattle.std.specs.List.{list_all, list_any, AllByRecursion}
use Rattle.std.specs.Char.{is_ascii_alphanumeric}
use Rattle.std.proofs.lemmas.Bool.{cases_lt, true≢false}
use Rattle.std.proofs.lemmas.Bool.Decides.{nat_tests}
use Rattle.std.proofs.lemmas.Fmt.{decimal_by_steps}
use Rattle.std.proofs.lemmas.Slice.Eq.{bytes_eq-Decides}
use Rattle.std.proofs.lemmas.Str.{encode_ascii}
use Rattle.unicode_ident.specs.Ident.{is_xid_start, is_xid_continue}
use Rattle.unicode_ident.proofs.IdentLemmas.{is_xid_start-ascii, is_xid_continue-ascii}
use Rattle.cc_base.specs.Names.{IsName, first_passes, is_reserved, reserved_words}
use Rattle.cc_base.specs.NameTexts.{bytes_eq-encodes}
use lib.Utf8.{encode, next}

-- a byte that stands in words
abbrev pub is_word_byte : ℕ → Bool
is_word_byte b = not (ltb b 128) || (is_ascii_alphanumeric b || (b == 95))

abbrev pub IsWord : List ℕ → Type 0
IsWord word = AllByRecursion (λ b. is_word_byte b ≡ true) word

-- no word goes on at the front of the text
abbrev pub EndsWord : List ℕ → Type 0
EndsWord [] = Unit {0}
EndsWord (b ∷ bs) = is_word_byte b ≡ false

-- the text begins with such a byte
abbrev pub Begins : (ℕ → Type 0) → List ℕ → Type 0
Begins P [] = ⊥
Begins P (b ∷ bs) = P b

pub both : (a b : Bool) → (a && b) ≡ true → (a ≡ true) × (b ≡ true)
both true true h = (refl, refl)
both true false h = absurd (true≢false (sym h))
both false b h = absurd (true≢false (sym h))

pub clash : (b : Bool) → b ≡ true → b ≡ false → ⊥
clash b h k = true≢false (sym h ∙ k)

pub first_same : (b c : ℕ) (bs cs : List ℕ) → b ∷ bs ≡ c ∷ cs → b ≡ c
first_same b c bs cs e = ap (λ l. get_or l 0 0) e

pub rest_same : (b c : ℕ) (bs cs : List ℕ) → b ∷ bs ≡ c ∷ cs → bs ≡ cs
rest_same b c bs cs e = ap (drop 1) e

-- Words before texts in which no word goes on are one where the whole texts are.
pub same_words : (u v r s : List ℕ) → IsWord u → IsWord v → EndsWord r → EndsWord s → u ++ r ≡ v ++ s
    → (u ≡ v) × (r ≡ s)
same_words [] [] r s p q er es e = (refl, e)
same_words [] (c ∷ v) r s p q er es e = absurd (clash (is_word_byte c) q.0 (subst EndsWord e er))
same_words (b ∷ u) [] r s p q er es e = absurd (clash (is_word_byte b) p.0 (subst EndsWord (sym e) es))
same_words (b ∷ u) (c ∷ v) r s p q er es e =
    let first = first_same b c (u ++ r) (v ++ s) e in
    let rest = same_words u v r s p.1 q.1 er es (rest_same b c (u ++ r) (v ++ s) e) in
    ((λ i. first i ∷ rest.0 i), rest.1)

pub word_append : (u v : List ℕ) → IsWord u → IsWord v → IsWord (u ++ v)
word_append [] v p q = q
word_append (b ∷ u) v p q = (p.0, word_append u v p.1 q)

-- a byte of a character beyond ASCII
high_byte : (b : ℕ) → 128 ≤ b → is_word_byte b ≡ true
high_byte b high = grind (arith, nat_tests)

word_cond : (test : Bool) (xs ys : List ℕ) → IsWord xs → IsWord ys → IsWord (cond test xs ys)
word_cond true xs ys p q = p
word_cond false xs ys p q = q

high_character : (c : ℕ) → 128 ≤ c → IsWord (encode c)
unfolding encode
high_character c high =
    let next_byte : (b : ℕ) → is_word_byte (next b) ≡ true = λ b. high_byte (next b) (omega arith) in
    word_cond (ltb c 128) _ _ (high_byte c high, tt)
    (word_cond (ltb c 2048) _ _ (high_byte (192 + c / 64) (omega arith), (next_byte c, tt))
    (word_cond (ltb c 65536) _ _ (high_byte (224 + c / 4096) (omega arith), (next_byte (c / 64), (next_byte c, tt)))
    (high_byte (240 + c / 262144) (omega arith), (next_byte (c / 4096), (next_byte (c / 64), (next_byte c, tt))))))

or_with : (a b : Bool) → b ≡ true → (a || b) ≡ true
or_with true b h = refl
or_with false b h = h

low_character : (c : ℕ) → c < 128 → is_xid_continue c ≡ true → is_word_byte c ≡ true
low_character c low continues =
    or_with (not (ltb c 128)) (is_ascii_alphanumeric c || (c == 95)) (sym (is_xid_continue-ascii c low) ∙ continues)

word_character : (c : ℕ) → is_xid_continue c ≡ true → IsWord (encode c)
word_character c continues =
    ⊎_elim (λ low. subst IsWord (sym (encode_ascii c low)) (low_character c low continues, tt)) (high_character c) (cases_lt c 128)

word_characters : (cs : List ℕ) → list_all is_xid_continue cs ≡ true → IsWord (encode_utf8_all cs)
word_characters [] h = tt
word_characters (c ∷ cs) h =
    let each = both (is_xid_continue c) (list_all is_xid_continue cs) h in
    word_append (encode c) (encode_utf8_all cs) (word_character c each.0) (word_characters cs each.1)

-- the text of a name is a word
pub word_name : (name : List ℕ) → IsName name → IsWord (encode_utf8_all name)
word_name name named = word_characters name (both _ _ (both _ _ named).0).1

digit_byte : (d : ℕ) → d < 10 → is_word_byte (48 + d) ≡ true
digit_byte d low = grind (arith, nat_tests)

-- so is that of a number
pub word_decimal : (n : ℕ) → n < 2 ^ 64 → IsWord (decimal n)
word_decimal n small =
    decimal_by_steps (λ n ds. IsWord ds) (λ d h. (digit_byte d h, tt))
    (λ n ds h p. word_append ds _ p (digit_byte (n % 10) (omega arith), tt)) n small

pub begins_append : (P : ℕ → Type 0) (u v : List ℕ) → Begins P u → Begins P (u ++ v)
begins_append P (b ∷ u) v p = p
begins_append P [] v p = absurd p

pub begins_cond : (P : ℕ → Type 0) (test : Bool) (xs ys : List ℕ) → Begins P xs → Begins P ys → Begins P (cond test xs ys)
begins_cond P true xs ys p q = p
begins_cond P false xs ys p q = q

IsNoLowLine : ℕ → Type 0
IsNoLowLine b = b ≡ 95 → ⊥

high_begins : (c : ℕ) → 128 ≤ c → Begins IsNoLowLine (encode c)
unfolding encode IsNoLowLine
high_begins c high =
    begins_cond IsNoLowLine (ltb c 128) _ _ (λ e. omega arith)
    (begins_cond IsNoLowLine (ltb c 2048) _ _ (λ e. omega arith)
    (begins_cond IsNoLowLine (ltb c 65536) _ _ (λ e. omega arith) (λ e. omega arith)))

low_line_no_start : is_xid_start 95 ≡ true → ⊥
low_line_no_start h = clash (is_xid_start 95) h (is_xid_start-ascii 95 (omega arith))

character_begins : (c : ℕ) → is_xid_start c ≡ true → Begins IsNoLowLine (encode c)
unfolding IsNoLowLine
character_begins c starts =
    ⊎_elim (λ low. subst (Begins IsNoLowLine) (sym (encode_ascii c low)) (λ e. low_line_no_start (subst (λ x. is_xid_start x ≡ true) e starts)))
    (high_begins c) (cases_lt c 128)

pub starts_of : (name : List ℕ) → IsName name → first_passes is_xid_start name ≡ true
starts_of name named =
    (both (first_passes is_xid_start name) (list_all is_xid_continue name) (both (first_passes is_xid_start name && list_all is_xid_continue name) (not (is_reserved name)) named).0).0

name_begins : (name : List ℕ) → IsName name → Begins IsNoLowLine (encode_utf8_all name)
name_begins [] named = absurd (true≢false (sym (starts_of [] named)))
name_begins (c ∷ cs) named =
    begins_append IsNoLowLine (encode c) (encode_utf8_all cs) (character_begins c (starts_of (c ∷ cs) named))

-- no name begins with a low line
pub name_no_low_line : (name rest : List ℕ) → IsName name → encode_utf8_all name ≡ 95 ∷ rest → ⊥
unfolding IsNoLowLine
name_no_low_line name rest named e = subst (Begins IsNoLowLine) e (name_begins name named) refl

-- none is empty
pub name_some : (name : List ℕ) → IsName name → encode_utf8_all name ≡ [] → ⊥
name_some name named e = subst (Begins IsNoLowLine) e (name_begins name named)

any_encoded : (words : List (List ℕ)) (cs : List ℕ)
    → list_all (λ word. bytes_eq (encode_utf8_all word) word) words ≡ true
    → list_any (λ word. bytes_eq word (encode_utf8_all cs)) words ≡ list_any (λ word. bytes_eq word cs) words
any_encoded [] cs h = refl
any_encoded (word ∷ words) cs h =
    let each = both (bytes_eq (encode_utf8_all word) word) (list_all (λ word. bytes_eq (encode_utf8_all word) word) words) h in
    let same = (bytes_eq-Decides (encode_utf8_all word) word).0 each.0 in
    let first = ap (λ w. bytes_eq w (encode_utf8_all cs)) (sym same) ∙ bytes_eq-encodes word cs in
    let rest = any_encoded words cs each.1 in
    λ i. first i || rest i

not_true : (b : Bool) → not b ≡ true → b ≡ false
not_true true h = absurd (true≢false (sym h))
not_true false h = refl

reserved_ascii : list_all (λ word. bytes_eq (encode_utf8_all word) word) reserved_words ≡ true
unfolding encode reserved_words
reserved_ascii = refl

-- the text of a name is no reserved word
pub name_not_reserved : (name : List ℕ) → IsName name → is_reserved (encode_utf8_all name) ≡ false
unfolding is_reserved
name_not_reserved name named = any_encoded reserved_words name reserved_ascii ∙ not_true _ (both _ _ named).1

-- nor is what begins with a low line
pub low_line_not_reserved : (rest : List ℕ) → is_reserved (95 ∷ rest) ≡ false
unfolding is_reserved reserved_words
low_line_not_reserved rest = refl

pub word_from_test : (word : List ℕ) → list_all is_word_byte word ≡ true → IsWord word
word_from_test [] h = tt
word_from_test (b ∷ bs) h = let each = both (is_word_byte b) (list_all is_word_byte bs) h in (each.0, word_from_test bs each.1)
