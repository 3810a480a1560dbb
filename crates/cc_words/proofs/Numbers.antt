-- Words that write numbers, names and pairs of names.
use Rattle.std.proofs.Common.{◌≡◌, ℕ, zero, suc, ◌+◌, ◌^◌, ◌<◌, ◌≤◌, ◌%◌, true, false, not, ◌||◌, ◌==◌, List, [], ◌∷◌, ◌++◌, length, map, get_or, Option, Some, None, refl, sym, ap, ◌∙◌, subst, arith, rules}
use Rattle.std.specs.Prelude.{codes, encode_utf8_all, ℤ, pos, negsuc, nat_le, nat_lt, IsTrue}
use Rattle.std.specs.Option.{option_map, option_and_then}
use Rattle.std.specs.List.{list_all, AllByRecursion}
use Rattle.std.specs.Char.{is_ascii_digit}
use Rattle.std.specs.Fmt.{decimal, signed_decimal}
use Rattle.std.specs.Prelude.{Result, Err}
use Rattle.std.specs.Str.{IsUtf8}
use Rattle.std.specs.Str.Parse.{digits_value, ParsesUnsigned}
use Rattle.std.proofs.lemmas.Str.{IsUtf8-from_ascii}
use Rattle.std.proofs.lemmas.Str.Parse.{IsNumeralModel, IsDigitsTest, numerals_by_value, parse_digits}
use Rattle.std.proofs.lemmas.Fmt.{decimal_by_steps, decimal_is_IsNumeral, decimal-digits_value, first_decimal, decimal_nonempty, decimal_digit, IsAscii-from_digits}
use Rattle.std.proofs.lemmas.Bool.Decides.{nat_tests, Decides-eqb}
use Rattle.std.proofs.lemmas.List.{append-nil, append_assoc}
use Rattle.std.proofs.lemmas.Option.{some_pair_parts}
use Rattle.std.specs.Prelude.{unwrap_or}
use Rattle.cc_words.specs.Words.{joined, pair_text, has_64_bits, IsPair, ◌>>=◌, split_at, two_of, after_prefix, name_of, begins_numeral, is_numeral, number_of, negative_of, signed_with, signed_of, all_of, pair_of}
use Rattle.cc_words.proofs.Steps.{some_from_bind, passed, both, after_prefix_gives, after_prefix-append, Lacks, Lacks-append, name_of_gives}
use Rattle.cc_words.proofs.NameBytes.{name_of-encoded, Lacks-name}
use Rattle.cc_words.proofs.Splits.{AllLack, split_at-append, split_at-whole, joined-split_at}

digits_test : IsDigitsTest (λ ds. list_all is_ascii_digit ds ≡ true)
digits_test = search rules

-- the digits of std, by the test of the code
pub digits_model : IsNumeralModel (λ ds. list_all is_ascii_digit ds ≡ true) (digits_value 10)
digits_model = numerals_by_value (λ ds. list_all is_ascii_digit ds ≡ true) digits_test

not_digit : (c d : ℕ) → c < 48 → ((48 + d) == c) ≡ false
not_digit c d low = grind (arith, nat_tests)

-- no byte below the digits stands in a number
pub Lacks-decimal : (c n : ℕ) → c < 48 → n < 2 ^ 64 → Lacks c (decimal n)
Lacks-decimal c n low small =
    decimal_by_steps (λ n ds. Lacks c ds) (λ d h. (not_digit c d low, tt)) (λ n ds h p. Lacks-append c ds _ p (not_digit c (n % 10) low, tt)) n small

pub Lacks-signed : (z : ℤ) → IsTrue (has_64_bits z) → Lacks 32 (signed_decimal z)
Lacks-signed (pos n) fits = Lacks-decimal 32 n (omega arith) (grind (arith, nat_tests))
Lacks-signed (negsuc n) fits = (refl, Lacks-decimal 32 (suc n) (omega arith) (grind (arith, nat_tests)))

begins_parts : (word : List ℕ) → begins_numeral word ≡ true → (0 < length word) × (get_or word 0 0 ≡ 48 → length word ≡ 1)
begins_parts [] h = cc
begins_parts (b ∷ bs) h = (omega arith, λ e. alone e h)
  where
    alone : b ≡ 48 → (not (b == 48) || length (b ∷ bs) == 1) ≡ true → length (b ∷ bs) ≡ 1
    alone e t = grind (arith, nat_tests)

pub numeral_parts : (word : List ℕ) → is_numeral word ≡ true → (list_all is_ascii_digit word ≡ true) × (0 < length word) × (get_or word 0 0 ≡ 48 → length word ≡ 1)
numeral_parts word h =
    let parts = both (begins_numeral word) (list_all is_ascii_digit word) h in
    let begins = begins_parts word parts.0 in
    (parts.1, begins.0, begins.1)

pub number_of_gives : (most : ℕ) (word : List ℕ) (n : ℕ) → most < 2 ^ 64 → number_of most word ≡ Some n → (n ≤ most) × (word ≡ decimal n)
unfolding number_of
number_of_gives most word n small h =
    let p = passed _ _ _ h in
    let tests = both (is_numeral word) (nat_le (digits_value 10 word) most) p.0 in
    let parts = numeral_parts word tests.0 in
    let low : digits_value 10 word ≤ most = grind (arith, nat_tests) in
    let spelled = decimal-digits_value digits_model word parts.0 parts.1 parts.2 (omega arith) in
    (subst (λ v. v ≤ most) p.1 low, sym spelled ∙ ap decimal p.1)

first_test : (b m : ℕ) → (b ≡ 48 → m ≡ 1) → (not (b == 48) || m == 1) ≡ true
first_test b m h = elim (b == 48) as (λ t. (b == 48) ≡ t → (not t || m == 1) ≡ true) [
  | true ↦ λ e. (Decides-eqb m 1).1 (h ((Decides-eqb b 48).0 e))
  | false ↦ λ e. refl
] refl

begins-holds : (word : List ℕ) → 0 < length word → (get_or word 0 0 ≡ 48 → length word ≡ 1) → begins_numeral word ≡ true
begins-holds [] some alone = absurd (omega arith)
begins-holds (b ∷ bs) some alone = first_test b (length (b ∷ bs)) alone

numeral-holds : (word : List ℕ) → list_all is_ascii_digit word ≡ true → 0 < length word → (get_or word 0 0 ≡ 48 → length word ≡ 1) → is_numeral word ≡ true
numeral-holds word digits some alone = rw (begins-holds word some alone, digits) refl

decimal-alone : (n : ℕ) → n < 2 ^ 64 → get_or (decimal n) 0 0 ≡ 48 → length (decimal n) ≡ 1
decimal-alone zero small e = ap length (decimal_digit 0 (omega arith))
decimal-alone (suc n) small e = let above = first_decimal (suc n) (omega arith) small in absurd (omega arith)

pub number_of-decimal : (most n : ℕ) → most < 2 ^ 64 → n ≤ most → number_of most (decimal n) ≡ Some n
unfolding number_of
number_of-decimal most n small low =
    let below : n < 2 ^ 64 = omega arith in
    let numeral = decimal_is_IsNumeral n below in
    let digits = digits_model.from (decimal n) numeral.0.1 in
    let test = numeral-holds (decimal n) digits (decimal_nonempty n below) (decimal-alone n below) in
    let value = numeral.1 in
    let fits : nat_le n most ≡ true = grind (arith, nat_tests) in
    rw (test, value, fits) refl

negative_gives : (o : Option ℕ) (z : ℤ) → option_and_then negative_of o ≡ Some z → (n : ℕ) × (o ≡ Some (suc n)) × (negsuc n ≡ z)
negative_gives None z h = cc
negative_gives (Some zero) z h = cc
negative_gives (Some (suc n)) z h = (n, refl, cc)

positive_gives : (o : Option ℕ) (z : ℤ) → option_map pos o ≡ Some z → (n : ℕ) × (o ≡ Some n) × (pos n ≡ z)
positive_gives None z h = cc
positive_gives (Some n) z h = (n, refl, cc)

signed_in : (word : List ℕ) (z : ℤ) (o : Option (List ℕ)) → after_prefix word (codes "-") ≡ o → signed_with word o ≡ Some z → IsTrue (has_64_bits z) × (word ≡ signed_decimal z)
signed_in word z (Some digits) e h =
    let found = negative_gives (number_of 9223372036854775808 digits) z h in
    let number = number_of_gives 9223372036854775808 digits (suc found.0) (omega arith) found.1 in
    let fits : nat_lt found.0 9223372036854775808 ≡ true = grind (arith, nat_tests) in
    subst (λ it. IsTrue (has_64_bits it) × (word ≡ signed_decimal it)) found.2
    (fits, after_prefix_gives word (codes "-") digits e ∙ ap (λ xs. 45 ∷ xs) number.1)
signed_in word z None e h =
    let found = positive_gives (number_of 9223372036854775807 word) z h in
    let number = number_of_gives 9223372036854775807 word found.0 (omega arith) found.1 in
    let fits : nat_lt found.0 9223372036854775808 ≡ true = grind (arith, nat_tests) in
    subst (λ it. IsTrue (has_64_bits it) × (word ≡ signed_decimal it)) found.2 (fits, number.1)

pub signed_of_gives : (word : List ℕ) (z : ℤ) → signed_of word ≡ Some z → IsTrue (has_64_bits z) × (word ≡ signed_decimal z)
unfolding signed_of
signed_of_gives word z h = signed_in word z (after_prefix word (codes "-")) refl h

no_minus_in : (word : List ℕ) → Lacks 45 word → (o : Option (List ℕ)) → after_prefix word (codes "-") ≡ o → o ≡ None
no_minus_in word lacks None e = refl
no_minus_in word lacks (Some digits) e =
    let bad = (subst (Lacks 45) (after_prefix_gives word (codes "-") digits e) lacks).0 in cc

pub signed_of-decimal : (z : ℤ) → IsTrue (has_64_bits z) → signed_of (signed_decimal z) ≡ Some z
unfolding signed_of
signed_of-decimal (pos n) fits =
    let low : n ≤ 9223372036854775807 = grind (arith, nat_tests) in
    ap (signed_with (decimal n)) (no_minus_in (decimal n) (Lacks-decimal 45 n (omega arith) (omega arith)) (after_prefix (decimal n) (codes "-")) refl)
    ∙ ap (option_map pos) (number_of-decimal 9223372036854775807 n (omega arith) low)
signed_of-decimal (negsuc n) fits =
    let low : suc n ≤ 9223372036854775808 = grind (arith, nat_tests) in
    ap (signed_with (45 ∷ decimal (suc n))) (after_prefix-append (codes "-") (decimal (suc n)))
    ∙ ap (option_and_then negative_of) (number_of-decimal 9223372036854775808 (suc n) (omega arith) low)

-- a numeral is UTF-8
pub numeral-utf8 : (word : List ℕ) → is_numeral word ≡ true → IsUtf8 word
numeral-utf8 word h = IsUtf8-from_ascii word (IsAscii-from_digits word (digits_model.to word (numeral_parts word h).0))

-- a numeral that std refuses is too great
pub number_of-refused : {E : Type 0} (most : ℕ) (word text : List ℕ) (r : Result ℕ E) (e : E) → most < 2 ^ 64 → is_numeral word ≡ true → text ≡ word → ParsesUnsigned 64 10 text r → r ≡ Err e → None ≡ number_of most word
unfolding number_of
number_of-refused {E} most word text r e small h same parses is =
    let parts = numeral_parts word h in
    let there = subst (λ it. ParsesUnsigned 64 10 word it) is (subst (λ it. ParsesUnsigned 64 10 it r) same parses) in
    let refused = parse_digits digits_model 64 word (Err e) there parts.0 in
    let high = too_great (digits_value 10 word) (λ low. refused (parts.1, low)) in
    rw (h, high) refl
  where
    too_great : (v : ℕ) → (v < 2 ^ 64 → ⊥) → nat_le v most ≡ false
    too_great v high = grind (arith, nat_tests)

-- the words of a list, where each is read as what it writes
module _ {A : Type 0} (read : List ℕ → Option A) (P : A → Type 0) (text : A → List ℕ) where
  all_cons : (sound : (word : List ℕ) (x : A) → read word ≡ Some x → P x × (word ≡ text x)) (word : List ℕ) (words : List (List ℕ)) (xs : List A) (first : Option A) (more : Option (List A))
      → read word ≡ first → ((ys : List A) → more ≡ Some ys → AllByRecursion P ys × (words ≡ map text ys))
      → option_and_then (λ x. option_map (λ ys. x ∷ ys) more) first ≡ Some xs → AllByRecursion P xs × (word ∷ words ≡ map text xs)
  all_cons sound word words xs None more r deeper h = cc
  all_cons sound word words xs (Some x) None r deeper h = cc
  all_cons sound word words xs (Some x) (Some ys) r deeper h =
      let one = sound word x r in
      let rest = deeper ys refl in
      subst (λ it. AllByRecursion P it × (word ∷ words ≡ map text it)) (unwrap h)
      ((one.0, rest.0), ap (λ w. w ∷ words) one.1 ∙ ap (λ ws. text x ∷ ws) rest.1)
    where
      unwrap : Some (x ∷ ys) ≡ Some xs → x ∷ ys ≡ xs
      unwrap e = cc

  pub all_of_gives : (sound : (word : List ℕ) (x : A) → read word ≡ Some x → P x × (word ≡ text x)) (words : List (List ℕ)) (xs : List A)
      → all_of read words ≡ Some xs → AllByRecursion P xs × (words ≡ map text xs)
  all_of_gives sound [] xs h = subst (λ it. AllByRecursion P it × ([] ≡ map text it)) (unwrap h) (tt, refl)
    where
      unwrap : ◌≡◌ {A = Option (List A)} (Some []) (Some xs) → [] ≡ xs
      unwrap e = cc
  all_of_gives sound (word ∷ words) xs h =
      all_cons sound word words xs (read word) (all_of read words) refl (λ ys e. all_of_gives sound words ys e) h

  pub all_of-map : (complete : (x : A) → P x → read (text x) ≡ Some x) (xs : List A) → AllByRecursion P xs → all_of read (map text xs) ≡ Some xs
  all_of-map complete [] h = refl
  all_of-map complete (x ∷ xs) h = rw (complete x h.0, all_of-map complete xs h.1) refl

  pub AllLack-map : (c : ℕ) (lacks : (x : A) → P x → Lacks c (text x)) (xs : List A) → AllByRecursion P xs → AllLack c (map text xs)
  AllLack-map c lacks [] h = tt
  AllLack-map c lacks (x ∷ xs) h = (lacks x h.0, AllLack-map c lacks xs h.1)

-- one turn of reading the words
abbrev pub before_all : {A : Type 0} → List A → Option (List A) → Option (List A)
before_all front more = option_map (λ xs. front ++ xs) more

pub Lacks-pair : (pair : List ℕ × List ℕ) → IsPair pair → Lacks 32 (pair_text pair)
Lacks-pair pair is =
    Lacks-append 32 (encode_utf8_all pair.0 ++ codes ".") (encode_utf8_all pair.1)
    (Lacks-append 32 (encode_utf8_all pair.0) (codes ".") (Lacks-name 32 pair.0 refl is.0) (refl, tt))
    (Lacks-name 32 pair.1 refl is.1)

pub two_of_gives : (words : List (List ℕ)) (a b : List ℕ) → two_of words ≡ Some (a, b) → words ≡ a ∷ b ∷ []
two_of_gives [] a b h = cc
two_of_gives (x ∷ []) a b h = cc
two_of_gives (x ∷ y ∷ []) a b h = let parts = some_pair x y a b h in ap (λ z. z ∷ y ∷ []) parts.0 ∙ ap (λ z. a ∷ z ∷ []) parts.1
  where
    some_pair : (x y a b : List ℕ) → ◌≡◌ {A = Option (List ℕ × List ℕ)} (Some (x, y)) (Some (a, b)) → (x ≡ a) × (y ≡ b)
    some_pair x y a b e = some_pair_parts x a y b e
two_of_gives (x ∷ y ∷ z ∷ words) a b h = cc

pub pair_of_gives : (word : List ℕ) (pair : List ℕ × List ℕ) → pair_of word ≡ Some pair → IsPair pair × (word ≡ pair_text pair)
unfolding pair_of
pair_of_gives word pair h =
    let two = some_from_bind (two_of (split_at 46 word)) (λ two. name_of two.0 >>= λ first. name_of two.1 >>= λ second. Some (first, second)) pair h in
    let first = some_from_bind (name_of two.0.0) (λ first. name_of two.0.1 >>= λ second. Some (first, second)) pair two.2 in
    let second = some_from_bind (name_of two.0.1) (λ second. Some (first.0, second)) pair first.2 in
    finish two.0.0 two.0.1 first.0 second.0 two.1 first.1 second.1 second.2
  where
    finish : (a b m n : List ℕ) → two_of (split_at 46 word) ≡ Some (a, b) → name_of a ≡ Some m → name_of b ≡ Some n → ◌≡◌ {A = Option (List ℕ × List ℕ)} (Some (m, n)) (Some pair) → IsPair pair × (word ≡ pair_text pair)
    finish a b m n p q r e =
        let words = two_of_gives (split_at 46 word) a b p in
        let first = name_of_gives a m q in
        let second = name_of_gives b n r in
        let spelled = sym (joined-split_at 46 word) ∙ (ap (joined 46) words ∙ join_two a b) in
        subst (λ it. IsPair it × (word ≡ pair_text it)) (unwrap e)
        ((first.0, second.0), spelled ∙ (ap (λ xs. xs ++ codes "." ++ b) first.1 ∙ ap (λ xs. encode_utf8_all m ++ codes "." ++ xs) second.1))
      where
        unwrap : ◌≡◌ {A = Option (List ℕ × List ℕ)} (Some (m, n)) (Some pair) → (m, n) ≡ pair
        unwrap e = ap (λ o. unwrap_or o (m, n)) e

        join_two : (a b : List ℕ) → joined 46 (a ∷ b ∷ []) ≡ a ++ codes "." ++ b
        join_two a b = ap (λ xs. a ++ 46 ∷ xs) (append-nil b) ∙ sym (append_assoc a (codes ".") b)

pub pair_of-text : (pair : List ℕ × List ℕ) → IsPair pair → pair_of (pair_text pair) ≡ Some pair
unfolding pair_of
pair_of-text pair is =
    let words : split_at 46 (pair_text pair) ≡ encode_utf8_all pair.0 ∷ encode_utf8_all pair.1 ∷ [] =
    ap (split_at 46) (append_assoc (encode_utf8_all pair.0) (codes ".") (encode_utf8_all pair.1))
    ∙ (split_at-append 46 (encode_utf8_all pair.0) (encode_utf8_all pair.1) (Lacks-name 46 pair.0 refl is.0)
    ∙ ap (λ ws. encode_utf8_all pair.0 ∷ ws) (split_at-whole 46 (encode_utf8_all pair.1) (Lacks-name 46 pair.1 refl is.1))) in
    rw (words, name_of-encoded pair.0 is.0, name_of-encoded pair.1 is.1) refl
