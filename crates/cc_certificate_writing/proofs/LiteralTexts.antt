-- Literals, operators and operations are read off the front of a text.
use Rattle.std.proofs.Common.{◌≡◌, ℕ, suc, ◌+◌, ◌/◌, ◌<◌, ◌≤◌, ◌^◌, Bool, true, false, ◌==◌, ltb, List, [], ◌∷◌, ◌++◌, length, get_or, decimal, refl, sym, ap, subst, ◌∙◌, arith, append_assoc, ⊎_elim, cond, if◌then◌else◌, ℤ, pos, negsuc}
use Rattle.std.specs.Prelude.{encode_utf8_all, ◌≢◌}
use Rattle.std.specs.List.{AllByRecursion}
use Rattle.std.proofs.lemmas.Bool.{cases_lt}
use Rattle.std.proofs.lemmas.Fmt.{decimal_injective}
use Rattle.std.proofs.lemmas.List.{append_cancel_left}
use Rattle.std.proofs.lemmas.Str.{encode_ascii, encodes_same}
use Rattle.cc_base.specs.Literals.{Literal, UnitLiteral, TruthLiteral, NumberLiteral, TextLiteral}
use Rattle.cc_base.specs.declared.literal.Op.{Op}
use Rattle.cc_base.specs.declared.literal.Op.TheVariants as operations
use Rattle.cc_base.specs.declared.literal.Operator.{Operator}
use Rattle.cc_base.specs.declared.literal.Operator.TheVariants as operators
use Rattle.cc_print.proofs.Words.{EndsWord, first_same, rest_same, same_words, word_decimal}
use Rattle.cc_print.proofs.ElementTexts.{ends_differ}
use Rattle.cc_print.proofs.ShapeWords.{unlike}
use Rattle.cc_print.specs.TermTexts.{truth_text, quoted, operator_text, operation_text}
use Rattle.cc_certificate_writing.specs.CertificateTextLaws.{IsLegibleLiteral}
use Rattle.cc_certificate_writing.proofs.TermWords.{literal_word, literal_rest, number_small, begins_digit, below, not_below}
use lib.Signed.{mag}
use lib.Utf8.{encode, next}

-- the operator by its second byte
operator_of : ℕ → Operator
operator_of b =
    if b == 43 then operators.Add
    else (if b == 45 then operators.Sub
    else (if b == 42 then operators.Mul else (if b == 60 then operators.Less else operators.Equal)))

operator_of-text : (o : Operator) (r : List ℕ) → operator_of (get_or (operator_text o ++ r) 1 0) ≡ o
unfolding operator_of
operator_of-text operators.Add r = refl
operator_of-text operators.Sub r = refl
operator_of-text operators.Mul r = refl
operator_of-text operators.Less r = refl
operator_of-text operators.Equal r = refl

pub operators_same : (o p : Operator) (r s : List ℕ) → operator_text o ++ r ≡ operator_text p ++ s → (o ≡ p) × (r ≡ s)
operators_same o p r s eq =
    let same : o ≡ p = sym (operator_of-text o r) ∙ ap (λ text. operator_of (get_or text 1 0)) eq ∙ operator_of-text p s in
    (same, append_cancel_left (operator_text o) r s (eq ∙ ap (λ x. operator_text x ++ s) (sym same)))

-- the operation by its second byte
operation_of : ℕ → Op
operation_of b =
    if b == 112 then operations.Print
    else (if b == 115 then operations.Say
    else (if b == 114 then operations.Read else (if b == 119 then operations.Write else operations.Tick)))

operation_of-text : (o : Op) (r : List ℕ) → operation_of (get_or (operation_text o ++ r) 1 0) ≡ o
unfolding operation_of
operation_of-text operations.Print r = refl
operation_of-text operations.Say r = refl
operation_of-text operations.Read r = refl
operation_of-text operations.Write r = refl
operation_of-text operations.Tick r = refl

pub operations_same : (o p : Op) (r s : List ℕ) → operation_text o ++ r ≡ operation_text p ++ s → (o ≡ p) × (r ≡ s)
operations_same o p r s eq =
    let same : o ≡ p = sym (operation_of-text o r) ∙ ap (λ text. operation_of (get_or text 1 0)) eq ∙ operation_of-text p s in
    (same, append_cancel_left (operation_text o) r s (eq ∙ ap (λ x. operation_text x ++ s) (sym same)))

-- a number for each sort of literal
abbrev sort_of : Literal → ℕ
sort_of UnitLiteral = 0
sort_of (TruthLiteral truth) = 1
sort_of (NumberLiteral number) = 2
sort_of (TextLiteral text) = 3

-- by the word, and by what stands behind it
abbrev sort_by : List ℕ → List ℕ → ℕ
sort_by word rest =
    if ltb (get_or word 0 0) 48 then (if get_or rest 0 0 == 45 then 2 else 3)
    else (if ltb (get_or word 0 0) 58 then 2 else (if get_or word 0 0 == 117 then 0 else 1))

sort_by_digit : (word rest : List ℕ) → 47 < get_or word 0 0 → get_or word 0 0 < 58 → sort_by word rest ≡ 2
sort_by_digit word rest high low =
    rw (not_below (get_or word 0 0) 48 (omega arith), below (get_or word 0 0) 58 low) refl

sort_is : (l : Literal) (r : List ℕ) → IsLegibleLiteral l → sort_by (literal_word l) (literal_rest l r) ≡ sort_of l
sort_is UnitLiteral r h = refl
sort_is (TruthLiteral true) r h = refl
sort_is (TruthLiteral false) r h = refl
sort_is (NumberLiteral (pos n)) r h =
    let digit = begins_digit n (number_small n h) in sort_by_digit (decimal n) r digit.1 digit.2
sort_is (NumberLiteral (negsuc n)) r h = refl
sort_is (TextLiteral text) r h = refl

-- no byte of the text is a quote
abbrev HasNoQuote : List ℕ → Type 0
HasNoQuote bs = AllByRecursion (λ b. b ≢ 34) bs

no_quote_append : (xs ys : List ℕ) → HasNoQuote xs → HasNoQuote ys → HasNoQuote (xs ++ ys)
no_quote_append [] ys p q = q
no_quote_append (x ∷ xs) ys p q = (p.0, no_quote_append xs ys p.1 q)

no_quote_cond : (test : Bool) (xs ys : List ℕ) → HasNoQuote xs → HasNoQuote ys → HasNoQuote (cond test xs ys)
no_quote_cond true xs ys p q = p
no_quote_cond false xs ys p q = q

above : (b : ℕ) → 128 ≤ b → b ≢ 34
above b high e = omega arith

no_quote_high : (c : ℕ) → 128 ≤ c → HasNoQuote (encode c)
unfolding encode
no_quote_high c high =
    let next_byte : (b : ℕ) → next b ≢ 34 = λ b. above (next b) (omega arith) in
    no_quote_cond (ltb c 128) _ _ (above c high, tt)
    (no_quote_cond (ltb c 2048) _ _ (above (192 + c / 64) (omega arith), (next_byte c, tt))
    (no_quote_cond (ltb c 65536) _ _ (above (224 + c / 4096) (omega arith), (next_byte (c / 64), (next_byte c, tt)))
    (above (240 + c / 262144) (omega arith), (next_byte (c / 4096), (next_byte (c / 64), (next_byte c, tt))))))

no_quote_character : (c : ℕ) → c ≢ 34 → HasNoQuote (encode c)
no_quote_character c other =
    ⊎_elim (λ low. subst HasNoQuote (sym (encode_ascii c low)) (other, tt)) (no_quote_high c) (cases_lt c 128)

no_quote_text : (text : List ℕ) → AllByRecursion (λ c. c ≢ 34) text → HasNoQuote (encode_utf8_all text)
no_quote_text [] h = tt
no_quote_text (c ∷ cs) h =
    no_quote_append (encode c) (encode_utf8_all cs) (no_quote_character c h.0) (no_quote_text cs h.1)

-- texts without a quote are the same where they are up to a quote
up_to_quote : (xs ys r s : List ℕ) → HasNoQuote xs → HasNoQuote ys → xs ++ 34 ∷ r ≡ ys ++ 34 ∷ s → (xs ≡ ys) × (r ≡ s)
up_to_quote [] [] r s p q e = (refl, rest_same 34 34 r s e)
up_to_quote [] (y ∷ ys) r s p q e = absurd (q.0 (sym (first_same 34 y r (ys ++ 34 ∷ s) e)))
up_to_quote (x ∷ xs) [] r s p q e = absurd (p.0 (first_same x 34 (xs ++ 34 ∷ r) s e))
up_to_quote (x ∷ xs) (y ∷ ys) r s p q e =
    let first = first_same x y (xs ++ 34 ∷ r) (ys ++ 34 ∷ s) e in
    let rest = up_to_quote xs ys r s p.1 q.1 (rest_same x y (xs ++ 34 ∷ r) (ys ++ 34 ∷ s) e) in
    ((λ i. first i ∷ rest.0 i), rest.1)

texts_same : (t u r s : List ℕ) → AllByRecursion (λ c. c ≢ 34) t → AllByRecursion (λ c. c ≢ 34) u
    → quoted t ++ r ≡ quoted u ++ s → (t ≡ u) × (r ≡ s)
texts_same t u r s h k e =
    let parts = up_to_quote (encode_utf8_all t) (encode_utf8_all u) r s (no_quote_text t h) (no_quote_text u k)
    (sym (append_assoc (encode_utf8_all t) (34 ∷ []) r) ∙ rest_same 34 34 _ _ e
    ∙ append_assoc (encode_utf8_all u) (34 ∷ []) s) in
    (encodes_same t u parts.0, parts.1)

truths_same : (a b : Bool) → truth_text a ≡ truth_text b → a ≡ b
truths_same true true e = refl
truths_same false false e = refl
truths_same true false e = absurd (ends_differ 116 102 _ _ refl e)
truths_same false true e = absurd (ends_differ 102 116 _ _ refl e)

some_digits : (n : ℕ) → n < 2 ^ 63 → decimal n ≡ [] → ⊥
some_digits n small e =
    let digit = begins_digit n (number_small n small) in
    let none : length (decimal n) ≡ 0 = ap length e in omega (arith, digit.0, none)

same_suc : (m n : ℕ) → suc m ≡ suc n → m ≡ n
same_suc m n e = omega (arith, e)

suc_small : (n : ℕ) → n < 2 ^ 63 → suc n < 2 ^ 64
suc_small n small = omega arith

negatives_same : (m n : ℕ) (r s : List ℕ) → m < 2 ^ 63 → n < 2 ^ 63 → EndsWord r → EndsWord s
    → 45 ∷ (decimal (suc m) ++ r) ≡ 45 ∷ (decimal (suc n) ++ s) → (m ≡ n) × (r ≡ s)
negatives_same m n r s h k er es e =
    let words = same_words (decimal (suc m)) (decimal (suc n)) r s (word_decimal (suc m) (suc_small m h))
    (word_decimal (suc n) (suc_small n k)) er es (rest_same 45 45 _ _ e) in
    (same_suc m n (decimal_injective (suc m) (suc n) (suc_small m h) (suc_small n k) words.0), words.1)

integers_same : (m n : ℤ) (r s : List ℕ) → mag m < 2 ^ 63 → mag n < 2 ^ 63 → EndsWord r → EndsWord s
    → literal_word (NumberLiteral m) ≡ literal_word (NumberLiteral n)
    → literal_rest (NumberLiteral m) r ≡ literal_rest (NumberLiteral n) s → (m ≡ n) × (r ≡ s)
integers_same (pos m) (pos n) r s h k er es word rest =
    (ap pos (decimal_injective m n (number_small m h) (number_small n k) word), rest)
integers_same (negsuc m) (negsuc n) r s h k er es word rest =
    let parts = negatives_same m n r s h k er es rest in (ap negsuc parts.0, parts.1)
integers_same (pos m) (negsuc n) r s h k er es word rest = absurd (some_digits m h word)
integers_same (negsuc m) (pos n) r s h k er es word rest = absurd (some_digits n k (sym word))

sorts_same : (l m : Literal) (r s : List ℕ) → IsLegibleLiteral l → IsLegibleLiteral m
    → literal_word l ≡ literal_word m → literal_rest l r ≡ literal_rest m s → sort_of l ≡ sort_of m
sorts_same l m r s h k word rest =
    sym (sort_is l r h) ∙ (λ i. sort_by (word i) (rest i)) ∙ sort_is m s k

pub literals_same : (l m : Literal) (r s : List ℕ) → IsLegibleLiteral l → IsLegibleLiteral m → EndsWord r → EndsWord s
    → literal_word l ≡ literal_word m → literal_rest l r ≡ literal_rest m s → (l ≡ m) × (r ≡ s)
literals_same UnitLiteral UnitLiteral r s h k er es word rest = (refl, rest)
literals_same (TruthLiteral a) (TruthLiteral b) r s h k er es word rest =
    (ap TruthLiteral (truths_same a b word), rest)
literals_same (NumberLiteral m) (NumberLiteral n) r s h k er es word rest =
    let parts = integers_same m n r s h k er es word rest in (ap NumberLiteral parts.0, parts.1)
literals_same (TextLiteral t) (TextLiteral u) r s h k er es word rest =
    let parts = texts_same t u r s h k rest in (ap TextLiteral parts.0, parts.1)
literals_same UnitLiteral m r s h k er es word rest =
    absurd (unlike 0 (sort_of m) refl (sorts_same UnitLiteral m r s h k word rest))
literals_same (TruthLiteral a) m r s h k er es word rest =
    absurd (unlike 1 (sort_of m) refl (sorts_same (TruthLiteral a) m r s h k word rest))
literals_same (NumberLiteral n) m r s h k er es word rest =
    absurd (unlike 2 (sort_of m) refl (sorts_same (NumberLiteral n) m r s h k word rest))
literals_same (TextLiteral t) m r s h k er es word rest =
    absurd (unlike 3 (sort_of m) refl (sorts_same (TextLiteral t) m r s h k word rest))
