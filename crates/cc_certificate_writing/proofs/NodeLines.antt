-- The line of a node tells its number, its rule, its premises and its claim.
use Rattle.std.proofs.Common.{◌≡◌, ℕ, ◌<◌, ◌^◌, List, [], ◌∷◌, ◌++◌, length, get_or, decimal, refl, sym, ap, subst, ◌∙◌, arith, append_assoc, codes}
use Rattle.std.specs.List.{AllByRecursion}
use Rattle.std.proofs.lemmas.Fmt.{decimal_injective}
use Rattle.cc_core.specs.Derivations.{Rule, ByElement, ByVariable, BySet, ByReflexivity, ByTransitivity, ByTypeVariable, ByTop, ByFunction, ByTypeFunction, ByBox, ByCapturing, t-var, t-lit, t-abs, t-tabs, t-app, t-tapp, t-box, t-unbox, t-let, t-prim, t-if, t-repeat, t-op, t-boundary, t-exit, t-sub, Claim, SetBelow, ShapeBelow, TypeBelow, OfType}
use Rattle.cc_print.proofs.Words.{EndsWord, first_same, rest_same, same_words, word_decimal}
use Rattle.cc_print.proofs.ElementTexts.{ends_differ}
use Rattle.cc_certificate_text.specs.LineReading.{rule_at}
use Rattle.cc_certificate_text.specs.NodeTexts.{rule_text, claim_text, other_numbers, numbers_text}
use Rattle.cc_certificate_text.proofs.NodeReading.{rule_at-text}
use Rattle.cc_certificate_text.proofs.Readers.{got_parts}
use Rattle.cc_certificate_writing.specs.CertificateTextLaws.{IsClaimOf, AreOfOneKind, LinesTellTheirNodes}
use Rattle.cc_certificate_writing.proofs.ClaimTextLaws.{different_claims}
use Rattle.cc_certificate_writing.proofs.TermWords.{begins_digit}

rules_same : (rule rule' : Rule) (r s : List ℕ) → rule_text rule ++ 32 ∷ r ≡ rule_text rule' ++ 32 ∷ s
    → (rule ≡ rule') × (r ≡ s)
rules_same rule rule' r s e =
    got_parts rule rule' r s (sym (rule_at-text rule r) ∙ ap rule_at e ∙ rule_at-text rule' s)

-- a number before what is no digit
after_number : (m n : ℕ) (r s : List ℕ) → m < 2 ^ 64 → n < 2 ^ 64 → EndsWord r → EndsWord s
    → decimal m ++ r ≡ decimal n ++ s → (m ≡ n) × (r ≡ s)
after_number m n r s h k er es e =
    let words = same_words (decimal m) (decimal n) r s (word_decimal m h) (word_decimal n k) er es e in
    (decimal_injective m n h k words.0, words.1)

-- what stands behind a number in a list
others_end : (others : List ℕ) (r : List ℕ) → EndsWord (other_numbers others ++ 93 ∷ r)
others_end [] r = refl
others_end (n ∷ others) r = refl

one_more : (d o r : List ℕ) → ((codes " " ++ d) ++ o) ++ r ≡ 32 ∷ (d ++ (o ++ r))
one_more d o r = simp append_assoc

others_same : (ms ns r s : List ℕ) → AllByRecursion (λ n. n < 2 ^ 64) ms → AllByRecursion (λ n. n < 2 ^ 64) ns
    → other_numbers ms ++ 93 ∷ r ≡ other_numbers ns ++ 93 ∷ s → (ms ≡ ns) × (r ≡ s)
others_same [] [] r s h k e = (refl, rest_same 93 93 r s e)
others_same [] (n ∷ ns) r s h k e = absurd (ends_differ 93 32 _ _ refl e)
others_same (m ∷ ms) [] r s h k e = absurd (ends_differ 32 93 _ _ refl e)
others_same (m ∷ ms) (n ∷ ns) r s h k e =
    let inner = rest_same 32 32 _ _
    (sym (one_more (decimal m) (other_numbers ms) (93 ∷ r)) ∙ e ∙ one_more (decimal n) (other_numbers ns) (93 ∷ s)) in
    let first = after_number m n (other_numbers ms ++ 93 ∷ r) (other_numbers ns ++ 93 ∷ s) h.0 k.0 (others_end ms r)
    (others_end ns s) inner in
    let rest = others_same ms ns r s h.1 k.1 first.1 in
    ((λ i. first.0 i ∷ rest.0 i), rest.1)

-- a closing bracket is no digit
bracket_no_digit : (bs r s : List ℕ) → 0 < length bs → get_or bs 0 0 < 58 → 93 ∷ r ≡ bs ++ s → ⊥
bracket_no_digit [] r s some low e = omega (arith, some)
bracket_no_digit (b ∷ bs) r s some low e = let first = first_same 93 b r (bs ++ s) e in omega (arith, first, low)

numbers_or_none : (n : ℕ) (ns r s : List ℕ) → n < 2 ^ 64 → 93 ∷ r ≡ numbers_text (n ∷ ns) ++ 93 ∷ s → ⊥
numbers_or_none n ns r s small e =
    let digit = begins_digit n small in
    bracket_no_digit (decimal n) r (other_numbers ns ++ 93 ∷ s) digit.0 digit.2
    (e ∙ append_assoc (decimal n) (other_numbers ns) (93 ∷ s))

numbers_same : (ms ns r s : List ℕ) → AllByRecursion (λ n. n < 2 ^ 64) ms → AllByRecursion (λ n. n < 2 ^ 64) ns
    → numbers_text ms ++ 93 ∷ r ≡ numbers_text ns ++ 93 ∷ s → (ms ≡ ns) × (r ≡ s)
numbers_same [] [] r s h k e = (refl, rest_same 93 93 r s e)
numbers_same [] (n ∷ ns) r s h k e = absurd (numbers_or_none n ns r s k.0 e)
numbers_same (m ∷ ms) [] r s h k e = absurd (numbers_or_none m ms s r h.0 (sym e))
numbers_same (m ∷ ms) (n ∷ ns) r s h k e =
    let inner = sym (append_assoc (decimal m) (other_numbers ms) (93 ∷ r)) ∙ e
    ∙ append_assoc (decimal n) (other_numbers ns) (93 ∷ s) in
    let first = after_number m n (other_numbers ms ++ 93 ∷ r) (other_numbers ns ++ 93 ∷ s) h.0 k.0 (others_end ms r)
    (others_end ns s) inner in
    let rest = others_same ms ns r s h.1 k.1 first.1 in
    ((λ i. first.0 i ∷ rest.0 i), rest.1)

-- the pieces of a line
pieces : (a b c d e f g : List ℕ) → a ++ b ++ c ++ d ++ e ++ f ++ g ≡ a ++ (b ++ (c ++ (d ++ (e ++ (f ++ g)))))
pieces a b c d e f g = simp append_assoc

one_kind : (rule : Rule) (claim claim' : Claim) → IsClaimOf rule claim → IsClaimOf rule claim' → AreOfOneKind claim claim'
one_kind ByElement (SetBelow a b) (SetBelow c d) h k = tt
one_kind ByVariable (SetBelow a b) (SetBelow c d) h k = tt
one_kind BySet (SetBelow a b) (SetBelow c d) h k = tt
one_kind ByReflexivity (ShapeBelow a b) (ShapeBelow c d) h k = tt
one_kind ByTransitivity (ShapeBelow a b) (ShapeBelow c d) h k = tt
one_kind ByTypeVariable (ShapeBelow a b) (ShapeBelow c d) h k = tt
one_kind ByTop (ShapeBelow a b) (ShapeBelow c d) h k = tt
one_kind ByFunction (ShapeBelow a b) (ShapeBelow c d) h k = tt
one_kind ByTypeFunction (ShapeBelow a b) (ShapeBelow c d) h k = tt
one_kind ByBox (ShapeBelow a b) (ShapeBelow c d) h k = tt
one_kind ByCapturing (TypeBelow a b) (TypeBelow c d) h k = tt
one_kind t-var (OfType a) (OfType c) h k = tt
one_kind t-lit (OfType a) (OfType c) h k = tt
one_kind t-abs (OfType a) (OfType c) h k = tt
one_kind t-tabs (OfType a) (OfType c) h k = tt
one_kind t-app (OfType a) (OfType c) h k = tt
one_kind t-tapp (OfType a) (OfType c) h k = tt
one_kind t-box (OfType a) (OfType c) h k = tt
one_kind t-unbox (OfType a) (OfType c) h k = tt
one_kind t-let (OfType a) (OfType c) h k = tt
one_kind t-prim (OfType a) (OfType c) h k = tt
one_kind t-if (OfType a) (OfType c) h k = tt
one_kind t-repeat (OfType a) (OfType c) h k = tt
one_kind t-op (OfType a) (OfType c) h k = tt
one_kind t-boundary (OfType a) (OfType c) h k = tt
one_kind t-exit (OfType a) (OfType c) h k = tt
one_kind t-sub (OfType a) (OfType c) h k = tt
one_kind ByElement (SetBelow a b) claim' h k = absurd k
one_kind ByVariable (SetBelow a b) claim' h k = absurd k
one_kind BySet (SetBelow a b) claim' h k = absurd k
one_kind ByReflexivity (ShapeBelow a b) claim' h k = absurd k
one_kind ByTransitivity (ShapeBelow a b) claim' h k = absurd k
one_kind ByTypeVariable (ShapeBelow a b) claim' h k = absurd k
one_kind ByTop (ShapeBelow a b) claim' h k = absurd k
one_kind ByFunction (ShapeBelow a b) claim' h k = absurd k
one_kind ByTypeFunction (ShapeBelow a b) claim' h k = absurd k
one_kind ByBox (ShapeBelow a b) claim' h k = absurd k
one_kind ByCapturing (TypeBelow a b) claim' h k = absurd k
one_kind t-var (OfType a) claim' h k = absurd k
one_kind t-lit (OfType a) claim' h k = absurd k
one_kind t-abs (OfType a) claim' h k = absurd k
one_kind t-tabs (OfType a) claim' h k = absurd k
one_kind t-app (OfType a) claim' h k = absurd k
one_kind t-tapp (OfType a) claim' h k = absurd k
one_kind t-box (OfType a) claim' h k = absurd k
one_kind t-unbox (OfType a) claim' h k = absurd k
one_kind t-let (OfType a) claim' h k = absurd k
one_kind t-prim (OfType a) claim' h k = absurd k
one_kind t-if (OfType a) claim' h k = absurd k
one_kind t-repeat (OfType a) claim' h k = absurd k
one_kind t-op (OfType a) claim' h k = absurd k
one_kind t-boundary (OfType a) claim' h k = absurd k
one_kind t-exit (OfType a) claim' h k = absurd k
one_kind t-sub (OfType a) claim' h k = absurd k
one_kind rule claim claim' h k = absurd h

pub lines_tell : LinesTellTheirNodes
lines_tell names locals number number' rule rule' premises premises' claim claim' all apart h h' p p' o o' c c' e =
    let line = sym (pieces (decimal number) (codes " ") (rule_text rule) (codes " [") (numbers_text premises) (codes "] ")
    (claim_text names locals claim)) ∙ e
    ∙ pieces (decimal number') (codes " ") (rule_text rule') (codes " [") (numbers_text premises') (codes "] ")
    (claim_text names locals claim') in
    let numbers = after_number number number'
    (codes " " ++ (rule_text rule ++ (codes " [" ++ (numbers_text premises ++ (codes "] " ++ claim_text names locals claim)))))
    (codes " " ++ (rule_text rule' ++ (codes " [" ++ (numbers_text premises' ++ (codes "] " ++ claim_text names locals claim')))))
    h h' refl refl line in
    let rules = rules_same rule rule' (codes "[" ++ (numbers_text premises ++ (codes "] " ++ claim_text names locals claim)))
    (codes "[" ++ (numbers_text premises' ++ (codes "] " ++ claim_text names locals claim'))) (rest_same 32 32 _ _ numbers.1) in
    let lists = numbers_same premises premises' (codes " " ++ claim_text names locals claim)
    (codes " " ++ claim_text names locals claim') p p' (rest_same 91 91 _ _ rules.1) in
    let kind = one_kind rule claim claim' c (subst (λ r. IsClaimOf r claim') (sym rules.0) c') in
    (numbers.0, rules.0, lists.0, different_claims names locals claim claim' all apart o o' kind (rest_same 32 32 _ _ lists.1))
