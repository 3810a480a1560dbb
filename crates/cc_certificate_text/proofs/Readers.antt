-- What each step of a reader gives, and what is read where a text stands.
use Rattle.std.proofs.Common.{◌≡◌, ℕ, ◌^◌, ◌<◌, ◌≤◌, Bool, true, false, ◌==◌, List, [], ◌∷◌, ◌++◌, Option, Some, None, decimal, refl, sym, ap, subst, ◌∙◌, arith}
use Rattle.std.proofs.lemmas.Bool.{true≢false}
use Rattle.std.proofs.lemmas.Bool.Decides.{Decides-eqb}
use Rattle.cc_words.specs.Words.{after_prefix, number_of}
use Rattle.cc_words.proofs.Steps.{after_prefix_gives, after_prefix-append}
use Rattle.cc_words.proofs.Numbers.{number_of_gives, number_of-decimal}
use Rattle.cc_print.proofs.Words.{IsWord, EndsWord, word_decimal}
use Rattle.cc_certificate_text.specs.Reading.{Found, Got, Wrong, Reader, ◌>>=◌, found_of, where_true, begun, is_word_byte, word_at, exact_at, number_at, same_number_at}

pub got_from_bind : {A B : Type 0} (f : Found A) (next : A → List ℕ → Found B) (y : B) (s : List ℕ) → (f >>= next) ≡ Got y s
    → (x : A) × (r : List ℕ) × (f ≡ Got x r) × (next x r ≡ Got y s)
got_from_bind (Got x r) next y s h = (x, r, refl, h)
got_from_bind Wrong next y s h = cc

pub got_from_option : {A : Type 0} (o : Option A) (rest : List ℕ) (y : A) (s : List ℕ) → found_of o rest ≡ Got y s
    → (o ≡ Some y) × (rest ≡ s)
got_from_option (Some x) rest y s h = (cc, cc)
got_from_option None rest y s h = cc

pub got_from_test : {A : Type 0} (b : Bool) (f : Found A) (y : A) (s : List ℕ) → where_true b f ≡ Got y s
    → (b ≡ true) × (f ≡ Got y s)
got_from_test true f y s h = (refl, h)
got_from_test false f y s h = cc

pub got_parts : {A : Type 0} (x y : A) (r s : List ℕ) → Got x r ≡ Got y s → (x ≡ y) × (r ≡ s)
got_parts x y r s h = (cc, cc)

module _ {A : Type 0} (bytes text : List ℕ) (inside : Reader A) (otherwise : Found A) (x : A) (s : List ℕ) (P : Type 0)
    (yes : (rest : List ℕ) → bytes ≡ text ++ rest → inside rest ≡ Got x s → P) (no : otherwise ≡ Got x s → P) where
  begun_in : (o : Option (List ℕ)) → after_prefix bytes text ≡ o → begun o inside otherwise ≡ Got x s → P
  unfolding begun
  begun_in (Some rest) e h = yes rest (after_prefix_gives bytes text rest e) h
  begun_in None e h = no h

  -- either the bytes begin with the text and the value is read behind it, or it is read otherwise
  pub begun_gives : begun (after_prefix bytes text) inside otherwise ≡ Got x s → P
  begun_gives h = begun_in (after_prefix bytes text) refl h

pub begun-text : {A : Type 0} (text rest : List ℕ) (inside : Reader A) (otherwise : Found A)
    → begun (after_prefix (text ++ rest) text) inside otherwise ≡ inside rest
unfolding begun
begun-text text rest inside otherwise = ap (λ o. begun o inside otherwise) (after_prefix-append text rest)

pub begun-none : {A : Type 0} (o : Option (List ℕ)) (inside : Reader A) (otherwise : Found A) → o ≡ None
    → begun o inside otherwise ≡ otherwise
unfolding begun
begun-none o inside otherwise e = ap (λ o. begun o inside otherwise) e

pub exact_at_gives : (text bytes rest : List ℕ) (v : Unit {0}) → exact_at text bytes ≡ Got v rest → bytes ≡ text ++ rest
unfolding exact_at
exact_at_gives text bytes rest v h =
    begun_gives bytes text (λ r. Got tt r) Wrong v rest (bytes ≡ text ++ rest)
    (λ r e k. e ∙ ap (λ z. text ++ z) (got_parts tt v r rest k).1) (λ k. cc) h

pub exact_at-text : (text rest : List ℕ) → exact_at text (text ++ rest) ≡ Got tt rest
unfolding exact_at
exact_at-text text rest = begun-text text rest (λ r. Got tt r) Wrong

-- the word at the front
pub word_at-word : (w r : List ℕ) → IsWord w → EndsWord r → word_at (w ++ r) ≡ (w, r)
unfolding word_at
word_at-word [] [] word ends = refl
word_at-word [] (b ∷ r) word ends = rw ends refl
word_at-word (b ∷ w) r word ends = rw (word.0, word_at-word w r word.1 ends) refl

pub word_at_gives : (bytes : List ℕ) → bytes ≡ (word_at bytes).0 ++ (word_at bytes).1
unfolding word_at
word_at_gives [] = refl
word_at_gives (b ∷ bs) =
    elim (is_word_byte b) as (λ t. is_word_byte b ≡ t → b ∷ bs ≡ (word_at (b ∷ bs)).0 ++ (word_at (b ∷ bs)).1) [
      | true ↦ λ e. rw e (ap (λ z. b ∷ z) (word_at_gives bs))
      | false ↦ λ e. rw e refl
    ] refl

pub number_at_gives : (bytes : List ℕ) (n : ℕ) (rest : List ℕ) → number_at bytes ≡ Got n rest
    → (n ≤ 4294967295) × (bytes ≡ decimal n ++ rest)
unfolding number_at
number_at_gives bytes n rest h =
    let found = got_from_option (number_of 4294967295 (word_at bytes).0) (word_at bytes).1 n rest h in
    let number = number_of_gives 4294967295 (word_at bytes).0 n (omega arith) found.0 in
    (number.0, word_at_gives bytes ∙ (λ i. number.1 i ++ found.1 i))

pub number_at-decimal : (n : ℕ) (rest : List ℕ) → n < 2 ^ 32 → EndsWord rest → number_at (decimal n ++ rest) ≡ Got n rest
unfolding number_at
number_at-decimal n rest low ends =
    let word = word_at-word (decimal n) rest (word_decimal n (omega arith)) ends in
    rw (word, number_of-decimal 4294967295 n (omega arith) (omega arith)) refl

pub same_number_at_gives : (n : ℕ) (bytes rest : List ℕ) (v : Unit {0}) → same_number_at n bytes ≡ Got v rest
    → (n ≤ 4294967295) × (bytes ≡ decimal n ++ rest)
unfolding same_number_at
same_number_at_gives n bytes rest v h =
    let step = got_from_bind (number_at bytes) (λ read r. where_true (read == n) (Got tt r)) v rest h in
    let test = got_from_test (step.0 == n) (Got tt step.1) v rest step.3 in
    let number = number_at_gives bytes step.0 step.1 step.2 in
    let same = (Decides-eqb step.0 n).0 test.0 in (
      subst (λ m. m ≤ 4294967295) same number.0,
      number.1 ∙ (λ i. decimal (same i) ++ (got_parts tt v step.1 rest test.1).1 i),
    )

pub same_number_at-decimal : (n : ℕ) (rest : List ℕ) → n < 2 ^ 32 → EndsWord rest
    → same_number_at n (decimal n ++ rest) ≡ Got tt rest
unfolding same_number_at
same_number_at-decimal n rest low ends =
    let same : (n == n) ≡ true = (Decides-eqb n n).1 refl in
    rw (number_at-decimal n rest low ends, same) refl
