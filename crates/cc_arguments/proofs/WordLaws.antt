-- What words ask for is what reading them gives.
use Rattle.std.proofs.Common.{◌≡◌, ℕ, zero, suc, ◌≤◌, length, map, slice_index_or, Bool, true, false, List, [], ◌∷◌, ◌++◌, Option, Some, None, refl, sym, ap, ◌∙◌, subst, arith, inl, inr}
use Rattle.std.specs.Prelude.{codes, cond}
use Rattle.std.specs.Option.{option_and_then}
use Rattle.std.specs.Fmt.{decimal}
use Rattle.std.specs.Str.{bytes_eq}
use Rattle.std.proofs.lemmas.Slice.Eq.{bytes_eq-Decides}
use Rattle.cc_words.specs.Words.{after_prefix, number_of}
use Rattle.cc_words.proofs.Numbers.{number_of_gives, number_of-decimal}
use Rattle.cc_words.proofs.Steps.{after_prefix_gives, after_prefix-append}
use Rattle.cc_arguments.specs.declared.words.Asked.{Asked}
use Rattle.cc_arguments.specs.declared.words.Asked.TheVariants.{Job, Workload, Nothing}
use Rattle.cc_arguments.specs.WordReading.{at_least_one, workload_number, asked_for, asked_by_one, asked_by_two, asked_by}
use Rattle.cc_arguments.specs.Words.{AsksFor, AsksForWorkload, WordsAskForOneThing}

-- the word is the decimal number of a workload
abbrev pub IsNumber : List ℕ → ℕ → Type 0
IsNumber word n = (1 ≤ n) × (n ≤ 200) × (word ≡ decimal n)

number_in : (word : List ℕ) (n : ℕ) (o : Option ℕ) → number_of 200 word ≡ o → at_least_one o ≡ Some n → IsNumber word n
number_in word n None e h = cc
number_in word n (Some zero) e h = cc
number_in word n (Some (suc k)) e h =
    let found = number_of_gives 200 word (suc k) (omega arith) e in
    let same : suc k ≡ n = cc in
    subst (IsNumber word) same (omega arith, found.0, found.1)

number_gives : (word : List ℕ) (n : ℕ) → workload_number word ≡ Some n → IsNumber word n
number_gives word n h = number_in word n (number_of 200 word) refl h

number_at : (n : ℕ) → 1 ≤ n → n ≤ 200 → workload_number (decimal n) ≡ Some n
number_at zero low high = absurd (omega arith)
number_at (suc n) low high = ap at_least_one (number_of-decimal 200 (suc n) (omega arith) high)

-- a workload that is asked for is read
read_workload : (words : List (List ℕ)) (n : ℕ) → AsksForWorkload words n → asked_by words ≡ Workload n
read_workload words n (low, high, inl e) = ap asked_by e ∙ ap asked_for (number_at n low high)
read_workload words n (low, high, inr e) =
    ap asked_by e
    ∙ (ap (λ o. asked_for (option_and_then workload_number o)) (after_prefix-append (codes "--workload=") (decimal n))
    ∙ ap asked_for (number_at n low high))

-- what is read where no workload is asked for
module _ (words : List (List ℕ)) (no_workload : (n : ℕ) → asked_by words ≡ Workload n → ⊥) where
  some_number : (o : Option ℕ) → asked_by words ≡ asked_for o → asked_by words ≡ Nothing
  some_number None e = e
  some_number (Some n) e = absurd (no_workload n e)

-- a number that was read is asked for
by_number : (words : List (List ℕ)) (digits : List ℕ) (o : Option ℕ) → workload_number digits ≡ o
    → ((n : ℕ) → IsNumber digits n → AsksForWorkload words n)
    → ((n : ℕ) → AsksForWorkload words n → asked_for o ≡ Workload n)
    → (words ≡ [] → ⊥) → AsksFor words (asked_for o)
by_number words digits None e asks reads some = (some, λ n h. let bad = reads n h in cc)
by_number words digits (Some n) e asks reads some = asks n (number_gives digits n e)

by_one : (word : List ℕ) (o : Option (List ℕ)) → after_prefix word (codes "--workload=") ≡ o
    → AsksFor (word ∷ []) (asked_for (option_and_then workload_number o))
by_one word None e = (
  λ h. cc,
  λ n h. let bad = read_workload (word ∷ []) n h in
      let none = ap (λ o. asked_for (option_and_then workload_number o)) e in cc,
)
by_one word (Some digits) e =
    by_number (word ∷ []) digits (workload_number digits) refl
    (λ n h. (
      h.0,
      h.1,
      inr (ap (λ xs. xs ∷ []) (after_prefix_gives word (codes "--workload=") digits e
          ∙ ap (λ xs. codes "--workload=" ++ xs) h.2)),
    ))
    (λ n h. sym (ap (λ o. asked_for (option_and_then workload_number o)) e) ∙ read_workload (word ∷ []) n h)
    (λ h. cc)

by_two : (option digits : List ℕ) (test : Bool) → bytes_eq option (codes "--workload") ≡ test
    → AsksFor (option ∷ digits ∷ []) (cond test (asked_for (workload_number digits)) Nothing)
by_two option digits false e = (
  λ h. cc,
  λ n h. let bad = read_workload (option ∷ digits ∷ []) n h in
      let none = ap (λ b. cond b (asked_for (workload_number digits)) Nothing) e in cc,
)
by_two option digits true e =
    let same = (bytes_eq-Decides option (codes "--workload")).0 e in
    by_number (option ∷ digits ∷ []) digits (workload_number digits) refl
    (λ n h. (h.0, h.1, inl (ap (λ xs. xs ∷ digits ∷ []) same ∙ ap (λ xs. codes "--workload" ∷ xs ∷ []) h.2)))
    (λ n h. sym (ap (λ b. cond b (asked_for (workload_number digits)) Nothing) e) ∙ read_workload (option ∷ digits ∷ []) n h)
    (λ h. cc)

pub words_ask : (words : List (List ℕ)) → AsksFor words (asked_by words)
words_ask [] = refl
words_ask (word ∷ []) = by_one word (after_prefix word (codes "--workload=")) refl
words_ask (option ∷ digits ∷ []) = by_two option digits (bytes_eq option (codes "--workload")) refl
words_ask (option ∷ digits ∷ more ∷ words) =
    (λ h. cc, λ n h. let bad = read_workload (option ∷ digits ∷ more ∷ words) n h in cc)

-- words that ask for nothing are read so
read_nothing : (words : List (List ℕ)) (asked : Asked) → AsksFor words asked → AsksFor words Nothing → asked ≡ Nothing
read_nothing words Job is (some, none) = absurd (some is)
read_nothing words (Workload n) is (some, none) = absurd (none n is)
read_nothing words Nothing is h = refl

pub read_so : (words : List (List ℕ)) (asked : Asked) → AsksFor words asked → asked_by words ≡ asked
read_so words Job is = ap asked_by is
read_so words (Workload n) is = read_workload words n is
read_so words Nothing is = read_nothing words (asked_by words) (words_ask words) is

pub one_thing : WordsAskForOneThing
one_thing words one other is also = sym (read_so words one is) ∙ read_so words other also

-- what is read is asked for
pub asks_for : (words : List (List ℕ)) (asked : Asked) → asked_by words ≡ asked → AsksFor words asked
asks_for words asked e = subst (AsksFor words) e (words_ask words)

-- one or two words, as they are kept
module _ {A : Type 0} (read : A → List ℕ) where
  pub one_word : (words : List A) (x : A) (word : List ℕ) (answer : Asked) → length words ≡ 1
      → x ≡ slice_index_or words 0 x → word ≡ read x → answer ≡ asked_by_one word → AsksFor (map read words) answer
  one_word [] x word answer n at w a = cc
  one_word (y ∷ []) x word answer n at w a =
      asks_for (read y ∷ []) answer (sym (a ∙ ap asked_by_one (w ∙ ap read at)))
  one_word (y ∷ z ∷ ys) x word answer n at w a = cc

  pub two_words : (words : List A) (x y : A) (option digits : List ℕ) (answer : Asked) → length words ≡ 2
      → x ≡ slice_index_or words 0 x → y ≡ slice_index_or words 1 y → option ≡ read x → digits ≡ read y
      → answer ≡ asked_by_two option digits → AsksFor (map read words) answer
  two_words [] x y option digits answer n at next o d a = cc
  two_words (p ∷ []) x y option digits answer n at next o d a = cc
  two_words (p ∷ q ∷ []) x y option digits answer n at next o d a =
      asks_for (read p ∷ read q ∷ []) answer
      (sym (a ∙ (ap (λ w. asked_by_two w digits) (o ∙ ap read at) ∙ ap (asked_by_two (read p)) (d ∙ ap read next))))
  two_words (p ∷ q ∷ r ∷ rs) x y option digits answer n at next o d a = cc
