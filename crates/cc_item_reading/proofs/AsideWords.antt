-- What a line says that no line of a job says.
use Rattle.std.proofs.Common.{◌≡◌, ℕ, true, List, [], ◌∷◌, Option, Some, None, refl, sym, ap, ◌∙◌, subst, ⊎_elim, arith}
use Rattle.std.specs.Prelude.{codes, encode_utf8_all}
use Rattle.std.specs.Fmt.{decimal}
use Rattle.std.specs.Str.{bytes_eq}
use Rattle.cc_base.specs.Names.{IsName}
use Rattle.cc_job.specs.Reading.{head_with, command_with, head_of}
use Rattle.cc_job.proofs.HeadLaws.{some_same, choice, is_word, first_gives}
use Rattle.cc_words.specs.Lines.{Line}
use Rattle.cc_words.specs.Words.{joined, pair_text, ◌>>=◌, split_at, first_and_rest, one_of, two_of, name_of, pair_of, number_of}
use Rattle.cc_words.proofs.NameBytes.{name_of-encoded, Lacks-name}
use Rattle.cc_words.proofs.Steps.{some_from_bind, name_of_gives}
use Rattle.cc_words.proofs.Splits.{AllLack, Lacks-test, split_at-joined, joined-split_at}
use Rattle.cc_words.proofs.Numbers.{Lacks-decimal, Lacks-pair, number_of_gives, number_of-decimal, two_of_gives, pair_of_gives, pair_of-text}
use Rattle.cc_item_reading.specs.AsideLines.{live_of, why_of, aside_with, aside_of}
use Rattle.cc_item_reading.specs.Sayings.{IsAside, IsAsideLine, aside_words, aside_line}
use Rattle.cc_item_reading.specs.declared.asides.Aside.{Aside}
use Rattle.cc_item_reading.specs.declared.asides.Aside.TheVariants.{Live, Why}

-- these words say that
pub record Says (words : List (List ℕ)) (it : Aside) : Type 0 where
  pub may : IsAside it
  pub spelled : words ≡ aside_words it

live_gives : (words : List (List ℕ)) (it : Aside) → live_of words ≡ Some it → Says (codes "live" ∷ words) it
unfolding live_of
live_gives words it h =
    let two = some_from_bind (two_of words) (λ two. pair_of two.0 >>= λ pair. number_of 1000000 two.1 >>= λ fuel. Some (Live pair.0 pair.1 fuel)) it h in
    let found = some_from_bind (pair_of two.0.0) (λ pair. number_of 1000000 two.0.1 >>= λ fuel. Some (Live pair.0 pair.1 fuel)) it two.2 in
    let fuel = some_from_bind (number_of 1000000 two.0.1) (λ fuel. Some (Live found.0.0 found.0.1 fuel)) it found.2 in
    let pair = pair_of_gives two.0.0 found.0 found.1 in
    let number = number_of_gives 1000000 two.0.1 fuel.0 (omega arith) fuel.1 in
    let words_are = two_of_gives words two.0.0 two.0.1 two.1 in
    subst (Says (codes "live" ∷ words)) (some_same (Live found.0.0 found.0.1 fuel.0) it fuel.2)
    (record {
      may = (pair.0, number.0);
      spelled = ap (λ ws. codes "live" ∷ ws)
          (words_are ∙ (ap (λ w. w ∷ two.0.1 ∷ []) pair.1 ∙ ap (λ w. pair_text found.0 ∷ w ∷ []) number.1));
    })

one_gives : (words : List (List ℕ)) (word : List ℕ) → one_of words ≡ Some word → words ≡ word ∷ []
one_gives [] word h = cc
one_gives (x ∷ []) word h = ap (λ w. w ∷ []) (some_same x word h)
one_gives (x ∷ y ∷ words) word h = cc

why_gives : (words : List (List ℕ)) (it : Aside) → why_of words ≡ Some it → Says (codes "why" ∷ words) it
unfolding why_of
why_gives words it h =
    let one = some_from_bind (one_of words) (λ word. name_of word >>= λ name. Some (Why name)) it h in
    let named = some_from_bind (name_of one.0) (λ name. Some (Why name)) it one.2 in
    let name = name_of_gives one.0 named.0 named.1 in
    subst (Says (codes "why" ∷ words)) (some_same (Why named.0) it named.2)
    (record { may = name.0; spelled = ap (λ ws. codes "why" ∷ ws) (one_gives words one.0 one.1 ∙ ap (λ w. w ∷ []) name.1) })

aside_with_gives : (word : List ℕ) (words : List (List ℕ)) (it : Aside) → aside_with word words ≡ Some it → Says (word ∷ words) it
unfolding aside_with
aside_with_gives word words it h =
    ⊎_elim (λ found. by (codes "live") found.0 (live_gives words it found.1)) (λ other.
    ⊎_elim (λ found. by (codes "why") found.0 (why_gives words it found.1)) (λ none. nothing none.1)
    (choice (bytes_eq word (codes "why")) (why_of words) None it other.1))
    (choice (bytes_eq word (codes "live")) (live_of words) _ it h)
  where
    by : (asked : List ℕ) → bytes_eq word asked ≡ true → Says (asked ∷ words) it → Says (word ∷ words) it
    by asked test says = subst (λ w. Says (w ∷ words) it) (sym (is_word word asked test)) says

    nothing : {B : Type 0} → ◌≡◌ {A = Option Aside} None (Some it) → B
    nothing e = cc

-- a line that says something of that is its line
pub aside_gives : (line : Line) (it : Aside) → aside_of line ≡ Some it → IsAside it × (line ≡ aside_line it)
unfolding aside_of
aside_gives line it h =
    let split = some_from_bind (first_and_rest (split_at 32 line)) (λ split. aside_with split.0 split.1) it h in
    let says = aside_with_gives split.0.0 split.0.1 it split.2 in
    (says.may, sym (joined-split_at 32 line) ∙ ap (joined 32) (first_gives (split_at 32 line) split.0 split.1 ∙ says.spelled))

live_of-words : (pair : List ℕ × List ℕ) (fuel : ℕ) → IsAside (Live pair.0 pair.1 fuel)
    → aside_with (codes "live") (pair_text pair ∷ decimal fuel ∷ []) ≡ Some (Live pair.0 pair.1 fuel)
unfolding aside_with live_of
live_of-words pair fuel is = rw (pair_of-text pair is.0, number_of-decimal 1000000 fuel (omega arith) is.1) refl

why_of-words : (name : List ℕ) → IsName name → aside_with (codes "why") (encode_utf8_all name ∷ []) ≡ Some (Why name)
unfolding aside_with why_of
why_of-words name is = rw (name_of-encoded name is) refl

aside_of-joined : (word : List ℕ) (words : List (List ℕ)) → AllLack 32 (word ∷ words) → aside_of (joined 32 (word ∷ words)) ≡ aside_with word words
unfolding aside_of
aside_of-joined word words lack = rw (split_at-joined 32 word words lack) refl

words_lack : (it : Aside) → IsAside it → AllLack 32 (aside_words it)
words_lack (Live owner definition fuel) is =
    (Lacks-test 32 (codes "live") refl, (Lacks-pair (owner, definition) is.0, (Lacks-decimal 32 fuel (omega arith) (omega (arith, is.1)), tt)))
words_lack (Why name) is = (Lacks-test 32 (codes "why") refl, (Lacks-name 32 name refl is, tt))

-- and says what it is
pub aside_of-line : (it : Aside) → IsAside it → aside_of (aside_line it) ≡ Some it
aside_of-line (Live owner definition fuel) is =
    aside_of-joined (codes "live") (pair_text (owner, definition) ∷ decimal fuel ∷ []) (words_lack (Live owner definition fuel) is)
    ∙ live_of-words (owner, definition) fuel is
aside_of-line (Why name) is =
    aside_of-joined (codes "why") (encode_utf8_all name ∷ []) (words_lack (Why name) is) ∙ why_of-words name is

-- a line that does not say so is none
pub none_aside : (line : Line) → aside_of line ≡ None → IsAsideLine line → ⊥
none_aside line none (it, is, same) =
    let clash : ◌≡◌ {A = Option Aside} (Some it) None = sym (ap aside_of same ∙ aside_of-line it is) ∙ none in
    cc

live_head : (rest : List (List ℕ)) → head_with (codes "live") rest ≡ None
unfolding head_with command_with
live_head rest = refl

why_head : (rest : List (List ℕ)) → head_with (codes "why") rest ≡ None
unfolding head_with command_with
why_head rest = refl

head_of-joined : (word : List ℕ) (words : List (List ℕ)) → AllLack 32 (word ∷ words) → head_of (joined 32 (word ∷ words)) ≡ head_with word words
unfolding head_of
head_of-joined word words lack = rw (split_at-joined 32 word words lack) refl

none_said : (it : Aside) → IsAside it → head_of (aside_line it) ≡ None
none_said (Live owner definition fuel) is =
    head_of-joined (codes "live") (pair_text (owner, definition) ∷ decimal fuel ∷ []) (words_lack (Live owner definition fuel) is)
    ∙ live_head (pair_text (owner, definition) ∷ decimal fuel ∷ [])
none_said (Why name) is =
    head_of-joined (codes "why") (encode_utf8_all name ∷ []) (words_lack (Why name) is) ∙ why_head (encode_utf8_all name ∷ [])

-- nor is it an item's line
pub no_head : (line : Line) → IsAsideLine line → head_of line ≡ None
no_head line (it, is, same) = ap head_of same ∙ none_said it is

-- a line says one
pub one_aside : (one other : Aside) → IsAside one → IsAside other → aside_line one ≡ aside_line other → one ≡ other
one_aside one other is also same = some_same one other (sym (aside_of-line one is) ∙ ap aside_of same ∙ aside_of-line other also)
