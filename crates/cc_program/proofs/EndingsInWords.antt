-- How the program ends for what the system answers, and what it says.
use Rattle.std.proofs.Common.{◌≡◌, ◌↔◌, ◌⊎◌, ℕ, List, [], ◌∷◌, ◌++◌, drop, codes, Option, Some, None, Ok, refl, sym, ap, ◌∙◌, subst, inl, inr, ⊎_elim}
use Rattle.std.specs.Fmt.{digits}
use lib.Utf8.{encode}
use Rattle.std.proofs.lemmas.List.{append_assoc, append-nil}
use Rattle.std.specs.IoError.{error_kind}
use Rattle.std.specs.Vec.Iter.{into_iter_items}
use Rattle.std.specs.declared.io.ErrorKind.{ErrorKind}
use Rattle.std.specs.declared.io.ErrorKind.TheVariants as kinds
use Rattle.cc_io.specs.Messages.{IsTold}
use Rattle.cc_program.specs.declared.status.Status.{Status}
use Rattle.cc_program.specs.CallLaws.{IsCallInMemory}
use Rattle.cc_program.specs.EndingLaws.{SystemWords, TheNameIsNoWord, NoNameIsNoWord, ThreeWordsAreTwo, ErrorsTouchNothing, KindsInNumbers, KeepsAll, MessagesInTexts}
use Rattle.cc_program.specs.Endings.{EndsBy}
use Rattle.cc_program.specs.Status.{number_of}
use Rattle.cc_program.specs.Words.{status_without_words}

-- the words of a call are those that are left without the first
words_are : (given : SystemWords) (items asked : List (List ℕ)) (status : Status) → into_iter_items given ≡ items
    → EndsBy (λ them _. them ≡ asked) ⊥ (Ok given) status ↔ (asked ≡ drop 1 items)
words_are given items asked status is =
    (⊎_elim (λ e. sym e ∙ ap (drop 1) is) (λ none. absurd none.1), λ e. inl (ap (drop 1) is ∙ sym e))

pub the_name_is_no_word : TheNameIsNoWord
the_name_is_no_word given name words asked status is = words_are given (name ∷ words) asked status is

pub no_name_is_no_word : NoNameIsNoWord
no_name_is_no_word given asked status is = words_are given [] asked status is

pub three_words_are_two : ThreeWordsAreTwo
three_words_are_two source source_later sink sink_later judged later given status is ended =
    ⊎_elim
    (λ call.
    inl (subst (λ them. IsCallInMemory source source_later sink sink_later judged later (drop 1 them) status) is call))
    (λ lacks. inr (ap number_of lacks.0, lacks.1.0, lacks.1.1)) ended

pub kinds_in_numbers : KindsInNumbers
kinds_in_numbers = (refl, other)
  where
    other : (kind : ErrorKind) → (kind ≡ kinds.OutOfMemory → ⊥) → number_of (status_without_words kind) ≡ 6
    other kinds.OutOfMemory not = absurd (not refl)
    other kind not = refl

pub errors_touch_nothing : ErrorsTouchNothing
errors_touch_nothing source source_later sink sink_later judged later error status (ends, stays) = (
  λ is. ap number_of (ends ∙ ap status_without_words is) ∙ kinds_in_numbers.0,
  λ not. ap number_of ends ∙ kinds_in_numbers.1 (error_kind error) not,
  stays.0,
  stays.1,
)

-- behind bad words nothing more is said, or one text
bad_words_say : (old between new : List (List ℕ)) → between ≡ old ++ codes "capc: bad words\n" ∷ []
    → (usage : Option (List ℕ)) × IsTold KeepsAll usage between new
    → (new ≡ old ++ codes "capc: bad words\n" ∷ [])
    ⊎ ((usage : List ℕ) × (new ≡ old ++ codes "capc: bad words\n" ∷ (usage ++ codes "\n") ∷ []))
bad_words_say old between new said (None, same) = inl (same ∙ said)
bad_words_say old between new said (Some usage, told) =
    inr (
      usage,
      told.1
          ∙ (ap (λ t. t ++ (usage ++ codes "\n") ∷ []) said
          ∙ append_assoc old (codes "capc: bad words\n" ∷ []) ((usage ++ codes "\n") ∷ [])),
    )

pub messages_in_texts : MessagesInTexts
unfolding digits encode
messages_in_texts = record {
  clean = λ old new (between, told, usage). usage ∙ told ∙ sym (append-nil old);
  refusals = λ old new (between, told, usage). usage ∙ told ∙ sym (append-nil old);
  bad_job = λ line old new (between, told, usage). usage ∙ told.1;
  bad_job_at_seven = λ old new (between, told, usage). usage ∙ told.1;
  read_fault = λ old new (between, told, usage). usage ∙ told.1;
  write_fault = λ old new (between, told, usage). usage ∙ told.1;
  no_memory = λ old new (between, told, usage). usage ∙ told.1;
  too_long = λ old new (between, told, usage). usage ∙ told.1;
  bad_words = λ old new (between, told, usage). bad_words_say old between new told.1 usage;
}
