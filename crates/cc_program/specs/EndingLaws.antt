-- How the program ends for what the system answers, and what it says, in words, texts and numbers.
use Rattle.std.specs.Prelude.{◌≡◌, ◌↔◌, ◌⊎◌, ℕ, List, [], ◌∷◌, ◌++◌, codes, Result, Ok, Err}
use Rattle.std.specs.Fmt.{decimal}
use Rattle.std.specs.IoError.{error_kind}
use Rattle.std.specs.Vec.Iter.{into_iter_items}
use Rattle.std.specs.declared.io.Error.{Error}
use Rattle.std.specs.declared.io.ErrorKind.{ErrorKind}
use Rattle.std.specs.declared.io.ErrorKind.TheVariants.{OutOfMemory}
use Rattle.std.specs.declared.vec.IntoIter.{IntoIter}
use Rattle.cc_io.specs.CallPlans.{SourceInMemory, SinkInMemory}
use Rattle.cc_program.specs.declared.status.Status.{Status}
use Rattle.cc_program.specs.declared.status.Status.TheVariants as statuses
use Rattle.cc_program.specs.CallLaws.{IsCallInMemory}
use Rattle.cc_program.specs.Endings.{EndsBy, IsSaid}
use Rattle.cc_program.specs.Status.{number_of}
use Rattle.cc_program.specs.Words.{status_without_words}

-- the words that the system gives, as bytes
abbrev pub SystemWords : Type 0
SystemWords = IntoIter (List ℕ) (Unit {0})

-- The call's words are those behind the first that the system gives, which is the program's name; where it gives none there
-- are none.
abbrev pub TheNameIsNoWord : Type 0
TheNameIsNoWord =
    (given : SystemWords) (name : List ℕ) (words asked : List (List ℕ)) (status : Status)
    → into_iter_items given ≡ name ∷ words
    → EndsBy (λ them _. them ≡ asked) ⊥ (Ok given) status ↔ (asked ≡ words)

abbrev pub NoNameIsNoWord : Type 0
NoNameIsNoWord =
    (given : SystemWords) (asked : List (List ℕ)) (status : Status) → into_iter_items given ≡ []
    → EndsBy (λ them _. them ≡ asked) ⊥ (Ok given) status ↔ (asked ≡ [])

-- The program ends so for what the system answers, with a source and a sink in memory, which were so before it and behind
-- it, as was the count of the modules that were judged.
abbrev pub EndsInMemory : SourceInMemory → SourceInMemory → SinkInMemory → SinkInMemory → ℕ → ℕ
    → Result SystemWords Error → Status → Type 0
EndsInMemory source source_later sink sink_later judged later answer status =
    EndsBy (IsCallInMemory source source_later sink sink_later judged later)
    ((source_later ≡ source) × (sink_later ≡ sink)) answer status

-- Where the system gives these three words, the call's are the two behind the name, or the program ends with 5, and source
-- and sink are left as they were.
abbrev pub ThreeWordsAreTwo : Type 0
ThreeWordsAreTwo =
    (source source_later : SourceInMemory) (sink sink_later : SinkInMemory) (judged later : ℕ) (given : SystemWords)
    (status : Status) → into_iter_items given ≡ codes "capc" ∷ codes "--workload" ∷ codes "3" ∷ []
    → EndsInMemory source source_later sink sink_later judged later (Ok given) status
    → IsCallInMemory source source_later sink sink_later judged later (codes "--workload" ∷ codes "3" ∷ []) status
    ⊎ ((number_of status ≡ 5) × (source_later ≡ source) × (sink_later ≡ sink))

-- Where the system gives an error, the program ends with 5 if that tells of want of memory, and with 6 if it does not, and
-- source and sink are left as they were.
abbrev pub ErrorsTouchNothing : Type 0
ErrorsTouchNothing =
    (source source_later : SourceInMemory) (sink sink_later : SinkInMemory) (judged later : ℕ) (error : Error)
    (status : Status) → EndsInMemory source source_later sink sink_later judged later (Err error) status
    → (error_kind error ≡ OutOfMemory → number_of status ≡ 5)
    × ((error_kind error ≡ OutOfMemory → ⊥) → number_of status ≡ 6)
    × (source_later ≡ source) × (sink_later ≡ sink)

-- so it is with each kind of error
abbrev pub KindsInNumbers : Type 0
KindsInNumbers =
    (number_of (status_without_words OutOfMemory) ≡ 5)
    × ((kind : ErrorKind) → (kind ≡ OutOfMemory → ⊥) → number_of (status_without_words kind) ≡ 6)

-- A writer of messages that keeps in order all that it is given, whatever it answers.
abbrev pub KeepsAll : List (List ℕ) → List ℕ → Result (Unit {0}) Error → List (List ℕ) → Type 0
KeepsAll old text answer new = new ≡ old ++ text ∷ []

-- Such a writer, which had been given this before, was given just these texts where the program ended so.
abbrev pub Says : Status → List (List ℕ) → Type 0
Says status texts =
    (old new : List (List ℕ)) → IsSaid KeepsAll status old new → new ≡ old ++ texts

-- What is said for each status: one text with a line feed, or none. Behind bad words one text more may be said, with its
-- line feed.
pub record MessagesInTexts : Type 0 where
  pub clean : Says statuses.Clean []
  pub refusals : Says statuses.Refusals []
  pub bad_job : (line : ℕ)
      → Says (statuses.BadJob line) ((codes "capc: bad job at line " ++ decimal line ++ codes "\n") ∷ [])
  pub bad_job_at_seven : Says (statuses.BadJob 7) (codes "capc: bad job at line 7\n" ∷ [])
  pub read_fault : Says statuses.ReadFault (codes "capc: read fault\n" ∷ [])
  pub write_fault : Says statuses.WriteFault (codes "capc: write fault\n" ∷ [])
  pub no_memory : Says statuses.NoMemory (codes "capc: out of memory\n" ∷ [])
  pub too_long : Says statuses.TooLong (codes "capc: job too long\n" ∷ [])
  pub bad_words : (old new : List (List ℕ)) → IsSaid KeepsAll statuses.BadWords old new
      → (new ≡ old ++ codes "capc: bad words\n" ∷ [])
      ⊎ ((usage : List ℕ) × (new ≡ old ++ codes "capc: bad words\n" ∷ (usage ++ codes "\n") ∷ []))
