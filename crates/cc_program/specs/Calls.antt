-- What a call of the program does, by what its words ask for.
use Rattle.std.specs.Prelude.{◌≡◌, List, ℕ}
use Rattle.cc_arguments.specs.declared.words.Asked.{Asked}
use Rattle.cc_arguments.specs.declared.words.Asked.TheVariants.{Job, Workload, Nothing}
use Rattle.cc_arguments.specs.Words.{AsksFor}
use Rattle.cc_program.specs.declared.status.Status.{Status}
use Rattle.cc_program.specs.declared.status.Status.TheVariants.{BadWords}
use Rattle.cc_program.specs.Outcome.{Ends, Outcome}
use Rattle.cc_program.specs.WorkloadOutcome.{WorkloadOutcome}

-- `SourceStays` and `SinkStays` say of the source and of the sink that they are, whole, as they were.

-- The job of the source is carried out; or a workload is, and the source is not touched; or the words are bad, and
-- nothing is touched.
abbrev pub Does : (SourceStays SinkStays : Type 0) → Ends → Ends → Asked → Status → Type 0
Does SourceStays SinkStays before after Job status = Outcome before after status
Does SourceStays SinkStays before after (Workload number) status =
    SourceStays × WorkloadOutcome before after number status
Does SourceStays SinkStays before after Nothing status =
    (status ≡ BadWords) × SourceStays × SinkStays × (after.judged ≡ before.judged)

-- the call did what its words ask for
pub record IsCall (SourceStays SinkStays : Type 0) (before after : Ends) (words : List (List ℕ)) (status : Status) :
    Type 0 where
  pub asked : Asked
  pub asks : AsksFor words asked
  pub does : Does SourceStays SinkStays before after asked status
