-- What a call comes to, by what its words ask for.
use Rattle.std.proofs.Common.{◌≡◌, ◌↔◌, ℕ, List, refl, subst}
use Rattle.cc_arguments.specs.declared.words.Asked.TheVariants.{Job, Workload, Nothing}
use Rattle.cc_arguments.specs.Words.{AsksFor}
use Rattle.cc_program.specs.declared.status.Status.{Status}
use Rattle.cc_program.specs.declared.status.Status.TheVariants.{BadWords}
use Rattle.cc_program.specs.Calls.{IsCall}
use Rattle.cc_program.specs.Outcome.{Ends, Outcome}
use Rattle.cc_program.specs.WorkloadOutcome.{WorkloadOutcome}

module _ (words : List (List ℕ)) (before after : Ends) (status : Status) where
  pub job_words : AsksFor words Job → Outcome before after status → (status ≡ BadWords) ↔ AsksFor words Nothing
  job_words is outcome = (λ e. absurd (subst (Outcome before after) e outcome), λ none. absurd (none.0 is))

  pub workload_words : (number : ℕ) → AsksFor words (Workload number) → WorkloadOutcome before after number status
      → (status ≡ BadWords) ↔ AsksFor words Nothing
  workload_words number is outcome =
      (λ e. absurd (subst (WorkloadOutcome before after number) e outcome), λ none. absurd (none.1 number is))

pub bad_words : (words : List (List ℕ)) → AsksFor words Nothing → (BadWords ≡ BadWords) ↔ AsksFor words Nothing
bad_words words is = (λ e. is, λ none. refl)

module _ (SourceStays SinkStays : Type 0) (before after : Ends) (words : List (List ℕ)) (status : Status) where
  pub job_call : AsksFor words Job → Outcome before after status → IsCall SourceStays SinkStays before after words status
  job_call is outcome = record { asked = Job; asks = is; does = outcome }

  pub workload_call : (number : ℕ) → AsksFor words (Workload number) → SourceStays → WorkloadOutcome before after number status
      → IsCall SourceStays SinkStays before after words status
  workload_call number is stays outcome = record { asked = Workload number; asks = is; does = (stays, outcome) }

  pub bad_call : AsksFor words Nothing → status ≡ BadWords → SourceStays → SinkStays → after.judged ≡ before.judged
      → IsCall SourceStays SinkStays before after words status
  bad_call is e source sink judged = record { asked = Nothing; asks = is; does = (e, source, sink, judged) }
