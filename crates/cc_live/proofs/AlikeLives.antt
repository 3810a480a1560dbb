-- Live runs of alike configurations.
use Rattle.std.proofs.Common.{◌≡◌, ℕ, zero, suc, List, refl, sym, ap, ◌∙◌}
use Rattle.cc_live.specs.LiveLaws.{AlikeLiveAlike}
use Rattle.cc_live.specs.LiveRuns.{Course, told_line, asked_text, behind_text, behind_event, heard_live, ended_live, live_on, live_from}
use Rattle.cc_replay.specs.Replays.{ending_in}
use Rattle.cc_runs.proofs.Erasure.{erased_outcome, term-erased, shown-erased}
use Rattle.cc_runs.specs.Alike.{erased_configuration}
use Rattle.cc_runs.specs.Machine.{Configuration, StepOutcome, Stuck, Final, Next, Ask, step}
use Rattle.cc_runs.specs.Runs.{end_with}
use Rattle.cc_words.specs.Lines.{Line}

-- what comes of what is erased
module _ (names : List (List ℕ)) where
  ending-erased : (c : Configuration) (x : StepOutcome) → ending_in (erased_configuration c) (erased_outcome x) ≡ ending_in c x
  ending-erased c Stuck = refl
  ending-erased c Final = ap end_with (shown-erased c)
  ending-erased c (Next event next) = refl
  ending-erased c (Ask n op a resume) = refl

  step-erased : (c : Configuration) → step (erased_configuration c) ≡ erased_outcome (step c)
  step-erased c = term-erased c.store c.stack c.labels_made c.term

  ended-erased : (steps : ℕ) (c : Configuration) (x : StepOutcome) (lines : List Line)
      → ended_live names steps (ending_in (erased_configuration c) (erased_outcome x)) lines ≡ ended_live names steps (ending_in c x) lines
  ended-erased steps c x lines = ap (λ e. ended_live names steps e lines) (ending-erased c x)

  live_on-erased : (steps : ℕ) (later : Configuration → Course) (c : Configuration) (x : StepOutcome) (lines : List Line)
      → ((next : Configuration) → later (erased_configuration next) ≡ later next)
      → live_on names steps later (erased_configuration c) (erased_outcome x) lines ≡ live_on names steps later c x lines
  live_on-erased steps later c Stuck lines same = ended-erased steps c Stuck lines
  live_on-erased steps later c Final lines same = ended-erased steps c Final lines
  live_on-erased steps later c (Next event next) lines same = ap (λ f. behind_event names event (f lines)) (same next)
  live_on-erased steps later c (Ask n op a resume) lines same =
      λ i. behind_text (told_line (asked_text names n op a)) (heard_live steps op (λ answer. same (resume answer) i) lines)

  live_from-erased : (fuel steps : ℕ) (c : Configuration) (lines : List Line) → live_from names steps fuel (erased_configuration c) lines ≡ live_from names steps fuel c lines
  live_from-erased zero steps c lines =
      ap (λ x. ended_live names steps (ending_in (erased_configuration c) x) lines) (step-erased c) ∙ ended-erased steps c (step c) lines
  live_from-erased (suc fuel) steps c lines =
      ap (λ x. live_on names steps (live_from names (suc steps) fuel) (erased_configuration c) x lines) (step-erased c)
      ∙ live_on-erased steps (live_from names (suc steps) fuel) c (step c) lines (λ next i ls. live_from-erased fuel (suc steps) next ls i)

-- the live run of what a machine holds at the start of a program is that of the program
pub live-erased : (names : List (List ℕ)) (fuel : ℕ) (held start : Configuration) (lines : List Line) → held ≡ erased_configuration start
    → live_from names 0 fuel held lines ≡ live_from names 0 fuel start lines
live-erased names fuel held start lines is = ap (λ c. live_from names 0 fuel c lines) is ∙ live_from-erased names fuel 0 start lines

pub alike_live_alike : AlikeLiveAlike
alike_live_alike names fuel left right lines same =
    sym (live_from-erased names fuel 0 left lines) ∙ ap (λ c. live_from names 0 fuel c lines) same ∙ live_from-erased names fuel 0 right lines
