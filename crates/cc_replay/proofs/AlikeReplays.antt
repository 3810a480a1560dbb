-- Replays of alike configurations.
use Rattle.std.proofs.Common.{◌≡◌, ℕ, zero, suc, List, [], ◌∷◌, Option, Some, None, refl, sym, ap, ◌∙◌}
use Rattle.cc_base.specs.Literals.{Literal}
use Rattle.cc_base.specs.declared.literal.Op.{Op}
use Rattle.cc_device.specs.Events.{Event, Operated, literal_shown}
use Rattle.cc_runs.specs.Alike.{erased_configuration}
use Rattle.cc_runs.specs.Machine.{Configuration, StepOutcome, Stuck, Final, Next, Ask, step}
use Rattle.cc_runs.specs.Runs.{end_with}
use Rattle.cc_runs.proofs.Erasure.{erased_outcome, term-erased, shown-erased}
use Rattle.cc_replay.specs.ReplayLaws.{AlikeReplayAlike}
use Rattle.cc_replay.specs.Replays.{Comparison, no_line, text_next, event_next, answer_in, answered_next, operation_next, ending_in, end_next, replay_on, replay_from}
use Rattle.cc_replay.specs.RunTexts.{end_text}
use Rattle.cc_words.specs.Lines.{Line}

-- comparisons of what is erased
module _ (names : List (List ℕ)) where
  ending-erased : (c : Configuration) (x : StepOutcome) → ending_in (erased_configuration c) (erased_outcome x) ≡ ending_in c x
  ending-erased c Stuck = refl
  ending-erased c Final = ap end_with (shown-erased c)
  ending-erased c (Next event next) = refl
  ending-erased c (Ask n op a resume) = refl

  step-erased : (c : Configuration) → step (erased_configuration c) ≡ erased_outcome (step c)
  step-erased c = term-erased c.store c.stack c.labels_made c.term

  end-erased : (steps : ℕ) (c : Configuration) (x : StepOutcome) (lines : List Line) → end_next names steps (erased_configuration c) (erased_outcome x) lines ≡ end_next names steps c x lines
  end-erased steps c x lines = ap (λ e. text_next (end_text names e steps) no_line lines) (ending-erased c x)

  replay_on-erased : (steps : ℕ) (rest : Configuration → Comparison) (c : Configuration) (x : StepOutcome) (lines : List Line) → ((next : Configuration) → rest (erased_configuration next) ≡ rest next)
      → replay_on names steps rest (erased_configuration c) (erased_outcome x) lines ≡ replay_on names steps rest c x lines
  replay_on-erased steps rest c Stuck lines same = end-erased steps c Stuck lines
  replay_on-erased steps rest c Final lines same = end-erased steps c Final lines
  replay_on-erased steps rest c (Next event next) lines same = ap (λ f. event_next names event f lines) (same next)
  replay_on-erased steps rest c (Ask n op a resume) lines same = λ i. operation_next names n op a (λ answer. same (resume answer) i) lines

  replay_from-erased : (fuel steps : ℕ) (c : Configuration) (lines : List Line) → replay_from names steps fuel (erased_configuration c) lines ≡ replay_from names steps fuel c lines
  replay_from-erased zero steps c lines =
      ap (λ x. end_next names steps (erased_configuration c) x lines) (step-erased c) ∙ end-erased steps c (step c) lines
  replay_from-erased (suc fuel) steps c lines =
      ap (λ x. replay_on names steps (replay_from names (suc steps) fuel) (erased_configuration c) x lines) (step-erased c)
      ∙ replay_on-erased steps (replay_from names (suc steps) fuel) c (step c) lines (λ next i ls. replay_from-erased fuel (suc steps) next ls i)

pub replay-erased : (names : List (List ℕ)) (steps fuel : ℕ) (c : Configuration) (lines : List Line) → replay_from names steps fuel (erased_configuration c) lines ≡ replay_from names steps fuel c lines
replay-erased names steps fuel c lines = replay_from-erased names fuel steps c lines

pub alike_replay_alike : AlikeReplayAlike
alike_replay_alike names fuel left right lines same =
    sym (replay-erased names 0 fuel left lines) ∙ ap (λ c. replay_from names 0 fuel c lines) same ∙ replay-erased names 0 fuel right lines
