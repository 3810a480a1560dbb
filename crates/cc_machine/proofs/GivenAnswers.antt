-- What a machine stands for steps without devices as what it holds does.
use Rattle.std.proofs.Common.{◌≡◌, ℕ, Option, Some, None, refl, sym, ap, ◌∙◌, subst}
use Rattle.std.proofs.Math.Logic.{∥∥₁_elim}
use Rattle.cc_base.specs.declared.literal.Op.{Op}
use Rattle.cc_base.specs.Literals.{Literal}
use Rattle.cc_core.specs.Typing.{base_of, base_answered}
use Rattle.cc_device.specs.Events.{Event, Operated, literal_shown}
use Rattle.cc_machine.specs.Answering.{AdvancesAlike, GoesOnWith, AnswersAlike}
use Rattle.cc_machine.specs.Standing.{StandsFor, StandsSoundly}
use Rattle.cc_runs.specs.Alike.{erased_configuration}
use Rattle.cc_runs.specs.Machine.{Configuration, StepOutcome, Stuck, Final, Next, Ask, step}
use Rattle.cc_runs.specs.Soundness.{IsSoundOutcome, IsSoundStep}
use Rattle.cc_runs.proofs.Erasure.{erased_outcome, term-erased}
use Rattle.cc_runs.proofs.StepTheorem.{steps_are_sound}
use Rattle.cc_machine.specs.Asking.{Question, question_in, resumed_with, IsAnswerTo}
use Rattle.cc_machine.specs.declared.parts.Parts.{Parts}
use Rattle.cc_machine.specs.Lines.{GoesAs, Goes}
use Rattle.cc_machine.specs.Parts.{configuration_of}

step_held : (held configuration : Configuration) → StandsFor held configuration → step held ≡ erased_outcome (step configuration)
step_held held c stands = sym (ap step stands) ∙ term-erased c.store c.stack c.labels_made c.term

-- the question is the same
question-erased : (x : StepOutcome) → question_in (erased_outcome x) ≡ question_in x
question-erased Stuck = refl
question-erased Final = refl
question-erased (Next e n) = refl
question-erased (Ask n op a resume) = refl

pub asks_alike : {o : Option Question} (held : Configuration) → o ≡ question_in (step held) → (configuration : Configuration) → StandsFor held configuration
    → o ≡ question_in (step configuration)
asks_alike held is c stands = is ∙ ap question_in (step_held held c stands) ∙ question-erased (step c)

-- an outcome, from what is erased of it
stuck_back : (x : StepOutcome) → erased_outcome x ≡ Stuck → x ≡ Stuck
stuck_back Stuck is = refl
stuck_back Final is = cc
stuck_back (Next e n) is = cc
stuck_back (Ask n op a resume) is = cc

same_next : (e e' : Option Event) (n n' : Configuration) → Next e n ≡ Next e' n' → (e ≡ e') × (n ≡ n')
same_next e e' n n' is = (cc, cc)

next_back : (x : StepOutcome) (e : Option Event) (n : Configuration) → erased_outcome x ≡ Next e n
    → (n' : Configuration) × (x ≡ Next e n') × (erased_configuration n' ≡ n)
next_back Stuck e n is = cc
next_back Final e n is = cc
next_back (Next e' n') e n is =
    let parts = same_next e' e (erased_configuration n') n is in (n', ap (λ x. Next x n') parts.0, parts.1)
next_back (Ask m op a resume) e n is = cc

same_question : (n n' : ℕ) (op op' : Op) (a a' : Option Literal) (r r' : Literal → Configuration) → Ask n op a r ≡ Ask n' op' a' r'
    → (n ≡ n') × (op ≡ op') × (a ≡ a') × (r ≡ r')
same_question n n' op op' a a' r r' is = (cc, cc, cc, cc)

ask_back : (x : StepOutcome) (n : ℕ) (op : Op) (a : Option Literal) (r : Literal → Configuration) → erased_outcome x ≡ Ask n op a r
    → (r' : Literal → Configuration) × (x ≡ Ask n op a r') × ((answer : Literal) → erased_configuration (r' answer) ≡ r answer)
ask_back Stuck n op a r is = cc
ask_back Final n op a r is = cc
ask_back (Next e n') n op a r is = cc
ask_back (Ask n' op' a' r') n op a r is =
    let parts = same_question n' n op' op a' a (λ l. erased_configuration (r' l)) r is in
    (r', (λ i. Ask (parts.0 i) (parts.1 i) (parts.2 i) r'), λ answer. ap (λ f. f answer) parts.3)

-- a step by itself
pub advances_alike : (held : Configuration) (event : Option Event) (held' : Configuration) → step held ≡ Next event held' → AdvancesAlike held event held'
advances_alike held event held' is = record {
  advances = λ c stands. next_back (step c) event held' (sym (step_held held c stands) ∙ is);
  keeps = λ c next stands sound goes. subst (IsSoundOutcome c) goes (steps_are_sound c sound);
}

never_stuck : (held : Configuration) → StandsSoundly held → step held ≡ Stuck → ⊥
never_stuck held (c, sound, stands) is =
    subst (IsSoundOutcome c) (stuck_back (step c) (sym (step_held held c stands) ∙ is)) (steps_are_sound c sound)

exactly : (x : StepOutcome) (e : Option Event) (n : Configuration) → GoesAs x e n → (x ≡ Stuck → ⊥) → (x ≡ Final → ⊥) → x ≡ Next e n
exactly Stuck e n goes stuck final = absurd (stuck refl)
exactly Final e n goes stuck final = absurd (final refl)
exactly (Next e' n') e n goes stuck final = λ i. Next (goes.0 i) (goes.1 i)
exactly (Ask m op a resume) e n goes stuck final = absurd goes

advances_exactly : (held : Configuration) (event : Option Event) (next : Configuration) → ∥ StandsSoundly held ∥₁ → (step held ≡ Final → ⊥)
    → GoesAs (step held) event next → step held ≡ Next event next
advances_exactly held event next sound running goes =
    exactly (step held) event next goes (λ is. ∥∥₁_elim sound (hlevel) (λ s. never_stuck held s is)) running

advances_soundly : (held : Configuration) (event : Option Event) (held' : Configuration) → step held ≡ Next event held' → ∥ StandsSoundly held ∥₁
    → ∥ StandsSoundly held' ∥₁
advances_soundly held event held' is sound =
    let alike = advances_alike held event held' is in
    ∥∥₁_elim sound (hlevel) (λ s. let next = alike.advances s.0 s.2 in ∣ (next.0, (alike.keeps s.0 next.0 s.2 s.1 next.1).sound, next.2) ∣₁)

-- the same after room was made
module _ (before : Parts) {ready after : Parts} (event : Option Event) (same : configuration_of ready ≡ configuration_of before) (goes : Goes (step (configuration_of ready)) ready event after)
    (sound : ∥ StandsSoundly (configuration_of before) ∥₁) (running : step (configuration_of before) ≡ Final → ⊥) where
  pub advanced_next : step (configuration_of before) ≡ Next event (configuration_of after)
  advanced_next =
      advances_exactly (configuration_of before) event (configuration_of after) sound running
      (subst (λ h. GoesAs (step h) event (configuration_of after)) same goes.follows)

  pub advanced_stands : ∥ StandsSoundly (configuration_of after) ∥₁
  advanced_stands = advances_soundly (configuration_of before) event (configuration_of after) advanced_next sound

-- a step with an answer
of_question : (answer : Literal) (c after : Configuration) (event : Event) (x : StepOutcome) (q : Question) → step c ≡ x → Some q ≡ question_in x → base_of answer ≡ base_answered q.operation
    → resumed_with answer x ≡ Some after → event ≡ Operated q.device q.operation (literal_shown q.argument answer) → GoesOnWith answer c event after
of_question answer c after event Stuck q is asks of_kind resumes tells = cc
of_question answer c after event Final q is asks of_kind resumes tells = cc
of_question answer c after event (Next e n) q is asks of_kind resumes tells = cc
of_question answer c after event (Ask n op a resume) q is asks of_kind resumes tells =
    let same : (record { device = n; operation = op; argument = a }) ≡ q = cc in
    let next : resume answer ≡ after = cc in
    record {
      device = n;
      operation = op;
      argument = a;
      resume = resume;
      asks = is;
      of_kind = of_kind ∙ sym (ap (λ p. base_answered p.operation) same);
      tells = tells ∙ sym (ap (λ p. Operated p.device p.operation (literal_shown p.argument answer)) same);
      resumes = next;
    }

kind_of : (q : Question) (o : Option Question) (answer : Literal) → Some q ≡ o → IsAnswerTo o answer → base_of answer ≡ base_answered q.operation
kind_of q None answer is h = absurd h
kind_of q (Some p) answer is h = let same : p ≡ q = cc in subst (λ r. base_of answer ≡ base_answered r.operation) same h

pub goes_on_with : (answer : Literal) (held held' : Configuration) (event : Event) (q : Question) → Some q ≡ question_in (step held) → IsAnswerTo (question_in (step held)) answer
    → resumed_with answer (step held) ≡ Some held' → event ≡ Operated q.device q.operation (literal_shown q.argument answer) → GoesOnWith answer held event held'
goes_on_with answer held held' event q asks answers resumes tells =
    of_question answer held held' event (step held) q refl asks (kind_of q (question_in (step held)) answer asks answers) resumes tells

pub answers_alike : (held : Configuration) (answer : Literal) (event : Event) (held' : Configuration) → GoesOnWith answer held event held' → AnswersAlike held answer event held'
answers_alike held answer event held' goes = record {
  goes_on = λ c stands.
      let found = ask_back (step c) goes.device goes.operation goes.argument goes.resume (sym (step_held held c stands) ∙ goes.asks) in (
        found.0 answer,
        record {
          device = goes.device;
          operation = goes.operation;
          argument = goes.argument;
          resume = found.0;
          asks = found.1;
          of_kind = goes.of_kind;
          tells = goes.tells;
          resumes = refl;
        },
        found.2 answer ∙ goes.resumes,
      );
  reaches = λ c next stands sound other. (subst (IsSoundOutcome c) other.asks (steps_are_sound c sound)).reached;
  keeps = λ c next stands sound other.
      subst (λ n. IsSoundStep c None n) other.resumes ((subst (IsSoundOutcome c) other.asks (steps_are_sound c sound)).answered answer other.of_kind);
}

pub answers_soundly : (held : Configuration) (answer : Literal) (event : Event) (held' : Configuration) → GoesOnWith answer held event held' → ∥ StandsSoundly held ∥₁
    → ∥ StandsSoundly held' ∥₁
answers_soundly held answer event held' goes sound =
    let alike = answers_alike held answer event held' goes in
    ∥∥₁_elim sound (hlevel) (λ s. let next = alike.goes_on s.0 s.2 in ∣ (next.0, (alike.keeps s.0 next.0 s.2 s.1 next.1).sound, next.2) ∣₁)
