-- Steps that make no hole: what they find has a property, and the number of holes stays.
use Rattle.std.proofs.Common.{◌≡◌, ℕ, Option, Some, None, refl, sym, subst}
use Rattle.cc_base.specs.declared.code.Code.{Code}
use Rattle.cc_base.specs.declared.place.Place.{Place}
use Rattle.cc_mnf.specs.Steps.{ElaborationOutcome, Refused, Found, Step, goes_on, followed, gives, refuses, or_refused}
use Rattle.cc_mnf.proofs.BroughtFacts.{Comes, Brings}

pub record Keeps {A : Type 0} (P : A → Type 0) (step : Step A) : Type 0 where
  pub keeps : (holes : ℕ) → Comes (λ v after. P v × (holes ≡ after)) (step holes)

goes_on_keeps : {A B : Type 0} (P : A → Type 0) (Q : B → Type 0) (next : A → Step B) (holes : ℕ) (o : ElaborationOutcome A)
    → Comes (λ v after. P v × (holes ≡ after)) o → ((v : A) → P v → Keeps Q (next v))
    → Comes (λ v after. Q v × (holes ≡ after)) (goes_on next o)
goes_on_keeps P Q next holes (Refused code at) h n = tt
goes_on_keeps P Q next holes (Found v middle) h n =
    subst (λ m. Comes (λ w after. Q w × (m ≡ after)) (next v middle)) (sym h.1) ((n v h.0).keeps middle)

-- a step, and what follows for its value
pub then_keeps : {A B : Type 0} {P : A → Type 0} {Q : B → Type 0} {step : Step A} {next : A → Step B}
    → Keeps P step → ((v : A) → P v → Keeps Q (next v)) → Keeps Q (followed step next)
unfolding followed
then_keeps {P = P} {Q = Q} {step = step} {next = next} h n =
    record { keeps = λ holes. goes_on_keeps P Q next holes (step holes) (h.keeps holes) n }

goes_on_from : {A B : Type 0} (P : A → Type 0) (Q : B → ℕ → Type 0) (next : A → Step B) (holes : ℕ) (o : ElaborationOutcome A)
    → Comes (λ v after. P v × (holes ≡ after)) o → ((v : A) → P v → Brings Q (next v) holes)
    → Comes Q (goes_on next o)
goes_on_from P Q next holes (Refused code at) h n = tt
goes_on_from P Q next holes (Found v middle) h n = subst (λ m. Comes Q (next v m)) h.1 (n v h.0).comes

-- such a step, and what follows brings something
pub kept_then_brings : {A B : Type 0} {P : A → Type 0} {Q : B → ℕ → Type 0} {step : Step A} {next : A → Step B}
    {before : ℕ} → Keeps P step → ((v : A) → P v → Brings Q (next v) before) → Brings Q (followed step next) before
unfolding followed
kept_then_brings {P = P} {Q = Q} {step = step} {next = next} {before = before} h n =
    record { comes = goes_on_from P Q next before (step before) (h.keeps before) n }

pub gives_keeps : {A : Type 0} {P : A → Type 0} (v : A) → P v → Keeps P (gives v)
unfolding gives
gives_keeps v h = record { keeps = λ holes. (h, refl) }

pub refuses_keeps : {A : Type 0} {P : A → Type 0} (code : Code) (at : Place) → Keeps P (refuses code at)
unfolding refuses
refuses_keeps code at = record { keeps = λ holes. tt }

-- whatever is found
pub or_refused_keeps : {A : Type 0} (code : Code) (at : Place) (o : Option A)
    → Keeps (λ v. Unit {0}) (or_refused code at o)
or_refused_keeps code at (Some v) = gives_keeps v tt
or_refused_keeps code at None = refuses_keeps code at

kept_comes : {A : Type 0} (P : A → Type 0) (Q : A → ℕ → Type 0) (holes : ℕ) (o : ElaborationOutcome A)
    → ((v : A) → P v → Q v holes) → Comes (λ v after. P v × (holes ≡ after)) o → Comes Q o
kept_comes P Q holes (Refused code at) f h = tt
kept_comes P Q holes (Found v after) f h = subst (Q v) h.1 (f v h.0)

-- what is kept is brought
pub kept_brings : {A : Type 0} {P : A → Type 0} {Q : A → ℕ → Type 0} {step : Step A} {before : ℕ}
    → ((v : A) → P v → Q v before) → Keeps P step → Brings Q step before
kept_brings {P = P} {Q = Q} {step = step} {before = before} f h =
    record { comes = kept_comes P Q before (step before) f (h.keeps before) }
