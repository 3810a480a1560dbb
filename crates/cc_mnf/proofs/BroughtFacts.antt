-- What steps bring that are told so many holes: a property of the value and of the number of holes after it. A refusal
-- brings nothing.
use Rattle.std.proofs.Common.{◌≡◌, ℕ, zero, ◌+◌, Option, Some, None, refl}
use Rattle.cc_base.specs.declared.code.Code.{Code}
use Rattle.cc_base.specs.declared.place.Place.{Place}
use Rattle.cc_mnf.specs.Steps.{ElaborationOutcome, Refused, Found, Step, goes_on, followed, gives, refuses, or_refused, new_hole, with_own_holes}
use Rattle.cc_mnf.proofs.StepFacts.{Finds, Always}

abbrev pub Comes : {A : Type 0} → (A → ℕ → Type 0) → ElaborationOutcome A → Type 0
Comes P (Refused code at) = Unit {0}
Comes P (Found value holes) = P value holes

pub record Brings {A : Type 0} (P : A → ℕ → Type 0) (step : Step A) (before : ℕ) : Type 0 where
  pub comes : Comes P (step before)

goes_on_comes : {A B : Type 0} (P : A → ℕ → Type 0) (Q : B → ℕ → Type 0) (next : A → Step B) (o : ElaborationOutcome A)
    → Comes P o → ((v : A) (middle : ℕ) → P v middle → Brings Q (next v) middle) → Comes Q (goes_on next o)
goes_on_comes P Q next (Refused code at) h n = tt
goes_on_comes P Q next (Found v middle) h n = (n v middle h).comes

-- a step, and what follows for its value
pub then_brings : {A B : Type 0} {P : A → ℕ → Type 0} {Q : B → ℕ → Type 0} {step : Step A} {next : A → Step B}
    {before : ℕ} → Brings P step before → ((v : A) (middle : ℕ) → P v middle → Brings Q (next v) middle)
    → Brings Q (followed step next) before
unfolding followed
then_brings {P = P} {Q = Q} {step = step} {next = next} {before = before} h n =
    record { comes = goes_on_comes P Q next (step before) h.comes n }

pub gives_brings : {A : Type 0} {P : A → ℕ → Type 0} {before : ℕ} (v : A) → P v before → Brings P (gives v) before
unfolding gives
gives_brings v h = record { comes = h }

pub refuses_brings : {A : Type 0} {P : A → ℕ → Type 0} {before : ℕ} (code : Code) (at : Place)
    → Brings P (refuses code at) before
unfolding refuses
refuses_brings code at = record { comes = tt }

pub or_refused_brings : {A : Type 0} {before : ℕ} (code : Code) (at : Place) (o : Option A)
    → Brings (λ v after. before ≡ after) (or_refused code at o) before
or_refused_brings code at (Some v) = gives_brings v refl
or_refused_brings code at None = refuses_brings code at

pub new_hole_brings : {before : ℕ}
    → Brings (λ hole after. (hole ≡ before) × (before + 1 ≡ after)) new_hole before
unfolding new_hole
new_hole_brings = record { comes = (refl, refl) }

always_comes : {A : Type 0} (P : A → Type 0) (o : ElaborationOutcome A) → Finds P o → Comes (λ v after. P v) o
always_comes P (Refused code at) h = tt
always_comes P (Found v after) h = h

-- what always holds is brought
pub always_brings : {A : Type 0} {P : A → Type 0} {step : Step A} {before : ℕ} → Always P step
    → Brings (λ v after. P v) step before
always_brings {P = P} {step = step} {before = before} h =
    record { comes = always_comes P (step before) (h.finds before) }

both_come : {A : Type 0} (P Q : A → ℕ → Type 0) (o : ElaborationOutcome A) → Comes P o → Comes Q o
    → Comes (λ v after. P v after × Q v after) o
both_come P Q (Refused code at) h k = tt
both_come P Q (Found v after) h k = (h, k)

pub both_brought : {A : Type 0} {P Q : A → ℕ → Type 0} {step : Step A} {before : ℕ} → Brings P step before
    → Brings Q step before → Brings (λ v after. P v after × Q v after) step before
both_brought {P = P} {Q = Q} {step = step} {before = before} h k =
    record { comes = both_come P Q (step before) h.comes k.comes }

weaker_comes : {A : Type 0} (P Q : A → ℕ → Type 0) (o : ElaborationOutcome A)
    → ((v : A) (after : ℕ) → P v after → Q v after) → Comes P o → Comes Q o
weaker_comes P Q (Refused code at) f h = tt
weaker_comes P Q (Found v after) f h = f v after h

pub weaker_brings : {A : Type 0} {P Q : A → ℕ → Type 0} {step : Step A} {before : ℕ}
    → ((v : A) (after : ℕ) → P v after → Q v after) → Brings P step before → Brings Q step before
weaker_brings {P = P} {Q = Q} {step = step} {before = before} f h =
    record { comes = weaker_comes P Q (step before) f h.comes }

own_holes_come : {A : Type 0} (P : A → Type 0) (before : ℕ) (o : ElaborationOutcome A) → Comes (λ v after. P v) o
    → Comes (λ v after. P v) (goes_on (λ value holes'. Found value before) o)
own_holes_come P before (Refused code at) h = tt
own_holes_come P before (Found v after) h = h

-- a step with holes of its own brings what it brings from the first number on
pub own_holes_bring : {A : Type 0} {P : A → Type 0} {step : Step A} {before : ℕ}
    → Brings (λ v after. P v) step zero → Brings (λ v after. P v) (with_own_holes step) before
unfolding with_own_holes
own_holes_bring {P = P} {step = step} {before = before} h =
    record { comes = own_holes_come P before (step zero) h.comes }
