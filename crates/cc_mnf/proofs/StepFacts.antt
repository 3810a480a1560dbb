-- What holds of steps whatever the number of holes before them, and how it goes from step to step.
use Rattle.std.proofs.Common.{◌≡◌, ℕ, Option, Some, None, refl}
use Rattle.cc_base.specs.declared.code.Code.{Code}
use Rattle.cc_base.specs.declared.code.Code.TheVariants.{E10, E11, E12, E19}
use Rattle.cc_base.specs.declared.place.Place.{Place}
use Rattle.cc_mnf.specs.Steps.{ElaborationOutcome, Refused, Found, Step, goes_on, followed, gives, refuses, or_refused, new_hole}

-- the codes that a part of a definition is refused with
abbrev pub IsOfPart : Code → Type 0
IsOfPart E10 = Unit {0}
IsOfPart E11 = Unit {0}
IsOfPart E12 = Unit {0}
IsOfPart E19 = Unit {0}
IsOfPart _ = ⊥

-- what is found has the property, and a refusal is one of a part
abbrev pub Finds : {A : Type 0} → (A → Type 0) → ElaborationOutcome A → Type 0
Finds P (Refused code at) = IsOfPart code
Finds P (Found value holes) = P value

pub record Always {A : Type 0} (P : A → Type 0) (step : Step A) : Type 0 where
  pub finds : (holes : ℕ) → Finds P (step holes)

goes_on_finds : {A B : Type 0} (P : A → Type 0) (Q : B → Type 0) (next : A → Step B) (o : ElaborationOutcome A) → Finds P o
    → ((v : A) → P v → Always Q (next v)) → Finds Q (goes_on next o)
goes_on_finds P Q next (Refused code at) h n = h
goes_on_finds P Q next (Found v holes) h n = (n v h).finds holes

-- a step, and what follows for its value
pub then_always : {A B : Type 0} {P : A → Type 0} {Q : B → Type 0} {step : Step A} {next : A → Step B}
    → Always P step → ((v : A) → P v → Always Q (next v)) → Always Q (followed step next)
unfolding followed
then_always {P = P} {Q = Q} {step = step} {next = next} h n =
    record { finds = λ holes. goes_on_finds P Q next (step holes) (h.finds holes) n }

pub gives_always : {A : Type 0} {P : A → Type 0} (v : A) → P v → Always P (gives v)
unfolding gives
gives_always v h = record { finds = λ holes. h }

pub refuses_always : {A : Type 0} {P : A → Type 0} (code : Code) (at : Place) → IsOfPart code
    → Always P (refuses code at)
unfolding refuses
refuses_always code at h = record { finds = λ holes. h }

pub or_refused_always : {A : Type 0} (code : Code) (at : Place) (o : Option A) → IsOfPart code
    → Always (λ v. o ≡ Some v) (or_refused code at o)
or_refused_always code at (Some v) h = gives_always v refl
or_refused_always code at None h = refuses_always code at h

pub new_hole_always : Always (λ hole. Unit {0}) new_hole
unfolding new_hole
new_hole_always = record { finds = λ holes. tt }

weaker_finds : {A : Type 0} (P Q : A → Type 0) (o : ElaborationOutcome A) → ((v : A) → P v → Q v) → Finds P o → Finds Q o
weaker_finds P Q (Refused code at) f h = h
weaker_finds P Q (Found v after) f h = f v h

pub always_weaker : {A : Type 0} {P Q : A → Type 0} {step : Step A} → ((v : A) → P v → Q v) → Always P step
    → Always Q step
always_weaker {P = P} {Q = Q} {step = step} f h =
    record { finds = λ holes. weaker_finds P Q (step holes) f (h.finds holes) }
