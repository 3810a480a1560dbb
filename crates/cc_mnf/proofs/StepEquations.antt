-- What comes after a step that gives a value, and after one that refuses.
use Rattle.std.proofs.Common.{◌≡◌, ℕ, refl, ap}
use Rattle.cc_base.specs.declared.code.Code.{Code}
use Rattle.cc_base.specs.declared.place.Place.{Place}
use Rattle.cc_mnf.specs.Steps.{Refused, Found, Step, goes_on, followed, gives, refuses}

pub followed_gives : {A B : Type 0} (value : A) (next : A → Step B) → followed (gives value) next ≡ next value
unfolding followed gives
followed_gives value next = refl

pub followed_refuses : {A B : Type 0} (code : Code) (at : Place) (next : A → Step B)
    → followed (refuses code at) next ≡ refuses code at
unfolding followed refuses
followed_refuses code at next = refl

pub gives_found : {A : Type 0} (value : A) (holes : ℕ) → gives value holes ≡ Found value holes
unfolding gives
gives_found value holes = refl

-- what comes after a step whose outcome is known
pub followed_found : {A B : Type 0} (step : Step A) (next : A → Step B) (before after : ℕ) (value : A)
    → step before ≡ Found value after → followed step next before ≡ next value after
unfolding followed
followed_found step next before after value is = ap (goes_on next) is

pub followed_refused : {A B : Type 0} (step : Step A) (next : A → Step B) (before : ℕ) (code : Code) (at : Place)
    → step before ≡ Refused code at → followed step next before ≡ Refused code at
unfolding followed
followed_refused step next before code at is = ap (goes_on next) is

-- the same where the step makes no hole
pub followed_given : {A B : Type 0} (step : Step A) (next : A → Step B) (before : ℕ) (value : A)
    → step ≡ gives value → followed step next before ≡ next value before
unfolding followed gives
followed_given step next before value is = ap (λ s. goes_on next (s before)) is

pub followed_not_given : {A B : Type 0} (step : Step A) (next : A → Step B) (before : ℕ) (code : Code) (at : Place)
    → step ≡ refuses code at → followed step next before ≡ Refused code at
unfolding followed refuses
followed_not_given step next before code at is = ap (λ s. goes_on next (s before)) is
