-- What is filled in is a value, and a function, exactly where it was one before.
use Rattle.std.proofs.Common.{◌≡◌, refl}
use Rattle.cc_core.specs.Captured.{is_value}
use Rattle.cc_core.specs.Stores.{is_function}
use Rattle.cc_core.specs.Terms.{Term}
use Rattle.cc_filled.specs.FilledTerms.{IsFilledAs, fills-variable, fills-literal, fills-function, fills-type_function, fills-box, fills-application, fills-type_application, fills-unboxing, fills-let, fills-primitive, fills-choice, fills-repetition, fills-operation, fills-boundary, fills-exit}

pub values_stay : (t u : Term) → IsFilledAs t u → (is_value u ≡ is_value t) × (is_function u ≡ is_function t)
values_stay _ _ fills-variable = (refl, refl)
values_stay _ _ fills-literal = (refl, refl)
values_stay _ _ (fills-function set body) = (refl, refl)
values_stay _ _ (fills-type_function body) = (refl, refl)
values_stay _ _ fills-box = (refl, refl)
values_stay _ _ fills-application = (refl, refl)
values_stay _ _ fills-type_application = (refl, refl)
values_stay _ _ (fills-unboxing set) = (refl, refl)
values_stay _ _ (fills-let note right body) = (refl, refl)
values_stay _ _ fills-primitive = (refl, refl)
values_stay _ _ (fills-choice note one other) = (refl, refl)
values_stay _ _ fills-repetition = (refl, refl)
values_stay _ _ fills-operation = (refl, refl)
values_stay _ _ (fills-boundary body) = (refl, refl)
values_stay _ _ fills-exit = (refl, refl)
