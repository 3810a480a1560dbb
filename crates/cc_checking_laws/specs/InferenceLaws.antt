-- The laws of inference.
use Rattle.std.specs.Prelude.{◌≡◌, ℕ, nat_le, true, List}
use Rattle.cc_core.specs.Terms.{Term}
use Rattle.cc_core.specs.Contexts.{Context}
use Rattle.cc_core.specs.Sizes.{type_size}
use Rattle.cc_core.specs.Places.{Places}
use Rattle.cc_checking.specs.Outcomes.{Outcome, Placed, Found}
use Rattle.cc_checking.specs.Inference.{Result, Infers, greatest_size}

-- a term has at most one outcome
abbrev pub OutcomesAreUnique : Type 0
OutcomesAreUnique =
    (root : ℕ) (context : Context) (term : Term) (places : Places) (first second : Outcome Result)
    → Infers root context term places first → Infers root context term places second → first ≡ second

-- no type that is inferred is larger than the greatest size
abbrev pub InferredTypesAreNotTooLarge : Type 0
InferredTypesAreNotTooLarge =
    (root : ℕ) (context : Context) (term : Term) (places : Places) (found : Result) (asked : List Placed)
    → Infers root context term places (Found found asked) → nat_le (type_size found.type) greatest_size ≡ true
