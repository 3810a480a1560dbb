-- What it means that a derivation is refused.
use Rattle.std.specs.Prelude.{ℕ, List}
use Rattle.cc_derivation.specs.Broken.{IsLeast}
use Rattle.cc_validity.specs.declared.error.ValidityError.{ValidityError}
use Rattle.cc_validity.specs.declared.error.ValidityError.TheVariants.{NoMemory, BadNode}

-- the number is the least of the list, where the error is a node
abbrev pub IsLeastBroken : ValidityError → List ℕ → Type 0
IsLeastBroken NoMemory numbers = Unit {0}
IsLeastBroken (BadNode number) numbers = IsLeast number numbers

-- where the error is a node, the fact does not hold
abbrev pub Denies : ValidityError → Type 0 → Type 0
Denies NoMemory Fact = Unit {0}
Denies (BadNode number) Fact = Fact → ⊥
