-- Whether what is found is the same.
use Rattle.std.specs.Prelude.{◌≡◌, ◌↔◌, ℕ, nat_eq, Bool, false, true, List}
use Rattle.std.specs.Cmp.Lexicographic.{pointwise}
use Rattle.cc_core.specs.Equality.{same_type}
use Rattle.cc_core.specs.Shapes.{CapturingType}
use Rattle.cc_verdicts.specs.ModuleVerdicts.{Finding, FoundDefinition, NoModule, InCycle, RefusedModule}
use Rattle.cc_verdicts.specs.ModuleVerdicts.{NoDefinition}

-- a number for each kind of finding
abbrev pub kind_of : Finding → ℕ
kind_of (FoundDefinition signature) = 0
kind_of NoModule = 1
kind_of InCycle = 2
kind_of RefusedModule = 3
kind_of NoDefinition = 4

-- whether it is a definition with this signature
abbrev pub is_found_as : CapturingType → Finding → Bool
is_found_as signature (FoundDefinition other) = same_type signature other
is_found_as signature NoModule = false
is_found_as signature InCycle = false
is_found_as signature RefusedModule = false
is_found_as signature NoDefinition = false

-- whether two findings are one
abbrev pub same_finding : Finding → Finding → Bool
same_finding (FoundDefinition signature) other = is_found_as signature other
same_finding NoModule other = nat_eq 1 (kind_of other)
same_finding InCycle other = nat_eq 2 (kind_of other)
same_finding RefusedModule other = nat_eq 3 (kind_of other)
same_finding NoDefinition other = nat_eq 4 (kind_of other)

-- whether what is found for some imports is the same
abbrev pub same_findings : List Finding → List Finding → Bool
same_findings = pointwise same_finding

-- the tests say yes exactly where the findings are one
abbrev pub SameFindingsDecides : Type 0
SameFindingsDecides = (left right : List Finding) → (same_findings left right ≡ true) ↔ (left ≡ right)
