-- The laws of avoiding a variable in a type.
use Rattle.std.specs.Prelude.{◌≡◌, ◌↔◌, ℕ, true, false, ◌∷◌, length, Some, None}
use Rattle.cc_capture.specs.Sets.{Set}
use Rattle.cc_core.specs.Shapes.{Shape, CapturingType}
use Rattle.cc_core.specs.Contexts.{TermEntry, Context, lookup}
use Rattle.cc_core.specs.Occurrences.{MeetsInSet, bound_within}
use Rattle.cc_core.specs.WellFormed.{IsWellFormedSet, IsWellFormedType}
use Rattle.cc_core.specs.Subtyping.{SubtypesType}
use Rattle.cc_checking.specs.Avoidance.{Sign, Positive, Negative, has_position, is_free_in_type, is_free_in_invariant_place}
use Rattle.cc_checking.specs.Avoidance.{avoided_type}

-- At a positive sign a type is below what it becomes, in every context that declares the position with the set.
abbrev pub AvoidingGivesASupertype : Type 0
AvoidingGivesASupertype =
    (context : Context) (position : ℕ) (shape : Shape) (declared : Set) (type result : CapturingType)
    → lookup context position ≡ Some (TermEntry shape declared) → MeetsInSet (bound_within 0) 0 declared
    → avoided_type Positive position declared type ≡ Some result → SubtypesType context type result

-- At a negative sign what it becomes is below the type.
abbrev pub AvoidingGivesASubtype : Type 0
AvoidingGivesASubtype =
    (context : Context) (position : ℕ) (shape : Shape) (declared : Set) (type result : CapturingType)
    → lookup context position ≡ Some (TermEntry shape declared) → MeetsInSet (bound_within 0) 0 declared
    → avoided_type Negative position declared type ≡ Some result → SubtypesType context result type

-- there is no answer exactly where the position is free in an invariant place
abbrev pub RefusedInInvariantPlaces : Type 0
RefusedInInvariantPlaces =
    (sign : Sign) (position : ℕ) (declared : Set) (type : CapturingType)
    → (avoided_type sign position declared type ≡ None) ↔ (is_free_in_invariant_place position type.shape ≡ true)

-- the position is gone, unless its own set brings it back
abbrev pub AvoidedIsGone : Type 0
AvoidedIsGone =
    (context : Context) (sign : Sign) (position : ℕ) (shape : Shape) (declared : Set) (type result : CapturingType)
    → lookup context position ≡ Some (TermEntry shape declared) → has_position position declared ≡ false
    → IsWellFormedType context type → avoided_type sign position declared type ≡ Some result
    → is_free_in_type position result ≡ false

-- what is avoided stays well formed
abbrev pub AvoidingKeepsWellFormedness : Type 0
AvoidingKeepsWellFormedness =
    (context : Context) (sign : Sign) (position : ℕ) (declared : Set) (type result : CapturingType)
    → IsWellFormedSet context declared → IsWellFormedType context type
    → avoided_type sign position declared type ≡ Some result → IsWellFormedType context result

-- where the newest variable is avoided, the result is well formed without it
abbrev pub AvoidingLeavesTheScope : Type 0
AvoidingLeavesTheScope =
    (context : Context) (sign : Sign) (shape : Shape) (declared : Set) (type result : CapturingType)
    → IsWellFormedSet context declared → IsWellFormedType (TermEntry shape declared ∷ context) type
    → avoided_type sign (length context) declared type ≡ Some result → IsWellFormedType context result

-- a type in which the position is not free stays as it is
abbrev pub NothingToAvoid : Type 0
NothingToAvoid =
    (sign : Sign) (position : ℕ) (declared : Set) (type : CapturingType)
    → is_free_in_type position type ≡ false → avoided_type sign position declared type ≡ Some type
