-- What a list of claims is, or is not.
use Rattle.std.specs.Prelude.{◌≡◌, List, Option, None}
use Rattle.cc_core.specs.Shapes.{Shape, CapturingType}
use Rattle.cc_core.specs.Derivations.{Claim}
use Rattle.cc_derivation.specs.Rows.{of_one, of_two, of_three, of_type_and_shapes, of_type_and_types}

-- the claims are no single type
abbrev pub AreNotOneType : List Claim → Type 0
AreNotOneType claims = (given : CapturingType → Option CapturingType) → of_one given claims ≡ None

-- no two types
abbrev pub AreNotTwoTypes : List Claim → Type 0
AreNotTwoTypes claims = (given : CapturingType → CapturingType → Option CapturingType) → of_two given claims ≡ None

-- no three types
abbrev pub AreNotThreeTypes : List Claim → Type 0
AreNotThreeTypes claims =
    (given : CapturingType → CapturingType → CapturingType → Option CapturingType) → of_three given claims ≡ None

-- no type with a comparison of shapes
abbrev pub AreNotTypeAndShapes : List Claim → Type 0
AreNotTypeAndShapes claims =
    (given : CapturingType → Shape → Shape → Option CapturingType) → of_type_and_shapes given claims ≡ None

-- no type with a comparison of types
abbrev pub AreNotTypeAndTypes : List Claim → Type 0
AreNotTypeAndTypes claims =
    (given : CapturingType → CapturingType → CapturingType → Option CapturingType) → of_type_and_types given claims ≡ None
