-- That avoiding the newest variable gives the least type above that does not name it, and at a negative sign the
-- greatest one below.
use Rattle.std.specs.Prelude.{◌≡◌, ◌⊎◌, ℕ, false, [], ◌∷◌, length, Some}
use Rattle.cc_base.specs.declared.literal.Base.TheVariants as bases
use Rattle.cc_capture.specs.declared.var.Var.TheVariants.{Bound, Free}
use Rattle.cc_capture.specs.declared.var.Elem.TheVariants.{Var as Variable, Cap}
use Rattle.cc_capture.specs.Sets.{Set, empty}
use Rattle.cc_core.specs.Shapes.{Shape, BaseShape, AnyShape, TypeVariable, FunctionShape, TypeFunctionShape, BoxShape}
use Rattle.cc_core.specs.Shapes.{ExitShape, CapturingType, capturing}
use Rattle.cc_core.specs.Contexts.{TermEntry, Context}
use Rattle.cc_core.specs.Substitution.{single}
use Rattle.cc_core.specs.WellFormed.{IsWellFormedContext, IsWellFormedType}
use Rattle.cc_core.specs.Subtyping.{SubtypesType}
use Rattle.cc_checking.specs.Avoidance.{Sign, Positive, Negative, opposite, has_position, avoided_type}

-- the set does not lose the position, as one at a negative place does that has it
abbrev pub LosesNothingIn : Sign → ℕ → Set → Type 0
LosesNothingIn Positive position set = Unit {0}
LosesNothingIn Negative position set = has_position position set ≡ false

-- no set of the shape loses the position
abbrev pub LosesNothing : Sign → ℕ → Shape → Type 0
LosesNothing sign position (BaseShape base) = Unit {0}
LosesNothing sign position AnyShape = Unit {0}
LosesNothing sign position (TypeVariable variable) = Unit {0}
LosesNothing sign position (FunctionShape takes c gives e) =
    LosesNothing (opposite sign) position takes × LosesNothingIn (opposite sign) position c
    × LosesNothing sign position gives × LosesNothingIn sign position e
LosesNothing sign position (TypeFunctionShape bound gives e) =
    LosesNothing sign position gives × LosesNothingIn sign position e
LosesNothing sign position (BoxShape content c) = LosesNothing sign position content × LosesNothingIn sign position c
LosesNothing sign position (ExitShape gives) = Unit {0}

-- A function at a negative place does not have the position both in its parameter's set, which then grows, and in a set
-- of what it gives that loses it.
abbrev pub IsOnOneSide : Sign → ℕ → Set → Shape → Set → Type 0
IsOnOneSide Positive position c gives e = Unit {0}
IsOnOneSide Negative position c gives e =
    (has_position position c ≡ false) ⊎ (LosesNothing Negative position gives × LosesNothingIn Negative position e)

-- So it is with each function of the shape.
abbrev pub NamesOnOneSide : Sign → ℕ → Shape → Type 0
NamesOnOneSide sign position (BaseShape base) = Unit {0}
NamesOnOneSide sign position AnyShape = Unit {0}
NamesOnOneSide sign position (TypeVariable variable) = Unit {0}
NamesOnOneSide sign position (FunctionShape takes c gives e) =
    NamesOnOneSide (opposite sign) position takes × NamesOnOneSide sign position gives
    × IsOnOneSide sign position c gives e
NamesOnOneSide sign position (TypeFunctionShape bound gives e) = NamesOnOneSide sign position gives
NamesOnOneSide sign position (BoxShape content c) = NamesOnOneSide sign position content
NamesOnOneSide sign position (ExitShape gives) = Unit {0}

-- What a type becomes where the newest variable is avoided is below each type above it that does not name the
-- variable.
abbrev pub AvoidingGivesTheLeastSupertype : Type 0
AvoidingGivesTheLeastSupertype =
    (context : Context) (shape : Shape) (declared : Set) (type result other : CapturingType)
    → IsWellFormedContext (TermEntry shape declared ∷ context)
    → IsWellFormedType (TermEntry shape declared ∷ context) type → IsWellFormedType context other
    → NamesOnOneSide Positive (length context) type.shape
    → avoided_type Positive (length context) declared type ≡ Some result
    → SubtypesType (TermEntry shape declared ∷ context) type other → SubtypesType context result other

-- At a negative sign it is above each type below it that does not.
abbrev pub AvoidingGivesTheGreatestSubtype : Type 0
AvoidingGivesTheGreatestSubtype =
    (context : Context) (shape : Shape) (declared : Set) (type result other : CapturingType)
    → IsWellFormedContext (TermEntry shape declared ∷ context)
    → IsWellFormedType (TermEntry shape declared ∷ context) type → IsWellFormedType context other
    → NamesOnOneSide Negative (length context) type.shape
    → avoided_type Negative (length context) declared type ≡ Some result
    → SubtypesType (TermEntry shape declared ∷ context) other type → SubtypesType context other result

-- the type of a function that takes an f: (y: Int^c) -> Int^e, where f and what the function gives capture nothing
abbrev pub takes_a_function : Set → Set → CapturingType
takes_a_function c e =
    capturing
    (FunctionShape (FunctionShape (BaseShape bases.Int) c (BaseShape bases.Int) e) empty (BaseShape bases.Int) empty)
    empty

-- a variable x: Int^{cap}
abbrev pub context_of_x : Context
context_of_x = TermEntry (BaseShape bases.Int) (single Cap) ∷ []

-- with an f: (y: Int^{x}) -> Int^{x}
abbrev pub f_from_x_to_x : CapturingType
f_from_x_to_x = takes_a_function (single (Variable (Free 0))) (single (Variable (Free 0)))

-- with an f: (y: Int^{cap}) -> Int^{y}
abbrev pub f_from_cap_to_y : CapturingType
f_from_cap_to_y = takes_a_function (single Cap) (single (Variable (Bound 0)))

-- with an f: (y: Int^{cap}) -> Int
abbrev pub f_from_cap_to_nothing : CapturingType
f_from_cap_to_nothing = takes_a_function (single Cap) empty

-- Where a function at a negative place has x on both sides, what the type becomes need not be least: the first of these
-- types is below the second, which does not name x, and becomes the third, which is not below it.
abbrev pub NotLeastOnBothSides : Type 0
NotLeastOnBothSides =
    IsWellFormedContext context_of_x × IsWellFormedType context_of_x f_from_x_to_x
    × IsWellFormedType [] f_from_cap_to_y
    × SubtypesType context_of_x f_from_x_to_x f_from_cap_to_y
    × (avoided_type Positive 0 (single Cap) f_from_x_to_x ≡ Some f_from_cap_to_nothing)
    × (SubtypesType [] f_from_cap_to_nothing f_from_cap_to_y → ⊥)
