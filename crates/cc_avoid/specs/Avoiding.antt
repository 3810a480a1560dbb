-- What the avoidance of positions answers, and what stands for it on the way.
use Rattle.std.specs.Prelude.{◌≡◌, ℕ, Bool, Option, Some, None}
use Rattle.std.specs.Option.{option_map}
use Rattle.std.specs.declared.result.Result.{Result}
use Rattle.std.specs.declared.result.Result.TheVariants.{Ok, Err}
use Rattle.cc_capture.specs.Sets.{Set}
use Rattle.cc_core.specs.Shapes.{Shape, FunctionShape, TypeFunctionShape, BoxShape, CapturingType}
use Rattle.cc_core.specs.Contexts.{TermEntry, Context, lookup}
use Rattle.cc_core.specs.TermViews.{shape_of, type_of}
use Rattle.cc_core.specs.declared.types.Ty.{Ty}
use Rattle.cc_checking.specs.Avoidance.{Sign, Positive, Negative, avoided_type, unless_free}
use Rattle.cc_avoid.specs.declared.avoiding.AvoidError.{AvoidError}
use Rattle.cc_avoid.specs.declared.avoiding.AvoidError.TheVariants as errors
use Rattle.cc_avoid.specs.declared.sign.Sign.{Sign as DeclaredSign}
use Rattle.cc_avoid.specs.declared.sign.Sign.TheVariants as signs
use Rattle.cc_avoid.specs.declared.walking.AvoidedShape.{AvoidedShape}
use Rattle.cc_avoid.specs.declared.walking.AvoidedShape.TheVariants as shapes
use Rattle.cc_avoid.specs.declared.walking.AvoidedType.{AvoidedType}
use Rattle.cc_avoid.specs.declared.walking.AvoidedType.TheVariants as types

-- the position is that of a variable of terms
abbrev pub IsTermPosition : Context → ℕ → Type 0
IsTermPosition context position =
    (shape : Shape) × (declared : Set) × (lookup context position ≡ Some (TermEntry shape declared))

-- The answer for a type and a position with a declared set: the type in which the position is avoided at a positive
-- place, or that there is none; nothing is said where there was no memory.
abbrev pub Avoids : ℕ → Set → CapturingType → Result Ty AvoidError → Type 0
Avoids position declared type (Ok found) = avoided_type Positive position declared type ≡ Some (type_of found)
Avoids position declared type (Err errors.Unavoidable) = avoided_type Positive position declared type ≡ None
Avoids position declared type (Err errors.NoMemory) = Unit {0}

-- the sign
abbrev pub sign_of : DeclaredSign → Sign
sign_of signs.Positive = Positive
sign_of signs.Negative = Negative

-- what a shape became, if there is an answer
abbrev pub given_shape : Shape → AvoidedShape → Option Shape
given_shape shape shapes.Kept = Some shape
given_shape shape (shapes.Changed new) = Some (shape_of new.value)
given_shape shape shapes.Unavoidable = None

-- the same of a type
abbrev pub given_type : CapturingType → AvoidedType → Option CapturingType
given_type type types.Kept = Some type
given_type type (types.Changed new) = Some (type_of new.value)
given_type type types.Unavoidable = None

-- functions, where both types have an answer
abbrev pub given_function : Option CapturingType → Option CapturingType → Option Shape
given_function (Some takes) (Some gives) = Some (FunctionShape takes.shape takes.set gives.shape gives.set)
given_function (Some takes) None = None
given_function None gives = None

-- type functions, where no position is free in the bound
abbrev pub given_type_function : Bool → Shape → Option CapturingType → Option Shape
given_type_function free bound gives =
    unless_free free (option_map (λ type. TypeFunctionShape bound type.shape type.set) gives)

-- boxes
abbrev pub given_box : Option CapturingType → Option Shape
given_box content = option_map (λ type. BoxShape type.shape type.set) content
