-- Which position is avoided first where the type of a definition becomes its signature: the greatest one that is free
-- in it. Those that do not occur need not be looked at.
use Rattle.std.specs.Prelude.{◌≡◌, ℕ, zero, suc, ◌<◌, ◌≤◌, nat_lt, Bool, true, false, List, [], ◌∷◌, Option, Some, None}
use Rattle.std.specs.Prelude.{if◌then◌else◌}
use Rattle.std.specs.Option.{option_and_then}
use Rattle.cc_capture.specs.declared.var.Var.{Var}
use Rattle.cc_capture.specs.declared.var.Var.TheVariants.{Bound, Free}
use Rattle.cc_capture.specs.declared.var.Elem.{Elem}
use Rattle.cc_capture.specs.declared.var.Elem.TheVariants.{Var as Variable, Cap, Hole}
use Rattle.cc_capture.specs.Sets.{Set}
use Rattle.cc_core.specs.Shapes.{Shape, BaseShape, AnyShape, TypeVariable, FunctionShape, TypeFunctionShape, BoxShape}
use Rattle.cc_core.specs.Shapes.{ExitShape, CapturingType}
use Rattle.cc_core.specs.Contexts.{TermEntry, Context, lookup}
use Rattle.cc_core.specs.WellFormed.{IsWellFormedContext, IsWellFormedType}
use Rattle.cc_checking.specs.Avoidance.{Positive, is_free_in_type, avoided_type}
use Rattle.cc_checking.specs.Verdicts.{signature_of}
use Rattle.cc_checking_laws.specs.FillingLaws.{AreGlobals}

-- the greater of two positions, where there are any
abbrev pub greater_of : Option ℕ → Option ℕ → Option ℕ
greater_of None second = second
greater_of (Some one) None = Some one
greater_of (Some one) (Some other) = if nat_lt one other then Some other else Some one

-- the position of a variable, if it is free and from the first one on
abbrev pub position_from : ℕ → Var → Option ℕ
position_from first (Free position) = if nat_lt position first then None else Some position
position_from first (Bound index) = None

-- the same of an element
abbrev pub element_position : ℕ → Elem → Option ℕ
element_position first (Variable variable) = position_from first variable
element_position first Cap = None
element_position first (Hole number) = None

-- the greatest position of elements
abbrev pub greatest_listed : ℕ → List Elem → Option ℕ
greatest_listed first [] = None
greatest_listed first (e ∷ elements) = greater_of (element_position first e) (greatest_listed first elements)

-- the greatest position of a set
abbrev pub greatest_in_set : ℕ → Set → Option ℕ
greatest_in_set first set = greatest_listed first set.list

-- the greatest position that is free in a shape, from the first one on
abbrev pub greatest_in : ℕ → Shape → Option ℕ
greatest_in first (BaseShape base) = None
greatest_in first AnyShape = None
greatest_in first (TypeVariable variable) = position_from first variable
greatest_in first (FunctionShape takes c gives e) =
    greater_of
    (greater_of (greatest_in first takes) (greatest_in_set first c))
    (greater_of (greatest_in first gives) (greatest_in_set first e))
greatest_in first (TypeFunctionShape bound gives e) =
    greater_of (greatest_in first bound) (greater_of (greatest_in first gives) (greatest_in_set first e))
greatest_in first (BoxShape content c) = greater_of (greatest_in first content) (greatest_in_set first c)
greatest_in first (ExitShape gives) = greatest_in first gives

-- the same of a type
abbrev pub greatest_position : ℕ → CapturingType → Option ℕ
greatest_position first type = greater_of (greatest_in first type.shape) (greatest_in_set first type.set)

-- where the position is the greatest from the first one on that passes a test, or none from there on does
abbrev pub IsGreatest : ℕ → (ℕ → Bool) → Option ℕ → Type 0
IsGreatest first test None = (other : ℕ) → first ≤ other → test other ≡ false
IsGreatest first test (Some position) =
    (first ≤ position) × (test position ≡ true) × ((other : ℕ) → position < other → test other ≡ false)

-- it is the greatest that is free
abbrev pub GreatestPositionIsGreatest : Type 0
GreatestPositionIsGreatest =
    (first : ℕ) (type : CapturingType)
    → IsGreatest first (λ position. is_free_in_type position type) (greatest_position first type)

-- a type that has none from the devices on is its own signature
abbrev pub SignatureOfDevicesAlone : Type 0
SignatureOfDevicesAlone =
    (devices : ℕ) (globals : Context) (type : CapturingType) → greatest_position devices type ≡ None
    → signature_of devices globals type ≡ Some type

-- Where it has some, the greatest is avoided, and the signature of what then comes is the signature; where avoiding has
-- no answer, there is none.
abbrev pub SignatureAvoidsTheGreatest : Type 0
SignatureAvoidsTheGreatest =
    (devices : ℕ) (globals : Context) (type : CapturingType) (position : ℕ) (shape : Shape) (declared : Set)
    → IsWellFormedContext globals → IsWellFormedType globals type
    → greatest_position devices type ≡ Some position → lookup globals position ≡ Some (TermEntry shape declared)
    → signature_of devices globals type
    ≡ option_and_then (signature_of devices globals) (avoided_type Positive position declared type)

-- the greatest position among globals is that of a definition
abbrev pub GreatestPositionHasAnEntry : Type 0
GreatestPositionHasAnEntry =
    (devices : ℕ) (globals : Context) (type : CapturingType) (position : ℕ)
    → AreGlobals globals → IsWellFormedType globals type → greatest_position devices type ≡ Some position
    → (shape : Shape) × (declared : Set) × (lookup globals position ≡ Some (TermEntry shape declared))

-- one more than a position, and zero where there is none
abbrev pub height_of : Option ℕ → ℕ
height_of None = zero
height_of (Some position) = suc position

-- after it was avoided, the greatest position is a lower one
abbrev pub GreatestPositionFalls : Type 0
GreatestPositionFalls =
    (devices : ℕ) (globals : Context) (type result : CapturingType) (position : ℕ) (shape : Shape) (declared : Set)
    → IsWellFormedContext globals → IsWellFormedType globals type
    → greatest_position devices type ≡ Some position → lookup globals position ≡ Some (TermEntry shape declared)
    → avoided_type Positive position declared type ≡ Some result
    → height_of (greatest_position devices result) < height_of (greatest_position devices type)
