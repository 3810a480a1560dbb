-- Avoiding a variable in a type: what the type becomes where the variable goes out of scope.
use Rattle.std.specs.Prelude.{ℕ, nat_eq, Bool, true, false, ◌||◌, Option, Some, None, if◌then◌else◌}
use Rattle.std.specs.Option.{option_map}
use Rattle.cc_capture.specs.declared.var.Var.{Var}
use Rattle.cc_capture.specs.declared.var.Var.TheVariants.{Bound, Free}
use Rattle.cc_capture.specs.declared.var.Elem.TheVariants.{Var as Variable}
use Rattle.cc_capture.specs.Sets.{Set, contains, remove, union}
use Rattle.cc_core.specs.Shapes.{Shape, BaseShape, AnyShape, TypeVariable, FunctionShape, TypeFunctionShape, BoxShape}
use Rattle.cc_core.specs.Shapes.{ExitShape, CapturingType, capturing}

-- whether a place of a type may become larger or smaller
pub data Sign : Type 0 where
  Positive : Sign
  Negative : Sign

-- the other sign
abbrev pub opposite : Sign → Sign
opposite Positive = Negative
opposite Negative = Positive

-- whether the position is a member
abbrev pub has_position : ℕ → Set → Bool
has_position position set = contains (Variable (Free position)) set

-- whether the variable is the free position
abbrev pub is_position : ℕ → Var → Bool
is_position position (Free other) = nat_eq position other
is_position position (Bound index) = false

-- whether the position is free in the shape
abbrev pub is_free_in : ℕ → Shape → Bool
is_free_in position (BaseShape base) = false
is_free_in position AnyShape = false
is_free_in position (TypeVariable variable) = is_position position variable
is_free_in position (FunctionShape takes c gives e) =
    is_free_in position takes || has_position position c || is_free_in position gives || has_position position e
is_free_in position (TypeFunctionShape bound gives e) =
    is_free_in position bound || is_free_in position gives || has_position position e
is_free_in position (BoxShape content c) = is_free_in position content || has_position position c
is_free_in position (ExitShape gives) = is_free_in position gives

-- the same of a type
abbrev pub is_free_in_type : ℕ → CapturingType → Bool
is_free_in_type position type = is_free_in position type.shape || has_position position type.set

-- whether the position is free in a bound or inside the shape of an exit, which may become neither larger nor smaller
abbrev pub is_free_in_invariant_place : ℕ → Shape → Bool
is_free_in_invariant_place position (BaseShape base) = false
is_free_in_invariant_place position AnyShape = false
is_free_in_invariant_place position (TypeVariable variable) = false
is_free_in_invariant_place position (FunctionShape takes c gives e) =
    is_free_in_invariant_place position takes || is_free_in_invariant_place position gives
is_free_in_invariant_place position (TypeFunctionShape bound gives e) =
    is_free_in position bound || is_free_in_invariant_place position gives
is_free_in_invariant_place position (BoxShape content c) = is_free_in_invariant_place position content
is_free_in_invariant_place position (ExitShape gives) = is_free_in position gives

-- a positive set gets what the position was declared with in its place, and a negative one loses the position
abbrev pub avoided_set : Sign → ℕ → Set → Set → Set
avoided_set Positive position declared set =
    if has_position position set then union (remove (Variable (Free position)) set) declared else set
avoided_set Negative position declared set = remove (Variable (Free position)) set

-- a shape of two parts, where both have an answer
abbrev pub with_both : Option Shape → Option Shape → (Shape → Shape → Shape) → Option Shape
with_both (Some first) (Some second) build = Some (build first second)
with_both (Some first) None build = None
with_both None second build = None

-- an answer where the position is not free
abbrev pub unless_free : Bool → Option Shape → Option Shape
unless_free true answer = None
unless_free false answer = answer

-- The shape in which a position with a declared set is avoided. The parameter of a function has the opposite sign,
-- while results and contents keep it. There is no answer where the position is free in an invariant place.
abbrev pub avoided : Sign → ℕ → Set → Shape → Option Shape
avoided sign position declared (BaseShape base) = Some (BaseShape base)
avoided sign position declared AnyShape = Some AnyShape
avoided sign position declared (TypeVariable variable) = Some (TypeVariable variable)
avoided sign position declared (FunctionShape takes c gives e) =
    with_both (avoided (opposite sign) position declared takes) (avoided sign position declared gives)
    (λ takes' gives'. FunctionShape takes' (avoided_set (opposite sign) position declared c) gives'
    (avoided_set sign position declared e))
avoided sign position declared (TypeFunctionShape bound gives e) =
    unless_free (is_free_in position bound)
    (option_map (λ gives'. TypeFunctionShape bound gives' (avoided_set sign position declared e))
    (avoided sign position declared gives))
avoided sign position declared (BoxShape content c) =
    option_map (λ content'. BoxShape content' (avoided_set sign position declared c))
    (avoided sign position declared content)
avoided sign position declared (ExitShape gives) = unless_free (is_free_in position gives) (Some (ExitShape gives))

-- the same of a type, whose outermost set has the sign of the type
abbrev pub avoided_type : Sign → ℕ → Set → CapturingType → Option CapturingType
avoided_type sign position declared type =
    option_map (λ shape. capturing shape (avoided_set sign position declared type.set))
    (avoided sign position declared type.shape)
