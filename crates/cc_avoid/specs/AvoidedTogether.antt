-- Positions that are avoided together, one after another at each set. Avoiding them one after another in the whole comes
-- to the same (`AvoidedTogether` of the proofs), so this serves proofs alone.
use Rattle.std.specs.Prelude.{ℕ, Bool, false, ◌||◌, List, [], ◌∷◌, Option, Some}
use Rattle.std.specs.Option.{option_map}
use Rattle.cc_capture.specs.Sets.{Set}
use Rattle.cc_core.specs.Shapes.{Shape, BaseShape, AnyShape, TypeVariable, FunctionShape, TypeFunctionShape, BoxShape}
use Rattle.cc_core.specs.Shapes.{ExitShape, CapturingType, capturing}
use Rattle.cc_checking.specs.Avoidance.{Sign, opposite, is_free_in, avoided_set, with_both, unless_free}

-- a set in which each of these is avoided, one after another
abbrev pub set_avoiding : Sign → List (ℕ × Set) → Set → Set
set_avoiding sign [] set = set
set_avoiding sign (position ∷ positions) set =
    set_avoiding sign positions (avoided_set sign position.0 position.1 set)

-- whether one of these is free in the shape
abbrev pub names_any : List (ℕ × Set) → Shape → Bool
names_any [] shape = false
names_any (position ∷ positions) shape = is_free_in position.0 shape || names_any positions shape

-- a shape in which all of these are avoided at each of its sets, if they can be
abbrev pub shape_avoiding : Sign → List (ℕ × Set) → Shape → Option Shape
shape_avoiding sign positions (BaseShape base) = Some (BaseShape base)
shape_avoiding sign positions AnyShape = Some AnyShape
shape_avoiding sign positions (TypeVariable variable) = Some (TypeVariable variable)
shape_avoiding sign positions (FunctionShape takes c gives e) =
    with_both (shape_avoiding (opposite sign) positions takes) (shape_avoiding sign positions gives)
    (λ takes' gives'. FunctionShape takes' (set_avoiding (opposite sign) positions c) gives'
    (set_avoiding sign positions e))
shape_avoiding sign positions (TypeFunctionShape bound gives e) =
    unless_free (names_any positions bound)
    (option_map (λ gives'. TypeFunctionShape bound gives' (set_avoiding sign positions e))
    (shape_avoiding sign positions gives))
shape_avoiding sign positions (BoxShape content c) =
    option_map (λ content'. BoxShape content' (set_avoiding sign positions c))
    (shape_avoiding sign positions content)
shape_avoiding sign positions (ExitShape gives) = unless_free (names_any positions gives) (Some (ExitShape gives))

-- the same of a type
abbrev pub type_avoiding : Sign → List (ℕ × Set) → CapturingType → Option CapturingType
type_avoiding sign positions type =
    option_map (λ shape. capturing shape (set_avoiding sign positions type.set))
    (shape_avoiding sign positions type.shape)
