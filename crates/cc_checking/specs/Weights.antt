-- How many steps a comparison takes at most.
use Rattle.std.specs.Prelude.{◌≡◌, ℕ, nat_eq, zero, suc, ◌+◌, List, [], ◌∷◌, length, if◌then◌else◌}
use Rattle.cc_capture.specs.declared.var.Var.TheVariants.{Bound, Free}
use Rattle.cc_core.specs.Shapes.{Shape, BaseShape, AnyShape, TypeVariable, FunctionShape, TypeFunctionShape, BoxShape}
use Rattle.cc_core.specs.Shapes.{ExitShape}
use Rattle.cc_core.specs.Contexts.{Bind, TermEntry, TypeEntry, Context}
use Rattle.cc_checking.specs.Comparison.{Unfinished, comparison}

-- the weight of the bound of a binder, where the weights of those passed are given, the innermost first
abbrev pub weight_of_index : List ℕ → ℕ → ℕ
weight_of_index [] index = 0
weight_of_index (weight ∷ weights) zero = weight
weight_of_index (weight ∷ weights) (suc index) = weight_of_index weights index

-- The number of forms of a shape, where a type variable counts one more than its bound. The weights of the bounds of
-- free positions and of the binders passed are given; a variable of terms has no bound, and its weight is zero.
abbrev pub weight : (ℕ → ℕ) → List ℕ → Shape → ℕ
weight free passed (BaseShape base) = 1
weight free passed AnyShape = 1
weight free passed (TypeVariable (Free position)) = suc (free position)
weight free passed (TypeVariable (Bound index)) = suc (weight_of_index passed index)
weight free passed (FunctionShape takes c gives e) = suc (weight free passed takes + weight free (0 ∷ passed) gives)
weight free passed (TypeFunctionShape bound gives e) =
    suc (weight free passed bound + weight free (weight free passed bound ∷ passed) gives)
weight free passed (BoxShape content c) = suc (weight free passed content)
weight free passed (ExitShape gives) = suc (weight free passed gives)

-- the weight of an entry's bound, if it has one
abbrev pub entry_weight : (ℕ → ℕ) → Bind → ℕ
entry_weight free (TermEntry shape set) = 0
entry_weight free (TypeEntry bound) = weight free [] bound

-- the weight of the bound at a position
abbrev pub weight_at : Context → ℕ → ℕ
weight_at [] position = 0
weight_at (newest ∷ older) position =
    if nat_eq position (length older) then entry_weight (weight_at older) newest else weight_at older position

-- the weight of a shape in a context
abbrev pub weight_in : Context → Shape → ℕ
weight_in context shape = weight (weight_at context) [] shape

-- with so many steps the comparison is at its end
abbrev pub IsEnough : ℕ → Context → Shape → Shape → Type 0
IsEnough steps context left right = comparison steps context left right ≡ Unfinished → ⊥

-- one step more than the two shapes weigh
abbrev pub enough_steps : Context → Shape → Shape → ℕ
enough_steps context left right = suc (weight_in context left + weight_in context right)
