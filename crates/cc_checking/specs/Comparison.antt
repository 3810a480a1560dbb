-- The comparison of two shapes or types by their trees, which finds what their sets have to satisfy.
use Rattle.std.specs.Prelude.{◌≡◌, ℕ, zero, suc, Bool, true, false, List, [], ◌∷◌, ◌++◌, length, Option, Some, None}
use Rattle.std.specs.Prelude.{if◌then◌else◌}
use Rattle.cc_capture.specs.declared.var.Var.{Var}
use Rattle.cc_capture.specs.declared.var.Var.TheVariants.{Bound, Free}
use Rattle.cc_capture.specs.Sets.{Set}
use Rattle.cc_core.specs.Shapes.{Shape, BaseShape, AnyShape, TypeVariable, FunctionShape, TypeFunctionShape, BoxShape}
use Rattle.cc_core.specs.Shapes.{ExitShape, CapturingType, capturing}
use Rattle.cc_core.specs.Contexts.{Bind, TermEntry, TypeEntry, Context, lookup}
use Rattle.cc_core.specs.Substitution.{opened_type}
use Rattle.cc_core.specs.Subcapturing.{SubcapturesSet}
use Rattle.cc_core.specs.Equality.{same_shape}

-- in a context, one set is to be below another
pub record Demand : Type 0 where
  pub context : Context
  pub left : Set
  pub right : Set

-- that the left set is to be below the right one in the context
abbrev pub demanded : Context → Set → Set → Demand
demanded context left right = record { context = context; left = left; right = right }

-- What a comparison comes to: it is not at its end with so few steps, the shapes do not match, or they match where all
-- these demands hold, in the order in which they were found.
pub data Comparison : Type 0 where
  Unfinished : Comparison
  Mismatch : Comparison
  Matches : (demands : List Demand) → Comparison

-- one comparison, and then another with its demands behind those of the first
abbrev pub and_then : Comparison → Comparison → Comparison
and_then Unfinished second = Unfinished
and_then Mismatch second = Mismatch
and_then (Matches demands) Unfinished = Unfinished
and_then (Matches demands) Mismatch = Mismatch
and_then (Matches demands) (Matches more) = Matches (demands ++ more)

-- a comparison of shapes in contexts
abbrev pub Comparing : Type 0
Comparing = Context → Shape → Shape → Comparison

-- the set demanded first, then the shapes compared
abbrev pub types_compared : Comparing → Context → CapturingType → CapturingType → Comparison
types_compared compare context left right =
    and_then (Matches (demanded context left.set right.set ∷ [])) (compare context left.shape right.shape)

-- the bound of an entry, where it is a type variable
abbrev pub bound_in : Option Bind → Option Shape
bound_in (Some (TypeEntry bound)) = Some bound
bound_in (Some (TermEntry shape set)) = None
bound_in None = None

-- the bound of a type variable
abbrev pub bound_of : Context → Var → Option Shape
bound_of context (Free position) = bound_in (lookup context position)
bound_of context (Bound index) = None

-- a type variable is compared as its bound
abbrev pub bound_compared : Comparing → Context → Option Shape → Shape → Comparison
bound_compared compare context (Some bound) right = compare context bound right
bound_compared compare context None right = Mismatch

-- what functions take from the right one to the left one, then what they give, under the parameter of the right one
abbrev pub function_compared : Comparing → Context → CapturingType → CapturingType → Shape → Comparison
function_compared compare context takes gives (FunctionShape takes' c' gives' e') =
    and_then
    (types_compared compare context (capturing takes' c') takes)
    (types_compared compare (TermEntry takes' c' ∷ context) (opened_type (length context) gives)
    (opened_type (length context) (capturing gives' e')))
function_compared compare context takes gives _ = Mismatch

-- what type functions with one bound give, under that bound
abbrev pub type_function_compared : Comparing → Context → Shape → CapturingType → Shape → Comparison
type_function_compared compare context bound gives (TypeFunctionShape bound' gives' e') =
    if same_shape bound bound'
    then types_compared compare (TypeEntry bound ∷ context) (opened_type (length context) gives)
    (opened_type (length context) (capturing gives' e'))
    else Mismatch
type_function_compared compare context bound gives _ = Mismatch

-- the contents of two boxes
abbrev pub box_compared : Comparing → Context → CapturingType → Shape → Comparison
box_compared compare context content (BoxShape content' c') =
    types_compared compare context content (capturing content' c')
box_compared compare context content _ = Mismatch

-- whether the shape is Any
abbrev pub is_any : Shape → Bool
is_any AnyShape = true
is_any _ = false

-- two shapes that differ, by the form of the left one
unfoldable pub by_form : Comparing → Context → Shape → Shape → Comparison
by_form compare context (BaseShape base) right = Mismatch
by_form compare context AnyShape right = Mismatch
by_form compare context (TypeVariable variable) right = bound_compared compare context (bound_of context variable) right
by_form compare context (FunctionShape takes c gives e) right =
    function_compared compare context (capturing takes c) (capturing gives e) right
by_form compare context (TypeFunctionShape bound gives e) right =
    type_function_compared compare context bound (capturing gives e) right
by_form compare context (BoxShape content c) right = box_compared compare context (capturing content c) right
by_form compare context (ExitShape gives) right = Mismatch

-- The comparison of two shapes in so many steps: equal ones match, each matches Any, and others compare by their forms.
unfoldable pub comparison : ℕ → Context → Shape → Shape → Comparison
comparison zero context left right = Unfinished
comparison (suc steps) context left right =
    if same_shape left right then Matches []
    else if is_any right then Matches []
    else by_form (comparison steps) context left right

-- the comparison of two types
abbrev pub type_comparison : ℕ → Context → CapturingType → CapturingType → Comparison
type_comparison steps = types_compared (comparison steps)

-- the comparison of the shapes ends with these demands
abbrev pub HasDemands : Context → Shape → Shape → List Demand → Type 0
HasDemands context left right demands = (steps : ℕ) × (comparison steps context left right ≡ Matches demands)

-- the comparison of the shapes ends without a match
abbrev pub IsMismatch : Context → Shape → Shape → Type 0
IsMismatch context left right = (steps : ℕ) × (comparison steps context left right ≡ Mismatch)

-- the same of types: the comparison ends with these demands
abbrev pub TypesHaveDemands : Context → CapturingType → CapturingType → List Demand → Type 0
TypesHaveDemands context left right demands = (steps : ℕ) × (type_comparison steps context left right ≡ Matches demands)

-- and it ends without a match
abbrev pub IsTypeMismatch : Context → CapturingType → CapturingType → Type 0
IsTypeMismatch context left right = (steps : ℕ) × (type_comparison steps context left right ≡ Mismatch)

-- a demand holds where its left set is below its right one in its context
abbrev pub Holds : Demand → Type 0
Holds demand = SubcapturesSet demand.context demand.left demand.right

-- each demand holds
abbrev pub AllHold : List Demand → Type 0
AllHold [] = Unit {0}
AllHold (demand ∷ demands) = Holds demand × AllHold demands
