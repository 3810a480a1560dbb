-- The names in the claims of a certificate. There the local variable `_d` or `_Td` is the bound variable `d`, whatever
-- it stands under.
use Rattle.std.specs.Prelude.{ℕ, suc, ◌+◌, ◌^◌, ◌<◌, Bool, true, false, ◌||◌, List}
use Rattle.std.specs.List.{AllByRecursion}
use Rattle.cc_capture.specs.declared.var.Var.{Var}
use Rattle.cc_capture.specs.declared.var.Var.TheVariants.{Bound, Free}
use Rattle.cc_capture.specs.declared.var.Elem.{Elem}
use Rattle.cc_capture.specs.declared.var.Elem.TheVariants.{Var as Variable, Cap, Hole}
use Rattle.cc_capture.specs.Sets.{Set, image}
use Rattle.cc_core.specs.Shapes.{Shape, BaseShape, AnyShape, TypeVariable, FunctionShape, TypeFunctionShape, BoxShape}
use Rattle.cc_core.specs.Shapes.{ExitShape, CapturingType, capturing}
use Rattle.cc_core.specs.Derivations.{Claim, SetBelow, ShapeBelow, TypeBelow, OfType}

-- the local variable of the number, as the position that it has behind so many names
abbrev pub local_position : ℕ → Var → Var
local_position names (Bound number) = Free (names + number)
local_position names (Free position) = Free position

abbrev pub local_element : ℕ → Elem → Elem
local_element names (Variable variable) = Variable (local_position names variable)
local_element names Cap = Cap
local_element names (Hole hole) = Hole hole

-- what is changed in a shape: its type variables, and the elements of its sets
abbrev pub renamed : (Var → Var) → (Elem → Elem) → Shape → Shape
renamed v e (BaseShape base) = BaseShape base
renamed v e AnyShape = AnyShape
renamed v e (TypeVariable variable) = TypeVariable (v variable)
renamed v e (FunctionShape takes c gives d) =
    FunctionShape (renamed v e takes) (image e c) (renamed v e gives) (image e d)
renamed v e (TypeFunctionShape bound gives d) = TypeFunctionShape (renamed v e bound) (renamed v e gives) (image e d)
renamed v e (BoxShape content c) = BoxShape (renamed v e content) (image e c)
renamed v e (ExitShape gives) = ExitShape (renamed v e gives)

-- the shape with its local variables at their positions
abbrev pub placed_shape : ℕ → Shape → Shape
placed_shape names shape = renamed (local_position names) (local_element names) shape

abbrev pub placed_type : ℕ → CapturingType → CapturingType
placed_type names type = capturing (placed_shape names type.shape) (image (local_element names) type.set)

abbrev pub placed_claim : ℕ → Claim → Claim
placed_claim names (SetBelow left right) =
    SetBelow (image (local_element names) left) (image (local_element names) right)
placed_claim names (ShapeBelow left right) = ShapeBelow (placed_shape names left) (placed_shape names right)
placed_claim names (TypeBelow left right) = TypeBelow (placed_type names left) (placed_type names right)
placed_claim names (OfType type) = OfType (placed_type names type)

-- The variable is one of so many names, or a local one that may stand there.
abbrev pub IsNamed : (ℕ → Type 0) → ℕ → Var → Type 0
IsNamed local names (Bound number) = local number
IsNamed local names (Free position) = position < names

-- the same of an element, which is no hole
abbrev pub IsNamedElement : (ℕ → Type 0) → ℕ → Elem → Type 0
IsNamedElement local names (Variable variable) = IsNamed local names variable
IsNamedElement local names Cap = Unit {0}
IsNamedElement local names (Hole hole) = ⊥

abbrev pub IsNamedSet : (ℕ → Type 0) → ℕ → Set → Type 0
IsNamedSet local names set = AllByRecursion (IsNamedElement local names) set.list

-- A type variable is a local one that may stand there; the names are all those of variables of terms.
abbrev pub IsLocal : (ℕ → Type 0) → Var → Type 0
IsLocal local (Bound number) = local number
IsLocal local (Free position) = ⊥

-- Each variable in the shape is one of so many names or a local one that may stand at its place, and the number of each
-- binder is below 2^32. `depth` is the number of a binder that stands under no other one of the shape.
abbrev pub IsNamedShape : (ℕ → ℕ → Type 0) → ℕ → ℕ → Shape → Type 0
IsNamedShape local names depth (BaseShape base) = Unit {0}
IsNamedShape local names depth AnyShape = Unit {0}
IsNamedShape local names depth (TypeVariable variable) = IsLocal (local depth) variable
IsNamedShape local names depth (FunctionShape takes c gives d) =
    (depth < 2 ^ 32) × IsNamedShape local names depth takes × IsNamedSet (local depth) names c
    × IsNamedShape local names (suc depth) gives × IsNamedSet (local (suc depth)) names d
IsNamedShape local names depth (TypeFunctionShape bound gives d) =
    (depth < 2 ^ 32) × IsNamedShape local names depth bound
    × IsNamedShape local names (suc depth) gives × IsNamedSet (local (suc depth)) names d
IsNamedShape local names depth (BoxShape content c) =
    IsNamedShape local names depth content × IsNamedSet (local depth) names c
IsNamedShape local names depth (ExitShape gives) = IsNamedShape local names depth gives

-- in claims a local variable is any whose number is below 2^32
abbrev pub IsLocalNumber : ℕ → ℕ → Type 0
IsLocalNumber depth number = number < 2 ^ 32

abbrev pub IsNamedType : ℕ → ℕ → CapturingType → Type 0
IsNamedType names depth type =
    IsNamedShape IsLocalNumber names depth type.shape × IsNamedSet (IsLocalNumber depth) names type.set

abbrev pub IsNamedClaim : ℕ → ℕ → Claim → Type 0
IsNamedClaim names depth (SetBelow left right) =
    IsNamedSet (IsLocalNumber depth) names left × IsNamedSet (IsLocalNumber depth) names right
IsNamedClaim names depth (ShapeBelow left right) =
    IsNamedShape IsLocalNumber names depth left × IsNamedShape IsLocalNumber names depth right
IsNamedClaim names depth (TypeBelow left right) = IsNamedType names depth left × IsNamedType names depth right
IsNamedClaim names depth (OfType type) = IsNamedType names depth type

-- whether a function or a type function stands in the shape, which has a binder
abbrev pub has_binder : Shape → Bool
has_binder (BaseShape base) = false
has_binder AnyShape = false
has_binder (TypeVariable variable) = false
has_binder (FunctionShape takes c gives d) = true
has_binder (TypeFunctionShape bound gives d) = true
has_binder (BoxShape content c) = has_binder content
has_binder (ExitShape gives) = has_binder gives

abbrev pub claim_has_binder : Claim → Bool
claim_has_binder (SetBelow left right) = false
claim_has_binder (ShapeBelow left right) = has_binder left || has_binder right
claim_has_binder (TypeBelow left right) = has_binder left.shape || has_binder right.shape
claim_has_binder (OfType type) = has_binder type.shape
