-- How sets, shapes and types are written.
use Rattle.std.specs.Prelude.{ℕ, suc, ◌-◌, Bool, true, false, nat_lt, List, [], ◌∷◌, ◌++◌, length, slice_index_or}
use Rattle.std.specs.Prelude.{codes, encode_utf8_all, if◌then◌else◌}
use Rattle.std.specs.Fmt.{decimal}
use Rattle.std.specs.List.{flat_map}
use Rattle.cc_base.specs.declared.literal.Base.{Base}
use Rattle.cc_base.specs.declared.literal.Base.TheVariants as bases
use Rattle.cc_capture.specs.declared.var.Var.{Var}
use Rattle.cc_capture.specs.declared.var.Var.TheVariants.{Bound, Free}
use Rattle.cc_capture.specs.declared.var.Elem.{Elem}
use Rattle.cc_capture.specs.declared.var.Elem.TheVariants.{Var as Variable, Cap, Hole}
use Rattle.cc_capture.specs.Sets.{Set}
use Rattle.cc_core.specs.Shapes.{Shape, BaseShape, AnyShape, TypeVariable, FunctionShape, TypeFunctionShape, BoxShape}
use Rattle.cc_core.specs.Shapes.{ExitShape, CapturingType}

-- a prefix and a number: the name of a binder
abbrev pub numbered : List ℕ → ℕ → List ℕ
numbered prefix number = prefix ++ decimal number

-- What is written for a free position: its name. The positions behind the names are those of local binders, which
-- count from 0.
abbrev pub position_text : List (List ℕ) → List ℕ → ℕ → List ℕ
position_text names prefix position =
    if nat_lt position (length names) then encode_utf8_all (slice_index_or names position [])
    else numbered prefix (position - length names)

-- What is written for a variable under so many binders. An index counts binders from the innermost, and the number that
-- is written counts those outside the variable's own.
abbrev pub variable_text : List (List ℕ) → ℕ → List ℕ → Var → List ℕ
variable_text names depth prefix (Bound index) = numbered prefix (depth - 1 - index)
variable_text names depth prefix (Free position) = position_text names prefix position

-- what is written for an element; a hole is none of a finished type, and nothing is written for it
abbrev pub element_text : List (List ℕ) → ℕ → Elem → List ℕ
element_text names depth (Variable variable) = variable_text names depth (codes "_") variable
element_text names depth Cap = codes "cap"
element_text names depth (Hole number) = []

-- elements behind a first one
abbrev pub others_text : List (List ℕ) → ℕ → List Elem → List ℕ
others_text names depth others = flat_map (λ other. codes ", " ++ element_text names depth other) others

abbrev pub elements_text : List (List ℕ) → ℕ → List Elem → List ℕ
elements_text names depth [] = []
elements_text names depth (first ∷ others) = element_text names depth first ++ others_text names depth others

-- The elements of a set under so many binders, in their order: free ones by position, then bound ones from the
-- outermost, then the universal capability.
abbrev pub set_under : List (List ℕ) → ℕ → Set → List ℕ
set_under names depth set = codes "{" ++ elements_text names depth set.list ++ codes "}"

abbrev pub base_text : Base → List ℕ
base_text bases.Unit = codes "Unit"
base_text bases.Bool = codes "Bool"
base_text bases.Int = codes "Int"
base_text bases.Str = codes "Str"
base_text bases.Console = codes "Console"
base_text bases.File = codes "File"
base_text bases.Counter = codes "Counter"

-- the shape is that of functions or of type functions
abbrev pub is_arrow : Shape → Bool
is_arrow (FunctionShape takes c gives e) = true
is_arrow (TypeFunctionShape bound gives e) = true
is_arrow (BaseShape base) = false
is_arrow AnyShape = false
is_arrow (TypeVariable variable) = false
is_arrow (BoxShape content c) = false
is_arrow (ExitShape gives) = false

-- a text before `^`, in parentheses where it is that of an arrow
abbrev pub before_set : Bool → List ℕ → List ℕ
before_set true text = codes "(" ++ text ++ codes ")^"
before_set false text = text ++ codes "^"

-- the text of a shape with these elements, which are written where there are some
abbrev pub with_elements : Bool → List ℕ → List Elem → List ℕ → List ℕ
with_elements arrow text [] braces = text
with_elements arrow text (first ∷ others) braces = before_set arrow text ++ braces

-- The text of a shape under so many binders. The type of a function's parameter and a bound do not stand under the
-- binder of their own.
abbrev pub shape_under : List (List ℕ) → ℕ → Shape → List ℕ
shape_under names depth (BaseShape base) = base_text base
shape_under names depth AnyShape = codes "Any"
shape_under names depth (TypeVariable variable) = variable_text names depth (codes "_T") variable
shape_under names depth (FunctionShape takes c gives e) =
    numbered (codes "(_") depth ++ codes ": "
    ++ with_elements (is_arrow takes) (shape_under names depth takes) c.list (set_under names depth c) ++ codes ") -> "
    ++ with_elements (is_arrow gives) (shape_under names (suc depth) gives) e.list (set_under names (suc depth) e)
shape_under names depth (TypeFunctionShape bound gives e) =
    numbered (codes "[_T") depth ++ codes " <: " ++ shape_under names depth bound ++ codes "] -> "
    ++ with_elements (is_arrow gives) (shape_under names (suc depth) gives) e.list (set_under names (suc depth) e)
shape_under names depth (BoxShape content c) =
    codes "Box["
    ++ with_elements (is_arrow content) (shape_under names depth content) c.list (set_under names depth c)
    ++ codes "]"
shape_under names depth (ExitShape gives) = codes "Exit[" ++ shape_under names depth gives ++ codes "]"

-- The text of a type under so many binders: that of its shape, and then `^` and that of its set where it has elements.
abbrev pub type_under : List (List ℕ) → ℕ → Shape → Set → List ℕ
type_under names depth shape set =
    with_elements (is_arrow shape) (shape_under names depth shape) set.list (set_under names depth set)

-- The texts where the first free positions have these names, and so many local binders stand behind them.
abbrev pub set_text : List (List ℕ) → ℕ → Set → List ℕ
set_text names locals set = set_under names locals set

abbrev pub shape_text : List (List ℕ) → ℕ → Shape → List ℕ
shape_text names locals shape = shape_under names locals shape

abbrev pub type_text : List (List ℕ) → ℕ → CapturingType → List ℕ
type_text names locals type = type_under names locals type.shape type.set
