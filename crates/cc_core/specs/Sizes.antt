-- Sizes of shapes and types.
use Rattle.std.specs.Prelude.{ℕ, zero, suc, ◌+◌, nat_eq, length, if◌then◌else◌}
use Rattle.cc_capture.specs.declared.var.Var.{Var}
use Rattle.cc_capture.specs.declared.var.Var.TheVariants.{Bound, Free}
use Rattle.cc_capture.specs.Sets.{Set}
use Rattle.cc_core.specs.Shapes.{Shape, BaseShape, AnyShape, TypeVariable, FunctionShape, TypeFunctionShape, BoxShape}
use Rattle.cc_core.specs.Shapes.{ExitShape, CapturingType}
use Rattle.cc_core.specs.Traversal.{act_type}
use Rattle.cc_core.specs.Substitution.{putting_shape}

-- how many elements a set has
abbrev pub set_size : Set → ℕ
set_size set = length set.list

-- one, and the sizes of the parts, where the size of a type is that of its shape and the number of its elements
abbrev pub shape_size : Shape → ℕ
shape_size (BaseShape base) = 1
shape_size AnyShape = 1
shape_size (TypeVariable variable) = 1
shape_size (FunctionShape takes c gives e) = 1 + (shape_size takes + set_size c) + (shape_size gives + set_size e)
shape_size (TypeFunctionShape bound gives e) = 1 + shape_size bound + (shape_size gives + set_size e)
shape_size (BoxShape content c) = 1 + (shape_size content + set_size c)
shape_size (ExitShape gives) = 1 + shape_size gives

-- the size of its shape, and the number of the elements of its set
abbrev pub type_size : CapturingType → ℕ
type_size type = shape_size type.shape + set_size type.set

-- the size of the type with the shape put for the outermost index
abbrev pub size_with : Shape → CapturingType → ℕ
size_with by type = type_size (act_type (putting_shape by) zero type)

-- the same counted without putting the shape: a type variable of that index has the size of the shape
abbrev pub counted_variable : ℕ → ℕ → Var → ℕ
counted_variable size depth (Bound index) = if nat_eq index depth then size else 1
counted_variable size depth (Free position) = 1

-- the size of a shape under so many binders, with a shape of the given size in the place of the outermost index
abbrev pub counted_shape : ℕ → ℕ → Shape → ℕ
counted_shape size depth (BaseShape base) = 1
counted_shape size depth AnyShape = 1
counted_shape size depth (TypeVariable variable) = counted_variable size depth variable
counted_shape size depth (FunctionShape takes c gives e) =
    1 + (counted_shape size depth takes + set_size c) + (counted_shape size (suc depth) gives + set_size e)
counted_shape size depth (TypeFunctionShape bound gives e) =
    1 + counted_shape size depth bound + (counted_shape size (suc depth) gives + set_size e)
counted_shape size depth (BoxShape content c) = 1 + (counted_shape size depth content + set_size c)
counted_shape size depth (ExitShape gives) = 1 + counted_shape size depth gives

-- the same of a type that stands under one binder alone
abbrev pub counted_type : ℕ → CapturingType → ℕ
counted_type size type = counted_shape size zero type.shape + set_size type.set
