-- The size of a type with a shape put in, counted with a capped size.
use Rattle.std.proofs.Common.{◌≡◌, ℕ, suc, min, Bool, true, false, nat_eq, cond, refl, arith}
use Rattle.cc_capture.specs.declared.var.Var.TheVariants.{Bound, Free}
use Rattle.cc_core.specs.Shapes.{Shape, BaseShape, AnyShape, TypeVariable, FunctionShape, TypeFunctionShape, BoxShape, ExitShape}
use Rattle.cc_core.specs.Sizes.{counted_shape}

cond-capped : (test : Bool) (size cap : ℕ) → min (cond test (min size cap) 1) cap ≡ min (cond test size 1) cap
cond-capped true size cap = omega arith
cond-capped false size cap = refl

-- a capped size that is put in gives the same up to the cap
pub counted_shape-capped : (size cap depth : ℕ) (shape : Shape) → min (counted_shape (min size cap) depth shape) cap ≡ min (counted_shape size depth shape) cap
counted_shape-capped size cap depth (BaseShape base) = refl
counted_shape-capped size cap depth AnyShape = refl
counted_shape-capped size cap depth (TypeVariable (Bound index)) = cond-capped (nat_eq index depth) size cap
counted_shape-capped size cap depth (TypeVariable (Free position)) = refl
counted_shape-capped size cap depth (FunctionShape takes c gives e) =
    omega (arith, counted_shape-capped size cap depth takes, counted_shape-capped size cap (suc depth) gives)
counted_shape-capped size cap depth (TypeFunctionShape bound gives e) =
    omega (arith, counted_shape-capped size cap depth bound, counted_shape-capped size cap (suc depth) gives)
counted_shape-capped size cap depth (BoxShape content c) = omega (arith, counted_shape-capped size cap depth content)
counted_shape-capped size cap depth (ExitShape gives) = omega (arith, counted_shape-capped size cap depth gives)
