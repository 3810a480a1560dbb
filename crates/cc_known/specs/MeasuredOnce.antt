-- There is one proof at most of what is known of a shape.
use Rattle.std.specs.Prelude.{◌≡◌, ℕ, zero, suc, Option, Some, None}
use Rattle.std.specs.Coded.{codes}
use Rattle.cc_core.specs.Shapes.{Shape, BaseShape, AnyShape, TypeVariable, FunctionShape, TypeFunctionShape, BoxShape}
use Rattle.cc_core.specs.Shapes.{ExitShape}
use Rattle.cc_known.specs.Measures.{IsSize, Along, IsMeasuredBy}
use Rattle.cc_known.specs.Signatures.{greatest_in}
use Rattle.cc_known.specs.declared.measures.Measure.{Measure}

Along-prop : (holds : Shape → Type 0) → ((end : Shape) → IsProp (holds end)) → (steps : ℕ) (shape : Shape)
    → IsProp (Along holds steps shape)
Along-prop holds prop zero shape = prop shape
Along-prop holds prop (suc steps) (BaseShape base) = hlevel
Along-prop holds prop (suc steps) AnyShape = hlevel
Along-prop holds prop (suc steps) (TypeVariable variable) = hlevel
Along-prop holds prop (suc steps) (FunctionShape takes c gives e) = Along-prop holds prop steps gives
Along-prop holds prop (suc steps) (TypeFunctionShape bound gives e) = Along-prop holds prop steps gives
Along-prop holds prop (suc steps) (BoxShape content c) = Along-prop holds prop steps content
Along-prop holds prop (suc steps) (ExitShape gives) = hlevel

-- there is one proof at most that this is known of a shape
pub IsMeasuredBy-prop : (known : Option Measure) (shape : Shape) → IsProp (IsMeasuredBy known shape)
IsMeasuredBy-prop None shape = hlevel
IsMeasuredBy-prop (Some known) shape =
    hlevel (
      Along-prop (λ end. greatest_in known.first end ≡ None) (λ end. hlevel codes) known.steps shape,
      Along-prop (IsSize known.size) (λ end. hlevel codes) known.steps shape,
    )
