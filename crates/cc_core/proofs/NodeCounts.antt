-- How many nodes a shape has: a measure for inductions, which no move changes.
use Rattle.std.proofs.Common.{◌≡◌, ℕ, suc, ◌+◌, refl}
use Rattle.cc_capture.specs.declared.var.Var.{Var}
use Rattle.cc_core.specs.Shapes.{Shape, BaseShape, AnyShape, TypeVariable, FunctionShape, TypeFunctionShape, BoxShape, ExitShape}
use Rattle.cc_core.specs.Traversal.{act}
use Rattle.cc_core.specs.Substitution.{moving}

abbrev pub node_count : Shape → ℕ
node_count (BaseShape base) = 1
node_count AnyShape = 1
node_count (TypeVariable variable) = 1
node_count (FunctionShape takes c gives e) = 1 + node_count takes + node_count gives
node_count (TypeFunctionShape bound gives e) = 1 + node_count bound + node_count gives
node_count (BoxShape content c) = 1 + node_count content
node_count (ExitShape gives) = 1 + node_count gives

pub node_count-moved : (f : ℕ → Var → Var) (d : ℕ) (s : Shape) → node_count (act (moving f) d s) ≡ node_count s
node_count-moved f d (BaseShape b) = refl
node_count-moved f d AnyShape = refl
node_count-moved f d (TypeVariable v) = refl
node_count-moved f d (FunctionShape t c u e) = λ i. 1 + node_count-moved f d t i + node_count-moved f (suc d) u i
node_count-moved f d (TypeFunctionShape b u e) = λ i. 1 + node_count-moved f d b i + node_count-moved f (suc d) u i
node_count-moved f d (BoxShape t c) = λ i. 1 + node_count-moved f d t i
node_count-moved f d (ExitShape t) = λ i. 1 + node_count-moved f d t i
