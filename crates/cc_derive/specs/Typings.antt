-- What the program makes of typing derivations, which serves proofs.
use Rattle.std.specs.Prelude.{◌≡◌, length}
use Rattle.cc_capture.specs.Sets.{Set}
use Rattle.cc_core.specs.Contexts.{Context}
use Rattle.cc_base.specs.declared.literal.Base.TheVariants as bases
use Rattle.cc_capture.specs.declared.var.Var.{Var}
use Rattle.cc_core.specs.Derivations.{t-abs, t-tabs, t-if, OfType, Derivation, Node, one, three}
use Rattle.cc_core.specs.Shapes.{Shape, BaseShape, FunctionShape, TypeFunctionShape, CapturingType, capturing}
use Rattle.cc_core.specs.Substitution.{closed, closed_set}
use Rattle.cc_core.specs.TermViews.{type_of}
use Rattle.cc_checking.specs.CanonicalDerivations.{Deriving, typed, raised, operand_derived}
use Rattle.cc_checking.specs.Inference.{set_in}
use Rattle.cc_derive.specs.Trees.{IsMade}
use Rattle.cc_derive.specs.declared.nodes.Typing.{Typing}
use Rattle.cc_derive.specs.declared.trees.Making.{Making}

-- the derivation gives the type, and the tree is made of it
pub record IsTyping (build : Making) (typing : Typing) (derivation : Derivation) : Type 0 where
  pub gives : type_of typing.ty ≡ typed derivation
  pub made : IsMade build typing.tree derivation

-- a function that takes this, over the derivation of its body, where it captures these
abbrev pub function_over : Context → CapturingType → Set → Derivation → Derivation
function_over context takes captured part =
    Node t-abs (one part)
    (OfType
    (capturing
    (FunctionShape takes.shape takes.set (closed (length context) (typed part).shape)
    (closed_set (length context) (typed part).set))
    (set_in context captured)))

-- the same of a type function
abbrev pub type_function_over : Context → Shape → Set → Derivation → Derivation
type_function_over context bound captured part =
    Node t-tabs (one part)
    (OfType
    (capturing
    (TypeFunctionShape bound (closed (length context) (typed part).shape) (closed_set (length context) (typed part).set))
    (set_in context captured)))

-- a choice of two branches that are widened to the type
abbrev pub choice_over : Deriving → Context → Var → CapturingType → Derivation → Derivation → Derivation
choice_over derive context test type positive negative =
    Node t-if
    (three
    (operand_derived derive context test (BaseShape bases.Bool))
    (raised derive context positive type)
    (raised derive context negative type))
    (OfType type)
