-- Subtyping, as CC<:□ has it, where type functions compare only under one and the same bound.
use Rattle.std.specs.Prelude.{◌≡◌, ℕ, ◌∷◌, length, Some}
use Rattle.cc_capture.specs.declared.var.Var.TheVariants.{Free}
use Rattle.cc_capture.specs.Sets.{Set}
use Rattle.cc_core.specs.Shapes.{Shape, AnyShape, TypeVariable, FunctionShape, TypeFunctionShape, BoxShape}
use Rattle.cc_core.specs.Shapes.{CapturingType}
use Rattle.cc_core.specs.Contexts.{TermEntry, TypeEntry, Context, lookup}
use Rattle.cc_core.specs.Substitution.{opened, opened_set}
use Rattle.cc_core.specs.Subcapturing.{SubcapturesSet}

-- The left shape is below the right one. A type variable is below its bound, and each shape below Any. A function takes
-- more and gives less than one above it, where the results compare under the parameter of the right one.
pub data Subtypes : Context → Shape → Shape → Type 0 where
  reflexive : {context : Context} {shape : Shape} → Subtypes context shape shape
  transitive : {context : Context} {left middle right : Shape}
      → Subtypes context left middle → Subtypes context middle right → Subtypes context left right
  type_variable : {context : Context} {position : ℕ} {bound : Shape}
      → lookup context position ≡ Some (TypeEntry bound) → Subtypes context (TypeVariable (Free position)) bound
  top : {context : Context} {shape : Shape} → Subtypes context shape AnyShape
  function : {context : Context} {takes takes' gives gives' : Shape} {c c' e e' : Set}
      → SubcapturesSet context c' c → Subtypes context takes' takes
      → SubcapturesSet (TermEntry takes' c' ∷ context) (opened_set (length context) e) (opened_set (length context) e')
      → Subtypes (TermEntry takes' c' ∷ context) (opened (length context) gives) (opened (length context) gives')
      → Subtypes context (FunctionShape takes c gives e) (FunctionShape takes' c' gives' e')
  type_function : {context : Context} {bound gives gives' : Shape} {e e' : Set}
      → SubcapturesSet (TypeEntry bound ∷ context) (opened_set (length context) e) (opened_set (length context) e')
      → Subtypes (TypeEntry bound ∷ context) (opened (length context) gives) (opened (length context) gives')
      → Subtypes context (TypeFunctionShape bound gives e) (TypeFunctionShape bound gives' e')
  box : {context : Context} {content content' : Shape} {c c' : Set}
      → SubcapturesSet context c c' → Subtypes context content content'
      → Subtypes context (BoxShape content c) (BoxShape content' c')

-- a type is below another where its set is and its shape is
abbrev pub SubtypesType : Context → CapturingType → CapturingType → Type 0
SubtypesType context left right = SubcapturesSet context left.set right.set × Subtypes context left.shape right.shape
