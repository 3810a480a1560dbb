-- Shapes and types, as plain trees.
use Rattle.cc_base.specs.declared.literal.Base.{Base}
use Rattle.cc_capture.specs.declared.var.Var.{Var}
use Rattle.cc_capture.specs.Sets.{Set}

-- Shapes of types, as CC<:□ has them, with base shapes and with exits of boundaries besides. A type in a shape is
-- taken apart into its shape and its set. What a function or a type function gives stands under a binder, which is
-- its index 0.
pub data Shape : Type 0 where
  BaseShape : (base : Base) → Shape
  AnyShape : Shape
  TypeVariable : (variable : Var) → Shape
  FunctionShape : (takes : Shape) (takes_set : Set) (gives : Shape) (gives_set : Set) → Shape
  TypeFunctionShape : (bound : Shape) (gives : Shape) (gives_set : Set) → Shape
  BoxShape : (content : Shape) (content_set : Set) → Shape
  ExitShape : (gives : Shape) → Shape

-- a type: a shape, and the set of what a value of the type may capture
pub record CapturingType : Type 0 where
  pub shape : Shape
  pub set : Set

-- the type of the shape and the set
abbrev pub capturing : Shape → Set → CapturingType
capturing shape set = record { shape = shape; set = set }
