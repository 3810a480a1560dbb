-- Why a form without parts is refused, by the code of the refusal.
use Rattle.std.specs.Prelude.{◌≡◌, ◌⊎◌, ℕ, List, Bool, true, false, Option, Some, None}
use Rattle.cc_base.specs.declared.code.Code.{Code}
use Rattle.cc_base.specs.declared.literal.Base.{Base}
use Rattle.cc_base.specs.declared.place.Place.{Place}
use Rattle.cc_capture.specs.declared.var.Var.{Var}
use Rattle.cc_capture.specs.Sets.{Set}
use Rattle.cc_core.specs.Contexts.{Context}
use Rattle.cc_core.specs.Places.{Places}
use Rattle.cc_core.specs.Shapes.{Shape, CapturingType}
use Rattle.cc_core.specs.Terms.{Term, VariableTerm, LiteralTerm, FunctionTerm, TypeFunctionTerm, BoxTerm, Application}
use Rattle.cc_core.specs.Terms.{TypeApplication, Unboxing, Let, Primitive, Conditional, Repetition, Operation, Boundary}
use Rattle.cc_core.specs.Terms.{Leave}
use Rattle.cc_checking.specs.Comparison.{Demand, Comparison, Mismatch, Matches}
use Rattle.cc_checking.specs.Exposing.{exposed}
use Rattle.cc_checking.specs.Inference.{set_in, in_context, variable_type}
use Rattle.cc_checking.specs.Outcomes as plain
use Rattle.cc_type.specs.Rows.{comparing, ways}
use Rattle.cc_reasons.specs.Causes.{Scene, Cause, WrongShape, Refused, outcome_of}
use Rattle.cc_reasons.specs.ExplainedInference.{BinderNames, explained}

-- Where the term is refused in the scene with the code, wherever it stands, it is for the cause.
pub record IsCauseIn (code : Code) (scene : Scene) (term : Term) (cause : Cause) : Type 0 where
  pub told : (root : ℕ) (places : Places) (names : BinderNames) (at : Place)
      → outcome_of (explained ways root scene term places names) ≡ plain.Refused code at
      → explained ways root scene term places names ≡ Refused cause at

-- the answer to the question whether shapes match, for what their comparison comes to
abbrev pub IsMatch : Bool → Comparison → Type 0
IsMatch true comparison = (demands : List Demand) × (comparison ≡ Matches demands)
IsMatch false comparison = comparison ≡ Mismatch

-- the set under which a box is opened
abbrev pub opened_under : Context → Set → Option Set → Set
opened_under context content (Some set) = set_in context set
opened_under context content None = content

-- the shape of the variable's type exposes to this
pub record IsExposedAs (context : Context) (variable : Var) (shape : Shape) : Type 0 where
  pub type : CapturingType
  pub found : variable_type context (in_context context variable) ≡ plain.finds type
  pub is : shape ≡ exposed context type.shape

-- the argument is there where none is taken, or is not where one is
abbrev pub IsMisplaced : Option Base → Option Var → Type 0
IsMisplaced (Some base) (Some variable) = ⊥
IsMisplaced (Some base) None = Unit {0}
IsMisplaced None (Some variable) = Unit {0}
IsMisplaced None None = Unit {0}

-- the variable has the type
abbrev pub IsOfType : Context → Var → CapturingType → Type 0
IsOfType context variable type = variable_type context (in_context context variable) ≡ plain.finds type

-- The cause is that the first of two operands does not match the one shape; or that the second does not match the other,
-- where the first does match.
abbrev pub IsOfOperands : Scene → Var → Var → Shape → Shape → Cause → Type 0
IsOfOperands scene left right one other cause =
    ((type : CapturingType) × IsOfType scene.context left type × IsMatch false (comparing scene.context type.shape one)
    × (cause ≡ WrongShape scene type.shape one))
    ⊎ ((type second : CapturingType) × IsOfType scene.context left type
    × IsMatch true (comparing scene.context type.shape one) × IsOfType scene.context right second
    × (cause ≡ WrongShape scene second.shape other))

-- the term has no parts
abbrev pub IsLeaf : Term → Type 0
IsLeaf (VariableTerm variable) = Unit {0}
IsLeaf (LiteralTerm literal) = Unit {0}
IsLeaf (FunctionTerm takes c body) = ⊥
IsLeaf (TypeFunctionTerm bound body) = ⊥
IsLeaf (BoxTerm content) = Unit {0}
IsLeaf (Application function argument) = Unit {0}
IsLeaf (TypeApplication function argument) = Unit {0}
IsLeaf (Unboxing set box) = Unit {0}
IsLeaf (Let note right body) = ⊥
IsLeaf (Primitive operator left right) = Unit {0}
IsLeaf (Conditional note test positive negative) = ⊥
IsLeaf (Repetition count function) = Unit {0}
IsLeaf (Operation operation receiver argument) = Unit {0}
IsLeaf (Boundary gives body) = ⊥
IsLeaf (Leave gives c exit value) = Unit {0}
