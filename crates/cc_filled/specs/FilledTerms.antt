-- When a term is another one with its omitted sets filled in. A text may leave out the set of a function's parameter, the
-- set of a type that is written for a term, and the set under which a box is opened. Any sets will do in their places, and
-- everything else stays as it is.
use Rattle.std.specs.Prelude.{◌≡◌, ◌⊎◌, ℕ, Option, Some, None}
use Rattle.cc_base.specs.Literals.{Literal}
use Rattle.cc_base.specs.declared.literal.Operator.{Operator}
use Rattle.cc_base.specs.declared.literal.Op.{Op}
use Rattle.cc_capture.specs.declared.var.Var.{Var}
use Rattle.cc_capture.specs.declared.var.Elem.TheVariants.{Hole}
use Rattle.cc_capture.specs.Sets.{Set, Member}
use Rattle.cc_core.specs.Shapes.{Shape}
use Rattle.cc_core.specs.Terms.{Note, Absent, Written, Own, Term, VariableTerm, LiteralTerm, FunctionTerm}
use Rattle.cc_core.specs.Terms.{TypeFunctionTerm, BoxTerm, Application, TypeApplication, Unboxing, Let, Primitive}
use Rattle.cc_core.specs.Terms.{Conditional, Repetition, Operation, Boundary, Leave}

-- the set of a parameter is omitted: a hole stands for it
abbrev pub IsOmitted : Set → Type 0
IsOmitted set = (hole : ℕ) × Member (Hole hole) set

-- the set stands where this one is written: any does where it is omitted
abbrev pub FillsSet : Set → Set → Type 0
FillsSet written set = IsOmitted written ⊎ (written ≡ set)

-- the same of the set under which a box is opened
abbrev pub FillsOpenedSet : Option Set → Option Set → Type 0
FillsOpenedSet None filled = (set : Set) × (filled ≡ Some set)
FillsOpenedSet (Some set) filled = filled ≡ Some set

-- the same of what is written for the type of a term: where its set is omitted, its shape is written with some set
abbrev pub FillsNote : Note → Note → Type 0
FillsNote Absent filled = filled ≡ Absent
FillsNote (Written shape set) filled = filled ≡ Written shape set
FillsNote (Own shape) filled = (set : Set) × (filled ≡ Written shape set)

-- The second term is the first with its omitted sets filled in.
pub data IsFilledAs : Term → Term → Type 0 where
  fills-variable : {variable : Var} → IsFilledAs (VariableTerm variable) (VariableTerm variable)
  fills-literal : {literal : Literal} → IsFilledAs (LiteralTerm literal) (LiteralTerm literal)
  fills-function : {takes : Shape} {c d : Set} {body filled : Term} → FillsSet c d → IsFilledAs body filled
      → IsFilledAs (FunctionTerm takes c body) (FunctionTerm takes d filled)
  fills-type_function : {bound : Shape} {body filled : Term} → IsFilledAs body filled
      → IsFilledAs (TypeFunctionTerm bound body) (TypeFunctionTerm bound filled)
  fills-box : {content : Var} → IsFilledAs (BoxTerm content) (BoxTerm content)
  fills-application : {function argument : Var}
      → IsFilledAs (Application function argument) (Application function argument)
  fills-type_application : {function : Var} {argument : Shape}
      → IsFilledAs (TypeApplication function argument) (TypeApplication function argument)
  fills-unboxing : {opened opened' : Option Set} {box : Var} → FillsOpenedSet opened opened'
      → IsFilledAs (Unboxing opened box) (Unboxing opened' box)
  fills-let : {note note' : Note} {right right' body body' : Term} → FillsNote note note'
      → IsFilledAs right right' → IsFilledAs body body'
      → IsFilledAs (Let note right body) (Let note' right' body')
  fills-primitive : {operator : Operator} {left right : Var}
      → IsFilledAs (Primitive operator left right) (Primitive operator left right)
  fills-choice : {note note' : Note} {test : Var} {positive positive' negative negative' : Term}
      → FillsNote note note' → IsFilledAs positive positive' → IsFilledAs negative negative'
      → IsFilledAs (Conditional note test positive negative) (Conditional note' test positive' negative')
  fills-repetition : {count function : Var} → IsFilledAs (Repetition count function) (Repetition count function)
  fills-operation : {operation : Op} {receiver : Var} {argument : Option Var}
      → IsFilledAs (Operation operation receiver argument) (Operation operation receiver argument)
  fills-boundary : {gives : Shape} {body filled : Term} → IsFilledAs body filled
      → IsFilledAs (Boundary gives body) (Boundary gives filled)
  fills-exit : {gives : Shape} {c : Set} {exit value : Var}
      → IsFilledAs (Leave gives c exit value) (Leave gives c exit value)
