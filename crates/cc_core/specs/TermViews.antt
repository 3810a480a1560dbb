-- The plain trees that the program's values stand for. Places and sharing are left out.
use Rattle.std.specs.Prelude.{List, map, false}
use Rattle.std.specs.List.{list_any}
use Rattle.cc_core.specs.declared.types.Shape.{Shape as DeclaredShape}
use Rattle.cc_core.specs.declared.types.Shape.TheVariants as shapes
use Rattle.cc_core.specs.declared.types.Ty.{Ty}
use Rattle.cc_core.specs.declared.terms.Note.{Note as DeclaredNote}
use Rattle.cc_core.specs.declared.terms.Note.TheVariants as notes
use Rattle.cc_core.specs.declared.terms.Form.{Form}
use Rattle.cc_core.specs.declared.terms.Form.TheVariants as forms
use Rattle.cc_core.specs.declared.terms.Node.{Node}
use Rattle.cc_core.specs.declared.context.Bind.{Bind as DeclaredBind}
use Rattle.cc_core.specs.declared.context.Bind.TheVariants as binds
use Rattle.cc_core.specs.Shapes.{Shape, BaseShape, AnyShape, TypeVariable, FunctionShape, TypeFunctionShape, BoxShape}
use Rattle.cc_core.specs.Shapes.{ExitShape, CapturingType, capturing}
use Rattle.cc_base.specs.Literals.{literal_of}
use Rattle.cc_core.specs.Terms.{Note, Absent, Written, Own, Term, VariableTerm, LiteralTerm, FunctionTerm}
use Rattle.cc_core.specs.Terms.{TypeFunctionTerm, BoxTerm, Application, TypeApplication, Unboxing, Let, Primitive}
use Rattle.cc_core.specs.Terms.{Conditional, Repetition, Operation, Boundary, Leave}
use Rattle.cc_core.specs.Contexts.{Bind, TermEntry, TypeEntry, Context}
use Rattle.cc_core.specs.Reading.{read_shape}
use Rattle.cc_core.specs.declared.occurrences.Question.{Question as DeclaredQuestion}
use Rattle.cc_capture.specs.declared.var.Var.TheVariants.{Free}
use Rattle.cc_capture.specs.declared.var.Elem.TheVariants.{Var as Variable}
use Rattle.cc_capture.specs.Variables.{same_variable}
use Rattle.cc_capture.specs.Sets.{contains}
use Rattle.cc_core.specs.declared.occurrences.Question.TheVariants as questions
use Rattle.cc_core.specs.Questions.{Question, is_hole}

-- the shape, with the types in it taken apart
abbrev pub shape_of : DeclaredShape → Shape
shape_of (shapes.Base base) = BaseShape base
shape_of shapes.Any = AnyShape
shape_of (shapes.TVar variable) = TypeVariable variable
shape_of (shapes.Fun' p q takes c p' q' gives e) = FunctionShape (shape_of takes) c (shape_of gives) e
shape_of (shapes.TFun' p bound q p' gives e) = TypeFunctionShape (shape_of bound) (shape_of gives) e
shape_of (shapes.Boxed' p q content c) = BoxShape (shape_of content) c
shape_of (shapes.Exit' p gives) = ExitShape (shape_of gives)

-- the type
abbrev pub type_of : Ty → CapturingType
type_of type = capturing (shape_of type.shape.value) type.set

-- what is written for a type
abbrev pub note_of : DeclaredNote → Note
note_of notes.Absent = Absent
note_of (notes.Written type) = Written (shape_of type.value.shape.value) type.value.set
note_of (notes.Own shape) = Own (shape_of shape.value)

-- the term that a form is
abbrev pub form_of : Form → Term
form_of (forms.Var variable) = VariableTerm variable
form_of (forms.Lit literal) = LiteralTerm (literal_of literal)
form_of (forms.Fun' takes p body at first second) =
    FunctionTerm (shape_of takes.value.shape.value) takes.value.set (form_of body)
form_of (forms.TFun' bound p body at first second) = TypeFunctionTerm (shape_of bound.value) (form_of body)
form_of (forms.Boxed content) = BoxTerm content
form_of (forms.App function argument) = Application function argument
form_of (forms.TApp function argument) = TypeApplication function (shape_of argument.value)
form_of (forms.Unbox set box) = Unboxing set box
form_of (forms.Let' note p right at first second q body at' first' second') =
    Let (note_of note) (form_of right) (form_of body)
form_of (forms.Prim operator left right) = Primitive operator left right
form_of (forms.If' note test p positive at first second q negative at' first' second') =
    Conditional (note_of note) test (form_of positive) (form_of negative)
form_of (forms.Repeat count function) = Repetition count function
form_of (forms.Operate operation receiver argument) = Operation operation receiver argument
form_of (forms.Boundary' gives p body at first second) = Boundary (shape_of gives.value) (form_of body)
form_of (forms.Leave gives exit value) = Leave (shape_of gives.value.shape.value) gives.value.set exit value

-- the term at a node
abbrev pub term_of : Node → Term
term_of node = form_of node.form

-- the entry of a context, whose shape is read where that is still to be done
abbrev pub bind_of : DeclaredBind → Bind
bind_of (binds.Var type) = TermEntry (shape_of type.shape.value) type.set
bind_of (binds.TVar bound) = TypeEntry (shape_of bound.value)
bind_of (binds.Unread shape set entries) = TermEntry (read_shape entries (shape_of shape.value)) set

-- the context of a list of entries, the newest first
abbrev pub context_of : List DeclaredBind → Context
context_of entries = map bind_of entries

-- the question that a value stands for
abbrev pub question_of : DeclaredQuestion → Question
question_of (questions.Position position) =
    record { in_set = contains (Variable (Free position)); at = same_variable (Free position) }
question_of questions.Hole = record { in_set = λ set. list_any is_hole set.list; at = λ variable. false }
