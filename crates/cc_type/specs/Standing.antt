-- A term at a place of a context that binders made: it is well formed there, and so is all that is read of it.
use Rattle.std.specs.Prelude.{◌≡◌, ℕ, ◌++◌, length, ◌∷◌, IsTrue}
use Rattle.cc_core.specs.Shapes.{CapturingType, capturing}
use Rattle.cc_core.specs.Terms.{Note, Absent, Written, Own, Term, VariableTerm, LiteralTerm, FunctionTerm}
use Rattle.cc_core.specs.Terms.{TypeFunctionTerm, BoxTerm, Application, TypeApplication, Unboxing, Let, Primitive}
use Rattle.cc_core.specs.Terms.{Conditional, Repetition, Operation, Boundary, Leave}
use Rattle.cc_core.specs.Contexts.{TypeEntry, Context, entry_of}
use Rattle.cc_core.specs.WellFormed.{kinds_of, is_well_formed_term, IsWellFormedShape, IsWellFormedType}
use Rattle.cc_checking.specs.Inference.{shape_in, type_in, exit_entry}

-- The context has the entries of the binders passed on top of those before the root, and the term is well formed under
-- these binders.
pub record StandsIn (root : ℕ) (context : Context) (term : Term) : Type 0 where
  pub base : Context
  pub passed : Context
  pub is : context ≡ passed ++ base
  pub root_is : length base ≡ root
  pub formed : IsTrue (is_well_formed_term (kinds_of base) (kinds_of passed) term)

-- what is written for a type is well formed, as it is read
abbrev pub NoteReadsWell : Context → Note → Type 0
NoteReadsWell context Absent = Unit {0}
NoteReadsWell context (Written shape set) = IsWellFormedType context (type_in context (capturing shape set))
NoteReadsWell context (Own shape) = IsWellFormedShape context (shape_in context shape)

-- The term stands so, and so does each term in it, in the context of its place; and what is written in them is well
-- formed, as it is read there.
abbrev pub StandsWell : ℕ → Context → Term → Type 0
StandsWell root context (VariableTerm variable) = StandsIn root context (VariableTerm variable)
StandsWell root context (LiteralTerm literal) = StandsIn root context (LiteralTerm literal)
StandsWell root context (FunctionTerm takes c body) =
    StandsIn root context (FunctionTerm takes c body)
    × IsWellFormedType context (type_in context (capturing takes c))
    × StandsWell root (entry_of (type_in context (capturing takes c)) ∷ context) body
StandsWell root context (TypeFunctionTerm bound body) =
    StandsIn root context (TypeFunctionTerm bound body) × IsWellFormedShape context (shape_in context bound)
    × StandsWell root (TypeEntry (shape_in context bound) ∷ context) body
StandsWell root context (BoxTerm content) = StandsIn root context (BoxTerm content)
StandsWell root context (Application function argument) = StandsIn root context (Application function argument)
StandsWell root context (TypeApplication function argument) =
    StandsIn root context (TypeApplication function argument) × IsWellFormedShape context (shape_in context argument)
StandsWell root context (Unboxing set box) = StandsIn root context (Unboxing set box)
StandsWell root context (Let note right body) =
    StandsIn root context (Let note right body) × NoteReadsWell context note × StandsWell root context right
    × ((named : CapturingType) → IsWellFormedType context named → StandsWell root (entry_of named ∷ context) body)
StandsWell root context (Primitive operator left right) = StandsIn root context (Primitive operator left right)
StandsWell root context (Conditional note test positive negative) =
    StandsIn root context (Conditional note test positive negative) × NoteReadsWell context note
    × StandsWell root context positive × StandsWell root context negative
StandsWell root context (Repetition count function) = StandsIn root context (Repetition count function)
StandsWell root context (Operation operation receiver argument) =
    StandsIn root context (Operation operation receiver argument)
StandsWell root context (Boundary gives body) =
    StandsIn root context (Boundary gives body) × IsWellFormedShape context (shape_in context gives)
    × StandsWell root (exit_entry (shape_in context gives) ∷ context) body
StandsWell root context (Leave gives c exit value) =
    StandsIn root context (Leave gives c exit value) × IsWellFormedType context (type_in context (capturing gives c))
