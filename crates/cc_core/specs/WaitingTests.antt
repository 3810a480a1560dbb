-- What waits where well-formedness is tested by a loop: the parts that are still to be tested, and the ends of the
-- binders passed on the way to them. It serves the code alone.
use Rattle.std.specs.Prelude.{◌≡◌, ℕ, ◌+◌, ◌<◌, ◌≤◌, Bool, true, ◌&&◌, List, [], ◌∷◌, map, reverse, drop}
use Rattle.cc_core.specs.Shapes.{Shape, BaseShape, AnyShape, TypeVariable, FunctionShape, TypeFunctionShape, BoxShape}
use Rattle.cc_core.specs.Shapes.{ExitShape}
use Rattle.cc_core.specs.Terms.{Note, Absent, Written, Own, Term, VariableTerm, LiteralTerm, FunctionTerm}
use Rattle.cc_core.specs.Terms.{TypeFunctionTerm, BoxTerm, Application, TypeApplication, Unboxing, Let, Primitive}
use Rattle.cc_core.specs.Terms.{Conditional, Repetition, Operation, Boundary, Leave}
use Rattle.cc_core.specs.TermViews.{shape_of, type_of, term_of}
use Rattle.cc_core.specs.WellFormed.{Kind, TermKind, TypeKind, is_well_formed_shape, is_well_formed_type}
use Rattle.cc_core.specs.WellFormed.{is_well_formed_term}
use Rattle.cc_core.specs.declared.wellformed.Kind.{Kind as DeclaredKind}
use Rattle.cc_core.specs.declared.wellformed.Kind.TheVariants as kinds
use Rattle.cc_core.specs.declared.wellformed.Waiting.{Waiting}
use Rattle.cc_core.specs.declared.wellformed.Waiting.TheVariants as waits

-- the kind that a value stands for
abbrev pub plain_kind : DeclaredKind → Kind
plain_kind kinds.Term = TermKind
plain_kind kinds.Shape = TypeKind

-- the kinds of the binders passed, the innermost first; the program has it last
abbrev pub passed_kinds : List DeclaredKind → List Kind
passed_kinds passed = reverse (map plain_kind passed)

-- what waits, the next first; the program has it last
abbrev pub in_turn : List Waiting → List Waiting
in_turn waiting = reverse waiting

-- the part is well formed under these binders; where a binder ends, there is none
abbrev pub is_well_formed_part : List Kind → List Kind → Waiting → Bool
is_well_formed_part kinds passed (waits.Type type) = is_well_formed_type kinds passed (type_of type.now.value)
is_well_formed_part kinds passed (waits.Shape shape) = is_well_formed_shape kinds passed (shape_of shape.now.value)
is_well_formed_part kinds passed (waits.Term term) = is_well_formed_term kinds passed (term_of term.now.value)
is_well_formed_part kinds passed (waits.TypeUnder kind type) =
    is_well_formed_type kinds (plain_kind kind ∷ passed) (type_of type.now.value)
is_well_formed_part kinds passed (waits.TermUnder kind term) =
    is_well_formed_term kinds (plain_kind kind ∷ passed) (term_of term.now.value)
is_well_formed_part kinds passed waits.BinderEnds = true

-- the binders that are passed behind it
abbrev pub passed_behind : List Kind → Waiting → List Kind
passed_behind passed (waits.Type type) = passed
passed_behind passed (waits.Shape shape) = passed
passed_behind passed (waits.Term term) = passed
passed_behind passed (waits.TypeUnder kind type) = passed
passed_behind passed (waits.TermUnder kind term) = passed
passed_behind passed waits.BinderEnds = drop 1 passed

-- all that waits is well formed, the next part under these binders
abbrev pub all_well_formed : List Kind → List Kind → List Waiting → Bool
all_well_formed kinds passed [] = true
all_well_formed kinds passed (next ∷ waiting) =
    is_well_formed_part kinds passed next && all_well_formed kinds (passed_behind passed next) waiting

-- how many turns the parts inside a shape take
abbrev pub turns : Shape → ℕ
turns (BaseShape base) = 0
turns AnyShape = 0
turns (TypeVariable variable) = 0
turns (FunctionShape takes c gives e) = 3 + (turns takes + turns gives)
turns (TypeFunctionShape bound gives e) = 3 + (turns bound + turns gives)
turns (BoxShape content c) = 1 + turns content
turns (ExitShape gives) = 1 + turns gives

-- those inside what is written for a type
abbrev pub turns_of_note : Note → ℕ
turns_of_note Absent = 0
turns_of_note (Written shape set) = turns shape
turns_of_note (Own shape) = turns shape

-- those inside a term
abbrev pub turns_of_term : Term → ℕ
turns_of_term (VariableTerm variable) = 0
turns_of_term (LiteralTerm literal) = 0
turns_of_term (FunctionTerm takes c body) = 2 + (turns takes + turns_of_term body)
turns_of_term (TypeFunctionTerm bound body) = 2 + (turns bound + turns_of_term body)
turns_of_term (BoxTerm content) = 0
turns_of_term (Application function argument) = 0
turns_of_term (TypeApplication function argument) = turns argument
turns_of_term (Unboxing set box) = 0
turns_of_term (Let note right body) = 3 + (turns_of_note note + (turns_of_term right + turns_of_term body))
turns_of_term (Primitive operator left right) = 0
turns_of_term (Conditional note test positive negative) =
    2 + (turns_of_note note + (turns_of_term positive + turns_of_term negative))
turns_of_term (Repetition count function) = 0
turns_of_term (Operation operation receiver argument) = 0
turns_of_term (Boundary gives body) = 2 + (turns gives + turns_of_term body)
turns_of_term (Leave gives c exit value) = turns gives

-- how many turns a part takes, with those inside it
abbrev pub turns_of : Waiting → ℕ
turns_of (waits.Type type) = 1 + turns (type_of type.now.value).shape
turns_of (waits.Shape shape) = 1 + turns (shape_of shape.now.value)
turns_of (waits.Term term) = 1 + turns_of_term (term_of term.now.value)
turns_of (waits.TypeUnder kind type) = 2 + turns (type_of type.now.value).shape
turns_of (waits.TermUnder kind term) = 2 + turns_of_term (term_of term.now.value)
turns_of waits.BinderEnds = 1

-- how many are left
abbrev pub turns_left : List Waiting → ℕ
turns_left [] = 0
turns_left (next ∷ waiting) = turns_of next + turns_left waiting

-- A part that takes so many turns was tested: that it fits, and all that waits now, says as much as that it is well
-- formed, and all that waited.
pub record IsTested (kinds passed : List Kind) (part : Bool) (inside : ℕ) (old : List Waiting) (fits : Bool) (new : List Waiting) : Type 0 where
  pub alike : (fits && all_well_formed kinds passed new) ≡ (part && all_well_formed kinds passed old)
  pub left : turns_left new ≤ inside + turns_left old

-- A turn is over: that what was tested fits, and all that waits now, says as much as all that waited, and fewer turns are
-- left.
pub record TakesTurn (kinds passed : List Kind) (old : List Waiting) (fits : Bool) (passes : List Kind) (new : List Waiting) : Type 0 where
  pub alike : (fits && all_well_formed kinds passes new) ≡ all_well_formed kinds passed old
  pub fewer : turns_left new < turns_left old
