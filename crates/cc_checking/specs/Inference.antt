-- Inference: the type of a term, what its sets have to satisfy, and the term with its omitted sets put in; or the first
-- refusal with its place.
use Rattle.std.specs.Prelude.{◌≡◌, ℕ, zero, nat_le, Bool, true, [], ◌∷◌, length, map, Option, Some, None}
use Rattle.std.specs.Prelude.{if◌then◌else◌}
use Rattle.cc_base.specs.declared.code.Code.TheVariants.{E13, E14, E17, E18}
use Rattle.cc_base.specs.declared.literal.Base.{Base}
use Rattle.cc_base.specs.declared.literal.Base.TheVariants as bases
use Rattle.cc_base.specs.declared.place.Place.{Place}
use Rattle.cc_capture.specs.declared.var.Var.{Var}
use Rattle.cc_capture.specs.declared.var.Var.TheVariants.{Bound, Free}
use Rattle.cc_capture.specs.declared.var.Elem.TheVariants.{Cap}
use Rattle.cc_capture.specs.Sets.{Set, empty, union}
use Rattle.cc_core.specs.Shapes.{Shape, BaseShape, FunctionShape, TypeFunctionShape, BoxShape}
use Rattle.cc_core.specs.Shapes.{ExitShape, CapturingType, capturing}
use Rattle.cc_core.specs.Terms.{Note, Absent, Written, Own, Term, VariableTerm, LiteralTerm, FunctionTerm}
use Rattle.cc_core.specs.Terms.{TypeFunctionTerm, BoxTerm, Application, TypeApplication, Unboxing, Let, Primitive}
use Rattle.cc_core.specs.Terms.{Conditional, Repetition, Operation, Boundary, Leave}
use Rattle.cc_core.specs.Contexts.{Bind, TermEntry, TypeEntry, Context, lookup, entry_of}
use Rattle.cc_core.specs.Substitution.{single, closed, closed_set, replaced_type, replaced_type_by_shape}
use Rattle.cc_core.specs.Reading.{read_variable, read_set, read_shape, read_type, written_set}
use Rattle.cc_core.specs.Equality.{same_shape}
use Rattle.cc_core.specs.Sizes.{type_size}
use Rattle.cc_core.specs.Captured.{captured_variables, variable_set}
use Rattle.cc_core.specs.Typing.{base_of, base_given, base_operated, base_taken, base_answered}
use Rattle.cc_core.specs.Places.{Places, spots, first_part, second_part}
use Rattle.cc_checking.specs.Comparison.{Demand, demanded, Comparison, Unfinished, Mismatch, Matches, Comparing}
use Rattle.cc_checking.specs.Comparison.{types_compared, comparison}
use Rattle.cc_checking.specs.Exposing.{exposed}
use Rattle.cc_checking.specs.Avoidance.{Positive, avoided_type}
use Rattle.cc_checking.specs.Outcomes.{IsBelow, IsCapless, Placed, placed_at, Outcome, NoAnswer, Refused, Found}
use Rattle.cc_checking.specs.Outcomes.{finds, ◌>>=◌, ◌>>◌, found_or}

-- what is found for a term: its type, and the term with its omitted sets put in
pub record Result : Type 0 where
  pub type : CapturingType
  pub completed : Term

-- that type and that term
abbrev pub result : CapturingType → Term → Result
result type completed = record { type = type; completed = completed }

-- what stands in a term at a place of the context, as it stands in the context
abbrev pub in_context : Context → Var → Var
in_context context variable = read_variable (length context) zero variable

-- the same of a set
abbrev pub set_in : Context → Set → Set
set_in context set = read_set (length context) set

-- the same of a shape
abbrev pub shape_in : Context → Shape → Shape
shape_in context shape = read_shape (length context) shape

-- the same of a type
abbrev pub type_in : Context → CapturingType → CapturingType
type_in context type = read_type (length context) type

-- a set that was found, as it stands in a term whose binders put the entries from the root on
abbrev pub written_in : ℕ → Context → Set → Set
written_in root context set = written_set root (length context) set

-- the captured variables of a term, as they stand in the context
abbrev pub captured_in : Context → Term → Set
captured_in context term = set_in context (captured_variables term)

-- a base shape with the empty set
abbrev pub base_type : Base → CapturingType
base_type base = capturing (BaseShape base) empty

-- a variable has the shape of its entry, and captures itself
abbrev pub entry_type : Var → Option Bind → Outcome CapturingType
entry_type variable (Some (TermEntry shape declared)) = finds (capturing shape (variable_set variable))
entry_type variable (Some (TypeEntry bound)) = NoAnswer
entry_type variable None = NoAnswer

-- the type of a variable
abbrev pub variable_type : Context → Var → Outcome CapturingType
variable_type context (Free position) = entry_type (Free position) (lookup context position)
variable_type context (Bound index) = NoAnswer

-- what a function takes and gives
pub record Function : Type 0 where
  pub takes : CapturingType
  pub gives : CapturingType

-- what a type function takes and gives
pub record TypeFunction : Type 0 where
  pub bound : Shape
  pub gives : CapturingType

-- A head has to be of the form that is wanted there.
abbrev pub function_head : Place → Shape → Outcome Function
function_head at (FunctionShape takes c gives e) =
    finds (record { takes = capturing takes c; gives = capturing gives e })
function_head at _ = Refused E13 at

-- the same of a type function
abbrev pub type_function_head : Place → Shape → Outcome TypeFunction
type_function_head at (TypeFunctionShape bound gives e) = finds (record { bound = bound; gives = capturing gives e })
type_function_head at _ = Refused E13 at

-- the same of a box, with the type of its content
abbrev pub box_head : Place → Shape → Outcome CapturingType
box_head at (BoxShape content c) = finds (capturing content c)
box_head at _ = Refused E13 at

-- the same of an exit, with the shape that it takes
abbrev pub exit_head : Place → Shape → Outcome Shape
exit_head at (ExitShape gives) = finds gives
exit_head at _ = Refused E13 at

-- the same of a device of the base shape
abbrev pub device_head : Place → Base → Shape → Outcome (Unit {0})
device_head at base shape = if same_shape shape (BaseShape base) then finds tt else Refused E13 at

-- the demand of a comparison, asked at the place
abbrev pub demand_at : Place → Demand → Placed
demand_at at demand = placed_at at (IsBelow demand)

-- a comparison at a place: all that it demands is asked there
abbrev pub compared_at : Place → Comparison → Outcome (Unit {0})
compared_at at Unfinished = NoAnswer
compared_at at Mismatch = Refused E14 at
compared_at at (Matches demands) = Found tt (map (demand_at at) demands)

-- one type has to be below another
abbrev pub below : Comparing → Place → Context → CapturingType → CapturingType → Outcome (Unit {0})
below compare at context left right = compared_at at (types_compared compare context left right)

-- one shape has to be below another, and sets do not count
abbrev pub against : Comparing → Place → Context → Shape → Shape → Outcome (Unit {0})
against compare at context left right = compared_at at (compare context left right)

-- an operand has to be of the shape
abbrev pub operand : Comparing → Place → Context → Var → Shape → Outcome (Unit {0})
operand compare at context variable shape = do
  type ← variable_type context (in_context context variable)
  against compare at context type.shape shape

-- the argument of an operation has to be there where the operation takes one, and of that base shape
abbrev pub operation_argument : Comparing → Place → Context → Option Base → Option Var → Outcome (Unit {0})
operation_argument compare at context (Some base) (Some variable) =
    operand compare at context variable (BaseShape base)
operation_argument compare at context (Some base) None = Refused E14 at
operation_argument compare at context None (Some variable) = Refused E14 at
operation_argument compare at context None None = finds tt

-- The set under which a box is opened. The set of the content has to be below one that is written, and one that is
-- omitted is the set of the content.
abbrev pub opening_set : Place → Context → Set → Option Set → Outcome Set
opening_set at context content (Some set) =
    Found (set_in context set) (demand_at at (demanded context content (set_in context set)) ∷ [])
opening_set at context content None = Found content []

-- the set as it is written in the completed term
abbrev pub completed_set : ℕ → Context → Set → Option Set → Option Set
completed_set root context found (Some set) = Some set
completed_set root context found None = Some (written_in root context found)

-- a set may not have the universal capability
abbrev pub capless : Place → Set → Outcome (Unit {0})
capless at set = Found tt (placed_at at (IsCapless set) ∷ [])

-- the type of what is named, and what is then written for it
pub record Named : Type 0 where
  pub type : CapturingType
  pub note : Note

-- that type and that note
abbrev pub named_by : CapturingType → Note → Named
named_by type note = record { type = type; note = note }

-- A type that was found, where a type may be written for it: the written one has to be above it. Where the set is
-- omitted the shape alone is compared, and the set is the one found.
abbrev pub noted : Comparing → ℕ → Place → Context → Note → CapturingType → Outcome Named
noted compare root at context Absent type = finds (named_by type Absent)
noted compare root at context (Written shape set) type = do
  below compare at context type (type_in context (capturing shape set))
  finds (named_by (type_in context (capturing shape set)) (Written shape set))
noted compare root at context (Own shape) type = do
  against compare at context type.shape (shape_in context shape)
  finds (named_by (capturing (shape_in context shape) type.set) (Written shape (written_in root context type.set)))

-- The newest variable goes out of scope.
abbrev pub left_behind : Place → Context → Set → CapturingType → Outcome CapturingType
left_behind at context declared type = found_or E17 at (avoided_type Positive (length context) declared type)

-- what is found for a part, where its type has to be below another
abbrev pub part_below : Comparing → Place → Context → CapturingType → Outcome Result → Outcome Result
part_below compare at context type row = do
  part ← row
  below compare at context part.type type
  finds part

-- the same where its shape has to be below another
abbrev pub part_against : Comparing → Place → Context → Shape → Outcome Result → Outcome Result
part_against compare at context shape row = do
  part ← row
  against compare at context part.type.shape shape
  finds part

-- How shapes are compared, and which types are not too large.
pub record Ways : Type 0 where
  pub compare : Comparing
  pub passes : CapturingType → Bool

-- a type that is too large is refused
abbrev pub tested : Ways → Place → Result → Outcome Result
tested ways at found = if ways.passes found.type then finds found else Refused E18 at

-- what a row of steps finds for a term, with the test of its size
abbrev pub sized : Ways → Places → Outcome Result → Outcome Result
sized ways places row = ◌>>=◌ row (tested ways (spots places).at)

-- the function of a parameter's type, and of what was found for its body
abbrev pub function_found : Context → Shape → Set → Result → Result
function_found context takes c body =
    result
    (capturing
    (FunctionShape (shape_in context takes) (set_in context c) (closed (length context) body.type.shape)
    (closed_set (length context) body.type.set))
    (captured_in context (FunctionTerm takes c body.completed)))
    (FunctionTerm takes c body.completed)

-- the same of a type function
abbrev pub type_function_found : Context → Shape → Result → Result
type_function_found context bound body =
    result
    (capturing
    (TypeFunctionShape (shape_in context bound) (closed (length context) body.type.shape)
    (closed_set (length context) body.type.set))
    (captured_in context (TypeFunctionTerm bound body.completed)))
    (TypeFunctionTerm bound body.completed)

-- a choice whose set is omitted has the set of both branches
abbrev pub choice_found : ℕ → Context → Shape → Var → Result → Result → Result
choice_found root context shape test positive negative =
    result (capturing (shape_in context shape) (union positive.type.set negative.type.set))
    (Conditional (Written shape (written_in root context (union positive.type.set negative.type.set))) test
    positive.completed negative.completed)

-- the entry of the exit that a boundary makes
abbrev pub exit_entry : Shape → Bind
exit_entry gives = TermEntry (ExitShape gives) (single Cap)

-- Inference of a term at a place of the context, whose entries from the root on are those of the binders passed. The
-- steps of a form stand in their order, and the first refusal counts. The type of each term is tested for its size.
abbrev pub inferred : Ways → ℕ → Context → Term → Places → Outcome Result
inferred ways root context (VariableTerm variable) places = sized ways places do
  type ← variable_type context (in_context context variable)
  finds (result type (VariableTerm variable))
inferred ways root context (LiteralTerm literal) places =
    sized ways places (finds (result (base_type (base_of literal)) (LiteralTerm literal)))
inferred ways root context (FunctionTerm takes c body) places = sized ways places do
  part ← inferred ways root (entry_of (type_in context (capturing takes c)) ∷ context) body (first_part places)
  finds (function_found context takes c part)
inferred ways root context (TypeFunctionTerm bound body) places = sized ways places do
  part ← inferred ways root (TypeEntry (shape_in context bound) ∷ context) body (first_part places)
  finds (type_function_found context bound part)
inferred ways root context (BoxTerm content) places = sized ways places do
  type ← variable_type context (in_context context content)
  finds (result (capturing (BoxShape type.shape type.set) empty) (BoxTerm content))
inferred ways root context (Application function argument) places = sized ways places do
  applied ← variable_type context (in_context context function)
  head ← function_head (spots places).first (exposed context applied.shape)
  given ← variable_type context (in_context context argument)
  below ways.compare (spots places).second context given head.takes
  finds (result (replaced_type (in_context context argument) head.gives) (Application function argument))
inferred ways root context (TypeApplication function argument) places = sized ways places do
  applied ← variable_type context (in_context context function)
  head ← type_function_head (spots places).first (exposed context applied.shape)
  against ways.compare (spots places).second context (shape_in context argument) head.bound
  finds (result (replaced_type_by_shape (shape_in context argument) head.gives) (TypeApplication function argument))
inferred ways root context (Unboxing set box) places = sized ways places do
  opened ← variable_type context (in_context context box)
  content ← box_head (spots places).first (exposed context opened.shape)
  under ← opening_set (spots places).first context content.set set
  capless (spots places).second under
  finds (result (capturing content.shape under) (Unboxing (completed_set root context under set) box))
inferred ways root context (Let note right body) places = sized ways places do
  one ← inferred ways root context right (first_part places)
  named ← noted ways.compare root (spots (first_part places)).at context note one.type
  two ← inferred ways root (entry_of named.type ∷ context) body (second_part places)
  type ← left_behind (spots places).first context named.type.set two.type
  finds (result type (Let named.note one.completed two.completed))
inferred ways root context (Primitive operator left right) places = sized ways places do
  operand ways.compare (spots places).first context left (BaseShape bases.Int)
  operand ways.compare (spots places).second context right (BaseShape bases.Int)
  finds (result (base_type (base_given operator)) (Primitive operator left right))
-- a choice that nothing is written for is no choice of the language
inferred ways root context (Conditional Absent test positive negative) places = Refused E14 (spots places).at
inferred ways root context (Conditional (Written shape set) test positive negative) places = sized ways places do
  operand ways.compare (spots places).first context test (BaseShape bases.Bool)
  one ← part_below ways.compare (spots (first_part places)).at context (type_in context (capturing shape set))
      (inferred ways root context positive (first_part places))
  two ← part_below ways.compare (spots (second_part places)).at context (type_in context (capturing shape set))
      (inferred ways root context negative (second_part places))
  finds
      (result (type_in context (capturing shape set))
      (Conditional (Written shape set) test one.completed two.completed))
inferred ways root context (Conditional (Own shape) test positive negative) places = sized ways places do
  operand ways.compare (spots places).first context test (BaseShape bases.Bool)
  one ← part_against ways.compare (spots (first_part places)).at context (shape_in context shape)
      (inferred ways root context positive (first_part places))
  two ← part_against ways.compare (spots (second_part places)).at context (shape_in context shape)
      (inferred ways root context negative (second_part places))
  finds (choice_found root context shape test one two)
inferred ways root context (Repetition count function) places = sized ways places do
  operand ways.compare (spots places).first context count (BaseShape bases.Int)
  operand ways.compare (spots places).second context function
      (FunctionShape (BaseShape bases.Int) empty (BaseShape bases.Unit) empty)
  finds (result (base_type bases.Unit) (Repetition count function))
inferred ways root context (Operation operation receiver argument) places = sized ways places do
  device ← variable_type context (in_context context receiver)
  device_head (spots places).first (base_operated operation) (exposed context device.shape)
  operation_argument ways.compare (spots places).second context (base_taken operation) argument
  finds (result (base_type (base_answered operation)) (Operation operation receiver argument))
inferred ways root context (Boundary gives body) places = sized ways places do
  part ← part_below ways.compare (spots (first_part places)).at (exit_entry (shape_in context gives) ∷ context)
      (capturing (shape_in context gives) empty)
      (inferred ways root (exit_entry (shape_in context gives) ∷ context) body (first_part places))
  finds (result (capturing (shape_in context gives) empty) (Boundary gives part.completed))
inferred ways root context (Leave gives c exit value) places = sized ways places do
  left ← variable_type context (in_context context exit)
  takes ← exit_head (spots places).first (exposed context left.shape)
  given ← variable_type context (in_context context value)
  below ways.compare (spots places).second context given (capturing takes empty)
  finds (result (type_in context (capturing gives c)) (Leave gives c exit value))

-- comparisons of so many steps, and any size passes
abbrev pub unlimited : ℕ → Ways
unlimited steps = record { compare = comparison steps; passes = λ type. true }

-- the greatest size of a type that passes
abbrev pub greatest_size : ℕ
greatest_size = 4096

-- comparisons of so many steps, and no type may be larger than the greatest size
abbrev pub limited : ℕ → Ways
limited steps = record { compare = comparison steps; passes = λ type. nat_le (type_size type) greatest_size }

-- Inference comes to the outcome, with comparisons that are at their ends.
abbrev pub Infers : ℕ → Context → Term → Places → Outcome Result → Type 0
Infers root context term places outcome =
    (steps : ℕ) × (inferred (limited steps) root context term places ≡ outcome) × (outcome ≡ NoAnswer → ⊥)
