-- The types, captured variables and notes that the last steps of inference put together.
use Rattle.std.specs.Prelude.{ℕ, length, if◌then◌else◌}
use Rattle.cc_base.specs.declared.code.Code.TheVariants.{E17}
use Rattle.cc_base.specs.declared.place.Place.{Place}
use Rattle.cc_capture.specs.Sets.{Set, union}
use Rattle.cc_core.specs.Shapes.{Shape, FunctionShape, TypeFunctionShape, CapturingType, capturing}
use Rattle.cc_core.specs.Terms.{Note, Absent, Written, Own, Term}
use Rattle.cc_core.specs.Contexts.{Context}
use Rattle.cc_core.specs.Captured.{is_unused_value, without_binder}
use Rattle.cc_core.specs.Substitution.{closed, closed_set}
use Rattle.cc_checking.specs.Outcomes.{Outcome, NoAnswer, finds}
use Rattle.cc_checking.specs.Inference.{set_in, shape_in, type_in, written_in, Named, named_by}
use Rattle.cc_avoid.specs.declared.avoiding.AvoidError.{AvoidError}
use Rattle.cc_avoid.specs.declared.avoiding.AvoidError.TheVariants as errors
use Rattle.cc_known.specs.declared.stop.Stop.{Stop}
use Rattle.cc_known.specs.declared.stop.Stop.TheVariants as stops

-- the type of a function that takes this, whose body has that type and captures these outside of its binder
abbrev pub function_type : Context → CapturingType → CapturingType → Set → CapturingType
function_type context takes gives captured =
    capturing
    (FunctionShape takes.shape takes.set (closed (length context) gives.shape) (closed_set (length context) gives.set))
    (set_in context captured)

-- the same of a type function
abbrev pub type_function_type : Context → Shape → CapturingType → Set → CapturingType
type_function_type context bound gives captured =
    capturing
    (TypeFunctionShape bound (closed (length context) gives.shape) (closed_set (length context) gives.set))
    (set_in context captured)

-- what the failure of avoidance at the place is to checking
abbrev pub unavoidable_at : AvoidError → Place → Stop
unavoidable_at errors.Unavoidable at = stops.Refused (record { code = E17; place = at })
unavoidable_at errors.NoMemory at = stops.NoMemory

-- the captured variables of a let, by those of its right side and of its body
abbrev pub let_captured : Term → Set → Set → Set
let_captured right of_right of_body =
    if is_unused_value right of_body then without_binder of_body else union of_right (without_binder of_body)

-- the type and the note of a choice whose set is omitted
abbrev pub own_choice : ℕ → Context → Shape → Set → Set → Named
own_choice root context written one two =
    named_by (capturing (shape_in context written) (union one two))
    (Written written (written_in root context (union one two)))

-- the type and the note of a choice
abbrev pub named_choice : ℕ → Context → Note → Set → Set → Outcome Named
named_choice root context Absent one two = NoAnswer
named_choice root context (Written shape set) one two =
    finds (named_by (type_in context (capturing shape set)) (Written shape set))
named_choice root context (Own shape) one two = finds (own_choice root context shape one two)
