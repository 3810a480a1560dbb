-- What is known of shapes that were found before: that so many steps from a shape, to what functions and type functions
-- give and what boxes hold, there is a shape of a size that names no position from one on.
use Rattle.std.specs.Prelude.{◌≡◌, ℕ, zero, suc, ◌+◌, ◌-◌, ◌^◌, ◌≤◌, nat_lt, min, List, length, Option, Some, None}
use Rattle.std.specs.Prelude.{slice_get, if◌then◌else◌}
use Rattle.std.specs.Option.{option_map}
use Rattle.cc_capture.specs.declared.var.Var.{Var}
use Rattle.cc_capture.specs.declared.var.Var.TheVariants.{Bound, Free}
use Rattle.cc_capture.specs.declared.var.Elem.TheVariants.{Var as Variable}
use Rattle.cc_capture.specs.Sets.{Set, contains}
use Rattle.cc_capture.specs.Variables.{same_variable}
use Rattle.cc_core.specs.Shapes.{Shape, BaseShape, AnyShape, TypeVariable, FunctionShape, TypeFunctionShape, BoxShape}
use Rattle.cc_core.specs.Shapes.{ExitShape}
use Rattle.cc_core.specs.Contexts.{TermEntry, Context, lookup}
use Rattle.cc_core.specs.Questions.{Question}
use Rattle.cc_core.specs.Sizes.{shape_size}
use Rattle.cc_known.specs.Signatures.{greatest_in}
use Rattle.cc_known.specs.declared.measures.Measure.{Measure}
use Rattle.cc_known.specs.declared.measures.Measures.{Measures}

-- the size of the shape, or the greatest number where that is less
abbrev pub IsSize : ℕ → Shape → Type 0
IsSize size shape = size ≡ min (shape_size shape) (2 ^ 64 - 1)

-- what is true of the shape that is so many steps from the shape
abbrev pub Along : (Shape → Type 0) → ℕ → Shape → Type 0
Along holds zero shape = holds shape
Along holds (suc steps) (BaseShape base) = Unit {0}
Along holds (suc steps) AnyShape = Unit {0}
Along holds (suc steps) (TypeVariable variable) = Unit {0}
Along holds (suc steps) (FunctionShape takes c gives e) = Along holds steps gives
Along holds (suc steps) (TypeFunctionShape bound gives e) = Along holds steps gives
Along holds (suc steps) (BoxShape content c) = Along holds steps content
Along holds (suc steps) (ExitShape gives) = Unit {0}

-- that one names no position from the first one on
abbrev pub IsClearAlong : ℕ → ℕ → Shape → Type 0
IsClearAlong first steps shape = Along (λ end. greatest_in first end ≡ None) steps shape

-- that one has the size
abbrev pub IsSizedAlong : ℕ → ℕ → Shape → Type 0
IsSizedAlong size steps shape = Along (IsSize size) steps shape

-- what is known of a shape, if anything is
abbrev pub IsMeasuredBy : Option Measure → Shape → Type 0
IsMeasuredBy None shape = Unit {0}
IsMeasuredBy (Some known) shape = IsClearAlong known.first known.steps shape × IsSizedAlong known.size known.steps shape

-- the same, from the position on
abbrev pub IsMeasuredFrom : ℕ → Option Measure → Shape → Type 0
IsMeasuredFrom first None shape = Unit {0}
IsMeasuredFrom first (Some known) shape =
    IsClearAlong first known.steps shape × IsSizedAlong known.size known.steps shape

-- a shape of the size that itself names no position from the first one on
abbrev pub whole_measure : ℕ → ℕ → Measure
whole_measure first size = record { first = first; steps = zero; size = size }

-- what is known of the shape of the entry at a position, of the sizes of those from a position on
abbrev pub measured_at : ℕ → ℕ → List ℕ → ℕ → Option Measure
measured_at first before sizes position =
    if nat_lt position before then None else
    option_map (whole_measure first) (slice_get sizes (position - before))

-- what is known of the shape of the entry at a position
abbrev pub measure_at : Measures → ℕ → Option Measure
measure_at measures position = measured_at measures.first measures.before measures.sizes.items position

-- what is known of the shape of a variable
abbrev pub measure_of : Measures → Var → Option Measure
measure_of measures (Free position) = measure_at measures position
measure_of measures (Bound index) = None

-- it is so of the entries of the context
pub record AreMeasuresOf (measures : Measures) (context : Context) : Type 0 where
  pub fit : measures.before + length measures.sizes.items ≤ length context
  pub each : (position : ℕ) (shape : Shape) (set : Set) → lookup context position ≡ Some (TermEntry shape set)
      → IsMeasuredBy (measure_at measures position) shape

-- it is so of all entries from one on, where no position of anything but a device is free
pub record AreAllMeasuresOf (devices : ℕ) (measures : Measures) (context : Context) : Type 0 where
  pub measures_fit : AreMeasuresOf measures context
  pub from_devices : measures.first ≡ devices
  pub up_to_newest : measures.before + length measures.sizes.items ≡ length context

-- whether the free position occurs
abbrev pub position_question : ℕ → Question
position_question position =
    record { in_set = contains (Variable (Free position)); at = same_variable (Free position) }
