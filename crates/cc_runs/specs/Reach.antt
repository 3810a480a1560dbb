-- What a running program can still come to: the captured set of a configuration, and the devices and labels that it
-- reaches through the store.
use Rattle.std.specs.Prelude.{◌≡◌, ℕ, [], ◌∷◌, Some}
use Rattle.cc_capture.specs.declared.var.Var.TheVariants.{Free}
use Rattle.cc_capture.specs.declared.var.Elem.TheVariants.{Var as Variable}
use Rattle.cc_capture.specs.Sets.{Set, Member, empty, union}
use Rattle.cc_core.specs.Terms.{Term}
use Rattle.cc_core.specs.Contexts.{lookup}
use Rattle.cc_core.specs.Captured.{captured_variables, without_binder, variable_set}
use Rattle.cc_core.specs.Stores.{Cell, ValueCell, DeviceCell, LabelCell, Store}
use Rattle.cc_runs.specs.Machine.{Frame, LetFrame, ScopeFrame, RepetitionFrame, Stack, Configuration}

-- devices and labels, which a chain ends at
abbrev pub IsEnd : Cell → Type 0
IsEnd (ValueCell value) = ⊥
IsEnd (DeviceCell device base) = Unit {0}
IsEnd (LabelCell label) = Unit {0}

-- A chain leads from a position to the cell of a device or a label: each link goes from a value to what it captures,
-- and a box captures nothing. A device or a label is reached from its own position.
pub data Reaches (store : Store) : ℕ → Cell → Type 0 where
  here : {position : ℕ} {cell : Cell} → lookup store position ≡ Some cell → IsEnd cell → Reaches store position cell
  through : {position next : ℕ} {value : Term} {cell : Cell}
      → lookup store position ≡ Some (ValueCell value)
      → Member (Variable (Free next)) (captured_variables value)
      → Reaches store next cell
      → Reaches store position cell

-- a set reaches what one of its positions does
abbrev pub SetReaches : Store → Set → Cell → Type 0
SetReaches store set cell = (position : ℕ) × Member (Variable (Free position)) set × Reaches store position cell

-- what a frame captures: the body of a let without its variable, and the function of a repetition
abbrev pub captured_by_frame : Frame → Set
captured_by_frame (LetFrame body) = without_binder (captured_variables body)
captured_by_frame (ScopeFrame label) = empty
captured_by_frame (RepetitionFrame function begun wanted) = variable_set function

-- what the frames of a stack capture
abbrev pub captured_by_stack : Stack → Set
captured_by_stack [] = empty
captured_by_stack (frame ∷ stack) = union (captured_by_frame frame) (captured_by_stack stack)

-- the captured set of a configuration: what its term and its frames capture
abbrev pub captured_set : Configuration → Set
captured_set configuration = union (captured_variables configuration.term) (captured_by_stack configuration.stack)
