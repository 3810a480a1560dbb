-- What leaving a boundary does to the frames.
use Rattle.std.specs.Prelude.{◌≡◌, ℕ, ◌≤◌, Bool, true, false, Option, Some, None, vec_len, vec_capacity}
use Rattle.cc_runs.specs.Machine.{Stack, below_scope}
use Rattle.cc_machine.specs.declared.parts.Parts.{Parts}
use Rattle.cc_machine.specs.Parts.{configuration_of, AreLinked}

-- the stack below the topmost scope of the label, or nothing where there is none
abbrev pub is_below : Bool → Stack → Option Stack
is_below true stack = Some stack
is_below false stack = None

-- frames were taken from the stack, as below_scope has it, and nothing else has changed
pub record Unwinds (label : ℕ) (before after : Parts) (found : Bool) : Type 0 where
  pub links : after.links ≡ before.links
  pub cells : after.cells ≡ before.cells
  pub program : after.program ≡ before.program
  pub labels : after.labels ≡ before.labels
  pub focus : after.focus ≡ before.focus
  pub linked : AreLinked after.links.items after.cells.items after.frames.items after.labels
  pub len : vec_len after.frames ≤ vec_len before.frames
  pub capacity : vec_capacity after.frames ≡ vec_capacity before.frames
  pub below : below_scope label (configuration_of before).stack ≡ is_below found (configuration_of after).stack
