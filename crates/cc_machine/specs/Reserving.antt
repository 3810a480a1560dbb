-- What making room leaves as it was.
use Rattle.std.specs.Prelude.{◌≡◌, ℕ}
use Rattle.cc_machine.specs.declared.parts.Parts.{Parts}
use Rattle.cc_machine.specs.Parts.{HasRoom}

-- the parts hold the same, and have all the room that they had
pub record HoldsTheSame (before after : Parts) : Type 0 where
  pub links : after.links.items ≡ before.links.items
  pub cells : after.cells.items ≡ before.cells.items
  pub frames : after.frames.items ≡ before.frames.items
  pub program : after.program ≡ before.program
  pub labels : after.labels ≡ before.labels
  pub focus : after.focus ≡ before.focus
  pub room : (steps : ℕ) → HasRoom before steps → HasRoom after steps
