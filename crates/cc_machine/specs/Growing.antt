-- What a small change does to the parts. The room that is left is said besides.
use denote.Bor.{Bor}
use Rattle.std.specs.Prelude.{◌≡◌, ℕ, ◌+◌, ◌∷◌, [], ◌++◌, Option, length, vec_len, vec_capacity}
use Rattle.cc_core.specs.declared.terms.Node.{Node}
use Rattle.cc_machine.specs.declared.parts.Cell.{Cell}
use Rattle.cc_machine.specs.declared.parts.Frame.{Frame}
use Rattle.cc_machine.specs.declared.parts.Focus.TheVariants as focuses
use Rattle.cc_machine.specs.declared.parts.Parts.{Parts}
use Rattle.cc_machine.specs.Parts.{loaded_cells}

-- the body is run next, with one binder more, which stands for the position if there is one
pub record Enters (body : Bor Node) (environment : ℕ) (position : Option ℕ) (before after : Parts) : Type 0 where
  pub links : after.links.items ≡ before.links.items ++ (record { position = position; before = environment }) ∷ []
  pub len : vec_len after.links ≡ vec_len before.links + 1
  pub capacity : vec_capacity after.links ≡ vec_capacity before.links
  pub cells : after.cells ≡ before.cells
  pub frames : after.frames ≡ before.frames
  pub program : after.program ≡ before.program
  pub labels : after.labels ≡ before.labels
  pub focus : after.focus ≡ focuses.Code body (vec_len before.links + 1)

-- a new cell stands at the position
pub record Adds (cell : Cell) (position : ℕ) (before after : Parts) : Type 0 where
  pub newest : position ≡ length (loaded_cells before) + vec_len before.cells
  pub cells : after.cells.items ≡ before.cells.items ++ cell ∷ []
  pub len : vec_len after.cells ≡ vec_len before.cells + 1
  pub capacity : vec_capacity after.cells ≡ vec_capacity before.cells
  pub links : after.links ≡ before.links
  pub frames : after.frames ≡ before.frames
  pub program : after.program ≡ before.program
  pub labels : after.labels ≡ before.labels
  pub focus : after.focus ≡ before.focus

-- a new frame is the top one
pub record Waits (frame : Frame) (before after : Parts) : Type 0 where
  pub frames : after.frames.items ≡ before.frames.items ++ frame ∷ []
  pub len : vec_len after.frames ≡ vec_len before.frames + 1
  pub capacity : vec_capacity after.frames ≡ vec_capacity before.frames
  pub links : after.links ≡ before.links
  pub cells : after.cells ≡ before.cells
  pub program : after.program ≡ before.program
  pub labels : after.labels ≡ before.labels
  pub focus : after.focus ≡ before.focus

-- The top frame is gone.
pub record Pops (frame : Frame) (before after : Parts) : Type 0 where
  pub frames : before.frames.items ≡ after.frames.items ++ frame ∷ []
  pub len : vec_len before.frames ≡ vec_len after.frames + 1
  pub capacity : vec_capacity after.frames ≡ vec_capacity before.frames
  pub links : after.links ≡ before.links
  pub cells : after.cells ≡ before.cells
  pub program : after.program ≡ before.program
  pub labels : after.labels ≡ before.labels
  pub focus : after.focus ≡ before.focus

-- there was no frame, and nothing has changed
pub record HasNoFrame (before after : Parts) : Type 0 where
  pub frames : before.frames.items ≡ []
  pub empty : after.frames.items ≡ []
  pub len : vec_len after.frames ≡ vec_len before.frames
  pub capacity : vec_capacity after.frames ≡ vec_capacity before.frames
  pub links : after.links ≡ before.links
  pub cells : after.cells ≡ before.cells
  pub program : after.program ≡ before.program
  pub labels : after.labels ≡ before.labels
  pub focus : after.focus ≡ before.focus
