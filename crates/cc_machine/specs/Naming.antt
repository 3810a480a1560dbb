-- What naming an answer does to the parts.
use Rattle.std.specs.Prelude.{◌≡◌, ℕ, ◌+◌, ◌≤◌, ◌∷◌, vec_len, vec_capacity}
use Rattle.cc_capture.specs.declared.var.Var.TheVariants.{Free}
use Rattle.cc_core.specs.Terms.{Term}
use Rattle.cc_runs.specs.Machine.{LetFrame, Stack, going, put_in, term_step}
use Rattle.cc_machine.specs.declared.parts.Parts.{Parts}
use Rattle.cc_machine.specs.Parts.{configuration_of, AreLinked}

-- The answer is at the position, in the store after: a let whose right side it is goes on with its body there. At most
-- one cell was added.
pub record Names (answer : Term) (before after : Parts) (position : ℕ) : Type 0 where
  pub links : after.links ≡ before.links
  pub frames : after.frames ≡ before.frames
  pub program : after.program ≡ before.program
  pub labels : after.labels ≡ before.labels
  pub linked : AreLinked after.links.items after.cells.items after.frames.items after.labels
  pub len : vec_len after.cells ≤ vec_len before.cells + 1
  pub capacity : vec_capacity after.cells ≡ vec_capacity before.cells
  pub named : (stack : Stack) (made : ℕ) (body : Term)
      → term_step (configuration_of before).store (LetFrame body ∷ stack) made answer
      ≡ going (configuration_of after).store stack made (put_in (Free position) body)
