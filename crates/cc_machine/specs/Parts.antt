-- The configuration that the parts of a machine stand for.
use Rattle.std.specs.Prelude.{◌≡◌, ℕ, suc, ◌+◌, ◌<◌, ◌≤◌, ◌^◌, List, ◌++◌, map, reverse, length, Option, Some, None, slice_get}
use Rattle.std.specs.Prelude.{vec_len, vec_capacity}
use Rattle.cc_base.specs.Literals.{Literal, UnitLiteral, TruthLiteral, NumberLiteral}
use Rattle.cc_capture.specs.declared.var.Var.TheVariants.{Free}
use Rattle.cc_core.specs.Terms.{Term, VariableTerm, LiteralTerm, Application}
use Rattle.cc_core.specs.Stores.{ValueCell, DeviceCell, LabelCell, Store}
use Rattle.cc_core.specs.Stores.{Cell as PlainCell}
use Rattle.cc_core.specs.TermViews.{term_of}
use Rattle.cc_runs.specs.Machine.{LetFrame, ScopeFrame, RepetitionFrame, Stack, Configuration, configured}
use Rattle.cc_runs.specs.Machine.{Frame as PlainFrame}
use Rattle.cc_machine.specs.declared.links.Link.{Link}
use Rattle.cc_machine.specs.declared.parts.Small.{Small}
use Rattle.cc_machine.specs.declared.parts.Small.TheVariants as smalls
use Rattle.cc_machine.specs.declared.parts.Cell.{Cell}
use Rattle.cc_machine.specs.declared.parts.Cell.TheVariants as cell_forms
use Rattle.cc_machine.specs.declared.parts.Frame.{Frame}
use Rattle.cc_machine.specs.declared.parts.Frame.TheVariants as frame_forms
use Rattle.cc_machine.specs.declared.parts.Focus.{Focus}
use Rattle.cc_machine.specs.declared.parts.Focus.TheVariants as focuses
use Rattle.cc_machine.specs.declared.parts.Parts.{Parts}
use Rattle.cc_machine.specs.Environments.{link_before, follow}
use Rattle.cc_machine.specs.Programs.{program_cells}
use Rattle.cc_machine.specs.Putting.{put_all, put_body}

-- the literal that was computed
abbrev pub small_literal : Small → Literal
small_literal smalls.Unit = UnitLiteral
small_literal (smalls.Truth truth) = TruthLiteral truth
small_literal (smalls.Number number) = NumberLiteral number

-- the literal that a term is, if it is one
abbrev pub literal_of_term : Term → Option Literal
literal_of_term (LiteralTerm literal) = Some literal
literal_of_term _ = None

-- what stands in a cell, where the nodes of the environments are these
abbrev pub cell_in : List Link → Cell → PlainCell
cell_in links (cell_forms.Code node environment) = ValueCell (put_all (follow links environment) (term_of node.now))
cell_in links (cell_forms.Small small) = ValueCell (LiteralTerm (small_literal small))
cell_in links (cell_forms.Device number base) = DeviceCell number base
cell_in links (cell_forms.Label label) = LabelCell label

-- the frame
abbrev pub frame_in : List Link → Frame → PlainFrame
frame_in links (frame_forms.Body node environment) = LetFrame (put_body (follow links environment) (term_of node.now))
frame_in links (frame_forms.Scope label) = ScopeFrame label
frame_in links (frame_forms.Repeat function begun wanted) = RepetitionFrame (Free function) begun wanted

-- the term
abbrev pub focus_in : List Link → Focus → Term
focus_in links (focuses.Code node environment) = put_all (follow links environment) (term_of node.now)
focus_in links (focuses.Position position) = VariableTerm (Free position)
focus_in links (focuses.Small small) = LiteralTerm (small_literal small)
focus_in links (focuses.Apply function argument) = Application (Free function) (Free argument)

-- the store of the cells, which are listed from the oldest on, and are newer than those of the program
abbrev pub store_of : Store → List Link → List Cell → Store
store_of program links held = reverse (map (cell_in links) held) ++ program

-- the stack of the frames, of which the last one is the top
abbrev pub stack_of : List Link → List Frame → Stack
stack_of links waiting = reverse (map (frame_in links) waiting)

-- the configuration that these parts stand for
abbrev pub configuration_in : Store → List Link → List Cell → List Frame → ℕ → Focus → Configuration
configuration_in program links held waiting labels focus =
    configured (store_of program links held) (stack_of links waiting) labels (focus_in links focus)

-- the cells of the program that runs
abbrev pub loaded_cells : Parts → Store
loaded_cells parts = program_cells parts.program.now

abbrev pub configuration_of : Parts → Configuration
configuration_of parts =
    configuration_in (loaded_cells parts) parts.links.items parts.cells.items parts.frames.items parts.labels parts.focus

-- the environment that a cell, a frame or the focus has
abbrev pub cell_environment : Option Cell → ℕ
cell_environment (Some (cell_forms.Code node environment)) = environment
cell_environment (Some (cell_forms.Small small)) = 0
cell_environment (Some (cell_forms.Device number base)) = 0
cell_environment (Some (cell_forms.Label label)) = 0
cell_environment None = 0

abbrev pub frame_environment : Option Frame → ℕ
frame_environment (Some (frame_forms.Body node environment)) = environment
frame_environment (Some (frame_forms.Scope label)) = 0
frame_environment (Some (frame_forms.Repeat function begun wanted)) = 0
frame_environment None = 0

abbrev pub focus_environment : Focus → ℕ
focus_environment (focuses.Code node environment) = environment
focus_environment (focuses.Position position) = 0
focus_environment (focuses.Small small) = 0
focus_environment (focuses.Apply function argument) = 0

-- how many calls a repetition has begun, and how many are wanted
abbrev pub frame_begun : Option Frame → ℕ
frame_begun (Some (frame_forms.Repeat function begun wanted)) = begun
frame_begun (Some (frame_forms.Body node environment)) = 0
frame_begun (Some (frame_forms.Scope label)) = 0
frame_begun None = 0

abbrev pub frame_wanted : Option Frame → ℕ
frame_wanted (Some (frame_forms.Repeat function begun wanted)) = wanted
frame_wanted (Some (frame_forms.Body node environment)) = 0
frame_wanted (Some (frame_forms.Scope label)) = 0
frame_wanted None = 0

-- The environments name nodes that are there, and each node only older ones. No repetition wants more calls than a
-- number can say, and there are no more labels than cells.
pub record AreLinked (links : List Link) (held : List Cell) (waiting : List Frame) (made : ℕ) : Type 0 where
  pub older : (at : ℕ) → link_before (slice_get links at) ≤ at
  pub cells : (at : ℕ) → cell_environment (slice_get held at) ≤ length links
  pub frames : (at : ℕ) → frame_environment (slice_get waiting at) ≤ length links
  pub begun : (at : ℕ) → frame_begun (slice_get waiting at) ≤ frame_wanted (slice_get waiting at)
  pub wanted : (at : ℕ) → frame_wanted (slice_get waiting at) < 2 ^ 63
  pub labels : made ≤ length held

pub record IsLinked (parts : Parts) : Type 0 where
  pub linked : AreLinked parts.links.items parts.cells.items parts.frames.items parts.labels
  pub focus : focus_environment parts.focus ≤ length parts.links.items

-- There is room for so many steps: for a node, a cell and a frame in each, and positions for the cells.
pub record HasRoom (parts : Parts) (steps : ℕ) : Type 0 where
  pub links : vec_len parts.links + steps ≤ vec_capacity parts.links
  pub cells : vec_len parts.cells + steps ≤ vec_capacity parts.cells
  pub frames : vec_len parts.frames + steps ≤ vec_capacity parts.frames
  pub positions : length (loaded_cells parts) + length parts.cells.items + steps < 2 ^ 32

-- The program is the same, at most one cell was added, and there is room for all but one of the steps that there was room
-- for.
pub record UsesOne (before after : Parts) : Type 0 where
  pub program : after.program ≡ before.program
  pub cells : length after.cells.items ≤ length before.cells.items + 1
  pub room : (steps : ℕ) → HasRoom before (suc steps) → HasRoom after steps
