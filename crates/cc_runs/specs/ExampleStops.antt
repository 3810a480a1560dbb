-- What stops a run, by example: states and steps that no text comes to. The runs of texts stand in a crate of their
-- own.
use Rattle.std.specs.Prelude.{◌≡◌, ℕ, pos, [], ◌∷◌, Some, None}
use Rattle.cc_base.specs.declared.literal.Base.TheVariants as bases
use Rattle.cc_base.specs.declared.literal.Operator.TheVariants as operators
use Rattle.cc_base.specs.declared.literal.Op.TheVariants as operations
use Rattle.cc_base.specs.Literals.{Literal, NumberLiteral}
use Rattle.cc_capture.specs.declared.var.Var.{Var}
use Rattle.cc_capture.specs.declared.var.Var.TheVariants.{Bound, Free}
use Rattle.cc_capture.specs.Sets.{empty}
use Rattle.cc_core.specs.Shapes.{AnyShape}
use Rattle.cc_core.specs.Terms.{Written, Term, VariableTerm, LiteralTerm, Application, TypeApplication, Unboxing}
use Rattle.cc_core.specs.Terms.{Primitive, Conditional, Repetition, Operation, Leave}
use Rattle.cc_core.specs.Stores.{ValueCell, DeviceCell, LabelCell, Store}
use Rattle.cc_device.specs.Events.{Exited}
use Rattle.cc_runs.specs.ExamplePrograms.{number, nothing, out, hits, two_devices, two_cells, print, RunsTo}
use Rattle.cc_runs.specs.Interleavings.{state_of}
use Rattle.cc_runs.specs.Machine.{Stack, LetFrame, ScopeFrame, RepetitionFrame, Configuration, configured, StepOutcome}
use Rattle.cc_runs.specs.Machine.{Stuck, Next, step, below_scope}
use Rattle.cc_runs.specs.Runs.{IsStuck, IsStopped, answered, move}

-- the term is stuck on the store, whatever frames wait
abbrev pub IsStuckOn : Store → Term → Type 0
IsStuckOn store term = (stack : Stack) → step (configured store stack 0 term) ≡ Stuck

-- an operation of a counter without an argument
abbrev pub tick_at : Var → Term
tick_at counter = Operation operations.Tick counter None

-- Nothing is done with a variable that has no cell: a position that the store does not have, or an index, which is no
-- position.
abbrev pub CellsAreNeeded : Type 0
CellsAreNeeded =
    IsStuckOn two_cells (Application (Free 2) out)
    × IsStuckOn two_cells (Application (Bound 0) out)
    × IsStuckOn two_cells (TypeApplication (Free 2) AnyShape)
    × IsStuckOn two_cells (Unboxing None (Free 2))
    × IsStuckOn two_cells (Primitive operators.Equal (Free 2) (Free 2))
    × IsStuckOn two_cells (Conditional (Written nothing empty) (Free 2) (number 1) (number 2))
    × IsStuckOn two_cells (Repetition (Free 2) out)
    × IsStuckOn two_cells (tick_at (Free 2))
    × IsStuckOn two_cells (print (Free 2))
    × IsStuckOn two_cells (Leave nothing empty (Free 2) out)

-- the cells of the devices, and one with 5 after them
abbrev pub with_five : Store
with_five = ValueCell (LiteralTerm (NumberLiteral (pos 5))) ∷ two_cells

-- No device is asked without the argument that the operation takes, or with one where it takes none.
abbrev pub ArgumentsAreAsWanted : Type 0
ArgumentsAreAsWanted =
    IsStuckOn with_five (Operation operations.Print out None)
    × IsStuckOn with_five (Operation operations.Say out None)
    × IsStuckOn with_five (Operation operations.Tick hits (Some (Free 2)))

-- a scope of label 1 in another one, with other frames around
abbrev pub frames : Stack
frames =
    LetFrame (number 1) ∷ ScopeFrame 2 ∷ RepetitionFrame (Free 0) 1 3 ∷ ScopeFrame 1
    ∷ LetFrame (number 2) ∷ ScopeFrame 0 ∷ ScopeFrame 1 ∷ []

-- The frames below the topmost scope of a label: all others above it are gone with it, and where there is no scope of
-- the label there is nothing.
abbrev pub ScopesAreFound : Type 0
ScopesAreFound =
    (below_scope 2 frames
    ≡ Some (RepetitionFrame (Free 0) 1 3 ∷ ScopeFrame 1 ∷ LetFrame (number 2) ∷ ScopeFrame 0 ∷ ScopeFrame 1 ∷ []))
    × (below_scope 1 frames ≡ Some (LetFrame (number 2) ∷ ScopeFrame 0 ∷ ScopeFrame 1 ∷ []))
    × (below_scope 0 frames ≡ Some (ScopeFrame 1 ∷ []))
    × (below_scope 3 frames ≡ None)
    × (below_scope 0 [] ≡ None)

-- the step of an exit of the label, on the frames
abbrev pub exited : ℕ → Stack → StepOutcome
exited label stack = step (configured (LabelCell label ∷ []) stack 3 (Leave nothing empty (Free 0) (Free 0)))

-- An exit goes on below its scope, and is stuck where that does not stand.
abbrev pub ExitsNeedTheirScopes : Type 0
ExitsNeedTheirScopes =
    (exited 0 frames
    ≡ Next (Some (Exited 0)) (configured (LabelCell 0 ∷ []) (ScopeFrame 1 ∷ []) 3 (VariableTerm (Free 0))))
    × (exited 3 frames ≡ Stuck)
    × (exited 0 [] ≡ Stuck)

-- A device that does not answer stops the run: where there is none of the number, and where the one of the number is of
-- another kind than the cell says.
abbrev pub AnswersAreNeeded : Type 0
AnswersAreNeeded =
    (move (state_of two_devices (configured (DeviceCell 2 bases.Counter ∷ []) [] 0 (tick_at (Free 0)))) ≡ IsStuck)
    × (move (state_of two_devices (configured (DeviceCell 0 bases.Counter ∷ []) [] 0 (tick_at (Free 0)))) ≡ IsStuck)
    × ((resume : Literal → Configuration) → answered 0 operations.Tick None resume None ≡ IsStuck)

-- A run whose last variable has no cell is stopped, since there is nothing to show.
abbrev pub ShownCellsAreNeeded : Type 0
ShownCellsAreNeeded = RunsTo 9 (state_of two_devices (configured two_cells [] 0 (VariableTerm (Free 2)))) [] IsStopped 0
