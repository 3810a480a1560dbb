-- The tasks of a run, and their turns.
use Rattle.std.specs.Prelude.{◌≡◌, ◌+◌, ◌<◌, ◌≤◌, ℕ, List, length, take, Option, Some, None, slice_get, slice_set, slice_index}
use Rattle.std.specs.List.{AllByRecursion}
use Rattle.cc_device.specs.Devices.{Devices}
use Rattle.cc_device.specs.Events.{Event}
use Rattle.cc_device.specs.DeviceViews.{end_of}
use Rattle.cc_device.specs.declared.ends.End.{End}
use Rattle.cc_machine.specs.Machines.{count_cells, held_by}
use Rattle.cc_machine.specs.Reports.{HasEnd}
use Rattle.cc_machine.specs.Standing.{StepsAlike}
use Rattle.cc_runs.specs.Alike.{erased_configuration}
use Rattle.cc_runs.specs.Machine.{Configuration, Final, step}
use Rattle.cc_runs.specs.SoundRuns.{HasShapesOfCells}
use Rattle.cc_machine.specs.declared.program.Program.{Program}
use Rattle.cc_machine.specs.Programs.{start_of}
use Rattle.cc_tasks.specs.declared.task.Task.{Task}

-- what the machine of a task holds, and how many steps the task has taken
abbrev pub holds : Task → Configuration × ℕ
holds task = (held_by task.machine, task.steps)

-- the same of a program at its start
abbrev pub begins : Program → Configuration × ℕ
begins program = (erased_configuration (start_of program), 0)

-- The task can take so many steps more: the devices are of the shapes of its cells, and its cells and its steps stay
-- below 2^32.
pub record CanGoOn (devices : Devices) (left : ℕ) (task : Task) : Type 0 where
  pub fits : HasShapesOfCells (held_by task.machine).store devices
  pub cells : count_cells task.machine + left < 4294967296
  pub steps : task.steps + left < 4294967296

-- The task takes one step, with the event: it is counted, makes at most one cell, and moves each configuration that the
-- machine stands for.
pub record TakesStep (before : Task) (devices : Devices) (event : Option Event) (after : Task) (devices' : Devices)
    : Type 0 where
  pub steps : StepsAlike (held_by before.machine) devices event (held_by after.machine) devices'
  pub fits : HasShapesOfCells (held_by after.machine).store devices'
  pub cells : count_cells after.machine ≤ count_cells before.machine + 1
  pub counted : after.steps ≡ before.steps + 1

-- The task of the number takes one step, and the others stay as they are.
pub record TakesTurn (tasks : List Task) (number : ℕ) (devices : Devices) (event : Option Event) (tasks' : List Task)
    (devices' : Devices) : Type 0 where
  pub before : Task
  pub after : Task
  pub there : slice_get tasks number ≡ Some before
  pub step : TakesStep before devices event after devices'
  pub others : tasks' ≡ slice_set tasks number after

-- the task has come to its end, or there is none
abbrev pub HasEnded : Option Task → Type 0
HasEnded None = Unit {0}
HasEnded (Some task) = step (held_by task.machine) ≡ Final

-- so it is of the task of each number
abbrev pub HaveEnded : List Task → List ℕ → Type 0
HaveEnded tasks = AllByRecursion (λ number. HasEnded (slice_get tasks number))

-- The place is that of the first number whose task has not come to its end.
pub record IsNext (tasks : List Task) (order : List ℕ) (place : ℕ) : Type 0 where
  pub within : place < length order
  pub passed : HaveEnded tasks (take place order)
  pub running : HasEnded (slice_get tasks (slice_index order place)) → ⊥

-- the end is the task's, and so is the number of its steps
abbrev pub IsEndOf : Task → End × ℕ → Type 0
IsEndOf task told = HasEnd (held_by task.machine) (end_of told.0) × (told.1 ≡ task.steps)
