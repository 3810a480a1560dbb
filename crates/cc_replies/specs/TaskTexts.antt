-- How what is told of tasks is written: each line has the number of its task.
use Rattle.std.specs.Prelude.{ℕ, suc, List, [], ◌∷◌, ◌++◌, map, codes}
use Rattle.std.specs.Fmt.{decimal}
use Rattle.cc_device.specs.Events.{Event}
use Rattle.cc_runs.specs.Interleavings.{Report}
use Rattle.cc_runs.specs.Runs.{Ending}
use Rattle.cc_replay.specs.RunTexts.{authority_text, event_text, end_text}

-- the number of a task, and what is told of it
abbrev pub of_task : ℕ → List ℕ → List ℕ
of_task task text = decimal task ++ codes " " ++ text

-- what is told of each task, from the task of a number on
abbrev pub by_task : ℕ → List (List ℕ) → List (List ℕ)
by_task first [] = []
by_task first (text ∷ others) = of_task first text ∷ by_task (suc first) others

-- an event of a task
abbrev pub task_event_text : List (List ℕ) → ℕ × Event → List ℕ
task_event_text names one = of_task one.0 (event_text names one.1)

-- the end of a task, with the number of its steps
abbrev pub task_end_text : List (List ℕ) → Ending × ℕ → List ℕ
task_end_text names one = end_text names one.0 one.1

-- The lines of tasks that ran interleaved: the authority of each, the events of all in order, and the end of each.
abbrev pub task_lines : List (List ℕ) → List (List ℕ) → Report → List (List ℕ)
task_lines names authorities report =
    by_task 0 (map (authority_text names) authorities) ++ map (task_event_text names) report.trace
    ++ by_task 0 (map (task_end_text names) report.ends)
