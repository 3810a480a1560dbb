use Rattle.std.proofs.Common.{ℕ, List, map, take}
use Rattle.cc_session.specs.Entries.{entry_of}
use Rattle.cc_verdicts.specs.ModuleVerdicts.{ModuleVerdict}
use Rattle.cc_verdicts.specs.PresentTexts.{AreVerdicts}
use Rattle.std.specs.List.{AllByRecursion}
use Rattle.cc_answers.specs.KeptEntries.{IsKeptFor}
use Rattle.cc_answers.specs.LinkedPrograms.{IsProgramOf}
use Rattle.cc_answers.proofs.StartedTasks.{AreStartedSoFar}
use Rattle.cc_answers.proofs.running.start_all.Given as goal

abbrev pub invariant-loop-task : goal.invariant-loop-task
invariant-loop-task l = record {
  started : (verdicts : List ℕ → ModuleVerdict) → AreVerdicts l.session.devices l.session.present verdicts
      → AreStartedSoFar l.session.devices l.session.present verdicts (take l.task l.tasks) (map (λ it. entry_of it.value.entry) l.entries.items);
  programs : AllByRecursion (λ it. IsProgramOf it.value.program it.value.entry) l.entries.items;
  kept : IsKeptFor l.session.devices l.session.present l.kept;
}
