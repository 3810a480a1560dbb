use Rattle.std.proofs.Common.{map}
use Rattle.std.specs.List.{AllByRecursion}
use Rattle.cc_machine.specs.Standing.{KeepsShapes}
use Rattle.cc_runs.specs.Interleavings.{interleave}
use Rattle.cc_tasks.specs.Reports.{told_event, world_in}
use Rattle.cc_tasks.specs.Tasks.{CanGoOn}
use Rattle.cc_tasks.proofs.TakenTurns.{StandsAt}
use Rattle.cc_tasks.proofs.tasks.run_tasks.Given as goal

abbrev pub invariant-loop-place : goal.invariant-loop-place
invariant-loop-place l = record {
  stands : StandsAt (interleave l.fuel l.schedule (world_in (map (λ program. program.now) l.programs) l.fn.devices)) l.left l.order.items l.tasks.items l.devices (map told_event l.trace.items);
  ready : AllByRecursion (CanGoOn l.devices l.left) l.tasks.items;
  shapes : KeepsShapes l.fn.devices l.devices;
}

abbrev pub decreases-loop-place : goal.decreases-loop-place
decreases-loop-place l = l.left
