use Rattle.std.proofs.Common.{◌≡◌, map, take}
use Rattle.cc_tasks.specs.Tasks.{holds, begins}
use Rattle.cc_tasks.proofs.tasks.load.Given as goal

abbrev pub invariant-loop-program : goal.invariant-loop-program
invariant-loop-program l = map holds l.tasks.items ≡ map begins (map (λ program. program.now) (take l.program-index l.programs))
