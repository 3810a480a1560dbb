use Rattle.std.proofs.Common.{◌≡◌, ◌-◌, true, vec_len}
use Rattle.std.specs.List.{list_all}
use Rattle.cc_core.specs.Contexts.{Context}
use Rattle.cc_known.specs.EndedDemands.{is_known_end}
use Rattle.cc_known.proofs.known.no_ends_anywhere.Given as goal

abbrev pub invariant-loop-alloc : goal.invariant-loop-alloc
invariant-loop-alloc l = (context : Context) → list_all (is_known_end context) l.sets.items ≡ true

abbrev pub decreases-loop-alloc : goal.decreases-loop-alloc
decreases-loop-alloc l = 64 - vec_len l.sets
