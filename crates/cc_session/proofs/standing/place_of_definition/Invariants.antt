use Rattle.std.proofs.Common.{take}
use Rattle.std.specs.List.{AllByRecursion}
use Rattle.cc_session.proofs.StandingFacts.{HasOtherName}
use Rattle.cc_session.proofs.standing.place_of_definition.Given as goal

abbrev pub invariant-loop-place : goal.invariant-loop-place
invariant-loop-place l = AllByRecursion (HasOtherName l.name) (take l.place l.defs)
