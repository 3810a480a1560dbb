use Rattle.std.proofs.Common.{length, map}
use Rattle.cc_core.specs.Contexts.{Context}
use Rattle.cc_derive.specs.Tables.{IsTable, reached_derived}
use Rattle.cc_derive.specs.Trees.{IsParts}
use Rattle.cc_derive.proofs.sets.reach_all.Given as goal

abbrev pub invariant-loop-elem : goal.invariant-loop-elem
invariant-loop-elem l =
    (context : Context) → IsTable l.build context l.right l.table
    → IsParts l.build l.parts (map (reached_derived (length l.table) context l.right) l.yielded)
