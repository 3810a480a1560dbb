use Rattle.std.proofs.Common.{◌≡◌, length}
use Rattle.cc_core.specs.TermViews.{context_of}
use Rattle.cc_derive.specs.Tables.{IsTable}
use Rattle.cc_derive.proofs.sets.reach_context.Given as goal

abbrev pub invariant-loop-position : goal.invariant-loop-position
invariant-loop-position l =
    record {
      count : length l.table.items ≡ l.position;
      known : IsTable l.build (context_of l.ctx) l.right l.table.items;
    }
