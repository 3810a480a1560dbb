use Rattle.std.proofs.Common.{◌≡◌, ◌+◌, length}
use Rattle.cc_core.specs.TermViews.{context_of}
use Rattle.cc_captured_reasons.specs.Nearness.{AreTold}
use Rattle.cc_captured_reasons.specs.Tellings.{AreLow}
use Rattle.cc_captured_reasons.proofs.nearness.nearness.Given as goal

abbrev pub invariant-loop-position : goal.invariant-loop-position
invariant-loop-position l =
    record {
      count : length l.told.items ≡ l.position;
      told : AreTold l.devices (context_of l.ctx) l.right l.told.items;
      low : AreLow l.told.items (l.position + 1);
    }
