use Rattle.std.proofs.Common.{length}
use Rattle.cc_module.proofs.definitions.Definitions.drop.Given as goal

abbrev pub decreases-loop-def : goal.decreases-loop-def
decreases-loop-def l = length l.left.items
