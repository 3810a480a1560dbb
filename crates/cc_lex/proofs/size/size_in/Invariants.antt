use Rattle.std.proofs.Common.{length}
use Rattle.cc_lex.proofs.Sizes.{IsRead}
use Rattle.cc_lex.proofs.size.size_in.Given as goal

abbrev pub invariant-loop-behind : goal.invariant-loop-behind
invariant-loop-behind l = IsRead l.class l.text l.rest l.characters

abbrev pub decreases-loop-behind : goal.decreases-loop-behind
decreases-loop-behind l = length l.rest
