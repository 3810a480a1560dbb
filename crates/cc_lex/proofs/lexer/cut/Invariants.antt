use Rattle.std.proofs.Common.{length, map}
use Rattle.cc_lex.specs.Lexical.{spanned_of}
use Rattle.cc_lex.proofs.CuttingSteps.{StandsAt}
use Rattle.cc_lex.proofs.lexer.cut.Given as goal

abbrev pub invariant-loop-first : goal.invariant-loop-first
invariant-loop-first l = StandsAt l.text (map spanned_of l.tokens.items) l.place l.offset l.rest

abbrev pub decreases-loop-first : goal.decreases-loop-first
decreases-loop-first l = length l.rest
