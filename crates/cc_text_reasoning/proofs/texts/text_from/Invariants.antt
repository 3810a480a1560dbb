use Rattle.std.proofs.Common.{length}
use Rattle.std.specs.Str.{chars}
use Rattle.cc_text_reasoning.proofs.Reading.{IsLeft}
use Rattle.cc_text_reasoning.proofs.texts.text_from.Given as goal

abbrev pub invariant-loop-first : goal.invariant-loop-first
invariant-loop-first l = IsLeft l.text l.at l.place l.rest

abbrev pub decreases-loop-first : goal.decreases-loop-first
decreases-loop-first l = length (chars l.rest)
