use Rattle.cc_text_reasoning.proofs.Reading.{IsInside}
use Rattle.cc_text_reasoning.proofs.breaks.break_of_string.Given as goal

abbrev pub invariant-loop : goal.invariant-loop
invariant-loop l = IsInside l.text l.rest l.counter
