-- What a call answers of what may be refused: the first refusal, if there is one, unless there is no memory.
use Rattle.std.specs.Prelude.{◌≡◌, Result, Ok, Err, Option, Some, None}
use Rattle.cc_elaboration_reasons.specs.ElaborationCauses.{ExplainedRefusal}
use Rattle.cc_elaboration_reasoning.specs.declared.halt.Halt.{Halt}
use Rattle.cc_elaboration_reasoning.specs.declared.halt.Halt.TheVariants as halts
use Rattle.cc_elaboration_reasoning.specs.Views.{refusal_seen}

-- the walk stops at this refusal
abbrev pub Halts : Halt → Option ExplainedRefusal → Type 0
Halts (halts.Refused refusal) first = first ≡ Some (refusal_seen refusal)
Halts halts.NoMemory first = Unit {0}

-- the answer is the first refusal
abbrev pub Meets : {A : Type 0} → Result A Halt → Option ExplainedRefusal → Type 0
Meets (Ok value) first = first ≡ None
Meets (Err halt) first = Halts halt first
