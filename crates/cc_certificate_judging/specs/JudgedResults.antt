-- The results of the program as judgements.
use Rattle.std.specs.Prelude.{Result, Ok, Err}
use Rattle.cc_core.specs.declared.types.Ty.{Ty}
use Rattle.cc_core.specs.TermViews.{type_of}
use Rattle.cc_certificate_judging.specs.Judging.{Judgement, IsValidAt, IsBadNode}
use Rattle.cc_certificate_judging.specs.declared.error.JudgeError.{JudgeError}
use Rattle.cc_certificate_judging.specs.declared.error.JudgeError.TheVariants.{NoMemory, BadNode}

-- The fact holds of the judgement that the result is: a type says that the certificate is valid at it, and a refusal
-- names a bad node. Want of memory is no judgement, and says nothing.
abbrev pub OnJudgement : (Judgement → Type 0) → Result Ty JudgeError → Type 0
OnJudgement fact (Ok type) = fact (IsValidAt (type_of type))
OnJudgement fact (Err NoMemory) = Unit {0}
OnJudgement fact (Err (BadNode number)) = fact (IsBadNode number)
