-- Answers of the program as plain ones.
use Rattle.std.specs.Prelude.{map}
use Rattle.cc_vouch.specs.VouchViews.{definition_of, reason_of}
use Rattle.cc_vouching.specs.VouchedModules.{Answer, Vouches, RefusesText, RefusesDefinition}
use Rattle.cc_module_vouching.specs.declared.answers.Answer.{Answer as DeclaredAnswer}
use Rattle.cc_module_vouching.specs.declared.answers.Answer.TheVariants as answers

-- the answer
abbrev pub answer_of : DeclaredAnswer → Answer
answer_of (answers.Vouches definitions) = Vouches (map definition_of definitions.items)
answer_of (answers.RefusesText diag) = RefusesText diag.code diag.place
answer_of (answers.RefusesDefinition name reason) = RefusesDefinition name (reason_of reason)
