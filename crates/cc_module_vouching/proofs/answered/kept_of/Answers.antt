use Rattle.std.proofs.Common.{Some, map, ap, sym, ◌∙◌, List}
use Rattle.cc_core.specs.Programs.{definition_named}
use Rattle.cc_vouching.specs.VouchedModules.{found_in, found_or_none}
use Rattle.cc_vouch.specs.VouchViews.{definition_of}
use Rattle.cc_vouch.specs.declared.definitions.Vouched.{Vouched}
use Rattle.cc_module_vouching.specs.AnswerViews.{answer_of}
use Rattle.cc_module_vouching.specs.KeptFindings.{signature_finding}
use Rattle.cc_module_vouching.specs.declared.answers.Answer.{Answer}
use Rattle.cc_module_vouching.proofs.KeptAnswers.{first_signature_found}
use Rattle.cc_module_vouching.proofs.answered.kept_of.Goals as goal

pub returns-in_ok-signatures-in-Vouches : goal.returns-in_ok-signatures-in-Vouches
returns-in_ok-signatures-in-Vouches c = λ name.
    ap signature_finding (c.in_ok-signatures-in-Vouches.ensures name)
    ∙ first_signature_found name c.as_slice.result.now
    ∙ ap (λ (l : List Vouched). found_or_none (definition_named name (map definition_of l))) c.as_slice.ensures.value
    ∙ ap (λ (a : Answer). found_in (Some (answer_of a)) name) (sym c.in-Vouches.is)
