use Rattle.std.proofs.Common.{List, length, map, refl, subst}
use Rattle.std.proofs.lemmas.Result.{IfOk-weaker}
use Rattle.cc_core.specs.declared.terms.CoreDef.{CoreDef}
use Rattle.cc_mnf.specs.CoreModules.{definition_of, core_module}
use Rattle.cc_parse.specs.Trees.{module_syntax}
use Rattle.cc_module_vouching.specs.AnswerViews.{answer_of}
use Rattle.cc_module_vouching.specs.AnsweredDefinitions.{AnswersAll}
use Rattle.cc_module_vouching.specs.ClaimViews.{claim_of}
use Rattle.cc_module_vouching.proofs.AnsweredTrees.{core_answered, core_refused}
use Rattle.cc_module_vouching.proofs.answers.answer_found.Goals as goal

pub returns-in-Ok : goal.returns-in-Ok
returns-in-Ok c =
    let claims = map claim_of c.args.claims.now in
    IfOk-weaker c.answer_definitions.result _ _
    (λ a h.
    core_answered c.args.devices.now (length c.args.devices.now) c.args.known.items (module_syntax c.args.tree.now) claims
    (core_module c.in-Ok.core) (answer_of a) refl c.in-Ok.ensures.exact
    (subst (λ (l : List CoreDef). AnswersAll (length c.args.devices.now) c.args.known.items claims (map definition_of l) (answer_of a))
    c.deref.ensures.value h))
    c.answer_definitions.ensures

pub returns-in-Err-Refused : goal.returns-in-Err-Refused
returns-in-Err-Refused c =
    rw c.in-Err-Refused.diag-is
    (core_refused c.args.devices.now c.args.known.items (module_syntax c.args.tree.now) (map claim_of c.args.claims.now)
    c.in-Err-Refused.diag (rw c.in-Err-Refused.field-0-is at c.in-Err-Refused.ensures.exact))
