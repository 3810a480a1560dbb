use Rattle.std.proofs.Common.{map}
use Rattle.std.proofs.lemmas.Result.{IfOk-weaker}
use Rattle.cc_module_vouching.specs.AnswerViews.{answer_of}
use Rattle.cc_module_vouching.specs.ClaimViews.{claim_of}
use Rattle.cc_module_vouching.proofs.AnsweredTrees.{tree_found, tree_refused}
use Rattle.cc_module_vouching.proofs.answers.answer_tree.Goals as goal

pub returns-in-Ok : goal.returns-in-Ok
returns-in-Ok c =
    IfOk-weaker c.answer_found.result _ _
    (λ a h.
    tree_found c.args.devices.now c.args.modules.now c.deref.result.now c.args.tree.now c.in-Ok.known c.in_ok-before.before
    (map claim_of c.args.claims.now) (answer_of a) c.deref.ensures.value c.in-Ok.is c.in_ok-before.ensures h)
    c.answer_found.ensures

pub returns-in-Err : goal.returns-in-Err
returns-in-Err c =
    tree_refused c.args.devices.now c.args.modules.now c.deref.result.now c.args.tree.now c.in-Err.diag
    c.in_ok-before.before (map claim_of c.args.claims.now) c.deref.ensures.value c.in-Err.is c.in_ok-before.ensures
