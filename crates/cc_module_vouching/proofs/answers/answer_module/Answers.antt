use Rattle.std.proofs.lemmas.Result.{IfOk-weaker}
use Rattle.cc_module_vouching.specs.AnswerViews.{answer_of}
use Rattle.cc_module_vouching.proofs.AnsweredTrees.{module_answered, text_refused}
use Rattle.cc_module_vouching.proofs.answers.answer_module.Goals as goal

pub returns-in-Tree : goal.returns-in-Tree
returns-in-Tree c =
    IfOk-weaker c.answer_tree.result _ _
    (λ a h.
    module_answered c.args.devices.now c.args.modules.now c.args.module.now c.as_slice-source.result.now
    c.as_slice-claims.result.now c.in_ok-reading.reading c.in-Tree.tree (answer_of a) c.as_slice-source.ensures.value
    c.as_slice-claims.ensures.value c.in-Tree.is c.in_ok-reading.ensures h)
    c.answer_tree.ensures

pub returns-in-NoModule : goal.returns-in-NoModule
returns-in-NoModule c =
    text_refused c.args.devices.now c.args.modules.now c.args.module.now c.as_slice-source.result.now
    c.in_ok-reading.reading c.in-NoModule.diag c.as_slice-source.ensures.value c.in-NoModule.is c.in_ok-reading.ensures
