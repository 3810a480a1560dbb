use Rattle.std.proofs.Common.{sym, ◌∙◌}
use Rattle.cc_module_vouching.specs.AnswerViews.{answer_of}
use Rattle.cc_module_vouching.proofs.KeptAnswers.{keeps_earlier, keeps_more}
use Rattle.cc_module_vouching.proofs.answered.AnsweredModules.put.Goals as goal

pub returns-then-has : goal.returns-then-has
returns-then-has c =
    keeps_earlier c.args.self.now c.args.name.now (answer_of c.args.answer.now) (sym c.if-has.true ∙ c.has.ensures)

pub returns : goal.returns
returns c =
    keeps_more c.args.self.now c.put_kept.new.self c.in_ok-kept.kept c.args.name.now (answer_of c.args.answer.now)
    (sym c.if-has.false ∙ c.has.ensures) c.in_ok-kept.ensures c.in_ok-put_kept.ensures
