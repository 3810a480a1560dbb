use Rattle.std.proofs.Common.{sym, ◌∙◌}
use Rattle.cc_core.specs.TermViews.{term_of}
use Rattle.cc_machine.specs.Environments.{follow}
use Rattle.cc_machine.specs.Parts.{configuration_of}
use Rattle.cc_machine.specs.Placing.{term_in, body_in}
use Rattle.cc_machine.proofs.Answering.{named_goes}
use Rattle.cc_machine.proofs.Repeating.{waits_goes}
use Rattle.cc_machine.proofs.StepLines.{is_answer-put, let-answer}
use Rattle.cc_machine.proofs.parts.Parts.bind.Goals as goal

pub returns-then-is_answer : goal.returns-then-is_answer
returns-then-is_answer c =
    let now = configuration_of c.args.self.now in
    named_goes c.requires.within c.name_code-position.ensures c.enter.ensures
    (let-answer now.store now.stack now.labels_made (term_in c.args.self.now c.args.environment c.args.right.now) (body_in c.args.self.now c.args.environment c.args.body.now)
    (is_answer-put (follow c.args.self.now.links.items c.args.environment) (term_of c.args.right.now) ∙ sym c.is_answer.ensures ∙ c.if-is_answer.true))

pub returns-else-is_answer : goal.returns-else-is_answer
returns-else-is_answer c =
    waits_goes c.args.right c.args.body c.args.environment c.requires.linked c.requires.within
    (is_answer-put (follow c.args.self.now.links.items c.args.environment) (term_of c.args.right.now) ∙ sym c.is_answer.ensures ∙ c.if-is_answer.false)
    c.wait.ensures
