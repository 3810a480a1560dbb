use Rattle.std.proofs.Common.{sym, ap, ◌∙◌, option_map}
use Rattle.cc_runs.specs.Machine.{argument_at, operation_step}
use Rattle.cc_machine.specs.Asking.{question_in}
use Rattle.cc_machine.specs.Parts.{configuration_of}
use Rattle.cc_machine.specs.Placing.{variable_in}
use Rattle.cc_machine.proofs.parts.Parts.asked.Goals as goal

pub returns-in-Some-argument_at : goal.returns-in-Some-argument_at
returns-in-Some-argument_at c =
    let now = configuration_of c.args.self.now in
    let links = c.args.self.now.links.items in
    let found = c.in-Some.ensures.cell in
    c.question_to.ensures links now.store now.stack now.labels_made
    ∙ (λ j. question_in (operation_step now.store now.stack now.labels_made c.args.operation (sym found j) (c.in-Some-argument_at.ensures j)))

pub returns-in-None : goal.returns-in-None
returns-in-None c =
    let now = configuration_of c.args.self.now in
    let none = c.in-None.ensures.cell in
    let argument = argument_at now.store (option_map (variable_in c.args.self.now c.args.environment) c.args.argument) in
    ap (λ o. question_in (operation_step now.store now.stack now.labels_made c.args.operation o argument)) (sym none)
