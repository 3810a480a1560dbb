use Rattle.std.proofs.Common.{refl}
use Rattle.cc_machine.specs.Environments.{follow}
use Rattle.cc_machine.specs.Placing.{term_in}
use Rattle.cc_machine.proofs.Answering.{names_value}
use Rattle.cc_machine.proofs.StepLines.{value_of_answer}
use Rattle.cc_machine.proofs.parts.Parts.name_code.Goals as goal

pub returns-in_default : goal.returns-in_default
returns-in_default c =
    names_value (term_in c.args.self.now c.args.environment c.args.node.now) c.requires.linked c.requires.within
    (value_of_answer (follow c.args.self.now.links.items c.args.environment) c.args.node.now.form c.requires.answer c.in_default.not-Var)
    refl c.add.ensures
