use Rattle.std.proofs.Common.{sym, ap, ◌∙◌}
use Rattle.cc_runs.specs.Answers.{shown_answer}
use Rattle.cc_machine.specs.Parts.{focus_in, configuration_of}
use Rattle.cc_machine.proofs.parts.Parts.shown.Goals as goal

pub returns-in-Code : goal.returns-in-Code
returns-in-Code c =
    c.shown_node.ensures
    ∙ ap (λ f. shown_answer (configuration_of c.args.self.now).store (focus_in c.args.self.now.links.items f)) (sym c.in-Code.is)
