use Rattle.std.proofs.Common.{sym, ap, ◌∙◌}
use Rattle.cc_runs.specs.Machine.{term_step}
use Rattle.cc_machine.specs.Asking.{question_in}
use Rattle.cc_machine.specs.Parts.{focus_in, configuration_of}
use Rattle.cc_machine.proofs.parts.Parts.wanted.Goals as goal

pub returns-in-Code : goal.returns-in-Code
returns-in-Code c =
    let now = configuration_of c.args.self.now in
    c.asked_in.ensures
    ∙ ap (λ f. question_in (term_step now.store now.stack now.labels_made (focus_in c.args.self.now.links.items f))) (sym c.in-Code.is)
