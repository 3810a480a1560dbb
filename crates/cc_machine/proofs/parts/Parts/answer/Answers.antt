use Rattle.std.proofs.Common.{Some, ◌∷◌, ◌≤◌, length, ap, subst}
use Rattle.cc_runs.specs.Machine.{term_step}
use Rattle.cc_machine.specs.Parts.{frame_in, frame_environment, configuration_of}
use Rattle.cc_machine.proofs.Answering.{named_goes}
use Rattle.cc_machine.proofs.parts.Parts.answer.Goals as goal

pub returns-in-Body : goal.returns-in-Body
returns-in-Body c =
    let now = configuration_of c.args.self.now in
    named_goes (subst (λ f. frame_environment (Some f) ≤ length c.args.self.now.links.items) c.in-Body.is c.requires.within)
    c.name_focus-position.ensures c.enter.ensures
    (ap (λ f. term_step now.store (frame_in c.args.self.now.links.items f ∷ now.stack) now.labels_made now.term) c.in-Body.is)
