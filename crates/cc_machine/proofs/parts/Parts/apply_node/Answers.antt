use Rattle.std.proofs.Common.{ap}
use Rattle.cc_core.specs.TermViews.{form_of, term_of}
use Rattle.cc_machine.specs.Environments.{follow}
use Rattle.cc_machine.specs.Parts.{configuration_of}
use Rattle.cc_machine.proofs.Following.{grows_none, entered_goes}
use Rattle.cc_machine.proofs.StepLines.{function_applied}
use Rattle.cc_machine.proofs.parts.Parts.apply_node.Goals as goal

pub returns-in-Fun : goal.returns-in-Fun
returns-in-Fun c =
    let now = configuration_of c.args.self.now in
    entered_goes (grows_none c.requires.linked) c.requires.within c.enter.ensures
    (function_applied now.store now.stack now.labels_made c.args.argument (follow c.args.self.now.links.items c.args.environment) (term_of c.args.node.now)
    (term_of c.deref.result.now) (ap form_of c.in-Fun.is) (ap term_of c.deref.ensures))
