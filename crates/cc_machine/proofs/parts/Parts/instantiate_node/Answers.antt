use Rattle.std.proofs.Common.{ap}
use Rattle.cc_core.specs.TermViews.{form_of, term_of}
use Rattle.cc_machine.specs.Environments.{follow}
use Rattle.cc_machine.specs.Parts.{configuration_of}
use Rattle.cc_machine.proofs.Following.{grows_none, entered_goes}
use Rattle.cc_machine.proofs.StepLines.{type_function_applied}
use Rattle.cc_machine.proofs.parts.Parts.instantiate_node.Goals as goal

pub returns-in-TFun : goal.returns-in-TFun
returns-in-TFun c =
    let now = configuration_of c.args.self.now in
    entered_goes (grows_none c.requires.linked) c.requires.within c.enter.ensures
    (type_function_applied now.store now.stack now.labels_made (follow c.args.self.now.links.items c.args.environment) (term_of c.args.node.now)
    (term_of c.deref.result.now) (ap form_of c.in-TFun.is) (ap term_of c.deref.ensures))
