use Rattle.std.proofs.Common.{◌≡◌, None, sym, subst, option_map}
use Rattle.cc_device.specs.DeviceViews.{event_of}
use Rattle.cc_runs.specs.Machine.{term_step}
use Rattle.cc_machine.specs.Asking.{question_in}
use Rattle.cc_machine.specs.Lines.{Goes}
use Rattle.cc_machine.specs.Operands.{HasFreeOperands}
use Rattle.cc_machine.specs.Parts.{focus_in, configuration_of}
use Rattle.cc_machine.proofs.parts.Parts.advance.Goals as goal

pub advance_code-requires-clause-operands : goal.advance_code-requires-clause-operands
advance_code-requires-clause-operands c =
    subst (λ f. HasFreeOperands (focus_in c.args.self.now.links.items f)) c.in-Code.is c.requires.operands

pub advance_code-requires-clause-unasked : goal.advance_code-requires-clause-unasked
advance_code-requires-clause-unasked c =
    let now = configuration_of c.args.self.now in
    subst (λ f. question_in (term_step now.store now.stack now.labels_made (focus_in c.args.self.now.links.items f)) ≡ None) c.in-Code.is c.requires.unasked

pub returns-in-Code : goal.returns-in-Code
returns-in-Code c =
    let now = configuration_of c.args.self.now in
    subst
    (λ f. Goes (term_step now.store now.stack now.labels_made (focus_in c.args.self.now.links.items f)) c.args.self.now
    (option_map event_of c.advance_code.result) c.advance_code.new.self)
    (sym c.in-Code.is) c.advance_code.ensures
