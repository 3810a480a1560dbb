use Rattle.std.proofs.Common.{subst}
use Rattle.cc_machine.specs.Lines.{IsWriting}
use Rattle.cc_machine.specs.Operands.{HasFreeOperands}
use Rattle.cc_machine.specs.Parts.{focus_in}
use Rattle.cc_machine.proofs.parts.Parts.step.Goals as goal

pub step_code-requires-clause-operands : goal.step_code-requires-clause-operands
step_code-requires-clause-operands c = subst (λ f. HasFreeOperands (focus_in c.args.self.now.links.items f)) c.in-Code.is c.requires.operands

pub returns-in-Code-clause-no_memory : goal.returns-in-Code-clause-no_memory
returns-in-Code-clause-no_memory c = λ none.
    c.step_code.ensures.no_memory (subst (λ f. IsWriting (focus_in c.args.self.now.links.items f) → ⊥) c.in-Code.is none)
