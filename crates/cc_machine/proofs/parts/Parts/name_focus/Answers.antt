use Rattle.std.proofs.Common.{sym, refl, subst, arith}
use Rattle.cc_core.specs.Terms.{LiteralTerm}
use Rattle.cc_machine.specs.Naming.{Names}
use Rattle.cc_machine.specs.Operands.{HasFreeOperands}
use Rattle.cc_machine.specs.Parts.{focus_in, small_literal}
use Rattle.cc_machine.proofs.Answering.{names_value}
use Rattle.cc_machine.proofs.parts.Parts.name_focus.Goals as goal

pub name_code-requires-clause-operands : goal.name_code-requires-clause-operands
name_code-requires-clause-operands c =
    subst (λ f. HasFreeOperands (focus_in c.args.self.now.links.items f)) c.in-Code.is c.requires.operands

pub returns-in-Code : goal.returns-in-Code
returns-in-Code c =
    subst (λ f. Names (focus_in c.args.self.now.links.items f) c.args.self.now c.name_code.new.self c.name_code.result) (sym c.in-Code.is)
    c.name_code.ensures

pub returns-in-Small : goal.returns-in-Small
returns-in-Small c =
    subst (λ f. Names (focus_in c.args.self.now.links.items f) c.args.self.now c.add.new.self c.add.result) (sym c.in-Small.is)
    (names_value (LiteralTerm (small_literal c.in-Small.small)) c.requires.linked (omega arith) refl refl c.add.ensures)
