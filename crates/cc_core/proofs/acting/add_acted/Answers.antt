use Rattle.std.proofs.Common.{◌≡◌, ap, sym, ◌∙◌}
use Rattle.cc_capture.specs.declared.var.Elem.TheVariants.{Var as Variable}
use Rattle.cc_core.specs.Actions.{action_of}
use Rattle.cc_core.specs.Substitution.{single}
use Rattle.cc_core.proofs.CallLemmas.{joined, element-variable, element-cap}
use Rattle.cc_core.proofs.acting.add_acted.Goals as goal

pub returns-in_ok-act_variable-in-Var : goal.returns-in_ok-act_variable-in-Var
returns-in_ok-act_variable-in-Var c =
    let action = c.args.action.now in
    let becomes = ap (λ v. single (Variable v)) c.in_ok-act_variable-in-Var.ensures ∙ element-variable action c.args.depth c.in-Var.variable in
    rw c.in-Var.is (joined c.insert.result _ _ _ _ becomes c.insert.ensures.ok)

pub returns-in-Cap : goal.returns-in-Cap
returns-in-Cap c =
    let action = c.args.action.now in
    let stays : single c.args.elem ≡ (action_of action).element c.args.depth c.args.elem = ap single c.in-Cap.is ∙ element-cap action c.args.depth ∙ ap (λ e. (action_of action).element c.args.depth e) (sym c.in-Cap.is) in
    joined c.insert-in-Cap.result _ _ _ _ stays c.insert-in-Cap.ensures.ok
