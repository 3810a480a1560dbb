use Rattle.std.proofs.Common.{◌≡◌, ◌-◌, ap, ◌∙◌}
use Rattle.cc_capture.specs.declared.var.Elem.TheVariants.{Var as Variable}
use Rattle.cc_core.specs.Substitution.{single}
use Rattle.cc_core.proofs.CallLemmas.{joined}
use Rattle.cc_certificate_judging.specs.Judging.{reading}
use Rattle.cc_certificate_judging.proofs.ReadElements.{variable_is_read, cap_is_read, hole_is_read}
use Rattle.cc_certificate_judging.proofs.claims.add_read.Goals as goal

pub returns-in-Var : goal.returns-in-Var
returns-in-Var c =
    let locals = c.args.entries - c.args.names in
    let becomes = ap (λ v. single (Variable v)) c.read_variable.ensures ∙ variable_is_read c.args.names locals c.args.depth c.in-Var.variable in
    rw c.in-Var.is (joined c.insert.result _ _ _ _ becomes c.insert.ensures.ok)

pub returns-in-Cap : goal.returns-in-Cap
returns-in-Cap c =
    let locals = c.args.entries - c.args.names in
    let stays : single c.args.elem ≡ (reading c.args.names locals).element c.args.depth c.args.elem =
    cap_is_read c.args.names locals c.args.depth c.args.elem c.in-Cap.is in
    joined c.insert-in-Cap.result _ _ _ _ stays c.insert-in-Cap.ensures.ok

pub returns-in-Hole : goal.returns-in-Hole
returns-in-Hole c =
    let locals = c.args.entries - c.args.names in
    let stays : single c.args.elem ≡ (reading c.args.names locals).element c.args.depth c.args.elem =
    hole_is_read c.args.names locals c.args.depth c.args.elem _ c.in-Hole.is in
    joined c.insert-in-Hole.result _ _ _ _ stays c.insert-in-Hole.ensures.ok
