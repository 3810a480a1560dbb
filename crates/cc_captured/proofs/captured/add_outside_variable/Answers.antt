use Rattle.std.proofs.Common.{◌≡◌, ap, sym, ◌∙◌}
use Rattle.cc_capture.specs.declared.var.Elem.TheVariants.{Var as Variable}
use Rattle.cc_core.specs.Substitution.{single}
use Rattle.cc_core.specs.Captured.{outside}
use Rattle.cc_core.proofs.CallLemmas.{joined, outside-bound, outside-none}
use Rattle.cc_captured.proofs.captured.add_outside_variable.Goals as goal

pub returns-then-index-eq0 : goal.returns-then-index-eq0
returns-then-index-eq0 c = outside-none (Variable c.args.variable) c.in-Bound.index c.args.outer.now (ap Variable c.in-Bound.is) c.if-index-eq0.true

pub returns-else-index-eq0 : goal.returns-else-index-eq0
returns-else-index-eq0 c =
    joined c.insert.result _ _ _ _ (outside-bound c.in-Bound.index c.if-index-eq0.false ∙ ap (λ v. outside (Variable v)) (sym c.in-Bound.is)) c.insert.ensures.ok

pub returns-in-Free : goal.returns-in-Free
returns-in-Free c =
    let stays : single (Variable c.args.variable) ≡ outside (Variable c.args.variable) = ap (λ v. single (Variable v)) c.in-Free.is ∙ ap (λ v. outside (Variable v)) (sym c.in-Free.is) in
    joined c.insert-in-Free.result _ _ _ _ stays c.insert-in-Free.ensures.ok
