use Rattle.std.proofs.Common.{◌≡◌, ap, sym, ◌∙◌}
use Rattle.cc_core.specs.Substitution.{single}
use Rattle.cc_core.specs.Captured.{outside}
use Rattle.cc_core.proofs.CallLemmas.{joined}
use Rattle.cc_captured.proofs.captured.add_outside.Goals as goal

pub returns-in-Cap : goal.returns-in-Cap
returns-in-Cap c =
    let stays : single c.args.elem ≡ outside c.args.elem = ap single c.in-Cap.is ∙ ap outside (sym c.in-Cap.is) in
    joined c.insert.result _ _ _ _ stays c.insert.ensures.ok

pub returns-in-Hole : goal.returns-in-Hole
returns-in-Hole c =
    let stays : single c.args.elem ≡ outside c.args.elem = ap single c.in-Hole.is ∙ ap outside (sym c.in-Hole.is) in
    joined c.insert-in-Hole.result _ _ _ _ stays c.insert-in-Hole.ensures.ok
