use Rattle.std.proofs.Common.{sym, ap, ◌∙◌}
use Rattle.cc_capture.specs.Sets.{union}
use Rattle.cc_core.specs.Substitution.{single, filled_element}
use Rattle.cc_core.proofs.CallLemmas.{joined}
use Rattle.cc_solve.specs.Solutions.{filling_of, set_or_none}
use Rattle.cc_solve.proofs.Answered.{on_ok}
use Rattle.cc_solve.proofs.FilledMarkings.{set_of_hole}
use Rattle.cc_solve.proofs.judging.add_filled.Goals as goal

pub returns-in-Hole : goal.returns-in-Hole
returns-in-Hole c =
    on_ok c.add_set.result _ _
    (λ is.
    is
    ∙ ap (λ s. union s c.args.whole.now)
    (ap set_or_none c.get.ensures ∙ set_of_hole c.args.filling.now c.in-Hole.hole ∙ ap (filled_element (filling_of c.args.filling.now)) (sym c.in-Hole.is)))
    c.add_set.ensures

pub returns-in-Cap : goal.returns-in-Cap
returns-in-Cap c =
    joined c.insert.result _ _ _ _ (ap single c.in-Cap.is ∙ ap (filled_element (filling_of c.args.filling.now)) (sym c.in-Cap.is)) c.insert.ensures.ok

pub returns-in-Var : goal.returns-in-Var
returns-in-Var c =
    joined c.insert-in-Var.result _ _ _ _ (ap single c.in-Var.is ∙ ap (filled_element (filling_of c.args.filling.now)) (sym c.in-Var.is)) c.insert-in-Var.ensures.ok
