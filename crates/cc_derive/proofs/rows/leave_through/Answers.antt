use Rattle.std.proofs.Common.{sym, ap, ◌∙◌}
use Rattle.std.proofs.lemmas.Result.{IfOk-weaker}
use Rattle.cc_core.specs.TermViews.{shape_of, type_of, context_of}
use Rattle.cc_capture.specs.Sets.{empty}
use Rattle.cc_core.specs.Shapes.{Shape, capturing}
use Rattle.cc_checking.specs.CanonicalDerivations as plain
use Rattle.cc_derive.proofs.MadeRows.{exit_made}
use Rattle.cc_derive.proofs.rows.leave_through.Goals as goal

pub returns-in_ok-second-in-Exit : goal.returns-in_ok-second-in-Exit
returns-in_ok-second-in-Exit c =
    let is = ap shape_of (sym c.deref.ensures) ∙ ap shape_of c.in-Exit.is in
    IfOk-weaker c.over_two.result _ _
    (λ x h. λ m le.
    exit_made c.args.build x (plain.shape_derived m) (context_of c.args.ctx.now) (type_of c.args.gives) c.args.exit c.args.value
    (shape_of c.in-Exit.takes.value) (shape_of c.args.shape.now.value) (type_of c.pure_type-taken.result)
    c.in_ok-first-in-Exit.first c.in_ok-second-in-Exit.second is
    (c.pure_type-taken.ensures ∙ ap (λ (z : Shape). capturing z empty) (ap shape_of c.in_ok-inside-in-Exit.ensures.cases))
    (c.in_ok-first-in-Exit.ensures m le) (c.in_ok-second-in-Exit.ensures m le) h)
    c.over_two.ensures
