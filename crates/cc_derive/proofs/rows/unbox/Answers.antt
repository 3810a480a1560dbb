use Rattle.std.proofs.Common.{sym, ap, ◌∙◌}
use Rattle.std.proofs.lemmas.Result.{IfOk-weaker}
use Rattle.cc_core.specs.TermViews.{shape_of, type_of, context_of}
use Rattle.cc_core.specs.Shapes.{CapturingType}
use Rattle.cc_checking.specs.CanonicalDerivations as plain
use Rattle.cc_core.specs.Shapes.{BoxShape}
use Rattle.cc_derive.proofs.MadeRows.{unboxing_made}
use Rattle.cc_derive.proofs.rows.unbox.Goals as goal

pub returns-in_ok-first-in-Boxed : goal.returns-in_ok-first-in-Boxed
returns-in_ok-first-in-Boxed c =
    let is = ap shape_of (sym c.deref.ensures) ∙ ap shape_of c.in-Boxed.is in
    let typed = c.in_ok-ty-in-Boxed.ensures in
    IfOk-weaker c.over_one.result _ _
    (λ x h. λ m le.
    unboxing_made c.args.build x (plain.shape_derived m) (context_of c.args.ctx.now) c.args.set c.args.content
    (type_of c.in-Boxed.inside.value) (type_of c.in_ok-ty-in-Boxed.ty) (shape_of c.in_ok-whole-in-Boxed.whole.value) (shape_of c.args.shape.now.value)
    c.in_ok-first-in-Boxed.first is typed
    (c.in_ok-whole-in-Boxed.ensures ∙ ap (λ (t : CapturingType). BoxShape t.shape t.set) typed)
    (c.in_ok-first-in-Boxed.ensures m le) h)
    c.over_one.ensures
