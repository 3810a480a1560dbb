use Rattle.std.proofs.Common.{sym, ap, ◌∙◌}
use Rattle.std.proofs.lemmas.Result.{IfOk-weaker}
use Rattle.cc_core.specs.TermViews.{shape_of, type_of, context_of}
use Rattle.cc_checking.specs.CanonicalDerivations as plain
use Rattle.cc_derive.proofs.MadeRows.{application_made}
use Rattle.cc_derive.proofs.rows.apply.Goals as goal

pub returns-in_ok-ty-in-Fun : goal.returns-in_ok-ty-in-Fun
returns-in_ok-ty-in-Fun c =
    let is = ap shape_of (sym c.deref.ensures) ∙ ap shape_of c.in-Fun.is in
    IfOk-weaker c.over_two.result _ _
    (λ x h. λ m le.
    application_made c.args.build x (plain.shape_derived m) (context_of c.args.ctx.now) c.args.function c.args.argument
    (type_of c.in-Fun.takes.value) (type_of c.in-Fun.gives.value) (type_of c.in_ok-ty-in-Fun.ty) (type_of c.in_ok-takes-in-Fun.takes) (shape_of c.args.shape.now.value)
    c.in_ok-first-in-Fun.first c.in_ok-second-in-Fun.second is c.in_ok-takes-in-Fun.ensures c.in_ok-ty-in-Fun.ensures
    (c.in_ok-first-in-Fun.ensures m le) (c.in_ok-second-in-Fun.ensures m le) h)
    c.over_two.ensures
