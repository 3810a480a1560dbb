use Rattle.std.proofs.Common.{sym, ap, ◌∙◌}
use Rattle.std.proofs.lemmas.Result.{IfOk-weaker}
use Rattle.cc_core.specs.TermViews.{shape_of, type_of, context_of}
use Rattle.cc_checking.specs.CanonicalDerivations as plain
use Rattle.cc_derive.proofs.MadeRows.{type_application_made}
use Rattle.cc_derive.proofs.rows.apply_type.Goals as goal

pub returns-in_ok-ty-in-TFun : goal.returns-in_ok-ty-in-TFun
returns-in_ok-ty-in-TFun c =
    let is = ap shape_of (sym c.deref.ensures) ∙ ap shape_of c.in-TFun.is in
    IfOk-weaker c.over_two.result _ _
    (λ x h. λ m le.
    type_application_made c.args.build x (plain.shape_derived m) (context_of c.args.ctx.now) c.args.function (shape_of c.args.argument.now.value)
    (shape_of c.in-TFun.bound.value) (type_of c.in-TFun.gives.value) (type_of c.in_ok-ty-in-TFun.ty) (shape_of c.args.shape.now.value)
    c.in_ok-first-in-TFun.first c.in_ok-second-in-TFun.second is c.in_ok-ty-in-TFun.ensures
    (c.in_ok-first-in-TFun.ensures m le) (c.in_ok-second-in-TFun.ensures m le) h)
    c.over_two.ensures
