use Rattle.std.proofs.Common.{refl, sym, ap, ◌∙◌}
use Rattle.cc_core.specs.TermViews.{shape_of}
use Rattle.cc_core.specs.declared.types.Ty.{Ty}
use Rattle.cc_certificate_judging.proofs.ReadShapes.{down_start, down_takes, down_bounds, down_contents, down_exits}
use Rattle.cc_certificate_judging.proofs.claims.descend.Goals as goal

pub loop-variable-init : goal.loop-variable-init
loop-variable-init c = down_start

pub loop-variable-preserved-in-Fun : goal.loop-variable-preserved-in-Fun
loop-variable-preserved-in-Fun c =
    down_takes c.loop-variable.waiting.items _ c.loop-variable.invariant (ap shape_of (sym c.deref.ensures ∙ c.in-Fun.is)) c.in_ok-push-in-Fun.ensures.items refl
    (ap shape_of (ap (λ (t : Ty). t.shape.value) c.deref-in-Fun.ensures))

pub loop-variable-preserved-in-TFun : goal.loop-variable-preserved-in-TFun
loop-variable-preserved-in-TFun c =
    down_bounds c.loop-variable.waiting.items _ c.loop-variable.invariant (ap shape_of (sym c.deref.ensures ∙ c.in-TFun.is)) c.in_ok-push-in-TFun.ensures.items refl refl

pub loop-variable-preserved-in-Boxed : goal.loop-variable-preserved-in-Boxed
loop-variable-preserved-in-Boxed c =
    down_contents c.loop-variable.waiting.items _ c.loop-variable.invariant (ap shape_of (sym c.deref.ensures ∙ c.in-Boxed.is)) c.in_ok-push-in-Boxed.ensures.items refl
    (ap shape_of (ap (λ (t : Ty). t.shape.value) c.deref-in-Boxed.ensures))

pub loop-variable-preserved : goal.loop-variable-preserved
loop-variable-preserved c =
    down_exits c.loop-variable.waiting.items _ c.loop-variable.invariant (ap shape_of (sym c.deref.ensures ∙ c.in-Exit.is)) c.in_ok-push-in-Exit.ensures.items refl refl
