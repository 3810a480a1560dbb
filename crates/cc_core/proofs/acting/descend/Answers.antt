use Rattle.std.proofs.Common.{refl, ap, ◌∙◌}
use Rattle.std.proofs.lemmas.Result.{IfOk-weaker}
use Rattle.cc_core.specs.TermViews.{shape_of}
use Rattle.cc_core.specs.declared.types.Ty.{Ty}
use Rattle.cc_core.proofs.ActingShapes.{down_takes, down_bounds, down_contents, down_exits, down_ends}
use Rattle.cc_core.proofs.acting.descend.Goals as goal

pub returns-in-Base : goal.returns-in-Base
returns-in-Base c = down_ends c.loop-inner.invariant (ap shape_of c.in-Base.is) refl refl

pub returns-in-Any : goal.returns-in-Any
returns-in-Any c = down_ends c.loop-inner.invariant (ap shape_of c.in-Any.is) refl refl

pub returns-in-TVar : goal.returns-in-TVar
returns-in-TVar c =
    IfOk-weaker c.acted_type_variable.result _ _
    (λ a is. down_ends c.loop-inner.invariant (ap shape_of c.in-TVar.is) refl is) c.acted_type_variable.ensures

pub loop-inner-preserved-in-Fun : goal.loop-inner-preserved-in-Fun
loop-inner-preserved-in-Fun c =
    down_takes c.loop-inner.waiting.items _ c.loop-inner.invariant (ap shape_of c.in-Fun.is) c.in_ok-push-in-Fun.ensures.items refl
    (ap shape_of (c.deref-inner.ensures ∙ ap (λ (t : Ty). t.shape.value) c.deref.ensures))

pub loop-inner-preserved-in-TFun : goal.loop-inner-preserved-in-TFun
loop-inner-preserved-in-TFun c =
    down_bounds c.loop-inner.waiting.items _ c.loop-inner.invariant (ap shape_of c.in-TFun.is) c.in_ok-push-in-TFun.ensures.items refl
    (ap shape_of c.deref-inner-in-TFun.ensures)

pub loop-inner-preserved-in-Boxed : goal.loop-inner-preserved-in-Boxed
loop-inner-preserved-in-Boxed c =
    down_contents c.loop-inner.waiting.items _ c.loop-inner.invariant (ap shape_of c.in-Boxed.is) c.in_ok-push-in-Boxed.ensures.items refl
    (ap shape_of (c.deref-inner-in-Boxed.ensures ∙ ap (λ (t : Ty). t.shape.value) c.deref-in-Boxed.ensures))

pub loop-inner-preserved : goal.loop-inner-preserved
loop-inner-preserved c =
    down_exits c.loop-inner.waiting.items _ c.loop-inner.invariant (ap shape_of c.in-Exit.is) c.in_ok-push-in-Exit.ensures.items refl
    (ap shape_of c.deref-inner-in-Exit.ensures)
