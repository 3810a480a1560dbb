use Rattle.std.proofs.Common.{refl, ap, ◌∙◌}
use Rattle.std.proofs.lemmas.Result.{IfOk-weaker}
use Rattle.cc_core.specs.TermViews.{shape_of, type_of}
use Rattle.cc_core.specs.declared.types.Ty.{Ty}
use Rattle.cc_core.specs.ActingShapes.{waiting_of}
use Rattle.cc_core.proofs.ActingShapes.{turn_takes, turn_gives, turn_bounds, turn_results, turn_contents, turn_exits}
use Rattle.cc_core.proofs.acting.take_turn.Goals as goal

pub returns-in_ok-push-in-Takes : goal.returns-in_ok-push-in-Takes
returns-in_ok-push-in-Takes c =
    IfOk-weaker c.descend.result _ _
    (λ a goes. turn_takes c.args.waiting.now.items _ c.in_ok-taken-in-Takes.taken (ap waiting_of c.in-Takes.is)
    c.in_ok-below-in-Takes.ensures (ap type_of c.deref.ensures) c.in_ok-taken-in-Takes.ensures c.in_ok-push-in-Takes.ensures.items
    refl (ap shape_of (c.deref-in-Takes-2.ensures ∙ ap (λ (t : Ty). t.shape.value) c.deref-in-Takes.ensures)) goes)
    c.descend.ensures

pub returns-in_ok-given-in-Gives : goal.returns-in_ok-given-in-Gives
returns-in_ok-given-in-Gives c =
    IfOk-weaker c.function_of.result _ _
    (λ a is. turn_gives c.in_ok-given-in-Gives.given (ap waiting_of c.in-Gives.is) (ap type_of c.deref-in-Gives.ensures)
    c.in_ok-given-in-Gives.ensures is)
    c.function_of.ensures

pub returns-in_ok-push-in-Bounds : goal.returns-in_ok-push-in-Bounds
returns-in_ok-push-in-Bounds c =
    IfOk-weaker c.descend-in-Bounds.result _ _
    (λ a goes. turn_bounds c.args.waiting.now.items _ (ap waiting_of c.in-Bounds.is)
    c.in_ok-below-in-Bounds.ensures c.in_ok-push-in-Bounds.ensures.items
    refl (ap shape_of (c.deref-in-Bounds-2.ensures ∙ ap (λ (t : Ty). t.shape.value) c.deref-in-Bounds.ensures)) goes)
    c.descend-in-Bounds.ensures

pub returns-in_ok-given-in-Results : goal.returns-in_ok-given-in-Results
returns-in_ok-given-in-Results c =
    IfOk-weaker c.type_function_of.result _ _
    (λ a is. turn_results c.in_ok-given-in-Results.given (ap waiting_of c.in-Results.is)
    (ap type_of c.deref-in-Results.ensures) c.in_ok-given-in-Results.ensures is)
    c.type_function_of.ensures

pub returns-in_ok-inside-in-Contents : goal.returns-in_ok-inside-in-Contents
returns-in_ok-inside-in-Contents c =
    IfOk-weaker c.box_of.result _ _
    (λ a is. turn_contents c.in_ok-inside-in-Contents.inside (ap waiting_of c.in-Contents.is)
    (ap type_of c.deref-in-Contents.ensures) c.in_ok-inside-in-Contents.ensures is)
    c.box_of.ensures

pub returns-in-Exits : goal.returns-in-Exits
returns-in-Exits c =
    IfOk-weaker c.exit_of.result _ _
    (λ a is. turn_exits (ap waiting_of c.in-Exits.is) is)
    c.exit_of.ensures
