use Rattle.std.proofs.Common.{true, false, ap, sym, ◌∙◌, arith}
use Rattle.cc_core.specs.Leaves.{is_leaf}
use Rattle.cc_core.proofs.DroppedParts.{parts, parted, parted-most, at_least, at_most, leaf-cases, ahead-falls, ahead-narrows}
use Rattle.cc_core.proofs.types.Shape.+drop.Goals as goal

pub loop-self-smaller-in-Base : goal.loop-self-smaller-in-Base
loop-self-smaller-in-Base t c =
    let one = at_least c.loop-self.self in
    let held = ap parted (sym c.is_leaf.ensures ∙ c.if-is_leaf.false) in
    ahead-falls _ _ _ _ _ (is_leaf c.loop-self.waiting) true (omega (arith, one, c.loop-self.invariant)) (omega (arith, one, held))

pub loop-self-smaller-then-not-holds_parts : goal.loop-self-smaller-then-not-holds_parts
loop-self-smaller-then-not-holds_parts t c =
    let given = at_most _ _ c.last_content-self-then-not-holds_parts.ensures in
    let whole = ap parts c.in-Fun.is in
    let waits = at_least c.loop-self.waiting in
    ahead-falls _ _ _ _ _ _ _ (omega (arith, given, whole, waits, c.loop-self.invariant)) (omega (arith, given, whole))

pub loop-self-smaller-then-not-holds_parts-2 : goal.loop-self-smaller-then-not-holds_parts-2
loop-self-smaller-then-not-holds_parts-2 t c =
    let given = at_most _ _ c.last_content-self-then-not-holds_parts-2.ensures in
    let whole = ap parts c.in-Fun.is in
    let waits = at_least c.loop-self.waiting in
    ahead-falls _ _ _ _ _ _ _ (omega (arith, given, whole, waits, c.loop-self.invariant)) (omega (arith, given, whole))

pub loop-self-smaller-in-Ok : goal.loop-self-smaller-in-Ok
loop-self-smaller-in-Ok t c =
    let given = at_most _ _ c.last_content-self-in-Ok.ensures in
    let whole = ap parts c.in-Fun.is in
    let waits = at_least c.loop-self.waiting in
    let others = ap parts c.in-Ok.ensures.ok in
    ahead-falls _ _ _ _ _ (is_leaf c.loop-self.waiting) false (omega (arith, given, whole, waits, c.loop-self.invariant)) (omega (arith, given, whole, others))

pub loop-self-smaller-in-Err : goal.loop-self-smaller-in-Err
loop-self-smaller-in-Err t c =
    let given = at_most _ _ c.last_content-self-in-Err.ensures in
    let whole = ap parts c.in-Fun.is in
    let waits = at_least c.loop-self.waiting in
    let others = ap parts c.in-Err.ensures.value_returned in
    let leaves = ap (λ it. parted (is_leaf it)) c.in-Err.ensures.value_returned in
    ahead-falls _ _ _ _ _ _ _ (omega (arith, given, whole, waits, c.loop-self.invariant)) (omega (arith, given, whole, others, leaves))

pub loop-self-smaller-then-is_leaf-2 : goal.loop-self-smaller-then-is_leaf-2
loop-self-smaller-then-is_leaf-2 t c =
    let given = at_most _ _ c.last_content-self-then-is_leaf-2.ensures in
    let others = at_most _ _ c.last_shape-waiting.ensures in
    let whole = ap parts c.in-TFun.is in
    let waits = at_least c.loop-self.waiting in
    ahead-falls _ _ _ _ _ _ _ (omega (arith, given, whole, waits, c.loop-self.invariant))
    (omega (arith, given, whole, others, parted-most (is_leaf c.last_shape-waiting.result)))

pub loop-self-smaller-in-Ok-new : goal.loop-self-smaller-in-Ok-new
loop-self-smaller-in-Ok-new t c =
    let given = at_most _ _ c.last_shape-self-in-Ok-new.ensures in
    let whole = ap parts c.in-TFun.is in
    let others = ap parts c.in-Ok-new.ensures.ok in
    let held = ap parted (sym c.is_leaf-in-TFun.ensures ∙ c.if-is_leaf-2.false) in
    ahead-narrows _ _ _ _ _ (is_leaf c.loop-self.waiting) false (omega (arith, given, whole)) (omega (arith, given, whole, others, held))

pub loop-self-preserved-in-Ok-new : goal.loop-self-preserved-in-Ok-new
loop-self-preserved-in-Ok-new t c =
    let given = at_most _ _ c.last_shape-self-in-Ok-new.ensures in
    let whole = ap parts c.in-TFun.is in
    let others = ap parts c.in-Ok-new.ensures.ok in
    omega (arith, given, whole, others, c.loop-self.invariant)

pub loop-self-smaller : goal.loop-self-smaller
loop-self-smaller t c =
    let given = at_most _ _ c.last_shape-self-in-Err-new.ensures in
    let whole = ap parts c.in-TFun.is in
    let others = ap parts c.in-Err-new.ensures.value_returned in
    let leaves = ap (λ it. parted (is_leaf it)) c.in-Err-new.ensures.value_returned in
    ahead-narrows _ _ _ _ _ _ _ (omega (arith, given, whole)) (omega (arith, given, whole, others, leaves))

pub unreachable-requires : goal.unreachable-requires
unreachable-requires t c =
    leaf-cases _ (sym c.is_leaf.ensures ∙ c.if-is_leaf.true) c.in_default.not-Base c.in_default.not-Any c.in_default.not-TVar
