use Rattle.std.proofs.Common.{◌≡◌, ◌+◌, ◌<◌, map, refl, ap, arith}
use Rattle.cc_derivation.specs.DerivationViews.{rule_of, claim_of, premises_of, der_of}
use Rattle.cc_derivation.specs.declared.derivation.Der.{Der}
use Rattle.cc_validity.specs.Counting.{nodes_together}
use Rattle.cc_validity.proofs.CountedNodes.{some_left, one_taken}
use Rattle.cc_validity.proofs.counting.count.Goals as goal

pub overflow_add-number : goal.overflow_add-number
overflow_add-number c =
    let some : 0 < nodes_together (map (λ d. der_of d.value) c.loop-next.waiting.items) =
    some_left (λ d. der_of d.value) c.pop.new.self.items c.loop-next.waiting.items c.in-Some.next c.in-Some.ensures.items in
    omega (arith, c.loop-next.invariant, c.requires)

pub loop-next-smaller : goal.loop-next-smaller
loop-next-smaller c =
    let taken : nodes_together (map (λ d. der_of d.value) c.loop-next.waiting.items) ≡ 1 + nodes_together (map (λ d. der_of d.value) c.wait_above.new.waiting.items) =
    one_taken (λ d. der_of d.value) c.pop.new.self.items c.loop-next.waiting.items c.in-Some.next
    (rule_of c.in-Some.next.value.rule) (premises_of c.in-Some.next.value.premises) (premises_of c.deref.result.now.premises) (claim_of c.in-Some.next.value.claim)
    _ c.in-Some.ensures.items refl (ap (λ (d : Der). premises_of d.premises) c.deref.ensures) c.in_ok-wait_above.ensures in
    omega arith

pub loop-next-preserved : goal.loop-next-preserved
loop-next-preserved c =
    let taken : nodes_together (map (λ d. der_of d.value) c.loop-next.waiting.items) ≡ 1 + nodes_together (map (λ d. der_of d.value) c.wait_above.new.waiting.items) =
    one_taken (λ d. der_of d.value) c.pop.new.self.items c.loop-next.waiting.items c.in-Some.next
    (rule_of c.in-Some.next.value.rule) (premises_of c.in-Some.next.value.premises) (premises_of c.deref.result.now.premises) (claim_of c.in-Some.next.value.claim)
    _ c.in-Some.ensures.items refl (ap (λ (d : Der). premises_of d.premises) c.deref.ensures) c.in_ok-wait_above.ensures in
    omega (arith, c.loop-next.invariant)
