use Rattle.std.proofs.Common.{◌≡◌, false, Option, Some, None, is_some, length, refl, sym, ap, subst, ◌∙◌}
use Rattle.cc_explain.proofs.Walk.{StandsAt, walks, ends, no_chains}
use Rattle.cc_explain.specs.Steps.{next_of}
use Rattle.cc_explain.specs.declared.target.Target.{Target}
use Rattle.cc_explain.specs.declared.target.Target.TheVariants.{Definition}
use Rattle.cc_explain.proofs.chain.chain.Goals as goal

pub loop-next-preserved : goal.loop-next-preserved
loop-next-preserved c =
    let is : next_of c.in_ok-steps.steps.items c.loop-next.target ≡ Some c.in-Some.next =
    ap (λ steps. next_of steps c.loop-next.target) (sym c.as_slice-in-loop-next.ensures.value)
    ∙ sym c.next_of-in-loop-next.ensures ∙ c.in-Some.is in
    subst (StandsAt c.args.links.now c.args.from c.args.to (length c.in_ok-steps.steps.items) c.in-Some.next)
    (sym c.in_ok-push-2.ensures.items)
    (walks c.args.links.now c.args.from c.args.to c.in_ok-steps.steps.items c.loop-next.target c.in-Some.next
    c.loop-next.chain.items c.in_ok-steps.ensures.steps c.loop-next.invariant is)

none_of : (found : Option Target) → is_some found ≡ false → found ≡ None
none_of None h = refl
none_of (Some next) h = cc

pub returns-then-is_none : goal.returns-then-is_none
returns-then-is_none c =
    no_chains c.args.links.now c.args.from c.args.to c.in_ok-steps.steps.items c.in_ok-steps.ensures.count c.requires.to
    c.in_ok-steps.ensures.steps
    (ap (λ steps. next_of steps (Definition c.args.from)) (sym c.as_slice.ensures.value)
    ∙ sym c.next_of.ensures ∙ none_of c.next_of.result c.if-is_none.ensures)

pub returns : goal.returns
returns c =
    ends c.args.links.now c.args.from c.args.to c.in_ok-steps.steps.items c.loop-next.target c.loop-next.chain.items
    c.in_ok-steps.ensures.steps c.loop-next.invariant
    (ap (λ steps. next_of steps c.loop-next.target) (sym c.as_slice-in-loop-next.ensures.value)
    ∙ sym c.next_of-in-loop-next.ensures ∙ c.in_default.is)
