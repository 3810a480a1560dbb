use Rattle.std.proofs.Common.{Some, None, sym, ◌∙◌, subst}
use Rattle.std.proofs.lemmas.Result.{IfOk-weaker}
use Rattle.cc_core.specs.Derivations.{Derivation}
use Rattle.cc_core.specs.TermViews.{bind_of, context_of}
use Rattle.cc_derive.specs.Trees.{IsMade}
use Rattle.cc_derive.proofs.Reached.{position_contained, position_declared}
use Rattle.cc_derive.proofs.sets.reach_position.Goals as goal

pub returns-then-contains : goal.returns-then-contains
returns-then-contains c =
    let g = context_of c.args.ctx.now in
    IfOk-weaker c.element_node.result _ _
    (λ t h. λ known. subst (λ (d : Derivation). IsMade c.args.build t d) (position_contained g c.args.right.now c.args.position (sym c.contains.ensures ∙ c.if-contains.true)) h)
    c.element_node.ensures

pub returns-in-Some : goal.returns-in-Some
returns-in-Some c =
    let g = context_of c.args.ctx.now in
    let absent = sym c.contains.ensures ∙ c.if-contains.false in
    IfOk-weaker c.reach_declared.result _ _
    (λ t h. λ known. subst (λ (d : Derivation). IsMade c.args.build t d)
    (position_declared g c.args.right.now c.args.position (Some (bind_of c.in-Some.bind.now)) absent c.in-Some.ensures) (h g known))
    c.reach_declared.ensures

pub returns-in-None : goal.returns-in-None
returns-in-None c =
    let g = context_of c.args.ctx.now in
    let absent = sym c.contains.ensures ∙ c.if-contains.false in
    IfOk-weaker c.element_node-in-None.result _ _
    (λ t h. λ known. subst (λ (d : Derivation). IsMade c.args.build t d)
    (position_declared g c.args.right.now c.args.position None absent c.in-None.ensures) h)
    c.element_node-in-None.ensures
