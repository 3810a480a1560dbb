use Rattle.std.proofs.Common.{◌≡◌, List, [], ◌∷◌, ◌++◌, length, map, sym, ap, ◌∙◌, subst}
use Rattle.std.proofs.lemmas.List.{map-append, map-id}
use Rattle.std.proofs.lemmas.Iterator.Consumers.{YieldsList-from_first, YieldsList-end}
use Rattle.std.proofs.lemmas.Result.{IfOk-weaker}
use Rattle.cc_capture.specs.declared.var.Elem.{Elem}
use Rattle.cc_core.specs.Derivations.{Derivation}
use Rattle.cc_derive.specs.Tables.{reached_derived}
use Rattle.cc_derive.specs.Trees.{IsMade, IsParts}
use Rattle.cc_derive.proofs.Reached.{elements_listed}
use Rattle.cc_derive.proofs.sets.reach_all.Goals as goal

pub loop-elem-preserved : goal.loop-elem-preserved
loop-elem-preserved c = λ g known.
    let reached = reached_derived (length c.args.table.now) g c.args.right.now in
    let seen = c.loop-elem.yielded in
    subst (λ (ds : List Derivation). IsParts c.args.build c.in_ok-parts.parts ds) (sym (map-append reached seen (c.in-Some.elem ∷ [])))
    (c.in_ok-parts.ensures c.args.build (map reached seen) (reached c.in-Some.elem) (c.loop-elem.invariant g known) (c.in_ok-tree.ensures g known))

pub returns : goal.returns
returns c =
    let left = c.args.left.now in
    let seen = YieldsList-end (YieldsList-from_first (λ x. x) (λ s. s) left.list (c.into_iter-elem-iterator.ensures.into_iter_gives ∙ c.iter-elem-items.ensures)) c.loop-elem.yielded _ c.loop-elem.yielded_by _ _ c.in-None.is c.next.ensures.steps in
    let all = sym (map-id c.loop-elem.yielded) ∙ seen.0 in
    IfOk-weaker c.set_node.result _ _
    (λ t h. λ g known.
    let reached = reached_derived (length c.args.table.now) g c.args.right.now in
    subst (λ (d : Derivation). IsMade c.args.build t d) (elements_listed reached left c.args.right.now)
    (h c.args.build (map reached left.list) (subst (λ (es : List Elem). IsParts c.args.build c.loop-elem.parts (map reached es)) all (c.loop-elem.invariant g known))))
    c.set_node.ensures
