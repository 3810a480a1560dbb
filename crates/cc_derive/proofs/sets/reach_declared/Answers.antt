use Rattle.std.proofs.Common.{ℕ, Option, [], ◌∷◌, length, subst}
use Rattle.std.proofs.lemmas.Result.{IfOk-weaker}
use Rattle.cc_capture.specs.Sets.{Set}
use Rattle.cc_checking.specs.CanonicalDerivations.{elements_derived}
use Rattle.cc_derive.specs.Tables.{reached_derived, declared_derived}
use Rattle.cc_derive.specs.Trees.{IsMade}
use Rattle.cc_derive.proofs.sets.reach_declared.Goals as goal

pub returns-in_ok-parts-in-Some : goal.returns-in_ok-parts-in-Some
returns-in_ok-parts-in-Some c =
    let right = c.args.right.now in
    let declared = c.in-Some.declared.now in
    let tree = c.in_ok-below-in-Some.below in
    IfOk-weaker c.variable_node.result _ _
    (λ t h. λ g known.
    let below = elements_derived (reached_derived c.args.position g right) declared right in
    subst (λ (o : Option Set). IsMade c.args.build t (declared_derived g right c.args.position o)) c.in-Some.ensures
    (h c.args.build (below ∷ [])
    (c.in_ok-parts-in-Some.ensures below
    (subst (λ (n : ℕ). IsMade c.args.build tree (elements_derived (reached_derived n g right) declared right)) c.requires
    (c.in_ok-below-in-Some.ensures g known)))))
    c.variable_node.ensures
