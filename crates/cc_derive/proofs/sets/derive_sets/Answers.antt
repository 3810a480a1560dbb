use Rattle.std.proofs.Common.{List, length, sym, ap, ◌∙◌, subst}
use Rattle.std.proofs.lemmas.Result.{IfOk-weaker}
use Rattle.cc_core.specs.Derivations.{Derivation}
use Rattle.cc_core.specs.TermViews.{context_of}
use Rattle.cc_derive.specs.declared.trees.Tree.{Tree}
use Rattle.cc_derive.specs.Tables.{IsTable}
use Rattle.cc_derive.specs.Trees.{IsMade}
use Rattle.cc_derive.proofs.Reached.{table_none, all_known, all_members}
use Rattle.cc_derive.proofs.sets.derive_sets.Goals as goal

pub returns-then-is_subset : goal.returns-then-is_subset
returns-then-is_subset c =
    let g = context_of c.args.ctx.now in
    let left = c.args.left.now in
    let right = c.args.right.now in
    let within = sym c.is_subset.ensures ∙ c.if-is_subset.true in
    IfOk-weaker c.reach_all.result _ _
    (λ t h. subst (λ (d : Derivation). IsMade c.args.build t d) (all_members g left right within) (h g (table_none c.args.build g right)))
    c.reach_all.ensures

pub returns : goal.returns
returns c =
    let g = context_of c.args.ctx.now in
    let left = c.args.left.now in
    let right = c.args.right.now in
    let value = c.deref.ensures.value in
    IfOk-weaker c.reach_all-2.result _ _
    (λ t h. subst (λ (d : Derivation). IsMade c.args.build t d)
    (all_known g left right (length c.deref.result.now) (ap length value ∙ c.in_ok-table.ensures.all))
    (h g (subst (λ (items : List Tree). IsTable c.args.build g right items) (sym value) c.in_ok-table.ensures.is)))
    c.reach_all-2.ensures
