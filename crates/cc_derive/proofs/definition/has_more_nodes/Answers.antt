use Rattle.std.proofs.Common.{◌+◌, nat_lt, false, refl, ap, ◌∙◌, arith}
use Rattle.cc_core.specs.TermViews.{context_of}
use Rattle.cc_checking.specs.DerivationSizes.{nodes}
use Rattle.cc_derive.specs.Trees.{IsMade}
use Rattle.cc_derive.proofs.Made.{counted_more}
use Rattle.cc_derive.specs.Accepting.{checked_derived}
use Rattle.cc_derive.proofs.AcceptedTrees.{accepted_made}
use Rattle.cc_derive.proofs.definition.has_more_nodes.Goals as goal

pub returns : goal.returns
returns c =
    let g = context_of c.args.ctx.now in
    let checked = c.args.checked.now in
    let n = nodes (checked_derived g checked) in
    counted_more (c.from-most.result + 1) c.from-most.result c.in_ok-tree.tree.nodes n refl (omega (arith, c.from-most.ensures, c.ranges.most.fits))
    (accepted_made (IsMade (record { whole = false; limit = c.from-most.result + 1 }) c.in_ok-tree.tree) g checked c.requires c.in_ok-tree.ensures).counted
    ∙ ap (λ k. nat_lt k n) c.from-most.ensures
