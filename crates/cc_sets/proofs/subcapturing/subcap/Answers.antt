use Rattle.std.proofs.Common.{refl, ◌∙◌, sym}
use Rattle.cc_core.specs.TermViews.{context_of}
use Rattle.cc_sets.proofs.SubcapturingSearch.{subset_looks, subset_below, clear_same}
use Rattle.cc_sets.proofs.subcapturing.subcap.Goals as goal

pub returns-then-is_subset-clause-decides : goal.returns-then-is_subset-clause-decides
returns-then-is_subset-clause-decides g c =
    (λ holds. subset_below (context_of c.args.ctx.now) c.args.left.now c.args.right.now (sym c.is_subset.ensures ∙ c.if-is_subset.true), λ below. refl)

pub returns-then-is_subset-clause-looks_up : goal.returns-then-is_subset-clause-looks_up
returns-then-is_subset-clause-looks_up g c =
    subset_looks (context_of c.args.ctx.now) c.args.left.now c.args.right.now c.args.steps.now (sym c.is_subset.ensures ∙ c.if-is_subset.true)

pub returns-clause-clear : goal.returns-clause-clear
returns-clause-clear g c =
    clear_same c.args.marks.now c.clear_below.new.self (c.clear_below.ensures.room ∙ c.is_below-answer.ensures.room) c.requires.clear c.clear_below.ensures.clear
