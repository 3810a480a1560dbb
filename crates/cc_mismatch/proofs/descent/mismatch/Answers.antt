use Rattle.std.proofs.Common.{◌≡◌, sym, subst}
use Rattle.std.proofs.lemmas.Result.{IfOk-weaker}
use Rattle.cc_core.specs.TermViews.{shape_of, context_of}
use Rattle.cc_checking.specs.Comparison.{Mismatch, comparison}
use Rattle.cc_type.specs.Comparing.{most_steps}
use Rattle.cc_reasons.specs.Mismatches.{Pair}
use Rattle.cc_mismatch.specs.Descents.{IsMatched, AreFirstParts, IsWellFormedPair, pair_compared}
use Rattle.cc_mismatch.specs.Views.{pair_of}
use Rattle.cc_mismatch.proofs.LeadingParts.{not_both}
use Rattle.cc_mismatch.proofs.descent.mismatch.Goals as goal

pub unreachable-requires : goal.unreachable-requires
unreachable-requires c =
    let g = context_of c.args.ctx.now in
    let l = shape_of c.args.left.now.value in
    let r = shape_of c.args.right.now.value in
    let matched = subst (IsMatched (comparison most_steps g l r)) c.if-branch.true c.in_ok-matches.ensures in
    not_both g l r most_steps c.requires.apart.0 matched.0 matched.1 c.requires.apart.1

pub descend-requires-clause-formed : goal.descend-requires-clause-formed
descend-requires-clause-formed c =
    subst IsWellFormedPair (sym c.in_ok-parts.ensures) (c.requires.context, c.requires.left, c.requires.right)

pub descend-requires-clause-apart : goal.descend-requires-clause-apart
descend-requires-clause-apart c =
    let g = context_of c.args.ctx.now in
    let l = shape_of c.args.left.now.value in
    let r = shape_of c.args.right.now.value in
    subst (λ (p : Pair). pair_compared most_steps p ≡ Mismatch) (sym c.in_ok-parts.ensures)
    (subst (IsMatched (comparison most_steps g l r)) c.if-branch.false c.in_ok-matches.ensures)

pub returns : goal.returns
returns c =
    IfOk-weaker c.descend.result _ _
    (λ first h. subst (λ (p : Pair). AreFirstParts p (pair_of first)) c.in_ok-parts.ensures h)
    c.descend.ensures
