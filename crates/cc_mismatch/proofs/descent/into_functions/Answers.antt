use Rattle.std.proofs.Common.{Some, sym, subst}
use Rattle.std.proofs.lemmas.Result.{IfOk-weaker}
use Rattle.cc_core.specs.Shapes.{FunctionShape}
use Rattle.cc_core.specs.TermViews.{type_of, context_of}
use Rattle.cc_checking.specs.Comparison.{comparison}
use Rattle.cc_type.specs.Comparing.{most_steps}
use Rattle.cc_reasons.specs.Mismatches.{Pair, pair}
use Rattle.cc_mismatch.specs.Descents.{LeadsTo, IsMatched}
use Rattle.cc_mismatch.proofs.LeadingParts.{takes_leads, gives_leads}
use Rattle.cc_mismatch.proofs.descent.into_functions.Goals as goal

pub returns-then-branch : goal.returns-then-branch
returns-then-branch c =
    let g = context_of c.args.ctx.now in
    let t = type_of c.args.takes.now in
    let u = type_of c.args.gives.now in
    let t' = type_of c.args.others.now in
    let u' = type_of c.args.other_gives.now in
    let matched = subst (IsMatched (comparison most_steps g t'.shape t.shape)) c.if-branch.true c.in_ok-matches.ensures in
    IfOk-weaker c.given.result _ _
    (λ x is.
    subst (λ (p : Pair). LeadsTo (pair g (FunctionShape t.shape t.set u.shape u.set) (FunctionShape t'.shape t'.set u'.shape u'.set)) (Some p))
    (sym is) (gives_leads g t u t' u' c.requires.context c.requires.left c.requires.right matched))
    c.given.ensures

pub returns-else-branch : goal.returns-else-branch
returns-else-branch c =
    let g = context_of c.args.ctx.now in
    let t = type_of c.args.takes.now in
    let u = type_of c.args.gives.now in
    let t' = type_of c.args.others.now in
    let u' = type_of c.args.other_gives.now in
    let apart = subst (IsMatched (comparison most_steps g t'.shape t.shape)) c.if-branch.false c.in_ok-matches.ensures in
    IfOk-weaker c.parts_in.result _ _
    (λ x is.
    subst (λ (p : Pair). LeadsTo (pair g (FunctionShape t.shape t.set u.shape u.set) (FunctionShape t'.shape t'.set u'.shape u'.set)) (Some p))
    (sym is) (takes_leads g t u t' u' c.requires.context c.requires.left c.requires.right apart))
    c.parts_in.ensures
