use Rattle.std.proofs.Common.{Some, sym, subst}
use Rattle.std.proofs.lemmas.Result.{IfOk-weaker}
use Rattle.cc_core.specs.Shapes.{BoxShape}
use Rattle.cc_core.specs.TermViews.{type_of, context_of}
use Rattle.cc_reasons.specs.Mismatches.{Pair, pair}
use Rattle.cc_mismatch.specs.Descents.{LeadsTo}
use Rattle.cc_mismatch.proofs.LeadingParts.{contents_lead}
use Rattle.cc_mismatch.proofs.descent.into_contents.Goals as goal

pub returns : goal.returns
returns c =
    let g = context_of c.args.ctx.now in
    let t = type_of c.args.content.now in
    let t' = type_of c.args.other.now in
    IfOk-weaker c.parts_in.result _ _
    (λ x is.
    subst (λ (p : Pair). LeadsTo (pair g (BoxShape t.shape t.set) (BoxShape t'.shape t'.set)) (Some p)) (sym is)
    (contents_lead g t t' c.requires.context c.requires.left c.requires.right))
    c.parts_in.ensures
