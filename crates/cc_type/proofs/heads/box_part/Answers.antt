use Rattle.std.proofs.Common.{sym, ap, ◌∙◌, subst}
use Rattle.cc_core.specs.declared.types.Ty.{Ty}
use Rattle.cc_core.specs.TermViews.{shape_of, context_of}
use Rattle.cc_core.specs.WellFormed.{IsWellFormedSet}
use Rattle.cc_known.proofs.FormedParts.{exposed_to, box_content}
use Rattle.cc_type.proofs.heads.box_part.Goals as goal

pub returns-clause-formed : goal.returns-clause-formed
returns-clause-formed c =
    let g = context_of c.args.ctx.now in
    let reached = exposed_to g _ (shape_of c.deref.result.now) c.requires c.in_ok-shape.ensures.formed
    (ap shape_of c.deref.ensures ∙ c.expose.ensures) in
    subst (λ (x : Ty). IsWellFormedSet g x.set) (sym c.in_ok-content-2.ensures.cases)
    (box_content g c.args.at _ _ reached c.in_ok-content.ensures)
