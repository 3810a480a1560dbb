use Rattle.cc_core.specs.TermViews.{type_of, note_of, context_of}
use Rattle.cc_known.specs.Parts.{named_of}
use Rattle.cc_type.proofs.StandingTerms.{noted_well_formed}
use Rattle.cc_infer.proofs.infer.name.Goals as goal

pub returns-clause-formed : goal.returns-clause-formed
returns-clause-formed c =
    noted_well_formed c.args.root c.args.at (context_of c.args.ctx.now) (note_of c.args.note.now)
    (type_of c.args.ty.now) _ _ (named_of c.in_ok-named.named)
    c.requires.ty c.requires.note c.in_ok-named.ensures.is
