use Rattle.std.proofs.Common.{sym, ap, ◌∙◌}
use Rattle.cc_capture.proofs.Equality.{same_set-decides}
use Rattle.cc_core.specs.Contexts.{TermEntry}
use Rattle.cc_core.specs.Shapes.{AnyShape}
use Rattle.cc_core.specs.TermViews.{bind_of}
use Rattle.cc_known.specs.ComparedAgain.{seen}
use Rattle.cc_known.proofs.marked.declares.Goals as goal

pub returns-in-Var : goal.returns-in-Var
returns-in-Var c = λ holds.
    ap (λ b. seen (bind_of b)) c.in-Var.is
    ∙ ap (TermEntry AnyShape) ((same_set-decides c.in-Var.ty.set c.args.set.now).0 (sym c.eq.ensures ∙ holds))

pub returns-in-Unread : goal.returns-in-Unread
returns-in-Unread c = λ holds.
    ap (λ b. seen (bind_of b)) c.in-Unread.is
    ∙ ap (TermEntry AnyShape) ((same_set-decides c.in-Unread.declared c.args.set.now).0 (sym c.eq-in-Unread.ensures ∙ holds))
