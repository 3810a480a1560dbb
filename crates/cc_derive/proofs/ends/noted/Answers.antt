use Rattle.std.proofs.Common.{sym, ap, subst}
use Rattle.std.proofs.lemmas.Result.{IfOk-weaker}
use Rattle.cc_core.specs.TermViews.{type_of, note_of, context_of}
use Rattle.cc_core.specs.Terms.{Note}
use Rattle.cc_checking.specs.Inference.{type_in}
use Rattle.cc_checking.specs.CanonicalDerivations as plain
use Rattle.cc_derive.specs.Typings.{IsTyping}
use Rattle.cc_derive.proofs.MadeEnds.{raised_as}
use Rattle.cc_derive.proofs.ends.noted.Goals as goal

pub returns-in_ok-read-in-Written : goal.returns-in_ok-read-in-Written
returns-in_ok-read-in-Written c =
    IfOk-weaker c.raise.result _ _
    (λ x h. λ m le d p.
    let derive = plain.shape_derived m in
    let g = context_of c.args.ctx.now in
    subst (λ (n : Note). IsTyping c.args.build x (plain.noted_derived derive g n d)) (sym (ap note_of c.in-Written.is))
    (raised_as c.args.build derive x g d (type_of c.in_ok-read-in-Written.read) (type_in g (type_of c.in-Written.ty.value)) c.in_ok-read-in-Written.ensures (h m le d p)))
    c.raise.ensures
