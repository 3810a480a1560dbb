use Rattle.std.proofs.Common.{sym, ap, subst}
use Rattle.std.proofs.lemmas.Result.{IfOk-weaker}
use Rattle.cc_core.specs.Shapes.{CapturingType}
use Rattle.cc_core.specs.Terms.{Note}
use Rattle.cc_core.specs.TermViews.{note_of, context_of}
use Rattle.cc_checking.specs.CanonicalDerivations as plain
use Rattle.cc_derive.specs.Typings.{IsTyping, choice_over}
use Rattle.cc_derive.proofs.ends.choice.Goals as goal

pub returns-in_ok-read-in-Written : goal.returns-in_ok-read-in-Written
returns-in_ok-read-in-Written c =
    let g = context_of c.args.ctx.now in
    IfOk-weaker c.choose.result _ _
    (λ x h. λ m le d e p q.
    let derive = plain.shape_derived m in
    subst (λ (n : Note). IsTyping c.args.build x (plain.choice_derived derive g n c.args.test d e)) (sym (ap note_of c.in-Written.is))
    (subst (λ (t : CapturingType). IsTyping c.args.build x (choice_over derive g c.args.test t d e)) c.in_ok-read-in-Written.ensures (h m le d e p q)))
    c.choose.ensures
