use Rattle.std.proofs.Common.{sym, subst}
use Rattle.cc_verdicts.specs.PresentTexts.{Texts, ArePresent}
use Rattle.cc_session.proofs.SessionFacts.{with_texts}
use Rattle.cc_session.proofs.TextChanges.{inserted_sorted}
use Rattle.cc_session.proofs.session.Session.put.Goals as goal

pub invariant_of-self : goal.invariant_of-self
invariant_of-self c =
    let old = c.self.inside in
    let P : Texts → Type 0 = λ ts. ArePresent ts in
    with_texts old.devices.items old.present.items old.checked old.last c.put_text.new.texts.items c.self.invariant
    (subst P (sym c.in-Ok.ensures.ok)
    (inserted_sorted old.present.items c.args.name c.args.text.items c.self.invariant.present))
    c.in-Ok.ensures.few
