use Rattle.std.proofs.Common.{sym, subst, ap, length, arith}
use Rattle.cc_verdicts.specs.PresentTexts.{Texts, ArePresent}
use Rattle.cc_session.proofs.SessionFacts.{with_texts}
use Rattle.cc_session.proofs.TextChanges.{removed_sorted, removed_fewer}
use Rattle.cc_session.proofs.session.Session.remove.Goals as goal

pub invariant_of-self : goal.invariant_of-self
invariant_of-self c =
    let old = c.self.inside in
    let name = c.args.name.now in
    let P : Texts → Type 0 = λ ts. ArePresent ts in
    with_texts old.devices.items old.present.items old.checked old.last c.remove_text.new.texts.items c.self.invariant
    (subst P (sym c.in-Ok.ensures.ok) (removed_sorted old.present.items name c.self.invariant.present))
    (omega (arith, ap length c.in-Ok.ensures.ok, removed_fewer old.present.items name, c.self.invariant.few))
