use Rattle.std.proofs.Common.{◌≡◌, List, ℕ, true, sym, ap, ◌∙◌, subst}
use Rattle.std.specs.List.{AllByRecursion}
use Rattle.std.specs.Option.{is_some}
use Rattle.cc_verdicts.specs.PresentTexts.{text_of}
use Rattle.cc_entry_laws.proofs.OrderedTexts.{order_present}
use Rattle.cc_session.proofs.present_entries.entry_modules.Goals as goal

pub reached_modules-requires-clause-named : goal.reached_modules-requires-clause-named
reached_modules-requires-clause-named c =
    let N : List (List ℕ) → Type 0 = λ ns. AllByRecursion (λ x. is_some (text_of c.args.texts.now x) ≡ true) ns in
    subst N (sym c.as_slice-3.ensures.value)
    (order_present c.args.texts.now c.deref.result.now.graph c.in_ok-names.names.items
    (ap (λ known. known.graph) c.deref.ensures ∙ c.in_ok-known.ensures) c.in_ok-names.ensures)
