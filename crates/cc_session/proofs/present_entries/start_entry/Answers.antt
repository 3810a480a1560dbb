use Rattle.std.proofs.Common.{◌≡◌, ◌∙◌, true, sym, ap}
use Rattle.cc_core.specs.TermViews.{shape_of}
use Rattle.cc_entry_laws.specs.PresentEntries.{takes_unit}
use Rattle.cc_module.specs.Judgements.{checked_definition_of}
use Rattle.cc_session.proofs.EntriesByParts.{unit_starts}
use Rattle.cc_session.proofs.present_entries.start_entry.Goals as goal

pub returns-in-Ok : goal.returns-in-Ok
returns-in-Ok c =
    λ all are.
    let takes : takes_unit (shape_of c.args.found.now.checked.sig.shape.value) ≡ true =
    ap (λ s. takes_unit (shape_of s)) (sym c.deref.ensures) ∙ sym c.takes_unit.ensures ∙ c.if-not-takes_unit.false in (
      checked_definition_of c.args.found.now,
      c.requires.found all are ∙ unit_starts (checked_definition_of c.args.found.now) takes,
      c.in-Ok.ensures all are,
    )

pub returns-in-Err : goal.returns-in-Err
returns-in-Err c =
    λ all are.
    let takes : takes_unit (shape_of c.args.found.now.checked.sig.shape.value) ≡ true =
    ap (λ s. takes_unit (shape_of s)) (sym c.deref.ensures) ∙ sym c.takes_unit.ensures ∙ c.if-not-takes_unit.false in (
      checked_definition_of c.args.found.now,
      c.requires.found all are ∙ unit_starts (checked_definition_of c.args.found.now) takes,
    )
