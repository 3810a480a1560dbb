use Rattle.std.proofs.Common.{◌∙◌, sym, ap, subst}
use Rattle.cc_core.specs.Stores.{authority}
use Rattle.cc_entry_laws.specs.PresentEntries.{CheckedEntry}
use Rattle.cc_module.specs.Judgements.{checked_definition_of}
use Rattle.cc_session.specs.EntryParts.{IsCurrentEntry}
use Rattle.cc_session.proofs.EntriesByParts.{parts_are_current, parts_are_entry}
use Rattle.cc_session.proofs.present_entries.make_entry.Goals as goal

pub new-requires : goal.new-requires
new-requires c =
    parts_are_entry c.args.devices.now c.args.texts.now c.args.verdicts.now c.requires.differ c.requires.present
    c.requires.current c.args.module.now c.args.def.now (checked_definition_of c.args.started.now) c.requires.starts
    c.in_ok-modules.modules.items c.in_ok-modules.ensures c.in_ok-shapes.shapes.items c.in_ok-shapes.ensures
    c.in_ok-module.module c.in_ok-def.def c.in_ok-module.ensures.cases c.in_ok-def.ensures.cases
    c.in_ok-authority.authority.items
    (c.in_ok-authority.ensures
    ∙ ap (λ n. authority n c.args.started.now.checked.sig.set) c.in_ok-count.ensures)

pub returns : goal.returns
returns c =
    let P : CheckedEntry → Type 0 = λ e. IsCurrentEntry c.args.devices.now c.args.texts.now c.args.module.now c.args.def.now
    (checked_definition_of c.args.started.now) e in
    subst P (sym c.new.ensures)
    (parts_are_current c.args.devices.now c.args.texts.now c.args.verdicts.now c.requires.differ c.requires.present
    c.requires.current c.args.module.now c.args.def.now (checked_definition_of c.args.started.now) c.requires.starts
    c.in_ok-modules.modules.items c.in_ok-modules.ensures c.in_ok-shapes.shapes.items c.in_ok-shapes.ensures
    c.in_ok-module.module c.in_ok-def.def c.in_ok-module.ensures.cases c.in_ok-def.ensures.cases
    c.in_ok-authority.authority.items
    (c.in_ok-authority.ensures
    ∙ ap (λ n. authority n c.args.started.now.checked.sig.set) c.in_ok-count.ensures))
