use Rattle.std.proofs.Common.{◌∙◌, ap, sym}
use Rattle.std.proofs.lemmas.Result.{IfOk-weaker}
use Rattle.cc_entry_laws.specs.PresentEntries.{definitions_of}
use Rattle.cc_session.proofs.present_entries.definitions_in.Goals as goal

pub returns-in-Ok : goal.returns-in-Ok
returns-in-Ok c =
    IfOk-weaker c.copy_defs.result _ _ (λ defs same. same ∙ sym (ap definitions_of c.in-Ok.ensures.ok))
    c.copy_defs.ensures
