use Rattle.std.proofs.Common.{List, refl, sym, ap, ◌∙◌}
use Rattle.cc_base.specs.declared.device.DeviceDecl.{DeviceDecl}
use Rattle.cc_verdicts.specs.PresentTexts.{Texts}
use Rattle.cc_session.specs.Sessions.{SessionState}
use Rattle.cc_answers.proofs.CommandFacts.{drop_changes}
use Rattle.cc_answers.proofs.SessionReplies.{remove_absent}
use Rattle.cc_answers.proofs.StayingTexts.{not_refused_changes, refused_stay}
use Rattle.cc_answers.proofs.commands.drop_module.Goals as goal

pub returns-in-Err-clause-changes : goal.returns-in-Err-clause-changes
returns-in-Err-clause-changes g c =
    let old = c.args.session.now in
    let devices : SessionState → List DeviceDecl = λ s. s.devices in
    let present : SessionState → Texts = λ s. s.present in
    drop_changes old c.remove.new.self (ap devices c.in-Err.ensures.err) c.args.name.now
    (ap present c.in-Err.ensures.err ∙ sym (remove_absent old.present c.args.name.now (c.in-Err.ensures.absent.0 refl)))
    c.write_reply-in-Err.result

pub returns-in-Ok-clause-stay : goal.returns-in-Ok-clause-stay
returns-in-Ok-clause-stay g c =
    not_refused_changes c.write_reply.result c.args.session.now.present c.remove.new.self.present c.write_reply.ensures.refused

pub returns-in-Err-clause-stay : goal.returns-in-Err-clause-stay
returns-in-Err-clause-stay g c =
    refused_stay c.write_reply-in-Err.result c.args.session.now.present c.remove.new.self.present
    (ap (λ (s : SessionState). s.present) c.in-Err.ensures.err)
