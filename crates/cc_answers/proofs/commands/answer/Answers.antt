use Rattle.std.proofs.Common.{sym, subst}
use Rattle.cc_replies.specs.Requests.{holding_under}
use Rattle.cc_answers.specs.Carried.{IsReplied, Changes, Judges}
use Rattle.cc_answers.specs.KeptEntries.{IsKeptFor}
use Rattle.cc_answers.specs.Requests.{request_of}
use Rattle.cc_answers.proofs.CommandFacts.{put_replied, put_judges, drop_replied, drop_judges, policy_changes, policy_judges, certificate_changes, certificate_judges}
use Rattle.cc_answers.proofs.commands.answer.Goals as goal

pub returns-in-Put-clause-judges : goal.returns-in-Put-clause-judges
returns-in-Put-clause-judges g c =
    subst (λ command. Judges c.args.session.now c.put_module-written.new.session (request_of command) c.args.steps.now c.args.steps.now c.put_module-written.result)
    (sym c.in-Put.is) (put_judges c.args.session.now c.put_module-written.new.session _ _ c.args.steps.now c.put_module-written.result c.put_module-written.ensures.last)

pub returns-in-Drop-clause-judges : goal.returns-in-Drop-clause-judges
returns-in-Drop-clause-judges g c =
    subst (λ command. Judges c.args.session.now c.drop_module-written.new.session (request_of command) c.args.steps.now c.args.steps.now c.drop_module-written.result)
    (sym c.in-Drop.is) (drop_judges c.args.session.now c.drop_module-written.new.session _ c.args.steps.now c.drop_module-written.result c.drop_module-written.ensures.last)

pub returns-in-Put-clause-replied : goal.returns-in-Put-clause-replied
returns-in-Put-clause-replied g c =
    let old = c.args.session.now in
    subst (λ command. IsReplied old.devices (holding_under c.args.policy.now old.present) (request_of command) (g.K.Sink.written c.args.sink.now)
    (g.K.Sink.written c.put_module-written.new.sink) c.put_module-written.result) (sym c.in-Put.is)
    (put_replied old.devices old.present c.args.policy.now _ _ (g.K.Sink.written c.args.sink.now) (g.K.Sink.written c.put_module-written.new.sink)
    c.put_module-written.result c.put_module-written.ensures.replied)

pub returns-in-Drop-clause-replied : goal.returns-in-Drop-clause-replied
returns-in-Drop-clause-replied g c =
    let old = c.args.session.now in
    subst (λ command. IsReplied old.devices (holding_under c.args.policy.now old.present) (request_of command) (g.K.Sink.written c.args.sink.now)
    (g.K.Sink.written c.drop_module-written.new.sink) c.drop_module-written.result) (sym c.in-Drop.is)
    (drop_replied old.devices old.present c.args.policy.now _ (g.K.Sink.written c.args.sink.now) (g.K.Sink.written c.drop_module-written.new.sink)
    c.drop_module-written.result c.drop_module-written.ensures.replied)

pub returns-in-Policy-clause-replied : goal.returns-in-Policy-clause-replied
returns-in-Policy-clause-replied g c =
    let old = c.args.session.now in
    let state = holding_under c.args.policy.now old.present in
    subst (λ command. IsReplied old.devices state (request_of command) (g.K.Sink.written c.args.sink.now)
    (g.K.Sink.written c.tell_policy.new.sink) c.tell_policy.result) (sym c.in-Policy.is) (c.tell_policy.ensures.replied old.devices state)

pub returns-in-Policy-clause-changes : goal.returns-in-Policy-clause-changes
returns-in-Policy-clause-changes g c =
    let old = c.args.session.now in
    subst (λ command. Changes old old (request_of command) c.tell_policy.result) (sym c.in-Policy.is)
    (policy_changes old _ c.tell_policy.result)

pub returns-in-Policy-clause-judges : goal.returns-in-Policy-clause-judges
returns-in-Policy-clause-judges g c =
    let old = c.args.session.now in
    subst (λ command. Judges old old (request_of command) c.args.steps.now c.args.steps.now c.tell_policy.result) (sym c.in-Policy.is)
    (policy_judges old _ c.args.steps.now c.tell_policy.result)

pub returns-in-Verify-clause-replied : goal.returns-in-Verify-clause-replied
returns-in-Verify-clause-replied g c =
    let old = c.args.session.now in
    let state = holding_under c.args.policy.now old.present in
    subst (λ command. IsReplied old.devices state (request_of command) (g.K.Sink.written c.args.sink.now)
    (g.K.Sink.written c.tell_certificate.new.sink) c.tell_certificate.result) (sym c.in-Verify.is)
    (c.tell_certificate.ensures.replied old.devices state)

pub returns-in-Verify-clause-changes : goal.returns-in-Verify-clause-changes
returns-in-Verify-clause-changes g c =
    let old = c.args.session.now in
    subst (λ command. Changes old old (request_of command) c.tell_certificate.result) (sym c.in-Verify.is)
    (certificate_changes old _ c.tell_certificate.result)

pub returns-in-Verify-clause-judges : goal.returns-in-Verify-clause-judges
returns-in-Verify-clause-judges g c =
    let old = c.args.session.now in
    subst (λ command. Judges old old (request_of command) c.args.steps.now c.args.steps.now c.tell_certificate.result) (sym c.in-Verify.is)
    (certificate_judges old _ c.args.steps.now c.tell_certificate.result)

pub returns-in-Put-clause-kept : goal.returns-in-Put-clause-kept
returns-in-Put-clause-kept g c =
    let old = c.args.session.now in
    let new = c.put_module-written.new.session in
    subst (λ devices. IsKeptFor devices new.present c.give_up_where_changed.new.kept) (sym c.put_module-written.ensures.changes.devices)
    (c.give_up_where_changed.ensures old.devices old.present new.present c.requires.kept c.put_module-written.ensures.stay)

pub returns-in-Drop-clause-kept : goal.returns-in-Drop-clause-kept
returns-in-Drop-clause-kept g c =
    let old = c.args.session.now in
    let new = c.drop_module-written.new.session in
    subst (λ devices. IsKeptFor devices new.present c.give_up_where_changed-in-Drop.new.kept) (sym c.drop_module-written.ensures.changes.devices)
    (c.give_up_where_changed-in-Drop.ensures old.devices old.present new.present c.requires.kept c.drop_module-written.ensures.stay)
