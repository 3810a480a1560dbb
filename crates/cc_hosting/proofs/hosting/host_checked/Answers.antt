use Rattle.std.proofs.Common.{Ok, Err, sym, subst}
use Rattle.cc_answers.specs.declared.linked.LinkedEntry.{LinkedEntry}
use Rattle.cc_hosting.proofs.HostedAnswers.{nothing_hosted, entry_hosted, refusal_hosted}
use Rattle.cc_hosting.proofs.HostedCourses.{refused_told}
use Rattle.cc_hosting.proofs.hosting.host_checked.Goals as goal
use Rattle.cc_hosting.specs.HostedRuns.{refusal_text}
use Rattle.cc_session.specs.EntryAnswers.{IsAnswered}
use Rattle.cc_session.specs.Entries.{entry_of}
use Rattle.cc_verdicts.proofs.PresentLaws.{present_verdicts_exist}

pub returns-in-Ok-clause-runs : goal.returns-in-Ok-clause-runs
returns-in-Ok-clause-runs g c =
    let session = c.args.session.now in
    let some = present_verdicts_exist session.devices session.present c.requires.differ c.requires.present in
    let answered = subst (λ (l : LinkedEntry). IsAnswered session.devices session.present some.0 c.args.module.now c.args.def.now (Ok l.entry)) (sym c.deref.ensures)
    (c.in-Ok.ensures.answer.answers some.0 some.1) in
    entry_hosted session.devices c.args.policy.now session.present c.args.module.now c.args.def.now c.args.fuel some.0 some.1 _ _ _ _ _ _ _ _ c.run_entry.result
    c.args.names.now.names.items answered.0 (entry_of c.deref.result.now.entry) c.requires.names.0 answered.1 answered.2 c.run_entry.ensures.runs

pub returns-in-Err-Refused-clause-runs : goal.returns-in-Err-Refused-clause-runs
returns-in-Err-Refused-clause-runs g c =
    let session = c.args.session.now in
    let some = present_verdicts_exist session.devices session.present c.requires.differ c.requires.present in
    let text = refusal_text c.args.module.now c.args.def.now c.in-Err-Refused.refused.code in
    refusal_hosted session.devices c.args.policy.now session.present c.args.module.now c.args.def.now c.args.fuel some.0 some.1 _ _ _ _ _ _ _ _ c.refuse.result
    c.in-Err-Refused.refused.code
    (subst (λ e. IsAnswered session.devices session.present some.0 c.args.module.now c.args.def.now (Err e)) c.in-Err-Refused.field-0-is
    (c.in-Err-Refused.ensures.answer some.0 some.1))
    (refused_told text _ _ _ _ _ c.refuse.result (c.refuse.ensures.refuses text c.refusal.ensures))

pub returns-in-Err-Refused-clause-reads : goal.returns-in-Err-Refused-clause-reads
returns-in-Err-Refused-clause-reads g c = c.refuse.ensures.reads (g.S.Source.faults c.args.source.now)

pub returns-in-Err-NoMemory-clause-runs : goal.returns-in-Err-NoMemory-clause-runs
returns-in-Err-NoMemory-clause-runs g c =
    nothing_hosted c.args.session.now.devices c.args.policy.now c.args.session.now.present c.args.module.now c.args.def.now c.args.fuel
    c.requires.differ c.requires.present c.args.reader.now (g.S.Source.left c.args.source.now) c.args.lines.now (g.K.Sink.written c.args.sink.now)
