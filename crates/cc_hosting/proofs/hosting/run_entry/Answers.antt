use Rattle.std.proofs.Common.{Some, sym, ap, ◌∙◌}
use Rattle.cc_base.specs.declared.code.Code.TheVariants.{E37}
use Rattle.cc_hosting.specs.HostedRuns.{refused_course, refusal_text, beyond_text, hosted}
use Rattle.cc_hosting.proofs.HostedCourses.{hosted_denied, hosted_beyond, hosted_runs, runs_as, refused_told}
use Rattle.cc_hosting.proofs.hosting.run_entry.Goals as goal
use Rattle.cc_replies.specs.PolicyReplies.{are_allowed}
use Rattle.cc_session.specs.Entries.{entry_of}

pub returns-then-not-are_allowed-clause-runs : goal.returns-then-not-are_allowed-clause-runs
returns-then-not-are_allowed-clause-runs g c =
    let names = c.args.names.now.names.items in
    let entry = entry_of c.args.linked.now.entry in
    let text = refusal_text c.args.module.now c.args.def.now E37 in
    runs_as (hosted names c.args.policy.now c.args.session.now.present c.args.module.now c.args.def.now c.args.fuel entry) (refused_course text) _ _ _ _ _ _ _ _ c.refuse.result
    (hosted_denied names c.args.policy.now c.args.session.now.present c.args.module.now c.args.def.now c.args.fuel entry
    (sym (c.are_allowed.ensures ∙ ap (λ it. are_allowed names c.args.policy.now c.args.linked.now.entry.«module» it) c.deref.ensures.value) ∙ c.if-not-are_allowed.true))
    (refused_told text _ _ _ _ _ c.refuse.result (c.refuse.ensures.refuses text c.refusal.ensures))

pub returns-then-not-are_allowed-clause-reads : goal.returns-then-not-are_allowed-clause-reads
returns-then-not-are_allowed-clause-reads g c = c.refuse.ensures.reads (g.S.Source.faults c.args.source.now)

pub returns-in-Some-clause-runs : goal.returns-in-Some-clause-runs
returns-in-Some-clause-runs g c =
    let names = c.args.names.now.names.items in
    let entry = entry_of c.args.linked.now.entry in
    let text = beyond_text names c.args.module.now c.args.def.now (c.index.result.now.name, c.in-Some.device) in
    runs_as (hosted names c.args.policy.now c.args.session.now.present c.args.module.now c.args.def.now c.args.fuel entry) (refused_course text) _ _ _ _ _ _ _ _ c.refuse-in-Some.result
    (hosted_beyond names c.args.policy.now c.args.session.now.present c.args.module.now c.args.def.now c.args.fuel entry (c.index.result.now.name, c.in-Some.device)
    (sym (c.are_allowed.ensures ∙ ap (λ it. are_allowed names c.args.policy.now c.args.linked.now.entry.«module» it) c.deref.ensures.value) ∙ c.if-not-are_allowed.false)
    (c.in-Some.ensures.1 c.index.result.now ∙ ap (λ current. Some (current.name, c.in-Some.device)) (sym c.index.ensures)))
    (refused_told text _ _ _ _ _ c.refuse-in-Some.result (c.refuse-in-Some.ensures.refuses text c.beyond_refusal.ensures))

pub returns-in-Some-clause-reads : goal.returns-in-Some-clause-reads
returns-in-Some-clause-reads g c = c.refuse-in-Some.ensures.reads (g.S.Source.faults c.args.source.now)
