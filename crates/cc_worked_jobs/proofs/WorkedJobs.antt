-- Whole jobs, by computation.
use Rattle.std.proofs.Common.{ℕ, true, false, List, [], ◌∷◌, ◌++◌, Some, codes, refl, subst}
use Rattle.std.specs.Fmt.{digits}
use Rattle.std.specs.List.{flat_map}
use lib.Utf8.{encode}
use Rattle.cc_base.specs.declared.device.DeviceDecl.{DeviceDecl}
use Rattle.cc_base.specs.declared.device.Kind.TheVariants.{Console}
use Rattle.cc_base.specs.declared.code.Code.TheVariants.{E32, E34}
use Rattle.cc_graph.specs.Graph.{ImportMap}
use Rattle.cc_job.proofs.ReadJobs.{job_found}
use Rattle.cc_job.specs.JobExamples.{rule}
use Rattle.cc_job.specs.Jobs.{text}
use Rattle.cc_policy.specs.declared.policy.Rule.{Rule}
use Rattle.cc_replies.specs.Outputs.{IsOutput}
use Rattle.cc_replies.specs.Replies.{after}
use Rattle.cc_replies.specs.ReplyTexts.{PutDone, DropRefused, PolicySet, line}
use Rattle.cc_replies.specs.Requests.{CheckModules, ShowSignature, ShowDerivation, RunDefinition, RunTasks, AuditDefinition, GuardDefinition, ExplainDefinition, ReplayDefinition}
use Rattle.cc_replies.specs.Requests.{Request, PutText, DropModule, SetPolicy, VerifyText, Ask, JobState, holding, holding_under, no_module}
use Rattle.cc_verdicts.specs.ModuleVerdicts.{ModuleVerdict}
use Rattle.cc_verdicts.specs.PresentTexts.{Texts}
use Rattle.cc_worked_replies.proofs.ComputedAnswers.{check_replies, signature_replies, derivation_replies, derivation_computing}
use Rattle.cc_worked_replies.proofs.ComputedChains.{explain_refused}
use Rattle.cc_worked_replies.proofs.ComputedReplies.{AreJudged, are_judged, run_replies, audit_replies, guard_replies, replay_replies, tasks_reply, reply_computing}
use Rattle.cc_worked_replies.proofs.WorkedRuns.{verdicts_of}
use Rattle.cc_worked_replies.specs.CertificateExamples.{ValidCertificate, NoLine}
use Rattle.cc_worked_jobs.proofs.CarriedOut.{writes_from_policy}
use Rattle.cc_worked_jobs.proofs.JobOutputs.{AnswersWith, then_writes, lines-text}
use Rattle.cc_worked_jobs.proofs.WorkedLines.{job_reading}
use Rattle.cc_worked_jobs.specs.WholeJobs as example

pub each_command_is_carried_out : ValidCertificate → example.EachCommandIsCarriedOut
unfolding job_reading
each_command_is_carried_out valid = record {
  is_job = job_found 40 _ _ refl;
  asks = refl;
  writes = writes_from_policy valid;
}

pub no_command_writes_nothing : example.NoCommandWritesNothing
unfolding job_reading
no_command_writes_nothing = record { is_job = job_found 9 _ _ refl; asks = refl; writes = (refl, refl) }

-- REFUSALS

abbrev broken : Texts
broken = (example.m, example.no_text) ∷ []

abbrev with_broken : JobState
with_broken = holding broken

abbrev verdicts : List ℕ → ModuleVerdict
verdicts = verdicts_of [] broken

judged : AreJudged [] broken verdicts [] []
unfolding reply_computing
judged = are_judged [] 12 broken verdicts [] [] tt (tt, tt) refl (refl, tt) (record { steps = refl; whole = refl })

-- what is written for the put, and for a command behind it that is refused
behind_put : (request : Request) (written : List (List ℕ)) → AnswersWith [] with_broken request written true
    → IsOutput [] no_module (PutText example.m example.no_text ∷ request ∷ []) (codes "put m" ++ 10 ∷ text written) true
unfolding encode digits
behind_put request written answer =
    subst (λ t. IsOutput [] no_module (PutText example.m example.no_text ∷ request ∷ []) (codes "put m" ++ 10 ∷ t) true) (lines-text written)
    (then_writes [] no_module with_broken (PutText example.m example.no_text) (request ∷ []) (codes "put m" ∷ [])
    (flat_map line written ++ []) false true (PutDone example.m, refl, refl, refl)
    refl
    (then_writes [] with_broken (after with_broken request) request [] written [] true false answer refl (refl, refl)))

refused_drop : AnswersWith [] with_broken (DropModule (codes "n")) (codes "drop n refused E32" ∷ []) true
unfolding reply_computing
refused_drop = (DropRefused (codes "n") E32, refl, refl, refl)

refused_check : AnswersWith [] with_broken (Ask CheckModules) (codes "check" ∷ codes "  m E03 1:14" ∷ []) true
unfolding reply_computing
refused_check = check_replies [] broken verdicts [] [] judged (codes "check" ∷ codes "  m E03 1:14" ∷ []) true refl refl

refused_sig : AnswersWith [] with_broken (Ask (ShowSignature example.m)) (codes "sig m refused E34" ∷ []) true
unfolding reply_computing
refused_sig = signature_replies [] broken verdicts [] [] judged example.m (codes "sig m refused E34" ∷ []) true refl refl

refused_derive : AnswersWith [] with_broken (Ask (ShowDerivation example.m example.main)) (codes "derive m.main refused E34" ∷ []) true
unfolding derivation_computing
refused_derive = derivation_replies [] broken verdicts [] [] judged example.m example.main (codes "derive m.main refused E34" ∷ []) true refl refl

refused_run : AnswersWith [] with_broken (Ask (RunDefinition example.m example.main 5)) (codes "run m.main refused E34" ∷ []) true
unfolding reply_computing
refused_run = run_replies [] broken verdicts [] [] judged example.m example.main 5 (codes "run m.main refused E34" ∷ []) true refl refl

refused_tasks : AnswersWith [] with_broken (Ask (RunTasks 5 (0 ∷ []) ((example.m, example.main) ∷ []))) (codes "tasks refused E34 m.main" ∷ []) true
unfolding reply_computing
refused_tasks = tasks_reply [] broken verdicts [] [] judged 5 (0 ∷ []) ((example.m, example.main) ∷ []) (codes "tasks refused E34 m.main" ∷ []) true refl refl

refused_audit : AnswersWith [] with_broken (Ask (AuditDefinition example.m example.main)) (codes "audit m.main refused E34" ∷ []) true
unfolding reply_computing
refused_audit = audit_replies [] broken verdicts [] [] judged [] example.m example.main (codes "audit m.main refused E34" ∷ []) true refl refl

refused_guard : AnswersWith [] with_broken (Ask (GuardDefinition example.m example.main 5)) (codes "guard m.main refused E34" ∷ []) true
unfolding reply_computing
refused_guard = guard_replies [] broken verdicts [] [] judged [] example.m example.main 5 (codes "guard m.main refused E34" ∷ []) true refl refl

refused_explain : AnswersWith [] with_broken (Ask (ExplainDefinition example.m example.main)) (codes "explain m.main refused E34" ∷ []) true
unfolding reply_computing
refused_explain = explain_refused [] broken verdicts [] [] judged example.m example.main E34 (codes "explain m.main refused E34" ∷ []) refl refl

refused_replay : AnswersWith [] with_broken (Ask (ReplayDefinition example.m example.main 5 [])) (codes "replay m.main refused E34" ∷ []) true
unfolding reply_computing
refused_replay = replay_replies [] broken verdicts [] [] judged example.m example.main 5 [] (codes "replay m.main refused E34" ∷ []) true refl refl

pub each_command_is_refused : NoLine → example.EachCommandIsRefused
unfolding job_reading
each_command_is_refused none = record {
  drop = record { is_job = job_found 9 _ _ refl; asks = refl; writes = behind_put (DropModule (codes "n")) (codes "drop n refused E32" ∷ []) refused_drop };
  check = record { is_job = job_found 9 _ _ refl; asks = refl; writes = behind_put (Ask CheckModules) (codes "check" ∷ codes "  m E03 1:14" ∷ []) refused_check };
  sig = record { is_job = job_found 9 _ _ refl; asks = refl; writes = behind_put (Ask (ShowSignature example.m)) (codes "sig m refused E34" ∷ []) refused_sig };
  derive = record { is_job = job_found 9 _ _ refl; asks = refl; writes = behind_put (Ask (ShowDerivation example.m example.main)) (codes "derive m.main refused E34" ∷ []) refused_derive };
  run = record { is_job = job_found 9 _ _ refl; asks = refl; writes = behind_put (Ask (RunDefinition example.m example.main 5)) (codes "run m.main refused E34" ∷ []) refused_run };
  tasks = record { is_job = job_found 9 _ _ refl; asks = refl; writes = behind_put (Ask (RunTasks 5 (0 ∷ []) ((example.m, example.main) ∷ []))) (codes "tasks refused E34 m.main" ∷ []) refused_tasks };
  audit = record { is_job = job_found 9 _ _ refl; asks = refl; writes = behind_put (Ask (AuditDefinition example.m example.main)) (codes "audit m.main refused E34" ∷ []) refused_audit };
  guard = record { is_job = job_found 9 _ _ refl; asks = refl; writes = behind_put (Ask (GuardDefinition example.m example.main 5)) (codes "guard m.main refused E34" ∷ []) refused_guard };
  explain = record { is_job = job_found 9 _ _ refl; asks = refl; writes = behind_put (Ask (ExplainDefinition example.m example.main)) (codes "explain m.main refused E34" ∷ []) refused_explain };
  replay = record { is_job = job_found 9 _ _ refl; asks = refl; writes = behind_put (Ask (ReplayDefinition example.m example.main 5 [])) (codes "replay m.main refused E34" ∷ []) refused_replay };
  verify = record { is_job = job_found 9 _ _ refl; asks = refl; writes = behind_put (VerifyText []) (codes "verify" ∷ codes "  bad line 1" ∷ []) (none [] with_broken) };
}

-- RULES

abbrev devices : List DeviceDecl
devices = record { name = codes "out"; kind = Console } ∷ []

abbrev printing : Texts
printing = (example.m, example.printing_text) ∷ []

abbrev graph : ImportMap
graph = (example.m, []) ∷ []

abbrev names : List (List ℕ)
names = example.m ∷ []

printing_judged : AreJudged devices printing (verdicts_of devices printing) graph names
unfolding reply_computing
printing_judged =
    are_judged devices 12 printing (verdicts_of devices printing) graph names (tt, tt) (tt, tt) refl (refl, tt)
    (record { steps = refl; whole = refl })

abbrev allowing : List Rule
allowing = rule true (Some example.m) (Some (codes "out")) ∷ []

abbrev denying : List Rule
denying = rule false (Some example.m) (Some (codes "out")) ∷ []

deny_answer_1 : AnswersWith devices no_module (PutText example.m example.printing_text) (codes "put m" ∷ []) false
unfolding encode digits
deny_answer_1 = (PutDone example.m, refl, refl, refl)

deny_answer_2 : AnswersWith devices (holding printing) (Ask (AuditDefinition example.m example.main)) (codes "audit m.main" ∷ codes "  out deny none" ∷ []) false
unfolding reply_computing
deny_answer_2 = audit_replies devices printing (verdicts_of devices printing) graph names printing_judged [] example.m example.main (codes "audit m.main" ∷ codes "  out deny none" ∷ []) false refl refl

deny_answer_3 : AnswersWith devices (holding printing) (Ask (RunDefinition example.m example.main 9)) (codes "run m.main" ∷ codes "  authority {out}" ∷ codes "  out print 1" ∷ codes "  done unit after 3 steps" ∷ []) false
unfolding reply_computing
deny_answer_3 = run_replies devices printing (verdicts_of devices printing) graph names printing_judged example.m example.main 9 (codes "run m.main" ∷ codes "  authority {out}" ∷ codes "  out print 1" ∷ codes "  done unit after 3 steps" ∷ []) false refl refl

deny_answer_4 : AnswersWith devices (holding printing) (Ask (GuardDefinition example.m example.main 9)) (codes "guard m.main refused E37" ∷ []) true
unfolding reply_computing
deny_answer_4 = guard_replies devices printing (verdicts_of devices printing) graph names printing_judged [] example.m example.main 9 (codes "guard m.main refused E37" ∷ []) true refl refl

deny_writes_4 : IsOutput devices (holding printing) ((Ask (GuardDefinition example.m example.main 9)) ∷ []) (text (codes "guard m.main refused E37" ∷ [])) true
unfolding encode digits
deny_writes_4 =
    then_writes devices (holding printing) (holding printing) (Ask (GuardDefinition example.m example.main 9)) ([]) (codes "guard m.main refused E37" ∷ []) ([]) true false deny_answer_4 refl (refl, refl)

deny_writes_3 : IsOutput devices (holding printing) ((Ask (RunDefinition example.m example.main 9)) ∷ (Ask (GuardDefinition example.m example.main 9)) ∷ []) (text (codes "run m.main" ∷ codes "  authority {out}" ∷ codes "  out print 1" ∷ codes "  done unit after 3 steps" ∷ codes "guard m.main refused E37" ∷ [])) true
unfolding encode digits
deny_writes_3 =
    then_writes devices (holding printing) (holding printing) (Ask (RunDefinition example.m example.main 9)) ((Ask (GuardDefinition example.m example.main 9)) ∷ []) (codes "run m.main" ∷ codes "  authority {out}" ∷ codes "  out print 1" ∷ codes "  done unit after 3 steps" ∷ []) (text (codes "guard m.main refused E37" ∷ [])) false true deny_answer_3 refl deny_writes_4

deny_writes_2 : IsOutput devices (holding printing) ((Ask (AuditDefinition example.m example.main)) ∷ (Ask (RunDefinition example.m example.main 9)) ∷ (Ask (GuardDefinition example.m example.main 9)) ∷ []) (text (codes "audit m.main" ∷ codes "  out deny none" ∷ codes "run m.main" ∷ codes "  authority {out}" ∷ codes "  out print 1" ∷ codes "  done unit after 3 steps" ∷ codes "guard m.main refused E37" ∷ [])) true
unfolding encode digits
deny_writes_2 =
    then_writes devices (holding printing) (holding printing) (Ask (AuditDefinition example.m example.main)) ((Ask (RunDefinition example.m example.main 9)) ∷ (Ask (GuardDefinition example.m example.main 9)) ∷ []) (codes "audit m.main" ∷ codes "  out deny none" ∷ []) (text (codes "run m.main" ∷ codes "  authority {out}" ∷ codes "  out print 1" ∷ codes "  done unit after 3 steps" ∷ codes "guard m.main refused E37" ∷ [])) false true deny_answer_2 refl deny_writes_3

deny_writes_1 : IsOutput devices no_module ((PutText example.m example.printing_text) ∷ (Ask (AuditDefinition example.m example.main)) ∷ (Ask (RunDefinition example.m example.main 9)) ∷ (Ask (GuardDefinition example.m example.main 9)) ∷ []) (text (codes "put m" ∷ codes "audit m.main" ∷ codes "  out deny none" ∷ codes "run m.main" ∷ codes "  authority {out}" ∷ codes "  out print 1" ∷ codes "  done unit after 3 steps" ∷ codes "guard m.main refused E37" ∷ [])) true
unfolding encode digits
deny_writes_1 =
    then_writes devices no_module (holding printing) (PutText example.m example.printing_text) ((Ask (AuditDefinition example.m example.main)) ∷ (Ask (RunDefinition example.m example.main 9)) ∷ (Ask (GuardDefinition example.m example.main 9)) ∷ []) (codes "put m" ∷ []) (text (codes "audit m.main" ∷ codes "  out deny none" ∷ codes "run m.main" ∷ codes "  authority {out}" ∷ codes "  out print 1" ∷ codes "  done unit after 3 steps" ∷ codes "guard m.main refused E37" ∷ [])) false true deny_answer_1 refl deny_writes_2

pub no_rules_deny : example.NoRulesDeny
unfolding job_reading
no_rules_deny = record { is_job = job_found 9 _ _ refl; asks = refl; writes = deny_writes_1 }

last_answer_1 : AnswersWith devices no_module (PutText example.m example.no_text) (codes "put m" ∷ []) false
unfolding encode digits
last_answer_1 = (PutDone example.m, refl, refl, refl)

last_answer_2 : AnswersWith devices with_broken (PutText example.m example.printing_text) (codes "put m" ∷ []) false
unfolding encode digits
last_answer_2 = (PutDone example.m, refl, refl, refl)

last_answer_3 : AnswersWith devices (holding printing) (SetPolicy allowing) (codes "policy 1" ∷ []) false
unfolding encode digits
last_answer_3 = (PolicySet 1, refl, refl, refl)

last_answer_4 : AnswersWith devices (holding_under allowing printing) (SetPolicy denying) (codes "policy 1" ∷ []) false
unfolding encode digits
last_answer_4 = (PolicySet 1, refl, refl, refl)

last_answer_5 : AnswersWith devices (holding_under denying printing) (Ask CheckModules) (codes "check" ∷ codes "  m ok" ∷ []) false
unfolding reply_computing
last_answer_5 = check_replies devices printing (verdicts_of devices printing) graph names printing_judged (codes "check" ∷ codes "  m ok" ∷ []) false refl refl

last_answer_6 : AnswersWith devices (holding_under denying printing) (Ask (AuditDefinition example.m example.main)) (codes "audit m.main" ∷ codes "  out deny 1" ∷ []) false
unfolding reply_computing
last_answer_6 = audit_replies devices printing (verdicts_of devices printing) graph names printing_judged denying example.m example.main (codes "audit m.main" ∷ codes "  out deny 1" ∷ []) false refl refl

last_writes_6 : IsOutput devices (holding_under denying printing) ((Ask (AuditDefinition example.m example.main)) ∷ []) (text (codes "audit m.main" ∷ codes "  out deny 1" ∷ [])) false
unfolding encode digits
last_writes_6 =
    then_writes devices (holding_under denying printing) (holding_under denying printing) (Ask (AuditDefinition example.m example.main)) ([]) (codes "audit m.main" ∷ codes "  out deny 1" ∷ []) ([]) false false last_answer_6 refl (refl, refl)

last_writes_5 : IsOutput devices (holding_under denying printing) ((Ask CheckModules) ∷ (Ask (AuditDefinition example.m example.main)) ∷ []) (text (codes "check" ∷ codes "  m ok" ∷ codes "audit m.main" ∷ codes "  out deny 1" ∷ [])) false
unfolding encode digits
last_writes_5 =
    then_writes devices (holding_under denying printing) (holding_under denying printing) (Ask CheckModules) ((Ask (AuditDefinition example.m example.main)) ∷ []) (codes "check" ∷ codes "  m ok" ∷ []) (text (codes "audit m.main" ∷ codes "  out deny 1" ∷ [])) false false last_answer_5 refl last_writes_6

last_writes_4 : IsOutput devices (holding_under allowing printing) ((SetPolicy denying) ∷ (Ask CheckModules) ∷ (Ask (AuditDefinition example.m example.main)) ∷ []) (text (codes "policy 1" ∷ codes "check" ∷ codes "  m ok" ∷ codes "audit m.main" ∷ codes "  out deny 1" ∷ [])) false
unfolding encode digits
last_writes_4 =
    then_writes devices (holding_under allowing printing) (holding_under denying printing) (SetPolicy denying) ((Ask CheckModules) ∷ (Ask (AuditDefinition example.m example.main)) ∷ []) (codes "policy 1" ∷ []) (text (codes "check" ∷ codes "  m ok" ∷ codes "audit m.main" ∷ codes "  out deny 1" ∷ [])) false false last_answer_4 refl last_writes_5

last_writes_3 : IsOutput devices (holding printing) ((SetPolicy allowing) ∷ (SetPolicy denying) ∷ (Ask CheckModules) ∷ (Ask (AuditDefinition example.m example.main)) ∷ []) (text (codes "policy 1" ∷ codes "policy 1" ∷ codes "check" ∷ codes "  m ok" ∷ codes "audit m.main" ∷ codes "  out deny 1" ∷ [])) false
unfolding encode digits
last_writes_3 =
    then_writes devices (holding printing) (holding_under allowing printing) (SetPolicy allowing) ((SetPolicy denying) ∷ (Ask CheckModules) ∷ (Ask (AuditDefinition example.m example.main)) ∷ []) (codes "policy 1" ∷ []) (text (codes "policy 1" ∷ codes "check" ∷ codes "  m ok" ∷ codes "audit m.main" ∷ codes "  out deny 1" ∷ [])) false false last_answer_3 refl last_writes_4

last_writes_2 : IsOutput devices with_broken ((PutText example.m example.printing_text) ∷ (SetPolicy allowing) ∷ (SetPolicy denying) ∷ (Ask CheckModules) ∷ (Ask (AuditDefinition example.m example.main)) ∷ []) (text (codes "put m" ∷ codes "policy 1" ∷ codes "policy 1" ∷ codes "check" ∷ codes "  m ok" ∷ codes "audit m.main" ∷ codes "  out deny 1" ∷ [])) false
unfolding encode digits
last_writes_2 =
    then_writes devices with_broken (holding printing) (PutText example.m example.printing_text) ((SetPolicy allowing) ∷ (SetPolicy denying) ∷ (Ask CheckModules) ∷ (Ask (AuditDefinition example.m example.main)) ∷ []) (codes "put m" ∷ []) (text (codes "policy 1" ∷ codes "policy 1" ∷ codes "check" ∷ codes "  m ok" ∷ codes "audit m.main" ∷ codes "  out deny 1" ∷ [])) false false last_answer_2 refl last_writes_3

last_writes_1 : IsOutput devices no_module ((PutText example.m example.no_text) ∷ (PutText example.m example.printing_text) ∷ (SetPolicy allowing) ∷ (SetPolicy denying) ∷ (Ask CheckModules) ∷ (Ask (AuditDefinition example.m example.main)) ∷ []) (text (codes "put m" ∷ codes "put m" ∷ codes "policy 1" ∷ codes "policy 1" ∷ codes "check" ∷ codes "  m ok" ∷ codes "audit m.main" ∷ codes "  out deny 1" ∷ [])) false
unfolding encode digits
last_writes_1 =
    then_writes devices no_module with_broken (PutText example.m example.no_text) ((PutText example.m example.printing_text) ∷ (SetPolicy allowing) ∷ (SetPolicy denying) ∷ (Ask CheckModules) ∷ (Ask (AuditDefinition example.m example.main)) ∷ []) (codes "put m" ∷ []) (text (codes "put m" ∷ codes "policy 1" ∷ codes "policy 1" ∷ codes "check" ∷ codes "  m ok" ∷ codes "audit m.main" ∷ codes "  out deny 1" ∷ [])) false false last_answer_1 refl last_writes_2

pub last_ones_count : example.LastOnesCount
unfolding job_reading
last_ones_count = record { is_job = job_found 12 _ _ refl; asks = refl; writes = last_writes_1 }
