-- A whole job with each command once, by computation: from its last command to its first.
use Rattle.std.proofs.Common.{ℕ, true, false, List, [], ◌∷◌, ◌++◌, None, codes, refl}
use Rattle.std.specs.Fmt.{digits}
use Rattle.std.specs.List.{flat_map}
use lib.Utf8.{encode}
use Rattle.cc_base.specs.declared.device.DeviceDecl.{DeviceDecl}
use Rattle.cc_base.specs.declared.device.Kind.TheVariants.{Console, Counter}
use Rattle.cc_capture.specs.declared.var.Var.TheVariants.{Free}
use Rattle.cc_capture.specs.declared.var.Elem.TheVariants.{Var as Variable}
use Rattle.cc_entry_laws.specs.PresentLinks.{DefinitionOf, DeviceAt}
use Rattle.cc_graph.specs.Graph.{ImportMap}
use Rattle.cc_job.specs.JobExamples.{rule}
use Rattle.cc_policy.specs.declared.policy.Rule.{Rule}
use Rattle.cc_replies.proofs.FirstChains.{path_of, path_from}
use Rattle.cc_replies.specs.Outputs.{IsOutput}
use Rattle.cc_replies.specs.ReplyTexts.{PutDone, DropDone, PolicySet, line}
use Rattle.cc_replies.specs.Requests.{CheckModules, ShowSignature, ShowDerivation, RunDefinition, RunTasks, AuditDefinition, GuardDefinition, ExplainDefinition, ReplayDefinition}
use Rattle.cc_replies.specs.Requests.{Request, PutText, DropModule, SetPolicy, VerifyText, Ask, JobState, holding_under, no_module}
use Rattle.cc_verdicts.specs.ModuleVerdicts.{ModuleVerdict}
use Rattle.cc_verdicts.specs.PresentTexts.{Texts}
use Rattle.cc_worked_replies.proofs.ComputedAnswers.{check_replies, signature_replies, derivation_replies, derivation_computing}
use Rattle.cc_worked_replies.proofs.ComputedChains.{quick_entry, explanation_by, explains, explain_replies}
use Rattle.cc_worked_replies.proofs.ComputedReplies.{AreJudged, are_judged, run_replies, audit_replies, guard_replies, replay_replies, tasks_reply, reply_computing}
use Rattle.cc_worked_replies.proofs.WorkedRuns.{verdicts_of}
use Rattle.cc_worked_replies.specs.CertificateExamples.{ValidCertificate}
use Rattle.cc_worked_jobs.proofs.JobOutputs.{AnswersWith, then_writes}
use Rattle.cc_worked_jobs.specs.WholeJobs as example

abbrev devices : List DeviceDecl
devices = record { name = codes "out"; kind = Console } ∷ record { name = codes "hits"; kind = Counter } ∷ []

abbrev rules : List Rule
rules = rule true None None ∷ []

abbrev texts : Texts
texts = (example.tools, example.tools_text) ∷ []

-- the states of the job: with the rules, with the module besides, and with a second one
abbrev ruled : JobState
ruled = holding_under rules []

abbrev alone : JobState
alone = holding_under rules texts

abbrev with_spare : JobState
with_spare = holding_under rules ((codes "spare", []) ∷ texts)

-- the verdicts in the last of them, the import graph and its order
abbrev verdicts : List ℕ → ModuleVerdict
verdicts = verdicts_of devices texts

abbrev graph : ImportMap
graph = (example.tools, []) ∷ []

abbrev names : List (List ℕ)
names = example.tools ∷ []

judged : AreJudged devices texts verdicts graph names
unfolding reply_computing
judged = are_judged devices 12 texts verdicts graph names ((refl, tt), (tt, tt)) (tt, tt) refl (refl, tt) (record { steps = refl; whole = refl })

abbrev tasks : List (List ℕ × List ℕ)
tasks = (example.tools, example.main) ∷ (example.tools, example.main) ∷ []

-- what is asked from each command on, and what is written
abbrev lines_of_verify : List (List ℕ)
lines_of_verify = codes "verify" ∷ codes "  valid (_0: Unit) -> Unit^{_0}" ∷ []

abbrev requests_from_verify : List Request
requests_from_verify = VerifyText example.certificate ∷ []

abbrev written_from_verify : List ℕ
written_from_verify = flat_map line lines_of_verify ++ []

abbrev lines_of_replay : List (List ℕ)
lines_of_replay = codes "replay tools.main" ∷ codes "  agrees" ∷ []

abbrev requests_from_replay : List Request
requests_from_replay = Ask (ReplayDefinition example.tools example.main 100 example.trace) ∷ requests_from_verify

abbrev written_from_replay : List ℕ
written_from_replay = flat_map line lines_of_replay ++ written_from_verify

abbrev lines_of_explain : List (List ℕ)
lines_of_explain = codes "explain tools.main" ∷ codes "  out: tools.main tools.f out" ∷ []

abbrev requests_from_explain : List Request
requests_from_explain = Ask (ExplainDefinition example.tools example.main) ∷ requests_from_replay

abbrev written_from_explain : List ℕ
written_from_explain = flat_map line lines_of_explain ++ written_from_replay

abbrev lines_of_guard : List (List ℕ)
lines_of_guard = codes "guard tools.main" ∷ codes "  authority {out}" ∷ codes "  out print 5" ∷ codes "  done unit after 4 steps" ∷ []

abbrev requests_from_guard : List Request
requests_from_guard = Ask (GuardDefinition example.tools example.main 100) ∷ requests_from_explain

abbrev written_from_guard : List ℕ
written_from_guard = flat_map line lines_of_guard ++ written_from_explain

abbrev lines_of_audit : List (List ℕ)
lines_of_audit = codes "audit tools.main" ∷ codes "  out allow 1" ∷ []

abbrev requests_from_audit : List Request
requests_from_audit = Ask (AuditDefinition example.tools example.main) ∷ requests_from_guard

abbrev written_from_audit : List ℕ
written_from_audit = flat_map line lines_of_audit ++ written_from_guard

abbrev lines_of_tasks : List (List ℕ)
lines_of_tasks = codes "tasks" ∷ codes "  0 authority {out}" ∷ codes "  1 authority {out}" ∷ codes "  1 out print 5" ∷ codes "  0 out print 5" ∷ codes "  0 done unit after 4 steps" ∷ codes "  1 done unit after 4 steps" ∷ []

abbrev requests_from_tasks : List Request
requests_from_tasks = Ask (RunTasks 100 (1 ∷ 0 ∷ []) tasks) ∷ requests_from_audit

abbrev written_from_tasks : List ℕ
written_from_tasks = flat_map line lines_of_tasks ++ written_from_audit

abbrev lines_of_run : List (List ℕ)
lines_of_run = codes "run tools.main" ∷ codes "  authority {out}" ∷ codes "  out print 5" ∷ codes "  done unit after 4 steps" ∷ []

abbrev requests_from_run : List Request
requests_from_run = Ask (RunDefinition example.tools example.main 100) ∷ requests_from_tasks

abbrev written_from_run : List ℕ
written_from_run = flat_map line lines_of_run ++ written_from_tasks

abbrev lines_of_derive : List (List ℕ)
lines_of_derive = codes "derive tools.f" ∷ codes "  cert 1" ∷ codes "  bind out: Console^{cap}" ∷ codes "  bind hits: Counter^{cap}" ∷ codes "  term fun (_0: Int) => out.print(_0)" ∷ codes "  1 t-var [] : Console^{out}" ∷ codes "  2 t-var [] : Int^{_0}" ∷ codes "  3 elem [] {_0} <: {_0}" ∷ codes "  4 set [3] {_0} <: {_0}" ∷ codes "  5 refl [] Int <: Int" ∷ codes "  6 capt [4 5] Int^{_0} <: Int^{_0}" ∷ codes "  7 t-sub [2 6] : Int^{_0}" ∷ codes "  8 t-op [1 7] : Unit" ∷ codes "  9 t-abs [8] : ((_0: Int) -> Unit)^{out}" ∷ codes "  10 elem [] {out} <: {out}" ∷ codes "  11 set [10] {out} <: {out}" ∷ codes "  12 refl [] (_0: Int) -> Unit <: (_0: Int) -> Unit" ∷ codes "  13 capt [11 12] ((_0: Int) -> Unit)^{out} <: ((_0: Int) -> Unit)^{out}" ∷ codes "  14 t-sub [9 13] : ((_0: Int) -> Unit)^{out}" ∷ []

abbrev requests_from_derive : List Request
requests_from_derive = Ask (ShowDerivation example.tools (codes "f")) ∷ requests_from_run

abbrev written_from_derive : List ℕ
written_from_derive = flat_map line lines_of_derive ++ written_from_run

abbrev lines_of_sig : List (List ℕ)
lines_of_sig = codes "sig tools" ∷ codes "  f: ((_0: Int) -> Unit)^{out}" ∷ codes "  main: ((_0: Unit) -> Unit)^{out}" ∷ []

abbrev requests_from_sig : List Request
requests_from_sig = Ask (ShowSignature example.tools) ∷ requests_from_derive

abbrev written_from_sig : List ℕ
written_from_sig = flat_map line lines_of_sig ++ written_from_derive

abbrev lines_of_check : List (List ℕ)
lines_of_check = codes "check" ∷ codes "  tools ok" ∷ []

abbrev requests_from_check : List Request
requests_from_check = Ask CheckModules ∷ requests_from_sig

abbrev written_from_check : List ℕ
written_from_check = flat_map line lines_of_check ++ written_from_sig

abbrev lines_of_drop : List (List ℕ)
lines_of_drop = codes "drop spare" ∷ []

abbrev requests_from_drop : List Request
requests_from_drop = DropModule (codes "spare") ∷ requests_from_check

abbrev written_from_drop : List ℕ
written_from_drop = flat_map line lines_of_drop ++ written_from_check

abbrev lines_of_put_spare : List (List ℕ)
lines_of_put_spare = codes "put spare" ∷ []

abbrev requests_from_put_spare : List Request
requests_from_put_spare = PutText (codes "spare") [] ∷ requests_from_drop

abbrev written_from_put_spare : List ℕ
written_from_put_spare = flat_map line lines_of_put_spare ++ written_from_drop

abbrev lines_of_put : List (List ℕ)
lines_of_put = codes "put tools" ∷ []

abbrev requests_from_put : List Request
requests_from_put = PutText example.tools example.tools_text ∷ requests_from_put_spare

abbrev written_from_put : List ℕ
written_from_put = flat_map line lines_of_put ++ written_from_put_spare

abbrev lines_of_policy : List (List ℕ)
lines_of_policy = codes "policy 1" ∷ []

abbrev requests_from_policy : List Request
requests_from_policy = SetPolicy (rule true None None ∷ []) ∷ requests_from_put

abbrev written_from_policy : List ℕ
written_from_policy = flat_map line lines_of_policy ++ written_from_put

answer_to_policy : AnswersWith devices no_module (SetPolicy (rule true None None ∷ [])) lines_of_policy false
unfolding encode digits
answer_to_policy =
    (PolicySet 1, refl, refl, refl)

answer_to_put : AnswersWith devices ruled (PutText example.tools example.tools_text) lines_of_put false
unfolding encode digits
answer_to_put =
    (PutDone example.tools, refl, refl, refl)

answer_to_put_spare : AnswersWith devices alone (PutText (codes "spare") []) lines_of_put_spare false
unfolding encode digits
answer_to_put_spare =
    (PutDone (codes "spare"), refl, refl, refl)

answer_to_drop : AnswersWith devices with_spare (DropModule (codes "spare")) lines_of_drop false
unfolding encode digits
answer_to_drop =
    (DropDone (codes "spare"), refl, refl, refl)

answer_to_check : AnswersWith devices alone (Ask CheckModules) lines_of_check false
unfolding reply_computing
answer_to_check =
    check_replies devices texts verdicts graph names judged (codes "check" ∷ codes "  tools ok" ∷ []) false refl refl

answer_to_sig : AnswersWith devices alone (Ask (ShowSignature example.tools)) lines_of_sig false
unfolding reply_computing
answer_to_sig =
    signature_replies devices texts verdicts graph names judged example.tools (codes "sig tools" ∷ codes "  f: ((_0: Int) -> Unit)^{out}" ∷ codes "  main: ((_0: Unit) -> Unit)^{out}" ∷ []) false refl refl

answer_to_derive : AnswersWith devices alone (Ask (ShowDerivation example.tools (codes "f"))) lines_of_derive false
unfolding derivation_computing
answer_to_derive =
    derivation_replies devices texts verdicts graph names judged example.tools (codes "f") (codes "derive tools.f" ∷ codes "  cert 1" ∷ codes "  bind out: Console^{cap}" ∷ codes "  bind hits: Counter^{cap}" ∷ codes "  term fun (_0: Int) => out.print(_0)" ∷ codes "  1 t-var [] : Console^{out}" ∷ codes "  2 t-var [] : Int^{_0}" ∷ codes "  3 elem [] {_0} <: {_0}" ∷ codes "  4 set [3] {_0} <: {_0}" ∷ codes "  5 refl [] Int <: Int" ∷ codes "  6 capt [4 5] Int^{_0} <: Int^{_0}" ∷ codes "  7 t-sub [2 6] : Int^{_0}" ∷ codes "  8 t-op [1 7] : Unit" ∷ codes "  9 t-abs [8] : ((_0: Int) -> Unit)^{out}" ∷ codes "  10 elem [] {out} <: {out}" ∷ codes "  11 set [10] {out} <: {out}" ∷ codes "  12 refl [] (_0: Int) -> Unit <: (_0: Int) -> Unit" ∷ codes "  13 capt [11 12] ((_0: Int) -> Unit)^{out} <: ((_0: Int) -> Unit)^{out}" ∷ codes "  14 t-sub [9 13] : ((_0: Int) -> Unit)^{out}" ∷ []) false refl refl

answer_to_run : AnswersWith devices alone (Ask (RunDefinition example.tools example.main 100)) lines_of_run false
unfolding reply_computing
answer_to_run =
    run_replies devices texts verdicts graph names judged example.tools example.main 100 (codes "run tools.main" ∷ codes "  authority {out}" ∷ codes "  out print 5" ∷ codes "  done unit after 4 steps" ∷ []) false refl refl

answer_to_tasks : AnswersWith devices alone (Ask (RunTasks 100 (1 ∷ 0 ∷ []) tasks)) lines_of_tasks false
unfolding reply_computing
answer_to_tasks =
    tasks_reply devices texts verdicts graph names judged 100 (1 ∷ 0 ∷ []) tasks (codes "tasks" ∷ codes "  0 authority {out}" ∷ codes "  1 authority {out}" ∷ codes "  1 out print 5" ∷ codes "  0 out print 5" ∷ codes "  0 done unit after 4 steps" ∷ codes "  1 done unit after 4 steps" ∷ []) false refl refl

answer_to_audit : AnswersWith devices alone (Ask (AuditDefinition example.tools example.main)) lines_of_audit false
unfolding reply_computing
answer_to_audit =
    audit_replies devices texts verdicts graph names judged rules example.tools example.main (codes "audit tools.main" ∷ codes "  out allow 1" ∷ []) false refl refl

answer_to_guard : AnswersWith devices alone (Ask (GuardDefinition example.tools example.main 100)) lines_of_guard false
unfolding reply_computing
answer_to_guard =
    guard_replies devices texts verdicts graph names judged rules example.tools example.main 100 (codes "guard tools.main" ∷ codes "  authority {out}" ∷ codes "  out print 5" ∷ codes "  done unit after 4 steps" ∷ []) false refl refl

answer_to_explain : AnswersWith devices alone (Ask (ExplainDefinition example.tools example.main)) lines_of_explain false
unfolding reply_computing quick_entry path_of path_from
answer_to_explain =
    explain_replies devices texts verdicts graph names judged example.tools example.main (Variable (Free 0) ∷ []) (explanation_by devices texts verdicts example.tools example.main (DeviceAt 0) ∷ [])
    (codes "explain tools.main" ∷ codes "  out: tools.main tools.f out" ∷ []) refl (
      explanation_by devices texts verdicts example.tools example.main (DeviceAt 0),
      [],
      explains devices texts verdicts example.tools example.main (DeviceAt 0) (Variable (Free 0)) (DefinitionOf example.tools (codes "f") ∷ DeviceAt 0 ∷ []) refl refl,
      refl,
      refl,
    )
    refl

answer_to_replay : AnswersWith devices alone (Ask (ReplayDefinition example.tools example.main 100 example.trace)) lines_of_replay false
unfolding reply_computing
answer_to_replay =
    replay_replies devices texts verdicts graph names judged example.tools example.main 100 example.trace (codes "replay tools.main" ∷ codes "  agrees" ∷ []) false refl refl

module _ (valid : ValidCertificate) where
  writes_from_verify : IsOutput devices alone requests_from_verify written_from_verify false
  unfolding encode digits
  writes_from_verify =
      then_writes devices alone alone (VerifyText example.certificate) [] lines_of_verify [] false false (valid devices alone) refl (refl, refl)

  writes_from_replay : IsOutput devices alone requests_from_replay written_from_replay false
  unfolding encode digits
  writes_from_replay =
      then_writes devices alone alone (Ask (ReplayDefinition example.tools example.main 100 example.trace)) requests_from_verify lines_of_replay written_from_verify false false answer_to_replay refl writes_from_verify

  writes_from_explain : IsOutput devices alone requests_from_explain written_from_explain false
  unfolding encode digits
  writes_from_explain =
      then_writes devices alone alone (Ask (ExplainDefinition example.tools example.main)) requests_from_replay lines_of_explain written_from_replay false false answer_to_explain refl writes_from_replay

  writes_from_guard : IsOutput devices alone requests_from_guard written_from_guard false
  unfolding encode digits
  writes_from_guard =
      then_writes devices alone alone (Ask (GuardDefinition example.tools example.main 100)) requests_from_explain lines_of_guard written_from_explain false false answer_to_guard refl writes_from_explain

  writes_from_audit : IsOutput devices alone requests_from_audit written_from_audit false
  unfolding encode digits
  writes_from_audit =
      then_writes devices alone alone (Ask (AuditDefinition example.tools example.main)) requests_from_guard lines_of_audit written_from_guard false false answer_to_audit refl writes_from_guard

  writes_from_tasks : IsOutput devices alone requests_from_tasks written_from_tasks false
  unfolding encode digits
  writes_from_tasks =
      then_writes devices alone alone (Ask (RunTasks 100 (1 ∷ 0 ∷ []) tasks)) requests_from_audit lines_of_tasks written_from_audit false false answer_to_tasks refl writes_from_audit

  writes_from_run : IsOutput devices alone requests_from_run written_from_run false
  unfolding encode digits
  writes_from_run =
      then_writes devices alone alone (Ask (RunDefinition example.tools example.main 100)) requests_from_tasks lines_of_run written_from_tasks false false answer_to_run refl writes_from_tasks

  writes_from_derive : IsOutput devices alone requests_from_derive written_from_derive false
  unfolding encode digits
  writes_from_derive =
      then_writes devices alone alone (Ask (ShowDerivation example.tools (codes "f"))) requests_from_run lines_of_derive written_from_run false false answer_to_derive refl writes_from_run

  writes_from_sig : IsOutput devices alone requests_from_sig written_from_sig false
  unfolding encode digits
  writes_from_sig =
      then_writes devices alone alone (Ask (ShowSignature example.tools)) requests_from_derive lines_of_sig written_from_derive false false answer_to_sig refl writes_from_derive

  writes_from_check : IsOutput devices alone requests_from_check written_from_check false
  unfolding encode digits
  writes_from_check =
      then_writes devices alone alone (Ask CheckModules) requests_from_sig lines_of_check written_from_sig false false answer_to_check refl writes_from_sig

  writes_from_drop : IsOutput devices with_spare requests_from_drop written_from_drop false
  unfolding encode digits
  writes_from_drop =
      then_writes devices with_spare alone (DropModule (codes "spare")) requests_from_check lines_of_drop written_from_check false false answer_to_drop refl writes_from_check

  writes_from_put_spare : IsOutput devices alone requests_from_put_spare written_from_put_spare false
  unfolding encode digits
  writes_from_put_spare =
      then_writes devices alone with_spare (PutText (codes "spare") []) requests_from_drop lines_of_put_spare written_from_drop false false answer_to_put_spare refl writes_from_drop

  writes_from_put : IsOutput devices ruled requests_from_put written_from_put false
  unfolding encode digits
  writes_from_put =
      then_writes devices ruled alone (PutText example.tools example.tools_text) requests_from_put_spare lines_of_put written_from_put_spare false false answer_to_put refl writes_from_put_spare

  pub writes_from_policy : IsOutput devices no_module requests_from_policy written_from_policy false
  unfolding encode digits
  writes_from_policy =
      then_writes devices no_module ruled (SetPolicy (rule true None None ∷ [])) requests_from_put lines_of_policy written_from_put false false answer_to_policy refl writes_from_put
