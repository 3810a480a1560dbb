-- What is written for questions about definitions.
use Rattle.std.proofs.Common.{◌≡◌, ℕ, codes, Bool, true, false, List, [], map, Option, Some, None, Result, Ok, Err, refl, sym, ap, ◌∙◌, subst, arith, if◌then◌else◌}
use Rattle.std.specs.Prelude.{IfOk, nat_le, nat_lt}
use Rattle.std.proofs.lemmas.Bool.Decides.{nat_tests}
use Rattle.std.proofs.lemmas.Result.{IfOk-weaker}
use Rattle.cc_base.specs.declared.code.Code.{Code}
use Rattle.cc_base.specs.declared.code.Code.TheVariants.{E36}
use Rattle.cc_base.specs.declared.device.DeviceDecl.{DeviceDecl}
use Rattle.cc_certificate_writing.specs.DefinitionCertificates.{definition_certificate_lines}
use Rattle.cc_core.specs.Contexts.{Context}
use Rattle.cc_session.specs.declared.entry.Entry.{Entry as DeclaredEntry}
use Rattle.cc_session.specs.Entries.{entry_of}
use Rattle.cc_io.specs.declared.whole.WriteAll.{WriteAll}
use Rattle.cc_io.specs.Wholes.{WritesWhole}
use Rattle.cc_entry_laws.specs.PresentEntries.{started_in}
use Rattle.cc_verdicts.specs.ModuleVerdicts.{ModuleVerdict}
use Rattle.cc_verdicts.specs.PresentTexts.{Texts, AreVerdicts}
use Rattle.cc_verdicts.specs.StandingDefinitions.{Standing, standing_context, standing_names, standing_in}
use Rattle.cc_mnf.specs.ElaboratedModules.{device_names}
use Rattle.cc_replies.specs.Replies.{Replies, derivation_size, derivation_told, derivation_reply}
use Rattle.cc_entry_laws.specs.PresentEntries.{CheckedEntry}
use Rattle.cc_replies.specs.ReplyTexts.{Reply, RunRefused, TasksRefused, Audited, AuditRefused, GuardRefused, ReplayRefused, Explained, ExplainRefused, Derived, DerivationRefused, reply_text, is_refusal, is_unfinished}
use Rattle.cc_policy.specs.declared.policy.Rule.{Rule}
use Rattle.cc_replies.specs.PolicyReplies.{decisions, audit_told, guard_told}
use Rattle.cc_replies.specs.ExplainReplies.{IsExplainAnswer}
use Rattle.cc_replies.specs.ReplayReplies.{replay_told}
use Rattle.cc_replies.specs.Requests.{Request, ShowDerivation, RunDefinition, RunTasks, AuditDefinition, GuardDefinition, ExplainDefinition, ReplayDefinition, Ask, holding_under}
use Rattle.cc_replies.specs.RunReplies.{declared_run, run_told, tasks_told, first_unstarted, HaveEntries, IsEntryAnswer, IsTasksAnswer}
use Rattle.cc_checking.specs.DerivationSizes.{nodes}
use Rattle.cc_checking.specs.Verdicts.{Accepted}
use Rattle.cc_checking_laws.specs.AcceptedDefinitions.{accepted_derived}
use Rattle.cc_session.specs.EntryAnswers.{IsAnswered}
use Rattle.cc_answers.specs.Carried.{IsReplied}
use Rattle.cc_answers.specs.Explaining.{TellsExplanations}
use Rattle.cc_answers.specs.Running.{entry_text}
use Rattle.cc_answers.proofs.CommandFacts.{replied}

-- whether there are more is whether there are not so many or fewer
not_more : (most n : ℕ) → nat_lt most n ≡ false → nat_le n most ≡ true
not_more most n few = grind (arith, nat_tests)

more : (most n : ℕ) → nat_lt most n ≡ true → nat_le n most ≡ false
more most n many = no_more (nat_le n most) refl
  where
    clash : nat_le n most ≡ true → ⊥
    clash few = grind (arith, nat_tests)

    no_more : (b : Bool) → nat_le n most ≡ b → nat_le n most ≡ false
    no_more true is = absurd (clash is)
    no_more false is = is

-- the answer about a definition, by what is told of its entry, or by why it is not to be started
module _ (devices : List DeviceDecl) (texts : Texts) (verdicts : List ℕ → ModuleVerdict) (module_name name : List ℕ) (told : CheckedEntry → Reply)
    (refused_by : Code → Reply) where
  started_answer : (entry : DeclaredEntry) → IsAnswered devices texts verdicts module_name name (Ok entry)
      → IsEntryAnswer devices texts verdicts module_name name told refused_by (started_in texts verdicts module_name name) (told (entry_of entry))
  started_answer entry answered =
      subst (λ r. IsEntryAnswer devices texts verdicts module_name name told refused_by r (told (entry_of entry))) (sym answered.1)
      (entry_of entry, answered.2, refl)

  refused_answer : (code : Code) → started_in texts verdicts module_name name ≡ Err code
      → IsEntryAnswer devices texts verdicts module_name name told refused_by (started_in texts verdicts module_name name) (refused_by code)
  refused_answer code is =
      subst (λ r. IsEntryAnswer devices texts verdicts module_name name told refused_by r (refused_by code)) (sym is) refl

module _ (devices : List DeviceDecl) (rules : List Rule) (texts : Texts) (verdicts : List ℕ → ModuleVerdict) (are : AreVerdicts devices texts verdicts)
    (old new : Option (List ℕ)) (result : Result Bool WriteAll) (text : List ℕ) (refused : Bool)
    (written : (t : List ℕ) → text ≡ t → WritesWhole old new result t) (told : IfOk result (λ answer. answer ≡ refused)) where
  -- the text of a reply to a question was written
  shown : (request : Request) (reply : Reply) → Replies devices (holding_under rules texts) request reply → text ≡ reply_text (device_names devices) reply
      → refused ≡ is_refusal reply → IsReplied devices (holding_under rules texts) request old new result
  shown request reply is said tells =
      replied devices (holding_under rules texts) request reply is old new result (written (reply_text (device_names devices) reply) said)
      (IfOk-weaker result _ _ (λ answer e. e ∙ tells) told)

  module _ (module_name name : List ℕ) where
    pub run_shown : (fuel : ℕ) (names : List (List ℕ)) (declared : List DeviceDecl) (entry : DeclaredEntry) → declared ≡ devices → names ≡ device_names devices
        → IsAnswered devices texts verdicts module_name name (Ok entry)
        → text ≡ entry_text (codes "run") names module_name name declared fuel (entry_of entry)
        → refused ≡ is_unfinished (declared_run declared fuel (entry_of entry)).ending
        → IsReplied devices (holding_under rules texts) (Ask (RunDefinition module_name name fuel)) old new result
    run_shown fuel names declared entry devices_are names_are answered said tells =
        let told : CheckedEntry → Reply = λ it. run_told module_name name it.authority (declared_run devices fuel it) in
        shown (Ask (RunDefinition module_name name fuel)) (told (entry_of entry))
        (verdicts, are, started_answer devices texts verdicts module_name name told (RunRefused module_name name) entry answered)
        (said ∙ (λ i. entry_text (codes "run") (names_are i) module_name name (devices_are i) fuel (entry_of entry)))
        (tells ∙ (λ i. is_unfinished (declared_run (devices_are i) fuel (entry_of entry)).ending))

    pub guard_shown : (fuel : ℕ) (names : List (List ℕ)) (declared : List DeviceDecl) (entry : DeclaredEntry) → declared ≡ devices → names ≡ device_names devices
        → IsAnswered devices texts verdicts module_name name (Ok entry)
        → text ≡ reply_text names (guard_told declared rules module_name name fuel (entry_of entry))
        → refused ≡ is_refusal (guard_told declared rules module_name name fuel (entry_of entry))
        → IsReplied devices (holding_under rules texts) (Ask (GuardDefinition module_name name fuel)) old new result
    guard_shown fuel names declared entry devices_are names_are answered said tells =
        let told : CheckedEntry → Reply = guard_told devices rules module_name name fuel in
        shown (Ask (GuardDefinition module_name name fuel)) (told (entry_of entry))
        (verdicts, are, started_answer devices texts verdicts module_name name told (GuardRefused module_name name) entry answered)
        (said ∙ (λ i. reply_text (names_are i) (guard_told (devices_are i) rules module_name name fuel (entry_of entry))))
        (tells ∙ (λ i. is_refusal (guard_told (devices_are i) rules module_name name fuel (entry_of entry))))

    pub replay_shown : (fuel : ℕ) (lines : List ℕ) (names : List (List ℕ)) (entry : DeclaredEntry) → names ≡ device_names devices
        → IsAnswered devices texts verdicts module_name name (Ok entry)
        → text ≡ reply_text [] (replay_told names module_name name fuel lines (entry_of entry))
        → refused ≡ is_refusal (replay_told names module_name name fuel lines (entry_of entry))
        → IsReplied devices (holding_under rules texts) (Ask (ReplayDefinition module_name name fuel lines)) old new result
    replay_shown fuel lines names entry names_are answered said tells =
        let told : CheckedEntry → Reply = replay_told (device_names devices) module_name name fuel lines in
        shown (Ask (ReplayDefinition module_name name fuel lines)) (told (entry_of entry))
        (verdicts, are, started_answer devices texts verdicts module_name name told (ReplayRefused module_name name) entry answered)
        (said ∙ (λ i. reply_text [] (replay_told (names_are i) module_name name fuel lines (entry_of entry))))
        (tells ∙ (λ i. is_refusal (replay_told (names_are i) module_name name fuel lines (entry_of entry))))

    pub explain_shown : (it : Standing) → standing_in texts verdicts module_name name ≡ Ok it → (names : List (List ℕ)) → names ≡ device_names devices
        → TellsExplanations devices texts verdicts names module_name name it.definition.accepted.signature.set.list text → refused ≡ false
        → IsReplied devices (holding_under rules texts) (Ask (ExplainDefinition module_name name)) old new result
    explain_shown it found names names_are (explanations, explained, said) tells =
        shown (Ask (ExplainDefinition module_name name)) (Explained module_name name explanations) (
          verdicts,
          are,
          subst (λ r. IsExplainAnswer devices texts verdicts module_name name r (Explained module_name name explanations)) (sym found)
              (explanations, explained, refl),
        )
        (said ∙ (λ i. reply_text (names_are i) (Explained module_name name explanations))) tells

    module _ (it : Standing) (found : standing_in texts verdicts module_name name ≡ Ok it) (names : List (List ℕ)) (context : Context) (accepted : Accepted)
        (names_are : names ≡ standing_names devices it) (context_is : context ≡ standing_context devices it)
        (accepted_is : accepted ≡ it.definition.accepted) where
      is_told : Replies devices (holding_under rules texts) (Ask (ShowDerivation module_name name)) (derivation_told devices module_name name it)
      is_told = (verdicts, are, ap (derivation_reply devices module_name name) (sym found))

      abbrev lines : List (List ℕ)
      lines = definition_certificate_lines (standing_names devices it) (standing_context devices it) it.definition.accepted

      pub derivation_shown : nat_lt 100000 (nodes (accepted_derived context accepted)) ≡ false
          → text ≡ reply_text [] (Derived module_name name (definition_certificate_lines names context accepted)) → refused ≡ false
          → IsReplied devices (holding_under rules texts) (Ask (ShowDerivation module_name name)) old new result
      derivation_shown few said tells =
          let size : nodes (accepted_derived context accepted) ≡ derivation_size devices it =
          λ i. nodes (accepted_derived (context_is i) (accepted_is i)) in
          let few_nodes : nat_le (derivation_size devices it) 100000 ≡ true =
          not_more 100000 (derivation_size devices it) (ap (nat_lt 100000) (sym size) ∙ few) in
          let told : derivation_told devices module_name name it ≡ Derived module_name name lines =
          ap (λ b. if b then Derived module_name name lines else DerivationRefused module_name name E36) few_nodes in
          shown (Ask (ShowDerivation module_name name)) (Derived module_name name lines)
          (subst (Replies devices (holding_under rules texts) (Ask (ShowDerivation module_name name))) told is_told)
          (said ∙ (λ i. reply_text [] (Derived module_name name (definition_certificate_lines (names_are i) (context_is i) (accepted_is i))))) tells

  module _ (fuel : ℕ) (schedule : List ℕ) (tasks : List (List ℕ × List ℕ)) where
    pub tasks_shown : (names : List (List ℕ)) (declared : List DeviceDecl) (entries : List CheckedEntry) → declared ≡ devices → names ≡ device_names devices
        → first_unstarted texts verdicts tasks ≡ None → HaveEntries devices texts verdicts tasks entries
        → text ≡ reply_text names (tasks_told declared fuel schedule entries)
        → refused ≡ is_refusal (tasks_told declared fuel schedule entries)
        → IsReplied devices (holding_under rules texts) (Ask (RunTasks fuel schedule tasks)) old new result
    tasks_shown names declared entries devices_are names_are none have said tells =
        let reply = tasks_told devices fuel schedule entries in
        shown (Ask (RunTasks fuel schedule tasks)) reply
        (verdicts, are, subst (λ o. IsTasksAnswer devices texts verdicts fuel schedule tasks o reply) (sym none) (entries, have, refl))
        (said ∙ (λ i. reply_text (names_are i) (tasks_told (devices_are i) fuel schedule entries)))
        (tells ∙ (λ i. is_refusal (tasks_told (devices_are i) fuel schedule entries)))

-- what the rules decide was written
pub audit_shown : (devices : List DeviceDecl) (rules : List Rule) (texts : Texts) (verdicts : List ℕ → ModuleVerdict) → AreVerdicts devices texts verdicts
    → (old new : Option (List ℕ)) (result : Result Bool WriteAll) (module_name name : List ℕ) (names : List (List ℕ)) (entry : DeclaredEntry) (authority : List ℕ)
    → names ≡ device_names devices → authority ≡ entry.authority.items → IsAnswered devices texts verdicts module_name name (Ok entry)
    → WritesWhole old new result (reply_text names (Audited module_name name (decisions names rules entry.module authority)))
    → IfOk result (λ answer. answer ≡ false) → IsReplied devices (holding_under rules texts) (Ask (AuditDefinition module_name name)) old new result
audit_shown devices rules texts verdicts are old new result module_name name names entry authority names_are authority_is answered written told =
    replied devices (holding_under rules texts) (Ask (AuditDefinition module_name name)) (audit_told devices rules module_name name (entry_of entry)) (
      verdicts,
      are,
      started_answer devices texts verdicts module_name name (audit_told devices rules module_name name) (AuditRefused module_name name) entry answered,
    )
    old new result
    (subst (λ a. WritesWhole old new result (reply_text (device_names devices) (Audited module_name name (decisions (device_names devices) rules entry.module a))))
    authority_is
    (subst (λ ns. WritesWhole old new result (reply_text ns (Audited module_name name (decisions ns rules entry.module authority)))) names_are written))
    told

-- a reply that tells of a refusal was written
module _ (devices : List DeviceDecl) (rules : List Rule) (texts : Texts) (verdicts : List ℕ → ModuleVerdict) (are : AreVerdicts devices texts verdicts)
    (old new : Option (List ℕ)) (result : Result Bool WriteAll) (told : IfOk result (λ answer. answer ≡ true)) where
  module _ (module_name name : List ℕ) where
    pub run_not_shown : (fuel : ℕ) (code : Code) → started_in texts verdicts module_name name ≡ Err code
        → WritesWhole old new result (reply_text [] (RunRefused module_name name code))
        → IsReplied devices (holding_under rules texts) (Ask (RunDefinition module_name name fuel)) old new result
    run_not_shown fuel code is written =
        replied devices (holding_under rules texts) (Ask (RunDefinition module_name name fuel)) (RunRefused module_name name code)
        (verdicts, are, refused_answer devices texts verdicts module_name name (λ it. run_told module_name name it.authority (declared_run devices fuel it)) (RunRefused module_name name) code is)
        old new result written told

    pub audit_not_shown : (code : Code) → started_in texts verdicts module_name name ≡ Err code
        → WritesWhole old new result (reply_text [] (AuditRefused module_name name code))
        → IsReplied devices (holding_under rules texts) (Ask (AuditDefinition module_name name)) old new result
    audit_not_shown code is written =
        replied devices (holding_under rules texts) (Ask (AuditDefinition module_name name)) (AuditRefused module_name name code)
        (verdicts, are, refused_answer devices texts verdicts module_name name (audit_told devices rules module_name name) (AuditRefused module_name name) code is)
        old new result written told

    pub guard_not_shown : (fuel : ℕ) (code : Code) → started_in texts verdicts module_name name ≡ Err code
        → WritesWhole old new result (reply_text [] (GuardRefused module_name name code))
        → IsReplied devices (holding_under rules texts) (Ask (GuardDefinition module_name name fuel)) old new result
    guard_not_shown fuel code is written =
        replied devices (holding_under rules texts) (Ask (GuardDefinition module_name name fuel)) (GuardRefused module_name name code)
        (verdicts, are, refused_answer devices texts verdicts module_name name (guard_told devices rules module_name name fuel) (GuardRefused module_name name) code is)
        old new result written told

    pub replay_not_shown : (fuel : ℕ) (lines : List ℕ) (code : Code) → started_in texts verdicts module_name name ≡ Err code
        → WritesWhole old new result (reply_text [] (ReplayRefused module_name name code))
        → IsReplied devices (holding_under rules texts) (Ask (ReplayDefinition module_name name fuel lines)) old new result
    replay_not_shown fuel lines code is written =
        replied devices (holding_under rules texts) (Ask (ReplayDefinition module_name name fuel lines)) (ReplayRefused module_name name code)
        (verdicts, are, refused_answer devices texts verdicts module_name name (replay_told (device_names devices) module_name name fuel lines) (ReplayRefused module_name name) code is)
        old new result written told

    pub explain_not_shown : (code : Code) → standing_in texts verdicts module_name name ≡ Err code
        → WritesWhole old new result (reply_text [] (ExplainRefused module_name name code))
        → IsReplied devices (holding_under rules texts) (Ask (ExplainDefinition module_name name)) old new result
    explain_not_shown code is written =
        replied devices (holding_under rules texts) (Ask (ExplainDefinition module_name name)) (ExplainRefused module_name name code) (
          verdicts,
          are,
          subst (λ r. IsExplainAnswer devices texts verdicts module_name name r (ExplainRefused module_name name code)) (sym is) refl,
        )
        old new result written told

    pub derivation_too_large : (it : Standing) → standing_in texts verdicts module_name name ≡ Ok it → (context : Context) (accepted : Accepted)
        → context ≡ standing_context devices it → accepted ≡ it.definition.accepted → nat_lt 100000 (nodes (accepted_derived context accepted)) ≡ true
        → WritesWhole old new result (reply_text [] (DerivationRefused module_name name E36))
        → IsReplied devices (holding_under rules texts) (Ask (ShowDerivation module_name name)) old new result
    derivation_too_large it found context accepted context_is accepted_is many written =
        let lines = definition_certificate_lines (standing_names devices it) (standing_context devices it) it.definition.accepted in
        let size : nodes (accepted_derived context accepted) ≡ derivation_size devices it =
        λ i. nodes (accepted_derived (context_is i) (accepted_is i)) in
        let many_nodes : nat_le (derivation_size devices it) 100000 ≡ false =
        more 100000 (derivation_size devices it) (ap (nat_lt 100000) (sym size) ∙ many) in
        let large : derivation_told devices module_name name it ≡ DerivationRefused module_name name E36 =
        ap (λ b. if b then Derived module_name name lines else DerivationRefused module_name name E36) many_nodes in
        replied devices (holding_under rules texts) (Ask (ShowDerivation module_name name)) (DerivationRefused module_name name E36)
        (subst (Replies devices (holding_under rules texts) (Ask (ShowDerivation module_name name))) large
        (verdicts, are, ap (derivation_reply devices module_name name) (sym found)))
        old new result written told

    pub derivation_not_shown : (code : Code) → standing_in texts verdicts module_name name ≡ Err code
        → WritesWhole old new result (reply_text [] (DerivationRefused module_name name code))
        → IsReplied devices (holding_under rules texts) (Ask (ShowDerivation module_name name)) old new result
    derivation_not_shown code is written =
        replied devices (holding_under rules texts) (Ask (ShowDerivation module_name name)) (DerivationRefused module_name name code)
        (verdicts, are, ap (derivation_reply devices module_name name) (sym is)) old new result written told

  pub tasks_not_shown : (fuel : ℕ) (schedule : List ℕ) (tasks : List (List ℕ × List ℕ)) (code : Code) (names : List ℕ × List ℕ)
      → first_unstarted texts verdicts tasks ≡ Some (record { module_name = names.0; name = names.1; code = code })
      → WritesWhole old new result (reply_text [] (TasksRefused code names.0 names.1))
      → IsReplied devices (holding_under rules texts) (Ask (RunTasks fuel schedule tasks)) old new result
  tasks_not_shown fuel schedule tasks code names is written =
      replied devices (holding_under rules texts) (Ask (RunTasks fuel schedule tasks)) (TasksRefused code names.0 names.1)
      (verdicts, are, subst (λ o. IsTasksAnswer devices texts verdicts fuel schedule tasks o (TasksRefused code names.0 names.1)) (sym is) refl)
      old new result written told
