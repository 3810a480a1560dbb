-- A command has one reply.
use Rattle.std.proofs.Common.{◌≡◌, ℕ, Bool, true, false, cond, List, [], ◌∷◌, length, map, Option, Some, None, Result, Ok, Err, refl, sym, ap, subst, ◌∙◌, if◌then◌else◌}
use Rattle.std.specs.Option.{is_some}
use Rattle.std.specs.Map.{lookup}
use Rattle.std.specs.Str.{bytes_eq}
use Rattle.std.proofs.lemmas.Slice.Eq.{bytes_eq-Decides}
use Rattle.cc_base.specs.declared.code.Code.{Code}
use Rattle.cc_base.specs.declared.code.Code.TheVariants.{E32}
use Rattle.cc_base.specs.declared.device.DeviceDecl.{DeviceDecl}
use Rattle.cc_entry_laws.specs.PresentEntries.{CheckedEntry, started_in, IsEntryOf}
use Rattle.cc_entry_laws.proofs.MadeEntries.{entries_exist}
use Rattle.cc_entry_laws.proofs.AnyVerdicts.{started_definitions_are_one, entries_are_one}
use Rattle.cc_verdicts.specs.ModuleLaws.{NamesOfDevicesDiffer}
use Rattle.cc_verdicts.specs.ModuleVerdicts.{CheckedDefinition, ModuleVerdict}
use Rattle.cc_verdicts.specs.PresentTexts.{Texts, ArePresent, text_of, AreVerdicts}
use Rattle.cc_verdicts.specs.StandingDefinitions.{standing_in}
use Rattle.cc_verdicts.proofs.PresentLaws.{present_verdicts_exist, present_verdicts_are_unique}
use Rattle.cc_verdicts.proofs.FoundStanding.{found_by_texts}
use Rattle.cc_mnf.specs.ElaboratedModules.{device_names}
use Rattle.cc_policy.specs.declared.policy.Rule.{Rule}
use Rattle.cc_certificate_judging.proofs.BytesFound.{something_is_found, one_thing_is_found}
use Rattle.cc_replies.specs.PolicyReplies.{audit_told, guard_told}
use Rattle.cc_replies.specs.ReplyTexts.{Reply, PolicySet, Verified, SignaturesRefused, Verdicts, RunRefused, TasksRefused, AuditRefused, GuardRefused, ReplayRefused}
use Rattle.cc_replies.specs.Requests.{Question, CheckModules, ShowSignature, ShowDerivation, RunDefinition, RunTasks, AuditDefinition, GuardDefinition, ExplainDefinition, ReplayDefinition, PutText, DropModule, SetPolicy, VerifyText, Ask}
use Rattle.cc_replies.specs.Replies.{put_reply, drop_reply, check_reply, definitions_reply, signature_reply, derivation_reply, IsAnswer}
use Rattle.cc_replies.specs.RunReplies.{declared_run, run_told, IsEntryAnswer, Unstarted, unstarted_or, first_unstarted, HasEntry, HaveEntries, tasks_told, IsTasksAnswer}
use Rattle.cc_replies.specs.ReplyLaws.{RepliesExist, RepliesAreUnique}
use Rattle.cc_replies.specs.ReplayReplies.{replay_told}
use Rattle.cc_replies.proofs.ExplainLaws.{explain_alike, explain_answer}

pub some_of : {X : Type 0} (o : Option X) → is_some o ≡ true → (x : X) × (o ≡ Some x)
some_of (Some x) h = (x, refl)
some_of None h = cc

pub found_first : {X : Type 0} (b : Bool) (x : X) (o : Option X) → b ≡ true → is_some (cond b (Some x) o) ≡ true
found_first true x o h = refl
found_first false x o h = cc

pub found_later : {X : Type 0} (b : Bool) (x : X) (o : Option X) → is_some o ≡ true → is_some (cond b (Some x) o) ≡ true
found_later true x o h = refl
found_later false x o h = h

-- verdicts that agree on what is listed are listed alike
listed_alike : (first second : List ℕ → ModuleVerdict) (texts : Texts)
    → ((name : List ℕ) → is_some (text_of texts name) ≡ true → first name ≡ second name)
    → ◌≡◌ {A = List (List ℕ × ModuleVerdict)} (map (λ one. (one.0, first one.0)) texts) (map (λ one. (one.0, second one.0)) texts)
listed_alike first second [] agree = refl
listed_alike first second (one ∷ others) agree =
    let here = agree one.0 (found_first (bytes_eq one.0 one.0) one.1 (lookup (bytes_eq one.0) others) ((bytes_eq-Decides one.0 one.0).1 refl)) in
    let rest = listed_alike first second others (λ name there. agree name (found_later (bytes_eq name one.0) one.1 (lookup (bytes_eq name) others) there)) in
    λ i. (one.0, here i) ∷ rest i

chosen_alike : (b : Bool) (x y z : Reply) → (b ≡ true → x ≡ y) → (if b then x else z) ≡ (if b then y else z)
chosen_alike true x y z h = h refl
chosen_alike false x y z h = refl

-- the entries of definitions that are all to be started
module _ (devices : List DeviceDecl) (rules : List Rule) (texts : Texts) (verdicts : List ℕ → ModuleVerdict) (differ : NamesOfDevicesDiffer devices)
    (sorted : ArePresent texts) (are : AreVerdicts devices texts verdicts) where
  entry_answer : (module_name name : List ℕ) (told : CheckedEntry → Reply) (refused : Code → Reply) (r : Result CheckedDefinition Code)
      → started_in texts verdicts module_name name ≡ r
      → (reply : Reply) × IsEntryAnswer devices texts verdicts module_name name told refused r reply
  entry_answer module_name name told refused (Ok started) e =
      let (entry, is) = entries_exist devices texts verdicts differ sorted are module_name name started e in
      (told entry, (entry, is, refl))
  entry_answer module_name name told refused (Err code) e = (refused code, refl)

  entries_from : (tasks : List (List ℕ × List ℕ)) → first_unstarted texts verdicts tasks ≡ None
      → (entries : List CheckedEntry) × HaveEntries devices texts verdicts tasks entries
  entries_from [] e = ([], refl)
  entries_from (first ∷ others) e = at (started_in texts verdicts first.0 first.1) refl e (entries_from others)
    where
      at : (r : Result CheckedDefinition Code) → started_in texts verdicts first.0 first.1 ≡ r
          → unstarted_or first.0 first.1 r (first_unstarted texts verdicts others) ≡ None
          → (first_unstarted texts verdicts others ≡ None → (entries : List CheckedEntry) × HaveEntries devices texts verdicts others entries)
          → (entries : List CheckedEntry) × HaveEntries devices texts verdicts (first ∷ others) entries
      at (Ok started) is none rest =
          let (entry, of) = entries_exist devices texts verdicts differ sorted are first.0 first.1 started is in
          let (later, have) = rest none in
          (entry ∷ later, (entry, later, (started, is, of), have, refl))
      at (Err code) is none rest = cc

  tasks_answer : (fuel : ℕ) (schedule : List ℕ) (tasks : List (List ℕ × List ℕ)) (o : Option Unstarted) → first_unstarted texts verdicts tasks ≡ o
      → (reply : Reply) × IsTasksAnswer devices texts verdicts fuel schedule tasks o reply
  tasks_answer fuel schedule tasks (Some first) e = (TasksRefused first.code first.module_name first.name, refl)
  tasks_answer fuel schedule tasks None e =
      let (entries, have) = entries_from tasks e in (tasks_told devices fuel schedule entries, (entries, have, refl))

  pub answers_exist : (question : Question) → (reply : Reply) × IsAnswer devices rules texts verdicts question reply
  answers_exist CheckModules = (check_reply texts verdicts, refl)
  answers_exist (ShowSignature name) = (signature_reply texts verdicts name, refl)
  answers_exist (ShowDerivation module_name name) =
      (derivation_reply devices module_name name (standing_in texts verdicts module_name name), refl)
  answers_exist (RunDefinition module_name name fuel) =
      entry_answer module_name name (λ entry. run_told module_name name entry.authority (declared_run devices fuel entry)) (RunRefused module_name name)
      (started_in texts verdicts module_name name) refl
  answers_exist (RunTasks fuel schedule tasks) = tasks_answer fuel schedule tasks (first_unstarted texts verdicts tasks) refl
  answers_exist (AuditDefinition module_name name) =
      entry_answer module_name name (audit_told devices rules module_name name) (AuditRefused module_name name)
      (started_in texts verdicts module_name name) refl
  answers_exist (GuardDefinition module_name name fuel) =
      entry_answer module_name name (guard_told devices rules module_name name fuel) (GuardRefused module_name name)
      (started_in texts verdicts module_name name) refl
  answers_exist (ExplainDefinition module_name name) =
      explain_answer devices texts verdicts differ sorted are module_name name (standing_in texts verdicts module_name name) refl
  answers_exist (ReplayDefinition module_name name fuel text) =
      entry_answer module_name name (replay_told (device_names devices) module_name name fuel text) (ReplayRefused module_name name)
      (started_in texts verdicts module_name name) refl

pub replies_exist : RepliesExist
replies_exist devices state (PutText name text) differ sorted = (put_reply state.texts name text, refl)
replies_exist devices state (DropModule name) differ sorted = (drop_reply state.texts name, refl)
replies_exist devices state (SetPolicy rules) differ sorted = (PolicySet (length rules), refl)
replies_exist devices state (VerifyText text) differ sorted =
    let (found, is) = something_is_found text in (Verified found, (found, is, refl))
replies_exist devices state (Ask question) differ sorted =
    let (verdicts, are) = present_verdicts_exist devices state.texts differ sorted in
    let (reply, is) = answers_exist devices state.rules state.texts verdicts differ sorted are question in
    (reply, (verdicts, are, is))

-- two functions that give the present modules their verdicts
module _ (devices : List DeviceDecl) (rules : List Rule) (texts : Texts) (first second : List ℕ → ModuleVerdict) (sorted : ArePresent texts)
    (a : AreVerdicts devices texts first) (b : AreVerdicts devices texts second) where
  agree : (name : List ℕ) → is_some (text_of texts name) ≡ true → first name ≡ second name
  agree name there = let found = some_of (text_of texts name) there in
      present_verdicts_are_unique devices texts first second sorted a b name found.0 found.1

  started : (module_name name : List ℕ) → started_in texts first module_name name ≡ started_in texts second module_name name
  started module_name name = started_definitions_are_one devices texts first second module_name name sorted a b

  entry_alike : (module_name name : List ℕ) (told : CheckedEntry → Reply) (refused : Code → Reply)
      (r s : Result CheckedDefinition Code) (one other : Reply)
      → started_in texts first module_name name ≡ r → started_in texts second module_name name ≡ s → r ≡ s
      → IsEntryAnswer devices texts first module_name name told refused r one
      → IsEntryAnswer devices texts second module_name name told refused s other → one ≡ other
  entry_alike module_name name told refused (Ok it) (Ok again) one other p q same x y =
      let entry = entries_are_one devices texts first second module_name name it again x.0 y.0 sorted a b p q x.1 y.1 in
      x.2 ∙ ap told entry ∙ sym y.2
  entry_alike module_name name told refused (Ok it) (Err code) one other p q same x y = cc
  entry_alike module_name name told refused (Err code) (Ok again) one other p q same x y = cc
  entry_alike module_name name told refused (Err code) (Err code') one other p q same x y =
      x ∙ ap refused code_same ∙ sym y
    where
      code_same : code ≡ code'
      code_same = cc

  unstarted_alike : (tasks : List (List ℕ × List ℕ)) → first_unstarted texts first tasks ≡ first_unstarted texts second tasks
  unstarted_alike [] = refl
  unstarted_alike (one ∷ others) = λ i. unstarted_or one.0 one.1 (started one.0 one.1 i) (unstarted_alike others i)

  entries_alike : (tasks : List (List ℕ × List ℕ)) (one other : List CheckedEntry) → HaveEntries devices texts first tasks one
      → HaveEntries devices texts second tasks other → one ≡ other
  entries_alike [] one other x y = x ∙ sym y
  entries_alike (task ∷ others) one other x y =
      let (entry, later, has, have, is) = x in
      let (entry', later', has', have', is') = y in
      let here = entries_are_one devices texts first second task.0 task.1 has.0 has'.0 entry entry' sorted a b has.1 has'.1 has.2 has'.2 in
      let rest = entries_alike others later later' have have' in
      is ∙ (λ i. here i ∷ rest i) ∙ sym is'

  tasks_alike : (fuel : ℕ) (schedule : List ℕ) (tasks : List (List ℕ × List ℕ)) (o p : Option Unstarted) (one other : Reply) → o ≡ p
      → IsTasksAnswer devices texts first fuel schedule tasks o one → IsTasksAnswer devices texts second fuel schedule tasks p other → one ≡ other
  tasks_alike fuel schedule tasks (Some it) (Some again) one other same x y = x ∙ ap (λ u. TasksRefused u.code u.module_name u.name) it_same ∙ sym y
    where
      it_same : it ≡ again
      it_same = cc
  tasks_alike fuel schedule tasks (Some it) None one other same x y = cc
  tasks_alike fuel schedule tasks None (Some again) one other same x y = cc
  tasks_alike fuel schedule tasks None None one other same x y =
      x.2 ∙ ap (tasks_told devices fuel schedule) (entries_alike tasks x.0 y.0 x.1 y.1) ∙ sym y.2

  -- and so are the answers about the definition
  answer_alike : (module_name name : List ℕ) (told : CheckedEntry → Reply) (refused : Code → Reply) (one other : Reply)
      → IsEntryAnswer devices texts first module_name name told refused (started_in texts first module_name name) one
      → IsEntryAnswer devices texts second module_name name told refused (started_in texts second module_name name) other → one ≡ other
  answer_alike module_name name told refused one other x y =
      entry_alike module_name name told refused (started_in texts first module_name name) (started_in texts second module_name name) one other
      refl refl (started module_name name) x y

  pub answers_alike : (question : Question) (one other : Reply) → IsAnswer devices rules texts first question one
      → IsAnswer devices rules texts second question other → one ≡ other
  answers_alike CheckModules one other x y = x ∙ ap Verdicts (listed_alike first second texts agree) ∙ sym y
  answers_alike (ShowSignature name) one other x y =
      let alike = chosen_alike (is_some (text_of texts name)) (definitions_reply name (first name))
      (definitions_reply name (second name)) (SignaturesRefused name E32)
      (λ there. ap (definitions_reply name) (agree name there)) in
      x ∙ alike ∙ sym y
  answers_alike (ShowDerivation module_name name) one other x y =
      x ∙ ap (derivation_reply devices module_name name) (found_by_texts devices texts first second sorted a b module_name name) ∙ sym y
  answers_alike (RunDefinition module_name name fuel) one other x y =
      answer_alike module_name name (λ entry. run_told module_name name entry.authority (declared_run devices fuel entry)) (RunRefused module_name name)
      one other x y
  answers_alike (RunTasks fuel schedule tasks) one other x y =
      tasks_alike fuel schedule tasks (first_unstarted texts first tasks) (first_unstarted texts second tasks) one other (unstarted_alike tasks) x y
  answers_alike (AuditDefinition module_name name) one other x y =
      answer_alike module_name name (audit_told devices rules module_name name) (AuditRefused module_name name) one other x y
  answers_alike (GuardDefinition module_name name fuel) one other x y =
      answer_alike module_name name (guard_told devices rules module_name name fuel) (GuardRefused module_name name) one other x y
  answers_alike (ExplainDefinition module_name name) one other x y =
      explain_alike devices texts first second (found_by_texts devices texts first second sorted a b) module_name name
      (standing_in texts first module_name name) (standing_in texts second module_name name) one other
      (found_by_texts devices texts first second sorted a b module_name name) x y
  answers_alike (ReplayDefinition module_name name fuel text) one other x y =
      answer_alike module_name name (replay_told (device_names devices) module_name name fuel text) (ReplayRefused module_name name) one other x y

pub replies_are_unique : RepliesAreUnique
replies_are_unique devices state (PutText name text) first second sorted a b = a ∙ sym b
replies_are_unique devices state (DropModule name) first second sorted a b = a ∙ sym b
replies_are_unique devices state (SetPolicy rules) first second sorted a b = a ∙ sym b
replies_are_unique devices state (VerifyText text) first second sorted a b =
    a.2 ∙ ap Verified (one_thing_is_found text a.0 b.0 a.1 b.1) ∙ sym b.2
replies_are_unique devices state (Ask question) first second sorted a b =
    answers_alike devices state.rules state.texts a.0 b.0 sorted a.1 b.1 question first second a.2 b.2
