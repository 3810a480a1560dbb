-- Replies to commands, and how they are written: a head line, and then lines that begin with two spaces.
use Rattle.std.specs.Prelude.{ℕ, Bool, true, false, not, if◌then◌else◌, List, [], ◌∷◌, ◌++◌, map, codes, encode_utf8_all, Option, Some, None}
use Rattle.std.specs.Fmt.{decimal}
use Rattle.std.specs.List.{flat_map, join_with_byte, list_any}
use Rattle.cc_base.specs.Texts.{code_text, place_text}
use Rattle.cc_base.specs.declared.code.Code.{Code}
use Rattle.cc_base.specs.declared.place.Place.{Place}
use Rattle.cc_device.specs.Endings.{Done, OutOfFuel}
use Rattle.cc_device.specs.Events.{Event}
use Rattle.cc_print.specs.TypeTexts.{type_text}
use Rattle.cc_entry_laws.specs.PresentLinks.{Target, DefinitionOf, DeviceAt, Universal}
use Rattle.cc_runs.specs.Interleavings.{Report}
use Rattle.cc_runs.specs.Runs.{Ending, Ends, IsStopped}
use Rattle.cc_verdicts.specs.ModuleVerdicts.{CheckedDefinition, ModuleVerdict, IsAccepted, IsRefused}
use Rattle.cc_policy.specs.declared.policy.Decision.{Decision}
use Rattle.cc_certificate_judging.specs.Answers.{Found, found_text, is_valid}
use Rattle.cc_replay.specs.declared.replaying.Replayed.{Replayed as Outcome}
use Rattle.cc_replay.specs.declared.replaying.Replayed.TheVariants.{Agrees, Differs}
use Rattle.cc_replies.specs.TaskTexts.{task_lines}
use Rattle.cc_replay.specs.RunTexts.{device_text, run_lines}

-- why an element stands in a set: what it is, and a chain of links that leads to it
pub record Explanation : Type 0 where
  pub target : Target
  pub chain : List Target

-- What is answered to a command: the module was put, or was removed, or that was refused; so many rules are in force;
-- what was found of a certificate; the verdicts of modules; the definitions of an accepted module; the lines of the
-- certificate of a definition; the devices that a run may operate, its events, its end and its steps; the same of tasks
-- that ran interleaved; each device that a run may operate with what the rules decide; the same of a run that they permit
-- as of any other; why each element is in the signature of a definition; what comes of comparing lines with a run; or why
-- one of these is not shown.
pub data Reply : Type 0 where
  PutDone : (name : List ℕ) → Reply
  PutRefused : (name : List ℕ) (code : Code) → Reply
  DropDone : (name : List ℕ) → Reply
  DropRefused : (name : List ℕ) (code : Code) → Reply
  PolicySet : (count : ℕ) → Reply
  Verified : (found : Found) → Reply
  Verdicts : (verdicts : List (List ℕ × ModuleVerdict)) → Reply
  Signatures : (name : List ℕ) (definitions : List CheckedDefinition) → Reply
  SignaturesRefused : (name : List ℕ) (code : Code) → Reply
  Derived : (module_name name : List ℕ) (lines : List (List ℕ)) → Reply
  DerivationRefused : (module_name name : List ℕ) (code : Code) → Reply
  Ran : (module_name name : List ℕ) (authority : List ℕ) (events : List Event) (ending : Ending) (steps : ℕ) → Reply
  RunRefused : (module_name name : List ℕ) (code : Code) → Reply
  TasksRan : (authorities : List (List ℕ)) (report : Report) → Reply
  TasksRefused : (code : Code) (module_name name : List ℕ) → Reply
  Audited : (module_name name : List ℕ) (decisions : List (ℕ × Decision)) → Reply
  AuditRefused : (module_name name : List ℕ) (code : Code) → Reply
  Guarded : (module_name name : List ℕ) (authority : List ℕ) (events : List Event) (ending : Ending) (steps : ℕ) → Reply
  GuardRefused : (module_name name : List ℕ) (code : Code) → Reply
  Explained : (module_name name : List ℕ) (explanations : List Explanation) → Reply
  ExplainRefused : (module_name name : List ℕ) (code : Code) → Reply
  Replayed : (module_name name : List ℕ) (outcome : Outcome) → Reply
  ReplayRefused : (module_name name : List ℕ) (code : Code) → Reply

-- a line is its text and a line feed
abbrev pub line : List ℕ → List ℕ
line text = text ++ 10 ∷ []

-- the head line of a command about a module
abbrev pub head : List ℕ → List ℕ → List ℕ
head word name = line (word ++ codes " " ++ encode_utf8_all name)

-- the same of a command that is refused
abbrev pub refused_head : List ℕ → List ℕ → Code → List ℕ
refused_head word name code = line (word ++ codes " " ++ encode_utf8_all name ++ codes " refused " ++ code_text code)

-- a line behind the head
abbrev pub inner_line : List ℕ → List ℕ
inner_line text = line (codes "  " ++ text)

-- the names of a module and of its definition, with a point between them
abbrev pub pair_text : List ℕ → List ℕ → List ℕ
pair_text module_name name = encode_utf8_all module_name ++ codes "." ++ encode_utf8_all name

-- the head line of a command about a definition
abbrev pub pair_head : List ℕ → List ℕ → List ℕ → List ℕ
pair_head word module_name name = line (word ++ codes " " ++ pair_text module_name name)

-- the same of a command that is refused
abbrev pub refused_pair_head : List ℕ → List ℕ → List ℕ → Code → List ℕ
refused_pair_head word module_name name code =
    line (word ++ codes " " ++ pair_text module_name name ++ codes " refused " ++ code_text code)

-- a refusal: its code and its place
abbrev pub refusal_text : Code → Place → List ℕ
refusal_text code at = code_text code ++ codes " " ++ place_text at

-- a verdict: that the module is accepted, or its refusal
abbrev pub verdict_text : ModuleVerdict → List ℕ
verdict_text (IsAccepted definitions) = codes "ok"
verdict_text (IsRefused code at) = refusal_text code at

-- a line for each module
abbrev pub verdict_line : List ℕ × ModuleVerdict → List ℕ
verdict_line one = inner_line (encode_utf8_all one.0 ++ codes " " ++ verdict_text one.1)

-- a line for each definition, where the first free positions have these names
abbrev pub signature_line : List (List ℕ) → CheckedDefinition → List ℕ
signature_line names one =
    inner_line (encode_utf8_all one.name ++ codes ": " ++ type_text names 0 one.accepted.signature)

-- the number of the rule that decides, or that none does
abbrev pub rule_text : Option ℕ → List ℕ
rule_text (Some number) = decimal number
rule_text None = codes "none"

-- what is decided, and by which rule
abbrev pub decision_text : Decision → List ℕ
decision_text it = (if it.allow then codes "allow " else codes "deny ") ++ rule_text it.rule

-- a line for each device, where the devices have these names
abbrev pub decision_line : List (List ℕ) → ℕ × Decision → List ℕ
decision_line names one = inner_line (device_text names one.0 ++ codes " " ++ decision_text one.1)

-- a target: a definition by the names of its module and its own, a device by its name, or the universal capability
abbrev pub target_text : List (List ℕ) → Target → List ℕ
target_text names (DefinitionOf module_name name) = pair_text module_name name
target_text names (DeviceAt number) = device_text names number
target_text names Universal = codes "cap"

-- the targets of a chain, with a space between them
abbrev pub chain_text : List (List ℕ) → List Target → List ℕ
chain_text names chain = join_with_byte 32 (map (target_text names) chain)

-- a line for each element of a set, with its chain
abbrev pub explanation_line : List (List ℕ) → Explanation → List ℕ
explanation_line names it = inner_line (target_text names it.target ++ codes ": " ++ chain_text names it.chain)

-- what comes of a replay: that the lines are the trace, or the first that is not what must stand there
abbrev pub outcome_text : Outcome → List ℕ
outcome_text Agrees = codes "agrees"
outcome_text (Differs number) = codes "differs at line " ++ decimal number

-- the text of a reply that tells of a run under this word
abbrev pub run_text : List ℕ → List (List ℕ) → List ℕ → List ℕ → List ℕ → List Event → Ending → ℕ → List ℕ
run_text word names module_name name authority events ending steps =
    pair_head word module_name name ++ flat_map inner_line (run_lines names authority events ending steps)

-- the text of a reply where the devices have these names
abbrev pub reply_text : List (List ℕ) → Reply → List ℕ
reply_text names (PutDone name) = head (codes "put") name
reply_text names (PutRefused name code) = refused_head (codes "put") name code
reply_text names (DropDone name) = head (codes "drop") name
reply_text names (DropRefused name code) = refused_head (codes "drop") name code
reply_text names (PolicySet count) = line (codes "policy " ++ decimal count)
reply_text names (Verified found) = line (codes "verify") ++ inner_line (found_text found)
reply_text names (Verdicts verdicts) = line (codes "check") ++ flat_map verdict_line verdicts
reply_text names (Signatures name definitions) =
    head (codes "sig") name ++ flat_map (signature_line names) definitions
reply_text names (SignaturesRefused name code) = refused_head (codes "sig") name code
reply_text names (Derived module_name name lines) =
    pair_head (codes "derive") module_name name ++ flat_map inner_line lines
reply_text names (DerivationRefused module_name name code) =
    refused_pair_head (codes "derive") module_name name code
reply_text names (Ran module_name name authority events ending steps) =
    run_text (codes "run") names module_name name authority events ending steps
reply_text names (RunRefused module_name name code) = refused_pair_head (codes "run") module_name name code
reply_text names (TasksRan authorities report) =
    line (codes "tasks") ++ flat_map inner_line (task_lines names authorities report)
reply_text names (TasksRefused code module_name name) =
    line (codes "tasks refused " ++ code_text code ++ codes " " ++ pair_text module_name name)
reply_text names (Audited module_name name decisions) =
    pair_head (codes "audit") module_name name ++ flat_map (decision_line names) decisions
reply_text names (AuditRefused module_name name code) = refused_pair_head (codes "audit") module_name name code
reply_text names (Guarded module_name name authority events ending steps) =
    run_text (codes "guard") names module_name name authority events ending steps
reply_text names (GuardRefused module_name name code) = refused_pair_head (codes "guard") module_name name code
reply_text names (Explained module_name name explanations) =
    pair_head (codes "explain") module_name name ++ flat_map (explanation_line names) explanations
reply_text names (ExplainRefused module_name name code) = refused_pair_head (codes "explain") module_name name code
reply_text names (Replayed module_name name outcome) =
    pair_head (codes "replay") module_name name ++ inner_line (outcome_text outcome)
reply_text names (ReplayRefused module_name name code) = refused_pair_head (codes "replay") module_name name code

-- the module is refused
abbrev pub is_refused : ModuleVerdict → Bool
is_refused (IsAccepted definitions) = false
is_refused (IsRefused code at) = true

-- the run did not come to its end
abbrev pub is_unfinished : Ending → Bool
is_unfinished (Ends (Done shown)) = false
is_unfinished (Ends OutOfFuel) = true
is_unfinished IsStopped = true

-- the lines are not the trace
abbrev pub is_different : Outcome → Bool
is_different Agrees = false
is_different (Differs number) = true

-- The reply tells of a refusal: that of the command, or of a module, or of what is to be a certificate; that the fuel of a
-- run or a task ran out; or that lines are not the trace. What is denied is none.
abbrev pub is_refusal : Reply → Bool
is_refusal (PutDone name) = false
is_refusal (PutRefused name code) = true
is_refusal (DropDone name) = false
is_refusal (DropRefused name code) = true
is_refusal (PolicySet count) = false
is_refusal (Verified found) = not (is_valid found)
is_refusal (Verdicts verdicts) = list_any (λ one. is_refused one.1) verdicts
is_refusal (Signatures name definitions) = false
is_refusal (SignaturesRefused name code) = true
is_refusal (Derived module_name name lines) = false
is_refusal (DerivationRefused module_name name code) = true
is_refusal (Ran module_name name authority events ending steps) = is_unfinished ending
is_refusal (RunRefused module_name name code) = true
is_refusal (TasksRan authorities report) = list_any (λ it. is_unfinished it.0) report.ends
is_refusal (TasksRefused code module_name name) = true
is_refusal (Audited module_name name decisions) = false
is_refusal (AuditRefused module_name name code) = true
is_refusal (Guarded module_name name authority events ending steps) = is_unfinished ending
is_refusal (GuardRefused module_name name code) = true
is_refusal (Explained module_name name explanations) = false
is_refusal (ExplainRefused module_name name code) = true
is_refusal (Replayed module_name name outcome) = is_different outcome
is_refusal (ReplayRefused module_name name code) = true
