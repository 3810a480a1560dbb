-- What the commands of a job ask for, and what they change.
use Rattle.std.specs.Prelude.{ℕ, List, []}
use Rattle.cc_verdicts.specs.PresentTexts.{Texts}
use Rattle.cc_policy.specs.declared.policy.Rule.{Rule}

-- What is asked of the present modules, once they are checked: the verdicts of all; the signatures of a module; the
-- certificate of a definition; a run of a definition with so much fuel; the interleaved run of definitions by a
-- schedule, with so much fuel for all together; what the rules in force decide for a definition; a run of a definition
-- that they permit; why each device is in the signature of a definition; and whether the lines of a text are the trace of
-- a run of a definition with so much fuel.
pub data Question : Type 0 where
  CheckModules : Question
  ShowSignature : (name : List ℕ) → Question
  ShowDerivation : (module_name name : List ℕ) → Question
  RunDefinition : (module_name name : List ℕ) (fuel : ℕ) → Question
  RunTasks : (fuel : ℕ) (schedule : List ℕ) (tasks : List (List ℕ × List ℕ)) → Question
  AuditDefinition : (module_name name : List ℕ) → Question
  GuardDefinition : (module_name name : List ℕ) (fuel : ℕ) → Question
  ExplainDefinition : (module_name name : List ℕ) → Question
  ReplayDefinition : (module_name name : List ℕ) (fuel : ℕ) (text : List ℕ) → Question

-- a command: a module gets a text, a module is removed, rules take the place of those in force, a text is to be judged
-- as a certificate, or something is asked
pub data Request : Type 0 where
  PutText : (name text : List ℕ) → Request
  DropModule : (name : List ℕ) → Request
  SetPolicy : (rules : List Rule) → Request
  VerifyText : (text : List ℕ) → Request
  Ask : (question : Question) → Request

-- what commands change: the present modules with their texts, and the rules in force
pub record JobState : Type 0 where
  pub texts : Texts
  pub rules : List Rule

-- the state where these texts are present and these rules are in force
abbrev pub holding_under : List Rule → Texts → JobState
holding_under rules texts = record { texts = texts; rules = rules }

-- the same without a rule
abbrev pub holding : Texts → JobState
holding texts = holding_under [] texts

-- before the first command no module is present, and no rule is in force
abbrev pub no_module : JobState
no_module = holding []
