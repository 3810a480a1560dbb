-- Replies to audits and guards, by example.
use Rattle.std.specs.Prelude.{ℕ, codes, Bool, true, false, List, [], ◌∷◌, ◌++◌, Some, None}
use Rattle.cc_policy.specs.declared.policy.Rule.{Rule}
use Rattle.cc_replies.specs.Requests.{AuditDefinition, GuardDefinition}
use Rattle.cc_worked_replies.specs.RunExamples.{printing, three_modules, refused_module, values}
use Rattle.cc_worked_replies.specs.TextReplies.{RepliesUnder, console, console_and_counter, m, n, main}

-- the module that the rules are about
abbrev pub app : List ℕ
app = codes "app"

-- a rule about a module and a device, one about any device of a module, and one about everything
abbrev pub rule : Bool → List ℕ → List ℕ → Rule
rule allow owner device = record { allow = allow; «module» = Some owner; device = Some device }

abbrev pub rule_for_module : Bool → List ℕ → Rule
rule_for_module allow owner = record { allow = allow; «module» = Some owner; device = None }

abbrev pub rule_for_all : Bool → Rule
rule_for_all allow = record { allow = allow; «module» = None; device = None }

-- allow app out
-- deny * *
abbrev pub console_alone : List Rule
console_alone = rule true app (codes "out") ∷ rule_for_all false ∷ []

-- allow app out
-- deny app hits
-- allow * *
abbrev pub all_but_the_counter : List Rule
all_but_the_counter = rule true app (codes "out") ∷ rule false app (codes "hits") ∷ rule_for_all true ∷ []

-- allow * *
abbrev pub everything : List Rule
everything = rule_for_all true ∷ []

-- allow counter *
-- allow logger *
abbrev pub other_modules : List Rule
other_modules = rule_for_module true (codes "counter") ∷ rule_for_module true (codes "logger") ∷ []

-- the module that imports from two others is audited, and is run if that is permitted
abbrev pub AuditIs : List Rule → List (List ℕ) → Type 0
AuditIs rules lines =
    RepliesUnder rules console_and_counter three_modules (AuditDefinition app main) (codes "audit app.main" ∷ lines) false

abbrev pub GuardIs : List Rule → List (List ℕ) → Bool → Type 0
GuardIs rules lines refused =
    RepliesUnder rules console_and_counter three_modules (GuardDefinition app main 1000) lines refused

-- A device that is denied makes the guard refuse the run, and is no refusal of the audit.
pub record PoliciesDecide : Type 0 where
  pub audited : AuditIs console_alone (codes "  out allow 1" ∷ codes "  hits deny 2" ∷ [])
  pub refused : GuardIs console_alone (codes "guard app.main refused E37" ∷ []) true
  -- a rule between two others denies it
  pub audited_between : AuditIs all_but_the_counter (codes "  out allow 1" ∷ codes "  hits deny 2" ∷ [])
  pub refused_between : GuardIs all_but_the_counter (codes "guard app.main refused E37" ∷ []) true
  -- without a rule all is denied
  pub audited_without : AuditIs [] (codes "  out deny none" ∷ codes "  hits deny none" ∷ [])
  pub refused_without : GuardIs [] (codes "guard app.main refused E37" ∷ []) true
  -- what the modules that it imports from are allowed is not allowed to it
  pub audited_for_others : AuditIs other_modules (codes "  out deny none" ∷ codes "  hits deny none" ∷ [])
  pub refused_for_others : GuardIs other_modules (codes "guard app.main refused E37" ∷ []) true
  -- what is permitted runs as it would without a guard
  pub audited_with_all : AuditIs everything (codes "  out allow 1" ∷ codes "  hits allow 1" ∷ [])
  pub runs_with_all : GuardIs everything
      (codes "guard app.main" ∷ codes "  authority {out, hits}" ∷ codes "  out say start" ∷ codes "  hits tick 1"
      ∷ codes "  out print 10" ∷ codes "  hits tick 2" ∷ codes "  out print 21" ∷ codes "  done unit after 41 steps"
      ∷ []) false

-- A guarded run that does not come to its end tells of a refusal, as any run does.
pub record GuardsRunOutOfFuel : Type 0 where
  pub with_less_fuel : RepliesUnder everything console printing (GuardDefinition m main 3)
      (codes "guard m.main" ∷ codes "  authority {out}" ∷ codes "  out of fuel after 3 steps" ∷ []) true
  pub with_enough_fuel : RepliesUnder everything console printing (GuardDefinition m main 4)
      (codes "guard m.main" ∷ codes "  authority {out}" ∷ codes "  out print 5" ∷ codes "  done unit after 4 steps" ∷ [])
      false

-- A definition that operates no device is permitted by any rules.
pub record NoDevicesAreNeeded : Type 0 where
  pub audited : RepliesUnder (rule_for_all false ∷ []) console values (AuditDefinition m (codes "word"))
      (codes "audit m.word" ∷ []) false
  pub runs : RepliesUnder (rule_for_all false ∷ []) console values (GuardDefinition m (codes "word") 9)
      (codes "guard m.word" ∷ codes "  authority {}" ∷ codes "  done \"a b\" after 1 steps" ∷ []) false

-- What is not run is neither audited nor guarded, for the same reason, whatever the rules.
pub record RefusedAudits : Type 0 where
  pub no_module : RepliesUnder everything console printing (AuditDefinition n main)
      (codes "audit n.main refused E32" ∷ []) true
  pub no_definition : RepliesUnder everything console printing (AuditDefinition m (codes "none"))
      (codes "audit m.none refused E33" ∷ []) true
  pub of_a_number : RepliesUnder everything console printing (AuditDefinition m (codes "f"))
      (codes "audit m.f refused E35" ∷ []) true
  pub of_a_refused_module : RepliesUnder everything console refused_module (AuditDefinition m main)
      (codes "audit m.main refused E34" ∷ []) true

pub record RefusedGuards : Type 0 where
  pub no_module : RepliesUnder [] console printing (GuardDefinition n main 5) (codes "guard n.main refused E32" ∷ []) true
  pub no_definition : RepliesUnder [] console printing (GuardDefinition m (codes "none") 5)
      (codes "guard m.none refused E33" ∷ []) true
  pub of_a_number : RepliesUnder [] console printing (GuardDefinition m (codes "f") 5)
      (codes "guard m.f refused E35" ∷ []) true
  pub of_a_refused_module : RepliesUnder [] console refused_module (GuardDefinition m main 5)
      (codes "guard m.main refused E34" ∷ []) true
