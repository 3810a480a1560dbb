-- Whole jobs, by example: their bytes, what they ask for, and what is written for them.
use Rattle.std.specs.Prelude.{◌≡◌, ℕ, Bool, true, false, List, [], ◌∷◌, Some, None, codes}
use Rattle.cc_base.specs.declared.device.DeviceDecl.{DeviceDecl}
use Rattle.cc_base.specs.declared.device.Kind.TheVariants.{Console, Counter}
use Rattle.cc_job.specs.declared.job.Command.{Command}
use Rattle.cc_job.specs.declared.job.Command.TheVariants.{Put, Drop, Check, Sig, Derive, Run, Tasks, Verify, Policy}
use Rattle.cc_job.specs.declared.job.Command.TheVariants.{Audit, Guard, Explain, Replay}
use Rattle.cc_job.specs.JobExamples.{rule}
use Rattle.cc_job.specs.Jobs.{IsJob, text}
use Rattle.cc_answers.specs.Requests.{requests_of}
use Rattle.cc_replies.specs.Outputs.{IsOutput}
use Rattle.cc_replies.specs.Requests.{CheckModules, ShowSignature, ShowDerivation, RunDefinition, RunTasks}
use Rattle.cc_replies.specs.Requests.{AuditDefinition, GuardDefinition, ExplainDefinition, ReplayDefinition}
use Rattle.cc_replies.specs.Requests.{Request, PutText, DropModule, SetPolicy, VerifyText, Ask, no_module}

-- The lines, each with its line feed, are the text of the job with these devices and commands, which ask for this; what
-- is written for them has these lines, and it is told whether one of the replies is a refusal.
pub record JobWrites (job_lines : List (List ℕ)) (devices : List DeviceDecl) (commands : List Command)
    (requests : List Request) (written : List (List ℕ)) (refused : Bool) : Type 0 where
  pub is_job : IsJob (text job_lines) (record { devices = devices; commands = commands })
  pub asks : requests_of (record { devices = devices; commands = commands }) ≡ requests
  pub writes : IsOutput devices no_module requests (text written) refused

-- the name of a module
abbrev pub tools : List ℕ
tools = codes "tools"

abbrev pub main : List ℕ
main = codes "main"

-- a function that prints, and one that calls it
abbrev pub tools_text : List ℕ
tools_text =
    text
    (codes "def f: ((x: Int) -> Unit)^{out} = fun (x: Int) => out.print(x)" ∷ codes "def main = fun (u: Unit) => f(5)"
    ∷ [])

-- the lines of a run of it, without its authority
abbrev pub trace : List ℕ
trace = text (codes "out print 5" ∷ codes "done unit after 4 steps" ∷ [])

-- the certificate of the identity on the unit value
abbrev pub certificate : List ℕ
certificate =
    text
    (codes "cert 1" ∷ codes "term fun (_0: Unit) => _0" ∷ codes "1 t-var [] : Unit^{_0}"
    ∷ codes "2 t-abs [1] : (_0: Unit) -> Unit^{_0}" ∷ [])

-- Each command once, none of which is refused.
abbrev pub EachCommandIsCarriedOut : Type 0
EachCommandIsCarriedOut =
    JobWrites
    (codes "capc 1" ∷ codes "device out console" ∷ codes "device hits counter" ∷ codes "policy 1" ∷ codes "allow * *"
    ∷ codes "put tools 2" ∷ codes "def f: ((x: Int) -> Unit)^{out} = fun (x: Int) => out.print(x)"
    ∷ codes "def main = fun (u: Unit) => f(5)" ∷ codes "put spare 0" ∷ codes "drop spare" ∷ codes "check"
    ∷ codes "sig tools" ∷ codes "derive tools.f" ∷ codes "run tools.main 100"
    ∷ codes "tasks 100 1,0 tools.main tools.main" ∷ codes "audit tools.main" ∷ codes "guard tools.main 100"
    ∷ codes "explain tools.main" ∷ codes "replay tools.main 100 2" ∷ codes "out print 5"
    ∷ codes "done unit after 4 steps" ∷ codes "verify 4" ∷ codes "cert 1" ∷ codes "term fun (_0: Unit) => _0"
    ∷ codes "1 t-var [] : Unit^{_0}" ∷ codes "2 t-abs [1] : (_0: Unit) -> Unit^{_0}" ∷ [])
    (record { name = codes "out"; kind = Console } ∷ record { name = codes "hits"; kind = Counter } ∷ [])
    (Policy (rule true None None ∷ []) ∷ Put tools tools_text ∷ Put (codes "spare") [] ∷ Drop (codes "spare") ∷ Check
    ∷ Sig tools ∷ Derive tools (codes "f") ∷ Run tools main 100
    ∷ Tasks 100 (1 ∷ 0 ∷ []) ((tools, main) ∷ (tools, main) ∷ []) ∷ Audit tools main ∷ Guard tools main 100
    ∷ Explain tools main ∷ Replay tools main 100 trace ∷ Verify certificate ∷ [])
    (SetPolicy (rule true None None ∷ []) ∷ PutText tools tools_text ∷ PutText (codes "spare") []
    ∷ DropModule (codes "spare") ∷ Ask CheckModules ∷ Ask (ShowSignature tools) ∷ Ask (ShowDerivation tools (codes "f"))
    ∷ Ask (RunDefinition tools main 100) ∷ Ask (RunTasks 100 (1 ∷ 0 ∷ []) ((tools, main) ∷ (tools, main) ∷ []))
    ∷ Ask (AuditDefinition tools main) ∷ Ask (GuardDefinition tools main 100) ∷ Ask (ExplainDefinition tools main)
    ∷ Ask (ReplayDefinition tools main 100 trace) ∷ VerifyText certificate ∷ [])
    (codes "policy 1" ∷ codes "put tools" ∷ codes "put spare" ∷ codes "drop spare" ∷ codes "check"
    ∷ codes "  tools ok" ∷ codes "sig tools" ∷ codes "  f: ((_0: Int) -> Unit)^{out}"
    ∷ codes "  main: ((_0: Unit) -> Unit)^{out}" ∷ codes "derive tools.f" ∷ codes "  cert 1"
    ∷ codes "  bind out: Console^{cap}" ∷ codes "  bind hits: Counter^{cap}"
    ∷ codes "  term fun (_0: Int) => out.print(_0)" ∷ codes "  1 t-var [] : Console^{out}"
    ∷ codes "  2 t-var [] : Int^{_0}" ∷ codes "  3 elem [] {_0} <: {_0}" ∷ codes "  4 set [3] {_0} <: {_0}"
    ∷ codes "  5 refl [] Int <: Int" ∷ codes "  6 capt [4 5] Int^{_0} <: Int^{_0}" ∷ codes "  7 t-sub [2 6] : Int^{_0}"
    ∷ codes "  8 t-op [1 7] : Unit" ∷ codes "  9 t-abs [8] : ((_0: Int) -> Unit)^{out}"
    ∷ codes "  10 elem [] {out} <: {out}" ∷ codes "  11 set [10] {out} <: {out}"
    ∷ codes "  12 refl [] (_0: Int) -> Unit <: (_0: Int) -> Unit"
    ∷ codes "  13 capt [11 12] ((_0: Int) -> Unit)^{out} <: ((_0: Int) -> Unit)^{out}"
    ∷ codes "  14 t-sub [9 13] : ((_0: Int) -> Unit)^{out}" ∷ codes "run tools.main" ∷ codes "  authority {out}"
    ∷ codes "  out print 5" ∷ codes "  done unit after 4 steps" ∷ codes "tasks" ∷ codes "  0 authority {out}"
    ∷ codes "  1 authority {out}" ∷ codes "  1 out print 5" ∷ codes "  0 out print 5"
    ∷ codes "  0 done unit after 4 steps" ∷ codes "  1 done unit after 4 steps" ∷ codes "audit tools.main"
    ∷ codes "  out allow 1" ∷ codes "guard tools.main" ∷ codes "  authority {out}" ∷ codes "  out print 5"
    ∷ codes "  done unit after 4 steps" ∷ codes "explain tools.main" ∷ codes "  out: tools.main tools.f out"
    ∷ codes "replay tools.main" ∷ codes "  agrees" ∷ codes "verify" ∷ codes "  valid (_0: Unit) -> Unit^{_0}" ∷ [])
    false

-- a text that is no module, and its line in a job
abbrev pub no_text : List ℕ
no_text = text (codes "def main = 1 2" ∷ [])

abbrev pub m : List ℕ
m = codes "m"

-- The job that puts this text as the module `m`, and has one command more. That one alone is refused: its reply has
-- these lines.
abbrev pub CommandIsRefused : List ℕ → Command → Request → List (List ℕ) → Type 0
CommandIsRefused command_line command request written =
    JobWrites (codes "capc 1" ∷ codes "put m 1" ∷ codes "def main = 1 2" ∷ command_line ∷ []) []
    (Put m no_text ∷ command ∷ []) (PutText m no_text ∷ request ∷ []) (codes "put m" ∷ written) true

-- Each command is refused: it is about a module that is not present, or is refused, and a check tells of that.
pub record EachCommandIsRefused : Type 0 where
  pub drop : CommandIsRefused (codes "drop n") (Drop (codes "n")) (DropModule (codes "n"))
      (codes "drop n refused E32" ∷ [])
  pub check : CommandIsRefused (codes "check") Check (Ask CheckModules) (codes "check" ∷ codes "  m E03 1:14" ∷ [])
  pub sig : CommandIsRefused (codes "sig m") (Sig m) (Ask (ShowSignature m)) (codes "sig m refused E34" ∷ [])
  pub derive : CommandIsRefused (codes "derive m.main") (Derive m main) (Ask (ShowDerivation m main))
      (codes "derive m.main refused E34" ∷ [])
  pub run : CommandIsRefused (codes "run m.main 5") (Run m main 5) (Ask (RunDefinition m main 5))
      (codes "run m.main refused E34" ∷ [])
  pub tasks : CommandIsRefused (codes "tasks 5 0 m.main") (Tasks 5 (0 ∷ []) ((m, main) ∷ []))
      (Ask (RunTasks 5 (0 ∷ []) ((m, main) ∷ []))) (codes "tasks refused E34 m.main" ∷ [])
  pub audit : CommandIsRefused (codes "audit m.main") (Audit m main) (Ask (AuditDefinition m main))
      (codes "audit m.main refused E34" ∷ [])
  pub guard : CommandIsRefused (codes "guard m.main 5") (Guard m main 5) (Ask (GuardDefinition m main 5))
      (codes "guard m.main refused E34" ∷ [])
  pub explain : CommandIsRefused (codes "explain m.main") (Explain m main) (Ask (ExplainDefinition m main))
      (codes "explain m.main refused E34" ∷ [])
  pub replay : CommandIsRefused (codes "replay m.main 5 0") (Replay m main 5 [])
      (Ask (ReplayDefinition m main 5 [])) (codes "replay m.main refused E34" ∷ [])
  pub verify : CommandIsRefused (codes "verify 0") (Verify []) (VerifyText [])
      (codes "verify" ∷ codes "  bad line 1" ∷ [])

-- a module that prints
abbrev pub printing_text : List ℕ
printing_text = text (codes "def main = fun (u: Unit) => out.print(1)" ∷ [])

-- Without a rule nothing that operates a device is run under a guard, and an audit tells of the denial, which is no
-- refusal; a run looks at no rule.
abbrev pub NoRulesDeny : Type 0
NoRulesDeny =
    JobWrites
    (codes "capc 1" ∷ codes "device out console" ∷ codes "put m 1" ∷ codes "def main = fun (u: Unit) => out.print(1)"
    ∷ codes "audit m.main" ∷ codes "run m.main 9" ∷ codes "guard m.main 9" ∷ [])
    (record { name = codes "out"; kind = Console } ∷ [])
    (Put m printing_text ∷ Audit m main ∷ Run m main 9 ∷ Guard m main 9 ∷ [])
    (PutText m printing_text ∷ Ask (AuditDefinition m main) ∷ Ask (RunDefinition m main 9)
    ∷ Ask (GuardDefinition m main 9) ∷ [])
    (codes "put m" ∷ codes "audit m.main" ∷ codes "  out deny none" ∷ codes "run m.main" ∷ codes "  authority {out}"
    ∷ codes "  out print 1" ∷ codes "  done unit after 3 steps" ∷ codes "guard m.main refused E37" ∷ [])
    true

-- Rules take the place of those before them, and what is put takes the place of a text of its name.
abbrev pub LastOnesCount : Type 0
LastOnesCount =
    JobWrites
    (codes "capc 1" ∷ codes "device out console" ∷ codes "put m 1" ∷ codes "def main = 1 2" ∷ codes "put m 1"
    ∷ codes "def main = fun (u: Unit) => out.print(1)" ∷ codes "policy 1" ∷ codes "allow m out" ∷ codes "policy 1"
    ∷ codes "deny m out" ∷ codes "check" ∷ codes "audit m.main" ∷ [])
    (record { name = codes "out"; kind = Console } ∷ [])
    (Put m no_text ∷ Put m printing_text ∷ Policy (rule true (Some m) (Some (codes "out")) ∷ [])
    ∷ Policy (rule false (Some m) (Some (codes "out")) ∷ []) ∷ Check ∷ Audit m main ∷ [])
    (PutText m no_text ∷ PutText m printing_text ∷ SetPolicy (rule true (Some m) (Some (codes "out")) ∷ [])
    ∷ SetPolicy (rule false (Some m) (Some (codes "out")) ∷ []) ∷ Ask CheckModules ∷ Ask (AuditDefinition m main) ∷ [])
    (codes "put m" ∷ codes "put m" ∷ codes "policy 1" ∷ codes "policy 1" ∷ codes "check" ∷ codes "  m ok"
    ∷ codes "audit m.main" ∷ codes "  out deny 1" ∷ [])
    false

-- a job without commands writes nothing, and refuses nothing
abbrev pub NoCommandWritesNothing : Type 0
NoCommandWritesNothing = JobWrites (codes "capc 1" ∷ []) [] [] [] [] false
