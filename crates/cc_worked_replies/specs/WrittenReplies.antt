-- Each reply as it is written, and whether it tells of a refusal.
use Rattle.std.specs.Prelude.{◌≡◌, ℕ, pos, true, false, List, [], ◌∷◌, ◌++◌, Some, None, codes}
use Rattle.std.specs.List.{flat_map}
use Rattle.cc_base.specs.declared.code.Code.{Code}
use Rattle.cc_base.specs.declared.code.Code.TheVariants.{E15, E30, E32, E33, E34, E35, E36, E37}
use Rattle.cc_base.specs.declared.literal.Base.TheVariants as bases
use Rattle.cc_base.specs.declared.literal.Op.TheVariants as operations
use Rattle.cc_base.specs.declared.place.Place.{Place}
use Rattle.cc_base.specs.Literals.{UnitLiteral, NumberLiteral}
use Rattle.cc_capture.specs.declared.var.Elem.TheVariants.{Var as Variable}
use Rattle.cc_capture.specs.declared.var.Var.TheVariants.{Free}
use Rattle.cc_capture.specs.Sets.{from_list, empty}
use Rattle.cc_certificate_judging.specs.Answers.{ProvesType, HasBadLine, HasBadNode}
use Rattle.cc_core.specs.Shapes.{BaseShape, CapturingType, capturing}
use Rattle.cc_core.specs.Terms.{Absent, LiteralTerm}
use Rattle.cc_device.specs.Endings.{Shown, ShownLiteral, Done, OutOfFuel}
use Rattle.cc_device.specs.Events.{Event, Operated, Entered}
use Rattle.cc_entry_laws.specs.PresentLinks.{DefinitionOf, DeviceAt, Universal}
use Rattle.cc_policy.specs.declared.policy.Decision.{Decision}
use Rattle.cc_replay.specs.declared.replaying.Replayed.TheVariants.{Agrees, Differs}
use Rattle.cc_replies.specs.ReplyTexts.{Explanation, Reply, PutDone, PutRefused, DropDone, DropRefused, PolicySet}
use Rattle.cc_replies.specs.ReplyTexts.{Verified, Verdicts, Signatures, SignaturesRefused, Derived, DerivationRefused}
use Rattle.cc_replies.specs.ReplyTexts.{Ran, RunRefused, TasksRan, TasksRefused, Audited, AuditRefused, Guarded}
use Rattle.cc_replies.specs.ReplyTexts.{GuardRefused, Explained, ExplainRefused, Replayed, ReplayRefused}
use Rattle.cc_replies.specs.ReplyTexts.{line, reply_text, is_refusal}
use Rattle.cc_runs.specs.Interleavings.{Report}
use Rattle.cc_runs.specs.Runs.{Ending, Ends, IsStopped}
use Rattle.cc_verdicts.specs.ModuleVerdicts.{CheckedDefinition, ModuleVerdict, IsAccepted, IsRefused}

-- the bytes of é, of ñ and of ü, each of which is one code point
abbrev pub accented_e : List ℕ
accented_e = 195 ∷ 169 ∷ []

abbrev pub accented_n : List ℕ
accented_n = 195 ∷ 177 ∷ []

abbrev pub accented_u : List ℕ
accented_u = 195 ∷ 188 ∷ []

-- the module é, its definition ñ, and the devices `out` and ü
abbrev pub owner : List ℕ
owner = 233 ∷ []

abbrev pub definition : List ℕ
definition = 241 ∷ []

abbrev pub devices : List (List ℕ)
devices = codes "out" ∷ (252 ∷ []) ∷ []

abbrev pub third_line : Place
third_line = record { line = 3; col = 7 }

-- types of literals, one with a set of devices
abbrev pub integer : CapturingType
integer = capturing (BaseShape bases.Int) empty

abbrev pub unit_of_device : CapturingType
unit_of_device = capturing (BaseShape bases.Unit) (from_list (Variable (Free 1) ∷ []))

-- the type of a number, with a bind of a certificate
abbrev pub integer_of_bind : CapturingType
integer_of_bind = capturing (BaseShape bases.Int) (from_list (Variable (Free 0) ∷ []))

abbrev pub truth : CapturingType
truth = capturing (BaseShape bases.Bool) empty

-- two definitions, whose types are not their signatures
abbrev pub one : CheckedDefinition
one = record {
  name = definition;
  recursive = false;
  accepted =
      record { note = Absent; filled = LiteralTerm UnitLiteral; type = integer; signature = unit_of_device };
}

abbrev pub two : CheckedDefinition
two = record {
  name = codes "g";
  recursive = true;
  accepted = record { note = Absent; filled = LiteralTerm UnitLiteral; type = integer; signature = truth };
}

abbrev pub events : List Event
events = Operated 0 operations.Print (NumberLiteral (pos 5)) ∷ Entered 3 ∷ []

abbrev pub done : Ending
done = Ends (Done (ShownLiteral UnitLiteral))

-- two tasks, of which one has no fuel left and the other is stuck
abbrev pub report : Report
report = record {
  trace = (1, Entered 3) ∷ (0, Operated 0 operations.Print (NumberLiteral (pos 5))) ∷ [];
  ends = (Ends OutOfFuel, 4) ∷ (IsStopped, 2) ∷ [];
}

abbrev pub decisions : List (ℕ × Decision)
decisions =
    (1, record { allow = true; rule = Some 2 }) ∷ (0, record { allow = false; rule = Some 1 })
    ∷ (0, record { allow = false; rule = None }) ∷ []

-- a device that another definition brings in, and the universal capability
abbrev pub by_device : Explanation
by_device = record {
  target = DeviceAt 1;
  chain = DefinitionOf owner definition ∷ DefinitionOf (codes "m") (codes "f") ∷ DeviceAt 1 ∷ [];
}

abbrev pub by_any : Explanation
by_any = record { target = Universal; chain = DefinitionOf owner definition ∷ Universal ∷ [] }

-- the reply is written as these lines
abbrev pub IsWrittenAs : Reply → List (List ℕ) → Type 0
IsWrittenAs reply lines = reply_text devices reply ≡ flat_map line lines

-- Each reply once: names are written as their bytes, a module's before its definition's, and each line behind the first
-- begins with two spaces.
pub record RepliesAreWritten : Type 0 where
  pub put : IsWrittenAs (PutDone owner) ((codes "put " ++ accented_e) ∷ [])
  pub put_refused : IsWrittenAs (PutRefused owner E30) ((codes "put " ++ accented_e ++ codes " refused E30") ∷ [])
  pub drop : IsWrittenAs (DropDone owner) ((codes "drop " ++ accented_e) ∷ [])
  pub drop_refused : IsWrittenAs (DropRefused owner E32) ((codes "drop " ++ accented_e ++ codes " refused E32") ∷ [])
  pub policy : IsWrittenAs (PolicySet 12) (codes "policy 12" ∷ [])
  -- the type of a certificate names its own binds
  pub valid : IsWrittenAs (Verified (ProvesType (owner ∷ []) integer_of_bind))
      (codes "verify" ∷ (codes "  valid Int^{" ++ accented_e ++ codes "}") ∷ [])
  pub bad_line : IsWrittenAs (Verified (HasBadLine 4)) (codes "verify" ∷ codes "  bad line 4" ∷ [])
  pub bad_node : IsWrittenAs (Verified (HasBadNode 12)) (codes "verify" ∷ codes "  bad node 12" ∷ [])
  pub check : IsWrittenAs (Verdicts ((owner, IsAccepted []) ∷ (definition, IsRefused E15 third_line) ∷ []))
      (codes "check" ∷ (codes "  " ++ accented_e ++ codes " ok") ∷ (codes "  " ++ accented_n ++ codes " E15 3:7")
      ∷ [])
  pub check_none : IsWrittenAs (Verdicts []) (codes "check" ∷ [])
  -- the signature is told, and not the type that was found
  pub signatures : IsWrittenAs (Signatures owner (one ∷ two ∷ []))
      ((codes "sig " ++ accented_e) ∷ (codes "  " ++ accented_n ++ codes ": Unit^{" ++ accented_u ++ codes "}")
      ∷ codes "  g: Bool" ∷ [])
  pub signatures_refused : IsWrittenAs (SignaturesRefused owner E34)
      ((codes "sig " ++ accented_e ++ codes " refused E34") ∷ [])
  pub derived : IsWrittenAs (Derived owner definition (codes "cert 1" ∷ codes "term unit" ∷ []))
      ((codes "derive " ++ accented_e ++ codes "." ++ accented_n) ∷ codes "  cert 1" ∷ codes "  term unit" ∷ [])
  pub derivation_refused : IsWrittenAs (DerivationRefused owner definition E36)
      ((codes "derive " ++ accented_e ++ codes "." ++ accented_n ++ codes " refused E36") ∷ [])
  -- the authority stands first, then the events in order, and then the end
  pub ran : IsWrittenAs (Ran owner definition (1 ∷ 0 ∷ []) events done 9)
      ((codes "run " ++ accented_e ++ codes "." ++ accented_n)
      ∷ (codes "  authority {" ++ accented_u ++ codes ", out}") ∷ codes "  out print 5" ∷ codes "  enter 3"
      ∷ codes "  done unit after 9 steps" ∷ [])
  pub run_refused : IsWrittenAs (RunRefused owner definition E35)
      ((codes "run " ++ accented_e ++ codes "." ++ accented_n ++ codes " refused E35") ∷ [])
  pub tasks : IsWrittenAs (TasksRan ((0 ∷ []) ∷ [] ∷ []) report)
      (codes "tasks" ∷ codes "  0 authority {out}" ∷ codes "  1 authority {}" ∷ codes "  1 enter 3"
      ∷ codes "  0 out print 5" ∷ codes "  0 out of fuel after 4 steps" ∷ codes "  1 stuck after 2 steps" ∷ [])
  pub tasks_refused : IsWrittenAs (TasksRefused E33 owner definition)
      ((codes "tasks refused E33 " ++ accented_e ++ codes "." ++ accented_n) ∷ [])
  pub audited : IsWrittenAs (Audited owner definition decisions)
      ((codes "audit " ++ accented_e ++ codes "." ++ accented_n) ∷ (codes "  " ++ accented_u ++ codes " allow 2")
      ∷ codes "  out deny 1" ∷ codes "  out deny none" ∷ [])
  pub audit_refused : IsWrittenAs (AuditRefused owner definition E35)
      ((codes "audit " ++ accented_e ++ codes "." ++ accented_n ++ codes " refused E35") ∷ [])
  pub guarded : IsWrittenAs (Guarded owner definition (1 ∷ 0 ∷ []) events done 9)
      ((codes "guard " ++ accented_e ++ codes "." ++ accented_n)
      ∷ (codes "  authority {" ++ accented_u ++ codes ", out}") ∷ codes "  out print 5" ∷ codes "  enter 3"
      ∷ codes "  done unit after 9 steps" ∷ [])
  pub guard_refused : IsWrittenAs (GuardRefused owner definition E37)
      ((codes "guard " ++ accented_e ++ codes "." ++ accented_n ++ codes " refused E37") ∷ [])
  pub explained : IsWrittenAs (Explained owner definition (by_device ∷ by_any ∷ []))
      ((codes "explain " ++ accented_e ++ codes "." ++ accented_n)
      ∷ (codes "  " ++ accented_u ++ codes ": " ++ accented_e ++ codes "." ++ accented_n ++ codes " m.f " ++ accented_u)
      ∷ (codes "  cap: " ++ accented_e ++ codes "." ++ accented_n ++ codes " cap") ∷ [])
  pub explain_refused : IsWrittenAs (ExplainRefused owner definition E34)
      ((codes "explain " ++ accented_e ++ codes "." ++ accented_n ++ codes " refused E34") ∷ [])
  pub agrees : IsWrittenAs (Replayed owner definition Agrees)
      ((codes "replay " ++ accented_e ++ codes "." ++ accented_n) ∷ codes "  agrees" ∷ [])
  pub differs : IsWrittenAs (Replayed owner definition (Differs 12))
      ((codes "replay " ++ accented_e ++ codes "." ++ accented_n) ∷ codes "  differs at line 12" ∷ [])
  pub replay_refused : IsWrittenAs (ReplayRefused owner definition E35)
      ((codes "replay " ++ accented_e ++ codes "." ++ accented_n ++ codes " refused E35") ∷ [])

-- Which replies tell of a refusal: those of refused commands, of refused modules, of certificates that are not valid,
-- of runs and tasks that did not come to their ends, and of lines that differ. A denial that an audit tells is none.
pub record RefusalsAreTold : Type 0 where
  pub put : (name : List ℕ) → is_refusal (PutDone name) ≡ false
  pub put_refused : (name : List ℕ) (code : Code) → is_refusal (PutRefused name code) ≡ true
  pub drop : (name : List ℕ) → is_refusal (DropDone name) ≡ false
  pub drop_refused : (name : List ℕ) (code : Code) → is_refusal (DropRefused name code) ≡ true
  pub policy : (count : ℕ) → is_refusal (PolicySet count) ≡ false
  pub valid : (names : List (List ℕ)) (type : CapturingType) → is_refusal (Verified (ProvesType names type)) ≡ false
  pub bad_line : (number : ℕ) → is_refusal (Verified (HasBadLine number)) ≡ true
  pub bad_node : (number : ℕ) → is_refusal (Verified (HasBadNode number)) ≡ true
  pub check_none : is_refusal (Verdicts []) ≡ false
  pub check_refused : (name : List ℕ) (code : Code) (at : Place) (others : List (List ℕ × ModuleVerdict))
      → is_refusal (Verdicts ((name, IsRefused code at) ∷ others)) ≡ true
  pub check_accepted : (name : List ℕ) (definitions : List CheckedDefinition) (others : List (List ℕ × ModuleVerdict))
      → is_refusal (Verdicts ((name, IsAccepted definitions) ∷ others)) ≡ is_refusal (Verdicts others)
  pub signatures : (name : List ℕ) (definitions : List CheckedDefinition)
      → is_refusal (Signatures name definitions) ≡ false
  pub signatures_refused : (name : List ℕ) (code : Code) → is_refusal (SignaturesRefused name code) ≡ true
  pub derived : (module_name name : List ℕ) (lines : List (List ℕ))
      → is_refusal (Derived module_name name lines) ≡ false
  pub derivation_refused : (module_name name : List ℕ) (code : Code)
      → is_refusal (DerivationRefused module_name name code) ≡ true
  pub ran : (module_name name : List ℕ) (authority : List ℕ) (trace : List Event) (shown : Shown) (steps : ℕ)
      → is_refusal (Ran module_name name authority trace (Ends (Done shown)) steps) ≡ false
  pub ran_out : (module_name name : List ℕ) (authority : List ℕ) (trace : List Event) (steps : ℕ)
      → is_refusal (Ran module_name name authority trace (Ends OutOfFuel) steps) ≡ true
  pub ran_stuck : (module_name name : List ℕ) (authority : List ℕ) (trace : List Event) (steps : ℕ)
      → is_refusal (Ran module_name name authority trace IsStopped steps) ≡ true
  pub run_refused : (module_name name : List ℕ) (code : Code) → is_refusal (RunRefused module_name name code) ≡ true
  pub no_tasks : (authorities : List (List ℕ)) (trace : List (ℕ × Event))
      → is_refusal (TasksRan authorities (record { trace = trace; ends = [] })) ≡ false
  pub task_done : (authorities : List (List ℕ)) (trace : List (ℕ × Event)) (shown : Shown) (steps : ℕ)
      (others : List (Ending × ℕ))
      → is_refusal (TasksRan authorities (record { trace = trace; ends = (Ends (Done shown), steps) ∷ others }))
      ≡ is_refusal (TasksRan authorities (record { trace = trace; ends = others }))
  pub task_out : (authorities : List (List ℕ)) (trace : List (ℕ × Event)) (steps : ℕ) (others : List (Ending × ℕ))
      → is_refusal (TasksRan authorities (record { trace = trace; ends = (Ends OutOfFuel, steps) ∷ others })) ≡ true
  pub task_stuck : (authorities : List (List ℕ)) (trace : List (ℕ × Event)) (steps : ℕ) (others : List (Ending × ℕ))
      → is_refusal (TasksRan authorities (record { trace = trace; ends = (IsStopped, steps) ∷ others })) ≡ true
  pub tasks_refused : (module_name name : List ℕ) (code : Code)
      → is_refusal (TasksRefused code module_name name) ≡ true
  pub audited : (module_name name : List ℕ) (decided : List (ℕ × Decision))
      → is_refusal (Audited module_name name decided) ≡ false
  pub audit_refused : (module_name name : List ℕ) (code : Code)
      → is_refusal (AuditRefused module_name name code) ≡ true
  pub guarded : (module_name name : List ℕ) (authority : List ℕ) (trace : List Event) (shown : Shown) (steps : ℕ)
      → is_refusal (Guarded module_name name authority trace (Ends (Done shown)) steps) ≡ false
  pub guarded_out : (module_name name : List ℕ) (authority : List ℕ) (trace : List Event) (steps : ℕ)
      → is_refusal (Guarded module_name name authority trace (Ends OutOfFuel) steps) ≡ true
  pub guarded_stuck : (module_name name : List ℕ) (authority : List ℕ) (trace : List Event) (steps : ℕ)
      → is_refusal (Guarded module_name name authority trace IsStopped steps) ≡ true
  pub guard_refused : (module_name name : List ℕ) (code : Code)
      → is_refusal (GuardRefused module_name name code) ≡ true
  pub explained : (module_name name : List ℕ) (explanations : List Explanation)
      → is_refusal (Explained module_name name explanations) ≡ false
  pub explain_refused : (module_name name : List ℕ) (code : Code)
      → is_refusal (ExplainRefused module_name name code) ≡ true
  pub agrees : (module_name name : List ℕ) → is_refusal (Replayed module_name name Agrees) ≡ false
  pub differs : (module_name name : List ℕ) (number : ℕ)
      → is_refusal (Replayed module_name name (Differs number)) ≡ true
  pub replay_refused : (module_name name : List ℕ) (code : Code)
      → is_refusal (ReplayRefused module_name name code) ≡ true
