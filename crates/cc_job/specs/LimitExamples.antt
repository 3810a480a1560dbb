-- The limits of jobs, each on both of its sides.
use Rattle.std.specs.Prelude.{ℕ, List, [], ◌∷◌, ◌++◌, map, replicate, ℤ, pos, negsuc, false, None, codes}
use Rattle.std.specs.Fmt.{decimal}
use Rattle.cc_base.specs.declared.device.Kind.TheVariants.{Console, File}
use Rattle.cc_base.specs.declared.device.DeviceDecl.{DeviceDecl}
use Rattle.cc_job.specs.declared.job.Command.{Command}
use Rattle.cc_job.specs.declared.job.Command.TheVariants.{Put, Check, Run, Tasks, Verify, Policy, Guard, Replay}
use Rattle.cc_words.specs.Words.{joined}
use Rattle.cc_job.specs.Jobs.{IsJob, IsBadAt, text}
use Rattle.cc_job.specs.JobExamples.{rule}

-- the text of a job with this one line behind its first
abbrev pub with_line : List ℕ → List ℕ
with_line line = text (codes "capc 1" ∷ line ∷ [])

-- the text is a job with this one command
abbrev pub Commands : List ℕ → Command → Type 0
Commands line command = IsJob (with_line line) (record { devices = []; commands = command ∷ [] })

-- the text is a job with this one device
abbrev pub Declares : List ℕ → DeviceDecl → Type 0
Declares line device = IsJob (with_line line) (record { devices = device ∷ []; commands = [] })

-- the line, which is the second, begins no job
abbrev pub IsRefused : List ℕ → Type 0
IsRefused line = IsBadAt (with_line line) 2

-- m.f as an entry, and how it is written
abbrev pub entry : List ℕ × List ℕ
entry = (codes "m", codes "f")

-- tasks of one entry, which is turned to so often
abbrev pub turns_line : ℕ → List ℕ
turns_line count = codes "tasks 1 " ++ joined 44 (replicate count (codes "0")) ++ codes " m.f"

-- a schedule of 64 numbers, and one of 65
abbrev pub ScheduleLimit : Type 0
ScheduleLimit = Commands (turns_line 64) (Tasks 1 (replicate 64 0) (entry ∷ [])) × IsRefused (turns_line 65)

-- eight entries, and nine
abbrev pub EntryLimit : Type 0
EntryLimit =
    Commands (codes "tasks 1 0,1,2,3,4,5,6,7 m.f m.f m.f m.f m.f m.f m.f m.f")
    (Tasks 1 (0 ∷ 1 ∷ 2 ∷ 3 ∷ 4 ∷ 5 ∷ 6 ∷ 7 ∷ []) (replicate 8 entry))
    × IsRefused (codes "tasks 1 0,1,2,3,4,5,6,7,8 m.f m.f m.f m.f m.f m.f m.f m.f m.f")

-- no entry at all
abbrev pub NoEntry : Type 0
NoEntry = IsRefused (codes "tasks 1 0")

-- the fuel of tasks: nothing, 1,000,000 and one more
abbrev pub TasksFuelLimit : Type 0
TasksFuelLimit =
    Commands (codes "tasks 0 0 m.f") (Tasks 0 (0 ∷ []) (entry ∷ []))
    × Commands (codes "tasks 1000000 0 m.f") (Tasks 1000000 (0 ∷ []) (entry ∷ []))
    × IsRefused (codes "tasks 1000001 0 m.f")

-- the fuel of a run: nothing, 1,000,000 and one more
abbrev pub RunFuelLimit : Type 0
RunFuelLimit =
    Commands (codes "run m.f 0") (Run (codes "m") (codes "f") 0)
    × Commands (codes "run m.f 1000000") (Run (codes "m") (codes "f") 1000000)
    × IsRefused (codes "run m.f 1000001")

-- numbers with a zero before them, or with a sign
abbrev pub FuelForms : Type 0
FuelForms =
    IsRefused (codes "run m.f 01") × IsRefused (codes "run m.f 00") × IsRefused (codes "run m.f +1")
    × IsRefused (codes "run m.f -0") × IsRefused (codes "tasks 01 0 m.f")

-- a schedule names no entry, leaves one out, or writes a task with two digits
abbrev pub ScheduleForms : Type 0
ScheduleForms =
    IsRefused (codes "tasks 1 0,2 m.f m.f") × IsRefused (codes "tasks 1 0,0 m.f m.f")
    × IsRefused (codes "tasks 1 0,00 m.f")

abbrev pub file : ℤ → DeviceDecl
file number = record { name = codes "d"; kind = File (number ∷ []) }

-- the least number of a file, and one less; the greatest, and one more
abbrev pub FileNumberLimit : Type 0
FileNumberLimit =
    Declares (codes "device d file -9223372036854775808") (file (negsuc 9223372036854775807))
    × IsRefused (codes "device d file -9223372036854775809")
    × Declares (codes "device d file 9223372036854775807") (file (pos 9223372036854775807))
    × IsRefused (codes "device d file 9223372036854775808")

-- a zero with a minus, two zeros, and a plus
abbrev pub FileNumberForms : Type 0
FileNumberForms =
    IsRefused (codes "device d file -0") × IsRefused (codes "device d file 00") × IsRefused (codes "device d file +1")

-- d0, d1 and so on
abbrev pub numbered_names : List (List ℕ)
numbered_names =
    map (λ number. codes "d" ++ decimal number)
    (0 ∷ 1 ∷ 2 ∷ 3 ∷ 4 ∷ 5 ∷ 6 ∷ 7 ∷ 8 ∷ 9 ∷ 10 ∷ 11 ∷ 12 ∷ 13 ∷ 14 ∷ 15 ∷ [])

-- the lines that declare consoles of these names
abbrev pub console_lines : List (List ℕ) → List (List ℕ)
console_lines names = map (λ name. codes "device " ++ name ++ codes " console") names

-- 16 devices, and 17: the line of the last one begins no job
abbrev pub DeviceLimit : Type 0
DeviceLimit =
    IsJob (text (codes "capc 1" ∷ console_lines numbered_names ++ codes "check" ∷ []))
    (record { devices = map (λ name. record { name = name; kind = Console }) numbered_names; commands = Check ∷ [] })
    × IsBadAt (text (codes "capc 1" ∷ console_lines numbered_names ++ codes "device e console" ∷ codes "check" ∷ [])) 18

-- A text of 4,194,304 lines may follow, and here none does: the bad line is the one behind the last. No text has a
-- line more.
abbrev pub TextLineLimit : Type 0
TextLineLimit = IsBadAt (with_line (codes "put m 4194304")) 3 × IsRefused (codes "put m 4194305")

-- The lines behind a put are its text, also one that could be a command. With one line fewer the text is cut short; of
-- one line more, the last is read as a command.
abbrev pub TextLineCounts : Type 0
TextLineCounts =
    IsJob (text (codes "capc 1" ∷ codes "put m 2" ∷ codes "a" ∷ codes "check" ∷ []))
    (record { devices = []; commands = Put (codes "m") (text (codes "a" ∷ codes "check" ∷ [])) ∷ [] })
    × IsBadAt (text (codes "capc 1" ∷ codes "put m 2" ∷ codes "a" ∷ [])) 4
    × IsBadAt (text (codes "capc 1" ∷ codes "put m 1" ∷ codes "a" ∷ codes "b" ∷ [])) 4

-- A certificate of 4,194,304 lines may follow, and here none does. None has a line more, and the number is written as
-- others are.
abbrev pub CertificateLineLimit : Type 0
CertificateLineLimit =
    IsBadAt (with_line (codes "verify 4194304")) 3 × IsRefused (codes "verify 4194305")
    × IsRefused (codes "verify 01") × IsRefused (codes "verify") × IsRefused (codes "verify m 1")

-- The lines behind it are its text. It is cut short by a line fewer, and where its last line has no line feed; of one
-- line more, the last is read as a command.
abbrev pub CertificateLineCounts : Type 0
CertificateLineCounts =
    IsJob (text (codes "capc 1" ∷ codes "verify 1" ∷ codes "check" ∷ []))
    (record { devices = []; commands = Verify (text (codes "check" ∷ [])) ∷ [] })
    × IsBadAt (text (codes "capc 1" ∷ codes "verify 2" ∷ codes "a" ∷ [])) 4
    × IsBadAt (text (codes "capc 1" ∷ codes "verify 2" ∷ codes "a" ∷ []) ++ codes "b") 5
    × IsBadAt (text (codes "capc 1" ∷ codes "verify 1" ∷ codes "a" ∷ codes "b" ∷ [])) 4

-- A policy of 256 rules. None has a rule more, and the number is written as others are.
abbrev pub RuleLimit : Type 0
RuleLimit =
    IsJob (text (codes "capc 1" ∷ codes "policy 256" ∷ replicate 256 (codes "deny * *")))
    (record { devices = []; commands = Policy (replicate 256 (rule false None None)) ∷ [] })
    × IsRefused (codes "policy 257") × IsRefused (codes "policy 01") × IsRefused (codes "policy")
    × IsRefused (codes "policy 1 1")

-- With a rule fewer the policy is cut short, and no line is bad, also where the last one has no line feed; of one rule
-- more, the last is read as a command.
abbrev pub RuleCounts : Type 0
RuleCounts =
    IsBadAt (text (codes "capc 1" ∷ codes "policy 2" ∷ codes "deny m *" ∷ [])) 4
    × IsBadAt (text (codes "capc 1" ∷ codes "policy 2" ∷ []) ++ codes "deny m *") 4
    × IsBadAt (text (codes "capc 1" ∷ codes "policy 1" ∷ [])) 3
    × IsBadAt (text (codes "capc 1" ∷ codes "policy 1" ∷ codes "deny m *" ∷ codes "deny * *" ∷ [])) 4

-- A line that is no rule is the bad one, whether it is the first of three, the second or the last. It is that also
-- where fewer lines follow than should.
abbrev pub RulePlaces : Type 0
RulePlaces =
    IsBadAt (text (codes "capc 1" ∷ codes "policy 3" ∷ codes "deny m" ∷ codes "deny m *" ∷ codes "deny * *" ∷ [])) 3
    × IsBadAt (text (codes "capc 1" ∷ codes "policy 3" ∷ codes "deny m *" ∷ codes "deny m" ∷ codes "deny * *" ∷ [])) 4
    × IsBadAt (text (codes "capc 1" ∷ codes "policy 3" ∷ codes "deny m *" ∷ codes "deny * *" ∷ codes "deny m" ∷ [])) 5
    × IsBadAt (text (codes "capc 1" ∷ codes "check" ∷ codes "policy 9" ∷ codes "deny m *" ∷ codes "deny m" ∷ [])) 5

-- the line, which is the second of a policy, is no rule
abbrev pub IsNoRule : List ℕ → Type 0
IsNoRule line = IsBadAt (text (codes "capc 1" ∷ codes "policy 2" ∷ codes "deny m *" ∷ line ∷ [])) 4

-- a second space, a space behind the words, a fourth word, a capital, an empty line, a carriage return, a reserved word
-- as a name, what is neither a name nor the word for any, and a command
abbrev pub RuleForms : Type 0
RuleForms =
    IsNoRule (codes "deny  m *") × IsNoRule (codes "deny m * ") × IsNoRule (codes "deny m * d")
    × IsNoRule (codes "Deny m *") × IsNoRule [] × IsNoRule (codes "deny m *" ++ 13 ∷ [])
    × IsNoRule (codes "deny val *") × IsNoRule (codes "deny m *x") × IsNoRule (codes "deny ** m")
    × IsNoRule (codes "check")

-- the fuel of a guarded run: nothing, 1,000,000 and one more
abbrev pub GuardFuelLimit : Type 0
GuardFuelLimit =
    Commands (codes "guard m.f 0") (Guard (codes "m") (codes "f") 0)
    × Commands (codes "guard m.f 1000000") (Guard (codes "m") (codes "f") 1000000)
    × IsRefused (codes "guard m.f 1000001")

-- an audit of a module alone, of three names, or with fuel; a guarded run without fuel, or with a zero before it
abbrev pub AuditForms : Type 0
AuditForms =
    IsRefused (codes "audit m") × IsRefused (codes "audit m.f.g") × IsRefused (codes "audit m.f 1")
    × IsRefused (codes "guard m.f") × IsRefused (codes "guard m.f 01")

-- the fuel of a replayed run: nothing, 1,000,000 and one more
abbrev pub ReplayFuelLimit : Type 0
ReplayFuelLimit =
    Commands (codes "replay m.f 0 0") (Replay (codes "m") (codes "f") 0 [])
    × Commands (codes "replay m.f 1000000 0") (Replay (codes "m") (codes "f") 1000000 [])
    × IsRefused (codes "replay m.f 1000001 0")

-- A trace of 4,194,304 lines may follow, and here none does. None has a line more.
abbrev pub TraceLineLimit : Type 0
TraceLineLimit = IsBadAt (with_line (codes "replay m.f 1 4194304")) 3 × IsRefused (codes "replay m.f 1 4194305")

-- The lines behind it are its text. It is cut short by a line fewer, and where its last line has no line feed; of one
-- line more, the last is read as a command.
abbrev pub TraceLineCounts : Type 0
TraceLineCounts =
    IsJob (text (codes "capc 1" ∷ codes "replay m.f 1 1" ∷ codes "check" ∷ []))
    (record { devices = []; commands = Replay (codes "m") (codes "f") 1 (text (codes "check" ∷ [])) ∷ [] })
    × IsBadAt (text (codes "capc 1" ∷ codes "replay m.f 1 2" ∷ codes "a" ∷ [])) 4
    × IsBadAt (text (codes "capc 1" ∷ codes "replay m.f 1 2" ∷ codes "a" ∷ []) ++ codes "b") 5
    × IsBadAt (text (codes "capc 1" ∷ codes "replay m.f 1 1" ∷ codes "a" ∷ codes "b" ∷ [])) 4

-- without the number of lines, without fuel, with a zero before either number, with a module alone, a word too many, and
-- two spaces between words
abbrev pub ReplayForms : Type 0
ReplayForms =
    IsRefused (codes "replay m.f 1") × IsRefused (codes "replay m.f") × IsRefused (codes "replay m.f 1 01")
    × IsRefused (codes "replay m.f 01 1") × IsRefused (codes "replay m 1 0") × IsRefused (codes "replay m.f 1 0 0")
    × IsRefused (codes "replay m.f  1 0")

-- of a module alone, of three names, with fuel, or of nothing
abbrev pub ExplainForms : Type 0
ExplainForms =
    IsRefused (codes "explain m") × IsRefused (codes "explain m.f.g") × IsRefused (codes "explain m.f 3")
    × IsRefused (codes "explain")
