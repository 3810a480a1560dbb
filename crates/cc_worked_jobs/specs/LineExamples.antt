-- The lines of a job, word by word: what is a line of each kind, and what is none.
use Rattle.std.specs.Prelude.{ℕ, pos, true, false, List, [], ◌∷◌, ◌++◌, Some, codes}
use Rattle.cc_base.specs.declared.device.Kind.TheVariants.{Console, File, Counter}
use Rattle.cc_job.specs.declared.job.Command.TheVariants.{Put, Drop, Sig, Derive, Run, Tasks, Verify, Policy}
use Rattle.cc_job.specs.declared.job.Command.TheVariants.{Audit, Guard, Explain, Replay}
use Rattle.cc_job.specs.JobExamples.{rule}
use Rattle.cc_job.specs.Jobs.{IsJob, IsBadAt, text}
use Rattle.cc_job.specs.LimitExamples.{Commands, Declares, IsRefused, IsNoRule}

-- Where the name of a module stands alone, a reserved word, a numeral, a word with a sign in it and the word for any
-- are none.
abbrev pub ModulesHaveNames : Type 0
ModulesHaveNames =
    IsRefused (codes "put val 0") × IsRefused (codes "put 5 0") × IsRefused (codes "put m-n 0")
    × IsRefused (codes "put * 0") × IsRefused (codes "drop val") × IsRefused (codes "drop 5")
    × IsRefused (codes "drop m-n") × IsRefused (codes "drop *") × IsRefused (codes "sig val")
    × IsRefused (codes "sig 5") × IsRefused (codes "sig m-n") × IsRefused (codes "sig *")

-- Of a definition both names are names: that of its module, and its own.
abbrev pub DerivedDefinitionsHaveNames : Type 0
DerivedDefinitionsHaveNames =
    IsRefused (codes "derive val.f") × IsRefused (codes "derive m.val") × IsRefused (codes "derive 5.f")
    × IsRefused (codes "derive m.5") × IsRefused (codes "derive .f") × IsRefused (codes "derive m.")
    × IsRefused (codes "derive *.f") × IsRefused (codes "derive m.*")

abbrev pub RunDefinitionsHaveNames : Type 0
RunDefinitionsHaveNames =
    IsRefused (codes "run val.f 1") × IsRefused (codes "run m.val 1") × IsRefused (codes "run 5.f 1")
    × IsRefused (codes "run m.5 1") × IsRefused (codes "run .f 1") × IsRefused (codes "run m. 1")
    × IsRefused (codes "run *.f 1") × IsRefused (codes "run m.* 1")

abbrev pub TaskDefinitionsHaveNames : Type 0
TaskDefinitionsHaveNames =
    IsRefused (codes "tasks 1 0 val.f") × IsRefused (codes "tasks 1 0 m.val") × IsRefused (codes "tasks 1 0 5.f")
    × IsRefused (codes "tasks 1 0 m.5") × IsRefused (codes "tasks 1 0,1 m.f val.g")
    × IsRefused (codes "tasks 1 0,1 m.f m.val")

abbrev pub AuditedDefinitionsHaveNames : Type 0
AuditedDefinitionsHaveNames =
    IsRefused (codes "audit val.f") × IsRefused (codes "audit m.val") × IsRefused (codes "audit 5.f")
    × IsRefused (codes "audit m.5") × IsRefused (codes "audit *.f") × IsRefused (codes "audit m.*")

abbrev pub GuardedDefinitionsHaveNames : Type 0
GuardedDefinitionsHaveNames =
    IsRefused (codes "guard val.f 1") × IsRefused (codes "guard m.val 1") × IsRefused (codes "guard 5.f 1")
    × IsRefused (codes "guard m.5 1") × IsRefused (codes "guard *.f 1") × IsRefused (codes "guard m.* 1")

abbrev pub ExplainedDefinitionsHaveNames : Type 0
ExplainedDefinitionsHaveNames =
    IsRefused (codes "explain val.f") × IsRefused (codes "explain m.val") × IsRefused (codes "explain 5.f")
    × IsRefused (codes "explain m.5") × IsRefused (codes "explain *.f") × IsRefused (codes "explain m.*")

abbrev pub ReplayedDefinitionsHaveNames : Type 0
ReplayedDefinitionsHaveNames =
    IsRefused (codes "replay val.f 1 0") × IsRefused (codes "replay m.val 1 0") × IsRefused (codes "replay 5.f 1 0")
    × IsRefused (codes "replay m.5 1 0") × IsRefused (codes "replay *.f 1 0") × IsRefused (codes "replay m.* 1 0")

-- a device has a name too
abbrev pub DevicesHaveNames : Type 0
DevicesHaveNames =
    IsRefused (codes "device val console") × IsRefused (codes "device 5 counter") × IsRefused (codes "device m-n file")
    × IsRefused (codes "device * console") × IsRefused (codes "device true file 1")

-- and a rule is about what has a name, or about any
abbrev pub RulesHaveNames : Type 0
RulesHaveNames =
    IsNoRule (codes "allow val *") × IsNoRule (codes "allow * val") × IsNoRule (codes "allow 5 *")
    × IsNoRule (codes "allow * 5") × IsNoRule (codes "allow m-n d") × IsNoRule (codes "allow m d-e")
    × IsNoRule (codes "allow m.f d") × IsNoRule (codes "allow  d") × IsNoRule (codes "allow m ")

-- A schedule has numbers of tasks alone: a number of none is refused beside all that there are, in each place.
abbrev pub SchedulesHaveTasksAlone : Type 0
SchedulesHaveTasksAlone =
    IsRefused (codes "tasks 1 0,1 m.f") × IsRefused (codes "tasks 1 1,0 m.f")
    × IsRefused (codes "tasks 1 0,1,2 m.f m.g") × IsRefused (codes "tasks 1 2,1,0 m.f m.g")
    × IsRefused (codes "tasks 1 0,9,1 m.f m.g")
    × IsRefused (codes "tasks 1 0,1,2,8,3,4,5,6,7 m.a m.b m.c m.d m.e m.f m.g m.h")
    × Commands (codes "tasks 1 1,0 m.f n.g")
    (Tasks 1 (1 ∷ 0 ∷ []) ((codes "m", codes "f") ∷ (codes "n", codes "g") ∷ []))

-- Numbers in a schedule stand apart by one comma, and each is written as other numbers are.
abbrev pub SchedulesAreWords : Type 0
SchedulesAreWords =
    IsRefused (codes "tasks 1 0,,1 m.f m.g") × IsRefused (codes "tasks 1 ,0,1 m.f m.g")
    × IsRefused (codes "tasks 1 0,1, m.f m.g") × IsRefused (codes "tasks 1 0, 1 m.f m.g")
    × IsRefused (codes "tasks 1 0;1 m.f m.g") × IsRefused (codes "tasks 1 01,0 m.f m.g")
    × IsRefused (codes "tasks 1 -0,1 m.f m.g") × IsRefused (codes "tasks 1  m.f")

-- Each command has its own words, no fewer and no more, and in their order.
abbrev pub ModuleCommandsHaveTheirWords : Type 0
ModuleCommandsHaveTheirWords =
    IsRefused (codes "put") × IsRefused (codes "put m") × IsRefused (codes "put m 0 0") × IsRefused (codes "put 0 m")
    × IsRefused (codes "put m.f 0") × IsRefused (codes "put m +0") × IsRefused (codes "put m 00")
    × IsRefused (codes "drop") × IsRefused (codes "drop m n") × IsRefused (codes "drop m.f")
    × IsRefused (codes "check m") × IsRefused (codes "sig") × IsRefused (codes "sig m n") × IsRefused (codes "sig m.f")

abbrev pub DefinitionCommandsHaveTheirWords : Type 0
DefinitionCommandsHaveTheirWords =
    IsRefused (codes "derive") × IsRefused (codes "derive m") × IsRefused (codes "derive m f")
    × IsRefused (codes "derive m.f.g") × IsRefused (codes "derive m.f 1") × IsRefused (codes "run")
    × IsRefused (codes "run m.f") × IsRefused (codes "run m 1") × IsRefused (codes "run m f 1")
    × IsRefused (codes "run m.f.g 1") × IsRefused (codes "run m.f 1 1") × IsRefused (codes "run 1 m.f")

abbrev pub TaskCommandsHaveTheirWords : Type 0
TaskCommandsHaveTheirWords =
    IsRefused (codes "tasks") × IsRefused (codes "tasks 1") × IsRefused (codes "tasks 0 m.f")
    × IsRefused (codes "tasks 1 0 m") × IsRefused (codes "tasks 1 0 m f") × IsRefused (codes "tasks 1 0 m.f 1")
    × IsRefused (codes "tasks m.f 1 0") × IsRefused (codes "tasks 1 m.f 0")

abbrev pub PolicyCommandsHaveTheirWords : Type 0
PolicyCommandsHaveTheirWords =
    IsRefused (codes "audit") × IsRefused (codes "audit m f") × IsRefused (codes "guard")
    × IsRefused (codes "guard m 1") × IsRefused (codes "guard m f 1") × IsRefused (codes "guard m.f.g 1")
    × IsRefused (codes "guard m.f 1 1") × IsRefused (codes "guard 1 m.f") × IsRefused (codes "policy -1")
    × IsRefused (codes "policy m") × IsRefused (codes "verify -0") × IsRefused (codes "verify 1 1")

abbrev pub OtherCommandsHaveTheirWords : Type 0
OtherCommandsHaveTheirWords =
    IsRefused (codes "explain m f") × IsRefused (codes "replay") × IsRefused (codes "replay m.f.g 1 0")
    × IsRefused (codes "replay 1 m.f 0") × IsRefused (codes "replay 1 0 m.f") × IsRefused (codes "replay m f 1 0")

-- A device is a console, a counter or a file, and a file alone has numbers, or none.
abbrev pub DevicesHaveTheirWords : Type 0
DevicesHaveTheirWords =
    IsRefused (codes "device") × IsRefused (codes "device d") × IsRefused (codes "device console")
    × IsRefused (codes "device d pipe") × IsRefused (codes "device d Console")
    × IsRefused (codes "device d console 1") × IsRefused (codes "device d counter 1")
    × IsRefused (codes "device d console d") × IsRefused (codes "device d file 1  2")
    × IsRefused (codes "device d file m") × IsRefused (codes "device d file 1,2")
    × Declares (codes "device d console") (record { name = codes "d"; kind = Console })
    × Declares (codes "device d counter") (record { name = codes "d"; kind = Counter })
    × Declares (codes "device d file") (record { name = codes "d"; kind = File [] })
    × Declares (codes "device d file 0 0") (record { name = codes "d"; kind = File (pos 0 ∷ pos 0 ∷ []) })

-- No other word begins a line, and no space, tab or carriage return stands before or behind its words.
abbrev pub LinesAreWords : Type 0
LinesAreWords =
    IsRefused (codes "checks") × IsRefused (codes "Check") × IsRefused (codes "capc 1") × IsRefused (codes "allow m d")
    × IsRefused (codes "devices d console") × IsRefused (codes " check") × IsRefused (codes "check ")
    × IsRefused (codes " ") × IsRefused (9 ∷ codes "check") × IsRefused (codes "check" ++ 9 ∷ [])
    × IsRefused (codes "check" ++ 13 ∷ []) × IsRefused (13 ∷ []) × IsRefused (codes "drop" ++ 9 ∷ codes "m")

-- Bytes that are no UTF-8 are no name: a lone byte of a longer code, one that is cut off, and one that begins none.
abbrev pub NamesAreText : Type 0
NamesAreText =
    IsRefused (codes "drop " ++ 169 ∷ []) × IsRefused (codes "drop m" ++ 195 ∷ [])
    × IsRefused (codes "drop m" ++ 255 ∷ []) × IsRefused (codes "sig " ++ 237 ∷ 160 ∷ 128 ∷ [])

-- the bytes of the name é, which is one code point
abbrev pub accented : List ℕ
accented = 195 ∷ 169 ∷ []

-- Names are code points, and lines are their bytes: wherever a name may stand.
abbrev pub NamesAreEncoded : Type 0
NamesAreEncoded =
    Declares (codes "device " ++ accented ++ codes " console") (record { name = 233 ∷ []; kind = Console })
    × Commands (codes "put " ++ accented ++ codes " 0") (Put (233 ∷ []) [])
    × Commands (codes "drop " ++ accented) (Drop (233 ∷ []))
    × Commands (codes "sig " ++ accented) (Sig (233 ∷ []))
    × Commands (codes "derive " ++ accented ++ codes ".f") (Derive (233 ∷ []) (codes "f"))
    × Commands (codes "derive f." ++ accented) (Derive (codes "f") (233 ∷ []))
    × Commands (codes "run f." ++ accented ++ codes " 1") (Run (codes "f") (233 ∷ []) 1)
    × Commands (codes "run " ++ accented ++ codes ".f 1") (Run (233 ∷ []) (codes "f") 1)
    × Commands (codes "tasks 1 0 f." ++ accented) (Tasks 1 (0 ∷ []) ((codes "f", 233 ∷ []) ∷ []))
    × Commands (codes "audit " ++ accented ++ codes ".f") (Audit (233 ∷ []) (codes "f"))
    × Commands (codes "guard f." ++ accented ++ codes " 1") (Guard (codes "f") (233 ∷ []) 1)
    × Commands (codes "explain " ++ accented ++ codes ".f") (Explain (233 ∷ []) (codes "f"))
    × Commands (codes "replay f." ++ accented ++ codes " 1 0") (Replay (codes "f") (233 ∷ []) 1 [])

-- so are those of rules
abbrev pub RulesAreEncoded : Type 0
RulesAreEncoded =
    IsJob
    (text
    (codes "capc 1" ∷ codes "policy 2" ∷ (codes "allow " ++ accented ++ codes " d") ∷ (codes "deny m " ++ accented)
    ∷ []))
    (record {
      devices = [];
      commands =
          Policy
          (rule true (Some (233 ∷ [])) (Some (codes "d")) ∷ rule false (Some (codes "m")) (Some (233 ∷ [])) ∷ [])
          ∷ [];
    })

-- The lines behind a put, a certificate or a trace are any bytes, also such as are no text, and no words.
abbrev pub TextsAreAnyBytes : Type 0
TextsAreAnyBytes =
    IsJob (text (codes "capc 1" ∷ codes "put m 1" ∷ (255 ∷ 0 ∷ 13 ∷ 32 ∷ 32 ∷ []) ∷ []))
    (record { devices = []; commands = Put (codes "m") (255 ∷ 0 ∷ 13 ∷ 32 ∷ 32 ∷ 10 ∷ []) ∷ [] })
    × IsJob (text (codes "capc 1" ∷ codes "verify 1" ∷ (128 ∷ 9 ∷ 13 ∷ []) ∷ []))
    (record { devices = []; commands = Verify (128 ∷ 9 ∷ 13 ∷ 10 ∷ []) ∷ [] })
    × IsJob (text (codes "capc 1" ∷ codes "replay m.f 1 2" ∷ (195 ∷ []) ∷ [] ∷ []))
    (record { devices = []; commands = Replay (codes "m") (codes "f") 1 (195 ∷ 10 ∷ 10 ∷ []) ∷ [] })

-- Names that differ in the case of a letter alone are different ones, and a device and a module may have one name.
abbrev pub NamesMayBeAlike : Type 0
NamesMayBeAlike =
    IsJob
    (text
    (codes "capc 1" ∷ codes "device out console" ∷ codes "device Out console" ∷ codes "put out 0" ∷ codes "drop check"
    ∷ []))
    (record {
      devices =
          record { name = codes "out"; kind = Console } ∷ record { name = codes "Out"; kind = Console } ∷ [];
      commands = Put (codes "out") [] ∷ Drop (codes "check") ∷ [];
    })

-- the text of a job with this first line, and a command behind it
abbrev pub BeginsNoJob : List ℕ → Type 0
BeginsNoJob line = IsBadAt (text (line ∷ codes "check" ∷ [])) 1

-- The first line is `capc 1`, and nothing else: no line stands before it, not even an empty one.
abbrev pub JobsHaveTheirFirstLine : Type 0
JobsHaveTheirFirstLine =
    BeginsNoJob [] × BeginsNoJob (codes "capc 2") × BeginsNoJob (codes "capc") × BeginsNoJob (codes "capc 1 ")
    × BeginsNoJob (codes " capc 1") × BeginsNoJob (codes "Capc 1") × BeginsNoJob (codes "capc  1")
    × BeginsNoJob (codes "capc 1" ++ 13 ∷ []) × BeginsNoJob (codes "capc 11") × BeginsNoJob (codes "check")
    × BeginsNoJob (codes "capc 01")

-- the first of two bad lines is told
abbrev pub FirstBadLineIsTold : Type 0
FirstBadLineIsTold =
    IsBadAt (text (codes "capc 1" ∷ codes "check" ∷ codes "drop val" ∷ codes "drop 5" ∷ [])) 3
    × IsBadAt (text (codes "capc 1" ∷ [] ∷ [] ∷ codes "drop 5" ∷ codes "check" ∷ [])) 4
