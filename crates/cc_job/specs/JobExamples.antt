-- Worked jobs, and bytes that are none.
use Rattle.std.specs.Prelude.{ℕ, pos, negsuc, Bool, true, false, List, [], ◌∷◌, ◌++◌, Option, Some, None, codes}
use Rattle.cc_base.specs.declared.device.Kind.TheVariants.{Console, File, Counter}
use Rattle.cc_job.specs.declared.job.Command.TheVariants.{Put, Drop, Check, Sig, Derive, Run, Tasks, Verify, Policy, Audit, Guard, Explain, Replay}
use Rattle.cc_policy.specs.declared.policy.Rule.{Rule}
use Rattle.cc_job.specs.Jobs.{IsJob, IsBadAt, text}

-- the shortest job, whose line stands without its line feed
abbrev pub ShortestJob : Type 0
ShortestJob = IsJob (codes "capc 1") (record { devices = []; commands = [] })

-- all devices and commands; empty lines are skipped, but in the text of a put
abbrev pub LongJob : Type 0
LongJob =
    IsJob
    (text (
    codes "capc 1" ∷ [] ∷ codes "device out console" ∷ codes "device in file 7 -3 0" ∷ codes "device n counter" ∷
    codes "put m 2" ∷ [] ∷ codes "def  x" ∷ codes "put e 0" ∷ codes "drop e" ∷ [] ∷ codes "check" ∷ codes "sig m" ∷
    codes "derive m.f" ∷ codes "run m.f 1000000" ∷ []) ++ codes "tasks 10 0,1,0 m.f m.g")
    (record {
      devices =
          record { name = codes "out"; kind = Console } ∷
          record { name = codes "in"; kind = File (pos 7 ∷ negsuc 2 ∷ pos 0 ∷ []) } ∷
          record { name = codes "n"; kind = Counter } ∷ [];
      commands =
          Put (codes "m") (10 ∷ codes "def  x" ++ 10 ∷ []) ∷ Put (codes "e") [] ∷ Drop (codes "e") ∷ Check ∷
          Sig (codes "m") ∷ Derive (codes "m") (codes "f") ∷ Run (codes "m") (codes "f") 1000000 ∷
          Tasks 10 (0 ∷ 1 ∷ 0 ∷ []) ((codes "m", codes "f") ∷ (codes "m", codes "g") ∷ []) ∷ [];
    })

-- a text that is verified: an empty line counts, spaces are free, and what could be a command is none
abbrev pub CertificateJob : Type 0
CertificateJob =
    IsJob
    (text (codes "capc 1" ∷ codes "verify 3" ∷ [] ∷ codes " a  b" ∷ codes "check" ∷ [] ∷ codes "verify 0" ∷ []))
    (record {
      devices = [];
      commands = Verify (text ([] ∷ codes " a  b" ∷ codes "check" ∷ [])) ∷ Verify [] ∷ [];
    })

abbrev pub rule : Bool → Option (List ℕ) → Option (List ℕ) → Rule
rule allow owner device = record { allow = allow; «module» = owner; device = device }

-- policies, whose rules keep their order, with what asks for them; the last rule stands without its line feed
abbrev pub PolicyJob : Type 0
PolicyJob =
    IsJob
    (text (
    codes "capc 1" ∷ codes "policy 3" ∷ codes "deny m d" ∷ codes "allow * d" ∷ codes "allow m *" ∷ [] ∷
    codes "audit m.f" ∷ codes "guard m.f 7" ∷ codes "policy 0" ∷ codes "policy 1" ∷ []) ++ codes "deny * *")
    (record {
      devices = [];
      commands =
          Policy (
          rule false (Some (codes "m")) (Some (codes "d")) ∷ rule true None (Some (codes "d")) ∷
          rule true (Some (codes "m")) None ∷ []) ∷
          Audit (codes "m") (codes "f") ∷ Guard (codes "m") (codes "f") 7 ∷ Policy [] ∷
          Policy (rule false None None ∷ []) ∷ [];
    })

-- what is explained, and traces that are replayed: an empty line counts, spaces are free, and what could be a command is
-- none; the last line has no text behind it, and stands without its line feed
abbrev pub TraceJob : Type 0
TraceJob =
    IsJob
    (text (
    codes "capc 1" ∷ codes "explain m.f" ∷ codes "replay m.f 1000000 3" ∷ [] ∷ codes "d  read 1" ∷ codes "check" ∷ [] ∷
    codes "check" ∷ []) ++ codes "replay m.g 0 0")
    (record {
      devices = [];
      commands =
          Explain (codes "m") (codes "f") ∷
          Replay (codes "m") (codes "f") 1000000 (text ([] ∷ codes "d  read 1" ∷ codes "check" ∷ [])) ∷ Check ∷
          Replay (codes "m") (codes "g") 0 [] ∷ [];
    })

-- no bytes
abbrev pub NothingIsBad : Type 0
NothingIsBad = IsBadAt [] 1

-- two spaces stand between words
abbrev pub TwoSpacesAreBad : Type 0
TwoSpacesAreBad = IsBadAt (text (codes "capc 1" ∷ codes "check" ∷ codes "drop  m" ∷ codes "check" ∷ [])) 3

-- a zero with a minus
abbrev pub MinusZeroIsBad : Type 0
MinusZeroIsBad = IsBadAt (text (codes "capc 1" ∷ [] ∷ codes "device in file -0" ∷ [])) 3

-- a task stands in no place of the schedule
abbrev pub MissingTaskIsBad : Type 0
MissingTaskIsBad = IsBadAt (text (codes "capc 1" ∷ codes "tasks 1 0,0 m.f m.g" ∷ [])) 2

-- a device behind a command
abbrev pub LateDeviceIsBad : Type 0
LateDeviceIsBad = IsBadAt (text (codes "capc 1" ∷ codes "check" ∷ codes "device out console" ∷ [])) 3

-- the name of a device a second time
abbrev pub SecondNameIsBad : Type 0
SecondNameIsBad =
    IsBadAt (text (codes "capc 1" ∷ codes "device out console" ∷ codes "device out counter" ∷ [])) 3

-- A text is cut short: it has too few lines, or its last line has no line feed. All lines begin a job.
abbrev pub ShortTextIsBad : Type 0
ShortTextIsBad = IsBadAt (text (codes "capc 1" ∷ codes "put m 3" ∷ codes "a" ∷ codes "b" ∷ [])) 5

abbrev pub OpenTextIsBad : Type 0
OpenTextIsBad = IsBadAt (text (codes "capc 1" ∷ codes "put m 2" ∷ codes "a" ∷ []) ++ codes "b") 5
