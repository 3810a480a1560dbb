-- Running a definition on the devices of a host: what is answered, line by line of the host.
use Rattle.std.specs.Prelude.{◌≡◌, ℕ, Bool, true, List, [], ◌++◌, codes, encode_utf8_all, length, Option, Some, None, Result, Ok, Err, IfOk, if◌then◌else◌}
use Rattle.std.specs.Fmt.{decimal}
use Rattle.std.specs.Io.KnownBytes.{Appends}
use Rattle.std.specs.List.{flat_map}
use Rattle.cc_base.specs.declared.code.Code.{Code}
use Rattle.cc_base.specs.declared.code.Code.TheVariants.{E37}
use Rattle.cc_base.specs.declared.device.DeviceDecl.{DeviceDecl}
use Rattle.cc_binding.specs.Binding.{first_beyond, is_used, unused_rules}
use Rattle.cc_entry_laws.specs.PresentEntries.{CheckedEntry, program_entry, started_in, IsEntryOf}
use Rattle.cc_io.specs.Wholes.{AppendsFront}
use Rattle.cc_line_reading.specs.LineReading.{Held}
use Rattle.cc_live.specs.LiveEnds.{RunsLive}
use Rattle.cc_live.specs.LiveRuns.{Over, Course, behind_text, live}
use Rattle.cc_live.specs.declared.running.LiveError.{LiveError}
use Rattle.cc_live.specs.declared.running.LiveError.TheVariants as errors
use Rattle.cc_mnf.specs.ElaboratedModules.{device_names}
use Rattle.cc_policy.specs.declared.policy.Rule.{Rule}
use Rattle.cc_replay.specs.RunTexts.{device_text, authority_text}
use Rattle.cc_replies.specs.PolicyReplies.{are_allowed}
use Rattle.cc_replies.specs.ReplyTexts.{line, inner_line, pair_text, pair_head, refused_pair_head}
use Rattle.cc_replies.specs.Requests.{JobState}
use Rattle.cc_runs.specs.Links.{program_start}
use Rattle.cc_verdicts.specs.ModuleVerdicts.{CheckedDefinition, ModuleVerdict}
use Rattle.cc_verdicts.specs.PresentTexts.{Texts, AreVerdicts}

-- the run is refused with this text, and no line of the host is taken
abbrev pub refused_course : List ℕ → Course
refused_course text lines = record { text = text; standing = Over true lines }

-- the text that refuses a run with a code
abbrev pub refusal_text : List ℕ → List ℕ → Code → List ℕ
refusal_text owner definition code = refused_pair_head (codes "live") owner definition code

-- up to the name of the device
abbrev pub beyond_front : List ℕ → List ℕ → List ℕ → List ℕ
beyond_front owner definition linked =
    codes "live " ++ pair_text owner definition ++ codes " refused E38 " ++ encode_utf8_all linked ++ codes " "

-- the text that refuses a run since this linked module names this device, which it is not allowed
abbrev pub beyond_text : List (List ℕ) → List ℕ → List ℕ → List ℕ × ℕ → List ℕ
beyond_text names owner definition found =
    line (beyond_front owner definition found.0 ++ device_text names found.1)

-- a line for each rule that is unused, by its number
abbrev pub unused_line : ℕ → List ℕ
unused_line number = inner_line (codes "unused rule " ++ decimal number)

-- what is told before a run: the head line, the devices that it may operate, and the rules that are unused
abbrev pub beginning_text : List (List ℕ) → List ℕ → List ℕ → List ℕ → List ℕ → List ℕ
beginning_text names owner definition authority unused =
    pair_head (codes "live") owner definition
    ++ (inner_line (authority_text names authority) ++ flat_map unused_line unused)

-- the live run of an entry's program, behind this text
abbrev pub course_behind : List (List ℕ) → ℕ → List ℕ → CheckedEntry → Course
course_behind names fuel text entry lines =
    behind_text text (live names fuel (program_start (program_entry entry)) lines)

-- the run, where no linked module is found that names a device which it is not allowed, or else its refusal
abbrev pub unless_beyond : List (List ℕ) → List ℕ → List ℕ → Option (List ℕ × ℕ) → Course → Course
unless_beyond names owner definition (Some found) course = refused_course (beyond_text names owner definition found)
unless_beyond names owner definition None course = course

-- What is answered where there is this entry, by the rules in force: the run, where they allow its module each device that
-- it may operate, and each linked module all devices that its own text names.
abbrev pub hosted : List (List ℕ) → List Rule → Texts → List ℕ → List ℕ → ℕ → CheckedEntry → Course
hosted names rules texts owner definition fuel entry =
    if are_allowed names rules entry.module_name entry.authority
    then unless_beyond names owner definition (first_beyond names rules (length entry.devices) entry.modules)
    (course_behind names fuel
    (beginning_text names owner definition entry.authority (unused_rules texts names rules)) entry)
    else refused_course (refusal_text owner definition E37)

-- The same of a definition: where there is this one to be started, or why there is none.
abbrev pub IsHostedAs : List DeviceDecl → List Rule → Texts → (List ℕ → ModuleVerdict) → List ℕ → List ℕ → ℕ
    → Result CheckedDefinition Code → Course → Type 0
IsHostedAs devices rules texts verdicts owner definition fuel (Ok started) course =
    (entry : CheckedEntry) × IsEntryOf devices texts verdicts owner definition started entry
    × (course ≡ hosted (device_names devices) rules texts owner definition fuel entry)
IsHostedAs devices rules texts verdicts owner definition fuel (Err code) course =
    course ≡ refused_course (refusal_text owner definition code)

-- What is answered where the definition of a module is to be run on the devices of a host, for at most so many steps, beside
-- the devices and in this state, by the verdicts that the present texts have.
abbrev pub IsHosted : List DeviceDecl → JobState → List ℕ → List ℕ → ℕ → Course → Type 0
IsHosted devices state owner definition fuel course =
    (verdicts : List ℕ → ModuleVerdict) × AreVerdicts devices state.texts verdicts
    × IsHostedAs devices state.rules state.texts verdicts owner definition fuel
    (started_in state.texts verdicts owner definition) course

-- that was answered, by the lines of the host that were taken
pub record RunsHosted (devices : List DeviceDecl) (state : JobState) (owner definition : List ℕ) (fuel : ℕ)
    (old new : Held) (left later : Option (List ℕ)) (count counted : ℕ) (before after : Option (List ℕ))
    (result : Result Bool LiveError) : Type 0 where
  pub course : Course
  pub hosted : IsHosted devices state owner definition fuel course
  pub runs : RunsLive course old new left later count counted before after result

-- What comes of writing a text: it was written whole, or a front of it, where memory lacks or a write failed. It serves the
-- code alone.
abbrev pub IsTold : {T : Type 0} → Option (List ℕ) → Option (List ℕ) → List ℕ → Result T LiveError → Type 0
IsTold before after text (Ok told) = Appends before after text
IsTold before after text (Err errors.ReadFault) = ⊥
IsTold before after text (Err errors.TooLong) = ⊥
IsTold before after text (Err errors.NoMemory) = AppendsFront before after text
IsTold before after text (Err errors.WriteFault) = AppendsFront before after text
IsTold before after text (Err errors.Ended) = ⊥
IsTold before after text (Err errors.BadLine) = ⊥

-- the same of a text that refuses, which is told then
abbrev pub RefusesSo : Option (List ℕ) → Option (List ℕ) → List ℕ → Result Bool LiveError → Type 0
RefusesSo before after text result = IsTold before after text result × IfOk result (λ refused. refused ≡ true)

-- such a line of a rule of this number, where it is unused
abbrev pub told_if_unused : Texts → List (List ℕ) → Rule → ℕ → List ℕ
told_if_unused texts devices rule number = if is_used texts devices rule then [] else unused_line number
