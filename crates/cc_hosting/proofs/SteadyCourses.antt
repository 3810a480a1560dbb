-- What comes of more and of fewer lines of a host.
use Rattle.std.proofs.Common.{◌≡◌, ℕ, zero, suc, Bool, true, false, cond, List, [], ◌∷◌, ◌++◌, length, Option, Some, None, Result, Ok, Err, refl, sym, ap, subst, ◌∙◌, append_assoc}
use Rattle.std.specs.Prelude.{codes, if◌then◌else◌}
use Rattle.std.specs.Str.{bytes_eq}
use Rattle.cc_base.specs.Literals.{Literal}
use Rattle.cc_base.specs.declared.code.Code.{Code}
use Rattle.cc_base.specs.declared.code.Code.TheVariants.{E37}
use Rattle.cc_base.specs.declared.device.DeviceDecl.{DeviceDecl}
use Rattle.cc_base.specs.declared.literal.Op.{Op}
use Rattle.cc_binding.specs.Binding.{first_beyond, unused_rules}
use Rattle.cc_device.specs.Events.{Event}
use Rattle.cc_entry_laws.specs.PresentEntries.{CheckedEntry, program_entry, started_in}
use Rattle.cc_hosting.specs.CourseLaws.{MoreLinesGoOn, LinesAreUsed, IsSteady, HostedRunsAreSteady}
use Rattle.cc_hosting.specs.HostedRuns.{refused_course, refusal_text, beyond_text, beginning_text, course_behind, unless_beyond, hosted, IsHostedAs, IsHosted}
use Rattle.cc_live.proofs.GoingOn.{more_lines_go_on}
use Rattle.cc_live.specs.LiveLaws.{GoesOnWith}
use Rattle.cc_live.specs.LiveRuns.{Standing, Over, Waits, Breaks, Live, Course, told_line, asked_text, answer_of, behind_text, behind_event, answered_live, said_live, heard_live, live_on, live_from, live}
use Rattle.cc_mnf.specs.ElaboratedModules.{device_names}
use Rattle.cc_policy.specs.declared.policy.Rule.{Rule}
use Rattle.cc_replay.specs.RunTexts.{event_text}
use Rattle.cc_replies.specs.PolicyReplies.{are_allowed}
use Rattle.cc_replies.specs.Requests.{JobState}
use Rattle.cc_runs.specs.Links.{program_start}
use Rattle.cc_runs.specs.Machine.{Configuration, StepOutcome, Stuck, Final, Next, Ask, step}
use Rattle.cc_verdicts.specs.ModuleVerdicts.{CheckedDefinition, ModuleVerdict}
use Rattle.cc_verdicts.specs.PresentTexts.{Texts}
use Rattle.cc_words.specs.Lines.{Line}

-- so it is with these lines
abbrev Used : Course → List Line → Type 0
Used course lines = LinesAreUsed course lines (course lines).text (course lines).standing

-- and behind a text
used_behind : (front : List ℕ) (course : Course) (lines : List Line) (text : List ℕ) (standing : Standing) → LinesAreUsed course lines text standing
    → LinesAreUsed (λ ls. behind_text front (course ls)) lines (front ++ text) standing
used_behind front course lines text (Over refused rest) (host, is, same) = (host, is, ap (behind_text front) same)
used_behind front course lines text Waits it = tt
used_behind front course lines text (Breaks rest) (host, is, same) = (host, is, ap (behind_text front) same)

module _ (names : List (List ℕ)) where
  by_event : (event : Option Event) (course : Course) (lines : List Line) → Used course lines → Used (λ ls. behind_event names event (course ls)) lines
  by_event None course lines used = used
  by_event (Some event) course lines used = used_behind (told_line (event_text names event)) course lines (course lines).text (course lines).standing used

  by_answer : (resumed : Literal → Course) (o : Option Literal) (rest : List Line) → ((a : Literal) → Used (resumed a) rest) → Used (answered_live resumed o) rest
  by_answer resumed (Some a) rest used = used a
  by_answer resumed None rest used = ([], refl, refl)

  by_said : (steps : ℕ) (stops : Bool) (resumed : Literal → Course) (o : Option Literal) (rest : List Line) → ((a : Literal) → Used (resumed a) rest)
      → Used (said_live steps stops resumed o) rest
  by_said steps true resumed o rest used = ([], refl, refl)
  by_said steps false resumed o rest used = by_answer resumed o rest used

  -- with the line that was heard before
  with_first : (steps : ℕ) (op : Op) (resumed : Literal → Course) (line : Line) (rest : List Line) (text : List ℕ) (standing : Standing)
      → LinesAreUsed (said_live steps (bytes_eq line (codes "stop")) resumed (answer_of op line)) rest text standing
      → LinesAreUsed (heard_live steps op resumed) (line ∷ rest) text standing
  with_first steps op resumed line rest text (Over refused left) (host, is, same) = (line ∷ host, ap (λ it. line ∷ it) is, same)
  with_first steps op resumed line rest text Waits it = tt
  with_first steps op resumed line rest text (Breaks left) (host, is, same) = (line ∷ host, ap (λ it. line ∷ it) is, same)

  by_lines : (steps : ℕ) (op : Op) (resumed : Literal → Course) (lines : List Line) → ((a : Literal) (rest : List Line) → Used (resumed a) rest) → Used (heard_live steps op resumed) lines
  by_lines steps op resumed [] used = tt
  by_lines steps op resumed (line ∷ rest) used =
      let said = said_live steps (bytes_eq line (codes "stop")) resumed (answer_of op line) in
      with_first steps op resumed line rest (said rest).text (said rest).standing
      (by_said steps (bytes_eq line (codes "stop")) resumed (answer_of op line) rest (λ a. used a rest))

  by_outcome : (steps : ℕ) (later : Configuration → Course) (c : Configuration) (x : StepOutcome) (lines : List Line)
      → ((next : Configuration) (rest : List Line) → Used (later next) rest) → Used (live_on names steps later c x) lines
  by_outcome steps later c Stuck lines used = ([], refl, refl)
  by_outcome steps later c Final lines used = ([], refl, refl)
  by_outcome steps later c (Next event next) lines used = by_event event (later next) lines (used next lines)
  by_outcome steps later c (Ask n op a resume) lines used =
      let heard = heard_live steps op (λ answer. later (resume answer)) in
      used_behind (told_line (asked_text names n op a)) heard lines (heard lines).text (heard lines).standing
      (by_lines steps op (λ answer. later (resume answer)) lines (λ answer rest. used (resume answer) rest))

  used_from : (fuel steps : ℕ) (c : Configuration) (lines : List Line) → Used (live_from names steps fuel c) lines
  used_from zero steps c lines = ([], refl, refl)
  used_from (suc fuel) steps c lines = by_outcome steps (live_from names (suc steps) fuel) c (step c) lines (used_from fuel (suc steps))

goes_behind : (more : List Line) (front text : List ℕ) (standing : Standing) (it : Live) → GoesOnWith more text standing it
    → GoesOnWith more (front ++ text) standing (behind_text front it)
goes_behind more front text (Over refused rest) it goes = ap (behind_text front) goes
goes_behind more front text Waits it (behind, is) = (behind, ap (λ t. front ++ t) is ∙ sym (append_assoc front text behind))
goes_behind more front text (Breaks rest) it goes = ap (behind_text front) goes

refused_steady : (text : List ℕ) → IsSteady (refused_course text)
refused_steady text = record { more = λ lines more. refl; used = λ lines. ([], refl, refl) }

run_steady : (names : List (List ℕ)) (fuel : ℕ) (text : List ℕ) (entry : CheckedEntry) → IsSteady (course_behind names fuel text entry)
run_steady names fuel text entry =
    let start = program_start (program_entry entry) in
    let it = live names fuel start in record {
      more = λ lines more. goes_behind more text (it lines).text (it lines).standing (it (lines ++ more)) (more_lines_go_on names fuel start lines more);
      used = λ lines. used_behind text it lines (it lines).text (it lines).standing (used_from names fuel 0 start lines);
    }

by_test : (b : Bool) (one other : Course) → IsSteady one → IsSteady other → IsSteady (if b then one else other)
by_test true one other x y = x
by_test false one other x y = y

by_found : (names : List (List ℕ)) (owner definition : List ℕ) (o : Option (List ℕ × ℕ)) (course : Course) → IsSteady course
    → IsSteady (unless_beyond names owner definition o course)
by_found names owner definition (Some found) course steady = refused_steady (beyond_text names owner definition found)
by_found names owner definition None course steady = steady

hosted_steady : (names : List (List ℕ)) (rules : List Rule) (texts : Texts) (owner definition : List ℕ) (fuel : ℕ) (entry : CheckedEntry)
    → IsSteady (hosted names rules texts owner definition fuel entry)
hosted_steady names rules texts owner definition fuel entry =
    let text = beginning_text names owner definition entry.authority (unused_rules texts names rules) in
    by_test (are_allowed names rules entry.module_name entry.authority)
    (unless_beyond names owner definition (first_beyond names rules (length entry.devices) entry.modules) (course_behind names fuel text entry))
    (refused_course (refusal_text owner definition E37))
    (by_found names owner definition (first_beyond names rules (length entry.devices) entry.modules) (course_behind names fuel text entry) (run_steady names fuel text entry))
    (refused_steady (refusal_text owner definition E37))

as_steady : (devices : List DeviceDecl) (rules : List Rule) (texts : Texts) (verdicts : List ℕ → ModuleVerdict) (owner definition : List ℕ) (fuel : ℕ)
    (r : Result CheckedDefinition Code) (course : Course) → IsHostedAs devices rules texts verdicts owner definition fuel r course → IsSteady course
as_steady devices rules texts verdicts owner definition fuel (Ok started) course (entry, is, same) =
    subst IsSteady (sym same) (hosted_steady (device_names devices) rules texts owner definition fuel entry)
as_steady devices rules texts verdicts owner definition fuel (Err code) course same =
    subst IsSteady (sym same) (refused_steady (refusal_text owner definition code))

pub hosted_runs_are_steady : HostedRunsAreSteady
hosted_runs_are_steady devices state owner definition fuel course (verdicts, are, answer) =
    as_steady devices state.rules state.texts verdicts owner definition fuel (started_in state.texts verdicts owner definition) course answer
