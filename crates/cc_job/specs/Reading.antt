-- Reading a job, step by step from its front.
use Rattle.std.specs.Prelude.{◌≡◌, ℕ, zero, suc, ◌+◌, ◌-◌, Bool, true, false, ◌&&◌, ◌||◌, not, ◌==◌, nat_le, nat_lt}
use Rattle.std.specs.Prelude.{List, [], ◌∷◌, ◌++◌, length, codes, Option, Some, None, if◌then◌else◌}
use Rattle.std.specs.Option.{option_map}
use Rattle.std.specs.List.{list_any}
use Rattle.std.specs.Str.{bytes_eq}
use Rattle.cc_base.specs.declared.device.Kind.{Kind}
use Rattle.cc_base.specs.declared.device.Kind.TheVariants.{Console, File, Counter}
use Rattle.cc_job.specs.declared.job.Command.{Command}
use Rattle.cc_job.specs.declared.job.Command.TheVariants.{Put, Drop, Check, Sig, Derive, Run, Tasks, Verify, Policy, Audit, Guard, Explain, Replay}
use Rattle.cc_job.specs.declared.head.Head.{Head}
use Rattle.cc_job.specs.declared.head.Head.TheVariants.{Device, Put as PutHead, Verify as VerifyHead, Policy as PolicyHead, Replay as ReplayHead, Command as CommandHead}
use Rattle.cc_base.specs.declared.device.DeviceDecl.{DeviceDecl}
use Rattle.cc_policy.specs.declared.policy.Rule.{Rule}
use Rattle.cc_job.specs.declared.rules.RuleLines.{RuleLines}
use Rattle.cc_job.specs.declared.rules.RuleLines.TheVariants.{Read as ReadLines, BadLine as BadRuleLine, CutShort as CutLines}
use Rattle.cc_job.specs.declared.read.Step.{Step}
use Rattle.cc_job.specs.declared.read.Step.TheVariants.{Read as ReadStep, BadLine as BadStep, CutShort as CutStep}
use Rattle.cc_words.specs.Words.{◌>>=◌, split_at, first_and_rest, one_of, two_of, name_of, number_of, signed_of, all_of, pair_of}
use Rattle.cc_words.specs.Lines.{Line, next_line, text_cut}
pub use Rattle.cc_job.specs.Jobs.{covers}

unfoldable pub is_schedule : ℕ → List ℕ → Bool
is_schedule tasks schedule = nat_le 1 (length schedule) && nat_le (length schedule) 64 && covers tasks schedule

unfoldable pub schedule_of : ℕ → List ℕ → Option (List ℕ)
schedule_of tasks word = do
  numbers ← all_of (number_of (tasks - 1)) (split_at 44 word)
  if is_schedule tasks numbers then Some numbers else None

-- what these tasks say with this fuel and this schedule
unfoldable pub turns_of : ℕ → List ℕ → List (List ℕ) → Option Command
turns_of fuel numbers words =
    if nat_lt (length words) 1 || nat_lt 8 (length words) then None
    else do
      entries ← all_of pair_of words
      schedule ← schedule_of (length words) numbers
      Some (Tasks fuel schedule entries)

unfoldable pub file_of : List (List ℕ) → Option Kind
file_of words = option_map File (all_of signed_of words)

-- the kind that a word and those behind it say
unfoldable pub kind_with : List ℕ → List (List ℕ) → Option Kind
kind_with word rest =
    if bytes_eq word (codes "file") then file_of rest
    else if not (nat_le (length rest) 0) then None
    else if bytes_eq word (codes "console") then Some Console
    else if bytes_eq word (codes "counter") then Some Counter
    else None

unfoldable pub kind_of : List (List ℕ) → Option Kind
kind_of words = do
  split ← first_and_rest words
  kind_with split.0 split.1

unfoldable pub device_of : List (List ℕ) → Option Head
device_of words = do
  split ← first_and_rest words
  name ← name_of split.0
  kind ← kind_of split.1
  Some (Device (record { name = name; kind = kind }))

unfoldable pub put_of : List (List ℕ) → Option Head
put_of words = do
  two ← two_of words
  name ← name_of two.0
  count ← number_of 4194304 two.1
  Some (PutHead name count)

unfoldable pub verify_of : List (List ℕ) → Option Head
verify_of words = do
  digits ← one_of words
  count ← number_of 4194304 digits
  Some (VerifyHead count)

unfoldable pub policy_of : List (List ℕ) → Option Head
policy_of words = do
  digits ← one_of words
  count ← number_of 256 digits
  Some (PolicyHead count)

unfoldable pub replay_of : List (List ℕ) → Option Head
replay_of words = do
  split ← first_and_rest words
  pair ← pair_of split.0
  two ← two_of split.1
  fuel ← number_of 1000000 two.0
  count ← number_of 4194304 two.1
  Some (ReplayHead pair.0 pair.1 fuel count)

unfoldable pub drop_of : List (List ℕ) → Option Command
drop_of words = do
  word ← one_of words
  name ← name_of word
  Some (Drop name)

unfoldable pub check_of : List (List ℕ) → Option Command
check_of [] = Some Check
check_of (word ∷ words) = None

unfoldable pub sig_of : List (List ℕ) → Option Command
sig_of words = do
  word ← one_of words
  name ← name_of word
  Some (Sig name)

unfoldable pub derive_of : List (List ℕ) → Option Command
derive_of words = do
  word ← one_of words
  pair ← pair_of word
  Some (Derive pair.0 pair.1)

unfoldable pub run_of : List (List ℕ) → Option Command
run_of words = do
  two ← two_of words
  pair ← pair_of two.0
  fuel ← number_of 1000000 two.1
  Some (Run pair.0 pair.1 fuel)

unfoldable pub tasks_of : List (List ℕ) → Option Command
tasks_of words = do
  split ← first_and_rest words
  fuel ← number_of 1000000 split.0
  behind ← first_and_rest split.1
  turns_of fuel behind.0 behind.1

unfoldable pub audit_of : List (List ℕ) → Option Command
audit_of words = do
  word ← one_of words
  pair ← pair_of word
  Some (Audit pair.0 pair.1)

unfoldable pub guard_of : List (List ℕ) → Option Command
guard_of words = do
  two ← two_of words
  pair ← pair_of two.0
  fuel ← number_of 1000000 two.1
  Some (Guard pair.0 pair.1 fuel)

unfoldable pub explain_of : List (List ℕ) → Option Command
explain_of words = do
  word ← one_of words
  pair ← pair_of word
  Some (Explain pair.0 pair.1)

-- the command that a word and those behind it say, where no line stands behind it
unfoldable pub command_with : List ℕ → List (List ℕ) → Option Command
command_with word rest =
    if bytes_eq word (codes "drop") then drop_of rest
    else if bytes_eq word (codes "check") then check_of rest
    else if bytes_eq word (codes "sig") then sig_of rest
    else if bytes_eq word (codes "derive") then derive_of rest
    else if bytes_eq word (codes "run") then run_of rest
    else if bytes_eq word (codes "tasks") then tasks_of rest
    else if bytes_eq word (codes "audit") then audit_of rest
    else if bytes_eq word (codes "guard") then guard_of rest
    else if bytes_eq word (codes "explain") then explain_of rest
    else None

unfoldable pub head_with : List ℕ → List (List ℕ) → Option Head
head_with word rest =
    if bytes_eq word (codes "device") then device_of rest
    else if bytes_eq word (codes "put") then put_of rest
    else if bytes_eq word (codes "verify") then verify_of rest
    else if bytes_eq word (codes "policy") then policy_of rest
    else if bytes_eq word (codes "replay") then replay_of rest
    else option_map CommandHead (command_with word rest)

-- what a line says, without the lines behind it
unfoldable pub head_of : List ℕ → Option Head
head_of line = do
  split ← first_and_rest (split_at 32 line)
  head_with split.0 split.1

-- how many lines of text stand behind the line
abbrev pub text_size : Head → ℕ
text_size (Device device) = 0
text_size (PutHead name count) = count
text_size (VerifyHead count) = count
text_size (PolicyHead count) = 0
text_size (ReplayHead owner definition fuel count) = count
text_size (CommandHead command) = 0

-- how many lines of rules
abbrev pub rule_count : Head → ℕ
rule_count (Device device) = 0
rule_count (PutHead name count) = 0
rule_count (VerifyHead count) = 0
rule_count (PolicyHead count) = count
rule_count (ReplayHead owner definition fuel count) = 0
rule_count (CommandHead command) = 0

-- how many lines
abbrev pub lines_behind : Head → ℕ
lines_behind (Device device) = 0
lines_behind (PutHead name count) = count
lines_behind (VerifyHead count) = count
lines_behind (PolicyHead count) = count
lines_behind (ReplayHead owner definition fuel count) = count
lines_behind (CommandHead command) = 0

-- whether the word says that a rule allows
unfoldable pub permission_of : List ℕ → Option Bool
permission_of word =
    if bytes_eq word (codes "allow") then Some true
    else if bytes_eq word (codes "deny") then Some false
    else None

-- the name that the word is, or any
unfoldable pub scope_of : List ℕ → Option (Option (List ℕ))
scope_of word = if bytes_eq word (codes "*") then Some None else option_map Some (name_of word)

-- the rule that these words are
unfoldable pub rule_with : List ℕ → List (List ℕ) → Option Rule
rule_with word rest = do
  allow ← permission_of word
  two ← two_of rest
  owner ← scope_of two.0
  device ← scope_of two.1
  Some (record { allow = allow; «module» = owner; device = device })

-- the rule that a line is
unfoldable pub rule_of : Line → Option Rule
rule_of line = do
  split ← first_and_rest (split_at 32 line)
  rule_with split.0 split.1

-- What lines of rules are: the rules, with what stands behind them; or one of them is no rule, and it has this place,
-- counted from 1; or there are too few.
pub data Rules : Type 0 where
  Are : (rules : List Rule) (behind : List ℕ) → Rules
  BadRule : (place : ℕ) → Rules
  TooFew : Rules

-- the same with a line before them, which is this rule or none
abbrev pub before_rules : Option Rule → Rules → Rules
before_rules None later = BadRule 1
before_rules (Some rule) (Are rules behind) = Are (rule ∷ rules) behind
before_rules (Some rule) (BadRule place) = BadRule (place + 1)
before_rules (Some rule) TooFew = TooFew

-- so many lines of rules
abbrev pub rules_cut : ℕ → List ℕ → Rules
rules_cut zero bytes = Are [] bytes
rules_cut (suc count) [] = TooFew
rules_cut (suc count) (b ∷ bs) =
    before_rules (rule_of (next_line (b ∷ bs)).0) (rules_cut count (next_line (b ∷ bs)).1)

-- what the lines that were read are
abbrev pub rules_in : RuleLines → Rules
rules_in (ReadLines policy behind) = Are policy behind.now
rules_in (BadRuleLine place) = BadRule place
rules_in CutLines = TooFew

-- whether a device has the name
abbrev pub has_device : List DeviceDecl → DeviceDecl → Bool
has_device devices device = list_any (λ other. bytes_eq device.name other.name) devices

-- the device may be declared: there is no command yet, there are less than 16 devices, and none has its name
unfoldable pub admits : List DeviceDecl → List Command → DeviceDecl → Bool
admits devices commands device =
    (length commands == 0) && nat_lt (length devices) 16 && not (has_device devices device)

abbrev pub is_admitted : List DeviceDecl → List Command → Head → Bool
is_admitted devices commands (Device device) = admits devices commands device
is_admitted devices commands (PutHead name count) = true
is_admitted devices commands (VerifyHead count) = true
is_admitted devices commands (PolicyHead count) = true
is_admitted devices commands (ReplayHead owner definition fuel count) = true
is_admitted devices commands (CommandHead command) = true

-- the same where commands are not counted, but it is told whether one was given
abbrev pub may_stand : List DeviceDecl → Bool → Head → Bool
may_stand devices begun (Device device) = not begun && nat_lt (length devices) 16 && not (has_device devices device)
may_stand devices begun (PutHead name count) = true
may_stand devices begun (VerifyHead count) = true
may_stand devices begun (PolicyHead count) = true
may_stand devices begun (ReplayHead owner definition fuel count) = true
may_stand devices begun (CommandHead command) = true

-- the devices and the commands, with what a line and the text and the rules behind it say
abbrev pub devices_with : List DeviceDecl → Head → List DeviceDecl
devices_with devices (Device device) = devices ++ device ∷ []
devices_with devices (PutHead name count) = devices
devices_with devices (VerifyHead count) = devices
devices_with devices (PolicyHead count) = devices
devices_with devices (ReplayHead owner definition fuel count) = devices
devices_with devices (CommandHead command) = devices

abbrev pub commands_with : List Command → Head → List ℕ → List Rule → List Command
commands_with commands (Device device) text rules = commands
commands_with commands (PutHead name count) text rules = commands ++ Put name text ∷ []
commands_with commands (VerifyHead count) text rules = commands ++ Verify text ∷ []
commands_with commands (PolicyHead count) text rules = commands ++ Policy rules ∷ []
commands_with commands (ReplayHead owner definition fuel count) text rules =
    commands ++ Replay owner definition fuel text ∷ []
commands_with commands (CommandHead command) text rules = commands ++ command ∷ []

-- What is read at the front: a line and so many behind it, with the devices and the commands then, and what stands
-- behind; or the line so many places behind the first begins no job; or the lines behind the first are cut short.
pub data Next : Type 0 where
  Read : (count : ℕ) (devices : List DeviceDecl) (commands : List Command) (behind : List ℕ) → Next
  BadLine : (place : ℕ) → Next
  CutShort : Next

abbrev pub next_rules : List DeviceDecl → List Command → Head → List ℕ → Rules → Next
next_rules devices commands head text (Are rules behind) =
    Read (lines_behind head) (devices_with devices head) (commands_with commands head text rules) behind
next_rules devices commands head text (BadRule place) = BadLine place
next_rules devices commands head text TooFew = CutShort

abbrev pub next_text : List DeviceDecl → List Command → Head → Option (List ℕ × List ℕ) → Next
next_text devices commands head None = CutShort
next_text devices commands head (Some cut) =
    next_rules devices commands head cut.0 (rules_cut (rule_count head) cut.1)

abbrev pub next_head : List DeviceDecl → List Command → List ℕ → Option Head → Next
next_head devices commands behind None = BadLine 0
next_head devices commands behind (Some head) =
    if is_admitted devices commands head
    then next_text devices commands head (text_cut (text_size head) behind)
    else BadLine 0

abbrev pub next_in : List DeviceDecl → List Command → Line → List ℕ → Next
next_in devices commands [] behind = Read 0 devices commands behind
next_in devices commands (b ∷ bs) behind = next_head devices commands behind (head_of (b ∷ bs))

unfoldable pub next_item : List ℕ → List DeviceDecl → List Command → Next
next_item bytes devices commands =
    let cut = next_line bytes in
    next_in devices commands cut.0 cut.1

-- what the step is where the lists have become these
abbrev pub IsStep : Step → List DeviceDecl → List Command → Next → Type 0
IsStep (ReadStep count behind) devices commands next = next ≡ Read count devices commands behind.now
IsStep (BadStep place) devices commands next = next ≡ BadLine place
IsStep CutStep devices commands next = next ≡ CutShort
