-- The text of a job: a list of lines, which declare devices and then give commands.
use Rattle.std.specs.Prelude.{◌≡◌, ℕ, zero, suc, ◌+◌, ◌<◌, ◌≤◌, Bool, true, false, ◌==◌, ◌&&◌, ◌⊎◌}
use Rattle.std.specs.Prelude.{List, [], ◌∷◌, ◌++◌, length, map, take, codes, encode_utf8_all, IsTrue, Option, Some, None, Result, Ok, Err}
use Rattle.std.specs.List.{list_any, AllByRecursion, IsDistinct}
use Rattle.std.specs.Fmt.{decimal, signed_decimal}
use Rattle.std.specs.Str.{bytes_eq}
use Rattle.cc_base.specs.Names.{IsName}
use Rattle.cc_base.specs.declared.device.Kind.{Kind}
use Rattle.cc_base.specs.declared.device.Kind.TheVariants.{Console, File, Counter}
use Rattle.cc_base.specs.declared.device.DeviceDecl.{DeviceDecl}
use Rattle.cc_policy.specs.declared.policy.Rule.{Rule}
use Rattle.cc_words.specs.Words.{joined, has_64_bits, IsPair, pair_text}
use Rattle.cc_words.specs.Lines.{Line, lines_of, AreWholeLines}
use Rattle.cc_job.specs.declared.job.Command.{Command}
use Rattle.cc_job.specs.declared.job.Command.TheVariants.{Put, Drop, Check, Sig, Derive, Run, Tasks, Verify, Policy, Audit, Guard, Explain, Replay}
use Rattle.cc_job.specs.declared.job.Job.{Job}
use Rattle.cc_job.specs.declared.job.JobError.{JobError}
use Rattle.cc_job.specs.declared.job.JobError.TheVariants.{BadJob, NoMemory}

-- What a job says line by line: a device is declared, or a command is given.
pub data Item : Type 0 where
  Declares : (device : DeviceDecl) → Item
  Commands : (command : Command) → Item

abbrev pub kind_words : Kind → List (List ℕ)
kind_words Console = codes "console" ∷ []
kind_words (File numbers) = codes "file" ∷ map signed_decimal numbers
kind_words Counter = codes "counter" ∷ []

-- whether a rule allows
abbrev pub permission_word : Bool → List ℕ
permission_word true = codes "allow"
permission_word false = codes "deny"

-- which modules or which devices a rule is about: one with this name, or any
abbrev pub scope_word : Option (List ℕ) → List ℕ
scope_word None = codes "*"
scope_word (Some name) = encode_utf8_all name

-- The line of a rule: its words with one space between them.
abbrev pub rule_words : Rule → List (List ℕ)
rule_words rule = permission_word rule.allow ∷ scope_word rule.«module» ∷ scope_word rule.device ∷ []

abbrev pub rule_line : Rule → Line
rule_line rule = joined 32 (rule_words rule)

abbrev pub command_words : Command → List (List ℕ)
command_words (Put name text) = codes "put" ∷ encode_utf8_all name ∷ decimal (length (lines_of text)) ∷ []
command_words (Drop name) = codes "drop" ∷ encode_utf8_all name ∷ []
command_words Check = codes "check" ∷ []
command_words (Sig name) = codes "sig" ∷ encode_utf8_all name ∷ []
command_words (Derive owner definition) = codes "derive" ∷ pair_text (owner, definition) ∷ []
command_words (Run owner definition fuel) = codes "run" ∷ pair_text (owner, definition) ∷ decimal fuel ∷ []
command_words (Tasks fuel schedule entries) =
    codes "tasks" ∷ decimal fuel ∷ joined 44 (map decimal schedule) ∷ map pair_text entries
command_words (Verify text) = codes "verify" ∷ decimal (length (lines_of text)) ∷ []
command_words (Policy rules) = codes "policy" ∷ decimal (length rules) ∷ []
command_words (Audit owner definition) = codes "audit" ∷ pair_text (owner, definition) ∷ []
command_words (Guard owner definition fuel) = codes "guard" ∷ pair_text (owner, definition) ∷ decimal fuel ∷ []
command_words (Explain owner definition) = codes "explain" ∷ pair_text (owner, definition) ∷ []
command_words (Replay owner definition fuel text) =
    codes "replay" ∷ pair_text (owner, definition) ∷ decimal fuel ∷ decimal (length (lines_of text)) ∷ []

-- the words of an item's line
abbrev pub item_words : Item → List (List ℕ)
item_words (Declares device) = codes "device" ∷ encode_utf8_all device.name ∷ kind_words device.kind
item_words (Commands command) = command_words command

-- the text behind an item's line: that of a put, or the one that is verified or replayed
abbrev pub command_text : Command → List ℕ
command_text (Put name text) = text
command_text (Drop name) = []
command_text Check = []
command_text (Sig name) = []
command_text (Derive owner definition) = []
command_text (Run owner definition fuel) = []
command_text (Tasks fuel schedule entries) = []
command_text (Verify text) = text
command_text (Policy rules) = []
command_text (Audit owner definition) = []
command_text (Guard owner definition fuel) = []
command_text (Explain owner definition) = []
command_text (Replay owner definition fuel text) = text

abbrev pub item_text : Item → List ℕ
item_text (Declares device) = []
item_text (Commands command) = command_text command

-- the rules behind an item's line: those of a policy
abbrev pub command_rules : Command → List Rule
command_rules (Put name text) = []
command_rules (Drop name) = []
command_rules Check = []
command_rules (Sig name) = []
command_rules (Derive owner definition) = []
command_rules (Run owner definition fuel) = []
command_rules (Tasks fuel schedule entries) = []
command_rules (Verify text) = []
command_rules (Policy rules) = rules
command_rules (Audit owner definition) = []
command_rules (Guard owner definition fuel) = []
command_rules (Explain owner definition) = []
command_rules (Replay owner definition fuel text) = []

abbrev pub item_rules : Item → List Rule
item_rules (Declares device) = []
item_rules (Commands command) = command_rules command

-- The lines of an item: its words with one space between them, and behind it the lines of its text and those of its
-- rules, of which no item has both.
abbrev pub item_lines : Item → List Line
item_lines item =
    joined 32 (item_words item) ∷ (lines_of (item_text item) ++ map rule_line (item_rules item))

abbrev pub IsKind : Kind → Type 0
IsKind Console = Unit {0}
IsKind (File numbers) = AllByRecursion (λ number. IsTrue (has_64_bits number)) numbers
IsKind Counter = Unit {0}

-- each task from 0 on stands in the schedule
abbrev pub covers : ℕ → List ℕ → Bool
covers zero schedule = true
covers (suc task) schedule = covers task schedule && list_any (λ number. number == task) schedule

-- A schedule of so many tasks has 1 to 64 numbers. Each is that of a task, and each task stands in it.
abbrev pub IsSchedule : ℕ → List ℕ → Type 0
IsSchedule tasks schedule =
    (1 ≤ length schedule) × (length schedule ≤ 64) × AllByRecursion (λ number. number < tasks) schedule
    × IsTrue (covers tasks schedule)

-- what a rule may be about
abbrev pub IsScope : Option (List ℕ) → Type 0
IsScope None = Unit {0}
IsScope (Some name) = IsName name

abbrev pub IsRule : Rule → Type 0
IsRule rule = IsScope rule.«module» × IsScope rule.device

-- what a command may be
abbrev pub IsCommand : Command → Type 0
IsCommand (Put name text) = IsName name × AreWholeLines text × (length (lines_of text) ≤ 4194304)
IsCommand (Drop name) = IsName name
IsCommand Check = Unit {0}
IsCommand (Sig name) = IsName name
IsCommand (Derive owner definition) = IsName owner × IsName definition
IsCommand (Run owner definition fuel) = (IsName owner × IsName definition) × (fuel ≤ 1000000)
IsCommand (Tasks fuel schedule entries) =
    (fuel ≤ 1000000) × IsSchedule (length entries) schedule × AllByRecursion IsPair entries
    × (1 ≤ length entries) × (length entries ≤ 8)
IsCommand (Verify text) = AreWholeLines text × (length (lines_of text) ≤ 4194304)
IsCommand (Policy rules) = AllByRecursion IsRule rules × (length rules ≤ 256)
IsCommand (Audit owner definition) = IsName owner × IsName definition
IsCommand (Guard owner definition fuel) = (IsName owner × IsName definition) × (fuel ≤ 1000000)
IsCommand (Explain owner definition) = IsName owner × IsName definition
IsCommand (Replay owner definition fuel text) =
    (IsName owner × IsName definition) × (fuel ≤ 1000000) × AreWholeLines text × (length (lines_of text) ≤ 4194304)

abbrev pub IsItem : Item → Type 0
IsItem (Declares device) = IsName device.name × IsKind device.kind
IsItem (Commands command) = IsCommand command

-- empty lines are skipped
abbrev pub skipped : List Line → List Line
skipped [] = []
skipped ([] ∷ lines) = skipped lines
skipped ((byte ∷ line) ∷ lines) = (byte ∷ line) ∷ lines

-- the lines are those of the items in turn, and empty ones before, between and behind them
abbrev pub AreItems : List Line → List Item → Type 0
AreItems lines [] = skipped lines ≡ []
AreItems lines (item ∷ items) =
    (rest : List Line) × IsItem item × (skipped lines ≡ item_lines item ++ rest) × AreItems rest items

-- the items of a job: its devices before its commands
abbrev pub items_of : Job → List Item
items_of job = map Declares job.devices ++ map Commands job.commands

-- the text of the last item, behind an item with the text
abbrev pub last_text : List ℕ → List Item → List ℕ
last_text text [] = text
last_text text (item ∷ items) = last_text (item_text item) items

-- the first line of each job
abbrev pub first_line : Line
first_line = codes "capc 1"

-- The bytes are the text of the job. Its last line may stand without its line feed, unless it is one of the text of a
-- put or of one that is verified or replayed; so the line of a rule may.
pub record IsJob (bytes : List ℕ) (job : Job) : Type 0 where
  pub behind : List Line
  pub begins : lines_of bytes ≡ first_line ∷ behind
  pub items : AreItems behind (items_of job)
  pub few : length job.devices ≤ 16
  pub names : IsDistinct bytes_eq (map (λ device. device.name) job.devices)
  pub ended : AreWholeLines bytes ⊎ (last_text [] (items_of job) ≡ [])

-- the lines begin a job: they are the first lines of some job's text
pub record BeginsJob (lines : List Line) : Type 0 where
  pub bytes : List ℕ
  pub job : Job
  pub is : IsJob bytes job
  pub behind : List Line
  pub begins : lines_of bytes ≡ lines ++ behind

-- No job begins with the lines up to this one, or it is the number behind that of the last line.
abbrev pub EndsJobs : List Line → ℕ → Type 0
EndsJobs lines number = ((number ≤ length lines) × (BeginsJob (take number lines) → ⊥)) ⊎ (number ≡ length lines + 1)

-- The bytes are no job, and this is the first line such that no job begins with the lines up to it, each taken whole;
-- where there is none, it is the number of lines plus one.
pub record IsBadAt (bytes : List ℕ) (number : ℕ) : Type 0 where
  pub none : (job : Job) → IsJob bytes job → ⊥
  pub ends : EndsJobs (lines_of bytes) number
  pub first : (earlier : ℕ) → earlier < number → BeginsJob (take earlier (lines_of bytes))

-- what reading answers
abbrev pub ReadsJob : List ℕ → Result Job JobError → Type 0
ReadsJob bytes (Ok job) = IsJob bytes job
ReadsJob bytes (Err (BadJob number)) = IsBadAt bytes number
ReadsJob bytes (Err NoMemory) = Unit {0}

-- bytes are the text of a job, or they have a bad line
abbrev pub BytesAreAJobOrBad : Type 0
BytesAreAJobOrBad =
    (bytes : List ℕ) → ((job : Job) × IsJob bytes job) ⊎ ((number : ℕ) × IsBadAt bytes number)

-- of one job at most
abbrev pub BytesHaveOneJob : Type 0
BytesHaveOneJob = (bytes : List ℕ) (a b : Job) → IsJob bytes a → IsJob bytes b → a ≡ b

-- and one bad line at most
abbrev pub BytesHaveOneBadLine : Type 0
BytesHaveOneBadLine = (bytes : List ℕ) (m n : ℕ) → IsBadAt bytes m → IsBadAt bytes n → m ≡ n

-- lines, each with its line feed
abbrev pub text : List (List ℕ) → List ℕ
text [] = []
text (line ∷ lines) = line ++ 10 ∷ text lines
