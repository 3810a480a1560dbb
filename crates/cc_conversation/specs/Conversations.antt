-- A conversation: lines in the form of those of a job, of which each command is answered before more is read. What belongs
-- to the lines that were said is said here of all lines so far at once, in whatever pieces they came.
use Rattle.std.specs.Prelude.{◌≡◌, ◌≢◌, ℕ, suc, ◌+◌, ◌<◌, ◌≤◌, nat_lt, ◌⊎◌, Bool, true, false, ◌||◌, if◌then◌else◌}
use Rattle.std.specs.Prelude.{List, [], ◌∷◌, ◌++◌, length, map, None}
use Rattle.std.specs.List.{AllByRecursion}
use Rattle.cc_base.specs.declared.device.DeviceDecl.{DeviceDecl}
use Rattle.cc_job.specs.Jobs.{Item, Declares, Commands, item_lines, skipped, first_line}
use Rattle.cc_item_reading.specs.Sayings as sayings
use Rattle.cc_item_reading.specs.Sayings.{IsAside, IsAsideLine, aside_line, size, item_limit}
use Rattle.cc_item_reading.specs.declared.asides.Aside.{Aside}
use Rattle.cc_item_reading.specs.declared.asides.Aside.TheVariants as asides
use Rattle.cc_hosting.specs.HostedRuns.{IsHosted}
use Rattle.cc_live.specs.LiveRuns.{Live as Told, Course, Over, Waits, Breaks}
use Rattle.cc_mnf.specs.ElaboratedModules.{device_names}
use Rattle.cc_module_reasons.specs.WhyAnswers.{Why, IsWhy}
use Rattle.cc_words.specs.Lines.{Line, lines_of, AreWholeLines}
use Rattle.cc_words.specs.Words.{cut_at}
use Rattle.cc_answers.specs.Requests.{request_of}
use Rattle.cc_replies.specs.Replies.{Replies, after}
use Rattle.cc_replies.specs.ReplyTexts.{Reply, reply_text, is_refusal}
use Rattle.cc_replies.specs.Requests.{JobState, no_module}
use Rattle.cc_why.specs.WhyTexts.{why_text, is_refusal as is_refused}

-- what was said so far: the devices, whether a command was given, and what the commands changed
pub record Moment : Type 0 where
  pub devices : List DeviceDecl
  pub begun : Bool
  pub state : JobState

-- before the first line behind the first
abbrev pub beginning : Moment
beginning = record { devices = []; begun = false; state = no_module }

-- an item may be said at the moment
abbrev pub MaySay : Moment → Item → Type 0
MaySay moment item = sayings.MaySay moment.devices moment.begun item

-- what has been said behind an item
abbrev pub behind : Moment → Item → Moment
behind moment (Declares device) =
    record { devices = moment.devices ++ device ∷ []; begun = moment.begun; state = moment.state }
behind moment (Commands command) =
    record { devices = moment.devices; begun = true; state = after moment.state (request_of command) }

-- a reply as it is written in a conversation: with an empty line behind it, which tells where it ends
abbrev pub spoken_reply : List DeviceDecl → Reply → List ℕ
spoken_reply devices reply = reply_text (device_names devices) reply ++ 10 ∷ []

-- What is answered to an item: nothing to a device, and its reply to a command; and whether that is a refusal.
abbrev pub Answers : Moment → Item → List ℕ → Bool → Type 0
Answers moment (Declares device) text refused = (text ≡ []) × (refused ≡ false)
Answers moment (Commands command) text refused =
    (reply : Reply) × Replies moment.devices moment.state (request_of command) reply
    × (text ≡ spoken_reply moment.devices reply) × (refused ≡ is_refusal reply)

-- What has been said behind something that a job cannot say: no more than that a command was given.
abbrev pub under_way : Moment → Moment
under_way moment = record { devices = moment.devices; begun = true; state = moment.state }

-- each of the lines that a host says has no more bytes than an item may
abbrev pub AreShort : List Line → Type 0
AreShort lines = AllByRecursion (λ line. size (line ∷ []) ≤ item_limit) lines

-- the answer to the question why a module is refused, for which no line of the host is taken
abbrev pub why_course : List ℕ → Why → Course
why_course name answer lines = record { text = why_text name answer; standing = Over (is_refused answer) lines }

-- What comes of what a job cannot say, beside the devices and in this state, by the lines of the host behind it: the course of a
-- run on its devices, or the answer to a question.
abbrev pub IsCourseOf : List DeviceDecl → JobState → Aside → Course → Type 0
IsCourseOf devices state (asides.Live owner definition fuel) course =
    IsHosted devices state owner definition fuel course
IsCourseOf devices state (asides.Why name) course =
    (answer : Why) × IsWhy devices state.texts name answer × (course ≡ why_course name answer)

-- Something was said that a job cannot say, and lines behind it; and this is what comes of those.
pub record SaysAside (moment : Moment) (lines behind : List Line) (course : Course) : Type 0 where
  pub it : Aside
  pub may : IsAside it
  pub short : size (aside_line it ∷ []) ≤ item_limit
  pub says : skipped lines ≡ aside_line it ∷ behind
  pub comes : IsCourseOf moment.devices moment.state it course

-- some item may be said at the moment whose lines begin with these
abbrev pub GoesOn : Moment → List Line → Type 0
GoesOn moment lines = sayings.GoesOn moment.devices moment.begun lines

-- and it has more lines than these
abbrev pub IsOpen : Moment → List Line → Type 0
IsOpen moment lines = sayings.IsOpen moment.devices moment.begun lines

-- How a conversation stands: nothing is open; the lines of an item have begun, which have so many bytes so far, and some are
-- missing; or an answer of the host is missing; or it ended at a line with which nothing goes on, by its number; or at one
-- with which an item has more bytes than it may, or which itself has.
pub data Standing : Type 0 where
  Rests : Standing
  Begun : (bytes : ℕ) → Standing
  Asks : Standing
  EndedAt : (number : ℕ) → Standing
  Overlong : Standing

-- How a conversation stands where a live run is not over with some lines of the host: none follows, and an answer is missing;
-- or the last one, of so many in all with those that follow, is no answer; or the next one has too many bytes.
pub data StandsIn (total : ℕ) (it : Told) : List Line → List ℕ → Standing → Type 0 where
  asks : {text : List ℕ} → it ≡ record { text = text; standing = Waits } → StandsIn total it [] text Asks
  breaks : {rest : List Line} {text : List ℕ} (place : ℕ) → it ≡ record { text = text; standing = Breaks [] }
      → place + length rest ≡ total → StandsIn total it rest text (EndedAt place)
  floods : {next : Line} {rest : List Line} {text : List ℕ} → it ≡ record { text = text; standing = Waits }
      → item_limit < size (next ∷ []) → StandsIn total it (next ∷ rest) text Overlong

-- What is written for the last of so many lines, whether a reply is a refusal, and how the conversation stands then. What a
-- job cannot say runs to its end by some lines of the host, as a question does by none, or it stops behind them.
pub data Says (total : ℕ) : Moment → List Line → List ℕ → Bool → Standing → Type 0 where
  rests : {moment : Moment} {lines : List Line} → skipped lines ≡ [] → Says total moment lines [] false Rests
  begins : {moment : Moment} {lines : List Line} → skipped lines ≢ [] → IsOpen moment (skipped lines)
      → size (skipped lines) ≤ item_limit → Says total moment lines [] false (Begun (size (skipped lines)))
  ends : {moment : Moment} {lines : List Line} (front : List Line) (bad : Line) (rest : List Line) (place : ℕ)
      → skipped lines ≡ front ++ bad ∷ rest → (front ≡ []) ⊎ IsOpen moment front → (front ≡ [] → IsAsideLine bad → ⊥)
      → (GoesOn moment (front ++ bad ∷ []) → ⊥) → size (front ++ bad ∷ []) ≤ item_limit → place + length rest ≡ total
      → Says total moment lines [] false (EndedAt place)
  exceeds : {moment : Moment} {lines : List Line} (front : List Line) (next : Line) (rest : List Line)
      → skipped lines ≡ front ++ next ∷ rest → (front ≡ []) ⊎ IsOpen moment front
      → size front ≤ item_limit → item_limit < size (front ++ next ∷ [])
      → Says total moment lines [] false Overlong
  goes_on : {moment : Moment} {lines : List Line} {standing : Standing} (item : Item) (others : List Line)
      (text rest : List ℕ) (refused later : Bool) → MaySay moment item → skipped lines ≡ item_lines item ++ others
      → size (item_lines item) ≤ item_limit → Answers moment item text refused
      → Says total (behind moment item) others rest later standing
      → Says total moment lines (text ++ rest) (refused || later) standing
  runs : {moment : Moment} {lines : List Line} {standing : Standing} (course : Course) (host others : List Line)
      (text rest : List ℕ) (refused later : Bool) → SaysAside moment lines (host ++ others) course → AreShort host
      → course host ≡ record { text = text; standing = Over refused [] }
      → Says total (under_way moment) others rest later standing
      → Says total moment lines ((text ++ 10 ∷ []) ++ rest) (refused || later) standing
  stops : {moment : Moment} {lines : List Line} {standing : Standing} (course : Course) (host others : List Line)
      (text : List ℕ) → SaysAside moment lines (host ++ others) course → AreShort host
      → StandsIn total (course host) others text standing → Says total moment lines text false standing

-- nothing was said that a job cannot say
abbrev pub IsWithoutAside : {total : ℕ} {moment : Moment} {lines : List Line} {text : List ℕ} {refused : Bool} {standing : Standing}
    → Says total moment lines text refused standing → Type 0
IsWithoutAside (rests empty) = Unit {0}
IsWithoutAside (begins some lacks short) = Unit {0}
IsWithoutAside (ends front bad rest place is before unlike none short at) = Unit {0}
IsWithoutAside (exceeds front next rest is before less long) = Unit {0}
IsWithoutAside (goes_on item others text rest refused later may is short answers said) = IsWithoutAside said
IsWithoutAside (runs course host others text rest refused later run short over said) = ⊥
IsWithoutAside (stops course host others text run short stands) = ⊥

-- The same from the first line on.
pub data IsSpoken : List Line → List ℕ → Bool → Standing → Type 0 where
  nothing : IsSpoken [] [] false Rests
  overlong : {line : Line} {lines : List Line} → item_limit < size (line ∷ []) → IsSpoken (line ∷ lines) [] false Overlong
  stranger : {line : Line} {lines : List Line} → line ≢ first_line → size (line ∷ []) ≤ item_limit
      → IsSpoken (line ∷ lines) [] false (EndedAt 1)
  opened : {lines : List Line} {text : List ℕ} {refused : Bool} {standing : Standing}
      → Says (suc (length lines)) beginning lines text refused standing
      → IsSpoken (first_line ∷ lines) text refused standing

-- how it stands where so many bytes of a further line came
abbrev pub with_part : Standing → ℕ → Standing
with_part Rests part = if nat_lt part item_limit then Rests else Overlong
with_part (Begun bytes) part = if nat_lt (bytes + part) item_limit then Begun bytes else Overlong
with_part Asks part = if nat_lt part item_limit then Asks else Overlong
with_part (EndedAt number) part = EndedAt number
with_part Overlong part = Overlong

-- What is answered to bytes that came so far, in whatever pieces: what is answered to their lines. A last line that has not
-- its line feed yet is none.
pub record IsHeard (bytes text : List ℕ) (refused : Bool) (standing : Standing) : Type 0 where
  pub whole : List ℕ
  pub part : List ℕ
  pub split : bytes ≡ whole ++ part
  pub are_whole : AreWholeLines whole
  pub no_feed : cut_at 10 part ≡ None
  pub before : Standing
  pub spoken : IsSpoken (lines_of whole) text refused before
  pub stands : standing ≡ with_part before (length part)
