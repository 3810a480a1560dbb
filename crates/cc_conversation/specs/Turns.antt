-- The turns of a conversation: what was said and answered so far, and what one more brings. It serves the code alone.
use Rattle.std.specs.Prelude.{◌≡◌, ◌≢◌, ℕ, suc, ◌+◌, ◌≤◌, ◌^◌, nat_lt, Bool, true, false, ◌||◌, List, [], ◌∷◌, ◌++◌, length, Option, Some, None, Result, Ok, Err, IfOk, if◌then◌else◌}
use Rattle.std.specs.Io.KnownBytes.{Appends, Consumes, IsAtEnd}
use Rattle.cc_base.specs.declared.device.DeviceDecl.{DeviceDecl}
use Rattle.cc_io.specs.declared.whole.WriteAll.{WriteAll}
use Rattle.cc_io.specs.declared.whole.WriteAll.TheVariants as write_errors
use Rattle.cc_io.specs.Wholes.{WritesWhole, WriteAllCause}
use Rattle.cc_job.specs.declared.job.Command.{Command}
use Rattle.cc_job.specs.Jobs.{Commands, first_line, item_lines}
use Rattle.cc_words.specs.Lines.{Line}
use Rattle.cc_line_reading.specs.LineReading.{Held, Hears, HearsPart, IsOver, IsDrained}
use Rattle.cc_item_reading.specs.Sayings.{size, item_limit}
use Rattle.cc_item_reading.specs.declared.asides.Aside.{Aside}
use Rattle.cc_item_reading.specs.ItemReading.{HearsItem, HearsAside, HearsNextItem, ReadItemCause}
use Rattle.cc_live.specs.LiveEnds.{RunsLive, ReadsBy, WritesBy}
use Rattle.cc_live.specs.LiveRuns.{Live as Told, Standing as LiveStanding, Course, Over, Waits as LiveWaits, Breaks}
use Rattle.cc_live.specs.declared.running.LiveError.{LiveError}
use Rattle.cc_live.specs.declared.running.LiveError.TheVariants as live_errors
use Rattle.cc_item_reading.specs.declared.reading.NotHeard.{NotHeard}
use Rattle.cc_item_reading.specs.declared.reading.NotHeard.TheVariants as errors
use Rattle.cc_mnf.specs.ElaboratedModules.{device_names}
use Rattle.cc_module_reasons.specs.WhyAnswers.{Why, IsWhy}
use Rattle.cc_replies.specs.Requests.{no_module, holding_under}
use Rattle.cc_verdicts.specs.ModuleLaws.{NamesOfDevicesDiffer}
use Rattle.cc_verdicts.specs.PresentTexts.{ArePresent}
use Rattle.cc_answers.specs.KeptEntries.{IsKeptFor}
use Rattle.cc_why.specs.WhyTexts.{why_text, is_refusal as is_refused}
use Rattle.cc_conversation.specs.declared.conversing.Ended.{Ended}
use Rattle.cc_conversation.specs.declared.conversing.Ended.TheVariants as endings
use Rattle.cc_conversation.specs.declared.conversing.Stopped.{Stopped}
use Rattle.cc_conversation.specs.declared.conversing.Stopped.TheVariants as stops
use Rattle.cc_conversation.specs.declared.saying.Conversation.{Conversation}
use Rattle.cc_conversation.specs.declared.conversing.Order.{Order}
use Rattle.cc_conversation.specs.declared.conversing.Order.TheVariants as orders
use Rattle.cc_conversation.specs.Conversations.{Moment, Answers, IsCourseOf, beginning, behind, under_way}
use Rattle.cc_conversation.specs.Progress.{HasSaid}

-- what a conversation is at behind its first command
abbrev pub moment_of : Conversation → Moment
moment_of it = record {
  devices = it.session.devices;
  begun = true;
  state = holding_under it.policy it.session.present;
}

-- what it is at where these devices were declared, and nothing more was said
abbrev pub beginning_with : List DeviceDecl → Moment
beginning_with devices = record { devices = devices; begun = true; state = no_module }

-- the names of its devices differ and are those that are printed, its modules are in order, and what is kept is theirs
pub record IsUnderWay (it : Conversation) : Type 0 where
  pub differ : NamesOfDevicesDiffer it.session.devices
  pub few : length it.session.devices ≤ 16
  pub present : ArePresent it.session.present
  pub kept : IsKeptFor it.session.devices it.session.present it.kept
  pub names : it.names.names.items ≡ device_names it.session.devices
  pub locals : it.names.locals ≡ 0

-- the answer to a command was written, or a front of it; it is told whether it is a refusal
pub record IsSaid (moment : Moment) (command : Command) (old new : Option (List ℕ)) (result : Result Bool WriteAll) : Type 0 where
  pub text : List ℕ
  pub refused : Bool
  pub answers : Answers moment (Commands command) text refused
  pub written : WritesWhole old new result text
  pub told : IfOk result (λ it. it ≡ refused)

-- The answer to the question why a module is refused was written, with an empty line behind it, or a front of that; it is told
-- whether the question is refused.
pub record IsExplained (moment : Moment) (name : List ℕ) (old new : Option (List ℕ)) (result : Result Bool WriteAll) : Type 0 where
  pub answer : Why
  pub is : IsWhy moment.devices moment.state.texts name answer
  pub written : WritesWhole old new result (why_text name answer ++ 10 ∷ [])
  pub told : IfOk result (λ it. it ≡ is_refused answer)

abbrev pub closed_as : LiveStanding → List ℕ → Told
closed_as (Over refused rest) text = record { text = text ++ 10 ∷ []; standing = Over refused rest }
closed_as LiveWaits text = record { text = text; standing = LiveWaits }
closed_as (Breaks rest) text = record { text = text; standing = Breaks rest }

-- a course with an empty line behind what it tells, where it is over
abbrev pub closed : Told → Told
closed it = closed_as it.standing it.text

abbrev pub closed_course : Course → Course
closed_course course lines = closed (course lines)

-- what a job cannot say was answered, by the lines of the host that were taken
pub record IsAsideTold (moment : Moment) (it : Aside) (old new : Held) (left later : Option (List ℕ)) (count counted : ℕ)
    (before after : Option (List ℕ)) (result : Result Bool LiveError) : Type 0 where
  pub course : Course
  pub comes : IsCourseOf moment.devices moment.state it course
  pub runs : RunsLive (closed_course course) old new left later count counted before after result

-- the moment behind the devices
abbrev pub opening : List DeviceDecl → Moment
opening devices = record { devices = devices; begun = false; state = no_module }

-- the devices are the same, and so is what the commands changed
abbrev pub AreAlike : Moment → Moment → Type 0
AreAlike one other = (one.devices ≡ other.devices) × (one.state ≡ other.state)

-- From the first line on, so many lines were taken and said whole items, and all that belongs to them was written.
pub record Talks (start now : Held) (left there before written : Option (List ℕ)) (number : ℕ) (refused : Bool) (moment : Moment) : Type 0 where
  pub lines : List Line
  pub text : List ℕ
  pub hears : Hears start now left there (first_line ∷ lines)
  pub said : HasSaid beginning lines text refused moment
  pub appends : Appends before written text
  pub counted : number ≡ suc (length lines)

-- Reading stopped behind that: none of a further item was heard.
abbrev pub StopsHearing : Held → Held → Option (List ℕ) → Option (List ℕ) → Option (List ℕ) → Option (List ℕ) → ℕ → Bool → NotHeard → Type 0
StopsHearing start new left later before written behind refused error =
    (now : Held) × (there : Option (List ℕ)) × (number : ℕ) × (moment : Moment)
    × Talks start now left there before written number refused moment
    × HearsNextItem moment.devices moment.begun now new there later number behind (Err error)

-- An order was heard at the moment: its lines were taken, behind so many.
abbrev pub HearsLines : Moment → Held → Held → Option (List ℕ) → Option (List ℕ) → ℕ → ℕ → Order → Type 0
HearsLines moment now new there later number behind (orders.Command command) =
    HearsItem moment.devices moment.begun now new there later (Commands command)
    × (behind ≡ number + length (item_lines (Commands command)))
HearsLines moment now new there later number behind (orders.Aside it) =
    HearsAside now new there later it × (behind ≡ number + 1)

-- An order was heard behind that.
abbrev pub HearsOrder : Held → Held → Option (List ℕ) → Option (List ℕ) → Option (List ℕ) → Option (List ℕ) → ℕ → Bool → Moment → Order → Type 0
HearsOrder start new left later before written behind refused moment order =
    (now : Held) × (there : Option (List ℕ)) × (number : ℕ)
    × Talks start now left there before written number refused moment
    × HearsLines moment now new there later number behind order

-- what has been said behind an order
abbrev pub behind_order : Moment → Order → Moment
behind_order moment (orders.Command command) = behind moment (Commands command)
behind_order moment (orders.Aside it) = under_way moment

-- What comes of waiting for the next order at a moment: none comes, and nothing is left; one does; or reading stops.
abbrev pub Awaits : Held → Held → Option (List ℕ) → Option (List ℕ) → Option (List ℕ) → Option (List ℕ) → ℕ → Bool → Moment → Result (Option Order) NotHeard → Type 0
Awaits start new left later before written behind refused moment (Ok None) =
    Talks start new left later before written behind refused moment × IsOver new × IsAtEnd later
Awaits start new left later before written behind refused moment (Ok (Some order)) =
    HearsOrder start new left later before written behind refused moment order
Awaits start new left later before written behind refused moment (Err error) =
    StopsHearing start new left later before written behind refused error

-- The same of what is said next before the first order: nothing that is waited for, or that.
abbrev pub Waits : Held → Held → Option (List ℕ) → Option (List ℕ) → Option (List ℕ) → Option (List ℕ) → ℕ → Moment → Result (Option (Option Order)) NotHeard → Type 0
Waits start new left later before written behind moment (Ok None) = Talks start new left later before written behind false moment
Waits start new left later before written behind moment (Ok (Some told)) = Awaits start new left later before written behind false moment (Ok told)
Waits start new left later before written behind moment (Err error) = StopsHearing start new left later before written behind false error

-- An answer was not written whole: that to the last command that was heard.
abbrev pub StopsWriting : Held → Held → Option (List ℕ) → Option (List ℕ) → Option (List ℕ) → Option (List ℕ) → WriteAll → Type 0
StopsWriting start new left later before last error =
    (written : Option (List ℕ)) × (behind : ℕ) × (refused : Bool) × (moment : Moment) × (other : Moment) × (command : Command)
    × HearsOrder start new left later before written behind refused moment (orders.Command command) × AreAlike moment other
    × IsSaid other command written last (Err error)

-- What a job cannot say came to no end, or was not answered whole: that of the last order.
pub record StopsInAside (start new : Held) (left later before last : Option (List ℕ)) (behind : ℕ) (error : LiveError) : Type 0 where
  pub now : Held
  pub there : Option (List ℕ)
  pub written : Option (List ℕ)
  pub number : ℕ
  pub refused : Bool
  pub moment : Moment
  pub other : Moment
  pub it : Aside
  pub hears : HearsOrder start now left there before written number refused moment (orders.Aside it)
  pub alike : AreAlike moment other
  pub tells : IsAsideTold other it now new there later number behind written last (Err error)

-- How a conversation behind its first line comes to its end: nothing is left; or it stops.
abbrev pub ComesToEnd : Held → Held → Option (List ℕ) → Option (List ℕ) → Option (List ℕ) → Option (List ℕ) → ℕ → Result Bool Stopped → Type 0
ComesToEnd start new left later before written behind (Ok refused) =
    (moment : Moment) × Talks start new left later before written behind refused moment × IsOver new × IsAtEnd later
ComesToEnd start new left later before written behind (Err (stops.Hearing error)) =
    (refused : Bool) × StopsHearing start new left later before written behind refused error
ComesToEnd start new left later before written behind (Err (stops.Writing error)) =
    StopsWriting start new left later before written error
ComesToEnd start new left later before written behind (Err (stops.Aside error)) =
    StopsInAside start new left later before written behind error

-- What carrying out an order does: more was said and answered, or it stops.
abbrev pub CarriesOn : Held → Held → Option (List ℕ) → Option (List ℕ) → Option (List ℕ) → Option (List ℕ) → ℕ → Bool → Moment → Order → Result Bool Stopped → Type 0
CarriesOn start new left later before written behind refused moment order (Ok later_refused) =
    Talks start new left later before written behind (refused || later_refused) (behind_order moment order)
CarriesOn start new left later before written behind refused moment order (Err stopped) =
    ComesToEnd start new left later before written behind (Err stopped)

-- What comes of reading the first line: it is that of each conversation; or another; or none came; or reading failed.
abbrev pub HearsFirst : Held → Held → Option (List ℕ) → Option (List ℕ) → ℕ → Result (Unit {0}) NotHeard → Type 0
HearsFirst old new left later behind (Ok u) = Hears old new left later (first_line ∷ []) × (behind ≡ 1)
HearsFirst old new left later behind (Err errors.BadLine) =
    (line : Line) × Hears old new left later (line ∷ []) × (line ≢ first_line) × (size (line ∷ []) ≤ item_limit) × (behind ≡ 1)
HearsFirst old new left later behind (Err errors.CutShort) =
    Hears old new left later [] × IsOver new × IsAtEnd later × (behind ≡ 0)
HearsFirst old new left later behind (Err errors.TooLong) =
    (part : List ℕ) × (rest : Held) × HearsPart old rest left later part × (item_limit ≤ length part)
HearsFirst old new left later behind (Err errors.ReadFault) = (part : List ℕ) × HearsPart old new left later part × IsDrained new
HearsFirst old new left later behind (Err errors.NoMemory) = (read : List ℕ) × Consumes left later read

-- Faults are told exactly where a count of them rose: a read fault, or a write fault.
abbrev pub StopCause : ℕ → ℕ → ℕ → ℕ → Result Bool Stopped → Type 0
StopCause reads later writes behind (Ok refused) = (later ≡ reads) × (behind ≡ writes)
StopCause reads later writes behind (Err (stops.Hearing error)) =
    ReadItemCause {T = Bool} reads later (Err error) × (behind ≡ writes)
StopCause reads later writes behind (Err (stops.Writing error)) =
    (later ≡ reads) × WriteAllCause {T = Bool} writes behind (Err error)
StopCause reads later writes behind (Err (stops.Aside error)) =
    ReadsBy {T = Bool} reads later (Err error) × WritesBy {T = Bool} writes behind (Err error)

-- the ending that this is
abbrev pub ending_of : Result Bool Stopped → ℕ → Ended
ending_of (Ok false) lines = endings.Clean
ending_of (Ok true) lines = endings.Refusals
ending_of (Err (stops.Hearing errors.BadLine)) lines = endings.BadLine lines
ending_of (Err (stops.Hearing errors.CutShort)) lines =
    if nat_lt (lines + 1) (2 ^ 64) then endings.BadLine (lines + 1) else endings.NoMemory
ending_of (Err (stops.Hearing errors.TooLong)) lines = endings.TooLong
ending_of (Err (stops.Hearing errors.ReadFault)) lines = endings.ReadFault
ending_of (Err (stops.Hearing errors.NoMemory)) lines = endings.NoMemory
ending_of (Err (stops.Writing write_errors.WriteFault)) lines = endings.WriteFault
ending_of (Err (stops.Writing write_errors.NoMemory)) lines = endings.NoMemory
ending_of (Err (stops.Aside live_errors.ReadFault)) lines = endings.ReadFault
ending_of (Err (stops.Aside live_errors.TooLong)) lines = endings.TooLong
ending_of (Err (stops.Aside live_errors.NoMemory)) lines = endings.NoMemory
ending_of (Err (stops.Aside live_errors.WriteFault)) lines = endings.WriteFault
ending_of (Err (stops.Aside live_errors.Ended)) lines =
    if nat_lt (lines + 1) (2 ^ 64) then endings.BadLine (lines + 1) else endings.NoMemory
ending_of (Err (stops.Aside live_errors.BadLine)) lines = endings.BadLine lines
