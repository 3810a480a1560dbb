-- One turn of a conversation more.
use Rattle.std.proofs.Common.{◌≡◌, ◌≢◌, ◌⊎◌, inl, inr, ℕ, suc, ◌+◌, ◌≤◌, ◌<◌, Bool, true, false, List, [], ◌∷◌, ◌++◌, length, take, Option, Some, None, Result, Ok, Err, IsTrue, refl, sym, ap, subst, ◌∙◌, arith, append_assoc, append-nil, length-append}
use Rattle.std.specs.Prelude.{◌||◌}
use Rattle.std.proofs.KnownBytes.{Appends-trans}
use Rattle.std.specs.Io.KnownBytes.{Appends, Consumes}
use Rattle.cc_base.specs.declared.device.DeviceDecl.{DeviceDecl}
use Rattle.cc_io.specs.declared.whole.WriteAll.{WriteAll}
use Rattle.cc_io.specs.declared.whole.WriteAll.TheVariants as write_errors
use Rattle.cc_io.specs.Wholes.{AppendsFront, WritesWhole}
use Rattle.cc_job.specs.declared.job.Command.{Command}
use Rattle.cc_job.specs.Jobs.{Item, Declares, Commands, first_line, item_lines}
use Rattle.cc_words.specs.Lines.{Line}
use Rattle.cc_line_reading.specs.LineReading.{Held, Hears, HearsPart, IsOver}
use Rattle.cc_item_reading.specs.Sayings.{size, item_limit}
use Rattle.cc_item_reading.specs.ItemReading.{HearsItem, HearsNextItem, AreDeclared}
use Rattle.cc_item_reading.specs.declared.reading.Heard.TheVariants as heard
use Rattle.cc_item_reading.specs.declared.reading.NotHeard.{NotHeard}
use Rattle.cc_item_reading.specs.declared.reading.NotHeard.TheVariants as errors
use Rattle.cc_item_reading.proofs.Hearing.{hears_both}
use Rattle.cc_conversation.specs.Conversations.{Moment, Answers, IsCourseOf, AreShort, beginning, behind, under_way}
use Rattle.cc_conversation.specs.Progress.{HasSaid}
use Rattle.cc_conversation.specs.Progress.HasSaid.{nothing, blank, item, aside}
use Rattle.cc_item_reading.specs.Sayings.{aside_line}
use Rattle.cc_item_reading.specs.declared.asides.Aside.{Aside}
use Rattle.cc_live.specs.LiveEnds.{AreWithin, RunsLive}
use Rattle.cc_live.specs.LiveRuns.{Standing as LiveStanding, Over, Waits, Breaks, Course}
use Rattle.cc_conversation.specs.declared.conversing.Order.{Order}
use Rattle.cc_conversation.specs.declared.conversing.Order.TheVariants as orders
use Rattle.cc_conversation.specs.Turns.{Talks, StopsHearing, HearsOrder, Awaits, IsSaid, IsAsideTold, AreAlike, opening, behind_order, closed_as, closed_course}

-- an empty line more
pub talks_blank : (devices : List DeviceDecl) (begun : Bool) (start now new : Held) (left there later before written : Option (List ℕ))
    (number behind : ℕ) (refused : Bool) (moment : Moment) → Talks start now left there before written number refused moment
    → HearsNextItem devices begun now new there later number behind (Ok heard.Empty)
    → Talks start new left later before written behind refused moment
talks_blank devices begun start now new left there later before written number behind refused moment talks (hears, counted) = record {
  lines = talks.lines ++ [] ∷ [];
  text = talks.text;
  hears = hears_both start now new left there later (first_line ∷ talks.lines) ([] ∷ []) talks.hears hears;
  said = blank talks.said;
  appends = talks.appends;
  counted = omega (arith, counted, talks.counted, length-append {A = Line} talks.lines ([] ∷ []));
}

-- a device more
pub talks_device : (devices : List DeviceDecl) (device : DeviceDecl) (start now new : Held) (left there later before written : Option (List ℕ))
    (number behind : ℕ) → Talks start now left there before written number false (opening devices)
    → HearsNextItem devices false now new there later number behind (Ok (heard.Device device))
    → Talks start new left later before written behind false (opening (devices ++ device ∷ []))
talks_device devices device start now new left there later before written number behind talks (next, counted) = record {
  lines = talks.lines ++ item_lines (Declares device);
  text = talks.text ++ [];
  hears = hears_both start now new left there later (first_line ∷ talks.lines) (item_lines (Declares device)) talks.hears next.hears;
  said = item (Declares device) [] false talks.said next.may next.short (refl, refl);
  appends = subst (Appends before written) (sym (append-nil talks.text)) talks.appends;
  counted = omega (arith, counted, talks.counted, length-append talks.lines (item_lines (Declares device)));
}

pub device_declared : (devices : List DeviceDecl) (device : DeviceDecl) (now new : Held) (there later : Option (List ℕ)) (number behind : ℕ)
    → HearsNextItem devices false now new there later number behind (Ok (heard.Device device)) → AreDeclared (devices ++ device ∷ [])
device_declared devices device now new there later number behind (next, counted) =
    (omega (arith, next.may.1.few, length-append devices (device ∷ [])), next.may.1.names)

-- behind a command no device is heard
pub no_late_device : (devices : List DeviceDecl) (device : DeviceDecl) (now new : Held) (there later : Option (List ℕ)) (number behind : ℕ)
    → HearsNextItem devices true now new there later number behind (Ok (heard.Device device)) → ⊥
no_late_device devices device now new there later number behind (next, counted) = let early = next.may.1.early in cc

-- memory lacked where nothing more was taken
pub nothing_taken : (devices : List DeviceDecl) (begun : Bool) (now : Held) (there : Option (List ℕ)) (number : ℕ)
    → HearsNextItem devices begun now now there there number number (Err errors.NoMemory)
nothing_taken devices begun now None number = ([], tt)
nothing_taken devices begun now (Some xs) number = ([], refl)

-- memory lacked for a device that was heard
pub device_lost : (devices : List DeviceDecl) (device : DeviceDecl) (now new : Held) (there later : Option (List ℕ)) (number behind : ℕ)
    → HearsNextItem devices false now new there later number behind (Ok (heard.Device device))
    → HearsNextItem devices false now new there later number behind (Err errors.NoMemory)
device_lost devices device now new there later number behind (next, counted) = (next.hears.takes.read, next.hears.takes.consumed)

-- an item is answered alike at moments that are
pub answers_alike : (one other : Moment) (command : Command) (text : List ℕ) (refused : Bool) → AreAlike one other
    → Answers other (Commands command) text refused → Answers one (Commands command) text refused
answers_alike one other command text refused alike answers =
    subst (λ state. Answers (record { devices = one.devices; begun = one.begun; state = state }) (Commands command) text refused) (sym alike.1)
    (subst (λ devices. Answers (record { devices = devices; begun = one.begun; state = other.state }) (Commands command) text refused) (sym alike.0) answers)

-- the answer to a command was written
pub talks_said : (start new : Held) (left later before written last : Option (List ℕ)) (number : ℕ) (refused second : Bool) (moment other : Moment)
    (command : Command) → HearsOrder start new left later before written number refused moment (orders.Command command) → AreAlike moment other
    → IsSaid other command written last (Ok second)
    → Talks start new left later before last number (refused || second) (behind moment (Commands command))
talks_said start new left later before written last number refused second moment other command (now, there, place, talks, (next, counted)) alike said = record {
  lines = talks.lines ++ item_lines (Commands command);
  text = talks.text ++ said.text;
  hears = hears_both start now new left there later (first_line ∷ talks.lines) (item_lines (Commands command)) talks.hears next.hears;
  said = subst (λ it. HasSaid beginning (talks.lines ++ item_lines (Commands command)) (talks.text ++ said.text) (refused || it) (behind moment (Commands command)))
      (sym said.told)
      (item (Commands command) said.text said.refused talks.said next.may next.short (answers_alike moment other command said.text said.refused alike said.answers));
  appends = Appends-trans before written last talks.text said.text talks.appends said.written;
  counted = omega (arith, counted, talks.counted, length-append talks.lines (item_lines (Commands command)));
}

-- what a course tells whose end is told with an empty line
closed_over : (standing : LiveStanding) (text told : List ℕ) (refused : Bool) → closed_as standing text ≡ record { text = told; standing = Over refused [] }
    → (standing ≡ Over refused []) × (told ≡ text ++ 10 ∷ [])
closed_over (Over so rest) text told refused e = (ap (λ it. it.standing) e, sym (ap (λ it. it.text) e))
closed_over Waits text told refused e = let no : Waits ≡ Over refused [] = ap (λ it. it.standing) e in cc
closed_over (Breaks rest) text told refused e = let no : Breaks rest ≡ Over refused [] = ap (λ it. it.standing) e in cc

pub over_of : (course : Course) (host : List Line) (told : List ℕ) (refused : Bool) → closed_course course host ≡ record { text = told; standing = Over refused [] }
    → (course host ≡ record { text = (course host).text; standing = Over refused [] }) × (told ≡ (course host).text ++ 10 ∷ [])
over_of course host told refused e =
    let it = closed_over (course host).standing (course host).text told refused e in
    (ap (λ s. record { text = (course host).text; standing = s }) it.0, it.1)

-- the same comes of what a job cannot say at moments that are alike
pub course_alike : (one other : Moment) (it : Aside) (course : Course) → AreAlike one other
    → IsCourseOf other.devices other.state it course → IsCourseOf one.devices one.state it course
course_alike one other it course alike comes =
    subst (λ state. IsCourseOf one.devices state it course) (sym alike.1)
    (subst (λ devices. IsCourseOf devices other.state it course) (sym alike.0) comes)

-- lines that are short
pub are_short : (lines : List Line) → AreWithin lines → AreShort lines
are_short [] within = tt
are_short (line ∷ lines) within = (omega (arith, within.0, length-append line (10 ∷ [])), are_short lines within.1)

-- what a job cannot say was answered to its end
pub talks_aside : (start new : Held) (left later before written last : Option (List ℕ)) (number behind : ℕ) (refused second : Bool) (moment other : Moment)
    (it : Aside) (between : Held) (source : Option (List ℕ))
    → HearsOrder start between left source before written number refused moment (orders.Aside it)
    → AreAlike moment other → IsAsideTold other it between new source later number behind written last (Ok second)
    → Talks start new left later before last behind (refused || second) (under_way moment)
talks_aside start new left later before written last number behind refused second moment other it between source
    (now, there, place, talks, (next, counted)) alike answered = record {
      lines = talks.lines ++ aside_line it ∷ runs.heard;
      text = talks.text ++ (own ++ 10 ∷ []);
      hears = subst (λ ls. Hears start new left later (first_line ∷ ls)) (append_assoc talks.lines (aside_line it ∷ []) runs.heard)
          (hears_both start between new left source later (first_line ∷ (talks.lines ++ aside_line it ∷ [])) runs.heard
          (hears_both start now between left there source (first_line ∷ talks.lines) (aside_line it ∷ []) talks.hears next.hears) runs.listens);
      said = aside it answered.course runs.heard own second talks.said next.may next.short
          (course_alike moment other it answered.course alike answered.comes) (are_short runs.heard runs.within) over.0;
      appends = subst (λ t. Appends before last (talks.text ++ t)) over.1
          (Appends-trans before written last talks.text runs.text talks.appends runs.tells);
      counted = omega (arith, runs.counts, counted, talks.counted, length-append talks.lines (aside_line it ∷ runs.heard));
    }
  where
    runs : RunsLive (closed_course answered.course) between new source later number behind written last (Ok second)
    runs = answered.runs

    own : List ℕ
    own = (answered.course runs.heard).text

    over : (answered.course runs.heard ≡ record { text = own; standing = Over second [] }) × (runs.text ≡ own ++ 10 ∷ [])
    over = over_of answered.course runs.heard runs.text second runs.comes

-- moments that are alike stay so
pub alike_behind : (moment other last : Moment) (order : Order) → AreAlike moment other → last ≡ behind_order other order
    → AreAlike (behind_order moment order) last
alike_behind moment other last (orders.Command command) alike is =
    subst (AreAlike (behind moment (Commands command))) (sym is)
    (alike.0, ap (λ state. (behind (record { devices = moment.devices; begun = moment.begun; state = state }) (Commands command)).state) alike.1)
alike_behind moment other last (orders.Aside it) alike is = subst (AreAlike (under_way moment)) (sym is) alike

-- what was taken of an order for which memory lacks
pub order_lost : (start new : Held) (left later before written : Option (List ℕ)) (number : ℕ) (refused : Bool) (moment : Moment) (order : Order)
    → HearsOrder start new left later before written number refused moment order
    → StopsHearing start new left later before written number refused errors.NoMemory
order_lost start new left later before written number refused moment (orders.Command command) (now, there, place, talks, (next, counted)) =
    (now, there, place, moment, talks, (next.hears.takes.read, next.hears.takes.consumed))
order_lost start new left later before written number refused moment (orders.Aside it) (now, there, place, talks, (next, counted)) =
    (now, there, place, moment, talks, (next.hears.takes.read, next.hears.takes.consumed))
