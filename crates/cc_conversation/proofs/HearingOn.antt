-- What comes of waiting for the next order, from what comes of hearing the next item.
use Rattle.std.proofs.Common.{◌≡◌, ℕ, ◌+◌, Bool, true, false, List, [], ◌∷◌, ◌++◌, length, Option, Some, None, Result, Ok, Err, IsTrue, refl, sym, ap, subst, ◌∙◌, arith, append-nil, length-append}
use Rattle.std.specs.List.{IsDistinct}
use Rattle.cc_base.specs.declared.device.DeviceDecl.{DeviceDecl}
use Rattle.cc_job.specs.declared.job.Command.{Command}
use Rattle.cc_job.specs.Jobs.{Commands, first_line, item_lines}
use Rattle.cc_words.specs.Lines.{Line}
use Rattle.cc_line_reading.specs.LineReading.{Held, Hears, IsOver}
use Rattle.cc_item_reading.specs.ItemReading.{HearsItem, HearsNextItem, AreDeclared}
use Rattle.cc_item_reading.specs.declared.asides.Aside.{Aside}
use Rattle.cc_item_reading.specs.declared.reading.Heard.{Heard}
use Rattle.cc_item_reading.specs.declared.reading.Heard.TheVariants as heard
use Rattle.cc_item_reading.specs.declared.reading.NotHeard.{NotHeard}
use Rattle.cc_item_reading.specs.declared.reading.NotHeard.TheVariants as errors
use Rattle.cc_item_reading.proofs.Hearing.{hears_both}
use Rattle.cc_conversation.specs.Conversations.{Moment}
use Rattle.cc_conversation.specs.Turns.{Talks, StopsHearing, HearsOrder, Awaits, opening}
use Rattle.cc_conversation.specs.declared.conversing.Order.TheVariants as orders
use Rattle.cc_conversation.proofs.Turning.{nothing_taken}

-- what is heard with these devices behind a command is heard at a moment that has them
pub at_moment : (devices : List DeviceDecl) (moment : Moment) (now new : Held) (there later : Option (List ℕ)) (number behind : ℕ)
    (told : Result Heard NotHeard) → moment.devices ≡ devices → IsTrue moment.begun
    → HearsNextItem devices true now new there later number behind told
    → HearsNextItem moment.devices moment.begun now new there later number behind told
at_moment devices moment now new there later number behind told same begun next =
    subst (λ it. HearsNextItem moment.devices it now new there later number behind told) (sym begun)
    (subst (λ it. HearsNextItem it true now new there later number behind told) (sym same) next)

-- nothing is left
pub awaits_end : (moment : Moment) (start now new : Held) (left there later before written : Option (List ℕ)) (number behind : ℕ)
    (refused : Bool) → Talks start now left there before written number refused moment
    → HearsNextItem moment.devices moment.begun now new there later number behind (Ok heard.End)
    → Awaits start new left later before written behind refused moment (Ok None)
awaits_end moment start now new left there later before written number behind refused talks (hears, over, at_end, counted) = (
  record {
    lines = talks.lines;
    text = talks.text;
    hears = subst (λ it. Hears start new left later it) (append-nil (first_line ∷ talks.lines))
        (hears_both start now new left there later (first_line ∷ talks.lines) [] talks.hears hears);
    said = talks.said;
    appends = talks.appends;
    counted = counted ∙ talks.counted;
  },
  over,
  at_end,
)

-- a command
pub awaits_command : (moment : Moment) (command : Command) (start now new : Held) (left there later before written : Option (List ℕ))
    (number behind : ℕ) (refused : Bool) → Talks start now left there before written number refused moment
    → HearsNextItem moment.devices moment.begun now new there later number behind (Ok (heard.Command command))
    → Awaits start new left later before written behind refused moment (Ok (Some (orders.Command command)))
awaits_command moment command start now new left there later before written number behind refused talks (next, counted) =
    (now, there, number, talks, (next, counted))

-- what a job cannot say
pub awaits_aside : (moment : Moment) (it : Aside) (start now new : Held) (left there later before written : Option (List ℕ))
    (number behind : ℕ) (refused : Bool) → Talks start now left there before written number refused moment
    → HearsNextItem moment.devices moment.begun now new there later number behind (Ok (heard.Aside it))
    → Awaits start new left later before written behind refused moment (Ok (Some (orders.Aside it)))
awaits_aside moment it start now new left there later before written number behind refused talks (next, counted) =
    (now, there, number, talks, (next, counted))

-- reading stops
pub awaits_stop : (moment : Moment) (error : NotHeard) (start now new : Held) (left there later before written : Option (List ℕ))
    (number behind : ℕ) (refused : Bool) → Talks start now left there before written number refused moment
    → HearsNextItem moment.devices moment.begun now new there later number behind (Err error)
    → Awaits start new left later before written behind refused moment (Err error)
awaits_stop moment error start now new left there later before written number behind refused talks next =
    (now, there, number, moment, talks, next)

-- memory lacked where nothing more was taken
pub awaits_none : (moment : Moment) (start now : Held) (left there before written : Option (List ℕ)) (number : ℕ) (refused : Bool)
    → Talks start now left there before written number refused moment
    → Awaits start now left there before written number refused moment (Err errors.NoMemory)
awaits_none moment start now left there before written number refused talks =
    (now, there, number, moment, talks, nothing_taken moment.devices moment.begun now there number)

-- before any device
pub none_declared : AreDeclared []
unfolding IsDistinct
none_declared = (omega arith, tt)
