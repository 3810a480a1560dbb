-- What comes of going on, from what its turns come to.
use Rattle.std.proofs.Common.{◌≡◌, ℕ, Bool, true, false, List, [], ◌∷◌, Option, Some, None, Result, Ok, Err, IsTrue, refl, sym, ap, subst, ◌∙◌}
use Rattle.std.proofs.KnownBytes.{Appends-nil}
use Rattle.cc_base.specs.declared.device.DeviceDecl.{DeviceDecl}
use Rattle.cc_item_reading.specs.ItemReading.{ReadItemCause}
use Rattle.cc_item_reading.specs.declared.reading.NotHeard.{NotHeard}
use Rattle.cc_item_reading.specs.declared.reading.NotHeard.TheVariants as errors
use Rattle.cc_job.specs.Jobs.{first_line}
use Rattle.cc_line_reading.specs.LineReading.{Held, Hears}
use Rattle.cc_conversation.specs.Conversations.{Moment}
use Rattle.cc_conversation.specs.Conversed.{fresh}
use Rattle.cc_conversation.specs.Progress.HasSaid.{nothing}
use Rattle.cc_conversation.specs.Turns.{Talks, AreAlike, HearsFirst, StopCause, behind_order, beginning_with, opening}
use Rattle.cc_conversation.specs.declared.conversing.Order.{Order}
use Rattle.cc_conversation.specs.declared.conversing.Order.TheVariants as orders
use Rattle.cc_conversation.specs.declared.conversing.Stopped.TheVariants as stops

-- behind an order a command was given
pub begun_behind : (moment : Moment) (order : Order) → IsTrue (behind_order moment order).begun
begun_behind moment (orders.Command command) = refl
begun_behind moment (orders.Aside it) = refl

-- a conversation begins where its devices were declared
pub alike_first : (devices : List DeviceDecl) (moment : Moment) → moment ≡ beginning_with devices → AreAlike (opening devices) moment
alike_first devices moment is = subst (AreAlike (opening devices)) (sym is) (refl, refl)

-- behind the first line nothing was said yet
pub talks_first : (old now : Held) (left there sink : Option (List ℕ)) (number : ℕ) → old ≡ fresh → HearsFirst old now left there number (Ok tt)
    → Talks fresh now left there sink sink number false (opening [])
talks_first old now left there sink number is (hears, counted) = record {
  lines = [];
  text = [];
  hears = subst (λ h. Hears h now left there (first_line ∷ [])) is hears;
  said = nothing;
  appends = Appends-nil sink;
  counted = counted;
}

pub heard_fresh : (old now : Held) (left there : Option (List ℕ)) (number : ℕ) (error : NotHeard) → old ≡ fresh → HearsFirst old now left there number (Err error)
    → HearsFirst fresh now left there number (Err error)
heard_fresh old now left there number error is heard = subst (λ h. HearsFirst h now left there number (Err error)) is heard

-- faults are told the same whatever else is
pub cause_as : (error : NotHeard) (before behind : ℕ) → ReadItemCause {T = Unit {0}} before behind (Err error) → ReadItemCause {T = Bool} before behind (Err error)
cause_as errors.BadLine before behind it = it
cause_as errors.CutShort before behind it = it
cause_as errors.TooLong before behind it = it
cause_as errors.ReadFault before behind it = it
cause_as errors.NoMemory before behind it = it
