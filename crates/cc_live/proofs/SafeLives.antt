-- Live runs of an entry's program are safe, whatever the host says.
use Rattle.std.proofs.Common.{◌≡◌, ℕ, suc, List, [], ◌∷◌, map, Option, Some, None, inl, inr, true, refl, sym, subst, arith}
use Rattle.std.specs.List.{list_all}
use Rattle.std.specs.Prelude.{pos}
use Rattle.cc_base.specs.Literals.{Literal, UnitLiteral, NumberLiteral}
use Rattle.cc_base.specs.declared.literal.Base.{Base}
use Rattle.cc_base.specs.declared.literal.Base.TheVariants as bases
use Rattle.cc_base.specs.declared.literal.Op.{Op}
use Rattle.cc_base.specs.declared.literal.Op.TheVariants as operations
use Rattle.cc_core.specs.Stores.{is_device_base}
use Rattle.cc_core.specs.Typing.{base_operated}
use Rattle.cc_device.specs.Devices.{DeviceState, Console, File, Counter, Devices, base_of_device}
use Rattle.cc_device.specs.Events.{Event, Operated, literal_shown}
use Rattle.cc_live.specs.LiveLaws.{LiveRunsAreSafe}
use Rattle.cc_replay.proofs.SafeTraces.{safe_from}
use Rattle.cc_replay.specs.AnsweredRuns.{IsAnswerOf, GoesTo, GoesOnTo, AnsweredRun}
use Rattle.cc_replay.specs.AnsweredRuns as answered
use Rattle.cc_runs.proofs.LinkedPrograms.{program_starts}
use Rattle.cc_runs.proofs.SafeRuns.{start_reaches}
use Rattle.cc_runs.specs.Links.{program_start}
use Rattle.cc_runs.specs.Machine.{Configuration}
use Rattle.cc_runs.specs.Runs.{with_event}
use Rattle.cc_runs.specs.SafeRuns.{scopes_of, IsListed, IsAmong}
use Rattle.cc_words.proofs.Steps.{both}

-- there are devices of each list of their shapes
some_device : (b : Base) → is_device_base b ≡ true → (device : DeviceState) × (base_of_device device ≡ b)
some_device bases.Unit is = cc
some_device bases.Bool is = cc
some_device bases.Int is = cc
some_device bases.Str is = cc
some_device bases.Console is = (Console [], refl)
some_device bases.File is = (File [] 0, refl)
some_device bases.Counter is = (Counter (pos 0), refl)

some_devices : (bs : List Base) → list_all is_device_base bs ≡ true → (devices : Devices) × (map base_of_device devices ≡ bs)
some_devices [] are = ([], refl)
some_devices (b ∷ bs) are =
    let parts = both (is_device_base b) (list_all is_device_base bs) are in
    let first = some_device b parts.0 in
    let others = some_devices bs parts.1 in
    (first.0 ∷ others.0, λ i. first.1 i ∷ others.1 i)

-- each operation can be answered
pub some_answer : (op : Op) → (answer : Literal) × IsAnswerOf op answer
some_answer operations.Print = (UnitLiteral, (refl, refl))
some_answer operations.Say = (UnitLiteral, (refl, refl))
some_answer operations.Read = (NumberLiteral (pos 0), (refl, refl))
some_answer operations.Write = (UnitLiteral, (refl, refl))
some_answer operations.Tick = (NumberLiteral (pos 0), (refl, refl))

-- some steps and one more, with its event
pub record OneMore (count : ℕ) (start : Configuration) (event : Event) (next : Configuration) : Type 0 where
  pub events : List Event
  pub went : GoesOnTo (suc count) start events next
  pub among : IsAmong event events

later_among : (event : Option Event) (one : Event) (events : List Event) → IsAmong one events → IsAmong one (with_event event events)
later_among None one events among = among
later_among (Some first) one events among = inr among

pub one_more : {count : ℕ} {start now : Configuration} {events : List Event} {event : Event} {next : Configuration} → GoesOnTo count start events now → GoesTo now (Some event) next
    → OneMore count start event next
one_more {event = event} answered.none goes = record { events = event ∷ []; went = answered.more goes answered.none; among = inl refl }
one_more {event = one} (answered.more {event = event} first later) goes =
    let it = one_more later goes in
    record { events = with_event event it.events; went = answered.more first it.went; among = later_among event one it.events it.among }

pub live_runs_are_safe : LiveRunsAreSafe
live_runs_are_safe entry is names fuel lines it =
    let devices = some_devices entry.devices is.devices in
    let begins = program_starts entry is devices.0 devices.1 in
    let start = program_start entry in
    let run : AnsweredRun it.steps start =
    record { events = it.events; steps = it.steps; last = it.now; went = it.went; within = omega arith; ended = inl refl } in
    let safe = safe_from start begins.sound.configuration run in
    record {
      never_stuck = safe.never_stuck;
      asks = λ moment count before went n op a resume asks.
          let answer = some_answer op in
          let event = Operated n op (literal_shown a answer.0) in
          let more = one_more went (answered.by_answer answer.0 asks answer.1) in
          let longer : AnsweredRun (suc count) start =
          record { events = more.events; steps = suc count; last = resume answer.0; went = more.went; within = omega arith; ended = inl refl } in
          subst (IsListed n) (sym is.authority)
          (start_reaches _ _ _ _ _ _ _ _ begins n (base_operated op)
          ((safe_from start begins.sound.configuration longer).reached n op (literal_shown a answer.0) more.among));
      operates = λ n op literal among.
          subst (IsListed n) (sym is.authority)
          (start_reaches _ _ _ _ _ _ _ _ begins n (base_operated op) (safe.reached n op literal among));
      well_scoped = (scopes_of it.now.stack, safe.scopes);
      not_stopped = safe.not_stopped;
    }
