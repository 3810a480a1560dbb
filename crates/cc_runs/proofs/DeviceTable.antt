-- What the device table answers, and what a move does to the devices.
use Rattle.std.proofs.Common.{◌≡◌, ℕ, true, List, Option, Some, None, length, refl, sym, ap, ◌∙◌, subst}
use Rattle.std.specs.Prelude.{ℤ, slice_get}
use Rattle.std.specs.Option.{option_map}
use Rattle.cc_base.specs.declared.literal.Base.TheVariants as bases
use Rattle.cc_base.specs.declared.literal.Op.{Op}
use Rattle.cc_base.specs.declared.literal.Op.TheVariants as operations
use Rattle.cc_base.specs.Literals.{Literal, UnitLiteral, TruthLiteral, NumberLiteral, TextLiteral}
use Rattle.cc_core.specs.Typing.{base_of, base_operated, base_taken, base_answered}
use Rattle.cc_device.specs.Devices.{DeviceState, Console, File, Counter, base_of_device, Answer, answer_of, read_at, Devices, Reply, operate}
use Rattle.cc_device.specs.Events.{Event, Operated, literal_shown}
use Rattle.cc_device.proofs.Operations.{other_devices_stay, shapes_of_devices_stay, number_of_devices_stays}
use Rattle.cc_runs.specs.Machine.{Configuration, StepOutcome, Stuck, Final, Next, Ask, is_taken, step}
use Rattle.cc_runs.specs.Runs.{State, Moves, answered, closed}
use Rattle.cc_runs.specs.RunLaws.{Suits, DevicesAnswerWhatSuits, MovesTouchOneDevice, MovesKeepTheDevices}

-- The device table answers each operation that fits, with a literal of the operation's kind, and keeps the device's shape.
abbrev pub Fits : DeviceState → Op → Option Literal → Type 0
Fits device op argument = (answer : Answer) × (answer_of device op argument ≡ Some answer) × (base_of answer.literal ≡ base_answered op) × (base_of_device answer.device ≡ base_of_device device)

read_fits : (numbers : List ℤ) (place : ℕ) (found : Option ℤ) → (answer : Answer) × (read_at numbers place found ≡ Some answer) × (base_of answer.literal ≡ bases.Int) × (base_of_device answer.device ≡ bases.File)
read_fits numbers place (Some z) = (_, refl, refl, refl)
read_fits numbers place None = (_, refl, refl, refl)

pub table_answers : (device : DeviceState) (op : Op) (argument : Option Literal) → base_of_device device ≡ base_operated op → is_taken (base_taken op) argument ≡ true → Fits device op argument
table_answers (Console lines) operations.Print (Some (NumberLiteral z)) e t = (_, refl, refl, refl)
table_answers (Console lines) operations.Print (Some UnitLiteral) e t = cc
table_answers (Console lines) operations.Print (Some (TruthLiteral b)) e t = cc
table_answers (Console lines) operations.Print (Some (TextLiteral b)) e t = cc
table_answers (Console lines) operations.Print None e t = cc
table_answers (Console lines) operations.Say (Some (TextLiteral z)) e t = (_, refl, refl, refl)
table_answers (Console lines) operations.Say (Some UnitLiteral) e t = cc
table_answers (Console lines) operations.Say (Some (TruthLiteral b)) e t = cc
table_answers (Console lines) operations.Say (Some (NumberLiteral b)) e t = cc
table_answers (Console lines) operations.Say None e t = cc
table_answers (Console lines) operations.Read argument e t = cc
table_answers (Console lines) operations.Write argument e t = cc
table_answers (Console lines) operations.Tick argument e t = cc
table_answers (File numbers place) operations.Print argument e t = cc
table_answers (File numbers place) operations.Say argument e t = cc
table_answers (File numbers place) operations.Read None e t = read_fits numbers place (slice_get numbers place)
table_answers (File numbers place) operations.Read (Some l) e t = cc
table_answers (File numbers place) operations.Write (Some (NumberLiteral z)) e t = (_, refl, refl, refl)
table_answers (File numbers place) operations.Write (Some UnitLiteral) e t = cc
table_answers (File numbers place) operations.Write (Some (TruthLiteral b)) e t = cc
table_answers (File numbers place) operations.Write (Some (TextLiteral b)) e t = cc
table_answers (File numbers place) operations.Write None e t = cc
table_answers (File numbers place) operations.Tick argument e t = cc
table_answers (Counter count) operations.Print argument e t = cc
table_answers (Counter count) operations.Say argument e t = cc
table_answers (Counter count) operations.Read argument e t = cc
table_answers (Counter count) operations.Write argument e t = cc
table_answers (Counter count) operations.Tick None e t = (_, refl, refl, refl)
table_answers (Counter count) operations.Tick (Some l) e t = cc

-- only what suits is answered
read_suits : (numbers : List ℤ) (place : ℕ) (found : Option ℤ) (answer : Answer) → read_at numbers place found ≡ Some answer → ((bases.File ≡ bases.File) × (true ≡ true)) × (base_of answer.literal ≡ bases.Int)
read_suits numbers place (Some z) answer is = ((refl, refl), cc)
read_suits numbers place None answer is = ((refl, refl), cc)

answer_suits : (device : DeviceState) (operation : Op) (argument : Option Literal) (answer : Answer) → answer_of device operation argument ≡ Some answer
    → Suits device operation argument × (base_of answer.literal ≡ base_answered operation)
answer_suits (Console lines) operations.Print (Some (NumberLiteral z)) answer is = ((refl, refl), cc)
answer_suits (Console lines) operations.Print (Some UnitLiteral) answer is = cc
answer_suits (Console lines) operations.Print (Some (TruthLiteral b)) answer is = cc
answer_suits (Console lines) operations.Print (Some (TextLiteral t)) answer is = cc
answer_suits (Console lines) operations.Print None answer is = cc
answer_suits (Console lines) operations.Say (Some (NumberLiteral z)) answer is = cc
answer_suits (Console lines) operations.Say (Some UnitLiteral) answer is = cc
answer_suits (Console lines) operations.Say (Some (TruthLiteral b)) answer is = cc
answer_suits (Console lines) operations.Say (Some (TextLiteral t)) answer is = ((refl, refl), cc)
answer_suits (Console lines) operations.Say None answer is = cc
answer_suits (Console lines) operations.Read (Some (NumberLiteral z)) answer is = cc
answer_suits (Console lines) operations.Read (Some UnitLiteral) answer is = cc
answer_suits (Console lines) operations.Read (Some (TruthLiteral b)) answer is = cc
answer_suits (Console lines) operations.Read (Some (TextLiteral t)) answer is = cc
answer_suits (Console lines) operations.Read None answer is = cc
answer_suits (Console lines) operations.Write (Some (NumberLiteral z)) answer is = cc
answer_suits (Console lines) operations.Write (Some UnitLiteral) answer is = cc
answer_suits (Console lines) operations.Write (Some (TruthLiteral b)) answer is = cc
answer_suits (Console lines) operations.Write (Some (TextLiteral t)) answer is = cc
answer_suits (Console lines) operations.Write None answer is = cc
answer_suits (Console lines) operations.Tick (Some (NumberLiteral z)) answer is = cc
answer_suits (Console lines) operations.Tick (Some UnitLiteral) answer is = cc
answer_suits (Console lines) operations.Tick (Some (TruthLiteral b)) answer is = cc
answer_suits (Console lines) operations.Tick (Some (TextLiteral t)) answer is = cc
answer_suits (Console lines) operations.Tick None answer is = cc
answer_suits (File numbers place) operations.Print (Some (NumberLiteral z)) answer is = cc
answer_suits (File numbers place) operations.Print (Some UnitLiteral) answer is = cc
answer_suits (File numbers place) operations.Print (Some (TruthLiteral b)) answer is = cc
answer_suits (File numbers place) operations.Print (Some (TextLiteral t)) answer is = cc
answer_suits (File numbers place) operations.Print None answer is = cc
answer_suits (File numbers place) operations.Say (Some (NumberLiteral z)) answer is = cc
answer_suits (File numbers place) operations.Say (Some UnitLiteral) answer is = cc
answer_suits (File numbers place) operations.Say (Some (TruthLiteral b)) answer is = cc
answer_suits (File numbers place) operations.Say (Some (TextLiteral t)) answer is = cc
answer_suits (File numbers place) operations.Say None answer is = cc
answer_suits (File numbers place) operations.Read (Some (NumberLiteral z)) answer is = cc
answer_suits (File numbers place) operations.Read (Some UnitLiteral) answer is = cc
answer_suits (File numbers place) operations.Read (Some (TruthLiteral b)) answer is = cc
answer_suits (File numbers place) operations.Read (Some (TextLiteral t)) answer is = cc
answer_suits (File numbers place) operations.Read None answer is = read_suits numbers place (slice_get numbers place) answer is
answer_suits (File numbers place) operations.Write (Some (NumberLiteral z)) answer is = ((refl, refl), cc)
answer_suits (File numbers place) operations.Write (Some UnitLiteral) answer is = cc
answer_suits (File numbers place) operations.Write (Some (TruthLiteral b)) answer is = cc
answer_suits (File numbers place) operations.Write (Some (TextLiteral t)) answer is = cc
answer_suits (File numbers place) operations.Write None answer is = cc
answer_suits (File numbers place) operations.Tick (Some (NumberLiteral z)) answer is = cc
answer_suits (File numbers place) operations.Tick (Some UnitLiteral) answer is = cc
answer_suits (File numbers place) operations.Tick (Some (TruthLiteral b)) answer is = cc
answer_suits (File numbers place) operations.Tick (Some (TextLiteral t)) answer is = cc
answer_suits (File numbers place) operations.Tick None answer is = cc
answer_suits (Counter count) operations.Print (Some (NumberLiteral z)) answer is = cc
answer_suits (Counter count) operations.Print (Some UnitLiteral) answer is = cc
answer_suits (Counter count) operations.Print (Some (TruthLiteral b)) answer is = cc
answer_suits (Counter count) operations.Print (Some (TextLiteral t)) answer is = cc
answer_suits (Counter count) operations.Print None answer is = cc
answer_suits (Counter count) operations.Say (Some (NumberLiteral z)) answer is = cc
answer_suits (Counter count) operations.Say (Some UnitLiteral) answer is = cc
answer_suits (Counter count) operations.Say (Some (TruthLiteral b)) answer is = cc
answer_suits (Counter count) operations.Say (Some (TextLiteral t)) answer is = cc
answer_suits (Counter count) operations.Say None answer is = cc
answer_suits (Counter count) operations.Read (Some (NumberLiteral z)) answer is = cc
answer_suits (Counter count) operations.Read (Some UnitLiteral) answer is = cc
answer_suits (Counter count) operations.Read (Some (TruthLiteral b)) answer is = cc
answer_suits (Counter count) operations.Read (Some (TextLiteral t)) answer is = cc
answer_suits (Counter count) operations.Read None answer is = cc
answer_suits (Counter count) operations.Write (Some (NumberLiteral z)) answer is = cc
answer_suits (Counter count) operations.Write (Some UnitLiteral) answer is = cc
answer_suits (Counter count) operations.Write (Some (TruthLiteral b)) answer is = cc
answer_suits (Counter count) operations.Write (Some (TextLiteral t)) answer is = cc
answer_suits (Counter count) operations.Write None answer is = cc
answer_suits (Counter count) operations.Tick (Some (NumberLiteral z)) answer is = cc
answer_suits (Counter count) operations.Tick (Some UnitLiteral) answer is = cc
answer_suits (Counter count) operations.Tick (Some (TruthLiteral b)) answer is = cc
answer_suits (Counter count) operations.Tick (Some (TextLiteral t)) answer is = cc
answer_suits (Counter count) operations.Tick None answer is = ((refl, refl), cc)

pub devices_answer_what_suits : DevicesAnswerWhatSuits
devices_answer_what_suits device operation argument = (
  λ suits. let fits = table_answers device operation argument suits.0 suits.1 in (fits.0, fits.1),
  λ answer is. answer_suits device operation argument answer is,
)

-- a move touches one device
abbrev IsOperationOf : ℕ → Option Event → Type 0
IsOperationOf number event = (operation : Op) × (literal : Literal) × (event ≡ Some (Operated number operation literal))

record TouchesOne (before after : Devices) (event : Option Event) : Type 0 where
  others : (number : ℕ) → (IsOperationOf number event → ⊥) → slice_get after number ≡ slice_get before number
  count : length after ≡ length before
  shapes : (number : ℕ) → option_map base_of_device (slice_get after number) ≡ option_map base_of_device (slice_get before number)

move_parts : (event event' : Option Event) (next next' : State) → Moves event next ≡ Moves event' next' → (event ≡ event') × (next ≡ next')
move_parts event event' next next' is = (cc, cc)

untouched : (devices : Devices) (event : Option Event) → TouchesOne devices devices event
untouched devices event = record { others = λ number not. refl; count = refl; shapes = λ number. refl }

reply_touches : (devices : Devices) (n : ℕ) (op : Op) (a : Option Literal) (resume : Literal → Configuration) (o : Option Reply) → operate devices n op a ≡ o
    → (event : Option Event) (next : State) → answered n op a resume o ≡ Moves event next → TouchesOne devices next.devices event
reply_touches devices n op a resume None is event next moves = cc
reply_touches devices n op a resume (Some reply) is event next moves =
    let parts = move_parts (Some (Operated n op (literal_shown a reply.literal))) event (record { configuration = resume reply.literal; devices = reply.devices }) next moves in
    let after : reply.devices ≡ next.devices = ap (λ s. s.devices) parts.1 in
    subst (λ d. TouchesOne devices d event) after (record {
      others = λ number not. other_devices_stay devices n op a reply is number
          (λ same. not (op, literal_shown a reply.literal, sym parts.0 ∙ ap (λ m. Some (Operated m op (literal_shown a reply.literal))) (sym same)));
      count = number_of_devices_stays devices n op a reply is;
      shapes = shapes_of_devices_stay devices n op a reply is;
    })

outcome_touches : (devices : Devices) (x : StepOutcome) (event : Option Event) (next : State) → closed devices x ≡ Moves event next → TouchesOne devices next.devices event
outcome_touches devices Stuck event next moves = cc
outcome_touches devices Final event next moves = cc
outcome_touches devices (Next e n) event next moves =
    let parts = move_parts e event (record { configuration = n; devices = devices }) next moves in
    subst (λ d. TouchesOne devices d event) (ap (λ s. s.devices) parts.1) (untouched devices event)
outcome_touches devices (Ask n op a resume) event next moves = reply_touches devices n op a resume (operate devices n op a) refl event next moves

pub moves_touch_one_device : MovesTouchOneDevice
moves_touch_one_device state next event is number not =
    (outcome_touches state.devices (step state.configuration) event next is).others number (λ operation. not operation.0 operation.1 operation.2)

pub moves_keep_the_devices : MovesKeepTheDevices
moves_keep_the_devices state next event is =
    let touches = outcome_touches state.devices (step state.configuration) event next is in
    (touches.count, touches.shapes)
