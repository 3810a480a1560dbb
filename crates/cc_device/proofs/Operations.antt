-- An operation touches one device, and keeps its shape.
use Rattle.std.proofs.Common.{◌≡◌, ℕ, zero, suc, List, [], ◌∷◌, length, Option, Some, None, inl, inr, refl, sym, ap, ◌∙◌}
use Rattle.std.specs.Prelude.{ℤ, slice_get, slice_set}
use Rattle.std.specs.Option.{option_map}
use Rattle.std.proofs.lemmas.Bool.{cases_eq}
use Rattle.cc_base.specs.declared.literal.Op.{Op}
use Rattle.cc_base.specs.declared.literal.Op.TheVariants as operations
use Rattle.cc_base.specs.Literals.{Literal, UnitLiteral, TruthLiteral, NumberLiteral, TextLiteral}
use Rattle.cc_device.specs.Devices.{DeviceState, Console, File, Counter, base_of_device, Answer, answer_of, read_at, Devices, Reply, replying, reply_of, operate}
use Rattle.cc_device.specs.DeviceLaws.{DevicesKeepTheirShape, OperatedDevicesAnswer, OtherDevicesStay, ShapesOfDevicesStay, NumberOfDevicesStays}

read_keeps : (numbers : List ℤ) (place : ℕ) (found : Option ℤ) (answer : Answer) → read_at numbers place found ≡ Some answer
    → base_of_device answer.device ≡ base_of_device (File numbers place)
read_keeps numbers place (Some z) answer e = cc
read_keeps numbers place None answer e = cc

pub devices_keep_their_shape : DevicesKeepTheirShape
devices_keep_their_shape (Console lines) operations.Print (Some (NumberLiteral z)) answer e = cc
devices_keep_their_shape (Console lines) operations.Print (Some UnitLiteral) answer e = cc
devices_keep_their_shape (Console lines) operations.Print (Some (TruthLiteral b)) answer e = cc
devices_keep_their_shape (Console lines) operations.Print (Some (TextLiteral b)) answer e = cc
devices_keep_their_shape (Console lines) operations.Print None answer e = cc
devices_keep_their_shape (Console lines) operations.Say (Some (TextLiteral z)) answer e = cc
devices_keep_their_shape (Console lines) operations.Say (Some UnitLiteral) answer e = cc
devices_keep_their_shape (Console lines) operations.Say (Some (TruthLiteral b)) answer e = cc
devices_keep_their_shape (Console lines) operations.Say (Some (NumberLiteral b)) answer e = cc
devices_keep_their_shape (Console lines) operations.Say None answer e = cc
devices_keep_their_shape (Console lines) operations.Read None answer e = cc
devices_keep_their_shape (Console lines) operations.Read (Some l) answer e = cc
devices_keep_their_shape (Console lines) operations.Write argument answer e = cc
devices_keep_their_shape (Console lines) operations.Tick argument answer e = cc
devices_keep_their_shape (File numbers place) operations.Print (Some (NumberLiteral z)) answer e = cc
devices_keep_their_shape (File numbers place) operations.Print (Some UnitLiteral) answer e = cc
devices_keep_their_shape (File numbers place) operations.Print (Some (TruthLiteral b)) answer e = cc
devices_keep_their_shape (File numbers place) operations.Print (Some (TextLiteral b)) answer e = cc
devices_keep_their_shape (File numbers place) operations.Print None answer e = cc
devices_keep_their_shape (File numbers place) operations.Say (Some (NumberLiteral z)) answer e = cc
devices_keep_their_shape (File numbers place) operations.Say (Some UnitLiteral) answer e = cc
devices_keep_their_shape (File numbers place) operations.Say (Some (TruthLiteral b)) answer e = cc
devices_keep_their_shape (File numbers place) operations.Say (Some (TextLiteral b)) answer e = cc
devices_keep_their_shape (File numbers place) operations.Say None answer e = cc
devices_keep_their_shape (File numbers place) operations.Read None answer e =
    read_keeps numbers place (slice_get numbers place) answer e
devices_keep_their_shape (File numbers place) operations.Read (Some l) answer e = cc
devices_keep_their_shape (File numbers place) operations.Write (Some (NumberLiteral z)) answer e = cc
devices_keep_their_shape (File numbers place) operations.Write (Some UnitLiteral) answer e = cc
devices_keep_their_shape (File numbers place) operations.Write (Some (TruthLiteral b)) answer e = cc
devices_keep_their_shape (File numbers place) operations.Write (Some (TextLiteral b)) answer e = cc
devices_keep_their_shape (File numbers place) operations.Write None answer e = cc
devices_keep_their_shape (File numbers place) operations.Tick argument answer e = cc
devices_keep_their_shape (Counter count) operations.Print (Some (NumberLiteral z)) answer e = cc
devices_keep_their_shape (Counter count) operations.Print (Some UnitLiteral) answer e = cc
devices_keep_their_shape (Counter count) operations.Print (Some (TruthLiteral b)) answer e = cc
devices_keep_their_shape (Counter count) operations.Print (Some (TextLiteral b)) answer e = cc
devices_keep_their_shape (Counter count) operations.Print None answer e = cc
devices_keep_their_shape (Counter count) operations.Say (Some (NumberLiteral z)) answer e = cc
devices_keep_their_shape (Counter count) operations.Say (Some UnitLiteral) answer e = cc
devices_keep_their_shape (Counter count) operations.Say (Some (TruthLiteral b)) answer e = cc
devices_keep_their_shape (Counter count) operations.Say (Some (TextLiteral b)) answer e = cc
devices_keep_their_shape (Counter count) operations.Say None answer e = cc
devices_keep_their_shape (Counter count) operations.Read argument answer e = cc
devices_keep_their_shape (Counter count) operations.Write argument answer e = cc
devices_keep_their_shape (Counter count) operations.Tick None answer e = cc
devices_keep_their_shape (Counter count) operations.Tick (Some l) answer e = cc

-- lists with one item changed
pub set_at : {A : Type 0} (xs : List A) (i : ℕ) (a b : A) → slice_get xs i ≡ Some a → slice_get (slice_set xs i b) i ≡ Some b
set_at [] i a b e = cc
set_at (x ∷ xs) zero a b e = refl
set_at (x ∷ xs) (suc i) a b e = set_at xs i a b e

pub set_elsewhere : {A : Type 0} (xs : List A) (i j : ℕ) (b : A) → (j ≡ i → ⊥) → slice_get (slice_set xs i b) j ≡ slice_get xs j
set_elsewhere [] i j b ne = refl
set_elsewhere (x ∷ xs) zero zero b ne = absurd (ne refl)
set_elsewhere (x ∷ xs) zero (suc j) b ne = refl
set_elsewhere (x ∷ xs) (suc i) zero b ne = refl
set_elsewhere (x ∷ xs) (suc i) (suc j) b ne = set_elsewhere xs i j b (λ e. ne (ap suc e))

set_length : {A : Type 0} (xs : List A) (i : ℕ) (b : A) → length (slice_set xs i b) ≡ length xs
set_length [] i b = refl
set_length (x ∷ xs) zero b = refl
set_length (x ∷ xs) (suc i) b = ap suc (set_length xs i b)

-- What an answered operation comes from.
pub record Answered (devices : Devices) (number : ℕ) (operation : Op) (argument : Option Literal) (reply : Reply) : Type 0 where
  pub device : DeviceState
  pub answer : Answer
  pub there : slice_get devices number ≡ Some device
  pub answers : answer_of device operation argument ≡ Some answer
  pub is : reply ≡ replying devices number answer

from_answer : (devices : Devices) (number : ℕ) (operation : Op) (argument : Option Literal) (reply : Reply) (device : DeviceState) → slice_get devices number ≡ Some device
    → (o : Option Answer) → answer_of device operation argument ≡ o → option_map (replying devices number) o ≡ Some reply → Answered devices number operation argument reply
from_answer devices number operation argument reply device there (Some answer) is e =
    record { device = device; answer = answer; there = there; answers = is; is = cc }
from_answer devices number operation argument reply device there None is e = cc

from_device : (devices : Devices) (number : ℕ) (operation : Op) (argument : Option Literal) (reply : Reply) (o : Option DeviceState) → slice_get devices number ≡ o
    → reply_of devices number operation argument o ≡ Some reply → Answered devices number operation argument reply
from_device devices number operation argument reply (Some device) is e =
    from_answer devices number operation argument reply device is (answer_of device operation argument) refl e
from_device devices number operation argument reply None is e = cc

pub answered_from : (devices : Devices) (number : ℕ) (operation : Op) (argument : Option Literal) (reply : Reply)
    → operate devices number operation argument ≡ Some reply → Answered devices number operation argument reply
answered_from devices number operation argument reply e =
    from_device devices number operation argument reply (slice_get devices number) refl e

pub operated_devices_answer : OperatedDevicesAnswer
operated_devices_answer devices number operation argument reply e =
    let was = answered_from devices number operation argument reply e in (
      was.device,
      was.answer,
      was.there,
      was.answers,
      ap (λ r. r.literal) was.is,
      ap (λ r. slice_get r.devices number) was.is ∙ set_at devices number was.device was.answer.device was.there,
    )

pub other_devices_stay : OtherDevicesStay
other_devices_stay devices number operation argument reply e other differs =
    let was = answered_from devices number operation argument reply e in
    ap (λ r. slice_get r.devices other) was.is ∙ set_elsewhere devices number other was.answer.device differs

pub shapes_of_devices_stay : ShapesOfDevicesStay
shapes_of_devices_stay devices number operation argument reply e each =
    let was = answered_from devices number operation argument reply e in
    let after : Devices = slice_set devices number was.answer.device in
    let same = devices_keep_their_shape was.device operation argument was.answer was.answers in
    ap (λ r. option_map base_of_device (slice_get r.devices each)) was.is
    ∙ elim (cases_eq each number) as (λ _. option_map base_of_device (slice_get after each) ≡ option_map base_of_device (slice_get devices each)) [
      | inl is ↦
          ap (λ n. option_map base_of_device (slice_get after n)) is
          ∙ ap (option_map base_of_device) (set_at devices number was.device was.answer.device was.there)
          ∙ ap (λ b. Some b) same
          ∙ sym (ap (option_map base_of_device) was.there)
          ∙ sym (ap (λ n. option_map base_of_device (slice_get devices n)) is)
      | inr other ↦ ap (option_map base_of_device) (set_elsewhere devices number each was.answer.device other)
    ]

pub number_of_devices_stays : NumberOfDevicesStays
number_of_devices_stays devices number operation argument reply e =
    let was = answered_from devices number operation argument reply e in
    ap (λ r. length r.devices) was.is ∙ set_length devices number was.answer.device
