-- What a step of a machine keeps, after room was made for it.
use Rattle.std.proofs.Common.{◌≡◌, ◌<◌, ◌-◌, ℕ, suc, Result, Ok, Err, OnErr, Option, length, sym, ap, subst, arith}
use Rattle.cc_device.specs.Devices.{Devices}
use Rattle.cc_device.specs.Events.{Event}
use Rattle.cc_machine.specs.Standing.{StandsSoundly, with_devices, StepsAlike, KeepsShapes}
use Rattle.cc_runs.specs.Machine.{Final, step}
use Rattle.cc_runs.specs.Runs.{Moves, move}
use Rattle.cc_runs.specs.SoundRuns.{HasShapesOfCells}
use Rattle.cc_runs.proofs.DeviceTable.{moves_keep_the_devices}
use Rattle.cc_machine.specs.declared.parts.Parts.{Parts}
use Rattle.cc_machine.specs.Lines.{GoesWith, MovesAs, state_in}
use Rattle.cc_machine.specs.Parts.{store_of, stack_of, focus_in, focus_environment, configuration_of, IsLinked, HasRoom, UsesOne}
use Rattle.cc_machine.specs.Programs.{program_cells}
use Rattle.cc_machine.specs.Reserving.{HoldsTheSame}
use Rattle.cc_machine.proofs.Following.{same_parts}
use Rattle.cc_machine.proofs.StandingLemmas.{moves_exactly, steps_alike, stands_next, fits_next}

-- on an error
pub on_err : {T E : Type 0} (r : Result T E) (P : Type 0) → P → OnErr r P
on_err (Ok x) P p = tt
on_err (Err x) P p = p

-- parts that hold the same
module _ {before after : Parts} (same : HoldsTheSame before after) where
  pub same_held : configuration_of after ≡ configuration_of before
  same_held = λ j.
      record {
        store = store_of (program_cells (same.program j).now) (same.links j) (same.cells j);
        stack = stack_of (same.links j) (same.frames j);
        labels_made = same.labels j;
        term = focus_in (same.links j) (same.focus j);
      }

  pub same_linked : IsLinked before → IsLinked after
  same_linked linked = record {
    linked = same_parts after.links.items before.links.items after.cells.items before.cells.items after.frames.items before.frames.items after.labels before.labels
        same.links same.cells same.frames same.labels linked.linked;
    focus = omega (arith, linked.focus, ap focus_environment same.focus, ap length same.links);
  }

  pub same_sound : ∥ StandsSoundly (configuration_of before) ∥₁ → ∥ StandsSoundly (configuration_of after) ∥₁
  same_sound sound = subst (λ h. ∥ StandsSoundly h ∥₁) (sym same_held) sound

-- the room for one step, and what is left after it
pub room_for_one : {parts : Parts} (spare : ℕ) → HasRoom parts spare → 0 < spare → HasRoom parts 1
room_for_one {parts} spare room some = record {
  links = let h = room.links in omega arith;
  cells = let h = room.cells in omega arith;
  frames = let h = room.frames in omega arith;
  positions = let h = room.positions in omega arith;
}

pub room_after : {ready after : Parts} (spare left : ℕ) → HasRoom ready spare → UsesOne ready after → 0 < spare → left ≡ spare - 1 → HasRoom after left
room_after {ready} {after} spare left room uses some is =
    let one : spare ≡ suc left = omega arith in uses.room left (subst (HasRoom ready) one room)

-- a step of a machine
module _ (before : Parts) {ready after : Parts} (devices devices' : Devices) (event : Option Event) (same : configuration_of ready ≡ configuration_of before)
    (goes : GoesWith (move (state_in ready devices)) ready event after devices') (sound : ∥ StandsSoundly (configuration_of before) ∥₁)
    (fits : HasShapesOfCells (configuration_of before).store devices) (running : step (configuration_of before) ≡ Final → ⊥) where
  pub held_moves : move (with_devices (configuration_of before) devices) ≡ Moves event (with_devices (configuration_of after) devices')
  held_moves =
      moves_exactly (configuration_of before) devices event (state_in after devices') fits sound running
      (subst (λ h. MovesAs (move (with_devices h devices)) event (state_in after devices')) same goes.moves)

  pub held_steps : StepsAlike (configuration_of before) devices event (configuration_of after) devices'
  held_steps = steps_alike (configuration_of before) devices event (configuration_of after) devices' fits held_moves

  pub held_stands : ∥ StandsSoundly (configuration_of after) ∥₁
  held_stands = stands_next (configuration_of before) devices event (configuration_of after) devices' fits held_moves sound

  pub held_fits : HasShapesOfCells (configuration_of after).store devices'
  held_fits = fits_next (configuration_of before) devices event (configuration_of after) devices' fits held_moves sound

  pub held_shapes : KeepsShapes devices devices'
  held_shapes = (moves_keep_the_devices (with_devices (configuration_of before) devices) (with_devices (configuration_of after) devices') event held_moves).1
