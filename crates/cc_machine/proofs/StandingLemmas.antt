-- What a machine stands for moves as what it holds does.
use Rattle.std.proofs.Common.{◌≡◌, ℕ, Option, Some, None, option_map, refl, sym, ap, ◌∙◌, subst}
use Rattle.std.proofs.Math.Logic.{∥∥₁_elim}
use mathlib.Core.Sum.{⊎_set}
use Rattle.cc_base.specs.declared.literal.Base.{Base}
use Rattle.cc_core.specs.Contexts.{lookup}
use Rattle.cc_core.specs.Stores.{Cell, ValueCell, DeviceCell, LabelCell}
use Rattle.cc_core.proofs.Lookups.{lookup-map}
use Rattle.cc_device.specs.Devices.{Devices}
use Rattle.cc_device.specs.Events.{Event}
use Rattle.cc_machine.specs.Standing.{StandsFor, StandsSoundly, with_devices, StepsAlike}
use Rattle.cc_runs.specs.Alike.{erased_cell}
use Rattle.cc_runs.specs.Machine.{Configuration, Final, step}
use Rattle.cc_runs.specs.Runs.{State, Move, IsStuck, IsFinal, Moves, move}
use Rattle.cc_runs.specs.Soundness.{IsSound}
use Rattle.cc_runs.specs.SoundRuns.{HasShapesOfCells, IsSoundState, IsSoundMove}
use Rattle.cc_runs.proofs.Erasure.{erased_state, erased_move, move-erased}
use Rattle.cc_runs.proofs.Finality.{final_exactly_where_answered, final_states_are_answered}
use Rattle.cc_runs.proofs.RunTheorems.{fitting_is_by_shapes, moves_are_sound}
use Rattle.cc_machine.specs.Lines.{MovesAs}

-- devices stand in the same cells
same_device : (o : Option Cell) (n : ℕ) (b : Base) → option_map erased_cell o ≡ Some (DeviceCell n b) → o ≡ Some (DeviceCell n b)
same_device (Some (DeviceCell m b')) n b is = cc
same_device (Some (ValueCell v)) n b is = cc
same_device (Some (LabelCell m)) n b is = cc
same_device None n b is = cc

module _ (held configuration : Configuration) (stands : StandsFor held configuration) where
  cell_held : (p : ℕ) → lookup held.store p ≡ option_map erased_cell (lookup configuration.store p)
  cell_held p = ap (λ h. lookup h.store p) (sym stands) ∙ lookup-map erased_cell configuration.store p

  pub fits_alike : (devices : Devices) → HasShapesOfCells held.store devices → HasShapesOfCells configuration.store devices
  fits_alike devices fits p n b at = fits p n b (cell_held p ∙ ap (option_map erased_cell) at)

  pub fits_back : (devices : Devices) → HasShapesOfCells configuration.store devices → HasShapesOfCells held.store devices
  fits_back devices fits p n b at = fits p n b (same_device (lookup configuration.store p) n b (sym (cell_held p) ∙ at))

  pub sound_state : (devices : Devices) → IsSound configuration → HasShapesOfCells held.store devices → IsSoundState (with_devices configuration devices)
  sound_state devices sound fits = record {
    configuration = sound;
    devices = (fitting_is_by_shapes configuration.store devices).1 (fits_alike devices fits);
  }

  pub move_held : (devices : Devices) → move (with_devices held devices) ≡ erased_move (move (with_devices configuration devices))
  move_held devices = sym (ap (λ h. move (with_devices h devices)) stands) ∙ move-erased (with_devices configuration devices)

-- a move of what is erased comes of one
same_move : (e e' : Option Event) (n n' : State) → Moves e n ≡ Moves e' n' → (e ≡ e') × (n ≡ n')
same_move e e' n n' is = (cc, cc)

unerased : (m : Move) (e : Option Event) (n : State) → erased_move m ≡ Moves e n → (n' : State) × (m ≡ Moves e n') × (erased_state n' ≡ n)
unerased IsStuck e n is = cc
unerased IsFinal e n is = cc
unerased (Moves e' n') e n is =
    let parts = same_move e' e (erased_state n') n is in (n', ap (λ x. Moves x n') parts.0, parts.1)

stuck_back : (m : Move) → erased_move m ≡ IsStuck → m ≡ IsStuck
stuck_back IsStuck is = refl
stuck_back IsFinal is = cc
stuck_back (Moves e n) is = cc

pub final_back : (m : Move) → erased_move m ≡ IsFinal → m ≡ IsFinal
final_back IsFinal is = refl
final_back IsStuck is = cc
final_back (Moves e n) is = cc

-- so what is stood for moves alike
pub steps_alike : (held : Configuration) (devices : Devices) (event : Option Event) (held' : Configuration) (devices' : Devices)
    → HasShapesOfCells held.store devices → move (with_devices held devices) ≡ Moves event (with_devices held' devices')
    → StepsAlike held devices event held' devices'
steps_alike held devices event held' devices' fits is = record {
  moves = λ c stands.
      let found = unerased (move (with_devices c devices)) event (with_devices held' devices') (sym (move_held held c stands devices) ∙ is) in (
        found.0.configuration,
        found.1 ∙ ap (λ d. Moves event (with_devices found.0.configuration d)) (ap (λ s. s.devices) found.2),
        ap (λ s. s.configuration) found.2,
      );
  keeps = λ c next stands sound goes.
      subst (IsSoundMove (with_devices c devices)) goes (moves_are_sound (with_devices c devices) (sound_state held c stands devices sound fits));
}

pub never_stuck : (held : Configuration) (devices : Devices) → HasShapesOfCells held.store devices → StandsSoundly held
    → move (with_devices held devices) ≡ IsStuck → ⊥
never_stuck held devices fits (c, sound, stands) is =
    subst (IsSoundMove (with_devices c devices)) (stuck_back (move (with_devices c devices)) (sym (move_held held c stands devices) ∙ is))
    (moves_are_sound (with_devices c devices) (sound_state held c stands devices sound fits))

exactly : (m : Move) (e : Option Event) (n : State) → MovesAs m e n → (m ≡ IsStuck → ⊥) → (m ≡ IsFinal → ⊥) → m ≡ Moves e n
exactly IsStuck e n goes stuck final = absurd (stuck refl)
exactly IsFinal e n goes stuck final = absurd (final refl)
exactly (Moves e' n') e n goes stuck final = λ i. Moves (goes.0 i) (goes.1 i)

-- what is held moves just as it is said to
pub moves_exactly : (held : Configuration) (devices : Devices) (event : Option Event) (next : State)
    → HasShapesOfCells held.store devices → ∥ StandsSoundly held ∥₁ → (step held ≡ Final → ⊥)
    → MovesAs (move (with_devices held devices)) event next → move (with_devices held devices) ≡ Moves event next
moves_exactly held devices event next fits sound running goes =
    exactly (move (with_devices held devices)) event next goes
    (λ is. ∥∥₁_elim sound (hlevel) (λ s. never_stuck held devices fits s is))
    (λ is. running ((final_exactly_where_answered held).1 ((final_states_are_answered (with_devices held devices)).0 is)))

-- and it stands for a sound one afterwards, which the devices fit
next_sound : (held : Configuration) (devices : Devices) (event : Option Event) (held' : Configuration) (devices' : Devices)
    → HasShapesOfCells held.store devices → move (with_devices held devices) ≡ Moves event (with_devices held' devices') → StandsSoundly held
    → StandsSoundly held' × HasShapesOfCells held'.store devices'
next_sound held devices event held' devices' fits is (c, sound, stands) =
    let alike = steps_alike held devices event held' devices' fits is in
    let next = alike.moves c stands in
    let kept = alike.keeps c next.0 stands sound next.1 in (
      (next.0, kept.sound.configuration, next.2),
      fits_back held' next.0 next.2 devices' ((fitting_is_by_shapes next.0.store devices').0 kept.sound.devices),
    )

pub stands_next : (held : Configuration) (devices : Devices) (event : Option Event) (held' : Configuration) (devices' : Devices)
    → HasShapesOfCells held.store devices → move (with_devices held devices) ≡ Moves event (with_devices held' devices') → ∥ StandsSoundly held ∥₁
    → ∥ StandsSoundly held' ∥₁
stands_next held devices event held' devices' fits is sound =
    ∥∥₁_elim sound (hlevel) (λ s. ∣ (next_sound held devices event held' devices' fits is s).0 ∣₁)

pub fits_next : (held : Configuration) (devices : Devices) (event : Option Event) (held' : Configuration) (devices' : Devices)
    → HasShapesOfCells held.store devices → move (with_devices held devices) ≡ Moves event (with_devices held' devices') → ∥ StandsSoundly held ∥₁
    → HasShapesOfCells held'.store devices'
fits_next held devices event held' devices' fits is sound =
    ∥∥₁_elim sound (hlevel ⊎_set) (λ s. (next_sound held devices event held' devices' fits is s).1)
