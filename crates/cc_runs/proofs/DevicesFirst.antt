-- Where devices stand in a store as cells are added.
use Rattle.std.proofs.Common.{◌≡◌, ◌<◌, arith, ℕ, suc, List, [], ◌∷◌, ◌++◌, map, length, Some, inl, inr, sym, ap, ◌∙◌}
use Rattle.std.specs.Prelude.{slice_get}
use Rattle.cc_base.specs.declared.literal.Base.{Base}
use Rattle.cc_core.specs.Terms.{Term}
use Rattle.cc_core.specs.Stores.{ValueCell, DeviceCell, Store}
use Rattle.cc_device.specs.Devices.{DeviceState, base_of_device, Devices}
use Rattle.cc_typing_laws.proofs.FreeMaps.{lookup_cases}
use Rattle.cc_runs.specs.SoundRuns.{FitsDevices, DevicesStandFirst}

-- no cell is a device
pub no_devices_first : DevicesStandFirst [] 0
no_devices_first position number base there = cc

pub no_devices_fit : (devices : Devices) → FitsDevices [] devices
no_devices_fit devices position number base there = cc

-- one device more, at the next position
pub device_first : (st : Store) (count : ℕ) (b : Base) → count ≡ length st → DevicesStandFirst st count → DevicesStandFirst (DeviceCell count b ∷ st) (suc count)
device_first st count b is first position number base there =
    elim (lookup_cases (DeviceCell count b) st position (DeviceCell number base) there) as (λ _. (position ≡ number) × (number < suc count)) [
      | inl new ↦
          let same : number ≡ count = (let e = new.1 in cc) in
          let at = new.0 in
          ((let l : position ≡ number = omega arith in l), (let l : number < suc count = omega arith in l))
      | inr old ↦
          let was = first position number base old.1 in
          let below = was.1 in
          (was.0, (let l : number < suc count = omega arith in l))
    ]

pub device_fits : (st : Store) (devices : Devices) (n : ℕ) (b : Base) (device : DeviceState) → slice_get devices n ≡ Some device → base_of_device device ≡ b → FitsDevices st devices
    → FitsDevices (DeviceCell n b ∷ st) devices
device_fits st devices n b device there is fits position number base at =
    elim (lookup_cases (DeviceCell n b) st position (DeviceCell number base) at) as (λ _. (d : DeviceState) × (slice_get devices number ≡ Some d) × (base_of_device d ≡ base)) [
      | inl new ↦
          let e = new.1 in
          let same : number ≡ n = cc in
          let same_base : base ≡ b = cc in
          (device, ap (slice_get devices) same ∙ there, is ∙ sym same_base)
      | inr old ↦ fits position number base old.1
    ]

-- a value more changes neither
value_first : (st : Store) (count : ℕ) (v : Term) → DevicesStandFirst st count → DevicesStandFirst (ValueCell v ∷ st) count
value_first st count v first position number base there =
    elim (lookup_cases (ValueCell v) st position (DeviceCell number base) there) as (λ _. (position ≡ number) × (number < count)) [
      | inl new ↦ let clash : DeviceCell number base ≡ ValueCell v = new.1 in cc
      | inr old ↦ first position number base old.1
    ]

value_fits : (st : Store) (devices : Devices) (v : Term) → FitsDevices st devices → FitsDevices (ValueCell v ∷ st) devices
value_fits st devices v fits position number base at =
    elim (lookup_cases (ValueCell v) st position (DeviceCell number base) at) as (λ _. (d : DeviceState) × (slice_get devices number ≡ Some d) × (base_of_device d ≡ base)) [
      | inl new ↦ let clash : DeviceCell number base ≡ ValueCell v = new.1 in cc
      | inr old ↦ fits position number base old.1
    ]

-- nor do several values
pub values_first : (vs : List Term) (st : Store) (count : ℕ) → DevicesStandFirst st count → DevicesStandFirst (map ValueCell vs ++ st) count
values_first [] st count first = first
values_first (v ∷ vs) st count first = value_first (map ValueCell vs ++ st) count v (values_first vs st count first)

pub values_fit : (vs : List Term) (st : Store) (devices : Devices) → FitsDevices st devices → FitsDevices (map ValueCell vs ++ st) devices
values_fit [] st devices fits = fits
values_fit (v ∷ vs) st devices fits = value_fits (map ValueCell vs ++ st) devices v (values_fit vs st devices fits)
