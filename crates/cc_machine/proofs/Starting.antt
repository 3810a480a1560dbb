-- Programs start soundly.
use Rattle.std.proofs.Common.{◌≡◌, ℕ, List, [], ◌∷◌, ◌++◌, map, reverse, Some, inl, inr, sym, ap, ◌∙◌, ◌+◌, length, arith}
use Rattle.std.specs.Prelude.{slice_get}
use Rattle.std.proofs.lemmas.List.{length-reverse}
use Rattle.std.proofs.lemmas.Option.{slice_get-map}
use Rattle.cc_base.specs.declared.literal.Base.{Base}
use Rattle.cc_base.specs.Literals.{UnitLiteral}
use Rattle.cc_core.specs.declared.terms.Node.{Node}
use Rattle.cc_core.specs.Terms.{Term, LiteralTerm}
use Rattle.cc_core.specs.Contexts.{lookup}
use Rattle.cc_core.specs.Stores.{ValueCell, DeviceCell, Store}
use Rattle.cc_core.specs.TermViews.{term_of}
use Rattle.cc_core.proofs.Lookups.{lookup-cases}
use Rattle.cc_device.specs.Devices.{base_of_device, Devices}
use Rattle.cc_runs.specs.SafeRuns.{HaveShapes}
use Rattle.cc_runs.specs.Links.{device_cells}
use Rattle.cc_runs.specs.Soundness.{labels_in, IsSound}
use Rattle.cc_runs.specs.SoundRuns.{HasShapesOfCells}
use Rattle.cc_runs.proofs.LinkedPrograms.{linked_device, no_label_linked, linked_store_length}
use Rattle.cc_runs.proofs.RunTheorems.{typed_programs_start_soundly}
use Rattle.cc_machine.specs.declared.values.TypedValue.{TypedValue}
use Rattle.cc_machine.specs.Starts.{value_cell, value_store, program_store, program_start, IsTyped}

-- values are no labels
no_label : (vs : List TypedValue) (st : Store) → labels_in st ≡ [] → labels_in (map value_cell vs ++ st) ≡ []
no_label [] st e = e
no_label (v ∷ vs) st e = no_label vs st e

pub typed_start_sound : (devices : List Base) (values : List TypedValue) (term : Node) → IsTyped devices values term → IsSound (program_start devices values term)
typed_start_sound devices values term is =
    typed_programs_start_soundly (program_store devices values) _ (term_of term) is.type is.stored is.typed
    (no_label (reverse values) (device_cells (reverse devices)) (no_label_linked devices []))

-- values are no devices
below_values : (vs : List TypedValue) (st : Store) (p n : ℕ) (b : Base) → lookup (map value_cell vs ++ st) p ≡ Some (DeviceCell n b) → lookup st p ≡ Some (DeviceCell n b)
below_values [] st p n b e = e
below_values (v ∷ vs) st p n b e =
    elim (lookup-cases (value_cell v) (map value_cell vs ++ st) p (DeviceCell n b) e) as (λ _. lookup st p ≡ Some (DeviceCell n b)) [
      | inl new ↦ absurd (no_device (term_of v.value.value) new.1)
      | inr old ↦ below_values vs st p n b old
    ]
  where
    no_device : (t : Term) → ValueCell t ≡ DeviceCell n b → ⊥
    no_device t q = cc

-- each device stands at its number, and nowhere else
pub program_device : (devices : List Base) (values : List TypedValue) (p n : ℕ) (b : Base) → lookup (program_store devices values) p ≡ Some (DeviceCell n b) → (p ≡ n) × (slice_get devices n ≡ Some b)
program_device devices values p n b e =
    elim (lookup-cases (ValueCell (LiteralTerm UnitLiteral)) (value_store devices values) p (DeviceCell n b) e) as (λ _. (p ≡ n) × (slice_get devices n ≡ Some b)) [
      | inl new ↦ absurd (no_device new.1)
      | inr old ↦ linked_device devices [] p n b (below_values (reverse values) (device_cells (reverse devices)) p n b old)
    ]
  where
    no_device : ValueCell (LiteralTerm UnitLiteral) ≡ DeviceCell n b → ⊥
    no_device q = cc

pub program_fits : (devices : List Base) (values : List TypedValue) (states : Devices) → HaveShapes states devices → HasShapesOfCells (program_store devices values) states
program_fits devices values states shapes p n b e =
    sym (slice_get-map base_of_device states n) ∙ ap (λ bs. slice_get bs n) shapes ∙ (program_device devices values p n b e).1

-- how many cells there are
cells_counted : (vs : List TypedValue) (st : Store) → length (map value_cell vs ++ st) ≡ length vs + length st
cells_counted [] st = omega arith
cells_counted (v ∷ vs) st = let rest = cells_counted vs st in omega arith

pub program_counted : (devices : List Base) (values : List TypedValue) → length (program_store devices values) ≡ length devices + length values + 1
program_counted devices values =
    let cells = cells_counted (reverse values) (device_cells (reverse devices)) in
    let turned = length-reverse values in
    let first = linked_store_length devices [] in
    omega arith
