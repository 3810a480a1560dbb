-- The programs of entries: they are typed, declared devices have their shapes, and they run safely.
use Rattle.std.proofs.Common.{sym, subst, refl, ap, [], ◌∷◌}
use Rattle.std.specs.Prelude.{length}
use Rattle.cc_base.specs.declared.literal.Base.TheVariants as bases
use Rattle.cc_base.specs.declared.device.Kind.TheVariants as kinds
use Rattle.cc_core.specs.Stores.{authority}
use Rattle.cc_runs.specs.Runs.{State}
use Rattle.cc_runs.specs.Links.{program_start}
use Rattle.cc_runs.specs.LinkLaws.{DeclaredDevicesHaveTheirShapes, EntriesAreTyped, EntriesRunSafely}
use Rattle.cc_runs.specs.SafeRuns.{RunsSafely}
use Rattle.cc_runs.proofs.LinkedPrograms.{program_typed, program_starts}
use Rattle.cc_runs.proofs.SafeRuns.{start_reaches, sound_run}

pub entries_are_typed : EntriesAreTyped
entries_are_typed entry is = (_, program_typed entry is)

pub declared_devices_have_their_shapes : DeclaredDevicesHaveTheirShapes
declared_devices_have_their_shapes [] = refl
declared_devices_have_their_shapes (kinds.Console ∷ declared) = ap (λ bs. bases.Console ∷ bs) (declared_devices_have_their_shapes declared)
declared_devices_have_their_shapes (kinds.File numbers ∷ declared) = ap (λ bs. bases.File ∷ bs) (declared_devices_have_their_shapes declared)
declared_devices_have_their_shapes (kinds.Counter ∷ declared) = ap (λ bs. bases.Counter ∷ bs) (declared_devices_have_their_shapes declared)

pub entries_run_safely : EntriesRunSafely
entries_run_safely entry is devices shapes fuel =
    let begins = program_starts entry is devices shapes in
    let state : State = record { configuration = program_start entry; devices = devices } in
    subst (λ a. RunsSafely a state fuel) (sym is.authority)
    (sound_run (authority (length entry.devices) is.started.signature.set) state begins.sound refl (start_reaches _ _ _ _ _ _ _ _ begins) fuel)
