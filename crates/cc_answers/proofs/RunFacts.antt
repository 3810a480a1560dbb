-- What the runs of the programs of entries tell.
use Rattle.std.proofs.Common.{◌≡◌, ℕ, List, [], ◌∷◌, Bor, map, refl, sym, ap, ◌∙◌}
use Rattle.std.specs.List.{AllByRecursion}
use Rattle.std.proofs.lemmas.Simd.{map-map}
use Rattle.cc_base.specs.declared.device.DeviceDecl.{DeviceDecl}
use Rattle.cc_base.specs.declared.literal.Base.{Base}
use Rattle.cc_device.specs.Declarations.{declared_devices}
use Rattle.cc_device.specs.Devices.{Devices}
use Rattle.cc_session.specs.declared.entry.Entry.{Entry as DeclaredEntry}
use Rattle.cc_session.specs.Entries.{entry_of}
use Rattle.cc_machine.proofs.StandingLemmas.{fits_back}
use Rattle.cc_entry_laws.specs.PresentEntries.{program_entry}
use Rattle.cc_runs.specs.Alike.{erased_configuration}
use Rattle.cc_runs.specs.Interleavings.{Report, interleave, report_of}
use Rattle.cc_runs.specs.SafeRuns.{HaveShapes}
use Rattle.cc_runs.specs.Links.{program_start}
use Rattle.cc_runs.specs.Machine.{Configuration}
use Rattle.cc_runs.specs.SoundRuns.{HasShapesOfCells}
use Rattle.cc_machine.specs.declared.program.Program.{Program}
use Rattle.cc_machine.specs.Programs.{shapes_of, start_of}
use Rattle.cc_replies.specs.ReplyTexts.{TasksRan}
use Rattle.cc_replies.specs.RunReplies.{tasks_told}
use Rattle.cc_tasks.specs.Reports.{world_in}
use Rattle.cc_answers.specs.LinkedPrograms.{IsProgramOf}

-- devices that fit the start fit what a machine holds
pub fits_held : (held start : Configuration) (devices : Devices) → held ≡ erased_configuration start → HasShapesOfCells start.store devices
    → HasShapesOfCells held.store devices
fits_held held start devices is fits = fits_back held start (sym is) devices fits

-- devices have the shapes of all programs where they have those of all entries
pub shapes_of_programs : (devices : Devices) (bases : List Base) (programs : List Program) (entries : List DeclaredEntry)
    → map shapes_of programs ≡ map (λ entry. entry.devices.items) entries → AllByRecursion (λ (entry : DeclaredEntry). entry.devices.items ≡ bases) entries
    → HaveShapes devices bases → AllByRecursion (λ (program : Program). HaveShapes devices (shapes_of program)) programs
shapes_of_programs devices bases [] entries are all have = tt
shapes_of_programs devices bases (program ∷ programs) [] are all have = cc
shapes_of_programs devices bases (program ∷ programs) (entry ∷ entries) are all have =
    (have ∙ sym (first_same are ∙ all.0), shapes_of_programs devices bases programs entries (rest_same are) all.1 have)
  where
    first_same : map shapes_of (program ∷ programs) ≡ map (λ (e : DeclaredEntry). e.devices.items) (entry ∷ entries) → shapes_of program ≡ entry.devices.items
    first_same e = cc

    rest_same : map shapes_of (program ∷ programs) ≡ map (λ (e : DeclaredEntry). e.devices.items) (entry ∷ entries)
        → map shapes_of programs ≡ map (λ (e : DeclaredEntry). e.devices.items) entries
    rest_same e = cc

-- what is told of an interleaved run of programs is what is told of that of their entries
pub told_tasks : (fuel : ℕ) (schedule : List ℕ) (programs : List Program) (devices : Devices) (declared : List DeviceDecl) (entries : List DeclaredEntry)
    (told : Report) → devices ≡ declared_devices declared
    → map start_of programs ≡ map (λ entry. program_start (program_entry (entry_of entry))) entries
    → told ≡ report_of (interleave fuel schedule (world_in programs devices))
    → TasksRan (map (λ entry. entry.authority.items) entries) told ≡ tasks_told declared fuel schedule (map entry_of entries)
told_tasks fuel schedule programs devices declared entries told devices_are starts_are is =
    let authorities : map (λ entry. entry.authority.items) entries ≡ map (λ entry. entry.authority) (map entry_of entries) =
    sym (map-map (λ entry. entry.authority) entry_of entries) in
    let starts : map start_of programs ≡ map program_start (map program_entry (map entry_of entries)) =
    starts_are ∙ sym (map-map program_start (λ entry. program_entry (entry_of entry)) entries)
    ∙ ap (map program_start) (sym (map-map program_entry entry_of entries)) in
    λ i. TasksRan (authorities i) ((is ∙ (λ j. report_of (interleave fuel schedule (record { tasks = starts j; devices = devices_are j })))) i)

-- programs that are those of entries have their shapes and their starts
module _ {A : Type 0} (p : A → Program) (e : A → DeclaredEntry) where
  pub shapes_of_linked : (linked : List A) → AllByRecursion (λ it. IsProgramOf (p it) (e it)) linked
      → map shapes_of (map p linked) ≡ map (λ entry. entry.devices.items) (map e linked)
  shapes_of_linked [] are = refl
  shapes_of_linked (it ∷ linked) are = λ i. are.0.devices i ∷ shapes_of_linked linked are.1 i

  pub starts_of_linked : (linked : List A) → AllByRecursion (λ it. IsProgramOf (p it) (e it)) linked
      → map start_of (map p linked) ≡ map (λ entry. program_start (program_entry (entry_of entry))) (map e linked)
  starts_of_linked [] are = refl
  starts_of_linked (it ∷ linked) are = λ i. are.0.start i ∷ starts_of_linked linked are.1 i

  -- so it is with linked entries, of which the programs and the entries are referred to
  pub told_linked : (fuel : ℕ) (schedule : List ℕ) (programs : List (Bor Program)) (entries : List (Bor DeclaredEntry))
      (devices : Devices) (declared : List DeviceDecl) (told : Report) (linked : List A)
      → AllByRecursion (λ it. IsProgramOf (p it) (e it)) linked → devices ≡ declared_devices declared
      → map (λ (it : Bor Program). it.now) programs ≡ map p linked → map (λ (it : Bor DeclaredEntry). it.now) entries ≡ map e linked
      → told ≡ report_of (interleave fuel schedule (world_in (map (λ (it : Bor Program). it.now) programs) devices))
      → TasksRan (map (λ (entry : Bor DeclaredEntry). entry.now.authority.items) entries) told
      ≡ tasks_told declared fuel schedule (map (λ it. entry_of (e it)) linked)
  told_linked fuel schedule programs entries devices declared told linked are devices_are programs_are entries_are is =
      let authority : DeclaredEntry → List ℕ = λ entry. entry.authority.items in
      let authorities : map (λ (entry : Bor DeclaredEntry). entry.now.authority.items) entries ≡ map authority (map e linked) =
      sym (map-map authority (λ (it : Bor DeclaredEntry). it.now) entries) ∙ ap (map authority) entries_are in
      ap (λ a. TasksRan a told) authorities
      ∙ told_tasks fuel schedule (map (λ (it : Bor Program). it.now) programs) devices declared (map e linked) told devices_are
      (ap (map start_of) programs_are ∙ starts_of_linked linked are) is
      ∙ ap (tasks_told declared fuel schedule) (map-map entry_of e linked)
