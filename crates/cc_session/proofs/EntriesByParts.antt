-- The entry of the parts that the code makes.
use Rattle.std.proofs.Common.{◌≡◌, ℕ, true, List, length, Some, Ok, refl}
use Rattle.cc_base.specs.declared.device.DeviceDecl.{DeviceDecl}
use Rattle.cc_base.specs.declared.literal.Base.{Base}
use Rattle.cc_core.specs.Programs.{IsEntry}
use Rattle.cc_core.specs.Stores.{authority}
use Rattle.cc_device.specs.Declarations.{declared_bases}
use Rattle.cc_session.specs.declared.modules.EntryModule.{EntryModule}
use Rattle.cc_session.specs.Modules.{entry_in}
use Rattle.cc_entry_laws.specs.PresentEntries.{program_entry, takes_unit, started_or}
use Rattle.cc_verdicts.specs.ModuleLaws.{NamesOfDevicesDiffer}
use Rattle.cc_verdicts.specs.ModuleVerdicts.{CheckedDefinition}
use Rattle.cc_verdicts.specs.PresentTexts.{Texts, ArePresent}
use Rattle.cc_module.specs.declared.judgement.ModuleVerdict.{ModuleVerdict as DeclaredVerdict}
use Rattle.cc_session.specs.EntryParts.{AreReachedModules, HaveCurrentVerdicts, IsStarted, IsCurrentEntry}
use Rattle.cc_entry_laws.proofs.AcceptedEntries.{present_entries}
use Rattle.cc_session.proofs.CurrentVerdicts.{have_verdicts}
use Rattle.cc_entry_laws.proofs.MadeEntries.{made_entry}

module _ (devices : List DeviceDecl) (texts : Texts) (verdicts : List (List ℕ × DeclaredVerdict))
    (differ : NamesOfDevicesDiffer devices) (sorted : ArePresent texts)
    (current : HaveCurrentVerdicts devices texts verdicts) (module_name name : List ℕ) (started : CheckedDefinition)
    (starts : IsStarted devices texts module_name name started) (modules : List EntryModule)
    (reached : AreReachedModules texts verdicts module_name modules) (shapes : List Base)
    (shapes_are : shapes ≡ declared_bases devices) (its_module its_name : List ℕ)
    (same_module : its_module ≡ module_name) (same_name : its_name ≡ name) (permitted : List ℕ)
    (permits : permitted ≡ authority (length devices) started.accepted.signature.set) where
  -- it is that of the present texts
  pub parts_are_current : IsCurrentEntry devices texts module_name name started
      (entry_in shapes modules its_module its_name permitted)
  parts_are_current all are =
      let (names, order, these) = reached in
      made_entry devices texts all differ sorted are module_name name started (starts all are) names order
      (entry_in shapes modules its_module its_name permitted) shapes_are
      (these all (have_verdicts devices texts verdicts sorted current all are)) same_module same_name permits

  -- and has all that an entry has
  pub parts_are_entry : ∥ IsEntry (program_entry (entry_in shapes modules its_module its_name permitted)) ∥₁
  parts_are_entry =
      let (all, are, have) = current in
      ∣ present_entries devices texts all differ sorted are module_name name started (starts all are)
      (entry_in shapes modules its_module its_name permitted) (parts_are_current all are) ∣₁

-- a definition that takes a unit is run
pub unit_starts : (found : CheckedDefinition) → takes_unit found.accepted.signature.shape ≡ true
    → started_or (Some found) ≡ Ok found
unit_starts found takes = rw takes refl
