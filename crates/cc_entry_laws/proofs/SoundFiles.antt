-- Present files are sound.
use Rattle.std.proofs.Common.{ℕ, List, [], ◌∷◌, length, map, sym, ◌∙◌}
use Rattle.std.specs.List.{AllByRecursion}
use Rattle.cc_base.specs.declared.device.DeviceDecl.{DeviceDecl}
use Rattle.cc_core.specs.Contexts.{Context, entry_of}
use Rattle.cc_core.specs.Holes.{HolesAreOfParameters}
use Rattle.cc_core.specs.Programs.{IsEntry}
use Rattle.cc_device.specs.Declarations.{declared_bases}
use Rattle.cc_device.specs.Devices.{Devices}
use Rattle.cc_device.proofs.Declared.{declared_shapes}
use Rattle.cc_mnf.specs.ElaboratedModules.{CoreDefinition}
use Rattle.cc_checking.specs.Verdicts.{Verdict, IsAccepted, IsRefused, HasVerdict}
use Rattle.cc_checking_laws.specs.CheckingLaws.{Fits}
use Rattle.cc_checking_laws.proofs.AlikeSignatures.{refused_has_no_type}
use Rattle.cc_checking_laws.proofs.CheckedDefinitions.{accepted_sound}
use Rattle.cc_checking_laws.proofs.OneVerdict.{one_verdict}
use Rattle.cc_checking_laws.proofs.VerdictsExist.{has_verdict}
use Rattle.cc_runs.specs.SafeRuns.{HaveShapes}
use Rattle.cc_runs.specs.TaskLaws.{AreEntries}
use Rattle.cc_runs.proofs.EntryRuns.{entries_run_safely}
use Rattle.cc_runs.proofs.EntryTasks.{entries_run_interleaved}
use Rattle.cc_verdicts.specs.ModuleLaws.{NamesOfDevicesDiffer}
use Rattle.cc_verdicts.specs.ModuleVerdicts.{ModuleVerdict, declared_context, with_findings, to_be_checked}
use Rattle.cc_verdicts.specs.PresentTexts.{Texts, ArePresent, findings_for, AreVerdicts}
use Rattle.cc_verdicts.specs.ReadyDefinitions.{AreReady}
use Rattle.cc_verdicts.proofs.GlobalContexts.{module_ready}
use Rattle.cc_verdicts.proofs.JudgedDefinitions.{first_fits, ready_more}
use Rattle.cc_verdicts.proofs.ModuleVerdictLaws.{fits_tree}
use Rattle.cc_verdicts.proofs.PresentLaws.{present_findings_fit, present_verdicts_exist}
use Rattle.cc_entry_laws.specs.PresentEntries.{CheckedEntry, program_entry}
use Rattle.cc_entry_laws.proofs.AcceptedEntries.{present_entries}
use Rattle.cc_entry_laws.specs.PresentFiles.{IsJudgedAmong, the_first, a_later, IsJudged, SaysRight, IsJudgedRight}
use Rattle.cc_entry_laws.specs.PresentFiles.{IsPresentEntry, PresentFilesAreSound}
use Rattle.cc_entry_laws.proofs.DefinitionCodes.{refusal_code}

-- ---- definitions
-- a definition that is judged fits its globals, and its holes are sets of parameters
record MayBeJudged (globals : Context) (definition : CoreDefinition) : Type 0 where
  fits : Fits globals (to_be_checked definition)
  holes : HolesAreOfParameters definition.right

judged_fits : (devices : ℕ) (context : Context) (definitions : List CoreDefinition) (globals : Context)
    (definition : CoreDefinition) → AreReady context definitions
    → IsJudgedAmong devices context definitions globals definition → MayBeJudged globals definition
judged_fits devices context [] globals definition ready among = elim among [ ]
judged_fits devices context (first ∷ rest) globals definition ready the_first =
    record { fits = first_fits context first rest ready; holes = ready.each.0.holes }
judged_fits devices context (first ∷ rest) globals definition ready (a_later {accepted = accepted} has among) =
    judged_fits devices (entry_of accepted.signature ∷ context) rest globals definition
    (ready_more devices context first rest accepted ready has) among

says_right : (devices : ℕ) (globals : Context) (definition : CoreDefinition) → MayBeJudged globals definition
    → (verdict : Verdict) → HasVerdict devices globals (to_be_checked definition) verdict
    → SaysRight devices globals (to_be_checked definition) verdict
says_right devices globals definition may (IsAccepted accepted) has =
    let types = (accepted_sound devices globals (to_be_checked definition) accepted may.fits has).types in
    record { has_type = types.0; has_signature = types.1 }
says_right devices globals definition may (IsRefused code at) has =
    record {
      has_code = refusal_code devices globals (to_be_checked definition) code at has;
      has_no_type =
          λ filling over.
          refused_has_no_type devices globals (to_be_checked definition) code at filling may.fits may.holes has over;
    }

judged_right : (devices : ℕ) (globals : Context) (definition : CoreDefinition) → MayBeJudged globals definition
    → IsJudgedRight devices globals (to_be_checked definition)
judged_right devices globals definition may =
    let (verdict, has) = has_verdict devices globals (to_be_checked definition) may.fits may.holes in
    record {
      verdict = verdict;
      has = has;
      only =
          λ other also. one_verdict devices globals (to_be_checked definition) other verdict also has;
      right = says_right devices globals definition may verdict has;
    }

module _ (devices : List DeviceDecl) (texts : Texts) (differ : NamesOfDevicesDiffer devices) (sorted : ArePresent texts) where
  definition_right : (all : List ℕ → ModuleVerdict) → AreVerdicts devices texts all → (globals : Context)
      (definition : CoreDefinition) → IsJudged devices texts all globals definition
      → IsJudgedRight (length devices) globals (to_be_checked definition)
  definition_right all are globals definition judged =
      let findings = findings_for texts all judged.module_name judged.text in
      let fit = present_findings_fit devices texts all differ sorted are judged.module_name judged.text judged.there in
      let ready = module_ready devices judged.tree findings judged.core
      (fits_tree devices judged.text findings judged.tree fit judged.reading) fit.over_devices judged.found
      judged.elaborated in
      judged_right (length devices) globals definition
      (judged_fits (length devices) (with_findings (declared_context devices) findings) judged.core.definitions globals
      definition ready judged.among)

  -- ---- programs
  entry_is : (entry : CheckedEntry) → IsPresentEntry devices texts entry → IsEntry (program_entry entry)
  entry_is entry is =
      present_entries devices texts is.verdicts differ sorted is.are is.module_name is.name is.started is.starts entry
      is.entered

  its_shapes : (entry : CheckedEntry) → IsPresentEntry devices texts entry → (states : Devices)
      → HaveShapes states (declared_bases devices) → HaveShapes states (program_entry entry).devices
  its_shapes entry is states shapes = shapes ∙ sym is.entered.shapes

  entries_are : (entries : List CheckedEntry) → AllByRecursion (IsPresentEntry devices texts) entries
      → (states : Devices) → HaveShapes states (declared_bases devices) → AreEntries (map program_entry entries) states
  entries_are [] all states shapes = tt
  entries_are (first ∷ rest) all states shapes =
      ((entry_is first all.0, its_shapes first all.0 states shapes), entries_are rest all.1 states shapes)

pub present_files_are_sound : PresentFilesAreSound
present_files_are_sound devices texts differ sorted =
    let (verdicts, are) = present_verdicts_exist devices texts differ sorted in
    record {
      verdicts = verdicts;
      are = are;
      definitions = definition_right devices texts differ sorted;
      declared = declared_shapes devices;
      runs =
          λ entry is states shapes fuel.
          entries_run_safely (program_entry entry) (entry_is devices texts differ sorted entry is) states
          (its_shapes devices texts differ sorted entry is states shapes) fuel;
      tasks =
          λ entries are states shapes schedule fuel.
          entries_run_interleaved (map program_entry entries) states
          (entries_are devices texts differ sorted entries are states shapes) schedule fuel;
    }
