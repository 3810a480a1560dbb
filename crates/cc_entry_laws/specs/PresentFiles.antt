-- What holds of the files that are present, whatever is written in them: each verdict of a definition says what is so,
-- and no program of theirs goes wrong.
use Rattle.std.specs.Prelude.{◌≡◌, ℕ, List, ◌∷◌, length, map, Some, None, Ok}
use Rattle.std.specs.List.{AllByRecursion}
use Rattle.cc_base.specs.declared.code.Code.{Code}
use Rattle.cc_base.specs.declared.code.Code.TheVariants.{E13, E14, E15, E16, E17, E18}
use Rattle.cc_base.specs.declared.device.DeviceDecl.{DeviceDecl}
use Rattle.cc_base.specs.declared.place.Place.{Place}
use Rattle.cc_core.specs.Contexts.{Context, entry_of}
use Rattle.cc_core.specs.Typing.{HasType}
use Rattle.cc_device.specs.Declarations.{declared_devices, declared_bases}
use Rattle.cc_device.specs.Devices.{Devices}
use Rattle.cc_grammar.specs.Syntax.{ModuleSyntax}
use Rattle.cc_mnf.specs.ElaboratedModules.{CoreDefinition, CoreModule, IsElaborated, elaboration, device_names}
use Rattle.cc_checking.specs.Fillings.{Filling, IsOverGlobals}
use Rattle.cc_checking.specs.Verdicts.{Definition, Accepted, Verdict, IsAccepted, IsRefused, HasVerdict, HasAlgorithmicType}
use Rattle.cc_checking_laws.specs.AcceptedDefinitions.{definition_context}
use Rattle.cc_runs.specs.Interleavings.{state_of}
use Rattle.cc_runs.specs.SafeRuns.{HaveShapes, RunsSafely}
use Rattle.cc_runs.specs.Links.{program_start}
use Rattle.cc_runs.specs.SafeTasks.{RunsInterleaved}
use Rattle.cc_verdicts.specs.ModuleLaws.{NamesOfDevicesDiffer}
use Rattle.cc_verdicts.specs.ModuleVerdicts.{CheckedDefinition, ModuleVerdict, first_missing, declared_context}
use Rattle.cc_verdicts.specs.ModuleVerdicts.{with_findings, to_be_checked, checked_as}
use Rattle.cc_verdicts.specs.ModuleVerdicts as modules
use Rattle.cc_verdicts.specs.PresentTexts.{Texts, ArePresent, text_of, findings_for, AreVerdicts}
use Rattle.cc_verdicts.specs.Readings.{IsTree, HasReading}
use Rattle.cc_entry_laws.specs.PresentEntries.{CheckedEntry, program_entry, started_in, IsEntryOf}

-- ---- definitions
-- Of definitions in order, the first of which is checked in a context, this one is judged among these globals: the
-- first one in that context, and where it is accepted also those after it, with its signature among the globals.
pub data IsJudgedAmong (devices : ℕ) : Context → List CoreDefinition → Context → CoreDefinition → Type 0 where
  the_first : {context : Context} {first : CoreDefinition} {rest : List CoreDefinition}
      → IsJudgedAmong devices context (first ∷ rest) context first
  a_later : {context globals : Context} {first definition : CoreDefinition} {rest : List CoreDefinition}
      {accepted : Accepted} → HasVerdict devices context (to_be_checked first) (IsAccepted accepted)
      → IsJudgedAmong devices (entry_of accepted.signature ∷ context) rest globals definition
      → IsJudgedAmong devices context (first ∷ rest) globals definition

-- The definition is one of the present files that is judged, among these globals, where modules have these verdicts.
pub record IsJudged (devices : List DeviceDecl) (texts : Texts) (verdicts : List ℕ → ModuleVerdict) (globals : Context)
    (definition : CoreDefinition) : Type 0 where
  -- its module
  pub module_name : List ℕ
  -- which is present, with a text
  pub text : List ℕ
  pub there : text_of texts module_name ≡ Some text
  -- that is a module
  pub tree : ModuleSyntax
  pub reading : HasReading text (IsTree tree)
  -- for each of whose imports a definition is found
  pub found : first_missing tree.imports (findings_for texts verdicts module_name text) ≡ None
  -- and whose names and normal form are not refused
  pub core : CoreModule
  pub elaborated : elaboration (device_names devices) tree ≡ IsElaborated core
  -- the definition stands in it, behind accepted ones alone
  pub among : IsJudgedAmong (length devices)
      (with_findings (declared_context devices) (findings_for texts verdicts module_name text)) core.definitions globals
      definition

-- The codes that a definition may be refused with: a head of the wrong shape, shapes that do not match, a set that is
-- not below another, an unboxing whose set has the universal capability, a name that cannot be avoided, and a type that
-- is too large.
abbrev pub IsCodeOfDefinition : Code → Type 0
IsCodeOfDefinition E13 = Unit {0}
IsCodeOfDefinition E14 = Unit {0}
IsCodeOfDefinition E15 = Unit {0}
IsCodeOfDefinition E16 = Unit {0}
IsCodeOfDefinition E17 = Unit {0}
IsCodeOfDefinition E18 = Unit {0}
IsCodeOfDefinition _ = ⊥

-- A definition that is accepted so is typed by the rules of the calculus, among the globals and, where it is recursive,
-- its own name.
pub record HasItsTypes (globals : Context) (definition : Definition) (accepted : Accepted) : Type 0 where
  -- its right side, with all omitted sets put in, has its type
  pub has_type : HasType (definition_context globals definition accepted.signature) accepted.filled accepted.type
  -- and the type that others see
  pub has_signature :
      HasType (definition_context globals definition accepted.signature) accepted.filled accepted.signature

-- A definition that is refused with the code has no type by the algorithm.
pub record HasNoType (devices : ℕ) (globals : Context) (definition : Definition) (code : Code) : Type 0 where
  -- the code is one for definitions
  pub has_code : IsCodeOfDefinition code
  -- whatever globals are put in for the omitted sets
  pub has_no_type : (filling : Filling) → IsOverGlobals (length globals) filling
      → HasAlgorithmicType devices globals definition filling → ⊥

-- what the verdict says of the definition is so
abbrev pub SaysRight : ℕ → Context → Definition → Verdict → Type 0
SaysRight devices globals definition (IsAccepted accepted) = HasItsTypes globals definition accepted
SaysRight devices globals definition (IsRefused code at) = HasNoType devices globals definition code

-- The definition is judged rightly among the globals.
pub record IsJudgedRight (devices : ℕ) (globals : Context) (definition : Definition) : Type 0 where
  -- it has a verdict
  pub verdict : Verdict
  pub has : HasVerdict devices globals definition verdict
  -- and no other
  pub only : (other : Verdict) → HasVerdict devices globals definition other → other ≡ verdict
  -- which says what is so
  pub right : SaysRight devices globals definition verdict

-- ---- programs
-- The entry is that of a definition of the present files.
pub record IsPresentEntry (devices : List DeviceDecl) (texts : Texts) (entry : CheckedEntry) : Type 0 where
  -- the present modules have these verdicts
  pub verdicts : List ℕ → ModuleVerdict
  pub are : AreVerdicts devices texts verdicts
  -- by which the definition of these names may be run
  pub module_name : List ℕ
  pub name : List ℕ
  pub started : CheckedDefinition
  pub starts : started_in texts verdicts module_name name ≡ Ok started
  -- and has this entry
  pub entered : IsEntryOf devices texts verdicts module_name name started entry

-- ---- the law
-- The files are sound beside the devices.
pub record AreSoundFiles (devices : List DeviceDecl) (texts : Texts) : Type 0 where
  -- the present modules have verdicts
  pub verdicts : List ℕ → ModuleVerdict
  pub are : AreVerdicts devices texts verdicts
  -- each definition that is judged is judged rightly, by whichever function gives the verdicts of the present modules
  pub definitions : (all : List ℕ → ModuleVerdict) → AreVerdicts devices texts all
      → (globals : Context) (definition : CoreDefinition) → IsJudged devices texts all globals definition
      → IsJudgedRight (length devices) globals (to_be_checked definition)
  -- devices as they are declared have the shapes of the devices
  pub declared : HaveShapes (declared_devices devices) (declared_bases devices)
  -- the program of each entry runs safely within the entry's authority, on devices of these shapes in any states, with
  -- any fuel
  pub runs : (entry : CheckedEntry) → IsPresentEntry devices texts entry → (states : Devices)
      → HaveShapes states (declared_bases devices) → (fuel : ℕ)
      → RunsSafely entry.authority (state_of states (program_start (program_entry entry))) fuel
  -- and so does each of several programs that run interleaved, under any schedule
  pub tasks : (entries : List CheckedEntry) → AllByRecursion (IsPresentEntry devices texts) entries
      → (states : Devices) → HaveShapes states (declared_bases devices) → (schedule : List ℕ) (fuel : ℕ)
      → RunsInterleaved (map program_entry entries) states schedule fuel

-- Present files are sound beside devices whose names differ.
abbrev pub PresentFilesAreSound : Type 0
PresentFilesAreSound =
    (devices : List DeviceDecl) (texts : Texts) → NamesOfDevicesDiffer devices → ArePresent texts
    → AreSoundFiles devices texts

-- ---- what is shown of the files
-- A definition of the module is judged, and refused with the code at the place.
pub record HasRefused (devices : List DeviceDecl) (texts : Texts) (verdicts : List ℕ → ModuleVerdict)
    (module_name : List ℕ) (code : Code) (at : Place) : Type 0 where
  -- a definition that is judged among globals
  pub globals : Context
  pub definition : CoreDefinition
  pub judged : IsJudged devices texts verdicts globals definition
  -- of the module
  pub of_module : judged.module_name ≡ module_name
  -- has this verdict
  pub refused : HasVerdict (length devices) globals (to_be_checked definition) (IsRefused code at)

-- A definition of the module is judged, and accepted as this one.
pub record HasAccepted (devices : List DeviceDecl) (texts : Texts) (verdicts : List ℕ → ModuleVerdict)
    (module_name : List ℕ) (shown : CheckedDefinition) : Type 0 where
  -- a definition that is judged among globals
  pub globals : Context
  pub definition : CoreDefinition
  pub judged : IsJudged devices texts verdicts globals definition
  -- of the module
  pub of_module : judged.module_name ≡ module_name
  -- has this verdict
  pub accepted : HasVerdict (length devices) globals (to_be_checked definition) (IsAccepted shown.accepted)
  -- and is shown with its name
  pub shows : shown ≡ checked_as definition shown.accepted

-- Where a present module is refused with a code for definitions, a definition of it is judged so.
abbrev pub ShownRefusalsAreJudged : Type 0
ShownRefusalsAreJudged =
    (devices : List DeviceDecl) (texts : Texts) (verdicts : List ℕ → ModuleVerdict) → AreVerdicts devices texts verdicts
    → (name text : List ℕ) (code : Code) (at : Place) → text_of texts name ≡ Some text
    → verdicts name ≡ modules.IsRefused code at → IsCodeOfDefinition code
    → HasRefused devices texts verdicts name code at

-- Where a present module is accepted, each of its definitions is judged so.
abbrev pub ShownDefinitionsAreJudged : Type 0
ShownDefinitionsAreJudged =
    (devices : List DeviceDecl) (texts : Texts) (verdicts : List ℕ → ModuleVerdict) → AreVerdicts devices texts verdicts
    → (name text : List ℕ) (definitions : List CheckedDefinition) → text_of texts name ≡ Some text
    → verdicts name ≡ modules.IsAccepted definitions
    → AllByRecursion (HasAccepted devices texts verdicts name) definitions
