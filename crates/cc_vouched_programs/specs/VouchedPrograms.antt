-- Programs that are linked from modules which were vouched for.
use Rattle.std.specs.Prelude.{◌≡◌, ℕ, false, List, [], ◌∷◌, length, map, reverse, Some, IsTrue}
use Rattle.std.specs.List.{AllByRecursion}
use Rattle.std.specs.Map.{lookup}
use Rattle.std.specs.Option.{unwrap_or}
use Rattle.std.specs.Str.{bytes_eq}
use Rattle.cc_base.specs.declared.device.DeviceDecl.{DeviceDecl}
use Rattle.cc_base.specs.declared.literal.Base.TheVariants as bases
use Rattle.cc_capture.specs.Sets.{Set}
use Rattle.cc_core.specs.Programs.{Definition, Module, Entry, IsEntry, OfEachModule, definition_in, is_listed}
use Rattle.cc_core.specs.Shapes.{Shape, BaseShape, FunctionShape}
use Rattle.cc_core.specs.Stores.{authority}
use Rattle.cc_device.specs.Declarations.{declared_bases}
use Rattle.cc_device.specs.Devices.{Devices}
use Rattle.cc_entry_laws.specs.PresentEntries.{import_of}
use Rattle.cc_runs.specs.SafeRuns.{HaveShapes}
use Rattle.cc_sound_laws.specs.RunningTogether.{RunTogether}
use Rattle.cc_verdicts.specs.ModuleLaws.{NamesOfDevicesDiffer}
use Rattle.cc_verdicts.specs.Readings.{imports_of}
use Rattle.cc_vouching.specs.Submissions.{ClaimedModule}
use Rattle.cc_vouching.specs.VouchedModules.{Answer, Vouches, Answered, HaveAnswers}

-- the modules by name, each with its answer, in order
abbrev pub all_answered : List ClaimedModule → List Answer → Answered
all_answered [] answers = []
all_answered (first ∷ rest) [] = []
all_answered (first ∷ rest) (answer ∷ answers) = (first.name, answer) ∷ all_answered rest answers

-- The module of a program is one that was vouched for: it has the imports of the text of its name, and the definitions for
-- which the answer vouches, with the terms of their certificates as values.
pub record IsVouchedModule (modules : List ClaimedModule) (answers : List Answer) (current : Module) : Type 0 where
  pub source : List ℕ
  pub there : lookup (bytes_eq current.name) (map (λ it. (it.name, it.source)) modules) ≡ Some source
  pub vouched : lookup (bytes_eq current.name) (all_answered modules answers) ≡ Some (Vouches current.definitions)
  pub has_imports : current.imports ≡ map import_of (unwrap_or (imports_of source) [])

-- It is one, it stands in the program once, and it stands behind those that it imports from.
pub record IsVouchedBehind (modules : List ClaimedModule) (answers : List Answer) (earlier : List Module)
    (current : Module) : Type 0 where
  pub is_new : is_listed earlier current.name ≡ false
  pub is_vouched : IsVouchedModule modules answers current
  pub behind : AllByRecursion (λ one. IsTrue (is_listed earlier one.module_name)) current.imports

-- The entry is one of modules that were vouched for: it runs a definition of theirs that takes unit, and it may operate
-- the devices that the signature of that one permits.
pub record IsVouchedEntry (devices : List DeviceDecl) (modules : List ClaimedModule) (answers : List Answer)
    (entry : Entry) : Type 0 where
  pub same_shapes : entry.devices ≡ declared_bases devices
  pub vouched : OfEachModule (IsVouchedBehind modules answers) (reverse entry.modules)
  pub started : Definition
  pub found : definition_in entry.module_name entry.definition_name (reverse entry.modules) ≡ Some started
  pub takes_unit : (takes_set : Set) × (gives : Shape) × (gives_set : Set)
      × (started.signature.shape ≡ FunctionShape (BaseShape bases.Unit) takes_set gives gives_set)
  pub permits : entry.authority ≡ authority (length devices) started.signature.set

-- An entry of modules that were vouched for has all that one of typed modules has.
abbrev pub VouchedEntriesAreEntries : Type 0
VouchedEntriesAreEntries =
    (devices : List DeviceDecl) (modules : List ClaimedModule) (answers : List Answer) → NamesOfDevicesDiffer devices
    → HaveAnswers devices [] modules answers
    → (entry : Entry) → IsVouchedEntry devices modules answers entry → IsEntry entry

-- So the programs of such entries run together, on devices of the declared shapes in any states.
abbrev pub VouchedProgramsRunTogether : Type 0
VouchedProgramsRunTogether =
    (devices : List DeviceDecl) (modules : List ClaimedModule) (answers : List Answer) → NamesOfDevicesDiffer devices
    → HaveAnswers devices [] modules answers
    → (entries : List Entry) → AllByRecursion (IsVouchedEntry devices modules answers) entries
    → (states : Devices) → HaveShapes states (declared_bases devices) → RunTogether entries states
