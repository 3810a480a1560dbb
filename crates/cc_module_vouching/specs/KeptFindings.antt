-- What is found for an import in what stays known of the modules that were answered. It serves the code alone.
use Rattle.std.specs.Prelude.{◌≡◌, ℕ, List, [], ◌∷◌, Option, Some, None, if◌then◌else◌}
use Rattle.std.specs.BTreeMap.{get}
use Rattle.std.specs.Map.{lookup}
use Rattle.std.specs.Option.{option_map}
use Rattle.std.specs.Str.{bytes_eq}
use Rattle.cc_base.specs.Names.{compare_names}
use Rattle.cc_core.specs.Shapes.{CapturingType}
use Rattle.cc_core.specs.TermViews.{type_of}
use Rattle.cc_verdicts.specs.ModuleVerdicts.{Finding, FoundDefinition, NoModule, RefusedModule, NoDefinition}
use Rattle.cc_vouching.specs.VouchedModules.{Answered, found_in}
use Rattle.cc_vouch.specs.declared.definitions.Vouched.{Vouched}
use Rattle.cc_module_vouching.specs.declared.answered.Signatures.{Signatures}
use Rattle.cc_module_vouching.specs.declared.answered.Kept.{Kept}
use Rattle.cc_module_vouching.specs.declared.answered.Kept.TheVariants as kept
use Rattle.cc_module_vouching.specs.declared.answered.AnsweredModules.{AnsweredModules}

-- the signature of the name, if it has one
abbrev pub signature_in : Signatures → List ℕ → Option CapturingType
signature_in signatures name = option_map type_of (get compare_names signatures.types name)

-- the signature of the first definition of the name, if there is one
abbrev pub first_signature : List ℕ → List Vouched → Option CapturingType
first_signature name [] = None
first_signature name (first ∷ rest) =
    if bytes_eq first.name name then Some (type_of first.sig) else first_signature name rest

-- what is found where this is the signature, if there is one
abbrev pub signature_finding : Option CapturingType → Finding
signature_finding (Some signature) = FoundDefinition signature
signature_finding None = NoDefinition

-- what is found for the name in a module of which this stays known
abbrev pub kept_finding : Kept → List ℕ → Finding
kept_finding (kept.Vouched signatures) name = signature_finding (signature_in signatures name)
kept_finding kept.Refused name = RefusedModule

-- the same where there may be no module
abbrev pub module_finding : Option Kept → List ℕ → Finding
module_finding (Some it) name = kept_finding it name
module_finding None name = NoModule

-- what stays known of the module of the name, if there is one
abbrev pub module_in : AnsweredModules → List ℕ → Option Kept
module_in modules name = get compare_names modules.modules name

-- what is found for the definition of the name in the module of the other name
abbrev pub finding_by : AnsweredModules → List ℕ → List ℕ → Finding
finding_by modules source name = module_finding (module_in modules source) name

-- What is found for each name is what is found in the modules with their answers.
abbrev pub KeepsAnswers : AnsweredModules → Answered → Type 0
KeepsAnswers modules answered =
    (source name : List ℕ) → finding_by modules source name ≡ found_in (lookup (bytes_eq source) answered) name
