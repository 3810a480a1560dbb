-- The binds of the imports of a module, where what is found for them is known by names. It serves the code alone.
use Rattle.std.specs.Prelude.{◌≡◌, ℕ, List, ◌++◌, map, Vec, Option, Some, None, Result, Ok, Err}
use Rattle.std.specs.declared.alloc.Global.{Global}
use Rattle.cc_base.specs.declared.code.Diag.{Diag}
use Rattle.cc_base.specs.declared.device.DeviceDecl.{DeviceDecl}
use Rattle.cc_core.specs.declared.types.Ty.{Ty}
use Rattle.cc_grammar.specs.Syntax.{ImportSyntax}
use Rattle.cc_verdicts.specs.ModuleVerdicts.{Finding, Refusal, code_of, first_missing}
use Rattle.cc_certificate_judging.specs.CertificateParts.{CertificateBind}
use Rattle.cc_vouching.specs.VouchedDefinitions.{device_bind, import_bind, import_binds}
use Rattle.cc_vouch.specs.BindViews.{binds_of}
use Rattle.cc_vouch.specs.VouchViews.{refusal_of}
use Rattle.cc_module_vouching.specs.KeptFindings.{finding_by}
use Rattle.cc_module_vouching.specs.declared.answered.AnsweredModules.{AnsweredModules}

-- what is found for an import, and for imports
abbrev pub import_finding : AnsweredModules → ImportSyntax → Finding
import_finding modules one = finding_by modules one.source one.name

abbrev pub import_findings : AnsweredModules → List ImportSyntax → List Finding
import_findings modules imports = map (import_finding modules) imports

-- the refusal of the first import for which no definition is found, if there is one, and the binds of imports
abbrev pub missing_among : AnsweredModules → List ImportSyntax → Option Refusal
missing_among modules imports = first_missing imports (import_findings modules imports)

abbrev pub binds_among : AnsweredModules → List ImportSyntax → List CertificateBind
binds_among modules imports = import_binds imports (import_findings modules imports)

-- The bind of an import is added, or this is its refusal.
abbrev pub AddsImport : AnsweredModules → ImportSyntax → List (List ℕ × Ty) → List (List ℕ × Ty) → Option Diag → Type 0
AddsImport modules one old new None =
    (code_of (import_finding modules one) ≡ None)
    × (binds_of new ≡ binds_of old ++ import_bind one (import_finding modules one))
AddsImport modules one old new (Some diag) =
    (code_of (import_finding modules one) ≡ Some diag.code) × (diag.place ≡ one.at)

-- The binds of imports are added, or this is the refusal of the first for which no definition is found.
abbrev pub AddsImports : AnsweredModules → List ImportSyntax → List (List ℕ × Ty) → List (List ℕ × Ty) → Option Diag
    → Type 0
AddsImports modules imports old new None =
    (missing_among modules imports ≡ None)
    × (binds_of new ≡ binds_of old ++ binds_among modules imports)
AddsImports modules imports old new (Some diag) =
    missing_among modules imports ≡ Some (refusal_of diag)

-- These are the binds of devices and imports, or this is the refusal of the first import for which none is found.
abbrev pub AreKnownBefore : List DeviceDecl → AnsweredModules → List ImportSyntax
    → Result (Vec (List ℕ × Ty) Global) Diag → Type 0
AreKnownBefore devices modules imports (Ok known) =
    (missing_among modules imports ≡ None)
    × (binds_of known.items ≡ map device_bind devices ++ binds_among modules imports)
AreKnownBefore devices modules imports (Err diag) =
    missing_among modules imports ≡ Some (refusal_of diag)
