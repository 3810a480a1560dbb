-- What is answered where it is asked why the module of a name is refused.
use Rattle.std.specs.Prelude.{◌≡◌, ℕ, List, length, Some, None}
use Rattle.cc_base.specs.declared.code.Code.{Code}
use Rattle.cc_base.specs.declared.device.DeviceDecl.{DeviceDecl}
use Rattle.cc_base.specs.declared.place.Place.{Place}
use Rattle.cc_mnf.specs.Scopes.{Name}
use Rattle.cc_module_reasons.specs.ModuleLines.{AreModuleLines}
use Rattle.cc_module_reasons.specs.ModuleReasons.{ModuleReason, module_code, IsReason}
use Rattle.cc_verdicts.specs.ModuleVerdicts.{CheckedDefinition, ModuleVerdict, IsAccepted}
use Rattle.cc_verdicts.specs.PresentTexts.{Texts, text_of, AreVerdicts}

-- No module of the name is present; or it is accepted; or it is refused with this code at this place, and these lines tell
-- the reason.
pub data Why : Type 0 where
  NoSuchModule : Why
  NotRefused : Why
  RefusedSince : (code : Code) (at : Place) (lines : List (List ℕ)) → Why

-- That is answered beside the devices, where these texts are present, whose modules have these verdicts.
pub data IsWhyBy (devices : List DeviceDecl) (texts : Texts) (verdicts : List ℕ → ModuleVerdict) (name : Name) : Why → Type 0 where
  no_such_module : text_of texts name ≡ None → IsWhyBy devices texts verdicts name NoSuchModule
  not_refused : {text : List ℕ} {definitions : List CheckedDefinition} → text_of texts name ≡ Some text
      → verdicts name ≡ IsAccepted definitions → IsWhyBy devices texts verdicts name NotRefused
  refused_since : {text : List ℕ} {reason : ModuleReason} {at : Place} {lines : List (List ℕ)} → text_of texts name ≡ Some text
      → IsReason devices texts verdicts name text reason at → AreModuleLines (length devices) reason lines
      → IsWhyBy devices texts verdicts name (RefusedSince (module_code reason) at lines)

-- the same by the verdicts of the texts
abbrev pub IsWhy : List DeviceDecl → Texts → Name → Why → Type 0
IsWhy devices texts name answer =
    (verdicts : List ℕ → ModuleVerdict) × AreVerdicts devices texts verdicts × IsWhyBy devices texts verdicts name answer
