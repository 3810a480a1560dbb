-- What is answered, from what was found.
use Rattle.std.proofs.Common.{◌≡◌, ℕ, List, Option, Some, None, Err, refl, sym, subst}
use Rattle.cc_base.specs.declared.code.Code.{Code}
use Rattle.cc_base.specs.declared.code.Diag.{Diag}
use Rattle.cc_base.specs.declared.device.DeviceDecl.{DeviceDecl}
use Rattle.cc_base.specs.declared.place.Place.{Place}
use Rattle.cc_io.proofs.PassedPieces.{front_none}
use Rattle.cc_io.specs.declared.whole.WriteAll.TheVariants.{NoMemory}
use Rattle.cc_module_reasons.proofs.OneModuleReason.{module_reasons_are_of_refusals, refused_modules_have_a_reason}
use Rattle.cc_module_reasons.proofs.WhyAnswered.{why_has_an_answer}
use Rattle.cc_module_reasons.specs.ModuleReasons.{module_code}
use Rattle.cc_module_reasons.specs.WhyAnswers as answers
use Rattle.cc_module_reasons.specs.WhyAnswers.{IsWhyBy, not_refused, refused_since}
use Rattle.cc_verdicts.proofs.ModuleVerdictLaws.{verdicts_are_unique}
use Rattle.cc_verdicts.specs.ModuleLaws.{NamesOfDevicesDiffer}
use Rattle.cc_verdicts.specs.ModuleVerdicts.{ModuleVerdict, IsAccepted, IsRefused, HasModuleVerdict}
use Rattle.cc_verdicts.specs.PresentTexts.{Texts, ArePresent, text_of, findings_for, AreVerdicts}
use Rattle.cc_why.specs.ToldReasons.{lines_in, TellsReason}
use Rattle.cc_why.specs.WhyTexts.{why_text, TellsWhy}
use Rattle.cc_why.specs.declared.why.ReasonLines.{ReasonLines}

same_code : {one other : Code} {at place : Place} → IsRefused one at ≡ IsRefused other place → one ≡ other
same_code e = cc

same_place : {one other : Code} {at place : Place} → IsRefused one at ≡ IsRefused other place → at ≡ place
same_place e = cc

module _ (devices : List DeviceDecl) (texts : Texts) (all : List ℕ → ModuleVerdict) (name text : List ℕ) (there : text_of texts name ≡ Some text) where
  module _ (are : AreVerdicts devices texts all) (diag : Diag) (is : all name ≡ IsRefused diag.code diag.place) where
    refused_there : HasModuleVerdict devices text (findings_for texts all name text) (IsRefused diag.code diag.place)
    refused_there = subst (HasModuleVerdict devices text (findings_for texts all name text)) is (are name text there)

    -- a refused module has the refusal of its reason
    pub refused_told : (told : ReasonLines) → TellsReason devices texts all name text (Some told)
        → IsWhyBy devices texts all name (answers.RefusedSince diag.code diag.place (lines_in told))
    refused_told told (reason, at, it, lines) =
        let same = verdicts_are_unique devices text (findings_for texts all name text) (IsRefused (module_code reason) at)
        (IsRefused diag.code diag.place) (module_reasons_are_of_refusals devices texts all name text reason at it) refused_there in
        subst (λ code. IsWhyBy devices texts all name (answers.RefusedSince code diag.place (lines_in told))) (same_code same)
        (subst (λ place. IsWhyBy devices texts all name (answers.RefusedSince (module_code reason) place (lines_in told))) (same_place same)
        (refused_since there it lines))

    -- and it has a reason
    pub some_reason : TellsReason devices texts all name text None → ⊥
    some_reason none =
        let (reason, same, it) = refused_modules_have_a_reason devices texts all name text diag.code diag.place refused_there in
        none reason diag.place it

  -- a module that is not refused is accepted
  pub accepted_told : ((code : Code) (at : Place) → all name ≡ IsRefused code at → ⊥) → IsWhyBy devices texts all name answers.NotRefused
  accepted_told none = by (all name) refl
    where
      by : (verdict : ModuleVerdict) → all name ≡ verdict → IsWhyBy devices texts all name answers.NotRefused
      by (IsAccepted definitions) is = not_refused there is
      by (IsRefused code at) is = absurd (none code at is)

-- nothing was written, for want of memory
pub nothing_told : (devices : List DeviceDecl) (texts : Texts) (name : List ℕ) → NamesOfDevicesDiffer devices → ArePresent texts
    → (sink : Option (List ℕ)) → TellsWhy devices texts name sink sink (Err NoMemory)
nothing_told devices texts name differ present sink =
    let (answer, is) = why_has_an_answer devices texts name differ present in
    record { answer = answer; is = is; written = front_none sink (why_text name answer); told = tt }
