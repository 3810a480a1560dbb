-- What is answered where a definition is to be run on the devices of a host exists and is one.
use Rattle.std.proofs.Common.{◌≡◌, ℕ, List, Result, Ok, Err, refl, sym, ap, ◌∙◌}
use Rattle.cc_base.specs.declared.code.Code.{Code}
use Rattle.cc_base.specs.declared.device.DeviceDecl.{DeviceDecl}
use Rattle.cc_entry_laws.proofs.AnyVerdicts.{started_definitions_are_one, entries_are_one}
use Rattle.cc_entry_laws.proofs.MadeEntries.{entries_exist}
use Rattle.cc_entry_laws.specs.PresentEntries.{started_in}
use Rattle.cc_hosting.specs.CourseLaws.{HostedRunsExist, HostedRunsAreOne}
use Rattle.cc_hosting.specs.HostedRuns.{refused_course, refusal_text, hosted, IsHostedAs, IsHosted}
use Rattle.cc_live.specs.LiveRuns.{Course}
use Rattle.cc_mnf.specs.ElaboratedModules.{device_names}
use Rattle.cc_policy.specs.declared.policy.Rule.{Rule}
use Rattle.cc_verdicts.proofs.PresentLaws.{present_verdicts_exist}
use Rattle.cc_verdicts.specs.ModuleLaws.{NamesOfDevicesDiffer}
use Rattle.cc_verdicts.specs.ModuleVerdicts.{CheckedDefinition, ModuleVerdict}
use Rattle.cc_verdicts.specs.PresentTexts.{Texts, ArePresent, AreVerdicts}

module _ (devices : List DeviceDecl) (rules : List Rule) (texts : Texts) (owner definition : List ℕ) (fuel : ℕ) (sorted : ArePresent texts) where
  some : NamesOfDevicesDiffer devices → (verdicts : List ℕ → ModuleVerdict) → AreVerdicts devices texts verdicts → (r : Result CheckedDefinition Code)
      → started_in texts verdicts owner definition ≡ r → (course : Course) × IsHostedAs devices rules texts verdicts owner definition fuel r course
  some differ verdicts are (Ok started) e =
      let (entry, is) = entries_exist devices texts verdicts differ sorted are owner definition started e in
      (hosted (device_names devices) rules texts owner definition fuel entry, (entry, is, refl))
  some differ verdicts are (Err code) e = (refused_course (refusal_text owner definition code), refl)

  alike : (first second : List ℕ → ModuleVerdict) → AreVerdicts devices texts first → AreVerdicts devices texts second
      → (r s : Result CheckedDefinition Code) (one other : Course) → started_in texts first owner definition ≡ r
      → started_in texts second owner definition ≡ s → r ≡ s → IsHostedAs devices rules texts first owner definition fuel r one
      → IsHostedAs devices rules texts second owner definition fuel s other → one ≡ other
  alike first second a b (Ok it) (Ok again) one other p q same x y =
      let entry = entries_are_one devices texts first second owner definition it again x.0 y.0 sorted a b p q x.1 y.1 in
      x.2 ∙ ap (hosted (device_names devices) rules texts owner definition fuel) entry ∙ sym y.2
  alike first second a b (Ok it) (Err code) one other p q same x y = cc
  alike first second a b (Err code) (Ok again) one other p q same x y = cc
  alike first second a b (Err code) (Err code') one other p q same x y =
      x ∙ ap (λ it. refused_course (refusal_text owner definition it)) code_same ∙ sym y
    where
      code_same : code ≡ code'
      code_same = cc

pub hosted_runs_exist : HostedRunsExist
hosted_runs_exist devices state owner definition fuel differ sorted =
    let (verdicts, are) = present_verdicts_exist devices state.texts differ sorted in
    let (course, is) = some devices state.rules state.texts owner definition fuel sorted differ verdicts are (started_in state.texts verdicts owner definition) refl in
    (course, (verdicts, are, is))

pub hosted_runs_are_one : HostedRunsAreOne
hosted_runs_are_one devices state owner definition fuel first second sorted (verdicts, are, answer) (verdicts', are', answer') =
    alike devices state.rules state.texts owner definition fuel sorted verdicts verdicts' are are'
    (started_in state.texts verdicts owner definition) (started_in state.texts verdicts' owner definition) first second refl refl
    (started_definitions_are_one devices state.texts verdicts verdicts' owner definition sorted are are') answer answer'
