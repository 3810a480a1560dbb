-- What is answered where a definition is to be run on the devices of a host, from what its entry comes to.
use Rattle.std.proofs.Common.{◌≡◌, ℕ, Bool, List, Option, Result, Ok, Err, refl, sym, subst}
use Rattle.cc_base.specs.declared.code.Code.{Code}
use Rattle.cc_base.specs.declared.device.DeviceDecl.{DeviceDecl}
use Rattle.cc_entry_laws.specs.PresentEntries.{CheckedEntry, started_in, IsEntryOf}
use Rattle.cc_hosting.proofs.OneCourse.{hosted_runs_exist}
use Rattle.cc_hosting.specs.HostedRuns.{refused_course, refusal_text, hosted, IsHostedAs, RunsHosted}
use Rattle.cc_line_reading.specs.LineReading.{Held}
use Rattle.cc_live.proofs.TakenTurns.{runs_never}
use Rattle.cc_live.specs.LiveEnds.{RunsLive}
use Rattle.cc_live.specs.declared.running.LiveError.{LiveError}
use Rattle.cc_live.specs.declared.running.LiveError.TheVariants as errors
use Rattle.cc_mnf.specs.ElaboratedModules.{device_names}
use Rattle.cc_policy.specs.declared.policy.Rule.{Rule}
use Rattle.cc_replies.specs.Requests.{JobState, holding_under}
use Rattle.cc_verdicts.specs.ModuleLaws.{NamesOfDevicesDiffer}
use Rattle.cc_verdicts.specs.ModuleVerdicts.{CheckedDefinition, ModuleVerdict}
use Rattle.cc_verdicts.specs.PresentTexts.{Texts, ArePresent, AreVerdicts}

module _ (devices : List DeviceDecl) (rules : List Rule) (texts : Texts) (owner definition : List ℕ) (fuel : ℕ) where
  -- memory lacked
  pub nothing_hosted : NamesOfDevicesDiffer devices → ArePresent texts → (held : Held) (left : Option (List ℕ)) (count : ℕ) (sink : Option (List ℕ))
      → RunsHosted devices (holding_under rules texts) owner definition fuel held held left left count count sink sink (Err errors.NoMemory)
  nothing_hosted differ sorted held left count sink =
      let (course, is) = hosted_runs_exist devices (holding_under rules texts) owner definition fuel differ sorted in
      record { course = course; hosted = is; runs = runs_never course held left count sink }

  module _ (verdicts : List ℕ → ModuleVerdict) (are : AreVerdicts devices texts verdicts) (old new : Held) (left later : Option (List ℕ)) (count counted : ℕ)
      (before after : Option (List ℕ)) (result : Result Bool LiveError) where
    -- there is an entry
    pub entry_hosted : (names : List (List ℕ)) (started : CheckedDefinition) (entry : CheckedEntry) → names ≡ device_names devices
        → started_in texts verdicts owner definition ≡ Ok started → IsEntryOf devices texts verdicts owner definition started entry
        → RunsLive (hosted names rules texts owner definition fuel entry) old new left later count counted before after result
        → RunsHosted devices (holding_under rules texts) owner definition fuel old new left later count counted before after result
    entry_hosted names started entry named starts is runs =
        let course = hosted (device_names devices) rules texts owner definition fuel entry in record {
          course = course;
          hosted = (verdicts, are, subst (λ r. IsHostedAs devices rules texts verdicts owner definition fuel r course) (sym starts) (entry, is, refl));
          runs = subst (λ n. RunsLive (hosted n rules texts owner definition fuel entry) old new left later count counted before after result) named runs;
        }

    -- there is none
    pub refusal_hosted : (code : Code) → started_in texts verdicts owner definition ≡ Err code
        → RunsLive (refused_course (refusal_text owner definition code)) old new left later count counted before after result
        → RunsHosted devices (holding_under rules texts) owner definition fuel old new left later count counted before after result
    refusal_hosted code none runs =
        let course = refused_course (refusal_text owner definition code) in record {
          course = course;
          hosted = (verdicts, are, subst (λ r. IsHostedAs devices rules texts verdicts owner definition fuel r course) (sym none) refl);
          runs = runs;
        }
