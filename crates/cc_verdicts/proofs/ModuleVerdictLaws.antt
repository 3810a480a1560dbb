-- A module's text has one verdict, and the definitions of an accepted module are sound.
use Rattle.std.proofs.Common.{◌≡◌, ℕ, List, [], ◌∷◌, ◌++◌, map, reverse, length, Option, Some, None, refl, sym, ap, ◌∙◌, subst}
use Rattle.std.specs.List.{AllByRecursion, IsDistinct}
use Rattle.std.specs.Option.{unwrap_or}
use Rattle.std.specs.Str.{bytes_eq}
use Rattle.std.proofs.lemmas.List.{append-nil}
use Rattle.cc_base.specs.declared.device.DeviceDecl.{DeviceDecl}
use Rattle.cc_core.specs.Occurrences.{MeetsInType, positions_below}
use Rattle.cc_core.specs.Programs.{AreTyped, NamesDevicesOnly}
use Rattle.cc_core.proofs.Lookups.{length_map}
use Rattle.cc_core.proofs.Sorts.{TypeSort}
use Rattle.cc_core.proofs.WellFormedness.{well_formed-positions_below}
use Rattle.cc_device.specs.Declarations.{declared_base, declared_bases}
use Rattle.cc_grammar.specs.Syntax.{ModuleSyntax}
use Rattle.cc_mnf.specs.ElaboratedModules.{CoreModule, Elaboration, elaboration, import_names, definition_names}
use Rattle.cc_mnf.specs.ElaboratedModules.{device_names}
use Rattle.cc_mnf.specs.ElaboratedModules as elaborated
use Rattle.cc_mnf.proofs.SecondNames.{names_differ}
use Rattle.cc_verdicts.specs.ModuleLaws.{AreFit, IsOverDevices, AreSound, ModuleVerdictsExist, ModuleVerdictsAreUnique, AcceptedModulesAreSound}
use Rattle.cc_verdicts.specs.ModuleVerdicts.{Finding, Refusal, CheckedDefinition, ModuleVerdict, IsAccepted}
use Rattle.cc_verdicts.specs.ModuleVerdicts.{IsRefused, first_missing, declared_context, with_findings, AreJudged}
use Rattle.cc_verdicts.specs.ModuleVerdicts.{HasModuleVerdict, is_no_module, import_is_missing, is_not_elaborated}
use Rattle.cc_verdicts.specs.ModuleVerdicts.{is_judged, in_program}
use Rattle.cc_verdicts.specs.Readings.{TextReading, IsTree, IsNoModule, HasReading, reading_of_text, imports_in}
use Rattle.cc_verdicts.proofs.GlobalContexts.{found_base, module_ready, count_devices}
use Rattle.cc_verdicts.proofs.JudgedDefinitions.{judged_exist, judged_alike, accepted_follow}
use Rattle.cc_verdicts.proofs.ReadingLaws.{text_has_one_reading}

-- there is a finding for each import of the tree
pub fits_tree : (devices : List DeviceDecl) (text : List ℕ) (findings : List Finding) (tree : ModuleSyntax)
    → AreFit devices text findings → HasReading text (IsTree tree) → length findings ≡ length tree.imports
fits_tree devices text findings tree fit reading =
    fit.one_each
    ∙ ap (λ r. length (unwrap_or (imports_in r) [])) (sym ((text_has_one_reading text (IsTree tree)).0 reading))

-- a text has a verdict
exists_by_core : (devices : List DeviceDecl) (text : List ℕ) (findings : List Finding) (tree : ModuleSyntax)
    → AreFit devices text findings → HasReading text (IsTree tree) → first_missing tree.imports findings ≡ None
    → (o : Elaboration) → elaboration (device_names devices) tree ≡ o
    → (v : ModuleVerdict) × HasModuleVerdict devices text findings v
exists_by_core devices text findings tree fit reading found (elaborated.IsRefused code at) e =
    (IsRefused code at, is_not_elaborated reading found e)
exists_by_core devices text findings tree fit reading found (elaborated.IsElaborated core) e =
    let j = judged_exist (length devices) (with_findings (declared_context devices) findings) core.definitions
    (module_ready devices tree findings core (fits_tree devices text findings tree fit reading) fit.over_devices found e) in
    (j.0, is_judged reading found e j.1)

exists_by_missing : (devices : List DeviceDecl) (text : List ℕ) (findings : List Finding) (tree : ModuleSyntax)
    → AreFit devices text findings → HasReading text (IsTree tree)
    → (missing : Option Refusal) → first_missing tree.imports findings ≡ missing
    → (v : ModuleVerdict) × HasModuleVerdict devices text findings v
exists_by_missing devices text findings tree fit reading (Some missing) is =
    (IsRefused missing.code missing.at, import_is_missing reading is)
exists_by_missing devices text findings tree fit reading None is =
    exists_by_core devices text findings tree fit reading is (elaboration (device_names devices) tree) refl

exists_by_reading : (devices : List DeviceDecl) (text : List ℕ) (findings : List Finding) → AreFit devices text findings
    → (r : TextReading) → HasReading text r → (v : ModuleVerdict) × HasModuleVerdict devices text findings v
exists_by_reading devices text findings fit (IsNoModule code at) reading = (IsRefused code at, is_no_module reading)
exists_by_reading devices text findings fit (IsTree tree) reading =
    exists_by_missing devices text findings tree fit reading (first_missing tree.imports findings) refl

pub verdicts_exist : ModuleVerdictsExist
verdicts_exist devices text findings names fit =
    exists_by_reading devices text findings fit (reading_of_text text)
    ((text_has_one_reading text (reading_of_text text)).1 refl)

-- the verdict, by what the text is, what is found and what names and normal form are
abbrev OfCore : List DeviceDecl → List Finding → Elaboration → ModuleVerdict → Type 0
OfCore devices findings (elaborated.IsRefused code at) v = v ≡ IsRefused code at
OfCore devices findings (elaborated.IsElaborated core) v =
    AreJudged (length devices) (with_findings (declared_context devices) findings) core.definitions v

abbrev OfMissing : List DeviceDecl → List Finding → ModuleSyntax → Option Refusal → ModuleVerdict → Type 0
OfMissing devices findings tree (Some missing) v = v ≡ IsRefused missing.code missing.at
OfMissing devices findings tree None v = OfCore devices findings (elaboration (device_names devices) tree) v

abbrev OfReading : List DeviceDecl → List Finding → TextReading → ModuleVerdict → Type 0
OfReading devices findings (IsNoModule code at) v = v ≡ IsRefused code at
OfReading devices findings (IsTree tree) v = OfMissing devices findings tree (first_missing tree.imports findings) v

is_of_reading : (devices : List DeviceDecl) (text : List ℕ) (findings : List Finding) (v : ModuleVerdict)
    → HasModuleVerdict devices text findings v → OfReading devices findings (reading_of_text text) v
is_of_reading devices text findings v (is_no_module {code = code} {at = at} reading) =
    subst (λ r. OfReading devices findings r v) ((text_has_one_reading text (IsNoModule code at)).0 reading) refl
is_of_reading devices text findings v (import_is_missing {tree = tree} reading is) =
    subst (λ r. OfReading devices findings r v) ((text_has_one_reading text (IsTree tree)).0 reading)
    (subst (λ o. OfMissing devices findings tree o v) (sym is) refl)
is_of_reading devices text findings v (is_not_elaborated {tree = tree} reading found e) =
    subst (λ r. OfReading devices findings r v) ((text_has_one_reading text (IsTree tree)).0 reading)
    (subst (λ o. OfMissing devices findings tree o v) (sym found) (subst (λ o. OfCore devices findings o v) (sym e) refl))
is_of_reading devices text findings v (is_judged {tree = tree} reading found e judged) =
    subst (λ r. OfReading devices findings r v) ((text_has_one_reading text (IsTree tree)).0 reading)
    (subst (λ o. OfMissing devices findings tree o v) (sym found) (subst (λ o. OfCore devices findings o v) (sym e) judged))

alike_by_core : (devices : List DeviceDecl) (findings : List Finding) (o : Elaboration) (v w : ModuleVerdict)
    → OfCore devices findings o v → OfCore devices findings o w → v ≡ w
alike_by_core devices findings (elaborated.IsRefused code at) v w one other = one ∙ sym other
alike_by_core devices findings (elaborated.IsElaborated core) v w one other =
    judged_alike (length devices) (with_findings (declared_context devices) findings) core.definitions v w one other

alike_by_missing : (devices : List DeviceDecl) (findings : List Finding) (tree : ModuleSyntax) (o : Option Refusal)
    (v w : ModuleVerdict) → OfMissing devices findings tree o v → OfMissing devices findings tree o w → v ≡ w
alike_by_missing devices findings tree (Some missing) v w one other = one ∙ sym other
alike_by_missing devices findings tree None v w one other =
    alike_by_core devices findings (elaboration (device_names devices) tree) v w one other

alike_by_reading : (devices : List DeviceDecl) (findings : List Finding) (r : TextReading) (v w : ModuleVerdict)
    → OfReading devices findings r v → OfReading devices findings r w → v ≡ w
alike_by_reading devices findings (IsNoModule code at) v w one other = one ∙ sym other
alike_by_reading devices findings (IsTree tree) v w one other =
    alike_by_missing devices findings tree (first_missing tree.imports findings) v w one other

pub verdicts_are_unique : ModuleVerdictsAreUnique
verdicts_are_unique devices text findings first second one other =
    alike_by_reading devices findings (reading_of_text text) first second
    (is_of_reading devices text findings first one) (is_of_reading devices text findings second other)

-- what stands behind is apart too
distinct_behind : (xs ys : List (List ℕ)) → IsDistinct bytes_eq (xs ++ ys) → IsDistinct bytes_eq ys
unfolding IsDistinct
distinct_behind [] ys h = h
distinct_behind (x ∷ xs) ys h = distinct_behind xs ys h.1

names_devices : (devices : List DeviceDecl) (checked : List CheckedDefinition)
    → AllByRecursion (λ one. IsOverDevices devices one.accepted.signature) checked
    → AllByRecursion (λ one. NamesDevicesOnly (declared_bases devices) one.accepted.signature) checked
names_devices devices [] all = tt
names_devices devices (one ∷ checked) all = (
  subst (λ n. MeetsInType (positions_below n) 0 one.accepted.signature)
      (count_devices devices ∙ sym (length_map (λ (device : DeviceDecl). declared_base device.kind) devices))
      (well_formed-positions_below TypeSort (declared_context devices) one.accepted.signature all.0.0),
  names_devices devices checked all.1,
)

sound_by : (devices : List DeviceDecl) (text : List ℕ) (findings : List Finding) (checked : List CheckedDefinition)
    (v : ModuleVerdict) → IsDistinct bytes_eq (device_names devices) → AreFit devices text findings
    → HasModuleVerdict devices text findings v → v ≡ IsAccepted checked → AreSound devices findings checked
sound_by devices text findings checked v names fit (is_no_module reading) is = cc
sound_by devices text findings checked v names fit (import_is_missing reading missing) is = cc
sound_by devices text findings checked v names fit (is_not_elaborated reading found e) is = cc
sound_by devices text findings checked v names fit (is_judged {tree = tree} {core = core} {verdict = verdict} reading found e judged) is =
    let base = with_findings (declared_context devices) findings in
    let ready = module_ready devices tree findings core (fits_tree devices text findings tree fit reading) fit.over_devices found e in
    let follow = accepted_follow devices base [] core.definitions checked verdict (found_base devices findings fit.over_devices) ready tt judged is in
    record {
      names =
          subst (IsDistinct bytes_eq) (sym follow.names)
          (distinct_behind (device_names devices ++ import_names core.imports) (definition_names core.definitions)
          (names_differ (device_names devices) tree core e names));
      values = follow.values;
      over_devices = follow.over_devices;
      name_devices = names_devices devices checked follow.over_devices;
      typed = subst (AreTyped base) (append-nil (reverse (map in_program checked))) follow.typed;
    }

pub accepted_modules_are_sound : AcceptedModulesAreSound
accepted_modules_are_sound devices text findings checked names fit has =
    sound_by devices text findings checked (IsAccepted checked) names fit has refl
