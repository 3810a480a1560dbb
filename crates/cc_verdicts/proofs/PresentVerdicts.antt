-- The present modules have one verdict each.
use Rattle.std.proofs.Common.{◌≡◌, ℕ, true, false, List, [], ◌∷◌, Some, None}
use Rattle.std.proofs.Common.{ap, ◌∙◌, sym, subst, refl, inl, inr, if◌then◌else◌}
use Rattle.std.proofs.lemmas.Bool.{cases_Bool, false_from_ne_true}
use Rattle.std.specs.List.{list_any}
use Rattle.std.specs.Option.{is_some}
use Rattle.std.specs.Str.{bytes_eq}
use Rattle.cc_base.specs.declared.code.Code.TheVariants.{E05}
use Rattle.cc_base.specs.declared.device.DeviceDecl.{DeviceDecl}
use Rattle.cc_lex.specs.Lexical.{start}
use Rattle.cc_graph.proofs.NameLemmas.{same_name, is_same_name}
use Rattle.cc_graph.proofs.OrderLemmas.{clash, listed_among, among_listed}
use Rattle.cc_graph.proofs.Paths.{IsAmong}
use Rattle.cc_verdicts.specs.ModuleVerdicts.{Finding, ModuleVerdict, IsRefused, HasModuleVerdict}
use Rattle.cc_verdicts.specs.PresentTexts.{Texts, ArePresent, text_of, findings_for, AreVerdicts}
use Rattle.cc_verdicts.specs.ModuleLaws.{NamesOfDevicesDiffer, AreFit, ModuleVerdictsExist}
use Rattle.cc_verdicts.specs.ModuleLaws.{ModuleVerdictsAreUnique, AcceptedModulesAreSound}
use Rattle.cc_verdicts.proofs.Asking.{Asks, cases_option, some_of, findings_same, findings_fit, verdict_over}
use Rattle.cc_verdicts.proofs.Schedules.{IsSchedule, schedule_closed, schedule_exists}

-- a module has its verdict, with findings that fit
pub record Deserved (devices : List DeviceDecl) (text : List ℕ) (findings : List Finding) (verdict : ModuleVerdict) :
    Type 0 where
  pub has : HasModuleVerdict devices text findings verdict
  pub fit : AreFit devices text findings

deserved_alike : (devices : List DeviceDecl) (text : List ℕ) (findings others : List Finding)
    (verdict other : ModuleVerdict) → findings ≡ others → verdict ≡ other → Deserved devices text findings verdict
    → Deserved devices text others other
deserved_alike devices text findings others verdict other same_findings same_verdict is =
    let P : List Finding → Type 0 = λ fs. Deserved devices text fs other in
    let Q : ModuleVerdict → Type 0 = λ v. Deserved devices text findings v in
    subst P same_findings (subst Q same_verdict is)

-- each listed module that is present has its verdict
abbrev pub AreDeserved : List DeviceDecl → Texts → (List ℕ → ModuleVerdict) → List (List ℕ) → Type 0
AreDeserved devices texts verdicts names =
    (name : List ℕ) → IsAmong name names → (text : List ℕ) → text_of texts name ≡ Some text
    → Deserved devices text (findings_for texts verdicts name text) (verdicts name)

-- the verdicts with another one for the name
abbrev pub but_for : List ℕ → ModuleVerdict → (List ℕ → ModuleVerdict) → List ℕ → ModuleVerdict
but_for newest verdict verdicts name = if bytes_eq newest name then verdict else verdicts name

but_for_same : (newest : List ℕ) (verdict : ModuleVerdict) (verdicts : List ℕ → ModuleVerdict) (name : List ℕ)
    → newest ≡ name → but_for newest verdict verdicts name ≡ verdict
but_for_same newest verdict verdicts name same = rw (is_same_name newest name same) refl

but_for_other : (newest : List ℕ) (verdict : ModuleVerdict) (verdicts : List ℕ → ModuleVerdict) (name : List ℕ)
    → bytes_eq newest name ≡ false → but_for newest verdict verdicts name ≡ verdicts name
but_for_other newest verdict verdicts name other = rw other refl

-- what is listed is not a name that is not
not_listed_other : (newest : List ℕ) (older : List (List ℕ)) (name : List ℕ) → list_any (bytes_eq newest) older ≡ false
    → IsAmong name older → bytes_eq newest name ≡ false
not_listed_other newest older name fresh among =
    let P : List ℕ → Type 0 = λ x. IsAmong x older in
    false_from_ne_true (bytes_eq newest name)
    (λ same.
    clash (list_any (bytes_eq newest) older)
    (listed_among older newest (subst P (sym (same_name newest name same)) among)) fresh)

present_by : (texts : Texts) (name text : List ℕ) → text_of texts name ≡ Some text → is_some (text_of texts name) ≡ true
present_by texts name text is_text = ap is_some is_text

module _ (exist : ModuleVerdictsExist) (sound : AcceptedModulesAreSound) (devices : List DeviceDecl) (texts : Texts)
    (differ : NamesOfDevicesDiffer devices) where
  deserved_over : (verdicts : List ℕ → ModuleVerdict) (names : List (List ℕ)) → AreDeserved devices texts verdicts names
      → (name text : List ℕ) → text_of texts name ≡ Some text
      → ((other : List ℕ) → Asks texts name other → IsAmong other names)
      → AreFit devices text (findings_for texts verdicts name text)
  deserved_over verdicts names are name text is_text asked =
      findings_fit devices texts verdicts name text is_text
      (λ other asks.
      let (its_text, is_its) = some_of (text_of texts other) asks.present in
      let is = are other (asked other asks) its_text is_its in
      verdict_over sound devices its_text (findings_for texts verdicts other its_text) (verdicts other) differ is.fit
      is.has)

  -- the verdicts, where the newest module's text is this
  with_newest : (verdicts : List ℕ → ModuleVerdict) (newest : List ℕ) (older : List (List ℕ))
      → ((other : List ℕ) → Asks texts newest other → IsAmong other older)
      → IsSchedule texts older
      → AreDeserved devices texts verdicts older
      → list_any (bytes_eq newest) older ≡ false
      → (text : List ℕ) → text_of texts newest ≡ Some text
      → (verdict : ModuleVerdict)
      → Deserved devices text (findings_for texts verdicts newest text) verdict
      → AreDeserved devices texts (but_for newest verdict verdicts) (newest ∷ older)
  with_newest verdicts newest older asked orderly are fresh text is_text verdict is name (inl same) its_text is_its =
      let P : List ℕ → Type 0 = λ x. text_of texts x ≡ Some its_text in
      let at_newest : text_of texts newest ≡ Some its_text = subst P (sym same) is_its in
      let one_text : text ≡ its_text = let both : Some text ≡ Some its_text = sym is_text ∙ at_newest in cc in
      let T : List ℕ → Type 0 = λ t. Deserved devices t (findings_for texts verdicts newest t) verdict in
      let N : List ℕ → Type 0 = λ x. Deserved devices its_text (findings_for texts
      (but_for newest verdict verdicts) x its_text) (but_for newest verdict verdicts x) in
      subst N same
      (deserved_alike devices its_text (findings_for texts verdicts newest its_text)
      (findings_for texts (but_for newest verdict verdicts) newest its_text) verdict
      (but_for newest verdict verdicts newest)
      (findings_same texts verdicts (but_for newest verdict verdicts) newest its_text at_newest
      (λ other asks.
      sym (but_for_other newest verdict verdicts other (not_listed_other newest older other fresh
      (asked other asks)))))
      (sym (but_for_same newest verdict verdicts newest refl))
      (subst T one_text is))
  with_newest verdicts newest older asked orderly are fresh text is_text verdict is name (inr among) its_text is_its =
      deserved_alike devices its_text (findings_for texts verdicts name its_text)
      (findings_for texts (but_for newest verdict verdicts) name its_text) (verdicts name)
      (but_for newest verdict verdicts name)
      (findings_same texts verdicts (but_for newest verdict verdicts) name its_text is_its
      (λ other asks.
      sym (but_for_other newest verdict verdicts other (not_listed_other newest older other fresh
      (schedule_closed texts older orderly name other among asks)))))
      (sym (but_for_other newest verdict verdicts name (not_listed_other newest older name fresh among)))
      (are name among its_text is_its)

  -- a name that is listed before adds nothing
  listed_before : (verdicts : List ℕ → ModuleVerdict) (newest : List ℕ) (older : List (List ℕ))
      → AreDeserved devices texts verdicts older → list_any (bytes_eq newest) older ≡ true
      → AreDeserved devices texts verdicts (newest ∷ older)
  listed_before verdicts newest older are listed name (inl same) =
      let P : List ℕ → Type 0 = λ x. IsAmong x older in
      are name (subst P same (among_listed older newest listed))
  listed_before verdicts newest older are listed name (inr among) = are name among

  -- nor does one that is not present
  not_present : (verdicts : List ℕ → ModuleVerdict) (newest : List ℕ) (older : List (List ℕ))
      → AreDeserved devices texts verdicts older → text_of texts newest ≡ None
      → AreDeserved devices texts verdicts (newest ∷ older)
  not_present verdicts newest older are absent name (inl same) text is_text =
      let P : List ℕ → Type 0 = λ x. text_of texts x ≡ Some text in
      let clashes : None ≡ Some text = sym absent ∙ subst P (sym same) is_text in cc
  not_present verdicts newest older are absent name (inr among) text is_text = are name among text is_text

  pub verdicts_made : (names : List (List ℕ)) → IsSchedule texts names
      → (verdicts : List ℕ → ModuleVerdict) × AreDeserved devices texts verdicts names
  verdicts_made [] orderly = (λ name. IsRefused E05 start, λ name among. absurd among)
  verdicts_made (newest ∷ older) orderly =
      let (verdicts, are) = verdicts_made older orderly.1 in
      elim (cases_Bool (list_any (bytes_eq newest) older)) [
        | inl listed ↦ (verdicts, listed_before verdicts newest older are listed)
        | inr fresh ↦
            elim (cases_option (text_of texts newest)) [
              | inr absent ↦ (verdicts, not_present verdicts newest older are absent)
              | inl (text, is_text) ↦
                  let fit = deserved_over verdicts older are newest text is_text orderly.0 in
                  let (verdict, has) = exist devices text (findings_for texts verdicts newest text) differ fit in (
                    but_for newest verdict verdicts,
                    with_newest verdicts newest older orderly.0 orderly.1 are fresh text is_text verdict
                        (record { has = has; fit = fit }),
                  )
            ]
      ]

pub verdicts_exist : ModuleVerdictsExist → AcceptedModulesAreSound → (devices : List DeviceDecl) (texts : Texts)
    → NamesOfDevicesDiffer devices → ArePresent texts
    → (verdicts : List ℕ → ModuleVerdict) × AreVerdicts devices texts verdicts
verdicts_exist exist sound devices texts differ sorted =
    let schedule = schedule_exists texts sorted in
    let (verdicts, are) = verdicts_made exist sound devices texts differ schedule.names schedule.orderly in (
      verdicts,
      λ name text is_text. (are name (schedule.whole name (present_by texts name text is_text)) text is_text).has,
    )

same_along : ModuleVerdictsAreUnique → (devices : List DeviceDecl) (texts : Texts)
    (first second : List ℕ → ModuleVerdict) → AreVerdicts devices texts first → AreVerdicts devices texts second
    → (names : List (List ℕ)) → IsSchedule texts names → (name : List ℕ) → IsAmong name names → (text : List ℕ)
    → text_of texts name ≡ Some text → first name ≡ second name
same_along unique devices texts first second left right [] orderly name among text is_text = absurd among
same_along unique devices texts first second left right (newest ∷ older) orderly name (inr among) text is_text =
    same_along unique devices texts first second left right older orderly.1 name among text is_text
same_along unique devices texts first second left right (newest ∷ older) orderly name (inl same) text is_text =
    let P : List ℕ → Type 0 = λ x. text_of texts x ≡ Some text in
    let at_newest : text_of texts newest ≡ Some text = subst P (sym same) is_text in
    let alike = findings_same texts first second newest text at_newest
    (λ other asks.
    let (its_text, is_its) = some_of (text_of texts other) asks.present in
    same_along unique devices texts first second left right older orderly.1 other (orderly.0 other asks) its_text
    is_its) in
    let H : List Finding → Type 0 = λ fs. HasModuleVerdict devices text fs (first newest) in
    let N : List ℕ → Type 0 = λ x. first x ≡ second x in
    subst N same
    (unique devices text (findings_for texts second newest text) (first newest) (second newest)
    (subst H alike (left newest text at_newest)) (right newest text at_newest))

pub verdicts_are_unique : ModuleVerdictsAreUnique → (devices : List DeviceDecl) (texts : Texts)
    (first second : List ℕ → ModuleVerdict) → ArePresent texts → AreVerdicts devices texts first
    → AreVerdicts devices texts second → (name text : List ℕ) → text_of texts name ≡ Some text
    → first name ≡ second name
verdicts_are_unique unique devices texts first second sorted left right name text is_text =
    let schedule = schedule_exists texts sorted in
    same_along unique devices texts first second left right schedule.names schedule.orderly name
    (schedule.whole name (present_by texts name text is_text)) text is_text

fit_along : AcceptedModulesAreSound → (devices : List DeviceDecl) (texts : Texts) (verdicts : List ℕ → ModuleVerdict)
    → NamesOfDevicesDiffer devices → AreVerdicts devices texts verdicts
    → (names : List (List ℕ)) → IsSchedule texts names → (name : List ℕ) → IsAmong name names → (text : List ℕ)
    → text_of texts name ≡ Some text → AreFit devices text (findings_for texts verdicts name text)
fit_along sound devices texts verdicts differ are [] orderly name among text is_text = absurd among
fit_along sound devices texts verdicts differ are (newest ∷ older) orderly name (inr among) text is_text =
    fit_along sound devices texts verdicts differ are older orderly.1 name among text is_text
fit_along sound devices texts verdicts differ are (newest ∷ older) orderly name (inl same) text is_text =
    let P : List ℕ → Type 0 = λ x. text_of texts x ≡ Some text in
    let N : List ℕ → Type 0 = λ x. AreFit devices text (findings_for texts verdicts x text) in
    subst N same
    (findings_fit devices texts verdicts newest text (subst P (sym same) is_text)
    (λ other asks.
    let (its_text, is_its) = some_of (text_of texts other) asks.present in
    verdict_over sound devices its_text (findings_for texts verdicts other its_text) (verdicts other) differ
    (fit_along sound devices texts verdicts differ are older orderly.1 other (orderly.0 other asks) its_text is_its)
    (are other its_text is_its)))

pub findings_fit_texts : AcceptedModulesAreSound → (devices : List DeviceDecl) (texts : Texts)
    (verdicts : List ℕ → ModuleVerdict) → NamesOfDevicesDiffer devices → ArePresent texts
    → AreVerdicts devices texts verdicts → (name text : List ℕ) → text_of texts name ≡ Some text
    → AreFit devices text (findings_for texts verdicts name text)
findings_fit_texts sound devices texts verdicts differ sorted are name text is_text =
    let schedule = schedule_exists texts sorted in
    fit_along sound devices texts verdicts differ are schedule.names schedule.orderly name
    (schedule.whole name (present_by texts name text is_text)) text is_text
