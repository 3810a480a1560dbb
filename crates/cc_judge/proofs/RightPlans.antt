-- What the plans for single modules come to.
use Rattle.std.proofs.Common.{◌≡◌, ℕ, ◌<◌, true, false, List, [], ◌∷◌, length, map, Option}
use Rattle.std.proofs.Common.{Some, None, ap, ◌∙◌, sym, subst, refl, get_or, arith}
use Rattle.std.proofs.lemmas.Option.{same_Some}
use Rattle.std.specs.List.{AllByRecursion, slice_get}
use Rattle.std.specs.Prelude.{zero, suc}
use Rattle.std.specs.Option.{option_map, unwrap_or, is_some}
use Rattle.cc_base.specs.declared.device.DeviceDecl.{DeviceDecl}
use Rattle.cc_grammar.specs.Syntax.{ImportSyntax}
use Rattle.cc_graph.specs.Graph.{reaches}
use Rattle.cc_verdicts.specs.ModuleVerdicts.{Finding, ModuleVerdict, HasModuleVerdict}
use Rattle.cc_verdicts.specs.PresentTexts.{Texts, ArePresent, graph_of, finding_for, findings_for}
use Rattle.cc_verdicts.specs.PresentTexts.{AreVerdicts}
use Rattle.cc_verdicts.specs.ModuleLaws.{NamesOfDevicesDiffer, AreFit}
use Rattle.cc_verdicts.specs.Readings.{imports_of}
use Rattle.cc_verdicts.proofs.ModuleVerdictLaws as one_text
use Rattle.cc_verdicts.proofs.PresentLaws.{present_verdicts_exist, present_findings_fit}
use Rattle.cc_module.specs.declared.judgement.ModuleVerdict.{ModuleVerdict as DeclaredVerdict}
use Rattle.cc_module.specs.Judgements.{module_verdict_of}
use Rattle.cc_judge.specs.declared.grounds.Grounds.{Grounds}
use Rattle.cc_judge.specs.declared.plans.Plan.{Plan}
use Rattle.cc_judge.specs.declared.plans.Plan.TheVariants.{Keep, Judge}
use Rattle.cc_judge.specs.Found.{IsKnown, AreFoundFor}
use Rattle.cc_judge.specs.Judgements.{Judgement, IsJudged, AreJudged, judgement_in, is_stale}
use Rattle.cc_judge.specs.Kept.{judged_on, judgements_from}
use Rattle.cc_judge.specs.Places.{entry_at, name_at, text_at}
use Rattle.cc_judge.specs.Plans.{plan_judgement, plan_verdict, plan_at, IsPlanned, IsJudgedAt, IsPlanFor, IsRight}
use Rattle.cc_judge.specs.Dependencies.{AreRead, IsJudgedBefore, AreJudgedBefore}
use Rattle.cc_judge.specs.Plans.{AreRight, ArePlans, AsksPlanned, IsRightPlan, is_stale_at}
use Rattle.cc_judge.proofs.Graphs.{reading_of_place}
use Rattle.std.proofs.lemmas.List.{get_or_default}
use Rattle.cc_judge.proofs.TextPlaces.{text_of_place}

-- a judgement at a place is judged
pub judged_at : (devices : List DeviceDecl) (last : List Judgement) → AreJudged devices last → (at : ℕ) (one : Judgement)
    → slice_get last at ≡ Some one → IsJudged devices one
judged_at devices [] judged at one stands = cc
judged_at devices (first ∷ rest) judged zero one stands =
    let P : Judgement → Type 0 = λ j. IsJudged devices j in subst P (same_Some first one stands) judged.0
judged_at devices (first ∷ rest) judged (suc at) one stands = judged_at devices rest judged.1 at one stands

-- the verdict at a place of the last judgements
pub verdict_at : (verdicts : List (List ℕ × DeclaredVerdict)) (grounds : List Grounds) (at : ℕ) (one : Judgement)
    → slice_get (judgements_from verdicts grounds) at ≡ Some one
    → option_map (λ entry. module_verdict_of entry.1) (slice_get verdicts at) ≡ Some one.verdict
verdict_at [] grounds at one stands = cc
verdict_at (entry ∷ entries) [] at one stands = cc
verdict_at (entry ∷ entries) (first ∷ rest) zero one stands = ap Some (ap (λ j. j.verdict) (same_Some
    (judged_on entry first) one stands))
verdict_at (entry ∷ entries) (first ∷ rest) (suc at) one stands = verdict_at entries rest at one stands

pub verdict_by_plan : (verdicts : List (List ℕ × DeclaredVerdict)) (grounds : List Grounds) (plan : Plan)
    (one : Judgement) → plan_judgement (judgements_from verdicts grounds) plan ≡ Some one
    → plan_verdict verdicts plan ≡ Some one.verdict
verdict_by_plan verdicts grounds (Keep at) one planned = verdict_at verdicts grounds at one planned
verdict_by_plan verdicts grounds (Judge name verdict others) one planned =
    ap Some (ap (λ j. j.verdict) (same_Some (judged_on (name, verdict) others) one planned))

-- what is kept is a plan
pub kept_plan : (devices : List DeviceDecl) (last : List Judgement) (name text : List ℕ) (findings : List Finding) (at : ℕ)
    → AreJudged devices last → IsJudgedAt last name text findings at
    → IsPlanFor devices last name text findings (Keep at)
kept_plan devices last name text findings at judged is =
    record {
      one = is.one;
      planned = is.stands;
      judged = judged_at devices last judged at is.one is.stands;
      same_name = is.same_name;
      same_text = is.same_text;
      same_findings = is.same_findings;
    }

pub one_judgement : (one other : Judgement) → one.name ≡ other.name → one.text ≡ other.text
    → one.findings ≡ other.findings → one.verdict ≡ other.verdict → one ≡ other
one_judgement one other names texts findings verdicts =
    λ i. record { name = names i; text = texts i; findings = findings i; verdict = verdicts i }

-- what is found, where what is asked is known
zip_found : (texts : Texts) (last : List (List ℕ × DeclaredVerdict)) (plans : List (Option Plan))
    (verdicts : List ℕ → ModuleVerdict) (name : List ℕ) (imports : List ImportSyntax) (found : List Finding)
    → AreFoundFor texts last plans name imports found
    → AllByRecursion (λ one. reaches (graph_of texts) one.source name ≡ false
    → IsKnown texts last plans verdicts one.source) imports
    → found ≡ map (finding_for texts verdicts name) imports
zip_found texts last plans verdicts name [] [] zip known = refl
zip_found texts last plans verdicts name [] (first ∷ rest) zip known = absurd zip
zip_found texts last plans verdicts name (one ∷ others) [] zip known = absurd zip
zip_found texts last plans verdicts name (one ∷ others) (first ∷ rest) zip known =
    ap (λ f. f ∷ rest) (zip.0 verdicts known.0)
    ∙ ap (λ fs. finding_for texts verdicts name one ∷ fs)
    (zip_found texts last plans verdicts name others rest zip.1 known.1)

is_known : (texts : Texts) (verdicts : List (List ℕ × DeclaredVerdict)) (grounds : List Grounds)
    (plans : List (Option Plan)) (all : List ℕ → ModuleVerdict)
    → AreRight texts (judgements_from verdicts grounds) all plans → (source : List ℕ) (place : ℕ)
    → place < length texts → name_at texts place ≡ source → (plan : Option Plan) → plan_at plans place ≡ plan
    → is_some plan ≡ true
    → (it : Plan) × (plan_at plans place ≡ Some it) × (plan_verdict verdicts it ≡ Some (all source))
is_known texts verdicts grounds plans all right source place within same None at made = cc
is_known texts verdicts grounds plans all right source place within same (Some plan) at made =
    let P : Option Plan → Type 0 = λ o. IsRight (judgements_from verdicts grounds) (judgement_in texts all
    (entry_at texts place)) o in (
      plan,
      at,
      verdict_by_plan verdicts grounds plan (judgement_in texts all (entry_at texts place))
          (subst P at (right.right place within))
          ∙ ap (λ n. Some (all n)) same,
    )

all_known : (texts : Texts) (verdicts : List (List ℕ × DeclaredVerdict)) (grounds : List Grounds)
    (plans : List (Option Plan)) (all : List ℕ → ModuleVerdict)
    → AreRight texts (judgements_from verdicts grounds) all plans → (name : List ℕ) (imports : List ImportSyntax)
    → AllByRecursion (λ one. (other : ℕ) → other < length texts → name_at texts other ≡ one.source
    → reaches (graph_of texts) one.source name ≡ false → IsPlanned plans other) imports
    → AllByRecursion (λ one. reaches (graph_of texts) one.source name ≡ false
    → IsKnown texts verdicts plans all one.source) imports
all_known texts verdicts grounds plans all right name [] asked = tt
all_known texts verdicts grounds plans all right name (one ∷ others) asked = (
  λ ahead place within same.
      is_known texts verdicts grounds plans all right one.source place within same (plan_at plans place) refl
      (asked.0 place within same ahead),
  all_known texts verdicts grounds plans all right name others asked.1,
)

-- what is found for the module at a place is what is to be found
pub found_right : (texts : Texts) (verdicts : List (List ℕ × DeclaredVerdict)) (grounds : List Grounds)
    (plans : List (Option Plan)) (all : List ℕ → ModuleVerdict)
    → AreRight texts (judgements_from verdicts grounds) all plans → (place : ℕ) (found : List Finding)
    → AsksPlanned texts plans place
    → AreFoundFor texts verdicts plans (name_at texts place) (unwrap_or (imports_of (text_at texts place)) []) found
    → found ≡ findings_for texts all (name_at texts place) (text_at texts place)
found_right texts verdicts grounds plans all right place found asked zip =
    zip_found texts verdicts plans all (name_at texts place) (unwrap_or (imports_of (text_at texts place)) []) found zip
    (all_known texts verdicts grounds plans all right (name_at texts place)
    (unwrap_or (imports_of (text_at texts place)) []) asked)

-- and it fits the text
pub found_fits : (devices : List DeviceDecl) (texts : Texts) (verdicts : List (List ℕ × DeclaredVerdict))
    (grounds : List Grounds) (plans : List (Option Plan)) → NamesOfDevicesDiffer devices → ArePresent texts
    → ArePlans devices texts (judgements_from verdicts grounds) plans → (place : ℕ) (found : List Finding)
    → place < length texts → AsksPlanned texts plans place
    → AreFoundFor texts verdicts plans (name_at texts place) (unwrap_or (imports_of (text_at texts place)) []) found
    → AreFit devices (text_at texts place) found
found_fits devices texts verdicts grounds plans differ sorted planned place found within asked zip =
    let (all, are) = present_verdicts_exist devices texts differ sorted in
    let P : List Finding → Type 0 = λ fs. AreFit devices (text_at texts place) fs in
    subst P (sym (found_right texts verdicts grounds plans all (planned all are) place found asked zip))
    (present_findings_fit devices texts all differ sorted are (name_at texts place) (text_at texts place)
    (text_of_place texts sorted place within))

-- a plan with these findings is right
pub plan_right : (devices : List DeviceDecl) (texts : Texts) (last : List Judgement) (place : ℕ) (plan : Plan)
    (all : List ℕ → ModuleVerdict) (found : List Finding) → ArePresent texts → place < length texts
    → AreVerdicts devices texts all → found ≡ findings_for texts all (name_at texts place) (text_at texts place)
    → IsPlanFor devices last (name_at texts place) (text_at texts place) found plan
    → plan_judgement last plan ≡ Some (judgement_in texts all (entry_at texts place))
plan_right devices texts last place plan all found sorted within are is_found is =
    let same_found : is.one.findings ≡ findings_for texts all (name_at texts place) (text_at texts place) =
    is.same_findings ∙ is_found in
    let T : List ℕ → Type 0 = λ t. HasModuleVerdict devices t is.one.findings is.one.verdict in
    let F : List Finding → Type 0 = λ fs. HasModuleVerdict devices (text_at texts place) fs is.one.verdict in
    let has = subst F same_found (subst T is.same_text is.judged.deserved) in
    is.planned
    ∙ ap Some
    (one_judgement is.one (judgement_in texts all (entry_at texts place)) is.same_name is.same_text same_found
    (one_text.verdicts_are_unique devices (text_at texts place)
    (findings_for texts all (name_at texts place) (text_at texts place)) is.one.verdict (all (name_at texts place)) has
    (are (name_at texts place) (text_at texts place) (text_of_place texts sorted place within))))

-- the module at a place, as the program reads it
module _ (devices : List DeviceDecl) (texts : Texts) (sorted : ArePresent texts) (readings : List (List ℕ))
    (read : AreRead texts readings) (last : List Judgement) (place : ℕ) (within : place < length texts)
    (entry : List ℕ × List ℕ) (is_entry : entry ≡ get_or texts place entry) (reading : List ℕ)
    (is_reading : reading ≡ get_or readings place reading) where
  at_entry : entry ≡ entry_at texts place
  at_entry = is_entry ∙ get_or_default texts place entry ([], []) within

  at_text : reading ≡ text_at texts place
  at_text =
      reading_of_place texts readings read place (entry_at texts place) reading within
      (get_or_default texts place ([], []) (entry_at texts place) within) is_reading

  pub made_judged : (judged : List (Option ℕ)) → AreJudgedBefore last texts judged
      → (before : Option ℕ) → before ≡ get_or judged place before → IsJudgedBefore last entry.0 reading before
  made_judged judged are before is =
      let is_before : before ≡ get_or judged place None = is ∙ get_or_default judged place before None
      (omega (arith, within, are.count)) in
      let P : List ℕ × List ℕ → Type 0 = λ e. IsJudgedBefore last e.0 reading before in
      let Q : List ℕ → Type 0 = λ t. IsJudgedBefore last (name_at texts place) t before in
      let R : Option ℕ → Type 0 = λ o. IsJudgedBefore last (name_at texts place) (text_at texts place) o in
      subst P (sym at_entry) (subst Q (sym at_text) (subst R (sym is_before) (are.each place within)))

  -- a judgement on what is found by the present verdicts stays
  pub stays_right : AreJudged devices last → (at : ℕ)
      → ((all : List ℕ → ModuleVerdict) → AreVerdicts devices texts all
      → IsJudgedAt last entry.0 reading (findings_for texts all entry.0 reading) at)
      → IsRightPlan devices texts last place (Keep at)
  stays_right judged at stays all are =
      let P : List ℕ × List ℕ → Type 0 = λ e. IsJudgedAt last e.0 reading (findings_for texts all e.0 reading) at in
      let Q : List ℕ → Type 0 = λ t. IsJudgedAt last (name_at texts place) t (findings_for texts all (name_at texts place) t) at in
      plan_right devices texts last place (Keep at) all (findings_for texts all (name_at texts place) (text_at texts place))
      sorted within are refl
      (kept_plan devices last (name_at texts place) (text_at texts place)
      (findings_for texts all (name_at texts place) (text_at texts place)) at judged
      (subst Q at_text (subst P at_entry (stays all are))))

-- the plan for the module at a place, as the program makes it
module _ (devices : List DeviceDecl) (texts : Texts) (differ : NamesOfDevicesDiffer devices)
    (sorted : ArePresent texts) (readings : List (List ℕ)) (read : AreRead texts readings)
    (verdicts : List (List ℕ × DeclaredVerdict)) (grounds : List Grounds) (plans : List (Option Plan))
    (planned : ArePlans devices texts (judgements_from verdicts grounds) plans) (place : ℕ)
    (within : place < length texts) (asked : AsksPlanned texts plans place) (entry : List ℕ × List ℕ)
    (is_entry : entry ≡ get_or texts place entry) (reading : List ℕ) (is_reading : reading ≡ get_or readings place reading)
    (imports : Option (List ImportSyntax)) (are_imports : imports ≡ imports_of reading) (found : List Finding)
    (zip : AreFoundFor texts verdicts plans entry.0 (unwrap_or imports []) found) where
  its_entry : entry ≡ entry_at texts place
  its_entry =
      at_entry devices texts sorted readings read (judgements_from verdicts grounds) place within entry is_entry reading
      is_reading

  its_text : reading ≡ text_at texts place
  its_text =
      at_text devices texts sorted readings read (judgements_from verdicts grounds) place within entry is_entry reading
      is_reading

  its_imports : imports ≡ imports_of (text_at texts place)
  its_imports = are_imports ∙ ap imports_of its_text

  found_zip : AreFoundFor texts verdicts plans (name_at texts place) (unwrap_or (imports_of (text_at texts place)) [])
      found
  found_zip =
      let P : List ℕ × List ℕ → Type 0 = λ e. AreFoundFor texts verdicts plans e.0 (unwrap_or imports []) found in
      let Q : Option (List ImportSyntax) → Type 0 = λ o. AreFoundFor texts verdicts plans (name_at texts place)
      (unwrap_or o []) found in
      subst Q its_imports (subst P its_entry zip)

  pub made_fits : AreFit devices reading found
  made_fits =
      let P : List ℕ → Type 0 = λ t. AreFit devices t found in
      subst P (sym its_text)
      (found_fits devices texts verdicts grounds plans differ sorted planned place found within asked found_zip)

  pub made_found : (all : List ℕ → ModuleVerdict) → AreVerdicts devices texts all
      → found ≡ findings_for texts all entry.0 reading
  made_found all are =
      found_right texts verdicts grounds plans all (planned all are) place found asked found_zip
      ∙ sym (ap (λ e. findings_for texts all e.0 (text_at texts place)) its_entry)
      ∙ sym (ap (findings_for texts all entry.0) its_text)

  pub made_stale : (all : List ℕ → ModuleVerdict) → AreVerdicts devices texts all
      → is_stale (judgements_from verdicts grounds) entry.0 reading found
      ≡ is_stale_at (judgements_from verdicts grounds) texts all place
  made_stale all are =
      ap (λ e. is_stale (judgements_from verdicts grounds) e.0 reading found) its_entry
      ∙ ap (λ t. is_stale (judgements_from verdicts grounds) (name_at texts place) t found) its_text
      ∙ ap (is_stale (judgements_from verdicts grounds) (name_at texts place) (text_at texts place))
      (found_right texts verdicts grounds plans all (planned all are) place found asked found_zip)

  pub made_right : (plan : Plan)
      → IsPlanFor devices (judgements_from verdicts grounds) entry.0 reading
      found plan
      → IsRightPlan devices texts (judgements_from verdicts grounds) place plan
  made_right plan is all are =
      let P : List ℕ × List ℕ → Type 0 = λ e. IsPlanFor devices (judgements_from verdicts grounds) e.0 reading found plan in
      let Q : List ℕ → Type 0 = λ t. IsPlanFor devices (judgements_from verdicts grounds) (name_at texts place) t found
      plan in
      plan_right devices texts (judgements_from verdicts grounds) place plan all found sorted within are
      (found_right texts verdicts grounds plans all (planned all are) place found asked found_zip)
      (subst Q its_text (subst P its_entry is))

pub plans_counted : (devices : List DeviceDecl) (texts : Texts) (last : List Judgement) (plans : List (Option Plan))
    → NamesOfDevicesDiffer devices → ArePresent texts → ArePlans devices texts last plans
    → length plans ≡ length texts
plans_counted devices texts last plans differ sorted are =
    let (all, is) = present_verdicts_exist devices texts differ sorted in (are all is).count
