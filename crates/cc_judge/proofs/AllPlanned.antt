-- All present modules are planned: the plans are ready to be carried out, and what they give are the judgements.
use Rattle.std.proofs.Common.{◌≡◌, ℕ, ◌<◌, true, List, [], ◌∷◌, length, get_or, map, Option, Some, None, ap}
use Rattle.std.proofs.Common.{◌∙◌, sym, subst, refl, inl, inr, arith}
use Rattle.std.proofs.lemmas.Bool.{cases_eq, cases_lt}
use Rattle.std.proofs.lemmas.Map.Entries.{length-keys_of}
use Rattle.std.proofs.lemmas.Option.{slice_get_within}
use Rattle.std.specs.Cmp.{tied_itself}
use Rattle.std.specs.List.{slice_get}
use Rattle.std.specs.List.Sorted.{IsStrictlySortedBy}
use Rattle.std.specs.Map.{keys_of}
use Rattle.std.specs.Option.{is_some}
use Rattle.std.specs.Prelude.{suc}
use Rattle.std.specs.declared.cmp.Ordering.TheVariants.{Less, Equal, Greater}
use Rattle.cc_base.specs.declared.device.DeviceDecl.{DeviceDecl}
use Rattle.cc_base.specs.Names.{compare_names}
use Rattle.cc_graph.proofs.NameLemmas.{names_total, turned}
use Rattle.cc_graph.proofs.Paths.{IsAmong}
use Rattle.cc_verdicts.specs.ModuleVerdicts.{ModuleVerdict}
use Rattle.cc_verdicts.specs.PresentTexts.{Texts, ArePresent, text_of, AreVerdicts}
use Rattle.cc_verdicts.specs.ModuleLaws.{NamesOfDevicesDiffer}
use Rattle.cc_verdicts.proofs.Asking.{all_mapped}
use Rattle.cc_verdicts.proofs.PresentLaws.{present_verdicts_exist, present_findings_fit}
use Rattle.cc_module.specs.declared.judgement.ModuleVerdict.{ModuleVerdict as DeclaredVerdict}
use Rattle.cc_judge.specs.declared.grounds.Grounds.{Grounds}
use Rattle.cc_judge.specs.declared.plans.Plan.{Plan}
use Rattle.cc_judge.specs.declared.plans.Plan.TheVariants.{Keep}
use Rattle.cc_judge.specs.Carrying.{AreReady}
use Rattle.cc_judge.specs.Judgements.{Judgement, IsJudged, AreJudged, judgement_in, judgements}
use Rattle.cc_judge.specs.Kept.{judgements_from}
use Rattle.cc_judge.specs.Places.{entry_at, name_at}
use Rattle.cc_judge.specs.Plans.{plan_at, IsRight, AreRight, AreAllPlanned, planned}
use Rattle.cc_judge.proofs.CarryLemmas.{judgements_length}
use Rattle.cc_judge.proofs.Entries.{key_of, less_keys}
use Rattle.cc_judge.proofs.Lists.{read_at}
use Rattle.cc_judge.proofs.JudgedBefore.{key_at_judgement}
use Rattle.cc_judge.proofs.TextPlaces.{text_of_place}

-- where names stand in order, so do their places
rising_places : {X : Type 0} (entries : List (List ℕ × X)) → IsStrictlySortedBy compare_names (keys_of entries)
    → (first second : List ℕ) (at other : ℕ) → compare_names first second ≡ Less
    → slice_get (keys_of entries) at ≡ Some first → slice_get (keys_of entries) other ≡ Some second → at < other
rising_places entries sorted first second at other less is_first is_second =
    let in_first : at < length entries = omega (
      arith,
      slice_get_within (keys_of entries) at first is_first,
      length-keys_of entries,
    ) in
    let key_first : get_or (keys_of entries) at [] ≡ first = read_at (keys_of entries) at first [] is_first in
    let key_second : get_or (keys_of entries) other [] ≡ second = read_at (keys_of entries) other second [] is_second in
    elim (cases_lt at other) [
      | inl below ↦ below
      | inr above ↦
          absurd
          (elim (cases_eq other at) [
            | inl same ↦
                let one : second ≡ first = sym key_second ∙ ap (λ k. get_or (keys_of entries) k []) same ∙ key_first in
                let P : List ℕ → Type 0 = λ x. compare_names first x ≡ Less in
                let clash : compare_names first first ≡ Less = subst P one less in
                let tied : compare_names first first ≡ Equal = tied_itself names_total first in cc
            | inr apart ↦
                let P : List ℕ → Type 0 = λ x. compare_names x (get_or (keys_of entries) at []) ≡ Less in
                let Q : List ℕ → Type 0 = λ y. compare_names second y ≡ Less in
                let back : compare_names second first ≡ Less =
                subst Q key_first (subst P key_second (less_keys entries sorted other at (omega arith) in_first)) in
                let clash : compare_names second first ≡ Greater = turned first second less in cc
          ])
    ]

module _ (devices : List DeviceDecl) (texts : Texts) (differ : NamesOfDevicesDiffer devices)
    (sorted : ArePresent texts) (verdicts : List (List ℕ × DeclaredVerdict)) (grounds : List Grounds)
    (names : IsStrictlySortedBy compare_names (keys_of verdicts)) (one_each : length grounds ≡ length verdicts)
    (plans : List (Option Plan)) (are : AreAllPlanned devices texts (judgements_from verdicts grounds) plans) where
  abbrev all : List ℕ → ModuleVerdict
  all = (present_verdicts_exist devices texts differ sorted).0

  all_are : AreVerdicts devices texts all
  all_are = (present_verdicts_exist devices texts differ sorted).1

  right : AreRight texts (judgements_from verdicts grounds) all plans
  right = are.right all all_are

  kept_judgement : (place at : ℕ) → place < length plans → plan_at plans place ≡ Some (Keep at)
      → slice_get (judgements_from verdicts grounds) at ≡ Some (judgement_in texts all (entry_at texts place))
  kept_judgement place at within is =
      let P : Option Plan → Type 0 = λ o. IsRight (judgements_from verdicts grounds) (judgement_in texts all
      (entry_at texts place)) o in
      subst P is (right.right place (omega (arith, right.count)))

  kept_key : (place at : ℕ) → place < length plans → plan_at plans place ≡ Some (Keep at)
      → slice_get (keys_of verdicts) at ≡ Some (name_at texts place)
  kept_key place at within is =
      key_at_judgement verdicts grounds at (judgement_in texts all (entry_at texts place))
      (kept_judgement place at within is)

  pub plans_ready : AreReady plans (length verdicts)
  plans_ready =
      record {
        made = λ place within. are.all place (omega (arith, right.count));
        within = λ place at inside is.
            omega (
              arith,
              slice_get_within (judgements_from verdicts grounds) at (judgement_in texts all
                  (entry_at texts place)) (kept_judgement place at inside is),
              judgements_length verdicts grounds one_each,
            );
        rising = λ first second at other below inside is_first is_second.
            let in_second : second < length texts = omega (arith, right.count) in
            let P : List ℕ → Type 0 = λ x. compare_names x (name_at texts second) ≡ Less in
            let Q : List ℕ → Type 0 = λ y. compare_names (get_or (keys_of texts) first []) y ≡ Less in
            rising_places verdicts names (name_at texts first) (name_at texts second) at other
            (subst P (key_of texts first ([], []) (omega arith))
            (subst Q (key_of texts second ([], []) in_second) (less_keys texts sorted first second below in_second)))
            (kept_key first at (omega arith) is_first)
            (kept_key second other inside is_second);
      }

  planned_at : (place : ℕ) → place < length texts → (plan : Option Plan) → plan_at plans place ≡ plan
      → is_some plan ≡ true
      → planned (judgements_from verdicts grounds) plan ≡ Some (judgement_in texts all (entry_at texts place))
  planned_at place within None at made = cc
  planned_at place within (Some plan) at made =
      let P : Option Plan → Type 0 = λ o. IsRight (judgements_from verdicts grounds) (judgement_in texts all
      (entry_at texts place)) o in
      subst P at (right.right place within)

  pub all_planned : (place : ℕ) → place < length texts
      → planned (judgements_from verdicts grounds) (plan_at plans place)
      ≡ Some (judgement_in texts all (entry_at texts place))
  all_planned place within = planned_at place within (plan_at plans place) refl (are.all place within)

  pub plans_count : length plans ≡ length texts
  plans_count = right.count

-- a list by its places
mapped_by_places : {A B : Type 0} {C : Type 0} (f : A → Option C) (g : B → C) (xs : List A) (ys : List B) (d : A) (e : B)
    → length xs ≡ length ys
    → ((place : ℕ) → place < length ys → f (get_or xs place d) ≡ Some (g (get_or ys place e)))
    → map f xs ≡ map Some (map g ys)
mapped_by_places f g [] [] d e same each = refl
mapped_by_places f g [] (y ∷ ys) d e same each = absurd (omega arith)
mapped_by_places f g (x ∷ xs) [] d e same each = absurd (omega arith)
mapped_by_places f g (x ∷ xs) (y ∷ ys) d e same each =
    ap (λ z. z ∷ map f xs) (each 0 (omega arith))
    ∙ ap (λ zs. Some (g y) ∷ zs)
    (mapped_by_places f g xs ys d e (omega arith) (λ place within. each (suc place) (omega arith)))

pub same_somes : {A : Type 0} (xs ys : List A) → map Some xs ≡ map Some ys → xs ≡ ys
same_somes [] [] h = refl
same_somes [] (y ∷ ys) h = cc
same_somes (x ∷ xs) [] h = cc
same_somes (x ∷ xs) (y ∷ ys) h =
    let here : x ≡ y = cc in
    let rest : map Some xs ≡ map Some ys = cc in
    ap (λ z. z ∷ xs) here ∙ ap (λ zs. y ∷ zs) (same_somes xs ys rest)

-- what the plans give are the judgements of the present modules
pub carried_judgements : (devices : List DeviceDecl) (texts : Texts) (differ : NamesOfDevicesDiffer devices)
    (sorted : ArePresent texts) (verdicts : List (List ℕ × DeclaredVerdict)) (grounds : List Grounds)
    (names : IsStrictlySortedBy compare_names (keys_of verdicts)) (one_each : length grounds ≡ length verdicts)
    (plans : List (Option Plan)) → AreAllPlanned devices texts (judgements_from verdicts grounds) plans
    → (new : List Judgement) → map Some new ≡ map (planned (judgements_from verdicts grounds)) plans
    → new ≡ judgements texts (present_verdicts_exist devices texts differ sorted).0
carried_judgements devices texts differ sorted verdicts grounds names one_each plans are new carried =
    same_somes new (judgements texts (present_verdicts_exist devices texts differ sorted).0)
    (carried
    ∙ mapped_by_places (planned (judgements_from verdicts grounds))
    (judgement_in texts (present_verdicts_exist devices texts differ sorted).0) plans texts None ([], [])
    (plans_count devices texts differ sorted verdicts grounds names one_each plans are)
    (all_planned devices texts differ sorted verdicts grounds names one_each plans are))

-- the judgements of the present modules are judged, and stand in order of name
place_in : {A : Type 0} (x : A) (xs : List A) (d : A) → IsAmong x xs
    → (place : ℕ) × (place < length xs) × (get_or xs place d ≡ x)
place_in x [] d among = absurd among
place_in x (y ∷ ys) d (inl same) = (0, omega arith, same)
place_in x (y ∷ ys) d (inr among) =
    let (place, within, same) = place_in x ys d among in (suc place, omega arith, same)

text_among : (texts : Texts) → ArePresent texts → (one : List ℕ × List ℕ) → IsAmong one texts
    → text_of texts one.0 ≡ Some one.1
text_among texts sorted one among =
    let (place, within, same) = place_in one texts ([], []) among in
    let P : List ℕ × List ℕ → Type 0 = λ e. text_of texts e.0 ≡ Some e.1 in
    subst P same (text_of_place texts sorted place within)

pub judgements_judged : (devices : List DeviceDecl) (texts : Texts) (all : List ℕ → ModuleVerdict)
    → NamesOfDevicesDiffer devices → ArePresent texts → AreVerdicts devices texts all
    → AreJudged devices (judgements texts all)
judgements_judged devices texts all differ sorted are =
    all_mapped (IsJudged devices) (judgement_in texts all) texts
    (λ one among.
    record {
      deserved = are one.0 one.1 (text_among texts sorted one among);
      fit = present_findings_fit devices texts all differ sorted are one.0 one.1 (text_among texts sorted one among);
    })

pub judgement_names : (verdicts : List (List ℕ × DeclaredVerdict)) (grounds : List Grounds)
    → length grounds ≡ length verdicts → map (λ j. j.name) (judgements_from verdicts grounds) ≡ keys_of verdicts
judgement_names [] grounds same = refl
judgement_names (entry ∷ entries) [] same = absurd (omega arith)
judgement_names (entry ∷ entries) (first ∷ rest) same =
    ap (λ ns. entry.0 ∷ ns) (judgement_names entries rest (omega arith))

text_names : (texts rest : Texts) (all : List ℕ → ModuleVerdict)
    → map (λ j. j.name) (map (judgement_in texts all) rest) ≡ keys_of rest
text_names texts [] all = refl
text_names texts (first ∷ rest) all = ap (λ ns. first.0 ∷ ns) (text_names texts rest all)

pub names_sorted : (texts : Texts) (all : List ℕ → ModuleVerdict) (verdicts : List (List ℕ × DeclaredVerdict))
    (grounds : List Grounds) → ArePresent texts → length grounds ≡ length verdicts
    → judgements_from verdicts grounds ≡ judgements texts all → IsStrictlySortedBy compare_names (keys_of verdicts)
names_sorted texts all verdicts grounds sorted one_each are =
    let P : List (List ℕ) → Type 0 = λ ns. IsStrictlySortedBy compare_names ns in
    subst P
    (sym (text_names texts texts all) ∙ sym (ap (map (λ j. j.name)) are) ∙ judgement_names verdicts grounds one_each)
    sorted
