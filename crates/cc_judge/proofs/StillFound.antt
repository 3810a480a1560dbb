-- What is still found by the last verdicts.
use Rattle.std.proofs.Common.{◌≡◌, ℕ, ◌<◌, nat_eq, true, List, [], ◌∷◌, ◌++◌, length, get_or, set, map, replicate}
use Rattle.std.proofs.Common.{Option, Some, ap, ◌∙◌, sym, subst, refl, inl, inr, arith}
use Rattle.std.proofs.lemmas.Bool.{cases_eq, cases_Bool}
use Rattle.std.proofs.lemmas.Cmp.{nat_list_eq_equiv}
use Rattle.std.proofs.lemmas.List.{length-set, get_or-set_same, get_or-set_other, get_or-replicate, length-replicate}
use Rattle.std.proofs.lemmas.List.{get_or_default, length-map}
use Rattle.std.proofs.lemmas.Map.Entries.{lookup_from_place}
use Rattle.std.proofs.lemmas.Option.{same_Some}
use Rattle.std.specs.List.{AllByRecursion, list_any, slice_get}
use Rattle.std.specs.List.Sorted.{IsStrictlySortedBy}
use Rattle.std.specs.Map.{keys_of}
use Rattle.std.specs.Option.{option_map, unwrap_or}
use Rattle.std.specs.Prelude.{zero, suc}
use Rattle.std.specs.Str.{bytes_eq}
use Rattle.indexmap.specs.IndexSet.{insert_key}
use Rattle.cc_base.specs.declared.device.DeviceDecl.{DeviceDecl}
use Rattle.cc_base.specs.declared.literal.Import.{Import}
use Rattle.cc_base.specs.Names.{compare_names}
use Rattle.cc_core.proofs.Comparisons.{same_type-decides}
use Rattle.cc_core.specs.Shapes.{CapturingType}
use Rattle.cc_grammar.specs.Syntax.{ImportSyntax}
use Rattle.cc_graph.proofs.NameLemmas.{same_name}
use Rattle.cc_verdicts.specs.ModuleLaws.{NamesOfDevicesDiffer}
use Rattle.cc_verdicts.specs.ModuleVerdicts.{Finding, FoundDefinition, NoModule, InCycle, RefusedModule}
use Rattle.cc_verdicts.specs.ModuleVerdicts.{NoDefinition, ModuleVerdict}
use Rattle.cc_verdicts.specs.PresentTexts.{Texts, ArePresent, AreVerdicts, finding_in, finding_for}
use Rattle.cc_verdicts.specs.Readings.{imports_of}
use Rattle.cc_verdicts.proofs.PresentLaws.{present_verdicts_exist}
use Rattle.cc_module.specs.Findings.{finding_of}
use Rattle.cc_module.specs.declared.finding.Finding.{Finding as DeclaredFinding}
use Rattle.cc_module.specs.declared.judgement.ModuleVerdict.{ModuleVerdict as DeclaredVerdict}
use Rattle.cc_parse.specs.Trees.{import_syntax}
use Rattle.cc_judge.specs.declared.grounds.Grounds.{Grounds}
use Rattle.cc_judge.specs.declared.plans.Plan.{Plan}
use Rattle.cc_judge.specs.declared.plans.Plan.TheVariants.{Keep}
use Rattle.cc_judge.specs.Dependencies.{IsJudgedBefore}
use Rattle.cc_judge.specs.Judgements.{Judgement, verdicts_of, judgement_in}
use Rattle.cc_judge.specs.Kept.{judgements_from}
use Rattle.cc_judge.specs.Places.{entry_at, name_at}
use Rattle.cc_judge.specs.Plans.{plan_at, IsRight, ArePlans}
use Rattle.cc_judge.specs.SameFindings.{kind_of, same_finding}
use Rattle.cc_judge.specs.Settled.{found_last, IsFoundLast, AreFoundLast, AreSettled, IsStillFound, AreStillFound}
use Rattle.cc_judge.specs.Settled.{AreOneIfFound}
use Rattle.cc_judge.proofs.JudgedBefore.{findings_at}
use Rattle.cc_judge.proofs.SettledJudgements.{found_present}
use Rattle.cc_judge.proofs.TextPlaces.{distinct_keys}

-- findings of one kind are one where definitions are
pub kinds_decide : (left right : Finding) → AreOneIfFound left right
    → nat_eq (kind_of left) (kind_of right) ≡ same_finding left right
kinds_decide (FoundDefinition signature) (FoundDefinition other) one =
    sym ((same_type-decides signature other).1 (one signature other refl refl))
kinds_decide (FoundDefinition signature) NoModule one = refl
kinds_decide (FoundDefinition signature) InCycle one = refl
kinds_decide (FoundDefinition signature) RefusedModule one = refl
kinds_decide (FoundDefinition signature) NoDefinition one = refl
kinds_decide NoModule right one = refl
kinds_decide InCycle right one = refl
kinds_decide RefusedModule right one = refl
kinds_decide NoDefinition right one = refl

-- a finding of the kind of definitions is one
pub found_of_kind : (finding : Finding) → nat_eq (kind_of finding) 0 ≡ true
    → (signature : CapturingType) × (finding ≡ FoundDefinition signature)
found_of_kind (FoundDefinition signature) kind = (signature, refl)
found_of_kind NoModule kind = cc
found_of_kind InCycle kind = cc
found_of_kind RefusedModule kind = cc
found_of_kind NoDefinition kind = cc

one_signature : (signature other : CapturingType)
    → Some (FoundDefinition signature) ≡ Some (FoundDefinition other) → signature ≡ other
one_signature signature other same = cc

-- definitions that are both found by the last verdicts are one
pub one_if_last : (last : List Judgement) (one : ImportSyntax) (old new : Finding) → IsFoundLast last one old
    → IsFoundLast last one new → AreOneIfFound old new
one_if_last last one old new is_old is_new =
    λ signature other found found_new.
    one_signature signature other (sym (is_old signature found) ∙ is_new other found_new)

-- the verdict of the judgement at a place
named_verdicts_at : (last : List Judgement) (at : ℕ) (one : Judgement) → slice_get last at ≡ Some one
    → slice_get (verdicts_of last) at ≡ Some (one.name, one.verdict)
named_verdicts_at [] at one stands = cc
named_verdicts_at (first ∷ rest) zero one stands =
    ap (λ j. Some (j.name, j.verdict)) (same_Some first one stands)
named_verdicts_at (first ∷ rest) (suc at) one stands = named_verdicts_at rest at one stands

judged_keys : (verdicts : List (List ℕ × DeclaredVerdict)) (grounds : List Grounds)
    → length grounds ≡ length verdicts → keys_of (verdicts_of (judgements_from verdicts grounds)) ≡ keys_of verdicts
judged_keys [] grounds same = refl
judged_keys (entry ∷ entries) [] same = absurd (omega arith)
judged_keys (entry ∷ entries) (first ∷ rest) same = ap (λ ns. entry.0 ∷ ns) (judged_keys entries rest (omega arith))

module _ (devices : List DeviceDecl) (texts : Texts) (verdicts : List (List ℕ × DeclaredVerdict))
    (grounds : List Grounds) where
  abbrev last : List Judgement
  last = judgements_from verdicts grounds

  -- what is found in a module that keeps its verdict is found in its last one
  pub kept_last : IsStrictlySortedBy compare_names (keys_of verdicts) → length grounds ≡ length verdicts
      → (plans : List (Option Plan)) → ArePlans devices texts last plans → (place at : ℕ) → place < length texts
      → plan_at plans place ≡ Some (Keep at) → (name : List ℕ)
      → (all : List ℕ → ModuleVerdict) → AreVerdicts devices texts all
      → found_last last (name_at texts place) name ≡ Some (finding_in (all (name_at texts place)) name)
  kept_last sorted one_each plans are place at within keeps name =
      λ all is.
      let P : Option Plan → Type 0 = λ o. IsRight last (judgement_in texts all (entry_at texts place)) o in
      let stands = subst P keeps ((are all is).right place within) in
      let Q : List (List ℕ) → Type 0 = λ ks. IsStrictlySortedBy compare_names ks in
      let in_order = subst Q (sym (judged_keys verdicts grounds one_each)) sorted in
      ap (option_map (λ verdict. finding_in verdict name))
      (lookup_from_place nat_list_eq_equiv (verdicts_of last) at (name_at texts place) (all (name_at texts place))
      (distinct_keys (verdicts_of last) in_order)
      (named_verdicts_at last at (judgement_in texts all (entry_at texts place)) stands))

  -- so it is still found
  pub kept_found : IsStrictlySortedBy compare_names (keys_of verdicts) → length grounds ≡ length verdicts
      → (plans : List (Option Plan)) → ArePlans devices texts last plans → (place at : ℕ) → place < length texts
      → plan_at plans place ≡ Some (Keep at) → (name : List ℕ)
      → IsStillFound devices texts last (name_at texts place) name
  kept_found sorted one_each plans are place at within keeps name =
      λ all is signature found.
      kept_last sorted one_each plans are place at within keeps name all is ∙ ap Some found

all_any : (P : List ℕ → Type 0) (names : List (List ℕ)) (name : List ℕ) → AllByRecursion P names
    → list_any (bytes_eq name) names ≡ true → P name
all_any P [] name all among = cc
all_any P (first ∷ rest) name all among =
    elim (cases_Bool (bytes_eq name first)) [
      | inl same ↦ subst P (sym (same_name name first same)) all.0
      | inr other ↦ all_any P rest name all.1 (rw other at among)
    ]

all_pushed : (P : List ℕ → Type 0) (names : List (List ℕ)) (name : List ℕ) → AllByRecursion P names → P name
    → AllByRecursion P (names ++ name ∷ [])
all_pushed P [] name all here = (here, tt)
all_pushed P (first ∷ rest) name all here = (all.0, all_pushed P rest name all.1 here)

all_inserted : (P : List ℕ → Type 0) (names : List (List ℕ)) (name : List ℕ) → AllByRecursion P names → P name
    → AllByRecursion P (insert_key bytes_eq names name)
all_inserted P names name all here =
    elim (cases_Bool (list_any (bytes_eq name) names)) [
      | inl among ↦ rw among all
      | inr apart ↦ rw apart (all_pushed P names name all here)
    ]

module _ (devices : List DeviceDecl) (texts : Texts) (last : List Judgement) where
  -- what is known is still found
  pub known_found : (known : List (List (List ℕ))) → AreStillFound devices texts last known → (place : ℕ)
      → place < length texts → (names : List (List ℕ)) → names ≡ get_or known place names → (name : List ℕ)
      → list_any (bytes_eq name) names ≡ true → IsStillFound devices texts last (name_at texts place) name
  known_found known are place within names is name among =
      let same : names ≡ get_or known place [] = is ∙ get_or_default known place names [] (omega (arith, are.count)) in
      let P : List (List ℕ) → Type 0 = λ ns. AllByRecursion (IsStillFound devices texts last (name_at texts place)) ns in
      all_any (IsStillFound devices texts last (name_at texts place)) names name
      (subst P (sym same) (are.each place within)) among

  pub more_known : (known new : List (List (List ℕ))) → AreStillFound devices texts last known → (place : ℕ)
      → place < length texts → (name : List ℕ) → IsStillFound devices texts last (name_at texts place) name
      → new ≡ set known place (insert_key bytes_eq (get_or known place []) name)
      → AreStillFound devices texts last new
  more_known known new are place within name found put =
      let row : List (List ℕ) = insert_key bytes_eq (get_or known place []) name in
      let P : List (List (List ℕ)) → Type 0 = λ ks. AreStillFound devices texts last ks in
      subst P (sym put)
      (record {
        count = length-set known place row ∙ are.count;
        each = λ other inside.
            let Q : List (List ℕ) → Type 0 = λ ns. AllByRecursion (IsStillFound devices texts last
            (name_at texts other)) ns in
            elim (cases_eq other place) [
              | inl here ↦
                  let R : ℕ → Type 0 = λ k. AllByRecursion (IsStillFound devices texts last (name_at texts k))
                  (get_or (set known place row) k []) in
                  let S : List (List ℕ) → Type 0 = λ ns. AllByRecursion (IsStillFound devices texts last
                  (name_at texts place)) ns in
                  subst R (sym here)
                  (subst S (sym (get_or-set_same known place row [] (omega (arith, are.count))))
                  (all_inserted (IsStillFound devices texts last (name_at texts place)) (get_or known place []) name
                  (are.each place within) found))
              | inr apart ↦
                  subst Q (sym (get_or-set_other known place other row [] apart)) (are.each other inside)
            ];
      })

  pub nothing_known : (known : List (List (List ℕ))) → known ≡ replicate (length texts) []
      → AreStillFound devices texts last known
  nothing_known known none =
      let P : List (List (List ℕ)) → Type 0 = λ ks. AreStillFound devices texts last ks in
      subst P (sym none)
      (record {
        count = length-replicate (length texts) [];
        each = λ place within.
            let Q : List (List ℕ) → Type 0 = λ ns. AllByRecursion (IsStillFound devices texts last
            (name_at texts place)) ns in
            subst Q (sym (get_or-replicate (length texts) place [] [] within)) tt;
      })

  -- a finding in a module where it is still found is found by the last verdicts
  pub still_last : NamesOfDevicesDiffer devices → ArePresent texts → (name : List ℕ) (one : ImportSyntax)
      (new : Finding) → IsStillFound devices texts last one.source one.name
      → ((all : List ℕ → ModuleVerdict) → AreVerdicts devices texts all → new ≡ finding_for texts all name one)
      → IsFoundLast last one new
  still_last differ sorted name one new still is =
      λ signature found.
      let (all, are) = present_verdicts_exist devices texts differ sorted in
      still all are signature (found_present texts all name one signature (sym (is all are) ∙ found)).1

  -- and a name whose finding is the same as the last one is still found
  pub last_still : (name : List ℕ) (one : ImportSyntax) (old new : Finding) → IsFoundLast last one old → old ≡ new
      → nat_eq (kind_of new) 0 ≡ true
      → ((all : List ℕ → ModuleVerdict) → AreVerdicts devices texts all → new ≡ finding_for texts all name one)
      → IsStillFound devices texts last one.source one.name
  last_still name one old new is_old same kind is =
      λ all are signature found.
      let (known, is_known) = found_of_kind new kind in
      let there = (found_present texts all name one known (sym (is all are) ∙ is_known)).1 in
      let one_known : known ≡ signature = one_signature known signature (ap Some (sym there ∙ found)) in
      is_old known (same ∙ is_known) ∙ ap (λ s. Some (FoundDefinition s)) one_known

-- what was found for a judgement
pub found_for_judgement : (last : List Judgement) (all : List Judgement) (at : ℕ) (one : Judgement)
    → AllByRecursion (λ one. AreFoundLast all (unwrap_or (imports_of one.text) []) one.findings) last
    → slice_get last at ≡ Some one → AreFoundLast all (unwrap_or (imports_of one.text) []) one.findings
found_for_judgement [] all at one settled stands = cc
found_for_judgement (first ∷ rest) all zero one settled stands =
    let P : Judgement → Type 0 = λ j. AreFoundLast all (unwrap_or (imports_of j.text) []) j.findings in
    subst P (same_Some first one stands) settled.0
found_for_judgement (first ∷ rest) all (suc at) one settled stands =
    found_for_judgement rest all at one settled.1 stands

-- where the module was judged with this text, what was found for its imports is found by the last verdicts
pub last_found : (verdicts : List (List ℕ × DeclaredVerdict)) (grounds : List Grounds)
    → AreSettled (judgements_from verdicts grounds) → (at : ℕ) (there : Grounds) (name text : List ℕ)
    → IsJudgedBefore (judgements_from verdicts grounds) name text (Some at) → slice_get grounds at ≡ Some there
    → (imports : Option (List ImportSyntax)) → imports ≡ imports_of text → (findings : List DeclaredFinding)
    → findings ≡ there.findings
    → AreFoundLast (judgements_from verdicts grounds) (unwrap_or imports []) (map finding_of findings)
last_found verdicts grounds settled at there name text (one, stands, named, texted) on imports are findings same =
    let last = judgements_from verdicts grounds in
    let P : List ℕ → Type 0 = λ t. AreFoundLast last (unwrap_or (imports_of t) []) one.findings in
    let Q : Option (List ImportSyntax) → Type 0 = λ o. AreFoundLast last (unwrap_or o []) one.findings in
    let R : List Finding → Type 0 = λ fs. AreFoundLast last (unwrap_or imports []) fs in
    subst R (findings_at verdicts grounds at one there stands on ∙ sym (ap (map finding_of) same))
    (subst Q (sym are) (subst P texted (found_for_judgement last last at one settled stands)))

-- what is found for the import at a place
pub found_last_at : (last : List Judgement) (imports : List Import) (findings : List DeclaredFinding) (i : ℕ)
    (one : Import) (it : DeclaredFinding)
    → AreFoundLast last (map import_syntax imports) (map finding_of findings) → i < length findings
    → one ≡ get_or imports i one → it ≡ get_or findings i it → IsFoundLast last (import_syntax one) (finding_of it)
found_last_at last [] [] i one it zip within is_one is_it = absurd (omega arith)
found_last_at last [] (first ∷ rest) i one it zip within is_one is_it = absurd zip
found_last_at last (other ∷ others) [] i one it zip within is_one is_it = absurd zip
found_last_at last (other ∷ others) (first ∷ rest) zero one it zip within is_one is_it =
    let P : Import → Type 0 = λ x. IsFoundLast last (import_syntax x) (finding_of first) in
    let Q : DeclaredFinding → Type 0 = λ f. IsFoundLast last (import_syntax one) (finding_of f) in
    subst Q (sym is_it) (subst P (sym is_one) zip.0)
found_last_at last (other ∷ others) (first ∷ rest) (suc i) one it zip within is_one is_it =
    found_last_at last others rest i one it zip.1 (omega arith) is_one is_it

pub found_new_at : (find : ImportSyntax → Finding) (imports : List Import) (findings : List DeclaredFinding) (i : ℕ)
    (one : Import) (it : DeclaredFinding) → map finding_of findings ≡ map find (map import_syntax imports)
    → i < length findings → one ≡ get_or imports i one → it ≡ get_or findings i it
    → finding_of it ≡ find (import_syntax one)
found_new_at find [] [] i one it same within is_one is_it = absurd (omega arith)
found_new_at find [] (first ∷ rest) i one it same within is_one is_it = cc
found_new_at find (other ∷ others) [] i one it same within is_one is_it = cc
found_new_at find (other ∷ others) (first ∷ rest) zero one it same within is_one is_it =
    let here : finding_of first ≡ find (import_syntax other) = cc in
    ap finding_of is_it ∙ here ∙ sym (ap (λ x. find (import_syntax x)) is_one)
found_new_at find (other ∷ others) (first ∷ rest) (suc i) one it same within is_one is_it =
    let more : map finding_of rest ≡ map find (map import_syntax others) = cc in
    found_new_at find others rest i one it more (omega arith) is_one is_it

pub as_many_imports : (find : ImportSyntax → Finding) (imports : List Import) (findings : List DeclaredFinding)
    → map finding_of findings ≡ map find (map import_syntax imports) → length findings ≡ length imports
as_many_imports find imports findings same =
    sym (length-map findings finding_of) ∙ ap length same ∙ length-map (map import_syntax imports) find
    ∙ length-map imports import_syntax
