-- Definitions that were found for imports are found for them still, where their modules keep their verdicts.
use Rattle.std.proofs.Common.{◌≡◌, ℕ, ◌+◌, ◌<◌, ◌≤◌, nat_eq, true, false, List, [], ◌∷◌, ◌++◌, length, get_or, map, take}
use Rattle.std.proofs.Common.{Option, Some, ap, ◌∙◌, sym, subst, arith}
use Rattle.std.proofs.lemmas.List.{map_push, take_more, take_all}
use Rattle.std.specs.List.{slice_get}
use Rattle.std.specs.List.Sorted.{IsStrictlySortedBy}
use Rattle.std.specs.Map.{keys_of}
use Rattle.std.specs.Option.{is_some}
use Rattle.cc_base.specs.declared.device.DeviceDecl.{DeviceDecl}
use Rattle.cc_base.specs.declared.literal.Import.{Import}
use Rattle.cc_base.specs.Names.{compare_names}
use Rattle.cc_grammar.specs.Syntax.{ImportSyntax}
use Rattle.cc_graph.specs.Graph.{reaches}
use Rattle.cc_verdicts.specs.ModuleVerdicts.{Finding, FoundDefinition, ModuleVerdict}
use Rattle.cc_verdicts.specs.PresentTexts.{Texts, ArePresent, AreVerdicts, text_of, graph_of, finding_in, finding_for}
use Rattle.cc_verdicts.proofs.Asking.{found_by}
use Rattle.cc_module.specs.Findings.{finding_of}
use Rattle.cc_module.specs.declared.finding.Finding.{Finding as DeclaredFinding}
use Rattle.cc_module.specs.declared.judgement.ModuleVerdict.{ModuleVerdict as DeclaredVerdict}
use Rattle.cc_parse.specs.Trees.{import_syntax}
use Rattle.cc_judge.specs.declared.grounds.Grounds.{Grounds}
use Rattle.cc_judge.specs.declared.plans.Plan.{Plan}
use Rattle.cc_judge.specs.declared.plans.Plan.TheVariants.{Keep}
use Rattle.cc_judge.specs.Kept.{judgements_from}
use Rattle.cc_judge.specs.Plans.{plan_at, ArePlans}
use Rattle.cc_judge.specs.SameFindings.{kind_of}
use Rattle.cc_judge.specs.Settled.{found_last, IsFoundLast}
use Rattle.cc_judge.proofs.StillFound.{kept_last, found_of_kind}
use Rattle.cc_judge.proofs.TextPlaces.{text_of_place, place_of_key}

same_found : (one other : Finding) → Some one ≡ Some other → one ≡ other
same_found one other same = cc

module _ (devices : List DeviceDecl) (texts : Texts) (verdicts : List (List ℕ × DeclaredVerdict)) (grounds : List Grounds)
    (sorted : IsStrictlySortedBy compare_names (keys_of verdicts)) (one_each : length grounds ≡ length verdicts)
    (present : ArePresent texts) (plans : List (Option Plan))
    (planned : ArePlans devices texts (judgements_from verdicts grounds) plans) where
  pub found_again : (place at : ℕ) → plan_at plans place ≡ Some (Keep at) → (name : List ℕ) (one : ImportSyntax)
      → slice_get (keys_of texts) place ≡ Some one.source → reaches (graph_of texts) one.source name ≡ false
      → (old : Finding) → IsFoundLast (judgements_from verdicts grounds) one old → nat_eq (kind_of old) 0 ≡ true
      → (all : List ℕ → ModuleVerdict) → AreVerdicts devices texts all → old ≡ finding_for texts all name one
  unfolding finding_for
  found_again place at keeps name one stands ahead old is_old kind all are =
      let (within, same) = place_of_key texts place one.source stands in
      let (signature, is) = found_of_kind old kind in
      let P : List ℕ → Type 0 = λ n. found_last (judgements_from verdicts grounds) n one.name
      ≡ Some (finding_in (all n) one.name) in
      let last = subst P same
      (kept_last devices texts verdicts grounds sorted one_each plans planned place at within keeps one.name all are) in
      let Q : List ℕ → Type 0 = λ n. is_some (text_of texts n) ≡ true in
      let there : is_some (text_of texts one.source) ≡ true =
      subst Q same (ap is_some (text_of_place texts present place within)) in
      is ∙ same_found (FoundDefinition signature) (finding_in (all one.source) one.name) (sym (is_old signature is) ∙ last)
      ∙ sym (ap (λ p. found_by p (reaches (graph_of texts) one.source name) (finding_in (all one.source) one.name)) there
      ∙ ap (λ r. found_by true r (finding_in (all one.source) one.name)) ahead)

-- one import more
pub again_more : (find : ImportSyntax → Finding) (imports : List Import) (old : List DeclaredFinding) (i : ℕ) (it : Import)
    (one : DeclaredFinding) → i < length imports → i < length old → it ≡ get_or imports i it → one ≡ get_or old i one
    → map finding_of (take i old) ≡ map find (map import_syntax (take i imports))
    → finding_of one ≡ find (import_syntax it)
    → map finding_of (take (i + 1) old) ≡ map find (map import_syntax (take (i + 1) imports))
again_more find imports old i it one below within is_it is_one so_far here =
    ap (map finding_of) (take_more old i one within ∙ ap (λ x. take i old ++ x ∷ []) (sym is_one))
    ∙ map_push finding_of (take i old) one
    ∙ ap (λ fs. fs ++ finding_of one ∷ []) so_far
    ∙ ap (λ f. map find (map import_syntax (take i imports)) ++ f ∷ []) here
    ∙ sym (ap (λ is. map find (map import_syntax is))
    (take_more imports i it below ∙ ap (λ x. take i imports ++ x ∷ []) (sym is_it))
    ∙ ap (map find) (map_push import_syntax (take i imports) it)
    ∙ map_push find (map import_syntax (take i imports)) (import_syntax it))

-- and all of them
pub again_all : (find : ImportSyntax → Finding) (imports : List Import) (old : List DeclaredFinding) (i : ℕ)
    → length imports ≤ i → length old ≡ length imports
    → map finding_of (take i old) ≡ map find (map import_syntax (take i imports))
    → map finding_of old ≡ map find (map import_syntax imports)
again_all find imports old i past long so_far =
    sym (ap (map finding_of) (take_all i old (omega (arith, past, long)))) ∙ so_far
    ∙ ap (λ is. map find (map import_syntax is)) (take_all i imports past)
