-- What is found for an import, by the way the program goes.
use Rattle.std.proofs.Common.{◌≡◌, ℕ, ◌+◌, ◌<◌, ◌≤◌, true, false, List, [], ◌∷◌, ◌++◌, length, get_or, map, take}
use Rattle.std.proofs.Common.{Option, Some, None, ap, ◌∙◌, sym, subst}
use Rattle.std.proofs.lemmas.List.{map_push, take_more, take_all, get_or_default}
use Rattle.std.specs.List.{AllZip, slice_get}
use Rattle.std.specs.Map.{keys_of}
use Rattle.std.specs.Option.{is_some}
use Rattle.cc_base.specs.declared.literal.Import.{Import}
use Rattle.cc_grammar.specs.Syntax.{ImportSyntax}
use Rattle.cc_graph.specs.Graph.{reaches}
use Rattle.cc_verdicts.specs.ModuleVerdicts.{Finding, NoModule, InCycle, CheckedDefinition, ModuleVerdict}
use Rattle.cc_verdicts.specs.ModuleVerdicts.{IsAccepted, IsRefused}
use Rattle.cc_verdicts.specs.PresentTexts.{Texts, ArePresent, text_of, graph_of, found_or_none, finding_in, finding_for}
use Rattle.cc_verdicts.proofs.Asking.{found_by}
use Rattle.cc_module.specs.Findings.{finding_of}
use Rattle.cc_module.specs.Judgements.{FindsDefinition}
use Rattle.cc_module.specs.declared.finding.Finding.{Finding as DeclaredFinding}
use Rattle.cc_module.specs.declared.judgement.ModuleVerdict.{ModuleVerdict as DeclaredVerdict}
use Rattle.cc_parse.specs.Trees.{import_syntax}
use Rattle.cc_judge.specs.declared.plans.Plan.{Plan}
use Rattle.cc_judge.specs.Found.{IsFoundIn, IsFoundFor, AreFoundFor}
use Rattle.cc_judge.specs.Places.{IsAbsentKey}
use Rattle.cc_judge.proofs.Entries.{lookup_absent}
use Rattle.cc_judge.proofs.TextPlaces.{text_of_place, place_of_key}

-- what is found in an accepted module is by its definition of the name
pub found_definition : (verdict : ModuleVerdict) (name : List ℕ) (found : Option CheckedDefinition)
    → FindsDefinition verdict name found → found_or_none found ≡ finding_in verdict name
found_definition (IsAccepted definitions) name found is = ap found_or_none is
found_definition (IsRefused code at) name found is = absurd is

module _ (texts : Texts) (last : List (List ℕ × DeclaredVerdict)) (plans : List (Option Plan)) (name : List ℕ)
    (one : ImportSyntax) where
  pub found_unknown : IsAbsentKey (keys_of texts) one.source → IsFoundFor texts last plans name one NoModule
  unfolding finding_for
  found_unknown absent =
      λ verdicts known.
      sym (ap (λ o. found_by (is_some o) (reaches (graph_of texts) one.source name) (finding_in
      (verdicts one.source) one.name)) (lookup_absent texts one.source absent))

  module _ (sorted : ArePresent texts) (at : ℕ) (stands : slice_get (keys_of texts) at ≡ Some one.source) where
    is_present : is_some (text_of texts one.source) ≡ true
    is_present =
        let (within, same) = place_of_key texts at one.source stands in
        let P : List ℕ → Type 0 = λ n. is_some (text_of texts n) ≡ true in
        subst P same (ap is_some (text_of_place texts sorted at within))

    pub found_cycle : reaches (graph_of texts) one.source name ≡ true → IsFoundFor texts last plans name one InCycle
    unfolding finding_for
    found_cycle back =
        λ verdicts known.
        sym (ap (λ p. found_by p (reaches (graph_of texts) one.source name) (finding_in
        (verdicts one.source) one.name)) is_present
        ∙ ap (λ r. found_by true r (finding_in (verdicts one.source) one.name)) back)

    pub found_planned : reaches (graph_of texts) one.source name ≡ false → (plan : Option Plan) (finding : Finding)
        → at < length plans → plan ≡ get_or plans at plan → IsFoundIn last plan one.name finding
        → IsFoundFor texts last plans name one finding
    unfolding finding_for
    found_planned ahead plan finding below is_plan found =
        λ verdicts known.
        let (within, same) = place_of_key texts at one.source stands in
        let (it, stood, its_verdict) = known ahead at within same in
        let P : Option Plan → Type 0 = λ o. IsFoundIn last o one.name finding in
        let is_it : plan ≡ Some it = is_plan ∙ get_or_default plans at plan None below ∙ stood in
        subst P is_it found (verdicts one.source) its_verdict
        ∙ sym (ap (λ p. found_by p (reaches (graph_of texts) one.source name) (finding_in
        (verdicts one.source) one.name)) is_present
        ∙ ap (λ r. found_by true r (finding_in (verdicts one.source) one.name)) ahead)

zip_push : {A B : Type 0} (R : A → B → Type 0) (xs : List A) (ys : List B) (x : A) (y : B) → AllZip R xs ys → R x y
    → AllZip R (xs ++ x ∷ []) (ys ++ y ∷ [])
zip_push R [] [] x y zip here = (here, tt)
zip_push R [] (z ∷ zs) x y zip here = absurd zip
zip_push R (w ∷ ws) [] x y zip here = absurd zip
zip_push R (w ∷ ws) (z ∷ zs) x y zip here = (zip.0, zip_push R ws zs x y zip.1 here)

pub found_more : (texts : Texts) (last : List (List ℕ × DeclaredVerdict)) (plans : List (Option Plan)) (name : List ℕ)
    (imports : List Import) (i : ℕ) (it : Import) (found new : List DeclaredFinding) (one : DeclaredFinding)
    → i < length imports → it ≡ get_or imports i it
    → AreFoundFor texts last plans name (map import_syntax (take i imports)) (map finding_of found)
    → IsFoundFor texts last plans name (import_syntax it) (finding_of one) → new ≡ found ++ one ∷ []
    → AreFoundFor texts last plans name (map import_syntax (take (i + 1) imports)) (map finding_of new)
found_more texts last plans name imports i it found new one within is so_far here more =
    let S : List ImportSyntax → Type 0 = λ is. AreFoundFor texts last plans name is (map finding_of new) in
    let F : List Finding → Type 0 = λ fs. AreFoundFor texts last plans name (map import_syntax (take i imports)
    ++ import_syntax it ∷ []) fs in
    let longer : map import_syntax (take (i + 1) imports) ≡ map import_syntax (take i imports) ++ import_syntax it ∷ [] =
    ap (map import_syntax) (take_more imports i it within ∙ ap (λ x. take i imports ++ x ∷ []) (sym is))
    ∙ map_push import_syntax (take i imports) it in
    subst S (sym longer)
    (subst F (sym (ap (map finding_of) more ∙ map_push finding_of found one))
    (zip_push (IsFoundFor texts last plans name) (map import_syntax (take i imports)) (map finding_of found)
    (import_syntax it) (finding_of one) so_far here))

pub found_end : (texts : Texts) (last : List (List ℕ × DeclaredVerdict)) (plans : List (Option Plan)) (name : List ℕ)
    (imports : List Import) (i : ℕ) (found : List Finding) → length imports ≤ i
    → AreFoundFor texts last plans name (map import_syntax (take i imports)) found
    → AreFoundFor texts last plans name (map import_syntax imports) found
found_end texts last plans name imports i found past so_far =
    let P : List Import → Type 0 = λ is. AreFoundFor texts last plans name (map import_syntax is) found in
    subst P (take_all i imports past) so_far
