-- What a session that is checked answers of its modules.
use Rattle.std.proofs.Common.{◌≡◌, ℕ, List, [], ◌∷◌, map, length, Option, Some, None, refl, sym, ap, subst, ◌∙◌, inl, inr}
use Rattle.std.proofs.lemmas.Bool.{cases_Bool}
use Rattle.std.proofs.lemmas.Option.{same_Some}
use Rattle.std.proofs.lemmas.Simd.{map-map}
use Rattle.std.specs.List.Sorted.{IsStrictlySortedBy}
use Rattle.std.specs.Map.{keys_of}
use Rattle.std.specs.Option.{option_map}
use Rattle.std.specs.Str.{bytes_eq}
use Rattle.cc_base.specs.Names.{compare_names}
use Rattle.cc_graph.proofs.NameLemmas.{same_name}
use Rattle.cc_import_reasoning.proofs.GivenImports.{keys_same}
use Rattle.cc_judge.specs.Judgements.{Judgement, judgement_in, judgements, verdicts_of}
use Rattle.cc_judge.specs.Kept.{named_verdicts}
use Rattle.cc_module.specs.declared.judgement.ModuleVerdict.{ModuleVerdict as DeclaredVerdict}
use Rattle.cc_session.specs.Signatures.{findings_named}
use Rattle.cc_verdicts.specs.ModuleVerdicts.{Finding, ModuleVerdict}
use Rattle.cc_verdicts.specs.PresentTexts.{Texts, ArePresent, text_of, findings_for}

-- the verdicts of the present modules
pub verdicts_by_name : (texts : Texts) (all : List ℕ → ModuleVerdict) (last : List Judgement) (verdicts : List (List ℕ × DeclaredVerdict))
    → last ≡ judgements texts all → named_verdicts verdicts ≡ verdicts_of last
    → named_verdicts verdicts ≡ map (λ one. (one.0, all one.0)) texts
verdicts_by_name texts all last verdicts current are =
    are ∙ ap verdicts_of current ∙ map-map (λ (one : Judgement). (one.name, one.verdict)) (judgement_in texts all) texts

-- stand in order of name
pub verdicts_sorted : (texts : Texts) (all : List ℕ → ModuleVerdict) (verdicts : List (List ℕ × DeclaredVerdict)) → ArePresent texts
    → named_verdicts verdicts ≡ map (λ one. (one.0, all one.0)) texts → IsStrictlySortedBy compare_names (keys_of verdicts)
verdicts_sorted texts all verdicts sorted are = subst (IsStrictlySortedBy compare_names) (sym (keys_same verdicts texts all are)) sorted

findings_among : (texts : Texts) (all : List ℕ → ModuleVerdict) (name : List ℕ) (judged : Texts)
    → findings_named name (map (judgement_in texts all) judged) ≡ option_map (findings_for texts all name) (text_of judged name)
findings_among texts all name [] = refl
findings_among texts all name (first ∷ rest) =
    elim (cases_Bool (bytes_eq name first.0)) [
      | inl same ↦ rw same (ap (λ n. Some (findings_for texts all n first.1)) (sym (same_name name first.0 same)))
      | inr other ↦ rw other (findings_among texts all name rest)
    ]

findings_of_text : (texts : Texts) (all : List ℕ → ModuleVerdict) (last : List Judgement) (name text : List ℕ)
    → last ≡ judgements texts all → text_of texts name ≡ Some text → findings_named name last ≡ Some (findings_for texts all name text)
findings_of_text texts all last name text current there =
    ap (findings_named name) current ∙ findings_among texts all name texts ∙ ap (option_map (findings_for texts all name)) there

-- what was found for the imports of a present module
pub findings_are : (texts : Texts) (all : List ℕ → ModuleVerdict) (last : List Judgement) (name text : List ℕ) (found : List Finding)
    → last ≡ judgements texts all → text_of texts name ≡ Some text → findings_named name last ≡ Some found
    → found ≡ findings_for texts all name text
findings_are texts all last name text found current there is =
    same_Some found (findings_for texts all name text) (sym is ∙ findings_of_text texts all last name text current there)

-- is there
pub findings_there : (texts : Texts) (all : List ℕ → ModuleVerdict) (last : List Judgement) (name text : List ℕ)
    → last ≡ judgements texts all → text_of texts name ≡ Some text → findings_named name last ≡ None → ⊥
findings_there texts all last name text current there none =
    clash (sym none ∙ findings_of_text texts all last name text current there)
  where
    clash : None ≡ Some (findings_for texts all name text) → ⊥
    clash e = cc
