-- What is found for the present modules is found in the verdicts of the others.
use Rattle.std.proofs.Common.{◌≡◌, ℕ, Bool, true, false, List, [], ◌∷◌, map, Some, ap, ◌∙◌, sym, refl}
use Rattle.std.proofs.Common.{inl, inr}
use Rattle.std.proofs.lemmas.Bool.{cases_Bool}
use Rattle.std.specs.Map.{lookup}
use Rattle.std.specs.Option.{option_map, unwrap_or, is_some}
use Rattle.std.specs.Str.{bytes_eq}
use Rattle.cc_core.specs.Shapes.{CapturingType}
use Rattle.cc_grammar.specs.Syntax.{ImportSyntax}
use Rattle.cc_graph.specs.Graph.{reaches}
use Rattle.cc_graph.proofs.NameLemmas.{same_name}
use Rattle.cc_verdicts.specs.ModuleVerdicts.{Finding, FoundDefinition, ModuleVerdict}
use Rattle.cc_verdicts.specs.PresentTexts.{Texts, text_of, graph_of, finding_in, finding_for}
use Rattle.cc_verdicts.specs.Readings.{imports_of}
use Rattle.cc_verdicts.proofs.Asking.{all_mapped, found_by}
use Rattle.cc_judge.specs.Judgements.{verdicts_of, judgement_in, judgements}
use Rattle.cc_judge.specs.Settled.{IsFoundLast, AreFoundLast, AreSettled}

-- a definition is found only in a module that is present
present_if_found : (present cyclic : Bool) (finding : Finding) (signature : CapturingType)
    → found_by present cyclic finding ≡ FoundDefinition signature
    → (present ≡ true) × (finding ≡ FoundDefinition signature)
present_if_found false cyclic finding signature found = cc
present_if_found true true finding signature found = cc
present_if_found true false finding signature found = (refl, found)

pub found_present : (texts : Texts) (verdicts : List ℕ → ModuleVerdict) (name : List ℕ) (one : ImportSyntax)
    (signature : CapturingType) → finding_for texts verdicts name one ≡ FoundDefinition signature
    → (is_some (text_of texts one.source) ≡ true) × (finding_in (verdicts one.source) one.name ≡ FoundDefinition signature)
unfolding finding_for
found_present texts verdicts name one signature found =
    present_if_found (is_some (text_of texts one.source)) (reaches (graph_of texts) one.source name)
    (finding_in (verdicts one.source) one.name) signature found

-- the verdict of a present module among the judgements
verdict_among : (texts rest : Texts) (all : List ℕ → ModuleVerdict) (source : List ℕ)
    → is_some (text_of rest source) ≡ true
    → lookup (bytes_eq source) (verdicts_of (map (judgement_in texts all) rest)) ≡ Some (all source)
verdict_among texts [] all source present = cc
verdict_among texts (first ∷ rest) all source present =
    elim (cases_Bool (bytes_eq source first.0)) [
      | inl same ↦ rw same (ap (λ n. Some (all n)) (sym (same_name source first.0 same)))
      | inr other ↦ rw other (verdict_among texts rest all source (rw other at present))
    ]

found_in_judgements : (texts : Texts) (all : List ℕ → ModuleVerdict) (name : List ℕ) (one : ImportSyntax)
    → IsFoundLast (judgements texts all) one (finding_for texts all name one)
found_in_judgements texts all name one =
    λ signature found.
    let (present, is) = found_present texts all name one signature found in
    ap (option_map (λ verdict. finding_in verdict one.name)) (verdict_among texts texts all one.source present)
    ∙ ap Some is

all_in_judgements : (texts : Texts) (all : List ℕ → ModuleVerdict) (name : List ℕ) (imports : List ImportSyntax)
    → AreFoundLast (judgements texts all) imports (map (finding_for texts all name) imports)
all_in_judgements texts all name [] = tt
all_in_judgements texts all name (one ∷ others) =
    (found_in_judgements texts all name one, all_in_judgements texts all name others)

pub judgements_settled : (texts : Texts) (all : List ℕ → ModuleVerdict) → AreSettled (judgements texts all)
judgements_settled texts all =
    all_mapped
    (λ one. AreFoundLast (judgements texts all) (unwrap_or (imports_of one.text) []) one.findings)
    (judgement_in texts all) texts
    (λ one among. all_in_judgements texts all one.0 (unwrap_or (imports_of one.1) []))
