-- What is found for imports by the plans so far. It serves the code alone.
use Rattle.std.specs.Prelude.{◌≡◌, ℕ, ◌<◌, true, false, List, length, Option, Some, None}
use Rattle.std.specs.List.{AllZip, slice_get}
use Rattle.std.specs.Map.{keys_of}
use Rattle.cc_graph.specs.Graph.{reaches}
use Rattle.cc_grammar.specs.Syntax.{ImportSyntax}
use Rattle.cc_verdicts.specs.ModuleVerdicts.{Finding, ModuleVerdict}
use Rattle.cc_verdicts.specs.PresentTexts.{Texts, graph_of, finding_in, finding_for}
use Rattle.cc_module.specs.declared.judgement.ModuleVerdict.{ModuleVerdict as DeclaredVerdict}
use Rattle.cc_judge.specs.declared.findings.Source.{Source}
use Rattle.cc_judge.specs.declared.findings.Source.TheVariants as sources
use Rattle.cc_judge.specs.declared.plans.Plan.{Plan}
use Rattle.cc_judge.specs.Places.{IsAbsentKey, name_at}
use Rattle.cc_judge.specs.Plans.{plan_verdict, plan_at}

-- if the module has a verdict by its plan, this is found in it
abbrev pub IsFoundIn : List (List ℕ × DeclaredVerdict) → Option Plan → List ℕ → Finding → Type 0
IsFoundIn last None name finding = Unit {0}
IsFoundIn last (Some plan) name finding =
    (verdict : ModuleVerdict) → plan_verdict last plan ≡ Some verdict → finding ≡ finding_in verdict name

-- the module of this name, if it is present, has its verdict by its plan
abbrev pub IsKnown : Texts → List (List ℕ × DeclaredVerdict) → List (Option Plan) → (List ℕ → ModuleVerdict) → List ℕ
    → Type 0
IsKnown texts last plans verdicts source =
    (place : ℕ) → place < length texts → name_at texts place ≡ source
    → (plan : Plan) × (plan_at plans place ≡ Some plan) × (plan_verdict last plan ≡ Some (verdicts source))

-- it is so of the module of the second name, from which that of the first one imports
abbrev pub IsSource : Texts → List ℕ → List ℕ → Source → Type 0
IsSource texts name source sources.Absent = IsAbsentKey (keys_of texts) source
IsSource texts name source sources.Cycle =
    (at : ℕ) × (slice_get (keys_of texts) at ≡ Some source) × (reaches (graph_of texts) source name ≡ true)
IsSource texts name source (sources.At at) =
    (slice_get (keys_of texts) at ≡ Some source) × (reaches (graph_of texts) source name ≡ false)

-- where what is asked is known, this is found for the import
abbrev pub IsFoundFor : Texts → List (List ℕ × DeclaredVerdict) → List (Option Plan) → List ℕ → ImportSyntax → Finding
    → Type 0
IsFoundFor texts last plans name one finding =
    (verdicts : List ℕ → ModuleVerdict)
    → (reaches (graph_of texts) one.source name ≡ false → IsKnown texts last plans verdicts one.source)
    → finding ≡ finding_for texts verdicts name one

-- the same of all imports
abbrev pub AreFoundFor : Texts → List (List ℕ × DeclaredVerdict) → List (Option Plan) → List ℕ → List ImportSyntax
    → List Finding → Type 0
AreFoundFor texts last plans name imports found = AllZip (IsFoundFor texts last plans name) imports found
