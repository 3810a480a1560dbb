-- Modules that stand beside others, by computation.
use Rattle.std.proofs.Common.{◌≡◌, ◌∙◌, refl, ap, ℕ, List, [], ◌∷◌, codes}
use Rattle.std.specs.Prelude.{if◌then◌else◌, is_some, unwrap_or, map}
use Rattle.cc_base.specs.declared.code.Code.TheVariants.{E05, E06, E07, E08}
use Rattle.cc_capture.specs.Sets.{empty}
use Rattle.cc_grammar.specs.Syntax.{ImportSyntax}
use Rattle.cc_graph.specs.Graph.{ImportMap, reaches, does_import}
use Rattle.cc_verdicts.specs.ModuleVerdicts.{Finding, NoModule, InCycle, RefusedModule, NoDefinition}
use Rattle.cc_verdicts.specs.PresentTexts.{Texts, text_of, with_module, graph_of, finding_in, finding_for}
use Rattle.cc_verdicts.specs.Readings.{imports_in}
use Rattle.cc_verdicts.specs.StandingDefinitions.{standing_by}
use Rattle.cc_worked_texts.specs.TextVerdicts.{place, number_found}
use Rattle.cc_worked_texts.specs.StandingForms.{texts, verdict_of, import_from, Finds}
use Rattle.cc_worked_texts.specs.StandingForms as example
use Rattle.cc_worked_texts.proofs.ComputedModules.{text_computing, refused_with, accepted_with}
use Rattle.cc_worked_texts.proofs.QuickTokens.{quick_reading, same_reading}

pub codes_of_imports : example.CodesOfImports
unfolding text_computing
codes_of_imports = record {
  no_module = refused_with 9 (NoModule ∷ []) (codes "import m.d") E05 (place 1 8) refl;
  no_definition = refused_with 9 (NoDefinition ∷ []) (codes "import m.d") E06 (place 1 8) refl;
  refused_module = refused_with 9 (RefusedModule ∷ []) (codes "import m.d") E07 (place 1 8) refl;
  in_a_cycle = refused_with 9 (InCycle ∷ []) (codes "import m.d") E08 (place 1 8) refl;
  found = accepted_with 9 (number_found ∷ []) (codes "import m.d") [] refl;
}

pub behind_others : example.BehindOthers
unfolding empty
behind_others = record {
  names = refl;
  names_and_itself = refl;
  names_of_no_import = refl;
  names_of_no_device = refl;
  context = refl;
  context_and_itself = refl;
}

pub first_of_the_name : example.FirstOfTheName
first_of_the_name = record {
  first = refl;
  second = refl;
  none = refl;
  first_of_two = refl;
  named = refl;
  not_named = refl;
  first_that_is_named = refl;
}

-- the import graph of texts, by their readings
abbrev quick_graph : Texts → ImportMap
quick_graph [] = []
quick_graph (first ∷ rest) = with_module first.0 (imports_in (quick_reading first.1)) (quick_graph rest)

same_graph : (list : Texts) → graph_of list ≡ quick_graph list
unfolding graph_of
same_graph [] = refl
same_graph (first ∷ rest) =
    ap (λ reading. with_module first.0 (imports_in reading) (graph_of rest)) (same_reading first.1)
    ∙ ap (with_module first.0 (imports_in (quick_reading first.1))) (same_graph rest)

-- what is found beside this graph
abbrev found_beside : ImportMap → List ℕ → ImportSyntax → Finding
found_beside graph name one =
    if is_some (text_of texts one.source)
    then (if reaches graph one.source name then InCycle else finding_in (verdict_of one.source) one.name)
    else NoModule

finds : (name : List ℕ) (one : ImportSyntax) (finding : Finding) → found_beside (quick_graph texts) name one ≡ finding → Finds name one finding
unfolding finding_for
finds name one finding e = ap (λ graph. found_beside graph name one) (same_graph texts) ∙ e

pub imports_of_texts : example.ImportsOfTexts
unfolding text_computing reaches does_import
imports_of_texts = record {
  graph = same_graph texts ∙ refl;
  present = refl;
  absent = refl;
  others = refl;
  others_of_an_absent_one = refl;
  definition = finds (codes "a") (import_from (codes "b") (codes "f")) _ refl;
  no_definition = finds (codes "a") (import_from (codes "b") (codes "a")) _ refl;
  no_module = finds (codes "a") (import_from (codes "f") (codes "f")) _ refl;
  in_a_cycle = finds (codes "c") (import_from (codes "d") (codes "x")) _ refl;
  in_its_own_cycle = finds (codes "e") (import_from (codes "e") (codes "x")) _ refl;
  behind_a_cycle = finds (codes "g") (import_from (codes "d") (codes "x")) _ refl;
  imported_by_a_cycle = finds (codes "c") (import_from (codes "a") (codes "x")) _ refl;
  not_a_module = finds (codes "a") (import_from (codes "g") (codes "x")) _ refl;
}

pub standing_by_name : example.StandingByName
unfolding text_computing
standing_by_name = record {
  stands =
      ap (λ reading. standing_by (unwrap_or (imports_in reading) []) (map (finding_for texts verdict_of (codes "b")) (unwrap_or (imports_in reading) [])) (verdict_of (codes "b")) (codes "f")) (same_reading (codes "def f = 1"))
      ∙ refl;
  no_module = refl;
  no_definition = refl;
  refused = refl;
}
