-- The import graph as the program makes it, from the last text to the first.
use Rattle.std.proofs.Common.{◌≡◌, ℕ, ◌+◌, ◌<◌, List, [], ◌∷◌, length, get_or, map, drop, Option, Some, None}
use Rattle.std.proofs.Common.{ap, ◌∙◌, sym, subst, refl, arith, add-one}
use Rattle.std.proofs.lemmas.List.{get_or-map, length-map, drop_all}
use Rattle.std.specs.BTreeMap.{insert_entry}
use Rattle.std.specs.List.{AllByRecursion}
use Rattle.std.specs.List.Sorted.{IsStrictlySortedBy}
use Rattle.std.specs.Map.{keys_of}
use Rattle.std.specs.Prelude.{zero, suc}
use Rattle.std.specs.declared.cmp.Ordering.TheVariants.{Less}
use Rattle.cc_base.specs.declared.literal.Import.{Import}
use Rattle.cc_grammar.specs.Syntax.{ImportSyntax}
use Rattle.cc_graph.specs.Graph.{ImportMap}
use Rattle.cc_base.specs.Names.{compare_names}
use Rattle.cc_verdicts.specs.PresentTexts.{Texts, ArePresent, with_module, graph_of}
use Rattle.cc_verdicts.specs.Readings.{imports_of}
use Rattle.cc_verdicts.proofs.Schedules.{each_in_graph}
use Rattle.cc_parse.specs.Trees.{import_syntax}
use Rattle.cc_judge.specs.Dependencies.{sources_of, inserted, AreRead}
use Rattle.cc_judge.proofs.Lists.{drop_read}

pub sources_by_import : (imports : List Import) → map (λ it. it.module) imports ≡ sources_of (map import_syntax imports)
sources_by_import [] = refl
sources_by_import (first ∷ rest) = ap (λ names. first.module ∷ names) (sources_by_import rest)

-- a name before all others is put in first
inserted_first : (name : List ℕ) (sources : List (List ℕ)) (graph : ImportMap)
    → AllByRecursion (λ y. compare_names name y ≡ Less) (keys_of graph)
    → insert_entry compare_names graph name sources ≡ (name, sources) ∷ graph
inserted_first name sources [] below = refl
inserted_first name sources (first ∷ rest) below = rw below.0 refl

inserted_as : (name : List ℕ) (reading : Option (List ImportSyntax)) (graph : ImportMap)
    → AllByRecursion (λ y. compare_names name y ≡ Less) (keys_of graph)
    → inserted name reading graph ≡ with_module name reading graph
inserted_as name None graph below = refl
inserted_as name (Some imports) graph below = inserted_first name (sources_of imports) graph below

-- the name at a place comes before those behind it
below_rest : (texts : Texts) → ArePresent texts → (left : ℕ) (entry : List ℕ × List ℕ) → left < length texts
    → entry ≡ get_or texts left entry
    → AllByRecursion (λ y. compare_names entry.0 y ≡ Less) (keys_of (drop (suc left) texts))
unfolding IsStrictlySortedBy
below_rest [] sorted left entry within is = absurd (omega arith)
below_rest (first ∷ rest) sorted zero entry within is =
    let P : List ℕ × List ℕ → Type 0 = λ e. AllByRecursion (λ y. compare_names e.0 y ≡ Less) (keys_of rest) in
    subst P (sym is) sorted.0
below_rest (first ∷ rest) sorted (suc left) entry within is = below_rest rest sorted.1 left entry (omega arith) is

pub imports_by_text : (texts : Texts) → map imports_of (map (λ one. one.1) texts) ≡ map (λ one. imports_of one.1) texts
imports_by_text [] = refl
imports_by_text (first ∷ rest) = ap (λ all. imports_of first.1 ∷ all) (imports_by_text rest)

pub read_length : (texts : Texts) (readings : List (List ℕ)) → AreRead texts readings
    → length readings ≡ length texts
read_length texts readings read = ap length read ∙ length-map texts (λ one. one.1)

-- at a place the text that was read is the one that stands there
pub reading_of_place : (texts : Texts) (readings : List (List ℕ)) → AreRead texts readings
    → (left : ℕ) (entry : List ℕ × List ℕ) (reading : List ℕ) → left < length texts
    → entry ≡ get_or texts left entry → reading ≡ get_or readings left reading
    → reading ≡ entry.1
reading_of_place texts readings read left entry reading within is_entry is_reading =
    is_reading
    ∙ ap (λ rs. get_or rs left reading) read
    ∙ get_or-map (λ one. one.1) texts left entry reading within
    ∙ ap (λ one. one.1) (sym is_entry)

-- one text more in front of those whose graph it is
pub graph_step : (texts : Texts) → ArePresent texts → (readings : List (List ℕ))
    → AreRead texts readings → (left : ℕ) (entry : List ℕ × List ℕ) (reading : List ℕ)
    → left < length texts → entry ≡ get_or texts left entry → reading ≡ get_or readings left reading
    → inserted entry.0 (imports_of reading) (graph_of (drop (left + 1) texts))
    ≡ graph_of (drop left texts)
unfolding graph_of
graph_step texts sorted readings read left entry reading within is_entry is_reading =
    ap (λ t. inserted entry.0 (imports_of t) (graph_of (drop (left + 1) texts)))
    (reading_of_place texts readings read left entry reading within is_entry is_reading)
    ∙ inserted_as entry.0 (imports_of entry.1) (graph_of (drop (left + 1) texts))
    (each_in_graph (λ y. compare_names entry.0 y ≡ Less) (drop (left + 1) texts)
    (rw add-one (below_rest texts sorted left entry within is_entry)))
    ∙ sym (ap graph_of (drop_read texts left entry within is_entry))

-- the graph of no texts
pub graph_start : (texts : Texts) → [] ≡ graph_of (drop (length texts) texts)
unfolding graph_of
graph_start texts = sym (ap graph_of (drop_all (length texts) texts (omega arith)))
