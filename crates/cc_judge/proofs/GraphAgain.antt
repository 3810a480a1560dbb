-- The import graph of the present texts, by the modules that a graph was made of.
use Rattle.std.proofs.Common.{◌≡◌, ℕ, ◌+◌, ◌<◌, ◌≤◌, List, [], ◌∷◌, ◌++◌, length, get_or, map, take, drop}
use Rattle.std.proofs.Common.{Some, ap, ◌∙◌, sym, append_assoc, append-nil, arith}
use Rattle.std.proofs.lemmas.List.{take_more, map_more, take_all, drop_all, length-map, length-take-le, get_or-map}
use Rattle.std.proofs.lemmas.Option.{slice_get_within}
use Rattle.std.specs.List.{slice_get}
use Rattle.cc_base.specs.declared.literal.Import.{Import}
use Rattle.cc_graph.specs.Graph.{ImportMap}
use Rattle.cc_parse.specs.Trees.{import_syntax}
use Rattle.cc_verdicts.specs.PresentTexts.{Texts, with_module, graph_of}
use Rattle.cc_verdicts.specs.Readings.{imports_of}
use Rattle.cc_judge.specs.declared.importing.Importing.{Importing}
use Rattle.cc_judge.specs.Dependencies.{sources_of, AreRead}
use Rattle.cc_judge.specs.KnownGraphs.{entries_of}
use Rattle.cc_judge.proofs.Graphs.{sources_by_import, reading_of_place}
use Rattle.cc_judge.proofs.Lists.{drop_read, read_at}

-- one source more is the same
pub source_more : (imports : List Import) (sources : List (List ℕ)) (at : ℕ) (one : Import) (source : List ℕ)
    → at < length imports → at < length sources → one ≡ get_or imports at one → source ≡ get_or sources at source
    → one.module ≡ source → take at sources ≡ sources_of (map import_syntax (take at imports))
    → take (at + 1) sources ≡ sources_of (map import_syntax (take (at + 1) imports))
source_more imports sources at one source in_imports in_sources is_one is_source same so_far =
    take_more sources at source in_sources
    ∙ ap (λ s. take at sources ++ s ∷ []) (sym is_source ∙ sym same)
    ∙ ap (λ ss. ss ++ one.module ∷ []) (so_far ∙ sym (sources_by_import (take at imports)))
    ∙ ap (λ i. map (λ it. it.module) (take at imports) ++ i.module ∷ []) is_one
    ∙ sym (map_more (λ it. it.module) imports at one in_imports)
    ∙ sources_by_import (take (at + 1) imports)

-- where all are the same, the one at a place is
pub source_at : (imports : List Import) (sources : List (List ℕ)) (at : ℕ) (one : Import) (source : List ℕ)
    → at < length imports → one ≡ get_or imports at one → source ≡ get_or sources at source
    → sources ≡ sources_of (map import_syntax imports) → one.module ≡ source
source_at imports sources at one source within is_one is_source same =
    sym (is_source
    ∙ ap (λ ss. get_or ss at source) (same ∙ sym (sources_by_import imports))
    ∙ get_or-map (λ it. it.module) imports at one source within
    ∙ ap (λ i. i.module) (sym is_one))

-- the modules up to a place, and one more
pub entry_taken : (entries : ImportMap) (at : ℕ) (one : List ℕ × List (List ℕ)) → slice_get entries at ≡ Some one
    → (rest : ImportMap) → take at entries ++ one ∷ rest ≡ take (at + 1) entries ++ rest
entry_taken entries at one stands rest =
    sym (ap (λ es. es ++ rest)
    (take_more entries at one (slice_get_within entries at one stands)
    ∙ ap (λ e. take at entries ++ e ∷ []) (read_at entries at one one stands))
    ∙ append_assoc (take at entries) (one ∷ []) rest)

-- the graph of the texts from a place on, by the first of them
pub graph_from : (texts : Texts) (readings : List (List ℕ)) → AreRead texts readings → (place : ℕ)
    (entry : List ℕ × List ℕ) (reading : List ℕ) → place < length texts → entry ≡ get_or texts place entry
    → reading ≡ get_or readings place reading
    → graph_of (drop place texts) ≡ with_module entry.0 (imports_of reading) (graph_of (drop (place + 1) texts))
unfolding graph_of
graph_from texts readings read place entry reading within is_entry is_reading =
    ap graph_of (drop_read texts place entry within is_entry)
    ∙ ap (λ t. with_module entry.0 (imports_of t) (graph_of (drop (place + 1) texts)))
    (sym (reading_of_place texts readings read place entry reading within is_entry is_reading))

-- behind the last text there is nothing
pub graph_end : (texts : Texts) (place : ℕ) (front : ImportMap) → length texts ≤ place
    → graph_of texts ≡ front ++ graph_of (drop place texts) → graph_of texts ≡ front
unfolding graph_of
graph_end texts place front past so_far =
    so_far ∙ ap (λ ts. front ++ graph_of ts) (drop_all place texts past) ∙ append-nil front

-- all modules are taken
pub all_taken : (modules : List Importing) (at : ℕ) → at ≡ length modules → take at (entries_of modules) ≡ entries_of modules
all_taken modules at is =
    let entry : Importing → List ℕ × List (List ℕ) = λ one. (one.name, one.sources.items) in
    take_all at (entries_of modules) (omega (arith, is, length-map modules entry))

-- where those up to a place are all modules, the place is behind the last one
pub place_behind : (modules : List Importing) (at : ℕ) → at ≤ length modules
    → take at (entries_of modules) ≡ entries_of modules → at ≡ length modules
place_behind modules at fits all =
    let entry : Importing → List ℕ × List (List ℕ) = λ one. (one.name, one.sources.items) in
    let count = length-map modules entry in
    let taken = length-take-le at (entries_of modules) (omega (arith, fits, count)) in
    sym taken ∙ ap length all ∙ count
