-- Where imports lead in a chain of modules: down alone.
use Rattle.std.proofs.Common.{◌≡◌, ◌∙◌, ℕ, ◌-◌, ◌^◌, ◌<◌, ◌≤◌, Bool, true, false, ◌||◌, List, [], ◌∷◌, map, Option, Some, codes, refl, sym, ap, subst, inl, inr, arith}
use Rattle.std.proofs.lemmas.Bool.{cases_eq, or_cases, true≢false, false_from_ne_true}
use Rattle.std.specs.List.{list_any}
use Rattle.std.specs.Map.{lookup}
use Rattle.std.specs.Option.{unwrap_or}
use Rattle.std.specs.Str.{bytes_eq}
use Rattle.cc_graph.specs.Graph.{ImportMap, does_import, one_step, more_steps, Reaches, reaches}
use Rattle.cc_graph.proofs.NameLemmas.{same_name}
use Rattle.cc_graph.proofs.Paths.{reaches-path}
use Rattle.cc_grammar.specs.Syntax.{ImportSyntax}
use Rattle.cc_verdicts.specs.PresentTexts.{Texts, text_of, graph_of}
use Rattle.cc_verdicts.specs.Readings.{imports_of}
use Rattle.cc_verdicts.proofs.Schedules.{lookup_graph}
use Rattle.cc_workload.specs.Workloads.{module_name, calling_module, entry_module}
use Rattle.cc_workload_outputs.proofs.ChainDefinitions.{import_of_module}
use Rattle.cc_workload_outputs.proofs.ChainNames.{same_number, not_app}
use Rattle.cc_workload_outputs.proofs.ChainTexts.{AreChained}

-- the modules behind the first import the one before them, and the one that is run the last
pub record HaveImports : Type 0 where
  pub of_calling : (k : ℕ) → 2 ≤ k → k ≤ 200 → imports_of (calling_module k) ≡ Some (import_of_module (k - 1) ∷ [])
  pub of_entry : (n : ℕ) → 1 ≤ n → n ≤ 200 → imports_of (entry_module n) ≡ Some (import_of_module n ∷ [])

-- the one name that a module imports
imports_this : (graph : ImportMap) (from to name : List ℕ) → lookup (bytes_eq from) graph ≡ Some (name ∷ [])
    → does_import graph from to ≡ true → to ≡ name
unfolding does_import
imports_this graph from to name found imports =
    let one : (bytes_eq to name || false) ≡ true =
    sym (ap (λ o. list_any (bytes_eq to) (unwrap_or o [])) found) ∙ imports in
    elim (or_cases (bytes_eq to name) false one) [
      | inl same ↦ same_name to name same
      | inr never ↦ absurd (true≢false (sym never))
    ]

imports_nothing : (graph : ImportMap) (from to : List ℕ) → lookup (bytes_eq from) graph ≡ Some []
    → does_import graph from to ≡ true → ⊥
unfolding does_import
imports_nothing graph from to found imports =
    true≢false (sym imports ∙ ap (λ o. list_any (bytes_eq to) (unwrap_or o [])) found)

module _ (have : HaveImports) (first : List ℕ) (alone : imports_of first ≡ Some []) (n : ℕ) (some : 1 ≤ n) (few : n ≤ 200)
    (texts : Texts) (chained : AreChained first n texts) where
  graph_at_first : lookup (bytes_eq (module_name 1)) (graph_of texts) ≡ Some []
  graph_at_first = lookup_graph texts (module_name 1) first [] chained.of_first alone

  pub graph_at_calling : (k : ℕ) → 2 ≤ k → k ≤ n → lookup (bytes_eq (module_name k)) (graph_of texts) ≡ Some (module_name (k - 1) ∷ [])
  graph_at_calling k more within =
      lookup_graph texts (module_name k) (calling_module k) (import_of_module (k - 1) ∷ []) (chained.of_calling k more within)
      (have.of_calling k more (omega arith))

  pub graph_at_entry : lookup (bytes_eq (codes "app")) (graph_of texts) ≡ Some (module_name n ∷ [])
  graph_at_entry =
      lookup_graph texts (codes "app") (entry_module n) (import_of_module n ∷ []) chained.of_entry (have.of_entry n some few)

  -- the name is that of a module with a lower number
  abbrev pub IsBelow : ℕ → List ℕ → Type 0
  IsBelow j name = (i : ℕ) × (1 ≤ i) × (i < j) × (name ≡ module_name i)

  pub step_down : (from to : List ℕ) → does_import (graph_of texts) from to ≡ true → (j : ℕ) → 1 ≤ j → j ≤ n → from ≡ module_name j
      → IsBelow j to
  step_down from to imports j low within is =
      let at : does_import (graph_of texts) (module_name j) to ≡ true =
      subst (λ name. does_import (graph_of texts) name to ≡ true) is imports in
      elim (cases_eq j 1) [
        | inl at_first ↦
            absurd (imports_nothing (graph_of texts) (module_name 1) to graph_at_first
            (subst (λ k. does_import (graph_of texts) (module_name k) to ≡ true) at_first at))
        | inr behind ↦ (
          j - 1,
          omega arith,
          omega arith,
          imports_this (graph_of texts) (module_name j) to (module_name (j - 1)) (graph_at_calling j (omega arith) within) at,
        )
      ]

  -- what a module of the chain reaches has a lower number
  pub leads_down : {from to : List ℕ} → Reaches (graph_of texts) from to → (j : ℕ) → 1 ≤ j → j ≤ n → from ≡ module_name j
      → IsBelow j to
  leads_down (one_step {from = from} {to = to} s) j low within is = step_down from to s j low within is
  leads_down (more_steps {from = from} {between = between} s path) j low within is =
      let next = step_down from between s j low within is in
      let last = leads_down path next.0 next.1 (omega (arith, next.2, within)) next.3 in
      (last.0, last.1, omega (arith, last.2, next.2), last.3)

  -- so no module reaches one that is not below it
  pub reaches_below : (j k : ℕ) → 1 ≤ j → j ≤ k → k ≤ n → reaches (graph_of texts) (module_name j) (module_name k) ≡ false
  reaches_below j k low above within =
      false_from_ne_true (reaches (graph_of texts) (module_name j) (module_name k))
      (λ reached.
      let down = leads_down (reaches-path (graph_of texts) (module_name j) (module_name k) reached) j low (omega arith) refl in
      let same : k ≡ down.0 = same_number k down.0 (omega arith) (omega (arith, down.2, within, few)) down.3 in
      omega (arith, down.2, same, above))

  -- nor the one that is run
  pub reaches_chain : (j : ℕ) → 1 ≤ j → j ≤ n → reaches (graph_of texts) (module_name j) (codes "app") ≡ false
  reaches_chain j low within =
      false_from_ne_true (reaches (graph_of texts) (module_name j) (codes "app"))
      (λ reached.
      let down = leads_down (reaches-path (graph_of texts) (module_name j) (codes "app") reached) j low within refl in
      not_app down.0 (sym down.3))
