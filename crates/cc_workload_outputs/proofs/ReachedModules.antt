-- Where the imports of the modules of a chain lead.
use Rattle.std.proofs.Common.{◌≡◌, ◌↔◌, ℕ, zero, suc, ◌<◌, ◌≤◌, true, false, List, [], ◌∷◌, map, codes, refl, sym, ap, ◌∙◌, subst, arith, inl, inr}
use Rattle.std.proofs.lemmas.Bool.{cases_eq, or_cases, or_left}
use Rattle.std.proofs.lemmas.Simd.{map-map}
use Rattle.std.specs.List.{list_any}
use Rattle.std.specs.Option.{unwrap_or}
use Rattle.std.specs.Str.{bytes_eq}
use Rattle.cc_core.specs.Programs.{Import}
use Rattle.cc_core.specs.Terms.{Term}
use Rattle.cc_entry_laws.specs.PresentEntries.{import_of, IsReached}
use Rattle.cc_graph.specs.Graph.{does_import, imported, Path, one_step, more_steps}
use Rattle.cc_graph.proofs.NameLemmas.{same_name}
use Rattle.cc_graph.proofs.Paths.{IsAmong, path_on}
use Rattle.cc_verdicts.specs.ModuleVerdicts.{CheckedDefinition, ModuleVerdict}
use Rattle.cc_verdicts.specs.PresentTexts.{Texts, graph_of}
use Rattle.cc_verdicts.proofs.Schedules.{lookup_graph}
use Rattle.cc_workload_outputs.proofs.ChainModules.{chain_import, chain_imports, chain_value, main_value, chain_names}
use Rattle.cc_workload.specs.Workloads.{module_name, definition_name}
use Rattle.cc_workload_outputs.proofs.PresentChains.{HasModule, HasModules}
use Rattle.cc_workload_outputs.proofs.ChainStores.{same_bytes}

-- what a present module imports by the graph
imported_names : (texts : Texts) (verdicts : List ℕ → ModuleVerdict) (name : List ℕ) (imports : List Import)
    (definition : List ℕ) (value : Term) (checked : CheckedDefinition)
    → HasModule texts verdicts name imports definition value checked
    → imported (graph_of texts) name ≡ map (λ names. names.module_name) imports
imported_names texts verdicts name imports definition value checked has =
    ap (λ found. unwrap_or found []) (lookup_graph texts name has.text has.reads has.is_text has.is_read)
    ∙ sym (map-map (λ (names : Import). names.module_name) import_of has.reads)
    ∙ ap (map (λ (names : Import). names.module_name)) has.imports_are

-- NAMES OF A CHAIN

-- what stands among the names has a number
numbered : (count : ℕ) (name : List ℕ) → IsAmong name (chain_names count)
    → (before : ℕ) × (before < count) × (module_name (suc before) ≡ name)
numbered zero name among = absurd among
numbered (suc before) name (inl same) = (before, omega arith, same)
numbered (suc before) name (inr among) =
    let (earlier, less, same) = numbered before name among in (earlier, omega (arith, less), same)

-- and it stands among those of a longer chain
up_to : (less more : ℕ) (name : List ℕ) → less ≤ more → IsAmong name (chain_names less) → IsAmong name (chain_names more)
up_to zero more name below among = absurd among
up_to (suc less) zero name below among = absurd (omega (arith, below))
up_to (suc less) (suc more) name below (inl same) =
    elim (cases_eq less more) [
      | inl last ↦ inl (ap (λ k. module_name (suc k)) (sym last) ∙ same)
      | inr apart ↦ inr (up_to (suc less) more name (omega (arith, below, apart)) (inl same))
    ]
up_to (suc less) (suc more) name below (inr among) = inr (up_to less more name (omega (arith, below)) among)

never : {A : Type 0} → false ≡ true → A
never e = cc

-- THE GRAPH
module _ (texts : Texts) (verdicts : List ℕ → ModuleVerdict) (checked : ℕ → CheckedDefinition) (main : CheckedDefinition)
    (last : ℕ) (has : HasModules texts verdicts checked main (suc last)) where
  chain_imported : (before : ℕ) → before < suc last
      → imported (graph_of texts) (module_name (suc before)) ≡ map (λ names. names.module_name) (chain_imports (suc before))
  chain_imported before less =
      imported_names texts verdicts (module_name (suc before)) (chain_imports (suc before)) (definition_name (suc before))
      (chain_value (suc before)) (checked (suc before)) (has.chain before less)

  -- one step down
  step_down : (before : ℕ) → suc before < suc last
      → does_import (graph_of texts) (module_name (suc (suc before))) (module_name (suc before)) ≡ true
  unfolding does_import
  step_down before less =
      ap (list_any (bytes_eq (module_name (suc before)))) (chain_imported (suc before) less)
      ∙ or_left _ _ (same_bytes (module_name (suc before)))

  -- and no other
  only_down : (before : ℕ) (other : List ℕ) → before < suc last
      → does_import (graph_of texts) (module_name (suc before)) other ≡ true → IsAmong other (chain_names before)
  unfolding does_import
  only_down zero other less is = never (sym (ap (list_any (bytes_eq other)) (chain_imported zero less)) ∙ is)
  only_down (suc before) other less is =
      elim (or_cases (bytes_eq other (module_name (suc before))) false
      (sym (ap (list_any (bytes_eq other)) (chain_imported (suc before) less)) ∙ is)) [
        | inl same ↦ inl (sym (same_name other (module_name (suc before)) same))
        | inr none ↦ never none
      ]

  -- paths lead down
  paths_down : (from to : List ℕ) → Path (does_import (graph_of texts)) from to → (before : ℕ) → before < suc last
      → module_name (suc before) ≡ from → IsAmong to (chain_names before)
  paths_down from to (one_step is) before less same =
      only_down before to less (ap (λ name. does_import (graph_of texts) name to) same ∙ is)
  paths_down from to (more_steps {between = between} is path) before less same =
      let (earlier, fewer, named) = numbered before between
      (only_down before between less (ap (λ name. does_import (graph_of texts) name between) same ∙ is)) in
      up_to earlier before to (omega (arith, fewer)) (paths_down between to path earlier (omega (arith, fewer, less)) named)

  -- and to all of the names below
  paths_to : (before : ℕ) (from other : List ℕ) → before < suc last
      → Path (does_import (graph_of texts)) from (module_name (suc before))
      → IsAmong other (chain_names (suc before)) → Path (does_import (graph_of texts)) from other
  paths_to before from other less path (inl same) =
      subst (λ name. Path (does_import (graph_of texts)) from name) same path
  paths_to zero from other less path (inr among) = absurd among
  paths_to (suc before) from other less path (inr among) =
      paths_to before from other (omega (arith, less))
      (path_on (does_import (graph_of texts)) path (one_step (step_down before less))) among

  -- what is run imports from the last one
  app_imported : imported (graph_of texts) (codes "app") ≡ module_name (suc last) ∷ []
  app_imported =
      imported_names texts verdicts (codes "app") (chain_import (suc last) ∷ []) (codes "main") main_value main has.app

  app_step : does_import (graph_of texts) (codes "app") (module_name (suc last)) ≡ true
  unfolding does_import
  app_step =
      ap (list_any (bytes_eq (module_name (suc last)))) app_imported ∙ or_left _ _ (same_bytes (module_name (suc last)))

  app_only : (other : List ℕ) → does_import (graph_of texts) (codes "app") other ≡ true → module_name (suc last) ≡ other
  unfolding does_import
  app_only other is =
      elim (or_cases (bytes_eq other (module_name (suc last))) false (sym (ap (list_any (bytes_eq other)) app_imported) ∙ is)) [
        | inl same ↦ sym (same_name other (module_name (suc last)) same)
        | inr none ↦ never none
      ]

  app_paths : (from to : List ℕ) → Path (does_import (graph_of texts)) from to → from ≡ codes "app"
      → IsAmong to (chain_names (suc last))
  app_paths from to (one_step is) same =
      inl (app_only to (ap (λ name. does_import (graph_of texts) name to) (sym same) ∙ is))
  app_paths from to (more_steps {between = between} is path) same =
      inr (paths_down between to path last (omega arith)
      (app_only between (ap (λ name. does_import (graph_of texts) name between) (sym same) ∙ is)))

  -- what is run reaches exactly the chain
  pub reached_names : (other : List ℕ)
      → IsReached (graph_of texts) (codes "app") other ↔ IsAmong other (codes "app" ∷ chain_names (suc last))
  reached_names other = (
    λ reached. elim reached [
      | inl same ↦ inl (sym same)
      | inr path ↦ inr (app_paths (codes "app") other path refl)
    ],
    λ among. elim among [
      | inl same ↦ inl (sym same)
      | inr later ↦ inr (paths_to last (codes "app") other (omega arith) (one_step app_step) later)
    ],
  )
