-- The store that is linked from the modules of a chain has its functions, each behind the one before it.
use Rattle.std.proofs.Common.{◌≡◌, ℕ, zero, suc, ◌+◌, ◌<◌, true, List, [], ◌∷◌, length, codes, Some, refl, sym, ap, ◌∙◌, subst, arith, inl, inr}
use Rattle.std.proofs.lemmas.Bool.{cases_eq}
use Rattle.std.specs.Option.{unwrap_or}
use Rattle.std.specs.Str.{bytes_eq}
use Rattle.cc_base.specs.declared.literal.Base.TheVariants as bases
use Rattle.cc_capture.specs.Sets.{empty}
use Rattle.cc_core.specs.Contexts.{lookup}
use Rattle.cc_core.specs.Programs.{Module}
use Rattle.cc_core.specs.Shapes.{BaseShape}
use Rattle.cc_core.specs.Stores.{Cell, ValueCell, Store}
use Rattle.cc_core.specs.Substitution.{renamed_set}
use Rattle.cc_core.specs.Terms.{FunctionTerm}
use Rattle.cc_core.proofs.Lookups.{lookup-newest}
use Rattle.cc_graph.proofs.NameLemmas.{is_same_name}
use Rattle.cc_runs.specs.Links.{count_definitions, position_in, linked_position, linked_store}
use Rattle.cc_workload_outputs.proofs.ChainModules.{device_bases, chain_import, Signed, app_module, chain_modules}
use Rattle.cc_workload.specs.Workloads.{module_name, definition_name}
use Rattle.cc_workload_outputs.proofs.ChainRuns.{adding_body, starting_body, HasFunction, HasChain}
use Rattle.cc_workload_outputs.proofs.ChainCalls.{kept_chain}

pub same_bytes : (name : List ℕ) → bytes_eq name name ≡ true
same_bytes name = is_same_name name name refl

module _ (signed : ℕ → Signed) where
  -- the store of the first so many modules
  abbrev pub chain_store : ℕ → Store
  chain_store number = linked_store device_bases (chain_modules signed number)

  pub length-chain_store : (number : ℕ) → length (chain_store number) ≡ suc (suc number)
  length-chain_store zero = refl
  length-chain_store (suc before) = ap suc (length-chain_store before)

  pub chain_count : (number : ℕ) → count_definitions (chain_modules signed number) ≡ number
  chain_count zero = refl
  chain_count (suc before) = omega (arith, chain_count before)

  -- the definition of the newest module stands at the end
  newest_position : (before : ℕ)
      → position_in 2 (module_name (suc before)) (definition_name (suc before)) (chain_modules signed (suc before))
      ≡ Some (suc (suc before))
  newest_position before =
      let count = count_definitions (chain_modules signed before) in
      let stands : 2 + count + 0 ≡ suc (suc before) = omega (arith, chain_count before) in
      rw (same_bytes (module_name (suc before))) (ap Some stands)

  -- and what imports it is linked to that place
  pub linked_import : (before : ℕ)
      → linked_position 2 (chain_modules signed (suc before)) (chain_import (suc before) ∷ []) 2 ≡ suc (suc before)
  linked_import before = ap (λ found. unwrap_or found 2) (newest_position before)

  -- the cell of a function whose import stands at the place
  abbrev function_cell : (ℕ → ℕ) → ℕ → ℕ → Cell
  function_cell to number place =
      ValueCell (FunctionTerm (BaseShape bases.Int) (renamed_set to empty) (adding_body number place))

  added_function : (before : ℕ)
      → HasFunction (chain_store (suc (suc before))) (suc (suc (suc before))) (adding_body (suc (suc before)) (suc (suc before)))
  added_function before =
      let to : ℕ → ℕ = linked_position 2 (chain_modules signed (suc before)) (chain_import (suc before) ∷ []) in
      let number = suc (suc before) in (
        BaseShape bases.Int,
        renamed_set to empty,
        sym (ap (lookup (chain_store number)) (length-chain_store (suc before)))
            ∙ lookup-newest (function_cell to number (to 2)) (chain_store (suc before))
            ∙ ap (λ place. Some (function_cell to number place)) (linked_import before),
      )

  -- the function stands there, if it did before the last one was added
  stored_at : (before earlier : ℕ) → suc earlier < suc (suc before)
      → (suc earlier < suc before
      → HasFunction (chain_store (suc (suc before))) (suc (suc (suc earlier))) (adding_body (suc (suc earlier)) (suc (suc earlier))))
      → HasFunction (chain_store (suc (suc before))) (suc (suc (suc earlier))) (adding_body (suc (suc earlier)) (suc (suc earlier)))
  stored_at before earlier less below =
      elim (cases_eq earlier before) [
        | inl same ↦
            let P : ℕ → Type 0 = λ it.
            HasFunction (chain_store (suc (suc before))) (suc (suc (suc it))) (adding_body (suc (suc it)) (suc (suc it))) in
            subst P (sym same) (added_function before)
        | inr apart ↦ below (omega (arith, less, apart))
      ]

  -- the chain stands in its store
  pub chain_stored : (before : ℕ) → HasChain (chain_store (suc before)) (suc before)
  chain_stored zero =
      let to : ℕ → ℕ = linked_position 2 [] [] in
      record {
        out = refl;
        hits = refl;
        first = (BaseShape bases.Int, renamed_set to empty, refl);
        others = λ before less. absurd (omega (arith, less));
      }
  chain_stored (suc before) =
      let to : ℕ → ℕ = linked_position 2 (chain_modules signed (suc before)) (chain_import (suc before) ∷ []) in
      let kept = kept_chain (function_cell to (suc (suc before)) (to 2)) (chain_store (suc before)) (suc before) (chain_stored before) in
      record {
        out = kept.out;
        hits = kept.hits;
        first = kept.first;
        others = λ earlier less. stored_at before earlier less (λ below. kept.others earlier below);
      }

-- ENTRIES

-- the modules of a chain, and the one that is run, newest first
abbrev pub all_modules : (ℕ → Signed) → Signed → ℕ → List Module
all_modules signed main number = app_module main number ∷ chain_modules signed number

module _ (signed : ℕ → Signed) (main : Signed) (before : ℕ) where
  abbrev pub whole_store : Store
  whole_store = linked_store device_bases (all_modules signed main (suc before))

  pub length-whole_store : length whole_store ≡ suc (suc (suc (suc before)))
  length-whole_store = ap suc (length-chain_store signed (suc before))

  -- the definition that is run stands at the end
  pub main_position : position_in 2 (codes "app") (codes "main") (all_modules signed main (suc before)) ≡ Some (suc (suc (suc before)))
  main_position =
      let count = count_definitions (chain_modules signed (suc before)) in
      let stands : 2 + count + 0 ≡ suc (suc (suc before)) = omega (arith, chain_count signed (suc before)) in
      ap Some stands

  abbrev main_cell : (ℕ → ℕ) → ℕ → Cell
  main_cell to place = ValueCell (FunctionTerm (BaseShape bases.Unit) (renamed_set to empty) (starting_body 0 place))

  pub main_stored : HasFunction whole_store (suc (suc (suc before))) (starting_body 0 (suc (suc before)))
  main_stored =
      let to : ℕ → ℕ = linked_position 2 (chain_modules signed (suc before)) (chain_import (suc before) ∷ []) in (
        BaseShape bases.Unit,
        renamed_set to empty,
        sym (ap (lookup whole_store) (length-chain_store signed (suc before)))
            ∙ lookup-newest (main_cell to (to 2)) (chain_store signed (suc before))
            ∙ ap (λ place. Some (main_cell to place)) (linked_import signed before),
      )

  pub whole_chain : HasChain whole_store (suc before)
  whole_chain =
      let to : ℕ → ℕ = linked_position 2 (chain_modules signed (suc before)) (chain_import (suc before) ∷ []) in
      kept_chain (main_cell to (to 2)) (chain_store signed (suc before)) (suc before) (chain_stored signed before)
