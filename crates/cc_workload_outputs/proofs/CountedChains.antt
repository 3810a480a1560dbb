-- The modules of a workload whose first one counts, as those of a chain.
use Rattle.std.proofs.Common.{◌≡◌, ℕ, zero, suc, ◌-◌, ◌<◌, ◌≤◌, List, [], ◌∷◌, codes, Some, refl, ap, ◌∙◌, arith}
use Rattle.cc_capture.specs.Elements.{element_order, same_element}
use Rattle.cc_capture.specs.Rising.{placed}
use Rattle.cc_capture.specs.Sets.{contains, empty, insert}
use Rattle.cc_core.specs.Stores.{authority}
use Rattle.cc_verdicts.specs.ModuleVerdicts.{CheckedDefinition, ModuleVerdict}
use Rattle.cc_verdicts.specs.PresentTexts.{Texts, text_of}
use Rattle.cc_verdicts.specs.Readings.{imports_of}
use Rattle.cc_workload_outputs.proofs.ChainModules.{chain_imports, chain_value}
use Rattle.cc_workload_outputs.proofs.PresentChains.{HasModule, HasModules}
use Rattle.cc_workload.specs.Workloads.{module_name, definition_name}
use Rattle.cc_workload_outputs.proofs.ChainDefinitions.{console_and_counter, counting_definition, calling_definition, main_definition, import_of_module, HaveVerdicts}

-- the definition of the module with this number
abbrev pub counted_definition : ℕ → CheckedDefinition
counted_definition zero = counting_definition
counted_definition (suc zero) = counting_definition
counted_definition (suc (suc before)) = calling_definition console_and_counter (suc (suc before))

both_permitted : authority 2 console_and_counter ≡ 0 ∷ 1 ∷ []
unfolding contains empty insert placed element_order same_element
both_permitted = refl

module _ (n : ℕ) (texts : Texts) (verdicts : List ℕ → ModuleVerdict)
    (first : (text : List ℕ) × (text_of texts (module_name 1) ≡ Some text) × (imports_of text ≡ Some []))
    (calling : (k : ℕ) → 2 ≤ k → k ≤ n
    → (text : List ℕ) × (text_of texts (module_name k) ≡ Some text) × (imports_of text ≡ Some (import_of_module (k - 1) ∷ [])))
    (app : (text : List ℕ) × (text_of texts (codes "app") ≡ Some text) × (imports_of text ≡ Some (import_of_module n ∷ [])))
    (have : HaveVerdicts counting_definition console_and_counter n verdicts) where
  chain_has : (before : ℕ) → before < n
      → HasModule texts verdicts (module_name (suc before)) (chain_imports (suc before)) (definition_name (suc before))
      (chain_value (suc before)) (counted_definition (suc before))
  chain_has zero less = record {
    text = first.0;
    is_text = first.1;
    reads = [];
    is_read = first.2;
    imports_are = refl;
    accepted = have.of_first;
    is_named = refl;
    is_filled = refl;
  }
  chain_has (suc before) less =
      let behind : 2 ≤ suc (suc before) = omega arith in
      let within : suc (suc before) ≤ n = omega (arith, less) in
      let found = calling (suc (suc before)) behind within in
      let one_less : suc (suc before) - 1 ≡ suc before = omega arith in
      record {
        text = found.0;
        is_text = found.1;
        reads = import_of_module (suc before) ∷ [];
        is_read = found.2 ∙ ap (λ k. Some (import_of_module k ∷ [])) one_less;
        imports_are = refl;
        accepted = have.of_calling (suc (suc before)) behind within;
        is_named = refl;
        is_filled = refl;
      }

  -- they are the modules of a chain
  pub counted_modules : HasModules texts verdicts counted_definition (main_definition console_and_counter) n
  counted_modules = record {
    chain = chain_has;
    app = record {
      text = app.0;
      is_text = app.1;
      reads = import_of_module n ∷ [];
      is_read = app.2;
      imports_are = refl;
      accepted = have.of_entry;
      is_named = refl;
      is_filled = refl;
    };
    takes_unit = refl;
    permits = both_permitted;
  }
