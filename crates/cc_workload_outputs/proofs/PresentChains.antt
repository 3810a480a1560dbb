-- Present texts with the modules of a chain, each accepted with its one definition.
use Rattle.std.specs.Prelude.{◌≡◌, ℕ, suc, ◌<◌, true, List, [], ◌∷◌, map, codes, Some}
use Rattle.cc_core.specs.Programs.{Import}
use Rattle.cc_core.specs.Stores.{authority}
use Rattle.cc_core.specs.Terms.{Term}
use Rattle.cc_grammar.specs.Syntax.{ImportSyntax}
use Rattle.cc_verdicts.specs.ModuleVerdicts.{CheckedDefinition, ModuleVerdict, IsAccepted}
use Rattle.cc_verdicts.specs.PresentTexts.{Texts, text_of}
use Rattle.cc_verdicts.specs.Readings.{imports_of}
use Rattle.cc_entry_laws.specs.PresentEntries.{import_of, takes_unit}
use Rattle.cc_workload_outputs.proofs.ChainModules.{chain_import, chain_imports, chain_value, main_value}
use Rattle.cc_workload.specs.Workloads.{module_name, definition_name}

-- The module of the name is present with a text that has these imports, and is accepted with this definition alone,
-- which has the name and the filled value.
pub record HasModule (texts : Texts) (verdicts : List ℕ → ModuleVerdict) (name : List ℕ) (imports : List Import)
    (definition : List ℕ) (value : Term) (checked : CheckedDefinition) : Type 0 where
  pub text : List ℕ
  pub is_text : text_of texts name ≡ Some text
  pub reads : List ImportSyntax
  pub is_read : imports_of text ≡ Some reads
  pub imports_are : map import_of reads ≡ imports
  pub accepted : verdicts name ≡ IsAccepted (checked ∷ [])
  pub is_named : checked.name ≡ definition
  pub is_filled : checked.accepted.filled ≡ value

-- So are the modules of a chain of so many and the one that calls the last of them, where these are their definitions;
-- the definition of that one takes unit, and may operate both devices.
pub record HasModules (texts : Texts) (verdicts : List ℕ → ModuleVerdict) (checked : ℕ → CheckedDefinition)
    (main : CheckedDefinition) (number : ℕ) : Type 0 where
  pub chain : (before : ℕ) → before < number
      → HasModule texts verdicts (module_name (suc before)) (chain_imports (suc before)) (definition_name (suc before))
      (chain_value (suc before)) (checked (suc before))
  pub app : HasModule texts verdicts (codes "app") (chain_import number ∷ []) (codes "main") main_value main
  pub takes_unit : takes_unit main.accepted.signature.shape ≡ true
  pub permits : authority 2 main.accepted.signature.set ≡ 0 ∷ 1 ∷ []
