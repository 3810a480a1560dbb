-- The modules of a workload's chain, as those of a program: each has one definition, a function of a number that calls
-- the one before it. Lists of modules have the newest first.
use Rattle.std.specs.Prelude.{ℕ, zero, suc, Bool, List, [], ◌∷◌, codes}
use Rattle.cc_base.specs.declared.literal.Base.{Base}
use Rattle.cc_base.specs.declared.literal.Base.TheVariants as bases
use Rattle.cc_capture.specs.Sets.{empty}
use Rattle.cc_core.specs.Programs.{Import, Definition, Module}
use Rattle.cc_core.specs.Shapes.{BaseShape, CapturingType}
use Rattle.cc_core.specs.Terms.{Term, FunctionTerm}
use Rattle.cc_workload.specs.Workloads.{module_name, definition_name}
use Rattle.cc_workload_outputs.proofs.ChainRuns.{counting_body, adding_body, starting_body}

-- the base shapes of the devices
abbrev pub device_bases : List Base
device_bases = bases.Console ∷ bases.Counter ∷ []

-- the import of the definition of the module with this number
abbrev pub chain_import : ℕ → Import
chain_import number = record { module_name = module_name number; definition_name = definition_name number }

-- each module behind the first imports from the one before it
abbrev pub chain_imports : ℕ → List Import
chain_imports zero = []
chain_imports (suc zero) = []
chain_imports (suc (suc before)) = chain_import (suc before) ∷ []

-- The value of the definition with this number. What it imports stands behind the two devices. There is none with the
-- number 0.
abbrev pub chain_value : ℕ → Term
chain_value zero = FunctionTerm (BaseShape bases.Int) empty counting_body
chain_value (suc zero) = FunctionTerm (BaseShape bases.Int) empty counting_body
chain_value (suc (suc before)) = FunctionTerm (BaseShape bases.Int) empty (adding_body (suc (suc before)) 2)

-- the value of the definition that is run
abbrev pub main_value : Term
main_value = FunctionTerm (BaseShape bases.Unit) empty (starting_body 0 2)

-- what a run does not depend on: the signatures, and whether definitions are recursive
pub record Signed : Type 0 where
  pub signature : CapturingType
  pub is_recursive : Bool

-- the definition of the name and the value
abbrev pub signed_definition : List ℕ → Term → Signed → Definition
signed_definition name value signed = record {
  name = name;
  value = value;
  signature = signed.signature;
  is_recursive = signed.is_recursive;
}

-- the module with this number
abbrev pub chain_module : (ℕ → Signed) → ℕ → Module
chain_module signed number = record {
  name = module_name number;
  imports = chain_imports number;
  definitions = signed_definition (definition_name number) (chain_value number) (signed number) ∷ [];
}

-- the module that is run, behind a chain of so many
abbrev pub app_module : Signed → ℕ → Module
app_module signed number = record {
  name = codes "app";
  imports = chain_import number ∷ [];
  definitions = signed_definition (codes "main") main_value signed ∷ [];
}

-- the first so many modules
abbrev pub chain_modules : (ℕ → Signed) → ℕ → List Module
chain_modules signed zero = []
chain_modules signed (suc before) = chain_module signed (suc before) ∷ chain_modules signed before

-- their names
abbrev pub chain_names : ℕ → List (List ℕ)
chain_names zero = []
chain_names (suc before) = module_name (suc before) ∷ chain_names before
