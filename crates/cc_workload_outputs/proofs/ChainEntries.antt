-- The entry of the definition that calls a chain: its modules are the chain and the one that is run.
use Rattle.std.proofs.Common.{◌≡◌, ℕ, zero, suc, ◌≤◌, true, List, [], ◌∷◌, map, reverse, codes, Some, None, Ok, Err, refl, sym, ap, ◌∙◌, subst, arith, inl, inr, if◌then◌else◌}
use Rattle.std.proofs.lemmas.Bool.{cases_Bool, or_left, or_right}
use Rattle.std.proofs.lemmas.List.{reverse-reverse}
use Rattle.std.proofs.lemmas.Simd.{map-map}
use Rattle.std.specs.List.{AllByRecursion}
use Rattle.std.specs.Option.{unwrap_or, is_some}
use Rattle.std.specs.Str.{bytes_eq}
use Rattle.cc_base.specs.declared.code.Code.TheVariants.{E32, E35}
use Rattle.cc_core.specs.Programs.{Import, Module, is_listed, are_in_order}
use Rattle.cc_core.specs.Terms.{Term}
use Rattle.cc_entry_laws.specs.PresentEntries.{CheckedEntry, import_of, program_module, definitions_of, present_module, started_by, started_or, started_in, IsEntryOf}
use Rattle.cc_graph.proofs.NameLemmas.{same_name, is_same_name}
use Rattle.cc_graph.proofs.OrderLemmas.{listed_among, among_listed, listed-reverse}
use Rattle.cc_graph.proofs.Paths.{IsAmong}
use Rattle.cc_verdicts.proofs.Asking.{map-reverse}
use Rattle.cc_verdicts.specs.ModuleVerdicts.{CheckedDefinition, ModuleVerdict, in_program}
use Rattle.cc_verdicts.specs.PresentTexts.{Texts, text_of}
use Rattle.cc_verdicts.specs.Readings.{imports_of}
use Rattle.cc_workload_outputs.proofs.ChainModules.{device_bases, chain_import, chain_imports, chain_value, main_value, Signed, signed_definition, chain_module, app_module, chain_modules, chain_names}
use Rattle.cc_workload.specs.Workloads.{module_name, definition_name, workload_devices}
use Rattle.cc_workload_outputs.proofs.PresentChains.{HasModule, HasModules}
use Rattle.cc_workload_outputs.proofs.ReachedModules.{reached_names}
use Rattle.cc_workload_outputs.proofs.ChainOrder.{all_ordered}
use Rattle.cc_workload_outputs.proofs.ChainStores.{all_modules}

-- what a run does not depend on
abbrev pub signed_as : CheckedDefinition → Signed
signed_as checked = record { signature = checked.accepted.signature; is_recursive = checked.recursive }

-- the present module as one of a program
plain_module : (texts : Texts) (verdicts : List ℕ → ModuleVerdict) (name : List ℕ) (imports : List Import)
    (definition : List ℕ) (value : Term) (checked : CheckedDefinition)
    → HasModule texts verdicts name imports definition value checked
    → program_module (present_module texts verdicts name)
    ≡ record { name = name; imports = imports; definitions = signed_definition definition value (signed_as checked) ∷ [] }
plain_module texts verdicts name imports definition value checked has =
    let imported : map import_of (unwrap_or (imports_of (unwrap_or (text_of texts name) [])) []) ≡ imports =
    ap (λ text. map import_of (unwrap_or (imports_of (unwrap_or text [])) [])) has.is_text
    ∙ ap (λ reads. map import_of (unwrap_or reads [])) has.is_read
    ∙ has.imports_are in
    let accepted = ap (λ verdict. map in_program (definitions_of verdict)) has.accepted in
    let defined : map in_program (definitions_of (verdicts name)) ≡ signed_definition definition value (signed_as checked) ∷ [] =
    accepted
    ∙ (λ i. record {
      name = has.is_named i;
      value = has.is_filled i;
      signature = checked.accepted.signature;
      is_recursive = checked.recursive;
    } ∷ []) in
    λ i. record { name = name; imports = imported i; definitions = defined i }

-- MODULES BY THEIR NAMES

all_present : (texts : Texts) (verdicts : List ℕ → ModuleVerdict) (names : List (List ℕ))
    → AllByRecursion (λ current. current ≡ present_module texts verdicts current.name) (map (present_module texts verdicts) names)
all_present texts verdicts [] = tt
all_present texts verdicts (first ∷ rest) = (refl, all_present texts verdicts rest)

listed_names : (texts : Texts) (verdicts : List ℕ → ModuleVerdict) (names : List (List ℕ)) (other : List ℕ)
    → is_listed (map program_module (map (present_module texts verdicts) names)) other ≡ true → IsAmong other names
listed_names texts verdicts [] other listed = cc
listed_names texts verdicts (first ∷ rest) other listed =
    elim (cases_Bool (bytes_eq first other)) [
      | inl same ↦ inl (same_name first other same)
      | inr apart ↦ inr (listed_names texts verdicts rest other (rw apart at listed))
    ]

names_listed : (texts : Texts) (verdicts : List ℕ → ModuleVerdict) (names : List (List ℕ)) (other : List ℕ)
    → IsAmong other names → is_listed (map program_module (map (present_module texts verdicts) names)) other ≡ true
names_listed texts verdicts [] other among = absurd among
names_listed texts verdicts (first ∷ rest) other (inl same) = or_left _ _ (is_same_name first other same)
names_listed texts verdicts (first ∷ rest) other (inr among) = or_right _ _ (names_listed texts verdicts rest other among)

-- a list turned round has the same names
turned_among : (names : List (List ℕ)) (other : List ℕ) → IsAmong other (reverse names) → IsAmong other names
turned_among names other among =
    among_listed names other (sym (listed-reverse names other) ∙ listed_among (reverse names) other among)

among_turned : (names : List (List ℕ)) (other : List ℕ) → IsAmong other names → IsAmong other (reverse names)
among_turned names other among =
    among_listed (reverse names) other (listed-reverse names other ∙ listed_among names other among)

module _ (texts : Texts) (verdicts : List ℕ → ModuleVerdict) (checked : ℕ → CheckedDefinition) (main : CheckedDefinition)
    (last : ℕ) (has : HasModules texts verdicts checked main (suc last)) where
  abbrev pub signed_by : ℕ → Signed
  signed_by k = signed_as (checked k)

  -- the names of the modules, the one that is run first
  abbrev all_names : List (List ℕ)
  all_names = codes "app" ∷ chain_names (suc last)

  -- the entry
  abbrev pub chain_entry : CheckedEntry
  chain_entry = record {
    devices = device_bases;
    modules = map (present_module texts verdicts) (reverse all_names);
    module_name = codes "app";
    definition_name = codes "main";
    authority = 0 ∷ 1 ∷ [];
  }

  abbrev plain : List ℕ → Module
  plain name = program_module (present_module texts verdicts name)

  plain_chain : (count : ℕ) → count ≤ suc last → map plain (chain_names count) ≡ chain_modules signed_by count
  plain_chain zero within = refl
  plain_chain (suc before) within =
      let first : plain (module_name (suc before)) ≡ chain_module signed_by (suc before) =
      plain_module texts verdicts (module_name (suc before)) (chain_imports (suc before)) (definition_name (suc before))
      (chain_value (suc before)) (checked (suc before)) (has.chain before (omega (arith, within))) in
      let rest = plain_chain before (omega (arith, within)) in
      λ i. first i ∷ rest i

  plain_all : map plain all_names ≡ all_modules signed_by (signed_as main) (suc last)
  plain_all =
      let first : plain (codes "app") ≡ app_module (signed_as main) (suc last) =
      plain_module texts verdicts (codes "app") (chain_import (suc last) ∷ []) (codes "main") main_value main has.app in
      let rest = plain_chain (suc last) (omega arith) in
      λ i. first i ∷ rest i

  -- its modules, newest first
  pub turned_modules : reverse (map program_module chain_entry.modules) ≡ all_modules signed_by (signed_as main) (suc last)
  turned_modules =
      ap reverse (map-map program_module (present_module texts verdicts) (reverse all_names) ∙ map-reverse plain all_names)
      ∙ reverse-reverse (map plain all_names)
      ∙ plain_all

  -- the definition that is started
  pub main_started : started_in texts verdicts (codes "app") (codes "main") ≡ Ok main
  main_started =
      ap (λ text. if is_some text then started_by (verdicts (codes "app")) (codes "main") else Err E32) has.app.is_text
      ∙ ap (λ verdict. started_by verdict (codes "main")) has.app.accepted
      ∙ ap (λ b. started_or (if b then Some main else None)) (is_same_name main.name (codes "main") has.app.is_named)
      ∙ ap (λ b. if b then Ok main else Err E35) has.takes_unit

  pub is_entry : suc last ≤ 200 → IsEntryOf workload_devices texts verdicts (codes "app") (codes "main") main chain_entry
  is_entry few = record {
    shapes = refl;
    present = all_present texts verdicts (reverse all_names);
    reached = λ other. (
      λ listed.
          (reached_names texts verdicts checked main last has other).1
          (turned_among all_names other (listed_names texts verdicts (reverse all_names) other listed)),
      λ reached.
          names_listed texts verdicts (reverse all_names) other
          (among_turned all_names other ((reached_names texts verdicts checked main last has other).0 reached)),
    );
    order = subst (λ modules. are_in_order [] modules ≡ true) (sym turned_modules)
        (all_ordered signed_by (signed_as main) last few);
    of_module = refl;
    of_definition = refl;
    permits = sym has.permits;
  }
