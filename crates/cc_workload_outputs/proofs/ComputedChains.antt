-- The imports, the lengths and the verdicts of the modules of a workload, by computation: one for each number.
use Rattle.std.proofs.Common.{◌≡◌, ◌∙◌, ℕ, ◌+◌, ◌-◌, ◌<◌, ◌≤◌, Bool, true, List, [], ◌∷◌, length, Option, Some, refl, sym, ap, arith}
use Rattle.std.proofs.lemmas.Bool.{leb-true}
use Rattle.std.specs.Prelude.{nat_le}
use Rattle.cc_capture.specs.Sets.{Set}
use Rattle.cc_grammar.specs.Syntax.{ImportSyntax}
use Rattle.cc_verdicts.specs.ModuleVerdicts.{ModuleVerdict, IsAccepted, HasModuleVerdict}
use Rattle.cc_verdicts.specs.Readings.{imports_in, imports_of}
use Rattle.cc_workload.specs.Workloads.{calling_module, entry_module, printing_module, counting_module, workload_devices}
use Rattle.cc_worked_texts.proofs.ComputedModules.{text_computing, text_verdict_in, text_verdict_in_steps}
use Rattle.cc_worked_texts.proofs.QuickTokens.{quick_reading, same_reading}
use Rattle.cc_workload_outputs.proofs.ChainDefinitions.{console_alone, console_and_counter, printing_definition, counting_definition, calling_definition, main_definition, import_of_module}
use Rattle.cc_workload_outputs.proofs.ChainGraph.{HaveImports}
use Rattle.cc_workload_outputs.proofs.ChainTexts.{AreShort}
use Rattle.cc_workload_outputs.proofs.ChainVerdicts.{found_of, AreAccepted}
use Rattle.cc_workload_outputs.proofs.Ranges.{AreSame, from_parts}

-- what a text imports, and what it is to import
unfoldable import_found : ℕ → Option (List ImportSyntax)
import_found k = imports_in (quick_reading (calling_module k))

unfoldable import_expected : ℕ → Option (List ImportSyntax)
import_expected k = Some (import_of_module (k - 1) ∷ [])

unfoldable entry_import_found : ℕ → Option (List ImportSyntax)
entry_import_found k = imports_in (quick_reading (entry_module k))

unfoldable entry_import_expected : ℕ → Option (List ImportSyntax)
entry_import_expected k = Some (import_of_module k ∷ [])

-- whether it is short
unfoldable short_found : ℕ → Bool
short_found k = nat_le (length (calling_module k)) 65536

unfoldable entry_short_found : ℕ → Bool
entry_short_found k = nat_le (length (entry_module k)) 65536

unfoldable is_short : ℕ → Bool
is_short k = true

-- its verdict, where a chain is imported that captures this
unfoldable call_found : Set → ℕ → Option ModuleVerdict
call_found set k = text_verdict_in workload_devices 9 (found_of set) (calling_module k)

unfoldable call_expected : Set → ℕ → Option ModuleVerdict
call_expected set k = Some (IsAccepted (calling_definition set k ∷ []))

unfoldable entry_found : Set → ℕ → Option ModuleVerdict
entry_found set k = text_verdict_in workload_devices 9 (found_of set) (entry_module k)

unfoldable entry_expected : Set → ℕ → Option ModuleVerdict
entry_expected set k = Some (IsAccepted (main_definition set ∷ []))

-- all that the rows unfold
unfoldable chain_computing : Unit {0}
unfolding text_computing import_found import_expected entry_import_found entry_import_expected short_found entry_short_found is_short call_found call_expected entry_found entry_expected
chain_computing = tt

-- ROWS

calling_imports_from_1 : AreSame (import_found) (import_expected) 1
unfolding chain_computing
calling_imports_from_1 = refl

calling_imports_from_51 : AreSame (import_found) (import_expected) 51
unfolding chain_computing
calling_imports_from_51 = refl

calling_imports_from_101 : AreSame (import_found) (import_expected) 101
unfolding chain_computing
calling_imports_from_101 = refl

calling_imports_from_151 : AreSame (import_found) (import_expected) 151
unfolding chain_computing
calling_imports_from_151 = refl

calling_imports : (k : ℕ) → 1 ≤ k → k ≤ 200 → import_found k ≡ import_expected k
calling_imports = from_parts (import_found) (import_expected) calling_imports_from_1 calling_imports_from_51 calling_imports_from_101 calling_imports_from_151

entry_imports_from_1 : AreSame (entry_import_found) (entry_import_expected) 1
unfolding chain_computing
entry_imports_from_1 = refl

entry_imports_from_51 : AreSame (entry_import_found) (entry_import_expected) 51
unfolding chain_computing
entry_imports_from_51 = refl

entry_imports_from_101 : AreSame (entry_import_found) (entry_import_expected) 101
unfolding chain_computing
entry_imports_from_101 = refl

entry_imports_from_151 : AreSame (entry_import_found) (entry_import_expected) 151
unfolding chain_computing
entry_imports_from_151 = refl

entry_imports : (k : ℕ) → 1 ≤ k → k ≤ 200 → entry_import_found k ≡ entry_import_expected k
entry_imports = from_parts (entry_import_found) (entry_import_expected) entry_imports_from_1 entry_imports_from_51 entry_imports_from_101 entry_imports_from_151

calling_lengths_from_1 : AreSame (short_found) (is_short) 1
unfolding chain_computing
calling_lengths_from_1 = refl

calling_lengths_from_51 : AreSame (short_found) (is_short) 51
unfolding chain_computing
calling_lengths_from_51 = refl

calling_lengths_from_101 : AreSame (short_found) (is_short) 101
unfolding chain_computing
calling_lengths_from_101 = refl

calling_lengths_from_151 : AreSame (short_found) (is_short) 151
unfolding chain_computing
calling_lengths_from_151 = refl

calling_lengths : (k : ℕ) → 1 ≤ k → k ≤ 200 → short_found k ≡ is_short k
calling_lengths = from_parts (short_found) (is_short) calling_lengths_from_1 calling_lengths_from_51 calling_lengths_from_101 calling_lengths_from_151

entry_lengths_from_1 : AreSame (entry_short_found) (is_short) 1
unfolding chain_computing
entry_lengths_from_1 = refl

entry_lengths_from_51 : AreSame (entry_short_found) (is_short) 51
unfolding chain_computing
entry_lengths_from_51 = refl

entry_lengths_from_101 : AreSame (entry_short_found) (is_short) 101
unfolding chain_computing
entry_lengths_from_101 = refl

entry_lengths_from_151 : AreSame (entry_short_found) (is_short) 151
unfolding chain_computing
entry_lengths_from_151 = refl

entry_lengths : (k : ℕ) → 1 ≤ k → k ≤ 200 → entry_short_found k ≡ is_short k
entry_lengths = from_parts (entry_short_found) (is_short) entry_lengths_from_1 entry_lengths_from_51 entry_lengths_from_101 entry_lengths_from_151

printing_calls_from_1 : AreSame (call_found console_alone) (call_expected console_alone) 1
unfolding chain_computing
printing_calls_from_1 = refl

printing_calls_from_51 : AreSame (call_found console_alone) (call_expected console_alone) 51
unfolding chain_computing
printing_calls_from_51 = refl

printing_calls_from_101 : AreSame (call_found console_alone) (call_expected console_alone) 101
unfolding chain_computing
printing_calls_from_101 = refl

printing_calls_from_151 : AreSame (call_found console_alone) (call_expected console_alone) 151
unfolding chain_computing
printing_calls_from_151 = refl

printing_calls : (k : ℕ) → 1 ≤ k → k ≤ 200 → call_found console_alone k ≡ call_expected console_alone k
printing_calls = from_parts (call_found console_alone) (call_expected console_alone) printing_calls_from_1 printing_calls_from_51 printing_calls_from_101 printing_calls_from_151

counting_calls_from_1 : AreSame (call_found console_and_counter) (call_expected console_and_counter) 1
unfolding chain_computing
counting_calls_from_1 = refl

counting_calls_from_51 : AreSame (call_found console_and_counter) (call_expected console_and_counter) 51
unfolding chain_computing
counting_calls_from_51 = refl

counting_calls_from_101 : AreSame (call_found console_and_counter) (call_expected console_and_counter) 101
unfolding chain_computing
counting_calls_from_101 = refl

counting_calls_from_151 : AreSame (call_found console_and_counter) (call_expected console_and_counter) 151
unfolding chain_computing
counting_calls_from_151 = refl

counting_calls : (k : ℕ) → 1 ≤ k → k ≤ 200 → call_found console_and_counter k ≡ call_expected console_and_counter k
counting_calls = from_parts (call_found console_and_counter) (call_expected console_and_counter) counting_calls_from_1 counting_calls_from_51 counting_calls_from_101 counting_calls_from_151

printing_entries_from_1 : AreSame (entry_found console_alone) (entry_expected console_alone) 1
unfolding chain_computing
printing_entries_from_1 = refl

printing_entries_from_51 : AreSame (entry_found console_alone) (entry_expected console_alone) 51
unfolding chain_computing
printing_entries_from_51 = refl

printing_entries_from_101 : AreSame (entry_found console_alone) (entry_expected console_alone) 101
unfolding chain_computing
printing_entries_from_101 = refl

printing_entries_from_151 : AreSame (entry_found console_alone) (entry_expected console_alone) 151
unfolding chain_computing
printing_entries_from_151 = refl

printing_entries : (k : ℕ) → 1 ≤ k → k ≤ 200 → entry_found console_alone k ≡ entry_expected console_alone k
printing_entries = from_parts (entry_found console_alone) (entry_expected console_alone) printing_entries_from_1 printing_entries_from_51 printing_entries_from_101 printing_entries_from_151

counting_entries_from_1 : AreSame (entry_found console_and_counter) (entry_expected console_and_counter) 1
unfolding chain_computing
counting_entries_from_1 = refl

counting_entries_from_51 : AreSame (entry_found console_and_counter) (entry_expected console_and_counter) 51
unfolding chain_computing
counting_entries_from_51 = refl

counting_entries_from_101 : AreSame (entry_found console_and_counter) (entry_expected console_and_counter) 101
unfolding chain_computing
counting_entries_from_101 = refl

counting_entries_from_151 : AreSame (entry_found console_and_counter) (entry_expected console_and_counter) 151
unfolding chain_computing
counting_entries_from_151 = refl

counting_entries : (k : ℕ) → 1 ≤ k → k ≤ 200 → entry_found console_and_counter k ≡ entry_expected console_and_counter k
counting_entries = from_parts (entry_found console_and_counter) (entry_expected console_and_counter) counting_entries_from_1 counting_entries_from_51 counting_entries_from_101 counting_entries_from_151

printing_alone : imports_in (quick_reading printing_module) ≡ Some []
unfolding chain_computing
printing_alone = refl

counting_alone : imports_in (quick_reading counting_module) ≡ Some []
unfolding chain_computing
counting_alone = refl

printing_verdict : text_verdict_in workload_devices 9 [] printing_module ≡ Some (IsAccepted (printing_definition ∷ []))
unfolding chain_computing
printing_verdict = refl

counting_verdict : text_verdict_in workload_devices 9 [] counting_module ≡ Some (IsAccepted (counting_definition ∷ []))
unfolding chain_computing
counting_verdict = refl

-- WHAT THEY SAY

calling_import : (k : ℕ) → import_found k ≡ import_expected k → imports_of (calling_module k) ≡ Some (import_of_module (k - 1) ∷ [])
unfolding import_found import_expected
calling_import k found = ap imports_in (same_reading (calling_module k)) ∙ found

entry_import : (k : ℕ) → entry_import_found k ≡ entry_import_expected k → imports_of (entry_module k) ≡ Some (import_of_module k ∷ [])
unfolding entry_import_found entry_import_expected
entry_import k found = ap imports_in (same_reading (entry_module k)) ∙ found

calling_short : (k : ℕ) → short_found k ≡ is_short k → length (calling_module k) ≤ 65536
unfolding short_found is_short
calling_short k found = leb-true (length (calling_module k)) 65536 found

entry_short : (k : ℕ) → entry_short_found k ≡ is_short k → length (entry_module k) ≤ 65536
unfolding entry_short_found is_short
entry_short k found = leb-true (length (entry_module k)) 65536 found

call_accepted : (set : Set) (k : ℕ) → call_found set k ≡ call_expected set k
    → HasModuleVerdict workload_devices (calling_module k) (found_of set) (IsAccepted (calling_definition set k ∷ []))
unfolding call_found call_expected
call_accepted set k found = text_verdict_in_steps workload_devices 9 (found_of set) (calling_module k) (IsAccepted (calling_definition set k ∷ [])) found

entry_accepted : (set : Set) (k : ℕ) → entry_found set k ≡ entry_expected set k
    → HasModuleVerdict workload_devices (entry_module k) (found_of set) (IsAccepted (main_definition set ∷ []))
unfolding entry_found entry_expected
entry_accepted set k found = text_verdict_in_steps workload_devices 9 (found_of set) (entry_module k) (IsAccepted (main_definition set ∷ [])) found

pub imports_are : HaveImports
imports_are = record {
  of_calling = λ k more few. calling_import k (calling_imports k (omega (arith, more)) few);
  of_entry = λ n some few. entry_import n (entry_imports n some few);
}

pub texts_are_short : AreShort
texts_are_short = record {
  of_calling = λ k more few. calling_short k (calling_lengths k (omega (arith, more)) few);
  of_entry = λ n some few. entry_short n (entry_lengths n some few);
}

pub printing_accepted : AreAccepted printing_module printing_definition console_alone
printing_accepted = record {
  alone = ap imports_in (same_reading printing_module) ∙ printing_alone;
  of_first = text_verdict_in_steps workload_devices 9 [] printing_module (IsAccepted (printing_definition ∷ [])) printing_verdict;
  named = refl;
  signed = refl;
  of_calling = λ k more few. call_accepted console_alone k (printing_calls k (omega (arith, more)) few);
  of_entry = λ n some few. entry_accepted console_alone n (printing_entries n some few);
}

pub counting_accepted : AreAccepted counting_module counting_definition console_and_counter
counting_accepted = record {
  alone = ap imports_in (same_reading counting_module) ∙ counting_alone;
  of_first = text_verdict_in_steps workload_devices 9 [] counting_module (IsAccepted (counting_definition ∷ [])) counting_verdict;
  named = refl;
  signed = refl;
  of_calling = λ k more few. call_accepted console_and_counter k (counting_calls k (omega (arith, more)) few);
  of_entry = λ n some few. entry_accepted console_and_counter n (counting_entries n some few);
}
