-- The reply to the run of a workload, where its modules are present and have their verdicts.
use Rattle.std.proofs.Common.{◌≡◌, ℕ, ◌-◌, ◌≤◌, List, [], ◌∷◌, codes, Some}
use Rattle.cc_verdicts.specs.ModuleVerdicts.{ModuleVerdict}
use Rattle.cc_verdicts.specs.PresentTexts.{Texts, text_of}
use Rattle.cc_verdicts.specs.Readings.{imports_of}
use Rattle.cc_workload.specs.Workloads.{module_name}
use Rattle.cc_workload_outputs.proofs.ChainDefinitions.{console_and_counter, counting_definition, main_definition, import_of_module, HaveVerdicts}
use Rattle.cc_workload_outputs.proofs.ChainReplies.{IsCountedReply, counted_reply}
use Rattle.cc_workload_outputs.proofs.CountedChains.{counted_definition, counted_modules}

pub counted_run : (n : ℕ) → 1 ≤ n → n ≤ 200 → (texts : Texts) (verdicts : List ℕ → ModuleVerdict)
    → (text : List ℕ) × (text_of texts (module_name 1) ≡ Some text) × (imports_of text ≡ Some [])
    → ((k : ℕ) → 2 ≤ k → k ≤ n
    → (text : List ℕ) × (text_of texts (module_name k) ≡ Some text) × (imports_of text ≡ Some (import_of_module (k - 1) ∷ [])))
    → (text : List ℕ) × (text_of texts (codes "app") ≡ Some text) × (imports_of text ≡ Some (import_of_module n ∷ []))
    → HaveVerdicts counting_definition console_and_counter n verdicts
    → IsCountedReply 1000000 n texts verdicts
counted_run n some few texts verdicts first calling app have =
    counted_reply n some few texts verdicts counted_definition (main_definition console_and_counter)
    (counted_modules n texts verdicts first calling app have)
