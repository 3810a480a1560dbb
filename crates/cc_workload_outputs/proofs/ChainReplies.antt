-- The reply to the run of a workload.
use Rattle.std.proofs.Common.{◌≡◌, ℕ, zero, suc, ◌+◌, ◌-◌, ◌*◌, ◌≤◌, false, List, [], ◌∷◌, ◌++◌, codes, refl, sym, ap, ◌∙◌, subst, arith}
use Rattle.std.specs.Prelude.{Result}
use Rattle.std.specs.Fmt.{decimal, digits}
use Rattle.std.specs.List.{flat_map, range_with_len, sum}
use lib.Utf8.{encode}
use Rattle.cc_base.specs.declared.code.Code.{Code}
use Rattle.cc_base.specs.Literals.{UnitLiteral}
use Rattle.cc_device.specs.Endings.{ShownLiteral, Done}
use Rattle.cc_entry_laws.specs.PresentEntries.{started_in}
use Rattle.cc_mnf.specs.ElaboratedModules.{device_names}
use Rattle.cc_replies.specs.ReplyTexts.{Reply, line, reply_text, is_refusal}
use Rattle.cc_replies.specs.RunReplies.{declared_run, run_told, IsRunAnswer}
use Rattle.cc_runs.specs.Runs.{State, Ends, Run}
use Rattle.cc_verdicts.specs.ModuleVerdicts.{CheckedDefinition, ModuleVerdict}
use Rattle.cc_verdicts.specs.PresentTexts.{Texts}
use Rattle.cc_workload_outputs.proofs.ChainRuns.{counted_and_printed}
use Rattle.cc_workload_outputs.proofs.PresentChains.{HasModules}
use Rattle.cc_workload.specs.Workloads.{workload_devices}
use Rattle.cc_workload_outputs.proofs.ChainEnds.{entry_run}
use Rattle.cc_workload_outputs.proofs.ChainEntries.{chain_entry, main_started, is_entry}

-- the lines of a run that prints this number in so many steps
abbrev pub lines_of_run : ℕ → ℕ → List (List ℕ)
lines_of_run number steps =
    codes "run app.main" ∷ codes "  authority {out, hits}" ∷ codes "  hits tick 1" ∷
    (codes "  out print " ++ decimal number) ∷ (codes "  done unit after " ++ decimal steps ++ codes " steps") ∷ []

-- those of the run of a workload of so many modules
abbrev pub run_lines : ℕ → List (List ℕ)
run_lines n = lines_of_run (sum (range_with_len 2 (n - 1))) (5 * n + 2)

-- the run that prints the number in so many steps
abbrev printing_run : ℕ → ℕ → State → Run
printing_run number steps last = record {
  events = counted_and_printed number;
  ending = Ends (Done (ShownLiteral UnitLiteral));
  steps = steps;
  last = last;
}

one_written : decimal 1 ≡ 49 ∷ []
unfolding digits
one_written = refl

-- how it is told
told_text : (number steps : ℕ) (last : State)
    → reply_text (device_names workload_devices) (run_told (codes "app") (codes "main") (0 ∷ 1 ∷ []) (printing_run number steps last))
    ≡ flat_map line (lines_of_run number steps)
unfolding encode
told_text number steps last =
    ap (λ one. flat_map line (codes "run app.main" ∷ codes "  authority {out, hits}" ∷ (codes "  hits tick " ++ one) ∷
    (codes "  out print " ++ decimal number) ∷ (codes "  done unit after " ++ decimal steps ++ codes " steps") ∷ [])) one_written

-- What is answered to the run of a workload of so many modules, with enough fuel, where its modules are those of a chain
-- whose first one counts: these lines, and no refusal.
abbrev pub IsCountedReply : ℕ → ℕ → Texts → (List ℕ → ModuleVerdict) → Type 0
IsCountedReply fuel n texts verdicts =
    (reply : Reply)
    × IsRunAnswer workload_devices texts verdicts (codes "app") (codes "main") fuel
    (started_in texts verdicts (codes "app") (codes "main")) reply
    × (reply_text (device_names workload_devices) reply ≡ flat_map line (run_lines n))
    × (is_refusal reply ≡ false)

fueled_reply : (fuel n : ℕ) → 1 ≤ n → n ≤ 200 → 5 * n + 2 ≤ fuel → (texts : Texts) (verdicts : List ℕ → ModuleVerdict)
    (checked : ℕ → CheckedDefinition) (main : CheckedDefinition) → HasModules texts verdicts checked main n
    → IsCountedReply fuel n texts verdicts
fueled_reply fuel zero some few enough texts verdicts checked main has = absurd (omega (arith, some))
fueled_reply fuel (suc last) some few enough texts verdicts checked main has =
    let entry = chain_entry texts verdicts checked main last has in
    let reply : Reply =
    run_told (codes "app") (codes "main") (0 ∷ 1 ∷ []) (declared_run workload_devices fuel entry) in
    let A : Result CheckedDefinition Code → Type 0 = λ started.
    IsRunAnswer workload_devices texts verdicts (codes "app") (codes "main") fuel started reply in
    let whole = entry_run texts verdicts checked main last has fuel few enough in
    let told : reply
    ≡ run_told (codes "app") (codes "main") (0 ∷ 1 ∷ []) (printing_run (sum (range_with_len 2 last)) (5 * suc last + 2) whole.0) =
    ap (run_told (codes "app") (codes "main") (0 ∷ 1 ∷ [])) whole.1 in
    let one_less : last ≡ suc last - 1 = omega arith in (
      reply,
      subst A (sym (main_started texts verdicts checked main last has))
          (entry, is_entry texts verdicts checked main last has few, refl),
      ap (reply_text (device_names workload_devices)) told
          ∙ told_text (sum (range_with_len 2 last)) (5 * suc last + 2) whole.0
          ∙ ap (λ k. flat_map line (lines_of_run (sum (range_with_len 2 k)) (5 * suc last + 2))) one_less,
      ap is_refusal told,
    )

-- and with the fuel that a workload gives
pub counted_reply : (n : ℕ) → 1 ≤ n → n ≤ 200 → (texts : Texts) (verdicts : List ℕ → ModuleVerdict)
    (checked : ℕ → CheckedDefinition) (main : CheckedDefinition) → HasModules texts verdicts checked main n
    → IsCountedReply 1000000 n texts verdicts
counted_reply n some few texts verdicts checked main has =
    fueled_reply 1000000 n some few (omega (arith, few)) texts verdicts checked main has
