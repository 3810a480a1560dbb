-- What a workload writes, where it is known what its run is answered.
use Rattle.std.proofs.Common.{◌≡◌, ◌∙◌, ℕ, zero, suc, ◌+◌, ◌-◌, ◌^◌, ◌<◌, ◌≤◌, Bool, true, false, ◌||◌, List, [], ◌∷◌, ◌++◌, length, map, codes, refl, sym, ap, subst, inl, inr, arith, append_assoc, append-nil}
use Rattle.std.proofs.lemmas.Bool.{cases_eq}
use Rattle.std.proofs.lemmas.Fmt.{IsAscii-decimal}
use Rattle.std.proofs.lemmas.Str.{encodes-IsAscii}
use Rattle.std.specs.BTreeMap.{insert_entry}
use Rattle.std.specs.List.{AllByRecursion, IsDistinct, flat_map, range_with_len}
use Rattle.std.specs.Prelude.{encode_utf8_all}
use Rattle.std.specs.Str.{IsAscii}
use lib.Utf8.{encode}
use Rattle.cc_base.specs.Names.{compare_names}
use Rattle.cc_capture.specs.Sets.{Set}
use Rattle.cc_answers.specs.Requests.{request_of, requests_of}
use Rattle.cc_job.specs.declared.job.Command.{Command}
use Rattle.cc_replies.specs.Outputs.{IsOutput}
use Rattle.cc_replies.specs.ReplyTexts.{line}
use Rattle.cc_replies.specs.Requests.{Request, JobState, PutText, Ask, CheckModules, RunDefinition, holding, no_module}
use Rattle.cc_verdicts.specs.ModuleLaws.{NamesOfDevicesDiffer}
use Rattle.cc_verdicts.specs.ModuleVerdicts.{CheckedDefinition, ModuleVerdict, IsAccepted}
use Rattle.cc_verdicts.specs.PresentTexts.{Texts, AreVerdicts}
use Rattle.cc_verdicts.proofs.PresentLaws.{present_verdicts_exist}
use Rattle.cc_workload.specs.Workloads.{module_name, printing_module, counting_module, calling_module, entry_module, workload_devices, link, requests, workload}
use Rattle.cc_workload_outputs.specs.PresentNames.{names_in_order}
use Rattle.cc_workload_outputs.specs.WorkloadLines.{put_line, check_lines, run_lines}
use Rattle.cc_workload_outputs.specs.WorkloadOutputs.{workload_output}
use Rattle.cc_workload_outputs.proofs.ChainDefinitions.{console_alone, console_and_counter, printing_definition, counting_definition, calling_definition, main_definition, HaveVerdicts}
use Rattle.cc_workload_outputs.proofs.ChainGraph.{HaveImports}
use Rattle.cc_workload_outputs.proofs.InsertedNames.{length-insert_entry}
use Rattle.cc_workload_outputs.proofs.PutsAndChecks.{Answers, then_writes, put_writes, IsFine, check_answers}
use Rattle.cc_workload_outputs.proofs.ChainTexts.{IsMember, AreChained, AreShort, are_present, members, linked, first_text, chain_texts, present_texts, changed_texts, present_chained, changed_chained, chain_few, present_few}
use Rattle.cc_workload_outputs.proofs.ChainVerdicts.{AreAccepted, chain_verdicts}
use Rattle.cc_workload_outputs.proofs.LinePieces.{workload_pieces, first_put}

-- what the run is answered, once the first module has changed: these are its lines
abbrev pub RunsAreAnswered : Type 0
RunsAreAnswered =
    (n : ℕ) → 1 ≤ n → n ≤ 200 → (texts : Texts) → AreChained counting_module n texts → (verdicts : List ℕ → ModuleVerdict)
    → AreVerdicts workload_devices texts verdicts → HaveVerdicts counting_definition console_and_counter n verdicts
    → Answers workload_devices (holding texts) (Ask (RunDefinition (codes "app") (codes "main") 1000000))
    (flat_map line (run_lines n))

-- NAMES

IsAscii-module : (k : ℕ) → k < 2 ^ 64 → IsAscii (module_name k)
IsAscii-module k small zero = omega arith
IsAscii-module k small (suc i) = IsAscii-decimal k small i

plain_module : (k : ℕ) → k < 2 ^ 64 → encode_utf8_all (module_name k) ≡ module_name k
plain_module k small = encodes-IsAscii (module_name k) (IsAscii-module k small)

plain_app : encode_utf8_all (codes "app") ≡ codes "app"
unfolding encode
plain_app = refl

devices_differ : NamesOfDevicesDiffer workload_devices
unfolding IsDistinct
devices_differ = ((refl, tt), (tt, tt))

-- CHECKS

module _ (have : HaveImports) (first : List ℕ) (definition : CheckedDefinition) (set : Set) (accepted : AreAccepted first definition set)
    (n : ℕ) (some : 1 ≤ n) (few : n ≤ 200) (texts : Texts) (chained : AreChained first n texts) where
  fine_module : (verdicts : List ℕ → ModuleVerdict) → HaveVerdicts definition set n verdicts → (k : ℕ) → 1 ≤ k → k ≤ n → IsFine verdicts (module_name k)
  fine_module verdicts has k low within =
      elim (cases_eq k 1) [
        | inl at_first ↦ subst (λ j. IsFine verdicts (module_name j)) (sym at_first) (plain_module 1 (omega arith), (definition ∷ [], has.of_first))
        | inr behind ↦ (plain_module k (omega arith), (calling_definition set k ∷ [], has.of_calling k (omega arith) within))
      ]

  fine_member : (verdicts : List ℕ → ModuleVerdict) → HaveVerdicts definition set n verdicts → (name : List ℕ) → IsMember n name → IsFine verdicts name
  fine_member verdicts has name (inl is) = subst (IsFine verdicts) (sym is) (plain_app, (main_definition set ∷ [], has.of_entry))
  fine_member verdicts has name (inr it) = subst (IsFine verdicts) (sym it.3) (fine_module verdicts has it.0 it.1 it.2)

  fine_names : (verdicts : List ℕ → ModuleVerdict) → HaveVerdicts definition set n verdicts → (names : List (List ℕ)) → AllByRecursion (IsMember n) names
      → AllByRecursion (IsFine verdicts) names
  fine_names verdicts has [] all = tt
  fine_names verdicts has (name ∷ names) all = (fine_member verdicts has name all.0, fine_names verdicts has names all.1)

  -- the verdicts that the texts have
  abbrev pub Judged : Type 0
  Judged = (verdicts : List ℕ → ModuleVerdict) × AreVerdicts workload_devices texts verdicts × HaveVerdicts definition set n verdicts

  pub judged : Judged
  judged =
      let found = present_verdicts_exist workload_devices texts devices_differ (are_present first n texts chained) in
      (found.0, found.1, chain_verdicts have first definition set accepted n some few texts chained found.0 found.1)

  pub check_writes : Answers workload_devices (holding texts) (Ask CheckModules) (flat_map line (check_lines n))
  check_writes =
      check_answers workload_devices texts (names_in_order n) judged.0 judged.1 chained.in_order
      (fine_names judged.0 judged.2 (names_in_order n) (members n))

-- PUTS

links_write : AreShort → (count a : ℕ) (texts : Texts) (others : List Command) (rest : List ℕ) → 2 ≤ a → a + count ≤ 201 → length texts ≤ a
    → IsOutput workload_devices (holding (linked texts a count)) (map request_of others) rest false
    → IsOutput workload_devices (holding texts) (map request_of (map link (range_with_len a count) ++ others))
    (flat_map line (map (λ k. put_line (module_name k)) (range_with_len a count)) ++ rest) false
links_write short zero a texts others rest low all few behind = behind
links_write short (suc count) a texts others rest low all few behind =
    let next = insert_entry compare_names texts (module_name a) (calling_module a) in
    let puts = flat_map line (map (λ k. put_line (module_name k)) (range_with_len (a + 1) count)) in
    subst (λ t. IsOutput workload_devices (holding texts) (map request_of (map link (range_with_len a (suc count)) ++ others)) t false)
    (sym (append_assoc (line (put_line (module_name a))) puts rest))
    (put_writes workload_devices texts (module_name a) (calling_module a) (map request_of (map link (range_with_len (a + 1) count) ++ others))
    (puts ++ rest) (short.of_calling a low (omega (arith, all))) (omega (arith, few, all)) (plain_module a (omega (arith, all)))
    (links_write short count (a + 1) next others rest (omega (arith, low)) (omega (arith, all))
    (omega (arith, few, length-insert_entry texts (module_name a) (calling_module a))) behind))

-- ALL
module _ (have : HaveImports) (short : AreShort) (printing : AreAccepted printing_module printing_definition console_alone)
    (counting : AreAccepted counting_module counting_definition console_and_counter) (runs : RunsAreAnswered)
    (n : ℕ) (some : 1 ≤ n) (few : n ≤ 200) where
  abbrev app : List ℕ
  app = codes "app"

  abbrev checked_text : List ℕ
  checked_text = flat_map line (check_lines n)

  abbrev run_text : List ℕ
  run_text = flat_map line (run_lines n)

  -- from the last command to the first
  run_writes : IsOutput workload_devices (holding (changed_texts n)) (Ask (RunDefinition app (codes "main") 1000000) ∷ []) (run_text ++ []) false
  run_writes =
      let chained = changed_chained n some few in
      let its = judged have counting_module counting_definition console_and_counter counting n some few (changed_texts n) chained in
      then_writes workload_devices (holding (changed_texts n)) (holding (changed_texts n)) (Ask (RunDefinition app (codes "main") 1000000)) [] run_text []
      (runs n some few (changed_texts n) chained its.0 its.1 its.2) refl (refl, refl)

  abbrev from_check : List Request
  from_check = Ask CheckModules ∷ Ask (RunDefinition app (codes "main") 1000000) ∷ []

  second_check_writes : IsOutput workload_devices (holding (changed_texts n)) from_check (checked_text ++ (run_text ++ [])) false
  second_check_writes =
      then_writes workload_devices (holding (changed_texts n)) (holding (changed_texts n)) (Ask CheckModules)
      (Ask (RunDefinition app (codes "main") 1000000) ∷ []) checked_text (run_text ++ [])
      (check_writes have counting_module counting_definition console_and_counter counting n some few (changed_texts n) (changed_chained n some few))
      refl run_writes

  change_writes : IsOutput workload_devices (holding (present_texts n)) (PutText (module_name 1) counting_module ∷ from_check)
      (line (put_line (module_name 1)) ++ (checked_text ++ (run_text ++ []))) false
  change_writes =
      put_writes workload_devices (present_texts n) (module_name 1) counting_module from_check (checked_text ++ (run_text ++ []))
      (omega arith) (omega (arith, present_few n some, few)) (plain_module 1 (omega arith)) second_check_writes

  first_check_writes : IsOutput workload_devices (holding (present_texts n)) (Ask CheckModules ∷ PutText (module_name 1) counting_module ∷ from_check)
      (checked_text ++ (line (put_line (module_name 1)) ++ (checked_text ++ (run_text ++ [])))) false
  first_check_writes =
      then_writes workload_devices (holding (present_texts n)) (holding (present_texts n)) (Ask CheckModules)
      (PutText (module_name 1) counting_module ∷ from_check) checked_text (line (put_line (module_name 1)) ++ (checked_text ++ (run_text ++ [])))
      (check_writes have printing_module printing_definition console_alone printing n some few (present_texts n) (present_chained n some few))
      refl change_writes

  entry_writes : IsOutput workload_devices (holding (chain_texts n)) (map request_of (requests n))
      (line (put_line app) ++ (checked_text ++ (line (put_line (module_name 1)) ++ (checked_text ++ (run_text ++ []))))) false
  entry_writes =
      put_writes workload_devices (chain_texts n) app (entry_module n) (Ask CheckModules ∷ PutText (module_name 1) counting_module ∷ from_check)
      (checked_text ++ (line (put_line (module_name 1)) ++ (checked_text ++ (run_text ++ []))))
      (short.of_entry n some few) (omega (arith, chain_few n some, few)) plain_app first_check_writes

  abbrev puts_text : List ℕ
  puts_text = flat_map line (map (λ k. put_line (module_name k)) (range_with_len 2 (n - 1)))

  abbrev behind_puts : List ℕ
  behind_puts = line (put_line app) ++ (checked_text ++ (line (put_line (module_name 1)) ++ (checked_text ++ (run_text ++ []))))

  all_write : IsOutput workload_devices no_module (requests_of (workload n)) (line (put_line (module_name 1)) ++ (puts_text ++ behind_puts)) false
  all_write =
      put_writes workload_devices [] (module_name 1) printing_module (map request_of (map link (range_with_len 2 (n - 1)) ++ requests n))
      (puts_text ++ behind_puts) (omega arith) (omega arith) (plain_module 1 (omega arith))
      (links_write short (n - 1) 2 first_text (requests n) behind_puts (omega arith) (omega arith) (omega arith) entry_writes)

  whole_text : line (put_line (module_name 1)) ++ (puts_text ++ behind_puts) ≡ workload_output n
  whole_text =
      sym (append_assoc (line (put_line (module_name 1))) puts_text behind_puts)
      ∙ ap (λ t. t ++ behind_puts) (sym (first_put line n some))
      ∙ ap (λ t. flat_map line (map (λ k. put_line (module_name k)) (range_with_len 1 n))
      ++ (line (put_line app) ++ (checked_text ++ (line (put_line (module_name 1)) ++ (checked_text ++ t))))) (append-nil run_text)
      ∙ sym (workload_pieces line n)

  pub workload_writes : IsOutput workload_devices no_module (requests_of (workload n)) (workload_output n) false
  workload_writes = subst (λ t. IsOutput workload_devices no_module (requests_of (workload n)) t false) whole_text all_write
