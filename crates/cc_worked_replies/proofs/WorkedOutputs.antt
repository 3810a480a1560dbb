-- Whole outputs of jobs, by computation.
use Rattle.std.proofs.Common.{◌≡◌, ◌∙◌, ℕ, codes, false, Bool, ◌||◌, List, [], ◌∷◌, ◌++◌, refl, sym, ap, subst, if◌then◌else◌}
use Rattle.std.specs.List.{flat_map}
use Rattle.std.specs.Str.{bytes_eq}
use Rattle.std.proofs.lemmas.Grind.{flat_map-append}
use Rattle.cc_base.specs.declared.device.DeviceDecl.{DeviceDecl}
use Rattle.cc_graph.specs.Graph.{ImportMap}
use Rattle.cc_mnf.specs.ElaboratedModules.{device_names}
use Rattle.cc_verdicts.specs.ModuleVerdicts.{Finding, ModuleVerdict}
use Rattle.cc_verdicts.specs.PresentTexts.{Texts, finding_in}
use Rattle.cc_replies.specs.Outputs.{IsOutput}
use Rattle.cc_replies.specs.Replies.{Replies, check_reply, after}
use Rattle.cc_replies.specs.ReplyTexts.{Reply, PutDone, line, reply_text, is_refusal}
use Rattle.cc_replies.specs.Requests.{Request, JobState, PutText, CheckModules, RunDefinition, Ask, holding, no_module}
use Rattle.cc_worked_replies.specs.OutputExamples as example
use Rattle.cc_worked_replies.specs.TextReplies.{RepliesWith, console_and_counter, main}
use Rattle.cc_worked_replies.proofs.ComputedReplies.{verdicts_by, AreJudged, are_judged, run_replies, reply_computing}

-- a reply with these lines, and behind it the output of the other commands
one_reply : (devices : List DeviceDecl) (state next : JobState) (request : Request) (others : List Request) (reply : Reply)
    (lines rest : List (List ℕ)) (refused later : Bool) → after state request ≡ next → Replies devices state request reply
    → reply_text (device_names devices) reply ≡ flat_map line lines → is_refusal reply ≡ refused
    → IsOutput devices next others (flat_map line rest) later
    → IsOutput devices state (request ∷ others) (flat_map line (lines ++ rest)) (refused || later)
one_reply devices state next request others reply lines rest refused later is replies told tells output = (
  reply,
  flat_map line rest,
  later,
  replies,
  subst (λ s. IsOutput devices s others (flat_map line rest) later) (sym is) output,
  flat_map-append line lines rest ∙ ap (λ t. t ++ flat_map line rest) (sym told),
  ap (λ b. b || later) (sym tells),
)

no_output : (devices : List DeviceDecl) (state : JobState) → IsOutput devices state [] (flat_map line []) false
no_output devices state = (refl, refl)

-- a question that is answered with these lines, as the last command
last_reply : (devices : List DeviceDecl) (texts : Texts) (module_name name : List ℕ) (fuel : ℕ) (lines : List (List ℕ))
    → RepliesWith devices texts (RunDefinition module_name name fuel) lines false
    → IsOutput devices (holding texts) (Ask (RunDefinition module_name name fuel) ∷ []) (flat_map line (lines ++ [])) false
last_reply devices texts module_name name fuel lines (reply, replies, told, tells) =
    one_reply devices (holding texts) (holding texts) (Ask (RunDefinition module_name name fuel)) [] reply lines [] false false refl replies told tells
    (no_output devices (holding texts))

-- ONE MODULE

abbrev one_with : List ℕ → Texts
one_with first = (codes "app", example.first_call) ∷ (codes "m1", first) ∷ []

abbrev one_imports : ImportMap
one_imports = (codes "app", codes "m1" ∷ []) ∷ (codes "m1", []) ∷ []

abbrev one_names : List (List ℕ)
one_names = codes "m1" ∷ codes "app" ∷ []

abbrev one_findings : Texts → List ℕ → List Finding
one_findings texts name =
    if bytes_eq name (codes "app")
    then finding_in (verdicts_by console_and_counter texts (λ other. []) (codes "m1")) (codes "f1") ∷ []
    else []

abbrev one_verdicts : Texts → List ℕ → ModuleVerdict
one_verdicts texts = verdicts_by console_and_counter texts (one_findings texts)

one_printing : AreJudged console_and_counter (one_with example.printing_text) (one_verdicts (one_with example.printing_text)) one_imports one_names
unfolding reply_computing
one_printing =
    are_judged console_and_counter 12 (one_with example.printing_text) (one_verdicts (one_with example.printing_text)) one_imports one_names
    ((refl, tt), (tt, tt)) ((refl, tt), (tt, tt)) refl (refl, (refl, tt)) (record { steps = refl; whole = refl })

one_counting : AreJudged console_and_counter (one_with example.counting_text) (one_verdicts (one_with example.counting_text)) one_imports one_names
unfolding reply_computing
one_counting =
    are_judged console_and_counter 12 (one_with example.counting_text) (one_verdicts (one_with example.counting_text)) one_imports one_names
    ((refl, tt), (tt, tt)) ((refl, tt), (tt, tt)) refl (refl, (refl, tt)) (record { steps = refl; whole = refl })

-- what is said of the checks, and of the run
abbrev one_checked : List (List ℕ)
one_checked = codes "check" ∷ codes "  app ok" ∷ codes "  m1 ok" ∷ []

abbrev one_lines : List (List ℕ)
one_lines =
    codes "run app.main" ∷ codes "  authority {out, hits}" ∷ codes "  hits tick 1" ∷ codes "  out print 0" ∷ codes "  done unit after 7 steps" ∷ []

one_runs : RepliesWith console_and_counter (one_with example.counting_text) (RunDefinition (codes "app") main 1000000)
    one_lines
    false
unfolding reply_computing
one_runs =
    run_replies console_and_counter (one_with example.counting_text) (one_verdicts (one_with example.counting_text)) one_imports one_names one_counting
    (codes "app") main 1000000
    one_lines
    false refl refl

pub output_of_one_module : example.OutputOfOneModule
unfolding reply_computing
output_of_one_module =
    let D = console_and_counter in
    let first : JobState = holding ((codes "m1", example.printing_text) ∷ []) in
    let printing : JobState = holding (one_with example.printing_text) in
    let counting : JobState = holding (one_with example.counting_text) in
    let run : Request = Ask (RunDefinition (codes "app") main 1000000) in
    let put : Request = PutText (codes "m1") example.counting_text in
    let fourth : List (List ℕ) = one_lines ++ [] in
    let third : List (List ℕ) = one_checked ++ fourth in
    let second : List (List ℕ) = (codes "put m1" ∷ []) ++ third in
    let behind : List (List ℕ) = one_checked ++ second in
    one_reply D no_module first (PutText (codes "m1") example.printing_text)
    (PutText (codes "app") example.first_call ∷ example.asked_behind) (PutDone (codes "m1")) (codes "put m1" ∷ [])
    ((codes "put app" ∷ []) ++ behind) false false refl refl refl refl
    (one_reply D first printing (PutText (codes "app") example.first_call) example.asked_behind (PutDone (codes "app")) (codes "put app" ∷ [])
    behind false false refl refl refl refl
    (one_reply D printing printing (Ask CheckModules) (put ∷ Ask CheckModules ∷ run ∷ [])
    (check_reply (one_with example.printing_text) (one_verdicts (one_with example.printing_text)))
    one_checked second false false refl
    (one_verdicts (one_with example.printing_text), one_printing.are, refl) refl refl
    (one_reply D printing counting put (Ask CheckModules ∷ run ∷ []) (PutDone (codes "m1")) (codes "put m1" ∷ []) third false false refl refl refl refl
    (one_reply D counting counting (Ask CheckModules) (run ∷ [])
    (check_reply (one_with example.counting_text) (one_verdicts (one_with example.counting_text)))
    one_checked fourth false false refl
    (one_verdicts (one_with example.counting_text), one_counting.are, refl) refl refl
    (last_reply D (one_with example.counting_text) (codes "app") main 1000000 one_lines one_runs)))))

-- TWO MODULES

abbrev two_with : List ℕ → Texts
two_with first = (codes "app", example.second_call) ∷ (codes "m1", first) ∷ (codes "m2", example.second_text) ∷ []

abbrev two_imports : ImportMap
two_imports = (codes "app", codes "m2" ∷ []) ∷ (codes "m1", []) ∷ (codes "m2", codes "m1" ∷ []) ∷ []

abbrev two_names : List (List ℕ)
two_names = codes "m1" ∷ codes "m2" ∷ codes "app" ∷ []

-- what is found for the second module, and what for the one that calls it
abbrev second_finding : Texts → Finding
second_finding texts = finding_in (verdicts_by console_and_counter texts (λ other. []) (codes "m1")) (codes "f1")

abbrev app_finding : Texts → Finding
app_finding texts = finding_in (verdicts_by console_and_counter texts (λ other. second_finding texts ∷ []) (codes "m2")) (codes "f2")

abbrev two_findings : Texts → List ℕ → List Finding
two_findings texts name =
    if bytes_eq name (codes "app") then app_finding texts ∷ []
    else (if bytes_eq name (codes "m2") then second_finding texts ∷ [] else [])

abbrev two_verdicts : Texts → List ℕ → ModuleVerdict
two_verdicts texts = verdicts_by console_and_counter texts (two_findings texts)

two_printing : AreJudged console_and_counter (two_with example.printing_text) (two_verdicts (two_with example.printing_text)) two_imports two_names
unfolding reply_computing
two_printing =
    are_judged console_and_counter 12 (two_with example.printing_text) (two_verdicts (two_with example.printing_text)) two_imports two_names
    ((refl, tt), (tt, tt)) ((refl, (refl, tt)), ((refl, tt), (tt, tt))) refl (refl, (refl, (refl, tt))) (record { steps = refl; whole = refl })

two_counting : AreJudged console_and_counter (two_with example.counting_text) (two_verdicts (two_with example.counting_text)) two_imports two_names
unfolding reply_computing
two_counting =
    are_judged console_and_counter 12 (two_with example.counting_text) (two_verdicts (two_with example.counting_text)) two_imports two_names
    ((refl, tt), (tt, tt)) ((refl, (refl, tt)), ((refl, tt), (tt, tt))) refl (refl, (refl, (refl, tt))) (record { steps = refl; whole = refl })

abbrev two_checked : List (List ℕ)
two_checked = codes "check" ∷ codes "  app ok" ∷ codes "  m1 ok" ∷ codes "  m2 ok" ∷ []

abbrev two_lines : List (List ℕ)
two_lines =
    codes "run app.main" ∷ codes "  authority {out, hits}" ∷ codes "  hits tick 1" ∷ codes "  out print 2" ∷ codes "  done unit after 12 steps" ∷ []

two_run : RepliesWith console_and_counter (two_with example.counting_text) (RunDefinition (codes "app") main 1000000)
    two_lines
    false
unfolding reply_computing
two_run =
    run_replies console_and_counter (two_with example.counting_text) (two_verdicts (two_with example.counting_text)) two_imports two_names two_counting
    (codes "app") main 1000000
    two_lines
    false refl refl

pub output_of_two_modules : example.OutputOfTwoModules
unfolding reply_computing
output_of_two_modules =
    let D = console_and_counter in
    let first : JobState = holding ((codes "m1", example.printing_text) ∷ []) in
    let both : JobState = holding ((codes "m1", example.printing_text) ∷ (codes "m2", example.second_text) ∷ []) in
    let printing : JobState = holding (two_with example.printing_text) in
    let counting : JobState = holding (two_with example.counting_text) in
    let run : Request = Ask (RunDefinition (codes "app") main 1000000) in
    let put : Request = PutText (codes "m1") example.counting_text in
    let app : Request = PutText (codes "app") example.second_call in
    let fourth : List (List ℕ) = two_lines ++ [] in
    let third : List (List ℕ) = two_checked ++ fourth in
    let second : List (List ℕ) = (codes "put m1" ∷ []) ++ third in
    let behind : List (List ℕ) = two_checked ++ second in
    let before : List (List ℕ) = (codes "put app" ∷ []) ++ behind in
    one_reply D no_module first (PutText (codes "m1") example.printing_text)
    (PutText (codes "m2") example.second_text ∷ app ∷ example.asked_behind) (PutDone (codes "m1"))
    (codes "put m1" ∷ []) ((codes "put m2" ∷ []) ++ before) false false refl refl refl refl
    (one_reply D first both (PutText (codes "m2") example.second_text) (app ∷ example.asked_behind)
    (PutDone (codes "m2")) (codes "put m2" ∷ []) before false false refl refl refl refl
    (one_reply D both printing app example.asked_behind (PutDone (codes "app")) (codes "put app" ∷ []) behind false false refl refl refl refl
    (one_reply D printing printing (Ask CheckModules) (put ∷ Ask CheckModules ∷ run ∷ [])
    (check_reply (two_with example.printing_text) (two_verdicts (two_with example.printing_text)))
    two_checked second false false refl
    (two_verdicts (two_with example.printing_text), two_printing.are, refl) refl refl
    (one_reply D printing counting put (Ask CheckModules ∷ run ∷ []) (PutDone (codes "m1")) (codes "put m1" ∷ []) third false false refl refl refl refl
    (one_reply D counting counting (Ask CheckModules) (run ∷ [])
    (check_reply (two_with example.counting_text) (two_verdicts (two_with example.counting_text)))
    two_checked fourth false false refl
    (two_verdicts (two_with example.counting_text), two_counting.are, refl) refl refl
    (last_reply D (two_with example.counting_text) (codes "app") main 1000000 two_lines two_run))))))
