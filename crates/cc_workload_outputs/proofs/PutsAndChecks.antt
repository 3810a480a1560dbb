-- What is written for the puts of a workload, and for its checks.
use Rattle.std.proofs.Common.{◌≡◌, ◌∙◌, ◌⊎◌, ℕ, zero, suc, ◌+◌, ◌-◌, ◌^◌, ◌<◌, ◌≤◌, Bool, true, false, ◌||◌, List, [], ◌∷◌, ◌++◌, length, map, codes, refl, sym, ap, subst, inl, inr, arith, if◌then◌else◌, append_assoc}
use Rattle.std.proofs.lemmas.Bool.{cases_eq, le-ltb, lt-leb}
use Rattle.std.proofs.lemmas.List.Sums.{count_by-le-length}
use Rattle.std.specs.BTreeMap.{insert_entry}
use Rattle.std.specs.List.{AllByRecursion, flat_map, list_any, range_with_len}
use Rattle.std.specs.Map.{keys_of}
use Rattle.std.specs.Prelude.{encode_utf8_all, nat_lt, nat_le, not}
use Rattle.std.specs.Str.{bytes_eq}
use Rattle.cc_base.specs.Names.{compare_names}
use Rattle.cc_base.specs.declared.code.Code.TheVariants.{E30, E31}
use Rattle.cc_base.specs.declared.device.DeviceDecl.{DeviceDecl}
use Rattle.cc_mnf.specs.ElaboratedModules.{device_names}
use Rattle.cc_replies.specs.Outputs.{IsOutput}
use Rattle.cc_replies.specs.Replies.{Replies, after, put_reply, check_reply, texts_after}
use Rattle.cc_replies.specs.ReplyTexts.{Reply, PutDone, PutRefused, line, reply_text, is_refusal, is_refused, verdict_line}
use Rattle.cc_replies.specs.Requests.{Request, JobState, PutText, Ask, CheckModules, holding}
use Rattle.cc_verdicts.specs.ModuleVerdicts.{CheckedDefinition, ModuleVerdict, IsAccepted}
use Rattle.cc_verdicts.specs.PresentTexts.{Texts, AreVerdicts, others_present, longest_text, most_modules}
use Rattle.cc_workload_outputs.specs.WorkloadLines.{put_line, ok_line}
use Rattle.cc_workload_outputs.proofs.LinePieces.{ok_pieces}

-- in this state the reply to a request has this text, and tells of no refusal
abbrev pub Answers : List DeviceDecl → JobState → Request → List ℕ → Type 0
Answers devices state request text =
    (reply : Reply) × Replies devices state request reply × (reply_text (device_names devices) reply ≡ text)
    × (is_refusal reply ≡ false)

-- the output of a command and of those behind it
pub then_writes : (devices : List DeviceDecl) (state next : JobState) (request : Request) (others : List Request) (text rest : List ℕ)
    → Answers devices state request text → after state request ≡ next → IsOutput devices next others rest false
    → IsOutput devices state (request ∷ others) (text ++ rest) false
then_writes devices state next request others text rest answer is behind = (
  answer.0,
  rest,
  false,
  answer.1,
  subst (λ s. IsOutput devices s others rest false) (sym is) behind,
  ap (λ t. t ++ rest) (sym answer.2),
  ap (λ r. r || false) (sym answer.3),
)

-- PUTS

put_done : (texts : Texts) (name text : List ℕ) → length text ≤ 65536 → length texts ≤ 255 → put_reply texts name text ≡ PutDone name
put_done texts name text short few =
    let others : others_present name texts ≤ 255 = omega (arith, few, count_by-le-length (λ one. not (bytes_eq name one.0)) texts) in
    ap (λ b. if b then PutRefused name E30 else (if nat_le most_modules (others_present name texts) then PutRefused name E31 else PutDone name))
    (le-ltb 65536 (length text) short)
    ∙ ap (λ b. if b then PutRefused name E31 else PutDone name) (lt-leb 256 (others_present name texts) (omega (arith, others)))

-- a put that is carried out
pub put_writes : (devices : List DeviceDecl) (texts : Texts) (name text : List ℕ) (others : List Request) (rest : List ℕ)
    → length text ≤ 65536 → length texts ≤ 255 → encode_utf8_all name ≡ name
    → IsOutput devices (holding (insert_entry compare_names texts name text)) others rest false
    → IsOutput devices (holding texts) (PutText name text ∷ others) (line (put_line name) ++ rest) false
put_writes devices texts name text others rest short few plain behind =
    let done = put_done texts name text short few in
    then_writes devices (holding texts) (holding (insert_entry compare_names texts name text)) (PutText name text) others
    (line (put_line name)) rest
    (put_reply texts name text, refl, ap (reply_text (device_names devices)) done ∙ ap (λ n. line (put_line n)) plain, ap is_refusal done)
    (ap (λ reply. holding (if is_refusal reply then texts else insert_entry compare_names texts name text)) done)
    behind

-- CHECKS

-- a module is accepted, and its name is its own text
abbrev pub IsFine : (List ℕ → ModuleVerdict) → List ℕ → Type 0
IsFine verdicts name = (encode_utf8_all name ≡ name) × ((definitions : List CheckedDefinition) × (verdicts name ≡ IsAccepted definitions))

fine_line : (verdicts : List ℕ → ModuleVerdict) (name : List ℕ) → IsFine verdicts name
    → verdict_line (name, verdicts name) ≡ line (ok_line name)
fine_line verdicts name fine =
    ap (λ v. verdict_line (name, v)) fine.1.1
    ∙ ap (λ n. line (codes "  " ++ (n ++ codes " " ++ codes "ok"))) fine.0
    ∙ ap (λ t. line t) (ok_pieces name)

fine_lines : (verdicts : List ℕ → ModuleVerdict) (texts : Texts) → AllByRecursion (IsFine verdicts) (keys_of texts)
    → flat_map verdict_line (map (λ one. (one.0, verdicts one.0)) texts) ≡ flat_map line (map ok_line (keys_of texts))
fine_lines verdicts [] fine = refl
fine_lines verdicts (first ∷ rest) fine =
    ap (λ t. t ++ flat_map verdict_line (map (λ one. (one.0, verdicts one.0)) rest)) (fine_line verdicts first.0 fine.0)
    ∙ ap (λ t. line (ok_line first.0) ++ t) (fine_lines verdicts rest fine.1)

none_refused : (verdicts : List ℕ → ModuleVerdict) (texts : Texts) → AllByRecursion (IsFine verdicts) (keys_of texts)
    → list_any (λ (one : List ℕ × ModuleVerdict). is_refused one.1) (map (λ one. (one.0, verdicts one.0)) texts) ≡ false
none_refused verdicts [] fine = refl
none_refused verdicts (first ∷ rest) fine =
    ap (λ v. is_refused v || list_any (λ (one : List ℕ × ModuleVerdict). is_refused one.1) (map (λ one. (one.0, verdicts one.0)) rest)) fine.0.1.1
    ∙ none_refused verdicts rest fine.1

-- a check that accepts each module
pub check_answers : (devices : List DeviceDecl) (texts : Texts) (names : List (List ℕ)) (verdicts : List ℕ → ModuleVerdict)
    → AreVerdicts devices texts verdicts → keys_of texts ≡ names → AllByRecursion (IsFine verdicts) names
    → Answers devices (holding texts) (Ask CheckModules) (flat_map line (codes "check" ∷ map ok_line names))
check_answers devices texts names verdicts are is fine =
    let each : AllByRecursion (IsFine verdicts) (keys_of texts) = subst (AllByRecursion (IsFine verdicts)) (sym is) fine in (
      check_reply texts verdicts,
      (verdicts, are, refl),
      ap (λ t. line (codes "check") ++ t) (fine_lines verdicts texts each ∙ ap (λ ns. flat_map line (map ok_line ns)) is),
      none_refused verdicts texts each,
    )
