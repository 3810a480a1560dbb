-- Outputs of several commands, from the answer to each.
use Rattle.std.proofs.Common.{◌≡◌, ◌∙◌, ℕ, Bool, List, [], ◌∷◌, ◌++◌, refl, sym, ap, subst, append_assoc}
use Rattle.std.specs.Prelude.{◌||◌}
use Rattle.std.specs.List.{flat_map}
use Rattle.cc_base.specs.declared.device.DeviceDecl.{DeviceDecl}
use Rattle.cc_job.specs.Jobs.{text}
use Rattle.cc_mnf.specs.ElaboratedModules.{device_names}
use Rattle.cc_replies.specs.Outputs.{IsOutput}
use Rattle.cc_replies.specs.Replies.{Replies, after}
use Rattle.cc_replies.specs.ReplyTexts.{Reply, line, reply_text, is_refusal}
use Rattle.cc_replies.specs.Requests.{Request, JobState}

-- in this state the reply to a request has these lines, and tells of a refusal or of none
abbrev pub AnswersWith : List DeviceDecl → JobState → Request → List (List ℕ) → Bool → Type 0
AnswersWith devices state request lines refused =
    (reply : Reply) × Replies devices state request reply
    × (reply_text (device_names devices) reply ≡ flat_map line lines) × (is_refusal reply ≡ refused)

-- the output of a command and of those behind it
pub then_writes : (devices : List DeviceDecl) (state next : JobState) (request : Request) (others : List Request)
    (lines : List (List ℕ)) (rest : List ℕ) (refused later : Bool) → AnswersWith devices state request lines refused
    → after state request ≡ next → IsOutput devices next others rest later
    → IsOutput devices state (request ∷ others) (flat_map line lines ++ rest) (refused || later)
then_writes devices state next request others lines rest refused later answer is behind = (
  answer.0,
  rest,
  later,
  answer.1,
  subst (λ s. IsOutput devices s others rest later) (sym is) behind,
  ap (λ t. t ++ rest) (sym answer.2),
  ap (λ r. r || later) (sym answer.3),
)

-- lines are written as the lines of a job are
pub lines-text : (lines : List (List ℕ)) → flat_map line lines ++ [] ≡ text lines
lines-text [] = refl
lines-text (first ∷ rest) =
    append_assoc (line first) (flat_map line rest) []
    ∙ append_assoc first (10 ∷ []) (flat_map line rest ++ [])
    ∙ ap (λ t. first ++ 10 ∷ t) (lines-text rest)
