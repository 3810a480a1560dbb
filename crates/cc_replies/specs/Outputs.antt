-- What is written for the commands of a job, one after another.
use Rattle.std.specs.Prelude.{◌≡◌, ℕ, Bool, false, ◌||◌, List, [], ◌∷◌, ◌++◌}
use Rattle.cc_base.specs.declared.device.DeviceDecl.{DeviceDecl}
use Rattle.cc_verdicts.specs.PresentTexts.{ArePresent}
use Rattle.cc_mnf.specs.ElaboratedModules.{device_names}
use Rattle.cc_replies.specs.ReplyTexts.{Reply, reply_text, is_refusal}
use Rattle.cc_replies.specs.Requests.{Request, JobState}
use Rattle.cc_replies.specs.Replies.{Replies, after}

-- The text of the replies to the commands, in this state before the first, and whether one of the
-- replies tells of a refusal.
abbrev pub IsOutput : List DeviceDecl → JobState → List Request → List ℕ → Bool → Type 0
IsOutput devices state [] text refused = (text ≡ []) × (refused ≡ false)
IsOutput devices state (first ∷ others) text refused =
    (reply : Reply) × (rest : List ℕ) × (later : Bool) × Replies devices state first reply
    × IsOutput devices (after state first) others rest later
    × (text ≡ reply_text (device_names devices) reply ++ rest) × (refused ≡ (is_refusal reply || later))

-- the state after all of the commands
abbrev pub after_all : JobState → List Request → JobState
after_all state [] = state
after_all state (first ∷ others) = after_all (after state first) others

-- Commands have one output, and one answer to whether a reply is a refusal.
abbrev pub OutputsAreUnique : Type 0
OutputsAreUnique =
    (devices : List DeviceDecl) (state : JobState) (requests : List Request) (first second : List ℕ)
    (first_refused second_refused : Bool) → ArePresent state.texts
    → IsOutput devices state requests first first_refused → IsOutput devices state requests second second_refused
    → (first ≡ second) × (first_refused ≡ second_refused)
