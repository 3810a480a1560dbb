-- What is said of worked replies: that the reply to a question is a text of these lines.
use Rattle.std.specs.Prelude.{◌≡◌, ℕ, pos, codes, Bool, List, [], ◌∷◌}
use Rattle.std.specs.List.{flat_map}
use Rattle.cc_base.specs.declared.device.DeviceDecl.{DeviceDecl}
use Rattle.cc_base.specs.declared.device.Kind.TheVariants as kinds
use Rattle.cc_verdicts.specs.PresentTexts.{Texts}
use Rattle.cc_mnf.specs.ElaboratedModules.{device_names}
use Rattle.cc_replies.specs.Replies.{Replies}
use Rattle.cc_replies.specs.ReplyTexts.{Reply, line, reply_text, is_refusal}
use Rattle.cc_policy.specs.declared.policy.Rule.{Rule}
use Rattle.cc_replies.specs.Requests.{Question, Ask, holding_under}

-- Beside the devices, where these rules are in force and these texts are present, the reply to the question has these
-- lines, and tells of a refusal or of none.
abbrev pub RepliesUnder : List Rule → List DeviceDecl → Texts → Question → List (List ℕ) → Bool → Type 0
RepliesUnder rules devices texts question lines refused =
    (reply : Reply) × Replies devices (holding_under rules texts) (Ask question) reply
    × (reply_text (device_names devices) reply ≡ flat_map line lines) × (is_refusal reply ≡ refused)

-- the same where no rule is in force
abbrev pub RepliesWith : List DeviceDecl → Texts → Question → List (List ℕ) → Bool → Type 0
RepliesWith = RepliesUnder []

-- the console `out` alone
abbrev pub console : List DeviceDecl
console = record { name = codes "out"; kind = kinds.Console } ∷ []

-- the console `out` and the counter `hits`
abbrev pub console_and_counter : List DeviceDecl
console_and_counter =
    record { name = codes "out"; kind = kinds.Console } ∷ record { name = codes "hits"; kind = kinds.Counter } ∷ []

-- these, and the file `data`, which begins with the numbers 3 and 5
abbrev pub three_devices : List DeviceDecl
three_devices =
    record { name = codes "out"; kind = kinds.Console }
    ∷ record { name = codes "hits"; kind = kinds.Counter }
    ∷ record { name = codes "data"; kind = kinds.File (pos 3 ∷ pos 5 ∷ []) } ∷ []

-- the name of the module in examples with one, and another name
abbrev pub m : List ℕ
m = codes "m"

abbrev pub n : List ℕ
n = codes "n"

-- the name of the definition that is run
abbrev pub main : List ℕ
main = codes "main"

-- the text of these lines alone is present, as the module `m`
abbrev pub one_module : List (List ℕ) → Texts
one_module lines = (m, flat_map line lines) ∷ []
