-- What is answered in a conversation.
use Rattle.std.specs.Prelude.{◌≡◌, ℕ, suc, ◌≤◌, Bool, List, ◌∷◌, ◌++◌, length, map}
use Rattle.std.specs.List.{IsDistinct, flat_map}
use Rattle.std.specs.Str.{bytes_eq}
use Rattle.cc_job.specs.declared.job.Job.{Job}
use Rattle.cc_job.specs.Jobs.{AreItems, IsJob, first_line, items_of}
use Rattle.cc_mnf.specs.ElaboratedModules.{device_names}
use Rattle.cc_words.specs.Lines.{Line, lines_of}
use Rattle.cc_answers.specs.Requests.{requests_of}
use Rattle.cc_replies.specs.Outputs.{IsOutput}
use Rattle.cc_replies.specs.ReplyTexts.{Reply, reply_text}
use Rattle.cc_replies.specs.Requests.{no_module}
use Rattle.cc_conversation.specs.Conversations.{Standing, Rests, Says, IsWithoutAside, IsSpoken, IsHeard, beginning, spoken_reply}
use Rattle.cc_item_reading.specs.Sayings.{item_limit}

-- The lines of each job that is no longer than a job may be are answered as the job is: by the same replies, each with an empty line behind it. Nothing is
-- open then. So it is with each front of a job that is one by itself.
abbrev pub JobsAreSpoken : Type 0
JobsAreSpoken =
    (bytes : List ℕ) (job : Job) → IsJob bytes job → length bytes ≤ item_limit → (text : List ℕ) (refused : Bool)
    → IsOutput job.devices no_module (requests_of job) text refused
    → (replies : List Reply) × (text ≡ flat_map (reply_text (device_names job.devices)) replies)
    × IsSpoken (lines_of bytes) (flat_map (spoken_reply job.devices) replies) refused Rests

-- Where nothing is open behind the first line, and nothing was said that a job cannot say, no live run and no question, the
-- lines are those of a job.
abbrev pub RestingLinesAreAJob : Type 0
RestingLinesAreAJob =
    (lines : List Line) (text : List ℕ) (refused : Bool) (said : Says (suc (length lines)) beginning lines text refused Rests)
    → IsWithoutAside said
    → (job : Job) × AreItems lines (items_of job) × (length job.devices ≤ 16)
    × IsDistinct bytes_eq (map (λ device. device.name) job.devices)

-- Lines have one answer, and the conversation stands in one way then.
abbrev pub LinesHaveOneAnswer : Type 0
LinesHaveOneAnswer =
    (lines : List Line) (text other : List ℕ) (refused later : Bool) (standing second : Standing)
    → IsSpoken lines text refused standing → IsSpoken lines other later second
    → (text ≡ other) × (refused ≡ later) × (standing ≡ second)

-- What was answered to lines stands at the front of what is answered to these and more.
abbrev pub AnswersStay : Type 0
AnswersStay =
    (lines more : List Line) (text other : List ℕ) (refused later : Bool) (standing second : Standing)
    → IsSpoken lines text refused standing → IsSpoken (lines ++ more) other later second
    → (rest : List ℕ) × (other ≡ text ++ rest)

-- So it is with bytes, in whatever pieces they came: they have one answer.
abbrev pub BytesHaveOneAnswer : Type 0
BytesHaveOneAnswer =
    (bytes text other : List ℕ) (refused later : Bool) (standing second : Standing)
    → IsHeard bytes text refused standing → IsHeard bytes other later second
    → (text ≡ other) × (refused ≡ later) × (standing ≡ second)

-- And what was answered to bytes stands at the front of what is answered to these and more.
abbrev pub HeardAnswersStay : Type 0
HeardAnswersStay =
    (bytes more text other : List ℕ) (refused later : Bool) (standing second : Standing)
    → IsHeard bytes text refused standing → IsHeard (bytes ++ more) other later second
    → (rest : List ℕ) × (other ≡ text ++ rest)
