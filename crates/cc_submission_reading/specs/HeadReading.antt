-- What the line of an item says, without the lines behind it. It serves the code alone.
use Rattle.std.specs.Prelude.{ℕ, Bool, false, ◌&&◌, not, ◌==◌, nat_lt, List, length, codes, Option, Some, None, if◌then◌else◌}
use Rattle.std.specs.List.{list_any}
use Rattle.std.specs.Str.{bytes_eq}
use Rattle.cc_job.specs.Reading.{head_of, has_device}
use Rattle.cc_job.specs.declared.head.Head.{Head}
use Rattle.cc_job.specs.declared.head.Head.TheVariants as job_heads
use Rattle.cc_words.specs.Lines.{Line}
use Rattle.cc_words.specs.Words.{◌>>=◌, split_at, first_and_rest, two_of, name_of, number_of, pair_of}
use Rattle.cc_vouching.specs.Submissions.{Item, Declares, Presents, Claims}
use Rattle.cc_submission_reading.specs.declared.heads.ItemHead.{ItemHead}
use Rattle.cc_submission_reading.specs.declared.heads.ItemHead.TheVariants as heads
use Rattle.cc_submission_reading.specs.Submitting.{SoFar, last_of}

-- the device that a line of a job declares
abbrev pub declared_in : Option Head → Option ItemHead
declared_in None = None
declared_in (Some (job_heads.Device device)) = Some (heads.Device device)
declared_in (Some (job_heads.Put name count)) = None
declared_in (Some (job_heads.Verify count)) = None
declared_in (Some (job_heads.Policy count)) = None
declared_in (Some (job_heads.Replay owner definition fuel count)) = None
declared_in (Some (job_heads.Command command)) = None

-- a module's name and how many lines its text has, of these words
unfoldable pub module_of : List (List ℕ) → Option ItemHead
module_of words = do
  two ← two_of words
  name ← name_of two.0
  count ← number_of 4194304 two.1
  Some (heads.Module name count)

-- a definition and how many lines its certificate has
unfoldable pub claim_of : List (List ℕ) → Option ItemHead
claim_of words = do
  two ← two_of words
  pair ← pair_of two.0
  count ← number_of 4194304 two.1
  Some (heads.Claim pair.0 pair.1 count)

-- what the line says, of which these are the first word and those behind it
unfoldable pub head_with : Line → List ℕ → List (List ℕ) → Option ItemHead
head_with line word rest =
    if bytes_eq word (codes "device") then declared_in (head_of line)
    else if bytes_eq word (codes "module") then module_of rest
    else if bytes_eq word (codes "claim") then claim_of rest
    else None

-- what a line says
unfoldable pub item_head_of : Line → Option ItemHead
item_head_of line = do
  split ← first_and_rest (split_at 32 line)
  head_with line split.0 split.1

-- how many lines stand behind it
abbrev pub line_count : ItemHead → ℕ
line_count (heads.Device device) = 0
line_count (heads.Module name count) = count
line_count (heads.Claim owner definition count) = count

-- the item that a line says with the bytes behind it
abbrev pub item_with : ItemHead → List ℕ → Item
item_with (heads.Device device) bytes = Declares device
item_with (heads.Module name count) bytes = Presents name bytes
item_with (heads.Claim owner definition count) bytes = Claims owner definition bytes

-- whether it is this name
abbrev pub is_that : Option (List ℕ) → List ℕ → Bool
is_that None name = false
is_that (Some other) name = bytes_eq other name

-- whether what the line says may be said behind what was said so far
abbrev pub may_stand : SoFar → ItemHead → Bool
may_stand so_far (heads.Device device) =
    (length so_far.modules == 0) && nat_lt (length so_far.devices) 16 && not (has_device so_far.devices device)
may_stand so_far (heads.Module name count) = not (list_any (bytes_eq name) so_far.modules)
may_stand so_far (heads.Claim owner definition count) = is_that (last_of so_far.modules) owner
