-- What `vouch` reads: devices, and then modules, each with its text and, behind it, with certificates for its definitions.
-- It is a list of lines, and nothing else is read than what is written here.
use Rattle.std.specs.Prelude.{◌≡◌, ◌⊎◌, ℕ, ◌+◌, ◌<◌, ◌≤◌, List, [], ◌∷◌, ◌++◌, length, map, take, codes, encode_utf8_all}
use Rattle.std.specs.Fmt.{decimal}
use Rattle.std.specs.List.{AllByRecursion, IsDistinct, flat_map}
use Rattle.std.specs.Str.{bytes_eq}
use Rattle.cc_base.specs.Names.{IsName}
use Rattle.cc_base.specs.declared.device.DeviceDecl.{DeviceDecl}
use Rattle.cc_words.specs.Lines.{Line, lines_of, AreWholeLines}
use Rattle.cc_words.specs.Words.{joined, pair_text}
use Rattle.cc_job.specs.Jobs as job
use Rattle.cc_job.specs.Jobs.{text}

-- a claim: that a definition of this name has a certificate, and the bytes of that
pub record Claim : Type 0 where
  pub definition : List ℕ
  pub certificate : List ℕ

-- a module with its claims: its name, its text, and the claims, in order
pub record ClaimedModule : Type 0 where
  pub name : List ℕ
  pub source : List ℕ
  pub claims : List Claim

-- devices, and modules with their claims
pub record Submission : Type 0 where
  pub devices : List DeviceDecl
  pub modules : List ClaimedModule

-- What is said line by line: a device is declared, a module comes with its text, or a definition of a module with the
-- bytes of a certificate.
pub data Item : Type 0 where
  Declares : (device : DeviceDecl) → Item
  Presents : (name : List ℕ) (source : List ℕ) → Item
  Claims : (owner : List ℕ) (definition : List ℕ) (certificate : List ℕ) → Item

-- the lines of a text, behind a line of these words and of their number
abbrev pub counted_lines : List (List ℕ) → List ℕ → List Line
counted_lines words bytes = joined 32 (words ++ decimal (length (lines_of bytes)) ∷ []) ∷ lines_of bytes

-- the lines of an item; a device stands as in a job
abbrev pub item_lines : Item → List Line
item_lines (Declares device) = job.item_lines (job.Declares device)
item_lines (Presents name source) = counted_lines (codes "module" ∷ encode_utf8_all name ∷ []) source
item_lines (Claims owner definition certificate) =
    counted_lines (codes "claim" ∷ pair_text (owner, definition) ∷ []) certificate

-- Bytes that are given by the number of their lines: each has its line feed, and there are not too many.
abbrev pub AreCounted : List ℕ → Type 0
AreCounted bytes = AreWholeLines bytes × (length (lines_of bytes) ≤ 4194304)

-- names are names, and bytes can be counted
abbrev pub IsItem : Item → Type 0
IsItem (Declares device) = job.IsItem (job.Declares device)
IsItem (Presents name source) = IsName name × AreCounted source
IsItem (Claims owner definition certificate) = (IsName owner × IsName definition) × AreCounted certificate

-- the items of a module: its text, and then its claims
abbrev pub module_items : ClaimedModule → List Item
module_items it =
    Presents it.name it.source ∷ map (λ claim. Claims it.name claim.definition claim.certificate) it.claims

-- all items, devices before modules
abbrev pub items_of : Submission → List Item
items_of submission = map Declares submission.devices ++ flat_map module_items submission.modules

-- There are at most 16 devices, of different names, and modules of different names, and each item can be said.
pub record IsFit (submission : Submission) : Type 0 where
  pub few : length submission.devices ≤ 16
  pub devices_differ : IsDistinct bytes_eq (map (λ device. device.name) submission.devices)
  pub modules_differ : IsDistinct bytes_eq (map (λ it. it.name) submission.modules)
  pub items : AllByRecursion IsItem (items_of submission)

-- the first line of each submission
abbrev pub first_line : Line
first_line = codes "vouch 1"

-- all its lines
abbrev pub submission_lines : Submission → List Line
submission_lines submission = first_line ∷ flat_map item_lines (items_of submission)

-- the bytes are those of the submission: its lines, each with its line feed
pub record IsSubmission (bytes : List ℕ) (submission : Submission) : Type 0 where
  pub fit : IsFit submission
  pub written : bytes ≡ text (submission_lines submission)

-- a submission begins with these lines
pub record BeginsSubmission (lines : List Line) : Type 0 where
  pub submission : Submission
  pub fit : IsFit submission
  pub behind : List Line
  pub begins : submission_lines submission ≡ lines ++ behind

-- The bytes are no submission, and this is the first line such that none begins with the lines up to it, each taken
-- whole; where there is none, it is the number of lines plus one.
pub record IsBadAt (bytes : List ℕ) (number : ℕ) : Type 0 where
  pub none : (submission : Submission) → IsSubmission bytes submission → ⊥
  pub first : (earlier : ℕ) → earlier < number → BeginsSubmission (take earlier (lines_of bytes))
  pub ends :
      ((number ≤ length (lines_of bytes)) × (BeginsSubmission (take number (lines_of bytes)) → ⊥))
      ⊎ (number ≡ length (lines_of bytes) + 1)
