-- What comes of reading a submission item by item.
use Rattle.std.specs.Prelude.{◌≡◌, ◌≢◌, ◌⊎◌, ℕ, ◌+◌, ◌≤◌, List, [], ◌∷◌, length, Option, Result, Ok, Err}
use Rattle.std.specs.Io.KnownBytes.{Consumes, IsAtEnd}
use Rattle.cc_words.specs.Lines.{Line}
use Rattle.cc_line_reading.specs.LineReading.{Held, Hears, HearsPart, IsOver, IsDrained}
use Rattle.cc_item_reading.specs.Sayings.{size}
use Rattle.cc_item_reading.specs.ItemReading.{HearsText}
use Rattle.cc_item_reading.specs.declared.reading.NotHeard.{NotHeard}
use Rattle.cc_item_reading.specs.declared.reading.NotHeard.TheVariants as errors
use Rattle.cc_vouching.specs.Submissions.{Item, Declares, Presents, Claims, item_lines, first_line}
use Rattle.cc_submission_reading.specs.declared.heads.ItemHead.{ItemHead}
use Rattle.cc_submission_reading.specs.declared.hearing.Heard.{Heard}
use Rattle.cc_submission_reading.specs.declared.hearing.Heard.TheVariants as heard
use Rattle.cc_submission_reading.specs.HeadReading.{line_count, item_with}
use Rattle.cc_submission_reading.specs.Submitting.{SoFar, MaySubmit, GoesOn, IsOpen, item_limit}

-- the lines of an item have begun, or none has
abbrev pub HasBegun : SoFar → List Line → Type 0
HasBegun so_far front = (front ≡ []) ⊎ IsOpen so_far front

-- These lines of an item were taken, and a part of the next one behind them, at which reading stopped.
pub record StopsIn (so_far : SoFar) (old new : Held) (left later : Option (List ℕ)) (front : List Line)
    (part : List ℕ) : Type 0 where
  pub between : Held
  pub there : Option (List ℕ)
  pub hears : Hears old between left there front
  pub begins : HasBegun so_far front
  pub short : size front ≤ item_limit
  pub further : HearsPart between new there later part

-- an item was heard: it may be said, and its lines, which are not too many bytes, were taken
pub record HearsItem (so_far : SoFar) (old new : Held) (left later : Option (List ℕ)) (before behind : ℕ)
    (item : Item) : Type 0 where
  pub may : MaySubmit so_far item
  pub short : size (item_lines item) ≤ item_limit
  pub hears : Hears old new left later (item_lines item)
  pub counted : behind ≡ before + length (item_lines item)

-- What comes of reading the next item, where so many lines were taken before and behind it: nothing is left; an item; a
-- line with which no item begins; the end behind lines of an item that has more; a line with which an item is too long; a
-- read fault, where nothing is held that was read before; or memory lacked. Of the lines behind the first none is bad,
-- since a text and a certificate may have any.
abbrev pub HearsNextItem :
    SoFar → Held → Held → Option (List ℕ) → Option (List ℕ) → ℕ → ℕ → Result Heard NotHeard → Type 0
HearsNextItem so_far old new left later before behind (Ok heard.End) =
    Hears old new left later [] × IsOver new × IsAtEnd later × (behind ≡ before)
HearsNextItem so_far old new left later before behind (Ok (heard.Device device)) =
    HearsItem so_far old new left later before behind (Declares device)
HearsNextItem so_far old new left later before behind (Ok (heard.Module name source)) =
    HearsItem so_far old new left later before behind (Presents name source.items)
HearsNextItem so_far old new left later before behind (Ok (heard.Claim owner definition certificate)) =
    HearsItem so_far old new left later before behind (Claims owner definition certificate.items)
HearsNextItem so_far old new left later before behind (Err errors.BadLine) =
    (bad : Line) × Hears old new left later (bad ∷ []) × (GoesOn so_far (bad ∷ []) → ⊥)
    × (size (bad ∷ []) ≤ item_limit) × (behind ≡ before + 1)
HearsNextItem so_far old new left later before behind (Err errors.CutShort) =
    (front : List Line) × Hears old new left later front × (front ≢ []) × IsOpen so_far front
    × (size front ≤ item_limit) × IsOver new × IsAtEnd later × (behind ≡ before + length front)
HearsNextItem so_far old new left later before behind (Err errors.TooLong) =
    (front : List Line) × (part : List ℕ) × (rest : Held) × StopsIn so_far old rest left later front part
    × (item_limit ≤ size front + length part)
HearsNextItem so_far old new left later before behind (Err errors.ReadFault) =
    (front : List Line) × (part : List ℕ) × StopsIn so_far old new left later front part × IsDrained new
HearsNextItem so_far old new left later before behind (Err errors.NoMemory) =
    (read : List ℕ) × Consumes left later read

-- What comes of reading the first line: it is that of each submission; or it is another; or nothing is there; or it is
-- too long, where a part of it was taken; or a read fault; or memory lacked.
abbrev pub HearsFirstLine :
    Held → Held → Option (List ℕ) → Option (List ℕ) → ℕ → ℕ → Result (Unit {0}) NotHeard → Type 0
HearsFirstLine old new left later before behind (Ok u) =
    Hears old new left later (first_line ∷ []) × (behind ≡ before + 1)
HearsFirstLine old new left later before behind (Err errors.BadLine) =
    (bad : Line) × Hears old new left later (bad ∷ []) × (bad ≢ first_line) × (size (bad ∷ []) ≤ item_limit)
    × (behind ≡ before + 1)
HearsFirstLine old new left later before behind (Err errors.CutShort) =
    Hears old new left later [] × IsOver new × IsAtEnd later × (behind ≡ before)
HearsFirstLine old new left later before behind (Err errors.TooLong) =
    (part : List ℕ) × (rest : Held) × HearsPart old rest left later part × (item_limit ≤ length part)
HearsFirstLine old new left later before behind (Err errors.ReadFault) =
    (part : List ℕ) × HearsPart old new left later part × IsDrained new
HearsFirstLine old new left later before behind (Err errors.NoMemory) = (read : List ℕ) × Consumes left later read

-- that item was heard; it serves the code alone
abbrev pub IsItemHeard : Heard → Item → Type 0
IsItemHeard heard.End item = ⊥
IsItemHeard (heard.Device device) item = item ≡ Declares device
IsItemHeard (heard.Module name source) item = item ≡ Presents name source.items
IsItemHeard (heard.Claim owner definition certificate) item = item ≡ Claims owner definition certificate.items

-- What comes of reading the lines behind the one of a head, within so many bytes: the item with these bytes; or some
-- lines, in which it stops. It serves the code alone.
abbrev pub HearsBehind :
    ItemHead → ℕ → Held → Held → Option (List ℕ) → Option (List ℕ) → ℕ → ℕ → Result Heard NotHeard → Type 0
HearsBehind head room old new left later before behind (Ok told) =
    (bytes : List ℕ) × HearsText old new left later (line_count head) room before behind bytes (Ok tt)
    × IsItemHeard told (item_with head bytes)
HearsBehind head room old new left later before behind (Err error) =
    (bytes : List ℕ) × HearsText old new left later (line_count head) room before behind bytes (Err error)
