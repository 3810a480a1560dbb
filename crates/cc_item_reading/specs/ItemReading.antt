-- What comes of reading the next item of a conversation.
use Rattle.std.specs.Prelude.{◌≡◌, ◌≢◌, ℕ, ◌+◌, ◌<◌, ◌≤◌, ◌⊎◌, Bool, true, false, List, [], ◌∷◌, ◌++◌, length, map, Option, Some, None, Result, Ok, Err}
use Rattle.std.specs.List.{AllByRecursion, IsDistinct}
use Rattle.std.specs.Str.{bytes_eq}
use Rattle.std.specs.Io.KnownBytes.{Consumes, IsAtEnd}
use Rattle.cc_base.specs.declared.device.DeviceDecl.{DeviceDecl}
use Rattle.cc_policy.specs.declared.policy.Rule.{Rule}
use Rattle.cc_job.specs.Jobs.{Item, Declares, Commands, IsRule, item_lines, rule_line, text}
use Rattle.cc_job.specs.Reading.{rule_of, text_size, rule_count}
use Rattle.cc_job.specs.declared.head.Head.{Head}
use Rattle.cc_job.specs.declared.head.Head.TheVariants as heads
use Rattle.cc_job.specs.declared.job.Command.TheVariants.{Put, Verify, Policy, Replay}
use Rattle.cc_words.specs.Lines.{Line}
use Rattle.cc_line_reading.specs.LineReading.{Held, Hears, HearsPart, IsOver, IsDrained}
use Rattle.cc_item_reading.specs.declared.asides.Aside.{Aside}
use Rattle.cc_item_reading.specs.declared.reading.Heard.{Heard}
use Rattle.cc_item_reading.specs.declared.reading.Heard.TheVariants as heard
use Rattle.cc_item_reading.specs.declared.reading.NotHeard.{NotHeard}
use Rattle.cc_item_reading.specs.declared.reading.NotHeard.TheVariants as errors
use Rattle.cc_item_reading.specs.AsideLines.{aside_of}
use Rattle.cc_item_reading.specs.Sayings.{MaySay, GoesOn, IsOpen, IsAside, IsAsideLine, aside_line, size, item_limit}

-- the lines of an item have begun, or none has
abbrev pub HasBegun : List DeviceDecl → Bool → List Line → Type 0
HasBegun devices begun front = (front ≡ []) ⊎ IsOpen devices begun front

-- These lines of an item were taken, and a part of the next one behind them, at which reading stopped.
pub record StopsIn (devices : List DeviceDecl) (begun : Bool) (old new : Held) (left later : Option (List ℕ)) (front : List Line)
    (part : List ℕ) : Type 0 where
  pub between : Held
  pub there : Option (List ℕ)
  pub hears : Hears old between left there front
  pub begins : HasBegun devices begun front
  pub short : size front ≤ item_limit
  pub further : HearsPart between new there later part

-- an item was heard: it may be said, and its lines, which are not too many bytes, were taken
pub record HearsItem (devices : List DeviceDecl) (begun : Bool) (old new : Held) (left later : Option (List ℕ)) (item : Item) :
    Type 0 where
  pub may : MaySay devices begun item
  pub short : size (item_lines item) ≤ item_limit
  pub hears : Hears old new left later (item_lines item)

-- something was heard that a job cannot say
pub record HearsAside (old new : Held) (left later : Option (List ℕ)) (it : Aside) : Type 0 where
  pub may : IsAside it
  pub short : size (aside_line it ∷ []) ≤ item_limit
  pub hears : Hears old new left later (aside_line it ∷ [])

-- What comes of reading the next item, where so many lines were taken before and behind it: nothing is left; an empty line; an
-- item; something that a job cannot say; a line with which no item goes on, nor says that, behind those of an item that has
-- begun; the end behind such lines; a line with which an item is too long; a read fault, where nothing is held that was read
-- before; or memory lacked.
abbrev pub HearsNextItem : List DeviceDecl → Bool → Held → Held → Option (List ℕ) → Option (List ℕ) → ℕ → ℕ → Result Heard NotHeard → Type 0
HearsNextItem devices begun old new left later before behind (Ok heard.End) =
    Hears old new left later [] × IsOver new × IsAtEnd later × (behind ≡ before)
HearsNextItem devices begun old new left later before behind (Ok heard.Empty) =
    Hears old new left later ([] ∷ []) × (behind ≡ before + 1)
HearsNextItem devices begun old new left later before behind (Ok (heard.Device device)) =
    HearsItem devices begun old new left later (Declares device)
    × (behind ≡ before + length (item_lines (Declares device)))
HearsNextItem devices begun old new left later before behind (Ok (heard.Command command)) =
    HearsItem devices begun old new left later (Commands command)
    × (behind ≡ before + length (item_lines (Commands command)))
HearsNextItem devices begun old new left later before behind (Ok (heard.Aside it)) =
    HearsAside old new left later it × (behind ≡ before + 1)
HearsNextItem devices begun old new left later before behind (Err errors.BadLine) =
    (front : List Line) × (bad : Line) × Hears old new left later (front ++ bad ∷ []) × HasBegun devices begun front
    × (front ≡ [] → bad ≢ []) × (front ≡ [] → IsAsideLine bad → ⊥) × (GoesOn devices begun (front ++ bad ∷ []) → ⊥)
    × (size (front ++ bad ∷ []) ≤ item_limit) × (behind ≡ before + (length front + 1))
HearsNextItem devices begun old new left later before behind (Err errors.CutShort) =
    (front : List Line) × Hears old new left later front × (front ≢ []) × IsOpen devices begun front
    × (size front ≤ item_limit) × IsOver new × IsAtEnd later × (behind ≡ before + length front)
HearsNextItem devices begun old new left later before behind (Err errors.TooLong) =
    (front : List Line) × (part : List ℕ) × (rest : Held) × StopsIn devices begun old rest left later front part
    × (item_limit ≤ size front + length part)
HearsNextItem devices begun old new left later before behind (Err errors.ReadFault) =
    (front : List Line) × (part : List ℕ) × StopsIn devices begun old new left later front part × IsDrained new
HearsNextItem devices begun old new left later before behind (Err errors.NoMemory) =
    (read : List ℕ) × Consumes left later read

-- Where reading stopped behind these lines: a part of the next one was taken.
pub record StopsBehind (old new : Held) (left later : Option (List ℕ)) (lines : List Line) (part : List ℕ) : Type 0 where
  pub between : Held
  pub there : Option (List ℕ)
  pub hears : Hears old between left there lines
  pub further : HearsPart between new there later part

-- What comes of reading so many lines of a text, within so many bytes. It serves the code alone.
abbrev pub HearsText : Held → Held → Option (List ℕ) → Option (List ℕ) → ℕ → ℕ → ℕ → ℕ → List ℕ → Result (Unit {0}) NotHeard → Type 0
HearsText old new left later count room before behind told (Ok u) =
    (lines : List Line) × Hears old new left later lines × (length lines ≡ count) × (told ≡ text lines)
    × (size lines ≤ room) × (behind ≡ before + count)
HearsText old new left later count room before behind told (Err errors.BadLine) = ⊥
HearsText old new left later count room before behind told (Err errors.CutShort) =
    (lines : List Line) × Hears old new left later lines × (length lines < count) × (size lines ≤ room)
    × IsOver new × IsAtEnd later × (behind ≡ before + length lines)
HearsText old new left later count room before behind told (Err errors.TooLong) =
    (lines : List Line) × (part : List ℕ) × (rest : Held) × StopsBehind old rest left later lines part
    × (length lines < count) × (size lines ≤ room) × (room ≤ size lines + length part)
HearsText old new left later count room before behind told (Err errors.ReadFault) =
    (lines : List Line) × (part : List ℕ) × StopsBehind old new left later lines part
    × (length lines < count) × (size lines ≤ room) × IsDrained new
HearsText old new left later count room before behind told (Err errors.NoMemory) =
    (read : List ℕ) × Consumes left later read

-- The same of lines of rules, of which one may be none.
abbrev pub HearsRules : Held → Held → Option (List ℕ) → Option (List ℕ) → ℕ → ℕ → ℕ → ℕ → List Rule → Result (Unit {0}) NotHeard → Type 0
HearsRules old new left later count room before behind rules (Ok u) =
    Hears old new left later (map rule_line rules) × AllByRecursion IsRule rules × (length rules ≡ count)
    × (size (map rule_line rules) ≤ room) × (behind ≡ before + count)
HearsRules old new left later count room before behind rules (Err errors.BadLine) =
    (bad : Line) × Hears old new left later (map rule_line rules ++ bad ∷ []) × AllByRecursion IsRule rules
    × (length rules < count) × (rule_of bad ≡ None) × (size (map rule_line rules ++ bad ∷ []) ≤ room)
    × (behind ≡ before + (length rules + 1))
HearsRules old new left later count room before behind rules (Err errors.CutShort) =
    Hears old new left later (map rule_line rules) × AllByRecursion IsRule rules × (length rules < count)
    × (size (map rule_line rules) ≤ room) × IsOver new × IsAtEnd later × (behind ≡ before + length rules)
HearsRules old new left later count room before behind rules (Err errors.TooLong) =
    (part : List ℕ) × (rest : Held) × StopsBehind old rest left later (map rule_line rules) part
    × AllByRecursion IsRule rules × (length rules < count) × (size (map rule_line rules) ≤ room)
    × (room ≤ size (map rule_line rules) + length part)
HearsRules old new left later count room before behind rules (Err errors.ReadFault) =
    (part : List ℕ) × StopsBehind old new left later (map rule_line rules) part
    × AllByRecursion IsRule rules × (length rules < count) × (size (map rule_line rules) ≤ room) × IsDrained new
HearsRules old new left later count room before behind rules (Err errors.NoMemory) =
    (read : List ℕ) × Consumes left later read

-- What comes of one line more, which is put behind bytes with its line feed. It serves the code alone.
abbrev pub HearsLine : Held → Held → Option (List ℕ) → Option (List ℕ) → ℕ → ℕ → ℕ → List ℕ → List ℕ → Result Bool NotHeard → Type 0
HearsLine old new left later room before behind bytes told (Ok true) =
    (line : Line) × Hears old new left later (line ∷ []) × (told ≡ bytes ++ (line ++ 10 ∷ [])) × (length told ≤ room)
    × (behind ≡ before + 1)
HearsLine old new left later room before behind bytes told (Ok false) =
    Hears old new left later [] × IsOver new × IsAtEnd later × (told ≡ bytes) × (behind ≡ before)
HearsLine old new left later room before behind bytes told (Err errors.BadLine) = ⊥
HearsLine old new left later room before behind bytes told (Err errors.CutShort) = ⊥
HearsLine old new left later room before behind bytes told (Err errors.TooLong) =
    (part : List ℕ) × (rest : Held) × HearsPart old rest left later part × (room ≤ length bytes + length part)
HearsLine old new left later room before behind bytes told (Err errors.ReadFault) =
    (part : List ℕ) × HearsPart old new left later part × IsDrained new
HearsLine old new left later room before behind bytes told (Err errors.NoMemory) =
    (read : List ℕ) × Consumes left later read

-- the item that a line says with the text and the rules behind it
abbrev pub item_with : Head → List ℕ → List Rule → Item
item_with (heads.Device device) text rules = Declares device
item_with (heads.Put name count) text rules = Commands (Put name text)
item_with (heads.Verify count) text rules = Commands (Verify text)
item_with (heads.Policy count) text rules = Commands (Policy rules)
item_with (heads.Replay owner definition fuel count) text rules = Commands (Replay owner definition fuel text)
item_with (heads.Command command) text rules = Commands command

-- that item was heard
abbrev pub IsItemHeard : Heard → Item → Type 0
IsItemHeard heard.End item = ⊥
IsItemHeard heard.Empty item = ⊥
IsItemHeard (heard.Aside it) item = ⊥
IsItemHeard (heard.Device device) item = item ≡ Declares device
IsItemHeard (heard.Command command) item = item ≡ Commands command

-- a read fault is told exactly where the count of faults rose
abbrev pub ReadItemCause : {T : Type 0} → ℕ → ℕ → Result T NotHeard → Type 0
ReadItemCause before behind (Ok told) = behind ≡ before
ReadItemCause before behind (Err errors.BadLine) = behind ≡ before
ReadItemCause before behind (Err errors.CutShort) = behind ≡ before
ReadItemCause before behind (Err errors.TooLong) = behind ≡ before
ReadItemCause before behind (Err errors.ReadFault) = before < behind
ReadItemCause before behind (Err errors.NoMemory) = behind ≡ before

-- What comes of putting the rule that a line is behind rules.
abbrev pub PutsRule : Line → List Rule → List Rule → Result (Unit {0}) NotHeard → Type 0
PutsRule line old new (Ok u) = (rule : Rule) × (rule_of line ≡ Some rule) × (new ≡ old ++ rule ∷ [])
PutsRule line old new (Err errors.BadLine) = (rule_of line ≡ None) × (new ≡ old)
PutsRule line old new (Err errors.CutShort) = ⊥
PutsRule line old new (Err errors.TooLong) = ⊥
PutsRule line old new (Err errors.ReadFault) = ⊥
PutsRule line old new (Err errors.NoMemory) = Unit {0}

-- these lines, and more, may stand behind the line of a head: lines of its text, or its first rules
abbrev pub IsFrontBehind : Head → List Line → Type 0
IsFrontBehind head front =
    (length front < text_size head)
    ⊎ ((rules : List Rule) × (front ≡ map rule_line rules) × AllByRecursion IsRule rules × (text_size head ≡ 0)
    × (length rules < rule_count head))

-- What comes of reading what stands behind the line of a head, within so many bytes: the item with these lines; or some of
-- them, in which it stops.
abbrev pub HearsBehind : Head → ℕ → Held → Held → Option (List ℕ) → Option (List ℕ) → ℕ → ℕ → Result Heard NotHeard → Type 0
HearsBehind head room old new left later before behind (Ok told) =
    (lines : List Line) × (rules : List Rule) × Hears old new left later (lines ++ map rule_line rules)
    × (length lines ≡ text_size head) × AllByRecursion IsRule rules × (length rules ≡ rule_count head)
    × (size (lines ++ map rule_line rules) ≤ room) × IsItemHeard told (item_with head (text lines) rules)
    × (behind ≡ before + (length lines + length rules))
HearsBehind head room old new left later before behind (Err errors.BadLine) =
    (rules : List Rule) × (bad : Line) × Hears old new left later (map rule_line rules ++ bad ∷ [])
    × AllByRecursion IsRule rules × (text_size head ≡ 0) × (length rules < rule_count head) × (rule_of bad ≡ None)
    × (size (map rule_line rules ++ bad ∷ []) ≤ room) × (behind ≡ before + (length rules + 1))
HearsBehind head room old new left later before behind (Err errors.CutShort) =
    (front : List Line) × Hears old new left later front × IsFrontBehind head front × (size front ≤ room) × IsOver new × IsAtEnd later
    × (behind ≡ before + length front)
HearsBehind head room old new left later before behind (Err errors.TooLong) =
    (front : List Line) × (part : List ℕ) × (rest : Held) × StopsBehind old rest left later front part
    × IsFrontBehind head front × (size front ≤ room) × (room ≤ size front + length part)
HearsBehind head room old new left later before behind (Err errors.ReadFault) =
    (front : List Line) × (part : List ℕ) × StopsBehind old new left later front part
    × IsFrontBehind head front × (size front ≤ room) × IsDrained new
HearsBehind head room old new left later before behind (Err errors.NoMemory) =
    (read : List ℕ) × Consumes left later read

-- there are no more devices than there may be, and their names differ
abbrev pub AreDeclared : List DeviceDecl → Type 0
AreDeclared devices = (length devices ≤ 16) × IsDistinct bytes_eq (map (λ it. it.name) devices)

-- what comes of a line that is no item's, where there is memory
abbrev pub IsAsideHeard : Line → Result Heard NotHeard → Type 0
IsAsideHeard line (Ok heard.End) = ⊥
IsAsideHeard line (Ok heard.Empty) = ⊥
IsAsideHeard line (Ok (heard.Device device)) = ⊥
IsAsideHeard line (Ok (heard.Command command)) = ⊥
IsAsideHeard line (Ok (heard.Aside it)) = aside_of line ≡ Some it
IsAsideHeard line (Err errors.BadLine) = aside_of line ≡ None
IsAsideHeard line (Err errors.CutShort) = ⊥
IsAsideHeard line (Err errors.TooLong) = ⊥
IsAsideHeard line (Err errors.ReadFault) = ⊥
IsAsideHeard line (Err errors.NoMemory) = Unit {0}
