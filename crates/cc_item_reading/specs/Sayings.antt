-- What may be said next in a conversation, of which so many devices were declared so far: items, line by line.
use Rattle.std.specs.Prelude.{◌≡◌, ℕ, ◌<◌, ◌≤◌, Bool, false, codes, encode_utf8_all, List, [], ◌∷◌, ◌++◌, length, map}
use Rattle.std.specs.Fmt.{decimal}
use Rattle.std.specs.List.{IsDistinct}
use Rattle.std.specs.Str.{bytes_eq}
use Rattle.cc_base.specs.Names.{IsName}
use Rattle.cc_base.specs.declared.device.DeviceDecl.{DeviceDecl}
use Rattle.cc_job.specs.Jobs.{Item, Declares, Commands, IsItem, item_lines, text}
use Rattle.cc_words.specs.Lines.{Line}
use Rattle.cc_words.specs.Words.{joined, pair_text}
use Rattle.cc_item_reading.specs.declared.asides.Aside.{Aside}
use Rattle.cc_item_reading.specs.declared.asides.Aside.TheVariants as asides

-- A device may be declared before the first command, where there are fewer than 16, by a name that none of them has.
pub record MayDeclare (devices : List DeviceDecl) (begun : Bool) (device : DeviceDecl) : Type 0 where
  pub early : begun ≡ false
  pub few : length devices < 16
  pub names : IsDistinct bytes_eq (map (λ it. it.name) (devices ++ device ∷ []))

-- An item may be said behind these devices, where a command was given or none: a device that may be declared, or a command.
abbrev pub MaySay : List DeviceDecl → Bool → Item → Type 0
MaySay devices begun (Declares device) = IsItem (Declares device) × MayDeclare devices begun device
MaySay devices begun (Commands command) = IsItem (Commands command)

-- some item may be said next whose lines begin with these
abbrev pub GoesOn : List DeviceDecl → Bool → List Line → Type 0
GoesOn devices begun lines =
    (item : Item) × (missing : List Line) × MaySay devices begun item × (item_lines item ≡ lines ++ missing)

-- and it has more lines than these
abbrev pub IsOpen : List DeviceDecl → Bool → List Line → Type 0
IsOpen devices begun lines =
    (item : Item) × (next : Line) × (missing : List Line) × MaySay devices begun item
    × (item_lines item ≡ lines ++ next ∷ missing)

-- What a job cannot say, as it may be said: that a definition is run on the devices of the host, for at most so many steps; or
-- the question why the module of a name is refused.
abbrev pub IsAside : Aside → Type 0
IsAside (asides.Live owner definition fuel) = (IsName owner × IsName definition) × (fuel ≤ 1000000)
IsAside (asides.Why name) = IsName name

-- the words of its line
abbrev pub aside_words : Aside → List (List ℕ)
aside_words (asides.Live owner definition fuel) = codes "live" ∷ pair_text (owner, definition) ∷ decimal fuel ∷ []
aside_words (asides.Why name) = codes "why" ∷ encode_utf8_all name ∷ []

-- its line
abbrev pub aside_line : Aside → Line
aside_line it = joined 32 (aside_words it)

-- the line says something of that
abbrev pub IsAsideLine : Line → Type 0
IsAsideLine line = (it : Aside) × IsAside it × (line ≡ aside_line it)

-- how many bytes lines have, each with its line feed
abbrev pub size : List Line → ℕ
size lines = length (text lines)

-- the lines of an item may have as many bytes as a job may
abbrev pub item_limit : ℕ
item_limit = 4194304
