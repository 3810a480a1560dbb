-- What may be said next in a submission, behind what was said so far: items, line by line.
use Rattle.std.specs.Prelude.{◌≡◌, ℕ, ◌<◌, ◌≤◌, List, [], ◌∷◌, ◌++◌, length, map, Option, Some, None}
use Rattle.std.specs.List.{IsDistinct}
use Rattle.std.specs.Str.{bytes_eq}
use Rattle.cc_base.specs.declared.device.DeviceDecl.{DeviceDecl}
use Rattle.cc_words.specs.Lines.{Line}
use Rattle.cc_vouching.specs.Submissions.{Item, Declares, Presents, Claims, IsItem, item_lines}

-- what was said so far: the devices that were declared, and the names of the modules that came, in order
pub record SoFar : Type 0 where
  pub devices : List DeviceDecl
  pub modules : List (List ℕ)

-- nothing was said
abbrev pub nothing_yet : SoFar
nothing_yet = record { devices = []; modules = [] }

-- the same with one item more
abbrev pub behind_item : SoFar → Item → SoFar
behind_item so_far (Declares device) =
    record { devices = so_far.devices ++ device ∷ []; modules = so_far.modules }
behind_item so_far (Presents name source) =
    record { devices = so_far.devices; modules = so_far.modules ++ name ∷ [] }
behind_item so_far (Claims owner definition certificate) = so_far

-- the last of names, if there is one
abbrev pub last_of : List (List ℕ) → Option (List ℕ)
last_of [] = None
last_of (name ∷ []) = Some name
last_of (name ∷ next ∷ names) = last_of (next ∷ names)

-- A device may be declared before the first module, where there are fewer than 16, by a name that none of them has.
pub record MayDeclare (so_far : SoFar) (device : DeviceDecl) : Type 0 where
  pub early : so_far.modules ≡ []
  pub few : length so_far.devices < 16
  pub names : IsDistinct bytes_eq (map (λ it. it.name) (so_far.devices ++ device ∷ []))

-- An item may be said: a device that may be declared, a module by a name that none before it has, or a claim of the
-- last module.
abbrev pub MaySubmit : SoFar → Item → Type 0
MaySubmit so_far (Declares device) = IsItem (Declares device) × MayDeclare so_far device
MaySubmit so_far (Presents name source) =
    IsItem (Presents name source) × IsDistinct bytes_eq (so_far.modules ++ name ∷ [])
MaySubmit so_far (Claims owner definition certificate) =
    IsItem (Claims owner definition certificate) × (last_of so_far.modules ≡ Some owner)

-- some item may be said next whose lines begin with these
abbrev pub GoesOn : SoFar → List Line → Type 0
GoesOn so_far lines =
    (item : Item) × (missing : List Line) × MaySubmit so_far item × (item_lines item ≡ lines ++ missing)

-- and it has more lines than these
abbrev pub IsOpen : SoFar → List Line → Type 0
IsOpen so_far lines =
    (item : Item) × (next : Line) × (missing : List Line) × MaySubmit so_far item
    × (item_lines item ≡ lines ++ next ∷ missing)

-- the lines of an item may have as many bytes as a certificate
abbrev pub item_limit : ℕ
item_limit = 4294967295

-- What is so of all that was said so far: there are at most 16 devices, of different names, and the names of the
-- modules differ.
pub record IsInOrder (so_far : SoFar) : Type 0 where
  pub few : length so_far.devices ≤ 16
  pub devices_differ : IsDistinct bytes_eq (map (λ it. it.name) so_far.devices)
  pub modules_differ : IsDistinct bytes_eq so_far.modules

-- items that may be said one behind the other
abbrev pub MayAllBeSaid : SoFar → List Item → Type 0
MayAllBeSaid so_far [] = Unit {0}
MayAllBeSaid so_far (item ∷ items) = MaySubmit so_far item × MayAllBeSaid (behind_item so_far item) items

-- what was said behind them
abbrev pub behind_items : SoFar → List Item → SoFar
behind_items so_far [] = so_far
behind_items so_far (item ∷ items) = behind_items (behind_item so_far item) items
