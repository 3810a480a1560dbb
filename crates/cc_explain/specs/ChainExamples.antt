-- Worked chains.
use Rattle.std.specs.Prelude.{List, [], ◌∷◌}
use Rattle.cc_explain.specs.Chains.{IsChain, IsFirstShortest}
use Rattle.cc_explain.specs.Entries.{Entries, targets_of}
use Rattle.cc_explain.specs.declared.target.Target.{Target}
use Rattle.cc_explain.specs.declared.target.Target.TheVariants.{Definition, Device, Cap}

-- devices
abbrev pub out : Target
out = Device 0

abbrev pub hits : Target
hits = Device 1

-- two definitions with a device each, and one that names both
abbrev pub two_devices : Entries
two_devices = (out ∷ []) ∷ (hits ∷ []) ∷ (Definition 0 ∷ Definition 1 ∷ []) ∷ []

abbrev pub ThroughTheOneThatHasIt : Type 0
ThroughTheOneThatHasIt =
    IsFirstShortest (targets_of two_devices) (Definition 2) out (Definition 2 ∷ Definition 0 ∷ out ∷ [])
    × IsFirstShortest (targets_of two_devices) (Definition 2) hits (Definition 2 ∷ Definition 1 ∷ hits ∷ [])
    × IsFirstShortest (targets_of two_devices) (Definition 0) out (Definition 0 ∷ out ∷ [])

-- one through another, each named by the next
abbrev pub in_turn : Entries
in_turn = (out ∷ []) ∷ (Definition 0 ∷ []) ∷ (Definition 1 ∷ []) ∷ (Definition 2 ∷ []) ∷ []

abbrev pub InTurn : Type 0
InTurn = IsFirstShortest (targets_of in_turn) (Definition 3) out (Definition 3 ∷ Definition 2 ∷ Definition 1 ∷ Definition 0 ∷ out ∷ [])

-- What is named first may lead a longer way. A device of its own entry is nearest.
abbrev pub longer_first : Entries
longer_first =
    (out ∷ []) ∷ (Definition 0 ∷ []) ∷ (Definition 1 ∷ Definition 0 ∷ []) ∷ (Definition 2 ∷ Definition 0 ∷ out ∷ []) ∷ []

abbrev pub LeastLength : Type 0
LeastLength =
    IsFirstShortest (targets_of longer_first) (Definition 2) out (Definition 2 ∷ Definition 0 ∷ out ∷ [])
    × IsFirstShortest (targets_of longer_first) (Definition 3) out (Definition 3 ∷ out ∷ [])

-- Of ways as long the one whose target stands first in the entry is taken, whichever its number; a second place of a
-- target counts for nothing.
abbrev pub as_long : Entries
as_long =
    (out ∷ [])
    ∷ (out ∷ [])
    ∷ (Definition 1 ∷ Definition 0 ∷ [])
    ∷ (Definition 0 ∷ Definition 1 ∷ Definition 0 ∷ [])
    ∷ (Definition 3 ∷ Definition 2 ∷ [])
    ∷ (Definition 2 ∷ Definition 3 ∷ [])
    ∷ []

abbrev pub FirstOfAsLong : Type 0
FirstOfAsLong =
    IsFirstShortest (targets_of as_long) (Definition 2) out (Definition 2 ∷ Definition 1 ∷ out ∷ [])
    × IsFirstShortest (targets_of as_long) (Definition 3) out (Definition 3 ∷ Definition 0 ∷ out ∷ [])
    × IsFirstShortest (targets_of as_long) (Definition 4) out (Definition 4 ∷ Definition 3 ∷ Definition 0 ∷ out ∷ [])
    × IsFirstShortest (targets_of as_long) (Definition 5) out (Definition 5 ∷ Definition 2 ∷ Definition 1 ∷ out ∷ [])

-- the universal capability, and a device that is not reached
abbrev pub universal : Entries
universal = (Cap ∷ []) ∷ (out ∷ Definition 0 ∷ []) ∷ [] ∷ (Definition 2 ∷ []) ∷ []

abbrev pub UniversalCapability : Type 0
UniversalCapability =
    IsFirstShortest (targets_of universal) (Definition 1) Cap (Definition 1 ∷ Definition 0 ∷ Cap ∷ [])
    × IsFirstShortest (targets_of universal) (Definition 1) out (Definition 1 ∷ out ∷ [])

abbrev pub NoChain : Type 0
NoChain =
    ((chain : List Target) → IsChain (targets_of universal) (Definition 0) out chain → ⊥)
    × ((chain : List Target) → IsChain (targets_of universal) (Definition 1) hits chain → ⊥)
    × ((chain : List Target) → IsChain (targets_of universal) (Definition 3) Cap chain → ⊥)
