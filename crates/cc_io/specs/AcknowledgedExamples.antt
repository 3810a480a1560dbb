-- Worked examples of what a writer has beside what was acknowledged.
use Rattle.std.specs.Prelude.{codes}
use Rattle.cc_io.specs.Acknowledged.{HasBesides}

-- with no fault the writer has what was acknowledged, and neither more nor less
abbrev pub NothingBesides : Type 0
NothingBesides = HasBesides 0 (codes "one") (codes "one") × (HasBesides 0 (codes "onetwo") (codes "one") → ⊥)
    × (HasBesides 0 (codes "on") (codes "one") → ⊥)

-- at a fault it has some bytes more, wherever they stand, and at two faults at two places
abbrev pub SomeBesides : Type 0
SomeBesides = HasBesides 1 (codes "onetwend") (codes "oneend") × HasBesides 1 (codes "oneend") (codes "oneend")
    × HasBesides 2 (codes "onetwendno") (codes "oneend")

-- whatever failed, it has no less than what was acknowledged
abbrev pub NothingLacks : Type 0
NothingLacks = HasBesides 1 (codes "on") (codes "one") → ⊥
