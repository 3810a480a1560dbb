-- Terms that were read without places of their own: each place in them is the first one of a text.
use Rattle.std.specs.Prelude.{◌≡◌}
use Rattle.cc_base.specs.declared.place.Place.{Place}
use Rattle.cc_core.specs.Places.{Spots, spots_at, Places, Alone, Around, Between}

-- line 1, column 1
abbrev pub first_place : Place
first_place = record { line = 1; col = 1 }

-- the three places of a term, all of them the first one
abbrev pub first_spots : Spots
first_spots = spots_at first_place first_place first_place

-- every place of a term and of its parts is the first one
abbrev pub AreFirst : Places → Type 0
AreFirst (Alone own) = own ≡ first_spots
AreFirst (Around own part) = (own ≡ first_spots) × AreFirst part
AreFirst (Between own one other) = (own ≡ first_spots) × AreFirst one × AreFirst other
