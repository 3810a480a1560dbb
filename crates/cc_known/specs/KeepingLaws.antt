-- The laws of what is kept of all that is asked.
use Rattle.std.specs.Prelude.{◌≡◌, ◌↔◌, ℕ, ◌≤◌, false, List, ◌∷◌, ◌++◌, length, IsTrue}
use Rattle.cc_base.specs.declared.code.Code.{Code}
use Rattle.cc_base.specs.declared.place.Place.{Place}
use Rattle.cc_capture.specs.Sets.{Set}
use Rattle.cc_core.specs.Contexts.{Context}
use Rattle.cc_core.specs.WellFormed.{IsWellFormedContext, IsWellFormedSet}
use Rattle.cc_core.specs.Subcapturing.{SubcapturesSet}
use Rattle.cc_checking.specs.Outcomes.{Asked, Placed}
use Rattle.cc_checking.specs.Fillings.{Filling, IsServed, AllServed, IsAskedIn, IsLeast, IsOverGlobals, FailsFirst}
use Rattle.cc_checking_laws.specs.FillingLaws.{IsFit, AreFit}
use Rattle.cc_known.specs.FilledHoles.{HasAskedHolesBelow}
use Rattle.cc_known.specs.FormedDemands.{IsWellFormedAsked, AllWellFormed}
use Rattle.cc_known.specs.Keeping.{is_below, is_settled, may_force, is_lost, has_lost, is_repeated, keeping, kept}

-- the test of a set decides subcapturing
abbrev pub TestOfSetsDecides : Type 0
TestOfSetsDecides =
    (context : Context) (left right : Set) → IsWellFormedContext context → IsWellFormedSet context left
    → IsTrue (is_below context left right) ↔ SubcapturesSet context left right

-- what is settled is served by every filling
abbrev pub SettledIsServed : Type 0
SettledIsServed = (filling : Filling) (asked : Asked) → IsTrue (is_settled asked) → IsServed filling asked

-- what is lost is served by none
abbrev pub LostIsNeverServed : Type 0
LostIsNeverServed =
    (filling : Filling) (asked : Asked) → IsWellFormedAsked asked → IsTrue (is_lost asked)
    → IsServed filling asked → ⊥

-- what is kept was asked and is not settled
abbrev pub KeptIsNotSettled : Type 0
KeptIsNotSettled =
    (list : List Placed) (asked : Asked)
    → IsAskedIn (kept list) asked → IsAskedIn list asked × (is_settled asked ≡ false)

-- all that may force something and is not settled is kept
abbrev pub WhatMayForceIsKept : Type 0
WhatMayForceIsKept =
    (list : List Placed) (asked : Asked)
    → IsAskedIn list asked → is_settled asked ≡ false → IsTrue (may_force asked) → IsAskedIn (kept list) asked

-- of the rest nothing is kept behind what is lost
abbrev pub OneLostIsEnough : Type 0
OneLostIsEnough =
    (list before after : List Placed) (placed : Placed)
    → kept list ≡ before ++ placed ∷ after → IsTrue (has_lost before) → IsTrue (may_force placed.asked)

-- so one thing at most is kept where there is no hole
abbrev pub OneIsKeptWithoutHoles : Type 0
OneIsKeptWithoutHoles =
    (list : List Placed) → AllWellFormed list
    → ((asked : Asked) → IsAskedIn list asked → HasAskedHolesBelow 0 asked) → length (kept list) ≤ 1

-- what is kept of two lists
abbrev pub KeptOfBoth : Type 0
KeptOfBoth = (list first second : List Placed) → keeping list (first ++ second) ≡ keeping (keeping list first) second

-- what is kept has the same least filling
abbrev pub KeptForcesTheSame : Type 0
KeptForcesTheSame =
    (root : ℕ) (list : List Placed) (filling : Filling) → IsLeast root (kept list) filling ↔ IsLeast root list filling

-- A filling over the globals that serves the list serves what repeats something in it.
abbrev pub RepeatedIsServed : Type 0
RepeatedIsServed =
    (globals : Context) (filling : Filling) (list : List Placed) (asked : Asked)
    → AreFit globals list → IsFit globals asked → IsOverGlobals (length globals) filling → AllServed filling list
    → IsTrue (is_repeated list asked) → IsServed filling asked

-- the same fillings over the globals serve it
abbrev pub KeptIsServedAlike : Type 0
KeptIsServedAlike =
    (globals : Context) (filling : Filling) (list : List Placed)
    → AreFit globals list → IsOverGlobals (length globals) filling
    → AllServed filling (kept list) ↔ AllServed filling list

-- and it fails first with the same code at the same place
abbrev pub KeptFailsAlike : Type 0
KeptFailsAlike =
    (globals : Context) (filling : Filling) (list : List Placed) (code : Code) (at : Place)
    → AreFit globals list → IsOverGlobals (length globals) filling
    → FailsFirst filling (kept list) code at ↔ FailsFirst filling list code at

-- what is kept of what is fit is fit
abbrev pub KeptIsFit : Type 0
KeptIsFit = (globals : Context) (list : List Placed) → AreFit globals list → AreFit globals (kept list)
