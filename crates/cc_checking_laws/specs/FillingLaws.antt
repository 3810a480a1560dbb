-- The laws of fillings: the least filling, and all those that serve.
use Rattle.std.specs.Prelude.{◌≡◌, ◌↔◌, ℕ, List, [], ◌∷◌, ◌++◌, length}
use Rattle.cc_capture.specs.Sets.{Set}
use Rattle.cc_core.specs.Contexts.{TermEntry, TypeEntry, Context}
use Rattle.cc_core.specs.Holes.{HasHoleAloneOrNone}
use Rattle.cc_core.specs.Occurrences.{HasNoHole, HasNoHoleInSet}
use Rattle.cc_core.specs.WellFormed.{IsWellFormedContext, IsWellFormedSet}
use Rattle.cc_core.specs.Subcapturing.{SubcapturesSet}
use Rattle.cc_checking.specs.Outcomes.{Asked, IsBelow, IsCapless, Placed}
use Rattle.cc_checking.specs.Fillings.{Filling, AllServed, IsAskedIn, IsLeast, IsOverGlobals}

-- each entry is a variable of terms, and has no hole
abbrev pub AreGlobals : Context → Type 0
AreGlobals [] = Unit {0}
AreGlobals (TermEntry shape set ∷ older) = HasNoHole shape × HasNoHoleInSet set × AreGlobals older
AreGlobals (TypeEntry bound ∷ older) = ⊥

-- what is asked is fit for a filling: a demand has the globals at the bottom of its context, is well formed, and its
-- right side has no hole or is one hole alone
abbrev pub IsFit : Context → Asked → Type 0
IsFit globals (IsBelow demand) =
    ((later : Context) × (demand.context ≡ later ++ globals)) × IsWellFormedContext demand.context
    × IsWellFormedSet demand.context demand.left × HasHoleAloneOrNone demand.right
IsFit globals (IsCapless set) = Unit {0}

-- all that is asked is fit, over well-formed globals
pub record AreFit (globals : Context) (list : List Placed) : Type 0 where
  pub formed : IsWellFormedContext globals
  pub globals_alone : AreGlobals globals
  pub each : (asked : Asked) → IsAskedIn list asked → IsFit globals asked

-- there is one least filling
abbrev pub LeastFillingsAreAlike : Type 0
LeastFillingsAreAlike =
    (root : ℕ) (list : List Placed) (first second : Filling) → IsLeast root list first → IsLeast root list second
    → (hole : ℕ) → first hole ≡ second hole

-- it fills each hole with globals
abbrev pub LeastFillingsAreOverGlobals : Type 0
LeastFillingsAreOverGlobals =
    (root : ℕ) (list : List Placed) (least : Filling) → IsLeast root list least → IsOverGlobals root least

-- each filling that serves is above it, hole by hole
abbrev pub ServingFillingsAreAbove : Type 0
ServingFillingsAreAbove =
    (globals : Context) (list : List Placed) (least other : Filling) → AreFit globals list
    → IsLeast (length globals) list least → IsOverGlobals (length globals) other → AllServed other list
    → (hole : ℕ) → SubcapturesSet globals (least hole) (other hole)

-- and where one serves, the least one serves
abbrev pub LeastFillingsServe : Type 0
LeastFillingsServe =
    (globals : Context) (list : List Placed) (least other : Filling) → AreFit globals list
    → IsLeast (length globals) list least → IsOverGlobals (length globals) other → AllServed other list
    → AllServed least list

-- The order in which it is asked, and how often, changes neither which filling is the least nor which ones serve: it
-- decides only which code and place are named.
abbrev pub OrderDoesNotMatter : Type 0
OrderDoesNotMatter =
    (root : ℕ) (first second : List Placed) (filling : Filling)
    → ((asked : Asked) → IsAskedIn first asked ↔ IsAskedIn second asked)
    → (IsLeast root first filling ↔ IsLeast root second filling)
    × (AllServed filling first ↔ AllServed filling second)
