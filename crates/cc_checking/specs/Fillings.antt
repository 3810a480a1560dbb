-- Holes stand for the omitted sets of parameters. What a filling has to satisfy, and the least one.
use Rattle.std.specs.Prelude.{◌≡◌, ◌↔◌, ℕ, ◌<◌, ◌≤◌, List, [], ◌∷◌, ◌++◌, map, Some}
use Rattle.cc_base.specs.declared.code.Code.{Code}
use Rattle.cc_base.specs.declared.code.Code.TheVariants.{E15, E16}
use Rattle.cc_base.specs.declared.place.Place.{Place}
use Rattle.cc_capture.specs.declared.var.Var.TheVariants.{Bound, Free}
use Rattle.cc_capture.specs.declared.var.Elem.{Elem}
use Rattle.cc_capture.specs.declared.var.Elem.TheVariants.{Var as Variable, Cap, Hole}
use Rattle.cc_capture.specs.Sets.{Set, Member}
use Rattle.cc_core.specs.Shapes.{Shape}
use Rattle.cc_core.specs.Contexts.{Bind, TermEntry, TypeEntry, Context, lookup}
use Rattle.cc_core.specs.Substitution.{single, filled, filled_set}
use Rattle.cc_core.specs.Subcapturing.{SubcapturesSet}
use Rattle.cc_core.specs.Typing.{HasNoCap}
use Rattle.cc_checking.specs.Comparison.{Demand}
use Rattle.cc_checking.specs.Outcomes.{Asked, IsBelow, IsCapless, Placed}

-- a filling has a set for each hole
abbrev pub Filling : Type 0
Filling = ℕ → Set

-- an entry with its holes filled
abbrev pub filled_entry : Filling → Bind → Bind
filled_entry filling (TermEntry shape set) = TermEntry (filled filling shape) (filled_set filling set)
filled_entry filling (TypeEntry bound) = TypeEntry (filled filling bound)

-- a context with its holes filled
abbrev pub filled_context : Filling → Context → Context
filled_context filling context = map (filled_entry filling) context

-- The filling serves what is asked: with the holes filled in the context and in the sets, the one set is below the
-- other, or the set has no universal capability.
abbrev pub IsServed : Filling → Asked → Type 0
IsServed filling (IsBelow demand) =
    SubcapturesSet (filled_context filling demand.context) (filled_set filling demand.left)
    (filled_set filling demand.right)
IsServed filling (IsCapless set) = HasNoCap (filled_set filling set)

-- it serves all that is asked
abbrev pub AllServed : Filling → List Placed → Type 0
AllServed filling [] = Unit {0}
AllServed filling (first ∷ rest) = IsServed filling first.asked × AllServed filling rest

-- this is asked somewhere
abbrev pub IsAskedIn : List Placed → Asked → Type 0
IsAskedIn list asked =
    (before : List Placed) × (placed : Placed) × (after : List Placed) × (list ≡ before ++ placed ∷ after)
    × (placed.asked ≡ asked)

-- The element comes from another, which stands in a context: a global position, below the root, and the universal
-- capability by themselves; from a local variable what comes from its declared set; and from a hole what is forced
-- into that hole. An element is forced into a hole where the hole alone is to be above a set that the element comes
-- from.
pub data Comes (root : ℕ) (asked : List Placed) : Context → Elem → Elem → Type 0 where
  global : {context : Context} {position : ℕ} → position < root
      → Comes root asked context (Variable (Free position)) (Variable (Free position))
  capability : {context : Context} → Comes root asked context Cap Cap
  local : {context : Context} {position : ℕ} {shape : Shape} {declared : Set} {from e : Elem} → root ≤ position
      → lookup context position ≡ Some (TermEntry shape declared) → Member from declared
      → Comes root asked context from e → Comes root asked context (Variable (Free position)) e
  forced : {context : Context} {hole : ℕ} {from e : Elem} (demand : Demand) → IsAskedIn asked (IsBelow demand)
      → demand.right ≡ single (Hole hole) → Member from demand.left → Comes root asked demand.context from e
      → Comes root asked context (Hole hole) e

-- the element is forced into the hole
abbrev pub IsForced : ℕ → List Placed → ℕ → Elem → Type 0
IsForced root asked hole e = Comes root asked [] (Hole hole) e

-- the least filling has exactly the forced elements
abbrev pub IsLeast : ℕ → List Placed → Filling → Type 0
IsLeast root asked filling = (hole : ℕ) (e : Elem) → Member e (filling hole) ↔ IsForced root asked hole e

-- a global position, below the root, or the universal capability
abbrev pub IsGlobal : ℕ → Elem → Type 0
IsGlobal root (Variable (Free position)) = position < root
IsGlobal root (Variable (Bound index)) = ⊥
IsGlobal root Cap = Unit {0}
IsGlobal root (Hole number) = ⊥

-- each hole is filled with globals alone
abbrev pub IsOverGlobals : ℕ → Filling → Type 0
IsOverGlobals root filling = (hole : ℕ) (e : Elem) → Member e (filling hole) → IsGlobal root e

-- the code for what is asked and fails
abbrev pub code_of_failure : Asked → Code
code_of_failure (IsBelow demand) = E15
code_of_failure (IsCapless set) = E16

-- the first that the filling does not serve has the code and the place
abbrev pub FailsFirst : Filling → List Placed → Code → Place → Type 0
FailsFirst filling list code at =
    (before : List Placed) × (placed : Placed) × (after : List Placed) × (list ≡ before ++ placed ∷ after)
    × AllServed filling before × (IsServed filling placed.asked → ⊥) × (code ≡ code_of_failure placed.asked)
    × (at ≡ placed.at)
