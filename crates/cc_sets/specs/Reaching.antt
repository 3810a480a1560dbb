-- Which variables the comparison of two sets has to look up.
use Rattle.std.specs.Prelude.{◌≡◌, ℕ, ◌+◌, nat_eq, Bool, true, List, length, Some}
use Rattle.std.specs.List.{All, Contains, IsDistinct}
use Rattle.cc_capture.specs.declared.var.Var.TheVariants.{Free}
use Rattle.cc_capture.specs.declared.var.Elem.{Elem}
use Rattle.cc_capture.specs.declared.var.Elem.TheVariants.{Var as Variable}
use Rattle.cc_capture.specs.Sets.{Set, Member}
use Rattle.cc_core.specs.Shapes.{Shape}
use Rattle.cc_core.specs.Contexts.{TermEntry, Context, lookup}

-- a member of the left set that the right one does not have
abbrev pub IsMissing : Set → Set → Elem → Type 0
IsMissing left right e = Member e left × (Member e right → ⊥)

-- A variable is reached from a set, on the way to another, by a chain that begins in the set and goes on from a
-- variable to the members of its declared set. No variable of the chain is in the other set, since what is there is
-- below it and needs no declared set.
pub data IsReached (context : Context) (left right : Set) : ℕ → Type 0 where
  first : {position : ℕ} → IsMissing left right (Variable (Free position)) → IsReached context left right position
  further : {position next : ℕ} {shape : Shape} {declared : Set}
      → IsReached context left right position → lookup context position ≡ Some (TermEntry shape declared)
      → IsMissing declared right (Variable (Free next)) → IsReached context left right next

-- Between the numbers of steps, each position of a list was looked up: positions that differ, and that are reached; all
-- that are, where the answer is yes.
abbrev pub LooksUp : Context → Set → Set → Bool → ℕ → ℕ → Type 0
LooksUp context left right answer before after =
    (looked : List ℕ) × IsDistinct nat_eq looked × All (IsReached context left right) looked
    × (answer ≡ true → (position : ℕ) → IsReached context left right position → Contains looked position)
    × (after ≡ before + length looked)
