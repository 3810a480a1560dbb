-- What marking the elements of a set does, for the search for an answer of subcapturing.
use Rattle.std.specs.Prelude.{◌≡◌, ◌⊎◌, ℕ, ◌<◌, Bool, true, false, List, length, Option, Some, None}
use Rattle.std.specs.Bool.{MatchBool}
use Rattle.cc_capture.specs.declared.var.Var.TheVariants.{Bound, Free}
use Rattle.cc_capture.specs.declared.var.Elem.{Elem}
use Rattle.cc_capture.specs.declared.var.Elem.TheVariants.{Var as Variable, Cap, Hole}
use Rattle.cc_capture.specs.Sets.{Set, Member}
use Rattle.cc_core.specs.Contexts.{Bind, TermEntry, TypeEntry}
use Rattle.cc_sets.specs.Marked.{is_marked}
use Rattle.cc_sets.specs.Reaching.{IsMissing}

-- the element is a free variable
abbrev pub IsPosition : Elem → Type 0
IsPosition (Variable (Free position)) = Unit {0}
IsPosition (Variable (Bound index)) = ⊥
IsPosition Cap = ⊥
IsPosition (Hole number) = ⊥

-- there is room for an element that is a free variable
abbrev pub HasRoom : List Bool → Elem → Type 0
HasRoom marks (Variable (Free position)) = position < length marks
HasRoom marks (Variable (Bound index)) = Unit {0}
HasRoom marks Cap = Unit {0}
HasRoom marks (Hole number) = Unit {0}

-- there is room for each member of a set
abbrev pub HasRoomFor : List Bool → Set → Type 0
HasRoomFor marks set = (e : Elem) → Member e set → HasRoom marks e

-- The elements of which the fact holds were marked. The answer is no where one of them is no free variable.
pub record MarksThose (Fact : Elem → Type 0) (old new : List Bool) (answer : Bool) : Type 0 where
  pub room : length new ≡ length old
  pub kept : (position : ℕ) → is_marked position old ≡ true → is_marked position new ≡ true
  pub only : (position : ℕ) → is_marked position new ≡ true
      → (is_marked position old ≡ true) ⊎ Fact (Variable (Free position))
  pub answered : MatchBool answer
      ((e : Elem) → Fact e → (position : ℕ) × (e ≡ Variable (Free position)) × (is_marked position new ≡ true))
      ((e : Elem) × Fact e × (IsPosition e → ⊥))

-- the element is this one, and the right set does not have it
abbrev pub IsThatMissing : Elem → Set → Elem → Type 0
IsThatMissing that right e = (e ≡ that) × (Member e right → ⊥)

-- there is room for the declared set of an entry
abbrev pub HasRoomForEntry : List Bool → Option Bind → Type 0
HasRoomForEntry marks (Some (TermEntry shape declared)) = HasRoomFor marks declared
HasRoomForEntry marks (Some (TypeEntry bound)) = Unit {0}
HasRoomForEntry marks None = Unit {0}

-- the declared set of an entry was marked; the answer is no where there is none
abbrev pub MarksEntry : Option Bind → Set → List Bool → List Bool → Bool → Type 0
MarksEntry (Some (TermEntry shape declared)) right old new answer = MarksThose (IsMissing declared right) old new answer
MarksEntry (Some (TypeEntry bound)) right old new answer = (new ≡ old) × (answer ≡ false)
MarksEntry None right old new answer = (new ≡ old) × (answer ≡ false)
