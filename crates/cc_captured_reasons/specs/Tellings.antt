-- What a list of numbers, one for each position, tells of elements, and how the number of a position is made of those before.
use Rattle.std.specs.Prelude.{ℕ, ◌+◌, ◌<◌, nat_eq, nat_le, nat_lt, Bool, false, List, [], ◌∷◌, Option, Some, None}
use Rattle.std.specs.Prelude.{if◌then◌else◌, slice_index_or, IfSome}
use Rattle.std.specs.Option.{is_some}
use Rattle.cc_capture.specs.declared.var.Elem.{Elem}
use Rattle.cc_capture.specs.declared.var.Elem.TheVariants.{Var as Variable, Cap, Hole}
use Rattle.cc_capture.specs.declared.var.Var.{Var}
use Rattle.cc_capture.specs.declared.var.Var.TheVariants.{Bound, Free}
use Rattle.cc_capture.specs.Sets.{Set, contains}
use Rattle.cc_core.specs.Contexts.{Bind, Context, lookup}
use Rattle.cc_reasons.specs.ReasonTexts.{declared_members}

-- what stands in the list for a variable; one that has no position leads to nothing
abbrev pub number_of : List (Option ℕ) → Var → Option ℕ
number_of told (Free position) = slice_index_or told position None
number_of told (Bound index) = Some 0

-- what is told of an element that the set does not have
abbrev pub telling_beyond : List (Option ℕ) → Elem → Option ℕ
telling_beyond told (Variable variable) = number_of told variable
telling_beyond told Cap = Some 0
telling_beyond told (Hole number) = Some 0

-- what is told of an element
abbrev pub telling : List (Option ℕ) → Set → Elem → Option ℕ
telling told right e = if contains e right then None else telling_beyond told e

-- the lower of two numbers, as far as they are there
abbrev pub lower : Option ℕ → Option ℕ → Option ℕ
lower None other = other
lower (Some number) None = Some number
lower (Some number) (Some other) = if nat_le number other then Some number else Some other

-- the lowest that is told of elements in order, behind one that is told before
abbrev pub lowest : (Elem → Option ℕ) → Option ℕ → List Elem → Option ℕ
lowest tells before [] = before
lowest tells before (e ∷ rest) = lowest tells (lower before (tells e)) rest

-- what is told of a position, where this is the lowest that is told of its declared set: a device is an end
abbrev pub number_from : ℕ → ℕ → Option ℕ → Option ℕ
number_from devices position None = None
number_from devices position (Some number) = if nat_lt position devices then Some 0 else Some (number + 1)

-- what is told of an entry that stands at a position
abbrev pub number_at : ℕ → Set → List (Option ℕ) → ℕ → Option Bind → Option ℕ
number_at devices right told position entry =
    number_from devices position (lowest (telling told right) None (declared_members entry))

-- the elements of which a number is told
abbrev pub numbered : (Elem → Option ℕ) → List Elem → List Elem
numbered tells [] = []
numbered tells (e ∷ rest) = if is_some (tells e) then e ∷ numbered tells rest else numbered tells rest

-- whether this number is told
abbrev pub is_number : ℕ → Option ℕ → Bool
is_number number None = false
is_number number (Some other) = nat_eq other number

-- what was found, and else the element, if it passes
abbrev pub found_or_this : Option Elem → Bool → Elem → Option Elem
found_or_this (Some found) passes e = Some found
found_or_this None passes e = if passes then Some e else None

-- the first element of which the number is told, behind what was found before
abbrev pub first_numbered : (Elem → Option ℕ) → ℕ → Option Elem → List Elem → Option Elem
first_numbered tells number found [] = found
first_numbered tells number found (e ∷ rest) =
    first_numbered tells number (found_or_this found (is_number number (tells e)) e) rest

-- the members of the declared set of an element
abbrev pub members_of : Context → Elem → List Elem
members_of context (Variable (Free position)) = declared_members (lookup context position)
members_of context (Variable (Bound index)) = []
members_of context Cap = []
members_of context (Hole number) = []

-- each number of the list is below the limit
abbrev pub AreLow : List (Option ℕ) → ℕ → Type 0
AreLow told limit = (position : ℕ) → IfSome (slice_index_or told position None) (λ number. number < limit)
