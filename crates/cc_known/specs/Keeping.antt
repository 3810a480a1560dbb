-- Of what is asked, only what may force an element into a hole, or may be the first to fail under some filling, has to
-- be kept.
use Rattle.std.specs.Prelude.{ℕ, zero, suc, nat_eq, nat_lt, Bool, true, false, not, ◌&&◌, ◌||◌, List, [], ◌∷◌, ◌++◌, length}
use Rattle.std.specs.Prelude.{Option, Some, None, if◌then◌else◌}
use Rattle.std.specs.List.{list_any, list_all}
use Rattle.cc_capture.specs.declared.var.Var.TheVariants.{Bound, Free}
use Rattle.cc_capture.specs.declared.var.Elem.{Elem}
use Rattle.cc_capture.specs.declared.var.Elem.TheVariants.{Var as Variable, Cap, Hole}
use Rattle.cc_capture.specs.Sets.{Set, contains, empty, is_subset, same_set, union, retain, remove}
use Rattle.cc_core.specs.ClosedEntries.{closed_entries}
use Rattle.cc_core.specs.Contexts.{Bind, TermEntry, TypeEntry, Context, lookup}
use Rattle.cc_core.specs.Questions.{is_hole}
use Rattle.cc_core.specs.Substitution.{filled_set}
use Rattle.cc_checking.specs.Comparison.{Demand}
use Rattle.cc_checking.specs.Fillings.{Filling, filled_context}
use Rattle.cc_checking.specs.Outcomes.{Asked, IsBelow, IsCapless, Placed}

-- whether the element is the variable at the position
abbrev pub is_at : ℕ → Elem → Bool
is_at position (Variable (Free other)) = nat_eq position other
is_at position (Variable (Bound index)) = false
is_at position Cap = false
is_at position (Hole number) = false

-- Whether an element is below a set: it is a member, or it is the newest variable and the members of its declared set
-- are below among the older entries, or it is below among these itself.
abbrev pub is_element_below : Context → Set → Elem → Bool
is_element_below [] right e = contains e right
is_element_below (TermEntry shape declared ∷ older) right e =
    (is_at (length older) e && list_all (is_element_below older right) declared.list)
    || is_element_below older right e
is_element_below (TypeEntry bound ∷ older) right e = is_element_below older right e

-- whether each member of the left set is below the right one
abbrev pub is_below : Context → Set → Set → Bool
is_below context left right = list_all (is_element_below context right) left.list

-- whether a hole is a member
abbrev pub has_hole : Set → Bool
has_hole set = list_any is_hole set.list

-- Whether a demand forces nothing and every filling serves it. Without a hole on its right side it does where it holds
-- as it stands, since a hole is below a set only as a member. With one, it does where the right side has all of the
-- left one: a global whose declared set has no member is below each hole, and yet is forced into it.
abbrev pub is_demand_settled : Demand → Bool
is_demand_settled demand =
    if has_hole demand.right
    then is_subset demand.left demand.right
    else is_below demand.context demand.left demand.right

-- the same of all that can be asked; no filling puts the universal capability into a set without it and without holes
abbrev pub is_settled : Asked → Bool
is_settled (IsBelow demand) = is_demand_settled demand
is_settled (IsCapless set) = not (contains Cap set || has_hole set)

-- Whether it may force an element into a hole: it has a hole on its right side.
abbrev pub may_force : Asked → Bool
may_force (IsBelow demand) = has_hole demand.right
may_force (IsCapless set) = false

-- whether the filling serves it
abbrev pub is_served : Filling → Asked → Bool
is_served filling (IsBelow demand) =
    is_below (filled_context filling demand.context) (filled_set filling demand.left) (filled_set filling demand.right)
is_served filling (IsCapless set) = not (contains Cap (filled_set filling set))

-- the filling that puts nothing into any hole
abbrev pub nothing : Filling
nothing hole = empty

-- Whether it is lost: no filling serves it. Without a hole on its right side a filling serves it where a larger one
-- does, so it is lost where not even nothing serves it.
abbrev pub is_lost : Asked → Bool
is_lost asked = not (may_force asked) && not (is_served nothing asked)

-- whether something in the list is lost
abbrev pub has_lost : List Placed → Bool
has_lost list = list_any (λ placed. is_lost placed.asked) list

-- whether it is the universal capability or a hole, which no context says more of
abbrev pub is_end : Elem → Bool
is_end (Variable variable) = false
is_end Cap = true
is_end (Hole number) = true

-- the members of the one set that the other has not
abbrev pub beyond : Set → Set → Set
beyond right set = retain (λ e. not (contains e right)) set

-- the declared set of an entry, which a type variable has not
abbrev pub declared_of : Option Bind → Set
declared_of (Some (TermEntry shape declared)) = declared
declared_of (Some (TypeEntry bound)) = empty
declared_of None = empty

-- the set, where the variable at the position gives way to what it is declared with, beyond the right set
abbrev pub given_way : Context → Set → ℕ → Set → Set
given_way context right position set =
    if contains (Variable (Free position)) set
    then union (remove (Variable (Free position)) set) (beyond right (declared_of (lookup context position)))
    else set

-- the same of all variables below a position, the newest first
abbrev pub all_given_way : Context → Set → ℕ → Set → Set
all_given_way context right zero set = set
all_given_way context right (suc position) set =
    all_given_way context right position (given_way context right position set)

-- Where the left set of a demand ends: at which holes, and whether at the universal capability, when each variable that
-- the right set has not gives way to its declared set. A filling serves the demand where what it puts into these holes
-- is below the right set, and none does where the universal capability is an end.
abbrev pub ends_beyond : Context → Set → Set → Set
ends_beyond context right left =
    retain is_end (all_given_way context right (length context) (beyond right left))

-- whether it is no variable but one of the oldest, of which there are so many
abbrev pub is_among_oldest : ℕ → Elem → Bool
is_among_oldest oldest (Variable (Free position)) = nat_lt position oldest
is_among_oldest oldest (Variable (Bound index)) = true
is_among_oldest oldest Cap = true
is_among_oldest oldest (Hole number) = true

-- The members of a right set that may be put in for a hole: the variables among them are older than all with holes, as
-- the globals are. Of the others no filling over the globals sees anything.
unfoldable pub fillable : Context → Set → Set
fillable context right = retain (is_among_oldest (closed_entries context)) right

-- Whether what is asked forces nothing, has a right set of which this may be put in for holes, and ends so: fillings
-- over the globals serve all such demands alike.
abbrev pub is_ended_so : Set → Set → Asked → Bool
is_ended_so ends right (IsBelow demand) =
    not (has_hole demand.right)
    && (same_set ends (ends_beyond demand.context demand.right demand.left)
    && same_set right (fillable demand.context demand.right))
is_ended_so ends right (IsCapless set) = false

-- whether something in the list is ended so
abbrev pub has_ended_so : List Placed → Set → Set → Bool
has_ended_so list ends right = list_any (λ placed. is_ended_so ends right placed.asked) list

-- whether it has the ends of something in the list, and what may be put in for holes of its right set
abbrev pub is_repeated : List Placed → Asked → Bool
is_repeated list (IsBelow demand) =
    has_ended_so list (ends_beyond demand.context demand.right demand.left) (fillable demand.context demand.right)
is_repeated list (IsCapless set) = false

-- Whether it need not be kept behind the list. What forces nothing cannot be the first to fail behind what is lost, nor
-- behind what it repeats.
abbrev pub is_needless : List Placed → Asked → Bool
is_needless list asked =
    ((has_lost list && not (may_force asked)) || is_settled asked) || is_repeated list asked

-- the list with one more thing that is asked, unless that is needless
abbrev pub with_one : List Placed → Placed → List Placed
with_one list placed = if is_needless list placed.asked then list else list ++ placed ∷ []

-- the list with all that is asked then, in its order, but for what is needless
abbrev pub keeping : List Placed → List Placed → List Placed
keeping list [] = list
keeping list (first ∷ rest) = keeping (with_one list first) rest

-- what is kept of all that is asked
abbrev pub kept : List Placed → List Placed
kept asked = keeping [] asked
