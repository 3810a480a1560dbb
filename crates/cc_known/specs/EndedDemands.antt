-- Demands by where the declared sets of their left sides end, as the code finds them. This serves proofs alone.
use Rattle.std.specs.Prelude.{◌≡◌, ℕ, ◌<◌, ◌≤◌, ◌⊎◌, false, true, Bool, List, [], ◌++◌, ◌&&◌, Option, Some, None, IsTrue}
use Rattle.std.specs.List.{flat_map, list_any}
use Rattle.std.specs.Cmp.{IsEquivalence}
use Rattle.std.specs.Hash as fed
use Rattle.cc_capture.specs.declared.var.Var.TheVariants.{Bound, Free}
use Rattle.cc_capture.specs.declared.var.Elem.{Elem}
use Rattle.cc_capture.specs.declared.var.Elem.TheVariants.{Var as Variable, Cap, Hole}
use Rattle.cc_capture.specs.Sets.{Set, Member, contains, same_set, same_set-equivalence}
use Rattle.std.proofs.lemmas.Bool.{and_parts}
use Rattle.std.proofs.lemmas.Cmp.{on_equiv, and_equiv}
use Rattle.cc_capture.proofs.Equality.{same_set-decides}
use Rattle.cc_core.specs.Contexts.{Context}
use Rattle.cc_core.specs.WellFormed.{kinds_of, is_well_formed_set, IsWellFormedSet}
use Rattle.cc_checking.specs.Outcomes.{Asked, IsBelow, IsCapless, Placed}
use Rattle.cc_known.specs.Keeping.{has_hole, is_end, ends_beyond, fillable, has_ended_so}
use Rattle.cc_known.specs.declared.ended.EndedDemand.{EndedDemand}
use Rattle.cc_known.specs.declared.known.KnownEnds.{KnownEnds}

-- the number by which an element is hashed
abbrev pub number_of : Elem → ℕ
number_of (Variable (Free position)) = position
number_of (Variable (Bound index)) = index
number_of Cap = 0
number_of (Hole number) = number

-- what is hashed of a set
abbrev pub set_input : Set → List (List ℕ)
set_input set = flat_map (λ e. fed.u32 (number_of e)) set.list

-- what is hashed of a demand
abbrev pub ended_input : EndedDemand → List (List ℕ)
ended_input demand = set_input demand.ends ++ set_input demand.right

-- whether both sets of two demands are one
abbrev pub same_ended : EndedDemand → EndedDemand → Bool
same_ended one other = same_set one.ends other.ends && same_set one.right other.right

-- the test is an equivalence
pub same_ended-equivalence : IsEquivalence same_ended
same_ended-equivalence = and_equiv (on_equiv (λ d. d.ends) same_set-equivalence) (on_equiv (λ d. d.right) same_set-equivalence)

-- equal demands are hashed alike
pub ended_input-equal : (one other : EndedDemand) → IsTrue (same_ended one other) → ended_input one ≡ ended_input other
ended_input-equal one other same =
    let both = and_parts (same_set one.ends other.ends) (same_set one.right other.right) same in
    let ends : one.ends ≡ other.ends = (same_set-decides one.ends other.ends).0 both.0 in
    let right : one.right ≡ other.right = (same_set-decides one.right other.right).0 both.1 in
    (λ i. set_input (ends i) ++ set_input (right i))

-- the demand has these ends, and these members of its right set may be put in for holes, if it has no hole there
abbrev pub HasEnds : Option EndedDemand → Asked → Type 0
HasEnds (Some ended) (IsBelow demand) =
    (has_hole demand.right ≡ false) × (ended.ends ≡ ends_beyond demand.context demand.right demand.left)
    × (ended.right ≡ fillable demand.context demand.right)
HasEnds (Some ended) (IsCapless set) = ⊥
HasEnds None (IsBelow demand) = has_hole demand.right ≡ true
HasEnds None (IsCapless set) = Unit {0}

-- whether one of the demands is ended as another
abbrev pub is_among : List EndedDemand → EndedDemand → Bool
is_among list demand = list_any (same_ended demand) list

-- the demands are those of a list that have no hole on their right sides, by their ends
abbrev pub AreThose : List EndedDemand → List Placed → Type 0
AreThose list asked = (demand : EndedDemand) → is_among list demand ≡ has_ended_so asked demand.ends demand.right

-- Of the elements of which the fact holds and that the right set has not, the variables were put to those that wait, and
-- the others to the ends.
pub record PutsBeyond (right : Set) (Fact : Elem → Type 0) (waiting ends waiting' ends' : Set) : Type 0 where
  pub kept_waiting : (e : Elem) → Member e waiting → Member e waiting'
  pub kept_ends : (e : Elem) → Member e ends → Member e ends'
  pub waits : (e : Elem) → Member e waiting'
      → Member e waiting ⊎ (Fact e × (contains e right ≡ false) × (is_end e ≡ false))
  pub ended : (e : Elem) → Member e ends'
      → Member e ends ⊎ (Fact e × (contains e right ≡ false) × (is_end e ≡ true))
  pub all : (e : Elem) → Fact e → contains e right ≡ false → Member e waiting' ⊎ Member e ends'

-- the element is a position below the limit
abbrev pub IsPositionBelow : ℕ → Elem → Type 0
IsPositionBelow limit e = (position : ℕ) × (e ≡ Variable (Free position)) × (position < limit)

-- the position is the greatest that is a member, and below the limit
abbrev pub IsLastBelow : ℕ → Set → ℕ → Type 0
IsLastBelow limit set position =
    Member (Variable (Free position)) set × (position < limit)
    × ((other : ℕ) → Member (Variable (Free other)) set → other ≤ position)

-- The context has well-formed sets, of which the left one has these ends beyond the right one, which has these members
-- that may be put in for holes.
pub record IsEndedIn (context : Context) (left right : Set) (demand : EndedDemand) : Type 0 where
  pub lower : IsWellFormedSet context left
  pub upper : IsWellFormedSet context right
  pub ends : demand.ends ≡ ends_beyond context right left
  pub filled : demand.right ≡ fillable context right

-- Whether a left set is well formed in the context, and so is the right set, and the left one has these ends.
abbrev pub is_known_end : Context → KnownEnds → Bool
is_known_end context known =
    (is_well_formed_set (kinds_of context) [] known.left && is_well_formed_set (kinds_of context) [] known.right)
    && (same_set known.demand.ends (ends_beyond context known.right known.left)
    && same_set known.demand.right (fillable context known.right))
