-- What arrives in a hole is what is forced into it.
use Rattle.std.proofs.Common.{◌≡◌, ◌↔◌, ℕ, List, refl, sym, ap, ◌∙◌, subst, inl, inr}
use Rattle.cc_capture.specs.declared.var.Var.TheVariants.{Bound, Free}
use Rattle.cc_capture.specs.declared.var.Elem.{Elem}
use Rattle.cc_capture.specs.declared.var.Elem.TheVariants.{Var as Variable, Cap, Hole}
use Rattle.cc_capture.specs.Sets.{Set, Member, empty}
use Rattle.cc_capture.proofs.Membership.{Member-empty}
use Rattle.cc_core.specs.Contexts.{Context}
use Rattle.cc_core.specs.Occurrences.{IsNoHole}
use Rattle.cc_core.specs.Substitution.{single}
use Rattle.cc_checking.specs.Outcomes.{Placed}
use Rattle.cc_checking.specs.Fillings.{Comes, global, capability, local, forced, IsLeast, IsForced, IsOverGlobals}
use Rattle.cc_solve.specs.Adding.{AddsThose, Brings, IsSeed, IsFlow}
use Rattle.cc_solve.specs.Ends.{IsEnd, Leads, ends, through}
use Rattle.cc_checking_laws.proofs.LeastFillings.{least_over_globals, least_below, least_serves}
use Rattle.cc_solve.specs.Solutions.{filling_of, IsBelowEachThatServes, ServesWhereOneDoes}
use Rattle.cc_solve.specs.Spreading.{Arrives, there, onward}

-- an end that is no hole comes from itself
comes_itself : (root : ℕ) (asked : List Placed) (g : Context) (e : Elem) → IsEnd root e → IsNoHole e → Comes root asked g e e
comes_itself root asked g (Variable (Free p)) end none = global end
comes_itself root asked g (Variable (Bound i)) end none = absurd end
comes_itself root asked g Cap end none = capability
comes_itself root asked g (Hole n) end none = absurd none

leads_to_end : {root : ℕ} {g : Context} {x y : Elem} → Leads root g x y → IsEnd root y
leads_to_end (ends end) = end
leads_to_end (through from there' m k) = leads_to_end k

-- along a chain of declared sets
comes_along : {root : ℕ} {g : Context} {x y : Elem} → Leads root g x y → (asked : List Placed) (e : Elem) → Comes root asked g y e → Comes root asked g x e
comes_along (ends end) asked e c = c
comes_along (through from there' m k) asked e c = local from there' m (comes_along k asked e c)

hole_number : (h k : ℕ) → Hole h ≡ Hole k → h ≡ k
hole_number h k same = cc

-- what a demand brings into a hole is forced into it, where it is no hole; and where it is one, so is what is forced into it
seed_forced : (root : ℕ) (asked : List Placed) (hole : ℕ) (e : Elem) → IsSeed root asked hole e → IsForced root asked hole e
seed_forced root asked hole e (none, (demand, is_asked, right, (from, m, k))) =
    forced demand is_asked right m (comes_along k asked e (comes_itself root asked demand.context e (leads_to_end k) none))

hole_elsewhere : {root : ℕ} {asked : List Placed} {g : Context} {h : ℕ} {e : Elem} (g' : Context) → Comes root asked g (Hole h) e → Comes root asked g' (Hole h) e
hole_elsewhere g' (forced demand is_asked right m c) = forced demand is_asked right m c

flow_forced : (root : ℕ) (asked : List Placed) (from at : ℕ) (e : Elem) → IsFlow root asked from (Hole at) → IsForced root asked from e → IsForced root asked at e
flow_forced root asked from at e (target, same, (demand, is_asked, right, (x, m, k))) c =
    forced demand is_asked (right ∙ ap (λ h. single (Hole h)) (sym (hole_number at target same))) m
    (comes_along k asked e (hole_elsewhere demand.context c))

module _ (root : ℕ) (asked : List Placed) (flows seeds none blanks : List Set) (blank : (at : ℕ) → filling_of none at ≡ empty)
    (blanked : (at : ℕ) → filling_of blanks at ≡ empty) (seeded : AddsThose (IsSeed root asked) none seeds)
    (flowing : AddsThose (IsFlow root asked) blanks flows) where
  no_member : (at : ℕ) (e : Elem) → Member e (filling_of none at) → ⊥
  no_member at e m = Member-empty e (subst (Member e) (blank at) m)

  no_flow : (at : ℕ) (e : Elem) → Member e (filling_of blanks at) → ⊥
  no_flow at e m = Member-empty e (subst (Member e) (blanked at) m)

  arrives_forced : {at : ℕ} {e : Elem} → Arrives (filling_of flows) (filling_of seeds) at e → IsForced root asked at e
  arrives_forced (there {at = at} {e = e} m) =
      elim (seeded.only at e m) as (λ _. IsForced root asked at e) [
        | inl was ↦ absurd (no_member at e was)
        | inr fact ↦ seed_forced root asked at e fact
      ]
  arrives_forced (onward {from = from} {at = at} {e = e} m k) =
      elim (flowing.only from (Hole at) m) as (λ _. IsForced root asked at e) [
        | inl was ↦ absurd (no_flow from (Hole at) was)
        | inr fact ↦ flow_forced root asked from at e fact (arrives_forced k)
      ]

  -- whatever the element leads to is brought into the hole
  abbrev AllBrought : Context → Elem → ℕ → Type 0
  AllBrought g x at = (y : Elem) → Leads root g x y → Brings root asked at y

  comes_arrives : {g : Context} {x e : Elem} → Comes root asked g x e → (at : ℕ) → AllBrought g x at → Arrives (filling_of flows) (filling_of seeds) at e
  comes_arrives (global {position = p} below) at brought =
      there (seeded.all at (Variable (Free p)) (tt, brought (Variable (Free p)) (ends below)))
  comes_arrives capability at brought = there (seeded.all at Cap (tt, brought Cap (ends tt)))
  comes_arrives (local from there' m c) at brought = comes_arrives c at (λ y k. brought y (through from there' m k))
  comes_arrives (forced {hole = h} {from = x} demand is_asked right m c) at brought =
      onward (flowing.all h (Hole at) (at, refl, brought (Hole h) (ends tt)))
      (comes_arrives c h (λ y k. (demand, is_asked, right, (x, m, k))))

  forced_arrives : (at : ℕ) (e : Elem) → IsForced root asked at e → Arrives (filling_of flows) (filling_of seeds) at e
  forced_arrives at e (forced {from = x} demand is_asked right m c) = comes_arrives c at (λ y k. (demand, is_asked, right, (x, m, k)))

  -- so the least filling is what has arrived
  pub least_by_arrival : (sets : List Set)
      → ((at : ℕ) (e : Elem) → Member e (filling_of sets at) ↔ Arrives (filling_of flows) (filling_of seeds) at e) → IsLeast root asked (filling_of sets)
  least_by_arrival sets is at e = (λ m. arrives_forced ((is at e).0 m), λ c. (is at e).1 (forced_arrives at e c))

-- what is known of least fillings, of the list of the sets
module _ (globals : ℕ) (asked : List Placed) (sets found : List Set) (same : sets ≡ found) (least : IsLeast globals asked (filling_of found)) where
  here : IsLeast globals asked (filling_of sets)
  here = subst (λ l. IsLeast globals asked (filling_of l)) (sym same) least

  pub least_over : IsOverGlobals globals (filling_of sets)
  least_over = least_over_globals globals asked (filling_of sets) here

  pub least_is_below : IsBelowEachThatServes globals asked (filling_of sets)
  least_is_below base other long fit over serves =
      least_below base asked fit (filling_of sets) other (subst (λ n. IsLeast n asked (filling_of sets)) (sym long) here)
      (subst (λ n. IsOverGlobals n other) (sym long) over) serves

  pub least_serves_too : ServesWhereOneDoes globals asked (filling_of sets)
  least_serves_too base other long fit over serves =
      least_serves base asked fit (filling_of sets) (subst (λ n. IsLeast n asked (filling_of sets)) (sym long) here) other
      (subst (λ n. IsOverGlobals n other) (sym long) over) serves
