-- What holes in a row demand can be solved.
use Rattle.std.proofs.Common.{◌≡◌, ℕ, ◌<◌, List, [], ◌∷◌, ◌++◌, Some, refl, sym, ap, ◌∙◌, subst, inr}
use Rattle.cc_base.specs.declared.place.Place.{Place}
use Rattle.cc_capture.specs.declared.var.Elem.{Elem}
use Rattle.cc_capture.specs.declared.var.Elem.TheVariants.{Var as Variable, Cap, Hole}
use Rattle.cc_capture.specs.Sets.{Set}
use Rattle.cc_core.specs.declared.context.Bind.{Bind as DeclaredBind}
use Rattle.cc_core.specs.Shapes.{Shape}
use Rattle.cc_core.specs.Contexts.{TermEntry, lookup}
use Rattle.cc_core.specs.Substitution.{single}
use Rattle.cc_core.specs.TermViews.{context_of}
use Rattle.cc_core.proofs.KindFacts.{IsKindedElement, IsKindedSet-test}
use Rattle.cc_core.proofs.Moving.{Member-single}
use Rattle.cc_checking.specs.Comparison.{demanded}
use Rattle.cc_checking.specs.Outcomes.{Asked, IsBelow, Placed}
use Rattle.cc_checking.specs.Fillings.{IsAskedIn}
use Rattle.cc_checking_laws.specs.FillingLaws.{IsFit}
use Rattle.cc_subty.specs.declared.demands.Demand.{Demand as DeclaredDemand}
use Rattle.cc_subty.specs.declared.demands.Demand.TheVariants.{Sub}
use Rattle.cc_subty.specs.Demands.{demand_of, asked_of}
use Rattle.cc_solve.specs.Solutions.{HasHolesBelow, AsksOfHolesBelow, AreSolvable}
use Rattle.cc_solve.proofs.CollectedDemands.{asked_nowhere}
use Rattle.cc_tests_calculus.specs.Flows.{flow}

-- the universal capability, or a hole of so many
abbrev IsSource : ℕ → Elem → Type 0
IsSource count (Variable v) = ⊥
IsSource count Cap = Unit {0}
IsSource count (Hole h) = h < count

-- it asks that such an element flows into a hole of so many
abbrev pub IsFlow : ℕ → Asked → Type 0
IsFlow count a = (from : Elem) × (hole : ℕ) × (a ≡ flow from hole) × IsSource count from × (hole < count)

abbrev pub AreFlows : ℕ → List Placed → Type 0
AreFlows count [] = Unit {0}
AreFlows count (p ∷ rest) = IsFlow count p.asked × AreFlows count rest

flows_push : (count : ℕ) (list : List Placed) (p : Placed) → AreFlows count list → IsFlow count p.asked
    → AreFlows count (list ++ p ∷ [])
flows_push count [] p all one = (one, tt)
flows_push count (q ∷ list) p all one = (all.0, flows_push count list p all.1 one)

pub flows_more : (count : ℕ) (old new : List Placed) (from : Elem) (hole : ℕ) → AreFlows count old
    → (placed : Placed) × (new ≡ old ++ placed ∷ []) × (placed.asked ≡ flow from hole)
    → IsSource count from → hole < count → AreFlows count new
flows_more count old new from hole all (placed, is, asks) source below =
    subst (AreFlows count) (sym is) (flows_push count old placed all (from, hole, asks, source, below))

flows_in : (count : ℕ) (list : List Placed) → AreFlows count list → (a : Asked) → IsAskedIn list a → IsFlow count a
flows_in count [] all a asked = absurd (asked_nowhere a asked)
flows_in count (p ∷ list) all a ([], q, after, is, same) =
    subst (IsFlow count) (ap (λ (x : Placed). x.asked) head ∙ same) all.0
  where
    head : p ≡ q
    head = cc
flows_in count (p ∷ list) all a (x ∷ before, q, after, is, same) =
    flows_in count list all.1 a (before, q, after, tail, same)
  where
    tail : list ≡ before ++ q ∷ after
    tail = cc

source_kinded : (count : ℕ) (from : Elem) → IsSource count from → IsKindedElement [] [] from
source_kinded count (Variable v) source = absurd source
source_kinded count Cap source = tt
source_kinded count (Hole h) source = tt

flow_fits : (count : ℕ) (a : Asked) → IsFlow count a → IsFit [] a
flow_fits count a (from, hole, is, source, below) =
    subst (IsFit []) (sym is) (
      ([], refl),
      refl,
      IsKindedSet-test [] [] (single from)
          (λ x m. subst (IsKindedElement [] []) (sym (Member-single x from m)) (source_kinded count from source)),
      inr (hole, refl),
    )

source_below : (count : ℕ) (from : Elem) → IsSource count from → HasHolesBelow count (single from)
source_below count from source h m = by_source from source (Member-single (Hole h) from m)
  where
    by_source : (x : Elem) → IsSource count x → Hole h ≡ x → h < count
    by_source (Variable v) s e = absurd s
    by_source Cap s e = cc
    by_source (Hole n) s e = let same : h ≡ n = cc in subst (λ k. k < count) (sym same) s

flow_numbered : (count : ℕ) (a : Asked) → IsFlow count a → AsksOfHolesBelow count a
flow_numbered count a (from, hole, is, source, below) =
    subst (AsksOfHolesBelow count) (sym is) (
      source_below count from source,
      source_below count (Hole hole) below,
      λ p s d there. absurd (nothing p s d there),
    )
  where
    nothing : (p : ℕ) (s : Shape) (d : Set) → ◌≡◌ (lookup [] p) (Some (TermEntry s d)) → ⊥
    nothing p s d there = cc

pub flows_solvable : (count : ℕ) (list : List Placed) → AreFlows count list → AreSolvable 0 count list
flows_solvable count list all = record {
  base = [];
  so_many = refl;
  fit = record {
    formed = refl;
    globals_alone = tt;
    each = λ a asked. flow_fits count a (flows_in count list all a asked);
  };
  numbered = λ a asked. flow_numbered count a (flows_in count list all a asked);
}

-- one demand more at the end of the program's list
asked_push : (old : List DeclaredDemand) (d : DeclaredDemand) → asked_of (old ++ d ∷ []) ≡ asked_of old ++ demand_of d ∷ []
asked_push [] d = refl
asked_push (x ∷ old) d = ap (λ l. demand_of x ∷ l) (asked_push old d)

pub one_more : (old new : List DeclaredDemand) (context : List DeclaredBind) (left right : Set) (at : Place) (from : Elem)
    (hole : ℕ) → new ≡ old ++ Sub context left right at ∷ [] → context ≡ [] → left ≡ single from
    → right ≡ single (Hole hole)
    → (placed : Placed) × (asked_of new ≡ asked_of old ++ placed ∷ []) × (placed.asked ≡ flow from hole)
one_more old new context left right at from hole is empty one other = (
  demand_of (Sub context left right at),
  ap asked_of is ∙ asked_push old (Sub context left right at),
  λ i. IsBelow (demanded (context_of (empty i)) (one i) (other i)),
)
