-- What demands bring into holes, one after the other.
use Rattle.std.proofs.Common.{◌≡◌, ◌⊎◌, ℕ, zero, suc, ◌+◌, ◌<◌, ◌≤◌, List, [], ◌∷◌, ◌++◌, take, length, get_or, Some}
use Rattle.std.proofs.Common.{refl, sym, ap, ◌∙◌, subst, inl, inr, arith}
use Rattle.std.proofs.Math.Seq.{take-append_seam}
use Rattle.cc_base.specs.declared.place.Place.{Place}
use Rattle.cc_capture.specs.declared.var.Elem.{Elem}
use Rattle.cc_capture.specs.declared.var.Elem.TheVariants.{Hole}
use Rattle.cc_capture.specs.Sets.{Set, Member, empty}
use Rattle.cc_capture.proofs.Membership.{Member-empty}
use Rattle.cc_core.specs.declared.context.Bind.{Bind as DeclaredBind}
use Rattle.cc_core.specs.Shapes.{Shape}
use Rattle.cc_core.specs.Contexts.{TermEntry, Context, lookup}
use Rattle.cc_core.specs.Substitution.{single}
use Rattle.cc_core.specs.TermViews.{context_of}
use Rattle.cc_core.specs.WellFormed.{IsWellFormedContext, IsWellFormedSet}
use Rattle.cc_core.proofs.Moving.{Member-single_itself}
use Rattle.cc_checking.specs.Comparison.{Demand, demanded}
use Rattle.cc_checking.specs.Outcomes.{Asked, IsBelow, IsCapless, Placed, placed_at}
use Rattle.cc_checking.specs.Fillings.{IsAskedIn}
use Rattle.cc_subty.specs.declared.demands.Demand.{Demand as DeclaredDemand}
use Rattle.cc_subty.specs.Demands.{demand_of, asked_of}
use Rattle.cc_solve.specs.Adding.{AddsThose, Brings, IsSeed, IsFlow, IsSeedOf, IsFlowOf}
use Rattle.cc_solve.specs.Ends.{Leads, ends, through, LeadsFrom}
use Rattle.cc_solve.specs.Solutions.{filling_of, AreSolvable, HasHolesBelow}
use Rattle.cc_solve.proofs.Additions.{adds_then, adds_as, adds_none}
use Rattle.cc_solve.proofs.HolesAlone.{singles}

-- what is asked in a part is asked in the whole, and the other way
pub asked_first : (p : Placed) (list : List Placed) (asked : Asked) → p.asked ≡ asked → IsAskedIn (p ∷ list) asked
asked_first p list asked is = ([], p, list, refl, is)

asked_later : (p : Placed) (list : List Placed) (asked : Asked) → IsAskedIn list asked → IsAskedIn (p ∷ list) asked
asked_later p list asked (before, placed, after, is, same) = (p ∷ before, placed, after, ap (λ l. p ∷ l) is, same)

asked_cases : (p : Placed) (list : List Placed) (asked : Asked) → IsAskedIn (p ∷ list) asked → (p.asked ≡ asked) ⊎ IsAskedIn list asked
asked_cases p list asked ([], placed, after, is, same) =
    let first : p ≡ placed = cc in inl (ap (λ (x : Placed). x.asked) first ∙ same)
asked_cases p list asked (b ∷ before, placed, after, is, same) =
    let rest : list ≡ before ++ placed ∷ after = cc in inr (before, placed, after, rest, same)

pub asked_nowhere : (asked : Asked) → IsAskedIn [] asked → ⊥
asked_nowhere asked ([], placed, after, is, same) = cc
asked_nowhere asked (b ∷ before, placed, after, is, same) = cc

pub asked_one : (p : Placed) (asked : Asked) → IsAskedIn (p ∷ []) asked → p.asked ≡ asked
asked_one p asked a = elim (asked_cases p [] asked a) as (λ _. p.asked ≡ asked) [ inl is ↦ is | inr none ↦ absurd (asked_nowhere asked none) ]

asked_split : (one two : List Placed) (asked : Asked) → IsAskedIn (one ++ two) asked → IsAskedIn one asked ⊎ IsAskedIn two asked
asked_split [] two asked a = inr a
asked_split (p ∷ one) two asked a =
    elim (asked_cases p (one ++ two) asked a) as (λ _. IsAskedIn (p ∷ one) asked ⊎ IsAskedIn two asked) [
      | inl is ↦ inl (asked_first p one asked is)
      | inr later ↦
          elim (asked_split one two asked later) as (λ _. IsAskedIn (p ∷ one) asked ⊎ IsAskedIn two asked) [
            | inl left ↦ inl (asked_later p one asked left)
            | inr right ↦ inr right
          ]
    ]

asked_left : (one two : List Placed) (asked : Asked) → IsAskedIn one asked → IsAskedIn (one ++ two) asked
asked_left [] two asked a = absurd (asked_nowhere asked a)
asked_left (p ∷ one) two asked a =
    elim (asked_cases p one asked a) as (λ _. IsAskedIn (p ∷ one ++ two) asked) [
      | inl is ↦ asked_first p (one ++ two) asked is
      | inr later ↦ asked_later p (one ++ two) asked (asked_left one two asked later)
    ]

asked_right : (one two : List Placed) (asked : Asked) → IsAskedIn two asked → IsAskedIn (one ++ two) asked
asked_right [] two asked a = a
asked_right (p ∷ one) two asked a = asked_later p (one ++ two) asked (asked_right one two asked a)

-- the first demands, with one more
pub take_one : (ds : List DeclaredDemand) (i : ℕ) (d : DeclaredDemand) → i < length ds → d ≡ get_or ds i d
    → asked_of (take (i + 1) ds) ≡ asked_of (take i ds) ++ demand_of d ∷ []
take_one [] i d below is = absurd (omega arith)
take_one (x ∷ ds) zero d below is = ap (λ y. demand_of y ∷ []) (sym is)
take_one (x ∷ ds) (suc i) d below is =
    let next : suc i + 1 ≡ suc (i + 1) = omega arith in
    ap (λ n. asked_of (take n (x ∷ ds))) next ∙ ap (λ l. demand_of x ∷ l) (take_one ds i d (omega arith) is)

pub take_whole : (ds : List DeclaredDemand) (i : ℕ) → length ds ≤ i → take i ds ≡ ds
take_whole [] zero h = refl
take_whole [] (suc i) h = refl
take_whole (x ∷ ds) zero h = absurd (omega arith)
take_whole (x ∷ ds) (suc i) h = ap (λ l. x ∷ l) (take_whole ds i (omega arith))

pub one_asked : (ds : List DeclaredDemand) (i : ℕ) (d : DeclaredDemand) → i < length ds → d ≡ get_or ds i d → (asked : Asked)
    → (demand_of d).asked ≡ asked → IsAskedIn (asked_of ds) asked
one_asked [] i d below is asked same = absurd (omega arith)
one_asked (x ∷ ds) zero d below is asked same =
    asked_first (demand_of x) (asked_of ds) asked (ap (λ y. (demand_of y).asked) (sym is) ∙ same)
one_asked (x ∷ ds) (suc i) d below is asked same =
    asked_later (demand_of x) (asked_of ds) asked (one_asked ds i d (omega arith) is asked same)

-- one of the demands can be solved where all can
pub solvable_one : (globals holes : ℕ) (ds : List DeclaredDemand) (i : ℕ) (d : DeclaredDemand) (room : ℕ) → room ≡ holes → AreSolvable globals holes (asked_of ds)
    → i < length ds → d ≡ get_or ds i d → AreSolvable globals room (demand_of d ∷ [])
solvable_one globals holes ds i d room same all below is =
    subst (λ n. AreSolvable globals n (demand_of d ∷ [])) (sym same)
    (record {
      base = all.base;
      so_many = all.so_many;
      fit =
          record {
            formed = all.fit.formed;
            globals_alone = all.fit.globals_alone;
            each = λ asked a. all.fit.each asked (one_asked ds i d below is asked (asked_one (demand_of d) asked a));
          };
      numbered = λ asked a. all.numbered asked (one_asked ds i d below is asked (asked_one (demand_of d) asked a));
    })

-- what is brought
brings_split : (root : ℕ) (one two : List Placed) (hole : ℕ) (e : Elem) → Brings root (one ++ two) hole e → Brings root one hole e ⊎ Brings root two hole e
brings_split root one two hole e (demand, asked, right, lead) =
    elim (asked_split one two (IsBelow demand) asked) as (λ _. Brings root one hole e ⊎ Brings root two hole e) [
      | inl left ↦ inl (demand, left, right, lead)
      | inr later ↦ inr (demand, later, right, lead)
    ]

brings_left : (root : ℕ) (one two : List Placed) (hole : ℕ) (e : Elem) → Brings root one hole e → Brings root (one ++ two) hole e
brings_left root one two hole e (demand, asked, right, lead) = (demand, asked_left one two (IsBelow demand) asked, right, lead)

brings_right : (root : ℕ) (one two : List Placed) (hole : ℕ) (e : Elem) → Brings root two hole e → Brings root (one ++ two) hole e
brings_right root one two hole e (demand, asked, right, lead) = (demand, asked_right one two (IsBelow demand) asked, right, lead)

seeds_joined : (root : ℕ) (one two : List Placed) (old middle new : List Set) → AddsThose (IsSeed root one) old middle → AddsThose (IsSeed root two) middle new
    → AddsThose (IsSeed root (one ++ two)) old new
seeds_joined root one two old middle new =
    adds_then (IsSeed root one) (IsSeed root two) (IsSeed root (one ++ two)) old middle new
    (λ at e (none, b).
    elim (brings_split root one two at e b) as (λ _. IsSeed root one at e ⊎ IsSeed root two at e) [
      | inl left ↦ inl (none, left)
      | inr right ↦ inr (none, right)
    ])
    (λ at e (none, b). (none, brings_left root one two at e b))
    (λ at e (none, b). (none, brings_right root one two at e b))

flows_joined : (root : ℕ) (one two : List Placed) (old middle new : List Set) → AddsThose (IsFlow root one) old middle → AddsThose (IsFlow root two) middle new
    → AddsThose (IsFlow root (one ++ two)) old new
flows_joined root one two old middle new =
    adds_then (IsFlow root one) (IsFlow root two) (IsFlow root (one ++ two)) old middle new
    (λ at e (target, is, b).
    elim (brings_split root one two target (Hole at) b) as (λ _. IsFlow root one at e ⊎ IsFlow root two at e) [
      | inl left ↦ inl (target, is, left)
      | inr right ↦ inr (target, is, right)
    ])
    (λ at e (target, is, b). (target, is, brings_left root one two target (Hole at) b))
    (λ at e (target, is, b). (target, is, brings_right root one two target (Hole at) b))

pub seeds_first : (root : ℕ) (old : List Set) → AddsThose (IsSeed root []) old old
seeds_first root old = adds_none (IsSeed root []) old (λ at e (none, b). asked_nowhere (IsBelow b.0) b.1)

pub flows_first : (root : ℕ) (old : List Set) → AddsThose (IsFlow root []) old old
flows_first root old = adds_none (IsFlow root []) old (λ at e (target, is, b). asked_nowhere (IsBelow b.0) b.1)

pub seeds_next : (root : ℕ) (ds : List DeclaredDemand) (i : ℕ) (d : DeclaredDemand) (old middle new : List Set) → i < length ds → d ≡ get_or ds i d
    → AddsThose (IsSeed root (asked_of (take i ds))) old middle → AddsThose (IsSeed root (demand_of d ∷ [])) middle new
    → AddsThose (IsSeed root (asked_of (take (i + 1) ds))) old new
seeds_next root ds i d old middle new below is one two =
    subst (λ l. AddsThose (IsSeed root l) old new) (sym (take_one ds i d below is)) (seeds_joined root (asked_of (take i ds)) (demand_of d ∷ []) old middle new one two)

pub flows_next : (root : ℕ) (ds : List DeclaredDemand) (i : ℕ) (d : DeclaredDemand) (old middle new : List Set) → i < length ds → d ≡ get_or ds i d
    → AddsThose (IsFlow root (asked_of (take i ds))) old middle → AddsThose (IsFlow root (demand_of d ∷ [])) middle new
    → AddsThose (IsFlow root (asked_of (take (i + 1) ds))) old new
flows_next root ds i d old middle new below is one two =
    subst (λ l. AddsThose (IsFlow root l) old new) (sym (take_one ds i d below is)) (flows_joined root (asked_of (take i ds)) (demand_of d ∷ []) old middle new one two)

pub seeds_whole : (root : ℕ) (ds : List DeclaredDemand) (i : ℕ) (old new : List Set) → length ds ≤ i → AddsThose (IsSeed root (asked_of (take i ds))) old new
    → AddsThose (IsSeed root (asked_of ds)) old new
seeds_whole root ds i old new h one = subst (λ l. AddsThose (IsSeed root (asked_of l)) old new) (take_whole ds i h) one

pub flows_whole : (root : ℕ) (ds : List DeclaredDemand) (i : ℕ) (old new : List Set) → length ds ≤ i → AddsThose (IsFlow root (asked_of (take i ds))) old new
    → AddsThose (IsFlow root (asked_of ds)) old new
flows_whole root ds i old new h one = subst (λ l. AddsThose (IsFlow root (asked_of l)) old new) (take_whole ds i h) one

-- one demand
demand_same : (d d' : Demand) → IsBelow d ≡ IsBelow d' → d ≡ d'
demand_same d d' same = cc

below_capless : (d : Demand) (s : Set) → IsCapless s ≡ IsBelow d → ⊥
below_capless d s same = cc

leads_below : {root : ℕ} {context : Context} {x e : Elem} (holes : ℕ)
    → ((position : ℕ) (shape : Shape) (declared : Set) → lookup context position ≡ Some (TermEntry shape declared) → HasHolesBelow holes declared)
    → Leads root context x e → ((h : ℕ) → x ≡ Hole h → h < holes) → (h : ℕ) → e ≡ Hole h → h < holes
leads_below holes below (ends end) own h is = own h is
leads_below holes below (through {position = p} {shape = s} {declared = d} from there m k) own h is =
    leads_below holes below k (λ n same. below p s d there n (subst (λ y. Member y d) same m)) h is

module _ (context : List DeclaredBind) (left right : Set) (at : Place) where
  abbrev one : Demand
  one = demanded (context_of context) left right

  abbrev placed : Placed
  placed = placed_at at (IsBelow one)

  here : IsAskedIn (placed ∷ []) (IsBelow one)
  here = asked_first placed [] (IsBelow one) refl

  pub context_formed : (globals holes : ℕ) → AreSolvable globals holes (placed ∷ []) → IsWellFormedContext (context_of context)
  context_formed globals holes s = (s.fit.each (IsBelow one) here).1

  pub left_formed : (globals holes : ℕ) → AreSolvable globals holes (placed ∷ []) → IsWellFormedSet (context_of context) left
  left_formed globals holes s = (s.fit.each (IsBelow one) here).2

  pub hole_below : (globals holes : ℕ) → AreSolvable globals holes (placed ∷ []) → (hole : ℕ) → right ≡ single (Hole hole) → hole < holes
  hole_below globals holes s hole alone =
      (s.numbered (IsBelow one) here).1 hole (subst (Member (Hole hole)) (sym alone) (Member-single_itself (Hole hole)))

  pub ends_below : (globals holes : ℕ) → AreSolvable globals holes (placed ∷ []) → (found : Set)
      → ((e : Elem) → Member e found → LeadsFrom globals (context_of context) left e) → HasHolesBelow holes found
  ends_below globals holes s found only hole m =
      let asks = s.numbered (IsBelow one) here in
      let lead = only (Hole hole) m in
      leads_below holes asks.2 lead.2 (λ h same. asks.0 h (subst (λ y. Member y left) same lead.1)) hole refl

  module _ (root hole : ℕ) (alone : right ≡ single (Hole hole)) (found : Set) (only : (e : Elem) → Member e found → LeadsFrom root (context_of context) left e)
      (all : (e : Elem) → LeadsFrom root (context_of context) left e → Member e found) where
    brought_here : (e : Elem) → Member e found → Brings root (placed ∷ []) hole e
    brought_here e m = (one, here, alone, only e m)

    brought_there : (target : ℕ) (e : Elem) → Brings root (placed ∷ []) target e → (target ≡ hole) × Member e found
    brought_there target e (demand, asked, right', lead) =
        let same : one ≡ demand = demand_same one demand (asked_one placed (IsBelow demand) asked) in
        let sides : single (Hole target) ≡ single (Hole hole) = sym right' ∙ ap (λ (d : Demand). d.right) (sym same) ∙ alone in (
          hole_same target hole (singles (Hole target) (Hole hole) sides),
          all e (subst (λ (d : Demand). LeadsFrom root d.context d.left e) (sym same) lead),
        )
      where
        hole_same : (h k : ℕ) → Hole h ≡ Hole k → h ≡ k
        hole_same h k is = cc

    pub seeds_of_demand : (old new : List Set) → AddsThose (IsSeedOf hole (λ e. Member e found)) old new → AddsThose (IsSeed root (placed ∷ [])) old new
    seeds_of_demand old new =
        adds_as (IsSeedOf hole (λ e. Member e found)) (IsSeed root (placed ∷ [])) old new
        (λ at' e (is, none, m). (none, subst (λ h. Brings root (placed ∷ []) h e) (sym is) (brought_here e m)))
        (λ at' e (none, b). let known = brought_there at' e b in (known.0, none, known.1))

    pub flows_of_demand : (old new : List Set) → AddsThose (IsFlowOf hole (λ e. Member e found)) old new → AddsThose (IsFlow root (placed ∷ [])) old new
    flows_of_demand old new =
        adds_as (IsFlowOf hole (λ e. Member e found)) (IsFlow root (placed ∷ [])) old new
        (λ at' e (is, m). (hole, is, brought_here (Hole at') m))
        (λ at' e (target, is, b). let known = brought_there target (Hole at') b in (is ∙ ap (λ n. Hole n) known.0, known.1))

  module _ (root : ℕ) (other : (hole : ℕ) → right ≡ single (Hole hole) → ⊥) where
    not_brought : (target : ℕ) (e : Elem) → Brings root (placed ∷ []) target e → ⊥
    not_brought target e (demand, asked, right', lead) =
        let same : one ≡ demand = demand_same one demand (asked_one placed (IsBelow demand) asked) in
        other target (ap (λ (d : Demand). d.right) same ∙ right')

    pub no_seeds_of_demand : (old : List Set) → AddsThose (IsSeed root (placed ∷ [])) old old
    no_seeds_of_demand old = adds_none (IsSeed root (placed ∷ [])) old (λ at' e (none, b). not_brought at' e b)

    pub no_flows_of_demand : (old : List Set) → AddsThose (IsFlow root (placed ∷ [])) old old
    no_flows_of_demand old = adds_none (IsFlow root (placed ∷ [])) old (λ at' e (target, is, b). not_brought target (Hole at') b)

module _ (root : ℕ) (set : Set) (at : Place) where
  nothing_brought : (target : ℕ) (e : Elem) → Brings root (placed_at at (IsCapless set) ∷ []) target e → ⊥
  nothing_brought target e (demand, asked, right, lead) = below_capless demand set (asked_one (placed_at at (IsCapless set)) (IsBelow demand) asked)

  pub no_seeds_of_capless : (old : List Set) → AddsThose (IsSeed root (placed_at at (IsCapless set) ∷ [])) old old
  no_seeds_of_capless old = adds_none _ old (λ at' e (none, b). nothing_brought at' e b)

  pub no_flows_of_capless : (old : List Set) → AddsThose (IsFlow root (placed_at at (IsCapless set) ∷ [])) old old
  no_flows_of_capless old = adds_none _ old (λ at' e (target, is, b). nothing_brought target (Hole at') b)

-- each flow goes into a hole of a right side
pub flows_below : (globals holes : ℕ) (asked : List Placed) (old flows : List Set) → AreSolvable globals holes asked → ((at : ℕ) → filling_of old at ≡ empty)
    → AddsThose (IsFlow globals asked) old flows → (at : ℕ) → HasHolesBelow holes (filling_of flows at)
flows_below globals holes asked old flows solvable blank added at hole m =
    elim (added.only at (Hole hole) m) as (λ _. hole < holes) [
      | inl was ↦ absurd (Member-empty (Hole hole) (subst (Member (Hole hole)) (blank at) was))
      | inr (target, is, (demand, in_list, right, lead)) ↦
          let below = (solvable.numbered (IsBelow demand) in_list).1 target (subst (Member (Hole target)) (sym right) (Member-single_itself (Hole target))) in
          omega (arith, below, hole_number hole target is)
    ]
  where
    hole_number : (h k : ℕ) → Hole h ≡ Hole k → h ≡ k
    hole_number h k same = cc

-- the whole of what was written is left
pub written_back : {X : Type 0} (n : ℕ) (xs ys : List X) → n ≡ length xs → take n (xs ++ ys) ≡ xs
written_back n xs ys same = ap (λ k. take k (xs ++ ys)) same ∙ take-append_seam xs ys
