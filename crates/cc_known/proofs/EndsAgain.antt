-- The ends of a set, by the variables that lead to them, and that these lead there wherever their entries stand.
use Rattle.std.proofs.Common.{◌≡◌, ◌↔◌, ◌⊎◌, ℕ, zero, suc, ◌+◌, ◌-◌, ◌<◌, ◌≤◌, Bool, true, false, not, cond, ◌&&◌, ◌||◌, List, [], ◌∷◌, ◌++◌}
use Rattle.std.proofs.Common.{length, length-append, Option, Some, None, inl, inr, refl, sym, ap, ◌∙◌, subst, arith}
use Rattle.std.specs.Prelude.{nat_lt}
use Rattle.std.specs.List.{list_all}
use Rattle.std.specs.Option.{option_map}
use Rattle.std.proofs.lemmas.Bool.{cases_eq, cases_lt, both_ways, and_parts, or_cases, or_right, lt-ltb, ltb-true, le-ltb}
use Rattle.cc_capture.specs.declared.var.Var.TheVariants.{Bound, Free}
use Rattle.cc_capture.specs.declared.var.Elem.{Elem}
use Rattle.cc_capture.specs.declared.var.Elem.TheVariants.{Var as Variable, Cap, Hole}
use Rattle.cc_capture.specs.Sets.{Set, Member, contains, union, remove}
use Rattle.cc_capture.proofs.Membership.{same_members, Member-empty, Member-retain, Member-remove, Member-union}
use Rattle.cc_core.specs.ClosedEntries.{closed_entries}
use Rattle.cc_core.specs.Contexts.{Bind, TermEntry, TypeEntry, Context, lookup}
use Rattle.cc_core.specs.Occurrences.{IsAskedOf, IsPositionBelow}
use Rattle.cc_core.specs.Shapes.{Shape, AnyShape}
use Rattle.cc_core.specs.Substitution.{moved_element, renamed_variable, renamed_set}
use Rattle.cc_core.proofs.Lookups.{lookup-more, lookup-within, lookup-below}
use Rattle.cc_known.specs.ComparedAgain.{renamed_entry, seen}
use Rattle.cc_known.specs.EndsAgain.{stays_fillable, comes_again, KeptComparedAgain, ComesNeedless}
use Rattle.cc_known.specs.Keeping.{is_end, beyond, declared_of, all_given_way, ends_beyond, is_demand_settled}
use Rattle.cc_known.specs.Keeping.{has_hole, is_among_oldest, fillable, has_lost, has_ended_so, is_repeated, with_one}
use Rattle.cc_checking.specs.Comparison.{demanded}
use Rattle.cc_checking.specs.Inference.{demand_at}
use Rattle.cc_checking.specs.Outcomes.{IsBelow, Placed}
use Rattle.cc_known.proofs.ClosedAgain.{opened, open_at, older_alike, open_alike}
use Rattle.cc_known.proofs.FillableSets.{Member-fillable}
use Rattle.cc_known.proofs.KeptDemands.{listed_passes}
use Rattle.cc_known.proofs.KeptWalks.{settled_goes}
use Rattle.cc_known.proofs.ComparedAgain.{Moves, moved, one_position, again, contains-moved, member_moved, member_from}
use Rattle.cc_known.proofs.ComparedAgain.{length-again, entry-again, older_members, list_all-renamed, has_hole-renamed}
use Rattle.cc_known.proofs.ComparedAgain.{settled-again, TestsAgain, told_again}
use Rattle.cc_known.proofs.DemandEnds.{beyond_both, both_beyond}

-- An element leads to an end beyond a set: it is that end, or a variable with a member of its declared set that is no
-- newer variable, and leads there.
data Leads (g : Context) (right : Set) (end : Elem) : Elem → Type 0 where
  itself : contains end right ≡ false → Leads g right end end
  through : {p : ℕ} {s : Shape} {d : Set} → contains (Variable (Free p)) right ≡ false
      → lookup g p ≡ Some (TermEntry s d) → (x : Elem) → Member x d → IsAskedOf (IsPositionBelow p) x
      → Leads g right end x → Leads g right end (Variable (Free p))

leads_out : {g : Context} {right : Set} {end x : Elem} → Leads g right end x → contains x right ≡ false
leads_out (itself out) = out
leads_out (through out is x m below rest) = out

end_below : (n : ℕ) (e : Elem) → is_end e ≡ true → IsAskedOf (IsPositionBelow n) e
end_below n (Variable v) is = cc
end_below n Cap is = tt
end_below n (Hole k) is = tt

below_more : (p : ℕ) (x : Elem) → IsAskedOf (IsPositionBelow p) x → IsAskedOf (IsPositionBelow (suc p)) x
below_more p (Variable (Bound i)) h = h
below_more p (Variable (Free q)) h = omega (arith, h)
below_more p Cap h = h
below_more p (Hole k) h = h

-- what is below one more is that position or below
below_less : (p : ℕ) (x : Elem) → IsAskedOf (IsPositionBelow (suc p)) x
    → (x ≡ Variable (Free p)) ⊎ ((x ≡ Variable (Free p) → ⊥) × IsAskedOf (IsPositionBelow p) x)
below_less p (Variable (Bound i)) h = inr (λ e. cc, h)
below_less p (Variable (Free q)) h =
    elim (cases_eq q p) as (λ _. (Variable (Free q) ≡ Variable (Free p)) ⊎ ((Variable (Free q) ≡ Variable (Free p) → ⊥) × (q < p))) [
      | inl same ↦ inl (ap (λ n. Variable (Free n)) same)
      | inr other ↦ inr (λ e. other (position_of e), omega (arith, h, other))
    ]
  where
    position_of : Variable (Free q) ≡ Variable (Free p) → q ≡ p
    position_of e = cc
below_less p Cap h = inr (λ e. cc, h)
below_less p (Hole k) h = inr (λ e. cc, h)

module _ (g : Context) (right : Set) (e : Elem) (end : is_end e ≡ true) where
  -- a member that is older than a position leads to the end
  abbrev Reaches : ℕ → Set → Type 0
  Reaches n set = (x : Elem) × Member x set × IsAskedOf (IsPositionBelow n) x × Leads g right e x

  abbrev Apart : Set → Type 0
  Apart set = (x : Elem) → Member x set → contains x right ≡ false

  abbrev next : ℕ → Set → Set
  next p set = union (remove (Variable (Free p)) set) (beyond right (declared_of (lookup g p)))

  apart_next : (p : ℕ) (set : Set) → Apart set → Apart (next p set)
  apart_next p set apart x m =
      elim ((Member-union x (remove (Variable (Free p)) set) (beyond right (declared_of (lookup g p)))).0 m)
      as (λ _. contains x right ≡ false) [
        | inl was ↦ apart x ((Member-remove x (Variable (Free p)) set).0 was).1
        | inr new ↦ (beyond_both right (declared_of (lookup g p)) x new).1
      ]

  from_declared : (p : ℕ) (o : Option Bind) → lookup g p ≡ o → (set : Set) → Member (Variable (Free p)) set
      → contains (Variable (Free p)) right ≡ false → (x : Elem) → Member x (declared_of o)
      → IsAskedOf (IsPositionBelow p) x → Leads g right e x → Reaches (suc p) set
  from_declared p (Some (TermEntry s d)) is set m out x l below leads =
      (Variable (Free p), m, omega arith, through out is x l below leads)
  from_declared p (Some (TypeEntry b)) is set m out x l below leads = absurd (Member-empty x l)
  from_declared p None is set m out x l below leads = absurd (Member-empty x l)

  from_next : (p : ℕ) (set : Set) → Apart set → Member (Variable (Free p)) set → Reaches p (next p set) → Reaches (suc p) set
  from_next p set apart member (x, m, below, leads) =
      elim ((Member-union x (remove (Variable (Free p)) set) (beyond right (declared_of (lookup g p)))).0 m)
      as (λ _. Reaches (suc p) set) [
        | inl was ↦ (x, ((Member-remove x (Variable (Free p)) set).0 was).1, below_more p x below, leads)
        | inr new ↦
            from_declared p (lookup g p) refl set member (apart (Variable (Free p)) member) x
            (beyond_both right (declared_of (lookup g p)) x new).0 below leads
      ]

  forward : (n : ℕ) (set : Set) → Apart set → Member e (all_given_way g right n set) → Reaches n set
  forward zero set apart m = (e, m, end_below zero e end, itself (apart e m))
  forward (suc p) set apart m =
      by_test (forward p (next p set) (apart_next p set apart)) (forward p set apart) (contains (Variable (Free p)) set) refl m
    where
      by_test : (Member e (all_given_way g right p (next p set)) → Reaches p (next p set))
          → (Member e (all_given_way g right p set) → Reaches p set) → (b : Bool) → contains (Variable (Free p)) set ≡ b
          → Member e (all_given_way g right p (cond b (next p set) set)) → Reaches (suc p) set
      by_test on still true is m = from_next p set apart is (on m)
      by_test on still false is m = let k = still m in (k.0, k.1, below_more p k.0 k.2, k.3)

  abbrev Goes : ℕ → Set → Elem → Type 0
  Goes p set x = Member x set → IsAskedOf (IsPositionBelow (suc p)) x → Reaches p (next p set)

  -- what leads on by the variable that gives way leads on by its declared set
  to_next : (p : ℕ) (set : Set) (x : Elem) → Leads g right e x → Goes p set x
  to_next p set x (itself out) m below =
      elim (below_less p e below) as (λ _. Reaches p (next p set)) [
        | inl same ↦ absurd (both_ways (is_end (Variable (Free p))) refl (sym (ap is_end same) ∙ end))
        | inr other ↦ (
          e,
          (Member-union e (remove (Variable (Free p)) set) (beyond right (declared_of (lookup g p)))).1
              (inl ((Member-remove e (Variable (Free p)) set).1 (other.0, m))),
          other.1,
          itself out,
        )
      ]
  to_next p set x (through {p = q} {s = s} {d = d} out is y l lower rest) m below =
      elim (below_less p (Variable (Free q)) below) as (λ _. Reaches p (next p set)) [
        | inl same ↦
            let at : q ≡ p = cc in
            let found : declared_of (lookup g p) ≡ d = ap (λ n. declared_of (lookup g n)) (sym at) ∙ ap declared_of is in (
              y,
              (Member-union y (remove (Variable (Free p)) set) (beyond right (declared_of (lookup g p)))).1
                  (inr (both_beyond right (declared_of (lookup g p)) y (subst (Member y) (sym found) l) (leads_out rest))),
              subst (λ n. IsAskedOf (IsPositionBelow n) y) at lower,
              rest,
            )
        | inr other ↦ (
          Variable (Free q),
          (Member-union (Variable (Free q)) (remove (Variable (Free p)) set) (beyond right (declared_of (lookup g p)))).1
              (inl ((Member-remove (Variable (Free q)) (Variable (Free p)) set).1 (other.0, m))),
          other.1,
          through out is y l lower rest,
        )
      ]

  no_position : (x : Elem) (set : Set) → Leads g right e x → Member x set → IsAskedOf (IsPositionBelow zero) x → Member e set
  no_position x set (itself out) m below = m
  no_position x set (through out is y l lower rest) m below = absurd (omega (arith, below))

  backward : (n : ℕ) (set : Set) → Reaches n set → Member e (all_given_way g right n set)
  backward zero set (x, m, below, leads) = no_position x set leads m below
  backward (suc p) set (x, m, below, leads) =
      by_test (backward p (next p set)) (backward p set) (contains (Variable (Free p)) set) refl
    where
      by_test : (Reaches p (next p set) → Member e (all_given_way g right p (next p set)))
          → (Reaches p set → Member e (all_given_way g right p set)) → (b : Bool) → contains (Variable (Free p)) set ≡ b
          → Member e (all_given_way g right p (cond b (next p set) set))
      by_test on still true is = on (to_next p set x leads m below)
      by_test on still false is =
          elim (below_less p x below) as (λ _. Member e (all_given_way g right p set)) [
            | inl same ↦
                absurd (both_ways (contains (Variable (Free p)) set) is (subst (λ y. Member y set) same m))
            | inr other ↦ still (x, m, other.1, leads)
          ]

  -- an end is one of a set where a member leads to it
  ends_lead : (left : Set) → Member e (ends_beyond g right left) ↔ Reaches (length g) left
  ends_lead left = (
    λ m.
        let k = (Member-retain is_end e (all_given_way g right (length g) (beyond right left))).0 m in
        let r = forward (length g) (beyond right left) (λ x l. (beyond_both right left x l).1) k.1 in
        (r.0, (beyond_both right left r.0 r.1).0, r.2, r.3),
    λ r.
        (Member-retain is_end e (all_given_way g right (length g) (beyond right left))).1 (
          end,
          backward (length g) (beyond right left)
              (r.0, both_beyond right left r.0 r.1 (leads_out r.3), r.2, r.3),
        ),
  )

end_still : (to : ℕ → ℕ) (e : Elem) → is_end e ≡ true → moved_element (renamed_variable to) e ≡ e
end_still to (Variable v) is = cc
end_still to Cap is = refl
end_still to (Hole n) is = refl

end_from : (to : ℕ → ℕ) (x e : Elem) → is_end e ≡ true → e ≡ moved_element (renamed_variable to) x → x ≡ e
end_from to (Variable v) e is same = let no : true ≡ false = sym is ∙ ap is_end same in cc
end_from to Cap e is same = sym same
end_from to (Hole n) e is same = sym same

-- what is seen of an entry with a declared set
seen_term : (o : Option Bind) (d : Set) → option_map seen o ≡ Some (TermEntry AnyShape d)
    → (s : Shape) × (o ≡ Some (TermEntry s d))
seen_term (Some (TermEntry s c)) d e = (s, let same : c ≡ d = cc in ap (λ x. Some (TermEntry s x)) same)
seen_term (Some (TypeEntry b)) d e = cc
seen_term None d e = cc

term_from : (to : ℕ → ℕ) (o : Option Bind) (d : Set)
    → Some (TermEntry AnyShape d) ≡ option_map (λ b. renamed_entry to (seen b)) o
    → (s : Shape) × (c : Set) × (o ≡ Some (TermEntry s c)) × (d ≡ renamed_set to c)
term_from to (Some (TermEntry s c)) d e = (s, c, refl, let same : d ≡ renamed_set to c = cc in same)
term_from to (Some (TypeEntry b)) d e = cc
term_from to None d e = cc

there_below : (g : Context) (p : ℕ) (o : Option Bind) → lookup g p ≡ o → (e : Bind) → option_map seen o ≡ Some e → p < length g
there_below g p (Some b) is e same = lookup-below g p b is
there_below g p None is e same = cc

module _ (small real : Context) (to back : ℕ → ℕ) (moves : Moves small real to back) where
  abbrev goes : Elem → Elem
  goes = moved small real to back moves

  rest_at : (p : ℕ) → length small ≤ p → to p ≡ p - length small + length real
  rest_at p h =
      let same : p ≡ p - length small + length small = omega (arith, h) in
      ap to same ∙ moves.passes (p - length small)

  inside : (q : ℕ) → q < length small → to q < length real
  inside q h =
      let there = lookup-within small q h in
      there_below real (to q) (lookup real (to q)) refl (renamed_entry to (seen there.0))
      (moves.entries q ∙ ap (option_map (λ b. renamed_entry to (seen b))) there.1)

  up_lower : (p q : ℕ) → length small ≤ p → q < p → to q < to p
  up_lower p q h l =
      elim (cases_lt q (length small)) as (λ _. to q < to p) [
        | inl low ↦ let a = inside q low in let b = rest_at p h in omega (arith, a, b)
        | inr high ↦ let a = rest_at q high in let b = rest_at p h in omega (arith, a, b, l, h, high)
      ]

  down_lower : (p q : ℕ) → length small ≤ p → to q < to p → q < p
  down_lower p q h l =
      elim (cases_lt q p) as (λ _. q < p) [
        | inl low ↦ low
        | inr high ↦
            let a = rest_at q (omega (arith, h, high)) in let b = rest_at p h in absurd (omega (arith, a, b, l, h, high))
      ]

  in_small : (more : Context) (p : ℕ) (b : Bind) → p < length small → lookup (more ++ small) p ≡ Some b → lookup small p ≡ Some b
  in_small more p b l is =
      let there = lookup-within small p l in
      there.1 ∙ sym (lookup-more more small p there.0 there.1) ∙ is

  module _ (more : Context) where
    term_again : (p : ℕ) (s : Shape) (d : Set) → lookup (more ++ small) p ≡ Some (TermEntry s d)
        → (s' : Shape) × (lookup (again small real to back moves more) (to p) ≡ Some (TermEntry s' (renamed_set to d)))
    term_again p s d is =
        seen_term (lookup (again small real to back moves more) (to p)) (renamed_set to d)
        (entry-again small real to back moves more p ∙ ap (option_map (λ b. renamed_entry to (seen b))) is)

    term_before : (p : ℕ) (s' : Shape) (d' : Set) → lookup (again small real to back moves more) (to p) ≡ Some (TermEntry s' d')
        → (s : Shape) × (d : Set) × (lookup (more ++ small) p ≡ Some (TermEntry s d)) × (d' ≡ renamed_set to d)
    term_before p s' d' is =
        term_from to (lookup (more ++ small) p) d'
        (sym (ap (option_map seen) is) ∙ entry-again small real to back moves more p)

    older_again : (p : ℕ) (s : Shape) (d : Set) → lookup (more ++ small) p ≡ Some (TermEntry s d) → (y : Elem) → Member y d
        → IsAskedOf (IsPositionBelow p) y → IsAskedOf (IsPositionBelow (to p)) (goes y)
    unfolding contains
    older_again p s d is (Variable (Bound i)) m h = h
    older_again p s d is Cap m h = h
    older_again p s d is (Hole n) m h = h
    older_again p s d is (Variable (Free q)) m h =
        elim (cases_lt p (length small)) as (λ _. to q < to p) [
          | inl low ↦
              let own = in_small more p (TermEntry s d) low is in
              let there = seen_term (lookup real (to p)) (renamed_set to d)
              (moves.entries p ∙ ap (option_map (λ b. renamed_entry to (seen b))) own) in
              moves.older p there.0 (renamed_set to d) there.1 (Variable (Free (to q)))
              (member_moved small real to back moves (Variable (Free q)) d m)
          | inr high ↦ up_lower p q high h
        ]

    older_before : (p : ℕ) (s : Shape) (d : Set) → lookup (more ++ small) p ≡ Some (TermEntry s d) → (y : Elem) → Member y d
        → IsAskedOf (IsPositionBelow (to p)) (goes y) → IsAskedOf (IsPositionBelow p) y
    unfolding contains
    older_before p s d is (Variable (Bound i)) m h = h
    older_before p s d is Cap m h = h
    older_before p s d is (Hole n) m h = h
    older_before p s d is (Variable (Free q)) m h =
        elim (cases_lt p (length small)) as (λ _. q < p) [
          | inl low ↦
              older_members small moves.formed p s d (in_small more p (TermEntry s d) low is) (Variable (Free q)) m
          | inr high ↦ down_lower p q high h
        ]

    module _ (r : Set) (e : Elem) (end : is_end e ≡ true) where
      leads_on : {x : Elem} → Leads (more ++ small) r e x
          → Leads (again small real to back moves more) (renamed_set to r) e (goes x)
      leads_on (itself out) =
          subst (Leads (again small real to back moves more) (renamed_set to r) e) (sym (end_still to e end))
          (itself (ap (λ y. contains y (renamed_set to r)) (sym (end_still to e end)) ∙ contains-moved small real to back moves e r ∙ out))
      leads_on (through {p = p} {s = s} {d = d} out is y m below rest) =
          through (contains-moved small real to back moves (Variable (Free p)) r ∙ out) (term_again p s d is).1 (goes y)
          (member_moved small real to back moves y d m) (older_again p s d is y m below) (leads_on rest)

      Back : Elem → Type 0
      Back z = (x : Elem) → z ≡ goes x → Leads (more ++ small) r e x

      by_variable : (p' : ℕ) (s' : Shape) (d' : Set) → contains (Variable (Free p')) (renamed_set to r) ≡ false
          → lookup (again small real to back moves more) p' ≡ Some (TermEntry s' d') → (z : Elem) → Member z d'
          → IsAskedOf (IsPositionBelow p') z → ((y : Elem) → z ≡ goes y → Leads (more ++ small) r e y)
          → (p : ℕ) → p' ≡ to p → Leads (more ++ small) r e (Variable (Free p))
      by_variable p' s' d' out is z m below rest p at =
          let there = term_before p s' d' (subst (λ n. lookup (again small real to back moves more) n ≡ Some (TermEntry s' d')) at is) in
          let k = member_from small real to back moves z there.1 (subst (Member z) there.3 m) in
          through (sym (contains-moved small real to back moves (Variable (Free p)) r) ∙ subst (λ n. contains (Variable (Free n)) (renamed_set to r) ≡ false) at out)
          there.2 k.0 k.1
          (older_before p there.0 there.1 there.2 k.0 k.1
          (subst (λ n. IsAskedOf (IsPositionBelow n) (goes k.0)) at (subst (IsAskedOf (IsPositionBelow p')) k.2 below)))
          (rest k.0 k.2)

      leads_back : {z : Elem} → Leads (again small real to back moves more) (renamed_set to r) e z → (x : Elem) → z ≡ goes x
          → Leads (more ++ small) r e x
      leads_back (itself out) x same =
          let is = end_from to x e end same in
          subst (Leads (more ++ small) r e) (sym is)
          (itself (sym (contains-moved small real to back moves e r) ∙ ap (λ y. contains y (renamed_set to r)) (end_still to e end) ∙ out))
      leads_back (through {p = p'} {s = s'} {d = d'} out is z m below rest) (Variable (Free p)) same =
          by_variable p' s' d' out is z m below (leads_back rest) p (let at : p' ≡ to p = cc in at)
      leads_back (through out is z m below rest) (Variable (Bound i)) same = cc
      leads_back (through out is z m below rest) Cap same = cc
      leads_back (through out is z m below rest) (Hole n) same = cc

    older_length : length small ≤ length (more ++ small)
    older_length = let both = length-append more small in omega (arith, both)

    below_again : (x : Elem) → IsAskedOf (IsPositionBelow (length (more ++ small))) x
        → IsAskedOf (IsPositionBelow (length (again small real to back moves more))) (goes x)
    below_again (Variable (Bound i)) h = h
    below_again Cap h = h
    below_again (Hole n) h = h
    below_again (Variable (Free q)) h =
        let long = length-again small real to back moves more in
        let up = up_lower (length (more ++ small)) q older_length h in omega (arith, long, up)

    below_before : (x : Elem) → IsAskedOf (IsPositionBelow (length (again small real to back moves more))) (goes x)
        → IsAskedOf (IsPositionBelow (length (more ++ small))) x
    below_before (Variable (Bound i)) h = h
    below_before Cap h = h
    below_before (Hole n) h = h
    below_before (Variable (Free q)) h =
        let long = length-again small real to back moves more in
        down_lower (length (more ++ small)) q older_length (omega (arith, long, h))

    pub ends_again : (r l : Set)
        → ends_beyond (again small real to back moves more) (renamed_set to r) (renamed_set to l) ≡ ends_beyond (more ++ small) r l
    ends_again r l =
        let g' = again small real to back moves more in
        let end_of : (g : Context) (right left : Set) (e : Elem) → Member e (ends_beyond g right left) → is_end e ≡ true =
        λ g right left e m. ((Member-retain is_end e (all_given_way g right (length g) (beyond right left))).0 m).0 in
        same_members _ _
        (λ e m.
        let end = end_of g' (renamed_set to r) (renamed_set to l) e m in
        let k = (ends_lead g' (renamed_set to r) e end (renamed_set to l)).0 m in
        let f = member_from small real to back moves k.0 l k.1 in
        (ends_lead (more ++ small) r e end l).1
        (f.0, f.1, below_before f.0 (subst (IsAskedOf (IsPositionBelow (length g'))) f.2 k.2), leads_back r e end k.3 f.0 f.2))
        (λ e m.
        let end = end_of (more ++ small) r l e m in
        let k = (ends_lead (more ++ small) r e end l).0 m in
        (ends_lead g' (renamed_set to r) e end (renamed_set to l)).1
        (goes k.0, member_moved small real to back moves k.0 l k.1, below_again k.0 k.2, leads_on r e end k.3))

    opened_seen : (o : Option Bind) → opened (option_map seen o) ≡ opened o
    opened_seen (Some (TermEntry s d)) = refl
    opened_seen (Some (TypeEntry b)) = refl
    opened_seen None = refl

    opened_moved : (o : Option Bind) → opened (option_map (λ b. renamed_entry to (seen b)) o) ≡ opened o
    opened_moved (Some (TermEntry s d)) = has_hole-renamed small real to back moves d
    opened_moved (Some (TypeEntry b)) = refl
    opened_moved None = refl

    module _ (oldest : ℕ) (within : oldest ≤ length small) (stays : (p : ℕ) → p < oldest → to p ≡ p) where
      -- of two contexts on top of these the oldest entries are alike
      open_again : (p : ℕ) → p < oldest → open_at (again small real to back moves more) p ≡ open_at (more ++ small) p
      open_again p h =
          ap (open_at (again small real to back moves more)) (sym (stays p h))
          ∙ sym (opened_seen (lookup (again small real to back moves more) (to p)))
          ∙ ap opened (entry-again small real to back moves more p)
          ∙ opened_moved (lookup (more ++ small) p)

      oldest_there : oldest ≤ length (again small real to back moves more)
      oldest_there =
          elim (cases_eq oldest zero) as (λ _. oldest ≤ length (again small real to back moves more)) [
            | inl none ↦ omega (arith, none)
            | inr some ↦
                let long = length-again small real to back moves more in
                let last = stays (oldest - 1) (omega (arith, some)) in
                let up = up_lower (length (more ++ small)) (oldest - 1) older_length
                (let all = older_length in omega (arith, some, within, all)) in
                omega (arith, long, last, up, some)
          ]

      oldest_here : oldest ≤ length (more ++ small)
      oldest_here = let all = older_length in omega (arith, within, all)

      older_fills : (q : ℕ) → q < oldest
          → nat_lt q (closed_entries (again small real to back moves more)) ≡ nat_lt q (closed_entries (more ++ small))
      older_fills =
          older_alike (again small real to back moves more) (more ++ small) oldest oldest_there oldest_here open_again

      open_there : nat_lt (closed_entries (again small real to back moves more)) oldest
          ≡ nat_lt (closed_entries (more ++ small)) oldest
      open_there =
          open_alike (again small real to back moves more) (more ++ small) oldest oldest_there oldest_here open_again

      oldest_moved : (x : Elem) → is_among_oldest oldest (goes x) ≡ is_among_oldest oldest x
      oldest_moved (Variable (Bound i)) = refl
      oldest_moved Cap = refl
      oldest_moved (Hole n) = refl
      oldest_moved (Variable (Free q)) =
          elim (cases_lt q oldest) as (λ _. nat_lt (to q) oldest ≡ nat_lt q oldest) [
            | inl low ↦ ap (λ p. nat_lt p oldest) (stays q low)
            | inr high ↦
                elim (cases_lt (to q) oldest) as (λ _. nat_lt (to q) oldest ≡ nat_lt q oldest) [
                  | inl low ↦
                      let same = one_position small real to back moves (to q) q (stays (to q) low) in
                      absurd (omega (arith, same, low, high))
                  | inr above ↦ le-ltb (to q) oldest above ∙ sym (le-ltb q oldest high)
                ]
          ]

      oldest_still : (x : Elem) → is_among_oldest oldest x ≡ true → goes x ≡ x
      oldest_still (Variable (Bound i)) h = refl
      oldest_still (Variable (Free q)) h = ap (λ p. Variable (Free p)) (stays q (ltb-true q oldest h))
      oldest_still Cap h = refl
      oldest_still (Hole n) h = refl

      fills_alike : (x : Elem) → is_among_oldest oldest x ≡ true
          → is_among_oldest (closed_entries (again small real to back moves more)) x ≡ is_among_oldest (closed_entries (more ++ small)) x
      fills_alike (Variable (Free q)) h = older_fills q (ltb-true q oldest h)
      fills_alike (Variable (Bound i)) h = refl
      fills_alike Cap h = refl
      fills_alike (Hole n) h = refl

      -- what may fill holes is among the oldest, where one of these is open
      filling_oldest : (x : Elem) → nat_lt (closed_entries (more ++ small)) oldest ≡ true
          → is_among_oldest (closed_entries (more ++ small)) x ≡ true → is_among_oldest oldest x ≡ true
      filling_oldest (Variable (Free q)) holed h =
          let low = ltb-true q (closed_entries (more ++ small)) h in
          let high = ltb-true (closed_entries (more ++ small)) oldest holed in
          lt-ltb q oldest (omega (arith, low, high))
      filling_oldest (Variable (Bound i)) holed h = refl
      filling_oldest Cap holed h = refl
      filling_oldest (Hole n) holed h = refl

      filling_oldest_there : (x : Elem) → nat_lt (closed_entries (again small real to back moves more)) oldest ≡ true
          → is_among_oldest (closed_entries (again small real to back moves more)) x ≡ true → is_among_oldest oldest x ≡ true
      filling_oldest_there (Variable (Free q)) holed h =
          let low = ltb-true q (closed_entries (again small real to back moves more)) h in
          let high = ltb-true (closed_entries (again small real to back moves more)) oldest holed in
          lt-ltb q oldest (omega (arith, low, high))
      filling_oldest_there (Variable (Bound i)) holed h = refl
      filling_oldest_there Cap holed h = refl
      filling_oldest_there (Hole n) holed h = refl

      abbrev Kept : Set → Type 0
      Kept r = (nat_lt (closed_entries (more ++ small)) oldest || list_all (is_among_oldest oldest) r.list) ≡ true

      -- a member that may fill holes is among the oldest
      member_oldest : (r : Set) → Kept r → (x : Elem) → Member x r
          → is_among_oldest (closed_entries (more ++ small)) x ≡ true → is_among_oldest oldest x ≡ true
      unfolding contains
      member_oldest r kept x m h =
          elim (or_cases (nat_lt (closed_entries (more ++ small)) oldest) (list_all (is_among_oldest oldest) r.list) kept)
          as (λ _. is_among_oldest oldest x ≡ true) [
            | inl holed ↦ filling_oldest x holed h
            | inr all ↦ listed_passes (is_among_oldest oldest) r.list all x m
          ]

      member_oldest_there : (r : Set) → Kept r → (x : Elem) → Member x r
          → is_among_oldest (closed_entries (again small real to back moves more)) (goes x) ≡ true → is_among_oldest oldest x ≡ true
      unfolding contains
      member_oldest_there r kept x m h =
          elim (or_cases (nat_lt (closed_entries (more ++ small)) oldest) (list_all (is_among_oldest oldest) r.list) kept)
          as (λ _. is_among_oldest oldest x ≡ true) [
            | inl holed ↦ sym (oldest_moved x) ∙ filling_oldest_there (goes x) (open_there ∙ holed) h
            | inr all ↦ listed_passes (is_among_oldest oldest) r.list all x m
          ]

      -- what may be put in for holes of a right set stays
      fillable_again : (r : Set) → Kept r
          → fillable (again small real to back moves more) (renamed_set to r) ≡ fillable (more ++ small) r
      unfolding contains
      fillable_again r kept =
          same_members _ _
          (λ e m.
          let k = (Member-fillable (again small real to back moves more) e (renamed_set to r)).0 m in
          let f = member_from small real to back moves e r k.1 in
          let fills = ap (is_among_oldest (closed_entries (again small real to back moves more))) (sym f.2) ∙ k.0 in
          let old = member_oldest_there r kept f.0 f.1 fills in
          let is : e ≡ f.0 = f.2 ∙ oldest_still f.0 old in
          (Member-fillable (more ++ small) e r).1 (
            ap (is_among_oldest (closed_entries (more ++ small))) is ∙ sym (fills_alike f.0 old)
                ∙ ap (is_among_oldest (closed_entries (again small real to back moves more))) (sym (oldest_still f.0 old)) ∙ fills,
            subst (λ x. Member x r) (sym is) f.1,
          ))
          (λ e m.
          let k = (Member-fillable (more ++ small) e r).0 m in
          let old = member_oldest r kept e k.1 k.0 in
          (Member-fillable (again small real to back moves more) e (renamed_set to r)).1 (
            fills_alike e old ∙ k.0,
            subst (λ x. Member x (renamed_set to r)) (oldest_still e old) (member_moved small real to back moves e r k.1),
          ))

      pub stays_fillable-again : (l r : Set)
          → stays_fillable oldest (demanded (again small real to back moves more) (renamed_set to l) (renamed_set to r))
          ≡ stays_fillable oldest (demanded (more ++ small) l r)
      stays_fillable-again l r =
          λ i. open_there i
          || (list_all-renamed small real to back moves (is_among_oldest oldest) r
          ∙ (λ j. list_all (λ x. oldest_moved x j) r.list)) i

      pub comes-again : (log : List Placed) (l r : Set)
          → comes_again oldest log (demanded (again small real to back moves more) (renamed_set to l) (renamed_set to r))
          ≡ comes_again oldest log (demanded (more ++ small) l r)
      comes-again log l r =
          (λ i. settled-again small real to back moves more l r i || (stays_fillable-again l r i
          && has_ended_so log (ends_again r l i) (fillable (again small real to back moves more) (renamed_set to r))))
          ∙ ap (λ b. is_demand_settled (demanded (more ++ small) l r) || b)
          (where_so (stays_fillable oldest (demanded (more ++ small) l r)) _ _
          (λ kept. ap (has_ended_so log (ends_beyond (more ++ small) r l)) (fillable_again r kept)))
        where
          where_so : (a b c : Bool) → (a ≡ true → b ≡ c) → (a && b) ≡ (a && c)
          where_so true b c same = same refl
          where_so false b c same = refl

-- So the test says the same of a demand wherever it comes again.
pub comes_again_tests : (oldest : ℕ) (log : List Placed) → TestsAgain oldest (comes_again oldest log)
comes_again_tests oldest log small real to back moves within stays more l r =
    comes-again small real to back moves more oldest within stays log l r

pub kept_again : KeptComparedAgain
kept_again log base passed steps l r =
    told_again base (comes_again (length base) log) (comes_again_tests (length base) log) passed steps l r

-- What comes again so is needless.
pub comes_needless : ComesNeedless
comes_needless oldest log at d h =
    elim (or_cases (is_demand_settled d) (stays_fillable oldest d && is_repeated log (IsBelow d)) h)
    as (λ _. with_one log (demand_at at d) ≡ log) [
      | inl settled ↦ settled_goes log (demand_at at d) settled
      | inr both ↦
          let k = and_parts (stays_fillable oldest d) (is_repeated log (IsBelow d)) both in
          ap (λ b. cond b log (log ++ demand_at at d ∷ []))
          (or_right ((has_lost log && not (has_hole d.right)) || is_demand_settled d) (is_repeated log (IsBelow d)) k.1)
    ]
