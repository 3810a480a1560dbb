-- What is remembered of two shapes holds wherever the entries by which they go stand at their positions, whatever
-- stands at the others.
use Rattle.std.proofs.Common.{◌≡◌, ℕ, suc, ◌+◌, ◌-◌, ◌<◌, ◌≤◌, Bool, true, false, cond, not, ◌&&◌, ◌||◌, map, List, [], ◌∷◌, ◌++◌}
use Rattle.std.proofs.Common.{length, length-append, Some, inl, inr, refl, sym, ap, ◌∙◌, subst, arith}
use Rattle.std.specs.Prelude.{nat_lt}
use Rattle.std.specs.List.{list_all}
use Rattle.std.specs.Option.{option_map}
use Rattle.std.proofs.lemmas.Bool.{cases_lt, and_parts, lt-ltb, le-ltb, ltb-true}
use Rattle.std.proofs.lemmas.List.{length-map}
use Rattle.cc_base.specs.declared.place.Place.{Place}
use Rattle.cc_capture.specs.declared.var.Var.{Var}
use Rattle.cc_capture.specs.declared.var.Var.TheVariants.{Bound, Free}
use Rattle.cc_capture.specs.declared.var.Elem.{Elem}
use Rattle.cc_capture.specs.declared.var.Elem.TheVariants.{Var as Variable, Cap, Hole}
use Rattle.cc_capture.specs.Rising.{is_listed}
use Rattle.cc_capture.specs.Sets.{Set, Member, contains, retain}
use Rattle.cc_capture.proofs.Membership.{same_members, Member-flat_image, Member-retain}
use Rattle.cc_core.specs.ClosedEntries.{is_open, closed_entries}
use Rattle.cc_core.specs.Contexts.{Bind, TermEntry, TypeEntry, Context, lookup}
use Rattle.cc_core.specs.Occurrences.{IsAskedOf, IsPositionBelow, MeetsInSet, on_variables, positions_below}
use Rattle.cc_core.specs.Questions.{occurs}
use Rattle.cc_core.specs.Shapes.{Shape, AnyShape}
use Rattle.cc_core.specs.Substitution.{single, moved_element, renamed_variable, renaming, renamed, renamed_set}
use Rattle.cc_core.specs.WellFormed.{kinds_of, is_well_formed_context, is_well_formed_shape}
use Rattle.cc_core.specs.WellFormed.{IsWellFormedContext}
use Rattle.cc_core.proofs.Conditions.{gives_here}
use Rattle.cc_core.proofs.Lookups.{lookup-newest, lookup-other, lookup-more, lookup-within, lookup-below, lookup-cases}
use Rattle.cc_core.proofs.Moving.{Member-single, Member-single_itself, moving-still}
use Rattle.cc_core.proofs.OccurrenceTests.{Decides, SaysNo, decided}
use Rattle.cc_core.proofs.Renaming.{renaming-renaming}
use Rattle.cc_core.proofs.Sorts.{SetSort, ShapeSort, Sort, Syntax, acted, MeetsIn, MeetsIn-here}
use Rattle.cc_core.proofs.SubcapturingContexts.{IsKindedContext, IsKindedContext-from}
use Rattle.cc_core.proofs.WellFormedness.{well_formed-positions_below}
use Rattle.cc_checking.specs.Comparison.{Demand, demanded, comparison}
use Rattle.cc_checking.specs.Outcomes.{Placed}
use Rattle.cc_known.specs.ComparedAgain.{told, renamed_entry, seen, Embeds}
use Rattle.cc_known.specs.ComparedPairs.{keeps_nothing, is_compared_as, IsKept}
use Rattle.cc_known.specs.EndsAgain.{comes_again}
use Rattle.cc_known.specs.Keeping.{is_among_oldest, fillable, ends_beyond, is_demand_settled, has_ended_so}
use Rattle.cc_known.specs.KeptWalks.{is_told}
use Rattle.cc_known.specs.MarkedEntries.{is_marked, is_marked_variable, is_marked_element, unmarked, occurs_where}
use Rattle.cc_known.specs.MarkedEntries.{DeclaresMarked, GoesBy, StandsMarked, IsClosedAlike}
use Rattle.cc_known.proofs.ClosedAgain.{closed_within}
use Rattle.cc_known.proofs.ComparedAgain.{Moves, NamesOlder, again, same_tests, settled-again, told_by, older_members, embeds_deeper, renamed_same}
use Rattle.cc_known.proofs.ComparedPairs.{kept_nothing}
use Rattle.cc_known.proofs.EndsAgain.{ends_again}
use Rattle.cc_known.proofs.KeptDemands.{all_pass, listed_passes}

-- How many of the oldest entries are older than all with holes: so many, or all of the oldest.
record IsClosedAt (oldest closed : ℕ) (g : Context) : Type 0 where
  some : closed < oldest → closed_entries g ≡ closed
  all : oldest ≤ closed → oldest ≤ closed_entries g

closed_kept : (more base : Context) → closed_entries base < length base → closed_entries (more ++ base) ≡ closed_entries base
closed_kept [] base h = refl
closed_kept (b ∷ more) base h =
    let rest = closed_kept more base h in
    let long = length-append more base in
    ap (λ t. cond (t || is_open b) (closed_entries (more ++ base)) (suc (length (more ++ base))))
    (lt-ltb (closed_entries (more ++ base)) (length (more ++ base)) (omega (arith, rest, long, h)))
    ∙ rest

closed_grows : (more base : Context) → closed_entries base ≤ closed_entries (more ++ base)
closed_grows [] base = omega arith
closed_grows (b ∷ more) base =
    let rest = closed_grows more base in
    let within = closed_within (more ++ base) in
    elim (nat_lt (closed_entries (more ++ base)) (length (more ++ base)) || is_open b)
    as (λ t. closed_entries base ≤ cond t (closed_entries (more ++ base)) (suc (length (more ++ base)))) [
      | true ↦ rest
      | false ↦ omega (arith, rest, within)
    ]

closed_more : (oldest closed : ℕ) (more base : Context) → oldest ≤ length base → IsClosedAt oldest closed base
    → IsClosedAt oldest closed (more ++ base)
closed_more oldest closed more base within is = record {
  some = λ low. let here = is.some low in closed_kept more base (omega (arith, here, low, within)) ∙ here;
  all = λ high. let here = is.all high in let up = closed_grows more base in omega (arith, here, up);
}

where_so : (a b c : Bool) → (a ≡ true → b ≡ c) → (a && b) ≡ (a && c)
where_so true b c same = same refl
where_so false b c same = refl

-- Whether a demand is needless behind the log, where so many of the oldest entries are older than all with holes, and
-- this is its right set with the oldest variables where they are.
abbrev needless_by : ℕ → ℕ → List Placed → Demand → Set → Bool
needless_by oldest closed log d right =
    is_demand_settled d || ((nat_lt closed oldest || list_all (is_among_oldest oldest) right.list)
    && has_ended_so log (ends_beyond d.context d.right d.left) (retain (is_among_oldest closed) right))

retained_alike : (oldest closed other : ℕ) (r : Set) → oldest ≤ closed → oldest ≤ other
    → list_all (is_among_oldest oldest) r.list ≡ true → retain (is_among_oldest closed) r ≡ retain (is_among_oldest other) r
unfolding contains
retained_alike oldest closed other r low low' all =
    same_members _ _
    (λ e m. let k = (Member-retain (is_among_oldest closed) e r).0 m in
    (Member-retain (is_among_oldest other) e r).1 (wider other low' e (listed_passes (is_among_oldest oldest) r.list all e k.1), k.1))
    (λ e m. let k = (Member-retain (is_among_oldest other) e r).0 m in
    (Member-retain (is_among_oldest closed) e r).1 (wider closed low e (listed_passes (is_among_oldest oldest) r.list all e k.1), k.1))
  where
    wider : (n : ℕ) → oldest ≤ n → (e : Elem) → is_among_oldest oldest e ≡ true → is_among_oldest n e ≡ true
    wider n h (Variable (Free q)) is = let below = ltb-true q oldest is in lt-ltb q n (omega (arith, h, below))
    wider n h (Variable (Bound i)) is = refl
    wider n h Cap is = refl
    wider n h (Hole m) is = refl

comes_by : (oldest closed : ℕ) (log : List Placed) (g : Context) → closed ≤ oldest → IsClosedAt oldest closed g → (l r : Set)
    → comes_again oldest log (demanded g l r) ≡ needless_by oldest closed log (demanded g l r) r
unfolding fillable
comes_by oldest closed log g most is l r =
    elim (cases_lt closed oldest)
    as (λ _. comes_again oldest log (demanded g l r) ≡ needless_by oldest closed log (demanded g l r) r) [
      | inl low ↦
          ap (λ n. is_demand_settled (demanded g l r) || ((nat_lt n oldest || list_all (is_among_oldest oldest) r.list)
          && has_ended_so log (ends_beyond g r l) (retain (is_among_oldest n) r)))
          (is.some low)
      | inr high ↦
          let here = is.all high in
          (λ i. is_demand_settled (demanded g l r) || ((le-ltb (closed_entries g) oldest here i || list_all (is_among_oldest oldest) r.list)
          && has_ended_so log (ends_beyond g r l) (retain (is_among_oldest (closed_entries g)) r)))
          ∙ ap (λ b. is_demand_settled (demanded g l r) || b)
          (where_so (list_all (is_among_oldest oldest) r.list) _ _
          (λ all. ap (has_ended_so log (ends_beyond g r l)) (retained_alike oldest (closed_entries g) closed r here high all)))
          ∙ (λ i. is_demand_settled (demanded g l r) || ((sym (le-ltb closed oldest high) i || list_all (is_among_oldest oldest) r.list)
          && has_ended_so log (ends_beyond g r l) (retain (is_among_oldest closed) r)))
    ]

member_moved : (f : ℕ → ℕ) (x : Elem) (c : Set) → Member x c → Member (moved_element (renamed_variable f) x) (renamed_set f c)
member_moved f x c m =
    (Member-flat_image (λ y. single (moved_element (renamed_variable f) y)) (moved_element (renamed_variable f) x) c).1
    (x, m, Member-single_itself (moved_element (renamed_variable f) x))

member_from : (f : ℕ → ℕ) (y : Elem) (c : Set) → Member y (renamed_set f c)
    → (x : Elem) × Member x c × (y ≡ moved_element (renamed_variable f) x)
member_from f y c m =
    let h = (Member-flat_image (λ x. single (moved_element (renamed_variable f) x)) y c).0 m in
    (h.0, h.1, Member-single y (moved_element (renamed_variable f) h.0) h.2)

-- A map of positions that leaves the oldest where they are, and takes no other to one of them.
module _ (oldest : ℕ) (f : ℕ → ℕ) (stays : (p : ℕ) → p < oldest → f p ≡ p) (far : (p : ℕ) → oldest ≤ p → oldest ≤ f p) where
  abbrev taken : Elem → Elem
  taken = moved_element (renamed_variable f)

  among_taken : (n : ℕ) → n ≤ oldest → (x : Elem) → is_among_oldest n (taken x) ≡ is_among_oldest n x
  among_taken n h (Variable (Free q)) =
      elim (cases_lt q oldest) as (λ _. nat_lt (f q) n ≡ nat_lt q n) [
        | inl low ↦ ap (λ p. nat_lt p n) (stays q low)
        | inr high ↦
            let up = far q high in le-ltb (f q) n (omega (arith, h, up)) ∙ sym (le-ltb q n (omega (arith, h, high)))
      ]
  among_taken n h (Variable (Bound i)) = refl
  among_taken n h Cap = refl
  among_taken n h (Hole m) = refl

  taken_still : (n : ℕ) → n ≤ oldest → (x : Elem) → is_among_oldest n x ≡ true → taken x ≡ x
  taken_still n h (Variable (Free q)) is =
      let low = ltb-true q n is in ap (λ p. Variable (Free p)) (stays q (omega (arith, h, low)))
  taken_still n h (Variable (Bound i)) is = refl
  taken_still n h Cap is = refl
  taken_still n h (Hole m) is = refl

  all_taken : (r : Set) → list_all (is_among_oldest oldest) (renamed_set f r).list ≡ list_all (is_among_oldest oldest) r.list
  unfolding contains
  all_taken r =
      same_tests (list_all (is_among_oldest oldest) (renamed_set f r).list) (list_all (is_among_oldest oldest) r.list)
      (λ h. all_pass (is_among_oldest oldest) r.list
      (λ e m. sym (among_taken oldest (omega arith) e) ∙ listed_passes (is_among_oldest oldest) (renamed_set f r).list h (taken e) (member_moved f e r m)))
      (λ h. all_pass (is_among_oldest oldest) (renamed_set f r).list
      (λ y m. let from = member_from f y r m in
      ap (is_among_oldest oldest) from.2 ∙ among_taken oldest (omega arith) from.0 ∙ listed_passes (is_among_oldest oldest) r.list h from.0 from.1))

  retained_taken : (n : ℕ) → n ≤ oldest → (r : Set) → retain (is_among_oldest n) (renamed_set f r) ≡ retain (is_among_oldest n) r
  retained_taken n h r =
      same_members _ _
      (λ e m.
      let k = (Member-retain (is_among_oldest n) e (renamed_set f r)).0 m in
      let from = member_from f e r k.1 in
      let old = sym (among_taken n h from.0) ∙ ap (is_among_oldest n) (sym from.2) ∙ k.0 in
      let is : e ≡ from.0 = from.2 ∙ taken_still n h from.0 old in
      (Member-retain (is_among_oldest n) e r).1 (k.0, subst (λ x. Member x r) (sym is) from.1))
      (λ e m.
      let k = (Member-retain (is_among_oldest n) e r).0 m in
      (Member-retain (is_among_oldest n) e (renamed_set f r)).1
      (k.0, subst (λ x. Member x (renamed_set f r)) (taken_still n h e k.0) (member_moved f e r k.1)))

-- What comes again on top of another context is needless as it was, by a map that takes the oldest positions back.
needless_again : (small real : Context) (to back : ℕ → ℕ) (moves : Moves small real to back) (home : ℕ → ℕ) (oldest closed : ℕ) (log : List Placed)
    → closed ≤ oldest → oldest ≤ length small → IsClosedAt oldest closed small
    → ((p : ℕ) → p < oldest → home (to p) ≡ p) → ((p : ℕ) → oldest ≤ p → oldest ≤ home (to p))
    → (more : Context) (l r : Set)
    → needless_by oldest closed log (demanded (again small real to back moves more) (renamed_set to l) (renamed_set to r)) (renamed_set home (renamed_set to r))
    ≡ comes_again oldest log (demanded (more ++ small) l r)
needless_again small real to back moves home oldest closed log most within is stays far more l r =
    ap (needless_by oldest closed log (demanded (again small real to back moves more) (renamed_set to l) (renamed_set to r)))
    (renaming-renaming SetSort home to 0 r)
    ∙ (λ i. settled-again small real to back moves more l r i
    || ((nat_lt closed oldest || all_taken oldest (λ p. home (to p)) stays far r i)
    && has_ended_so log (ends_again small real to back moves more r l i) (retained_taken oldest (λ p. home (to p)) stays far closed most r i)))
    ∙ sym (comes_by oldest closed log (more ++ small) most (closed_more oldest closed more small within is) l r)

seen_renamed : (to : ℕ → ℕ) (b : Bind) → seen (renamed_entry to b) ≡ renamed_entry to (seen b)
seen_renamed to (TermEntry s d) = refl
seen_renamed to (TypeEntry t) = refl

-- entries that were renamed and put on top of a context
put_on : (to : ℕ → ℕ) (s g : Context) (p : ℕ) (b : Bind) → lookup s p ≡ Some b
    → lookup (map (renamed_entry to) s ++ g) (length g + p) ≡ Some (renamed_entry to b)
put_on to [] g p b e = cc
put_on to (x ∷ s) g p b e =
    let both = length-append (map (renamed_entry to) s) g in
    let long = length-map s (renamed_entry to) in
    elim (lookup-cases x s p b e)
    as (λ _. lookup (renamed_entry to x ∷ map (renamed_entry to) s ++ g) (length g + p) ≡ Some (renamed_entry to b)) [
      | inl here ↦
          let at = here.0 in
          let position : length g + p ≡ length (map (renamed_entry to) s ++ g) = omega (arith, both, long, at) in
          ap (lookup (renamed_entry to x ∷ map (renamed_entry to) s ++ g)) position
          ∙ lookup-newest (renamed_entry to x) (map (renamed_entry to) s ++ g)
          ∙ ap (λ y. Some (renamed_entry to y)) here.1
      | inr found ↦
          let low = lookup-below s p b found in
          lookup-other (renamed_entry to x) (map (renamed_entry to) s ++ g) (length g + p)
          (λ same. omega (arith, both, long, low, same))
          ∙ put_on to s g p b found
    ]

yes_from : (b : Bool) → not b ≡ false → b ≡ true
yes_from true h = refl
yes_from false h = sym h

-- What has no position without a mark names those with marks alone.
module _ (marks : List Bool) where
  asked : (e : Elem) → is_marked_element marks e ≡ true → IsAskedOf (λ v. is_marked_variable marks v ≡ true) e
  asked (Variable v) h = h
  asked Cap h = tt
  asked (Hole n) h = tt

  from_asked : (e : Elem) → IsAskedOf (λ v. is_marked_variable marks v ≡ true) e → is_marked_element marks e ≡ true
  from_asked (Variable v) h = h
  from_asked Cap h = refl
  from_asked (Hole n) h = refl

  marked_set : (depth : ℕ) (set : Set)
      → SaysNo (not (list_all (is_marked_element marks) set.list)) (MeetsInSet (on_variables (λ d v. is_marked_variable marks v ≡ true)) depth set)
  unfolding contains
  marked_set depth set = (
    λ h e m. asked e (listed_passes (is_marked_element marks) set.list (yes_from (list_all (is_marked_element marks) set.list) h) e m),
    λ h. ap not (all_pass (is_marked_element marks) set.list (λ e m. from_asked e (h e m))),
  )

  marked_at : (v : Var) → SaysNo (not (is_marked_variable marks v)) (is_marked_variable marks v ≡ true)
  marked_at v = (yes_from (is_marked_variable marks v), ap not)

  marked_decides : Decides (unmarked marks) (on_variables (λ d v. is_marked_variable marks v ≡ true))
  marked_decides = record { in_set = marked_set; at_shape = λ depth. marked_at; at_variable = λ depth. marked_at }

-- A small context, and another one in which its entries with marks stand.
module _ (marks : List Bool) (small g : Context) (formed : IsKindedContext small) (larger : IsKindedContext g) (alike : IsClosedAlike small g) (declares : DeclaresMarked marks small) (stands : StandsMarked marks small g) where
  -- Where the entries of the small one stand when the others are put on top: those with marks are where they were.
  abbrev there : ℕ → ℕ
  there p = cond (is_marked marks p) p (length g + p)

  abbrev own : Context
  own = map (renamed_entry there) small

  abbrev both : Context
  both = own ++ g

  both_long : length both ≡ length small + length g
  both_long = let all = length-append own g in let long = length-map small (renamed_entry there) in omega (arith, all, long)

  still : (sort : Sort) (x : Syntax sort) → MeetsIn sort (on_variables (λ d v. is_marked_variable marks v ≡ true)) 0 x
      → acted sort (renaming there) 0 x ≡ x
  still sort x m =
      moving-still (λ d v. renamed_variable there v) sort 0 x
      (MeetsIn-here sort (on_variables (λ d v. is_marked_variable marks v ≡ true)) (on_variables (λ d v. renamed_variable there v ≡ v))
      (gives_here _ _ (λ d v h. each v h)) 0 x m)
    where
      each : (v : Var) → is_marked_variable marks v ≡ true → renamed_variable there v ≡ v
      each (Bound i) h = refl
      each (Free p) h = ap (λ b. Free (cond b p (length g + p))) h

  shape_still : (s : Shape) → occurs (unmarked marks) s ≡ false → renamed there s ≡ s
  shape_still s h =
      still ShapeSort s ((decided (unmarked marks) (on_variables (λ d v. is_marked_variable marks v ≡ true)) (marked_decides marks) 0 s).0 h)

  entry_still : (b : Bind) → occurs_where (unmarked marks) (Some b) ≡ false → renamed_entry there (seen b) ≡ seen b
  entry_still (TermEntry s d) h = ap (TermEntry AnyShape) (still SetSort d ((marked_set marks 0 d).0 h))
  entry_still (TypeEntry b) h = ap TypeEntry (shape_still b h)

  here_within : (p : ℕ) → p < length small → p < length g
  here_within p h = let long = alike.long in omega (arith, h, long)

  apart : (a b : Bool) (p q : ℕ) → p < length small → q < length small → cond a p (length g + p) ≡ cond b q (length g + q) → p ≡ q
  apart true true p q h h' e = e
  apart true false p q h h' e = let low = here_within p h in absurd (omega (arith, e, low))
  apart false true p q h h' e = let low = here_within q h' in absurd (omega (arith, e, low))
  apart false false p q h h' e = omega (arith, e)

  in_both : (p : ℕ) → p < length small → lookup both p ≡ lookup g p
  in_both p h =
      let found = lookup-within g p (here_within p h) in lookup-more own g p found.0 found.1 ∙ sym found.1

  entries_there : (p : ℕ) → p < length small
      → option_map seen (lookup both (there p)) ≡ option_map (λ b. renamed_entry there (seen b)) (lookup small p)
  entries_there p h = by (is_marked marks p) refl
    where
      by : (m : Bool) → is_marked marks p ≡ m
          → option_map seen (lookup both (cond m p (length g + p))) ≡ option_map (λ b. renamed_entry there (seen b)) (lookup small p)
      by true is =
          let found = lookup-within small p h in
          ap (option_map seen) (in_both p h) ∙ stands p h is ∙ ap (option_map seen) found.1
          ∙ ap Some (sym (entry_still found.0 (sym (ap (occurs_where (unmarked marks)) found.1) ∙ declares p h is)))
          ∙ ap (option_map (λ b. renamed_entry there (seen b))) (sym found.1)
      by false is =
          let found = lookup-within small p h in
          ap (option_map seen) (put_on there small g p found.0 found.1) ∙ ap Some (seen_renamed there found.0)
          ∙ ap (option_map (λ b. renamed_entry there (seen b))) (sym found.1)

  embeds_both : Embeds small both there
  embeds_both = record { apart = λ p q. apart (is_marked marks p) (is_marked marks q) p q; entries = entries_there }

  lower : (m : Bool) (q p : ℕ) → q < p → cond m q (length g + q) < length g + p
  lower true q p h = omega (arith, h)
  lower false q p h = omega (arith, h)

  moved_lower : (p : ℕ) (y : Elem) → IsAskedOf (IsPositionBelow p) y
      → IsAskedOf (IsPositionBelow (length g + p)) (moved_element (renamed_variable there) y)
  moved_lower p (Variable (Bound i)) h = h
  moved_lower p (Variable (Free q)) h = lower (is_marked marks q) q p h
  moved_lower p Cap h = h
  moved_lower p (Hole n) h = h

  as_moved : (p : ℕ) (x y : Elem) → x ≡ moved_element (renamed_variable there) y → IsAskedOf (IsPositionBelow p) y
      → IsAskedOf (IsPositionBelow (length g + p)) x
  as_moved p x y e h = subst (IsAskedOf (IsPositionBelow (length g + p))) (sym e) (moved_lower p y h)

  declared_lower : (p : ℕ) (b : Bind) → lookup small p ≡ Some b → (s : Shape) (d : Set) → renamed_entry there b ≡ TermEntry s d
      → (x : Elem) → is_listed x d.list ≡ true → IsAskedOf (IsPositionBelow (length g + p)) x
  unfolding contains
  declared_lower p (TypeEntry b) is s d e x m = cc
  declared_lower p (TermEntry s0 d0) is s d e x m =
      let same : d ≡ renamed_set there d0 = cc in
      let from = member_from there x d0 (subst (λ c. is_listed x c.list ≡ true) same m) in
      as_moved p x from.0 from.2 (older_members small formed p s0 d0 is from.0 from.1)

  older_both : (p : ℕ) → p < length small → NamesOlder both (there p) (there p)
  older_both p h = by (is_marked marks p)
    where
      by : (m : Bool) → NamesOlder both (cond m p (length g + p)) (cond m p (length g + p))
      by true = λ s d e. older_members g larger p s d (sym (in_both p h) ∙ e)
      by false = λ s d e.
          let found = lookup-within small p h in
          declared_lower p found.0 found.1 s d
          (some_same (sym (put_on there small g p found.0 found.1) ∙ e))
        where
          some_same : {a b : Bind} → Some a ≡ Some b → a ≡ b
          some_same e = cc

  -- the positions of both, taken back to those of the small one
  abbrev home : ℕ → ℕ
  home q = cond (nat_lt q (length g)) q (cond (nat_lt q (length g + length small)) (q - length g) q)

  home_first : (q : ℕ) → q < length g → home q ≡ q
  home_first q h =
      ap (λ b. cond b q (cond (nat_lt q (length g + length small)) (q - length g) q)) (lt-ltb q (length g) h)

  home_own : (p : ℕ) → p < length small → home (length g + p) ≡ p
  home_own p h =
      ap (λ b. cond b (length g + p) (cond (nat_lt (length g + p) (length g + length small)) (length g + p - length g) (length g + p)))
      (le-ltb (length g + p) (length g) (omega arith))
      ∙ ap (λ b. cond b (length g + p - length g) (length g + p)) (lt-ltb (length g + p) (length g + length small) (omega (arith, h)))
      ∙ omega arith

  home_beyond : (q : ℕ) → length g + length small ≤ q → home q ≡ q
  home_beyond q h =
      ap (λ b. cond b q (cond (nat_lt q (length g + length small)) (q - length g) q)) (le-ltb q (length g) (omega (arith, h)))
      ∙ ap (λ b. cond b (q - length g) q) (le-ltb q (length g + length small) h)

  home_there : (m : Bool) (p : ℕ) → p < length small → home (cond m p (length g + p)) ≡ p
  home_there true p h = home_first p (here_within p h)
  home_there false p h = home_own p h

  abbrev needless : List Placed → Demand → Bool
  needless log d = needless_by (length small) (closed_entries small) log d (renamed_set home d.right)

  small_closed : IsClosedAt (length small) (closed_entries small) small
  small_closed = record { some = λ h. refl; all = λ h. h }

  other_closed : IsClosedAt (length small) (closed_entries small) g
  other_closed = record { some = alike.some; all = alike.all }

  -- from the small one to both, and from the other one
  from_small : (log : List Placed) (far back : ℕ → ℕ) (moves : Moves small both far back)
      → ((p : ℕ) → p < length small → far p ≡ there p) → (more : Context) (l r : Set)
      → needless log (demanded (again small both far back moves more) (renamed_set far l) (renamed_set far r))
      ≡ comes_again (length small) log (demanded (more ++ small) l r)
  from_small log far back moves agrees more l r =
      needless_again small both far back moves home (length small) (closed_entries small) log (closed_within small) (omega arith)
      small_closed (λ p h. ap home (agrees p h) ∙ home_there (is_marked marks p) p h)
      (λ p h.
      let is : far p ≡ p - length small + length both =
      ap far (omega (arith, h)) ∙ moves.passes (p - length small) in
      let long = both_long in
      let stays = home_beyond (far p) (omega (arith, is, long)) in
      omega (arith, is, long, stays))
      more l r

  from_other : (log : List Placed) (far back : ℕ → ℕ) (moves : Moves g both far back)
      → ((p : ℕ) → p < length g → far p ≡ p) → (more : Context) (l r : Set)
      → needless log (demanded (again g both far back moves more) (renamed_set far l) (renamed_set far r))
      ≡ comes_again (length small) log (demanded (more ++ g) l r)
  from_other log far back moves agrees more l r =
      needless_again g both far back moves home (length small) (closed_entries small) log (closed_within small) alike.long
      other_closed (λ p h. ap home (agrees p (here_within p h)) ∙ home_first p (here_within p h)) beyond more l r
    where
      beyond : (p : ℕ) → length small ≤ p → length small ≤ home (far p)
      beyond p h =
          elim (cases_lt p (length g)) as (λ _. length small ≤ home (far p)) [
            | inl low ↦ let same = ap home (agrees p low) ∙ home_first p low in omega (arith, same, h)
            | inr high ↦
                let is : far p ≡ p - length g + length both =
                ap far (omega (arith, high)) ∙ moves.passes (p - length g) in
                let long = both_long in
                let stays = home_beyond (far p) (omega (arith, is, long)) in
                omega (arith, is, long, stays)
          ]

  told_marked : (log : List Placed) (steps : ℕ) (l r : Shape)
      → MeetsIn ShapeSort (positions_below (length small)) 0 l → MeetsIn ShapeSort (positions_below (length small)) 0 r
      → occurs (unmarked marks) l ≡ false → occurs (unmarked marks) r ≡ false
      → told (comes_again (length small) log) (comparison steps g l r) ≡ told (comes_again (length small) log) (comparison steps small l r)
  told_marked log steps l r left right l_named r_named =
      sym (told_by g both (λ p. p) larger (λ p h s d e. older_members g larger p s d (in_other p h s d e)) (embeds_deeper own g larger)
      (needless log) (comes_again (length small) log) (from_other log) steps l r (wider l left) (wider r right))
      ∙ (λ i. told (needless log) (comparison steps both (same l left l_named i) (same r right r_named i)))
      ∙ told_by small both there formed older_both embeds_both (needless log) (comes_again (length small) log) (from_small log) steps l r left right
    where
      wider : (s : Shape) → MeetsIn ShapeSort (positions_below (length small)) 0 s → MeetsIn ShapeSort (positions_below (length g)) 0 s
      wider s m =
          MeetsIn-here ShapeSort (positions_below (length small)) (positions_below (length g))
          (gives_here _ _ (λ d v h. each v h)) 0 s m
        where
          each : (v : Var) → IsPositionBelow (length small) v → IsPositionBelow (length g) v
          each (Bound i) h = h
          each (Free p) h = here_within p h

      same : (s : Shape) → MeetsIn ShapeSort (positions_below (length small)) 0 s → occurs (unmarked marks) s ≡ false
          → renamed (λ p. p) s ≡ renamed there s
      same s m named =
          renamed_same ShapeSort (length small) (λ p. p) (λ p h. refl) s m ∙ sym (shape_still s named)

      in_other : (p : ℕ) → p < length g → (s : Shape) (d : Set) → lookup both p ≡ Some (TermEntry s d)
          → lookup g p ≡ Some (TermEntry s d)
      in_other p h s d e =
          let found = lookup-within g p h in found.1 ∙ sym (lookup-more own g p found.0 found.1) ∙ e

-- What is remembered need not be gone through.
pub marked_keeps : (steps : ℕ) (log : List Placed) (at : Place) (marks : List Bool) (small g : Context) (l r : Shape)
    → IsWellFormedContext g → GoesBy marks small l r → IsClosedAlike small g → StandsMarked marks small g
    → is_compared_as steps log small l r ≡ true → IsKept at (comparison steps g l r) true log log
unfolding is_compared_as
marked_keeps steps log at marks small g l r larger goes alike stands h =
    let shapes = is_well_formed_shape (kinds_of small) [] l && is_well_formed_shape (kinds_of small) [] r in
    let rest = shapes && keeps_nothing (length small) log (comparison steps small l r) in
    let first = and_parts (is_well_formed_context small) rest h in
    let second = and_parts shapes (keeps_nothing (length small) log (comparison steps small l r)) first.1 in
    let names = and_parts (is_well_formed_shape (kinds_of small) [] l) (is_well_formed_shape (kinds_of small) [] r) second.0 in
    kept_nothing (length small) at log (comparison steps g l r)
    (ap is_told (told_marked marks small g (IsKindedContext-from small first.0) (IsKindedContext-from g larger) alike goes.2 stands
    log steps l r (well_formed-positions_below ShapeSort small l names.0) (well_formed-positions_below ShapeSort small r names.1) goes.0 goes.1)
    ∙ second.1)
