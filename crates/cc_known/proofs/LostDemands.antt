-- What is lost is served by no filling; where there is no hole, what is not settled is lost.
use Rattle.std.proofs.Common.{◌≡◌, ◌↔◌, ◌<◌, Bool, true, false, not, ◌||◌, ◌&&◌, cond, [], ◌++◌, refl, sym, ap, ◌∙◌, subst}
use Rattle.std.proofs.Common.{append-nil, arith, List, ◌∷◌, inl}
use Rattle.std.specs.Prelude.{IsTrue}
use Rattle.std.proofs.lemmas.Bool.{and_parts, and_from}
use Rattle.cc_capture.specs.declared.var.Elem.{Elem}
use Rattle.cc_capture.specs.declared.var.Elem.TheVariants.{Var as Variable, Cap, Hole}
use Rattle.cc_capture.specs.Sets.{Set, Member, contains, is_subset}
use Rattle.cc_capture.proofs.Membership.{Member-empty}
use Rattle.cc_core.specs.Contexts.{TermEntry, Context}
use Rattle.cc_core.specs.Occurrences.{MeetsInSet, HasNoHoleInSet, IsNoHole}
use Rattle.cc_core.specs.Questions.{is_hole}
use Rattle.cc_core.specs.Substitution.{filled_element, filled_set}
use Rattle.cc_core.specs.Subcapturing.{SubcapturesSet, element, variable}
use Rattle.cc_core.specs.WellFormed.{kinds_of, IsWellFormedContext, IsWellFormedSet}
use Rattle.cc_core.proofs.KindFacts.{IsKindedSet-from, IsKindedSet-test}
use Rattle.cc_core.proofs.Moving.{Member-single, Member-single_itself}
use Rattle.cc_core.proofs.OccurrenceTests.{hole-decides}
use Rattle.cc_core.proofs.Sorts.{SetSort}
use Rattle.cc_core.proofs.SubcapturingContexts.{IsKindedContext, IsKindedContext-from}
use Rattle.cc_core.proofs.SubcapturingLemmas.{subcaptures_along, subcaptures_above}
use Rattle.cc_checking.specs.Comparison.{Demand}
use Rattle.cc_checking.specs.Outcomes.{Asked, IsBelow, IsCapless, Placed}
use Rattle.cc_checking.specs.Fillings.{Filling, filled_context, IsServed, IsOverGlobals}
use Rattle.cc_typing_laws.proofs.FormedContexts.{IsKindedContext-test}
use Rattle.cc_checking_laws.specs.FillingLaws.{IsFit}
use Rattle.cc_checking_laws.proofs.LeastFillings.{Member-filled, Member-from_filled, lookup-filled, lookup-from_filled}
use Rattle.cc_checking_laws.proofs.ServedDemands.{fill_kept, filled_context_kinded}
use Rattle.cc_solve.specs.Solutions.{CanBeJudged, filling_of}
use Rattle.cc_solve.proofs.CollectedDemands.{asked_one}
use Rattle.cc_known.specs.FilledHoles.{IsHoleBelow, holes_below, HasAskedHolesBelow}
use Rattle.cc_known.specs.FormedDemands.{IsWellFormedDemand, IsWellFormedAsked}
use Rattle.cc_known.specs.Keeping.{is_below, has_hole, is_settled, may_force, is_served, nothing, is_lost}
use Rattle.cc_known.specs.KeepingLaws.{LostIsNeverServed}
use Rattle.cc_known.proofs.HolesBelow.{in_entry}
use Rattle.cc_known.proofs.KeptDemands.{none_passes, test_of_sets_decides}
use Rattle.cc_known.proofs.SettledTests.{tests_alike}

-- the filling with nothing is below each other one
nothing_less : (f : Filling) (x e : Elem) → Member e (filled_element nothing x) → Member e (filled_element f x)
nothing_less f (Variable v) e m = m
nothing_less f Cap e m = m
nothing_less f (Hole n) e m = absurd (Member-empty e m)

nothing_less_set : (f : Filling) (c : Set) (e : Elem) → Member e (filled_set nothing c) → Member e (filled_set f c)
nothing_less_set f c e m =
    let m' = Member-from_filled nothing e c m in Member-filled f m'.0 e c m'.1 (nothing_less f m'.0 e m'.2)

-- a set without holes has the same members under each filling
filled_anyhow : (f h : Filling) (c : Set) → has_hole c ≡ false → (e : Elem) → Member e (filled_set f c)
    → Member e (filled_set h c)
unfolding contains
filled_anyhow f h c holeless e m =
    let m' = Member-from_filled f e c m in Member-filled h m'.0 e c m'.1 (by_element m'.0 m'.1 m'.2)
  where
    by_element : (x : Elem) → Member x c → Member e (filled_element f x) → Member e (filled_element h x)
    by_element (Variable v) l k = k
    by_element Cap l k = k
    by_element (Hole n) l k = let clash : true ≡ false = none_passes is_hole c.list holeless (Hole n) l in cc

-- a demand without a hole on its right side is served by nothing, where a filling serves it
nothing_serves : (f : Filling) (d : Demand) → has_hole d.right ≡ false → IsServed f (IsBelow d)
    → IsServed nothing (IsBelow d)
nothing_serves f d holeless served e m =
    subcaptures_above
    (subcaptures_along (served e (nothing_less_set f d.left e m)) (filled_context nothing d.context)
    (λ p s c above there each.
    let found = lookup-from_filled f d.context p s c there in
    variable (lookup-filled nothing d.context p found.0 found.1 found.2)
    (λ y k. each y (subst (Member y) (sym found.3) (nothing_less_set f found.1 y k)))))
    (filled_set nothing d.right) (λ y k. element (filled_anyhow f nothing d.right holeless y k))

-- what is well formed stays so where nothing is put into the holes
nothing_over : IsOverGlobals 0 nothing
nothing_over h e m = absurd (Member-empty e m)

context_with_nothing : (g : Context) → IsWellFormedContext g → IsWellFormedContext (filled_context nothing g)
context_with_nothing g formed =
    IsKindedContext-test (filled_context nothing g)
    (subst (λ h. IsKindedContext (filled_context nothing h)) (append-nil g)
    (filled_context_kinded [] tt nothing nothing_over g
    (subst IsKindedContext (sym (append-nil g)) (IsKindedContext-from g formed))))

set_with_nothing : (g : Context) (c : Set) → IsWellFormedSet g c
    → IsWellFormedSet (filled_context nothing g) (filled_set nothing c)
set_with_nothing g c formed =
    subst (λ h. IsWellFormedSet (filled_context nothing h) (filled_set nothing c)) (append-nil g)
    (IsKindedSet-test (kinds_of (filled_context nothing (g ++ []))) [] (filled_set nothing c)
    (fill_kept [] tt nothing nothing_over g SetSort c
    (IsKindedSet-from (kinds_of (g ++ [])) [] c
    (subst (λ h. IsWellFormedSet h c) (sym (append-nil g)) formed))))

-- whether nothing serves a demand is what the test says
pub nothing_test : (d : Demand) → IsWellFormedDemand d
    → IsTrue (is_served nothing (IsBelow d)) ↔ IsServed nothing (IsBelow d)
nothing_test d formed =
    test_of_sets_decides (filled_context nothing d.context) (filled_set nothing d.left) (filled_set nothing d.right)
    (context_with_nothing d.context formed.context) (set_with_nothing d.context d.left formed.left)

not_true : (b : Bool) → not b ≡ true → b ≡ true → ⊥
not_true true h k = cc
not_true false h k = cc

not_is : (b : Bool) → not b ≡ true → b ≡ false
not_is true h = cc
not_is false h = refl

twice_not : (b : Bool) → not (not b) ≡ true → b ≡ true
twice_not true h = refl
twice_not false h = cc

pub lost_is_never_served : LostIsNeverServed
lost_is_never_served f (IsBelow d) formed lost served =
    let both = and_parts (not (has_hole d.right)) (not (is_served nothing (IsBelow d))) lost in
    not_true (is_served nothing (IsBelow d)) both.1
    ((nothing_test d formed).1 (nothing_serves f d (not_is (has_hole d.right) both.0) served))
lost_is_never_served f (IsCapless c) formed lost served =
    let both = and_parts (not false) (not (is_served nothing (IsCapless c))) lost in
    served (nothing_less_set f c Cap (twice_not (contains Cap (filled_set nothing c)) both.1))

-- a set that has no hole
module _ (c : Set) (none : MeetsInSet (holes_below 0) 0 c) where
  no_hole : HasNoHoleInSet c
  no_hole e m = by_element e (none e m)
    where
      by_element : (e : Elem) → IsHoleBelow 0 e → IsNoHole e
      by_element (Variable v) k = tt
      by_element Cap k = tt
      by_element (Hole n) k = let below : n < 0 = k in absurd (omega arith)

  pub no_hole_test : has_hole c ≡ false
  no_hole_test = (hole-decides.in_set 0 c).1 no_hole

  stays_filled : (e : Elem) → Member e c → Member e (filled_set nothing c)
  stays_filled e m = by_element e (no_hole e m) m
    where
      by_element : (e : Elem) → IsNoHole e → Member e c → Member e (filled_set nothing c)
      by_element (Variable v) k m = Member-filled nothing (Variable v) (Variable v) c m (Member-single_itself (Variable v))
      by_element Cap k m = Member-filled nothing Cap Cap c m (Member-single_itself Cap)
      by_element (Hole n) k m = absurd k

filled_of : (c : Set) (e : Elem) → Member e (filled_set nothing c) → Member e c
filled_of c e m = let m' = Member-from_filled nothing e c m in by_element m'.0 m'.1 m'.2
  where
    by_element : (x : Elem) → Member x c → Member e (filled_element nothing x) → Member e c
    by_element (Variable v) l k = subst (λ y. Member y c) (sym (Member-single e (Variable v) k)) l
    by_element Cap l k = subst (λ y. Member y c) (sym (Member-single e Cap k)) l
    by_element (Hole n) l k = absurd (Member-empty e k)

-- where there is no hole, a demand that nothing serves holds as it stands
served_as_it_stands : (d : Demand) → HasAskedHolesBelow 0 (IsBelow d) → IsServed nothing (IsBelow d)
    → SubcapturesSet d.context d.left d.right
served_as_it_stands d none served e m =
    subcaptures_above
    (subcaptures_along (served e (stays_filled d.left none.1 e m)) d.context
    (λ p s c above there each.
    let found = lookup-from_filled nothing d.context p s c there in
    variable found.2
    (λ y k.
    each y
    (subst (Member y) (sym found.3)
    (stays_filled found.1 (in_entry 0 d.context p (TermEntry found.0 found.1) none.0 found.2).1 y k)))))
    d.right (λ y k. element (filled_of d.right y k))

-- there, what is not settled is lost
pub lost_without_holes : (a : Asked) → IsWellFormedAsked a → HasAskedHolesBelow 0 a → is_settled a ≡ false
    → (may_force a ≡ false) × (is_lost a ≡ true)
lost_without_holes (IsBelow d) formed none fails = (holeless, by_test (is_served nothing (IsBelow d)) refl)
  where
    holeless : has_hole d.right ≡ false
    holeless = no_hole_test d.right none.2

    stands_not : is_below d.context d.left d.right ≡ false
    stands_not = sym (ap (λ b. cond b (is_subset d.left d.right) (is_below d.context d.left d.right)) holeless) ∙ fails

    stands : is_served nothing (IsBelow d) ≡ true → is_below d.context d.left d.right ≡ true
    stands h =
        (test_of_sets_decides d.context d.left d.right formed.context formed.left).1
        (served_as_it_stands d none ((nothing_test d formed).0 h))

    by_test : (b : Bool) → is_served nothing (IsBelow d) ≡ b
        → (not (has_hole d.right) && not (is_served nothing (IsBelow d))) ≡ true
    by_test true h = let clash : true ≡ false = sym (stands h) ∙ stands_not in cc
    by_test false h = and_from (not (has_hole d.right)) (not (is_served nothing (IsBelow d))) (ap not holeless) (ap not h)
lost_without_holes (IsCapless c) formed none fails = (refl, by_test (contains Cap c) refl)
  where
    by_test : (b : Bool) → contains Cap c ≡ b → not (not (contains Cap (filled_set nothing c))) ≡ true
    by_test true h = ap (λ x. not (not x)) (stays_filled c none Cap h)
    by_test false h =
        let settled : not (contains Cap c || has_hole c) ≡ true =
        (λ i. not (h i || no_hole_test c none i)) in
        let clash : true ≡ false = sym settled ∙ fails in cc

-- nothing can be put into the holes of what forces nothing, to judge it
filling_of_none : (sets : List Set) → sets ≡ [] → filling_of sets ≡ nothing
filling_of_none sets is = ap filling_of is

fit_alone : (a : Asked) → IsWellFormedAsked a → may_force a ≡ false → IsFit [] a
fit_alone (IsBelow d) formed force = (
  (d.context, sym (append-nil d.context)),
  formed.context,
  formed.left,
  inl ((hole-decides.in_set 0 d.right).0 force),
)
fit_alone (IsCapless c) formed force = tt

pub judged_by_nothing : (p : Placed) (sets : List Set) → sets ≡ [] → IsWellFormedAsked p.asked
    → may_force p.asked ≡ false → CanBeJudged (filling_of sets) (p ∷ [])
judged_by_nothing p sets none formed force =
    subst (λ f. CanBeJudged f (p ∷ [])) (sym (filling_of_none sets none)) (
      [],
      record {
        formed = IsKindedContext-test [] tt;
        globals_alone = tt;
        each = λ a among. subst (IsFit []) (asked_one p a among) (fit_alone p.asked formed force);
      },
      nothing_over,
    )

-- what is not served by it is lost
asked_test : (a : Asked) → IsWellFormedAsked a → IsTrue (is_served nothing a) ↔ IsServed nothing a
asked_test (IsBelow d) formed = nothing_test d formed
asked_test (IsCapless c) formed = (
  λ h m. not_true (contains Cap (filled_set nothing c)) h m,
  λ none. by_test none (contains Cap (filled_set nothing c)) refl,
)
  where
    by_test : (Member Cap (filled_set nothing c) → ⊥) → (b : Bool) → contains Cap (filled_set nothing c) ≡ b
        → not (contains Cap (filled_set nothing c)) ≡ true
    by_test none true is = absurd (none is)
    by_test none false is = ap not is

pub lost_by_judging : (a : Asked) (served : Bool) (sets : List Set) → sets ≡ [] → IsWellFormedAsked a
    → may_force a ≡ false → IsTrue served ↔ IsServed (filling_of sets) a → not served ≡ is_lost a
lost_by_judging a served sets none formed force decides =
    let same : served ≡ is_served nothing a =
    tests_alike served (is_served nothing a) (IsServed nothing a)
    (subst (λ f. IsTrue served ↔ IsServed f a) (filling_of_none sets none) decides) (asked_test a formed) in
    ap not same ∙ sym (ap (λ b. not b && not (is_served nothing a)) force)

pub forces_not_lost : (a : Asked) → may_force a ≡ true → false ≡ is_lost a
forces_not_lost a force = sym (ap (λ b. not b && not (is_served nothing a)) force)
