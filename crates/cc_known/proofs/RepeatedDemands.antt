-- What repeats a demand is served by each filling over the globals that serves it.
use Rattle.std.proofs.Common.{◌≡◌, ◌↔◌, ◌⊎◌, ℕ, zero, suc, ◌<◌, Bool, true, false, not, cond, ◌&&◌, List, [], ◌∷◌}
use Rattle.std.proofs.Common.{◌++◌, length, Some, None, refl, sym, ap, ◌∙◌, subst, inl, inr, arith}
use Rattle.std.proofs.lemmas.Bool.{and_parts, or_cases, both_ways, not-true, false_from_ne_true}
use Rattle.cc_capture.specs.declared.var.Var.TheVariants.{Bound, Free}
use Rattle.cc_capture.specs.declared.var.Elem.{Elem}
use Rattle.cc_capture.specs.declared.var.Elem.TheVariants.{Var as Variable, Cap, Hole}
use Rattle.cc_capture.specs.Elements.{same_element}
use Rattle.cc_capture.specs.ElementOrder.{same_element-true, same_element-itself}
use Rattle.cc_capture.specs.Sets.{Set, Member, contains, same_set, union, remove}
use Rattle.cc_capture.proofs.Equality.{same_set-decides}
use Rattle.cc_capture.proofs.Membership.{Member-retain, Member-remove, Member-union}
use Rattle.cc_core.specs.Contexts.{TermEntry, Context, lookup}
use Rattle.cc_core.specs.Questions.{is_hole}
use Rattle.cc_core.specs.Substitution.{single, filled, filled_element, filled_set}
use Rattle.cc_core.specs.Subcapturing.{Subcaptures, SubcapturesSet, element, variable}
use Rattle.cc_core.specs.WellFormed.{TermKind, kinds_of, IsWellFormedContext, IsWellFormedSet}
use Rattle.cc_core.proofs.KindFacts.{IsKindedElement, IsKindedSet, IsKindedSet-from, IsKindedSet-test}
use Rattle.cc_core.proofs.Moving.{Member-single, Member-single_itself}
use Rattle.cc_core.proofs.SubcapturingContexts.{entry_of_term}
use Rattle.cc_core.proofs.SubcapturingLemmas.{subcaptures_longer, subcaptures_shorter, subcaptures_variable}
use Rattle.cc_checking.specs.Comparison.{Demand}
use Rattle.cc_checking.specs.Outcomes.{Asked, IsBelow, IsCapless, Placed}
use Rattle.cc_checking.specs.Fillings.{Filling, filled_context, IsServed, AllServed, IsGlobal, IsOverGlobals}
use Rattle.cc_sets.proofs.SubcapturingSearch.{set_lower}
use Rattle.cc_checking_laws.specs.FillingLaws.{AreGlobals, IsFit}
use Rattle.cc_checking_laws.proofs.CheckedDefinitions.{all_terms}
use Rattle.cc_checking_laws.proofs.LeastFillings.{Member-filled, Member-from_filled, lookup-filled, globals_still}
use Rattle.cc_checking_laws.proofs.LeastFillings.{filled_context-append}
use Rattle.cc_core.specs.ClosedEntries.{closed_entries}
use Rattle.cc_known.specs.Keeping.{has_hole, is_end, beyond, declared_of, all_given_way, ends_beyond, is_among_oldest, fillable}
use Rattle.cc_known.specs.Keeping.{is_ended_so, has_ended_so, may_force, is_repeated}
use Rattle.cc_known.proofs.DemandEnds.{beyond_both, both_beyond, member_cases, declared_is_lower, declared_is_kinded}
use Rattle.cc_known.proofs.FillableSets.{Member-fillable, global_fills, fillable_hole, filled_none, below_globals}
use Rattle.cc_known.proofs.KeptDemands.{none_passes}

-- all that is asked is fit over the globals
abbrev pub AllFit : Context → List Placed → Type 0
AllFit globals [] = Unit {0}
AllFit globals (p ∷ list) = IsFit globals p.asked × AllFit globals list

no_hole : (right : Set) → has_hole right ≡ false → (n : ℕ) → Member (Hole n) right → ⊥
unfolding contains
no_hole right none n m = let no : true ≡ false = none_passes is_hole right.list none (Hole n) m in cc

-- a set on the way to the ends: its variables are declared, below a limit, and it has nothing that the right set has
record OnTheWay (context : Context) (right : Set) (limit : ℕ) (set : Set) : Type 0 where
  known : IsKindedSet (kinds_of context) [] set
  low : (q : ℕ) → Member (Variable (Free q)) set → q < limit
  apart : (e : Elem) → Member e set → contains e right ≡ false

same_or_other : (x y : Elem) → (x ≡ y) ⊎ (x ≡ y → ⊥)
same_or_other x y = by_test (same_element x y) refl
  where
    by_test : (b : Bool) → same_element x y ≡ b → (x ≡ y) ⊎ (x ≡ y → ⊥)
    by_test true is = inl (same_element-true x y is)
    by_test false is =
        inr (λ same. both_ways (same_element x y) is (ap (λ z. same_element z y) same ∙ same_element-itself y))

module _ (f : Filling) (context : Context) (right : Set) (well : IsWellFormedContext context)
    (none : has_hole right ≡ false) where
  abbrev stands : Context
  stands = filled_context f context

  abbrev above : Set
  above = filled_set f right

  abbrev Below : Set → Type 0
  Below set = SubcapturesSet stands (filled_set f set) above

  -- a variable that the right set has not is not in what is filled of it
  out_of_above : (p : ℕ) → contains (Variable (Free p)) right ≡ false → Member (Variable (Free p)) above → ⊥
  out_of_above p out m = let k = Member-from_filled f (Variable (Free p)) right m in by_element k.0 k.1 k.2
    where
      by_element : (x : Elem) → Member x right → Member (Variable (Free p)) (filled_element f x) → ⊥
      by_element (Variable v) m l =
          both_ways (contains (Variable (Free p)) right) out
          (ap (λ x. contains x right) (Member-single (Variable (Free p)) (Variable v) l) ∙ m)
      by_element Cap m l = let same = Member-single (Variable (Free p)) Cap l in cc
      by_element (Hole n) m l = no_hole right none n m

  module _ (p : ℕ) (set : Set) (way : OnTheWay context right (suc p) set) where
    abbrev declared : Set
    declared = declared_of (lookup context p)

    abbrev next : Set
    next = union (remove (Variable (Free p)) set) (beyond right declared)

    next_cases : (e : Elem) → Member e next
        → ((e ≡ Variable (Free p) → ⊥) × Member e set) ⊎ (Member e declared × (contains e right ≡ false))
    next_cases e m =
        elim ((Member-union e (remove (Variable (Free p)) set) (beyond right declared)).0 m)
        as (λ _. ((e ≡ Variable (Free p) → ⊥) × Member e set) ⊎ (Member e declared × (contains e right ≡ false))) [
          | inl was ↦ inl ((Member-remove e (Variable (Free p)) set).0 was)
          | inr new ↦ inr (beyond_both right declared e new)
        ]

    way_on : OnTheWay context right p next
    way_on = record {
      known = λ e m.
          elim (next_cases e m) as (λ _. IsKindedElement (kinds_of context) [] e) [
            | inl was ↦ way.known e was.1
            | inr new ↦ declared_is_kinded context p well e new.0
          ];
      low = λ q m.
          elim (next_cases (Variable (Free q)) m) as (λ _. q < p) [
            | inl was ↦
                let low = way.low q was.1 in
                let apart : q ≡ p → ⊥ = λ same. was.0 (ap (λ n. Variable (Free n)) same) in
                omega (arith, low, apart)
            | inr new ↦ declared_is_lower context p well q new.0
          ];
      apart = λ e m.
          elim (next_cases e m) as (λ _. contains e right ≡ false) [
            | inl was ↦ way.apart e was.1
            | inr new ↦ new.1
          ];
    }

    way_stays : contains (Variable (Free p)) set ≡ false → OnTheWay context right p set
    way_stays out = record {
      known = way.known;
      low = λ q m.
          let low = way.low q m in
          let apart : q ≡ p → ⊥ = λ same.
          both_ways (contains (Variable (Free q)) set) (ap (λ n. contains (Variable (Free n)) set) same ∙ out) m in
          omega (arith, low, apart);
      apart = way.apart;
    }

    -- the entry of the variable
    module _ (member : Member (Variable (Free p)) set) where
      entry : (s : _) × (d : Set) × (lookup context p ≡ Some (TermEntry s d))
      entry = entry_of_term context p (way.known (Variable (Free p)) member)

      is_declared : declared ≡ entry.1
      is_declared = ap declared_of entry.2

      forward : Below set → Below next
      forward below e m =
          let k = Member-from_filled f e next m in
          elim (next_cases k.0 k.1) as (λ _. Subcaptures stands e above) [
            | inl was ↦ below e (Member-filled f k.0 e set was.1 k.2)
            | inr new ↦
                elim ((subcaptures_variable stands p (filled f entry.0) (filled_set f entry.1) above
                (lookup-filled f context p entry.0 entry.1 entry.2)).0
                (below (Variable (Free p))
                (Member-filled f (Variable (Free p)) (Variable (Free p)) set member (Member-single_itself (Variable (Free p))))))
                as (λ _. Subcaptures stands e above) [
                  | inl there ↦ absurd (out_of_above p (way.apart (Variable (Free p)) member) there)
                  | inr each ↦ each e (Member-filled f k.0 e entry.1 (subst (Member k.0) is_declared new.0) k.2)
                ]
          ]

      backward : Below next → Below set
      backward below e m =
          let k = Member-from_filled f e set m in
          elim (same_or_other k.0 (Variable (Free p))) as (λ _. Subcaptures stands e above) [
            | inl same ↦
                let is : e ≡ Variable (Free p) =
                Member-single e (Variable (Free p)) (subst (λ x. Member e (filled_element f x)) same k.2) in
                subst (λ y. Subcaptures stands y above) (sym is)
                (variable (lookup-filled f context p entry.0 entry.1 entry.2)
                (λ y l.
                let j = Member-from_filled f y entry.1 l in
                elim (member_cases j.0 right) as (λ _. Subcaptures stands y above) [
                  | inl inside ↦ element (Member-filled f j.0 y right inside j.2)
                  | inr out ↦
                      below y
                      (Member-filled f j.0 y next
                      ((Member-union j.0 (remove (Variable (Free p)) set) (beyond right declared)).1
                      (inr (both_beyond right declared j.0 (subst (Member j.0) (sym is_declared) j.1) out)))
                      j.2)
                ]))
            | inr other ↦
                below e
                (Member-filled f k.0 e next
                ((Member-union k.0 (remove (Variable (Free p)) set) (beyond right declared)).1
                (inl ((Member-remove k.0 (Variable (Free p)) set).1 (other, k.1))))
                k.2)
          ]

  abbrev Comes : ℕ → Set → Type 0
  Comes limit from =
      OnTheWay context right zero (all_given_way context right limit from)
      × (Below from ↔ Below (all_given_way context right limit from))

  -- what becomes of a set that is on the way is below alike
  becomes : (limit : ℕ) (set : Set) → OnTheWay context right limit set
      → OnTheWay context right zero (all_given_way context right limit set)
      × (Below set ↔ Below (all_given_way context right limit set))
  becomes zero set way = (way, (λ h. h, λ h. h))
  becomes (suc p) set way =
      by_test (becomes p (next p set way) (way_on p set way)) (λ on. becomes p set on)
      (contains (Variable (Free p)) set) refl
    where
      by_test : Comes p (next p set way) → (OnTheWay context right p set → Comes p set) → (b : Bool)
          → contains (Variable (Free p)) set ≡ b
          → OnTheWay context right zero (all_given_way context right p (cond b (next p set way) set))
          × (Below set ↔ Below (all_given_way context right p (cond b (next p set way) set)))
      by_test rest still true is =
          (rest.0, (λ h. rest.1.0 (forward p set way is h), λ h. backward p set way is (rest.1.1 h)))
      by_test rest still false is = still (way_stays p set way is)

  -- on the way to no position there are ends alone
  only_ends : (set : Set) → OnTheWay context right zero set → (e : Elem) → Member e set → is_end e ≡ true
  only_ends set way (Variable (Free q)) m = let low = way.low q m in absurd (omega (arith, low))
  only_ends set way (Variable (Bound i)) m = absurd (none_bound (way.known (Variable (Bound i)) m))
    where
      none_bound : None ≡ Some TermKind → ⊥
      none_bound e = cc
  only_ends set way Cap m = refl
  only_ends set way (Hole n) m = refl

  module _ (left : Set) (formed : IsWellFormedSet context left) where
    begun : OnTheWay context right (length context) (beyond right left)
    begun = record {
      known = λ e m. IsKindedSet-from (kinds_of context) [] left formed e (beyond_both right left e m).0;
      low = λ q m. set_lower context left formed q (beyond_both right left (Variable (Free q)) m).0;
      apart = λ e m. (beyond_both right left e m).1;
    }

    abbrev last : Set
    last = all_given_way context right (length context) (beyond right left)

    -- the left set is below the right one where its ends are
    ends_below : Below left ↔ Below (ends_beyond context right left)
    ends_below =
        let done = becomes (length context) (beyond right left) begun in (
          λ below e m.
              let k = Member-from_filled f e (ends_beyond context right left) m in
              done.1.0
              (λ x l.
              let j = Member-from_filled f x (beyond right left) l in
              below x (Member-filled f j.0 x left (beyond_both right left j.0 j.1).0 j.2))
              e (Member-filled f k.0 e last ((Member-retain is_end k.0 last).0 k.1).1 k.2),
          λ below e m.
              let k = Member-from_filled f e left m in
              elim (member_cases k.0 right) as (λ _. Subcaptures stands e above) [
                | inl inside ↦ element (Member-filled f k.0 e right inside k.2)
                | inr out ↦
                    done.1.1
                    (λ x l.
                    let j = Member-from_filled f x last l in
                    below x
                    (Member-filled f j.0 x (ends_beyond context right left)
                    ((Member-retain is_end j.0 last).1 (only_ends last done.0 j.0 j.1, j.1)) j.2))
                    e (Member-filled f k.0 e (beyond right left) (both_beyond right left k.0 k.1 out) k.2)
              ],
        )

module _ (globals : Context) (formed : IsWellFormedContext globals) (alone : AreGlobals globals) (f : Filling)
    (over : IsOverGlobals (length globals) f) where
  -- a global has its kind among the globals
  global_kinded : (e : Elem) → IsGlobal (length globals) e → IsKindedElement (kinds_of globals) [] e
  global_kinded (Variable (Free p)) h = all_terms globals alone p h
  global_kinded (Variable (Bound i)) h = absurd h
  global_kinded Cap h = tt
  global_kinded (Hole n) h = absurd h

  filled_later : (later : Context) → filled_context f (later ++ globals) ≡ filled_context f later ++ globals
  filled_later later =
      filled_context-append f later globals
      ∙ ap (λ g. filled_context f later ++ g) (globals_still f globals alone)

  -- A global that is below a set in one context on top of the globals is below each that has the same globals in each.
  global_moves : (later later' : Context) (e : Elem) (c c' : Set) → IsGlobal (length globals) e
      → ((x : Elem) → IsGlobal (length globals) x → Member x c → Member x c')
      → Subcaptures (filled_context f (later ++ globals)) e c → Subcaptures (filled_context f (later' ++ globals)) e c'
  global_moves later later' e c c' is into below =
      let known = IsKindedSet-test (kinds_of globals) [] (single e)
      (λ x m. subst (IsKindedElement (kinds_of globals) []) (sym (Member-single x e m)) (global_kinded e is)) in
      let here : SubcapturesSet (filled_context f later ++ globals) (single e) c =
      λ x m. subst (λ g. Subcaptures g x c) (filled_later later)
      (subst (λ y. Subcaptures (filled_context f (later ++ globals)) y c) (sym (Member-single x e m)) below) in
      let alone_there : Subcaptures globals e c' =
      below_globals (subcaptures_shorter globals (filled_context f later) (single e) c formed known here e (Member-single_itself e))
      alone formed is c' into in
      let there = subcaptures_longer globals (filled_context f later') (single e) c'
      (λ x m. subst (λ y. Subcaptures globals y c') (sym (Member-single x e m)) alone_there) in
      subst (λ g. Subcaptures g e c') (sym (filled_later later')) (there e (Member-single_itself e))

  module _ (later later' : Context) (right right' : Set) (none : has_hole right ≡ false) (none' : has_hole right' ≡ false)
      (into : (x : Elem) → IsGlobal (length globals) x → Member x right → Member x right') where
    abbrev g : Context
    g = filled_context f (later ++ globals)

    abbrev g' : Context
    g' = filled_context f (later' ++ globals)

    global_below : (e : Elem) → IsGlobal (length globals) e → Subcaptures g e (filled_set f right)
        → Subcaptures g' e (filled_set f right')
    global_below e is below =
        subst (Subcaptures g' e) (sym (filled_none f right' none'))
        (global_moves later later' e right right' is into (subst (Subcaptures g e) (filled_none f right none) below))

    -- what becomes of an end is below in both contexts or in none
    end_moves : (x e : Elem) → is_end x ≡ true → Member e (filled_element f x) → Subcaptures g e (filled_set f right)
        → Subcaptures g' e (filled_set f right')
    end_moves (Variable v) e is m below = cc
    end_moves Cap e is m below =
        global_below e (subst (IsGlobal (length globals)) (sym (Member-single e Cap m)) tt) below
    end_moves (Hole n) e is m below = global_below e (over n e m) below

    -- so are all ends
    ends_move : (set : Set) → ((x : Elem) → Member x set → is_end x ≡ true)
        → SubcapturesSet g (filled_set f set) (filled_set f right) → SubcapturesSet g' (filled_set f set) (filled_set f right')
    ends_move set only below e m =
        let m' = Member-from_filled f e set m in end_moves m'.0 e (only m'.0 m'.1) m'.2 (below e m)

  -- the globals of a right set are those of each of which the same may be put in for holes
  same_globals : (first again : Demand) → IsFit globals (IsBelow first) → IsFit globals (IsBelow again)
      → fillable again.context again.right ≡ fillable first.context first.right
      → (x : Elem) → IsGlobal (length globals) x → Member x first.right → Member x again.right
  same_globals first again fit fit' same x is m =
      let fills = subst (λ h. is_among_oldest (closed_entries h) x ≡ true) (sym fit.0.1) (global_fills fit.0.0 globals alone x is) in
      let here = (Member-fillable first.context x first.right).1 (fills, m) in
      ((Member-fillable again.context x again.right).0 (subst (Member x) (sym same) here)).1

  -- what has the ends of a demand that is served, and what may be put in for holes of its right set, is served
  served_again : (first again : Demand) → IsFit globals (IsBelow first) → IsFit globals (IsBelow again)
      → is_ended_so (ends_beyond again.context again.right again.left) (fillable again.context again.right) (IsBelow first) ≡ true
      → IsServed f (IsBelow first) → IsServed f (IsBelow again)
  served_again first again fit fit' is served =
      let k = and_parts (not (has_hole first.right))
      (same_set (ends_beyond again.context again.right again.left) (ends_beyond first.context first.right first.left)
      && same_set (fillable again.context again.right) (fillable first.context first.right)) is in
      let both = and_parts
      (same_set (ends_beyond again.context again.right again.left) (ends_beyond first.context first.right first.left))
      (same_set (fillable again.context again.right) (fillable first.context first.right)) k.1 in
      let ends : ends_beyond again.context again.right again.left ≡ ends_beyond first.context first.right first.left =
      (same_set-decides _ _).0 both.0 in
      let right : fillable again.context again.right ≡ fillable first.context first.right = (same_set-decides _ _).0 both.1 in
      let none : has_hole first.right ≡ false = not-true (has_hole first.right) k.0 in
      let none' : has_hole again.right ≡ false =
      sym (fillable_hole again.context again.right) ∙ ap has_hole right ∙ fillable_hole first.context first.right ∙ none in
      let here = (ends_below f first.context first.right fit.1 none first.left fit.2).0 served in
      let there = ends_move fit.0.0 fit'.0.0 first.right again.right none none' (same_globals first again fit fit' right)
      (ends_beyond first.context first.right first.left)
      (λ x m. ((Member-retain is_end x
      (all_given_way first.context first.right (length first.context) (beyond first.right first.left))).0 m).0)
      (subst (λ g. SubcapturesSet (filled_context f g)
      (filled_set f (ends_beyond first.context first.right first.left)) (filled_set f first.right)) fit.0.1 here) in
      (ends_below f again.context again.right fit'.1 none' again.left fit'.2).1
      (subst (λ g. SubcapturesSet (filled_context f g)
      (filled_set f (ends_beyond again.context again.right again.left)) (filled_set f again.right)) (sym fit'.0.1)
      (subst (λ e. SubcapturesSet (filled_context f (fit'.0.0 ++ globals)) (filled_set f e) (filled_set f again.right))
      (sym ends) there))

  pub repeated_served : (list : List Placed) (a : Asked) → AllFit globals list → IsFit globals a → AllServed f list
      → is_repeated list a ≡ true → IsServed f a
  repeated_served [] (IsBelow d) fits fit all is = cc
  repeated_served (p ∷ list) (IsBelow d) fits fit all is =
      elim (or_cases (is_ended_so (ends_beyond d.context d.right d.left) (fillable d.context d.right) p.asked)
      (is_repeated list (IsBelow d)) is)
      as (λ _. IsServed f (IsBelow d)) [
        | inl here ↦ by_asked p.asked fits.0 all.0 here
        | inr later ↦ repeated_served list (IsBelow d) fits.1 fit all.1 later
      ]
    where
      by_asked : (a : Asked) → IsFit globals a → IsServed f a
          → is_ended_so (ends_beyond d.context d.right d.left) (fillable d.context d.right) a ≡ true → IsServed f (IsBelow d)
      by_asked (IsBelow first) fit' served h = served_again first d fit' fit h served
      by_asked (IsCapless c) fit' served h = cc
  repeated_served list (IsCapless c) fits fit all is = cc

-- what is ended so has no hole on its right side
pub ended_has_none : (ends right : Set) (a : Asked) → is_ended_so ends right a ≡ true → has_hole right ≡ false
ended_has_none ends right (IsBelow d) h =
    let k = and_parts (not (has_hole d.right))
    (same_set ends (ends_beyond d.context d.right d.left) && same_set right (fillable d.context d.right)) h in
    let both = and_parts (same_set ends (ends_beyond d.context d.right d.left)) (same_set right (fillable d.context d.right)) k.1 in
    ap has_hole ((same_set-decides right (fillable d.context d.right)).0 both.1) ∙ fillable_hole d.context d.right
    ∙ not-true (has_hole d.right) k.0
ended_has_none ends right (IsCapless c) h = cc

any_ended_has_none : (list : List Placed) (ends right : Set) → has_ended_so list ends right ≡ true
    → has_hole right ≡ false
any_ended_has_none [] ends right h = cc
any_ended_has_none (p ∷ list) ends right h =
    elim (or_cases (is_ended_so ends right p.asked) (has_ended_so list ends right) h) as (λ _. has_hole right ≡ false) [
      | inl here ↦ ended_has_none ends right p.asked here
      | inr later ↦ any_ended_has_none list ends right later
    ]

pub repeated_has_none : (list : List Placed) (d : Demand) → is_repeated list (IsBelow d) ≡ true → has_hole d.right ≡ false
repeated_has_none list d h =
    sym (fillable_hole d.context d.right)
    ∙ any_ended_has_none list (ends_beyond d.context d.right d.left) (fillable d.context d.right) h

-- what may force something is never repeated
pub force_not_repeated : (list : List Placed) (a : Asked) → may_force a ≡ true → is_repeated list a ≡ false
force_not_repeated list (IsBelow d) force =
    false_from_ne_true (is_repeated list (IsBelow d)) (λ h. both_ways (has_hole d.right) (repeated_has_none list d h) force)
force_not_repeated list (IsCapless c) force = refl
