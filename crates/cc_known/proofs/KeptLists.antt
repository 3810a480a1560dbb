-- What is kept of all that is asked forces the same, is served alike, fails first alike, and is fit.
use Rattle.std.proofs.Common.{◌≡◌, ◌⊎◌, ℕ, ◌≤◌, Bool, true, false, not, ◌||◌, ◌&&◌, cond, List, [], ◌∷◌, ◌++◌, length}
use Rattle.std.proofs.Common.{refl, sym, ap, ◌∙◌, subst, inl, inr, append_assoc, arith}
use Rattle.std.proofs.lemmas.Bool.{and_parts, or_cases, or_left, or_parts}
use Rattle.cc_base.specs.declared.code.Code.{Code}
use Rattle.cc_base.specs.declared.place.Place.{Place}
use Rattle.cc_capture.specs.declared.var.Elem.{Elem}
use Rattle.cc_capture.specs.declared.var.Elem.TheVariants.{Hole}
use Rattle.cc_capture.specs.Sets.{Member, contains, is_subset}
use Rattle.cc_core.specs.Contexts.{Context}
use Rattle.cc_core.specs.Questions.{is_hole}
use Rattle.cc_core.specs.Substitution.{single}
use Rattle.cc_core.proofs.Moving.{Member-single, Member-single_itself}
use Rattle.cc_checking.specs.Comparison.{Demand}
use Rattle.cc_checking.specs.Outcomes.{Asked, IsBelow, IsCapless, Placed}
use Rattle.cc_checking.specs.Fillings.{Filling, IsServed, AllServed, IsAskedIn, Comes, global, capability, local, forced}
use Rattle.cc_checking.specs.Fillings.{IsOverGlobals, FailsFirst, code_of_failure}
use Rattle.cc_core.specs.WellFormed.{IsWellFormedContext}
use Rattle.cc_checking_laws.specs.FillingLaws.{AreGlobals, IsFit}
use Rattle.cc_known.specs.FormedDemands.{IsWellFormedAsked, AllWellFormed}
use Rattle.cc_known.specs.Keeping.{is_below, has_hole, is_demand_settled, is_settled, may_force, is_lost, has_lost}
use Rattle.cc_known.specs.Keeping.{is_repeated, is_needless, with_one, keeping, kept}
use Rattle.cc_known.specs.KeepingLaws.{KeptIsNotSettled, WhatMayForceIsKept, OneLostIsEnough, OneIsKeptWithoutHoles}
use Rattle.cc_known.specs.KeepingLaws.{KeptOfBoth, KeptForcesTheSame, RepeatedIsServed, KeptIsServedAlike, KeptFailsAlike}
use Rattle.cc_known.specs.KeepingLaws.{KeptIsFit}
use Rattle.cc_known.proofs.KeptDemands.{none_passes, settled_is_served, subset_members}
use Rattle.cc_known.proofs.LostDemands.{lost_is_never_served, lost_without_holes}
use Rattle.cc_known.proofs.RepeatedDemands.{AllFit, repeated_served, force_not_repeated}

-- what is asked in a list with one more
asked_first : (p : Placed) (list : List Placed) (a : Asked) → p.asked ≡ a → IsAskedIn (p ∷ list) a
asked_first p list a same = ([], p, list, refl, same)

asked_later : (p : Placed) (list : List Placed) (a : Asked) → IsAskedIn list a → IsAskedIn (p ∷ list) a
asked_later p list a (before, q, after, is, same) = (p ∷ before, q, after, ap (λ l. p ∷ l) is, same)

heads : (p q : Placed) (list list' : List Placed) → p ∷ list ≡ q ∷ list' → (p ≡ q) × (list ≡ list')
heads p q list list' e = (cc, cc)

asked_cases : (p : Placed) (list : List Placed) (a : Asked) → IsAskedIn (p ∷ list) a → (p.asked ≡ a) ⊎ IsAskedIn list a
asked_cases p list a ([], q, after, is, same) = inl (ap (λ (x : Placed). x.asked) (heads p q list after is).0 ∙ same)
asked_cases p list a (x ∷ before, q, after, is, same) =
    inr (before, q, after, (heads p x list (before ++ q ∷ after) is).1, same)

none_asked : (a : Asked) → IsAskedIn [] a → ⊥
none_asked a ([], q, after, is, same) = cc
none_asked a (x ∷ before, q, after, is, same) = cc

-- what is asked in two lists
asked_append : (xs ys : List Placed) (a : Asked) → IsAskedIn (xs ++ ys) a → IsAskedIn xs a ⊎ IsAskedIn ys a
asked_append [] ys a asked = inr asked
asked_append (p ∷ xs) ys a asked =
    elim (asked_cases p (xs ++ ys) a asked) as (λ _. IsAskedIn (p ∷ xs) a ⊎ IsAskedIn ys a) [
      | inl same ↦ inl (asked_first p xs a same)
      | inr later ↦
          elim (asked_append xs ys a later) as (λ _. IsAskedIn (p ∷ xs) a ⊎ IsAskedIn ys a) [
            | inl one ↦ inl (asked_later p xs a one)
            | inr two ↦ inr two
          ]
    ]

asked_left : (xs ys : List Placed) (a : Asked) → IsAskedIn xs a → IsAskedIn (xs ++ ys) a
asked_left xs ys a (before, q, after, is, same) =
    (before, q, after ++ ys, ap (λ l. l ++ ys) is ∙ append_assoc before (q ∷ after) ys, same)

asked_right : (xs ys : List Placed) (a : Asked) → IsAskedIn ys a → IsAskedIn (xs ++ ys) a
asked_right [] ys a asked = asked
asked_right (p ∷ xs) ys a asked = asked_later p (xs ++ ys) a (asked_right xs ys a asked)

-- what is not needless is not settled, and forces something behind what is lost
unneeded : (log : List Placed) (a : Asked) → is_needless log a ≡ false
    → ((has_lost log && not (may_force a)) ≡ false) × (is_settled a ≡ false)
unneeded log a is =
    let k = or_parts ((has_lost log && not (may_force a)) || is_settled a) (is_repeated log a) is in
    or_parts (has_lost log && not (may_force a)) (is_settled a) k.0

-- what is kept was asked and is not settled
added : (log : List Placed) (p : Placed) (a : Asked) → IsAskedIn (with_one log p) a
    → IsAskedIn log a ⊎ ((p.asked ≡ a) × (is_settled a ≡ false))
added log p a asked = by_test (is_needless log p.asked) refl asked
  where
    by_test : (b : Bool) → is_needless log p.asked ≡ b → IsAskedIn (cond b log (log ++ p ∷ [])) a
        → IsAskedIn log a ⊎ ((p.asked ≡ a) × (is_settled a ≡ false))
    by_test true is asked = inl asked
    by_test false is asked =
        elim (asked_append log (p ∷ []) a asked)
        as (λ _. IsAskedIn log a ⊎ ((p.asked ≡ a) × (is_settled a ≡ false))) [
          | inl before ↦ inl before
          | inr last ↦
              elim (asked_cases p [] a last) as (λ _. IsAskedIn log a ⊎ ((p.asked ≡ a) × (is_settled a ≡ false))) [
                | inl same ↦
                    inr (
                      same,
                      sym (ap is_settled same) ∙ (unneeded log p.asked is).1,
                    )
                | inr none ↦ absurd (none_asked a none)
              ]
        ]

kept_only : (log list : List Placed) (a : Asked) → IsAskedIn (keeping log list) a
    → IsAskedIn log a ⊎ (IsAskedIn list a × (is_settled a ≡ false))
kept_only log [] a asked = inl asked
kept_only log (p ∷ list) a asked =
    elim (kept_only (with_one log p) list a asked)
    as (λ _. IsAskedIn log a ⊎ (IsAskedIn (p ∷ list) a × (is_settled a ≡ false))) [
      | inl before ↦
          elim (added log p a before) as (λ _. IsAskedIn log a ⊎ (IsAskedIn (p ∷ list) a × (is_settled a ≡ false))) [
            | inl older ↦ inl older
            | inr one ↦ inr (asked_first p list a one.0, one.1)
          ]
      | inr later ↦ inr (asked_later p list a later.0, later.1)
    ]

pub kept_is_not_settled : KeptIsNotSettled
kept_is_not_settled list a asked =
    elim (kept_only [] list a asked) as (λ _. IsAskedIn list a × (is_settled a ≡ false)) [
      | inl none ↦ absurd (none_asked a none)
      | inr one ↦ one
    ]

-- what is in the list stays
stays_one : (log : List Placed) (p : Placed) (a : Asked) → IsAskedIn log a → IsAskedIn (with_one log p) a
stays_one log p a asked = by_test (is_needless log p.asked)
  where
    by_test : (b : Bool) → IsAskedIn (cond b log (log ++ p ∷ [])) a
    by_test true = asked
    by_test false = asked_left log (p ∷ []) a asked

stays : (log list : List Placed) (a : Asked) → IsAskedIn log a → IsAskedIn (keeping log list) a
stays log [] a asked = asked
stays log (p ∷ list) a asked = stays (with_one log p) list a (stays_one log p a asked)

-- what may force something and is not settled is not needless
needed : (lost force settled again : Bool) → force ≡ true → settled ≡ false → again ≡ false
    → (((lost && not force) || settled) || again) ≡ false
needed lost force settled again h k l = (λ i. ((lost && not (h i)) || k i) || l i) ∙ nothing_and lost
  where
    nothing_and : (b : Bool) → (((b && false) || false) || false) ≡ false
    nothing_and true = refl
    nothing_and false = refl

kept_force : (log list : List Placed) (a : Asked) → IsAskedIn list a → is_settled a ≡ false → may_force a ≡ true
    → IsAskedIn (keeping log list) a
kept_force log [] a asked not_so force = absurd (none_asked a asked)
kept_force log (p ∷ list) a asked not_so force =
    elim (asked_cases p list a asked) as (λ _. IsAskedIn (keeping (with_one log p) list) a) [
      | inl same ↦
          stays (with_one log p) list a
          (by_test same (is_needless log p.asked)
          (needed (has_lost log) (may_force p.asked) (is_settled p.asked) (is_repeated log p.asked)
          (ap may_force same ∙ force) (ap is_settled same ∙ not_so)
          (force_not_repeated log p.asked (ap may_force same ∙ force))))
      | inr later ↦ kept_force (with_one log p) list a later not_so force
    ]
  where
    by_test : p.asked ≡ a → (b : Bool) → b ≡ false → IsAskedIn (cond b log (log ++ p ∷ [])) a
    by_test same true is = cc
    by_test same false is = asked_right log (p ∷ []) a (asked_first p [] a same)

pub what_may_force_is_kept : WhatMayForceIsKept
what_may_force_is_kept list a asked not_so force = kept_force [] list a asked not_so force

pub kept_of_both : KeptOfBoth
kept_of_both log [] second = refl
kept_of_both log (p ∷ first) second = kept_of_both (with_one log p) first second

-- behind what is lost only what may force something is kept
abbrev IsLean : List Placed → Type 0
IsLean list =
    (before after : List Placed) (placed : Placed) → list ≡ before ++ placed ∷ after → has_lost before ≡ true
    → may_force placed.asked ≡ true

-- where a list with one more at its end is taken apart
last_cases : (xs before after : List Placed) (p q : Placed) → xs ++ p ∷ [] ≡ before ++ q ∷ after
    → ((xs ≡ before) × (p ≡ q)) ⊎ ((rest : List Placed) × (xs ≡ before ++ q ∷ rest))
last_cases [] [] after p q e = inl (refl, (heads p q [] after e).0)
last_cases [] (y ∷ before) after p q e = absurd (no_end before (heads p y [] (before ++ q ∷ after) e).1)
  where
    no_end : (before : List Placed) → [] ≡ before ++ q ∷ after → ⊥
    no_end [] k = cc
    no_end (z ∷ before) k = cc
last_cases (x ∷ xs) [] after p q e =
    let same = heads x q (xs ++ p ∷ []) after e in inr (xs, ap (λ y. y ∷ xs) same.0)
last_cases (x ∷ xs) (y ∷ before) after p q e =
    let same = heads x y (xs ++ p ∷ []) (before ++ q ∷ after) e in
    elim (last_cases xs before after p q same.1)
    as (λ _. ((x ∷ xs ≡ y ∷ before) × (p ≡ q)) ⊎ ((rest : List Placed) × (x ∷ xs ≡ y ∷ before ++ q ∷ rest))) [
      | inl (is, last) ↦ inl ((λ i. same.0 i ∷ is i), last)
      | inr (rest, is) ↦ inr (rest, λ i. same.0 i ∷ is i)
    ]

lean_one : (log : List Placed) (p : Placed) → IsLean log → IsLean (with_one log p)
lean_one log p lean = by_test (is_needless log p.asked) refl
  where
    forces : (lost force : Bool) → (lost && not force) ≡ false → lost ≡ true → force ≡ true
    forces true true h k = refl
    forces true false h k = cc
    forces false force h k = cc

    by_test : (b : Bool) → is_needless log p.asked ≡ b → IsLean (cond b log (log ++ p ∷ []))
    by_test true is = lean
    by_test false is = λ before after placed same lost.
        elim (last_cases log before after p placed same) as (λ _. may_force placed.asked ≡ true) [
          | inl (whole, last) ↦
              ap (λ (x : Placed). may_force x.asked) (sym last)
              ∙ forces (has_lost log) (may_force p.asked) (unneeded log p.asked is).0 (ap has_lost whole ∙ lost)
          | inr (rest, inner) ↦ lean before rest placed inner lost
        ]

lean_all : (log list : List Placed) → IsLean log → IsLean (keeping log list)
lean_all log [] lean = lean
lean_all log (p ∷ list) lean = lean_all (with_one log p) list (lean_one log p lean)

pub one_lost_is_enough : OneLostIsEnough
one_lost_is_enough list before after placed = lean_all [] list none before after placed
  where
    none : IsLean []
    none [] after q is lost = cc
    none (x ∷ before) after q is lost = cc

well_formed_in : (list : List Placed) (a : Asked) → AllWellFormed list → IsAskedIn list a → IsWellFormedAsked a
well_formed_in [] a formed asked = absurd (none_asked a asked)
well_formed_in (p ∷ list) a formed asked =
    elim (asked_cases p list a asked) as (λ _. IsWellFormedAsked a) [
      | inl same ↦ subst IsWellFormedAsked same formed.0
      | inr later ↦ well_formed_in list a formed.1 later
    ]

pub one_is_kept_without_holes : OneIsKeptWithoutHoles
one_is_kept_without_holes list formed none = by_list (kept list) refl
  where
    lost : (a : Asked) → IsAskedIn (kept list) a → (may_force a ≡ false) × (is_lost a ≡ true)
    lost a asked =
        let k = kept_is_not_settled list a asked in
        lost_without_holes a (well_formed_in list a formed k.0) (none a k.0) k.1

    by_list : (whole : List Placed) → kept list ≡ whole → length whole ≤ 1
    by_list [] is = omega arith
    by_list (p ∷ []) is = omega arith
    by_list (p ∷ q ∷ rest) is =
        let first = lost p.asked (subst (λ l. IsAskedIn l p.asked) (sym is) ([], p, q ∷ rest, refl, refl)) in
        let second = lost q.asked (subst (λ l. IsAskedIn l q.asked) (sym is) (p ∷ [], q, rest, refl, refl)) in
        let force : may_force q.asked ≡ true =
        one_lost_is_enough list (p ∷ []) rest q is (or_left (is_lost p.asked) false first.1) in
        let clash : true ≡ false = sym force ∙ second.0 in cc

-- what comes to a hole comes to it in each context
comes_elsewhere : {root : ℕ} {list : List Placed} {g : Context} {h : ℕ} {e : Elem} (g' : Context)
    → Comes root list g (Hole h) e → Comes root list g' (Hole h) e
comes_elsewhere g' (forced demand asked is m c) = forced demand asked is m c

-- a settled demand on a hole has no other member than the hole
settled_on_hole : (d : Demand) (h : ℕ) (x : Elem) → is_demand_settled d ≡ true → d.right ≡ single (Hole h)
    → Member x d.left → x ≡ Hole h
unfolding contains
settled_on_hole d h x settled alone m = by_test (has_hole d.right) refl settled
  where
    here : Member (Hole h) d.right
    here = subst (Member (Hole h)) (sym alone) (Member-single_itself (Hole h))

    by_test : (b : Bool) → has_hole d.right ≡ b
        → cond b (is_subset d.left d.right) (is_below d.context d.left d.right) ≡ true
        → x ≡ Hole h
    by_test true is within =
        Member-single x (Hole h) (subst (Member x) alone (subset_members d.left d.right within x m))
    by_test false is holds = let clash : true ≡ false = none_passes is_hole d.right.list is (Hole h) here in cc

-- a demand on a hole may force something
on_hole : (d : Demand) (h : ℕ) → d.right ≡ single (Hole h) → has_hole d.right ≡ true
unfolding contains
on_hole d h alone = by_test (has_hole d.right) refl
  where
    here : Member (Hole h) d.right
    here = subst (Member (Hole h)) (sym alone) (Member-single_itself (Hole h))

    by_test : (b : Bool) → has_hole d.right ≡ b → b ≡ true
    by_test true is = refl
    by_test false is = let clash : true ≡ false = none_passes is_hole d.right.list is (Hole h) here in cc

-- so what is settled forces nothing
comes_kept : {root : ℕ} {list : List Placed} {g : Context} {x e : Elem} → Comes root list g x e
    → Comes root (kept list) g x e
comes_kept (global below) = global below
comes_kept capability = capability
comes_kept (local from there m c) = local from there m (comes_kept c)
comes_kept {root} {list} {g} (forced {hole = h} {from = x} {e = e} d asked is m c) =
    by_test (is_demand_settled d) refl (comes_kept c)
  where
    by_test : (b : Bool) → is_demand_settled d ≡ b → Comes root (kept list) d.context x e
        → Comes root (kept list) g (Hole h) e
    by_test true settled k =
        comes_elsewhere g
        (subst (λ y. Comes root (kept list) d.context y e) (settled_on_hole d h x settled is m) k)
    by_test false not_so k = forced d (kept_force [] list (IsBelow d) asked not_so (on_hole d h is)) is m k

comes_all : {root : ℕ} {list : List Placed} {g : Context} {x e : Elem} → Comes root (kept list) g x e
    → Comes root list g x e
comes_all (global below) = global below
comes_all capability = capability
comes_all (local from there m c) = local from there m (comes_all c)
comes_all {root} {list} (forced d asked is m c) =
    forced d (kept_is_not_settled list (IsBelow d) asked).0 is m (comes_all c)

pub kept_forces_the_same : KeptForcesTheSame
kept_forces_the_same root list f = (
  λ least hole e. (λ m. comes_all ((least hole e).0 m), λ c. (least hole e).1 (comes_kept c)),
  λ least hole e. (λ m. comes_kept ((least hole e).0 m), λ c. (least hole e).1 (comes_all c)),
)

-- it is served alike
served_append : (f : Filling) (xs ys : List Placed) → AllServed f xs → AllServed f ys → AllServed f (xs ++ ys)
served_append f [] ys p q = q
served_append f (x ∷ xs) ys p q = (p.0, served_append f xs ys p.1 q)

served_parts : (f : Filling) (xs ys : List Placed) → AllServed f (xs ++ ys) → AllServed f xs × AllServed f ys
served_parts f [] ys all = (tt, all)
served_parts f (x ∷ xs) ys all = let k = served_parts f xs ys all.1 in ((all.0, k.0), k.1)

-- all that is asked is fit
fit_append : (globals : Context) (xs ys : List Placed) → AllFit globals xs → AllFit globals ys → AllFit globals (xs ++ ys)
fit_append globals [] ys p q = q
fit_append globals (x ∷ xs) ys p q = (p.0, fit_append globals xs ys p.1 q)

fit_one : (globals : Context) (log : List Placed) (p : Placed) → AllFit globals log → IsFit globals p.asked
    → AllFit globals (with_one log p)
fit_one globals log p fits own = by_test (is_needless log p.asked)
  where
    by_test : (b : Bool) → AllFit globals (cond b log (log ++ p ∷ []))
    by_test true = fits
    by_test false = fit_append globals log (p ∷ []) fits (own, tt)

fit_each : (globals : Context) (list : List Placed) → ((a : Asked) → IsAskedIn list a → IsFit globals a)
    → AllFit globals list
fit_each globals [] each = tt
fit_each globals (p ∷ list) each = (
  each p.asked ([], p, list, refl, refl),
  fit_each globals list (λ a asked. each a (asked_later p list a asked)),
)

fit_formed : (globals : Context) (a : Asked) → IsFit globals a → IsWellFormedAsked a
fit_formed globals (IsBelow d) fit = record { context = fit.1; left = fit.2 }
fit_formed globals (IsCapless c) fit = tt

none_lost : (globals : Context) (f : Filling) (log : List Placed) → AllFit globals log → AllServed f log
    → has_lost log ≡ true → ⊥
none_lost globals f [] fits all lost = cc
none_lost globals f (p ∷ log) fits all lost =
    elim (or_cases (is_lost p.asked) (has_lost log) lost) as (λ _. ⊥) [
      | inl here ↦ lost_is_never_served f p.asked (fit_formed globals p.asked fits.0) here all.0
      | inr later ↦ none_lost globals f log fits.1 all.1 later
    ]

-- what is needless is served where all before it is
module _ (globals : Context) (formed : IsWellFormedContext globals) (alone : AreGlobals globals) (f : Filling)
    (over : IsOverGlobals (length globals) f) where
  needless_served : (log : List Placed) (p : Placed) → AllFit globals log → IsFit globals p.asked → AllServed f log
      → is_needless log p.asked ≡ true → IsServed f p.asked
  needless_served log p fits fit all is =
      elim (or_cases ((has_lost log && not (may_force p.asked)) || is_settled p.asked) (is_repeated log p.asked) is)
      as (λ _. IsServed f p.asked) [
        | inl other ↦
            elim (or_cases (has_lost log && not (may_force p.asked)) (is_settled p.asked) other)
            as (λ _. IsServed f p.asked) [
              | inl behind ↦
                  absurd
                  (none_lost globals f log fits all (and_parts (has_lost log) (not (may_force p.asked)) behind).0)
              | inr settled ↦ settled_is_served f p.asked settled
            ]
        | inr again ↦ repeated_served globals formed alone f over log p.asked fits fit all again
      ]

  served_all : (log list : List Placed) → AllFit globals log → AllFit globals list
      → AllServed f (keeping log list) → AllServed f log × AllServed f list
  served_all log [] fits each all = (all, tt)
  served_all log (p ∷ list) fits each all =
      let k = served_all (with_one log p) list (fit_one globals log p fits each.0) each.1 all in
      by_test (is_needless log p.asked) refl k.0 k.1
    where
      by_test : (b : Bool) → is_needless log p.asked ≡ b → AllServed f (cond b log (log ++ p ∷ [])) → AllServed f list
          → AllServed f log × (IsServed f p.asked × AllServed f list)
      by_test true is before later = (before, (needless_served log p fits each.0 before is, later))
      by_test false is before later = let k = served_parts f log (p ∷ []) before in (k.0, (k.1.0, later))

served_kept : (f : Filling) (log list : List Placed) → AllServed f log → AllServed f list
    → AllServed f (keeping log list)
served_kept f log [] before all = before
served_kept f log (p ∷ list) before all =
    served_kept f (with_one log p) list (by_test (is_needless log p.asked)) all.1
  where
    by_test : (b : Bool) → AllServed f (cond b log (log ++ p ∷ []))
    by_test true = before
    by_test false = served_append f log (p ∷ []) before (all.0, tt)

pub repeated_is_served : RepeatedIsServed
repeated_is_served globals f list a fit own over all is =
    repeated_served globals fit.formed fit.globals_alone f over list a (fit_each globals list fit.each) own all is

pub kept_is_served_alike : KeptIsServedAlike
kept_is_served_alike globals f list fit over = (
  λ all. (served_all globals fit.formed fit.globals_alone f over [] list tt (fit_each globals list fit.each) all).1,
  λ all. served_kept f [] list tt all,
)

-- the first of a list fails first, or it is served and another one fails first
abbrev FailsHere : Filling → Placed → Code → Place → Type 0
FailsHere f p code at = (IsServed f p.asked → ⊥) × (code ≡ code_of_failure p.asked) × (at ≡ p.at)

fails_cases : (f : Filling) (p : Placed) (list : List Placed) (code : Code) (at : Place)
    → FailsFirst f (p ∷ list) code at → FailsHere f p code at ⊎ (IsServed f p.asked × FailsFirst f list code at)
fails_cases f p list code at ([], q, after, is, all, fails, is_code, is_place) =
    inl (subst (λ x. FailsHere f x code at) (sym (heads p q list after is).0) (fails, is_code, is_place))
fails_cases f p list code at (x ∷ before, q, after, is, all, fails, is_code, is_place) =
    let same = heads p x list (before ++ q ∷ after) is in
    inr (
      subst (λ (y : Placed). IsServed f y.asked) (sym same.0) all.0,
      (before, q, after, same.1, all.1, fails, is_code, is_place),
    )

fails_here : (f : Filling) (p : Placed) (list : List Placed) (code : Code) (at : Place) → FailsHere f p code at
    → FailsFirst f (p ∷ list) code at
fails_here f p list code at (fails, is_code, is_place) = ([], p, list, refl, tt, fails, is_code, is_place)

fails_later : (f : Filling) (p : Placed) (list : List Placed) (code : Code) (at : Place) → IsServed f p.asked
    → FailsFirst f list code at → FailsFirst f (p ∷ list) code at
fails_later f p list code at served (before, q, after, is, all, fails, is_code, is_place) =
    (p ∷ before, q, after, ap (λ l. p ∷ l) is, (served, all), fails, is_code, is_place)

no_failure : (f : Filling) (code : Code) (at : Place) → FailsFirst f [] code at → ⊥
no_failure f code at ([], q, after, is, all, fails, is_code, is_place) = cc
no_failure f code at (x ∷ before, q, after, is, all, fails, is_code, is_place) = cc

-- the first of two lists fails first, or it is served and the second one does
fails_left : (f : Filling) (xs ys : List Placed) (code : Code) (at : Place) → FailsFirst f xs code at
    → FailsFirst f (xs ++ ys) code at
fails_left f xs ys code at (before, q, after, is, all, fails, is_code, is_place) = (
  before,
  q,
  after ++ ys,
  ap (λ l. l ++ ys) is ∙ append_assoc before (q ∷ after) ys,
  all,
  fails,
  is_code,
  is_place,
)

fails_right : (f : Filling) (xs ys : List Placed) (code : Code) (at : Place) → AllServed f xs → FailsFirst f ys code at
    → FailsFirst f (xs ++ ys) code at
fails_right f [] ys code at all fails = fails
fails_right f (x ∷ xs) ys code at all fails =
    fails_later f x (xs ++ ys) code at all.0 (fails_right f xs ys code at all.1 fails)

fails_parts : (f : Filling) (xs ys : List Placed) (code : Code) (at : Place) → FailsFirst f (xs ++ ys) code at
    → FailsFirst f xs code at ⊎ (AllServed f xs × FailsFirst f ys code at)
fails_parts f [] ys code at fails = inr (tt, fails)
fails_parts f (x ∷ xs) ys code at fails =
    elim (fails_cases f x (xs ++ ys) code at fails)
    as (λ _. FailsFirst f (x ∷ xs) code at ⊎ (AllServed f (x ∷ xs) × FailsFirst f ys code at)) [
      | inl here ↦ inl (fails_here f x xs code at here)
      | inr (served, later) ↦
          elim (fails_parts f xs ys code at later)
          as (λ _. FailsFirst f (x ∷ xs) code at ⊎ (AllServed f (x ∷ xs) × FailsFirst f ys code at)) [
            | inl one ↦ inl (fails_later f x xs code at served one)
            | inr (all, two) ↦ inr ((served, all), two)
          ]
    ]

-- the first that fails, in a list and then in what is asked more
module _ (globals : Context) (formed : IsWellFormedContext globals) (alone : AreGlobals globals) (f : Filling)
    (over : IsOverGlobals (length globals) f) (code : Code) (at : Place) where
  abbrev FailsIn : List Placed → List Placed → Type 0
  FailsIn log list = FailsFirst f log code at ⊎ (AllServed f log × FailsFirst f list code at)

  fails_all : (log list : List Placed) → AllFit globals log → AllFit globals list → FailsFirst f (keeping log list) code at
      → FailsIn log list
  fails_all log [] fits each fails = inl fails
  fails_all log (p ∷ list) fits each fails =
      by_test (is_needless log p.asked) refl
      (fails_all (with_one log p) list (fit_one globals log p fits each.0) each.1 fails)
    where
      by_test : (b : Bool) → is_needless log p.asked ≡ b → FailsIn (cond b log (log ++ p ∷ [])) list
          → FailsIn log (p ∷ list)
      by_test true is (inl before) = inl before
      by_test true is (inr (all, later)) =
          inr (all, fails_later f p list code at (needless_served globals formed alone f over log p fits each.0 all is) later)
      by_test false is (inl before) =
          elim (fails_parts f log (p ∷ []) code at before) as (λ _. FailsIn log (p ∷ list)) [
            | inl older ↦ inl older
            | inr (all, last) ↦ inr (all, fails_left f (p ∷ []) list code at last)
          ]
      by_test false is (inr (all, later)) =
          let k = served_parts f log (p ∷ []) all in inr (k.0, fails_later f p list code at k.1.0 later)

  fails_kept : (log list : List Placed) → AllFit globals log → AllFit globals list → FailsIn log list
      → FailsFirst f (keeping log list) code at
  fails_kept log [] fits each (inl before) = before
  fails_kept log [] fits each (inr (all, none)) = absurd (no_failure f code at none)
  fails_kept log (p ∷ list) fits each fails =
      fails_kept (with_one log p) list (fit_one globals log p fits each.0) each.1
      (by_test (is_needless log p.asked) refl fails)
    where
      by_test : (b : Bool) → is_needless log p.asked ≡ b → FailsIn log (p ∷ list)
          → FailsIn (cond b log (log ++ p ∷ [])) list
      by_test true is (inl before) = inl before
      by_test true is (inr (all, fails)) =
          elim (fails_cases f p list code at fails) as (λ _. FailsIn log list) [
            | inl here ↦ absurd (here.0 (needless_served globals formed alone f over log p fits each.0 all is))
            | inr (served, later) ↦ inr (all, later)
          ]
      by_test false is (inl before) = inl (fails_left f log (p ∷ []) code at before)
      by_test false is (inr (all, fails)) =
          elim (fails_cases f p list code at fails) as (λ _. FailsIn (log ++ p ∷ []) list) [
            | inl here ↦ inl (fails_right f log (p ∷ []) code at all (fails_here f p [] code at here))
            | inr (served, later) ↦ inr (served_append f log (p ∷ []) all (served, tt), later)
          ]

pub kept_fails_alike : KeptFailsAlike
kept_fails_alike globals f list code at fit over = (
  λ fails.
      elim (fails_all globals fit.formed fit.globals_alone f over code at [] list tt (fit_each globals list fit.each) fails)
      as (λ _. FailsFirst f list code at) [
        | inl none ↦ absurd (no_failure f code at none)
        | inr (all, later) ↦ later
      ],
  λ fails.
      fails_kept globals fit.formed fit.globals_alone f over code at [] list tt (fit_each globals list fit.each)
      (inr (tt, fails)),
)

pub kept_is_fit : KeptIsFit
kept_is_fit globals list fit =
    record {
      formed = fit.formed;
      globals_alone = fit.globals_alone;
      each = λ asked among. fit.each asked (kept_is_not_settled list asked among).0;
    }
