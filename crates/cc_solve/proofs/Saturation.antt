-- Spreading until nothing grows: it ends, and then each set has what arrives there.
use Rattle.std.proofs.Common.{◌≡◌, ◌↔◌, ◌⊎◌, ℕ, zero, suc, ◌+◌, ◌-◌, ◌*◌, ◌<◌, ◌≤◌, Bool, true, false, cond, List, []}
use Rattle.std.proofs.Common.{◌∷◌, ◌++◌, take, length, refl, sym, ap, ◌∙◌, subst, inl, inr, arith}
use Rattle.std.specs.List.{Contains}
use Rattle.std.proofs.lemmas.Bool.{cases_eq, cases_lt}
use Rattle.cc_capture.specs.declared.var.Elem.{Elem}
use Rattle.cc_capture.specs.declared.var.Elem.TheVariants.{Hole}
use Rattle.cc_capture.specs.Sets.{Set, Member, contains}
use Rattle.cc_capture.proofs.Membership.{Member-empty, Member-list}
use Rattle.cc_sets.proofs.Markings.{listed_last, listed_before, listed_itself}
use Rattle.cc_solve.specs.Adding.{AddsThose}
use Rattle.cc_solve.specs.Solutions.{filling_of}
use Rattle.cc_solve.specs.Spreading.{Arrives, there, onward, lacking, all_lacking, AreAmong, Spreads}
use Rattle.cc_solve.proofs.Additions.{adds_then, adds_as}
use Rattle.cc_solve.proofs.Puttings.{IsListed}

-- one number more at the end
pub contains_last : (xs : List ℕ) (x k : ℕ) → Contains (xs ++ x ∷ []) k → Contains xs k ⊎ (k ≡ x)
contains_last [] x k (zero, below, is) = inr (sym is)
contains_last [] x k (suc i, below, is) = absurd (omega arith)
contains_last (y ∷ xs) x k (zero, below, is) = inl (0, omega arith, is)
contains_last (y ∷ xs) x k (suc i, below, is) =
    elim (contains_last xs x k (i, omega arith, is)) as (λ _. Contains (y ∷ xs) k ⊎ (k ≡ x)) [
      | inl before ↦ inl (suc before.0, omega (arith, before.1), before.2)
      | inr last ↦ inr last
    ]

pub contains_before : (xs : List ℕ) (x k : ℕ) → Contains xs k → Contains (xs ++ x ∷ []) k
contains_before [] x k (i, below, is) = absurd (omega arith)
contains_before (y ∷ xs) x k (zero, below, is) = (0, omega arith, is)
contains_before (y ∷ xs) x k (suc i, below, is) =
    let rest = contains_before xs x k (i, omega arith, is) in (suc rest.0, omega (arith, rest.1), rest.2)

pub contains_itself : (xs : List ℕ) (x : ℕ) → Contains (xs ++ x ∷ []) x
contains_itself [] x = (0, omega arith, refl)
contains_itself (y ∷ xs) x = let rest = contains_itself xs x in (suc rest.0, omega (arith, rest.1), rest.2)

pub contains_none : {X : Type 0} (x : X) → Contains [] x → ⊥
contains_none x (i, below, is) = omega arith

pub length_more : {X : Type 0} (xs : List X) (x : X) → length (xs ++ x ∷ []) ≡ length xs + 1
length_more [] x = refl
length_more (y ∷ xs) x = ap suc (length_more xs x) ∙ omega arith

-- a set that has more lacks less
abbrev IsWithin : Set → Set → Type 0
IsWithin s t = (e : Elem) → Member e s → Member e t

lacks_no_more : (a b : Bool) → (a ≡ true → b ≡ true) → cond b 0 1 ≤ cond a 0 1
lacks_no_more true true h = omega arith
lacks_no_more true false h = let k : false ≡ true = h refl in cc
lacks_no_more false true h = omega arith
lacks_no_more false false h = omega arith

lacks_less : (a b : Bool) → (a ≡ true → ⊥) → b ≡ true → cond b 0 1 < cond a 0 1
lacks_less true b h k = absurd (h refl)
lacks_less false true h k = omega arith
lacks_less false false h k = cc

lacking-more : (u : List Elem) (s t : Set) → IsWithin s t → lacking u t ≤ lacking u s
unfolding lacking
lacking-more [] s t h = omega arith
lacking-more (e ∷ u) s t h =
    let head = lacks_no_more (contains e s) (contains e t) (h e) in
    let rest = lacking-more u s t h in omega (arith, head, rest)

lacking-less : (u : List Elem) (s t : Set) → IsWithin s t → (x : Elem) → Contains u x → (Member x s → ⊥) → Member x t → lacking u t < lacking u s
unfolding lacking
lacking-less [] s t h x among none here = absurd (contains_none x among)
lacking-less (e ∷ u) s t h x (zero, below, is) none here =
    let head = lacks_less (contains e s) (contains e t) (λ m. none (subst (λ y. Member y s) is m)) (subst (λ y. Member y t) (sym is) here) in
    let rest = lacking-more u s t h in omega (arith, head, rest)
lacking-less (e ∷ u) s t h x (suc i, below, is) none here =
    let head = lacks_no_more (contains e s) (contains e t) (h e) in
    let rest = lacking-less u s t h x (i, omega arith, is) none here in omega (arith, head, rest)

all_lacking-kept : (u : List Elem) (old new : List Set) → length new ≡ length old → ((at : ℕ) → IsWithin (filling_of old at) (filling_of new at))
    → all_lacking u new ≤ all_lacking u old
unfolding all_lacking
all_lacking-kept u [] [] same h = omega arith
all_lacking-kept u [] (t ∷ new) same h = absurd (omega arith)
all_lacking-kept u (s ∷ old) [] same h = absurd (omega arith)
all_lacking-kept u (s ∷ old) (t ∷ new) same h =
    let head = lacking-more u s t (h 0) in
    let rest = all_lacking-kept u old new (omega arith) (λ at. h (suc at)) in omega (arith, head, rest)

all_lacking-less : (u : List Elem) (old new : List Set) → length new ≡ length old → ((at : ℕ) → IsWithin (filling_of old at) (filling_of new at))
    → (at : ℕ) → at < length old → (x : Elem) → Contains u x → (Member x (filling_of old at) → ⊥) → Member x (filling_of new at)
    → all_lacking u new < all_lacking u old
unfolding all_lacking
all_lacking-less u [] new same h at below x among none here = absurd (omega arith)
all_lacking-less u (s ∷ old) [] same h at below x among none here = absurd (omega arith)
all_lacking-less u (s ∷ old) (t ∷ new) same h zero below x among none here =
    let head = lacking-less u s t (h 0) x among none here in
    let rest = all_lacking-kept u old new (omega arith) (λ at. h (suc at)) in omega (arith, head, rest)
all_lacking-less u (s ∷ old) (t ∷ new) same h (suc at) below x among none here =
    let head = lacking-more u s t (h 0) in
    let rest = all_lacking-less u old new (omega arith) (λ k. h (suc k)) at (omega arith) x among none here in omega (arith, head, rest)

-- one set flows into another that grew
hole_same : (h k : ℕ) → Hole h ≡ Hole k → h ≡ k
hole_same h k same = cc

pub spreads_grown : (from to : ℕ) (old new : List Set) (before after : List ℕ) → from < length old → to < length old
    → AddsThose (λ at e. (at ≡ to) × Member e (filling_of old from)) old new
    → (e : Elem) × Member e (filling_of old from) × (Member e (filling_of old to) → ⊥) → after ≡ before ++ to ∷ []
    → Spreads from (λ e. e ≡ Hole to) old new before after
spreads_grown from to old new before after f t added (x, m, none) queued = record {
  adds =
      adds_as _ (λ at e. (Hole at ≡ Hole to) × Member e (filling_of old from)) old new (λ at e fact. (ap Hole fact.0, fact.1))
      (λ at e fact. (hole_same at to fact.0, fact.1)) added;
  queue_kept = λ at h. subst (λ q. Contains q at) (sym queued) (contains_before before to at h);
  queue_within = λ at h.
      elim (contains_last before to at (subst (λ q. Contains q at) queued h)) as (λ _. Contains before at ⊎ (at < length new)) [
        | inl was ↦ inl was
        | inr is ↦ inr (omega (arith, is, t, added.room))
      ];
  grown = λ at.
      elim (cases at) as (λ _. Contains after at ⊎ ((e : Elem) → Member e (filling_of new at) → Member e (filling_of old at))) [
        | inl is ↦ inl (subst (λ q. Contains q at) (sym queued) (subst (Contains (before ++ to ∷ [])) (sym is) (contains_itself before to)))
        | inr apart ↦
            inr
            (λ e h.
            elim (added.only at e h) as (λ _. Member e (filling_of old at)) [
              | inl was ↦ was
              | inr fact ↦ absurd (apart fact.0)
            ])
      ];
  less = λ elements among.
      let fewer = all_lacking-less elements old new added.room (λ at e h. added.kept at e h) to t x (among from x m) none (added.all to x (refl, m)) in
      let long = ap length queued ∙ length_more before to in omega (arith, fewer, long);
}
  where
    cases : (at : ℕ) → (at ≡ to) ⊎ (at ≡ to → ⊥)
    cases at = cases_eq at to

-- one step, and then another
pub spreads_then : (from : ℕ) (A B C : Elem → Type 0) (old middle new : List Set) (before between after : List ℕ)
    → ((e : Elem) → C e → A e ⊎ B e) → ((e : Elem) → A e → C e) → ((e : Elem) → B e → C e)
    → Spreads from A old middle before between → Spreads from B middle new between after → Spreads from C old new before after
spreads_then from A B C old middle new before between after split left right one two = record {
  adds =
      adds_then (λ at e. A (Hole at) × Member e (filling_of old from)) (λ at e. B (Hole at) × Member e (filling_of old from)) (λ at e. C (Hole at) × Member e (filling_of old from))
      old middle new
      (λ at e fact.
      elim (split (Hole at) fact.0) as (λ _. (A (Hole at) × Member e (filling_of old from)) ⊎ (B (Hole at) × Member e (filling_of old from))) [
        | inl a ↦ inl (a, fact.1)
        | inr b ↦ inr (b, fact.1)
      ])
      (λ at e fact. (left (Hole at) fact.0, fact.1)) (λ at e fact. (right (Hole at) fact.0, fact.1)) one.adds
      (adds_as _ (λ at e. B (Hole at) × Member e (filling_of old from)) middle new (λ at e fact. (fact.0, same_from e fact.1))
      (λ at e fact. (fact.0, one.adds.kept from e fact.1)) two.adds);
  queue_kept = λ at h. two.queue_kept at (one.queue_kept at h);
  queue_within = λ at h.
      elim (two.queue_within at h) as (λ _. Contains before at ⊎ (at < length new)) [
        | inl was ↦
            elim (one.queue_within at was) as (λ _. Contains before at ⊎ (at < length new)) [
              | inl first ↦ inl first
              | inr below ↦ inr (omega (arith, below, two.adds.room))
            ]
        | inr below ↦ inr below
      ];
  grown = λ at.
      elim (two.grown at) as (λ _. Contains after at ⊎ ((e : Elem) → Member e (filling_of new at) → Member e (filling_of old at))) [
        | inl queued ↦ inl queued
        | inr second ↦
            elim (one.grown at) as (λ _. Contains after at ⊎ ((e : Elem) → Member e (filling_of new at) → Member e (filling_of old at))) [
              | inl queued ↦ inl (two.queue_kept at queued)
              | inr first ↦ inr (λ e m. first e (second e m))
            ]
      ];
  less = λ elements among.
      let first = one.less elements among in
      let second = two.less elements (still elements among) in omega (arith, first, second);
}
  where
    same_from : (e : Elem) → Member e (filling_of middle from) → Member e (filling_of old from)
    same_from e m =
        elim (one.adds.only from e m) as (λ _. Member e (filling_of old from)) [ inl was ↦ was | inr fact ↦ fact.1 ]

    still : (elements : List Elem) → AreAmong elements old → AreAmong elements middle
    still elements among at e m =
        elim (one.adds.only at e m) as (λ _. Contains elements e) [ inl was ↦ among at e was | inr fact ↦ among from e fact.1 ]

pub spreads_more : (from : ℕ) (xs : List Elem) (x : Elem) (old middle new : List Set) (before between after : List ℕ)
    → Spreads from (IsListed xs) old middle before between → Spreads from (λ e. e ≡ x) middle new between after
    → Spreads from (IsListed (xs ++ x ∷ [])) old new before after
spreads_more from xs x old middle new before between after =
    spreads_then from (IsListed xs) (λ e. e ≡ x) (IsListed (xs ++ x ∷ [])) old middle new before between after
    (λ e fact. listed_last e x xs fact) (λ e fact. listed_before e x xs fact)
    (λ e fact. subst (λ y. IsListed (xs ++ x ∷ []) y) (sym fact) (listed_itself x xs))

-- What stands between two turns: the sets have nothing but what arrives; and each that is not queued is in those that
-- it flows into.
pub record Saturates (flows : ℕ → Set) (start sets : List Set) (queue : List ℕ) : Type 0 where
  pub room : length sets ≡ length start
  pub sound : (at : ℕ) (e : Elem) → Member e (filling_of sets at) → Arrives flows (filling_of start) at e
  pub kept : (at : ℕ) (e : Elem) → Member e (filling_of start at) → Member e (filling_of sets at)
  pub closed : (from at : ℕ) → Member (Hole at) (flows from)
      → Contains queue from ⊎ ((e : Elem) → Member e (filling_of sets from) → Member e (filling_of sets at))
  pub queued : (at : ℕ) → Contains queue at → at < length sets
  pub among : (elements : List Elem) → AreAmong elements start → AreAmong elements sets

pub saturates_first : (flows : ℕ → Set) (start : List Set) (queue : List ℕ) → ((k : ℕ) → k < length start → Contains queue k)
    → ((k : ℕ) → Contains queue k → k < length start) → ((from at : ℕ) → Member (Hole at) (flows from) → from < length start) → Saturates flows start start queue
saturates_first flows start queue all only within = record {
  room = refl;
  sound = λ at e m. there m;
  kept = λ at e m. m;
  closed = λ from at m. inl (all from (within from at m));
  queued = only;
  among = λ elements h. h;
}

pub saturates_more : (flows : ℕ → Set) (start sets new : List Set) (queue rest after : List ℕ) (from : ℕ) (flow : Set)
    → Saturates flows start sets queue → queue ≡ rest ++ from ∷ [] → flow ≡ flows from → Spreads from (λ e. Member e flow) sets new rest after
    → Saturates flows start new after
saturates_more flows start sets new queue rest after from flow old popped is step = record {
  room = step.adds.room ∙ old.room;
  sound = λ at e m.
      elim (step.adds.only at e m) as (λ _. Arrives flows (filling_of start) at e) [
        | inl was ↦ old.sound at e was
        | inr fact ↦ onward (subst (Member (Hole at)) is fact.0) (old.sound from e fact.1)
      ];
  kept = λ at e m. step.adds.kept at e (old.kept at e m);
  closed = λ one at m.
      elim (old.closed one at m) as (λ _. Contains after one ⊎ ((e : Elem) → Member e (filling_of new one) → Member e (filling_of new at))) [
        | inl waits ↦
            elim (contains_last rest from one (subst (λ q. Contains q one) popped waits)) as (λ _. Contains after one ⊎ ((e : Elem) → Member e (filling_of new one) → Member e (filling_of new at))) [
              | inl still ↦ inl (step.queue_kept one still)
              | inr turn ↦ done one at m turn
            ]
        | inr inside ↦
            elim (step.grown one) as (λ _. Contains after one ⊎ ((e : Elem) → Member e (filling_of new one) → Member e (filling_of new at))) [
              | inl waits ↦ inl waits
              | inr same ↦ inr (λ e h. step.adds.kept at e (inside e (same e h)))
            ]
      ];
  queued = λ at h.
      elim (step.queue_within at h) as (λ _. at < length new) [
        | inl was ↦
            let below = old.queued at (subst (λ q. Contains q at) (sym popped) (contains_before rest from at was)) in
            omega (arith, below, step.adds.room)
        | inr below ↦ below
      ];
  among = λ elements h at e m.
      elim (step.adds.only at e m) as (λ _. Contains elements e) [
        | inl was ↦ old.among elements h at e was
        | inr fact ↦ old.among elements h from e fact.1
      ];
}
  where
    done : (one at : ℕ) → Member (Hole at) (flows one) → one ≡ from
        → Contains after one ⊎ ((e : Elem) → Member e (filling_of new one) → Member e (filling_of new at))
    done one at m turn =
        elim (step.grown one) as (λ _. Contains after one ⊎ ((e : Elem) → Member e (filling_of new one) → Member e (filling_of new at))) [
          | inl waits ↦ inl waits
          | inr same ↦
              inr
              (λ e h.
              step.adds.all at e
              (subst (Member (Hole at)) (ap flows turn ∙ sym is) m, subst (λ k. Member e (filling_of sets k)) turn (same e h)))
        ]

arrived : {flows : ℕ → Set} {start : List Set} {at : ℕ} {e : Elem} → Arrives flows (filling_of start) at e → (sets : List Set) → Saturates flows start sets []
    → Member e (filling_of sets at)
arrived (there {at = at} {e = e} m) sets done = done.kept at e m
arrived (onward {from = from} {at = at} {e = e} m k) sets done =
    elim (done.closed from at m) as (λ _. Member e (filling_of sets at)) [
      | inl waits ↦ absurd (contains_none from waits)
      | inr inside ↦ inside e (arrived k sets done)
    ]

pub saturates_last : (flows : ℕ → Set) (start sets : List Set) (queue : List ℕ) → Saturates flows start sets queue → queue ≡ []
    → (at : ℕ) (e : Elem) → Member e (filling_of sets at) ↔ Arrives flows (filling_of start) at e
saturates_last flows start sets queue old none at e = (old.sound at e, λ k. arrived k sets (subst (Saturates flows start sets) none old))

contains_right : {X : Type 0} (xs ys : List X) (x : X) → Contains ys x → Contains (xs ++ ys) x
contains_right [] ys x c = c
contains_right (y ∷ xs) ys x c = let rest = contains_right xs ys x c in (suc rest.0, omega (arith, rest.1), rest.2)

contains_left : {X : Type 0} (xs ys : List X) (x : X) → Contains xs x → Contains (xs ++ ys) x
contains_left [] ys x c = absurd (contains_none x c)
contains_left (y ∷ xs) ys x (zero, below, is) = (0, omega arith, is)
contains_left (y ∷ xs) ys x (suc i, below, is) =
    let rest = contains_left xs ys x (i, omega arith, is) in (suc rest.0, omega (arith, rest.1), rest.2)

-- the elements of all sets
pub all_elements : List Set → List Elem
all_elements [] = []
all_elements (s ∷ sets) = s.list ++ all_elements sets

-- each member of the sets is one of them
pub among_all : (sets : List Set) → AreAmong (all_elements sets) sets
unfolding all_elements
among_all [] at e m = absurd (Member-empty e m)
among_all (s ∷ sets) zero e m = contains_left s.list (all_elements sets) e ((Member-list e s).0 m)
among_all (s ∷ sets) (suc at) e m = contains_right s.list (all_elements sets) e (among_all sets at e m)

-- numbers below a number, and that number
pub numbers_all : (xs new : List ℕ) (n : ℕ) → new ≡ xs ++ n ∷ [] → ((k : ℕ) → k < n → Contains xs k) → (k : ℕ) → k < n + 1 → Contains new k
numbers_all xs new n is all k below =
    subst (λ l. Contains l k) (sym is)
    (elim (cases_lt k n) as (λ _. Contains (xs ++ n ∷ []) k) [
      | inl less ↦ contains_before xs n k (all k less)
      | inr from ↦ let same : n ≡ k = omega (arith, below, from) in subst (Contains (xs ++ n ∷ [])) same (contains_itself xs n)
    ])

pub numbers_only : (xs new : List ℕ) (n : ℕ) → new ≡ xs ++ n ∷ [] → ((k : ℕ) → Contains xs k → k < n) → (k : ℕ) → Contains new k → k < n + 1
numbers_only xs new n is only k c =
    elim (contains_last xs n k (subst (λ l. Contains l k) is c)) as (λ _. k < n + 1) [
      | inl before ↦ let less = only k before in omega (arith, less)
      | inr last ↦ omega (arith, last)
    ]

-- of an element that is known to be a hole
pub spreads_named : (from : ℕ) (x : Elem) (to : ℕ) (old new : List Set) (before after : List ℕ) → x ≡ Hole to → Spreads from (λ e. e ≡ Hole to) old new before after
    → Spreads from (λ e. e ≡ x) old new before after
spreads_named from x to old new before after is one = subst (λ y. Spreads from (λ e. e ≡ y) old new before after) (sym is) one

-- a turn makes the measure less
pub turn_less : (from : ℕ) (Fact : Elem → Type 0) (flows : ℕ → Set) (start sets new : List Set) (queue rest after : List ℕ) → Saturates flows start sets queue
    → queue ≡ rest ++ from ∷ [] → Spreads from Fact sets new rest after
    → 2 * all_lacking (all_elements start) new + length after < 2 * all_lacking (all_elements start) sets + length queue
turn_less from Fact flows start sets new queue rest after old popped step =
    let less = step.less (all_elements start) (old.among (all_elements start) (among_all start)) in
    let long = ap length popped ∙ length_more rest from in omega (arith, less, long)

pub turn_within : (flows : ℕ → Set) (start sets : List Set) (queue rest : List ℕ) (from : ℕ) → Saturates flows start sets queue → queue ≡ rest ++ from ∷ []
    → from < length sets
turn_within flows start sets queue rest from old popped =
    old.queued from (subst (λ q. Contains q from) (sym popped) (contains_itself rest from))

-- where nothing is taken from a list, it is empty
pub popped_none : (queue rest : List ℕ) (n : ℕ) → n ≡ 0 → rest ≡ take (n - 1) queue → queue ≡ rest ++ [] → queue ≡ []
popped_none queue rest n none left all =
    let first : n - 1 ≡ 0 = omega (arith, none) in
    all ∙ ap (λ l. l ++ []) (left ∙ ap (λ k. take k queue) first)
