-- First shortest chains that are carried over to other targets, as numbers to names: where an entry is carried to the
-- entry of what its target is carried to, and different targets to different ones.
use Rattle.std.proofs.Common.{◌≡◌, ◌⊎◌, ℕ, zero, suc, ◌<◌, ◌≤◌, List, [], ◌∷◌, length, map, slice_get, Some, None, inl, inr, refl, sym, ap, subst, ◌∙◌, arith}
use Rattle.std.specs.List.{Contains}
use Rattle.std.proofs.lemmas.List.{length-map}
use Rattle.std.proofs.lemmas.Option.{slice_get-get_or, slice_get_within, get_or_from_slice_get}
use Rattle.cc_explain.specs.Chains.{LeadsAlong, IsPlace, StandsBefore, LeadsBefore, IsChain, ComesBefore, IsFirstShortest}

some_same : {T : Type 0} (a b : T) → Some a ≡ Some b → a ≡ b
some_same a b h = cc

-- an element of a list that was carried over
record CarriedAt {T U : Type 0} (f : T → U) (xs : List T) (place : ℕ) (y : U) : Type 0 where
  from : T
  stands : slice_get xs place ≡ Some from
  is : f from ≡ y

carried_at : {T U : Type 0} (f : T → U) (xs : List T) (place : ℕ) (y : U) → slice_get (map f xs) place ≡ Some y → CarriedAt f xs place y
carried_at f [] place y h = cc
carried_at f (x ∷ xs) zero y h = record { from = x; stands = refl; is = some_same (f x) y h }
carried_at f (x ∷ xs) (suc place) y h =
    let it = carried_at f xs place y h in record { from = it.from; stands = it.stands; is = it.is }

at_carried : {T U : Type 0} (f : T → U) (xs : List T) (place : ℕ) (x : T) → slice_get xs place ≡ Some x → slice_get (map f xs) place ≡ Some (f x)
at_carried f [] place x h = cc
at_carried f (y ∷ ys) zero x h = ap (λ t. Some (f t)) (some_same y x h)
at_carried f (y ∷ ys) (suc place) x h = at_carried f ys place x h

place_in : {T : Type 0} (xs : List T) (x : T) → Contains xs x → (place : ℕ) × (slice_get xs place ≡ Some x)
place_in xs x (k, below, is) = (k, slice_get-get_or xs k x below ∙ ap (λ t. Some t) is)

in_at : {T : Type 0} (xs : List T) (x : T) (place : ℕ) → slice_get xs place ≡ Some x → Contains xs x
in_at xs x place is = (place, slice_get_within xs place x is, get_or_from_slice_get xs place x x is)

-- Targets of one kind are carried to those of another. Of those that are known, entries lead to known ones.
module _ (T U : Type 0) (f : T → U) (Known : T → Type 0) (entry : T → List T) (other : U → List U)
    (closed : (x y : T) → Known x → Contains (entry x) y → Known y)
    (carried : (x : T) → Known x → other (f x) ≡ map f (entry x))
    (apart : (x y : T) → Known x → Known y → f x ≡ f y → x ≡ y) where
  contains_carried : (x y : T) → Known x → Contains (entry x) y → Contains (other (f x)) (f y)
  contains_carried x y known among =
      let (place, is) = place_in (entry x) y among in
      in_at (other (f x)) (f y) place (ap (λ s. slice_get s place) (carried x known) ∙ at_carried f (entry x) place y is)

  -- a path that leads on from a carried target is carried
  record Lifted (from to : T) (path : List U) : Type 0 where
    lifts : List T
    is : path ≡ map f lifts
    leads : LeadsAlong entry from lifts to

  lifted : (to : T) → Known to → (from : T) → Known from → (path : List U) → LeadsAlong other (f from) path (f to) → Lifted from to path
  lifted to known_to from known [] leads = record { lifts = []; is = refl; leads = apart from to known known_to leads }
  lifted to known_to from known (next ∷ path) leads =
      let (place, is) = place_in (other (f from)) next leads.0 in
      let it = carried_at f (entry from) place next (ap (λ s. slice_get s place) (sym (carried from known)) ∙ is) in
      let among = in_at (entry from) it.from place it.stands in
      let rest = lifted to known_to it.from (closed from it.from known among) path (subst (λ u. LeadsAlong other u path (f to)) (sym it.is) leads.1) in
      record {
        lifts = it.from ∷ rest.lifts;
        is = λ i. sym it.is i ∷ rest.is i;
        leads = (among, rest.leads);
      }

  leads_carried : (to from : T) → Known from → (path : List T) → LeadsAlong entry from path to → LeadsAlong other (f from) (map f path) (f to)
  leads_carried to from known [] leads = ap f leads
  leads_carried to from known (next ∷ path) leads =
      (contains_carried from next known leads.0, leads_carried to next (closed from next known leads.0) path leads.1)

  -- places are those of the entry that was carried
  place_lifted : (from x : T) → Known from → Contains (entry from) x → (place : ℕ) → IsPlace (other (f from)) (f x) place → IsPlace (entry from) x place
  place_lifted from x known among place is =
      let it = carried_at f (entry from) place (f x) (ap (λ s. slice_get s place) (sym (carried from known)) ∙ is.stands) in
      let known_x = closed from x known among in
      let known_it = closed from it.from known (in_at (entry from) it.from place it.stands) in
      let same = apart it.from x known_it known_x it.is in
      record {
        stands = it.stands ∙ ap (λ t. Some t) same;
        first = λ later h. is.first later (ap (λ s. slice_get s later) (carried from known) ∙ at_carried f (entry from) later x h);
      }

  before_lifted : (from x y : T) → Known from → Contains (entry from) x → Contains (entry from) y
      → StandsBefore (other (f from)) (f x) (f y) → StandsBefore (entry from) x y
  before_lifted from x y known among_x among_y is = record {
    place = is.place;
    later = is.later;
    left_is = place_lifted from x known among_x is.place is.left_is;
    right_is = place_lifted from y known among_y is.later is.right_is;
    order = is.order;
  }

  order_lifted : (to from : T) → Known from → (left right : List T) → LeadsAlong entry from left to → LeadsAlong entry from right to
      → LeadsBefore other (f from) (map f left) (map f right) → LeadsBefore entry from left right
  order_lifted to from known [] right l r before = before
  order_lifted to from known (x ∷ left) [] l r before = before
  order_lifted to from known (x ∷ left) (y ∷ right) l r (inl before) = inl (before_lifted from x y known l.0 r.0 before)
  order_lifted to from known (x ∷ left) (y ∷ right) l r (inr (same, before)) =
      let known_x = closed from x known l.0 in
      let is = apart x y known_x (closed from y known r.0) same in
      inr (is, order_lifted to x known_x left right l.1 (subst (λ t. LeadsAlong entry t right to) (sym is) r.1) before)

  -- the first shortest chain is carried to the first shortest one
  module _ (from to : T) (known : Known from) (known_to : Known to) where
    no_shorter : (path : List T) → IsFirstShortest entry from to (from ∷ path) → (chain : List U) → IsChain other (f from) (f to) chain
        → length (map f (from ∷ path)) ≤ length chain
    no_shorter path is [] leads = absurd leads
    no_shorter path is (first ∷ others) (begins, leads) =
        let it = lifted to known_to from known others (subst (λ u. LeadsAlong other u others (f to)) begins leads) in
        let low = is.shortest (from ∷ it.lifts) (refl, it.leads) in
        let long : length others ≡ length it.lifts = ap length it.is ∙ length-map it.lifts f in
        let same : length (map f path) ≡ length path = length-map path f in
        omega arith

    none_before : (path : List T) → IsFirstShortest entry from to (from ∷ path) → (chain : List U) → IsChain other (f from) (f to) chain
        → length chain ≡ length (map f (from ∷ path)) → ComesBefore other chain (map f (from ∷ path)) → ⊥
    none_before path is [] leads long before = leads
    none_before path is (first ∷ others) (begins, leads) long (again, before) =
        let it = lifted to known_to from known others (subst (λ u. LeadsAlong other u others (f to)) begins leads) in
        let counted : length others ≡ length it.lifts = ap length it.is ∙ length-map it.lifts f in
        let same : length (map f path) ≡ length path = length-map path f in
        let moved : LeadsBefore other (f from) (map f it.lifts) (map f path) =
        subst (λ ps. LeadsBefore other (f from) ps (map f path)) it.is (subst (λ u. LeadsBefore other u others (map f path)) begins before) in
        is.first (from ∷ it.lifts) (refl, it.leads) (omega arith) (refl, order_lifted to from known it.lifts path it.leads is.leads.1 moved)

    pub first_carried : (chain : List T) → IsFirstShortest entry from to chain → IsFirstShortest other (f from) (f to) (map f chain)
    first_carried [] is = absurd is.leads
    first_carried (first ∷ path) is =
        let it : IsFirstShortest entry from to (from ∷ path) = subst (λ t. IsFirstShortest entry from to (t ∷ path)) is.leads.0 is in
        subst (λ t. IsFirstShortest other (f from) (f to) (f t ∷ map f path)) (sym is.leads.0)
        (record {
          leads = (refl, leads_carried to from known path it.leads.1);
          shortest = no_shorter path it;
          first = none_before path it;
        })

    -- and where there is no chain there is none
    pub none_carried : ((chain : List T) → IsChain entry from to chain → ⊥) → (chain : List U) → IsChain other (f from) (f to) chain → ⊥
    none_carried none [] leads = leads
    none_carried none (first ∷ others) (begins, leads) =
        let it = lifted to known_to from known others (subst (λ u. LeadsAlong other u others (f to)) begins leads) in
        none (from ∷ it.lifts) (refl, it.leads)
