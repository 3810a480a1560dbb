-- From a target from which chains lead to an end, one of them is the first of the shortest, and no other is.
use Rattle.std.proofs.Common.{◌≡◌, ◌⊎◌, inl, inr, ℕ, zero, suc, ◌<◌, ◌≤◌, Bool, true, false, cond, List, [], ◌∷◌, length, slice_get, Option, Some, None, IsTrue, refl, sym, ap, subst, ◌∙◌, arith}
use Rattle.std.specs.List.{Contains}
use Rattle.std.specs.Option.{is_some}
use Rattle.std.proofs.lemmas.Bool.{cases_Bool, cases_lt}
use Rattle.std.proofs.lemmas.Option.{slice_get-get_or}
use Rattle.cc_explain.specs.Chains.{IsChain, LeadsAlong, IsPlace, StandsBefore, LeadsBefore, ComesBefore}
use Rattle.cc_reasons.specs.ShortestChains.{IsFirstShortestToEnd}

some_is : {A : Type 0} {left right : A} → Some left ≡ Some right → left ≡ right
some_is e = cc

-- what is found behind a target, or else later
abbrev in_order : {T : Type 0} → T → Option (List T) → Option (List T) → Option (List T)
in_order target (Some rest) later = Some (target ∷ rest)
in_order target None later = later

-- what is found, or else later
abbrev sooner : {T : Type 0} → Option (List T) → Option (List T) → Option (List T)
sooner (Some path) later = Some path
sooner None later = later

-- the first target behind which something is found, and that
abbrev first_in : {T : Type 0} → (T → Option (List T)) → List T → Option (List T)
first_in find [] = None
first_in find (target ∷ targets) = in_order target (find target) (first_in find targets)

-- where it is found
record FoundIn {T : Type 0} (find : T → Option (List T)) (targets others : List T) : Type 0 where
  place : ℕ
  next : T
  rest : List T
  stands : slice_get targets place ≡ Some next
  others_are : others ≡ next ∷ rest
  found : find next ≡ Some rest
  before : (at : ℕ) (target : T) → at < place → slice_get targets at ≡ Some target → find target ≡ None

module _ {T : Type 0} (find : T → Option (List T)) where
  one_before : (target : T) (targets : List T) (place : ℕ) → find target ≡ None
      → ((at : ℕ) (other : T) → at < place → slice_get targets at ≡ Some other → find other ≡ None)
      → (at : ℕ) (other : T) → at < suc place → slice_get (target ∷ targets) at ≡ Some other → find other ≡ None
  one_before target targets place is before zero other low stands = subst (λ t. find t ≡ None) (some_is stands) is
  one_before target targets place is before (suc at) other low stands = before at other (omega arith) stands

  found_in : (targets others : List T) → first_in find targets ≡ Some others → FoundIn find targets others
  found_in [] others e = cc
  found_in (target ∷ targets) others e = by (found_in targets others) (find target) refl e
    where
      by : (first_in find targets ≡ Some others → FoundIn find targets others)
          → (o : Option (List T)) → find target ≡ o → in_order target o (first_in find targets) ≡ Some others → FoundIn find (target ∷ targets) others
      by later (Some rest) is same =
          record {
            place = 0;
            next = target;
            rest = rest;
            stands = refl;
            others_are = sym (some_is same);
            found = is;
            before = λ at other low stands. absurd (omega arith);
          }
      by later None is same =
          let it = later same in
          record {
            place = suc it.place;
            next = it.next;
            rest = it.rest;
            stands = it.stands;
            others_are = it.others_are;
            found = it.found;
            before = one_before target targets it.place is it.before;
          }

  none_in : (targets : List T) → first_in find targets ≡ None → (at : ℕ) (target : T) → slice_get targets at ≡ Some target → find target ≡ None
  none_in [] e at target stands = cc
  none_in (first ∷ targets) e at target stands = by (λ none k same. none_in targets none k target same) (find first) refl e
    where
      at_place : ((k : ℕ) → slice_get targets k ≡ Some target → find target ≡ None) → find first ≡ None
          → (k : ℕ) → slice_get (first ∷ targets) k ≡ Some target → find target ≡ None
      at_place later is zero same = subst (λ t. find t ≡ None) (some_is same) is
      at_place later is (suc k) same = later k same

      by : (first_in find targets ≡ None → (k : ℕ) → slice_get targets k ≡ Some target → find target ≡ None)
          → (o : Option (List T)) → find first ≡ o → in_order first o (first_in find targets) ≡ None → find target ≡ None
      by later (Some rest) is same = cc
      by later None is same = at_place (later same) is at stands

place_in : {T : Type 0} (entry : List T) (target : T) → Contains entry target → (at : ℕ) × (slice_get entry at ≡ Some target)
place_in entry target (k, below, is) = (k, slice_get-get_or entry k target below ∙ ap (λ t. Some t) is)

at_in : {T : Type 0} (entry : List T) (target : T) (at : ℕ) → slice_get entry at ≡ Some target → Contains entry target
at_in [] target at is = cc
at_in (first ∷ entry) target zero is = (0, omega arith, some_is is)
at_in (first ∷ entry) target (suc at) is =
    let (k, below, same) = at_in entry target at is in
    (suc k, omega arith, same)

-- the least number of which something holds
least : (holds : ℕ → Bool) (n : ℕ) → IsTrue (holds n) → (k : ℕ) × IsTrue (holds k) × ((other : ℕ) → IsTrue (holds other) → k ≤ other)
least holds zero is = (0, is, λ other it. omega arith)
least holds (suc n) is = by (least (λ m. holds (suc m)) n is) (holds 0) refl
  where
    higher : (k : ℕ) → holds 0 ≡ false → ((other : ℕ) → IsTrue (holds (suc other)) → k ≤ other) → (other : ℕ) → IsTrue (holds other) → suc k ≤ other
    higher k not low zero it = cc
    higher k not low (suc other) it = let below = low other it in omega arith

    by : (k : ℕ) × IsTrue (holds (suc k)) × ((other : ℕ) → IsTrue (holds (suc other)) → k ≤ other)
        → (b : Bool) → holds 0 ≡ b → (k : ℕ) × IsTrue (holds k) × ((other : ℕ) → IsTrue (holds other) → k ≤ other)
    by (k, at, low) true it = (0, it, λ other some. omega arith)
    by (k, at, low) false not = (suc k, at, higher k not low)

module _ {T : Type 0} (entry : T → List T) (is_end : T → Bool) where
  -- the first chain of so many links from a target to an end, behind the target
  unfoldable pub chain_behind : ℕ → T → Option (List T)
  chain_behind zero from = cond (is_end from) (Some []) None
  chain_behind (suc links) from = first_in (chain_behind links) (entry from)

  -- what is behind a target, up to an end
  record LeadsToEnd (from : T) (others : List T) : Type 0 where
    to : T
    ends : IsTrue (is_end to)
    leads : LeadsAlong entry from others to

  found_leads : (links : ℕ) (from : T) (others : List T) → chain_behind links from ≡ Some others → LeadsToEnd from others × (length others ≡ links)
  unfolding chain_behind
  found_leads zero from others e = by (is_end from) refl e
    where
      by : (b : Bool) → is_end from ≡ b → cond b (Some []) None ≡ Some others → LeadsToEnd from others × (length others ≡ 0)
      by true is same =
          subst (λ some. LeadsToEnd from some × (length some ≡ 0)) (some_is same)
          (record { to = from; ends = is; leads = refl }, refl)
      by false is same = cc
  found_leads (suc links) from others e =
      let it = found_in (chain_behind links) (entry from) others e in
      let (behind, long) = found_leads links it.next it.rest it.found in
      subst (λ some. LeadsToEnd from some × (length some ≡ suc links)) (sym it.others_are)
      (record { to = behind.to; ends = behind.ends; leads = (at_in (entry from) it.next it.place it.stands, behind.leads) }, ap suc long)

  all_found : (links : ℕ) (from : T) (others : List T) → LeadsToEnd from others → length others ≡ links → chain_behind links from ≡ None → ⊥
  unfolding chain_behind
  all_found zero from [] it long none =
      let ends : IsTrue (is_end from) = subst (λ t. IsTrue (is_end t)) (sym it.leads) it.ends in
      absurd (nothing (is_end from) ends none)
    where
      nothing : (b : Bool) → IsTrue b → cond {A = Option (List T)} b (Some []) None ≡ None → ⊥
      nothing true is same = cc
      nothing false is same = cc
  all_found zero from (next ∷ others) it long none = absurd (omega arith)
  all_found (suc links) from [] it long none = absurd (omega arith)
  all_found (suc links) from (next ∷ others) it long none =
      let (at, stands) = place_in (entry from) next it.leads.0 in
      all_found links next others (record { to = it.to; ends = it.ends; leads = it.leads.1 }) (omega arith)
      (none_in (chain_behind links) (entry from) none at next stands)

  found_first : (links : ℕ) (from : T) (others : List T) → chain_behind links from ≡ Some others
      → (other : List T) → LeadsToEnd from other → length other ≡ links → LeadsBefore entry from other others → ⊥
  unfolding chain_behind
  found_first zero from others e [] it long before = before
  found_first zero from others e (next ∷ other) it long before = absurd (omega arith)
  found_first (suc links) from others e [] it long before = before
  found_first (suc links) from others e (next ∷ other) it long before =
      let found = found_in (chain_behind links) (entry from) others e in
      by found (found_first links found.next found.rest found.found other)
      (subst (λ some. LeadsBefore entry from (next ∷ other) some) found.others_are before)
    where
      by : (found : FoundIn (chain_behind links) (entry from) others)
          → (LeadsToEnd found.next other → length other ≡ links → LeadsBefore entry found.next other found.rest → ⊥)
          → LeadsBefore entry from (next ∷ other) (found.next ∷ found.rest) → ⊥
      by found later (inl stands) =
          let later = stands.right_is.first found.place found.stands in
          let order = stands.order in
          all_found links next other (record { to = it.to; ends = it.ends; leads = it.leads.1 }) (omega arith)
          (found.before stands.place next (omega arith) stands.left_is.stands)
      by found later (inr (same, more)) =
          later
          (subst (λ t. LeadsToEnd t other) same (record { to = it.to; ends = it.ends; leads = it.leads.1 })) (omega arith)
          (subst (λ t. LeadsBefore entry t other found.rest) same more)

  is_found : (from : T) (others : List T) → LeadsToEnd from others → IsTrue (is_some (chain_behind (length others) from))
  is_found from others it = by (chain_behind (length others) from) refl
    where
      by : (o : Option (List T)) → chain_behind (length others) from ≡ o → IsTrue (is_some o)
      by (Some some) is = refl
      by None is = absurd (all_found (length others) from others it refl is)

  -- what is found with the fewest links is the first of the shortest
  pub found_is_first_shortest : (links : ℕ) (from : T) (path : List T) → chain_behind links from ≡ Some path
      → ((other : ℕ) → IsTrue (is_some (chain_behind other from)) → links ≤ other) → IsFirstShortestToEnd entry is_end from (from ∷ path)
  found_is_first_shortest links from path is low =
      let (it, long) = found_leads links from path is in
      record { to = it.to; ends = it.ends; leads = (refl, it.leads); shortest = shortest long; first = first }
    where
      behind : (next : T) (other : List T) (end : T) → IsTrue (is_end end) → next ≡ from → LeadsAlong entry next other end → LeadsToEnd from other
      behind next other end at_end same along = record { to = end; ends = at_end; leads = subst (λ t. LeadsAlong entry t other end) same along }

      shortest : length path ≡ links → (other : List T) (end : T) → IsTrue (is_end end) → IsChain entry from end other → length (from ∷ path) ≤ length other
      shortest long [] end at_end along = absurd along
      shortest long (next ∷ other) end at_end (same, along) =
          let below = low (length other) (is_found from other (behind next other end at_end same along)) in
          omega arith

      first : (other : List T) (end : T) → IsTrue (is_end end) → IsChain entry from end other → length other ≡ length (from ∷ path)
          → ComesBefore entry other (from ∷ path) → ⊥
      first [] end at_end along same_length before = before
      first (next ∷ other) end at_end (same, along) same_length (is_same, before) =
          let (it, long) = found_leads links from path is in
          found_first links from path is other (behind next other end at_end same along) (omega arith)
          (subst (λ t. LeadsBefore entry t other path) same before)

  pub first_shortest_exists : (from to : T) (others : List T) → IsTrue (is_end to) → LeadsAlong entry from others to
      → (chain : List T) × IsFirstShortestToEnd entry is_end from (from ∷ chain)
  first_shortest_exists from to others ends leads =
      let (links, is, low) = least (λ k. is_some (chain_behind k from)) (length others) (is_found from others (record { to = to; ends = ends; leads = leads })) in
      by links low (chain_behind links from) refl is
    where
      by : (links : ℕ) → ((other : ℕ) → IsTrue (is_some (chain_behind other from)) → links ≤ other)
          → (o : Option (List T)) → chain_behind links from ≡ o → IsTrue (is_some o) → (chain : List T) × IsFirstShortestToEnd entry is_end from (from ∷ chain)
      by links low None is some = cc
      by links low (Some path) is some = (path, found_is_first_shortest links from path is low)

  -- the first chain of so many links or more, where so many numbers of links are tried
  unfoldable pub chain_tried : ℕ → ℕ → T → Option (List T)
  chain_tried zero links from = None
  chain_tried (suc tries) links from = sooner (chain_behind links from) (chain_tried tries (suc links) from)

  some_not_none : (o : Option (List T)) → IsTrue (is_some o) → o ≡ None → ⊥
  some_not_none None some is = cc
  some_not_none (Some found) some is = cc

  none_fewer : (from : T) (links : ℕ) → ((other : ℕ) → IsTrue (is_some (chain_behind other from)) → links ≤ other) → chain_behind links from ≡ None
      → (other : ℕ) → IsTrue (is_some (chain_behind other from)) → suc links ≤ other
  none_fewer from links low none other some =
      elim (cases_lt links other) [
        | inl fewer ↦ omega arith
        | inr more ↦
            let here : links ≤ other = low other some in
            let same : other ≡ links = omega arith in
            absurd (some_not_none (chain_behind other from) some (ap (λ k. chain_behind k from) same ∙ none))
      ]

  tried_is : (tries links : ℕ) (from : T) (path : List T) → ((other : ℕ) → IsTrue (is_some (chain_behind other from)) → links ≤ other)
      → chain_tried tries links from ≡ Some path → IsFirstShortestToEnd entry is_end from (from ∷ path)
  unfolding chain_tried
  tried_is zero links from path low is = cc
  tried_is (suc tries) links from path low is = by (λ more. tried_is tries (suc links) from path more) (chain_behind links from) refl is
    where
      by : (((other : ℕ) → IsTrue (is_some (chain_behind other from)) → suc links ≤ other) → chain_tried tries (suc links) from ≡ Some path
          → IsFirstShortestToEnd entry is_end from (from ∷ path))
          → (o : Option (List T)) → chain_behind links from ≡ o → sooner o (chain_tried tries (suc links) from) ≡ Some path → IsFirstShortestToEnd entry is_end from (from ∷ path)
      by later (Some found) here is = found_is_first_shortest links from path (here ∙ is) low
      by later None here is = later (none_fewer from links low here) is

  -- what is found so is the first of the shortest
  pub tried_is_first_shortest : (tries : ℕ) (from : T) (path : List T) → chain_tried tries 0 from ≡ Some path → IsFirstShortestToEnd entry is_end from (from ∷ path)
  tried_is_first_shortest tries from path is = tried_is tries 0 from path (λ other some. omega arith) is

module _ {T : Type 0} (eq : T → T → Bool) (eq_is : (left right : T) → eq left right ≡ true → left ≡ right)
    (eq_itself : (target : T) → eq target target ≡ true) where
  first_later : (x : T) (xs : List T) (target : T) (place : ℕ) → eq x target ≡ false → IsPlace xs target place
      → (other : ℕ) → slice_get (x ∷ xs) other ≡ Some target → suc place ≤ other
  first_later x xs target place differ is zero h = absurd (contrary (subst (λ t. eq t target ≡ true) (sym (some_is h)) (eq_itself target)))
    where
      contrary : eq x target ≡ true → ⊥
      contrary e = cc
  first_later x xs target place differ is (suc other) h = let low = is.first other h in omega arith

  has_place : (targets : List T) (target : T) (at : ℕ) → slice_get targets at ≡ Some target → (place : ℕ) × IsPlace targets target place
  has_place [] target at is = cc
  has_place (x ∷ xs) target zero is = (0, record { stands = is; first = λ other h. omega arith })
  has_place (x ∷ xs) target (suc at) is =
      elim (cases_Bool (eq x target)) [
        | inl same ↦ (0, record { stands = ap (λ t. Some t) (eq_is x target same); first = λ other h. omega arith })
        | inr differ ↦
            let (place, rest) = has_place xs target at is in
            (suc place, record { stands = rest.stands; first = first_later x xs target place differ rest })
      ]

  compared : (targets : List T) (left right : T) → Contains targets left → Contains targets right
      → (left ≡ right) ⊎ (StandsBefore targets left right ⊎ StandsBefore targets right left)
  compared targets left right l r =
      let (at, at_is) = place_in targets left l in
      let (other, other_is) = place_in targets right r in
      let (p, left_is) = has_place targets left at at_is in
      let (q, right_is) = has_place targets right other other_is in
      elim (cases_lt p q) [
        | inl low ↦ inr (inl (record { place = p; later = q; left_is = left_is; right_is = right_is; order = low }))
        | inr high ↦
            elim (cases_lt q p) [
              | inl low ↦ inr (inr (record { place = q; later = p; left_is = right_is; right_is = left_is; order = low }))
              | inr below ↦
                  let same : p ≡ q = omega arith in
                  inl (some_is (sym left_is.stands ∙ ap (λ k. slice_get targets k) same ∙ right_is.stands))
            ]
      ]

  module _ (entry : T → List T) where
    -- two lists in order, one way or the other, or one list
    abbrev InSomeOrder : T → List T → List T → Type 0
    InSomeOrder from left right = (left ≡ right) ⊎ (LeadsBefore entry from left right ⊎ LeadsBefore entry from right left)

    behind_one : (from next other : T) (left right : List T) → next ≡ other → InSomeOrder next left right → InSomeOrder from (next ∷ left) (other ∷ right)
    behind_one from next other left right same (inl is) = inl (λ i. same i ∷ is i)
    behind_one from next other left right same (inr (inl before)) = inr (inl (inr (same, before)))
    behind_one from next other left right same (inr (inr before)) =
        inr (inr (inr (sym same, subst (λ t. LeadsBefore entry t right left) same before)))

    some_order : (from to end : T) (left right : List T) → LeadsAlong entry from left to → LeadsAlong entry from right end → length left ≡ length right
        → InSomeOrder from left right
    some_order from to end [] [] l r same = inl refl
    some_order from to end [] (other ∷ right) l r same = absurd (omega arith)
    some_order from to end (next ∷ left) [] l r same = absurd (omega arith)
    some_order from to end (next ∷ left) (other ∷ right) l r same =
        elim (compared (entry from) next other l.0 r.0) [
          | inl is ↦
              behind_one from next other left right is
              (some_order next to end left right l.1 (subst (λ t. LeadsAlong entry t right end) (sym is) r.1) (omega arith))
          | inr (inl before) ↦ inr (inl (inl before))
          | inr (inr before) ↦ inr (inr (inl before))
        ]

    pub first_shortest_is_one : (is_end : T → Bool) (from : T) (chain other : List T) → IsFirstShortestToEnd entry is_end from chain
        → IsFirstShortestToEnd entry is_end from other → chain ≡ other
    first_shortest_is_one is_end from [] other p q = absurd p.leads
    first_shortest_is_one is_end from (one ∷ chain) [] p q = absurd q.leads
    first_shortest_is_one is_end from (one ∷ chain) (another ∷ other) p q =
        let low = p.shortest (another ∷ other) q.to q.ends q.leads in
        let high = q.shortest (one ∷ chain) p.to p.ends p.leads in
        let same : length chain ≡ length other = omega arith in
        let (is, leads) = p.leads in
        let (other_is, other_leads) = q.leads in
        let begins : one ≡ another = is ∙ sym other_is in
        elim (some_order one p.to q.to chain other leads (subst (λ t. LeadsAlong entry t other q.to) (sym begins) other_leads) same) [
          | inl equal ↦ (λ i. begins i ∷ equal i)
          | inr (inl before) ↦ absurd (q.first (one ∷ chain) p.to p.ends p.leads (omega arith) (begins, before))
          | inr (inr before) ↦
              absurd (p.first (another ∷ other) q.to q.ends q.leads (omega arith) (sym begins, subst (λ t. LeadsBefore entry t other chain) begins before))
        ]
