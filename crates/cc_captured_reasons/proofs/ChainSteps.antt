-- The first of the shortest chains, one link after the other.
use Rattle.std.proofs.Common.{◌≡◌, ◌⊎◌, inl, inr, ℕ, zero, suc, ◌<◌, ◌≤◌, Bool, true, false, cond, List, [], ◌∷◌, ◌++◌, length, slice_get, Option, Some, None, IsTrue, refl, sym, ap, subst, ◌∙◌, append_assoc, append-nil, arith}
use Rattle.std.specs.List.{Contains}
use Rattle.cc_capture.specs.declared.var.Var.TheVariants.{Bound, Free}
use Rattle.cc_capture.specs.declared.var.Elem.{Elem}
use Rattle.cc_capture.specs.declared.var.Elem.TheVariants.{Var as Variable, Cap, Hole}
use Rattle.cc_capture.specs.Rising.{is_listed}
use Rattle.cc_capture.specs.Sets.{Set}
use Rattle.cc_core.specs.Contexts.{Bind, TermEntry, TypeEntry, Context, lookup}
use Rattle.cc_core.specs.Subcapturing.{Subcaptures}
use Rattle.cc_core.specs.WellFormed.{IsWellFormedContext}
use Rattle.cc_core.proofs.SubcapturingContexts.{IsKindedContext-from}
use Rattle.cc_explain.specs.Chains.{IsChain, LeadsAlong, StandsBefore, LeadsBefore, ComesBefore}
use Rattle.cc_reasons.specs.ReasonTexts.{AreBeyond, none, is_below, is_beyond, is_end, declared_members, LeadsOn}
use Rattle.cc_reasons.specs.ShortestChains.{IsFirstShortestToEnd}
use Rattle.cc_reasons.proofs.ChainsToEnds.{Stands, listed_first, listed_later, listed_member, told_listed, links_in, links_lead}
use Rattle.cc_captured_reasons.specs.Nearness.{HasNoHoleInSets, IsNear, TellsOf, AreTold}
use Rattle.cc_captured_reasons.specs.Tellings.{telling, is_number, found_or_this, first_numbered, members_of}
use Rattle.cc_captured_reasons.proofs.NearEnds.{tells_of, beyond_of, declared_stands, contained_listed, true_or_not}
use Rattle.cc_captured_reasons.proofs.ToldNumbers.{is_number-same, is_number-told, first_stays, told_found}

module _ (entry : Elem → List Elem) (ends : Elem → Bool) where
  -- how near an element is, is one number
  near_is_one : (e : Elem) (n m : ℕ) → IsNear entry ends e n → IsNear entry ends e m → n ≡ m
  near_is_one e n m one other =
      let low = one.least other.others other.to other.ends other.leads in
      let high = other.least one.others one.to one.ends one.leads in
      let one_long = one.counted in
      let other_long = other.counted in
      omega arith

  -- an end alone is its first shortest chain
  pub end_alone : (e : Elem) → IsTrue (ends e) → IsFirstShortestToEnd entry ends e (e ∷ [])
  end_alone e is = record { to = e; ends = is; leads = (refl, refl); shortest = shortest; first = first }
    where
      shortest : (other : List Elem) (end : Elem) → IsTrue (ends end) → IsChain entry e end other → 1 ≤ length other
      shortest [] end at_end along = absurd along
      shortest (x ∷ other) end at_end along = omega arith

      first : (other : List Elem) (end : Elem) → IsTrue (ends end) → IsChain entry e end other → length other ≡ 1 → ComesBefore entry other (e ∷ []) → ⊥
      first [] end at_end along long before = before
      first (x ∷ []) end at_end along long before = before.1
      first (x ∷ y ∷ other) end at_end along long before = absurd (omega arith)

  -- what is at no link is an end
  pub at_end_itself : (e : Elem) → IsNear entry ends e 0 → IsTrue (ends e)
  at_end_itself e near = by near.others near.leads near.counted
    where
      by : (others : List Elem) → LeadsAlong entry e others near.to → length others ≡ 0 → IsTrue (ends e)
      by [] same long = subst (λ (x : Elem). IsTrue (ends x)) (sym same) near.ends
      by (x ∷ others) along long = absurd (omega arith)

  -- what is at more links is none
  pub no_end : (e : Elem) (n : ℕ) → IsNear entry ends e (suc n) → ends e ≡ true → ⊥
  no_end e n near is = let low = near.least [] e is refl in omega arith

  -- behind an element at some links stands one at one link fewer
  record Nearer (from : Elem) (n : ℕ) : Type 0 where
    next : Elem
    linked : Contains (entry from) next
    near : IsNear entry ends next n

  -- what a link leads to is no nearer than that
  one_nearer : (from next : Elem) (n : ℕ) → IsNear entry ends from (suc n) → Contains (entry from) next
      → (others : List Elem) (to : Elem) → IsTrue (ends to) → LeadsAlong entry next others to → length others ≡ n → IsNear entry ends next n
  one_nearer from next n near linked others to at_end along long =
      record {
        to = to;
        others = others;
        ends = at_end;
        leads = along;
        counted = long;
        least = λ other end is leads. let low = near.least (next ∷ other) end is (linked, leads) in omega arith;
      }

  nearer : (from : Elem) (n : ℕ) → IsNear entry ends from (suc n) → Nearer from n
  nearer from n near = by near.others near.leads near.counted
    where
      by : (others : List Elem) → LeadsAlong entry from others near.to → length others ≡ suc n → Nearer from n
      by [] same long = absurd (omega arith)
      by (next ∷ others) (linked, along) long =
          record { next = next; linked = linked; near = one_nearer from next n near linked others near.to near.ends along (omega arith) }

  -- a link more in front of a first shortest chain, where what it leads to stands first among what is so near
  pub one_link_more : (current next : Elem) (rest : List Elem) (n : ℕ) → IsNear entry ends current (suc n) → IsNear entry ends next n
      → (k : ℕ) → slice_get (entry current) k ≡ Some next → Contains (entry current) next
      → ((j : ℕ) (t : Elem) → j < k → slice_get (entry current) j ≡ Some t → IsNear entry ends t n → ⊥)
      → IsFirstShortestToEnd entry ends next (next ∷ rest) → IsFirstShortestToEnd entry ends current (current ∷ next ∷ rest)
  one_link_more current next rest n near near_next k stands linked no_earlier inner =
      record { to = inner.to; ends = inner.ends; leads = (refl, (linked, inner.leads.1)); shortest = shortest; first = first }
    where
      long : length rest ≡ n
      long =
          let low = near_next.least rest inner.to inner.ends inner.leads.1 in
          let high = inner.shortest (next ∷ near_next.others) near_next.to near_next.ends (refl, near_next.leads) in
          let counted = near_next.counted in
          omega arith

      shortest : (other : List Elem) (end : Elem) → IsTrue (ends end) → IsChain entry current end other → length (current ∷ next ∷ rest) ≤ length other
      shortest [] end at_end along = absurd along
      shortest (x ∷ other) end at_end (same, along) =
          let low = near.least other end at_end (subst (λ (y : Elem). LeadsAlong entry y other end) same along) in
          let is = long in
          omega arith

      behind : (x next' : Elem) (more : List Elem) (end : Elem) → x ≡ current → IsTrue (ends end) → Contains (entry x) next' → LeadsAlong entry next' more end
          → length more ≡ n → StandsBefore (entry x) next' next ⊎ ((next' ≡ next) × LeadsBefore entry next' more rest) → ⊥
      behind x next' more end same at_end here along same_long (inl stands') =
          let there : StandsBefore (entry current) next' next = subst (λ (y : Elem). StandsBefore (entry y) next' next) same stands' in
          let under = there.right_is.first k stands in
          let order = there.order in
          no_earlier there.place next' (omega arith) there.left_is.stands
          (one_nearer current next' n near (subst (λ (y : Elem). Contains (entry y) next') same here) more end at_end along same_long)
      behind x next' more end same at_end here along same_long (inr (is, before)) =
          inner.first (next ∷ more) end at_end (refl, subst (λ (y : Elem). LeadsAlong entry y more end) is along) (ap suc (same_long ∙ sym long))
          (refl, subst (λ (y : Elem). LeadsBefore entry y more rest) is before)

      first : (other : List Elem) (end : Elem) → IsTrue (ends end) → IsChain entry current end other → length other ≡ length (current ∷ next ∷ rest)
          → ComesBefore entry other (current ∷ next ∷ rest) → ⊥
      first [] end at_end along same before = before
      first (x ∷ []) end at_end along same before = before.1
      first (x ∷ next' ∷ more) end at_end (here, (linked', along)) same (same', before) =
          behind x next' more end here at_end linked' along (let is = long in omega arith) before

-- the first of elements in order that is so near stands first among what is not below
record FoundAt (tells : Elem → Option ℕ) (n : ℕ) (told : List Elem) (next : Elem) : Type 0 where
  place : ℕ
  stands : slice_get told place ≡ Some next
  number : tells next ≡ Some n
  earlier : (j : ℕ) (t : Elem) → j < place → slice_get told j ≡ Some t → tells t ≡ Some n → ⊥

some_is : {A : Type 0} {left right : A} → Some left ≡ Some right → left ≡ right
some_is e = cc

module _ (devices : ℕ) (g : Context) (right : Set) (tells : Elem → Option ℕ) (n : ℕ) where
  found_at : {list told : List Elem} (next : Elem) → AreBeyond g right list told → ((e : Elem) → is_listed e list ≡ true → TellsOf devices g right e (tells e))
      → first_numbered tells n None list ≡ Some next → FoundAt tells n told next
  found_at next none all is = cc
  found_at next (is_below {e = e} {rest = rest} {told = told} below are) all is =
      by (tells e) refl (all e (listed_first e rest)) is (λ more. found_at next are (λ x here. all x (listed_later x e rest here)) more)
    where
      by : (o : Option ℕ) → tells e ≡ o → TellsOf devices g right e o → first_numbered tells n (found_or_this None (is_number n o) e) rest ≡ Some next
          → (first_numbered tells n None rest ≡ Some next → FoundAt tells n told next) → FoundAt tells n told next
      by None same tell found later = later found
      by (Some m) same tell found later = absurd (tell.0 below)
  found_at next (is_beyond {e = e} {rest = rest} {told = told} beyond are) all is =
      by (is_number n (tells e)) refl is (λ more. found_at next are (λ x here. all x (listed_later x e rest here)) more)
    where
      one_later : (it : FoundAt tells n told next) → is_number n (tells e) ≡ false
          → (j : ℕ) (t : Elem) → j < suc it.place → slice_get (e ∷ told) j ≡ Some t → tells t ≡ Some n → ⊥
      one_later it not zero t low stands number =
          true_or_not (is_number-same n (tells e) (ap tells (some_is stands) ∙ number)) not
      one_later it not (suc j) t low stands number = it.earlier j t (omega arith) stands number

      by : (b : Bool) → is_number n (tells e) ≡ b → first_numbered tells n (found_or_this None b e) rest ≡ Some next
          → (first_numbered tells n None rest ≡ Some next → FoundAt tells n told next) → FoundAt tells n (e ∷ told) next
      by true same found later =
          let here : e ≡ next = some_is (sym (first_stays tells n e rest) ∙ found) in
          record {
            place = 0;
            stands = ap (λ x. Some x) here;
            number = ap tells (sym here) ∙ is_number-told n (tells e) same;
            earlier = λ j t low stands number. omega arith;
          }
      by false same found later =
          let it = later found in
          record { place = suc it.place; stands = it.stands; number = it.number; earlier = one_later it same }

placed_contained : (list : List Elem) (k : ℕ) (e : Elem) → slice_get list k ≡ Some e → Contains list e
placed_contained [] k e is = cc
placed_contained (x ∷ list) zero e is = (0, omega arith, some_is is)
placed_contained (x ∷ list) (suc k) e is = let (j, below, same) = placed_contained list k e is in (suc j, omega arith, same)

-- what is no end leads on to what its declared set has
links_of : (devices : ℕ) (g : Context) (right : Set) (entry : Elem → List Elem) → LeadsOn devices g right entry → (e : Elem) → is_end devices e ≡ false
    → AreBeyond g right (members_of g e) (entry e)
links_of devices g right entry leads (Variable (Free p)) not =
    subst (λ (b : Bool). AreBeyond g right (cond b [] (declared_members (lookup g p))) (entry (Variable (Free p)))) not (leads (Variable (Free p)))
links_of devices g right entry leads (Variable (Bound i)) not = leads (Variable (Bound i))
links_of devices g right entry leads Cap not = leads Cap
links_of devices g right entry leads (Hole n) not = leads (Hole n)

-- what a declared set has stands in the context
members_stand : (g : Context) → IsWellFormedContext g → HasNoHoleInSets g → (e : Elem) → ((q : ℕ) → e ≡ Variable (Free q) → q < length g) → (x : Elem)
    → is_listed x (members_of g e) ≡ true → Stands g x × ((q : ℕ) → x ≡ Variable (Free q) → q < length g)
members_stand g formed closed (Variable (Free p)) low x here = by (lookup g p) refl here
  where
    by : (o : Option Bind) → lookup g p ≡ o → is_listed x (declared_members o) ≡ true → Stands g x × ((q : ℕ) → x ≡ Variable (Free q) → q < length g)
    by (Some (TermEntry s d)) is here =
        let it = declared_stands g formed closed p s d is x (listed_member x d here) in
        (it.0, λ q same. let under = it.1 q same in let top = low p refl in omega arith)
    by (Some (TypeEntry bound)) is here = cc
    by None is here = cc
members_stand g formed closed (Variable (Bound i)) low x here = cc
members_stand g formed closed Cap low x here = cc
members_stand g formed closed (Hole n) low x here = cc

-- an element that stands in the context, at so many links
pub record IsThere (devices : ℕ) (g : Context) (right : Set) (told : List (Option ℕ)) (e : Elem) (n : ℕ) : Type 0 where
  pub number : telling told right e ≡ Some n
  pub stands : Stands g e
  pub within : (q : ℕ) → e ≡ Variable (Free q) → q < length g

module _ (devices : ℕ) (g : Context) (right : Set) (told : List (Option ℕ)) (formed : IsWellFormedContext g) (closed : HasNoHoleInSets g)
    (long : length told ≡ length g) (are : AreTold devices g right told) where
  pub tells_there : (e : Elem) → Stands g e → ((q : ℕ) → e ≡ Variable (Free q) → q < length g) → TellsOf devices g right e (telling told right e)
  tells_there e stands within =
      tells_of devices g right (IsKindedContext-from g formed) told are e stands (λ q is. let low = within q is in omega arith)

  pub near_there : (e : Elem) (n : ℕ) → IsThere devices g right told e n → (entry : Elem → List Elem) → LeadsOn devices g right entry → IsNear entry (is_end devices) e n
  near_there e n there = (beyond_of devices g right (IsKindedContext-from g formed) e (telling told right e) n there.number (tells_there e there.stands there.within)).1

  members_told : (e : Elem) → ((q : ℕ) → e ≡ Variable (Free q) → q < length g) → (x : Elem) → is_listed x (members_of g e) ≡ true
      → TellsOf devices g right x (telling told right x)
  members_told e within x here = let it = members_stand g formed closed e within x here in tells_there x it.0 it.1

  not_end : (e : Elem) (n : ℕ) → IsThere devices g right told e (suc n) → (entry : Elem → List Elem) → LeadsOn devices g right entry → is_end devices e ≡ false
  not_end e n there entry leads = by (is_end devices e) refl
    where
      by : (b : Bool) → is_end devices e ≡ b → b ≡ false
      by true is = absurd (no_end entry (is_end devices) e n (near_there e (suc n) there entry leads) is)
      by false is = refl

  -- what is told of what a link leads to, from how near it is
  number_there : (e next : Elem) (n : ℕ) → ((q : ℕ) → e ≡ Variable (Free q) → q < length g) → (entry : Elem → List Elem) → LeadsOn devices g right entry
      → is_listed next (members_of g e) ≡ true → (Subcaptures g next right → ⊥) → IsNear entry (is_end devices) next n → telling told right next ≡ Some n
  number_there e next n within entry leads here not near = by (telling told right next) (members_told e within next here)
    where
      by : (o : Option ℕ) → TellsOf devices g right next o → o ≡ Some n
      by None below = absurd (not below)
      by (Some m) tell = ap (λ k. Some k) (near_is_one entry (is_end devices) next m n (tell.1 entry leads) near)

  -- where there is a link more, what it leads to is found
  pub next_found : (e : Elem) (n : ℕ) → IsThere devices g right told e (suc n) → (next : Elem) × (first_numbered (telling told right) n None (members_of g e) ≡ Some next)
  next_found e n there =
      let entry = links_in devices g right (IsKindedContext-from g formed) in
      let leads = links_lead devices g right (IsKindedContext-from g formed) in
      let it = nearer entry (is_end devices) e n (near_there e (suc n) there entry leads) in
      let linked = links_of devices g right entry leads e (not_end e n there entry leads) in
      let listed = told_listed linked it.next (contained_listed (entry e) it.next it.linked) in
      told_found (telling told right) n (members_of g e)
      (record { e = it.next; listed = listed.0; told = number_there e it.next n there.within entry leads listed.0 listed.1 it.near })

  -- what is found stands there, one link nearer
  pub next_there : (e next : Elem) (n : ℕ) → IsThere devices g right told e (suc n) → first_numbered (telling told right) n None (members_of g e) ≡ Some next
      → IsThere devices g right told next n
  next_there e next n there is =
      let entry = links_in devices g right (IsKindedContext-from g formed) in
      let leads = links_lead devices g right (IsKindedContext-from g formed) in
      let linked = links_of devices g right entry leads e (not_end e n there entry leads) in
      let it = found_at devices g right (telling told right) n next linked (members_told e there.within) is in
      let listed = told_listed linked next (contained_listed (entry e) next (placed_contained (entry e) it.place next it.stands)) in
      let stands = members_stand g formed closed e there.within next listed.0 in
      record { number = it.number; stands = stands.0; within = stands.1 }

  -- and a chain from there is one from here, with a link more
  pub next_leads : (e next : Elem) (n : ℕ) → IsThere devices g right told e (suc n) → first_numbered (telling told right) n None (members_of g e) ≡ Some next
      → (entry : Elem → List Elem) → LeadsOn devices g right entry → (rest : List Elem) → IsFirstShortestToEnd entry (is_end devices) next (next ∷ rest)
      → IsFirstShortestToEnd entry (is_end devices) e (e ∷ next ∷ rest)
  next_leads e next n there is entry leads rest inner =
      let linked = links_of devices g right entry leads e (not_end e n there entry leads) in
      let it = found_at devices g right (telling told right) n next linked (members_told e there.within) is in
      one_link_more entry (is_end devices) e next rest n (near_there e (suc n) there entry leads) (near_there next n (next_there e next n there is) entry leads) it.place it.stands
      (placed_contained (entry e) it.place next it.stands)
      (λ j t low stands near.
      let listed = told_listed linked t (contained_listed (entry e) t (placed_contained (entry e) j t stands)) in
      it.earlier j t low stands (number_there e t n there.within entry leads listed.0 listed.1 near)) inner

-- What stands between two links: an element at so many links, so that each first shortest chain from it is, behind what was
-- found, one from where it began.
pub record Goes (devices : ℕ) (g : Context) (right : Set) (told : List (Option ℕ)) (from current : Elem) (found : List Elem) (n : ℕ) : Type 0 where
  pub there : IsThere devices g right told current n
  pub rest : (entry : Elem → List Elem) → LeadsOn devices g right entry → (rest : List Elem) → IsFirstShortestToEnd entry (is_end devices) current (current ∷ rest)
      → IsFirstShortestToEnd entry (is_end devices) from (found ++ rest)

pub goes_first : (devices : ℕ) (g : Context) (right : Set) (told : List (Option ℕ)) (from : Elem) (n : ℕ) → IsThere devices g right told from n
    → Goes devices g right told from from (from ∷ []) n
goes_first devices g right told from n there = record { there = there; rest = λ entry leads rest is. is }

pub goes_more : (devices : ℕ) (g : Context) (right : Set) (told : List (Option ℕ)) → IsWellFormedContext g → HasNoHoleInSets g → length told ≡ length g → AreTold devices g right told
    → (from current next : Elem) (found : List Elem) (n : ℕ) → Goes devices g right told from current found (suc n)
    → first_numbered (telling told right) n None (members_of g current) ≡ Some next → Goes devices g right told from next (found ++ next ∷ []) n
goes_more devices g right told formed closed long are from current next found n goes is =
    record {
      there = next_there devices g right told formed closed long are current next n goes.there is;
      rest = λ entry leads rest inner.
          subst (IsFirstShortestToEnd entry (is_end devices) from) (sym (append_assoc found (next ∷ []) rest))
          (goes.rest entry leads (next ∷ rest) (next_leads devices g right told formed closed long are current next n goes.there is entry leads rest inner));
    }

pub goes_last : (devices : ℕ) (g : Context) (right : Set) (told : List (Option ℕ)) → IsWellFormedContext g → HasNoHoleInSets g → length told ≡ length g → AreTold devices g right told
    → (from current : Elem) (found : List Elem) → Goes devices g right told from current found 0
    → (entry : Elem → List Elem) → LeadsOn devices g right entry → IsFirstShortestToEnd entry (is_end devices) from found
goes_last devices g right told formed closed long are from current found goes entry leads =
    subst (IsFirstShortestToEnd entry (is_end devices) from) (append-nil found)
    (goes.rest entry leads []
    (end_alone entry (is_end devices) current
    (at_end_itself entry (is_end devices) current (near_there devices g right told formed closed long are current 0 goes.there entry leads))))
