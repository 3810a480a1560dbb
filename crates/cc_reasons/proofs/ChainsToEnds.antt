-- From each element that is not below a set, declared sets lead on to an end.
use Rattle.std.proofs.Common.{◌≡◌, inl, inr, ℕ, nat_lt, Bool, true, false, cond, List, [], ◌∷◌, ◌++◌, Option, Some, None, IsTrue, refl, sym, subst, arith}
use Rattle.std.specs.List.{Contains}
use Rattle.std.specs.Prelude.{codes}
use Rattle.std.proofs.lemmas.Bool.{or_left, or_right}
use Rattle.cc_capture.specs.declared.var.Var.TheVariants.{Bound, Free}
use Rattle.cc_capture.specs.declared.var.Elem.{Elem}
use Rattle.cc_capture.specs.declared.var.Elem.TheVariants.{Var as Variable, Cap, Hole}
use Rattle.cc_capture.specs.Elements.{same_element}
use Rattle.cc_capture.specs.ElementOrder.{same_element-itself}
use Rattle.cc_capture.specs.Rising.{is_listed}
use Rattle.cc_capture.specs.Sets.{Set, Member, contains}
use Rattle.cc_capture.proofs.Membership.{is_listed-cases}
use Rattle.cc_core.specs.Shapes.{Shape}
use Rattle.cc_core.specs.Contexts.{Bind, TermEntry, TypeEntry, Context, lookup}
use Rattle.cc_core.specs.Substitution.{single}
use Rattle.cc_core.specs.Subcapturing.{Subcaptures, SubcapturesSet, variable}
use Rattle.cc_core.specs.WellFormed.{TermKind, kinds_of}
use Rattle.cc_core.proofs.KindFacts.{IsKindedElement}
use Rattle.cc_core.proofs.KindRespecting.{single_kinded}
use Rattle.cc_core.proofs.Lookups.{lookup-older, lookup-cases}
use Rattle.cc_core.proofs.Moving.{Member-single, Member-single_itself}
use Rattle.cc_core.proofs.SubcapturingContexts.{IsKindedEntry, IsKindedContext, entry_of_term, entry_kinded}
use Rattle.cc_checking_laws.proofs.Decisions.{Decided}
use Rattle.cc_checking_laws.proofs.ServedDemands.{subcapturing_decided}
use Rattle.cc_explain.specs.Chains.{LeadsAlong}
use Rattle.cc_mnf.specs.Scopes.{Name}
use Rattle.cc_reasons.specs.ReasonTexts.{element_there, AreBeyond, none, is_below, is_beyond, is_end, declared_members, members_behind, LeadsOn, spaced, AreChainLines, no_more, at_end, leading}
use Rattle.cc_reasons.proofs.ShortestChains.{first_shortest_exists}

pub listed_first : (e : Elem) (list : List Elem) → is_listed e (e ∷ list) ≡ true
listed_first e list = or_left (same_element e e) (is_listed e list) (same_element-itself e)

pub listed_later : (e x : Elem) (list : List Elem) → is_listed e list ≡ true → is_listed e (x ∷ list) ≡ true
listed_later e x list is = or_right (same_element e x) (is_listed e list) is

-- a member of a set is one of its list
pub member_listed : (e : Elem) (set : Set) → Member e set → is_listed e set.list ≡ true
unfolding contains
member_listed e set is = is

pub listed_member : (e : Elem) (set : Set) → is_listed e set.list ≡ true → Member e set
unfolding contains
listed_member e set is = is

-- whether an element is below a set is decided
below_decided : (g : Context) (right : Set) → IsKindedContext g → (e : Elem) → IsKindedElement (kinds_of g) [] e → Decided (Subcaptures g e right)
below_decided g right formed e kinded = by (subcapturing_decided g formed (single e) right (single_kinded (kinds_of g) [] e kinded))
  where
    by : Decided (SubcapturesSet g (single e) right) → Decided (Subcaptures g e right)
    by (inl all) = inl (all e (Member-single_itself e))
    by (inr not) = inr (λ below. not (λ x here. subst (λ (y : Elem). Subcaptures g y right) (sym (Member-single x e here)) below))

beyond_exists : (g : Context) (right : Set) (list : List Elem) → ((e : Elem) → is_listed e list ≡ true → Decided (Subcaptures g e right))
    → (told : List Elem) × AreBeyond g right list told
beyond_exists g right [] decided = ([], none)
beyond_exists g right (e ∷ list) decided = by (decided e (listed_first e list)) (beyond_exists g right list (λ x here. decided x (listed_later x e list here)))
  where
    by : Decided (Subcaptures g e right) → (told : List Elem) × AreBeyond g right list told → (told : List Elem) × AreBeyond g right (e ∷ list) told
    by (inl below) (told, are) = (told, is_below below are)
    by (inr not) (told, are) = (e ∷ told, is_beyond not are)

-- what is told is listed, and is not below
pub told_listed : {g : Context} {right : Set} {list told : List Elem} → AreBeyond g right list told → (e : Elem) → is_listed e told ≡ true
    → (is_listed e list ≡ true) × (Subcaptures g e right → ⊥)
told_listed none e here = cc
told_listed (is_below {e = x} {rest = rest} below are) e here = let it = told_listed are e here in (listed_later e x rest it.0, it.1)
told_listed {g = g} {right = right} (is_beyond {e = x} {rest = rest} {told = told} not are) e here =
    elim (is_listed-cases e x told here) [
      | inl same ↦
          (subst (λ (y : Elem). is_listed e (y ∷ rest) ≡ true) same (listed_first e rest), subst (λ (y : Elem). Subcaptures g y right → ⊥) (sym same) not)
      | inr later ↦ let it = told_listed are e later in (listed_later e x rest it.0, it.1)
    ]

-- where nothing is told, all is below
none_told : {g : Context} {right : Set} {list told : List Elem} → AreBeyond g right list told → told ≡ [] → (e : Elem) → is_listed e list ≡ true → Subcaptures g e right
none_told none is e here = cc
none_told {g = g} {right = right} (is_below {e = x} {rest = rest} below are) is e here =
    elim (is_listed-cases e x rest here) [
      | inl same ↦ subst (λ (y : Elem). Subcaptures g y right) (sym same) below
      | inr later ↦ none_told are is e later
    ]
none_told (is_beyond not are) is e here = cc

-- no declared set of the context has a hole
abbrev pub HasNoHoles : Context → Type 0
HasNoHoles g = (p : ℕ) (s : Shape) (d : Set) → lookup g p ≡ Some (TermEntry s d) → (n : ℕ) → Member (Hole n) d → ⊥

-- an element that names a variable of terms of the context, or is the universal capability
abbrev pub Stands : Context → Elem → Type 0
Stands g e = IsKindedElement (kinds_of g) [] e × ((n : ℕ) → e ≡ Hole n → ⊥)

-- what is looked up, or what is not there, leads on to what is decided
entry_exists : (devices : ℕ) (g : Context) (right : Set) → IsKindedContext g → (e : Elem) → (told : List Elem) × AreBeyond g right (members_behind devices g e) told
entry_exists devices g right formed (Variable (Free p)) = by (nat_lt p devices) (lookup g p) refl
  where
    by : (b : Bool) (o : Option Bind) → lookup g p ≡ o → (told : List Elem) × AreBeyond g right (cond b [] (declared_members o)) told
    by true o is = ([], none)
    by false (Some (TermEntry s d)) is =
        beyond_exists g right d.list
        (λ e here. below_decided g right formed e ((entry_kinded g p (TermEntry s d) formed is).1 e (listed_member e d here)))
    by false (Some (TypeEntry bound)) is = ([], none)
    by false None is = ([], none)
entry_exists devices g right formed (Variable (Bound i)) = ([], none)
entry_exists devices g right formed Cap = ([], none)
entry_exists devices g right formed (Hole n) = ([], none)

-- the links of a context
pub links_in : (devices : ℕ) (g : Context) (right : Set) → IsKindedContext g → Elem → List Elem
links_in devices g right formed e = (entry_exists devices g right formed e).0

pub links_lead : (devices : ℕ) (g : Context) (right : Set) (formed : IsKindedContext g) → LeadsOn devices g right (links_in devices g right formed)
unfolding links_in
links_lead devices g right formed e = (entry_exists devices g right formed e).1

module _ (devices : ℕ) (g : Context) (right : Set) (formed : IsKindedContext g) (no_holes : HasNoHoles g) (entry : Elem → List Elem) (leads : LeadsOn devices g right entry) where
  -- links lead on from the element to an end
  record ComesToEnd (from : Elem) : Type 0 where
    to : Elem
    others : List Elem
    ends : IsTrue (is_end devices to)
    along : LeadsAlong entry from others to

  -- where a member of the declared set is not below either
  record GoesOn (p : ℕ) (d : Set) : Type 0 where
    next : Elem
    rest : List Elem
    links : entry (Variable (Free p)) ≡ next ∷ rest
    member : Member next d
    beyond : Subcaptures g next right → ⊥

  goes_on : (p : ℕ) (s : Shape) (d : Set) → nat_lt p devices ≡ false → lookup g p ≡ Some (TermEntry s d) → (Subcaptures g (Variable (Free p)) right → ⊥) → GoesOn p d
  goes_on p s d high there not = by (entry (Variable (Free p))) refl are
    where
      are : AreBeyond g right d.list (entry (Variable (Free p)))
      are =
          subst (λ (o : Option Bind). AreBeyond g right (declared_members o) (entry (Variable (Free p)))) there
          (subst (λ (b : Bool). AreBeyond g right (cond b [] (declared_members (lookup g p))) (entry (Variable (Free p)))) high (leads (Variable (Free p))))

      by : (told : List Elem) → entry (Variable (Free p)) ≡ told → AreBeyond g right d.list told → GoesOn p d
      by [] is beyond = absurd (not (variable there (λ e here. none_told beyond refl e (member_listed e d here))))
      by (next ∷ rest) is beyond =
          let it = told_listed beyond next (listed_first next rest) in
          record { next = next; rest = rest; links = is; member = listed_member next d it.0; beyond = it.1 }

  contains_next : (p : ℕ) (d : Set) (it : GoesOn p d) → Contains (entry (Variable (Free p))) it.next
  contains_next p d it = subst (λ list. Contains list it.next) (sym it.links) (0, omega arith, refl)

  -- one link more
  one_more : (p : ℕ) (d : Set) (it : GoesOn p d) → ComesToEnd it.next → ComesToEnd (Variable (Free p))
  one_more p d it further = record { to = further.to; others = it.next ∷ further.others; ends = further.ends; along = (contains_next p d it, further.along) }

  by_element : (e : Elem) → ((n : ℕ) → e ≡ Hole n → ⊥) → ((i : ℕ) → e ≡ Variable (Bound i) → ⊥) → ((q : ℕ) → e ≡ Variable (Free q) → ComesToEnd (Variable (Free q))) → ComesToEnd e
  by_element (Variable (Free q)) hole bound at = at q refl
  by_element (Variable (Bound i)) hole bound at = absurd (bound i refl)
  by_element Cap hole bound at = record { to = Cap; others = []; ends = refl; along = refl }
  by_element (Hole n) hole bound at = absurd (hole n refl)

  kind_there : (older : Context) (e : Elem) → IsKindedElement (kinds_of older) [] e → (q : ℕ) → e ≡ Variable (Free q) → lookup (kinds_of older) q ≡ Some TermKind
  kind_there older e kinded q is = subst (IsKindedElement (kinds_of older) []) is kinded

  unbound : (older : Context) (e : Elem) → IsKindedElement (kinds_of older) [] e → (i : ℕ) → e ≡ Variable (Bound i) → ⊥
  unbound older e kinded i is = let there = subst (IsKindedElement (kinds_of older) []) is kinded in cc

  variable_ends : (older : Context) → ((p : ℕ) (b : Bind) → lookup older p ≡ Some b → lookup g p ≡ Some b) → IsKindedContext older
      → (p : ℕ) (s : Shape) (d : Set) → lookup older p ≡ Some (TermEntry s d) → (Subcaptures g (Variable (Free p)) right → ⊥) → ComesToEnd (Variable (Free p))
  variable_ends [] more older_formed p s d there not = cc
  variable_ends (b ∷ older) more older_formed p s d there not =
      elim (lookup-cases b older p (TermEntry s d) there) as (λ _. ComesToEnd (Variable (Free p))) [
        | inl newest ↦
            let own : IsKindedEntry (kinds_of older) (TermEntry s d) = subst (IsKindedEntry (kinds_of older)) newest.1 older_formed.0 in
            at_device (nat_lt p devices) refl
            (λ high.
            let it = goes_on p s d high (more p (TermEntry s d) there) not in
            let kinded = own.1 it.next it.member in
            one_more p d it
            (by_element it.next (λ n is. no_holes p s d (more p (TermEntry s d) there) n (subst (λ (x : Elem). Member x d) is it.member)) (unbound older it.next kinded)
            (λ q is.
            let found = entry_of_term older q (kind_there older it.next kinded q is) in
            variable_ends older (λ q' b' e'. more q' b' (lookup-older b older q' b' e')) older_formed.1 q found.0 found.1 found.2
            (λ below. it.beyond (subst (λ (x : Elem). Subcaptures g x right) (sym is) below)))))
        | inr old ↦ variable_ends older (λ q' b' e'. more q' b' (lookup-older b older q' b' e')) older_formed.1 p s d old not
      ]
    where
      at_device : (low : Bool) → nat_lt p devices ≡ low → (nat_lt p devices ≡ false → ComesToEnd (Variable (Free p))) → ComesToEnd (Variable (Free p))
      at_device true is otherwise = record { to = Variable (Free p); others = []; ends = is; along = refl }
      at_device false is otherwise = otherwise is

  -- from what stands in the context and is not below
  ends_from : (e : Elem) → Stands g e → (Subcaptures g e right → ⊥) → ComesToEnd e
  ends_from e (kinded, hole) not =
      by_element e hole (unbound g e kinded)
      (λ q is.
      let found = entry_of_term g q (kind_there g e kinded q is) in
      variable_ends g (λ p b h. h) formed q found.0 found.1 found.2 (λ below. not (subst (λ (x : Elem). Subcaptures g x right) (sym is) below)))

  pub chain_lines_exist : (names : List Name) (list : List Elem) → ((e : Elem) → is_listed e list ≡ true → Stands g e × (Subcaptures g e right → ⊥))
      → (lines : List (List ℕ)) × AreChainLines devices names g entry list lines
  chain_lines_exist names [] each = ([], no_more)
  chain_lines_exist names (e ∷ list) each =
      by (is_end devices e) refl (each e (listed_first e list)) (chain_lines_exist names list (λ x here. each x (listed_later x e list here)))
    where
      by : (b : Bool) → is_end devices e ≡ b → Stands g e × (Subcaptures g e right → ⊥) → (lines : List (List ℕ)) × AreChainLines devices names g entry list lines
          → (lines : List (List ℕ)) × AreChainLines devices names g entry (e ∷ list) lines
      by true is here (lines, are) = (lines, at_end is are)
      by false is (stands, not) (lines, are) =
          let it = ends_from e stands not in
          let (behind, first) = first_shortest_exists entry (is_end devices) e it.to it.others it.ends it.along in
          ((element_there names g e ++ codes ":" ++ spaced names g behind) ∷ lines, leading behind is first are)

-- what is told of a set that is not below another, and the lines of the chains
pub record Chained (devices : ℕ) (names : List Name) (g : Context) (left right : Set) : Type 0 where
  pub captured : List Elem
  pub entry : Elem → List Elem
  pub chains : List (List ℕ)
  pub beyond : AreBeyond g right left.list captured
  pub leads : LeadsOn devices g right entry
  pub are : AreChainLines devices names g entry captured chains

pub chained : (devices : ℕ) (names : List Name) (g : Context) (left right : Set) → IsKindedContext g → HasNoHoles g → ((e : Elem) → Member e left → Stands g e)
    → Chained devices names g left right
chained devices names g left right formed no_holes stands =
    let (captured, beyond) = beyond_exists g right left.list (λ e here. below_decided g right formed e (stands e (listed_member e left here)).0) in
    let (chains, are) = chain_lines_exist devices g right formed no_holes (links_in devices g right formed) (links_lead devices g right formed) names captured
    (λ e here. let it = told_listed beyond e here in (stands e (listed_member e left it.0), it.1)) in
    record {
      captured = captured;
      entry = links_in devices g right formed;
      chains = chains;
      beyond = beyond;
      leads = links_lead devices g right formed;
      are = are;
    }
