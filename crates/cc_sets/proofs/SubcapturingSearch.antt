-- The search for whether a set is below another: what stands between two look-ups, and what an answer says.
use Rattle.std.proofs.Common.{◌≡◌, ◌≢◌, ◌⊎◌, ℕ, zero, suc, ◌+◌, ◌<◌, ◌≤◌, nat_eq, Bool, true, false, List, [], ◌∷◌, length, set, Option, Some, None, refl, sym, ap, ◌∙◌, subst, inl, inr, arith}
use Rattle.std.specs.List.{All, AllByRecursion, Contains, IsDistinct}
use Rattle.std.proofs.lemmas.Bool.{cases_eq, cases_lt, cases_Bool, false_from_ne_true, ne_eqb}
use Rattle.std.proofs.lemmas.List.{same_lists, get_or-set_same, get_or-set_other, length-set, get_or_past, get_or_default, length-map}
use Rattle.cc_capture.specs.declared.var.Var.TheVariants.{Bound, Free}
use Rattle.cc_capture.specs.declared.var.Elem.{Elem}
use Rattle.cc_capture.specs.declared.var.Elem.TheVariants.{Var as Variable, Cap, Hole}
use Rattle.cc_capture.specs.Sets.{Set, Member, contains, is_subset}
use Rattle.cc_capture.proofs.Membership.{is_subset-Member}
use Rattle.cc_core.specs.Shapes.{Shape}
use Rattle.cc_core.specs.Contexts.{Bind, TermEntry, TypeEntry, Context, lookup}
use Rattle.cc_core.specs.Subcapturing.{Subcaptures, element, variable, SubcapturesSet}
use Rattle.cc_core.specs.WellFormed.{TermKind, kind_of, kinds_of, IsWellFormedSet, IsWellFormedContext}
use Rattle.cc_core.proofs.KindFacts.{IsKindedSet-from}
use Rattle.cc_core.proofs.Lookups.{lookup-cases, lookup-below}
use Rattle.cc_core.proofs.SubcapturingContexts.{IsKindedContext, IsKindedEntry, IsKindedContext-from}
use Rattle.cc_core.proofs.SubcapturingLemmas.{subcaptures_variable, subcaptures_other, subcaptures_subset}
use Rattle.cc_sets.specs.Marked.{is_marked, IsClear, IsLastMarked}
use Rattle.cc_sets.specs.Marking.{IsPosition, HasRoom, HasRoomFor, HasRoomForEntry, MarksThose, MarksEntry}
use Rattle.cc_sets.specs.Reaching.{IsMissing, IsReached, first, further, LooksUp}

-- the position is one of the list
abbrev pub IsIn : ℕ → List ℕ → Type 0
IsIn position [] = ⊥
IsIn position (other ∷ others) = (position ≡ other) ⊎ IsIn position others

all_from : (P : ℕ → Type 0) (xs : List ℕ) → ((q : ℕ) → IsIn q xs → P q) → All P xs
all_from P [] each k d below = absurd (omega arith)
all_from P (x ∷ xs) each zero d below = each x (inl refl)
all_from P (x ∷ xs) each (suc k) d below = all_from P xs (λ q here. each q (inr here)) k d (omega arith)

contains_from : (q : ℕ) (xs : List ℕ) → IsIn q xs → Contains xs q
contains_from q [] here = absurd here
contains_from q (x ∷ xs) (inl same) = (0, omega arith, sym same)
contains_from q (x ∷ xs) (inr here) = let rest = contains_from q xs here in (suc rest.0, omega (arith, rest.1), rest.2)

differs : (p : ℕ) (xs : List ℕ) → ((q : ℕ) → IsIn q xs → p < q) → AllByRecursion (λ q. nat_eq p q ≡ false) xs
differs p [] lower = tt
differs p (x ∷ xs) lower =
    let less : p < x = lower x (inl refl) in
    (ne_eqb p x (λ same. omega arith), differs p xs (λ q here. lower q (inr here)))

distinct_more : (p : ℕ) (xs : List ℕ) → ((q : ℕ) → IsIn q xs → p < q) → IsDistinct nat_eq xs → IsDistinct nat_eq (p ∷ xs)
unfolding IsDistinct
distinct_more p xs lower rest = (differs p xs lower, rest)

distinct_none : IsDistinct nat_eq []
unfolding IsDistinct
distinct_none = tt

-- what is reached

reached_outside : {context : Context} {left right : Set} {p : ℕ} → IsReached context left right p → Member (Variable (Free p)) right → ⊥
reached_outside (first missing) = missing.1
reached_outside (further before there missing) = missing.1

-- where the left set is below the right one, all that is reached is
reached_below : {context : Context} {left right : Set} {p : ℕ} → IsReached context left right p → SubcapturesSet context left right
    → Subcaptures context (Variable (Free p)) right
reached_below (first missing) below = below _ missing.0
reached_below {context = context} {left = left} {right = right} (further {position = p} {next = q} {shape = shape} {declared = declared} before there missing) below =
    elim ((subcaptures_variable context p shape declared right there).0 (reached_below before below)) as (λ _. Subcaptures context (Variable (Free q)) right) [
      | inl here ↦ absurd (reached_outside before here)
      | inr each ↦ each (Variable (Free q)) missing.0
    ]

no_such : (e : Elem) (position : ℕ) → (IsPosition e → ⊥) → e ≡ Variable (Free position) → ⊥
no_such e position other same = other (subst IsPosition (sym same) tt)

-- an element that is no position is below the sets that have it alone
others_below : (context : Context) (e : Elem) (right : Set) → (IsPosition e → ⊥) → Subcaptures context e right → Member e right
others_below context e right other below = subcaptures_other context e right (λ position shape declared same there. no_such e position other same) below

-- a declared set names earlier positions alone
kinded_position : (context : Context) (q : ℕ) → lookup (kinds_of context) q ≡ Some TermKind → q < length context
kinded_position context q known = omega (arith, lookup-below (kinds_of context) q TermKind known, length-map context kind_of)

entry_lower : (context : Context) (p : ℕ) (shape : Shape) (declared : Set) → IsKindedContext context → lookup context p ≡ Some (TermEntry shape declared)
    → (q : ℕ) → Member (Variable (Free q)) declared → q < p
entry_lower [] p shape declared formed there q here = cc
entry_lower (newest ∷ context) p shape declared formed there q here =
    elim (lookup-cases newest context p (TermEntry shape declared) there) as (λ _. q < p) [
      | inl same ↦
          let entry : IsKindedEntry (kinds_of context) (TermEntry shape declared) = subst (IsKindedEntry (kinds_of context)) same.1 formed.0 in
          let low = kinded_position context q (entry.1 (Variable (Free q)) here) in
          omega (arith, low, same.0)
      | inr found ↦ entry_lower context p shape declared formed.1 found q here
    ]

-- the declared set that may stand at a position names earlier positions alone
abbrev pub IsLower : ℕ → Option Bind → Type 0
IsLower p (Some (TermEntry shape declared)) = (q : ℕ) → Member (Variable (Free q)) declared → q < p
IsLower p (Some (TypeEntry bound)) = Unit {0}
IsLower p None = Unit {0}

entry_is_lower : (context : Context) (p : ℕ) → IsKindedContext context → (entry : Option Bind) → lookup context p ≡ entry → IsLower p entry
entry_is_lower context p formed (Some (TermEntry shape declared)) there = entry_lower context p shape declared formed there
entry_is_lower context p formed (Some (TypeEntry bound)) there = tt
entry_is_lower context p formed None there = tt

pub declared_lower : (context : Context) (p : ℕ) → IsWellFormedContext context → IsLower p (lookup context p)
declared_lower context p formed = entry_is_lower context p (IsKindedContext-from context formed) (lookup context p) refl

element_room : (marks : List Bool) (p : ℕ) (e : Elem) → p < length marks → ((q : ℕ) → e ≡ Variable (Free q) → q < p) → HasRoom marks e
element_room marks p (Variable (Free q)) within lower = omega (arith, lower q refl, within)
element_room marks p (Variable (Bound i)) within lower = tt
element_room marks p Cap within lower = tt
element_room marks p (Hole n) within lower = tt

pub entry_room : (marks : List Bool) (p : ℕ) (entry : Option Bind) → p < length marks → IsLower p entry → HasRoomForEntry marks entry
entry_room marks p (Some (TermEntry shape declared)) within lower =
    λ e here. element_room marks p e within (λ q same. lower q (subst (λ x. Member x declared) same here))
entry_room marks p (Some (TypeEntry bound)) within lower = tt
entry_room marks p None within lower = tt

-- a well-formed set names positions of the context alone
pub set_lower : (context : Context) (s : Set) → IsWellFormedSet context s → (q : ℕ) → Member (Variable (Free q)) s → q < length context
set_lower context s formed q here = kinded_position context q (IsKindedSet-from (kinds_of context) [] s formed (Variable (Free q)) here)

pub set_room : (context : Context) (s : Set) (marks : List Bool) (n : ℕ) → IsWellFormedSet context s → length context ≡ n → n ≤ length marks → HasRoomFor marks s
set_room context s marks n formed size within e here = room e here
  where
    room : (e : Elem) → Member e s → HasRoom marks e
    room (Variable (Free q)) here = let low = set_lower context s formed q here in omega (arith, low, size, within)
    room (Variable (Bound i)) here = tt
    room Cap here = tt
    room (Hole k) here = tt

-- marks

pub true_not_false : {A : Type 0} {b : Bool} → b ≡ true → b ≡ false → A
true_not_false agrees refused = cc

-- what is marked once a position is not
pub others_marked : (marks : List Bool) (p q : ℕ) → is_marked q (set marks p false) ≡ true → (q ≢ p) × (is_marked q marks ≡ true)
others_marked marks p q m =
    elim (cases_eq q p) as (λ _. (q ≢ p) × (is_marked q marks ≡ true)) [
      | inl same ↦ true_not_false m (ap (λ k. is_marked k (set marks p false)) same ∙ gone)
      | inr apart ↦ (apart, sym (get_or-set_other marks p q false false apart) ∙ m)
    ]
  where
    gone : is_marked p (set marks p false) ≡ false
    gone =
        elim (cases_lt p (length marks)) as (λ _. is_marked p (set marks p false) ≡ false) [
          | inl within ↦ get_or-set_same marks p false false within
          | inr past ↦ get_or_past (set marks p false) p false (omega (arith, past, length-set marks p false))
        ]

pub lower_marked : (marks : List Bool) (p q : ℕ) → IsLastMarked p marks → is_marked q (set marks p false) ≡ true → q < p
lower_marked marks p q last m =
    let other = others_marked marks p q m in
    elim (cases_lt p q) as (λ _. q < p) [
      | inl above ↦ true_not_false other.1 (last.1 q above)
      | inr up_to ↦ let apart : q ≢ p = other.0 in omega (arith, up_to, apart)
    ]

-- after a look-up all marks are below its position
abbrev AllBelow : List Bool → ℕ → Type 0
AllBelow marks p = (q : ℕ) → is_marked q marks ≡ true → q < p

entry_below : (entry : Option Bind) (right : Set) (marks new : List Bool) (p : ℕ) (a : Bool) → IsLastMarked p marks → IsLower p entry
    → MarksEntry entry right (set marks p false) new a → AllBelow new p
entry_below (Some (TermEntry shape declared)) right marks new p a last lower marked q m =
    elim (marked.only q m) as (λ _. q < p) [ inl before ↦ lower_marked marks p q last before | inr missing ↦ lower q missing.0 ]
entry_below (Some (TypeEntry bound)) right marks new p a last lower marked q m =
    lower_marked marks p q last (ap (is_marked q) (sym marked.0) ∙ m)
entry_below None right marks new p a last lower marked q m = lower_marked marks p q last (ap (is_marked q) (sym marked.0) ∙ m)

pub entry_above : (entry : Option Bind) (right : Set) (marks new : List Bool) (p : ℕ) (a : Bool) → IsLastMarked p marks → IsLower p entry
    → MarksEntry entry right (set marks p false) new a → (q : ℕ) → p ≤ q → is_marked q new ≡ false
entry_above entry right marks new p a last lower marked q from =
    false_from_ne_true _ (λ m. let low = entry_below entry right marks new p a last lower marked q m in omega (arith, low, from))

pub entry_length : (entry : Option Bind) (right : Set) (marks new : List Bool) (p : ℕ) (a : Bool)
    → MarksEntry entry right (set marks p false) new a → length new ≡ length marks
entry_length (Some (TermEntry shape declared)) right marks new p a marked = marked.room ∙ length-set marks p false
entry_length (Some (TypeEntry bound)) right marks new p a marked = ap length marked.0 ∙ length-set marks p false
entry_length None right marks new p a marked = ap length marked.0 ∙ length-set marks p false

-- a last marked position is below the limit from which on nothing is marked
pub last_limited : (marks : List Bool) (p limit : ℕ) → IsLastMarked p marks → ((q : ℕ) → limit ≤ q → is_marked q marks ≡ false) → p < limit
last_limited marks p limit last above =
    elim (cases_lt p limit) as (λ _. p < limit) [ inl low ↦ low | inr from ↦ true_not_false last.0 (above p from) ]

-- What stands between two look-ups: which positions were looked up, all above those that are marked; all that are
-- marked are reached; the left set is below the right one as soon as all that are marked are; and all that is reached
-- was looked up, or is marked, or is reached from what is marked.
pub record Stands (context : Context) (left right : Set) (marks : List Bool) (before now : ℕ) : Type 0 where
  pub looked : List ℕ
  pub counted : now ≡ before + length looked
  pub distinct : IsDistinct nat_eq looked
  pub reached : (q : ℕ) → IsIn q looked → IsReached context left right q
  pub lower : (p q : ℕ) → is_marked p marks ≡ true → IsIn q looked → p < q
  pub marked : (p : ℕ) → is_marked p marks ≡ true → IsReached context left right p
  pub enough : ((p : ℕ) → is_marked p marks ≡ true → Subcaptures context (Variable (Free p)) right) → SubcapturesSet context left right
  pub begun : (p : ℕ) → IsMissing left right (Variable (Free p)) → (is_marked p marks ≡ true) ⊎ IsIn p looked
  pub closed : (q : ℕ) → IsIn q looked → (shape : Shape) (declared : Set) → lookup context q ≡ Some (TermEntry shape declared)
      → (p : ℕ) → IsMissing declared right (Variable (Free p)) → (is_marked p marks ≡ true) ⊎ IsIn p looked

-- a member is below the right set, where those that it does not have are marked, and what is marked is below it
member_below : (context : Context) (s right : Set) (new : List Bool)
    → ((e : Elem) → IsMissing s right e → (p : ℕ) × (e ≡ Variable (Free p)) × (is_marked p new ≡ true))
    → ((p : ℕ) → is_marked p new ≡ true → Subcaptures context (Variable (Free p)) right) → (e : Elem) → Member e s → Subcaptures context e right
member_below context s right new answered below e here =
    elim (cases_Bool (contains e right)) as (λ _. Subcaptures context e right) [
      | inl inside ↦ element inside
      | inr none ↦
          let found = answered e (here, λ inside. true_not_false inside none) in
          subst (λ x. Subcaptures context x right) (sym found.1) (below found.0 found.2)
    ]

missing_marked : (s right : Set) (new : List Bool)
    → ((e : Elem) → IsMissing s right e → (p : ℕ) × (e ≡ Variable (Free p)) × (is_marked p new ≡ true))
    → (p : ℕ) → IsMissing s right (Variable (Free p)) → is_marked p new ≡ true
missing_marked s right new answered p missing =
    let found = answered (Variable (Free p)) missing in
    let same : p ≡ found.0 = cc in
    ap (λ k. is_marked k new) same ∙ found.2

pub stands_first : (context : Context) (left right : Set) (old new : List Bool) (before : ℕ) → IsClear old
    → MarksThose (IsMissing left right) old new true → Stands context left right new before before
stands_first context left right old new before clear marking = record {
  looked = [];
  counted = omega arith;
  distinct = distinct_none;
  reached = λ q here. absurd here;
  lower = λ p q m here. absurd here;
  marked = λ p m.
      elim (marking.only p m) as (λ _. IsReached context left right p) [ inl was ↦ true_not_false was (clear p) | inr missing ↦ first missing ];
  enough = λ below. member_below context left right new marking.answered below;
  begun = λ p missing. inl (missing_marked left right new marking.answered p missing);
  closed = λ q here. absurd here;
}

declared_same : (context : Context) (p : ℕ) (s s' : Shape) (d d' : Set) → lookup context p ≡ Some (TermEntry s d)
    → lookup context p ≡ Some (TermEntry s' d') → d' ≡ d
declared_same context p s s' d d' there other = cc

-- one look-up
stands_next : (context : Context) (left right : Set) (marks new : List Bool) (before now p : ℕ) (shape : Shape) (declared : Set)
    → Stands context left right marks before now → IsLastMarked p marks → lookup context p ≡ Some (TermEntry shape declared)
    → AllBelow new p → MarksThose (IsMissing declared right) (set marks p false) new true → Stands context left right new before (now + 1)
stands_next context left right marks new before now p shape declared old last there low marking =
    let still : (q : ℕ) → (is_marked q marks ≡ true) ⊎ IsIn q old.looked → (is_marked q new ≡ true) ⊎ IsIn q (p ∷ old.looked) = λ q was.
    elim was as (λ _. (is_marked q new ≡ true) ⊎ IsIn q (p ∷ old.looked)) [
      | inl m ↦
          elim (cases_eq q p) as (λ _. (is_marked q new ≡ true) ⊎ IsIn q (p ∷ old.looked)) [
            | inl same ↦ inr (inl same)
            | inr apart ↦ inl (marking.kept q (get_or-set_other marks p q false false apart ∙ m))
          ]
      | inr here ↦ inr (inr here)
    ] in
    record {
      looked = p ∷ old.looked;
      counted = omega (arith, old.counted);
      distinct = distinct_more p old.looked (λ q here. old.lower p q last.0 here) old.distinct;
      reached = λ q here.
          elim here as (λ _. IsReached context left right q) [
            | inl same ↦ subst (IsReached context left right) (sym same) (old.marked p last.0)
            | inr before ↦ old.reached q before
          ];
      lower = λ q x m here.
          let less = low q m in
          elim here as (λ _. q < x) [
            | inl same ↦ omega (arith, less, same)
            | inr before ↦ let more = old.lower p x last.0 before in omega (arith, less, more)
          ];
      marked = λ q m.
          elim (marking.only q m) as (λ _. IsReached context left right q) [
            | inl was ↦ old.marked q (others_marked marks p q was).1
            | inr missing ↦ further (old.marked p last.0) there missing
          ];
      enough = λ below.
          old.enough
          (λ q m.
          elim (cases_eq q p) as (λ _. Subcaptures context (Variable (Free q)) right) [
            | inl same ↦
                subst (λ k. Subcaptures context (Variable (Free k)) right) (sym same)
                (variable there (member_below context declared right new marking.answered below))
            | inr apart ↦ below q (marking.kept q (get_or-set_other marks p q false false apart ∙ m))
          ]);
      begun = λ q missing. still q (old.begun q missing);
      closed = λ x here s d found q missing.
          elim here as (λ _. (is_marked q new ≡ true) ⊎ IsIn q (p ∷ old.looked)) [
            | inl same ↦
                let found' : lookup context p ≡ Some (TermEntry s d) = ap (lookup context) (sym same) ∙ found in
                let is : d ≡ declared = declared_same context p shape s declared d there found' in
                inl (missing_marked declared right new marking.answered q (subst (λ c. IsMissing c right (Variable (Free q))) is missing))
            | inr before ↦ still q (old.closed x before s d found q missing)
          ];
    }

-- the same of whatever stands there
stands_at : (context : Context) (left right : Set) (marks new : List Bool) (before now p : ℕ) (entry : Option Bind) (a : Bool)
    → Stands context left right marks before now → IsLastMarked p marks → lookup context p ≡ entry → IsLower p entry
    → MarksEntry entry right (set marks p false) new a → a ≡ true → Stands context left right new before (now + 1)
stands_at context left right marks new before now p (Some (TermEntry shape declared)) a old last there lower marked agrees =
    stands_next context left right marks new before now p shape declared old last there
    (entry_below (Some (TermEntry shape declared)) right marks new p a last lower marked)
    (subst (MarksThose (IsMissing declared right) (set marks p false) new) agrees marked)
stands_at context left right marks new before now p (Some (TypeEntry bound)) a old last there lower marked agrees = true_not_false agrees marked.1
stands_at context left right marks new before now p None a old last there lower marked agrees = true_not_false agrees marked.1

pub stands_more : (context : Context) (left right : Set) (marks new : List Bool) (before now p : ℕ) (a : Bool) → IsWellFormedContext context
    → Stands context left right marks before now → IsLastMarked p marks
    → MarksEntry (lookup context p) right (set marks p false) new a → a ≡ true → Stands context left right new before (now + 1)
stands_more context left right marks new before now p a formed old last marked agrees =
    stands_at context left right marks new before now p (lookup context p) a old last refl (declared_lower context p formed) marked agrees

-- answers

-- an element that no look-up helps
pub first_no : (context : Context) (left right : Set) (old new : List Bool) → MarksThose (IsMissing left right) old new false
    → SubcapturesSet context left right → ⊥
first_no context left right old new marking below =
    let refused = marking.answered in
    refused.1.1 (others_below context refused.0 right refused.2 (below refused.0 refused.1.0))

entry_no : (context : Context) (right : Set) (old new : List Bool) (p : ℕ) (entry : Option Bind) (a : Bool) → lookup context p ≡ entry
    → MarksEntry entry right old new a → a ≡ false → (Member (Variable (Free p)) right → ⊥) → Subcaptures context (Variable (Free p)) right → ⊥
entry_no context right old new p (Some (TermEntry shape declared)) a there marked refused outside below =
    let marking = subst (MarksThose (IsMissing declared right) old new) refused marked in
    elim ((subcaptures_variable context p shape declared right there).0 below) as (λ _. ⊥) [
      | inl here ↦ outside here
      | inr each ↦ first_no context declared right old new marking each
    ]
entry_no context right old new p (Some (TypeEntry bound)) a there marked refused outside below =
    outside (subcaptures_other context (Variable (Free p)) right
    (λ q shape declared same found.
    let at : p ≡ q = cc in
    let both : Some (TypeEntry bound) ≡ Some (TermEntry shape declared) = sym there ∙ ap (lookup context) at ∙ found in
    cc) below)
entry_no context right old new p None a there marked refused outside below =
    outside (subcaptures_other context (Variable (Free p)) right
    (λ q shape declared same found.
    let at : p ≡ q = cc in
    let both : None ≡ Some (TermEntry shape declared) = sym there ∙ ap (lookup context) at ∙ found in
    cc) below)

pub next_no : (context : Context) (left right : Set) (marks new : List Bool) (before now p : ℕ) (a : Bool)
    → Stands context left right marks before now → IsLastMarked p marks
    → MarksEntry (lookup context p) right (set marks p false) new a → a ≡ false → SubcapturesSet context left right → ⊥
next_no context left right marks new before now p a old last marked refused below =
    let reached = old.marked p last.0 in
    entry_no context right (set marks p false) new p (lookup context p) a refl marked refused (reached_outside reached) (reached_below reached below)

-- where nothing is left, the answer is yes
pub at_end : (context : Context) (left right : Set) (marks : List Bool) (before now : ℕ) → Stands context left right marks before now → IsClear marks
    → SubcapturesSet context left right
at_end context left right marks before now old clear = old.enough (λ p m. true_not_false m (clear p))

-- what was looked up

looked_all : {context : Context} {left right : Set} {p : ℕ} → IsReached context left right p → (marks : List Bool) (before now : ℕ)
    → (old : Stands context left right marks before now) → IsClear marks → IsIn p old.looked
looked_all (first {position = p} missing) marks before now old clear =
    elim (old.begun p missing) as (λ _. IsIn p old.looked) [ inl m ↦ true_not_false m (clear p) | inr here ↦ here ]
looked_all (further {position = q} {next = p} {shape = shape} {declared = declared} earlier there missing) marks before now old clear =
    elim (old.closed q (looked_all earlier marks before now old clear) shape declared there p missing) as (λ _. IsIn p old.looked) [
      | inl m ↦ true_not_false m (clear p)
      | inr here ↦ here
    ]

pub looks_yes : (context : Context) (left right : Set) (marks : List Bool) (before now : ℕ) → Stands context left right marks before now → IsClear marks
    → LooksUp context left right true before now
looks_yes context left right marks before now old clear = (
  old.looked,
  old.distinct,
  all_from (IsReached context left right) old.looked old.reached,
  λ _ p reached. contains_from p old.looked (looked_all reached marks before now old clear),
  old.counted,
)

pub looks_no : (context : Context) (left right : Set) (marks : List Bool) (before now p : ℕ) → Stands context left right marks before now → IsLastMarked p marks
    → LooksUp context left right false before (now + 1)
looks_no context left right marks before now p old last =
    let reached : (q : ℕ) → IsIn q (p ∷ old.looked) → IsReached context left right q = λ q here.
    elim here as (λ _. IsReached context left right q) [
      | inl same ↦ subst (IsReached context left right) (sym same) (old.marked p last.0)
      | inr before ↦ old.reached q before
    ] in (
      p ∷ old.looked,
      distinct_more p old.looked (λ q here. old.lower p q last.0 here) old.distinct,
      all_from (IsReached context left right) (p ∷ old.looked) reached,
      λ agrees. true_not_false agrees refl,
      omega (arith, old.counted),
    )

-- no look-up, since there is nothing that is reached, or since the answer is no
pub looks_none : (context : Context) (left right : Set) (answer : Bool) (before : ℕ)
    → (answer ≡ true → (p : ℕ) → IsReached context left right p → ⊥) → LooksUp context left right answer before before
looks_none context left right answer before none = (
  [],
  distinct_none,
  λ k d below. absurd (omega arith),
  λ agrees p reached. absurd (none agrees p reached),
  omega arith,
)

-- nothing is reached from a set that the other has
subset_reached : {context : Context} {left right : Set} {p : ℕ} → IsReached context left right p → ((e : Elem) → Member e left → Member e right) → ⊥
subset_reached (first missing) inside = missing.1 (inside _ missing.0)
subset_reached (further before there missing) inside = subset_reached before inside

pub subset_looks : (context : Context) (left right : Set) (before : ℕ) → is_subset left right ≡ true → LooksUp context left right true before before
subset_looks context left right before inside =
    looks_none context left right true before (λ _ p reached. subset_reached reached ((is_subset-Member left right).0 inside))

pub subset_below : (context : Context) (left right : Set) → is_subset left right ≡ true → SubcapturesSet context left right
subset_below context left right inside = subcaptures_subset context left right ((is_subset-Member left right).0 inside)

-- after the first marking all marks are below the length of the context
pub first_above : (context : Context) (left right : Set) (old new : List Bool) (a : Bool) (n : ℕ) → IsWellFormedSet context left → length context ≡ n
    → IsClear old → MarksThose (IsMissing left right) old new a → (q : ℕ) → n ≤ q → is_marked q new ≡ false
first_above context left right old new a n formed size clear marking q from =
    false_from_ne_true _
    (λ m.
    elim (marking.only q m) as (λ _. ⊥) [
      | inl was ↦ true_not_false was (clear q)
      | inr missing ↦ let low = set_lower context left formed q missing.0 in omega (arith, low, size, from)
    ])

-- lists of marks of one length that are both clear are one
pub clear_same : (old new : List Bool) → length new ≡ length old → IsClear old → IsClear new → new ≡ old
clear_same old new same clear clear' =
    same_lists new old same
    (λ k d below.
    get_or_default new k d false below ∙ clear' k ∙ sym (clear k) ∙ sym (get_or_default old k d false (omega (arith, below, same))))
