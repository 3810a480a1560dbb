-- The members of a right set that may be put in for holes: the globals among them, and no fewer in a deeper context.
use Rattle.std.proofs.Common.{◌≡◌, ◌↔◌, ◌⊎◌, ℕ, suc, ◌<◌, ◌≤◌, Bool, true, false, ◌||◌, cond, List, [], ◌∷◌, ◌++◌, length}
use Rattle.std.proofs.Common.{length-append, map, Some, None, inl, inr, refl, sym, ap, ◌∙◌, subst, arith}
use Rattle.std.specs.Prelude.{nat_lt}
use Rattle.std.specs.List.{list_any}
use Rattle.std.proofs.lemmas.Bool.{lt-ltb, le-ltb, both_ways, or_left, or_right}
use Rattle.std.proofs.lemmas.List.{map-id}
use Rattle.cc_capture.specs.declared.var.Var.TheVariants.{Bound, Free}
use Rattle.cc_capture.specs.declared.var.Elem.{Elem}
use Rattle.cc_capture.specs.declared.var.Elem.TheVariants.{Var as Variable, Cap, Hole}
use Rattle.cc_capture.specs.Elements.{same_element}
use Rattle.cc_capture.specs.ElementOrder.{same_element-itself}
use Rattle.cc_capture.specs.Rising.{is_listed}
use Rattle.cc_capture.specs.Sets.{Set, Member, contains, empty, insert, retain}
use Rattle.cc_capture.proofs.Membership.{same_members, Member-empty, Member-insert, Member-retain}
use Rattle.cc_core.specs.ClosedEntries.{is_open, closed_entries}
use Rattle.cc_core.specs.Contexts.{TermEntry, TypeEntry, Context, lookup}
use Rattle.cc_core.specs.Questions.{is_hole}
use Rattle.cc_core.specs.Subcapturing.{Subcaptures, element, variable}
use Rattle.cc_core.specs.Substitution.{filled_set}
use Rattle.cc_core.specs.Shapes.{Shape}
use Rattle.cc_core.specs.WellFormed.{TermKind, IsWellFormedContext, IsWellFormedSet}
use Rattle.cc_core.proofs.Lookups.{lookup-within, lookup-more, lookup-cases, lookup-below}
use Rattle.cc_core.proofs.OccurrenceTests.{hole-decides}
use Rattle.cc_core.proofs.Sorts.{SetSort}
use Rattle.cc_core.proofs.SubcapturingContexts.{IsKindedContext-from, entry_kinded}
use Rattle.cc_checking.specs.Fillings.{Filling, IsGlobal}
use Rattle.cc_sets.proofs.Markings.{listed_last, listed_before, listed_itself}
use Rattle.cc_sets.proofs.SubcapturingSearch.{set_lower}
use Rattle.cc_checking_laws.specs.FillingLaws.{AreGlobals}
use Rattle.cc_checking_laws.proofs.LeastFillings.{filled-still}
use Rattle.cc_known.specs.Keeping.{has_hole, is_among_oldest, fillable}
use Rattle.cc_known.proofs.ClosedAgain.{closed_within, opened, open_at, older_alike}
use Rattle.cc_known.proofs.ComparedAgain.{older_members}
use Rattle.cc_known.proofs.KeptDemands.{none_passes}

-- the globals are older than all open entries
closed_globals : (g : Context) → AreGlobals g → closed_entries g ≡ length g
closed_globals [] alone = refl
closed_globals (TermEntry s c ∷ g) alone =
    let rest = closed_globals g alone.2 in
    (λ i. cond (nat_lt (rest i) (length g) || (hole-decides.in_set 0 c).1 alone.1 i) (rest i) (suc (length g)))
    ∙ ap (λ b. cond (b || false) (length g) (suc (length g))) (le-ltb (length g) (length g) (omega arith))
closed_globals (TypeEntry b ∷ g) alone = absurd alone

closed_longer : (later g : Context) → closed_entries g ≤ closed_entries (later ++ g)
closed_longer [] g = omega arith
closed_longer (b ∷ later) g =
    let rest = closed_longer later g in
    let within = closed_within (later ++ g) in
    elim (nat_lt (closed_entries (later ++ g)) (length (later ++ g)) || is_open b)
    as (λ t. closed_entries g ≤ cond t (closed_entries (later ++ g)) (suc (length (later ++ g)))) [
      | true ↦ rest
      | false ↦ omega (arith, rest, within)
    ]

pub globals_closed : (later globals : Context) → AreGlobals globals → length globals ≤ closed_entries (later ++ globals)
globals_closed later globals alone =
    let all = closed_globals globals alone in let more = closed_longer later globals in omega (arith, all, more)

-- so a global may fill holes
pub global_fills : (later globals : Context) → AreGlobals globals → (e : Elem) → IsGlobal (length globals) e
    → is_among_oldest (closed_entries (later ++ globals)) e ≡ true
global_fills later globals alone (Variable (Free p)) is =
    let low = globals_closed later globals alone in lt-ltb p (closed_entries (later ++ globals)) (omega (arith, is, low))
global_fills later globals alone (Variable (Bound i)) is = absurd is
global_fills later globals alone Cap is = refl
global_fills later globals alone (Hole n) is = absurd is

pub Member-fillable : (g : Context) (e : Elem) (r : Set)
    → Member e (fillable g r) ↔ ((is_among_oldest (closed_entries g) e ≡ true) × Member e r)
unfolding fillable
Member-fillable g e r = Member-retain (is_among_oldest (closed_entries g)) e r

all_fail : (test : Elem → Bool) (xs : List Elem) → ((e : Elem) → is_listed e xs ≡ true → test e ≡ false)
    → list_any test xs ≡ false
all_fail test [] h = refl
all_fail test (x ∷ xs) h =
    (λ i. h x (or_left (same_element x x) (is_listed x xs) (same_element-itself x)) i || list_any test xs)
    ∙ all_fail test xs (λ e m. h e (or_right (same_element e x) (is_listed e xs) m))

-- holes stay
pub fillable_hole : (g : Context) (r : Set) → has_hole (fillable g r) ≡ has_hole r
unfolding contains
fillable_hole g r = by_tests (has_hole (fillable g r)) (has_hole r) refl refl
  where
    fills : (e : Elem) → is_hole e ≡ true → is_among_oldest (closed_entries g) e ≡ true
    fills (Variable v) is = cc
    fills Cap is = refl
    fills (Hole n) is = refl

    not_hole : (e : Elem) → (is_hole e ≡ true → is_hole e ≡ false) → is_hole e ≡ false
    not_hole (Variable v) other = refl
    not_hole Cap other = refl
    not_hole (Hole n) other = other refl

    by_tests : (a b : Bool) → has_hole (fillable g r) ≡ a → has_hole r ≡ b → a ≡ b
    by_tests true true is is' = refl
    by_tests false false is is' = refl
    by_tests true false is is' =
        absurd
        (both_ways (has_hole (fillable g r))
        (all_fail is_hole (fillable g r).list
        (λ e m. none_passes is_hole r.list is' e ((Member-fillable g e r).0 m).1)) is)
    by_tests false true is is' =
        absurd
        (both_ways (has_hole r)
        (all_fail is_hole r.list
        (λ e m.
        not_hole e
        (λ yes.
        none_passes is_hole (fillable g r).list is e
        ((Member-fillable g e r).1 (fills e yes, m))))) is')

-- a set without holes is filled with nothing
pub filled_none : (f : Filling) (r : Set) → has_hole r ≡ false → filled_set f r ≡ r
filled_none f r none = filled-still SetSort f 0 r ((hole-decides.in_set 0 r).0 none)

-- of a set of a base the same members may fill holes in each context on top of it
pub fillable_on : (passed base : Context) (r : Set) → IsWellFormedSet base r → fillable (passed ++ base) r ≡ fillable base r
unfolding contains
fillable_on passed base r formed =
    same_members _ _
    (λ e m.
    let k = (Member-fillable (passed ++ base) e r).0 m in
    (Member-fillable base e r).1 (sym (fills e k.1) ∙ k.0, k.1))
    (λ e m.
    let k = (Member-fillable base e r).0 m in
    (Member-fillable (passed ++ base) e r).1 (fills e k.1 ∙ k.0, k.1))
  where
    there : (p : ℕ) → p < length base → open_at (passed ++ base) p ≡ open_at base p
    there p low =
        let found = lookup-within base p low in
        ap opened (lookup-more passed base p found.0 found.1 ∙ sym found.1)

    fills : (e : Elem) → Member e r → is_among_oldest (closed_entries (passed ++ base)) e ≡ is_among_oldest (closed_entries base) e
    fills (Variable (Free p)) m =
        let long = length-append passed base in
        older_alike (passed ++ base) base (length base) (omega (arith, long)) (omega arith) there p
        (set_lower base r formed p m)
    fills (Variable (Bound i)) m = refl
    fills Cap m = refl
    fills (Hole n) m = refl

-- the members of the declared set of a global are globals
no_holes_declared : (g : Context) → AreGlobals g → (p : ℕ) (s : Shape) (d : Set) → lookup g p ≡ Some (TermEntry s d) → has_hole d ≡ false
no_holes_declared [] alone p s d there = cc
no_holes_declared (TermEntry s' d' ∷ g) alone p s d there =
    elim (lookup-cases (TermEntry s' d') g p (TermEntry s d) there) as (λ _. has_hole d ≡ false) [
      | inl here ↦ ap has_hole (sets_of (sym here.1)) ∙ (hole-decides.in_set 0 d').1 alone.1
      | inr older ↦ no_holes_declared g alone.2 p s d older
    ]
  where
    sets_of : TermEntry s d ≡ TermEntry s' d' → d ≡ d'
    sets_of e = cc
no_holes_declared (TypeEntry b ∷ g) alone p s d there = absurd alone

declared_global : (g : Context) → AreGlobals g → IsWellFormedContext g → (p : ℕ) (s : Shape) (d : Set)
    → lookup g p ≡ Some (TermEntry s d) → (y : Elem) → Member y d → IsGlobal (length g) y
unfolding contains
declared_global g alone formed p s d there (Variable (Free q)) m =
    let low = older_members g (IsKindedContext-from g formed) p s d there (Variable (Free q)) m in
    let within = lookup-below g p (TermEntry s d) there in
    omega (arith, low, within)
declared_global g alone formed p s d there (Variable (Bound i)) m =
    none_bound ((entry_kinded g p (TermEntry s d) (IsKindedContext-from g formed) there).1 (Variable (Bound i)) m)
  where
    none_bound : None ≡ Some TermKind → ⊥
    none_bound e = cc
declared_global g alone formed p s d there Cap m = tt
declared_global g alone formed p s d there (Hole n) m =
    both_ways (is_hole (Hole n)) (none_passes is_hole d.list (no_holes_declared g alone p s d there) (Hole n) m) refl

-- Among the globals, what is below a set is below each that has the same globals.
pub below_globals : {globals : Context} {e : Elem} {c : Set} → Subcaptures globals e c → AreGlobals globals
    → IsWellFormedContext globals → IsGlobal (length globals) e → (c' : Set)
    → ((x : Elem) → IsGlobal (length globals) x → Member x c → Member x c') → Subcaptures globals e c'
below_globals (element {e = e} m) alone formed is c' into = element (into e is m)
below_globals {globals = globals} (variable {position = p} {shape = s} {declared = d} there each) alone formed is c' into =
    variable there
    (λ y l. below_globals (each y l) alone formed (declared_global globals alone formed p s d there y l) c' into)

-- the elements of a list that may be put in for holes
abbrev pub AreFillable : ℕ → List Elem → Set → Type 0
AreFillable closed elements kept = (e : Elem) → Member e kept ↔ ((is_among_oldest closed e ≡ true) × (is_listed e elements ≡ true))

pub fills_none : (closed : ℕ) (kept : Set) → kept ≡ empty → AreFillable closed [] kept
fills_none closed kept none e = (λ m. absurd (Member-empty e (subst (Member e) none m)), λ both. let no : false ≡ true = both.1 in cc)

pub fills_more : (closed : ℕ) (xs : List Elem) (x : Elem) (kept kept' : Set)
    → kept' ≡ cond (is_among_oldest closed x) (insert x kept) kept → AreFillable closed xs kept → AreFillable closed (xs ++ x ∷ []) kept'
fills_more closed xs x kept kept' put old e = by_test (is_among_oldest closed x) refl put
  where
    by_test : (b : Bool) → is_among_oldest closed x ≡ b → kept' ≡ cond b (insert x kept) kept
        → Member e kept' ↔ ((is_among_oldest closed e ≡ true) × (is_listed e (xs ++ x ∷ []) ≡ true))
    by_test true fills is = (
      λ m.
          elim ((Member-insert e x kept).0 (subst (Member e) is m))
          as (λ _. (is_among_oldest closed e ≡ true) × (is_listed e (xs ++ x ∷ []) ≡ true)) [
            | inl same ↦ (
              ap (is_among_oldest closed) same ∙ fills,
              subst (λ y. is_listed y (xs ++ x ∷ []) ≡ true) (sym same) (listed_itself x xs),
            )
            | inr was ↦ let k = (old e).0 was in (k.0, listed_before e x xs k.1)
          ],
      λ both.
          subst (Member e) (sym is)
          ((Member-insert e x kept).1
          (elim (listed_last e x xs both.1) as (λ _. (e ≡ x) ⊎ Member e kept) [
            | inl before ↦ inr ((old e).1 (both.0, before))
            | inr same ↦ inl same
          ])),
    )
    by_test false fills is = (
      λ m. let k = (old e).0 (subst (Member e) is m) in (k.0, listed_before e x xs k.1),
      λ both.
          subst (Member e) (sym is)
          (elim (listed_last e x xs both.1) as (λ _. Member e kept) [
            | inl before ↦ (old e).1 (both.0, before)
            | inr same ↦ absurd (both_ways (is_among_oldest closed x) fills (ap (is_among_oldest closed) (sym same) ∙ both.0))
          ]),
    )

pub fills_all : (closed : ℕ) (xs : List Elem) (set kept : Set) → map (λ x. x) xs ≡ set.list → AreFillable closed xs kept
    → kept ≡ retain (is_among_oldest closed) set
unfolding contains
fills_all closed xs set kept all old =
    let same : xs ≡ set.list = sym (map-id xs) ∙ all in
    same_members _ _
    (λ e m.
    let k = (old e).0 m in
    (Member-retain (is_among_oldest closed) e set).1 (k.0, subst (λ ys. is_listed e ys ≡ true) same k.1))
    (λ e m.
    let k = (Member-retain (is_among_oldest closed) e set).0 m in
    (old e).1 (k.0, subst (λ ys. is_listed e ys ≡ true) (sym same) k.1))
