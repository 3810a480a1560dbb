-- The test of sets decides subcapturing; what is settled is always served, and forces nothing.
use Rattle.std.proofs.Common.{◌≡◌, ℕ, Bool, true, false, not, ◌||◌, ◌&&◌, cond, List, [], ◌∷◌, length, Some, refl, sym}
use Rattle.std.proofs.Common.{ap, ◌∙◌, subst, inl, inr}
use Rattle.std.specs.Prelude.{nat_eq}
use Rattle.std.specs.List.{list_any, list_all}
use Rattle.std.proofs.lemmas.Bool.{and_parts, and_from, or_cases, or_left, or_right, or_parts, cases_eq, eq-eqb}
use Rattle.std.proofs.lemmas.Bool.{eqb-true, both_ways}
use Rattle.cc_capture.specs.declared.var.Var.TheVariants.{Bound, Free}
use Rattle.cc_capture.specs.declared.var.Elem.{Elem}
use Rattle.cc_capture.specs.declared.var.Elem.TheVariants.{Var as Variable, Cap, Hole}
use Rattle.cc_capture.specs.Elements.{same_element}
use Rattle.cc_capture.specs.ElementOrder.{same_element-true, same_element-itself}
use Rattle.cc_capture.specs.Rising.{is_listed}
use Rattle.cc_capture.specs.Sets.{Set, Member, contains, is_subset}
use Rattle.cc_core.specs.Shapes.{Shape}
use Rattle.cc_core.specs.Contexts.{Bind, TermEntry, TypeEntry, Context, lookup}
use Rattle.cc_core.specs.Questions.{is_hole}
use Rattle.cc_core.specs.Substitution.{filled_element, filled_set}
use Rattle.cc_core.specs.Subcapturing.{Subcaptures, SubcapturesSet, element, variable}
use Rattle.cc_core.specs.WellFormed.{TermKind, kind_of, kinds_of}
use Rattle.cc_core.proofs.KindFacts.{IsKindedElement, IsKindedSet-from}
use Rattle.cc_core.proofs.Lookups.{length_map, lookup-newest, lookup-other, lookup-older}
use Rattle.cc_core.proofs.Moving.{Member-single}
use Rattle.cc_core.proofs.SubcapturingContexts.{IsKindedContext, IsKindedContext-from}
use Rattle.cc_core.proofs.SubcapturingLemmas.{subcaptures_along, subcaptures_variable, subcaptures_other}
use Rattle.cc_checking.specs.Comparison.{Demand}
use Rattle.cc_checking.specs.Outcomes.{IsBelow, IsCapless}
use Rattle.cc_checking.specs.Fillings.{Filling, filled_context}
use Rattle.cc_checking_laws.proofs.LeastFillings.{Member-filled, Member-from_filled, lookup-filled}
use Rattle.cc_known.specs.Keeping.{is_at, is_element_below, is_below, has_hole, is_demand_settled}
use Rattle.cc_known.specs.KeepingLaws.{TestOfSetsDecides, SettledIsServed}

-- tests of all elements of a list, and of any
pub listed_passes : (test : Elem → Bool) (xs : List Elem) → list_all test xs ≡ true → (e : Elem) → is_listed e xs ≡ true
    → test e ≡ true
listed_passes test [] h e m = cc
listed_passes test (x ∷ xs) h e m =
    let both = and_parts (test x) (list_all test xs) h in
    elim (or_cases (same_element e x) (is_listed e xs) m) as (λ _. test e ≡ true) [
      | inl same ↦ ap test (same_element-true e x same) ∙ both.0
      | inr later ↦ listed_passes test xs both.1 e later
    ]

pub all_pass : (test : Elem → Bool) (xs : List Elem) → ((e : Elem) → is_listed e xs ≡ true → test e ≡ true)
    → list_all test xs ≡ true
all_pass test [] h = refl
all_pass test (x ∷ xs) h =
    and_from (test x) (list_all test xs)
    (h x (or_left (same_element x x) (is_listed x xs) (same_element-itself x)))
    (all_pass test xs (λ e m. h e (or_right (same_element e x) (is_listed e xs) m)))

pub none_passes : (test : Elem → Bool) (xs : List Elem) → list_any test xs ≡ false → (e : Elem) → is_listed e xs ≡ true
    → test e ≡ false
none_passes test [] h e m = cc
none_passes test (x ∷ xs) h e m =
    let both = or_parts (test x) (list_any test xs) h in
    elim (or_cases (same_element e x) (is_listed e xs) m) as (λ _. test e ≡ false) [
      | inl same ↦ ap test (same_element-true e x same) ∙ both.0
      | inr later ↦ none_passes test xs both.1 e later
    ]

-- an element that is below among the older entries is below
below_later : (b : Bind) (g : Context) (e : Elem) (r : Set) → Subcaptures g e r → Subcaptures (b ∷ g) e r
below_later b g e r below =
    subcaptures_along below (b ∷ g) (λ p s d above there each. variable (lookup-older b g p (TermEntry s d) there) each)

at_is : (p : ℕ) (e : Elem) → is_at p e ≡ true → e ≡ Variable (Free p)
at_is p (Variable (Free q)) h = ap (λ n. Variable (Free n)) (sym (eqb-true p q h))
at_is p (Variable (Bound i)) h = cc
at_is p Cap h = cc
at_is p (Hole n) h = cc

-- what the test says is so
element_below_sound : (g : Context) (r : Set) (e : Elem) → is_element_below g r e ≡ true → Subcaptures g e r
unfolding contains
element_below_sound [] r e h = element h
element_below_sound (TermEntry s d ∷ g) r e h =
    elim (or_cases (is_at (length g) e && list_all (is_element_below g r) d.list) (is_element_below g r e) h)
    as (λ _. Subcaptures (TermEntry s d ∷ g) e r) [
      | inl newest ↦
          let both = and_parts (is_at (length g) e) (list_all (is_element_below g r) d.list) newest in
          subst (λ x. Subcaptures (TermEntry s d ∷ g) x r) (sym (at_is (length g) e both.0))
          (variable (lookup-newest (TermEntry s d) g)
          (λ y m.
          below_later (TermEntry s d) g y r
          (element_below_sound g r y (listed_passes (is_element_below g r) d.list both.1 y m))))
      | inr older ↦ below_later (TermEntry s d) g e r (element_below_sound g r e older)
    ]
element_below_sound (TypeEntry b ∷ g) r e h = below_later (TypeEntry b) g e r (element_below_sound g r e h)

pub member_below : (g : Context) (r : Set) (e : Elem) → Member e r → is_element_below g r e ≡ true
member_below [] r e m = m
member_below (TermEntry s d ∷ g) r e m =
    or_right (is_at (length g) e && list_all (is_element_below g r) d.list) (is_element_below g r e)
    (member_below g r e m)
member_below (TypeEntry b ∷ g) r e m = member_below g r e m

-- an older part of a context
abbrev IsPartOf : Context → Context → Type 0
IsPartOf older g = (p : ℕ) (b : Bind) → lookup older p ≡ Some b → lookup g p ≡ Some b

part_of : (b : Bind) (older g : Context) → IsPartOf (b ∷ older) g → IsPartOf older g
part_of b older g more p b' there = more p b' (lookup-older b older p b' there)

kind_among : (b : Bind) (g : Context) (p : ℕ) → lookup (kinds_of (b ∷ g)) p ≡ Some TermKind → (p ≡ length g → ⊥)
    → lookup (kinds_of g) p ≡ Some TermKind
kind_among b g p k other =
    sym (lookup-other (kind_of b) (kinds_of g) p (λ same. other (same ∙ length_map kind_of g))) ∙ k

type_is_newest : (b : Shape) (g : Context) (p : ℕ) → lookup (kinds_of (TypeEntry b ∷ g)) p ≡ Some TermKind
    → p ≡ length g → ⊥
type_is_newest b g p k same =
    let newest = ap (lookup (kinds_of (TypeEntry b ∷ g))) (same ∙ sym (length_map kind_of g))
    ∙ lookup-newest (kind_of (TypeEntry b)) (kinds_of g) in
    clash (sym k ∙ newest)
  where
    clash : Some TermKind ≡ Some (kind_of (TypeEntry b)) → ⊥
    clash e = cc

-- what is so the test says, of an element that is well formed in an older part
element_below_complete : (older g : Context) → IsPartOf older g → IsKindedContext older → (r : Set) (e : Elem)
    → IsKindedElement (kinds_of older) [] e → Subcaptures g e r → is_element_below older r e ≡ true
unfolding contains
element_below_complete [] g more formed r (Variable (Free p)) k below = cc
element_below_complete (TermEntry s d ∷ older) g more formed r (Variable (Free p)) k below =
    elim (cases_eq p (length older)) as (λ _. is_element_below (TermEntry s d ∷ older) r (Variable (Free p)) ≡ true) [
      | inl same ↦
          let there : lookup g p ≡ Some (TermEntry s d) =
          more p (TermEntry s d)
          (ap (lookup (TermEntry s d ∷ older)) same ∙ lookup-newest (TermEntry s d) older) in
          elim ((subcaptures_variable g p s d r there).0 below)
          as (λ _. is_element_below (TermEntry s d ∷ older) r (Variable (Free p)) ≡ true) [
            | inl m ↦ member_below (TermEntry s d ∷ older) r (Variable (Free p)) m
            | inr each ↦
                or_left _ (is_element_below older r (Variable (Free p)))
                (and_from (nat_eq (length older) p) (list_all (is_element_below older r) d.list)
                (eq-eqb (length older) p (sym same))
                (all_pass (is_element_below older r) d.list
                (λ y m.
                element_below_complete older g (part_of (TermEntry s d) older g more) formed.1 r y (formed.0.1 y m)
                (each y m))))
          ]
      | inr other ↦
          or_right (nat_eq (length older) p && list_all (is_element_below older r) d.list)
          (is_element_below older r (Variable (Free p)))
          (element_below_complete older g (part_of (TermEntry s d) older g more) formed.1 r (Variable (Free p))
          (kind_among (TermEntry s d) older p k other) below)
    ]
element_below_complete (TypeEntry b ∷ older) g more formed r (Variable (Free p)) k below =
    element_below_complete older g (part_of (TypeEntry b) older g more) formed.1 r (Variable (Free p))
    (kind_among (TypeEntry b) older p k (type_is_newest b older p k)) below
element_below_complete older g more formed r (Variable (Bound i)) k below =
    member_below older r (Variable (Bound i)) (subcaptures_other g (Variable (Bound i)) r (λ q s d same found. cc)
    below)
element_below_complete older g more formed r Cap k below =
    member_below older r Cap (subcaptures_other g Cap r (λ q s d same found. cc) below)
element_below_complete older g more formed r (Hole n) k below =
    member_below older r (Hole n) (subcaptures_other g (Hole n) r (λ q s d same found. cc) below)

pub below_sound : (g : Context) (l r : Set) → is_below g l r ≡ true → SubcapturesSet g l r
unfolding contains
below_sound g l r h e m = element_below_sound g r e (listed_passes (is_element_below g r) l.list h e m)

pub test_of_sets_decides : TestOfSetsDecides
unfolding contains
test_of_sets_decides g l r formed known = (
  λ h. below_sound g l r h,
  λ below.
      all_pass (is_element_below g r) l.list
      (λ e m.
      element_below_complete g g (λ p b there. there) (IsKindedContext-from g formed) r e
      (IsKindedSet-from (kinds_of g) [] l known e m) (below e m)),
)

-- filling keeps subcapturing, since a hole is below a set only as a member
below_filled : (f : Filling) {g : Context} {e : Elem} {c : Set} → Subcaptures g e c
    → SubcapturesSet (filled_context f g) (filled_element f e) (filled_set f c)
below_filled f (element {e = e} {set = c} m) y l = element (Member-filled f e y c m l)
below_filled f {g} (variable {position = p} {shape = s} {declared = d} {set = c} there each) y l =
    subst (λ x. Subcaptures (filled_context f g) x (filled_set f c)) (sym (Member-single y (Variable (Free p)) l))
    (variable (lookup-filled f g p s d there)
    (λ z m. let m' = Member-from_filled f z d m in below_filled f (each m'.0 m'.1) z m'.2))

sets_filled : (f : Filling) (g : Context) (c d : Set) → SubcapturesSet g c d
    → SubcapturesSet (filled_context f g) (filled_set f c) (filled_set f d)
sets_filled f g c d below y m = let m' = Member-from_filled f y c m in below_filled f (below m'.0 m'.1) y m'.2

pub subset_members : (c d : Set) → is_subset c d ≡ true → (e : Elem) → Member e c → Member e d
unfolding contains is_subset
subset_members c d h e m = listed_passes (λ x. contains x d) c.list h e m

-- a settled demand holds as it stands
pub settled_holds : (d : Demand) → is_demand_settled d ≡ true → SubcapturesSet d.context d.left d.right
settled_holds d h = by_test (has_hole d.right) h
  where
    by_test : (b : Bool) → cond b (is_subset d.left d.right) (is_below d.context d.left d.right) ≡ true
        → SubcapturesSet d.context d.left d.right
    by_test true h e m = element (subset_members d.left d.right h e m)
    by_test false h e m = below_sound d.context d.left d.right h e m

-- a set without the universal capability and without holes has none when it is filled
capless_filled : (f : Filling) (c : Set) → contains Cap c ≡ false → has_hole c ≡ false → Member Cap (filled_set f c) → ⊥
unfolding contains
capless_filled f c no_cap no_hole m = let m' = Member-from_filled f Cap c m in by_element m'.0 m'.1 m'.2
  where
    by_element : (x : Elem) → Member x c → Member Cap (filled_element f x) → ⊥
    by_element (Variable v) m k = let same = Member-single Cap (Variable v) k in cc
    by_element Cap m k = both_ways (contains Cap c) no_cap m
    by_element (Hole n) m k = let no : true ≡ false = none_passes is_hole c.list no_hole (Hole n) m in cc

not_or : (a b : Bool) → not (a || b) ≡ true → (a ≡ false) × (b ≡ false)
not_or true b h = cc
not_or false true h = cc
not_or false false h = (refl, refl)

pub settled_is_served : SettledIsServed
settled_is_served f (IsBelow d) h = sets_filled f d.context d.left d.right (settled_holds d h)
settled_is_served f (IsCapless c) h = let no = not_or (contains Cap c) (has_hole c) h in capless_filled f c no.0 no.1
