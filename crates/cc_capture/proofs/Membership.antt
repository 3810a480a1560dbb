-- What the members of each operation's set are, and that sets with the same members are equal.
use Rattle.std.proofs.Common.{zero, suc, ◌≡◌, ◌↔◌, ◌⊎◌, Bool, true, false, cond, not, ◌&&◌, ◌||◌, List, [], ◌∷◌, ◌++◌}
use Rattle.std.proofs.Common.{map, inl, inr, refl, sym, ap, ◌∙◌, arith}
use Rattle.std.specs.List.{Contains, filter, flat_map, list_all}
use Rattle.std.proofs.lemmas.Bool.{or_cases, or_left, or_right, and_parts, and_from, both_ways, not-true}
use Rattle.std.proofs.lemmas.Bool.{not_from_false, false_from_ne_true}
use Rattle.std.proofs.lemmas.List.Folds.{list_any-append}
use Rattle.cc_capture.specs.declared.var.Elem.{Elem}
use Rattle.cc_capture.specs.Elements.{same_element}
use Rattle.cc_capture.specs.ElementOrder.{same_element-true, same_element-itself}
use Rattle.cc_capture.specs.Rising.{is_listed}
use Rattle.cc_capture.specs.Sets.{Set, same_list, Member, contains, empty, insert, from_list, retain, remove, union}
use Rattle.cc_capture.specs.Sets.{image, flat_image, is_subset}
use Rattle.cc_capture.proofs.RisingLists.{rising_same, is_listed-placed}

true_same : {a b : Bool} → a ≡ b → a ≡ true → b ≡ true
true_same e h = sym e ∙ h

-- sets with the same members are equal
pub same_members : (a b : Set) → ((e : Elem) → Member e a → Member e b) → ((e : Elem) → Member e b → Member e a) → a ≡ b
unfolding contains
same_members a b there back = same_list a b (rising_same a.list b.list a.rising b.rising there back)

pub same_contains : (a b : Set) → ((e : Elem) → contains e a ≡ contains e b) → a ≡ b
same_contains a b same = same_members a b (λ e h. true_same (same e) h) (λ e h. true_same (sym (same e)) h)

-- a list's elements
is_listed-first : (e x : Elem) (xs : List Elem) → e ≡ x → is_listed e (x ∷ xs) ≡ true
is_listed-first e x xs same = or_left _ _ (ap (same_element e) (sym same) ∙ same_element-itself e)

pub is_listed-cases : (e x : Elem) (xs : List Elem) → is_listed e (x ∷ xs) ≡ true → (e ≡ x) ⊎ (is_listed e xs ≡ true)
is_listed-cases e x xs here =
    elim (or_cases _ _ here) [ inl same ↦ inl (same_element-true e x same) | inr there ↦ inr there ]

pub Contains-from_is_listed : (e : Elem) (xs : List Elem) → is_listed e xs ≡ true → Contains xs e
Contains-from_is_listed e [] here = absurd (both_ways false refl here)
Contains-from_is_listed e (x ∷ xs) here =
    elim (is_listed-cases e x xs here) [
      | inl same ↦ (0, omega arith, sym same)
      | inr there ↦ let rest = Contains-from_is_listed e xs there in (suc rest.0, omega arith, rest.2)
    ]

pub is_listed-from_Contains : (e : Elem) (xs : List Elem) → Contains xs e → is_listed e xs ≡ true
is_listed-from_Contains e [] (k, within, is) = absurd (omega arith)
is_listed-from_Contains e (x ∷ xs) (zero, within, is) = is_listed-first e x xs (sym is)
is_listed-from_Contains e (x ∷ xs) (suc k, within, is) =
    or_right _ _ (is_listed-from_Contains e xs (k, omega arith, is))

and_false : (b : Bool) → false ≡ (b && false)
and_false true = refl
and_false false = refl

or_kept : (a t l : Bool) → (a ≡ true → t ≡ true) → (a || (t && l)) ≡ (t && (a || l))
or_kept true true l says = refl
or_kept true false l says = sym (says refl)
or_kept false t l says = refl

or_dropped : (a t l : Bool) → (a ≡ true → t ≡ false) → (t && l) ≡ (t && (a || l))
or_dropped true true l says = absurd (both_ways true (says refl) refl)
or_dropped true false l says = refl
or_dropped false t l says = refl

is_listed-filter : (test : Elem → Bool) (e : Elem) (xs : List Elem)
    → is_listed e (filter test xs) ≡ (test e && is_listed e xs)
is_listed-filter test e [] = and_false (test e)
is_listed-filter test e (x ∷ xs) =
    let same : same_element e x ≡ true → test e ≡ test x = λ h. ap test (same_element-true e x h) in
    elim (test x) as (λ b. test x ≡ b → is_listed e (cond b (x ∷ filter test xs) (filter test xs)) ≡
    (test e && (same_element e x || is_listed e xs))) [
      | true ↦ λ kept. ap (λ l. same_element e x || l) (is_listed-filter test e xs) ∙ or_kept _ _ _ (λ h. same h ∙ kept)
      | false ↦ λ dropped. is_listed-filter test e xs ∙ or_dropped _ _ _ (λ h. same h ∙ dropped)
    ] refl

pub is_listed-from_map : (f : Elem → Elem) (e : Elem) (xs : List Elem) → is_listed e (map f xs) ≡ true
    → (x : Elem) × (is_listed x xs ≡ true) × (f x ≡ e)
is_listed-from_map f e [] here = absurd (both_ways false refl here)
is_listed-from_map f e (x ∷ xs) here =
    elim (is_listed-cases e (f x) (map f xs) here) [
      | inl same ↦ (x, is_listed-first x x xs refl, sym same)
      | inr there ↦ let rest = is_listed-from_map f e xs there in (rest.0, or_right _ _ rest.1, rest.2)
    ]

pub is_listed-map : (f : Elem → Elem) (e : Elem) (xs : List Elem) → is_listed e xs ≡ true
    → is_listed (f e) (map f xs) ≡ true
is_listed-map f e [] here = absurd (both_ways false refl here)
is_listed-map f e (x ∷ xs) here =
    elim (is_listed-cases e x xs here) [
      | inl same ↦ is_listed-first (f e) (f x) (map f xs) (ap f same)
      | inr there ↦ or_right _ _ (is_listed-map f e xs there)
    ]

pub is_listed-from_flat_map : (g : Elem → List Elem) (e : Elem) (xs : List Elem) → is_listed e (flat_map g xs) ≡ true
    → (x : Elem) × (is_listed x xs ≡ true) × (is_listed e (g x) ≡ true)
is_listed-from_flat_map g e [] here = absurd (both_ways false refl here)
is_listed-from_flat_map g e (x ∷ xs) here =
    elim (or_cases _ _ (true_same (list_any-append (same_element e) (g x) (flat_map g xs)) here)) [
      | inl first ↦ (x, is_listed-first x x xs refl, first)
      | inr later ↦ let rest = is_listed-from_flat_map g e xs later in (rest.0, or_right _ _ rest.1, rest.2)
    ]

pub is_listed-flat_map : (g : Elem → List Elem) (e x : Elem) (xs : List Elem) → is_listed x xs ≡ true
    → is_listed e (g x) ≡ true → is_listed e (flat_map g xs) ≡ true
is_listed-flat_map g e x [] here made = absurd (both_ways false refl here)
is_listed-flat_map g e x (y ∷ ys) here made =
    true_same (sym (list_any-append (same_element e) (g y) (flat_map g ys)))
    (elim (is_listed-cases x y ys here) [
      | inl same ↦ or_left _ _ (ap (λ z. is_listed e (g z)) (sym same) ∙ made)
      | inr there ↦ or_right _ _ (is_listed-flat_map g e x ys there made)
    ])

pub list_all-is_listed : (test : Elem → Bool) (xs : List Elem) → list_all test xs ≡ true → (e : Elem)
    → is_listed e xs ≡ true → test e ≡ true
list_all-is_listed test [] all e here = absurd (both_ways false refl here)
list_all-is_listed test (x ∷ xs) all e here =
    let parts = and_parts _ _ all in
    elim (is_listed-cases e x xs here) [
      | inl same ↦ ap test same ∙ parts.0
      | inr there ↦ list_all-is_listed test xs parts.1 e there
    ]

pub list_all-from_is_listed : (test : Elem → Bool) (xs : List Elem) → ((e : Elem) → is_listed e xs ≡ true → test e ≡ true)
    → list_all test xs ≡ true
list_all-from_is_listed test [] each = refl
list_all-from_is_listed test (x ∷ xs) each =
    and_from _ _ (each x (is_listed-first x x xs refl))
    (list_all-from_is_listed test xs (λ e there. each e (or_right _ _ there)))

-- what `contains` answers at each operation's set
pub contains-empty : (e : Elem) → contains e empty ≡ false
unfolding contains empty
contains-empty e = refl

pub contains-insert : (e x : Elem) (s : Set) → contains e (insert x s) ≡ (same_element e x || contains e s)
unfolding contains insert
contains-insert e x s = is_listed-placed e x s.list

pub contains-from_list : (e : Elem) (xs : List Elem) → contains e (from_list xs) ≡ is_listed e xs
unfolding from_list
contains-from_list e [] = contains-empty e
contains-from_list e (x ∷ xs) =
    contains-insert e x (from_list xs) ∙ ap (λ b. same_element e x || b) (contains-from_list e xs)

pub contains-retain : (test : Elem → Bool) (e : Elem) (s : Set) → contains e (retain test s) ≡ (test e && contains e s)
unfolding contains retain
contains-retain test e s = contains-from_list e (filter test s.list) ∙ is_listed-filter test e s.list

pub contains-remove : (e x : Elem) (s : Set) → contains e (remove x s) ≡ (not (same_element e x) && contains e s)
unfolding remove
contains-remove e x s = contains-retain (λ y. not (same_element y x)) e s

pub contains-union : (e : Elem) (a b : Set) → contains e (union a b) ≡ (contains e a || contains e b)
unfolding contains union
contains-union e a b = contains-from_list e (a.list ++ b.list) ∙ list_any-append (same_element e) a.list b.list

-- the members of each operation's set
pub Member-empty : (e : Elem) → Member e empty → ⊥
Member-empty e h = both_ways _ (contains-empty e) h

pub Member-insert : (e x : Elem) (s : Set) → Member e (insert x s) ↔ ((e ≡ x) ⊎ Member e s)
Member-insert e x s = (
  λ h. elim (or_cases _ _ (true_same (contains-insert e x s) h))
      [ inl same ↦ inl (same_element-true e x same) | inr there ↦ inr there ],
  λ h. true_same (sym (contains-insert e x s))
      (elim h [
        | inl same ↦ or_left _ _ (ap (same_element e) (sym same) ∙ same_element-itself e)
        | inr there ↦ or_right _ _
            there
      ]),
)

pub Member-from_list : (e : Elem) (xs : List Elem) → Member e (from_list xs) ↔ Contains xs e
Member-from_list e xs = (
  λ h. Contains-from_is_listed e xs (true_same (contains-from_list e xs) h),
  λ h. true_same (sym (contains-from_list e xs)) (is_listed-from_Contains e xs h),
)

pub Member-retain : (test : Elem → Bool) (e : Elem) (s : Set)
    → Member e (retain test s) ↔ ((test e ≡ true) × Member e s)
Member-retain test e s = (
  λ h. and_parts _ _ (true_same (contains-retain test e s) h),
  λ h. true_same (sym (contains-retain test e s)) (and_from _ _ h.0 h.1),
)

pub Member-remove : (e x : Elem) (s : Set) → Member e (remove x s) ↔ ((e ≡ x → ⊥) × Member e s)
Member-remove e x s = (
  λ h. let parts = and_parts _ _ (true_same (contains-remove e x s) h) in
      (λ same. both_ways _ (not-true _ parts.0) (ap (same_element e) (sym same) ∙ same_element-itself e), parts.1),
  λ h. true_same (sym (contains-remove e x s))
      (and_from _ _ (not_from_false _ (false_from_ne_true _ (λ same. h.0 (same_element-true e x same)))) h.1),
)

pub Member-union : (e : Elem) (a b : Set) → Member e (union a b) ↔ (Member e a ⊎ Member e b)
Member-union e a b = (
  λ h. or_cases _ _ (true_same (contains-union e a b) h),
  λ h. true_same (sym (contains-union e a b)) (elim h [ inl left ↦ or_left _ _ left | inr right ↦ or_right _ _ right ]),
)

pub Member-image : (f : Elem → Elem) (e : Elem) (s : Set) → Member e (image f s) ↔ ((x : Elem) × Member x s × (f x ≡ e))
unfolding contains image
Member-image f e s = (
  λ h. is_listed-from_map f e s.list (true_same (contains-from_list e (map f s.list)) h),
  λ h. true_same (sym (contains-from_list e (map f s.list)))
      (true_same (ap (λ y. is_listed y (map f s.list)) h.2) (is_listed-map f h.0 s.list h.1)),
)

pub Member-flat_image : (f : Elem → Set) (e : Elem) (s : Set)
    → Member e (flat_image f s) ↔ ((x : Elem) × Member x s × Member e (f x))
unfolding contains flat_image
Member-flat_image f e s = (
  λ h. is_listed-from_flat_map (λ x. (f x).list) e s.list
      (true_same (contains-from_list e (flat_map (λ x. (f x).list) s.list)) h),
  λ h. true_same (sym (contains-from_list e (flat_map (λ x. (f x).list) s.list)))
      (is_listed-flat_map (λ x. (f x).list) e h.0 s.list h.1 h.2),
)

-- `is_subset` decides whether each member of one set is a member of another
pub is_subset-Member : (a b : Set) → (is_subset a b ≡ true) ↔ ((e : Elem) → Member e a → Member e b)
unfolding contains is_subset
is_subset-Member a b = (
  λ all. list_all-is_listed (λ e. contains e b) a.list all,
  λ each. list_all-from_is_listed
      (λ e. contains e b) a.list each,
)

-- the members of a set are the elements of its list
pub Member-list : (e : Elem) (s : Set) → Member e s ↔ Contains s.list e
unfolding contains
Member-list e s = (Contains-from_is_listed e s.list, is_listed-from_Contains e s.list)
