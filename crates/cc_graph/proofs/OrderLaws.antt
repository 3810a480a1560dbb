-- What orders come to.
use Rattle.std.proofs.Common.{◌≡◌, ℕ, true, false, not, ◌&&◌, List, [], ◌∷◌, ◌++◌, reverse, ap, ◌∙◌, sym, subst}
use Rattle.std.proofs.Common.{refl, inl, inr, append_assoc, append-nil}
use Rattle.std.proofs.lemmas.Bool.{cases_Bool, not-true, not_from_false, and_parts, and_from, false_from_ne_true}
use Rattle.std.proofs.lemmas.Cmp.{nat_list_eq_equiv}
use Rattle.std.proofs.lemmas.List.{reverse-append, reverse-reverse}
use Rattle.std.proofs.lemmas.Map.Keys.{IsDistinct-push}
use Rattle.std.specs.Cmp.{both_ways}
use Rattle.std.specs.List.{IsDistinct, list_all}
use Rattle.std.specs.Map.{keys_of}
use Rattle.std.specs.Ordering.{is_lt, is_eq, ordering_reverse}
use Rattle.std.specs.Str.{bytes_eq}
use Rattle.std.specs.declared.cmp.Ordering.{Ordering}
use Rattle.std.specs.declared.cmp.Ordering.TheVariants.{Less, Equal, Greater}
use Rattle.cc_base.specs.NameTexts.{bytes_eq-order}
use Rattle.cc_graph.specs.Graph.{ImportMap, imported, is_present, does_import, Reaches, reaches}
use Rattle.cc_base.specs.Names.{compare_names, is_name_before}
use Rattle.cc_graph.specs.Graph.{is_listed, holds_up, is_ready, may_come, is_next, are_in_order}
use Rattle.cc_graph.specs.Graph.{IsOrder}
use Rattle.cc_graph.proofs.NameLemmas.{names_total, same_name, is_same_name, present_among}
use Rattle.cc_graph.proofs.OrderLemmas.{clash, list_all_at, among_listed, listed-reverse}
use Rattle.cc_graph.proofs.Paths.{IsAmong, reaches-path}

-- the module that stands before others was the next one
next_before : (imports : ImportMap) (newer : List (List ℕ)) (name : List ℕ) (older : List (List ℕ))
    → are_in_order imports (newer ++ name ∷ older) ≡ true → is_next imports older name ≡ true
next_before imports [] name older h = (and_parts _ _ h).0
next_before imports (newest ∷ newer) name older h = next_before imports newer name older (and_parts _ _ h).1

next_at_cut : (imports : ImportMap) (before : List (List ℕ)) (name : List ℕ) (after : List (List ℕ))
    → are_in_order imports (reverse (before ++ name ∷ after)) ≡ true → is_next imports (reverse before) name ≡ true
next_at_cut imports before name after h =
    let InOrder : List (List ℕ) → Type 0 = λ names. are_in_order imports names ≡ true in
    let pieces : reverse (before ++ name ∷ after) ≡ reverse after ++ name ∷ reverse before =
    reverse-append before (name ∷ after) ∙ ap (λ r. r ++ reverse before) (reverse-append (name ∷ []) after)
    ∙ append_assoc (reverse after) (name ∷ []) (reverse before) in
    next_before imports (reverse after) name (reverse before) (subst InOrder pieces h)

-- neither of two names before the other
neither_before : (a b : List ℕ) (answer : Ordering) → compare_names a b ≡ answer → is_lt (compare_names a b) ≡ false
    → is_lt (compare_names b a) ≡ false → a ≡ b
neither_before a b Less is p q = clash (is_lt (compare_names a b)) (ap is_lt is) p
neither_before a b Equal is p q = same_name a b (bytes_eq-order a b ∙ ap is_eq is)
neither_before a b Greater is p q = clash (is_lt (compare_names b a)) (ap is_lt (names_total.antisymm b a
    ∙ ap ordering_reverse is)) q

not_before : (imports : ImportMap) (older : List (List ℕ)) (name other : List ℕ)
    → is_next imports older name ≡ true → is_next imports older other ≡ true → is_name_before other name ≡ false
not_before imports older name other first second =
    let chosen = and_parts _ _ (and_parts _ _ first).1 in
    let rival = and_parts _ _ second in
    let free : not (may_come imports older other && is_name_before other name) ≡ true =
    list_all_at (λ x. not (may_come imports older x && is_name_before x name)) (keys_of imports) other
    (present_among imports other rival.0) chosen.1 in
    false_from_ne_true _
    (λ before.
    clash (may_come imports older other && is_name_before other name)
    (and_from _ _ (and_parts _ _ rival.1).0 before) (not-true _ free))

next_is_one : (imports : ImportMap) (older : List (List ℕ)) (name other : List ℕ)
    → is_next imports older name ≡ true → is_next imports older other ≡ true → name ≡ other
next_is_one imports older name other first second =
    neither_before name other (compare_names name other) refl
    (not_before imports older other name second first) (not_before imports older name other first second)

-- nothing is next where each present module is listed
nothing_next : (imports : ImportMap) (names : List (List ℕ)) (name : List ℕ)
    → list_all (is_listed names) (keys_of imports) ≡ true
    → is_next imports (reverse names) name ≡ true → ⊥
nothing_next imports names name whole next =
    let parts = and_parts _ _ next in
    let free = (and_parts _ _ (and_parts _ _ parts.1).0).0 in
    clash (is_listed (reverse names) name)
    (listed-reverse names name ∙ list_all_at (is_listed names) (keys_of imports) name
    (present_among imports name parts.0) whole)
    (not-true _ free)

abbrev RestOf : ImportMap → List (List ℕ) → List (List ℕ) → Type 0
RestOf imports before rest =
    (are_in_order imports (reverse (before ++ rest)) ≡ true) × (list_all (is_listed (before ++ rest))
    (keys_of imports) ≡ true)

rest_moved : (imports : ImportMap) (before : List (List ℕ)) (name : List ℕ) (rest : List (List ℕ))
    → RestOf imports before (name ∷ rest) → RestOf imports (before ++ name ∷ []) rest
rest_moved imports before name rest h =
    let Is : List (List ℕ) → Type 0 = λ names. (are_in_order imports (reverse names) ≡ true) × (list_all
    (is_listed names) (keys_of imports) ≡ true) in
    subst Is (sym (append_assoc before (name ∷ []) rest)) h

-- the front of a list that is whole is all there is
end_is_end : (imports : ImportMap) (before : List (List ℕ)) (name : List ℕ) (rest : List (List ℕ))
    → RestOf imports before [] → RestOf imports before (name ∷ rest) → ⊥
end_is_end imports before name rest ends goes =
    let Is : List (List ℕ) → Type 0 = λ names. list_all (is_listed names) (keys_of imports) ≡ true in
    nothing_next imports before name (subst Is (append-nil before) ends.1) (next_at_cut imports before name rest goes.0)

rest_is_one : (imports : ImportMap) (before xs ys : List (List ℕ)) → RestOf imports before xs
    → RestOf imports before ys → xs ≡ ys
rest_is_one imports before [] [] left right = refl
rest_is_one imports before [] (y ∷ ys) left right = absurd (end_is_end imports before y ys left right)
rest_is_one imports before (x ∷ xs) [] left right = absurd (end_is_end imports before x xs right left)
rest_is_one imports before (x ∷ xs) (y ∷ ys) left right =
    let same : x ≡ y = next_is_one imports (reverse before) x y (next_at_cut imports before x xs left.0)
    (next_at_cut imports before y ys right.0) in
    let P : List ℕ → Type 0 = λ name. RestOf imports (before ++ name ∷ []) ys in
    let others : xs ≡ ys =
    rest_is_one imports (before ++ x ∷ []) xs ys (rest_moved imports before x xs left) (subst P (sym same)
    (rest_moved imports before y ys right)) in
    ap (λ name. name ∷ xs) same ∙ ap (λ rest. y ∷ rest) others

pub orders_are_unique : (imports : ImportMap) (names others : List (List ℕ)) → IsOrder imports names
    → IsOrder imports others → names ≡ others
orders_are_unique imports names others first second =
    rest_is_one imports [] names others (first.steps, first.whole) (second.steps, second.whole)

-- no name twice
distinct_turned : (imports : ImportMap) (names : List (List ℕ)) → are_in_order imports names ≡ true
    → IsDistinct bytes_eq (reverse names)
unfolding IsDistinct
distinct_turned imports [] h = tt
distinct_turned imports (newest ∷ older) h =
    let parts = and_parts _ _ h in
    let free = not-true _ (and_parts _ _ (and_parts _ _ (and_parts _ _ parts.0).1).0).0 in
    let P : List (List ℕ) → Type 0 = λ names. IsDistinct bytes_eq names in
    subst P (sym (reverse-append (newest ∷ []) older))
    (IsDistinct-push nat_list_eq_equiv (reverse older) newest (distinct_turned imports older parts.1)
    (listed-reverse older newest ∙ free))

-- what is listed is present
listed_present : (imports : ImportMap) (names : List (List ℕ)) (name : List ℕ) → are_in_order imports names ≡ true
    → is_listed names name ≡ true → is_present imports name ≡ true
listed_present imports [] name h listed = cc
listed_present imports (newest ∷ older) name h listed =
    let parts = and_parts (is_next imports older newest) (are_in_order imports older) h in
    elim (cases_Bool (bytes_eq name newest)) [
      | inl same ↦ ap (is_present imports) (same_name name newest same)
          ∙ (and_parts (is_present imports newest) _ parts.0).0
      | inr other ↦ listed_present imports older name parts.1 (rw other at listed)
    ]

pub orders_list_present_modules : (imports : ImportMap) (names : List (List ℕ)) → IsOrder imports names
    → IsDistinct bytes_eq names × ((name : List ℕ) → is_listed names name ≡ is_present imports name)
orders_list_present_modules imports names order =
    let P : List (List ℕ) → Type 0 = λ xs. IsDistinct bytes_eq xs in (
      subst P (reverse-reverse names) (distinct_turned imports (reverse names) order.steps),
      λ name.
          both_ways _ _
          (λ listed. listed_present imports (reverse names) name order.steps (listed-reverse names name ∙ listed))
          (λ present. list_all_at (is_listed names) (keys_of imports) name
          (present_among imports name present) order.whole),
    )

-- what is ready has its imports before it, or they are absent or reach back
import_first : (imports : ImportMap) (listed : List (List ℕ)) (name other : List ℕ)
    → is_ready imports listed name ≡ true
    → does_import imports name other ≡ true → is_present imports other ≡ true → (Reaches imports other name → ⊥)
    → is_listed listed other ≡ true
unfolding is_ready does_import
import_first imports listed name other ready imported_by present no_way =
    let free : not (holds_up imports listed name other) ≡ true =
    list_all_at (λ x. not (holds_up imports listed name x)) (imported imports name) other (among_listed
    (imported imports name) other imported_by) ready in
    let away : reaches imports other name ≡ false = false_from_ne_true _ (λ h. no_way
    (reaches-path imports other name h)) in
    elim (cases_Bool (is_listed listed other)) [
      | inl is ↦ is
      | inr waits ↦
          clash (holds_up imports listed name other)
          (and_from _ _ present (and_from _ _ (not_from_false _ waits) (not_from_false _ away)))
          (not-true _ free)
    ]

pub orders_put_imports_first : (imports : ImportMap) (before after : List (List ℕ)) (name other : List ℕ)
    → IsOrder imports (before ++ name ∷ after) → does_import imports name other ≡ true → is_present imports other ≡ true
    → (Reaches imports other name → ⊥) → is_listed before other ≡ true
orders_put_imports_first imports before after name other order by present no_way =
    let next = next_at_cut imports before name after order.steps in
    let ready = (and_parts _ _ (and_parts _ _ (and_parts _ _ next).1).0).1 in
    sym (listed-reverse before other) ∙ import_first imports (reverse before) name other ready by present no_way
