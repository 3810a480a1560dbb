-- Names in order, and one more put in its place among them.
use Rattle.std.proofs.Common.{◌≡◌, ◌∙◌, ℕ, Bool, true, false, List, [], ◌∷◌, Some, cond, refl, sym, ap, subst, inl, inr}
use Rattle.std.proofs.lemmas.Bool.{cases_Bool, true≢false}
use Rattle.std.specs.BTreeSet.{insert_key}
use Rattle.std.specs.List.{AllByRecursion}
use Rattle.std.specs.List.Sorted.{IsStrictlySortedBy}
use Rattle.std.specs.Map.{keys_of, lookup}
use Rattle.std.specs.Ordering.{is_eq, match_ordering, ordering_reverse}
use Rattle.std.specs.Str.{bytes_eq}
use Rattle.std.specs.declared.cmp.Ordering.{Ordering}
use Rattle.std.specs.declared.cmp.Ordering.TheVariants.{Less, Equal, Greater}
use Rattle.cc_base.specs.Names.{compare_names}
use Rattle.cc_base.specs.NameTexts.{bytes_eq-order}
use Rattle.cc_graph.proofs.NameLemmas.{names_total, same_name, is_same_name, turned}
use Rattle.cc_graph.proofs.Paths.{IsAmong}

-- a name comes before each of these
abbrev pub IsBeforeAll : List ℕ → List (List ℕ) → Type 0
IsBeforeAll name names = AllByRecursion (λ other. compare_names name other ≡ Less) names

each_at : (P : List ℕ → Type 0) (k x : List ℕ) (xs more : List (List ℕ)) (r : Ordering) → P k → AllByRecursion P (x ∷ xs) → AllByRecursion P more
    → AllByRecursion P (match_ordering r (k ∷ x ∷ xs) (x ∷ xs) (x ∷ more))
each_at P k x xs more Less here all rest = (here, all)
each_at P k x xs more Equal here all rest = all
each_at P k x xs more Greater here all rest = (all.0, rest)

-- what holds of each name and of one more holds of all
pub each_inserted : (P : List ℕ → Type 0) (names : List (List ℕ)) (k : List ℕ) → P k → AllByRecursion P names → AllByRecursion P (insert_key compare_names names k)
each_inserted P [] k here all = (here, tt)
each_inserted P (x ∷ xs) k here all =
    each_at P k x xs (insert_key compare_names xs k) (compare_names k x) here all (each_inserted P xs k here all.1)

before_all : (k x : List ℕ) → compare_names k x ≡ Less → (xs : List (List ℕ)) → IsBeforeAll x xs → IsBeforeAll k xs
before_all k x below [] all = tt
before_all k x below (y ∷ ys) all = (names_total.trans k x y below all.0, before_all k x below ys all.1)

sorted_at : (k x : List ℕ) (xs more : List (List ℕ)) (r : Ordering) → compare_names k x ≡ r → IsStrictlySortedBy compare_names (x ∷ xs)
    → (compare_names x k ≡ Less → IsBeforeAll x more) → IsStrictlySortedBy compare_names more
    → IsStrictlySortedBy compare_names (match_ordering r (k ∷ x ∷ xs) (x ∷ xs) (x ∷ more))
unfolding IsStrictlySortedBy
sorted_at k x xs more Less is sorted above rest = ((is, before_all k x is xs sorted.0), sorted)
sorted_at k x xs more Equal is sorted above rest = sorted
sorted_at k x xs more Greater is sorted above rest = (above (names_total.antisymm x k ∙ ap ordering_reverse is), rest)

-- they stay in order
pub sorted_inserted : (names : List (List ℕ)) (k : List ℕ) → IsStrictlySortedBy compare_names names → IsStrictlySortedBy compare_names (insert_key compare_names names k)
unfolding IsStrictlySortedBy
sorted_inserted [] k sorted = (tt, tt)
sorted_inserted (x ∷ xs) k sorted =
    sorted_at k x xs (insert_key compare_names xs k) (compare_names k x) refl sorted
    (λ below. each_inserted (λ y. compare_names x y ≡ Less) xs k below sorted.0) (sorted_inserted xs k sorted.1)

equal_by : (r : Ordering) → is_eq r ≡ true → r ≡ Equal
equal_by Equal is = refl
equal_by Less is = absurd (true≢false (sym is))
equal_by Greater is = absurd (true≢false (sym is))

ties : (k x : List ℕ) → x ≡ k → compare_names k x ≡ Equal
ties k x same = equal_by (compare_names k x) (sym (bytes_eq-order k x) ∙ is_same_name k x (sym same))

above_all : (x k : List ℕ) (xs : List (List ℕ)) → IsBeforeAll x xs → IsAmong k xs → compare_names x k ≡ Less
above_all x k [] all among = absurd among
above_all x k (y ∷ ys) all (inl same) = subst (λ n. compare_names x n ≡ Less) same all.0
above_all x k (y ∷ ys) all (inr among) = above_all x k ys all.1 among

-- a name that is one of them adds nothing
pub insert_key-present : (names : List (List ℕ)) (k : List ℕ) → IsStrictlySortedBy compare_names names → IsAmong k names → insert_key compare_names names k ≡ names
unfolding IsStrictlySortedBy
insert_key-present [] k sorted among = absurd among
insert_key-present (x ∷ xs) k sorted (inl same) =
    ap (λ r. match_ordering r (k ∷ x ∷ xs) (x ∷ xs) (x ∷ insert_key compare_names xs k)) (ties k x same)
insert_key-present (x ∷ xs) k sorted (inr among) =
    ap (λ r. match_ordering r (k ∷ x ∷ xs) (x ∷ xs) (x ∷ insert_key compare_names xs k)) (turned x k (above_all x k xs sorted.0 among))
    ∙ ap (λ names. x ∷ names) (insert_key-present xs k sorted.1 among)

-- what is found stands among the names
pub found_among : {X : Type 0} (es : List (List ℕ × X)) (name : List ℕ) (v : X) → lookup (bytes_eq name) es ≡ Some v → IsAmong name (keys_of es)
found_among [] name v found = cc
found_among (e ∷ es) name v found =
    elim (cases_Bool (bytes_eq name e.0)) [
      | inl same ↦ inl (sym (same_name name e.0 same))
      | inr other ↦ inr (found_among es name v (rw other at found))
    ]
