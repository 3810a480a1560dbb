-- Names of modules and their places.
use Rattle.std.proofs.Common.{◌≡◌, ℕ, ◌+◌, ◌<◌, nat_eq, true, false, List, [], ◌∷◌, length, get_or, Some, Result, Ok}
use Rattle.std.proofs.Common.{Err, ap, ◌∙◌, sym, subst, refl, inl, inr, arith, eq-eqb}
use Rattle.std.proofs.lemmas.Bool.{cases_eq, cases_lt, cases_Bool, ne_eqb}
use Rattle.std.proofs.lemmas.Cmp.{on_total, nat_list_cmp_total, nat_list_eq_equiv}
use Rattle.std.proofs.lemmas.List.{get_or-map, get_or_default}
use Rattle.std.proofs.lemmas.List.Sorted.{searchable_from_sorted}
use Rattle.std.proofs.lemmas.Map.Entries.{length-keys_of, lookup_from_place}
use Rattle.std.proofs.lemmas.Map.Keys.{Less-from_sorted, IsDistinct-from_apart}
use Rattle.std.proofs.lemmas.Option.{slice_get-get_or}
use Rattle.std.specs.Cmp.{IsTotalOrder}
use Rattle.std.specs.Cmp.Lexicographic.{bytes_decides}
use Rattle.std.specs.List.{list_any}
use Rattle.std.specs.List.Sorted.{IsBinarySearchResult, IsSearchInRange}
use Rattle.std.specs.Map.{keys_of, lookup}
use Rattle.std.specs.Option.{MatchOption, is_some, unwrap_or}
use Rattle.std.specs.Ordering.{is_eq, is_lt, ordering_reverse}
use Rattle.std.specs.Prelude.{suc, encode_utf8_all}
use Rattle.std.specs.Result.{result_ok}
use Rattle.std.specs.Str.{bytes_eq}
use Rattle.std.specs.declared.cmp.Ordering.{Ordering}
use Rattle.std.specs.declared.cmp.Ordering.TheVariants.{Less, Equal, Greater}
use Rattle.cc_base.specs.NameTexts.{bytes_eq-order}
use Rattle.cc_graph.specs.Graph.{ImportMap, IsImportMap, is_present, does_import}
use Rattle.cc_base.specs.Names.{compare_names}
use Rattle.cc_graph.specs.Places.{name_at, imports_at}
use Rattle.cc_graph.proofs.Paths.{IsAmong}

pub names_total : IsTotalOrder compare_names
names_total = on_total encode_utf8_all nat_list_cmp_total

pub same_name : (a b : List ℕ) → bytes_eq a b ≡ true → a ≡ b
same_name a b h = (bytes_decides a b).0 h

pub is_same_name : (a b : List ℕ) → a ≡ b → bytes_eq a b ≡ true
is_same_name a b h = (bytes_decides a b).1 h

-- what the order says of two names
differ_by : (a b : List ℕ) (answer : Ordering) → compare_names a b ≡ answer → is_eq answer ≡ false
    → bytes_eq a b ≡ false
differ_by a b answer is apart = bytes_eq-order a b ∙ ap is_eq is ∙ apart

same_by : (a b : List ℕ) → compare_names a b ≡ Equal → a ≡ b
same_by a b is = same_name a b (bytes_eq-order a b ∙ ap is_eq is)

pub turned : (a b : List ℕ) → compare_names a b ≡ Less → compare_names b a ≡ Greater
turned a b is = names_total.antisymm b a ∙ ap ordering_reverse is

pub key_at : (imports : ImportMap) (i : ℕ) → i < length imports → get_or (keys_of imports) i [] ≡ name_at imports i
key_at imports i within = get_or-map (λ e. e.0) imports i ([], []) [] within

pub less_at : (imports : ImportMap) → IsImportMap imports → (i j : ℕ) → i < j → j < length imports
    → compare_names (name_at imports i) (name_at imports j) ≡ Less
less_at imports sorted i j below within =
    let P : List ℕ → Type 0 = λ x. compare_names x (get_or (keys_of imports) j []) ≡ Less in
    let Q : List ℕ → Type 0 = λ y. compare_names (name_at imports i) y ≡ Less in
    subst Q (key_at imports j within)
    (subst P (key_at imports i (omega arith))
    (Less-from_sorted compare_names (keys_of imports) i j [] sorted below (omega (arith, length-keys_of imports))))

-- the same of elements at any default
less_sides : (imports : ImportMap) → IsImportMap imports → (k : ℕ) (d : List ℕ × List (List ℕ)) → k + 1 < length imports
    → compare_names (get_or imports k d).0 (get_or imports (k + 1) d).0 ≡ Less
less_sides imports sorted k d more =
    let P : List ℕ × List (List ℕ) → Type 0 = λ x. compare_names x.0 (get_or imports (k + 1) d).0 ≡ Less in
    let Q : List ℕ × List (List ℕ) → Type 0 = λ y. compare_names (name_at imports k) y.0 ≡ Less in
    subst P (get_or_default imports k ([], []) d (omega arith))
    (subst Q (get_or_default imports (k + 1) ([], []) d more) (less_at imports sorted k (k + 1) (omega arith) more))

-- the names at two places are the same exactly where the places are
pub names_apart : (imports : ImportMap) → IsImportMap imports → (i j : ℕ) → i < length imports → j < length imports
    → bytes_eq (name_at imports i) (name_at imports j) ≡ nat_eq i j
names_apart imports sorted i j inside within =
    elim (cases_eq i j) [
      | inl same ↦ is_same_name _ _ (ap (name_at imports) same) ∙ sym (eq-eqb i j same)
      | inr apart ↦
          (elim (cases_lt i j) [
            | inl below ↦ differ_by _ _ Less (less_at imports sorted i j below within) refl
            | inr above ↦ differ_by _ _ Greater (turned _ _ (less_at imports sorted j i (omega arith) inside)) refl
          ])
          ∙ sym (ne_eqb i j apart)
    ]

-- what a binary search for a name finds
pub found_place : (imports : ImportMap) → IsImportMap imports → (name : List ℕ) (r : Result ℕ ℕ)
    → IsSearchInRange r (length imports)
    → IsBinarySearchResult (λ m. compare_names m.0 name) imports r
    → MatchOption (result_ok r)
    ((place : ℕ) → place < length imports → bytes_eq (name_at imports place) name ≡ false)
    (λ found. (found < length imports) × ((place : ℕ) → place < length imports
    → bytes_eq (name_at imports place) name ≡ nat_eq place found))
found_place imports sorted name (Ok found) within is =
    let same : name_at imports found ≡ name = same_by _ _ (is ([], [])) in (
      within,
      λ place inside. ap (bytes_eq (name_at imports place)) (sym same)
          ∙ names_apart imports sorted place found inside within,
    )
found_place imports sorted name (Err gap) within is =
    let parts = is (searchable_from_sorted names_total (λ m. m.0) imports name
    (λ k d low more.
    ap is_lt (turned _ _ (less_sides imports sorted k d more)))) in
    λ place inside.
    elim (cases_lt place gap) [
      | inl before ↦ differ_by _ _ Less (parts.0 place ([], []) (omega arith) before) refl
      | inr after ↦ differ_by _ _ Greater (parts.1 place ([], []) after inside) refl
    ]

-- what stands at a place is what the name there has
pub lookup_at : (imports : ImportMap) → IsImportMap imports → (i : ℕ) → i < length imports
    → lookup (bytes_eq (name_at imports i)) imports ≡ Some (imports_at imports i)
lookup_at imports sorted i within =
    lookup_from_place nat_list_eq_equiv imports i (name_at imports i) (imports_at imports i)
    (IsDistinct-from_apart bytes_eq (keys_of imports)
    (λ j k d below inside.
    let last : k < length imports = omega (arith, length-keys_of imports) in
    let P : List ℕ → Type 0 = λ x. bytes_eq x (get_or (keys_of imports) k d) ≡ false in
    let Q : List ℕ → Type 0 = λ y. bytes_eq (name_at imports j) y ≡ false in
    subst P (sym (get_or-map (λ e. e.0) imports j ([], []) d (omega arith)))
    (subst Q (sym (get_or-map (λ e. e.0) imports k ([], []) d last))
    (names_apart imports sorted j k (omega arith) last ∙ ne_eqb j k (omega arith)))))
    (slice_get-get_or imports i ([], []) within)

pub imports_by_name : (imports : ImportMap) → IsImportMap imports → (i : ℕ) (to : List ℕ) → i < length imports
    → does_import imports (name_at imports i) to ≡ list_any (bytes_eq to) (imports_at imports i)
unfolding does_import
imports_by_name imports sorted i to within = ap (λ o. list_any (bytes_eq to) (unwrap_or o []))
    (lookup_at imports sorted i within)

pub present_at : (imports : ImportMap) → IsImportMap imports → (i : ℕ) → i < length imports
    → is_present imports (name_at imports i) ≡ true
present_at imports sorted i within = ap is_some (lookup_at imports sorted i within)

-- a name among those of the modules has a place
pub place_among : (imports : ImportMap) (name : List ℕ) → IsAmong name (keys_of imports)
    → (i : ℕ) × (i < length imports) × (name_at imports i ≡ name)
place_among [] name among = absurd among
place_among (entry ∷ rest) name (inl same) = (0, omega arith, same)
place_among (entry ∷ rest) name (inr among) =
    let (i, within, same) = place_among rest name among in (suc i, omega arith, same)

pub present_among : (imports : ImportMap) (name : List ℕ) → is_present imports name ≡ true
    → IsAmong name (keys_of imports)
present_among [] name present = cc
present_among (entry ∷ rest) name present =
    elim (cases_Bool (bytes_eq name entry.0)) [
      | inl same ↦ inl (sym (same_name name entry.0 same))
      | inr other ↦ inr (present_among rest name (rw other at present))
    ]
