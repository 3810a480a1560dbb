-- What a search for a name finds, in a list whose keys rise.
use Rattle.std.proofs.Common.{◌≡◌, ℕ, zero, suc, ◌+◌, ◌<◌, List, [], ◌∷◌, length, map, get_or, slice_get, Option, Some, None, Result, Ok, Err, false, inl, inr, refl, sym, ap, subst, ◌∙◌, arith}
use Rattle.std.specs.Cmp.Lexicographic.{bytes_decides}
use Rattle.std.specs.List.Sorted.{IsStrictlySortedBy, IsBinarySearchResult, IsSearchInRange}
use Rattle.std.specs.Ordering.{is_eq, is_lt}
use Rattle.std.specs.Result.{result_ok}
use Rattle.std.specs.declared.cmp.Ordering.{Ordering}
use Rattle.std.specs.declared.cmp.Ordering.TheVariants.{Less, Equal, Greater}
use Rattle.std.proofs.lemmas.Bool.{cases_lt}
use Rattle.std.proofs.lemmas.Cmp.{tied_itself}
use Rattle.std.proofs.lemmas.List.{get_or-map, length-map}
use Rattle.std.proofs.lemmas.List.Sorted.{searchable_from_sorted}
use Rattle.std.proofs.lemmas.Map.Keys.{Less-from_sorted}
use Rattle.std.proofs.lemmas.Option.{slice_get_cases, same_Some}
use Rattle.cc_base.specs.NameTexts.{bytes_eq-order}
use Rattle.cc_base.specs.Names.{compare_names}
use Rattle.cc_graph.specs.Graph.{IsImportMap}
use Rattle.cc_graph.specs.Places.{name_at}
use Rattle.cc_graph.proofs.NameLemmas.{names_total, turned}
use Rattle.cc_judge.specs.declared.importing.Importing.{Importing}
use Rattle.cc_judge.specs.KnownGraphs.{entries_of}
use Rattle.cc_import_reasoning.specs.Circles.{IsPlaceOf}
use Rattle.std.specs.Map.{keys_of}

same_names : (one other : List ℕ) → compare_names one other ≡ Equal → one ≡ other
same_names one other is = (bytes_decides one other).0 (bytes_eq-order one other ∙ ap is_eq is)

key_of : {X : Type 0} (key : X → List ℕ) (xs : List X) (i : ℕ) (x : X) → i < length xs → get_or (map key xs) i [] ≡ key (get_or xs i x)
key_of key xs i x within = get_or-map key xs i x [] within

searchable : {X : Type 0} (key : X → List ℕ) (xs : List X) → IsStrictlySortedBy compare_names (map key xs)
    → (k : ℕ) (x : X) → k + 1 < length xs → is_lt (compare_names (key (get_or xs (k + 1) x)) (key (get_or xs k x))) ≡ false
searchable key xs sorted k x more =
    let P : List ℕ → Type 0 = λ n. is_lt (compare_names n (key (get_or xs k x))) ≡ false in
    let Q : List ℕ → Type 0 = λ n. is_lt (compare_names (get_or (map key xs) (k + 1) []) n) ≡ false in
    subst P (key_of key xs (k + 1) x more)
    (subst Q (key_of key xs k x (omega arith))
    (ap is_lt (turned _ _ (Less-from_sorted compare_names (map key xs) k (k + 1) [] sorted (omega arith) (omega (arith, more, length-map xs key))))))

abbrev IsFoundAt : {X : Type 0} → (X → List ℕ) → List X → List ℕ → Option ℕ → Type 0
IsFoundAt key xs name (Some at) = (at < length xs) × (get_or (map key xs) at [] ≡ name)
IsFoundAt key xs name None = (place : ℕ) → place < length xs → get_or (map key xs) place [] ≡ name → ⊥

found_at : {X : Type 0} (key : X → List ℕ) (xs : List X) → IsStrictlySortedBy compare_names (map key xs)
    → (name : List ℕ) (r : Result ℕ ℕ) → IsSearchInRange r (length xs)
    → IsBinarySearchResult (λ m. compare_names (key m) name) xs r → IsFoundAt key xs name (result_ok r)
found_at key xs sorted name (Ok at) within is =
    elim (slice_get_cases xs at).1 [
      | inl (x, below, found, same) ↦ (below, key_of key xs at x below ∙ same_names (key (get_or xs at x)) name (is x))
      | inr (past, none) ↦ absurd (omega (arith, within))
    ]
found_at key xs sorted name (Err gap) within is =
    let parts = is (searchable_from_sorted names_total key xs name (λ k x low more. searchable key xs sorted k x more)) in
    λ place inside here.
    elim (slice_get_cases xs place).1 [
      | inl (x, below, found, same) ↦
          (let tied : compare_names (key (get_or xs place x)) name ≡ Equal =
          subst (λ n. compare_names n name ≡ Equal) (sym here ∙ key_of key xs place x below) (tied_itself names_total name) in
          elim (cases_lt place gap) [
            | inl early ↦ (let other : compare_names (key (get_or xs place x)) name ≡ Less = parts.0 place x (omega arith) early in apart_less tied other)
            | inr late ↦ (let other : compare_names (key (get_or xs place x)) name ≡ Greater = parts.1 place x late below in apart_greater tied other)
          ])
      | inr (past, none) ↦ absurd (omega (arith, inside))
    ]
  where
    apart_less : {o : Ordering} → o ≡ Equal → o ≡ Less → ⊥
    apart_less e f = cc

    apart_greater : {o : Ordering} → o ≡ Equal → o ≡ Greater → ⊥
    apart_greater e f = cc

-- modules by name
abbrev name_of : Importing → List ℕ
name_of it = it.name

names_are : (modules : List Importing) → keys_of (entries_of modules) ≡ map name_of modules
names_are [] = refl
names_are (first ∷ modules) = ap (λ names. first.name ∷ names) (names_are modules)

name_is : (modules : List Importing) (place : ℕ) → place < length modules → get_or (map name_of modules) place [] ≡ name_at (entries_of modules) place
name_is [] place low = absurd (omega arith)
name_is (first ∷ modules) zero low = refl
name_is (first ∷ modules) (suc place) low = name_is modules place (omega arith)

pub as_many : (modules : List Importing) → length (entries_of modules) ≡ length modules
as_many modules = length-map modules (λ one. (one.name, one.sources.items))

pub found_place : (modules : List Importing) → IsImportMap (entries_of modules) → (name : List ℕ) (r : Result ℕ ℕ) → IsSearchInRange r (length modules)
    → IsBinarySearchResult (λ m. compare_names m.name name) modules r → IsPlaceOf (entries_of modules) name (result_ok r)
found_place modules sorted name r within is =
    by (result_ok r) (found_at name_of modules (subst (IsStrictlySortedBy compare_names) (names_are modules) sorted) name r within is)
  where
    by : (o : Option ℕ) → IsFoundAt name_of modules name o → IsPlaceOf (entries_of modules) name o
    by (Some at) (low, same) = (let count = as_many modules in omega arith, sym (name_is modules at low) ∙ same)
    by None none = λ place low same.
        none place (let count = as_many modules in omega arith) (name_is modules place (let count = as_many modules in omega arith) ∙ same)

pub stands_at : (modules : List Importing) (at : ℕ) (one : Importing) → slice_get modules at ≡ Some one
    → (at < length (entries_of modules)) × (name_at (entries_of modules) at ≡ one.name)
stands_at [] at one is = cc
stands_at (first ∷ modules) zero one is = (omega arith, ap name_of (same_Some first one is))
stands_at (first ∷ modules) (suc at) one is = let (low, same) = stands_at modules at one is in (omega arith, same)
