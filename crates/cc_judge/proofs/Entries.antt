-- Entries in order of name: where a search for a name ends, and what stands there.
use Rattle.std.proofs.Common.{◌≡◌, ℕ, ◌+◌, ◌<◌, false, List, [], ◌∷◌, length, get_or, Some, None}
use Rattle.std.specs.Prelude.{suc}
use Rattle.std.proofs.Common.{Result, Ok, Err, ap, ◌∙◌, sym, subst, refl, inl, inr, arith}
use Rattle.std.proofs.lemmas.Bool.{cases_lt, or_parts, false_from_ne_true}
use Rattle.std.proofs.lemmas.List.{get_or-map}
use Rattle.std.proofs.lemmas.List.Sorted.{searchable_from_sorted}
use Rattle.std.proofs.lemmas.Map.Entries.{length-keys_of}
use Rattle.std.proofs.lemmas.Map.Keys.{Less-from_sorted}
use Rattle.std.proofs.lemmas.Option.{slice_get_cases, slice_get-map}
use Rattle.std.specs.Cmp.{tied_itself}
use Rattle.std.specs.Cmp.Lexicographic.{bytes_decides}
use Rattle.std.specs.List.{list_any, slice_get}
use Rattle.std.specs.List.Sorted.{IsStrictlySortedBy, IsBinarySearchResult, IsSearchInRange}
use Rattle.std.specs.Map.{keys_of, lookup}
use Rattle.std.specs.Option.{MatchOption, option_map}
use Rattle.std.specs.Ordering.{is_eq, is_lt, ordering_reverse}
use Rattle.std.specs.Result.{MatchResult, result_ok}
use Rattle.std.specs.Str.{bytes_eq}
use Rattle.std.specs.declared.cmp.Ordering.TheVariants.{Less, Equal, Greater}
use Rattle.cc_base.specs.NameTexts.{bytes_eq-order}
use Rattle.cc_base.specs.Names.{compare_names}
use Rattle.cc_graph.proofs.NameLemmas.{names_total, turned}
use Rattle.cc_graph.proofs.OrderLemmas.{among_listed}
use Rattle.cc_graph.proofs.Paths.{IsAmong}
use Rattle.cc_judge.specs.Places.{IsGap, IsAbsentKey}

pub same_names : (a b : List ℕ) → compare_names a b ≡ Equal → a ≡ b
same_names a b is = (bytes_decides a b).0 (bytes_eq-order a b ∙ ap is_eq is)

pub turned_back : (a b : List ℕ) → compare_names a b ≡ Greater → compare_names b a ≡ Less
turned_back a b is = names_total.antisymm b a ∙ ap ordering_reverse is

pub key_of : {X : Type 0} (entries : List (List ℕ × X)) (i : ℕ) (entry : List ℕ × X) → i < length entries
    → get_or (keys_of entries) i [] ≡ (get_or entries i entry).0
key_of entries i entry within = get_or-map (λ e. e.0) entries i entry [] within

pub less_keys : {X : Type 0} (entries : List (List ℕ × X)) → IsStrictlySortedBy compare_names (keys_of entries)
    → (i j : ℕ) → i < j → j < length entries
    → compare_names (get_or (keys_of entries) i []) (get_or (keys_of entries) j []) ≡ Less
less_keys entries sorted i j below within =
    Less-from_sorted compare_names (keys_of entries) i j [] sorted below (omega (arith, length-keys_of entries))

searchable : {X : Type 0} (entries : List (List ℕ × X)) → IsStrictlySortedBy compare_names (keys_of entries)
    → (k : ℕ) (entry : List ℕ × X) → k + 1 < length entries
    → is_lt (compare_names (get_or entries (k + 1) entry).0 (get_or entries k entry).0) ≡ false
searchable entries sorted k entry more =
    let P : List ℕ → Type 0 = λ x. is_lt (compare_names x (get_or entries k entry).0) ≡ false in
    let Q : List ℕ → Type 0 = λ y. is_lt (compare_names (get_or (keys_of entries) (k + 1) []) y) ≡ false in
    subst P (key_of entries (k + 1) entry more)
    (subst Q (key_of entries k entry (omega arith))
    (ap is_lt (turned _ _ (less_keys entries sorted k (k + 1) (omega arith) more))))

-- what a binary search for a name finds
pub found_key : {X : Type 0} (entries : List (List ℕ × X)) → IsStrictlySortedBy compare_names (keys_of entries)
    → (name : List ℕ) (r : Result ℕ ℕ) → IsSearchInRange r (length entries)
    → IsBinarySearchResult (λ m. compare_names m.0 name) entries r
    → MatchResult r (λ at. slice_get (keys_of entries) at ≡ Some name) (λ gap. IsGap (keys_of entries) name gap)
found_key entries sorted name (Ok at) within is =
    elim (slice_get_cases entries at).1 [
      | inl (entry, below, found, same) ↦
          let P : List ℕ → Type 0 = λ x. compare_names x name ≡ Equal in
          let here : entry.0 ≡ name = same_names entry.0 name (subst P (ap (λ e. e.0) same) (is entry)) in
          slice_get-map (λ e. e.0) entries at ∙ ap (option_map (λ e. e.0)) found ∙ ap Some here
      | inr (past, none) ↦ absurd (omega (arith, within))
    ]
found_key entries sorted name (Err gap) within is =
    let parts = is (searchable_from_sorted names_total (λ m. m.0) entries name
    (λ k entry low more. searchable entries sorted k entry more)) in
    record {
      within = omega (arith, within, length-keys_of entries);
      before = λ place earlier.
          elim (slice_get_cases entries place).1 [
            | inl (entry, below, found, same) ↦
                let P : List ℕ → Type 0 = λ x. compare_names name x ≡ Greater in
                subst P (sym (key_of entries place entry below))
                (turned (get_or entries place entry).0 name (parts.0 place entry (omega arith) earlier))
            | inr (past, none) ↦ absurd (omega (arith, within))
          ];
      after = λ place later inside.
          elim (slice_get_cases entries place).1 [
            | inl (entry, below, found, same) ↦
                let P : List ℕ → Type 0 = λ x. compare_names name x ≡ Less in
                subst P (sym (key_of entries place entry below))
                (turned_back (get_or entries place entry).0 name (parts.1 place entry later below))
            | inr (past, none) ↦ absurd (omega (arith, length-keys_of entries))
          ];
    }

-- what is listed has a place
pub place_of_among : (keys : List (List ℕ)) (name : List ℕ) → IsAmong name keys
    → (place : ℕ) × (place < length keys) × (get_or keys place [] ≡ name)
place_of_among [] name among = absurd among
place_of_among (key ∷ keys) name (inl same) = (0, omega arith, same)
place_of_among (key ∷ keys) name (inr among) =
    let (place, within, same) = place_of_among keys name among in (suc place, omega arith, same)

no_gap_at : (keys : List (List ℕ)) (name : List ℕ) (gap : ℕ) → IsGap keys name gap → (place : ℕ) → place < length keys
    → get_or keys place [] ≡ name → ⊥
no_gap_at keys name gap is place within same =
    let P : List ℕ → Type 0 = λ x. compare_names name x ≡ Equal in
    let tied : compare_names name (get_or keys place []) ≡ Equal =
    subst P (sym same) (tied_itself names_total name) in
    elim (cases_lt place gap) [
      | inl before ↦ let other : compare_names name (get_or keys place []) ≡ Greater = is.before place before in cc
      | inr after ↦ let other : compare_names name (get_or keys place []) ≡ Less = is.after place after within in cc
    ]

-- where there is a gap for the name, it is none of the keys
pub absent_from_gap : (keys : List (List ℕ)) (name : List ℕ) (gap : ℕ) → IsGap keys name gap → IsAbsentKey keys name
absent_from_gap keys name gap is =
    false_from_ne_true (list_any (bytes_eq name) keys)
    (λ listed.
    let (place, within, same) = place_of_among keys name (among_listed keys name listed) in
    no_gap_at keys name gap is place within same)

-- a name that is none of the keys has no entry
pub lookup_absent : {X : Type 0} (entries : List (List ℕ × X)) (name : List ℕ) → IsAbsentKey (keys_of entries) name
    → lookup (bytes_eq name) entries ≡ None
lookup_absent [] name absent = refl
lookup_absent (first ∷ rest) name absent =
    let parts = or_parts (bytes_eq name first.0) (list_any (bytes_eq name) (keys_of rest)) absent in
    rw parts.0 (lookup_absent rest name parts.1)

-- a search for a name, without the gap
pub found_or_absent : (keys : List (List ℕ)) (name : List ℕ) (r : Result ℕ ℕ)
    → MatchResult r (λ at. slice_get keys at ≡ Some name) (λ gap. IsGap keys name gap)
    → MatchOption (result_ok r) (IsAbsentKey keys name) (λ at. slice_get keys at ≡ Some name)
found_or_absent keys name (Ok at) found = found
found_or_absent keys name (Err gap) found = absent_from_gap keys name gap found
