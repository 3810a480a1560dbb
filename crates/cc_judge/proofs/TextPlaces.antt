-- The present texts by their places.
use Rattle.std.proofs.Common.{◌≡◌, ℕ, ◌<◌, List, [], length, get_or, Some, ap, ◌∙◌, sym, subst}
use Rattle.std.proofs.Common.{inl, inr, arith}
use Rattle.std.proofs.lemmas.Bool.{cases_eq, cases_lt}
use Rattle.std.proofs.lemmas.Cmp.{nat_list_eq_equiv}
use Rattle.std.proofs.lemmas.Map.Entries.{lookup_from_place, place_from_lookup, length-keys_of}
use Rattle.std.proofs.lemmas.Map.Keys.{IsDistinct-from_apart, Less-from_sorted}
use Rattle.std.proofs.lemmas.Option.{slice_get-get_or, slice_get_within}
use Rattle.std.specs.Cmp.{tied_itself}
use Rattle.std.specs.Cmp.Lexicographic.{bytes_decides}
use Rattle.std.specs.List.{IsDistinct, slice_get}
use Rattle.std.specs.List.Sorted.{IsStrictlySortedBy}
use Rattle.std.specs.Map.{keys_of}
use Rattle.std.specs.Ordering.{is_eq}
use Rattle.std.specs.Str.{bytes_eq}
use Rattle.std.specs.declared.cmp.Ordering.TheVariants.{Less, Equal}
use Rattle.cc_base.specs.NameTexts.{bytes_eq-order}
use Rattle.cc_base.specs.Names.{compare_names}
use Rattle.cc_graph.proofs.NameLemmas.{names_total}
use Rattle.cc_verdicts.specs.PresentTexts.{Texts, ArePresent, text_of}
use Rattle.cc_judge.specs.Places.{name_at, text_at}
use Rattle.cc_judge.proofs.Entries.{key_of, less_keys}
use Rattle.cc_judge.proofs.Lists.{read_at}

pub distinct_keys : {X : Type 0} (entries : List (List ℕ × X)) → IsStrictlySortedBy compare_names (keys_of entries)
    → IsDistinct bytes_eq (keys_of entries)
distinct_keys entries sorted =
    IsDistinct-from_apart bytes_eq (keys_of entries)
    (λ i j d below within.
    bytes_eq-order (get_or (keys_of entries) i d) (get_or (keys_of entries) j d)
    ∙ ap is_eq (Less-from_sorted compare_names (keys_of entries) i j d sorted below within))

-- what stands at a place is what the name there has
pub text_of_place : (texts : Texts) → ArePresent texts → (place : ℕ) → place < length texts
    → text_of texts (name_at texts place) ≡ Some (text_at texts place)
text_of_place texts sorted place within =
    lookup_from_place nat_list_eq_equiv texts place (name_at texts place) (text_at texts place)
    (distinct_keys texts sorted) (slice_get-get_or texts place ([], []) within)

-- the names at two places are the same where the places are
pub one_place : (texts : Texts) → ArePresent texts → (first second : ℕ) → first < length texts
    → second < length texts → name_at texts first ≡ name_at texts second → first ≡ second
one_place texts sorted first second in_first in_second same =
    elim (cases_eq first second) [
      | inl one ↦ one
      | inr apart ↦
          absurd
          (let k : get_or (keys_of texts) first [] ≡ get_or (keys_of texts) second [] =
          key_of texts first ([], []) in_first ∙ same ∙ sym (key_of texts second ([], []) in_second) in
          elim (cases_lt first second) [
            | inl below ↦
                let P : List ℕ → Type 0 = λ x. compare_names x (get_or (keys_of texts) second []) ≡ Less in
                let less = subst P k (less_keys texts sorted first second below in_second) in
                let tied : compare_names (get_or (keys_of texts) second []) (get_or (keys_of texts) second []) ≡ Equal =
                tied_itself names_total (get_or (keys_of texts) second []) in cc
            | inr above ↦
                let P : List ℕ → Type 0 = λ x. compare_names (get_or (keys_of texts) second []) x ≡ Less in
                let less = subst P k (less_keys texts sorted second first (omega arith) in_first) in
                let tied : compare_names (get_or (keys_of texts) second []) (get_or (keys_of texts) second []) ≡ Equal =
                tied_itself names_total (get_or (keys_of texts) second []) in cc
          ])
    ]

-- a present module has a place
pub place_of_name : (texts : Texts) (name text : List ℕ) → text_of texts name ≡ Some text
    → (place : ℕ) × (place < length texts) × (name_at texts place ≡ name) × (text_at texts place ≡ text)
place_of_name texts name text is_text =
    let (place, key, stands, same) = place_from_lookup (bytes_eq name) texts text is_text in
    let entry = read_at texts place (key, text) ([], []) stands in (
      place,
      slice_get_within texts place (key, text) stands,
      ap (λ e. e.0) entry ∙ sym ((bytes_decides name key).0 same),
      ap (λ e. e.1) entry,
    )

-- what a key search finds is a place of the name
pub place_of_key : (texts : Texts) (at : ℕ) (name : List ℕ) → slice_get (keys_of texts) at ≡ Some name
    → (at < length texts) × (name_at texts at ≡ name)
place_of_key texts at name stands =
    let within : at < length (keys_of texts) = slice_get_within (keys_of texts) at name stands in
    let inside : at < length texts = omega (arith, length-keys_of texts) in (
      inside,
      sym (key_of texts at ([], []) inside) ∙ read_at (keys_of texts) at name [] stands,
    )
