-- Putting a text in and taking one out, by places.
use Rattle.std.proofs.Common.{◌≡◌, ◌⊎◌, ℕ, ◌+◌, ◌<◌, ◌≤◌, Bool, true, false, not, if◌then◌else◌, List, [], ◌∷◌, length, set}
use Rattle.std.proofs.Common.{Some, ap, ◌∙◌, sym, subst, refl, inl, inr, arith}
use Rattle.std.proofs.lemmas.Bool.{cases_Bool, or_parts}
use Rattle.std.proofs.lemmas.List.Sums.{sum_by-cons}
use Rattle.std.proofs.lemmas.Option.{same_Some}
use Rattle.std.specs.BTreeMap.{insert_entry}
use Rattle.std.specs.Cmp.{tied_itself}
use Rattle.std.specs.List.{AllByRecursion, list_any, slice_get, insert, remove}
use Rattle.std.specs.List.Sorted.{IsStrictlySortedBy}
use Rattle.std.specs.Map.{keys_of, remove_entry}
use Rattle.std.specs.Ordering.{is_eq}
use Rattle.std.specs.Prelude.{zero, suc}
use Rattle.std.specs.Str.{bytes_eq}
use Rattle.std.specs.declared.cmp.Ordering.{Ordering}
use Rattle.std.specs.declared.cmp.Ordering.TheVariants.{Less, Equal, Greater}
use Rattle.cc_base.specs.NameTexts.{bytes_eq-order}
use Rattle.cc_base.specs.Names.{compare_names}
use Rattle.cc_graph.proofs.NameLemmas.{names_total, turned, is_same_name}
use Rattle.cc_judge.specs.Places.{IsGap, IsAbsentKey}
use Rattle.cc_judge.proofs.Entries.{turned_back}
use Rattle.cc_verdicts.specs.PresentTexts.{Texts, ArePresent, others_present}

later_gap : (key : List ℕ) (keys : List (List ℕ)) (name : List ℕ) (gap : ℕ) → IsGap (key ∷ keys) name (suc gap)
    → IsGap keys name gap
later_gap key keys name gap is =
    record {
      within = omega (arith, is.within);
      before = λ place earlier. is.before (suc place) (omega arith);
      after = λ place later inside. is.after (suc place) (omega arith) (omega arith);
    }

-- at its gap a new name is put in
pub insert_at_gap : (texts : Texts) (name text : List ℕ) (gap : ℕ) → IsGap (keys_of texts) name gap
    → insert texts gap (name, text) ≡ insert_entry compare_names texts name text
insert_at_gap [] name text zero is = refl
insert_at_gap [] name text (suc gap) is = absurd (omega (arith, is.within))
insert_at_gap (first ∷ rest) name text zero is =
    let less : compare_names name first.0 ≡ Less = is.after 0 (omega arith) (omega arith) in rw less refl
insert_at_gap (first ∷ rest) name text (suc gap) is =
    let more : compare_names name first.0 ≡ Greater = is.before 0 (omega arith) in
    rw more
    (ap (λ es. first ∷ es) (insert_at_gap rest name text gap (later_gap first.0 (keys_of rest) name gap is)))

below_later : (P : List ℕ → Type 0) (keys : List (List ℕ)) (at : ℕ) (name : List ℕ) → AllByRecursion P keys
    → slice_get keys at ≡ Some name → P name
below_later P [] at name all stands = cc
below_later P (key ∷ keys) zero name all stands = subst P (same_Some key name stands) all.0
below_later P (key ∷ keys) (suc at) name all stands = below_later P keys at name all.1 stands

-- at its place a name takes another text
pub set_at_name : (texts : Texts) (name text : List ℕ) (at : ℕ) → ArePresent texts
    → slice_get (keys_of texts) at ≡ Some name
    → set texts at (name, text) ≡ insert_entry compare_names texts name text
unfolding IsStrictlySortedBy
set_at_name [] name text at sorted stands = cc
set_at_name (first ∷ rest) name text zero sorted stands =
    let same : first.0 ≡ name = same_Some first.0 name stands in
    let tied : compare_names name first.0 ≡ Equal =
    ap (compare_names name) same ∙ tied_itself names_total name in
    rw tied (ap (λ n. (n, text) ∷ rest) (sym same))
set_at_name (first ∷ rest) name text (suc at) sorted stands =
    let less : compare_names first.0 name ≡ Less =
    below_later (λ y. compare_names first.0 y ≡ Less) (keys_of rest) at name sorted.0 stands in
    rw (turned first.0 name less) (ap (λ es. first ∷ es) (set_at_name rest name text at sorted.1 stands))

apart_by : (a b : List ℕ) → compare_names a b ≡ Less → bytes_eq b a ≡ false
apart_by a b less = bytes_eq-order b a ∙ ap is_eq (turned a b less)

-- at its place a name is taken out
pub remove_at_name : (texts : Texts) (name : List ℕ) (at : ℕ) → ArePresent texts
    → slice_get (keys_of texts) at ≡ Some name → remove texts at ≡ remove_entry (bytes_eq name) texts
unfolding IsStrictlySortedBy
remove_at_name [] name at sorted stands = cc
remove_at_name (first ∷ rest) name zero sorted stands =
    rw (is_same_name name first.0 (sym (same_Some first.0 name stands))) refl
remove_at_name (first ∷ rest) name (suc at) sorted stands =
    let less : compare_names first.0 name ≡ Less =
    below_later (λ y. compare_names first.0 y ≡ Less) (keys_of rest) at name sorted.0 stands in
    rw (apart_by first.0 name less) (ap (λ es. first ∷ es) (remove_at_name rest name at sorted.1 stands))

pub remove_absent : (texts : Texts) (name : List ℕ) → IsAbsentKey (keys_of texts) name
    → texts ≡ remove_entry (bytes_eq name) texts
remove_absent [] name absent = refl
remove_absent (first ∷ rest) name absent =
    let parts = or_parts (bytes_eq name first.0) (list_any (bytes_eq name) (keys_of rest)) absent in
    rw parts.0 (ap (λ es. first ∷ es) (remove_absent rest name parts.1))

-- ---- the names stay in order
cases_order : (o : Ordering) → (o ≡ Less) ⊎ ((o ≡ Equal) ⊎ (o ≡ Greater))
cases_order Less = inl refl
cases_order Equal = inr (inl refl)
cases_order Greater = inr (inr refl)

all_weaker : (P Q : List ℕ → Type 0) (keys : List (List ℕ)) → ((key : List ℕ) → P key → Q key) → AllByRecursion P keys
    → AllByRecursion Q keys
all_weaker P Q [] weaker all = tt
all_weaker P Q (key ∷ keys) weaker all = (weaker key all.0, all_weaker P Q keys weaker all.1)

all_inserted : (P : List ℕ → Type 0) (texts : Texts) (name text : List ℕ) → P name → AllByRecursion P (keys_of texts)
    → AllByRecursion P (keys_of (insert_entry compare_names texts name text))
all_inserted P [] name text here all = (here, tt)
all_inserted P (first ∷ rest) name text here all =
    elim (cases_order (compare_names name first.0)) [
      | inl less ↦ rw less (here, all)
      | inr others ↦
          elim others [
            | inl same ↦ rw same all
            | inr more ↦ rw more (all.0, all_inserted P rest name text here all.1)
          ]
    ]

pub inserted_sorted : (texts : Texts) (name text : List ℕ) → ArePresent texts
    → ArePresent (insert_entry compare_names texts name text)
unfolding IsStrictlySortedBy
inserted_sorted [] name text sorted = (tt, tt)
inserted_sorted (first ∷ rest) name text sorted =
    elim (cases_order (compare_names name first.0)) [
      | inl less ↦
          rw less (
            (
              less,
              all_weaker (λ y. compare_names first.0 y ≡ Less) (λ y. compare_names name y ≡ Less) (keys_of rest)
                  (λ y below. names_total.trans name first.0 y less below) sorted.0,
            ),
            sorted,
          )
      | inr others ↦
          elim others [
            | inl same ↦ rw same sorted
            | inr more ↦
                rw more (
                  all_inserted (λ y. compare_names first.0 y ≡ Less) rest name text
                      (turned_back name first.0 more) sorted.0,
                  inserted_sorted rest name text sorted.1,
                )
          ]
    ]

all_removed : (P : List ℕ → Type 0) (texts : Texts) (name : List ℕ) → AllByRecursion P (keys_of texts)
    → AllByRecursion P (keys_of (remove_entry (bytes_eq name) texts))
all_removed P [] name all = tt
all_removed P (first ∷ rest) name all =
    elim (cases_Bool (bytes_eq name first.0)) [
      | inl same ↦ rw same all.1
      | inr other ↦ rw other (all.0, all_removed P rest name all.1)
    ]

pub removed_sorted : (texts : Texts) (name : List ℕ) → ArePresent texts
    → ArePresent (remove_entry (bytes_eq name) texts)
unfolding IsStrictlySortedBy
removed_sorted [] name sorted = tt
removed_sorted (first ∷ rest) name sorted =
    elim (cases_Bool (bytes_eq name first.0)) [
      | inl same ↦ rw same sorted.1
      | inr other ↦
          rw other
          (all_removed (λ y. compare_names first.0 y ≡ Less) rest name sorted.0, removed_sorted rest name sorted.1)
    ]

-- ---- how many there are
pub removed_fewer : (texts : Texts) (name : List ℕ) → length (remove_entry (bytes_eq name) texts) ≤ length texts
removed_fewer [] name = omega arith
removed_fewer (first ∷ rest) name =
    let fewer : length (remove_entry (bytes_eq name) rest) ≤ length rest = removed_fewer rest name in
    elim (cases_Bool (bytes_eq name first.0)) [
      | inl same ↦ rw same (omega arith)
      | inr other ↦ rw other (omega arith)
    ]

-- what a name counts
abbrev weight : Bool → ℕ
weight same = if not same then 1 else 0

weight_low : (same : Bool) → weight same ≤ 1
weight_low true = omega arith
weight_low false = omega arith

others_cons : (first : List ℕ × List ℕ) (rest : Texts) (name : List ℕ)
    → others_present name (first ∷ rest) ≡ weight (bytes_eq name first.0) + others_present name rest
others_cons first rest name = sum_by-cons (λ one. if not (bytes_eq name one.0) then 1 else 0) first rest

pub others_absent : (texts : Texts) (name : List ℕ) → IsAbsentKey (keys_of texts) name
    → others_present name texts ≡ length texts
others_absent [] name absent = refl
others_absent (first ∷ rest) name absent =
    let parts = or_parts (bytes_eq name first.0) (list_any (bytes_eq name) (keys_of rest)) absent in
    let more : others_present name rest ≡ length rest = others_absent rest name parts.1 in
    others_cons first rest name ∙ (rw parts.0 (omega arith))

pub others_fewer : (texts : Texts) (name : List ℕ) → others_present name texts ≤ length texts
others_fewer [] name = omega arith
others_fewer (first ∷ rest) name =
    omega (arith, others_fewer rest name, others_cons first rest name, weight_low (bytes_eq name first.0))

-- a name that is present is no other one
pub others_present_less : (texts : Texts) (name : List ℕ) (at : ℕ) → slice_get (keys_of texts) at ≡ Some name
    → others_present name texts < length texts
others_present_less [] name at stands = cc
others_present_less (first ∷ rest) name zero stands =
    let none : weight (bytes_eq name first.0) ≡ 0 =
    ap weight (is_same_name name first.0 (sym (same_Some first.0 name stands))) in
    omega (arith, others_fewer rest name, others_cons first rest name, none)
others_present_less (first ∷ rest) name (suc at) stands =
    omega (
      arith,
      others_present_less rest name at stands,
      others_cons first rest name,
      weight_low (bytes_eq name first.0),
    )
