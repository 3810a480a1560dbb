-- Rows of sets of places.
use Rattle.std.proofs.Common.{◌≡◌, ℕ, ◌+◌, ◌<◌, ◌≤◌, false, List, [], ◌∷◌, ◌++◌, length, get_or, ap, ◌∙◌, inl, inr}
use Rattle.std.proofs.Common.{arith}
use Rattle.std.proofs.lemmas.Bool.{cases_lt}
use Rattle.std.proofs.lemmas.List.{get_or_append_left, get_or_push, get_or_past}
use Rattle.cc_graph.proofs.BitLemmas.{past_words}
use Rattle.cc_graph.specs.Places.{has_bit, has_at}

-- what holds of each element, and of one that is put at the end
pub each_pushed : {X : Type 0} (P : ℕ → X → Type 0) (xs : List X) (y d : X) (n : ℕ) → length xs ≡ n
    → ((k : ℕ) → k < n → P k (get_or xs k d)) → P n y → (k : ℕ) → k < n + 1 → P k (get_or (xs ++ y ∷ []) k d)
each_pushed P xs y d n len old new k below =
    elim (cases_lt k n) [
      | inl low ↦ rw (get_or_append_left xs (y ∷ []) d k (omega arith)) (old k low)
      | inr at ↦ let is : k ≡ n = omega arith in rw (is, get_or_push xs y d n len) new
    ]

-- there is nothing in a row that is not there
pub no_row : (rows : List (List ℕ)) (row place : ℕ) → length rows ≤ row → has_at rows row place ≡ false
no_row rows row place past = ap (λ r. has_bit r place) (get_or_past rows row [] past) ∙ past_words place
