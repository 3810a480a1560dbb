-- The last of names that differ.
use Rattle.std.proofs.Common.{◌≡◌, ℕ, suc, Bool, true, false, not, ◌==◌, List, [], ◌∷◌, ◌++◌, length, Option, Some, refl, sym, ap, ◌∙◌, arith}
use Rattle.std.specs.Prelude.{is_some, if◌then◌else◌}
use Rattle.std.specs.List.{IsDistinct}
use Rattle.std.specs.Str.{bytes_eq}
use Rattle.std.proofs.lemmas.Bool.Decides.{nat_tests}
use Rattle.indexmap.specs.IndexSet.{insert_key}
use Rattle.cc_submission_reading.specs.Submitting.{last_of}
use Rattle.cc_submission_reading.proofs.ItemFronts.{absent_before}

pub last_pushed : (names : List (List ℕ)) (name : List ℕ) → last_of (names ++ name ∷ []) ≡ Some name
last_pushed [] name = refl
last_pushed (first ∷ []) name = refl
last_pushed (first ∷ second ∷ names) name = last_pushed (second ∷ names) name

some_last : (name : List ℕ) (names : List (List ℕ)) → is_some (last_of (name ∷ names)) ≡ true
some_last name [] = refl
some_last name (next ∷ names) = some_last next names

not_true : (result : Bool) → true ≡ not result → result ≡ false
not_true true h = cc
not_true false h = refl

not_false : (result : Bool) → false ≡ not result → result ≡ true
not_false true h = refl
not_false false h = cc

not_zero : (n : ℕ) → (suc n == 0) ≡ false
not_zero n = grind (arith, nat_tests)

-- there is no last name exactly where there is none
pub none_last : (names : List (List ℕ)) (last : Option (List ℕ)) (result : Bool) → last ≡ last_of names → is_some last ≡ not result
    → result ≡ (length names == 0)
none_last [] last result is told = not_false result (sym (ap is_some is) ∙ told)
none_last (name ∷ names) last result is told =
    not_true result (sym (some_last name names) ∙ sym (ap is_some is) ∙ told) ∙ sym (not_zero (length names))

-- a name that differs from all is put last
pub put_last : (names : List (List ℕ)) (name : List ℕ) (new : List (List ℕ)) → IsDistinct bytes_eq (names ++ name ∷ [])
    → new ≡ insert_key bytes_eq names name → new ≡ names ++ name ∷ []
put_last names name new differ is =
    is ∙ ap (λ test. if test then names else names ++ name ∷ []) (absent_before names name differ)
