-- What is found first is the least broken node, and its derivation is not valid; where nothing is found, it is valid.
use Rattle.std.proofs.Common.{◌≡◌, ℕ, List, [], ◌∷◌, Some, None, refl, ap, sym, ◌∙◌, subst}
use Rattle.cc_core.specs.Terms.{Term}
use Rattle.cc_core.specs.Contexts.{Context}
use Rattle.cc_core.specs.Derivations.{Derivation, IsValidTyping}
use Rattle.cc_derivation.specs.Numbers.{own_number}
use Rattle.cc_derivation.specs.Broken.{broken, IsLeast}
use Rattle.cc_derivation.specs.Rows.{TypeOf}
use Rattle.cc_derivation.specs.ValidityLaws.{RiseWithin}
use Rattle.cc_derivation.proofs.BrokenNodes.{valid_typings}
use Rattle.cc_derivation.proofs.RisingNumbers.{numbers_rise, first_is_least}
use Rattle.cc_validity.specs.Waiting.{first_or}

none_first : (xs : List ℕ) → None ≡ first_or xs None → xs ≡ []
none_first [] h = refl
none_first (x ∷ xs) h = cc

some_first : (n : ℕ) (xs : List ℕ) → Some n ≡ first_or xs None → (rest : List ℕ) × (xs ≡ n ∷ rest)
some_first n [] h = cc
some_first n (x ∷ xs) h = let same : x ≡ n = cc in (xs, ap (λ m. m ∷ xs) same)

no_first : (n : ℕ) (rest : List ℕ) → n ∷ rest ≡ [] → ⊥
no_first n rest h = cc

module _ (g : Context) (t : Term) (d : Derivation) where
  pub whole_found : None ≡ first_or (broken 0 (TypeOf g t) d) None → broken 0 (TypeOf g t) d ≡ []
  whole_found h = none_first (broken 0 (TypeOf g t) d) h

  pub valid_found : None ≡ first_or (broken 0 (TypeOf g t) d) None → IsValidTyping g t d
  valid_found h = (valid_typings 0 g t d).0 (none_first (broken 0 (TypeOf g t) d) h)

  pub least_found : (n : ℕ) → Some n ≡ first_or (broken 0 (TypeOf g t) d) None → IsLeast n (broken 0 (TypeOf g t) d)
  least_found n h =
      let first = some_first n (broken 0 (TypeOf g t) d) h in
      let rises : RiseWithin 0 (n ∷ first.0) (own_number 0 d) = subst (λ l. RiseWithin 0 l (own_number 0 d)) first.1 (numbers_rise 0 (TypeOf g t) d) in
      subst (IsLeast n) (sym first.1) (first_is_least 0 (own_number 0 d) n first.0 rises)

  pub not_valid : (n : ℕ) → Some n ≡ first_or (broken 0 (TypeOf g t) d) None → IsValidTyping g t d → ⊥
  not_valid n h valid =
      let first = some_first n (broken 0 (TypeOf g t) d) h in
      no_first n first.0 (sym first.1 ∙ (valid_typings 0 g t d).1 valid)
