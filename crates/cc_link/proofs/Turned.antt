-- Positions in a list that is turned round.
use Rattle.std.proofs.Common.{◌≡◌, ℕ, zero, suc, ◌<◌, ◌≤◌, List, [], ◌∷◌, ◌++◌, length, get_or, Some, None, inl, inr, refl, sym, ap, ◌∙◌, length-append, arith}
use Rattle.std.specs.Prelude.{reverse}
use Rattle.std.specs.Option.{unwrap_or}
use Rattle.std.proofs.lemmas.Bool.{cases_eq}
use Rattle.std.proofs.lemmas.List.{reverse-append, length-reverse}
use Rattle.cc_capture.specs.declared.var.Var.TheVariants.{Free}
use Rattle.cc_core.specs.Contexts.{lookup}
use Rattle.cc_core.proofs.Lookups.{lookup-newest, lookup-other, lookup-older}
use Rattle.cc_link.specs.ModuleLinks.{Positions, variable_target}

first_position : {A : Type 0} (ys : List A) (x : A) → lookup (ys ++ x ∷ []) zero ≡ Some x
first_position [] x = lookup-newest x []
first_position (y ∷ ys) x = lookup-older y (ys ++ x ∷ []) zero x (first_position ys x)

later_position : {A : Type 0} (ys : List A) (x : A) (p : ℕ) → lookup (ys ++ x ∷ []) (suc p) ≡ lookup ys p
later_position [] x p = lookup-other x [] (suc p) (λ same. omega arith)
later_position (y ∷ ys) x p =
    let longer = length-append ys (x ∷ []) in
    elim (cases_eq p (length ys)) [
      | inl same ↦
          let at : suc p ≡ length (ys ++ x ∷ []) = omega arith in
          ap (lookup (y ∷ (ys ++ x ∷ []))) at ∙ lookup-newest y (ys ++ x ∷ [])
          ∙ sym (ap (lookup (y ∷ ys)) same ∙ lookup-newest y ys)
      | inr other ↦
          let apart : suc p ≡ length (ys ++ x ∷ []) → ⊥ = λ same. other (omega arith) in
          lookup-other y (ys ++ x ∷ []) (suc p) apart ∙ later_position ys x p ∙ sym (lookup-other y ys p other)
    ]

-- what stands at a position, and that nothing stands past the end
lookup_turned : {A : Type 0} (xs : List A) (p : ℕ) (d : A) → p < length xs → lookup (reverse xs) p ≡ Some (get_or xs p d)
lookup_turned [] p d below = absurd (omega arith)
lookup_turned (x ∷ xs) zero d below =
    ap (λ s. lookup s zero) (reverse-append (x ∷ []) xs) ∙ first_position (reverse xs) x
lookup_turned (x ∷ xs) (suc p) d below =
    ap (λ s. lookup s (suc p)) (reverse-append (x ∷ []) xs) ∙ later_position (reverse xs) x p
    ∙ lookup_turned xs p d (omega arith)

nothing_past : {A : Type 0} (xs : List A) (p : ℕ) → length xs ≤ p → lookup xs p ≡ None
nothing_past [] p past = refl
nothing_past (x ∷ xs) p past =
    lookup-other x xs p (λ same. omega arith) ∙ nothing_past xs p (omega arith)

pub stands_there :
    (positions : Positions) (p : ℕ) → p < length positions
    → get_or positions p None ≡ variable_target (reverse positions) (Free p)
stands_there positions p below = sym (ap (λ o. unwrap_or o None) (lookup_turned positions p None below))

pub nothing_there :
    (positions : Positions) (p : ℕ) → length positions ≤ p
    → None ≡ variable_target (reverse positions) (Free p)
nothing_there positions p past =
    let count = length-reverse positions in
    sym (ap (λ o. unwrap_or o None) (nothing_past (reverse positions) p (omega arith)))
