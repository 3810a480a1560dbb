-- Two lists of binds have no first difference exactly where they are one.
use Rattle.std.proofs.Common.{◌≡◌, ◌↔◌, ℕ, suc, Bool, true, false, cond, List, [], ◌∷◌, Option, Some, None, refl, ap, subst, ◌∙◌}
use Rattle.std.specs.Option.{option_map}
use Rattle.std.proofs.lemmas.Bool.{and_parts, and_from}
use Rattle.std.proofs.lemmas.Slice.Eq.{bytes_eq-Decides}
use Rattle.cc_core.proofs.Comparisons.{same_type-decides}
use Rattle.cc_certificate_judging.specs.CertificateParts.{CertificateBind}
use Rattle.cc_vouching.specs.VouchedDefinitions.{same_bind, first_difference}
use Rattle.cc_vouching.specs.VouchingLaws.{DifferencesAreFound}

same_bind-true : (a b : CertificateBind) → same_bind a b ≡ true → a ≡ b
same_bind-true a b e =
    let parts = and_parts _ _ e in
    let names = (bytes_eq-Decides a.0 b.0).0 parts.0 in
    let types = (same_type-decides a.1 b.1).0 parts.1 in
    λ i. (names i, types i)

same_bind-itself : (a : CertificateBind) → same_bind a a ≡ true
same_bind-itself a = and_from _ _ ((bytes_eq-Decides a.0 a.0).1 refl) ((same_type-decides a.1 a.1).1 refl)

-- the number of a difference behind the first binds
abbrev later : Option ℕ → Option ℕ
later o = option_map (λ number. suc number) o

none_later : (o : Option ℕ) → later o ≡ None → o ≡ None
none_later None e = refl
none_later (Some n) e = cc

both_same : (b : Bool) (o : Option ℕ) → cond b (later o) (Some 1) ≡ None → (b ≡ true) × (o ≡ None)
both_same true o e = (refl, none_later o e)
both_same false o e = cc

none_different : (one other : List CertificateBind) → first_difference one other ≡ None → one ≡ other
none_different [] [] e = refl
none_different [] (b ∷ others) e = cc
none_different (a ∷ ones) [] e = cc
none_different (a ∷ ones) (b ∷ others) e =
    let parts = both_same (same_bind a b) (first_difference ones others) e in
    let first = same_bind-true a b parts.0 in
    let rest = none_different ones others parts.1 in
    λ i. first i ∷ rest i

pub no_difference : (one : List CertificateBind) → first_difference one one ≡ None
no_difference [] = refl
no_difference (a ∷ ones) =
    ap (λ b. cond b (later (first_difference ones ones)) (Some 1)) (same_bind-itself a) ∙ ap later (no_difference ones)

pub differences_found : DifferencesAreFound
differences_found one other =
    (none_different one other, λ e. subst (λ l. first_difference one l ≡ None) e (no_difference one))
