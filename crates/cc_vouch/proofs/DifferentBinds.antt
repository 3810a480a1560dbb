-- A walk over two lists of binds finds their first difference.
use Rattle.std.proofs.Common.{◌≡◌, ℕ, suc, ◌+◌, ◌<◌, Bool, true, false, cond, List, [], ◌∷◌, map, length, Option, Some, None, refl, sym, ap, subst, ◌∙◌, arith}
use Rattle.std.specs.Option.{option_map}
use Rattle.cc_core.specs.declared.types.Ty.{Ty}
use Rattle.cc_certificate_judging.specs.CertificateParts.{CertificateBind}
use Rattle.cc_vouching.specs.VouchedDefinitions.{same_bind, first_difference}
use Rattle.cc_vouch.specs.BindViews.{bind_of, binds_of, behind, DiffersAs}

behind_zero : (o : Option ℕ) → behind 0 o ≡ o
behind_zero None = refl
behind_zero (Some n) = let e : 0 + n ≡ n = omega arith in ap (λ m. Some m) e

behind_more : (count : ℕ) (o : Option ℕ) → behind count (option_map (λ number. suc number) o) ≡ behind (count + 1) o
behind_more count None = refl
behind_more count (Some n) = let e : count + suc n ≡ count + 1 + n = omega arith in ap (λ m. Some m) e

-- it begins at the front
pub differs_first : (binds known : List (List ℕ × Ty)) → DiffersAs 0 binds known binds known
differs_first binds known = behind_zero (first_difference (binds_of binds) (binds_of known))

-- both have the bind
pub differs_later : (count : ℕ) (ones others more further binds known : List (List ℕ × Ty)) (one other : List ℕ × Ty)
    → ones ≡ one ∷ more → others ≡ other ∷ further → same_bind (bind_of one) (bind_of other) ≡ true
    → DiffersAs count ones others binds known → DiffersAs (count + 1) more further binds known
differs_later count ones others more further binds known one other is also same differs =
    let rest = first_difference (binds_of more) (binds_of further) in
    let here : first_difference (binds_of ones) (binds_of others) ≡ option_map (λ number. suc number) rest =
    (λ i. first_difference (binds_of (is i)) (binds_of (also i)))
    ∙ ap (λ b. cond b (option_map (λ number. suc number) rest) (Some 1)) same in
    sym (behind_more count rest) ∙ sym (ap (behind count) here) ∙ differs

-- one has another bind
pub differs_here : (count : ℕ) (ones others more further binds known : List (List ℕ × Ty)) (one other : List ℕ × Ty)
    → ones ≡ one ∷ more → others ≡ other ∷ further → same_bind (bind_of one) (bind_of other) ≡ false
    → DiffersAs count ones others binds known
    → Some (count + 1) ≡ first_difference (binds_of binds) (binds_of known)
differs_here count ones others more further binds known one other is also same differs =
    let rest = first_difference (binds_of more) (binds_of further) in
    let here : first_difference (binds_of ones) (binds_of others) ≡ Some 1 =
    (λ i. first_difference (binds_of (is i)) (binds_of (also i)))
    ∙ ap (λ b. cond b (option_map (λ number. suc number) rest) (Some 1)) same in
    sym (ap (behind count) here) ∙ differs

-- what is known ends
pub differs_short : (count : ℕ) (ones others more binds known : List (List ℕ × Ty)) (one : List ℕ × Ty)
    → ones ≡ one ∷ more → length others ≡ 0 → DiffersAs count ones others binds known
    → Some (count + 1) ≡ first_difference (binds_of binds) (binds_of known)
differs_short count ones [] more binds known one is short differs =
    sym (ap (λ l. behind count (first_difference (binds_of l) [])) is) ∙ differs
differs_short count ones (other ∷ others) more binds known one is short differs = absurd (omega arith)

-- the binds end
pub differs_end : (count : ℕ) (ones others binds known : List (List ℕ × Ty)) → length ones ≡ 0 → length others ≡ 0
    → DiffersAs count ones others binds known → None ≡ first_difference (binds_of binds) (binds_of known)
differs_end count [] [] binds known none also differs = differs
differs_end count [] (other ∷ others) binds known none also differs = absurd (omega arith)
differs_end count (one ∷ ones) others binds known none also differs = absurd (omega arith)

pub differs_long : (count : ℕ) (ones others binds known : List (List ℕ × Ty)) → length ones ≡ 0
    → (length others ≡ 0 → ⊥) → DiffersAs count ones others binds known
    → Some (count + 1) ≡ first_difference (binds_of binds) (binds_of known)
differs_long count [] [] binds known none also differs = absurd (also refl)
differs_long count [] (other ∷ others) binds known none also differs = differs
differs_long count (one ∷ ones) others binds known none also differs = absurd (omega arith)
