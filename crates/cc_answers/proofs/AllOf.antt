-- What holds of all items of a list, and of those up to one.
use Rattle.std.proofs.Common.{◌≡◌, ℕ, zero, suc, ◌+◌, ◌<◌, ◌≤◌, List, [], ◌∷◌, ◌++◌, length, map, take, get_or, sym, ap, ◌∙◌, subst, arith}
use Rattle.std.specs.List.{AllByRecursion}
use Rattle.std.proofs.lemmas.List.{take_more, take_all}

pub all_push : {A : Type 0} (P : A → Type 0) (xs : List A) (x : A) → AllByRecursion P xs → P x → AllByRecursion P (xs ++ x ∷ [])
all_push P [] x all one = (one, tt)
all_push P (y ∷ xs) x all one = (all.0, all_push P xs x all.1 one)

pub all_more : {A : Type 0} (P : A → Type 0) (xs : List A) (at : ℕ) (x : A) → at < length xs → x ≡ get_or xs at x → AllByRecursion P (take at xs) → P x
    → AllByRecursion P (take (at + 1) xs)
all_more P xs at x within is all one =
    subst (AllByRecursion P) (sym (take_more xs at x within ∙ ap (λ y. take at xs ++ y ∷ []) (sym is))) (all_push P (take at xs) x all one)

pub all_whole : {A : Type 0} (P : A → Type 0) (xs : List A) (at : ℕ) → length xs ≤ at → AllByRecursion P (take at xs) → AllByRecursion P xs
all_whole P xs at whole all = subst (AllByRecursion P) (take_all at xs whole) all

pub all_get : {A : Type 0} (P : A → Type 0) (xs : List A) (at : ℕ) (x : A) → at < length xs → x ≡ get_or xs at x → AllByRecursion P xs → P x
all_get P [] at x within is all = absurd (omega (arith, within))
all_get P (y ∷ xs) zero x within is all = subst P (sym is) all.0
all_get P (y ∷ xs) (suc at) x within is all = all_get P xs at x (omega (arith, within)) is all.1

-- what holds of all items holds of what is made of them
pub all_mapped : {A B : Type 0} (P : B → Type 0) (xs : List A) (f : A → B) → AllByRecursion (λ x. P (f x)) xs → AllByRecursion P (map f xs)
all_mapped P [] f all = tt
all_mapped P (x ∷ xs) f all = (all.0, all_mapped P xs f all.1)

pub all_unmapped : {A B : Type 0} (P : B → Type 0) (xs : List A) (f : A → B) → AllByRecursion P (map f xs) → AllByRecursion (λ x. P (f x)) xs
all_unmapped P [] f all = tt
all_unmapped P (x ∷ xs) f all = (all.0, all_unmapped P xs f all.1)
