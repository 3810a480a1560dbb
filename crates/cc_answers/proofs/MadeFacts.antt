-- What holds of things that are left where there is to be room, and of one that is kept behind them.
use Rattle.std.proofs.Common.{◌≡◌, Bool, true, false, ℕ, List, [], ◌∷◌, ◌++◌, Global, sym, subst, if◌then◌else◌}
use Rattle.std.specs.List.{AllByRecursion}
use Rattle.std.specs.declared.rc.Rc.{Rc}
use Rattle.cc_answers.specs.declared.made.Made.{Made}
use Rattle.cc_answers.specs.MadeThings.{has_room, left_for, IsKeptBehind}

-- what holds of all holds of those that are left
pub all_left : {T : Type 0} (P : Made T → Type 0) (size : ℕ) (made : List (Made T)) → AllByRecursion P made → AllByRecursion P (left_for size made)
all_left P size [] all = tt
all_left P size (first ∷ rest) all = either (has_room (first ∷ rest) size) (all_left P size rest all.1)
  where
    either : (room : Bool) → AllByRecursion P (left_for size rest) → AllByRecursion P (if room then first ∷ rest else left_for size rest)
    either true less = all
    either false less = less

-- what holds of all values holds of those that are left
pub left_stay : {T : Type 0} (P : T → Type 0) (size : ℕ) (made left : List (Made (Rc T Global))) → left ≡ left_for size made
    → AllByRecursion (λ it. P it.value.value) made → AllByRecursion (λ it. P it.value.value) left
left_stay {T} P size made left is all =
    subst (AllByRecursion (λ (it : Made (Rc T Global)). P it.value.value)) (sym is) (all_left (λ (it : Made (Rc T Global)). P it.value.value) size made all)

-- what holds of all, and of what is kept behind them, holds of all then
pub all_kept : {T : Type 0} (P : T → Type 0) (before : List (Made (Rc T Global))) (value : T) (size : ℕ) (behind : List (Made (Rc T Global)))
    → IsKeptBehind before value size behind → AllByRecursion (λ it. P it.value.value) before → P value
    → AllByRecursion (λ it. P it.value.value) behind
all_kept {T} P before value size behind (new, is, few, are) all one =
    subst (AllByRecursion (λ (it : Made (Rc T Global)). P it.value.value)) (sym is) (all_both before new all (these new are))
  where
    all_both : (xs ys : List (Made (Rc T Global))) → AllByRecursion (λ (it : Made (Rc T Global)). P it.value.value) xs
        → AllByRecursion (λ (it : Made (Rc T Global)). P it.value.value) ys → AllByRecursion (λ (it : Made (Rc T Global)). P it.value.value) (xs ++ ys)
    all_both [] ys first later = later
    all_both (x ∷ xs) ys first later = (first.0, all_both xs ys first.1 later)

    these : (xs : List (Made (Rc T Global))) → AllByRecursion (λ (it : Made (Rc T Global)). (it.value.value ≡ value) × (it.size ≡ size)) xs
        → AllByRecursion (λ (it : Made (Rc T Global)). P it.value.value) xs
    these [] are = tt
    these (x ∷ xs) are = (subst P (sym are.0.0) one, these xs are.1)
