-- Lines about tasks, one after another.
use Rattle.std.proofs.Common.{◌≡◌, ℕ, suc, ◌+◌, ◌<◌, ◌≤◌, List, [], ◌∷◌, ◌++◌, map, length, take, get_or, flat_map, sym, ap, ◌∙◌, append_assoc, arith}
use Rattle.std.proofs.lemmas.List.{append-nil, map_push, take_more, take_all, length-map, length-take-le}
use Rattle.std.proofs.lemmas.Simd.{map-map}
use Rattle.std.proofs.lemmas.Grind.{flat_map-append}
use Rattle.cc_replies.specs.TaskTexts.{of_task, by_task}

-- one more line stands behind the others
pub by_task-more : (first : ℕ) (texts : List (List ℕ)) (text : List ℕ)
    → by_task first (texts ++ text ∷ []) ≡ by_task first texts ++ of_task (first + length texts) text ∷ []
by_task-more first [] text = ap (λ n. of_task n text ∷ []) (omega arith)
by_task-more first (one ∷ others) text =
    ap (λ ts. of_task first one ∷ ts)
    (by_task-more (suc first) others text ∙ ap (λ n. by_task (suc first) others ++ of_task n text ∷ []) (omega arith))

-- so it is with the lines of the items up to the next one
pub lines_more : {A : Type 0} (f : List ℕ → List ℕ) (g : A → List ℕ) (items : List A) (at : ℕ) (item : A) (old front new : List ℕ) → at < length items
    → item ≡ get_or items at item → front ≡ old ++ flat_map f (by_task 0 (map g (take at items))) → new ≡ front ++ f (of_task at (g item))
    → new ≡ old ++ flat_map f (by_task 0 (map g (take (at + 1) items)))
lines_more f g items at item old front new within is so_far one =
    let before = take at items in
    let next : take (at + 1) items ≡ before ++ item ∷ [] = take_more items at item within ∙ ap (λ x. before ++ x ∷ []) (sym is) in
    let many : 0 + length (map g before) ≡ at = omega (arith, length-map before g, length-take-le at items (omega (arith, within))) in
    let lines : flat_map f (by_task 0 (map g (take (at + 1) items))) ≡ flat_map f (by_task 0 (map g before)) ++ f (of_task at (g item)) =
    ap (λ xs. flat_map f (by_task 0 (map g xs))) next
    ∙ ap (λ ts. flat_map f (by_task 0 ts)) (map_push g before item)
    ∙ ap (flat_map f) (by_task-more 0 (map g before) (g item))
    ∙ ap (λ n. flat_map f (by_task 0 (map g before) ++ of_task n (g item) ∷ [])) many
    ∙ flat_map-append f (by_task 0 (map g before)) (of_task at (g item) ∷ [])
    ∙ ap (λ t. flat_map f (by_task 0 (map g before)) ++ t) (append-nil (f (of_task at (g item)))) in
    one ∙ ap (λ t. t ++ f (of_task at (g item))) so_far
    ∙ append_assoc old (flat_map f (by_task 0 (map g before))) (f (of_task at (g item))) ∙ ap (λ t. old ++ t) (sym lines)

-- and with those of all
pub lines_whole : {A B : Type 0} (f : List ℕ → List ℕ) (h : B → List ℕ) (k : A → B) (items : List A) (at : ℕ) (old new : List ℕ) → length items ≤ at
    → new ≡ old ++ flat_map f (by_task 0 (map (λ x. h (k x)) (take at items))) → new ≡ old ++ flat_map f (by_task 0 (map h (map k items)))
lines_whole f h k items at old new whole is =
    is ∙ ap (λ xs. old ++ flat_map f (by_task 0 (map (λ x. h (k x)) xs))) (take_all at items whole)
    ∙ ap (λ ts. old ++ flat_map f (by_task 0 ts)) (sym (map-map h k items))
