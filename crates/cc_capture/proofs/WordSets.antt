-- The sets that words make, and what the operations on words do to them.
use Rattle.std.proofs.Common.{◌≡◌, ◌↔◌, ℕ, ◌≤◌, Bool, true, false, eqb, List, [], ◌∷◌, length, Result, Ok, Err, inl}
use Rattle.std.proofs.Common.{inr, refl, sym, ap, ◌∙◌, subst, arith}
use Rattle.std.specs.Result.{OnOk, OnErr}
use Rattle.std.specs.Prelude.{slice_get, option_map}
use Rattle.std.proofs.lemmas.Bool.{eq-eqb, ne_eqb, eqb-true, or_cases, or_left, or_right, and_parts, and_from}
use Rattle.std.proofs.lemmas.Bool.{both_ways, not-true, not_from_false}
use Rattle.cc_capture.specs.declared.var.Elem.{Elem}
use Rattle.cc_capture.specs.declared.words.Word.{Word}
use Rattle.cc_capture.specs.Numbers.{element_at}
use Rattle.cc_capture.specs.Words.{elements, numbers, holds, IsSparse, single, joined, without, is_within, same_words}
use Rattle.cc_capture.specs.Sets.{Set, Member, contains, empty, insert, from_list, remove, union, is_subset, same_set}
use Rattle.cc_capture.proofs.ElementNumbers.{element_at-same}
use Rattle.cc_capture.proofs.Membership.{same_members, Member-empty, Member-insert, Member-union, Member-remove}
use Rattle.cc_capture.proofs.Membership.{contains-from_list, is_subset-Member}
use Rattle.cc_capture.proofs.SetLists.{list-from_list}
use Rattle.cc_capture.proofs.Equality.{same_set-decides}
use Rattle.cc_capture.proofs.SparseWords.{IsSparse-joined, IsSparse-without}
use Rattle.cc_capture.proofs.WordElements.{In-numbers, holds-In, held_first, slice_get-elements, is_listed-element}
use Rattle.cc_capture.proofs.WordElements.{is_listed-from_elements, IsRising-words, IsSparse-single, holds-joined}
use Rattle.cc_capture.proofs.WordElements.{holds-single, holds-without, is_within-Covers, is_within-from_Covers}
use Rattle.cc_capture.proofs.WordElements.{same_from_holds, same_words-true, same_words-itself}

-- the set of the elements in words
abbrev pub set_of : List Word → Set
set_of ws = from_list (elements ws)

-- two tests that pass alike
pub alike : (a b : Bool) → (a ≡ true → b ≡ true) → (b ≡ true → a ≡ true) → a ≡ b
alike true b f g = sym (f refl)
alike false true f g = g refl
alike false false f g = refl

-- the set's list is that of the elements
pub list-set_of : (ws : List Word) → IsSparse ws → (set_of ws).list ≡ elements ws
list-set_of ws s = list-from_list (elements ws) (IsRising-words ws s)

-- its members are the elements of the numbers that are held
pub Member-held : (n : ℕ) (ws : List Word) → holds n ws ≡ true → Member (element_at n) (set_of ws)
Member-held n ws h =
    contains-from_list (element_at n) (elements ws) ∙ is_listed-element n (numbers ws) (In-numbers n ws h)

pub held_Member : (e : Elem) (ws : List Word) → IsSparse ws → Member e (set_of ws)
    → (n : ℕ) × (holds n ws ≡ true) × (e ≡ element_at n)
held_Member e ws s h =
    let found = is_listed-from_elements e (numbers ws) (sym (contains-from_list e (elements ws)) ∙ h) in
    (found.0, holds-In found.0 ws s found.1, found.2)

pub holds-Member : (n : ℕ) (ws : List Word) → IsSparse ws → Member (element_at n) (set_of ws) → holds n ws ≡ true
holds-Member n ws s h =
    let found = held_Member (element_at n) ws s h in
    subst (λ m. holds m ws ≡ true) (sym (element_at-same n found.0 found.2)) found.1

pub contains-set_of : (n : ℕ) (ws : List Word) → IsSparse ws → holds n ws ≡ contains (element_at n) (set_of ws)
contains-set_of n ws s = alike _ _ (Member-held n ws) (holds-Member n ws s)

pub set_of-joined : (xs ys : List Word) → IsSparse xs → IsSparse ys
    → set_of (joined xs ys) ≡ union (set_of xs) (set_of ys)
set_of-joined xs ys r s =
    same_members _ _
    (λ e h.
    let found = held_Member e (joined xs ys) (IsSparse-joined xs ys r s) h in
    (Member-union e (set_of xs) (set_of ys)).1
    (elim (or_cases _ _ (sym (holds-joined found.0 xs ys r s) ∙ found.1)) [
      | inl left ↦ inl (subst (λ x. Member x (set_of xs)) (sym found.2) (Member-held found.0 xs left))
      | inr right ↦ inr (subst (λ x. Member x (set_of ys)) (sym found.2) (Member-held found.0 ys right))
    ]))
    (λ e h.
    elim ((Member-union e (set_of xs) (set_of ys)).0 h) [
      | inl left ↦
          let found = held_Member e xs r left in
          subst (λ x. Member x (set_of (joined xs ys))) (sym found.2)
          (Member-held found.0 (joined xs ys) (holds-joined found.0 xs ys r s ∙ or_left _ _ found.1))
      | inr right ↦
          let found = held_Member e ys s right in
          subst (λ x. Member x (set_of (joined xs ys))) (sym found.2)
          (Member-held found.0 (joined xs ys) (holds-joined found.0 xs ys r s ∙ or_right _ _ found.1))
    ])

pub set_of-single : (n : ℕ) → n ≤ 12884901888 → set_of (single n ∷ []) ≡ insert (element_at n) empty
set_of-single n within =
    same_members _ _
    (λ e h.
    let found = held_Member e (single n ∷ []) (IsSparse-single n within) h in
    let same : found.0 ≡ n = eqb-true found.0 n (sym (holds-single found.0 n) ∙ found.1) in
    (Member-insert e (element_at n) empty).1 (inl (found.2 ∙ ap element_at same)))
    (λ e h.
    elim ((Member-insert e (element_at n) empty).0 h) [
      | inl same ↦ subst (λ x. Member x (set_of (single n ∷ []))) (sym same)
          (Member-held n (single n ∷ []) (holds-single n n ∙ eq-eqb n n refl))
      | inr there ↦ absurd (Member-empty e there)
    ])

pub set_of-inserted : (n : ℕ) (ws : List Word) → n ≤ 12884901888 → IsSparse ws
    → set_of (joined (single n ∷ []) ws) ≡ insert (element_at n) (set_of ws)
set_of-inserted n ws within s =
    set_of-joined (single n ∷ []) ws (IsSparse-single n within) s
    ∙ ap (λ t. union t (set_of ws)) (set_of-single n within)
    ∙ same_members _ _
    (λ e h.
    (Member-insert e (element_at n) (set_of ws)).1
    (elim ((Member-union e (insert (element_at n) empty) (set_of ws)).0 h) [
      | inl left ↦ elim ((Member-insert e (element_at n) empty).0 left) [
        | inl same ↦ inl same
        | inr there ↦ absurd (Member-empty e there)
      ]
      | inr right ↦ inr right
    ]))
    (λ e h.
    (Member-union e (insert (element_at n) empty) (set_of ws)).1
    (elim ((Member-insert e (element_at n) (set_of ws)).0 h) [
      | inl same ↦ inl ((Member-insert e (element_at n) empty).1 (inl same))
      | inr there ↦ inr there
    ]))

pub set_of-without : (n : ℕ) (ws : List Word) → IsSparse ws → set_of (without n ws) ≡ remove (element_at n) (set_of ws)
set_of-without n ws s =
    same_members _ _
    (λ e h.
    let found = held_Member e (without n ws) (IsSparse-without n ws s) h in
    let both = and_parts _ _ (sym (holds-without found.0 n ws s) ∙ found.1) in
    (Member-remove e (element_at n) (set_of ws)).1 (
      λ same. both_ways _ (not-true _ both.1) (eq-eqb found.0 n (element_at-same found.0 n (sym found.2 ∙ same))),
      subst (λ x. Member x (set_of ws)) (sym found.2) (Member-held found.0 ws both.0),
    ))
    (λ e h.
    let kept = (Member-remove e (element_at n) (set_of ws)).0 h in
    let found = held_Member e ws s kept.1 in
    let other : eqb found.0 n ≡ false = ne_eqb found.0 n (λ same. kept.0 (found.2 ∙ ap element_at same)) in
    subst (λ x. Member x (set_of (without n ws))) (sym found.2)
    (Member-held found.0 (without n ws) (holds-without found.0 n ws s ∙ and_from _ _ found.1 (not_from_false _ other))))

pub is_subset-set_of : (xs ys : List Word) → IsSparse xs → IsSparse ys
    → is_within xs ys ≡ is_subset (set_of xs) (set_of ys)
is_subset-set_of xs ys r s =
    alike _ _
    (λ h. (is_subset-Member (set_of xs) (set_of ys)).1
    (λ e m.
    let found = held_Member e xs r m in
    subst (λ x. Member x (set_of ys)) (sym found.2)
    (Member-held found.0 ys (is_within-Covers xs ys s h found.0 found.1))))
    (λ h. is_within-from_Covers xs ys r s
    (λ n set. holds-Member n ys s ((is_subset-Member (set_of xs) (set_of ys)).0 h (element_at n)
    (Member-held n xs set))))

pub same_set-set_of : (xs ys : List Word) → IsSparse xs → IsSparse ys
    → same_words xs ys ≡ same_set (set_of xs) (set_of ys)
same_set-set_of xs ys r s =
    alike _ _
    (λ h. (same_set-decides (set_of xs) (set_of ys)).1 (ap set_of (same_words-true xs ys h)))
    (λ h.
    let same : set_of xs ≡ set_of ys = (same_set-decides (set_of xs) (set_of ys)).0 h in
    let words : xs ≡ ys =
    same_from_holds xs ys r s
    (λ n. contains-set_of n xs r ∙ ap (contains (element_at n)) same ∙ sym (contains-set_of n ys s)) in
    subst (λ zs. same_words xs zs ≡ true) words (same_words-itself xs))

-- what an insertion leaves, where it may have failed
pub IsSparse-inserted : {T E : Type 0} (r : Result T E) (n : ℕ) (ws new : List Word) → n ≤ 12884901888 → IsSparse ws
    → OnOk r (new ≡ joined (single n ∷ []) ws) → OnErr r (new ≡ ws) → IsSparse new
IsSparse-inserted (Ok u) n ws new within s ok err =
    subst IsSparse (sym ok) (IsSparse-joined (single n ∷ []) ws (IsSparse-single n within) s)
IsSparse-inserted (Err d) n ws new within s ok err = subst IsSparse (sym err) s

pub inserted-set_of : {T E : Type 0} (r : Result T E) (n : ℕ) (ws new : List Word) → n ≤ 12884901888 → IsSparse ws
    → (e : Elem) (a : Set) → element_at n ≡ e → set_of ws ≡ a → OnOk r (new ≡ joined (single n ∷ []) ws)
    → OnOk r (set_of new ≡ insert e a)
inserted-set_of (Ok u) n ws new within s e a is view ok =
    ap set_of ok ∙ set_of-inserted n ws within s ∙ (λ i. insert (is i) (view i))
inserted-set_of (Err d) n ws new within s e a is view ok = ok

-- a set is empty where there is no word
pub empty-set_of : (ws : List Word) → IsSparse ws → (length ws ≡ 0) ↔ (set_of ws ≡ empty)
unfolding from_list
empty-set_of [] s = (λ _. refl, λ _. refl)
empty-set_of (w ∷ ws) s = (
  λ none. absurd (omega arith),
  λ none. let first = held_first w ws s in
      absurd (Member-empty _ (subst (λ t. Member (element_at first.0) t) none (Member-held first.0 (w ∷ ws) first.1))),
)

-- the element at an index is that of the number there
pub slice_get-set_of : (ws : List Word) (a : Set) (i : ℕ) → IsSparse ws → set_of ws ≡ a
    → option_map element_at (slice_get (numbers ws) i) ≡ slice_get a.list i
slice_get-set_of ws a i s view =
    sym (slice_get-elements (numbers ws) i)
    ∙ ap (λ es. slice_get es i) (sym (list-set_of ws s))
    ∙ ap (λ t. slice_get t.list i) view
