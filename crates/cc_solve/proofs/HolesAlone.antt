-- A set that is one hole alone.
use Rattle.std.proofs.Common.{◌≡◌, ℕ, suc, List, [], ◌∷◌, length, Option, Some, None, slice_get, MatchOption, refl, sym}
use Rattle.std.proofs.Common.{ap, ◌∙◌, subst}
use Rattle.cc_capture.specs.declared.var.Elem.{Elem}
use Rattle.cc_capture.specs.declared.var.Elem.TheVariants.{Hole}
use Rattle.cc_capture.specs.Rising.{placed}
use Rattle.cc_capture.specs.Sets.{Set, Member, empty, insert, same_list}
use Rattle.cc_core.specs.Substitution.{single}
use Rattle.cc_core.proofs.Moving.{Member-single, Member-single_itself}

single_list : (e : Elem) → (single e).list ≡ e ∷ []
unfolding insert empty placed
single_list e = refl

pub not_one : (s : Set) (hole : ℕ) → s ≡ single (Hole hole) → (length s.list ≡ 1 → ⊥) → ⊥
not_one s hole is other = other (ap (λ (t : Set). length t.list) is ∙ ap length (single_list (Hole hole)))

pub one_is_there : (s : Set) (hole : ℕ) → s ≡ single (Hole hole) → slice_get s.list 0 ≡ None → ⊥
one_is_there s hole is none =
    some_none (sym (ap (λ (t : Set). slice_get t.list 0) is ∙ ap (λ xs. slice_get xs 0) (single_list (Hole hole))) ∙ none)
  where
    some_none : {e : Elem} → Some e ≡ None → ⊥
    some_none same = cc

first_alone : (xs : List Elem) (e : Elem) → length xs ≡ 1 → slice_get xs 0 ≡ Some e → xs ≡ e ∷ []
first_alone [] e long first = cc
first_alone (x ∷ []) e long first = let same : x ≡ e = cc in ap (λ y. y ∷ []) same
first_alone (x ∷ y ∷ xs) e long first = absurd (too_long long)
  where
    too_long : suc (suc (length xs)) ≡ 1 → ⊥
    too_long long = cc

pub singles : (x y : Elem) → single x ≡ single y → x ≡ y
singles x y same = Member-single x y (subst (Member x) same (Member-single_itself x))

by_answer : (s : Set) (e : Elem) (r : Option ℕ) → s ≡ single e → MatchOption r ((hole : ℕ) → e ≡ Hole hole → ⊥) (λ hole. e ≡ Hole hole)
    → MatchOption r ((hole : ℕ) → s ≡ single (Hole hole) → ⊥) (λ hole. s ≡ single (Hole hole))
by_answer s e (Some hole) is found = is ∙ ap single found
by_answer s e None is none = λ hole same. none hole (singles e (Hole hole) (sym is ∙ same))

pub one_is_hole : (s : Set) (e : Elem) (r : Option ℕ) → length s.list ≡ 1 → slice_get s.list 0 ≡ Some e → MatchOption r ((hole : ℕ) → e ≡ Hole hole → ⊥) (λ hole. e ≡ Hole hole)
    → MatchOption r ((hole : ℕ) → s ≡ single (Hole hole) → ⊥) (λ hole. s ≡ single (Hole hole))
one_is_hole s e r long first found =
    by_answer s e r (same_list s (single e) (first_alone s.list e long first ∙ sym (single_list e))) found
