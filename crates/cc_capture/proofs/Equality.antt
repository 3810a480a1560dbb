-- The tests of equality decide it.
use Rattle.std.proofs.Common.{◌≡◌, ◌↔◌, true, List, [], ◌∷◌, refl, sym, ap, ◌∙◌}
use Rattle.std.proofs.lemmas.Bool.{and_parts, and_from, eqb-true, eq-eqb}
use Rattle.cc_capture.specs.declared.var.Var.{Var}
use Rattle.cc_capture.specs.declared.var.Var.TheVariants.{Bound, Free}
use Rattle.cc_capture.specs.declared.var.Elem.{Elem}
use Rattle.cc_capture.specs.Variables.{same_variable}
use Rattle.cc_capture.specs.ElementOrder.{same_element-true, same_element-itself}
use Rattle.cc_capture.specs.Rising.{same_elements}
use Rattle.cc_capture.specs.Sets.{Set, same_list, same_set}

same_variable-true : (a b : Var) → same_variable a b ≡ true → a ≡ b
unfolding same_variable
same_variable-true (Bound i) (Bound j) e = ap (λ n. Bound n) (eqb-true i j e)
same_variable-true (Free p) (Free q) e = ap (λ n. Free n) (eqb-true p q e)
same_variable-true (Bound i) (Free q) e = cc
same_variable-true (Free p) (Bound j) e = cc

same_variable-itself : (a : Var) → same_variable a a ≡ true
unfolding same_variable
same_variable-itself (Bound i) = eq-eqb i i refl
same_variable-itself (Free p) = eq-eqb p p refl

pub same_variable-decides : (a b : Var) → (same_variable a b ≡ true) ↔ (a ≡ b)
same_variable-decides a b = (same_variable-true a b, λ e. ap (same_variable a) (sym e) ∙ same_variable-itself a)

pub same_elements-true : (xs ys : List Elem) → same_elements xs ys ≡ true → xs ≡ ys
same_elements-true [] [] e = refl
same_elements-true [] (y ∷ ys) e = cc
same_elements-true (x ∷ xs) [] e = cc
same_elements-true (x ∷ xs) (y ∷ ys) e =
    let parts = and_parts _ _ e in
    let first = same_element-true x y parts.0 in
    let rest = same_elements-true xs ys parts.1 in
    λ i. first i ∷ rest i

pub same_elements-itself : (xs : List Elem) → same_elements xs xs ≡ true
same_elements-itself [] = refl
same_elements-itself (x ∷ xs) = and_from _ _ (same_element-itself x) (same_elements-itself xs)

pub same_set-decides : (a b : Set) → (same_set a b ≡ true) ↔ (a ≡ b)
unfolding same_set
same_set-decides a b = (
  λ e. same_list a b (same_elements-true a.list b.list e),
  λ e. ap (λ s. same_elements a.list s.list) (sym e)
      ∙ same_elements-itself a.list,
)
