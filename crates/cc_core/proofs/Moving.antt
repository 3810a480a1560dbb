-- Actions that move variables.
use Rattle.std.proofs.Common.{◌≡◌, ℕ, inl, inr, refl, sym, ap, ◌∙◌, subst}
use Rattle.cc_capture.specs.declared.var.Var.{Var}
use Rattle.cc_capture.specs.declared.var.Elem.{Elem}
use Rattle.cc_capture.specs.declared.var.Elem.TheVariants.{Var as Variable, Cap, Hole}
use Rattle.cc_capture.specs.Sets.{Set, Member, empty, union, flat_image}
use Rattle.cc_capture.proofs.Membership.{Member-insert, Member-empty}
use Rattle.cc_capture.proofs.Images.{flat_image-empty, flat_image-insert}
use Rattle.cc_capture.proofs.Unions.{union-empty}
use Rattle.cc_core.specs.Shapes.{TypeVariable}
use Rattle.cc_core.specs.Traversal.{keeping, composed}
use Rattle.cc_core.specs.Substitution.{single, moved_element, moving}
use Rattle.cc_core.specs.Occurrences.{agreement, IsAskedOf, on_variables}
use Rattle.cc_core.proofs.Actions.{same_actions}
use Rattle.cc_core.proofs.Conditions.{GivesHere, Brings}
use Rattle.cc_core.proofs.Sorts.{MeetsIn, MeetsIn-here, Sort, Syntax, acted, acted-acted, acted-congruent, acted-keeping}

-- sets with one element
pub flat_image-of_single : (f : Elem → Set) (e : Elem) → flat_image f (single e) ≡ f e
flat_image-of_single f e = flat_image-insert f e empty ∙ ap (union (f e)) (flat_image-empty f) ∙ union-empty (f e)

pub Member-single : (e x : Elem) → Member e (single x) → e ≡ x
Member-single e x h =
    elim ((Member-insert e x empty).0 h) as (λ _. e ≡ x) [ inl same ↦ same | inr none ↦ absurd (Member-empty e none) ]

pub Member-single_itself : (e : Elem) → Member e (single e)
Member-single_itself e = (Member-insert e e empty).1 (inl refl)

pub moved_element-moved_element : (f g : Var → Var) (e : Elem)
    → moved_element f (moved_element g e) ≡ moved_element (λ v. f (g v)) e
moved_element-moved_element f g (Variable v) = refl
moved_element-moved_element f g Cap = refl
moved_element-moved_element f g (Hole n) = refl

pub moved_element-identity : (e : Elem) → moved_element (λ v. v) e ≡ e
moved_element-identity (Variable v) = refl
moved_element-identity Cap = refl
moved_element-identity (Hole n) = refl

-- two moves in a row are one
pub composed-moving : (f g : ℕ → Var → Var) → composed (moving f) (moving g) ≡ moving (λ d v. f d (g d v))
composed-moving f g =
    same_actions (composed (moving f) (moving g)) (moving (λ d v. f d (g d v)))
    (λ d e. flat_image-of_single ((moving f).element d) (moved_element (g d) e) ∙ ap single (moved_element-moved_element (f d) (g d) e))
    (λ d v. refl)
    (λ d v. refl)

pub moving-identity : moving (λ d v. v) ≡ keeping
moving-identity =
    same_actions (moving (λ d v. v)) keeping (λ d e. ap single (moved_element-identity e)) (λ d v. refl) (λ d v. refl)

pub same_moves : (f g : ℕ → Var → Var) → ((d : ℕ) (v : Var) → f d v ≡ g d v) → moving f ≡ moving g
same_moves f g p i = moving (λ d v. p d v i)

-- moves agree where they agree on each variable
agree_at : (f g : Var → Var) (e : Elem) → IsAskedOf (λ v. f v ≡ g v) e → moved_element f e ≡ moved_element g e
agree_at f g (Variable v) m = ap (λ w. Variable w) m
agree_at f g Cap m = refl
agree_at f g (Hole n) m = refl

module _ (f g : ℕ → Var → Var) where
  moves_agree : GivesHere (on_variables (λ d v. f d v ≡ g d v)) (agreement (moving f) (moving g))
  moves_agree = record {
    element = λ d e m. ap single (agree_at (f d) (g d) e m);
    shape = λ d v m. ap (λ w. TypeVariable w) m;
    variable = λ d v m. m;
  }

  pub moving-congruent : (sort : Sort) (d : ℕ) (x : Syntax sort)
      → MeetsIn sort (on_variables (λ d v. f d v ≡ g d v)) d x → acted sort (moving f) d x ≡ acted sort (moving g) d x
  moving-congruent sort d x m =
      acted-congruent sort (moving f) (moving g) d x (MeetsIn-here sort _ _ moves_agree d x m)

  -- two moves in a row are one
  pub moving-moving : (sort : Sort) (d : ℕ) (x : Syntax sort)
      → acted sort (moving f) d (acted sort (moving g) d x) ≡ acted sort (moving (λ d v. f d (g d v))) d x
  moving-moving sort d x =
      acted-acted sort (moving f) (moving g) d x ∙ ap (λ a. acted sort a d x) (composed-moving f g)

-- a move that leaves each variable that occurs leaves all
pub moving-still : (f : ℕ → Var → Var) (sort : Sort) (d : ℕ) (x : Syntax sort)
    → MeetsIn sort (on_variables (λ d v. f d v ≡ v)) d x → acted sort (moving f) d x ≡ x
moving-still f sort d x m =
    moving-congruent f (λ d v. v) sort d x m ∙ ap (λ a. acted sort a d x) moving-identity ∙ acted-keeping sort d x

-- what holds of each variable that is moved to holds of each variable afterwards
asked_single : (asked : Var → Type 0) (f : Var → Var) (e : Elem) → IsAskedOf (λ v. asked (f v)) e → (x : Elem)
    → Member x (single (moved_element f e)) → IsAskedOf asked x
asked_single asked f e m x h = subst (IsAskedOf asked) (sym (Member-single x (moved_element f e) h)) (asked_moved e m)
  where
    asked_moved : (y : Elem) → IsAskedOf (λ v. asked (f v)) y → IsAskedOf asked (moved_element f y)
    asked_moved (Variable v) m = m
    asked_moved Cap m = tt
    asked_moved (Hole n) m = tt

pub moving_brings : (f : ℕ → Var → Var) (asked : ℕ → Var → Type 0)
    → Brings (moving f) (on_variables (λ d v. asked d (f d v))) (on_variables asked)
moving_brings f asked = record {
  element = λ d e m. asked_single (asked d) (f d) e m;
  shape = λ d v m. m;
  variable = λ d v m. m;
}
