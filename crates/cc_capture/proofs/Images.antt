-- How images behave: one after another, of one function and another, and of the operations' sets.
use Rattle.std.proofs.Common.{◌≡◌, inl, inr, refl, sym, ap, ◌∙◌, subst}
use Rattle.cc_capture.specs.declared.var.Elem.{Elem}
use Rattle.cc_capture.specs.Sets.{Set, Member, empty, insert, union, image, flat_image}
use Rattle.cc_capture.proofs.Membership.{same_members, Member-empty, Member-insert, Member-union, Member-image}
use Rattle.cc_capture.proofs.Membership.{Member-flat_image}

-- what a function makes of a member is a member of the image
pub Member-image_of : (f : Elem → Elem) (e : Elem) (s : Set) → Member e s → Member (f e) (image f s)
Member-image_of f e s h = (Member-image f (f e) s).1 (e, h, refl)

pub image-image : (f g : Elem → Elem) (s : Set) → image f (image g s) ≡ image (λ e. f (g e)) s
image-image f g s =
    same_members _ _
    (λ e h.
    let outer = (Member-image f e (image g s)).0 h in
    let inner = (Member-image g outer.0 s).0 outer.1 in
    (Member-image (λ x. f (g x)) e s).1 (inner.0, inner.1, ap f inner.2 ∙ outer.2))
    (λ e h.
    let both = (Member-image (λ x. f (g x)) e s).0 h in
    (Member-image f e (image g s)).1 (g both.0, Member-image_of g both.0 s both.1, both.2))

pub image-identity : (s : Set) → image (λ e. e) s ≡ s
image-identity s =
    same_members _ _
    (λ e h. let from = (Member-image (λ x. x) e s).0 h in subst (λ x. Member x s) from.2 from.1)
    (λ e h. Member-image_of (λ x. x) e s h)

-- functions that agree on the members give one image
pub image-congruent : (f g : Elem → Elem) (s : Set) → ((e : Elem) → Member e s → f e ≡ g e) → image f s ≡ image g s
image-congruent f g s agree =
    same_members _ _
    (λ e h. let from = (Member-image f e s).0 h in (Member-image g e s).1
    (from.0, from.1, sym (agree from.0 from.1) ∙ from.2))
    (λ e h. let from = (Member-image g e s).0 h in (Member-image f e s).1
    (from.0, from.1, agree from.0 from.1 ∙ from.2))

pub image-empty : (f : Elem → Elem) → image f empty ≡ empty
image-empty f =
    same_members _ _
    (λ e h. let from = (Member-image f e empty).0 h in absurd (Member-empty from.0 from.1))
    (λ e h. absurd (Member-empty e h))

pub image-insert : (f : Elem → Elem) (x : Elem) (s : Set) → image f (insert x s) ≡ insert (f x) (image f s)
image-insert f x s =
    same_members _ _
    (λ e h.
    let from = (Member-image f e (insert x s)).0 h in
    (Member-insert e (f x) (image f s)).1
    (elim ((Member-insert from.0 x s).0 from.1) [
      | inl same ↦ inl (sym from.2 ∙ ap f same)
      | inr there ↦ inr ((Member-image f e s).1 (from.0, there, from.2))
    ]))
    (λ e h.
    (Member-image f e (insert x s)).1
    (elim ((Member-insert e (f x) (image f s)).0 h) [
      | inl same ↦ (x, (Member-insert x x s).1 (inl refl), sym same)
      | inr there ↦
          let from = (Member-image f e s).0 there in (from.0, (Member-insert from.0 x s).1 (inr from.1), from.2)
    ]))

pub image-union : (f : Elem → Elem) (a b : Set) → image f (union a b) ≡ union (image f a) (image f b)
image-union f a b =
    same_members _ _
    (λ e h.
    let from = (Member-image f e (union a b)).0 h in
    (Member-union e (image f a) (image f b)).1
    (elim ((Member-union from.0 a b).0 from.1) [
      | inl left ↦ inl ((Member-image f e a).1 (from.0, left, from.2))
      | inr right ↦ inr ((Member-image f e b).1 (from.0, right, from.2))
    ]))
    (λ e h.
    (Member-image f e (union a b)).1
    (elim ((Member-union e (image f a) (image f b)).0 h) [
      | inl left ↦ let from = (Member-image f e a).0 left in (from.0, (Member-union from.0 a b).1 (inl from.1), from.2)
      | inr right ↦
          let from = (Member-image f e b).0 right in (from.0, (Member-union from.0 a b).1 (inr from.1), from.2)
    ]))

-- the same of functions that make sets
pub flat_image-flat_image : (f g : Elem → Set) (s : Set)
    → flat_image f (flat_image g s) ≡ flat_image (λ e. flat_image f (g e)) s
flat_image-flat_image f g s =
    same_members _ _
    (λ e h.
    let outer = (Member-flat_image f e (flat_image g s)).0 h in
    let inner = (Member-flat_image g outer.0 s).0 outer.1 in
    (Member-flat_image (λ x. flat_image f (g x)) e s).1
    (inner.0, inner.1, (Member-flat_image f e (g inner.0)).1 (outer.0, inner.2, outer.2)))
    (λ e h.
    let outer = (Member-flat_image (λ x. flat_image f (g x)) e s).0 h in
    let inner = (Member-flat_image f e (g outer.0)).0 outer.2 in
    (Member-flat_image f e (flat_image g s)).1
    (inner.0, (Member-flat_image g inner.0 s).1 (outer.0, outer.1, inner.1), inner.2))

-- a function on elements as one that makes sets of one member
pub flat_image-single : (f : Elem → Elem) (s : Set) → flat_image (λ e. insert (f e) empty) s ≡ image f s
flat_image-single f s =
    same_members _ _
    (λ e h.
    let from = (Member-flat_image (λ x. insert (f x) empty) e s).0 h in
    elim ((Member-insert e (f from.0) empty).0 from.2) [
      | inl same ↦ (Member-image f e s).1 (from.0, from.1, sym same)
      | inr there ↦ absurd (Member-empty e there)
    ])
    (λ e h.
    let from = (Member-image f e s).0 h in
    (Member-flat_image (λ x. insert (f x) empty) e s).1
    (from.0, from.1, (Member-insert e (f from.0) empty).1 (inl (sym from.2))))

pub flat_image-congruent : (f g : Elem → Set) (s : Set) → ((e : Elem) → Member e s → f e ≡ g e)
    → flat_image f s ≡ flat_image g s
flat_image-congruent f g s agree =
    same_members _ _
    (λ e h.
    let from = (Member-flat_image f e s).0 h in
    (Member-flat_image g e s).1 (from.0, from.1, subst (λ t. Member e t) (agree from.0 from.1) from.2))
    (λ e h.
    let from = (Member-flat_image g e s).0 h in
    (Member-flat_image f e s).1 (from.0, from.1, subst (λ t. Member e t) (sym (agree from.0 from.1)) from.2))

pub flat_image-union : (f : Elem → Set) (a b : Set) → flat_image f (union a b) ≡ union (flat_image f a) (flat_image f b)
flat_image-union f a b =
    same_members _ _
    (λ e h.
    let from = (Member-flat_image f e (union a b)).0 h in
    (Member-union e (flat_image f a) (flat_image f b)).1
    (elim ((Member-union from.0 a b).0 from.1) [
      | inl left ↦ inl ((Member-flat_image f e a).1 (from.0, left, from.2))
      | inr right ↦ inr ((Member-flat_image f e b).1 (from.0, right, from.2))
    ]))
    (λ e h.
    (Member-flat_image f e (union a b)).1
    (elim ((Member-union e (flat_image f a) (flat_image f b)).0 h) [
      | inl left ↦
          let from = (Member-flat_image f e a).0 left in (from.0, (Member-union from.0 a b).1 (inl from.1), from.2)
      | inr right ↦
          let from = (Member-flat_image f e b).0 right in (from.0, (Member-union from.0 a b).1 (inr from.1), from.2)
    ]))

pub flat_image-empty : (f : Elem → Set) → flat_image f empty ≡ empty
flat_image-empty f =
    same_members _ _
    (λ e h. let from = (Member-flat_image f e empty).0 h in absurd (Member-empty from.0 from.1))
    (λ e h. absurd (Member-empty e h))

pub flat_image-insert : (f : Elem → Set) (x : Elem) (s : Set) → flat_image f (insert x s) ≡ union (f x) (flat_image f s)
flat_image-insert f x s =
    same_members _ _
    (λ e h.
    let from = (Member-flat_image f e (insert x s)).0 h in
    (Member-union e (f x) (flat_image f s)).1
    (elim ((Member-insert from.0 x s).0 from.1) [
      | inl same ↦ inl (subst (λ y. Member e (f y)) same from.2)
      | inr there ↦ inr ((Member-flat_image f e s).1 (from.0, there, from.2))
    ]))
    (λ e h.
    (Member-flat_image f e (insert x s)).1
    (elim ((Member-union e (f x) (flat_image f s)).0 h) [
      | inl made ↦ (x, (Member-insert x x s).1 (inl refl), made)
      | inr there ↦
          let from = (Member-flat_image f e s).0 there in (from.0, (Member-insert from.0 x s).1 (inr from.1), from.2)
    ]))
