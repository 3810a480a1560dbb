-- Marking the members of filled sets, and judging what is asked.
use Rattle.std.proofs.Common.{◌≡◌, ◌⊎◌, ℕ, zero, suc, Bool, true, false, ◌&&◌, List, [], ◌∷◌, ◌++◌, map, length}
use Rattle.std.proofs.Common.{slice_get, refl, sym, ◌∙◌, subst, inl, inr}
use Rattle.std.proofs.lemmas.List.{map-id}
use Rattle.cc_capture.specs.declared.var.Elem.{Elem}
use Rattle.cc_capture.specs.Rising.{is_listed}
use Rattle.cc_capture.specs.Sets.{Set, Member, contains, empty}
use Rattle.cc_capture.proofs.Membership.{Member-empty}
use Rattle.cc_core.specs.Substitution.{single, filled_element, filled_set}
use Rattle.cc_core.proofs.Moving.{Member-single, Member-single_itself}
use Rattle.cc_checking.specs.Fillings.{Filling}
use Rattle.cc_sets.specs.Marking.{HasRoomFor, MarksThose, IsThatMissing}
use Rattle.cc_sets.specs.Reaching.{IsMissing}
use Rattle.cc_sets.proofs.Markings.{marks_then, marks_as, marks_none, listed_last, listed_before, listed_itself}
use Rattle.cc_sets.proofs.Markings.{HasRoom-same}
use Rattle.cc_checking_laws.proofs.LeastFillings.{Member-filled, Member-from_filled}
use Rattle.cc_solve.specs.Solutions.{filling_of, set_or_none}

-- what becomes of the elements of a list, and the right set does not have
abbrev pub IsFilledMissing : Filling → List Elem → Set → Elem → Type 0
IsFilledMissing f xs right e = ((x : Elem) × (is_listed x xs ≡ true) × Member e (filled_element f x)) × (Member e right → ⊥)

pub filled_begin : (f : Filling) (right : Set) (old : List Bool) → MarksThose (IsFilledMissing f [] right) old old true
filled_begin f right old = marks_none _ old (λ e fact. let h : false ≡ true = fact.0.1 in cc)

pub filled_more : (f : Filling) (xs : List Elem) (x : Elem) (right : Set) (old middle new : List Bool) (a b : Bool)
    → MarksThose (IsFilledMissing f xs right) old middle a → MarksThose (IsMissing (filled_element f x) right) middle new b
    → MarksThose (IsFilledMissing f (xs ++ x ∷ []) right) old new (a && b)
filled_more f xs x right old middle new a b =
    marks_then (IsFilledMissing f xs right) (IsMissing (filled_element f x) right) (IsFilledMissing f (xs ++ x ∷ []) right) old middle new a b
    (λ e fact.
    elim (listed_last fact.0.0 x xs fact.0.1) as (λ _. IsFilledMissing f xs right e ⊎ IsMissing (filled_element f x) right e) [
      | inl before ↦ inl ((fact.0.0, before, fact.0.2), fact.1)
      | inr last ↦ inr (subst (λ y. Member e (filled_element f y)) last fact.0.2, fact.1)
    ])
    (λ e fact. ((fact.0.0, listed_before fact.0.0 x xs fact.0.1, fact.0.2), fact.1))
    (λ e fact. ((x, listed_itself x xs, fact.0), fact.1))

listed_as_member : (s : Set) (e : Elem) → is_listed e s.list ≡ true → Member e s
unfolding contains
listed_as_member s e h = h

member_as_listed : (s : Set) (e : Elem) → Member e s → is_listed e s.list ≡ true
unfolding contains
member_as_listed s e h = h

pub filled_end : (f : Filling) (s right : Set) (xs : List Elem) (old new : List Bool) (a : Bool) → map (λ x. x) xs ≡ s.list
    → MarksThose (IsFilledMissing f xs right) old new a → MarksThose (IsMissing (filled_set f s) right) old new a
filled_end f s right xs old new a all one =
    let is : xs ≡ s.list = sym (map-id xs) ∙ all in
    marks_as (IsFilledMissing f xs right) (IsMissing (filled_set f s) right) old new a
    (λ e fact.
    (Member-filled f fact.0.0 e s (listed_as_member s fact.0.0 (subst (λ ys. is_listed fact.0.0 ys ≡ true) is fact.0.1)) fact.0.2, fact.1))
    (λ e fact.
    let from = Member-from_filled f e s fact.0 in
    ((from.0, subst (λ ys. is_listed from.0 ys ≡ true) (sym is) (member_as_listed s from.0 from.1), from.2), fact.1))
    one

-- there is room for what becomes of each element
pub filled_room : (f : Filling) (s : Set) (old new : List Bool) (x : Elem) → length new ≡ length old → HasRoomFor old (filled_set f s) → Member x s
    → HasRoomFor new (filled_element f x)
filled_room f s old new x same room here e m = HasRoom-same old new e same (room e (Member-filled f x e s here m))

-- one element that is no hole
pub marks_single : (e : Elem) (right : Set) (old new : List Bool) (a : Bool) → MarksThose (IsThatMissing e right) old new a → MarksThose (IsMissing (single e) right) old new a
marks_single e right old new a =
    marks_as (IsThatMissing e right) (IsMissing (single e) right) old new a
    (λ x fact. (subst (λ y. Member y (single e)) (sym fact.0) (Member-single_itself e), fact.1))
    (λ x fact. (Member-single x e fact.0, fact.1))

-- no set, so nothing to be marked
pub marks_nothing : (right : Set) (old : List Bool) → MarksThose (IsMissing empty right) old old true
marks_nothing right old = marks_none _ old (λ e fact. Member-empty e fact.0)

-- the set of a hole
pub set_of_hole : (sets : List Set) (hole : ℕ) → set_or_none (slice_get sets hole) ≡ filling_of sets hole
set_of_hole [] hole = refl
set_of_hole (s ∷ sets) zero = refl
set_of_hole (s ∷ sets) (suc hole) = set_of_hole sets hole
