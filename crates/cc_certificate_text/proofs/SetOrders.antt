-- Sets of the elements that stand in a text.
use Rattle.std.proofs.Common.{◌≡◌, ℕ, Bool, true, false, ◌&&◌, List, [], ◌∷◌, map, refl, sym, ap, subst, ◌∙◌, arith, ⊎_elim}
use Rattle.std.specs.List.{AllByRecursion}
use Rattle.std.proofs.lemmas.Bool.{or_left, or_right, or_cases, and_parts, and_from}
use Rattle.cc_capture.specs.declared.var.Elem.{Elem}
use Rattle.cc_capture.specs.Elements.{element_order, same_element}
use Rattle.cc_capture.specs.ElementOrder.{same_element-true, same_element-itself}
use Rattle.cc_capture.specs.Rising.{IsBelow, IsBelowAll, IsRising, is_listed}
use Rattle.cc_capture.specs.Placing.{IsBelowAll-trans}
use Rattle.cc_capture.specs.Sets.{Set, Member, contains, from_list, insert, empty, image}
use Rattle.cc_capture.proofs.Membership.{contains-from_list, Member-image}
use Rattle.cc_capture.proofs.Images.{image-image, image-identity, image-congruent, image-empty, image-insert}
use Rattle.cc_capture.proofs.SetLists.{list-from_list, from_list-list}
use Rattle.cc_certificate_text.specs.LocalNames.{IsNamedElement}
use Rattle.cc_certificate_text.specs.Reading.{Locals, is_less, stands_before, stand_behind, stand_in_order}
use Rattle.cc_certificate_text.proofs.Seen.{seen_element, unseen_element, unseen-seen, less_from, order_in_text}

pub all_of_listed : (P : Elem → Type 0) (xs : List Elem) → AllByRecursion P xs → (e : Elem) → is_listed e xs ≡ true → P e
all_of_listed P [] all e h = cc
all_of_listed P (x ∷ xs) all e h =
    ⊎_elim (λ same. subst P (sym (same_element-true e x same)) all.0) (λ later. all_of_listed P xs all.1 e later)
    (or_cases (same_element e x) (is_listed e xs) h)

pub listed_all : (P : Elem → Type 0) (es : List Elem) → ((e : Elem) → is_listed e es ≡ true → P e) → AllByRecursion P es
listed_all P [] each = tt
listed_all P (e ∷ es) each = (
  each e (or_left (same_element e e) (is_listed e es) (same_element-itself e)),
  listed_all P es (λ x there. each x (or_right (same_element x e) (is_listed x es) there)),
)

-- what holds of the listed elements holds of those of their set
pub all_from_list : (P : Elem → Type 0) (es : List Elem) → AllByRecursion P es → AllByRecursion P (from_list es).list
unfolding contains
all_from_list P es all =
    listed_all P (from_list es).list (λ e h. all_of_listed P es all e (sym (contains-from_list e es) ∙ h))

pub image-from_list : (f : Elem → Elem) (xs : List Elem) → image f (from_list xs) ≡ from_list (map f xs)
unfolding from_list
image-from_list f [] = image-empty f
image-from_list f (x ∷ xs) = image-insert f x (from_list xs) ∙ ap (insert (f x)) (image-from_list f xs)

map_all : (f : Elem → Elem) (xs : List Elem) → AllByRecursion (λ x. f x ≡ x) xs → map f xs ≡ xs
map_all f [] h = refl
map_all f (x ∷ xs) h = λ i. h.0 i ∷ map_all f xs h.1 i

module _ (locals : Locals) (local : ℕ → Type 0) (names : ℕ) where
  abbrev Named : Elem → Type 0
  Named e = IsNamedElement local names e

  abbrev view : Elem → Elem
  view e = seen_element locals names e

  below_all : (x : Elem) (es : List Elem) → Named x → AllByRecursion Named es → stand_behind locals x es ≡ true
      → IsBelowAll (view x) (map view es) × IsRising (map view es)
  below_all x [] h all t = (tt, tt)
  below_all x (e ∷ es) h all t =
      let parts = and_parts (stands_before locals x e) (stand_behind locals e es) t in
      let rest = below_all e es all.0 all.1 parts.1 in
      let first = less_from (element_order (view x) (view e)) (sym (order_in_text locals local names x e h all.0) ∙ parts.0) in
      ((first, IsBelowAll-trans (view x) (view e) (map view es) first rest.0), rest)

  -- elements that stand in the order of a text rise as they are written
  rising_view : (es : List Elem) → AllByRecursion Named es → stand_in_order locals es ≡ true → IsRising (map view es)
  rising_view [] all t = tt
  rising_view (e ∷ es) all t = below_all e es all.0 all.1 t

  behind_view : (x : Elem) (es : List Elem) → Named x → AllByRecursion Named es
      → IsBelowAll (view x) (map view es) → IsRising (map view es) → stand_behind locals x es ≡ true
  behind_view x [] h all below rising = refl
  behind_view x (e ∷ es) h all below rising =
      and_from (stands_before locals x e) (stand_behind locals e es)
      (order_in_text locals local names x e h all.0 ∙ ap is_less below.0)
      (behind_view e es all.0 all.1 rising.0 rising.1)

  order_view : (es : List Elem) → AllByRecursion Named es → IsRising (map view es) → stand_in_order locals es ≡ true
  order_view [] all rising = refl
  order_view (e ∷ es) all rising = behind_view e es all.0 all.1 rising.0 rising.1

  -- the list of the set that is read, as it is written
  pub list_of_set : (es : List Elem) → AllByRecursion Named es → stand_in_order locals es ≡ true
      → (image view (from_list es)).list ≡ map view es
  list_of_set es all t =
      ap (λ s. s.list) (image-from_list view es) ∙ list-from_list (map view es) (rising_view es all t)

  -- the elements of a set in the order of its text
  pub record InOrder (set : Set) : Type 0 where
    pub elements : List Elem
    pub named : AllByRecursion Named elements
    pub written : map view elements ≡ (image view set).list
    pub order : stand_in_order locals elements ≡ true
    pub same : from_list elements ≡ set

  pub elements_in_order : (set : Set) → AllByRecursion Named set.list → InOrder set
  unfolding contains
  elements_in_order set all =
      let back = λ (e : Elem). unseen_element locals names e in
      let each : (e : Elem) → Member e set → Named e = λ e m. all_of_listed Named set.list all e m in
      let from : (e : Elem) → Member e (image view set) → (x : Elem) × Member x set × (view x ≡ e) = λ e m. (Member-image view e set).0 m in
      let list = (image view set).list in
      let named : AllByRecursion Named (map back list) = all_map back list
      (λ e m. let x = from e m in subst Named (sym (unseen-seen locals local names x.0 (each x.0 x.1)) ∙ ap back x.2) (each x.0 x.1)) in
      let written : map view (map back list) ≡ list = map_map back list
      (λ e m. let x = from e m in ap (λ y. view (back y)) (sym x.2) ∙ (ap view (unseen-seen locals local names x.0 (each x.0 x.1)) ∙ x.2)) in
      record {
        elements = map back list;
        named = named;
        written = written;
        order = order_view (map back list) named (subst IsRising (sym written) (image view set).rising);
        same = sym (image-from_list back list) ∙ (ap (image back) (from_list-list (image view set))
            ∙ (image-image back view set ∙ (image-congruent (λ e. back (view e)) (λ e. e) set
            (λ e m. unseen-seen locals local names e (each e m)) ∙ image-identity set)));
      }
    where
      all_map : (f : Elem → Elem) (xs : List Elem) → ((e : Elem) → is_listed e xs ≡ true → Named (f e)) → AllByRecursion Named (map f xs)
      all_map f [] each = tt
      all_map f (x ∷ xs) each = (
        each x (or_left (same_element x x) (is_listed x xs) (same_element-itself x)),
        all_map f xs (λ e m. each e (or_right (same_element e x) (is_listed e xs) m)),
      )

      map_map : (f : Elem → Elem) (xs : List Elem) → ((e : Elem) → is_listed e xs ≡ true → view (f e) ≡ e) → map view (map f xs) ≡ xs
      map_map f [] each = refl
      map_map f (x ∷ xs) each =
          λ i. each x (or_left (same_element x x) (is_listed x xs) (same_element-itself x)) i
          ∷ map_map f xs (λ e m. each e (or_right (same_element e x) (is_listed e xs) m)) i
