-- What is written for a shape is what is written for it with its variables as they are written.
use Rattle.std.proofs.Common.{◌≡◌, ℕ, suc, ◌+◌, ◌-◌, ◌<◌, ◌≤◌, Bool, true, false, List, [], ◌∷◌, ◌++◌, map, length, codes, refl, sym, ap, ◌∙◌, arith, ⊎_elim}
use Rattle.std.specs.Prelude.{nat_lt}
use Rattle.std.specs.List.{AllByRecursion}
use Rattle.std.specs.Ordering.{ordering_reverse}
use Rattle.std.specs.declared.cmp.Ordering.TheVariants.{Less}
use Rattle.std.proofs.lemmas.Bool.{cases_lt}
use Rattle.std.proofs.lemmas.Bool.Decides.{Decides-ltb, nat_tests}
use Rattle.cc_capture.specs.declared.var.Var.{Var}
use Rattle.cc_capture.specs.declared.var.Var.TheVariants.{Bound, Free}
use Rattle.cc_capture.specs.declared.var.Elem.{Elem}
use Rattle.cc_capture.specs.declared.var.Elem.TheVariants.{Var as Variable, Cap, Hole}
use Rattle.cc_capture.specs.Elements.{element_order}
use Rattle.cc_capture.specs.ElementOrder.{element_order-total, element_order-itself, element_order-Free, element_order-Bound}
use Rattle.cc_capture.specs.Rising.{IsBelow, IsBelowAll, IsRising}
use Rattle.cc_capture.specs.Sets.{Set, contains, image}
use Rattle.cc_capture.proofs.Images.{image-image}
use Rattle.cc_capture.proofs.SetLists.{list-from_list}
use Rattle.cc_core.specs.Shapes.{Shape, BaseShape, AnyShape, TypeVariable, FunctionShape, TypeFunctionShape, BoxShape, ExitShape, CapturingType}
use Rattle.cc_core.specs.Occurrences.{Meets, MeetsInSet, MeetsInType}
use Rattle.cc_print.specs.TypeTexts.{numbered, variable_text, element_text, others_text, elements_text, set_under, shape_under, type_under, is_arrow, with_elements, before_set}
use Rattle.cc_certificate_text.specs.LocalNames.{local_position, local_element, placed_shape, placed_type, has_binder}
use Rattle.cc_certificate_text.proofs.SetOrders.{listed_all}
use Rattle.cc_certificate_laws.specs.CertificateLines.{numbered_variable, numbered_element, numbered_set, numbered_shape, numbered_type}
use Rattle.cc_certificate_laws.specs.CertificateLaws.{IsClosedElement, closed_at}

pub not_below : (a b : ℕ) → b ≤ a → nat_lt a b ≡ false
not_below a b h = grind (arith, nat_tests)

-- a free position stays where it is
numbered_free : (names depth p : ℕ) → local_position names (numbered_variable names depth (Free p)) ≡ Free p
numbered_free names depth p =
    ⊎_elim (λ low. rw ((Decides-ltb p names).1 low) refl)
    (λ high. rw (not_below p names high) (ap Free (let e : names + (p - names) ≡ p = omega (arith, high) in e)))
    (cases_lt p names)

-- the element as it is written, at its position
abbrev pub seen : ℕ → ℕ → Elem → Elem
seen names depth e = local_element names (numbered_element names depth e)

seen_free : (names depth p : ℕ) → seen names depth (Variable (Free p)) ≡ Variable (Free p)
seen_free names depth p = ap Variable (numbered_free names depth p)

bound_falls : (i j : ℕ) → element_order (Variable (Bound i)) (Variable (Bound j)) ≡ Less → j < i
bound_falls i j h =
    ⊎_elim (λ less. less)
    (λ above. ⊎_elim
    (λ less. absurd (clash_back (element_order-total.antisymm (Variable (Bound i)) (Variable (Bound j))
    ∙ ap ordering_reverse (element_order-Bound i j less))))
    (λ below. absurd (clash_same (ap (λ n. element_order (Variable (Bound i)) (Variable (Bound n)))
    (let e : i ≡ j = omega (arith, above, below) in e)))) (cases_lt i j))
    (cases_lt j i)
  where
    clash_back : element_order (Variable (Bound i)) (Variable (Bound j)) ≡ ordering_reverse Less → ⊥
    clash_back e = let c = sym h ∙ e in cc

    clash_same : element_order (Variable (Bound i)) (Variable (Bound i)) ≡ element_order (Variable (Bound i)) (Variable (Bound j)) → ⊥
    clash_same e = let c = sym (element_order-itself (Variable (Bound i))) ∙ (e ∙ h) in cc

-- elements that are closed keep their order
seen_order : (names locals d depth : ℕ) (a b : Elem) → depth ≡ locals + d → IsClosedElement names locals d a
    → IsClosedElement names locals d b → IsBelow a b → IsBelow (seen names depth a) (seen names depth b)
unfolding element_order
seen_order names locals d depth (Variable (Free p)) (Variable (Free q)) e h k below =
    ap (λ x. element_order x (seen names depth (Variable (Free q)))) (seen_free names depth p)
    ∙ (ap (element_order (Variable (Free p))) (seen_free names depth q) ∙ below)
seen_order names locals d depth (Variable (Free p)) (Variable (Bound j)) e h k below =
    ap (λ x. element_order x (seen names depth (Variable (Bound j)))) (seen_free names depth p)
    ∙ element_order-Free p (names + (depth - 1 - j)) (omega (arith, e, h, k))
seen_order names locals d depth (Variable (Free p)) Cap e h k below =
    ap (λ x. element_order x Cap) (seen_free names depth p)
seen_order names locals d depth (Variable (Bound i)) (Variable (Free q)) e h k below = cc
seen_order names locals d depth (Variable (Bound i)) (Variable (Bound j)) e h k below =
    let falls = bound_falls i j below in
    element_order-Free (names + (depth - 1 - i)) (names + (depth - 1 - j)) (omega (arith, e, h, k, falls))
seen_order names locals d depth (Variable (Bound i)) Cap e h k below = refl
seen_order names locals d depth Cap (Variable (Free q)) e h k below = cc
seen_order names locals d depth Cap (Variable (Bound j)) e h k below = cc
seen_order names locals d depth Cap Cap e h k below = cc
seen_order names locals d depth (Hole hole) b e h k below = absurd h
seen_order names locals d depth a (Hole hole) e h k below = absurd k

module _ (names locals d depth : ℕ) (at : depth ≡ locals + d) where
  abbrev Closed : Elem → Type 0
  Closed e = IsClosedElement names locals d e

  seen_below : (x : Elem) (es : List Elem) → Closed x → AllByRecursion Closed es → IsBelowAll x es
      → IsBelowAll (seen names depth x) (map (seen names depth) es)
  seen_below x [] h all below = tt
  seen_below x (e ∷ es) h all below =
      (seen_order names locals d depth x e at h all.0 below.0, seen_below x es h all.1 below.1)

  seen_rising : (es : List Elem) → AllByRecursion Closed es → IsRising es → IsRising (map (seen names depth) es)
  seen_rising [] all rising = tt
  seen_rising (e ∷ es) all rising = (seen_below e es all.0 all.1 rising.0, seen_rising es all.1 rising.1)

  pub closed_elements : (set : Set) → MeetsInSet (closed_at names locals) d set → AllByRecursion Closed set.list
  unfolding contains
  closed_elements set closed = listed_all Closed set.list closed

  -- the elements of a set stay in their order
  pub seen_list : (set : Set) → MeetsInSet (closed_at names locals) d set
      → (image (local_element names) (numbered_set names depth set)).list ≡ map (seen names depth) set.list
  unfolding image
  seen_list set closed =
      ap (λ s. s.list) (image-image (local_element names) (numbered_element names depth) set)
      ∙ list-from_list (map (seen names depth) set.list)
      (seen_rising set.list (closed_elements set closed) set.rising)

with_same : (f : Elem → Elem) (arrow arrow' : Bool) (t t' b b' : List ℕ) (es es' : List Elem) → arrow ≡ arrow' → t ≡ t'
    → b ≡ b' → es' ≡ map f es → with_elements arrow t es b ≡ with_elements arrow' t' es' b'
with_same f arrow arrow' t t' b b' [] es' same text braces list =
    text ∙ ap (λ l. with_elements arrow' t' l b') (sym list)
with_same f arrow arrow' t t' b b' (e ∷ es) es' same text braces list =
    (λ i. before_set (same i) (text i) ++ braces i) ∙ ap (λ l. with_elements arrow' t' l b') (sym list)

numbered_arrow : (names depth : ℕ) (s : Shape) → is_arrow s ≡ is_arrow (placed_shape names (numbered_shape names depth s))
numbered_arrow names depth (BaseShape base) = refl
numbered_arrow names depth AnyShape = refl
numbered_arrow names depth (TypeVariable v) = refl
numbered_arrow names depth (FunctionShape takes c gives e) = refl
numbered_arrow names depth (TypeFunctionShape bound gives e) = refl
numbered_arrow names depth (BoxShape content c) = refl
numbered_arrow names depth (ExitShape gives) = refl

module _ (names : List (List ℕ)) (locals : ℕ) where
  variable_seen : (depth other : ℕ) (prefix : List ℕ) (v : Var)
      → variable_text names depth prefix v
      ≡ variable_text names other prefix (local_position (length names) (numbered_variable (length names) depth v))
  variable_seen depth other prefix (Bound i) =
      rw (not_below (length names + (depth - 1 - i)) (length names) (omega arith))
      (ap (numbered prefix) (let e : depth - 1 - i ≡ length names + (depth - 1 - i) - length names = omega arith in e))
  variable_seen depth other prefix (Free p) =
      sym (ap (variable_text names other prefix) (numbered_free (length names) depth p))

  element_seen : (depth other : ℕ) (e : Elem)
      → element_text names depth e ≡ element_text names other (seen (length names) depth e)
  element_seen depth other (Variable v) = variable_seen depth other (codes "_") v
  element_seen depth other Cap = refl
  element_seen depth other (Hole hole) = refl

  others_seen : (depth other : ℕ) (es : List Elem)
      → others_text names depth es ≡ others_text names other (map (seen (length names) depth) es)
  others_seen depth other [] = refl
  others_seen depth other (e ∷ es) = λ i. (codes ", " ++ element_seen depth other e i) ++ others_seen depth other es i

  elements_seen : (depth other : ℕ) (es : List Elem)
      → elements_text names depth es ≡ elements_text names other (map (seen (length names) depth) es)
  elements_seen depth other [] = refl
  elements_seen depth other (e ∷ es) = λ i. element_seen depth other e i ++ others_seen depth other es i

  -- a set has the text of what is written for it
  pub set_seen : (d depth other : ℕ) (set : Set) → depth ≡ locals + d
      → MeetsInSet (closed_at (length names) locals) d set
      → set_under names depth set
      ≡ set_under names other (image (local_element (length names)) (numbered_set (length names) depth set))
  set_seen d depth other set at closed =
      ap (λ t. codes "{" ++ t ++ codes "}")
      (elements_seen depth other set.list
      ∙ ap (elements_text names other) (sym (seen_list (length names) locals d depth at set closed)))

  type_from : (d depth other : ℕ) (s : Shape) (set : Set) → depth ≡ locals + d
      → shape_under names depth s
      ≡ shape_under names other (placed_shape (length names) (numbered_shape (length names) depth s))
      → MeetsInSet (closed_at (length names) locals) d set
      → type_under names depth s set
      ≡ type_under names other (placed_shape (length names) (numbered_shape (length names) depth s))
      (image (local_element (length names)) (numbered_set (length names) depth set))
  type_from d depth other s set at text closed =
      with_same (seen (length names) depth) _ _ _ _ _ _ set.list _ (numbered_arrow (length names) depth s) text
      (set_seen d depth other set at closed) (seen_list (length names) locals d depth at set closed)

  -- A shape has the text of what is written for it. Where it has no binder, it does not matter how many stand outside.
  pub shape_seen : (d depth other : ℕ) (s : Shape) → depth ≡ locals + d → Meets (closed_at (length names) locals) d s
      → (has_binder s ≡ true → other ≡ depth)
      → shape_under names depth s
      ≡ shape_under names other (placed_shape (length names) (numbered_shape (length names) depth s))
  shape_seen d depth other (BaseShape base) at closed same = refl
  shape_seen d depth other AnyShape at closed same = refl
  shape_seen d depth other (TypeVariable v) at closed same = variable_seen depth other (codes "_T") v
  shape_seen d depth other (FunctionShape takes c gives e) at closed same =
      let first = type_from d depth depth takes c at (shape_seen d depth depth takes at closed.0 (λ _. refl)) closed.1 in
      let deeper : suc depth ≡ locals + suc d = omega (arith, at) in
      let second = type_from (suc d) (suc depth) (suc depth) gives e deeper
      (shape_seen (suc d) (suc depth) (suc depth) gives deeper closed.2 (λ _. refl)) closed.3 in
      (λ i. numbered (codes "(_") depth ++ codes ": " ++ first i ++ codes ") -> " ++ second i)
      ∙ ap (λ o. shape_under names o (placed_shape (length names) (numbered_shape (length names) depth (FunctionShape takes c gives e))))
      (sym (same refl))
  shape_seen d depth other (TypeFunctionShape bound gives e) at closed same =
      let first = shape_seen d depth depth bound at closed.0 (λ _. refl) in
      let deeper : suc depth ≡ locals + suc d = omega (arith, at) in
      let second = type_from (suc d) (suc depth) (suc depth) gives e deeper
      (shape_seen (suc d) (suc depth) (suc depth) gives deeper closed.1 (λ _. refl)) closed.2 in
      (λ i. numbered (codes "[_T") depth ++ codes " <: " ++ first i ++ codes "] -> " ++ second i)
      ∙ ap (λ o. shape_under names o (placed_shape (length names) (numbered_shape (length names) depth (TypeFunctionShape bound gives e))))
      (sym (same refl))
  shape_seen d depth other (BoxShape content c) at closed same =
      ap (λ t. codes "Box[" ++ t ++ codes "]")
      (type_from d depth other content c at (shape_seen d depth other content at closed.0 same) closed.1)
  shape_seen d depth other (ExitShape gives) at closed same =
      ap (λ t. codes "Exit[" ++ t ++ codes "]") (shape_seen d depth other gives at closed same)

  -- so has a type
  pub type_seen : (d depth other : ℕ) (type : CapturingType) → depth ≡ locals + d
      → MeetsInType (closed_at (length names) locals) d type → (has_binder type.shape ≡ true → other ≡ depth)
      → type_under names depth type.shape type.set
      ≡ type_under names other (placed_type (length names) (numbered_type (length names) depth type)).shape
      (placed_type (length names) (numbered_type (length names) depth type)).set
  type_seen d depth other type at closed same =
      type_from d depth other type.shape type.set at (shape_seen d depth other type.shape at closed.0 same) closed.1
