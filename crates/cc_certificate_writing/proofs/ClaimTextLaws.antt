-- Claims of one kind are one where their texts are.
use Rattle.std.proofs.Common.{◌≡◌, ℕ, List, [], ◌++◌, length, refl, sym, ap, ◌∙◌, append_assoc, codes, bytes_eq}
use Rattle.std.specs.List.{AllByRecursion, IsDistinct}
use Rattle.std.proofs.lemmas.List.{append_cancel_left}
use Rattle.cc_base.specs.Names.{IsName}
use Rattle.cc_capture.specs.Sets.{Set}
use Rattle.cc_core.specs.Derivations.{SetBelow, ShapeBelow, TypeBelow, OfType}
use Rattle.cc_core.specs.Occurrences.{Meets, MeetsInSet, MeetsInType}
use Rattle.cc_core.specs.Shapes.{Shape, CapturingType}
use Rattle.cc_print.specs.TypeTexts.{set_text, shape_text, type_text}
use Rattle.cc_print.proofs.TypeTextLaws.{no_caret, same_shape, types_same}
use Rattle.cc_certificate_writing.specs.CertificateTextLaws.{placed, DifferentClaimsHaveDifferentTexts}
use Rattle.cc_certificate_writing.proofs.SetTexts.{sets_same}

-- the left side, what stands between, and the right side
sides : (a b a' b' : List ℕ) → a ++ codes " <: " ++ b ≡ a' ++ codes " <: " ++ b'
    → a ++ (codes " <: " ++ b) ≡ a' ++ (codes " <: " ++ b')
sides a b a' b' e = sym (append_assoc a (codes " <: ") b) ∙ e ∙ append_assoc a' (codes " <: ") b'

to_the_end : (a b : List ℕ) → a ≡ b → a ++ [] ≡ b ++ []
to_the_end a b e = ap (λ text. text ++ []) e

module _ (names : List (List ℕ)) (locals : ℕ) (all : AllByRecursion IsName names) (apart : IsDistinct bytes_eq names) where
  type_is : (a b : CapturingType) → MeetsInType (placed (length names) locals) locals a
      → MeetsInType (placed (length names) locals) locals b → type_text names locals a ≡ type_text names locals b → a ≡ b
  type_is a b h k e =
      (types_same names locals all apart locals a b [] [] h k (tt, tt) (tt, tt) (to_the_end (type_text names locals a) (type_text names locals b) e)).0

  shape_is : (a b : Shape) → Meets (placed (length names) locals) locals a
      → Meets (placed (length names) locals) locals b → shape_text names locals a ≡ shape_text names locals b → a ≡ b
  shape_is a b h k e =
      (same_shape names locals all apart locals a b [] [] h k (tt, λ arrow. tt) (tt, λ arrow. tt) (to_the_end (shape_text names locals a) (shape_text names locals b) e)).0

  set_is : (a b : Set) → MeetsInSet (placed (length names) locals) locals a
      → MeetsInSet (placed (length names) locals) locals b → set_text names locals a ≡ set_text names locals b → a ≡ b
  set_is a b h k e =
      (sets_same names locals all apart locals a b [] [] h k (to_the_end (set_text names locals a) (set_text names locals b) e)).0

  types_below : (a b a' b' : CapturingType) → MeetsInType (placed (length names) locals) locals a
      → MeetsInType (placed (length names) locals) locals b → MeetsInType (placed (length names) locals) locals a'
      → MeetsInType (placed (length names) locals) locals b'
      → type_text names locals a ++ codes " <: " ++ type_text names locals b
      ≡ type_text names locals a' ++ codes " <: " ++ type_text names locals b' → TypeBelow a b ≡ TypeBelow a' b'
  types_below a b a' b' h k h' k' e =
      let left = types_same names locals all apart locals a a' (codes " <: " ++ type_text names locals b)
      (codes " <: " ++ type_text names locals b') h h' (refl, no_caret 32 refl) (refl, no_caret 32 refl)
      (sides (type_text names locals a) (type_text names locals b) (type_text names locals a') (type_text names locals b') e) in
      let right = type_is b b' k k'
      (append_cancel_left (codes " <: ") (type_text names locals b) (type_text names locals b') left.1) in
      λ i. TypeBelow (left.0 i) (right i)

  shapes_below : (a b a' b' : Shape) → Meets (placed (length names) locals) locals a
      → Meets (placed (length names) locals) locals b → Meets (placed (length names) locals) locals a'
      → Meets (placed (length names) locals) locals b'
      → shape_text names locals a ++ codes " <: " ++ shape_text names locals b
      ≡ shape_text names locals a' ++ codes " <: " ++ shape_text names locals b' → ShapeBelow a b ≡ ShapeBelow a' b'
  shapes_below a b a' b' h k h' k' e =
      let left = same_shape names locals all apart locals a a' (codes " <: " ++ shape_text names locals b)
      (codes " <: " ++ shape_text names locals b') h h' (refl, λ arrow. no_caret 32 refl) (refl, λ arrow. no_caret 32 refl)
      (sides (shape_text names locals a) (shape_text names locals b) (shape_text names locals a') (shape_text names locals b') e) in
      let right = shape_is b b' k k'
      (append_cancel_left (codes " <: ") (shape_text names locals b) (shape_text names locals b') left.1) in
      λ i. ShapeBelow (left.0 i) (right i)

  sets_below : (a b a' b' : Set) → MeetsInSet (placed (length names) locals) locals a
      → MeetsInSet (placed (length names) locals) locals b → MeetsInSet (placed (length names) locals) locals a'
      → MeetsInSet (placed (length names) locals) locals b'
      → set_text names locals a ++ codes " <: " ++ set_text names locals b
      ≡ set_text names locals a' ++ codes " <: " ++ set_text names locals b' → SetBelow a b ≡ SetBelow a' b'
  sets_below a b a' b' h k h' k' e =
      let left = sets_same names locals all apart locals a a' (codes " <: " ++ set_text names locals b)
      (codes " <: " ++ set_text names locals b') h h'
      (sides (set_text names locals a) (set_text names locals b) (set_text names locals a') (set_text names locals b') e) in
      let right = set_is b b' k k'
      (append_cancel_left (codes " <: ") (set_text names locals b) (set_text names locals b') left.1) in
      λ i. SetBelow (left.0 i) (right i)

pub different_claims : DifferentClaimsHaveDifferentTexts
different_claims names locals (OfType a) (OfType b) all apart h k kind e =
    ap OfType (type_is names locals all apart a b h k (append_cancel_left (codes ": ") (type_text names locals a) (type_text names locals b) e))
different_claims names locals (TypeBelow a b) (TypeBelow a' b') all apart h k kind e =
    types_below names locals all apart a b a' b' h.0 h.1 k.0 k.1 e
different_claims names locals (ShapeBelow a b) (ShapeBelow a' b') all apart h k kind e =
    shapes_below names locals all apart a b a' b' h.0 h.1 k.0 k.1 e
different_claims names locals (SetBelow a b) (SetBelow a' b') all apart h k kind e =
    sets_below names locals all apart a b a' b' h.0 h.1 k.0 k.1 e
different_claims names locals _ _ all apart h k kind e = absurd kind
