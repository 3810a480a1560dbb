-- What names the first positions alone is written alike where more names follow.
use Rattle.std.proofs.Common.{◌≡◌, ℕ, suc, ◌+◌, ◌<◌, Bool, true, false, List, [], ◌∷◌, ◌++◌, length, codes, refl, sym, ap, ◌∙◌, arith, length-append, slice_index_or, nat_lt}
use Rattle.std.specs.List.{AllByRecursion}
use Rattle.std.specs.Prelude.{encode_utf8_all, if◌then◌else◌}
use Rattle.std.proofs.lemmas.Bool.Decides.{Decides-ltb}
use Rattle.std.proofs.lemmas.List.{get_or_append_left}
use Rattle.cc_capture.specs.declared.var.Var.{Var}
use Rattle.cc_capture.specs.declared.var.Var.TheVariants.{Bound, Free}
use Rattle.cc_capture.specs.declared.var.Elem.{Elem}
use Rattle.cc_capture.specs.declared.var.Elem.TheVariants.{Var as Variable, Cap, Hole}
use Rattle.cc_capture.specs.Sets.{Set}
use Rattle.cc_core.specs.Shapes.{Shape, BaseShape, AnyShape, TypeVariable, FunctionShape, TypeFunctionShape, BoxShape, ExitShape}
use Rattle.cc_core.specs.Occurrences.{Meets, MeetsInSet}
use Rattle.cc_print.specs.TypeTexts.{numbered, position_text, variable_text, element_text, others_text, elements_text, set_under, shape_under, type_under, is_arrow, with_elements}
use Rattle.cc_certificate_laws.specs.CertificateLaws.{IsClosed, IsClosedElement, closed_at}
use Rattle.cc_certificate_laws.proofs.NumberedTexts.{closed_elements}

chosen : (b : Bool) (x y : List ℕ) → b ≡ true → (if b then x else y) ≡ x
chosen true x y h = refl
chosen false x y h = cc

-- what is written for a position that has a name
pub named_position : (names : List (List ℕ)) (prefix : List ℕ) (p : ℕ) → p < length names
    → position_text names prefix p ≡ encode_utf8_all (slice_index_or names p [])
named_position names prefix p low = chosen (nat_lt p (length names)) _ _ ((Decides-ltb p (length names)).1 low)

module _ (names more : List (List ℕ)) where
  position_front : (prefix : List ℕ) (p : ℕ) → p < length names
      → position_text (names ++ more) prefix p ≡ position_text names prefix p
  position_front prefix p low =
      let size = length-append names more in
      named_position (names ++ more) prefix p (omega (arith, size, low))
      ∙ (ap encode_utf8_all (get_or_append_left names more [] p low) ∙ sym (named_position names prefix p low))

  variable_front : (d depth : ℕ) (prefix : List ℕ) (v : Var) → IsClosed (length names) 0 d v
      → variable_text (names ++ more) depth prefix v ≡ variable_text names depth prefix v
  variable_front d depth prefix (Bound i) closed = refl
  variable_front d depth prefix (Free p) closed = position_front prefix p (omega (arith, closed))

  element_front : (d depth : ℕ) (e : Elem) → IsClosedElement (length names) 0 d e
      → element_text (names ++ more) depth e ≡ element_text names depth e
  element_front d depth (Variable v) closed = variable_front d depth (codes "_") v closed
  element_front d depth Cap closed = refl
  element_front d depth (Hole hole) closed = refl

  others_front : (d depth : ℕ) (es : List Elem) → AllByRecursion (IsClosedElement (length names) 0 d) es
      → others_text (names ++ more) depth es ≡ others_text names depth es
  others_front d depth [] closed = refl
  others_front d depth (e ∷ es) closed =
      let first = element_front d depth e closed.0 in
      let rest = others_front d depth es closed.1 in
      λ i. (codes ", " ++ first i) ++ rest i

  elements_front : (d depth : ℕ) (es : List Elem) → AllByRecursion (IsClosedElement (length names) 0 d) es
      → elements_text (names ++ more) depth es ≡ elements_text names depth es
  elements_front d depth [] closed = refl
  elements_front d depth (e ∷ es) closed =
      let first = element_front d depth e closed.0 in
      let rest = others_front d depth es closed.1 in
      λ i. first i ++ rest i

  set_front : (d depth : ℕ) (set : Set) → MeetsInSet (closed_at (length names) 0) d set
      → set_under (names ++ more) depth set ≡ set_under names depth set
  set_front d depth set closed =
      ap (λ t. codes "{" ++ t ++ codes "}")
      (elements_front d depth set.list (closed_elements (length names) 0 d (0 + d) refl set closed))

  shape_front : (d depth : ℕ) (s : Shape) → Meets (closed_at (length names) 0) d s
      → shape_under (names ++ more) depth s ≡ shape_under names depth s
  shape_front d depth (BaseShape base) closed = refl
  shape_front d depth AnyShape closed = refl
  shape_front d depth (TypeVariable (Bound i)) closed = refl
  shape_front d depth (TypeVariable (Free p)) closed = position_front (codes "_T") p (omega (arith, closed.0, closed.1))
  shape_front d depth (FunctionShape takes c gives e) closed =
      let first = type_front d depth takes c (shape_front d depth takes closed.0) closed.1 in
      let second = type_front (suc d) (suc depth) gives e (shape_front (suc d) (suc depth) gives closed.2) closed.3 in
      λ i. numbered (codes "(_") depth ++ codes ": " ++ first i ++ codes ") -> " ++ second i
    where
      type_front : (d depth : ℕ) (s : Shape) (set : Set)
          → shape_under (names ++ more) depth s ≡ shape_under names depth s
          → MeetsInSet (closed_at (length names) 0) d set
          → type_under (names ++ more) depth s set ≡ type_under names depth s set
      type_front d depth s set text closed =
          let braces = set_front d depth set closed in λ i. with_elements (is_arrow s) (text i) set.list (braces i)
  shape_front d depth (TypeFunctionShape bound gives e) closed =
      let first = shape_front d depth bound closed.0 in
      let text = shape_front (suc d) (suc depth) gives closed.1 in
      let braces = set_front (suc d) (suc depth) e closed.2 in
      λ i. numbered (codes "[_T") depth ++ codes " <: " ++ first i ++ codes "] -> "
      ++ with_elements (is_arrow gives) (text i) e.list (braces i)
  shape_front d depth (BoxShape content c) closed =
      let text = shape_front d depth content closed.0 in
      let braces = set_front d depth c closed.1 in
      λ i. codes "Box[" ++ with_elements (is_arrow content) (text i) c.list (braces i) ++ codes "]"
  shape_front d depth (ExitShape gives) closed = ap (λ t. codes "Exit[" ++ t ++ codes "]") (shape_front d depth gives closed)

  pub type_front : (depth : ℕ) (s : Shape) (set : Set) → Meets (closed_at (length names) 0) 0 s
      → MeetsInSet (closed_at (length names) 0) 0 set
      → type_under (names ++ more) depth s set ≡ type_under names depth s set
  type_front depth s set closed closed' =
      let text = shape_front 0 depth s closed in
      let braces = set_front 0 depth set closed' in
      λ i. with_elements (is_arrow s) (text i) set.list (braces i)
