-- Sets and variables are read off the front of a text.
use Rattle.std.proofs.Common.{◌≡◌, ℕ, true, List, [], ◌∷◌, ◌++◌, length, refl, sym, subst, ◌∙◌, append_assoc, codes, bytes_eq}
use Rattle.std.specs.List.{AllByRecursion, IsDistinct}
use Rattle.cc_base.specs.Names.{IsName}
use Rattle.cc_capture.specs.declared.var.Elem.{Elem}
use Rattle.cc_capture.specs.declared.var.Elem.TheVariants.{Var as Variable, Cap, Hole}
use Rattle.cc_capture.specs.declared.var.Var.{Var}
use Rattle.cc_capture.specs.Sets.{Set, same_list}
use Rattle.cc_core.specs.Occurrences.{MeetsInSet}
use Rattle.cc_print.specs.TypeTexts.{element_text, others_text, set_under}
use Rattle.cc_print.proofs.Words.{IsWord, EndsWord, is_word_byte, clash, first_same, rest_same, same_words}
use Rattle.cc_print.proofs.ElementTexts.{variable_word, variable_same, variable_some, element_word}
use Rattle.cc_print.proofs.TypeTextLaws.{braces, same_braces, listed}
use Rattle.cc_certificate_writing.specs.CertificateTextLaws.{IsPlaced, IsPlacedElement, placed}
use Rattle.cc_print.specs.TermTexts.{named}

-- a text that begins with a closing brace begins with no word
no_word : (word rest behind : List ℕ) → IsWord word → (word ≡ [] → ⊥) → 125 ∷ behind ≡ word ++ rest → ⊥
no_word [] rest behind is some e = some refl
no_word (b ∷ word) rest behind is some e =
    clash (is_word_byte 125) (subst (λ c. is_word_byte c ≡ true) (sym (first_same 125 b behind (word ++ rest) e)) is.0) refl

regrouped : (a b c r : List ℕ) → ((a ++ b) ++ c) ++ r ≡ a ++ (b ++ (c ++ r))
regrouped a b c r = simp append_assoc

module _ (names : List (List ℕ)) (locals : ℕ) (all : AllByRecursion IsName names) (apart : IsDistinct bytes_eq names) where
  pub after_variable : (depth : ℕ) (v w : Var) (r s : List ℕ) → IsPlaced (length names) locals depth v
      → IsPlaced (length names) locals depth w → EndsWord r → EndsWord s
      → named names depth v ++ r ≡ named names depth w ++ s → (v ≡ w) × (r ≡ s)
  after_variable depth v w r s h k er es eq =
      let words = same_words (named names depth v) (named names depth w) r s
      (variable_word names locals all apart depth (codes "_") v (refl, tt) h)
      (variable_word names locals all apart depth (codes "_") w (refl, tt) k) er es eq in
      (variable_same names locals all apart depth [] v w h k words.0, words.1)

  element_some : (depth : ℕ) (e : Elem) → IsPlacedElement (length names) locals depth e
      → element_text names depth e ≡ [] → ⊥
  element_some depth (Variable v) h e = variable_some names locals all apart depth [] v h e
  element_some depth Cap h e = cc
  element_some depth (Hole number) h e = h

  -- a set with no element is none with some
  empty_or_some : (depth : ℕ) (e : Elem) (es : List Elem) (r s : List ℕ)
      → IsPlacedElement (length names) locals depth e
      → braces names depth [] ++ r ≡ braces names depth (e ∷ es) ++ s → ⊥
  empty_or_some depth e es r s h eq =
      no_word (element_text names depth e) (others_text names depth es ++ (codes "}" ++ s)) r
      (element_word names locals all apart depth e h) (element_some depth e h)
      (rest_same 123 123 _ _ eq ∙ regrouped (element_text names depth e) (others_text names depth es) (codes "}") s)

  lists_same : (depth : ℕ) (es fs : List Elem) (r s : List ℕ)
      → AllByRecursion (IsPlacedElement (length names) locals depth) es
      → AllByRecursion (IsPlacedElement (length names) locals depth) fs
      → braces names depth es ++ r ≡ braces names depth fs ++ s → (es ≡ fs) × (r ≡ s)
  lists_same depth [] [] r s h k eq = (refl, rest_same 125 125 r s (rest_same 123 123 _ _ eq))
  lists_same depth [] (f ∷ fs) r s h k eq = absurd (empty_or_some depth f fs r s k.0 eq)
  lists_same depth (e ∷ es) [] r s h k eq = absurd (empty_or_some depth e es s r h.0 (sym eq))
  lists_same depth (e ∷ es) (f ∷ fs) r s h k eq = same_braces names locals all apart depth e f es fs r s h k eq

  pub sets_same : (depth : ℕ) (c d : Set) (r s : List ℕ) → MeetsInSet (placed (length names) locals) depth c
      → MeetsInSet (placed (length names) locals) depth d
      → set_under names depth c ++ r ≡ set_under names depth d ++ s → (c ≡ d) × (r ≡ s)
  sets_same depth c d r s h k eq =
      let lists = lists_same depth c.list d.list r s (listed (length names) locals depth c h)
      (listed (length names) locals depth d k) eq in
      (same_list c d lists.0, lists.1)
