-- Filled terms are one where their texts are.
use Rattle.std.proofs.Common.{◌≡◌, ℕ, suc, List, [], ◌∷◌, ◌++◌, length, Option, Some, None, refl, sym, ap, ◌∙◌, append_assoc, codes, bytes_eq}
use Rattle.std.specs.List.{AllByRecursion, IsDistinct}
use Rattle.std.proofs.lemmas.List.{append_cancel_left}
use Rattle.cc_base.specs.Names.{IsName}
use Rattle.cc_capture.specs.declared.var.Var.{Var}
use Rattle.cc_capture.specs.Sets.{Set}
use Rattle.cc_core.specs.Occurrences.{Meets, MeetsInSet, MeetsInNote, MeetsInTerm, MeetsAtOptional}
use Rattle.cc_core.specs.Shapes.{Shape, CapturingType, capturing}
use Rattle.cc_core.specs.Terms.{Note, Absent, Written, Own, Term, VariableTerm, LiteralTerm, FunctionTerm, TypeFunctionTerm, BoxTerm, Application, TypeApplication, Unboxing, Let, Primitive, Conditional, Repetition, Operation, Boundary, Leave}
use Rattle.cc_print.specs.TypeTexts.{numbered, set_under, shape_under, type_under}
use Rattle.cc_print.proofs.Words.{EndsWord, rest_same, same_words}
use Rattle.cc_print.proofs.ElementTexts.{ends_differ, variable_word, variable_same, variable_some}
use Rattle.cc_print.proofs.ShapeWords.{unlike}
use Rattle.cc_print.proofs.TypeTextLaws.{NoCaret, no_caret, same_shape, types_same}
use Rattle.cc_print.specs.TermTexts.{named, argument_under, note_under, behind_name, term_under}
use Rattle.cc_certificate_writing.specs.CertificateTextLaws.{placed, IsLegibleNote, IsWritten, IsLegible, DifferentTermsHaveDifferentTexts}
use Rattle.cc_certificate_writing.proofs.LiteralTexts.{operators_same, operations_same, literals_same}
use Rattle.cc_certificate_writing.proofs.SetTexts.{after_variable, sets_same}
use Rattle.cc_certificate_writing.proofs.TermWords.{term_kind, EndsTerm, words_same, kinds_same}

-- pieces of a text, one behind the other
two_pieces : (a b r : List ℕ) → (a ++ b) ++ r ≡ a ++ (b ++ r)
two_pieces a b r = append_assoc a b r

three_pieces : (a b c r : List ℕ) → (a ++ b ++ c) ++ r ≡ a ++ (b ++ (c ++ r))
three_pieces a b c r = simp append_assoc

four_pieces : (a b c d r : List ℕ) → (a ++ b ++ c ++ d) ++ r ≡ a ++ (b ++ (c ++ (d ++ r)))
four_pieces a b c d r = simp append_assoc

five_pieces : (a b c d e r : List ℕ) → (a ++ b ++ c ++ d ++ e) ++ r ≡ a ++ (b ++ (c ++ (d ++ (e ++ r))))
five_pieces a b c d e r = simp append_assoc

six_pieces : (a b c d e f r : List ℕ)
    → (a ++ b ++ c ++ d ++ e ++ f) ++ r ≡ a ++ (b ++ (c ++ (d ++ (e ++ (f ++ r)))))
six_pieces a b c d e f r = simp append_assoc

seven_pieces : (a b c d e f g r : List ℕ)
    → (a ++ b ++ c ++ d ++ e ++ f ++ g) ++ r ≡ a ++ (b ++ (c ++ (d ++ (e ++ (f ++ (g ++ r))))))
seven_pieces a b c d e f g r = simp append_assoc

eight_pieces : (a b c d e f g h r : List ℕ)
    → (a ++ b ++ c ++ d ++ e ++ f ++ g ++ h) ++ r ≡ a ++ (b ++ (c ++ (d ++ (e ++ (f ++ (g ++ (h ++ r)))))))
eight_pieces a b c d e f g h r = simp append_assoc

-- what stands behind the same front
behind : {a b : List ℕ} (front x y : List ℕ) → a ≡ front ++ x → b ≡ front ++ y → a ≡ b → x ≡ y
behind front x y p q e = append_cancel_left front x y (sym p ∙ e ∙ q)

module _ (names : List (List ℕ)) (locals : ℕ) (all : AllByRecursion IsName names) (apart : IsDistinct bytes_eq names) where
  after_shape : (depth : ℕ) (a b : Shape) (r s : List ℕ) → Meets (placed (length names) locals) depth a
      → Meets (placed (length names) locals) depth b → EndsWord r × NoCaret r → EndsWord s × NoCaret s
      → shape_under names depth a ++ r ≡ shape_under names depth b ++ s → (a ≡ b) × (r ≡ s)
  after_shape depth a b r s h k er es eq =
      same_shape names locals all apart depth a b r s h k (er.0, λ arrow. er.1) (es.0, λ arrow. es.1) eq

  after_type : (depth : ℕ) (t t' : Shape) (c c' : Set) (r s : List ℕ)
      → Meets (placed (length names) locals) depth t → MeetsInSet (placed (length names) locals) depth c
      → Meets (placed (length names) locals) depth t' → MeetsInSet (placed (length names) locals) depth c'
      → EndsWord r × NoCaret r → EndsWord s × NoCaret s
      → type_under names depth t c ++ r ≡ type_under names depth t' c' ++ s → (t ≡ t') × (c ≡ c') × (r ≡ s)
  after_type depth t t' c c' r s h i h' i' er es eq =
      let parts = types_same names locals all apart depth (capturing t c) (capturing t' c') r s (h, i) (h', i') er es eq in
      (ap (λ (type : CapturingType). type.shape) parts.0, ap (λ (type : CapturingType). type.set) parts.0, parts.1)

  -- the argument of an operation, up to the parenthesis behind it
  after_argument : (depth : ℕ) (x y : Option Var) (r s : List ℕ)
      → MeetsAtOptional (placed (length names) locals) depth x → MeetsAtOptional (placed (length names) locals) depth y
      → argument_under names depth x ++ 41 ∷ r ≡ argument_under names depth y ++ 41 ∷ s → (x ≡ y) × (r ≡ s)
  after_argument depth None None r s h k eq = (refl, rest_same 41 41 r s eq)
  after_argument depth (Some x) (Some y) r s h k eq =
      let parts = after_variable names locals all apart depth x y (41 ∷ r) (41 ∷ s) h k refl refl eq in
      (ap Some parts.0, rest_same 41 41 r s parts.1)
  after_argument depth (Some x) None r s h k eq =
      let words = same_words (named names depth x) [] (41 ∷ r) (41 ∷ s)
      (variable_word names locals all apart depth (codes "_") x (refl, tt) h) tt refl refl eq in
      absurd (variable_some names locals all apart depth [] x h words.0)
  after_argument depth None (Some y) r s h k eq =
      let words = same_words [] (named names depth y) (41 ∷ r) (41 ∷ s) tt
      (variable_word names locals all apart depth (codes "_") y (refl, tt) k) refl refl eq in
      absurd (variable_some names locals all apart depth [] y k (sym words.0))

  -- what is written for the type of a let, up to the equals sign
  after_note : (depth : ℕ) (m n : Note) (r s : List ℕ) → MeetsInNote (placed (length names) locals) depth m
      → MeetsInNote (placed (length names) locals) depth n → IsLegibleNote m → IsLegibleNote n
      → behind_name names depth m ++ 32 ∷ r ≡ behind_name names depth n ++ 32 ∷ s → (m ≡ n) × (r ≡ s)
  after_note depth Absent Absent r s h k l m eq = (refl, rest_same 32 32 r s eq)
  after_note depth (Written t c) (Written t' c') r s h k l m eq =
      let inner = behind (codes ": ") (type_under names depth t c ++ 32 ∷ r) (type_under names depth t' c' ++ 32 ∷ s)
      (two_pieces (codes ": ") (type_under names depth t c) (32 ∷ r))
      (two_pieces (codes ": ") (type_under names depth t' c') (32 ∷ s)) eq in
      let parts = after_type depth t t' c c' (32 ∷ r) (32 ∷ s) h.0 h.1 k.0 k.1 (refl, no_caret 32 refl) (refl, no_caret 32 refl) inner in
      ((λ i. Written (parts.0 i) (parts.1 i)), rest_same 32 32 r s parts.2)
  after_note depth Absent (Written t c) r s h k l m eq = absurd (ends_differ 32 58 _ _ refl eq)
  after_note depth (Written t c) Absent r s h k l m eq = absurd (ends_differ 58 32 _ _ refl eq)
  after_note depth (Own t) n r s h k l m eq = absurd l
  after_note depth Absent (Own t) r s h k l m eq = absurd m
  after_note depth (Written t' c') (Own t) r s h k l m eq = absurd m

  -- the type of a choice, up to the bracket
  after_written : (depth : ℕ) (m n : Note) (r s : List ℕ) → MeetsInNote (placed (length names) locals) depth m
      → MeetsInNote (placed (length names) locals) depth n → IsWritten m → IsWritten n
      → note_under names depth m ++ 93 ∷ r ≡ note_under names depth n ++ 93 ∷ s → (m ≡ n) × (r ≡ s)
  after_written depth (Written t c) (Written t' c') r s h k l m eq =
      let parts = after_type depth t t' c c' (93 ∷ r) (93 ∷ s) h.0 h.1 k.0 k.1 (refl, no_caret 93 refl) (refl, no_caret 93 refl) eq in
      ((λ i. Written (parts.0 i) (parts.1 i)), rest_same 93 93 r s parts.2)
  after_written depth (Written t c) Absent r s h k l m eq = absurd m
  after_written depth (Written t c) (Own t') r s h k l m eq = absurd m
  after_written depth Absent n r s h k l m eq = absurd l
  after_written depth (Own t) n r s h k l m eq = absurd l

  -- a term is read off the front of a text
  same_term : (depth : ℕ) (a b : Term) (r s : List ℕ) → MeetsInTerm (placed (length names) locals) depth a
      → MeetsInTerm (placed (length names) locals) depth b → IsLegible a → IsLegible b → EndsTerm r → EndsTerm s
      → term_under names depth a ++ r ≡ term_under names depth b ++ s → (a ≡ b) × (r ≡ s)
  same_term depth (VariableTerm v) (VariableTerm w) r s h k l m er es eq =
      let parts = after_variable names locals all apart depth v w r s h k er.0 es.0 eq in
      (ap VariableTerm parts.0, parts.1)
  same_term depth (LiteralTerm x) (LiteralTerm y) r s h k l m er es eq =
      let words = words_same names locals all apart depth (LiteralTerm x) (LiteralTerm y) r s h k l m er es eq in
      let parts = literals_same x y r s l m er.0 es.0 words.0 words.1 in
      (ap LiteralTerm parts.0, parts.1)
  same_term depth (Application f x) (Application f' x') r s h k l m er es eq =
      let heads = after_variable names locals all apart depth f f' (codes "(" ++ (named names depth x ++ (codes ")" ++ r)))
      (codes "(" ++ (named names depth x' ++ (codes ")" ++ s))) h.0 k.0 refl refl
      (sym (four_pieces (named names depth f) (codes "(") (named names depth x) (codes ")") r) ∙ eq
      ∙ four_pieces (named names depth f') (codes "(") (named names depth x') (codes ")") s) in
      let given = after_variable names locals all apart depth x x' (41 ∷ r) (41 ∷ s) h.1 k.1 refl refl
      (rest_same 40 40 _ _ heads.1) in
      ((λ i. Application (heads.0 i) (given.0 i)), rest_same 41 41 r s given.1)
  same_term depth (TypeApplication f x) (TypeApplication f' x') r s h k l m er es eq =
      let heads = after_variable names locals all apart depth f f' (codes "[" ++ (shape_under names depth x ++ (codes "]" ++ r)))
      (codes "[" ++ (shape_under names depth x' ++ (codes "]" ++ s))) h.0 k.0 refl refl
      (sym (four_pieces (named names depth f) (codes "[") (shape_under names depth x) (codes "]") r) ∙ eq
      ∙ four_pieces (named names depth f') (codes "[") (shape_under names depth x') (codes "]") s) in
      let given = after_shape depth x x' (93 ∷ r) (93 ∷ s) h.1 k.1 (refl, no_caret 93 refl) (refl, no_caret 93 refl)
      (rest_same 91 91 _ _ heads.1) in
      ((λ i. TypeApplication (heads.0 i) (given.0 i)), rest_same 93 93 r s given.1)
  same_term depth (Primitive o x y) (Primitive o' x' y') r s h k l m er es eq =
      let words = words_same names locals all apart depth (Primitive o x y) (Primitive o' x' y') r s h k l m er es eq in
      let operators = operators_same o o' (named names depth y ++ r) (named names depth y' ++ s) words.1 in
      let right = after_variable names locals all apart depth y y' r s h.1 k.1 er.0 es.0 operators.1 in
      let left = variable_same names locals all apart depth [] x x' h.0 k.0 words.0 in
      ((λ i. Primitive (operators.0 i) (left i) (right.0 i)), right.1)
  same_term depth (Operation o x y) (Operation o' x' y') r s h k l m er es eq =
      let words = words_same names locals all apart depth (Operation o x y) (Operation o' x' y') r s h k l m er es eq in
      let operations = operations_same o o' (argument_under names depth y ++ (codes ")" ++ r))
      (argument_under names depth y' ++ (codes ")" ++ s)) words.1 in
      let given = after_argument depth y y' r s h.1 k.1 operations.1 in
      let receiver = variable_same names locals all apart depth [] x x' h.0 k.0 words.0 in
      ((λ i. Operation (operations.0 i) (receiver i) (given.0 i)), given.1)
  same_term depth (FunctionTerm t c u) (FunctionTerm t' c' u') r s h k l m er es eq =
      let inner = behind (numbered (codes "fun (_") depth)
      (codes ": " ++ (type_under names depth t c ++ (codes ") => " ++ (term_under names (suc depth) u ++ r))))
      (codes ": " ++ (type_under names depth t' c' ++ (codes ") => " ++ (term_under names (suc depth) u' ++ s))))
      (five_pieces (numbered (codes "fun (_") depth) (codes ": ") (type_under names depth t c) (codes ") => ") (term_under names (suc depth) u) r)
      (five_pieces (numbered (codes "fun (_") depth) (codes ": ") (type_under names depth t' c') (codes ") => ") (term_under names (suc depth) u') s) eq in
      let types = after_type depth t t' c c' (codes ") => " ++ (term_under names (suc depth) u ++ r))
      (codes ") => " ++ (term_under names (suc depth) u' ++ s)) h.0 h.1 k.0 k.1 (refl, no_caret 41 refl) (refl, no_caret 41 refl)
      (append_cancel_left (codes ": ") _ _ inner) in
      let bodies = same_term (suc depth) u u' r s h.2 k.2 l m er es (append_cancel_left (codes ") => ") _ _ types.2) in
      ((λ i. FunctionTerm (types.0 i) (types.1 i) (bodies.0 i)), bodies.1)
  same_term depth (TypeFunctionTerm t u) (TypeFunctionTerm t' u') r s h k l m er es eq =
      let inner = behind (numbered (codes "fun [_T") depth)
      (codes " <: " ++ (shape_under names depth t ++ (codes "] => " ++ (term_under names (suc depth) u ++ r))))
      (codes " <: " ++ (shape_under names depth t' ++ (codes "] => " ++ (term_under names (suc depth) u' ++ s))))
      (five_pieces (numbered (codes "fun [_T") depth) (codes " <: ") (shape_under names depth t) (codes "] => ") (term_under names (suc depth) u) r)
      (five_pieces (numbered (codes "fun [_T") depth) (codes " <: ") (shape_under names depth t') (codes "] => ") (term_under names (suc depth) u') s) eq in
      let bounds = after_shape depth t t' (codes "] => " ++ (term_under names (suc depth) u ++ r))
      (codes "] => " ++ (term_under names (suc depth) u' ++ s)) h.0 k.0 (refl, no_caret 93 refl) (refl, no_caret 93 refl)
      (append_cancel_left (codes " <: ") _ _ inner) in
      let bodies = same_term (suc depth) u u' r s h.1 k.1 l m er es (append_cancel_left (codes "] => ") _ _ bounds.1) in
      ((λ i. TypeFunctionTerm (bounds.0 i) (bodies.0 i)), bodies.1)
  same_term depth (BoxTerm x) (BoxTerm x') r s h k l m er es eq =
      let parts = after_variable names locals all apart depth x x' r s h k er.0 es.0
      (behind (codes "box ") (named names depth x ++ r) (named names depth x' ++ s)
      (two_pieces (codes "box ") (named names depth x) r) (two_pieces (codes "box ") (named names depth x') s) eq) in
      (ap BoxTerm parts.0, parts.1)
  same_term depth (Unboxing (Some c) x) (Unboxing (Some c') x') r s h k l m er es eq =
      let inner = behind (codes "unbox ") (set_under names depth c ++ (codes " " ++ (named names depth x ++ r)))
      (set_under names depth c' ++ (codes " " ++ (named names depth x' ++ s)))
      (three_pieces (codes "unbox ") (set_under names depth c ++ codes " ") (named names depth x) r
      ∙ ap (λ t. codes "unbox " ++ t) (append_assoc (set_under names depth c) (codes " ") (named names depth x ++ r)))
      (three_pieces (codes "unbox ") (set_under names depth c' ++ codes " ") (named names depth x') s
      ∙ ap (λ t. codes "unbox " ++ t) (append_assoc (set_under names depth c') (codes " ") (named names depth x' ++ s))) eq in
      let sets = sets_same names locals all apart depth c c' (codes " " ++ (named names depth x ++ r))
      (codes " " ++ (named names depth x' ++ s)) h.0 k.0 inner in
      let boxes = after_variable names locals all apart depth x x' r s h.1 k.1 er.0 es.0 (rest_same 32 32 _ _ sets.1) in
      ((λ i. Unboxing (Some (sets.0 i)) (boxes.0 i)), boxes.1)
  same_term depth (Let n t u) (Let n' t' u') r s h k l m er es eq =
      let inner = behind (numbered (codes "let _") depth)
      (behind_name names depth n ++ (codes " = " ++ (term_under names depth t ++ (codes " in " ++ (term_under names (suc depth) u ++ r)))))
      (behind_name names depth n' ++ (codes " = " ++ (term_under names depth t' ++ (codes " in " ++ (term_under names (suc depth) u' ++ s)))))
      (six_pieces (numbered (codes "let _") depth) (behind_name names depth n) (codes " = ") (term_under names depth t) (codes " in ") (term_under names (suc depth) u) r)
      (six_pieces (numbered (codes "let _") depth) (behind_name names depth n') (codes " = ") (term_under names depth t') (codes " in ") (term_under names (suc depth) u') s) eq in
      let notes = after_note depth n n' (codes "= " ++ (term_under names depth t ++ (codes " in " ++ (term_under names (suc depth) u ++ r))))
      (codes "= " ++ (term_under names depth t' ++ (codes " in " ++ (term_under names (suc depth) u' ++ s)))) h.0 k.0 l.0 m.0 inner in
      let rights = same_term depth t t' (codes " in " ++ (term_under names (suc depth) u ++ r))
      (codes " in " ++ (term_under names (suc depth) u' ++ s)) h.1 k.1 l.1 m.1 (refl, refl) (refl, refl)
      (append_cancel_left (codes "= ") _ _ notes.1) in
      let bodies = same_term (suc depth) u u' r s h.2 k.2 l.2 m.2 er es (append_cancel_left (codes " in ") _ _ rights.1) in
      ((λ i. Let (notes.0 i) (rights.0 i) (bodies.0 i)), bodies.1)
  same_term depth (Conditional n x t u) (Conditional n' x' t' u') r s h k l m er es eq =
      let inner = behind (codes "if [")
      (note_under names depth n ++ (codes "] " ++ (named names depth x ++ (codes " then " ++ (term_under names depth t ++ (codes " else " ++ (term_under names depth u ++ r)))))))
      (note_under names depth n' ++ (codes "] " ++ (named names depth x' ++ (codes " then " ++ (term_under names depth t' ++ (codes " else " ++ (term_under names depth u' ++ s)))))))
      (eight_pieces (codes "if [") (note_under names depth n) (codes "] ") (named names depth x) (codes " then ") (term_under names depth t) (codes " else ") (term_under names depth u) r)
      (eight_pieces (codes "if [") (note_under names depth n') (codes "] ") (named names depth x') (codes " then ") (term_under names depth t') (codes " else ") (term_under names depth u') s) eq in
      let notes = after_written depth n n'
      (codes " " ++ (named names depth x ++ (codes " then " ++ (term_under names depth t ++ (codes " else " ++ (term_under names depth u ++ r))))))
      (codes " " ++ (named names depth x' ++ (codes " then " ++ (term_under names depth t' ++ (codes " else " ++ (term_under names depth u' ++ s))))))
      h.0 k.0 l.0 m.0 inner in
      let tests = after_variable names locals all apart depth x x'
      (codes " then " ++ (term_under names depth t ++ (codes " else " ++ (term_under names depth u ++ r))))
      (codes " then " ++ (term_under names depth t' ++ (codes " else " ++ (term_under names depth u' ++ s)))) h.1 k.1 refl refl
      (append_cancel_left (codes " ") _ _ notes.1) in
      let positives = same_term depth t t' (codes " else " ++ (term_under names depth u ++ r))
      (codes " else " ++ (term_under names depth u' ++ s)) h.2 k.2 l.1 m.1 (refl, refl) (refl, refl)
      (append_cancel_left (codes " then ") _ _ tests.1) in
      let negatives = same_term depth u u' r s h.3 k.3 l.2 m.2 er es (append_cancel_left (codes " else ") _ _ positives.1) in
      ((λ i. Conditional (notes.0 i) (tests.0 i) (positives.0 i) (negatives.0 i)), negatives.1)
  same_term depth (Repetition x y) (Repetition x' y') r s h k l m er es eq =
      let inner = behind (codes "repeat(") (named names depth x ++ (codes ", " ++ (named names depth y ++ (codes ")" ++ r))))
      (named names depth x' ++ (codes ", " ++ (named names depth y' ++ (codes ")" ++ s))))
      (five_pieces (codes "repeat(") (named names depth x) (codes ", ") (named names depth y) (codes ")") r)
      (five_pieces (codes "repeat(") (named names depth x') (codes ", ") (named names depth y') (codes ")") s) eq in
      let counts = after_variable names locals all apart depth x x' (codes ", " ++ (named names depth y ++ (codes ")" ++ r)))
      (codes ", " ++ (named names depth y' ++ (codes ")" ++ s))) h.0 k.0 refl refl inner in
      let functions = after_variable names locals all apart depth y y' (41 ∷ r) (41 ∷ s) h.1 k.1 refl refl
      (append_cancel_left (codes ", ") _ _ counts.1) in
      ((λ i. Repetition (counts.0 i) (functions.0 i)), rest_same 41 41 r s functions.1)
  same_term depth (Boundary t u) (Boundary t' u') r s h k l m er es eq =
      let inner = behind (codes "boundary [")
      (shape_under names depth t ++ (numbered (codes "] _") depth ++ (codes " => " ++ (term_under names (suc depth) u ++ r))))
      (shape_under names depth t' ++ (numbered (codes "] _") depth ++ (codes " => " ++ (term_under names (suc depth) u' ++ s))))
      (five_pieces (codes "boundary [") (shape_under names depth t) (numbered (codes "] _") depth) (codes " => ") (term_under names (suc depth) u) r)
      (five_pieces (codes "boundary [") (shape_under names depth t') (numbered (codes "] _") depth) (codes " => ") (term_under names (suc depth) u') s) eq in
      let shapes = after_shape depth t t' (numbered (codes "] _") depth ++ (codes " => " ++ (term_under names (suc depth) u ++ r)))
      (numbered (codes "] _") depth ++ (codes " => " ++ (term_under names (suc depth) u' ++ s))) h.0 k.0
      (refl, no_caret 93 refl) (refl, no_caret 93 refl) inner in
      let bodies = same_term (suc depth) u u' r s h.1 k.1 l m er es
      (append_cancel_left (codes " => ") _ _ (append_cancel_left (numbered (codes "] _") depth) _ _ shapes.1)) in
      ((λ i. Boundary (shapes.0 i) (bodies.0 i)), bodies.1)
  same_term depth (Leave t c x y) (Leave t' c' x' y') r s h k l m er es eq =
      let inner = behind (codes "exit [")
      (type_under names depth t c ++ (codes "] (" ++ (named names depth x ++ (codes ", " ++ (named names depth y ++ (codes ")" ++ r))))))
      (type_under names depth t' c' ++ (codes "] (" ++ (named names depth x' ++ (codes ", " ++ (named names depth y' ++ (codes ")" ++ s))))))
      (seven_pieces (codes "exit [") (type_under names depth t c) (codes "] (") (named names depth x) (codes ", ") (named names depth y) (codes ")") r)
      (seven_pieces (codes "exit [") (type_under names depth t' c') (codes "] (") (named names depth x') (codes ", ") (named names depth y') (codes ")") s) eq in
      let types = after_type depth t t' c c' (codes "] (" ++ (named names depth x ++ (codes ", " ++ (named names depth y ++ (codes ")" ++ r)))))
      (codes "] (" ++ (named names depth x' ++ (codes ", " ++ (named names depth y' ++ (codes ")" ++ s))))) h.0 h.1 k.0 k.1
      (refl, no_caret 93 refl) (refl, no_caret 93 refl) inner in
      let exits = after_variable names locals all apart depth x x' (codes ", " ++ (named names depth y ++ (codes ")" ++ r)))
      (codes ", " ++ (named names depth y' ++ (codes ")" ++ s))) h.2 k.2 refl refl (append_cancel_left (codes "] (") _ _ types.2) in
      let values = after_variable names locals all apart depth y y' (41 ∷ r) (41 ∷ s) h.3 k.3 refl refl
      (append_cancel_left (codes ", ") _ _ exits.1) in
      ((λ i. Leave (types.0 i) (types.1 i) (exits.0 i) (values.0 i)), rest_same 41 41 r s values.1)
  same_term depth (Unboxing None x) b r s h k l m er es eq = absurd l
  same_term depth (Unboxing (Some c) x) (Unboxing None y) r s h k l m er es eq = absurd m
  same_term depth (VariableTerm v) b r s h k l m er es eq =
      absurd (unlike 0 (term_kind b) refl (kinds_same names locals all apart depth (VariableTerm v) b r s h k l m er es eq))
  same_term depth (Application f x) b r s h k l m er es eq =
      absurd (unlike 1 (term_kind b) refl (kinds_same names locals all apart depth (Application f x) b r s h k l m er es eq))
  same_term depth (TypeApplication f x) b r s h k l m er es eq =
      absurd (unlike 2 (term_kind b) refl (kinds_same names locals all apart depth (TypeApplication f x) b r s h k l m er es eq))
  same_term depth (Primitive o x y) b r s h k l m er es eq =
      absurd (unlike 3 (term_kind b) refl (kinds_same names locals all apart depth (Primitive o x y) b r s h k l m er es eq))
  same_term depth (Operation o x y) b r s h k l m er es eq =
      absurd (unlike 4 (term_kind b) refl (kinds_same names locals all apart depth (Operation o x y) b r s h k l m er es eq))
  same_term depth (FunctionTerm t c u) b r s h k l m er es eq =
      absurd (unlike 5 (term_kind b) refl (kinds_same names locals all apart depth (FunctionTerm t c u) b r s h k l m er es eq))
  same_term depth (TypeFunctionTerm t u) b r s h k l m er es eq =
      absurd (unlike 6 (term_kind b) refl (kinds_same names locals all apart depth (TypeFunctionTerm t u) b r s h k l m er es eq))
  same_term depth (BoxTerm x) b r s h k l m er es eq =
      absurd (unlike 7 (term_kind b) refl (kinds_same names locals all apart depth (BoxTerm x) b r s h k l m er es eq))
  same_term depth (Unboxing (Some c) x) b r s h k l m er es eq =
      absurd (unlike 8 (term_kind b) refl (kinds_same names locals all apart depth (Unboxing (Some c) x) b r s h k l m er es eq))
  same_term depth (Let n t u) b r s h k l m er es eq =
      absurd (unlike 9 (term_kind b) refl (kinds_same names locals all apart depth (Let n t u) b r s h k l m er es eq))
  same_term depth (Conditional n x t u) b r s h k l m er es eq =
      absurd (unlike 10 (term_kind b) refl (kinds_same names locals all apart depth (Conditional n x t u) b r s h k l m er es eq))
  same_term depth (Repetition x y) b r s h k l m er es eq =
      absurd (unlike 11 (term_kind b) refl (kinds_same names locals all apart depth (Repetition x y) b r s h k l m er es eq))
  same_term depth (Boundary t u) b r s h k l m er es eq =
      absurd (unlike 12 (term_kind b) refl (kinds_same names locals all apart depth (Boundary t u) b r s h k l m er es eq))
  same_term depth (Leave t c x y) b r s h k l m er es eq =
      absurd (unlike 13 (term_kind b) refl (kinds_same names locals all apart depth (Leave t c x y) b r s h k l m er es eq))
  same_term depth (LiteralTerm x) b r s h k l m er es eq =
      absurd (unlike 14 (term_kind b) refl (kinds_same names locals all apart depth (LiteralTerm x) b r s h k l m er es eq))

pub different_terms : DifferentTermsHaveDifferentTexts
different_terms names locals a b all apart h k l m e =
    (same_term names locals all apart locals a b [] [] h k l m (tt, refl) (tt, refl) (ap (λ text. text ++ []) e)).0
