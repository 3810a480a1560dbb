-- Closed types are one where their texts are.
use Rattle.std.proofs.Common.{◌≡◌, ℕ, suc, Bool, true, false, ◌==◌, List, [], ◌∷◌, ◌++◌, length, refl, sym, ap, subst, ◌∙◌, append_assoc, codes, bytes_eq, arith}
use Rattle.std.specs.List.{AllByRecursion, IsDistinct}
use Rattle.std.proofs.lemmas.Bool.{or_left, or_right}
use Rattle.std.proofs.lemmas.List.{append_cancel_left}
use Rattle.cc_base.specs.Names.{IsName}
use Rattle.cc_capture.specs.declared.var.Var.{Var}
use Rattle.cc_capture.specs.declared.var.Var.TheVariants.{Bound, Free}
use Rattle.cc_capture.specs.declared.var.Elem.{Elem}
use Rattle.cc_capture.specs.declared.var.Elem.TheVariants.{Var as Variable, Cap, Hole}
use Rattle.cc_capture.specs.Elements.{same_element}
use Rattle.cc_capture.specs.ElementOrder.{same_element-itself}
use Rattle.cc_capture.specs.Rising.{is_listed}
use Rattle.cc_capture.specs.Sets.{Set, contains, same_list}
use Rattle.cc_core.specs.Occurrences.{Meets, MeetsInSet, MeetsInType}
use Rattle.cc_core.proofs.Conditions.{Gives, MeetsInType-along}
use Rattle.cc_core.specs.Shapes.{Shape, BaseShape, AnyShape, TypeVariable, FunctionShape, TypeFunctionShape, BoxShape}
use Rattle.cc_core.specs.Shapes.{ExitShape, CapturingType}
use Rattle.cc_print.specs.TypeTexts.{numbered, elements_text, is_arrow, before_set, with_elements, shape_under, type_under}
use Rattle.cc_print.specs.TypeTextLaws.{IsBoundOrListed, IsFinished, finished, DifferentTypesHaveDifferentTexts}
use Rattle.cc_print.proofs.Words.{EndsWord, Begins, begins_append, clash, rest_same}
use Rattle.cc_print.proofs.ElementTexts.{IsPlaced, IsPlacedElement, placed, ends_differ, variable_same, elements_same}
use Rattle.cc_print.proofs.ShapeWords.{unlike, base_same, words_same, kind_same, front, arrow_begins}

all_listed : (P : Elem → Type 0) (es : List Elem) → ((e : Elem) → is_listed e es ≡ true → P e) → AllByRecursion P es
all_listed P [] each = tt
all_listed P (e ∷ es) each = (
  each e (or_left (same_element e e) (is_listed e es) (same_element-itself e)),
  all_listed P es (λ x there. each x (or_right (same_element x e) (is_listed x es) there)),
)

-- what holds of the members holds of the list
pub listed : (positions locals depth : ℕ) (set : Set) → MeetsInSet (placed positions locals) depth set
    → AllByRecursion (IsPlacedElement positions locals depth) set.list
unfolding contains
listed positions locals depth set h = all_listed (IsPlacedElement positions locals depth) set.list h

-- no set is written behind
abbrev pub NoCaret : List ℕ → Type 0
NoCaret [] = Unit {0}
NoCaret (b ∷ bs) = b ≡ 94 → ⊥

pub no_caret : (b : ℕ) → (b == 94) ≡ false → b ≡ 94 → ⊥
no_caret b other = unlike b 94 other

begins_both : (P : ℕ → Type 0) (xs : List ℕ) → Begins P xs → Begins (λ b. P b → ⊥) xs → ⊥
begins_both P [] p q = p
begins_both P (b ∷ bs) p q = q p

-- the elements of a set in braces
abbrev pub braces : List (List ℕ) → ℕ → List Elem → List ℕ
braces names depth es = codes "{" ++ elements_text names depth es ++ codes "}"

-- the text of a type
abbrev pub typed : List (List ℕ) → ℕ → Shape → List Elem → List ℕ
typed names depth a es = with_elements (is_arrow a) (shape_under names depth a) es (braces names depth es)

three : (t u d r : List ℕ) → ((t ++ u) ++ d) ++ r ≡ t ++ (u ++ (d ++ r))
three t u d r = append_assoc (t ++ u) d r ∙ append_assoc t u (d ++ r)

five : (n c t a g r : List ℕ) → (n ++ c ++ t ++ a ++ g) ++ r ≡ n ++ (c ++ (t ++ (a ++ (g ++ r))))
five n c t a g r =
    append_assoc (n ++ c ++ t ++ a) g r ∙ append_assoc (n ++ c ++ t) a (g ++ r) ∙ append_assoc (n ++ c) t (a ++ (g ++ r))
    ∙ append_assoc n c (t ++ (a ++ (g ++ r)))

pub inside : (n c t t' a g g' r s : List ℕ) → (n ++ c ++ t ++ a ++ g) ++ r ≡ (n ++ c ++ t' ++ a ++ g') ++ s
    → t ++ (a ++ (g ++ r)) ≡ t' ++ (a ++ (g' ++ s))
inside n c t t' a g g' r s e =
    append_cancel_left c (t ++ (a ++ (g ++ r))) (t' ++ (a ++ (g' ++ s)))
    (append_cancel_left n (c ++ (t ++ (a ++ (g ++ r)))) (c ++ (t' ++ (a ++ (g' ++ s))))
    (sym (five n c t a g r) ∙ e ∙ five n c t' a g' s))

pub before_bracket : (n t t' r s : List ℕ) → (n ++ (t ++ codes "]")) ++ r ≡ (n ++ (t' ++ codes "]")) ++ s
    → t ++ 93 ∷ r ≡ t' ++ 93 ∷ s
before_bracket n t t' r s e =
    let inner = append_cancel_left n ((t ++ codes "]") ++ r) ((t' ++ codes "]") ++ s)
    (sym (append_assoc n (t ++ codes "]") r) ∙ e ∙ append_assoc n (t' ++ codes "]") s) in
    sym (append_assoc t (codes "]") r) ∙ inner ∙ append_assoc t' (codes "]") s

module _ (names : List (List ℕ)) (locals : ℕ) (all : AllByRecursion IsName names) (apart : IsDistinct bytes_eq names) where
  -- a shape is read off the front of a text; one that is an arrow has no set behind it
  abbrev pub SameShape : ℕ → Shape → Type 0
  SameShape depth a =
      (b : Shape) (r s : List ℕ) → Meets (placed (length names) locals) depth a → Meets (placed (length names) locals) depth b
      → EndsWord r × (is_arrow a ≡ true → NoCaret r) → EndsWord s × (is_arrow b ≡ true → NoCaret s)
      → shape_under names depth a ++ r ≡ shape_under names depth b ++ s → (a ≡ b) × (r ≡ s)

  pub same_braces : (depth : ℕ) (e f : Elem) (es fs : List Elem) (r s : List ℕ)
      → AllByRecursion (IsPlacedElement (length names) locals depth) (e ∷ es)
      → AllByRecursion (IsPlacedElement (length names) locals depth) (f ∷ fs)
      → braces names depth (e ∷ es) ++ r ≡ braces names depth (f ∷ fs) ++ s → (e ∷ es ≡ f ∷ fs) × (r ≡ s)
  same_braces depth e f es fs r s h k eq =
      let inner = rest_same 123 123 _ _ eq in
      elements_same names locals all apart depth e f es fs r s h k
      (sym (append_assoc (elements_text names depth (e ∷ es)) (codes "}") r) ∙ inner
      ∙ append_assoc (elements_text names depth (f ∷ fs)) (codes "}") s)

  -- what begins with two parentheses, or with one and a bracket, is no shape
  doubled : (depth : ℕ) (a b : Shape) (u d r s : List ℕ) → is_arrow b ≡ true
      → Meets (placed (length names) locals) depth a → EndsWord r
      → shape_under names depth a ++ r ≡ 40 ∷ (((shape_under names depth b ++ u) ++ d) ++ s) → ⊥
  doubled depth a b u d r s arrow h er eq =
      begins_both (λ c. c ≡ 95) (((shape_under names depth b ++ u) ++ d) ++ s)
      (front names locals all apart depth a r (((shape_under names depth b ++ u) ++ d) ++ s) h er eq)
      (begins_append (λ c. c ≡ 95 → ⊥) ((shape_under names depth b ++ u) ++ d) s
      (begins_append (λ c. c ≡ 95 → ⊥) (shape_under names depth b ++ u) d
      (begins_append (λ c. c ≡ 95 → ⊥) (shape_under names depth b) u (arrow_begins names depth b arrow))))

  -- a type without a set, and one with a set
  bare_or_set : (depth : ℕ) (a b : Shape) (d r s : List ℕ) → SameShape depth a
      → Meets (placed (length names) locals) depth a → Meets (placed (length names) locals) depth b
      → EndsWord r × NoCaret r → (arrow : Bool) → is_arrow b ≡ arrow
      → shape_under names depth a ++ r ≡ (before_set arrow (shape_under names depth b) ++ d) ++ s → ⊥
  bare_or_set depth a b d r s same h k er true is eq = doubled depth a b (codes ")^") d r s is h er.0 eq
  bare_or_set depth a b d r s same h k er false is eq =
      let parts = same b r (94 ∷ (d ++ s)) h k (er.0, λ arrow. er.1) (refl, λ arrow. absurd (clash (is_arrow b) arrow is))
      (eq ∙ three (shape_under names depth b) (codes "^") d s) in
      subst NoCaret parts.1 er.1 refl

  set_or_bare : (depth : ℕ) (a b : Shape) (d r s : List ℕ) → SameShape depth a
      → Meets (placed (length names) locals) depth a → Meets (placed (length names) locals) depth b
      → EndsWord s × NoCaret s → (arrow : Bool) → is_arrow a ≡ arrow
      → (before_set arrow (shape_under names depth a) ++ d) ++ r ≡ shape_under names depth b ++ s → ⊥
  set_or_bare depth a b d r s same h k es true is eq = doubled depth b a (codes ")^") d s r is k es.0 (sym eq)
  set_or_bare depth a b d r s same h k es false is eq =
      let parts = same b (94 ∷ (d ++ r)) s h k (refl, λ arrow. absurd (clash (is_arrow a) arrow is)) (es.0, λ arrow. es.1)
      (sym (three (shape_under names depth a) (codes "^") d r) ∙ eq) in
      subst NoCaret (sym parts.1) es.1 refl

  -- two types with sets
  both_sets : (depth : ℕ) (a b : Shape) (d d' r s : List ℕ) → SameShape depth a
      → Meets (placed (length names) locals) depth a → Meets (placed (length names) locals) depth b
      → (arrow arrow' : Bool) → is_arrow a ≡ arrow → is_arrow b ≡ arrow'
      → (before_set arrow (shape_under names depth a) ++ d) ++ r
      ≡ (before_set arrow' (shape_under names depth b) ++ d') ++ s
      → (a ≡ b) × (d ++ r ≡ d' ++ s)
  both_sets depth a b d d' r s same h k true true is is' eq =
      let inner = rest_same 40 40 _ _ eq in
      let parts = same b (41 ∷ 94 ∷ (d ++ r)) (41 ∷ 94 ∷ (d' ++ s)) h k (refl, λ arrow. no_caret 41 refl)
      (refl, λ arrow. no_caret 41 refl)
      (sym (three (shape_under names depth a) (codes ")^") d r) ∙ inner ∙ three (shape_under names depth b) (codes ")^") d' s) in
      (parts.0, rest_same 94 94 _ _ (rest_same 41 41 _ _ parts.1))
  both_sets depth a b d d' r s same h k false false is is' eq =
      let parts = same b (94 ∷ (d ++ r)) (94 ∷ (d' ++ s)) h k (refl, λ arrow. absurd (clash (is_arrow a) arrow is))
      (refl, λ arrow. absurd (clash (is_arrow b) arrow is'))
      (sym (three (shape_under names depth a) (codes "^") d r) ∙ eq ∙ three (shape_under names depth b) (codes "^") d' s) in
      (parts.0, rest_same 94 94 _ _ parts.1)
  both_sets depth a b d d' r s same h k true false is is' eq =
      absurd (doubled depth b a (codes ")^") d (94 ∷ (d' ++ s)) r is k refl
      (sym (three (shape_under names depth b) (codes "^") d' s) ∙ sym eq))
  both_sets depth a b d d' r s same h k false true is is' eq =
      absurd (doubled depth a b (codes ")^") d' (94 ∷ (d ++ r)) s is' h refl
      (sym (three (shape_under names depth a) (codes "^") d r) ∙ eq))

  pub same_type : (depth : ℕ) (a b : Shape) (es fs : List Elem) (r s : List ℕ) → SameShape depth a
      → Meets (placed (length names) locals) depth a → Meets (placed (length names) locals) depth b
      → AllByRecursion (IsPlacedElement (length names) locals depth) es → AllByRecursion (IsPlacedElement (length names) locals depth) fs
      → EndsWord r × NoCaret r → EndsWord s × NoCaret s
      → typed names depth a es ++ r ≡ typed names depth b fs ++ s → (a ≡ b) × (es ≡ fs) × (r ≡ s)
  same_type depth a b [] [] r s same h k p q er es' eq =
      let parts = same b r s h k (er.0, λ arrow. er.1) (es'.0, λ arrow. es'.1) eq in
      (parts.0, refl, parts.1)
  same_type depth a b [] (f ∷ fs) r s same h k p q er es' eq =
      absurd (bare_or_set depth a b (braces names depth (f ∷ fs)) r s same h k er (is_arrow b) refl eq)
  same_type depth a b (e ∷ es) [] r s same h k p q er es' eq =
      absurd (set_or_bare depth a b (braces names depth (e ∷ es)) r s same h k es' (is_arrow a) refl eq)
  same_type depth a b (e ∷ es) (f ∷ fs) r s same h k p q er es' eq =
      let shapes = both_sets depth a b (braces names depth (e ∷ es)) (braces names depth (f ∷ fs)) r s same h k
      (is_arrow a) (is_arrow b) refl refl eq in
      let sets = same_braces depth e f es fs r s p q shapes.1 in
      (shapes.0, sets.0, sets.1)

  pub same_shape : (depth : ℕ) (a b : Shape) (r s : List ℕ) → Meets (placed (length names) locals) depth a
      → Meets (placed (length names) locals) depth b → EndsWord r × (is_arrow a ≡ true → NoCaret r)
      → EndsWord s × (is_arrow b ≡ true → NoCaret s)
      → shape_under names depth a ++ r ≡ shape_under names depth b ++ s → (a ≡ b) × (r ≡ s)
  same_shape depth (BaseShape x) (BaseShape x') r s h k fr fs eq =
      let words = words_same names locals all apart depth (BaseShape x) (BaseShape x') r s h k fr.0 fs.0 eq in
      (ap BaseShape (base_same x x' words.0), words.1)
  same_shape depth (BaseShape x) AnyShape r s h k fr fs eq =
      absurd (unlike 0 1 refl (kind_same names locals all apart depth (BaseShape x) AnyShape r s h k fr.0 fs.0 eq))
  same_shape depth (BaseShape x) (TypeVariable v') r s h k fr fs eq =
      absurd (unlike 0 2 refl (kind_same names locals all apart depth (BaseShape x) (TypeVariable v') r s h k fr.0 fs.0 eq))
  same_shape depth (BaseShape x) (FunctionShape t' c' g' e') r s h k fr fs eq =
      absurd (unlike 0 3 refl (kind_same names locals all apart depth (BaseShape x) (FunctionShape t' c' g' e') r s h k fr.0 fs.0 eq))
  same_shape depth (BaseShape x) (TypeFunctionShape t' g' e') r s h k fr fs eq =
      absurd (unlike 0 3 refl (kind_same names locals all apart depth (BaseShape x) (TypeFunctionShape t' g' e') r s h k fr.0 fs.0 eq))
  same_shape depth (BaseShape x) (BoxShape t' c') r s h k fr fs eq =
      absurd (unlike 0 5 refl (kind_same names locals all apart depth (BaseShape x) (BoxShape t' c') r s h k fr.0 fs.0 eq))
  same_shape depth (BaseShape x) (ExitShape g') r s h k fr fs eq =
      absurd (unlike 0 6 refl (kind_same names locals all apart depth (BaseShape x) (ExitShape g') r s h k fr.0 fs.0 eq))
  same_shape depth AnyShape AnyShape r s h k fr fs eq =
      (refl, (words_same names locals all apart depth AnyShape AnyShape r s h k fr.0 fs.0 eq).1)
  same_shape depth AnyShape (BaseShape x') r s h k fr fs eq =
      absurd (unlike 1 0 refl (kind_same names locals all apart depth AnyShape (BaseShape x') r s h k fr.0 fs.0 eq))
  same_shape depth AnyShape (TypeVariable v') r s h k fr fs eq =
      absurd (unlike 1 2 refl (kind_same names locals all apart depth AnyShape (TypeVariable v') r s h k fr.0 fs.0 eq))
  same_shape depth AnyShape (FunctionShape t' c' g' e') r s h k fr fs eq =
      absurd (unlike 1 3 refl (kind_same names locals all apart depth AnyShape (FunctionShape t' c' g' e') r s h k fr.0 fs.0 eq))
  same_shape depth AnyShape (TypeFunctionShape t' g' e') r s h k fr fs eq =
      absurd (unlike 1 3 refl (kind_same names locals all apart depth AnyShape (TypeFunctionShape t' g' e') r s h k fr.0 fs.0 eq))
  same_shape depth AnyShape (BoxShape t' c') r s h k fr fs eq =
      absurd (unlike 1 5 refl (kind_same names locals all apart depth AnyShape (BoxShape t' c') r s h k fr.0 fs.0 eq))
  same_shape depth AnyShape (ExitShape g') r s h k fr fs eq =
      absurd (unlike 1 6 refl (kind_same names locals all apart depth AnyShape (ExitShape g') r s h k fr.0 fs.0 eq))
  same_shape depth (TypeVariable v) (TypeVariable v') r s h k fr fs eq =
      let words = words_same names locals all apart depth (TypeVariable v) (TypeVariable v') r s h k fr.0 fs.0 eq in
      (ap TypeVariable (variable_same names locals all apart depth (codes "T") v v' h k words.0), words.1)
  same_shape depth (TypeVariable v) (BaseShape x') r s h k fr fs eq =
      absurd (unlike 2 0 refl (kind_same names locals all apart depth (TypeVariable v) (BaseShape x') r s h k fr.0 fs.0 eq))
  same_shape depth (TypeVariable v) AnyShape r s h k fr fs eq =
      absurd (unlike 2 1 refl (kind_same names locals all apart depth (TypeVariable v) AnyShape r s h k fr.0 fs.0 eq))
  same_shape depth (TypeVariable v) (FunctionShape t' c' g' e') r s h k fr fs eq =
      absurd (unlike 2 3 refl (kind_same names locals all apart depth (TypeVariable v) (FunctionShape t' c' g' e') r s h k fr.0 fs.0 eq))
  same_shape depth (TypeVariable v) (TypeFunctionShape t' g' e') r s h k fr fs eq =
      absurd (unlike 2 3 refl (kind_same names locals all apart depth (TypeVariable v) (TypeFunctionShape t' g' e') r s h k fr.0 fs.0 eq))
  same_shape depth (TypeVariable v) (BoxShape t' c') r s h k fr fs eq =
      absurd (unlike 2 5 refl (kind_same names locals all apart depth (TypeVariable v) (BoxShape t' c') r s h k fr.0 fs.0 eq))
  same_shape depth (TypeVariable v) (ExitShape g') r s h k fr fs eq =
      absurd (unlike 2 6 refl (kind_same names locals all apart depth (TypeVariable v) (ExitShape g') r s h k fr.0 fs.0 eq))
  same_shape depth (FunctionShape t c g e) (FunctionShape t' c' g' e') r s h k fr fs eq =
      let inner = inside (numbered (codes "(_") depth) (codes ": ") (typed names depth t c.list)
      (typed names depth t' c'.list) (codes ") -> ") (typed names (suc depth) g e.list)
      (typed names (suc depth) g' e'.list) r s eq in
      let takes = same_type depth t t' c.list c'.list (codes ") -> " ++ (typed names (suc depth) g e.list ++ r))
      (codes ") -> " ++ (typed names (suc depth) g' e'.list ++ s)) (same_shape depth t) h.0 k.0
      (listed (length names) locals depth c h.1) (listed (length names) locals depth c' k.1) (refl, no_caret 41 refl) (refl, no_caret 41 refl) inner in
      let gives = same_type (suc depth) g g' e.list e'.list r s (same_shape (suc depth) g) h.2 k.2
      (listed (length names) locals (suc depth) e h.3) (listed (length names) locals (suc depth) e' k.3) (fr.0, fr.1 refl) (fs.0, fs.1 refl)
      (append_cancel_left (codes ") -> ") (typed names (suc depth) g e.list ++ r) (typed names (suc depth) g' e'.list ++ s) takes.2) in (
        (λ i. FunctionShape (takes.0 i) (same_list c c' takes.1 i) (gives.0 i) (same_list e e' gives.1 i)),
        gives.2,
      )
  same_shape depth (FunctionShape t c g e) (BaseShape x') r s h k fr fs eq =
      absurd (unlike 3 0 refl (kind_same names locals all apart depth (FunctionShape t c g e) (BaseShape x') r s h k fr.0 fs.0 eq))
  same_shape depth (FunctionShape t c g e) AnyShape r s h k fr fs eq =
      absurd (unlike 3 1 refl (kind_same names locals all apart depth (FunctionShape t c g e) AnyShape r s h k fr.0 fs.0 eq))
  same_shape depth (FunctionShape t c g e) (TypeVariable v') r s h k fr fs eq =
      absurd (unlike 3 2 refl (kind_same names locals all apart depth (FunctionShape t c g e) (TypeVariable v') r s h k fr.0 fs.0 eq))
  same_shape depth (FunctionShape t c g e) (TypeFunctionShape t' g' e') r s h k fr fs eq = absurd (ends_differ 40 91 _ _ refl eq)
  same_shape depth (FunctionShape t c g e) (BoxShape t' c') r s h k fr fs eq =
      absurd (unlike 3 5 refl (kind_same names locals all apart depth (FunctionShape t c g e) (BoxShape t' c') r s h k fr.0 fs.0 eq))
  same_shape depth (FunctionShape t c g e) (ExitShape g') r s h k fr fs eq =
      absurd (unlike 3 6 refl (kind_same names locals all apart depth (FunctionShape t c g e) (ExitShape g') r s h k fr.0 fs.0 eq))
  same_shape depth (TypeFunctionShape t g e) (TypeFunctionShape t' g' e') r s h k fr fs eq =
      let inner = inside (numbered (codes "[_T") depth) (codes " <: ") (shape_under names depth t)
      (shape_under names depth t') (codes "] -> ") (typed names (suc depth) g e.list)
      (typed names (suc depth) g' e'.list) r s eq in
      let bound = same_shape depth t t' (codes "] -> " ++ (typed names (suc depth) g e.list ++ r))
      (codes "] -> " ++ (typed names (suc depth) g' e'.list ++ s)) h.0 k.0 (refl, λ arrow. no_caret 93 refl)
      (refl, λ arrow. no_caret 93 refl) inner in
      let gives = same_type (suc depth) g g' e.list e'.list r s (same_shape (suc depth) g) h.1 k.1
      (listed (length names) locals (suc depth) e h.2) (listed (length names) locals (suc depth) e' k.2) (fr.0, fr.1 refl) (fs.0, fs.1 refl)
      (append_cancel_left (codes "] -> ") (typed names (suc depth) g e.list ++ r) (typed names (suc depth) g' e'.list ++ s) bound.1) in
      ((λ i. TypeFunctionShape (bound.0 i) (gives.0 i) (same_list e e' gives.1 i)), gives.2)
  same_shape depth (TypeFunctionShape t g e) (BaseShape x') r s h k fr fs eq =
      absurd (unlike 3 0 refl (kind_same names locals all apart depth (TypeFunctionShape t g e) (BaseShape x') r s h k fr.0 fs.0 eq))
  same_shape depth (TypeFunctionShape t g e) AnyShape r s h k fr fs eq =
      absurd (unlike 3 1 refl (kind_same names locals all apart depth (TypeFunctionShape t g e) AnyShape r s h k fr.0 fs.0 eq))
  same_shape depth (TypeFunctionShape t g e) (TypeVariable v') r s h k fr fs eq =
      absurd (unlike 3 2 refl (kind_same names locals all apart depth (TypeFunctionShape t g e) (TypeVariable v') r s h k fr.0 fs.0 eq))
  same_shape depth (TypeFunctionShape t g e) (FunctionShape t' c' g' e') r s h k fr fs eq = absurd (ends_differ 91 40 _ _ refl eq)
  same_shape depth (TypeFunctionShape t g e) (BoxShape t' c') r s h k fr fs eq =
      absurd (unlike 3 5 refl (kind_same names locals all apart depth (TypeFunctionShape t g e) (BoxShape t' c') r s h k fr.0 fs.0 eq))
  same_shape depth (TypeFunctionShape t g e) (ExitShape g') r s h k fr fs eq =
      absurd (unlike 3 6 refl (kind_same names locals all apart depth (TypeFunctionShape t g e) (ExitShape g') r s h k fr.0 fs.0 eq))
  same_shape depth (BoxShape t c) (BoxShape t' c') r s h k fr fs eq =
      let inner = before_bracket (codes "Box[") (typed names depth t c.list) (typed names depth t' c'.list) r s eq in
      let content = same_type depth t t' c.list c'.list (93 ∷ r) (93 ∷ s) (same_shape depth t) h.0 k.0
      (listed (length names) locals depth c h.1) (listed (length names) locals depth c' k.1) (refl, no_caret 93 refl) (refl, no_caret 93 refl) inner in
      ((λ i. BoxShape (content.0 i) (same_list c c' content.1 i)), rest_same 93 93 r s content.2)
  same_shape depth (BoxShape t c) (BaseShape x') r s h k fr fs eq =
      absurd (unlike 5 0 refl (kind_same names locals all apart depth (BoxShape t c) (BaseShape x') r s h k fr.0 fs.0 eq))
  same_shape depth (BoxShape t c) AnyShape r s h k fr fs eq =
      absurd (unlike 5 1 refl (kind_same names locals all apart depth (BoxShape t c) AnyShape r s h k fr.0 fs.0 eq))
  same_shape depth (BoxShape t c) (TypeVariable v') r s h k fr fs eq =
      absurd (unlike 5 2 refl (kind_same names locals all apart depth (BoxShape t c) (TypeVariable v') r s h k fr.0 fs.0 eq))
  same_shape depth (BoxShape t c) (FunctionShape t' c' g' e') r s h k fr fs eq =
      absurd (unlike 5 3 refl (kind_same names locals all apart depth (BoxShape t c) (FunctionShape t' c' g' e') r s h k fr.0 fs.0 eq))
  same_shape depth (BoxShape t c) (TypeFunctionShape t' g' e') r s h k fr fs eq =
      absurd (unlike 5 3 refl (kind_same names locals all apart depth (BoxShape t c) (TypeFunctionShape t' g' e') r s h k fr.0 fs.0 eq))
  same_shape depth (BoxShape t c) (ExitShape g') r s h k fr fs eq =
      absurd (unlike 5 6 refl (kind_same names locals all apart depth (BoxShape t c) (ExitShape g') r s h k fr.0 fs.0 eq))
  same_shape depth (ExitShape g) (ExitShape g') r s h k fr fs eq =
      let inner = before_bracket (codes "Exit[") (shape_under names depth g) (shape_under names depth g') r s eq in
      let gives = same_shape depth g g' (93 ∷ r) (93 ∷ s) h k (refl, λ arrow. no_caret 93 refl)
      (refl, λ arrow. no_caret 93 refl) inner in
      (ap ExitShape gives.0, rest_same 93 93 r s gives.1)
  same_shape depth (ExitShape g) (BaseShape x') r s h k fr fs eq =
      absurd (unlike 6 0 refl (kind_same names locals all apart depth (ExitShape g) (BaseShape x') r s h k fr.0 fs.0 eq))
  same_shape depth (ExitShape g) AnyShape r s h k fr fs eq =
      absurd (unlike 6 1 refl (kind_same names locals all apart depth (ExitShape g) AnyShape r s h k fr.0 fs.0 eq))
  same_shape depth (ExitShape g) (TypeVariable v') r s h k fr fs eq =
      absurd (unlike 6 2 refl (kind_same names locals all apart depth (ExitShape g) (TypeVariable v') r s h k fr.0 fs.0 eq))
  same_shape depth (ExitShape g) (FunctionShape t' c' g' e') r s h k fr fs eq =
      absurd (unlike 6 3 refl (kind_same names locals all apart depth (ExitShape g) (FunctionShape t' c' g' e') r s h k fr.0 fs.0 eq))
  same_shape depth (ExitShape g) (TypeFunctionShape t' g' e') r s h k fr fs eq =
      absurd (unlike 6 3 refl (kind_same names locals all apart depth (ExitShape g) (TypeFunctionShape t' g' e') r s h k fr.0 fs.0 eq))
  same_shape depth (ExitShape g) (BoxShape t' c') r s h k fr fs eq =
      absurd (unlike 6 5 refl (kind_same names locals all apart depth (ExitShape g) (BoxShape t' c') r s h k fr.0 fs.0 eq))

-- where there are no local positions
to_placed : (positions depth : ℕ) (v : Var) → IsBoundOrListed positions depth v → IsPlaced positions 0 depth v
to_placed positions depth (Bound index) h = (omega (arith, h.0), h.1)
to_placed positions depth (Free position) h = (omega (arith, h), omega arith)

to_placed_element : (positions depth : ℕ) (e : Elem) → IsFinished positions depth e
    → IsPlacedElement positions 0 depth e
to_placed_element positions depth (Variable v) h = to_placed positions depth v h
to_placed_element positions depth Cap h = tt
to_placed_element positions depth (Hole number) h = h

-- what is finished is placed
pub finished_gives : (positions : ℕ) → Gives (◌≡◌ {A = ℕ}) (finished positions) (placed positions 0)
finished_gives positions = record {
  deeper = λ d e same. ap suc same;
  element = λ d e same x h. subst (λ n. IsPlacedElement positions 0 n x) same (to_placed_element positions d x h);
  shape = λ d e same v h. subst (λ n. IsPlaced positions 0 n v) same (to_placed positions d v h);
  variable = λ d e same v h. subst (λ n. IsPlaced positions 0 n v) same (to_placed positions d v h);
}

-- a type is read off the front of a text, where so many local positions stand behind the names
pub types_same : (names : List (List ℕ)) (locals : ℕ) (all : AllByRecursion IsName names)
    (apart : IsDistinct bytes_eq names) (depth : ℕ) (a b : CapturingType) (r s : List ℕ)
    → MeetsInType (placed (length names) locals) depth a → MeetsInType (placed (length names) locals) depth b
    → EndsWord r × NoCaret r → EndsWord s × NoCaret s
    → type_under names depth a.shape a.set ++ r ≡ type_under names depth b.shape b.set ++ s → (a ≡ b) × (r ≡ s)
types_same names locals all apart depth a b r s h k er es eq =
    let parts = same_type names locals all apart depth a.shape b.shape a.set.list b.set.list r s
    (same_shape names locals all apart depth a.shape) h.0 k.0 (listed (length names) locals depth a.set h.1)
    (listed (length names) locals depth b.set k.1) er es eq in
    ((λ i. record { shape = parts.0 i; set = same_list a.set b.set parts.1 i }), parts.2)

pub different_types : DifferentTypesHaveDifferentTexts
different_types names a b all apart h k eq =
    let along = MeetsInType-along (◌≡◌ {A = ℕ}) (finished (length names)) (placed (length names) 0)
    (finished_gives (length names)) 0 0 in
    (types_same names 0 all apart 0 a b [] [] (along a refl h) (along b refl k) (tt, tt) (tt, tt) (ap (λ text. text ++ []) eq)).0
