-- The word at the front of a shape's text, which tells what shape it is.
use Rattle.std.proofs.Common.{◌≡◌, ℕ, true, false, ◌==◌, List, [], ◌∷◌, ◌++◌, length, refl, sym, ap, subst, ◌∙◌, codes, bytes_eq, if◌then◌else◌}
use Rattle.std.specs.List.{AllByRecursion, IsDistinct}
use Rattle.std.proofs.lemmas.Bool.Decides.{Decides-eqb}
use Rattle.cc_base.specs.Names.{IsName, is_reserved, reserved_words}
use Rattle.cc_base.specs.declared.literal.Base.{Base}
use Rattle.cc_base.specs.declared.literal.Base.TheVariants as bases
use Rattle.cc_core.specs.Occurrences.{Meets}
use Rattle.cc_core.specs.Shapes.{Shape, BaseShape, AnyShape, TypeVariable, FunctionShape, TypeFunctionShape, BoxShape}
use Rattle.cc_core.specs.Shapes.{ExitShape}
use Rattle.cc_print.specs.TypeTexts.{variable_text, base_text, is_arrow, with_elements, set_under, shape_under}
use Rattle.cc_print.proofs.Words.{IsWord, EndsWord, Begins, clash, rest_same, same_words, word_from_test}
use Rattle.cc_print.proofs.ElementTexts.{placed, ends_differ, variable_word, variable_not_reserved, variable_some}

-- numbers that differ
pub unlike : (m n : ℕ) → (m == n) ≡ false → m ≡ n → ⊥
unlike m n other e = clash (m == n) ((Decides-eqb m n).1 e) other

-- the base shape of the name
base_of : List ℕ → Base
base_of word =
    if bytes_eq word (codes "Unit") then bases.Unit
    else (if bytes_eq word (codes "Bool") then bases.Bool
    else (if bytes_eq word (codes "Int") then bases.Int
    else (if bytes_eq word (codes "Str") then bases.Str
    else (if bytes_eq word (codes "Console") then bases.Console
    else (if bytes_eq word (codes "File") then bases.File else bases.Counter)))))

base_of-text : (base : Base) → base_of (base_text base) ≡ base
unfolding base_of
base_of-text bases.Unit = refl
base_of-text bases.Bool = refl
base_of-text bases.Int = refl
base_of-text bases.Str = refl
base_of-text bases.Console = refl
base_of-text bases.File = refl
base_of-text bases.Counter = refl

pub base_same : (x y : Base) → base_text x ≡ base_text y → x ≡ y
base_same x y e = sym (base_of-text x) ∙ ap base_of e ∙ base_of-text y

-- a number for each sort of shape; functions and type functions have one
abbrev pub shape_kind : Shape → ℕ
shape_kind (BaseShape base) = 0
shape_kind AnyShape = 1
shape_kind (TypeVariable v) = 2
shape_kind (FunctionShape t c g e) = 3
shape_kind (TypeFunctionShape t g e) = 3
shape_kind (BoxShape t c) = 5
shape_kind (ExitShape g) = 6

-- the number by the word
abbrev kind_of_word : List ℕ → ℕ
kind_of_word word =
    if is_reserved word
    then (if bytes_eq word (codes "Any") then 1
    else (if bytes_eq word (codes "Box") then 5 else (if bytes_eq word (codes "Exit") then 6 else 0)))
    else (if bytes_eq word [] then 3 else 2)

kind_of_variable : (word : List ℕ) → is_reserved word ≡ false → (word ≡ [] → ⊥) → kind_of_word word ≡ 2
kind_of_variable [] free some = absurd (some refl)
kind_of_variable (b ∷ bs) free some = rw free refl

kind_of_base : (base : Base) → kind_of_word (base_text base) ≡ 0
unfolding is_reserved reserved_words
kind_of_base bases.Unit = refl
kind_of_base bases.Bool = refl
kind_of_base bases.Int = refl
kind_of_base bases.Str = refl
kind_of_base bases.Console = refl
kind_of_base bases.File = refl
kind_of_base bases.Counter = refl

kind_of_none : kind_of_word [] ≡ 3
unfolding is_reserved reserved_words
kind_of_none = refl

kind_of_any : kind_of_word (codes "Any") ≡ 1
unfolding is_reserved reserved_words
kind_of_any = refl

kind_of_box : kind_of_word (codes "Box") ≡ 5
unfolding is_reserved reserved_words
kind_of_box = refl

kind_of_exit : kind_of_word (codes "Exit") ≡ 6
unfolding is_reserved reserved_words
kind_of_exit = refl

word_base : (base : Base) → IsWord (base_text base)
word_base bases.Unit = word_from_test (codes "Unit") refl
word_base bases.Bool = word_from_test (codes "Bool") refl
word_base bases.Int = word_from_test (codes "Int") refl
word_base bases.Str = word_from_test (codes "Str") refl
word_base bases.Console = word_from_test (codes "Console") refl
word_base bases.File = word_from_test (codes "File") refl
word_base bases.Counter = word_from_test (codes "Counter") refl

-- the word at the front
abbrev pub word_of : List (List ℕ) → ℕ → Shape → List ℕ
word_of names depth (BaseShape base) = base_text base
word_of names depth AnyShape = codes "Any"
word_of names depth (TypeVariable v) = variable_text names depth (codes "_T") v
word_of names depth (FunctionShape t c g e) = []
word_of names depth (TypeFunctionShape t g e) = []
word_of names depth (BoxShape t c) = codes "Box"
word_of names depth (ExitShape g) = codes "Exit"

-- what stands behind it
abbrev pub rest_of : List (List ℕ) → ℕ → Shape → List ℕ → List ℕ
rest_of names depth (BaseShape base) r = r
rest_of names depth AnyShape r = r
rest_of names depth (TypeVariable v) r = r
rest_of names depth (FunctionShape t c g e) r = shape_under names depth (FunctionShape t c g e) ++ r
rest_of names depth (TypeFunctionShape t g e) r = shape_under names depth (TypeFunctionShape t g e) ++ r
rest_of names depth (BoxShape t c) r =
    91 ∷ ((with_elements (is_arrow t) (shape_under names depth t) c.list (set_under names depth c) ++ codes "]") ++ r)
rest_of names depth (ExitShape g) r = 91 ∷ ((shape_under names depth g ++ codes "]") ++ r)

in_parts : (names : List (List ℕ)) (depth : ℕ) (a : Shape) (r : List ℕ)
    → shape_under names depth a ++ r ≡ word_of names depth a ++ rest_of names depth a r
in_parts names depth (BaseShape base) r = refl
in_parts names depth AnyShape r = refl
in_parts names depth (TypeVariable v) r = refl
in_parts names depth (FunctionShape t c g e) r = refl
in_parts names depth (TypeFunctionShape t g e) r = refl
in_parts names depth (BoxShape t c) r = refl
in_parts names depth (ExitShape g) r = refl

rest_ends : (names : List (List ℕ)) (depth : ℕ) (a : Shape) (r : List ℕ) → EndsWord r
    → EndsWord (rest_of names depth a r)
rest_ends names depth (BaseShape base) r h = h
rest_ends names depth AnyShape r h = h
rest_ends names depth (TypeVariable v) r h = h
rest_ends names depth (FunctionShape t c g e) r h = refl
rest_ends names depth (TypeFunctionShape t g e) r h = refl
rest_ends names depth (BoxShape t c) r h = refl
rest_ends names depth (ExitShape g) r h = refl

module _ (names : List (List ℕ)) (locals : ℕ) (all : AllByRecursion IsName names) (apart : IsDistinct bytes_eq names) where
  word_is : (depth : ℕ) (a : Shape) → Meets (placed (length names) locals) depth a → IsWord (word_of names depth a)
  word_is depth (BaseShape base) h = word_base base
  word_is depth AnyShape h = word_from_test (codes "Any") refl
  word_is depth (TypeVariable v) h =
      variable_word names locals all apart depth (codes "_T") v (word_from_test (codes "_T") refl) h
  word_is depth (FunctionShape t c g e) h = tt
  word_is depth (TypeFunctionShape t g e) h = tt
  word_is depth (BoxShape t c) h = word_from_test (codes "Box") refl
  word_is depth (ExitShape g) h = word_from_test (codes "Exit") refl

  kind_is : (depth : ℕ) (a : Shape) → Meets (placed (length names) locals) depth a
      → kind_of_word (word_of names depth a) ≡ shape_kind a
  kind_is depth (BaseShape base) h = kind_of_base base
  kind_is depth AnyShape h = kind_of_any
  kind_is depth (TypeVariable v) h =
      kind_of_variable (variable_text names depth (codes "_T") v)
      (variable_not_reserved names locals all apart depth (codes "T") v h) (variable_some names locals all apart depth (codes "T") v h)
  kind_is depth (FunctionShape t c g e) h = kind_of_none
  kind_is depth (TypeFunctionShape t g e) h = kind_of_none
  kind_is depth (BoxShape t c) h = kind_of_box
  kind_is depth (ExitShape g) h = kind_of_exit

  -- where the texts are the same, so are the words at their fronts, and what stands behind
  pub words_same : (depth : ℕ) (a b : Shape) (r s : List ℕ) → Meets (placed (length names) locals) depth a
      → Meets (placed (length names) locals) depth b → EndsWord r → EndsWord s
      → shape_under names depth a ++ r ≡ shape_under names depth b ++ s
      → (word_of names depth a ≡ word_of names depth b) × (rest_of names depth a r ≡ rest_of names depth b s)
  words_same depth a b r s h k er es eq =
      same_words (word_of names depth a) (word_of names depth b) (rest_of names depth a r) (rest_of names depth b s)
      (word_is depth a h) (word_is depth b k) (rest_ends names depth a r er) (rest_ends names depth b s es)
      (sym (in_parts names depth a r) ∙ eq ∙ in_parts names depth b s)

  pub kind_same : (depth : ℕ) (a b : Shape) (r s : List ℕ) → Meets (placed (length names) locals) depth a
      → Meets (placed (length names) locals) depth b → EndsWord r → EndsWord s
      → shape_under names depth a ++ r ≡ shape_under names depth b ++ s → shape_kind a ≡ shape_kind b
  kind_same depth a b r s h k er es eq =
      sym (kind_is depth a h) ∙ ap kind_of_word (words_same depth a b r s h k er es eq).0 ∙ kind_is depth b k

  front_kind : (depth : ℕ) (a : Shape) (r x : List ℕ) → Meets (placed (length names) locals) depth a → EndsWord r
      → shape_under names depth a ++ r ≡ 40 ∷ x → shape_kind a ≡ 3
  front_kind depth a r x h er eq =
      let words = same_words (word_of names depth a) [] (rest_of names depth a r) (40 ∷ x) (word_is depth a h) tt
      (rest_ends names depth a r er) refl (sym (in_parts names depth a r) ∙ eq) in
      sym (kind_is depth a h) ∙ ap kind_of_word words.0 ∙ kind_of_none

  -- a shape's text that begins with a parenthesis goes on with a low line
  pub front : (depth : ℕ) (a : Shape) (r x : List ℕ) → Meets (placed (length names) locals) depth a → EndsWord r
      → shape_under names depth a ++ r ≡ 40 ∷ x → Begins (λ b. b ≡ 95) x
  front depth (FunctionShape t c g e) r x h er eq = subst (Begins (λ b. b ≡ 95)) (rest_same 40 40 _ x eq) refl
  front depth (TypeFunctionShape t g e) r x h er eq = absurd (ends_differ 91 40 _ x refl eq)
  front depth (BaseShape base) r x h er eq = absurd (unlike 0 3 refl (front_kind depth (BaseShape base) r x h er eq))
  front depth AnyShape r x h er eq = absurd (unlike 1 3 refl (front_kind depth AnyShape r x h er eq))
  front depth (TypeVariable v) r x h er eq = absurd (unlike 2 3 refl (front_kind depth (TypeVariable v) r x h er eq))
  front depth (BoxShape t c) r x h er eq = absurd (unlike 5 3 refl (front_kind depth (BoxShape t c) r x h er eq))
  front depth (ExitShape g) r x h er eq = absurd (unlike 6 3 refl (front_kind depth (ExitShape g) r x h er eq))

-- the text of an arrow does not begin with a low line
pub arrow_begins : (names : List (List ℕ)) (depth : ℕ) (a : Shape) → is_arrow a ≡ true
    → Begins (λ b. b ≡ 95 → ⊥) (shape_under names depth a)
arrow_begins names depth (FunctionShape t c g e) h = unlike 40 95 refl
arrow_begins names depth (TypeFunctionShape t g e) h = unlike 91 95 refl
arrow_begins names depth (BaseShape base) h = absurd (clash false h refl)
arrow_begins names depth AnyShape h = absurd (clash false h refl)
arrow_begins names depth (TypeVariable v) h = absurd (clash false h refl)
arrow_begins names depth (BoxShape t c) h = absurd (clash false h refl)
arrow_begins names depth (ExitShape g) h = absurd (clash false h refl)
