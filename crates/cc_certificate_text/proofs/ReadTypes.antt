-- What is read as sets, and as types where shapes are read.
use Rattle.std.proofs.Common.{◌≡◌, ℕ, suc, ◌^◌, ◌<◌, ◌≤◌, Bool, true, false, ◌==◌, ◌⊎◌, inl, inr, ⊎_elim, cond, List, [], ◌∷◌, ◌++◌, map, drop, Option, Some, None, length, codes, bytes_eq, refl, sym, ap, subst, ◌∙◌, arith, append_assoc}
use Rattle.std.specs.List.{AllByRecursion, IsDistinct}
use Rattle.std.proofs.lemmas.Bool.{true≢false}
use Rattle.cc_base.specs.Names.{IsName}
use Rattle.cc_capture.specs.declared.var.Elem.{Elem}
use Rattle.cc_capture.specs.Sets.{Set, from_list, image, empty}
use Rattle.cc_words.specs.Words.{joined, after_prefix, cut_at, split_at, ◌>>=◌ as ◌>>>◌}
use Rattle.cc_words.proofs.Steps.{some_from_bind, cut_at_gives, cut_at-append, Lacks}
use Rattle.cc_words.proofs.Splits.{joined-split_at}
use Rattle.cc_capture.proofs.Images.{image-empty}
use Rattle.cc_core.specs.Shapes.{Shape, BaseShape, AnyShape, TypeVariable, FunctionShape, TypeFunctionShape, BoxShape, ExitShape, CapturingType, capturing}
use Rattle.std.proofs.lemmas.Bool.Decides.{Decides-eqb}
use Rattle.cc_base.specs.declared.literal.Base.TheVariants as bases
use Rattle.cc_capture.specs.declared.var.Var.TheVariants.{Bound, Free}
use Rattle.cc_print.proofs.Words.{is_word_byte, EndsWord, clash, first_same}
use Rattle.cc_print.specs.TypeTexts.{element_text, others_text, elements_text, set_under, shape_under, type_under, is_arrow, with_elements, before_set}
use Rattle.cc_certificate_text.specs.LocalNames.{renamed, IsNamedSet, IsNamedShape}
use Rattle.cc_certificate_text.specs.Reading.{Found, Got, Wrong, Reader, ◌>>=◌, found_of, where_true, begun, Locals, elements_of, stand_in_order, set_where, set_of, set_of_cut, some_set_at, set_at, exact_at, captured_at, arrow_type_at, plain_type_at, type_over}
use Rattle.cc_certificate_text.proofs.Readers.{got_from_bind, got_from_option, got_from_test, got_parts, begun_gives, begun-text, begun-none, exact_at_gives, exact_at-text}
use Rattle.cc_certificate_text.proofs.Seen.{seen, seen_element, MayStand, bound_text}
use Rattle.cc_certificate_text.proofs.ReadSets.{element_some, NamedElement, elements_of_gives, elements_of-words, words_of, joined_words, split_words, no_brace, no_prefix}
use Rattle.cc_certificate_text.proofs.SetOrders.{list_of_set, all_from_list, InOrder, elements_in_order}

set_where_gives : (test : Bool) (es : List Elem) (set : Set) → set_where test es ≡ Some set → (test ≡ true) × (from_list es ≡ set)
set_where_gives true es set h = (refl, cc)
set_where_gives false es set h = cc

from_list-nothing : from_list [] ≡ empty
unfolding from_list
from_list-nothing = refl

empty-list : empty.list ≡ []
unfolding empty
empty-list = refl

with_some : (arrow : Bool) (text braces : List ℕ) (list : List Elem) (first : Elem) (others : List Elem) → list ≡ first ∷ others
    → with_elements arrow text list braces ≡ before_set arrow text ++ braces
with_some arrow text braces list first others e =
    subst (λ l. with_elements arrow text l braces ≡ before_set arrow text ++ braces) (sym e) refl

caret_text : (s e rest : List ℕ)
    → ((s ++ codes "^") ++ ((codes "{" ++ e) ++ codes "}")) ++ rest ≡ s ++ (94 ∷ 123 ∷ (e ++ 125 ∷ rest))
caret_text s e rest =
    append_assoc (s ++ codes "^") ((codes "{" ++ e) ++ codes "}") rest
    ∙ (append_assoc s (codes "^") (((codes "{" ++ e) ++ codes "}") ++ rest)
    ∙ ap (λ z. s ++ (94 ∷ 123 ∷ z)) (append_assoc e (codes "}") rest))

arrow_text : (s e rest : List ℕ)
    → (((codes "(" ++ s) ++ codes ")^") ++ ((codes "{" ++ e) ++ codes "}")) ++ rest
    ≡ 40 ∷ (s ++ (41 ∷ 94 ∷ 123 ∷ (e ++ 125 ∷ rest)))
arrow_text s e rest =
    ap (λ z. 40 ∷ z) (append_assoc (s ++ codes ")^") ((codes "{" ++ e) ++ codes "}") rest
    ∙ (append_assoc s (codes ")^") (((codes "{" ++ e) ++ codes "}") ++ rest)
    ∙ ap (λ z. s ++ (41 ∷ 94 ∷ 123 ∷ z)) (append_assoc e (codes "}") rest)))

append_none : (xs ys : List ℕ) → xs ++ ys ≡ [] → xs ≡ []
append_none [] ys e = refl
append_none (x ∷ xs) ys e = cc

no_brace_first : (elements rest r : List ℕ) → Lacks 125 elements → (elements ≡ [] → ⊥) → elements ++ 125 ∷ rest ≡ 125 ∷ r → ⊥
no_brace_first [] rest r lacks some e = some refl
no_brace_first (b ∷ bs) rest r lacks some e = clash (b == 125) ((Decides-eqb b 125).1 (first_same b 125 _ _ e)) lacks.0

module _ (names : List (List ℕ)) (all : AllByRecursion IsName names) (apart : IsDistinct bytes_eq names) (locals : Locals) where
  -- the set as it is written
  abbrev pub written_set : Set → Set
  written_set set = image (seen_element locals (length names)) set

  abbrev pub NamedSet : ℕ → Set → Type 0
  NamedSet depth set = IsNamedSet (MayStand locals depth) (length names) set

  -- the set has elements as it is written
  abbrev pub HasElements : Set → Type 0
  HasElements set = (first : Elem) × (others : List Elem) × ((written_set set).list ≡ first ∷ others)

  abbrev pub elements_written : ℕ → Set → List ℕ
  elements_written depth set = elements_text names depth (written_set set).list

  set_of_gives : (depth : ℕ) (content : List ℕ) (set : Set) → set_of locals names depth content ≡ Some set
      → NamedSet depth set × HasElements set × (content ≡ elements_written depth set)
  unfolding set_of
  set_of_gives depth content set h =
      let step = some_from_bind (elements_of locals names depth (split_at 44 content))
      (λ es. set_where (stand_in_order locals es) es) set h in
      let order = set_where_gives (stand_in_order locals step.0) step.0 set step.2 in
      let parts = elements_of_gives names all apart locals depth (split_at 44 content) step.0 step.1 in
      let named = parts.3 in
      let is : from_list (parts.0 ∷ parts.1) ≡ set = ap from_list (sym parts.2) ∙ order.1 in
      let ordered : stand_in_order locals (parts.0 ∷ parts.1) ≡ true = ap (stand_in_order locals) (sym parts.2) ∙ order.0 in
      let list = list_of_set locals (MayStand locals depth) (length names) (parts.0 ∷ parts.1) named ordered in
      subst (λ s. NamedSet depth s × HasElements s × (content ≡ elements_written depth s)) is (
        all_from_list (NamedElement names all apart locals depth) (parts.0 ∷ parts.1) named,
        (seen_element locals (length names) parts.0, map (seen_element locals (length names)) parts.1, list),
        sym (joined-split_at 44 content) ∙ (ap (joined 44) parts.4 ∙ (joined_words names all apart locals depth parts.0 parts.1
            ∙ ap (elements_text names depth) (sym list))),
      )

  set_of_elements : (depth : ℕ) (set : Set) (elements : List Elem)
      → AllByRecursion (NamedElement names all apart locals depth) elements
      → map (seen_element locals (length names)) elements ≡ (written_set set).list
      → stand_in_order locals elements ≡ true → from_list elements ≡ set → HasElements set
      → set_of locals names depth (elements_written depth set) ≡ Some set
  unfolding set_of
  set_of_elements depth set [] named written order same some = let clash = written ∙ some.2 in cc
  set_of_elements depth set (e ∷ es) named written order same some =
      let words = ap (split_at 44) (ap (elements_text names depth) (sym written)) ∙ split_words names all apart locals depth e es named in
      rw (words, elements_of-words names all apart locals depth e es named, order) (ap Some same)

  set_cut_gives : (depth : ℕ) (bytes : List ℕ) (set : Set) (rest : List ℕ) (o : Option (List ℕ × List ℕ))
      → cut_at 125 bytes ≡ o → set_of_cut locals names depth o ≡ Got set rest
      → NamedSet depth set × HasElements set × (bytes ≡ elements_written depth set ++ 125 ∷ rest)
  set_cut_gives depth bytes set rest None e h = cc
  set_cut_gives depth bytes set rest (Some cut) e h =
      let found = got_from_option (set_of locals names depth cut.0) cut.1 set rest h in
      let given = set_of_gives depth cut.0 set found.0 in
      (given.0, given.1, cut_at_gives 125 bytes cut.0 cut.1 e ∙ (λ i. given.2 i ++ 125 ∷ found.1 i))

  pub some_set_at_gives : (depth : ℕ) (bytes : List ℕ) (set : Set) (rest : List ℕ)
      → some_set_at locals names depth bytes ≡ Got set rest
      → NamedSet depth set × HasElements set × (bytes ≡ elements_written depth set ++ 125 ∷ rest)
  unfolding some_set_at
  some_set_at_gives depth bytes set rest h = set_cut_gives depth bytes set rest (cut_at 125 bytes) refl h

  pub elements_lack : (depth : ℕ) (set : Set) (elements : List Elem)
      → AllByRecursion (NamedElement names all apart locals depth) elements
      → map (seen_element locals (length names)) elements ≡ (written_set set).list → HasElements set
      → Lacks 125 (elements_written depth set)
  elements_lack depth set [] named written some = let clash = written ∙ some.2 in absurd (nothing_listed clash)
    where
      nothing_listed : [] ≡ some.0 ∷ some.1 → ⊥
      nothing_listed e = cc
  elements_lack depth set (e ∷ es) named written some =
      subst (λ l. Lacks 125 (elements_text names depth l)) written (no_brace names all apart locals depth e es named)

  pub some_set_at-text : (depth : ℕ) (set : Set) (rest : List ℕ) → NamedSet depth set → HasElements set
      → some_set_at locals names depth (elements_written depth set ++ 125 ∷ rest) ≡ Got set rest
  unfolding some_set_at
  some_set_at-text depth set rest named some =
      let o = elements_in_order locals (MayStand locals depth) (length names) set named in
      let lack = elements_lack depth set o.elements o.named o.written some in
      let found = set_of_elements depth set o.elements o.named o.written o.order o.same some in
      rw (cut_at-append 125 (elements_written depth set) rest lack, found) refl

  -- a set has elements as it is written, or it is empty
  pub some_or_empty : (depth : ℕ) (set : Set) → NamedSet depth set → HasElements set ⊎ (empty ≡ set)
  some_or_empty depth set named =
      let o = elements_in_order locals (MayStand locals depth) (length names) set named in
      choose o.elements o.written o.same
    where
      choose : (elements : List Elem) → map (seen_element locals (length names)) elements ≡ (written_set set).list
          → from_list elements ≡ set → HasElements set ⊎ (empty ≡ set)
      choose [] written same = inr (sym from_list-nothing ∙ same)
      choose (e ∷ es) written same =
          inl (seen_element locals (length names) e, map (seen_element locals (length names)) es, sym written)

  first_some : (depth : ℕ) (set : Set) (elements : List Elem)
      → AllByRecursion (NamedElement names all apart locals depth) elements
      → map (seen_element locals (length names)) elements ≡ (written_set set).list
      → HasElements set → elements_written depth set ≡ [] → ⊥
  first_some depth set [] ok written some e = nothing_listed some.0 some.1 (written ∙ some.2)
    where
      nothing_listed : (x : Elem) (xs : List Elem) → [] ≡ x ∷ xs → ⊥
      nothing_listed x xs e = cc
  first_some depth set (x ∷ xs) ok written some e =
      element_some names all apart locals depth x ok.0
      (append_none (element_text names depth (seen_element locals (length names) x))
      (others_text names depth (map (seen_element locals (length names)) xs))
      (ap (elements_text names depth) written ∙ e))

  -- no brace closes a set before its elements
  pub set_no_close : (depth : ℕ) (set : Set) (rest : List ℕ) → NamedSet depth set → HasElements set
      → after_prefix (elements_written depth set ++ 125 ∷ rest) (codes "}") ≡ None
  set_no_close depth set rest ok some =
      let o = elements_in_order locals (MayStand locals depth) (length names) set ok in
      let lacks = elements_lack depth set o.elements o.named o.written some in
      no_prefix (elements_written depth set ++ 125 ∷ rest) (codes "}")
      (λ r e. no_brace_first (elements_written depth set) rest r lacks (first_some depth set o.elements o.named o.written some) e)

  pub written_empty : (written_set empty).list ≡ []
  written_empty = ap (λ s. s.list) (image-empty (seen_element locals (length names))) ∙ empty-list

  -- TYPES

  abbrev pub viewed : Shape → Shape
  viewed shape = renamed (seen locals (length names)) (seen_element locals (length names)) shape

  -- the text of a shape and of a type as they are written
  abbrev pub stext : ℕ → Shape → List ℕ
  stext depth shape = shape_under names depth (viewed shape)

  abbrev pub ttext : ℕ → CapturingType → List ℕ
  ttext depth type = type_under names depth (viewed type.shape) (written_set type.set)

  abbrev pub NamedShape : ℕ → Shape → Type 0
  NamedShape depth shape = IsNamedShape (MayStand locals) (length names) depth shape

  viewed_arrow : (shape : Shape) → is_arrow (viewed shape) ≡ is_arrow shape
  viewed_arrow (BaseShape base) = refl
  viewed_arrow AnyShape = refl
  viewed_arrow (TypeVariable variable) = refl
  viewed_arrow (FunctionShape takes c gives d) = refl
  viewed_arrow (TypeFunctionShape bound gives d) = refl
  viewed_arrow (BoxShape content c) = refl
  viewed_arrow (ExitShape gives) = refl

  type_with_set : (depth : ℕ) (shape : Shape) (set : Set) (arrow : Bool) → is_arrow shape ≡ arrow → HasElements set
      → ttext depth (capturing shape set) ≡ before_set arrow (stext depth shape) ++ set_under names depth (written_set set)
  type_with_set depth shape set arrow is some =
      with_some (is_arrow (viewed shape)) (stext depth shape) (set_under names depth (written_set set)) (written_set set).list some.0 some.1 some.2
      ∙ ap (λ a. before_set a (stext depth shape) ++ set_under names depth (written_set set)) (viewed_arrow shape ∙ is)

  pub type_without : (depth : ℕ) (shape : Shape) → ttext depth (capturing shape empty) ≡ stext depth shape
  type_without depth shape =
      ap (λ l. with_elements (is_arrow (viewed shape)) (stext depth shape) l (set_under names depth (written_set empty))) written_empty

  pub plain_with_set : (depth : ℕ) (shape : Shape) (set : Set) (rest : List ℕ) → is_arrow shape ≡ false → HasElements set
      → ttext depth (capturing shape set) ++ rest ≡ stext depth shape ++ (94 ∷ 123 ∷ (elements_written depth set ++ 125 ∷ rest))
  plain_with_set depth shape set rest is some =
      ap (λ t. t ++ rest) (type_with_set depth shape set false is some)
      ∙ caret_text (stext depth shape) (elements_written depth set) rest

  pub arrow_with_set : (depth : ℕ) (shape : Shape) (set : Set) (rest : List ℕ) → is_arrow shape ≡ true → HasElements set
      → ttext depth (capturing shape set) ++ rest
      ≡ 40 ∷ (stext depth shape ++ (41 ∷ 94 ∷ 123 ∷ (elements_written depth set ++ 125 ∷ rest)))
  arrow_with_set depth shape set rest is some =
      ap (λ t. t ++ rest) (type_with_set depth shape set true is some)
      ∙ arrow_text (stext depth shape) (elements_written depth set) rest

  -- no type goes on at the front of the text
  abbrev pub EndsType : List ℕ → Type 0
  EndsType [] = Unit {0}
  EndsType (b ∷ bs) = (is_word_byte b ≡ false) × ((b == 94) ≡ false)

  pub ends_word : (rest : List ℕ) → EndsType rest → EndsWord rest
  ends_word [] ends = tt
  ends_word (b ∷ bs) ends = ends.0

  -- the shape does not go on there, nor does a type that an arrow ends with
  abbrev pub EndsShape : Shape → List ℕ → Type 0
  EndsShape shape rest = EndsWord rest × (is_arrow shape ≡ true → EndsType rest)

  no_caret : (rest : List ℕ) → EndsType rest → after_prefix rest (codes "^{") ≡ None
  no_caret [] ends = refl
  no_caret (b ∷ bs) ends =
      no_prefix (b ∷ bs) (codes "^{")
      (λ r e. clash (b == 94) ((Decides-eqb b 94).1 (first_same b 94 bs (123 ∷ r) e)) ends.1)

  no_double : (depth : ℕ) (shape : Shape) (rest : List ℕ) → NamedShape depth shape
      → (after_prefix (stext depth shape ++ rest) (codes "((") ≡ None) × (after_prefix (stext depth shape ++ rest) (codes "([") ≡ None)
  no_double depth (BaseShape bases.Unit) rest named = (refl, refl)
  no_double depth (BaseShape bases.Bool) rest named = (refl, refl)
  no_double depth (BaseShape bases.Int) rest named = (refl, refl)
  no_double depth (BaseShape bases.Str) rest named = (refl, refl)
  no_double depth (BaseShape bases.Console) rest named = (refl, refl)
  no_double depth (BaseShape bases.File) rest named = (refl, refl)
  no_double depth (BaseShape bases.Counter) rest named = (refl, refl)
  no_double depth AnyShape rest named = (refl, refl)
  no_double depth (TypeVariable (Bound i)) rest named =
      subst (λ t. (after_prefix (t ++ rest) (codes "((") ≡ None) × (after_prefix (t ++ rest) (codes "([") ≡ None))
      (sym (bound_text locals names depth (codes "_T") i)) (refl, refl)
  no_double depth (TypeVariable (Free p)) rest named = absurd named
  no_double depth (FunctionShape takes c gives d) rest named = (refl, refl)
  no_double depth (TypeFunctionShape bound gives d) rest named = (refl, refl)
  no_double depth (BoxShape content c) rest named = (refl, refl)
  no_double depth (ExitShape gives) rest named = (refl, refl)

  cond_same : {A : Type 0} (b : Bool) (x y z : A) → x ≡ z → (b ≡ false → y ≡ z) → cond b x y ≡ z
  cond_same true x y z e f = e
  cond_same false x y z e f = f refl

  -- an arrow behind a parenthesis
  double_arrow : (depth : ℕ) (shapes : Reader Shape) (shape : Shape) (after : List ℕ) → is_arrow shape ≡ true
      → type_over locals names shapes depth (40 ∷ (stext depth shape ++ after))
      ≡ arrow_type_at locals names shapes depth (stext depth shape ++ after)
  unfolding type_over begun
  double_arrow depth shapes (BaseShape base) after is = cc
  double_arrow depth shapes AnyShape after is = cc
  double_arrow depth shapes (TypeVariable variable) after is = cc
  double_arrow depth shapes (FunctionShape takes c gives d) after is = refl
  double_arrow depth shapes (TypeFunctionShape bound gives d) after is = refl
  double_arrow depth shapes (BoxShape content c) after is = cc
  double_arrow depth shapes (ExitShape gives) after is = cc

  module _ (depth : ℕ) (shapes : Reader Shape) (shape : Shape) (named : NamedShape depth shape)
      (here : (rest : List ℕ) → EndsShape shape rest → shapes (stext depth shape ++ rest) ≡ Got shape rest) where
    abbrev ReadsAs : CapturingType → List ℕ → Type 0
    ReadsAs type rest = type_over locals names shapes depth (ttext depth type ++ rest) ≡ Got type rest

    plain_over : (after : List ℕ) → type_over locals names shapes depth (stext depth shape ++ after)
        ≡ plain_type_at locals names shapes depth (stext depth shape ++ after)
    unfolding type_over begun
    plain_over after = let none = no_double depth shape after named in rw (none.0, none.1) refl

    bare : (rest : List ℕ) → EndsType rest
        → plain_type_at locals names shapes depth (stext depth shape ++ rest) ≡ Got (capturing shape empty) rest
    unfolding plain_type_at captured_at begun
    bare rest ends =
        rw (here rest (ends_word rest ends, λ _. ends))
        (cond_same (is_arrow shape) (Got (capturing shape empty) rest) (captured_at locals names depth shape rest)
        (Got (capturing shape empty) rest) refl (λ _. rw (no_caret rest ends) refl))

    captured : (set : Set) (rest : List ℕ) → NamedSet depth set → HasElements set → is_arrow shape ≡ false
        → plain_type_at locals names shapes depth (stext depth shape ++ (94 ∷ 123 ∷ (elements_written depth set ++ 125 ∷ rest)))
        ≡ Got (capturing shape set) rest
    unfolding plain_type_at captured_at begun
    captured set rest ok some plain =
        let after = 94 ∷ 123 ∷ (elements_written depth set ++ 125 ∷ rest) in
        rw (here after (refl, λ arrow. absurd (clash (is_arrow shape) arrow plain)), plain, some_set_at-text depth set rest ok some) refl

    parenthesized : (set : Set) (rest : List ℕ) → NamedSet depth set → HasElements set → is_arrow shape ≡ true
        → arrow_type_at locals names shapes depth (stext depth shape ++ (41 ∷ 94 ∷ 123 ∷ (elements_written depth set ++ 125 ∷ rest)))
        ≡ Got (capturing shape set) rest
    unfolding arrow_type_at
    parenthesized set rest ok some arrow =
        let after = 41 ∷ 94 ∷ 123 ∷ (elements_written depth set ++ 125 ∷ rest) in
        rw (here after (refl, λ _. (refl, refl)), arrow, exact_at-text (codes ")^{") (elements_written depth set ++ 125 ∷ rest), some_set_at-text depth set rest ok some) refl

    type_in : (set : Set) (rest : List ℕ) → NamedSet depth set → EndsType rest → HasElements set → (arrow : Bool)
        → is_arrow shape ≡ arrow → ReadsAs (capturing shape set) rest
    type_in set rest ok ends some false is =
        subst (λ b. type_over locals names shapes depth b ≡ Got (capturing shape set) rest)
        (sym (plain_with_set depth shape set rest is some))
        (plain_over (94 ∷ 123 ∷ (elements_written depth set ++ 125 ∷ rest)) ∙ captured set rest ok some is)
    type_in set rest ok ends some true is =
        subst (λ b. type_over locals names shapes depth b ≡ Got (capturing shape set) rest)
        (sym (arrow_with_set depth shape set rest is some))
        (double_arrow depth shapes shape (41 ∷ 94 ∷ 123 ∷ (elements_written depth set ++ 125 ∷ rest)) is ∙ parenthesized set rest ok some is)

    -- the text of a type with the shape is read as that type
    pub type_over-text : (set : Set) (rest : List ℕ) → NamedSet depth set → EndsType rest
        → type_over locals names shapes depth (ttext depth (capturing shape set) ++ rest) ≡ Got (capturing shape set) rest
    type_over-text set rest ok ends =
        ⊎_elim (λ some. type_in set rest ok ends some (is_arrow shape) refl)
        (λ none. subst (λ s. ReadsAs (capturing shape s) rest) none
        (subst (λ t. type_over locals names shapes depth (t ++ rest) ≡ Got (capturing shape empty) rest) (sym (type_without depth shape))
        (plain_over rest ∙ bare rest ends)))
        (some_or_empty depth set ok)

  module _ (depth : ℕ) (shapes : Reader Shape) (P : Shape → Type 0)
      (sound : (bytes : List ℕ) (shape : Shape) (rest : List ℕ) → shapes bytes ≡ Got shape rest
      → P shape × (bytes ≡ stext depth shape ++ rest)) where
    -- what is known of a type that is read
    abbrev Given : List ℕ → CapturingType → List ℕ → Type 0
    Given bytes type rest = P type.shape × NamedSet depth type.set × (bytes ≡ ttext depth type ++ rest)

    without_set : (bytes : List ℕ) (shape : Shape) (rest : List ℕ) → P shape → bytes ≡ stext depth shape ++ rest
        → Given bytes (capturing shape empty) rest
    without_set bytes shape rest p e = (p, nothing_named, e ∙ ap (λ t. t ++ rest) (sym (type_without depth shape)))
      where
        nothing_named : NamedSet depth empty
        nothing_named = subst (AllByRecursion (NamedElement names all apart locals depth)) (sym empty-list) tt

    captured_at_gives : (bytes before : List ℕ) (shape : Shape) (type : CapturingType) (rest : List ℕ)
        → is_arrow shape ≡ false → P shape → before ≡ stext depth shape ++ bytes
        → captured_at locals names depth shape bytes ≡ Got type rest → Given before type rest
    unfolding captured_at
    captured_at_gives bytes before shape type rest plain p e h =
        begun_gives bytes (codes "^{") (λ r. some_set_at locals names depth r >>= λ set behind. Got (capturing shape set) behind)
        (Got (capturing shape empty) bytes) type rest (Given before type rest)
        (λ r is k.
        let step = got_from_bind (some_set_at locals names depth r) (λ set behind. Got (capturing shape set) behind) type rest k in
        let set = some_set_at_gives depth r step.0 step.1 step.2 in
        let same = got_parts (capturing shape step.0) type step.1 rest step.3 in
        subst (λ t. Given before t rest) same.0 (
          p,
          set.0,
          e ∙ (ap (λ z. stext depth shape ++ z) (is ∙ ap (λ z. 94 ∷ 123 ∷ z) (set.2 ∙ ap (λ z. elements_written depth step.0 ++ 125 ∷ z) same.1))
              ∙ sym (plain_with_set depth shape step.0 rest plain set.1)),
        ))
        (λ k. (let same = got_parts (capturing shape empty) type bytes rest k in
        subst (λ t. Given before t rest) same.0 (without_set before shape rest p (e ∙ ap (λ z. stext depth shape ++ z) same.1))))
        h

    plain_in : (bytes behind : List ℕ) (shape : Shape) (type : CapturingType) (rest : List ℕ) (arrow : Bool)
        → is_arrow shape ≡ arrow → P shape → bytes ≡ stext depth shape ++ behind
        → cond arrow (Got (capturing shape empty) behind) (captured_at locals names depth shape behind) ≡ Got type rest
        → Given bytes type rest
    plain_in bytes behind shape type rest true is p e h =
        let same = got_parts (capturing shape empty) type behind rest h in
        subst (λ t. Given bytes t rest) same.0 (without_set bytes shape rest p (e ∙ ap (λ z. stext depth shape ++ z) same.1))
    plain_in bytes behind shape type rest false is p e h = captured_at_gives behind bytes shape type rest is p e h

    plain_type_at_gives : (bytes : List ℕ) (type : CapturingType) (rest : List ℕ)
        → plain_type_at locals names shapes depth bytes ≡ Got type rest → Given bytes type rest
    unfolding plain_type_at
    plain_type_at_gives bytes type rest h =
        let step = got_from_bind (shapes bytes)
        (λ shape behind. cond (is_arrow shape) (Got (capturing shape empty) behind) (captured_at locals names depth shape behind)) type rest h in
        let given = sound bytes step.0 step.1 step.2 in
        plain_in bytes step.1 step.0 type rest (is_arrow step.0) refl given.0 given.1 step.3

    arrow_type_at_gives : (bytes : List ℕ) (type : CapturingType) (rest : List ℕ)
        → arrow_type_at locals names shapes depth bytes ≡ Got type rest → Given (40 ∷ bytes) type rest
    unfolding arrow_type_at
    arrow_type_at_gives bytes type rest h =
        let shape = got_from_bind (shapes bytes)
        (λ shape r. where_true (is_arrow shape) (exact_at (codes ")^{") r) >>= λ close r.
        some_set_at locals names depth r >>= λ set behind. Got (capturing shape set) behind) type rest h in
        let close = got_from_bind (where_true (is_arrow shape.0) (exact_at (codes ")^{") shape.1))
        (λ close r. some_set_at locals names depth r >>= λ set behind. Got (capturing shape.0 set) behind) type rest shape.3 in
        let test = got_from_test (is_arrow shape.0) (exact_at (codes ")^{") shape.1) close.0 close.1 close.2 in
        let step = got_from_bind (some_set_at locals names depth close.1) (λ set behind. Got (capturing shape.0 set) behind) type rest close.3 in
        let same = got_parts (capturing shape.0 step.0) type step.1 rest step.3 in
        let given = sound bytes shape.0 shape.1 shape.2 in
        let set = some_set_at_gives depth close.1 step.0 step.1 step.2 in
        let text = exact_at_gives (codes ")^{") shape.1 close.1 close.0 test.1 in
        subst (λ t. Given (40 ∷ bytes) t rest) same.0 (
          given.0,
          set.0,
          ap (λ z. 40 ∷ z) (given.1 ∙ ap (λ z. stext depth shape.0 ++ z) (text ∙ ap (λ z. 41 ∷ 94 ∷ 123 ∷ z)
              (set.2 ∙ ap (λ z. elements_written depth step.0 ++ 125 ∷ z) same.1)))
              ∙ sym (arrow_with_set depth shape.0 step.0 rest test.0 set.1),
        )

    behind_first : (bytes r : List ℕ) (second : ℕ) → bytes ≡ 40 ∷ second ∷ r → bytes ≡ 40 ∷ drop 1 bytes
    behind_first bytes r second e = e ∙ ap (λ z. 40 ∷ z) (sym (ap (drop 1) e))

    -- what is read as a type is one with such a shape
    pub type_over_gives : (bytes : List ℕ) (type : CapturingType) (rest : List ℕ)
        → type_over locals names shapes depth bytes ≡ Got type rest → Given bytes type rest
    unfolding type_over
    type_over_gives bytes type rest h =
        let arrow = λ (r : List ℕ). arrow_type_at locals names shapes depth (drop 1 bytes) in
        begun_gives bytes (codes "((") arrow
        (begun (after_prefix bytes (codes "([")) arrow (plain_type_at locals names shapes depth bytes)) type rest (Given bytes type rest)
        (λ r e k. subst (λ b. Given b type rest) (sym (behind_first bytes r 40 e)) (arrow_type_at_gives (drop 1 bytes) type rest k))
        (λ k. begun_gives bytes (codes "([") arrow (plain_type_at locals names shapes depth bytes) type rest (Given bytes type rest)
        (λ r e k. subst (λ b. Given b type rest) (sym (behind_first bytes r 91 e)) (arrow_type_at_gives (drop 1 bytes) type rest k))
        (λ k. plain_type_at_gives bytes type rest k) k) h
