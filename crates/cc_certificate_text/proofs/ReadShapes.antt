-- What is read as a shape and a type, within so much room, and that their texts are read.
use Rattle.std.proofs.Common.{◌≡◌, ℕ, zero, suc, ◌^◌, ◌<◌, ◌≤◌, Bool, true, false, ◌==◌, List, [], ◌∷◌, ◌++◌, Option, Some, None, length, decimal, codes, bytes_eq, refl, sym, ap, subst, ◌∙◌, arith, append_assoc}
use Rattle.std.specs.Prelude.{max}
use Rattle.std.specs.Option.{option_map}
use Rattle.std.specs.List.{AllByRecursion, IsDistinct}
use Rattle.cc_base.specs.Names.{IsName}
use Rattle.cc_base.specs.declared.literal.Base.TheVariants as bases
use Rattle.cc_capture.specs.declared.var.Var.{Var}
use Rattle.cc_capture.specs.declared.var.Var.TheVariants.{Bound, Free}
use Rattle.cc_words.specs.Words.{after_prefix}
use Rattle.cc_core.specs.Shapes.{Shape, BaseShape, AnyShape, TypeVariable, FunctionShape, TypeFunctionShape, BoxShape, ExitShape, CapturingType, capturing}
use Rattle.cc_print.specs.TypeTexts.{numbered}
use Rattle.cc_print.proofs.Words.{EndsWord, word_decimal}
use Rattle.cc_certificate_text.specs.Heights.{shape_height}
use Rattle.cc_certificate_text.specs.Reading.{Found, Got, Wrong, Reader, ◌>>=◌, found_of, begun, Locals, word_at, local_of, Kind, ShapePart, TypePart, SetPart, VariablePart, NotePart, TermPart, Value, Readers, pieces_at, Parts, base_at, type_variable_at, leaf_at, ShapeRule, FunctionRule, TypeFunctionRule, BoxRule, ExitRule, shape_pieces, shape_tree, shape_rule_at, shape_over, shape_parts, shape_at, type_at, type_over}
use Rattle.cc_certificate_text.proofs.Readers.{got_from_bind, got_from_option, got_parts, begun_gives, word_at-word, word_at_gives}
use Rattle.cc_certificate_text.proofs.Seen.{MayStand, written_number, written_low, local_of_gives, local_of-decimal, bound_text}
use Rattle.cc_certificate_text.proofs.ReadSets.{map_gives}
use Rattle.cc_certificate_text.proofs.Pieces.{AllGood, AllEnd, pieces_text, pieces_give, pieces_at-text, Sound, Complete}
use Rattle.cc_certificate_text.proofs.ReadTypes.{NamedSet, NamedShape, stext, ttext, EndsType, EndsShape, type_over_gives, type_over-text}

-- the text before the parts
abbrev pub shape_front : ShapeRule → List ℕ
shape_front FunctionRule = codes "(_"
shape_front TypeFunctionRule = codes "[_T"
shape_front BoxRule = codes "Box["
shape_front ExitRule = codes "Exit["

pub three_texts : (n t c r : List ℕ) → ((n ++ t) ++ c) ++ r ≡ n ++ (t ++ (c ++ r))
three_texts n t c r = append_assoc (n ++ t) c r ∙ append_assoc n t (c ++ r)

pub five_texts : (n c t a g r : List ℕ) → ((((n ++ c) ++ t) ++ a) ++ g) ++ r ≡ n ++ (c ++ (t ++ (a ++ (g ++ r))))
five_texts n c t a g r =
    append_assoc (((n ++ c) ++ t) ++ a) g r ∙ (append_assoc ((n ++ c) ++ t) a (g ++ r)
    ∙ (append_assoc (n ++ c) t (a ++ (g ++ r)) ∙ append_assoc n c (t ++ (a ++ (g ++ r)))))

module _ (names : List (List ℕ)) (all : AllByRecursion IsName names) (apart : IsDistinct bytes_eq names) (locals : Locals) where
  module _ (room : ℕ) where
    abbrev pub GoodShape : ℕ → Shape → Type 0
    GoodShape depth shape = NamedShape names all apart locals depth shape × (shape_height shape ≤ room)

    abbrev pub GoodType : ℕ → CapturingType → Type 0
    GoodType depth type = GoodShape depth type.shape × NamedSet names all apart locals depth type.set

    abbrev Good : (kind : Kind) → ℕ → Value kind → Type 0
    Good ShapePart depth shape = GoodShape depth shape
    Good TypePart depth type = GoodType depth type
    Good SetPart depth value = ⊥
    Good VariablePart depth value = ⊥
    Good NotePart depth value = ⊥
    Good TermPart depth value = ⊥

    abbrev Text : (kind : Kind) → ℕ → Value kind → List ℕ
    Text ShapePart depth shape = stext names all apart locals depth shape
    Text TypePart depth type = ttext names all apart locals depth type
    Text SetPart depth value = []
    Text VariablePart depth value = []
    Text NotePart depth value = []
    Text TermPart depth value = []

    abbrev Ends : (kind : Kind) → Value kind → List ℕ → Type 0
    Ends ShapePart shape rest = EndsShape names all apart locals shape rest
    Ends TypePart type rest = EndsType names all apart locals rest
    Ends SetPart value rest = Unit {0}
    Ends VariablePart value rest = Unit {0}
    Ends NotePart value rest = Unit {0}
    Ends TermPart value rest = Unit {0}

    -- the text of a shape is that of its parts
    rule_text : (rule : ShapeRule) (depth : ℕ) (values : Parts (shape_pieces rule)) (rest : List ℕ)
        → shape_front rule ++ pieces_text Good Text Ends depth (shape_pieces rule) values rest
        ≡ stext names all apart locals depth (shape_tree rule values) ++ rest
    rule_text FunctionRule depth (number, (colon, (takes, (arrow, (gives, end))))) rest =
        sym (five_texts (numbered (codes "(_") depth) (codes ": ") (ttext names all apart locals depth takes) (codes ") -> ")
        (ttext names all apart locals (suc depth) gives) rest)
    rule_text TypeFunctionRule depth (number, (below, (bound, (arrow, (gives, end))))) rest =
        sym (five_texts (numbered (codes "[_T") depth) (codes " <: ") (stext names all apart locals depth bound) (codes "] -> ")
        (ttext names all apart locals (suc depth) gives) rest)
    rule_text BoxRule depth (content, (close, end)) rest =
        sym (three_texts (codes "Box[") (ttext names all apart locals depth content) (codes "]") rest)
    rule_text ExitRule depth (gives, (close, end)) rest =
        sym (three_texts (codes "Exit[") (stext names all apart locals depth gives) (codes "]") rest)

    abbrev Above : ℕ → Shape → Type 0
    Above depth shape = NamedShape names all apart locals depth shape × (shape_height shape ≤ suc room)

    rule_good : (rule : ShapeRule) (depth : ℕ) (values : Parts (shape_pieces rule))
        → AllGood Good Text Ends depth (shape_pieces rule) values → Above depth (shape_tree rule values)
    rule_good FunctionRule depth (number, (colon, (takes, (arrow, (gives, end))))) (low, (c, (t, (a, (g, e))))) =
        ((low, t.0.0, t.1, g.0.0, g.1), omega (arith, t.0.1, g.0.1))
    rule_good TypeFunctionRule depth (number, (below, (bound, (arrow, (gives, end))))) (low, (c, (t, (a, (g, e))))) =
        ((low, t.0, g.0.0, g.1), omega (arith, t.1, g.0.1))
    rule_good BoxRule depth (content, (close, end)) (t, (c, e)) = ((t.0.0, t.1), omega (arith, t.0.1))
    rule_good ExitRule depth (gives, (close, end)) (t, (c, e)) = (t.0, omega (arith, t.1))

    module _ (parts : Readers) where
      -- what is read behind the front is the rest of such a shape
      rule_gives : Sound Good Text Ends parts → (rule : ShapeRule) (depth : ℕ) (bytes : List ℕ) (shape : Shape) (rest : List ℕ)
          → shape_rule_at parts rule depth bytes ≡ Got shape rest
          → Above depth shape × (shape_front rule ++ bytes ≡ stext names all apart locals depth shape ++ rest)
      unfolding shape_rule_at
      rule_gives sound rule depth bytes shape rest h =
          let step = got_from_bind (pieces_at parts depth (shape_pieces rule) bytes) (λ values r. Got (shape_tree rule values) r) shape rest h in
          let same = got_parts (shape_tree rule step.0) shape step.1 rest step.3 in
          let given = pieces_give Good Text Ends parts sound depth (shape_pieces rule) bytes step.0 step.1 step.2 in
          subst (λ s. Above depth s × (shape_front rule ++ bytes ≡ stext names all apart locals depth s ++ rest)) same.0 (
            rule_good rule depth step.0 given.0,
            ap (λ z. shape_front rule ++ z) given.1 ∙ (rule_text rule depth step.0 step.1
                ∙ ap (λ z. stext names all apart locals depth (shape_tree rule step.0) ++ z) same.1),
          )

      rule_at-text : Complete Good Text Ends parts → (rule : ShapeRule) (depth : ℕ) (values : Parts (shape_pieces rule)) (rest : List ℕ)
          → AllGood Good Text Ends depth (shape_pieces rule) values → AllEnd Good Text Ends depth (shape_pieces rule) values rest
          → shape_rule_at parts rule depth (pieces_text Good Text Ends depth (shape_pieces rule) values rest)
          ≡ Got (shape_tree rule values) rest
      unfolding shape_rule_at
      rule_at-text complete rule depth values rest good ends =
          rw (pieces_at-text Good Text Ends parts complete depth (shape_pieces rule) values rest good ends) refl

      abbrev Gives : ℕ → List ℕ → Shape → List ℕ → Type 0
      Gives depth bytes shape rest = Above depth shape × (bytes ≡ stext names all apart locals depth shape ++ rest)

      base_at_gives : (depth : ℕ) (bytes : List ℕ) (shape : Shape) (rest : List ℕ) → base_at bytes ≡ Got shape rest
          → Gives depth bytes shape rest
      unfolding base_at
      base_at_gives depth bytes shape rest h =
          let given = λ (whole : Shape) (text : List ℕ) (r : List ℕ) (e : bytes ≡ text ++ r) (above : Above depth whole)
          (is : text ++ r ≡ stext names all apart locals depth whole ++ r) (k : Got whole r ≡ Got shape rest).
          (let same = got_parts whole shape r rest k in
          subst (λ s. Gives depth bytes s rest) same.0 (above, e ∙ (is ∙ ap (λ z. stext names all apart locals depth whole ++ z) same.1))) in
          begun_gives bytes (codes "Unit") _ _ shape rest (Gives depth bytes shape rest)
          (λ r e k. given (BaseShape bases.Unit) (codes "Unit") r e (tt, omega arith) refl k)
          (λ k. begun_gives bytes (codes "Bool") _ _ shape rest (Gives depth bytes shape rest)
          (λ r e k. given (BaseShape bases.Bool) (codes "Bool") r e (tt, omega arith) refl k)
          (λ k. begun_gives bytes (codes "Int") _ _ shape rest (Gives depth bytes shape rest)
          (λ r e k. given (BaseShape bases.Int) (codes "Int") r e (tt, omega arith) refl k)
          (λ k. begun_gives bytes (codes "Str") _ _ shape rest (Gives depth bytes shape rest)
          (λ r e k. given (BaseShape bases.Str) (codes "Str") r e (tt, omega arith) refl k)
          (λ k. begun_gives bytes (codes "Console") _ _ shape rest (Gives depth bytes shape rest)
          (λ r e k. given (BaseShape bases.Console) (codes "Console") r e (tt, omega arith) refl k)
          (λ k. begun_gives bytes (codes "File") _ _ shape rest (Gives depth bytes shape rest)
          (λ r e k. given (BaseShape bases.File) (codes "File") r e (tt, omega arith) refl k)
          (λ k. begun_gives bytes (codes "Counter") _ _ shape rest (Gives depth bytes shape rest)
          (λ r e k. given (BaseShape bases.Counter) (codes "Counter") r e (tt, omega arith) refl k)
          (λ k. cc) k) k) k) k) k) k) h

      type_variable_gives : (depth : ℕ) (bytes : List ℕ) (shape : Shape) (rest : List ℕ)
          → type_variable_at locals depth bytes ≡ Got shape rest → Gives depth (codes "_T" ++ bytes) shape rest
      unfolding type_variable_at
      type_variable_gives depth bytes shape rest h =
          let found = got_from_option (option_map TypeVariable (local_of locals depth (word_at bytes).0)) (word_at bytes).1 shape rest h in
          let variable = map_gives TypeVariable (local_of locals depth (word_at bytes).0) shape found.0 in
          let given = local_of_gives locals depth (word_at bytes).0 variable.0 variable.1 in
          subst (λ s. Gives depth (codes "_T" ++ bytes) s rest) (sym (variable.2 ∙ ap TypeVariable given.1)) (
            (given.2, omega arith),
            ap (λ z. codes "_T" ++ z) (word_at_gives bytes ∙ (λ i. given.3 i ++ found.1 i))
                ∙ ap (λ t. t ++ rest) (sym (bound_text locals names depth (codes "_T") given.0)),
          )

      leaf_at_gives : (depth : ℕ) (bytes : List ℕ) (shape : Shape) (rest : List ℕ) → leaf_at locals depth bytes ≡ Got shape rest
          → Gives depth bytes shape rest
      unfolding leaf_at
      leaf_at_gives depth bytes shape rest h =
          begun_gives bytes (codes "_T") (type_variable_at locals depth) _ shape rest (Gives depth bytes shape rest)
          (λ r e k. subst (λ b. Gives depth b shape rest) (sym e) (type_variable_gives depth r shape rest k))
          (λ k. begun_gives bytes (codes "Any") _ (base_at bytes) shape rest (Gives depth bytes shape rest)
          (λ r e k. (let same = got_parts AnyShape shape r rest k in
          subst (λ s. Gives depth bytes s rest) same.0 ((tt, omega arith), e ∙ ap (λ z. codes "Any" ++ z) same.1)))
          (λ k. base_at_gives depth bytes shape rest k) k) h

      -- what is read as a shape is one, where the parts are what is read
      shape_over_gives : Sound Good Text Ends parts → (depth : ℕ) (bytes : List ℕ) (shape : Shape) (rest : List ℕ)
          → shape_over locals parts depth bytes ≡ Got shape rest → Gives depth bytes shape rest
      unfolding shape_over
      shape_over_gives sound depth bytes shape rest h =
          let rule = λ (rule : ShapeRule) (r : List ℕ) (e : bytes ≡ shape_front rule ++ r) (k : shape_rule_at parts rule depth r ≡ Got shape rest).
          (let given = rule_gives sound rule depth r shape rest k in
          subst (λ b. Gives depth b shape rest) (sym e) given) in
          begun_gives bytes (codes "(_") (shape_rule_at parts FunctionRule depth) _ shape rest (Gives depth bytes shape rest) (rule FunctionRule)
          (λ k. begun_gives bytes (codes "[_T") (shape_rule_at parts TypeFunctionRule depth) _ shape rest (Gives depth bytes shape rest) (rule TypeFunctionRule)
          (λ k. begun_gives bytes (codes "Box[") (shape_rule_at parts BoxRule depth) _ shape rest (Gives depth bytes shape rest) (rule BoxRule)
          (λ k. begun_gives bytes (codes "Exit[") (shape_rule_at parts ExitRule depth) (leaf_at locals depth bytes) shape rest (Gives depth bytes shape rest) (rule ExitRule)
          (λ k. leaf_at_gives depth bytes shape rest k) k) k) k) h

      abbrev ReadsAs : ℕ → List ℕ → Shape → List ℕ → Type 0
      ReadsAs depth bytes shape rest = shape_over locals parts depth bytes ≡ Got shape rest

      dispatch : (rule : ShapeRule) (depth : ℕ) (bytes : List ℕ)
          → shape_over locals parts depth (shape_front rule ++ bytes) ≡ shape_rule_at parts rule depth bytes
      unfolding shape_over begun
      dispatch FunctionRule depth bytes = refl
      dispatch TypeFunctionRule depth bytes = refl
      dispatch BoxRule depth bytes = refl
      dispatch ExitRule depth bytes = refl

      by_rule : Complete Good Text Ends parts → (rule : ShapeRule) (depth : ℕ) (values : Parts (shape_pieces rule)) (rest : List ℕ)
          → AllGood Good Text Ends depth (shape_pieces rule) values → AllEnd Good Text Ends depth (shape_pieces rule) values rest
          → ReadsAs depth (stext names all apart locals depth (shape_tree rule values) ++ rest) (shape_tree rule values) rest
      by_rule complete rule depth values rest good ends =
          subst (λ b. ReadsAs depth b (shape_tree rule values) rest) (rule_text rule depth values rest)
          (dispatch rule depth (pieces_text Good Text Ends depth (shape_pieces rule) values rest)
          ∙ rule_at-text complete rule depth values rest good ends)

      variable_over : (depth i : ℕ) (rest : List ℕ) → MayStand locals depth i → EndsWord rest
          → ReadsAs depth (codes "_T" ++ (decimal (written_number locals depth i) ++ rest)) (TypeVariable (Bound i)) rest
      unfolding shape_over leaf_at type_variable_at begun
      variable_over depth i rest may ends =
          let low = written_low locals depth i may in
          let word = word_at-word (decimal (written_number locals depth i)) rest (word_decimal (written_number locals depth i) (omega (arith, low))) ends in
          rw (word, local_of-decimal locals depth i may) refl

      -- the text of a shape is read as that shape, where those of its parts are
      shape_over-text : Complete Good Text Ends parts → (depth : ℕ) (shape : Shape) (rest : List ℕ) → Above depth shape
          → EndsShape names all apart locals shape rest
          → ReadsAs depth (stext names all apart locals depth shape ++ rest) shape rest
      unfolding shape_over leaf_at base_at begun
      shape_over-text complete depth (BaseShape bases.Unit) rest above ends = refl
      shape_over-text complete depth (BaseShape bases.Bool) rest above ends = refl
      shape_over-text complete depth (BaseShape bases.Int) rest above ends = refl
      shape_over-text complete depth (BaseShape bases.Str) rest above ends = refl
      shape_over-text complete depth (BaseShape bases.Console) rest above ends = refl
      shape_over-text complete depth (BaseShape bases.File) rest above ends = refl
      shape_over-text complete depth (BaseShape bases.Counter) rest above ends = refl
      shape_over-text complete depth AnyShape rest above ends = refl
      shape_over-text complete depth (TypeVariable (Bound i)) rest above ends =
          subst (λ t. ReadsAs depth (t ++ rest) (TypeVariable (Bound i)) rest) (sym (bound_text locals names depth (codes "_T") i))
          (variable_over depth i rest above.0 ends.0)
      shape_over-text complete depth (TypeVariable (Free p)) rest above ends = absurd above.0
      shape_over-text complete depth (FunctionShape takes c gives d) rest above ends =
          let n = above.0 in
          by_rule complete FunctionRule depth (tt, (tt, (capturing takes c, (tt, (capturing gives d, tt))))) rest
          (n.0, (tt, (((n.1, omega (arith, above.1)), n.2), (tt, (((n.3, omega (arith, above.1)), n.4), tt)))))
          (refl, (tt, ((refl, refl), (tt, (ends.1 refl, tt)))))
      shape_over-text complete depth (TypeFunctionShape bound gives d) rest above ends =
          let n = above.0 in
          by_rule complete TypeFunctionRule depth (tt, (tt, (bound, (tt, (capturing gives d, tt))))) rest
          (n.0, (tt, ((n.1, omega (arith, above.1)), (tt, (((n.2, omega (arith, above.1)), n.3), tt)))))
          (refl, (tt, ((refl, λ _. (refl, refl)), (tt, (ends.1 refl, tt)))))
      shape_over-text complete depth (BoxShape content c) rest above ends =
          by_rule complete BoxRule depth (capturing content c, (tt, tt)) rest
          (((above.0.0, omega (arith, above.1)), above.0.1), (tt, tt)) ((refl, refl), (tt, tt))
      shape_over-text complete depth (ExitShape gives) rest above ends =
          by_rule complete ExitRule depth (gives, (tt, tt)) rest
          ((above.0, omega (arith, above.1)), (tt, tt)) ((refl, λ _. (refl, refl)), (tt, tt))

  module _ (room : ℕ) where
    type_parts_give : (depth : ℕ) (shapes : Reader Shape)
        → ((b : List ℕ) (s : Shape) (r : List ℕ) → shapes b ≡ Got s r → GoodShape room depth s × (b ≡ stext names all apart locals depth s ++ r))
        → (bytes : List ℕ) (type : CapturingType) (rest : List ℕ) → type_over locals names shapes depth bytes ≡ Got type rest
        → GoodType room depth type × (bytes ≡ ttext names all apart locals depth type ++ rest)
    type_parts_give depth shapes sound bytes type rest h =
        let given = type_over_gives names all apart locals depth shapes (GoodShape room depth) sound bytes type rest h in
        ((given.0, given.1), given.2)

    parts_give : (shapes : ℕ → Reader Shape)
        → ((d : ℕ) (b : List ℕ) (s : Shape) (r : List ℕ) → shapes d b ≡ Got s r → GoodShape room d s × (b ≡ stext names all apart locals d s ++ r))
        → Sound (Good room) (Text room) (Ends room) (shape_parts locals names shapes)
    parts_give shapes sound ShapePart depth bytes value rest h = sound depth bytes value rest h
    parts_give shapes sound TypePart depth bytes value rest h =
        type_parts_give depth (shapes depth) (λ b s r k. sound depth b s r k) bytes value rest h
    parts_give shapes sound SetPart depth bytes value rest h = cc
    parts_give shapes sound VariablePart depth bytes value rest h = cc
    parts_give shapes sound NotePart depth bytes value rest h = cc
    parts_give shapes sound TermPart depth bytes value rest h = cc

    parts_text : (shapes : ℕ → Reader Shape)
        → ((d : ℕ) (s : Shape) (r : List ℕ) → GoodShape room d s → EndsShape names all apart locals s r
        → shapes d (stext names all apart locals d s ++ r) ≡ Got s r)
        → Complete (Good room) (Text room) (Ends room) (shape_parts locals names shapes)
    parts_text shapes complete ShapePart depth value rest good ends = complete depth value rest good ends
    parts_text shapes complete TypePart depth value rest good ends =
        type_over-text names all apart locals depth (shapes depth) value.shape good.0.0
        (λ r e. complete depth value.shape r good.0 e) value.set rest good.1 ends
    parts_text shapes complete SetPart depth value rest good ends = absurd good
    parts_text shapes complete VariablePart depth value rest good ends = absurd good
    parts_text shapes complete NotePart depth value rest good ends = absurd good
    parts_text shapes complete TermPart depth value rest good ends = absurd good

  pub height_some : (shape : Shape) → shape_height shape ≤ 0 → ⊥
  height_some (BaseShape base) h = omega arith
  height_some AnyShape h = omega arith
  height_some (TypeVariable variable) h = omega arith
  height_some (FunctionShape takes c gives d) h = omega arith
  height_some (TypeFunctionShape bound gives d) h = omega arith
  height_some (BoxShape content c) h = omega arith
  height_some (ExitShape gives) h = omega arith

  -- what is read within the room is a shape that is no higher
  pub shape_at_gives : (room depth : ℕ) (bytes : List ℕ) (shape : Shape) (rest : List ℕ)
      → shape_at locals names room depth bytes ≡ Got shape rest
      → GoodShape room depth shape × (bytes ≡ stext names all apart locals depth shape ++ rest)
  unfolding shape_at
  shape_at_gives zero depth bytes shape rest h = cc
  shape_at_gives (suc room) depth bytes shape rest h =
      shape_over_gives room (shape_parts locals names (shape_at locals names room))
      (parts_give room (shape_at locals names room) (λ d b s r k. shape_at_gives room d b s r k)) depth bytes shape rest h

  -- the text of a shape that is no higher than the room is read as it
  pub shape_at-text : (room depth : ℕ) (shape : Shape) (rest : List ℕ) → GoodShape room depth shape
      → EndsShape names all apart locals shape rest
      → shape_at locals names room depth (stext names all apart locals depth shape ++ rest) ≡ Got shape rest
  unfolding shape_at
  shape_at-text zero depth shape rest good ends = absurd (height_some shape good.1)
  shape_at-text (suc room) depth shape rest good ends =
      shape_over-text room (shape_parts locals names (shape_at locals names room))
      (parts_text room (shape_at locals names room) (λ d s r g e. shape_at-text room d s r g e)) depth shape rest good ends

  pub type_at_gives : (room depth : ℕ) (bytes : List ℕ) (type : CapturingType) (rest : List ℕ)
      → type_at locals names room depth bytes ≡ Got type rest
      → GoodType room depth type × (bytes ≡ ttext names all apart locals depth type ++ rest)
  unfolding type_at
  type_at_gives room depth bytes type rest h =
      type_parts_give room depth (shape_at locals names room depth) (λ b s r k. shape_at_gives room depth b s r k) bytes type rest h

  pub type_at-text : (room depth : ℕ) (type : CapturingType) (rest : List ℕ) → GoodType room depth type
      → EndsType names all apart locals rest
      → type_at locals names room depth (ttext names all apart locals depth type ++ rest) ≡ Got type rest
  unfolding type_at
  type_at-text room depth type rest good ends =
      type_over-text names all apart locals depth (shape_at locals names room depth) type.shape good.0.0
      (λ r e. shape_at-text room depth type.shape r good.0 e) type.set rest good.1 ends
