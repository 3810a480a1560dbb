-- Every reader finds alike things of tokens that are alike: each proof goes as its reader does.
use Rattle.std.proofs.Common.{◌≡◌, ◌∙◌, ℕ, zero, suc, min, Bool, true, false, nat_le, List, [], ◌∷◌, length, Option, Some, None, refl, sym, ap, subst, if◌then◌else◌}
use Rattle.cc_base.specs.declared.place.Place.{Place}
use Rattle.cc_base.specs.declared.literal.Op.{Op}
use Rattle.cc_lex.specs.declared.token.Word.{Word}
use Rattle.cc_lex.specs.declared.token.Word.TheVariants as words
use Rattle.cc_lex.specs.declared.token.Symbol.{Symbol}
use Rattle.cc_lex.specs.declared.token.Symbol.TheVariants as symbols
use Rattle.cc_lex.specs.Lexemes.{PlacedLexeme}
use Rattle.cc_grammar.specs.Grammar.{level, takes_argument}
use Rattle.cc_grammar.specs.Syntax.{AbsentSet, OmittedSet, WrittenSet, CapturingType, ExprSyntax}
use Rattle.cc_grammar.specs.Tests.{is_word, is_symbol, begins_symbol, begins_word, operation_of}
use Rattle.cc_grammar.specs.Reading.{Found, Got, Wrong, High, Reader, Readers, ◌>>=◌, Kind, ShapePart, TypePart, ExprPart, Piece, AWord, ASymbol, AName, APlacedName, Captures, Written, Part, Parts, PlacedName, word_at, symbol_at, name_at, placed_name_at, SetState, AtFirst, AtNext, Behind, SetStep, Ends, Takes, Separates, Misfits, elements_at, CaretStep, Omits, Opens, Fails, caret_step, caret_at, set_at, captures_at, written_at, one_part_at, piece_at, pieces_at, ShapeRule, InnerRule, NamedInnerRule, FunctionShapeRule, ExitShapeRule, BoxShapeRule, TypeFunctionShapeRule, shape_pieces, shape_tree, shape_rule_at, named_at, paren_at, ShapeStart, ExitStart, BoxStart, ParenStart, TypeFunctionStart, ShapeHead, WholeShape, StartsShape, NoShape, shape_start_at, shape_over, shape_place, type_over, ExprRule, ParenRule, ValRule, IfRule, BoundaryRule, BoxRule, UnboxRule, ExitRule, RepeatRule, FunRule, TypeFunRule, expr_pieces, expr_tree, rule_level, expr_rule_at, fun_at, ExprStart, FunStart, RuleStart, start_level, expr_start_at, ExprHead, WholeExpr, StartsExpr, NoExpr, Link, OperatorLink, CallLink, TypeCallLink, DotLink, link_of, LinkRule, OperatorRule, CallRule, TypeCallRule, AskRule, TellRule, link_pieces, link_tree, link_rule_at, operation_at, dot_at, link_at, if_on, next_link, behind_first, links_at, expr_over, nothing_at, part_over, part_at, top_room, import_pieces, import_tree, import_at, imports_at, DefRule, PlainRule, OwnRule, def_pieces, def_tree, def_rule_at, def_at, defs_at, module_at}
use Rattle.cc_wanted.proofs.LikeTokens.{AreLike, like_end, like_more, length-like, behind_first-like, is_word-like, is_symbol-like, begins_symbol-like, begins_word-like, operation_of-like, caret_step-like, link_of-like, Both, neither, both, name_of-like, LikeStep, like_ends, like_takes, like_separates, like_misfits, set_step-like, LikeShape, like_shape, like_start, like_none, shape_head-like, LikeExpr, like_expr, like_begin, like_no, expr_head-like}

-- what is found is alike: values that go together, as much spare room, and rests that are alike
pub data Like {A : Type 0} (same : A → A → Type 0) : Found A → Found A → Type 0 where
  like_got : (v w : A) (s : ℕ) (ts us : List PlacedLexeme) → same v w → AreLike ts us → Like same (Got v s ts) (Got w s us)
  like_wrong : (ts us : List PlacedLexeme) → AreLike ts us → Like same (Wrong ts) (Wrong us)
  like_high : (ts us : List PlacedLexeme) → AreLike ts us → Like same (High ts) (High us)

-- any two values go together
abbrev pub AnyTwo : {A : Type 0} → A → A → Type 0
AnyTwo v w = Unit {0}

-- two expressions that are as tight
abbrev pub AsTight : ExprSyntax → ExprSyntax → Type 0
AsTight a b = level a ≡ level b

forget-like : {A : Type 0} {same : A → A → Type 0} {f g : Found A} → Like same f g → Like AnyTwo f g
forget-like (like_got v w s ts us e h) = like_got v w s ts us tt h
forget-like (like_wrong ts us h) = like_wrong ts us h
forget-like (like_high ts us h) = like_high ts us h

then-like : {A B : Type 0} {same : A → A → Type 0} {other : B → B → Type 0} {f g : Found A} (k m : A → ℕ → Reader B) → Like same f g → ((v w : A) (s : ℕ) (ts us : List PlacedLexeme) → same v w → AreLike ts us → Like other (k v s ts) (m w s us)) → Like other (f >>= k) (g >>= m)
then-like k m (like_got v w s ts us e h) next = next v w s ts us e h
then-like k m (like_wrong ts us h) next = like_wrong ts us h
then-like k m (like_high ts us h) next = like_high ts us h

made-like : {A B : Type 0} {other : B → B → Type 0} {f g : Found A} (to from : A → B) → Like AnyTwo f g → ((v w : A) → other (to v) (from w)) → Like other (f >>= λ v s rest. Got (to v) s rest) (g >>= λ v s rest. Got (from v) s rest)
made-like to from (like_got v w s ts us e h) made = like_got (to v) (from w) s ts us (made v w) h
made-like to from (like_wrong ts us h) made = like_wrong ts us h
made-like to from (like_high ts us h) made = like_high ts us h

choice-like : {A : Type 0} {same : A → A → Type 0} {f g x y : Found A} (b c : Bool) → b ≡ c → Like same f g → Like same x y → Like same (if b then f else x) (if c then g else y)
choice-like {A} {same} {f} {g} {x} {y} b c e p q = subst (λ d. Like same (if b then f else x) (if d then g else y)) e (go b)
  where
    go : (d : Bool) → Like same (if d then f else x) (if d then g else y)
    go true = p
    go false = q

-- PIECES

word_at-like : (w : Word) (s : ℕ) {ts us : List PlacedLexeme} → AreLike ts us → Like AnyTwo (word_at w s ts) (word_at w s us)
unfolding word_at
word_at-like w s like_end = like_wrong [] [] like_end
word_at-like w s (like_more t u ts us l h) = choice-like (is_word w t.lexeme) (is_word w u.lexeme) (is_word-like w l) (like_got tt tt s ts us tt h) (like_wrong _ _ (like_more t u ts us l h))

symbol_at-like : (w : Symbol) (s : ℕ) {ts us : List PlacedLexeme} → AreLike ts us → Like AnyTwo (symbol_at w s ts) (symbol_at w s us)
unfolding symbol_at
symbol_at-like w s like_end = like_wrong [] [] like_end
symbol_at-like w s (like_more t u ts us l h) = choice-like (is_symbol w t.lexeme) (is_symbol w u.lexeme) (is_symbol-like w l) (like_got tt tt s ts us tt h) (like_wrong _ _ (like_more t u ts us l h))

name_at-like : (s : ℕ) {ts us : List PlacedLexeme} → AreLike ts us → Like AnyTwo (name_at s ts) (name_at s us)
unfolding name_at
name_at-like s like_end = like_wrong [] [] like_end
name_at-like s (like_more t u ts us l h) = go (name_of-like l)
  where
    go : {o p : Option (List ℕ)} → Both o p → Like AnyTwo (elim o [ None ↦ Wrong (t ∷ ts) | Some name ↦ Got name s ts ]) (elim p [ None ↦ Wrong (u ∷ us) | Some name ↦ Got name s us ])
    go neither = like_wrong _ _ (like_more t u ts us l h)
    go (both a b) = like_got a b s ts us tt h

placed_name_at-like : (s : ℕ) {ts us : List PlacedLexeme} → AreLike ts us → Like AnyTwo (placed_name_at s ts) (placed_name_at s us)
unfolding placed_name_at
placed_name_at-like s like_end = like_wrong [] [] like_end
placed_name_at-like s (like_more t u ts us l h) = go (name_of-like l)
  where
    go : {o p : Option (List ℕ)} → Both o p → Like {A = PlacedName} AnyTwo (elim o [ None ↦ Wrong (t ∷ ts) | Some name ↦ Got (t.at, name) s ts ]) (elim p [ None ↦ Wrong (u ∷ us) | Some name ↦ Got (u.at, name) s us ])
    go neither = like_wrong _ _ (like_more t u ts us l h)
    go (both a b) = like_got (t.at, a) (u.at, b) s ts us tt h

elements_at-like : (state : SetState) (s : ℕ) {ts us : List PlacedLexeme} → AreLike ts us → Like AnyTwo (elements_at state s ts) (elements_at state s us)
unfolding elements_at
elements_at-like state s like_end = like_wrong [] [] like_end
elements_at-like state s (like_more t u ts us l h) = go (set_step-like state l) (elements_at-like Behind s h) (elements_at-like AtNext s h)
  where
    go : {x y : SetStep} → LikeStep x y → Like AnyTwo (elements_at Behind s ts) (elements_at Behind s us) → Like AnyTwo (elements_at AtNext s ts) (elements_at AtNext s us) → Like AnyTwo (elim x [ Ends ↦ Got [] s ts | Takes name ↦ elements_at Behind s ts >>= λ more left rest. Got (record { at = t.at; name = name } ∷ more) left rest | Separates ↦ elements_at AtNext s ts | Misfits ↦ Wrong (t ∷ ts) ]) (elim y [ Ends ↦ Got [] s us | Takes name ↦ elements_at Behind s us >>= λ more left rest. Got (record { at = u.at; name = name } ∷ more) left rest | Separates ↦ elements_at AtNext s us | Misfits ↦ Wrong (u ∷ us) ])
    go like_ends behind next = like_got [] [] s ts us tt h
    go (like_takes a b) behind next = made-like (λ more. record { at = t.at; name = a } ∷ more) (λ more. record { at = u.at; name = b } ∷ more) behind (λ v w. tt)
    go like_separates behind next = next
    go like_misfits behind next = like_wrong _ _ (like_more t u ts us l h)

caret_at-like : (s : ℕ) {ts us : List PlacedLexeme} → AreLike ts us → Like AnyTwo (caret_at s ts) (caret_at s us)
unfolding caret_at
caret_at-like s like_end = like_wrong [] [] like_end
caret_at-like s (like_more t u ts us l h) =
    subst (λ y. Like AnyTwo (elim (caret_step t.lexeme) [ Omits ↦ Got (OmittedSet t.at) s ts | Opens ↦ elements_at AtFirst s ts >>= λ elements left rest. Got (WrittenSet elements) left rest | Fails ↦ Wrong (t ∷ ts) ]) (elim y [ Omits ↦ Got (OmittedSet u.at) s us | Opens ↦ elements_at AtFirst s us >>= λ elements left rest. Got (WrittenSet elements) left rest | Fails ↦ Wrong (u ∷ us) ])) (caret_step-like l) (go (caret_step t.lexeme))
  where
    go : (x : CaretStep) → Like AnyTwo (elim x [ Omits ↦ Got (OmittedSet t.at) s ts | Opens ↦ elements_at AtFirst s ts >>= λ elements left rest. Got (WrittenSet elements) left rest | Fails ↦ Wrong (t ∷ ts) ]) (elim x [ Omits ↦ Got (OmittedSet u.at) s us | Opens ↦ elements_at AtFirst s us >>= λ elements left rest. Got (WrittenSet elements) left rest | Fails ↦ Wrong (u ∷ us) ])
    go Omits = like_got _ _ s ts us tt h
    go Opens = made-like WrittenSet WrittenSet (elements_at-like AtFirst s h) (λ v w. tt)
    go Fails = like_wrong _ _ (like_more t u ts us l h)

set_at-like : (s : ℕ) {ts us : List PlacedLexeme} → AreLike ts us → Like AnyTwo (set_at s ts) (set_at s us)
unfolding set_at
set_at-like s like_end = like_got AbsentSet AbsentSet s [] [] tt like_end
set_at-like s (like_more t u ts us l h) = choice-like (is_symbol symbols.Caret t.lexeme) (is_symbol symbols.Caret u.lexeme) (is_symbol-like symbols.Caret l) (caret_at-like s h) (like_got AbsentSet AbsentSet s _ _ tt (like_more t u ts us l h))

captures_at-like : (s : ℕ) {ts us : List PlacedLexeme} → AreLike ts us → Like AnyTwo (captures_at s ts) (captures_at s us)
unfolding captures_at
captures_at-like s like_end = like_got None None s [] [] tt like_end
captures_at-like s (like_more t u ts us l h) = choice-like (is_symbol symbols.OpenBrace t.lexeme) (is_symbol symbols.OpenBrace u.lexeme) (is_symbol-like symbols.OpenBrace l) (made-like Some Some (elements_at-like AtFirst s h) (λ v w. tt)) (like_got None None s _ _ tt (like_more t u ts us l h))

-- readers that find alike things
abbrev pub FindLike : {A : Type 0} → Reader A → Type 0
FindLike r = (ts us : List PlacedLexeme) → AreLike ts us → Like AnyTwo (r ts) (r us)

abbrev pub AllFindLike : Readers → Type 0
AllFindLike rd = (kind : Kind) → FindLike (rd kind)

written_at-like : (rd : Readers) → AllFindLike rd → (s : ℕ) {ts us : List PlacedLexeme} → AreLike ts us → Like AnyTwo (written_at rd s ts) (written_at rd s us)
unfolding written_at
written_at-like rd a s like_end = like_got None None s [] [] tt like_end
written_at-like rd a s (like_more t u ts us l h) =
    choice-like (is_symbol symbols.Colon t.lexeme) (is_symbol symbols.Colon u.lexeme) (is_symbol-like symbols.Colon l)
    (then-like (λ written left rest. Got (Some written) (min s left) rest) (λ written left rest. Got (Some written) (min s left) rest) (a TypePart ts us h) (λ v w left xs ys e k. like_got (Some v) (Some w) (min s left) xs ys tt k))
    (like_got None None s _ _ tt (like_more t u ts us l h))

one_part_at-like : (rd : Readers) → AllFindLike rd → (kind : Kind) (s : ℕ) {ts us : List PlacedLexeme} → AreLike ts us → Like AnyTwo (one_part_at rd kind s ts) (one_part_at rd kind s us)
unfolding one_part_at
one_part_at-like rd a kind s {ts = ts} {us = us} h = then-like (λ value left rest. Got value (min s left) rest) (λ value left rest. Got value (min s left) rest) (a kind ts us h) (λ v w left xs ys e k. like_got v w (min s left) xs ys tt k)

piece_at-like : (rd : Readers) → AllFindLike rd → (piece : Piece) (s : ℕ) {ts us : List PlacedLexeme} → AreLike ts us → Like AnyTwo (piece_at rd piece s ts) (piece_at rd piece s us)
piece_at-like rd a (AWord w) s h = word_at-like w s h
piece_at-like rd a (ASymbol w) s h = symbol_at-like w s h
piece_at-like rd a AName s h = name_at-like s h
piece_at-like rd a APlacedName s h = placed_name_at-like s h
piece_at-like rd a Captures s h = captures_at-like s h
piece_at-like rd a Written s h = written_at-like rd a s h
piece_at-like rd a (Part kind) s h = one_part_at-like rd a kind s h

pieces_at-like : (rd : Readers) → AllFindLike rd → (pieces : List Piece) (s : ℕ) {ts us : List PlacedLexeme} → AreLike ts us → Like AnyTwo (pieces_at rd pieces s ts) (pieces_at rd pieces s us)
pieces_at-like rd a [] s {ts = ts} {us = us} h = like_got tt tt s ts us tt h
pieces_at-like rd a (piece ∷ pieces) s h =
    then-like (λ value left rest. pieces_at rd pieces left rest >>= λ values less behind. Got (value, values) less behind) (λ value left rest. pieces_at rd pieces left rest >>= λ values less behind. Got (value, values) less behind) (piece_at-like rd a piece s h)
    (λ v w left xs ys e k. made-like (λ values. (v, values)) (λ values. (w, values)) (pieces_at-like rd a pieces left k) (λ x y. tt))

-- SHAPES AND TYPES

shape_rule_at-like : (rd : Readers) → AllFindLike rd → (room : ℕ) (at bt : Place) (rule : ShapeRule) {ts us : List PlacedLexeme} → AreLike ts us → Like AnyTwo (shape_rule_at rd room at rule ts) (shape_rule_at rd room bt rule us)
unfolding shape_rule_at
shape_rule_at-like rd a room at bt rule h = made-like (shape_tree rule at) (shape_tree rule bt) (pieces_at-like rd a (shape_pieces rule) room h) (λ v w. tt)

named_at-like : (rd : Readers) → AllFindLike rd → (room : ℕ) (at bt : Place) (x y : PlacedName) {ts us : List PlacedLexeme} → AreLike ts us → Like AnyTwo (named_at rd room at x ts) (named_at rd room bt y us)
unfolding named_at shape_rule_at
named_at-like rd a room at bt x y {ts = ts} {us = us} h =
    choice-like (begins_symbol symbols.Colon ts) (begins_symbol symbols.Colon us) (begins_symbol-like symbols.Colon h)
    (made-like (shape_tree (FunctionShapeRule x.1) at) (shape_tree (FunctionShapeRule y.1) bt) (pieces_at-like rd a (shape_pieces (FunctionShapeRule x.1)) room h) (λ v w. tt))
    (made-like (shape_tree (NamedInnerRule x.0 x.1) at) (shape_tree (NamedInnerRule y.0 y.1) bt) (pieces_at-like rd a (shape_pieces (NamedInnerRule x.0 x.1)) room h) (λ v w. tt))

paren_at-like : (rd : Readers) → AllFindLike rd → (room : ℕ) (at bt : Place) {ts us : List PlacedLexeme} → AreLike ts us → Like AnyTwo (paren_at rd room at ts) (paren_at rd room bt us)
unfolding paren_at
paren_at-like rd a room at bt like_end = like_wrong [] [] like_end
paren_at-like rd a room at bt (like_more t u ts us l h) = go (name_of-like l)
  where
    go : {o p : Option (List ℕ)} → Both o p → Like AnyTwo (elim o [ None ↦ shape_rule_at rd room at InnerRule (t ∷ ts) | Some name ↦ named_at rd room at (t.at, name) ts ]) (elim p [ None ↦ shape_rule_at rd room bt InnerRule (u ∷ us) | Some name ↦ named_at rd room bt (u.at, name) us ])
    go neither = shape_rule_at-like rd a room at bt InnerRule (like_more t u ts us l h)
    go (both x y) = named_at-like rd a room at bt (t.at, x) (u.at, y) h

shape_start_at-like : (rd : Readers) → AllFindLike rd → (room : ℕ) (at bt : Place) (start : ShapeStart) {ts us : List PlacedLexeme} → AreLike ts us → Like AnyTwo (shape_start_at rd room at start ts) (shape_start_at rd room bt start us)
unfolding shape_start_at
shape_start_at-like rd a room at bt ExitStart h = shape_rule_at-like rd a room at bt ExitShapeRule h
shape_start_at-like rd a room at bt BoxStart h = shape_rule_at-like rd a room at bt BoxShapeRule h
shape_start_at-like rd a room at bt ParenStart h = paren_at-like rd a room at bt h
shape_start_at-like rd a room at bt TypeFunctionStart h = shape_rule_at-like rd a room at bt TypeFunctionShapeRule h

shape_over-like : (room : ℕ) (rd : Readers) → AllFindLike rd → {ts us : List PlacedLexeme} → AreLike ts us → Like AnyTwo (shape_over room rd ts) (shape_over room rd us)
unfolding shape_over
shape_over-like room rd a like_end = like_wrong [] [] like_end
shape_over-like room rd a (like_more t u ts us l h) = go room (shape_head-like t.at u.at l)
  where
    go : (n : ℕ) {x y : ShapeHead} → LikeShape x y → Like AnyTwo (elim x [ WholeShape shape ↦ Got shape n ts | StartsShape start ↦ (elim n [ zero ↦ High (t ∷ ts) | suc below ↦ shape_start_at rd below t.at start ts ]) | NoShape ↦ Wrong (t ∷ ts) ]) (elim y [ WholeShape shape ↦ Got shape n us | StartsShape start ↦ (elim n [ zero ↦ High (u ∷ us) | suc below ↦ shape_start_at rd below u.at start us ]) | NoShape ↦ Wrong (u ∷ us) ])
    go n (like_shape x y) = like_got x y n ts us tt h
    go zero (like_start start) = like_high _ _ (like_more t u ts us l h)
    go (suc below) (like_start start) = shape_start_at-like rd a below t.at u.at start h
    go n like_none = like_wrong _ _ (like_more t u ts us l h)

type_over-like : (room : ℕ) (rd : Readers) → AllFindLike rd → {ts us : List PlacedLexeme} → AreLike ts us → Like AnyTwo (type_over room rd ts) (type_over room rd us)
unfolding type_over
type_over-like room rd a h =
    then-like (λ shape spare rest. set_at spare rest >>= λ set left behind. Got (CapturingType (shape_place shape) shape set) left behind) (λ shape spare rest. set_at spare rest >>= λ set left behind. Got (CapturingType (shape_place shape) shape set) left behind) (shape_over-like room rd a h)
    (λ v w s xs ys e k. made-like (CapturingType (shape_place v) v) (CapturingType (shape_place w) w) (set_at-like s k) (λ x y. tt))

-- EXPRESSIONS

tree_level : (rule : ExprRule) (at : Place) (p : Parts (expr_pieces rule)) → level (expr_tree rule at p) ≡ rule_level rule
tree_level ParenRule at (inner, (close, end)) = refl
tree_level ValRule at (name, (written, (equals, (right, (semicolon, (body, end)))))) = refl
tree_level FunRule at (opening, (parameter, (colon, (takes, (close, (arrow, (body, end))))))) = refl
tree_level TypeFunRule at (opening, (parameter, (below, (bound, (close, (arrow, (body, end))))))) = refl
tree_level IfRule at (opening, (gives, (close, (test, (then', (positive, (else', (negative, end)))))))) = refl
tree_level BoundaryRule at (opening, (gives, (close, (exit, (arrow, (body, end)))))) = refl
tree_level BoxRule at (content, end) = refl
tree_level UnboxRule at (captures, (content, end)) = refl
tree_level ExitRule at (opening, (gives, (close, (paren, (exit, (comma, (value, (end, all)))))))) = refl
tree_level RepeatRule at (opening, (count, (comma, (function, (close, end))))) = refl

expr_rule_at-like : (rd : Readers) → AllFindLike rd → (room : ℕ) (at bt : Place) (rule : ExprRule) {ts us : List PlacedLexeme} → AreLike ts us → Like AsTight (expr_rule_at rd room at rule ts) (expr_rule_at rd room bt rule us)
unfolding expr_rule_at
expr_rule_at-like rd a room at bt rule h = made-like (expr_tree rule at) (expr_tree rule bt) (pieces_at-like rd a (expr_pieces rule) room h) (λ v w. tree_level rule at v ∙ sym (tree_level rule bt w))

expr_start_at-like : (rd : Readers) → AllFindLike rd → (room : ℕ) (at bt : Place) (start : ExprStart) {ts us : List PlacedLexeme} → AreLike ts us → Like AsTight (expr_start_at rd room at start ts) (expr_start_at rd room bt start us)
unfolding expr_start_at fun_at
expr_start_at-like rd a room at bt FunStart {ts = ts} {us = us} h =
    choice-like (begins_symbol symbols.Open ts) (begins_symbol symbols.Open us) (begins_symbol-like symbols.Open h) (expr_rule_at-like rd a room at bt FunRule h) (expr_rule_at-like rd a room at bt TypeFunRule h)
expr_start_at-like rd a room at bt (RuleStart rule) h = expr_rule_at-like rd a room at bt rule h

linked_level : (rule : LinkRule) (e f : ExprSyntax) (p q : Parts (link_pieces rule)) → level (link_tree rule e p) ≡ level (link_tree rule f q)
linked_level (OperatorRule operator) e f (right, end) (other, all) = refl
linked_level CallRule e f (argument, (close, end)) (other, (closing, all)) = refl
linked_level TypeCallRule e f (argument, (close, end)) (other, (closing, all)) = refl
linked_level (AskRule operation) e f (opening, (close, end)) (other, (closing, all)) = refl
linked_level (TellRule operation) e f (opening, (argument, (close, end))) (other, (value, (closing, all))) = refl

link_rule_at-like : (rd : Readers) → AllFindLike rd → (spare : ℕ) (e f : ExprSyntax) (rule : LinkRule) {ts us : List PlacedLexeme} → AreLike ts us → Like AsTight (link_rule_at rd spare e rule ts) (link_rule_at rd spare f rule us)
unfolding link_rule_at
link_rule_at-like rd a spare e f rule h = made-like (link_tree rule e) (link_tree rule f) (pieces_at-like rd a (link_pieces rule) spare h) (linked_level rule e f)

operation_at-like : (rd : Readers) → AllFindLike rd → (spare : ℕ) (e f : ExprSyntax) (operation : Op) {ts us : List PlacedLexeme} → AreLike ts us → Like AsTight (operation_at rd spare e operation ts) (operation_at rd spare f operation us)
unfolding operation_at
operation_at-like rd a spare e f operation h =
    choice-like (takes_argument operation) (takes_argument operation) refl (link_rule_at-like rd a spare e f (TellRule operation) h) (link_rule_at-like rd a spare e f (AskRule operation) h)

dot_at-like : (rd : Readers) → AllFindLike rd → (spare : ℕ) (e f : ExprSyntax) {ts us : List PlacedLexeme} → AreLike ts us → Like AsTight (dot_at rd spare e ts) (dot_at rd spare f us)
unfolding dot_at
dot_at-like rd a spare e f like_end = like_wrong [] [] like_end
dot_at-like rd a spare e f (like_more t u ts us l h) =
    subst (λ o. Like AsTight (elim (operation_of t.lexeme) [ None ↦ Wrong (t ∷ ts) | Some operation ↦ operation_at rd spare e operation ts ]) (elim o [ None ↦ Wrong (u ∷ us) | Some operation ↦ operation_at rd spare f operation us ])) (operation_of-like l) (go (operation_of t.lexeme))
  where
    go : (o : Option Op) → Like AsTight (elim o [ None ↦ Wrong (t ∷ ts) | Some operation ↦ operation_at rd spare e operation ts ]) (elim o [ None ↦ Wrong (u ∷ us) | Some operation ↦ operation_at rd spare f operation us ])
    go None = like_wrong _ _ (like_more t u ts us l h)
    go (Some operation) = operation_at-like rd a spare e f operation h

link_at-like : (rd : Readers) → AllFindLike rd → (spare : ℕ) (e f : ExprSyntax) (link : Link) {ts us : List PlacedLexeme} → AreLike ts us → Like AsTight (link_at rd spare e link ts) (link_at rd spare f link us)
unfolding link_at
link_at-like rd a spare e f (OperatorLink operator) h = link_rule_at-like rd a spare e f (OperatorRule operator) h
link_at-like rd a spare e f CallLink h = link_rule_at-like rd a spare e f CallRule h
link_at-like rd a spare e f TypeCallLink h = link_rule_at-like rd a spare e f TypeCallRule h
link_at-like rd a spare e f DotLink h = dot_at-like rd a spare e f h

if_on-like : (least : ℕ) (e f : ExprSyntax) → level e ≡ level f → (o : Option Link) → if_on least e o ≡ if_on least f o
if_on-like least e f same None = refl
if_on-like least e f same (Some link) = rw same refl

next_link-like : (least : ℕ) (e f : ExprSyntax) → level e ≡ level f → {ts us : List PlacedLexeme} → AreLike ts us → next_link least e ts ≡ next_link least f us
unfolding next_link
next_link-like least e f same like_end = refl
next_link-like least e f same (like_more t u ts us l h) = if_on-like least e f same (link_of t.lexeme) ∙ ap (if_on least f) (link_of-like l)

links_at-like : (rd : Readers) → AllFindLike rd → (least steps : ℕ) (e f : ExprSyntax) → level e ≡ level f → (spare : ℕ) {ts us : List PlacedLexeme} → AreLike ts us → Like AsTight (links_at rd least steps e spare ts) (links_at rd least steps f spare us)
unfolding links_at
links_at-like rd a least zero e f same spare {ts = ts} {us = us} h =
    subst (λ o. Like AsTight (elim (next_link least e ts) [ None ↦ Got e spare ts | Some link ↦ High ts ]) (elim o [ None ↦ Got f spare us | Some link ↦ High us ])) (next_link-like least e f same h) (go (next_link least e ts))
  where
    go : (o : Option Link) → Like AsTight (elim o [ None ↦ Got e spare ts | Some link ↦ High ts ]) (elim o [ None ↦ Got f spare us | Some link ↦ High us ])
    go None = like_got e f spare ts us same h
    go (Some link) = like_high ts us h
links_at-like rd a least (suc steps) e f same spare {ts = ts} {us = us} h =
    subst (λ o. Like AsTight (elim (next_link least e ts) [ None ↦ Got e spare ts | Some link ↦ (elim spare [ zero ↦ High ts | suc left ↦ link_at rd left e link (behind_first ts) >>= λ more less rest. links_at rd least steps more less rest ]) ]) (elim o [ None ↦ Got f spare us | Some link ↦ (elim spare [ zero ↦ High us | suc left ↦ link_at rd left f link (behind_first us) >>= λ more less rest. links_at rd least steps more less rest ]) ])) (next_link-like least e f same h)
    (go spare (next_link least e ts) (λ v w s xs ys lift k. links_at-like rd a least steps v w lift s k))
  where
    go : (n : ℕ) (o : Option Link) → ((v w : ExprSyntax) (s : ℕ) (xs ys : List PlacedLexeme) → level v ≡ level w → AreLike xs ys → Like AsTight (links_at rd least steps v s xs) (links_at rd least steps w s ys)) → Like AsTight (elim o [ None ↦ Got e n ts | Some link ↦ (elim n [ zero ↦ High ts | suc left ↦ link_at rd left e link (behind_first ts) >>= λ more less rest. links_at rd least steps more less rest ]) ]) (elim o [ None ↦ Got f n us | Some link ↦ (elim n [ zero ↦ High us | suc left ↦ link_at rd left f link (behind_first us) >>= λ more less rest. links_at rd least steps more less rest ]) ])
    go n None more = like_got e f n ts us same h
    go zero (Some link) more = like_high ts us h
    go (suc left) (Some link) more = then-like (links_at rd least steps) (links_at rd least steps) (link_at-like rd a left e f link (behind_first-like h)) more

expr_over-like : (room : ℕ) (rd : Readers) → AllFindLike rd → (least : ℕ) {ts us : List PlacedLexeme} → AreLike ts us → Like AsTight (expr_over room rd least ts) (expr_over room rd least us)
unfolding expr_over
expr_over-like room rd a least like_end = like_wrong [] [] like_end
expr_over-like room rd a least (like_more t u ts us l h) = go (expr_head-like t.at u.at l)
  where
    starts : (n : ℕ) (start : ExprStart) → Like AsTight (elim n [ zero ↦ High (t ∷ ts) | suc below ↦ expr_start_at rd below t.at start ts >>= λ expr spare rest. links_at rd least spare expr spare rest ]) (elim n [ zero ↦ High (u ∷ us) | suc below ↦ expr_start_at rd below u.at start us >>= λ expr spare rest. links_at rd least spare expr spare rest ])
    starts zero start = like_high _ _ (like_more t u ts us l h)
    starts (suc below) start = then-like (λ expr spare rest. links_at rd least spare expr spare rest) (λ expr spare rest. links_at rd least spare expr spare rest) (expr_start_at-like rd a below t.at u.at start h) (λ v w s xs ys e k. links_at-like rd a least s v w e s k)

    go : {x y : ExprHead} → LikeExpr x y → Like AsTight (elim x [ WholeExpr expr ↦ links_at rd least room expr room ts | StartsExpr start ↦ (if nat_le least (start_level start) then (elim room [ zero ↦ High (t ∷ ts) | suc below ↦ expr_start_at rd below t.at start ts >>= λ expr spare rest. links_at rd least spare expr spare rest ]) else Wrong (t ∷ ts)) | NoExpr ↦ Wrong (t ∷ ts) ]) (elim y [ WholeExpr expr ↦ links_at rd least room expr room us | StartsExpr start ↦ (if nat_le least (start_level start) then (elim room [ zero ↦ High (u ∷ us) | suc below ↦ expr_start_at rd below u.at start us >>= λ expr spare rest. links_at rd least spare expr spare rest ]) else Wrong (u ∷ us)) | NoExpr ↦ Wrong (u ∷ us) ])
    go (like_expr x y e) = links_at-like rd a least room x y e room h
    go (like_begin start) = choice-like (nat_le least (start_level start)) (nat_le least (start_level start)) refl (starts room start) (like_wrong _ _ (like_more t u ts us l h))
    go like_no = like_wrong _ _ (like_more t u ts us l h)

part_over-like : (room : ℕ) (rd : Readers) → AllFindLike rd → AllFindLike (part_over room rd)
part_over-like room rd a ShapePart ts us h = shape_over-like room rd a h
part_over-like room rd a TypePart ts us h = type_over-like room rd a h
part_over-like room rd a (ExprPart least) ts us h = forget-like (expr_over-like room rd a least h)

part_at-like : (room : ℕ) → AllFindLike (part_at room)
unfolding part_at
part_at-like zero = part_over-like zero nothing_at (λ kind ts us h. like_high ts us h)
part_at-like (suc room) = part_over-like (suc room) (part_at room) (part_at-like room)

-- MODULES

import_at-like : {ts us : List PlacedLexeme} → AreLike ts us → Like AnyTwo (import_at ts) (import_at us)
unfolding import_at
import_at-like h = made-like import_tree import_tree (pieces_at-like (part_at top_room) (part_at-like top_room) import_pieces top_room h) (λ v w. tt)

imports_at-like : (steps : ℕ) {ts us : List PlacedLexeme} → AreLike ts us → Like AnyTwo (imports_at steps ts) (imports_at steps us)
unfolding imports_at
imports_at-like zero like_end = like_got [] [] top_room [] [] tt like_end
imports_at-like zero (like_more t u ts us l h) = like_got [] [] top_room _ _ tt (like_more t u ts us l h)
imports_at-like (suc steps) like_end = like_got [] [] top_room [] [] tt like_end
imports_at-like (suc steps) (like_more t u ts us l h) =
    choice-like (is_word words.Import t.lexeme) (is_word words.Import u.lexeme) (is_word-like words.Import l)
    (then-like (λ first spare rest. imports_at steps rest >>= λ more left behind. Got (first ∷ more) left behind) (λ first spare rest. imports_at steps rest >>= λ more left behind. Got (first ∷ more) left behind) (import_at-like h) (λ v w s xs ys e k. made-like (λ more. v ∷ more) (λ more. w ∷ more) (imports_at-like steps k) (λ x y. tt)))
    (like_got [] [] top_room _ _ tt (like_more t u ts us l h))

def_rule_at-like : (rule : DefRule) {ts us : List PlacedLexeme} → AreLike ts us → Like AnyTwo (def_rule_at rule ts) (def_rule_at rule us)
unfolding def_rule_at
def_rule_at-like rule h = made-like (def_tree rule) (def_tree rule) (pieces_at-like (part_at top_room) (part_at-like top_room) (def_pieces rule) top_room h) (λ v w. tt)

def_at-like : {ts us : List PlacedLexeme} → AreLike ts us → Like AnyTwo (def_at ts) (def_at us)
unfolding def_at
def_at-like {ts = ts} {us = us} h = choice-like (begins_word words.Rec ts) (begins_word words.Rec us) (begins_word-like words.Rec h) (def_rule_at-like OwnRule h) (def_rule_at-like PlainRule h)

defs_at-like : (steps : ℕ) {ts us : List PlacedLexeme} → AreLike ts us → Like AnyTwo (defs_at steps ts) (defs_at steps us)
unfolding defs_at
defs_at-like zero like_end = like_got [] [] top_room [] [] tt like_end
defs_at-like zero (like_more t u ts us l h) = like_wrong _ _ (like_more t u ts us l h)
defs_at-like (suc steps) like_end = like_got [] [] top_room [] [] tt like_end
defs_at-like (suc steps) (like_more t u ts us l h) =
    choice-like (is_word words.Def t.lexeme) (is_word words.Def u.lexeme) (is_word-like words.Def l)
    (then-like (λ first spare rest. defs_at steps rest >>= λ more left behind. Got (first ∷ more) left behind) (λ first spare rest. defs_at steps rest >>= λ more left behind. Got (first ∷ more) left behind) (def_at-like h) (λ v w s xs ys e k. made-like (λ more. v ∷ more) (λ more. w ∷ more) (defs_at-like steps k) (λ x y. tt)))
    (like_wrong _ _ (like_more t u ts us l h))

-- as many steps, given as two numbers
same-steps : {A : Type 0} (r : ℕ → Reader A) (j k : ℕ) → j ≡ k → (ts us : List PlacedLexeme) → Like AnyTwo (r j ts) (r j us) → Like AnyTwo (r j ts) (r k us)
same-steps r j k e ts us h = subst (λ n. Like AnyTwo (r j ts) (r n us)) e h

-- what is found of a module's tokens is alike where they are
pub module_at-like : {ts us : List PlacedLexeme} → AreLike ts us → Like AnyTwo (module_at ts) (module_at us)
unfolding module_at
module_at-like {ts = ts} {us = us} h =
    then-like (λ imports spare rest. defs_at (length rest) rest >>= λ defs left behind. Got (record { imports = imports; defs = defs }) left behind) (λ imports spare rest. defs_at (length rest) rest >>= λ defs left behind. Got (record { imports = imports; defs = defs }) left behind)
    (same-steps imports_at (length ts) (length us) (length-like h) ts us (imports_at-like (length ts) h))
    (λ v w s xs ys e k. made-like (λ defs. record { imports = v; defs = defs }) (λ defs. record { imports = w; defs = defs }) (same-steps defs_at (length xs) (length ys) (length-like k) xs ys (defs_at-like (length xs) k)) (λ x y. tt))
