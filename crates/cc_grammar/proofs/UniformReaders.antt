-- Every reader is uniform: each proof goes as its reader does.
use Rattle.std.proofs.Common.{◌≡◌, ℕ, zero, suc, min, Bool, true, false, nat_le, List, [], ◌∷◌, Option, Some, None, refl}
use Rattle.cc_base.specs.declared.place.Place.{Place}
use Rattle.cc_base.specs.declared.literal.Op.{Op}
use Rattle.cc_lex.specs.declared.token.Word.{Word}
use Rattle.cc_lex.specs.declared.token.Word.TheVariants as words
use Rattle.cc_lex.specs.declared.token.Symbol.{Symbol}
use Rattle.cc_lex.specs.declared.token.Symbol.TheVariants as symbols
use Rattle.cc_lex.specs.Lexemes.{PlacedLexeme}
use Rattle.cc_grammar.specs.Grammar.{takes_argument}
use Rattle.cc_grammar.specs.Syntax.{AbsentSet, OmittedSet, WrittenSet, CapturingType, ExprSyntax}
use Rattle.cc_grammar.specs.Tests.{is_word, is_symbol, begins_symbol, begins_word, name_of, operation_of}
use Rattle.cc_grammar.specs.Reading.{Got, Reader, Readers, ◌>>=◌, Kind, ShapePart, TypePart, ExprPart, Piece, AWord, ASymbol, AName, APlacedName, Captures, Written, Part, PlacedName, word_at, symbol_at, name_at, placed_name_at, SetState, AtFirst, AtNext, Behind, SetStep, Ends, Takes, Separates, Misfits, set_step, elements_at, CaretStep, Omits, Opens, Fails, caret_step, caret_at, set_at, captures_at, written_at, one_part_at, piece_at, pieces_at, ShapeRule, InnerRule, NamedInnerRule, FunctionShapeRule, ExitShapeRule, BoxShapeRule, TypeFunctionShapeRule, shape_pieces, shape_tree, shape_rule_at, named_at, paren_at, ShapeStart, ExitStart, BoxStart, ParenStart, TypeFunctionStart, ShapeHead, WholeShape, StartsShape, NoShape, shape_head, shape_start_at, shape_over, type_over, ExprRule, FunRule, TypeFunRule, expr_pieces, expr_tree, expr_rule_at, fun_at, ExprStart, FunStart, RuleStart, start_level, expr_start_at, ExprHead, WholeExpr, StartsExpr, NoExpr, expr_head, Link, OperatorLink, CallLink, TypeCallLink, DotLink, link_of, LinkRule, OperatorRule, CallRule, TypeCallRule, AskRule, TellRule, link_pieces, link_tree, link_rule_at, operation_at, dot_at, link_at, if_on, next_link, links_at, expr_over, nothing_at, part_over, part_at, top_room, import_pieces, import_tree, import_at, imports_at, DefRule, PlainRule, OwnRule, def_pieces, def_tree, def_rule_at, def_at, defs_at}
use Rattle.cc_grammar.proofs.Uniform.{Alike, UniformAt, Uniform, then-uniform, StaysGot, StaysWrong, StaysHigh, stay, stay-uniform, at_end, at_first, past_first, by_first, as_first}

pub made-uniform : {A B : Type 0} (r : Reader A) (f : A → B) (ts : List PlacedLexeme) → UniformAt r ts (r ts) → UniformAt (λ us. r us >>= λ v s rest. Got (f v) s rest) ts (r ts >>= λ v s rest. Got (f v) s rest)
made-uniform r f ts u = then-uniform r (λ v s rest. Got (f v) s rest) ts u (λ v s. stay-uniform (StaysGot (f v) s))

word_at-uniform : (w : Word) (s : ℕ) → Uniform (word_at w s)
unfolding word_at
word_at-uniform w s [] = at_end (word_at w s) StaysWrong refl
word_at-uniform w s (t ∷ ts) = go (is_word w t.lexeme) refl
  where
    go : (b : Bool) → is_word w t.lexeme ≡ b → UniformAt (word_at w s) (t ∷ ts) (word_at w s (t ∷ ts))
    go true e = past_first (word_at w s) (stay (StaysGot tt s)) t ts (λ us. rw e refl) (stay-uniform (StaysGot tt s) ts)
    go false e = at_first (word_at w s) StaysWrong t ts (λ us. rw e refl)

symbol_at-uniform : (w : Symbol) (s : ℕ) → Uniform (symbol_at w s)
unfolding symbol_at
symbol_at-uniform w s [] = at_end (symbol_at w s) StaysWrong refl
symbol_at-uniform w s (t ∷ ts) = go (is_symbol w t.lexeme) refl
  where
    go : (b : Bool) → is_symbol w t.lexeme ≡ b → UniformAt (symbol_at w s) (t ∷ ts) (symbol_at w s (t ∷ ts))
    go true e = past_first (symbol_at w s) (stay (StaysGot tt s)) t ts (λ us. rw e refl) (stay-uniform (StaysGot tt s) ts)
    go false e = at_first (symbol_at w s) StaysWrong t ts (λ us. rw e refl)

name_at-uniform : (s : ℕ) → Uniform (name_at s)
unfolding name_at
name_at-uniform s [] = at_end (name_at s) StaysWrong refl
name_at-uniform s (t ∷ ts) = go (name_of t.lexeme) refl
  where
    go : (o : Option (List ℕ)) → name_of t.lexeme ≡ o → UniformAt (name_at s) (t ∷ ts) (name_at s (t ∷ ts))
    go (Some x) e = past_first (name_at s) (stay (StaysGot x s)) t ts (λ us. rw (e, name_at) refl) (stay-uniform (StaysGot x s) ts)
    go None e = at_first (name_at s) StaysWrong t ts (λ us. rw (e, name_at) refl)

placed_name_at-uniform : (s : ℕ) → Uniform (placed_name_at s)
unfolding placed_name_at
placed_name_at-uniform s [] = at_end (placed_name_at s) StaysWrong refl
placed_name_at-uniform s (t ∷ ts) = go (name_of t.lexeme) refl
  where
    go : (o : Option (List ℕ)) → name_of t.lexeme ≡ o → UniformAt (placed_name_at s) (t ∷ ts) (placed_name_at s (t ∷ ts))
    go (Some x) e = past_first (placed_name_at s) (stay (StaysGot (t.at, x) s)) t ts (λ us. rw (e, placed_name_at) refl) (stay-uniform (StaysGot (t.at, x) s) ts)
    go None e = at_first (placed_name_at s) StaysWrong t ts (λ us. rw (e, placed_name_at) refl)

elements_at-uniform : (state : SetState) (s : ℕ) → Uniform (elements_at state s)
unfolding elements_at
elements_at-uniform state s [] = at_end (elements_at state s) StaysWrong refl
elements_at-uniform state s (t ∷ ts) = go (set_step state t.lexeme) refl (elements_at-uniform Behind s ts) (elements_at-uniform AtNext s ts)
  where
    go : (step : SetStep) → set_step state t.lexeme ≡ step → UniformAt (elements_at Behind s) ts (elements_at Behind s ts) → UniformAt (elements_at AtNext s) ts (elements_at AtNext s ts) → UniformAt (elements_at state s) (t ∷ ts) (elements_at state s (t ∷ ts))
    go Ends e behind next = past_first (elements_at state s) (stay (StaysGot [] s)) t ts (λ us. rw (e, elements_at) refl) (stay-uniform (StaysGot [] s) ts)
    go (Takes name) e behind next = past_first (elements_at state s) (λ us. elements_at Behind s us >>= λ more left rest. Got (record { at = t.at; name = name } ∷ more) left rest) t ts (λ us. rw (e, elements_at) refl) (made-uniform (elements_at Behind s) (λ more. record { at = t.at; name = name } ∷ more) ts behind)
    go Separates e behind next = past_first (elements_at state s) (elements_at AtNext s) t ts (λ us. rw (e, elements_at) refl) next
    go Misfits e behind next = at_first (elements_at state s) StaysWrong t ts (λ us. rw (e, elements_at) refl)

caret_at-uniform : (s : ℕ) → Uniform (caret_at s)
unfolding caret_at
caret_at-uniform s [] = at_end (caret_at s) StaysWrong refl
caret_at-uniform s (t ∷ ts) = go (caret_step t.lexeme) refl
  where
    go : (step : CaretStep) → caret_step t.lexeme ≡ step → UniformAt (caret_at s) (t ∷ ts) (caret_at s (t ∷ ts))
    go Omits e = past_first (caret_at s) (stay (StaysGot (OmittedSet t.at) s)) t ts (λ us. rw (e, caret_at) refl) (stay-uniform (StaysGot (OmittedSet t.at) s) ts)
    go Opens e = past_first (caret_at s) (λ us. elements_at AtFirst s us >>= λ elements left rest. Got (WrittenSet elements) left rest) t ts (λ us. rw (e, caret_at) refl) (made-uniform (elements_at AtFirst s) WrittenSet ts (elements_at-uniform AtFirst s ts))
    go Fails e = at_first (caret_at s) StaysWrong t ts (λ us. rw (e, caret_at) refl)

set_at-uniform : (s : ℕ) → Uniform (set_at s)
unfolding set_at
set_at-uniform s [] = at_end (set_at s) (StaysGot AbsentSet s) refl
set_at-uniform s (t ∷ ts) = go (is_symbol symbols.Caret t.lexeme) refl
  where
    go : (b : Bool) → is_symbol symbols.Caret t.lexeme ≡ b → UniformAt (set_at s) (t ∷ ts) (set_at s (t ∷ ts))
    go true e = past_first (set_at s) (caret_at s) t ts (λ us. rw e refl) (caret_at-uniform s ts)
    go false e = at_first (set_at s) (StaysGot AbsentSet s) t ts (λ us. rw e refl)

captures_at-uniform : (s : ℕ) → Uniform (captures_at s)
unfolding captures_at
captures_at-uniform s [] = at_end (captures_at s) (StaysGot None s) refl
captures_at-uniform s (t ∷ ts) = go (is_symbol symbols.OpenBrace t.lexeme) refl
  where
    go : (b : Bool) → is_symbol symbols.OpenBrace t.lexeme ≡ b → UniformAt (captures_at s) (t ∷ ts) (captures_at s (t ∷ ts))
    go true e = past_first (captures_at s) (λ us. elements_at AtFirst s us >>= λ elements left rest. Got (Some elements) left rest) t ts (λ us. rw e refl) (made-uniform (elements_at AtFirst s) (λ elements. Some elements) ts (elements_at-uniform AtFirst s ts))
    go false e = at_first (captures_at s) (StaysGot None s) t ts (λ us. rw e refl)

-- readers of parts that are uniform
abbrev pub AreUniform : Readers → Type 0
AreUniform rd = (kind : Kind) → Uniform (rd kind)

written_at-uniform : (rd : Readers) → AreUniform rd → (s : ℕ) → Uniform (written_at rd s)
unfolding written_at
written_at-uniform rd u s [] = at_end (written_at rd s) (StaysGot None s) refl
written_at-uniform rd u s (t ∷ ts) = go (is_symbol symbols.Colon t.lexeme) refl
  where
    go : (b : Bool) → is_symbol symbols.Colon t.lexeme ≡ b → UniformAt (written_at rd s) (t ∷ ts) (written_at rd s (t ∷ ts))
    go true e = past_first (written_at rd s) (λ us. rd TypePart us >>= λ written left rest. Got (Some written) (min s left) rest) t ts (λ us. rw e refl) (then-uniform (rd TypePart) (λ written left rest. Got (Some written) (min s left) rest) ts (u TypePart ts) (λ v left. stay-uniform (StaysGot (Some v) (min s left))))
    go false e = at_first (written_at rd s) (StaysGot None s) t ts (λ us. rw e refl)

one_part_at-uniform : (rd : Readers) → AreUniform rd → (kind : Kind) (s : ℕ) → Uniform (one_part_at rd kind s)
unfolding one_part_at
one_part_at-uniform rd u kind s ts = then-uniform (rd kind) (λ value left rest. Got value (min s left) rest) ts (u kind ts) (λ v left. stay-uniform (StaysGot v (min s left)))

piece_at-uniform : (rd : Readers) → AreUniform rd → (piece : Piece) (s : ℕ) → Uniform (piece_at rd piece s)
piece_at-uniform rd u (AWord w) s = word_at-uniform w s
piece_at-uniform rd u (ASymbol w) s = symbol_at-uniform w s
piece_at-uniform rd u AName s = name_at-uniform s
piece_at-uniform rd u APlacedName s = placed_name_at-uniform s
piece_at-uniform rd u Captures s = captures_at-uniform s
piece_at-uniform rd u Written s = written_at-uniform rd u s
piece_at-uniform rd u (Part kind) s = one_part_at-uniform rd u kind s

pub pieces_at-uniform : (rd : Readers) → AreUniform rd → (pieces : List Piece) (s : ℕ) → Uniform (pieces_at rd pieces s)
pieces_at-uniform rd u [] s = stay-uniform (StaysGot tt s)
pieces_at-uniform rd u (piece ∷ pieces) s = λ ts. then-uniform (piece_at rd piece s) (λ value left rest. pieces_at rd pieces left rest >>= λ values less behind. Got (value, values) less behind) ts (piece_at-uniform rd u piece s ts) (λ value left rest. made-uniform (pieces_at rd pieces left) (λ values. (value, values)) rest (pieces_at-uniform rd u pieces left rest))

begins_symbol-alike : (w : Symbol) (ts us : List PlacedLexeme) → Alike ts us → begins_symbol w ts ≡ begins_symbol w us
begins_symbol-alike w [] [] a = refl
begins_symbol-alike w [] (x ∷ us) a = absurd a
begins_symbol-alike w (t ∷ ts) [] a = absurd a
begins_symbol-alike w (t ∷ ts) (x ∷ us) a = rw a refl

begins_word-alike : (w : Word) (ts us : List PlacedLexeme) → Alike ts us → begins_word w ts ≡ begins_word w us
begins_word-alike w [] [] a = refl
begins_word-alike w [] (x ∷ us) a = absurd a
begins_word-alike w (t ∷ ts) [] a = absurd a
begins_word-alike w (t ∷ ts) (x ∷ us) a = rw a refl

shape_rule_at-uniform : (rd : Readers) → AreUniform rd → (room : ℕ) (at : Place) (rule : ShapeRule) → Uniform (shape_rule_at rd room at rule)
unfolding shape_rule_at
shape_rule_at-uniform rd u room at rule ts = made-uniform (pieces_at rd (shape_pieces rule) room) (shape_tree rule at) ts (pieces_at-uniform rd u (shape_pieces rule) room ts)

named_at-uniform : (rd : Readers) → AreUniform rd → (room : ℕ) (at : Place) (name : PlacedName) → Uniform (named_at rd room at name)
unfolding named_at
named_at-uniform rd u room at name = by_first (begins_symbol symbols.Colon) (begins_symbol-alike symbols.Colon) _ _ (shape_rule_at-uniform rd u room at (FunctionShapeRule name.1)) (shape_rule_at-uniform rd u room at (NamedInnerRule name.0 name.1))

paren_at-uniform : (rd : Readers) → AreUniform rd → (room : ℕ) (at : Place) → Uniform (paren_at rd room at)
unfolding paren_at
paren_at-uniform rd u room at [] = at_end (paren_at rd room at) StaysWrong refl
paren_at-uniform rd u room at (t ∷ ts) = go (name_of t.lexeme) refl
  where
    go : (o : Option (List ℕ)) → name_of t.lexeme ≡ o → UniformAt (paren_at rd room at) (t ∷ ts) (paren_at rd room at (t ∷ ts))
    go (Some x) e = past_first (paren_at rd room at) (named_at rd room at (t.at, x)) t ts (λ us. rw (e, paren_at) refl) (named_at-uniform rd u room at (t.at, x) ts)
    go None e = as_first (paren_at rd room at) (shape_rule_at rd room at InnerRule) t ts (λ us. rw (e, paren_at) refl) (shape_rule_at-uniform rd u room at InnerRule (t ∷ ts))

shape_start_at-uniform : (rd : Readers) → AreUniform rd → (room : ℕ) (at : Place) (start : ShapeStart) → Uniform (shape_start_at rd room at start)
unfolding shape_start_at
shape_start_at-uniform rd u room at ExitStart = shape_rule_at-uniform rd u room at ExitShapeRule
shape_start_at-uniform rd u room at BoxStart = shape_rule_at-uniform rd u room at BoxShapeRule
shape_start_at-uniform rd u room at ParenStart = paren_at-uniform rd u room at
shape_start_at-uniform rd u room at TypeFunctionStart = shape_rule_at-uniform rd u room at TypeFunctionShapeRule

shape_over-uniform : (room : ℕ) (rd : Readers) → AreUniform rd → Uniform (shape_over room rd)
unfolding shape_over
shape_over-uniform room rd u [] = at_end (shape_over room rd) StaysWrong refl
shape_over-uniform room rd u (t ∷ ts) = go room (shape_head t.at t.lexeme) refl
  where
    go : (n : ℕ) (head : ShapeHead) → shape_head t.at t.lexeme ≡ head → UniformAt (shape_over n rd) (t ∷ ts) (shape_over n rd (t ∷ ts))
    go n (WholeShape shape) e = past_first (shape_over n rd) (stay (StaysGot shape n)) t ts (λ us. rw (e, shape_over) refl) (stay-uniform (StaysGot shape n) ts)
    go zero (StartsShape start) e = at_first (shape_over zero rd) StaysHigh t ts (λ us. rw (e, shape_over) refl)
    go (suc n) (StartsShape start) e = past_first (shape_over (suc n) rd) (shape_start_at rd n t.at start) t ts (λ us. rw (e, shape_over) refl) (shape_start_at-uniform rd u n t.at start ts)
    go n NoShape e = at_first (shape_over n rd) StaysWrong t ts (λ us. rw (e, shape_over) refl)

type_over-uniform : (room : ℕ) (rd : Readers) → AreUniform rd → Uniform (type_over room rd)
unfolding type_over
type_over-uniform room rd u ts = then-uniform (shape_over room rd) _ ts (shape_over-uniform room rd u ts) (λ shape s rest. made-uniform (set_at s) (CapturingType _ shape) rest (set_at-uniform s rest))

expr_rule_at-uniform : (rd : Readers) → AreUniform rd → (room : ℕ) (at : Place) (rule : ExprRule) → Uniform (expr_rule_at rd room at rule)
unfolding expr_rule_at
expr_rule_at-uniform rd u room at rule ts = made-uniform (pieces_at rd (expr_pieces rule) room) (expr_tree rule at) ts (pieces_at-uniform rd u (expr_pieces rule) room ts)

fun_at-uniform : (rd : Readers) → AreUniform rd → (room : ℕ) (at : Place) → Uniform (fun_at rd room at)
unfolding fun_at
fun_at-uniform rd u room at = by_first (begins_symbol symbols.Open) (begins_symbol-alike symbols.Open) _ _ (expr_rule_at-uniform rd u room at FunRule) (expr_rule_at-uniform rd u room at TypeFunRule)

expr_start_at-uniform : (rd : Readers) → AreUniform rd → (room : ℕ) (at : Place) (start : ExprStart) → Uniform (expr_start_at rd room at start)
unfolding expr_start_at
expr_start_at-uniform rd u room at FunStart = fun_at-uniform rd u room at
expr_start_at-uniform rd u room at (RuleStart rule) = expr_rule_at-uniform rd u room at rule

link_rule_at-uniform : (rd : Readers) → AreUniform rd → (spare : ℕ) (expr : ExprSyntax) (rule : LinkRule) → Uniform (link_rule_at rd spare expr rule)
unfolding link_rule_at
link_rule_at-uniform rd u spare expr rule ts = made-uniform (pieces_at rd (link_pieces rule) spare) (link_tree rule expr) ts (pieces_at-uniform rd u (link_pieces rule) spare ts)

operation_at-uniform : (rd : Readers) → AreUniform rd → (spare : ℕ) (expr : ExprSyntax) (operation : Op) → Uniform (operation_at rd spare expr operation)
unfolding operation_at
operation_at-uniform rd u spare expr operation = by_first (λ ts. takes_argument operation) (λ ts us a. refl) _ _ (link_rule_at-uniform rd u spare expr (TellRule operation)) (link_rule_at-uniform rd u spare expr (AskRule operation))

dot_at-uniform : (rd : Readers) → AreUniform rd → (spare : ℕ) (expr : ExprSyntax) → Uniform (dot_at rd spare expr)
unfolding dot_at
dot_at-uniform rd u spare expr [] = at_end (dot_at rd spare expr) StaysWrong refl
dot_at-uniform rd u spare expr (t ∷ ts) = go (operation_of t.lexeme) refl
  where
    go : (o : Option Op) → operation_of t.lexeme ≡ o → UniformAt (dot_at rd spare expr) (t ∷ ts) (dot_at rd spare expr (t ∷ ts))
    go (Some operation) e = past_first (dot_at rd spare expr) (operation_at rd spare expr operation) t ts (λ us. rw (e, dot_at) refl) (operation_at-uniform rd u spare expr operation ts)
    go None e = at_first (dot_at rd spare expr) StaysWrong t ts (λ us. rw (e, dot_at) refl)

link_at-uniform : (rd : Readers) → AreUniform rd → (spare : ℕ) (expr : ExprSyntax) (link : Link) → Uniform (link_at rd spare expr link)
unfolding link_at
link_at-uniform rd u spare expr (OperatorLink operator) = link_rule_at-uniform rd u spare expr (OperatorRule operator)
link_at-uniform rd u spare expr CallLink = link_rule_at-uniform rd u spare expr CallRule
link_at-uniform rd u spare expr TypeCallLink = link_rule_at-uniform rd u spare expr TypeCallRule
link_at-uniform rd u spare expr DotLink = dot_at-uniform rd u spare expr

links_at-uniform : (rd : Readers) → AreUniform rd → (least steps : ℕ) (expr : ExprSyntax) (spare : ℕ) → Uniform (links_at rd least steps expr spare)
unfolding links_at next_link
links_at-uniform rd u least zero expr spare [] = at_end (links_at rd least zero expr spare) (StaysGot expr spare) refl
links_at-uniform rd u least zero expr spare (t ∷ ts) = go (if_on least expr (link_of t.lexeme)) refl
  where
    go : (o : Option Link) → if_on least expr (link_of t.lexeme) ≡ o → UniformAt (links_at rd least zero expr spare) (t ∷ ts) (links_at rd least zero expr spare (t ∷ ts))
    go None e = at_first (links_at rd least zero expr spare) (StaysGot expr spare) t ts (λ us. rw (e, links_at) refl)
    go (Some link) e = at_first (links_at rd least zero expr spare) StaysHigh t ts (λ us. rw (e, links_at) refl)
links_at-uniform rd u least (suc steps) expr spare [] = at_end (links_at rd least (suc steps) expr spare) (StaysGot expr spare) refl
links_at-uniform rd u least (suc steps) expr spare (t ∷ ts) = go spare (if_on least expr (link_of t.lexeme)) refl (links_at-uniform rd u least steps)
  where
    go : (s : ℕ) (o : Option Link) → if_on least expr (link_of t.lexeme) ≡ o → ((e : ExprSyntax) (left : ℕ) → Uniform (links_at rd least steps e left)) → UniformAt (links_at rd least (suc steps) expr s) (t ∷ ts) (links_at rd least (suc steps) expr s (t ∷ ts))
    go s None e more = at_first (links_at rd least (suc steps) expr s) (StaysGot expr s) t ts (λ us. rw (e, links_at) refl)
    go zero (Some link) e more = at_first (links_at rd least (suc steps) expr zero) StaysHigh t ts (λ us. rw (e, links_at) refl)
    go (suc left) (Some link) e more = past_first (links_at rd least (suc steps) expr (suc left)) (λ us. link_at rd left expr link us >>= λ next less rest. links_at rd least steps next less rest) t ts (λ us. rw (e, links_at) refl) (then-uniform (link_at rd left expr link) (links_at rd least steps) ts (link_at-uniform rd u left expr link ts) more)

expr_over-uniform : (room : ℕ) (rd : Readers) → AreUniform rd → (least : ℕ) → Uniform (expr_over room rd least)
unfolding expr_over
expr_over-uniform room rd u least [] = at_end (expr_over room rd least) StaysWrong refl
expr_over-uniform room rd u least (t ∷ ts) = go room (expr_head t.at t.lexeme) refl
  where
    starts : (n : ℕ) (start : ExprStart) (b : Bool) → expr_head t.at t.lexeme ≡ StartsExpr start → nat_le least (start_level start) ≡ b → UniformAt (expr_over n rd least) (t ∷ ts) (expr_over n rd least (t ∷ ts))
    starts n start false e f = at_first (expr_over n rd least) StaysWrong t ts (λ us. rw (e, f, expr_over) refl)
    starts zero start true e f = at_first (expr_over zero rd least) StaysHigh t ts (λ us. rw (e, f, expr_over) refl)
    starts (suc n) start true e f = past_first (expr_over (suc n) rd least) (λ us. expr_start_at rd n t.at start us >>= λ expr spare rest. links_at rd least spare expr spare rest) t ts (λ us. rw (e, f, expr_over) refl) (then-uniform (expr_start_at rd n t.at start) (λ expr spare rest. links_at rd least spare expr spare rest) ts (expr_start_at-uniform rd u n t.at start ts) (λ expr spare. links_at-uniform rd u least spare expr spare))

    go : (n : ℕ) (head : ExprHead) → expr_head t.at t.lexeme ≡ head → UniformAt (expr_over n rd least) (t ∷ ts) (expr_over n rd least (t ∷ ts))
    go n (WholeExpr expr) e = past_first (expr_over n rd least) (links_at rd least n expr n) t ts (λ us. rw (e, expr_over) refl) (links_at-uniform rd u least n expr n ts)
    go n (StartsExpr start) e = starts n start (nat_le least (start_level start)) e refl
    go n NoExpr e = at_first (expr_over n rd least) StaysWrong t ts (λ us. rw (e, expr_over) refl)

part_over-uniform : (room : ℕ) (rd : Readers) → AreUniform rd → AreUniform (part_over room rd)
part_over-uniform room rd u ShapePart = shape_over-uniform room rd u
part_over-uniform room rd u TypePart = type_over-uniform room rd u
part_over-uniform room rd u (ExprPart least) = expr_over-uniform room rd u least

pub part_at-uniform : (room : ℕ) → AreUniform (part_at room)
unfolding part_at
part_at-uniform zero = part_over-uniform zero nothing_at (λ kind. stay-uniform StaysHigh)
part_at-uniform (suc room) = part_over-uniform (suc room) (part_at room) (part_at-uniform room)

pub import_at-uniform : Uniform import_at
unfolding import_at
import_at-uniform ts = made-uniform (pieces_at (part_at top_room) import_pieces top_room) import_tree ts (pieces_at-uniform (part_at top_room) (part_at-uniform top_room) import_pieces top_room ts)

pub imports_at-uniform : (steps : ℕ) → Uniform (imports_at steps)
unfolding imports_at
imports_at-uniform zero [] = at_end (imports_at zero) (StaysGot [] top_room) refl
imports_at-uniform zero (t ∷ ts) = at_first (imports_at zero) (StaysGot [] top_room) t ts (λ us. refl)
imports_at-uniform (suc steps) [] = at_end (imports_at (suc steps)) (StaysGot [] top_room) refl
imports_at-uniform (suc steps) (t ∷ ts) = go (is_word words.Import t.lexeme) refl (imports_at-uniform steps)
  where
    go : (b : Bool) → is_word words.Import t.lexeme ≡ b → Uniform (imports_at steps) → UniformAt (imports_at (suc steps)) (t ∷ ts) (imports_at (suc steps) (t ∷ ts))
    go true e more = past_first (imports_at (suc steps)) (λ us. import_at us >>= λ first spare rest. imports_at steps rest >>= λ more left behind. Got (first ∷ more) left behind) t ts (λ us. rw e refl) (then-uniform import_at (λ first spare rest. imports_at steps rest >>= λ more left behind. Got (first ∷ more) left behind) ts (import_at-uniform ts) (λ first spare rest. made-uniform (imports_at steps) (λ more. first ∷ more) rest (more rest)))
    go false e more = at_first (imports_at (suc steps)) (StaysGot [] top_room) t ts (λ us. rw e refl)

def_rule_at-uniform : (rule : DefRule) → Uniform (def_rule_at rule)
unfolding def_rule_at
def_rule_at-uniform rule ts = made-uniform (pieces_at (part_at top_room) (def_pieces rule) top_room) (def_tree rule) ts (pieces_at-uniform (part_at top_room) (part_at-uniform top_room) (def_pieces rule) top_room ts)

pub def_at-uniform : Uniform def_at
unfolding def_at
def_at-uniform = by_first (begins_word words.Rec) (begins_word-alike words.Rec) _ _ (def_rule_at-uniform OwnRule) (def_rule_at-uniform PlainRule)

pub defs_at-uniform : (steps : ℕ) → Uniform (defs_at steps)
unfolding defs_at
defs_at-uniform zero [] = at_end (defs_at zero) (StaysGot [] top_room) refl
defs_at-uniform zero (t ∷ ts) = at_first (defs_at zero) StaysWrong t ts (λ us. refl)
defs_at-uniform (suc steps) [] = at_end (defs_at (suc steps)) (StaysGot [] top_room) refl
defs_at-uniform (suc steps) (t ∷ ts) = go (is_word words.Def t.lexeme) refl (defs_at-uniform steps)
  where
    go : (b : Bool) → is_word words.Def t.lexeme ≡ b → Uniform (defs_at steps) → UniformAt (defs_at (suc steps)) (t ∷ ts) (defs_at (suc steps) (t ∷ ts))
    go true e more = past_first (defs_at (suc steps)) (λ us. def_at us >>= λ first spare rest. defs_at steps rest >>= λ more left behind. Got (first ∷ more) left behind) t ts (λ us. rw e refl) (then-uniform def_at (λ first spare rest. defs_at steps rest >>= λ more left behind. Got (first ∷ more) left behind) ts (def_at-uniform ts) (λ first spare rest. made-uniform (defs_at steps) (λ more. first ∷ more) rest (more rest)))
    go false e more = at_first (defs_at (suc steps)) StaysWrong t ts (λ us. rw e refl)
