-- Tokens that are alike to every reader: names that name the same operation or none, numbers, texts, and the same word or
-- symbol, wherever they stand.
use Rattle.std.proofs.Common.{◌≡◌, ℕ, suc, ℤ, List, [], ◌∷◌, ◌++◌, length, Option, Some, None, refl, ap}
use Rattle.cc_base.specs.declared.place.Place.{Place}
use Rattle.cc_lex.specs.declared.token.Word.{Word}
use Rattle.cc_lex.specs.declared.token.Word.TheVariants as words
use Rattle.cc_lex.specs.declared.token.Symbol.{Symbol}
use Rattle.cc_lex.specs.declared.token.Symbol.TheVariants as symbols
use Rattle.cc_lex.specs.Lexemes.{Lexeme, NameLexeme, NumberLexeme, TextLexeme, WordLexeme, SymbolLexeme, PlacedLexeme}
use Rattle.cc_grammar.specs.Syntax.{ShapeSyntax, ExprSyntax}
use Rattle.cc_grammar.specs.Grammar.{level}
use Rattle.cc_grammar.specs.Tests.{is_word, is_symbol, begins_symbol, begins_word, name_of, operation_named, operation_of}
use Rattle.cc_grammar.specs.Reading.{SetState, AtFirst, AtNext, Behind, SetStep, Ends, Takes, Separates, Misfits, set_step, caret_step, ShapeStart, ShapeHead, WholeShape, StartsShape, NoShape, shape_head, ExprStart, ExprHead, WholeExpr, StartsExpr, NoExpr, expr_head, link_of, behind_first}

pub data IsLike : Lexeme → Lexeme → Type 0 where
  like_name : (x y : List ℕ) → operation_named x ≡ operation_named y → IsLike (NameLexeme x) (NameLexeme y)
  like_number : (a b : ℤ) → IsLike (NumberLexeme a) (NumberLexeme b)
  like_text : (a b : List ℕ) → IsLike (TextLexeme a) (TextLexeme b)
  like_word : (w : Word) → IsLike (WordLexeme w) (WordLexeme w)
  like_symbol : (w : Symbol) → IsLike (SymbolLexeme w) (SymbolLexeme w)

-- as many tokens, each like the other
pub data AreLike : List PlacedLexeme → List PlacedLexeme → Type 0 where
  like_end : AreLike [] []
  like_more : (t u : PlacedLexeme) (ts us : List PlacedLexeme) → IsLike t.lexeme u.lexeme → AreLike ts us
      → AreLike (t ∷ ts) (u ∷ us)

-- each is like itself
pub same_lexeme : (l : Lexeme) → IsLike l l
same_lexeme (NameLexeme x) = like_name x x refl
same_lexeme (NumberLexeme a) = like_number a a
same_lexeme (TextLexeme a) = like_text a a
same_lexeme (WordLexeme w) = like_word w
same_lexeme (SymbolLexeme w) = like_symbol w

pub front-like : (front : List PlacedLexeme) {ts us : List PlacedLexeme} → AreLike ts us → AreLike (front ++ ts) (front ++ us)
front-like [] h = h
front-like (t ∷ front) h = like_more t t _ _ (same_lexeme t.lexeme) (front-like front h)

pub length-like : {ts us : List PlacedLexeme} → AreLike ts us → length ts ≡ length us
length-like like_end = refl
length-like (like_more t u ts us l h) = ap (λ n. suc n) (length-like h)

pub behind_first-like : {ts us : List PlacedLexeme} → AreLike ts us → AreLike (behind_first ts) (behind_first us)
behind_first-like like_end = like_end
behind_first-like (like_more t u ts us l h) = h

-- TESTS

pub is_word-like : (w : Word) {l m : Lexeme} → IsLike l m → is_word w l ≡ is_word w m
is_word-like w (like_name x y e) = refl
is_word-like w (like_number a b) = refl
is_word-like w (like_text a b) = refl
is_word-like w (like_word v) = refl
is_word-like w (like_symbol v) = refl

pub is_symbol-like : (w : Symbol) {l m : Lexeme} → IsLike l m → is_symbol w l ≡ is_symbol w m
is_symbol-like w (like_name x y e) = refl
is_symbol-like w (like_number a b) = refl
is_symbol-like w (like_text a b) = refl
is_symbol-like w (like_word v) = refl
is_symbol-like w (like_symbol v) = refl

pub begins_symbol-like : (w : Symbol) {ts us : List PlacedLexeme} → AreLike ts us → begins_symbol w ts ≡ begins_symbol w us
begins_symbol-like w like_end = refl
begins_symbol-like w (like_more t u ts us l h) = is_symbol-like w l

pub begins_word-like : (w : Word) {ts us : List PlacedLexeme} → AreLike ts us → begins_word w ts ≡ begins_word w us
begins_word-like w like_end = refl
begins_word-like w (like_more t u ts us l h) = is_word-like w l

pub operation_of-like : {l m : Lexeme} → IsLike l m → operation_of l ≡ operation_of m
operation_of-like (like_name x y e) = e
operation_of-like (like_number a b) = refl
operation_of-like (like_text a b) = refl
operation_of-like (like_word v) = refl
operation_of-like (like_symbol v) = refl

pub caret_step-like : {l m : Lexeme} → IsLike l m → caret_step l ≡ caret_step m
caret_step-like (like_name x y e) = refl
caret_step-like (like_number a b) = refl
caret_step-like (like_text a b) = refl
caret_step-like (like_word v) = refl
caret_step-like (like_symbol v) = refl

pub link_of-like : {l m : Lexeme} → IsLike l m → link_of l ≡ link_of m
link_of-like (like_name x y e) = refl
link_of-like (like_number a b) = refl
link_of-like (like_text a b) = refl
link_of-like (like_word v) = refl
link_of-like (like_symbol v) = refl

-- none of the two, or both
pub data Both {A : Type 0} : Option A → Option A → Type 0 where
  neither : Both None None
  both : (a b : A) → Both (Some a) (Some b)

pub name_of-like : {l m : Lexeme} → IsLike l m → Both (name_of l) (name_of m)
name_of-like (like_name x y e) = both x y
name_of-like (like_number a b) = neither
name_of-like (like_text a b) = neither
name_of-like (like_word v) = neither
name_of-like (like_symbol v) = neither

-- the same step, whatever the element
pub data LikeStep : SetStep → SetStep → Type 0 where
  like_ends : LikeStep Ends Ends
  like_takes : (a b : Option (List ℕ)) → LikeStep (Takes a) (Takes b)
  like_separates : LikeStep Separates Separates
  like_misfits : LikeStep Misfits Misfits

same_step : (x : SetStep) → LikeStep x x
same_step Ends = like_ends
same_step (Takes a) = like_takes a a
same_step Separates = like_separates
same_step Misfits = like_misfits

name_step : (state : SetState) (x y : List ℕ) → LikeStep (set_step state (NameLexeme x)) (set_step state (NameLexeme y))
name_step AtFirst x y = like_takes (Some x) (Some y)
name_step AtNext x y = like_takes (Some x) (Some y)
name_step Behind x y = like_misfits

number_step : (state : SetState) (a b : ℤ) → LikeStep (set_step state (NumberLexeme a)) (set_step state (NumberLexeme b))
number_step AtFirst a b = like_misfits
number_step AtNext a b = like_misfits
number_step Behind a b = like_misfits

text_step : (state : SetState) (a b : List ℕ) → LikeStep (set_step state (TextLexeme a)) (set_step state (TextLexeme b))
text_step AtFirst a b = like_misfits
text_step AtNext a b = like_misfits
text_step Behind a b = like_misfits

pub set_step-like : (state : SetState) {l m : Lexeme} → IsLike l m → LikeStep (set_step state l) (set_step state m)
set_step-like state (like_name x y e) = name_step state x y
set_step-like state (like_number a b) = number_step state a b
set_step-like state (like_text a b) = text_step state a b
set_step-like state (like_word v) = same_step (set_step state (WordLexeme v))
set_step-like state (like_symbol v) = same_step (set_step state (SymbolLexeme v))

-- both all of a shape, or the same start of one, or neither of one
pub data LikeShape : ShapeHead → ShapeHead → Type 0 where
  like_shape : (a b : ShapeSyntax) → LikeShape (WholeShape a) (WholeShape b)
  like_start : (start : ShapeStart) → LikeShape (StartsShape start) (StartsShape start)
  like_none : LikeShape NoShape NoShape

word_shape : (at bt : Place) (w : Word) → LikeShape (shape_head at (WordLexeme w)) (shape_head bt (WordLexeme w))
word_shape at bt words.UnitType = like_shape _ _
word_shape at bt words.BoolType = like_shape _ _
word_shape at bt words.IntType = like_shape _ _
word_shape at bt words.StrType = like_shape _ _
word_shape at bt words.ConsoleType = like_shape _ _
word_shape at bt words.FileType = like_shape _ _
word_shape at bt words.CounterType = like_shape _ _
word_shape at bt words.AnyType = like_shape _ _
word_shape at bt words.ExitType = like_start _
word_shape at bt words.BoxType = like_start _
word_shape at bt _ = like_none

symbol_shape : (at bt : Place) (w : Symbol) → LikeShape (shape_head at (SymbolLexeme w)) (shape_head bt (SymbolLexeme w))
symbol_shape at bt symbols.Open = like_start _
symbol_shape at bt symbols.OpenBracket = like_start _
symbol_shape at bt _ = like_none

pub shape_head-like : (at bt : Place) {l m : Lexeme} → IsLike l m → LikeShape (shape_head at l) (shape_head bt m)
shape_head-like at bt (like_name x y e) = like_shape _ _
shape_head-like at bt (like_number a b) = like_none
shape_head-like at bt (like_text a b) = like_none
shape_head-like at bt (like_word w) = word_shape at bt w
shape_head-like at bt (like_symbol w) = symbol_shape at bt w

-- both all of an expression that is as tight, or the same start of one, or neither of one
pub data LikeExpr : ExprHead → ExprHead → Type 0 where
  like_expr : (a b : ExprSyntax) → level a ≡ level b → LikeExpr (WholeExpr a) (WholeExpr b)
  like_begin : (start : ExprStart) → LikeExpr (StartsExpr start) (StartsExpr start)
  like_no : LikeExpr NoExpr NoExpr

word_expr : (at bt : Place) (w : Word) → LikeExpr (expr_head at (WordLexeme w)) (expr_head bt (WordLexeme w))
word_expr at bt words.True = like_expr _ _ refl
word_expr at bt words.False = like_expr _ _ refl
word_expr at bt words.Unit = like_expr _ _ refl
word_expr at bt words.Val = like_begin _
word_expr at bt words.Fun = like_begin _
word_expr at bt words.If = like_begin _
word_expr at bt words.Boundary = like_begin _
word_expr at bt words.Box = like_begin _
word_expr at bt words.Unbox = like_begin _
word_expr at bt words.Exit = like_begin _
word_expr at bt words.Repeat = like_begin _
word_expr at bt _ = like_no

symbol_expr : (at bt : Place) (w : Symbol) → LikeExpr (expr_head at (SymbolLexeme w)) (expr_head bt (SymbolLexeme w))
symbol_expr at bt symbols.Open = like_begin _
symbol_expr at bt _ = like_no

pub expr_head-like : (at bt : Place) {l m : Lexeme} → IsLike l m → LikeExpr (expr_head at l) (expr_head bt m)
expr_head-like at bt (like_name x y e) = like_expr _ _ refl
expr_head-like at bt (like_number a b) = like_expr _ _ refl
expr_head-like at bt (like_text a b) = like_expr _ _ refl
expr_head-like at bt (like_word w) = word_expr at bt w
expr_head-like at bt (like_symbol w) = symbol_expr at bt w
