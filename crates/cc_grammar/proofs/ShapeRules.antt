-- What the rules of shapes make of their pieces.
use Rattle.std.proofs.Common.{◌≡◌, ◌+◌, ◌≤◌, max, List, [], ◌∷◌, ◌++◌, refl, subst, arith}
use Rattle.std.proofs.lemmas.List.{append-nil}
use Rattle.cc_base.specs.declared.place.Place.{Place}
use Rattle.cc_lex.specs.declared.token.Word.TheVariants as words
use Rattle.cc_lex.specs.declared.token.Symbol.TheVariants as symbols
use Rattle.cc_lex.specs.Lexemes.{Lexeme, NameLexeme, NumberLexeme, TextLexeme, WordLexeme, SymbolLexeme, PlacedLexeme}
use Rattle.cc_grammar.specs.Syntax.{TypeSyntax, CapturingType, ShapeSyntax, BaseShape, AnyShape, NamedShape, ExitShape, BoxShape, ParenthesizedShape, FunctionShape, TypeFunctionShape, shape_height, type_height}
use Rattle.cc_grammar.specs.Grammar.{Terminal, word, symbol, named, standing_at, Spell, shape_terminals, IsShape}
use Rattle.cc_grammar.specs.Reading.{Parts, ShapeRule, ExitShapeRule, BoxShapeRule, InnerRule, NamedInnerRule, FunctionShapeRule, TypeFunctionShapeRule, shape_pieces, shape_tree, ShapeStart, ExitStart, BoxStart, ParenStart, TypeFunctionStart, WholeShape, StartsShape, shape_head, shape_place}
use Rattle.cc_grammar.proofs.Spelling.{First, first-standing}
use Rattle.cc_grammar.proofs.PieceLanguages.{parts_terminals, parts_height, AreParts, AreFair}

pub shape-positive : (s : ShapeSyntax) → 1 ≤ shape_height s
shape-positive (BaseShape at base) = omega arith
shape-positive (AnyShape at) = omega arith
shape-positive (NamedShape at name) = omega arith
shape-positive (ExitShape at gives) = omega arith
shape-positive (BoxShape at content) = omega arith
shape-positive (ParenthesizedShape at inner) = omega arith
shape-positive (FunctionShape at parameter takes gives) = omega arith
shape-positive (TypeFunctionShape at parameter bound gives) = omega arith

pub type-positive : (t : TypeSyntax) → 1 ≤ type_height t
type-positive (CapturingType at shape set) = shape-positive shape

-- what stands before the pieces
abbrev pub shape_front : ShapeRule → List Terminal
shape_front ExitShapeRule = word words.ExitType ∷ []
shape_front BoxShapeRule = word words.BoxType ∷ []
shape_front InnerRule = symbol symbols.Open ∷ []
shape_front (NamedInnerRule at name) = symbol symbols.Open ∷ standing_at at (named name ∷ [])
shape_front (FunctionShapeRule parameter) = symbol symbols.Open ∷ named parameter ∷ []
shape_front TypeFunctionShapeRule = symbol symbols.OpenBracket ∷ []

pub shape-terminals : (rule : ShapeRule) (at : Place) (p : Parts (shape_pieces rule)) → shape_terminals (shape_tree rule at p) ≡ standing_at at (shape_front rule) ++ parts_terminals (shape_pieces rule) p
shape-terminals ExitShapeRule at (opening, (gives, (close, end))) = refl
shape-terminals BoxShapeRule at (opening, (content, (close, end))) = refl
shape-terminals InnerRule at (inner, (close, end)) = refl
shape-terminals (NamedInnerRule place name) at (close, end) = refl
shape-terminals (FunctionShapeRule parameter) at (colon, (takes, (close, (arrow, (gives, end))))) = rw append-nil refl
shape-terminals TypeFunctionShapeRule at (parameter, (below, (bound, (close, (arrow, (gives, end)))))) = rw append-nil refl

pub shape-height : (rule : ShapeRule) (at : Place) (p : Parts (shape_pieces rule)) → shape_height (shape_tree rule at p) ≡ 1 + max 1 (parts_height (shape_pieces rule) p)
shape-height ExitShapeRule at (opening, (gives, (close, end))) = omega (arith, shape-positive gives)
shape-height BoxShapeRule at (opening, (content, (close, end))) = omega (arith, type-positive content)
shape-height InnerRule at (inner, (close, end)) = omega (arith, shape-positive inner)
shape-height (NamedInnerRule place name) at (close, end) = omega arith
shape-height (FunctionShapeRule parameter) at (colon, (takes, (close, (arrow, (gives, end))))) = omega (arith, type-positive takes, type-positive gives)
shape-height TypeFunctionShapeRule at (parameter, (below, (bound, (close, (arrow, (gives, end)))))) = omega (arith, shape-positive bound, type-positive gives)

pub shape-made : (rule : ShapeRule) (at : Place) (p : Parts (shape_pieces rule)) → AreParts (shape_pieces rule) p → IsShape (shape_tree rule at p)
shape-made ExitShapeRule at (opening, (gives, (close, end))) (a, (b, c)) = b
shape-made BoxShapeRule at (opening, (content, (close, end))) (a, (b, c)) = b
shape-made InnerRule at (inner, (close, end)) (a, b) = a
shape-made (NamedInnerRule place name) at (close, end) a = tt
shape-made (FunctionShapeRule parameter) at (colon, (takes, (close, (arrow, (gives, end))))) (a, (b, (c, (d, (e, f))))) = (b, e)
shape-made TypeFunctionShapeRule at (parameter, (below, (bound, (close, (arrow, (gives, end)))))) (a, (b, (c, (d, (e, (f, g)))))) = (c, f)

pub shape-fair : (rule : ShapeRule) → AreFair (shape_pieces rule)
shape-fair ExitShapeRule = (tt, (tt, (tt, tt)))
shape-fair BoxShapeRule = (tt, (tt, (tt, tt)))
shape-fair InnerRule = (tt, (tt, tt))
shape-fair (NamedInnerRule place name) = (tt, tt)
shape-fair (FunctionShapeRule parameter) = (tt, (tt, (tt, (tt, (tt, tt)))))
shape-fair TypeFunctionShapeRule = (tt, (tt, (tt, (tt, (tt, (tt, tt))))))

-- the place of a shape is that of its first token
pub shape-first : (s : ShapeSyntax) (ts : List PlacedLexeme) → Spell ts (shape_terminals s) → First (shape_place s) ts
shape-first (BaseShape at base) ts h = first-standing at [] _ _ ts h
shape-first (AnyShape at) ts h = first-standing at [] _ _ ts h
shape-first (NamedShape at name) ts h = first-standing at [] _ _ ts h
shape-first (ExitShape at gives) ts h = first-standing at [] _ _ ts h
shape-first (BoxShape at content) ts h = first-standing at [] _ _ ts h
shape-first (ParenthesizedShape at inner) ts h = first-standing at [] _ _ ts h
shape-first (FunctionShape at parameter takes gives) ts h = first-standing at [] _ _ ts h
shape-first (TypeFunctionShape at parameter bound gives) ts h = first-standing at [] _ _ ts h

-- a shape of one token
pub record WholeAt (at : Place) (l : Lexeme) (s : ShapeSyntax) : Type 0 where
  pub is : IsShape s
  pub spelled : Spell (record { lexeme = l; at = at } ∷ []) (shape_terminals s)
  pub height : shape_height s ≡ 1

whole-from : (at : Place) (l : Lexeme) (r s : ShapeSyntax) → WholeAt at l r → WholeShape r ≡ WholeShape s → WholeAt at l s
whole-from at l r s w e = let h : r ≡ s = cc in subst (WholeAt at l) h w

pub shape-whole : (at : Place) (l : Lexeme) (s : ShapeSyntax) → shape_head at l ≡ WholeShape s → WholeAt at l s
shape-whole at (NameLexeme x) s e = whole-from at _ _ s (record { is = tt; spelled = (refl, (refl, tt), tt); height = refl }) e
shape-whole at (NumberLexeme x) s e = cc
shape-whole at (TextLexeme x) s e = cc
shape-whole at (WordLexeme words.UnitType) s e = whole-from at _ _ s (record { is = tt; spelled = (refl, (refl, tt), tt); height = refl }) e
shape-whole at (WordLexeme words.BoolType) s e = whole-from at _ _ s (record { is = tt; spelled = (refl, (refl, tt), tt); height = refl }) e
shape-whole at (WordLexeme words.IntType) s e = whole-from at _ _ s (record { is = tt; spelled = (refl, (refl, tt), tt); height = refl }) e
shape-whole at (WordLexeme words.StrType) s e = whole-from at _ _ s (record { is = tt; spelled = (refl, (refl, tt), tt); height = refl }) e
shape-whole at (WordLexeme words.ConsoleType) s e = whole-from at _ _ s (record { is = tt; spelled = (refl, (refl, tt), tt); height = refl }) e
shape-whole at (WordLexeme words.FileType) s e = whole-from at _ _ s (record { is = tt; spelled = (refl, (refl, tt), tt); height = refl }) e
shape-whole at (WordLexeme words.CounterType) s e = whole-from at _ _ s (record { is = tt; spelled = (refl, (refl, tt), tt); height = refl }) e
shape-whole at (WordLexeme words.AnyType) s e = whole-from at _ _ s (record { is = tt; spelled = (refl, (refl, tt), tt); height = refl }) e
shape-whole at (WordLexeme words.ExitType) s e = cc
shape-whole at (WordLexeme words.BoxType) s e = cc
shape-whole at (WordLexeme _) s e = cc
shape-whole at (SymbolLexeme symbols.Open) s e = cc
shape-whole at (SymbolLexeme symbols.OpenBracket) s e = cc
shape-whole at (SymbolLexeme _) s e = cc

-- the token with which it starts
abbrev pub shape_start : ShapeStart → Lexeme
shape_start ExitStart = WordLexeme words.ExitType
shape_start BoxStart = WordLexeme words.BoxType
shape_start ParenStart = SymbolLexeme symbols.Open
shape_start TypeFunctionStart = SymbolLexeme symbols.OpenBracket

start-from : (l : Lexeme) (r s : ShapeStart) → l ≡ shape_start r → StartsShape r ≡ StartsShape s → l ≡ shape_start s
start-from l r s w e = let h : r ≡ s = cc in subst (λ x. l ≡ shape_start x) h w

pub shape-starts : (at : Place) (l : Lexeme) (s : ShapeStart) → shape_head at l ≡ StartsShape s → l ≡ shape_start s
shape-starts at (NameLexeme x) s e = cc
shape-starts at (NumberLexeme x) s e = cc
shape-starts at (TextLexeme x) s e = cc
shape-starts at (WordLexeme words.UnitType) s e = cc
shape-starts at (WordLexeme words.BoolType) s e = cc
shape-starts at (WordLexeme words.IntType) s e = cc
shape-starts at (WordLexeme words.StrType) s e = cc
shape-starts at (WordLexeme words.ConsoleType) s e = cc
shape-starts at (WordLexeme words.FileType) s e = cc
shape-starts at (WordLexeme words.CounterType) s e = cc
shape-starts at (WordLexeme words.AnyType) s e = cc
shape-starts at (WordLexeme words.ExitType) s e = start-from _ ExitStart s refl e
shape-starts at (WordLexeme words.BoxType) s e = start-from _ BoxStart s refl e
shape-starts at (WordLexeme _) s e = cc
shape-starts at (SymbolLexeme symbols.Open) s e = start-from _ ParenStart s refl e
shape-starts at (SymbolLexeme symbols.OpenBracket) s e = start-from _ TypeFunctionStart s refl e
shape-starts at (SymbolLexeme _) s e = cc
