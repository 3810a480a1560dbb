-- The languages of the pieces of productions, and that each of them has a value of height at most 1.
use Rattle.std.proofs.Common.{ℕ, ◌≤◌, max, List, [], ◌∷◌, ◌++◌, codes, None, refl, arith}
use Rattle.std.specs.Prelude.{⊤}
use Rattle.cc_base.specs.declared.place.Place.{Place}
use Rattle.cc_lex.specs.Lexemes.{Lexeme, NameLexeme, WordLexeme, SymbolLexeme, PlacedLexeme}
use Rattle.cc_grammar.specs.Syntax.{AbsentSet, CapturingType, NamedShape, NameExpr, shape_height, type_height, expr_height, written_height}
use Rattle.cc_grammar.specs.Grammar.{Terminal, word, symbol, named, standing_at, Spell, captures_terminals, written_terminals, shape_terminals, type_terminals, expr_terminals, IsShape, IsType, IsExpr, IsWritten, level}
use Rattle.cc_grammar.specs.Reading.{Kind, ShapePart, TypePart, ExprPart, Value, Piece, AWord, ASymbol, AName, APlacedName, Captures, Written, Part, PieceValue, Parts}
use Rattle.cc_grammar.proofs.Spelling.{spell-append}
use Rattle.cc_grammar.proofs.Sure.{Language, Filler}

-- PARTS

abbrev pub kind_terminals : (kind : Kind) → Value kind → List Terminal
kind_terminals ShapePart v = shape_terminals v
kind_terminals TypePart v = type_terminals v
kind_terminals (ExprPart least) v = expr_terminals v

abbrev pub kind_height : (kind : Kind) → Value kind → ℕ
kind_height ShapePart v = shape_height v
kind_height TypePart v = type_height v
kind_height (ExprPart least) v = expr_height v

abbrev pub IsKind : (kind : Kind) → Value kind → Type 0
IsKind ShapePart v = IsShape v
IsKind TypePart v = IsType v
IsKind (ExprPart least) v = IsExpr v × (least ≤ level v)

abbrev pub kind_language : (kind : Kind) → Language (Value kind)
kind_language kind = record { spells = λ v ts. IsKind kind v × Spell ts (kind_terminals kind v); height = kind_height kind }

-- a part may be a name
abbrev pub IsFair : Kind → Type 0
IsFair ShapePart = ⊤
IsFair TypePart = ⊤
IsFair (ExprPart least) = least ≤ 5

-- PIECES

abbrev pub piece_terminals : (piece : Piece) → PieceValue piece → List Terminal
piece_terminals (AWord w) v = word w ∷ []
piece_terminals (ASymbol w) v = symbol w ∷ []
piece_terminals AName v = named v ∷ []
piece_terminals APlacedName v = standing_at v.0 (named v.1 ∷ [])
piece_terminals Captures v = captures_terminals v
piece_terminals Written v = written_terminals v
piece_terminals (Part kind) v = kind_terminals kind v

abbrev pub piece_height : (piece : Piece) → PieceValue piece → ℕ
piece_height (AWord w) v = 0
piece_height (ASymbol w) v = 0
piece_height AName v = 0
piece_height APlacedName v = 0
piece_height Captures v = 0
piece_height Written v = written_height v
piece_height (Part kind) v = kind_height kind v

abbrev pub IsPiece : (piece : Piece) → PieceValue piece → Type 0
IsPiece (AWord w) v = ⊤
IsPiece (ASymbol w) v = ⊤
IsPiece AName v = ⊤
IsPiece APlacedName v = ⊤
IsPiece Captures v = ⊤
IsPiece Written v = IsWritten v
IsPiece (Part kind) v = IsKind kind v

abbrev pub piece_language : (piece : Piece) → Language (PieceValue piece)
piece_language piece = record { spells = λ v ts. IsPiece piece v × Spell ts (piece_terminals piece v); height = piece_height piece }

abbrev pub IsFairPiece : Piece → Type 0
IsFairPiece (AWord w) = ⊤
IsFairPiece (ASymbol w) = ⊤
IsFairPiece AName = ⊤
IsFairPiece APlacedName = ⊤
IsFairPiece Captures = ⊤
IsFairPiece Written = ⊤
IsFairPiece (Part kind) = IsFair kind

abbrev pub parts_terminals : (pieces : List Piece) → Parts pieces → List Terminal
parts_terminals [] v = []
parts_terminals (piece ∷ pieces) v = piece_terminals piece v.0 ++ parts_terminals pieces v.1

abbrev pub parts_height : (pieces : List Piece) → Parts pieces → ℕ
parts_height [] v = 0
parts_height (piece ∷ pieces) v = max (piece_height piece v.0) (parts_height pieces v.1)

abbrev pub AreParts : (pieces : List Piece) → Parts pieces → Type 0
AreParts [] v = ⊤
AreParts (piece ∷ pieces) v = IsPiece piece v.0 × AreParts pieces v.1

abbrev pub parts_language : (pieces : List Piece) → Language (Parts pieces)
parts_language pieces = record { spells = λ v ts. AreParts pieces v × Spell ts (parts_terminals pieces v); height = parts_height pieces }

abbrev pub AreFair : List Piece → Type 0
AreFair [] = ⊤
AreFair (piece ∷ pieces) = IsFairPiece piece × AreFair pieces

-- FILLERS

abbrev pub anywhere : Place
anywhere = record { line = 1; col = 1 }

abbrev pub any_name : List ℕ
any_name = codes "a"

abbrev pub some_token : Lexeme → List PlacedLexeme
some_token lexeme = record { lexeme = lexeme; at = anywhere } ∷ []

pub kind-filler : (kind : Kind) → IsFair kind → Filler (kind_language kind)
kind-filler ShapePart fair = record {
  value = NamedShape anywhere any_name;
  tokens = some_token (NameLexeme any_name);
  spelled = (tt, (refl, (refl, tt), tt));
  low = omega arith;
}
kind-filler TypePart fair = record {
  value = CapturingType anywhere (NamedShape anywhere any_name) AbsentSet;
  tokens = some_token (NameLexeme any_name);
  spelled = ((tt, tt), (refl, (refl, (refl, tt)), tt));
  low = omega arith;
}
kind-filler (ExprPart least) fair = record {
  value = NameExpr anywhere any_name;
  tokens = some_token (NameLexeme any_name);
  spelled = ((tt, fair), (refl, (refl, tt), tt));
  low = omega arith;
}

pub piece-filler : (piece : Piece) → IsFairPiece piece → Filler (piece_language piece)
piece-filler (AWord w) fair = record { value = tt; tokens = some_token (WordLexeme w); spelled = (tt, (refl, tt, tt)); low = omega arith }
piece-filler (ASymbol w) fair = record { value = tt; tokens = some_token (SymbolLexeme w); spelled = (tt, (refl, tt, tt)); low = omega arith }
piece-filler AName fair = record { value = any_name; tokens = some_token (NameLexeme any_name); spelled = (tt, (refl, tt, tt)); low = omega arith }
piece-filler APlacedName fair = record { value = (anywhere, any_name); tokens = some_token (NameLexeme any_name); spelled = (tt, (refl, (refl, tt), tt)); low = omega arith }
piece-filler Captures fair = record { value = None; tokens = []; spelled = (tt, tt); low = omega arith }
piece-filler Written fair = record { value = None; tokens = []; spelled = (tt, tt); low = omega arith }
piece-filler (Part kind) fair = let f = kind-filler kind fair in record { value = f.value; tokens = f.tokens; spelled = f.spelled; low = f.low }

pub parts-filler : (pieces : List Piece) → AreFair pieces → Filler (parts_language pieces)
parts-filler [] fair = record { value = tt; tokens = []; spelled = (tt, tt); low = omega arith }
parts-filler (piece ∷ pieces) (fair, more) =
    let f = piece-filler piece fair in
    let g = parts-filler pieces more in
    let low : piece_height piece f.value ≤ 1 = f.low in
    let lower : parts_height pieces g.value ≤ 1 = g.low in
    record { value = (f.value, g.value); tokens = f.tokens ++ g.tokens; spelled = ((f.spelled.0, g.spelled.0), spell-append f.tokens g.tokens _ _ f.spelled.1 g.spelled.1); low = omega arith }
