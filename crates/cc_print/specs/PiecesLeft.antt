-- What is left where the text of a type is written piece by piece. It serves the code alone.
use Rattle.std.specs.Prelude.{◌≡◌, ℕ, suc, ◌+◌, ◌<◌, List, [], ◌∷◌, ◌++◌, map, reverse}
use Rattle.std.specs.List.{flat_map}
use Rattle.cc_capture.specs.Sets.{Set}
use Rattle.cc_core.specs.Shapes.{Shape, BaseShape, AnyShape, TypeVariable, FunctionShape, TypeFunctionShape, BoxShape}
use Rattle.cc_core.specs.Shapes.{ExitShape}
use Rattle.cc_core.specs.TermViews.{shape_of}
use Rattle.cc_print.specs.TypeTexts.{shape_under, type_under, set_under}
use Rattle.cc_print.specs.declared.pieces.Piece.{Piece as DeclaredPiece}
use Rattle.cc_print.specs.declared.pieces.Piece.TheVariants as pieces

-- words, or the text of a shape, of a type or of a set under so many binders
pub data Piece : Type 0 where
  Words : (text : List ℕ) → Piece
  OfShape : (depth : ℕ) (shape : Shape) → Piece
  OfType : (depth : ℕ) (shape : Shape) (set : Set) → Piece
  OfSet : (depth : ℕ) (set : Set) → Piece

-- what a value of the program stands for
abbrev pub piece_of : DeclaredPiece → Piece
piece_of (pieces.Words text) = Words text.now
piece_of (pieces.OfShape depth shape) = OfShape depth (shape_of shape.now)
piece_of (pieces.OfType depth ty) = OfType depth (shape_of ty.now.shape.value) ty.now.set
piece_of (pieces.OfSet depth set) = OfSet depth set.now

-- what is left, the next piece first; the program has the next one last
abbrev pub in_turn : List DeclaredPiece → List Piece
in_turn left = reverse (map piece_of left)

-- the text of a piece
abbrev pub piece_text : List (List ℕ) → Piece → List ℕ
piece_text names (Words text) = text
piece_text names (OfShape depth shape) = shape_under names depth shape
piece_text names (OfType depth shape set) = type_under names depth shape set
piece_text names (OfSet depth set) = set_under names depth set

-- how many turns a shape takes
abbrev pub turns : Shape → ℕ
turns (BaseShape base) = 1
turns AnyShape = 1
turns (TypeVariable variable) = 1
turns (FunctionShape takes c gives e) = 8 + (turns takes + turns gives)
turns (TypeFunctionShape bound gives e) = 5 + (turns bound + turns gives)
turns (BoxShape content c) = 5 + turns content
turns (ExitShape gives) = 2 + turns gives

-- and a piece
abbrev pub turns_of : Piece → ℕ
turns_of (Words text) = 1
turns_of (OfShape depth shape) = turns shape
turns_of (OfType depth shape set) = 3 + turns shape
turns_of (OfSet depth set) = 1

-- how many are left
abbrev pub turns_left : List Piece → ℕ
turns_left [] = 0
turns_left (next ∷ rest) = turns_of next + turns_left rest

-- A turn is over: what is written in the end stays, and fewer turns are left.
pub record TakesTurn (names : List (List ℕ)) (text : List ℕ) (left : List Piece) (later : List ℕ)
    (later_left : List Piece) : Type 0 where
  pub same : later ++ flat_map (piece_text names) later_left ≡ text ++ flat_map (piece_text names) left
  pub fewer : turns_left later_left < turns_left left
