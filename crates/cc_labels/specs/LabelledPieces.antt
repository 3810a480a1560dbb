-- What is left where the text of a type is written with labels. It serves the code alone.
use Rattle.std.specs.Prelude.{List, map, reverse}
use Rattle.cc_core.specs.TermViews.{shape_of}
use Rattle.cc_print.specs.PiecesLeft as plain
use Rattle.cc_labels.specs.declared.pieces.Piece.{Piece}
use Rattle.cc_labels.specs.declared.pieces.Piece.TheVariants as pieces

-- what a value of the program stands for
abbrev pub piece_of : Piece → plain.Piece
piece_of (pieces.Words text) = plain.Words text.now
piece_of (pieces.OfShape depth shape) = plain.OfShape depth (shape_of shape.now)
piece_of (pieces.OfType depth ty) = plain.OfType depth (shape_of ty.now.shape.value) ty.now.set
piece_of (pieces.OfSet depth set) = plain.OfSet depth set.now

-- what is left, the next piece first; the program has the next one last
abbrev pub in_turn : List Piece → List plain.Piece
in_turn left = reverse (map piece_of left)
