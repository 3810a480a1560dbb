-- The turns in which the text of a type is written with labels.
use Rattle.std.proofs.Common.{◌≡◌, ℕ, List, [], ◌∷◌, ◌++◌, reverse, map, flat_map, sym, ap, ◌∙◌}
use Rattle.std.proofs.lemmas.List.{map_push, reverse-append}
use Rattle.cc_print.specs.PiecesLeft.{TakesTurn, piece_text}
use Rattle.cc_labels.specs.declared.pieces.Piece.{Piece}
use Rattle.cc_labels.specs.LabelledPieces.{in_turn, piece_of}

-- a turn that was taken leaves what is written in the end
pub turn_taken : (names : List (List ℕ)) (text later : List ℕ) (left rest new : List Piece) (next : Piece)
    → left ≡ rest ++ next ∷ [] → TakesTurn names text (piece_of next ∷ in_turn rest) later (in_turn new)
    → text ++ flat_map (piece_text names) (in_turn left) ≡ later ++ flat_map (piece_text names) (in_turn new)
turn_taken names text later left rest new next is turn =
    ap (λ pieces. text ++ flat_map (piece_text names) pieces)
    (ap in_turn is ∙ ap reverse (map_push piece_of rest next) ∙ reverse-append (map piece_of rest) (piece_of next ∷ []))
    ∙ sym turn.same
