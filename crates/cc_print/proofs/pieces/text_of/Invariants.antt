use Rattle.std.proofs.Common.{◌≡◌, ◌++◌, flat_map}
use Rattle.std.specs.String.{string_bytes}
use Rattle.cc_print.specs.PiecesLeft.{in_turn, piece_of, piece_text, turns_left}
use Rattle.cc_print.proofs.pieces.text_of.Given as goal

-- what is written, and the texts of what is left
abbrev pub invariant-loop-next : goal.invariant-loop-next
invariant-loop-next l =
    string_bytes l.out ++ flat_map (piece_text l.names.names.items) (in_turn l.left.items)
    ≡ piece_text l.names.names.items (piece_of l.first)

abbrev pub decreases-loop-next : goal.decreases-loop-next
decreases-loop-next l = turns_left (in_turn l.left.items)
