use Rattle.std.proofs.Common.{◌≡◌, length}
use Rattle.cc_lex.specs.Lexemes.{placed_all}
use Rattle.cc_grammar.specs.Reading.{AtFirst, elements_at}
use Rattle.cc_parse.specs.Trees.{elements_syntax}
use Rattle.cc_parse.specs.Steps.{set_state}
use Rattle.cc_parse.specs.Agreement.{behind}
use Rattle.cc_parse.proofs.sets.read_elements.Given as goal

-- the elements so far, and those that are left, are those of the whole
abbrev pub invariant-loop-left : goal.invariant-loop-left
invariant-loop-left l =
    behind (elements_syntax l.elements.items) (elements_at (set_state l.state) l.spare (placed_all l.left)) ≡ elements_at AtFirst l.spare (placed_all l.tokens)

abbrev pub decreases-loop-left : goal.decreases-loop-left
decreases-loop-left l = length l.left
