use Rattle.std.proofs.Common.{◌≡◌, ◌-◌, length}
use Rattle.cc_lex.specs.Lexemes.{placed_all}
use Rattle.cc_grammar.specs.Reading.{defs_at}
use Rattle.cc_parse.specs.Trees.{defs_syntax}
use Rattle.cc_parse.specs.Agreement.{behind}
use Rattle.cc_parse.proofs.parser.read_defs.Given as goal

-- the definitions so far, and those that are left, are those of the whole
abbrev pub invariant-loop-taken : goal.invariant-loop-taken
invariant-loop-taken l =
    behind (defs_syntax l.defs) (defs_at (length l.tokens - l._taken) (placed_all l.left))
    ≡ defs_at (length (placed_all l.tokens)) (placed_all l.tokens)
