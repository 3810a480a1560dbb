use Rattle.std.proofs.Common.{◌≡◌, ◌-◌, length}
use Rattle.cc_lex.specs.Lexemes.{placed_all}
use Rattle.cc_grammar.specs.Reading.{imports_at}
use Rattle.cc_parse.specs.Trees.{imports_syntax}
use Rattle.cc_parse.specs.Agreement.{behind}
use Rattle.cc_parse.proofs.parser.read_imports.Given as goal

-- the imports so far, and those that are left, are those of the whole
abbrev pub invariant-loop-taken : goal.invariant-loop-taken
invariant-loop-taken l =
    behind (imports_syntax l.imports) (imports_at (length l.tokens - l._taken) (placed_all l.left))
    ≡ imports_at (length (placed_all l.tokens)) (placed_all l.tokens)
