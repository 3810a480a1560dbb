use Rattle.std.proofs.Common.{◌≡◌, take}
use Rattle.cc_lex.specs.Lexemes.{placed_all}
use Rattle.cc_wanted.proofs.wanted.copied.Given as goal

abbrev pub invariant-loop-token : goal.invariant-loop-token
invariant-loop-token l = placed_all l.tokens.items ≡ placed_all (take l.token-index l.front)
