use Rattle.std.proofs.Common.{◌≡◌, filter, take}
use Rattle.cc_lex.specs.Lexemes.{placed_all}
use Rattle.cc_wanted.specs.Trying.{end_tried, goes_on_with}
use Rattle.cc_wanted.proofs.wanted.kinds_behind.Given as goal

abbrev pub invariant-loop-kind : goal.invariant-loop-kind
invariant-loop-kind l = record {
  told : l.told.items ≡ filter (goes_on_with (placed_all l.fn.tokens.tokens.items)) (take l.kind-index l.kinds);
  tokens : l.tokens.tokens.items ≡ l.fn.tokens.tokens.items;
  end : l.tokens.end ≡ end_tried;
}
