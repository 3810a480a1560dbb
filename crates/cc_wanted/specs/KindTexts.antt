-- How kinds of tokens are told.
use Rattle.std.specs.Prelude.{ℕ, List, codes}
use Rattle.cc_lex.specs.Forms.{word_text, symbol_text}
use Rattle.cc_wanted.specs.declared.kind.Kind.{Kind}
use Rattle.cc_wanted.specs.declared.kind.Kind.TheVariants as kinds

-- names, numbers and texts by a word for all of them, words and symbols as they are spelled
abbrev pub kind_text : Kind → List ℕ
kind_text kinds.Name = codes "NAME"
kind_text kinds.Number = codes "NUMBER"
kind_text kinds.Text = codes "TEXT"
kind_text (kinds.Word word) = word_text word
kind_text (kinds.Symbol symbol) = symbol_text symbol
