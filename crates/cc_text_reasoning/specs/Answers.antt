-- What a text is that has no such reason.
use Rattle.std.specs.Prelude.{ℕ, List}
use Rattle.cc_grammar.specs.Syntax.{ModuleSyntax}
use Rattle.cc_verdicts.specs.Readings.{HasReading, IsTree}

-- the text is a module
abbrev pub HasATree : List ℕ → Type 0
HasATree text = (tree : ModuleSyntax) × HasReading text (IsTree tree)
