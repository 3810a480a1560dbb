-- How it is found which kinds of tokens go on behind a front: samples of each kind are put behind it, and what is then
-- read tells whether the last token is refused.
use Rattle.std.specs.Prelude.{pos, Bool, true, ◌==◌, List, [], ◌∷◌, ◌++◌, codes, Option, Some, None}
use Rattle.std.specs.List.{list_any}
use Rattle.cc_base.specs.declared.place.Place.{Place}
use Rattle.cc_base.specs.declared.code.Code.{Code}
use Rattle.cc_base.specs.declared.code.Code.TheVariants.{E03}
use Rattle.cc_base.specs.declared.code.Diag.{Diag}
use Rattle.cc_lex.specs.Lexemes.{Lexeme, NameLexeme, NumberLexeme, TextLexeme, WordLexeme, SymbolLexeme, PlacedLexeme}
use Rattle.cc_grammar.specs.Reading.{reading_of}
use Rattle.cc_parse.specs.Answers.{refusal_of}
use Rattle.cc_wanted.specs.declared.kind.Kind.{Kind}
use Rattle.cc_wanted.specs.declared.kind.Kind.TheVariants as kinds

-- where the token that is tried stands: somewhere in a text
abbrev pub place_tried : Place
place_tried = record { line = 1; col = 1 }

-- where the tokens end that are tried: nowhere in a text, since lines count from 1
abbrev pub end_tried : Place
end_tried = record { line = 0; col = 0 }

-- the token, where it is tried
abbrev pub tried : Lexeme → PlacedLexeme
tried lexeme = record { lexeme = lexeme; at = place_tried }

-- The last token passes although all are refused so: at the end, where tokens are missing behind it, or since only modules
-- that are too high go on with it.
abbrev pub lets_pass : Code → Place → Bool
lets_pass E03 at = at.line == 0
lets_pass _ at = true

-- the last token is not refused
abbrev pub passes : Option Diag → Bool
passes None = true
passes (Some diag) = lets_pass diag.code diag.place

-- behind the front the token is not refused
unfoldable pub goes_on : List PlacedLexeme → Lexeme → Bool
goes_on front lexeme = passes (refusal_of (reading_of (front ++ tried lexeme ∷ []) end_tried))

-- Tokens of the kind, so many that no token of it is unlike all of them: the grammar tells names apart only where they
-- are those of operations, and numbers and texts not at all.
abbrev pub samples : Kind → List Lexeme
samples kinds.Name =
    NameLexeme (codes "x") ∷ NameLexeme (codes "print") ∷ NameLexeme (codes "say") ∷ NameLexeme (codes "read")
    ∷ NameLexeme (codes "write") ∷ NameLexeme (codes "tick") ∷ []
samples kinds.Number = NumberLexeme (pos 0) ∷ []
samples kinds.Text = TextLexeme [] ∷ []
samples (kinds.Word word) = WordLexeme word ∷ []
samples (kinds.Symbol symbol) = SymbolLexeme symbol ∷ []

-- a sample of the kind goes on behind the front
abbrev pub goes_on_with : List PlacedLexeme → Kind → Bool
goes_on_with front kind = list_any (goes_on front) (samples kind)
