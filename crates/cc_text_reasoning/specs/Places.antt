-- Texts from a place on, and tokens up to one.
use Rattle.std.specs.Prelude.{◌≡◌, ◌<◌, ◌⊎◌, ◌==◌, ◌&&◌, not, ℕ, Bool, List, [], ◌∷◌, if◌then◌else◌}
use Rattle.cc_base.specs.declared.place.Place.{Place}
use Rattle.cc_grammar.specs.Reads.{place_of}
use Rattle.cc_lex.specs.declared.token.Token.{Token}
use Rattle.cc_lex.specs.Lexemes.{PlacedLexeme}
use Rattle.cc_lex.specs.Lexical.{place_after}

-- the places are one, as a test
abbrev pub is_same_place : Place → Place → Bool
is_same_place one other = one.line == other.line && one.col == other.col

-- what of a text that begins at this place stands from the other place on
abbrev pub from_place : Place → Place → List ℕ → List ℕ
from_place at place [] = []
from_place at place (c ∷ cs) = if is_same_place place at then c ∷ cs else from_place at (place_after place c) cs

-- the place stands before the other
abbrev pub IsBefore : Place → Place → Type 0
IsBefore one other = (one.line < other.line) ⊎ ((one.line ≡ other.line) × (one.col < other.col))

-- the places of the tokens and of the end rise
abbrev pub DoPlacesRise : List PlacedLexeme → Place → Type 0
DoPlacesRise [] end = Unit {0}
DoPlacesRise (token ∷ tokens) end = IsBefore token.at (place_of tokens end) × DoPlacesRise tokens end

-- the token does not stand at the place
abbrev pub stands_elsewhere : Place → Token → Bool
stands_elsewhere at token = not (is_same_place token.at at)
