-- What holds of every list of tokens.
use Rattle.std.specs.Prelude.{◌≡◌, ◌↔◌, List}
use Rattle.cc_base.specs.declared.place.Place.{Place}
use Rattle.cc_lex.specs.Lexemes.{PlacedLexeme}
use Rattle.cc_grammar.specs.Syntax.{ShapeSyntax, SetSyntax, AbsentSet, TypeSyntax, CapturingType, FunctionShape}
use Rattle.cc_grammar.specs.Syntax.{TypeFunctionShape, ModuleSyntax}
use Rattle.cc_grammar.specs.Grammar.{type_terminals, IsType, IsShape, Spell, IsModule, IsLow}
use Rattle.cc_grammar.specs.Reads.{ModuleReading, TreeOf, TooHigh, Reads}
use Rattle.cc_grammar.specs.Reading.{reading_of}

-- the computed reading is one that the tokens have
abbrev pub TokensReadAsTheyAre : Type 0
TokensReadAsTheyAre = (tokens : List PlacedLexeme) (end : Place) → Reads tokens end (reading_of tokens end)

-- no list of tokens has two readings
abbrev pub TokensHaveOneReading : Type 0
TokensHaveOneReading =
    (tokens : List PlacedLexeme) (end : Place) (r s : ModuleReading) → Reads tokens end r → Reads tokens end s → r ≡ s

-- no tokens are those of two modules, of whatever height; the places in the trees are those of the tokens
abbrev pub ModulesHaveOneTree : Type 0
ModulesHaveOneTree = (tokens : List PlacedLexeme) (a b : ModuleSyntax) → IsModule tokens a → IsModule tokens b → a ≡ b

-- what is a module without a tree that is too high is read as it is
abbrev pub LowModulesAreRead : Type 0
LowModulesAreRead =
    (tokens : List PlacedLexeme) (end : Place) (it : ModuleSyntax) → IsModule tokens it → IsLow it →
    reading_of tokens end ≡ TreeOf it

-- what is a module with a tree that is too high is read as too high
abbrev pub HighModulesAreTooHigh : Type 0
HighModulesAreTooHigh =
    (tokens : List PlacedLexeme) (end : Place) (it : ModuleSyntax) → IsModule tokens it → (IsLow it → ⊥) →
    (at : Place) × (reading_of tokens end ≡ TooHigh at)

-- The type of a shape with this set behind it, at the innermost place: where the shape is that of functions or of type
-- functions and its result has no set, the set goes on to the result, and from there inwards in the same way.
abbrev pub with_set_inside : Place → ShapeSyntax → SetSyntax → TypeSyntax
with_set_inside at (FunctionShape place parameter takes (CapturingType start gives AbsentSet)) set =
    CapturingType at (FunctionShape place parameter takes (with_set_inside start gives set)) AbsentSet
with_set_inside at (TypeFunctionShape place parameter bound (CapturingType start gives AbsentSet)) set =
    CapturingType at (TypeFunctionShape place parameter bound (with_set_inside start gives set)) AbsentSet
with_set_inside at shape set = CapturingType at shape set

-- A set belongs to the innermost type that ends where it stands and has none: the tokens of a shape and of a set behind
-- it are those of one type, in which that type has the set.
abbrev pub SetsBelongToInnermostTypes : Type 0
SetsBelongToInnermostTypes =
    (tokens : List PlacedLexeme) (at : Place) (shape : ShapeSyntax) (set : SetSyntax) → IsShape shape →
    Spell tokens (type_terminals (CapturingType at shape set)) → (it : TypeSyntax) →
    (IsType it × Spell tokens (type_terminals it)) ↔ (it ≡ with_set_inside at shape set)
