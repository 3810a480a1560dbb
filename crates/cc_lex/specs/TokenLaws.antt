-- The laws of tokens: bytes have tokens or a refusal, in one way, and the tokens are as they should be.
use Rattle.std.specs.Prelude.{◌≡◌, ℕ, ◌-◌, ◌<◌, ◌≤◌, ◌⊎◌, pos, ◌≤ℤ◌, List, [], ◌∷◌, All, length, take, drop, IsTrue}
use Rattle.std.specs.Prelude.{Result, Ok, Err, encode_utf8_all}
use Rattle.std.specs.List.{list_all}
use Rattle.cc_base.specs.declared.code.Diag.{Diag}
use Rattle.cc_base.specs.Names.{IsName}
use Rattle.cc_lex.specs.declared.token.Tokens.{Tokens}
use Rattle.cc_lex.specs.declared.error.LexError.{LexError}
use Rattle.cc_lex.specs.declared.error.LexError.TheVariants.{Refused, NoMemory}
use Rattle.cc_lex.specs.Lexemes.{Lexeme, NameLexeme, NumberLexeme, TextLexeme, WordLexeme, SymbolLexeme}
use Rattle.cc_lex.specs.Forms.{stands_in_string, greatest_number, Spells}
use Rattle.cc_lex.specs.Lexical.{SpannedLexeme, spanned_all, HasTokens, IsRefused, Lexes}

-- all bytes have tokens or a refusal
abbrev pub BytesHaveTokensOrARefusal : Type 0
BytesHaveTokensOrARefusal =
    (bytes : List ℕ) → ((ts : List SpannedLexeme) × HasTokens bytes ts) ⊎ ((diag : Diag) × IsRefused bytes diag)

-- no bytes have both
abbrev pub NoBytesHaveTokensAndARefusal : Type 0
NoBytesHaveTokensAndARefusal =
    (bytes : List ℕ) (ts : List SpannedLexeme) (diag : Diag) → HasTokens bytes ts → IsRefused bytes diag → ⊥

-- no bytes have two lists of tokens
abbrev pub BytesHaveOneListOfTokens : Type 0
BytesHaveOneListOfTokens =
    (bytes : List ℕ) (ts us : List SpannedLexeme) → HasTokens bytes ts → HasTokens bytes us → ts ≡ us

-- no bytes have two refusals
abbrev pub BytesHaveOneRefusal : Type 0
BytesHaveOneRefusal = (bytes : List ℕ) (diag other : Diag) → IsRefused bytes diag → IsRefused bytes other → diag ≡ other

-- the answer has these tokens, or there was no memory
abbrev pub GivesTokens : List SpannedLexeme → Result Tokens LexError → Type 0
GivesTokens ts (Ok tokens) = spanned_all tokens ≡ ts
GivesTokens ts (Err (Refused diag)) = ⊥
GivesTokens ts (Err NoMemory) = Unit {0}

-- the answer is this refusal, or there was no memory
abbrev pub GivesRefusal : Diag → Result Tokens LexError → Type 0
GivesRefusal diag (Ok tokens) = ⊥
GivesRefusal diag (Err (Refused other)) = other ≡ diag
GivesRefusal diag (Err NoMemory) = Unit {0}

-- a right answer for bytes that have tokens gives them
abbrev pub TokensAreGiven : Type 0
TokensAreGiven =
    (bytes : List ℕ) (ts : List SpannedLexeme) (answer : Result Tokens LexError)
    → HasTokens bytes ts → Lexes bytes answer → GivesTokens ts answer

-- a right answer for bytes that are refused is their refusal
abbrev pub RefusalsAreGiven : Type 0
RefusalsAreGiven =
    (bytes : List ℕ) (diag : Diag) (answer : Result Tokens LexError)
    → IsRefused bytes diag → Lexes bytes answer → GivesRefusal diag answer

-- the bytes that the token spans are those of characters that spell it
abbrev pub IsSpelledBySpan : List ℕ → SpannedLexeme → Type 0
IsSpelledBySpan bytes t =
    (cs : List ℕ) × Spells t.placed.lexeme cs × (take (t.to - t.from) (drop t.from bytes) ≡ encode_utf8_all cs)

-- each token is spelled by the bytes that it spans
abbrev pub SpansSpellTheirTokens : Type 0
SpansSpellTheirTokens =
    (bytes : List ℕ) (ts : List SpannedLexeme) → HasTokens bytes ts → All (IsSpelledBySpan bytes) ts

-- the spans lie between these offsets, one after another, and none is empty
abbrev pub AreInOrder : ℕ → List SpannedLexeme → ℕ → Type 0
AreInOrder from [] to = from ≤ to
AreInOrder from (t ∷ ts) to = (from ≤ t.from) × (t.from < t.to) × AreInOrder t.to ts to

abbrev pub SpansAreInOrder : Type 0
SpansAreInOrder = (bytes : List ℕ) (ts : List SpannedLexeme) → HasTokens bytes ts → AreInOrder 0 ts (length bytes)

-- a name is one, a number is not too great, and a text may stand in a string
abbrev pub IsWellFormed : Lexeme → Type 0
IsWellFormed (NameLexeme name) = IsName name
IsWellFormed (NumberLexeme number) = (pos 0 ≤ℤ number) × (number ≤ℤ pos greatest_number)
IsWellFormed (TextLexeme text) = IsTrue (list_all stands_in_string text) × (length text ≤ 200)
IsWellFormed (WordLexeme word) = Unit {0}
IsWellFormed (SymbolLexeme symbol) = Unit {0}

abbrev pub TokensAreWellFormed : Type 0
TokensAreWellFormed =
    (bytes : List ℕ) (ts : List SpannedLexeme) → HasTokens bytes ts → All (λ t. IsWellFormed t.placed.lexeme) ts
