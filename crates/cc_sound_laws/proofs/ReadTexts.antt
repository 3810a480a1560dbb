-- A text is a module where it is read as one.
use Rattle.std.proofs.Common.{◌≡◌, ℕ, ◌+◌, List, [], ◌∷◌, refl, sym, ap, subst}
use Rattle.cc_base.specs.declared.place.Place.{Place}
use Rattle.cc_lex.specs.Lexemes.{PlacedLexeme}
use Rattle.cc_lex.specs.Lexical.{SpannedLexeme, without_spans, spelled_at, byte_count, Extent, ToTheEnd, UpTo, IsCut, start}
use Rattle.cc_lex.specs.Lexical as cut
use Rattle.cc_grammar.specs.Grammar.{IsModule}
use Rattle.cc_grammar.specs.Reads.{TreeOf, SyntaxError, TooHigh}
use Rattle.cc_grammar.specs.Syntax.{ModuleSyntax}
use Rattle.cc_verdicts.specs.Readings.{TextReading, IsTree, HasReading, has_no_tokens, has_tokens}
use Rattle.cc_sound_laws.specs.ModuleTexts.{AreTokens, no_more, past_blank, past_token, IsModuleText}

-- what a text is cut into are its tokens
tokens_of : {at : Place} {offset : ℕ} {text : List ℕ} {ts : List SpannedLexeme} {extent : Extent}
    → IsCut at offset text ts extent → extent ≡ ToTheEnd → AreTokens at text (without_spans ts)
tokens_of cut.at_end e = no_more
tokens_of (cut.at_nothing begins) e = cc
tokens_of (cut.at_too_great begins) e = cc
tokens_of (cut.past_blank cs after is blank rest) e = past_blank cs after is blank (tokens_of rest e)
tokens_of (cut.past_token cs after is longest spells rest) e = past_token cs after is longest spells (tokens_of rest e)

-- and what its tokens are, it is cut into, from whichever offset on
abbrev CutInto : Place → ℕ → List ℕ → List PlacedLexeme → Type 0
CutInto at offset text tokens =
    (ts : List SpannedLexeme) × IsCut at offset text ts ToTheEnd × (without_spans ts ≡ tokens)

cut_into : {at : Place} {text : List ℕ} {tokens : List PlacedLexeme} → AreTokens at text tokens → (offset : ℕ)
    → CutInto at offset text tokens
cut_into no_more offset = ([], cut.at_end, refl)
cut_into (past_blank cs after is blank rest) offset =
    let behind = cut_into rest (offset + byte_count cs) in
    (behind.0, cut.past_blank cs after is blank behind.1, behind.2)
cut_into (past_token {at = at} {lexeme = lexeme} cs after is longest spells rest) offset =
    let behind = cut_into rest (offset + byte_count cs) in (
      spelled_at at offset cs lexeme ∷ behind.0,
      cut.past_token cs after is longest spells behind.1,
      ap (λ (l : List PlacedLexeme). record { lexeme = lexeme; at = at } ∷ l) behind.2,
    )

same_tree : (one other : ModuleSyntax) → IsTree one ≡ IsTree other → one ≡ other
same_tree one other e = cc

module_text : (text : List ℕ) (tree : ModuleSyntax) (r : TextReading) → HasReading text r → r ≡ IsTree tree
    → IsModuleText text tree
module_text text tree r (has_no_tokens diag refused) e = cc
module_text text tree r (has_tokens tokens (TreeOf it) has reads) e =
    subst (IsModuleText text) (same_tree it tree e)
    (without_spans tokens, has.0, tokens_of has.1 refl, reads.0, reads.1)
module_text text tree r (has_tokens tokens (SyntaxError at) has reads) e = cc
module_text text tree r (has_tokens tokens (TooHigh at) has reads) e = cc

pub read_is_module : (text : List ℕ) (tree : ModuleSyntax) → HasReading text (IsTree tree) → IsModuleText text tree
read_is_module text tree reading = module_text text tree (IsTree tree) reading refl

pub module_is_read : (text : List ℕ) (tree : ModuleSyntax) → IsModuleText text tree → HasReading text (IsTree tree)
module_is_read text tree (tokens, utf8, are, parsed, low) =
    let into = cut_into are 0 in
    has_tokens into.0 (TreeOf tree) (utf8, into.1) (subst (λ (l : List PlacedLexeme). IsModule l tree) (sym into.2) parsed, low)
