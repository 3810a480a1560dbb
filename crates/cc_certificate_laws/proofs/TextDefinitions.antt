-- The definitions of a text are low, have names, and their literals are those of the grammar.
use Rattle.std.proofs.Common.{◌≡◌, ℕ, List, refl, subst}
use Rattle.cc_grammar.specs.Syntax.{ModuleSyntax}
use Rattle.cc_grammar.specs.Grammar.{IsModule, IsLow}
use Rattle.cc_grammar.specs.Reads.{TreeOf, SyntaxError, TooHigh}
use Rattle.cc_lex.specs.Lexical.{SpannedLexeme, without_spans, HasTokens}
use Rattle.cc_verdicts.specs.Readings.{TextReading, IsTree, HasReading, has_no_tokens, has_tokens}
use Rattle.cc_certificate_laws.specs.TextLimits.{DefinitionsOfTextsAreLow, ImportsOfTextsAreNamed}
use Rattle.cc_certificate_laws.proofs.SpelledTexts.{text_spelled, defs_good, imports_named, module_parts}
use Rattle.cc_certificate_laws.proofs.ElaboratedHeights.{elaborated_low}

-- the tree of a text
record TreeParts (text : List ℕ) (tree : ModuleSyntax) : Type 0 where
  tokens : List SpannedLexeme
  has : HasTokens text tokens
  is : IsModule (without_spans tokens) tree
  low : IsLow tree

tree_parts : (text : List ℕ) (tree : ModuleSyntax) (r : TextReading) → HasReading text r → r ≡ IsTree tree
    → TreeParts text tree
tree_parts text tree r (has_no_tokens diag refused) e = cc
tree_parts text tree r (has_tokens tokens (TreeOf it) has read) e =
    let same : it ≡ tree = cc in
    subst (TreeParts text) same (record { tokens = tokens; has = has; is = read.0; low = read.1 })
tree_parts text tree r (has_tokens tokens (SyntaxError at) has read) e = cc
tree_parts text tree r (has_tokens tokens (TooHigh at) has read) e = cc

pub definitions_of_texts_low : DefinitionsOfTextsAreLow
definitions_of_texts_low devices text tree core reading e =
    let p = tree_parts text tree (IsTree tree) reading refl in
    let parts = module_parts tree (text_spelled text p.tokens _ p.has p.is.spelled) in
    elaborated_low devices tree core (defs_good tree.defs parts.1 p.low) e

pub imports_of_texts_named : ImportsOfTextsAreNamed
imports_of_texts_named text tree reading =
    let p = tree_parts text tree (IsTree tree) reading refl in
    imports_named tree.imports (module_parts tree (text_spelled text p.tokens _ p.has p.is.spelled)).0
