-- What the tokens of a text spell: names, and literals that may be written.
use Rattle.std.proofs.Common.{◌≡◌, ℕ, ◌<◌, ◌≤◌, Bool, true, false, List, [], ◌∷◌, ◌++◌, refl, sym, ap, ◌∙◌, subst, arith}
use Rattle.std.specs.Prelude.{pos, ℤ, ◌^◌, ◌&&◌, if◌then◌else◌}
use Rattle.std.specs.List.{AllByRecursion, flat_map}
use Rattle.std.specs.Str.{all_scalars}
use Rattle.std.proofs.lemmas.Str.{scalars-chars}
use Rattle.cc_base.specs.Names.{IsName}
use Rattle.cc_base.specs.Literals.{Literal, UnitLiteral, TruthLiteral, NumberLiteral, TextLiteral}
use Rattle.cc_base.specs.declared.place.Place.{Place}
use Rattle.cc_lex.specs.Forms.{Spells, IsString}
use Rattle.cc_lex.specs.declared.token.Word.TheVariants as words
use Rattle.cc_lex.specs.declared.token.Symbol.TheVariants as symbols
use Rattle.cc_lex.specs.Lexemes.{Lexeme, NameLexeme, NumberLexeme, TextLexeme, WordLexeme, SymbolLexeme}
use Rattle.cc_lex.specs.Lexical.{SpannedLexeme, Extent, without_spans, IsCut, at_end, at_nothing, at_too_great, past_blank, past_token, HasTokens}
use Rattle.cc_grammar.specs.Syntax.{ExprSyntax, NameExpr, LiteralExpr, ParenthesizedExpr, ValExpr, FunExpr, TypeFunExpr, IfExpr, BoundaryExpr, OperatorExpr, BoxExpr, UnboxExpr, CallExpr, TypeCallExpr, AskExpr, TellExpr, ExitExpr, RepeatExpr, ImportSyntax, DefSyntax, ModuleSyntax}
use Rattle.cc_grammar.specs.Grammar.{Terminal, word, symbol, named, standing_at, Spell, type_terminals, shape_terminals, written_terminals, literal_lexeme, captures_terminals, expr_terminals, import_terminals, def_terminals, module_terminals, AreLowDefs, IsLowDef}
use Rattle.cc_certificate_text.specs.Certificates.{IsWrittenLiteral}
use lib.Utf8.{scalar}

both : (a b : Bool) → (a && b) ≡ true → (a ≡ true) × (b ≡ true)
both true b h = (refl, h)
both false b h = cc

both_true : (a b : Bool) → a ≡ true → b ≡ true → (a && b) ≡ true
both_true true b h k = k
both_true false b h k = cc

scalars-parts : (xs ys : List ℕ) → all_scalars (xs ++ ys) ≡ true → (all_scalars xs ≡ true) × (all_scalars ys ≡ true)
scalars-parts [] ys h = (refl, h)
scalars-parts (x ∷ xs) ys h =
    let each = both (scalar x) (all_scalars (xs ++ ys)) h in
    let rest = scalars-parts xs ys each.1 in
    (both_true (scalar x) (all_scalars xs) each.0 rest.0, rest.1)

-- the token is a name, or a literal that may be written, or any word or symbol
abbrev pub IsSpelled : Lexeme → Type 0
IsSpelled (NameLexeme name) = IsName name
IsSpelled (NumberLexeme number) = IsWrittenLiteral (NumberLiteral number)
IsSpelled (TextLexeme text) = IsWrittenLiteral (TextLiteral text)
IsSpelled (WordLexeme word) = Unit {0}
IsSpelled (SymbolLexeme symbol) = Unit {0}

number_written : (n : ℕ) (number : ℤ) → n ≤ 9223372036854775807 → number ≡ pos n
    → IsWrittenLiteral (NumberLiteral number)
number_written n number small e =
    let below : n < 2 ^ 63 = omega arith in subst (λ x. IsWrittenLiteral (NumberLiteral x)) (sym e) below

string_written : (text cs : List ℕ) → IsString text cs → all_scalars cs ≡ true → IsWrittenLiteral (TextLiteral text)
string_written text cs is all =
    let whole : all_scalars (34 ∷ text ++ 34 ∷ []) ≡ true = ap all_scalars (sym is.0) ∙ all in
    let behind = scalars-parts (34 ∷ []) (text ++ 34 ∷ []) whole in
    let front = scalars-parts text (34 ∷ []) behind.1 in
    (front.0, is.1, is.2)

spelled : (lexeme : Lexeme) (cs : List ℕ) → Spells lexeme cs → all_scalars cs ≡ true → IsSpelled lexeme
spelled (NameLexeme name) cs h all = subst IsName (sym h.1) h.0
spelled (NumberLexeme number) cs h all = number_written _ number h.1 h.2
spelled (TextLexeme text) cs h all = string_written text cs h all
spelled (WordLexeme word) cs h all = tt
spelled (SymbolLexeme symbol) cs h all = tt

cut_spelled : {p : Place} {o : ℕ} {text : List ℕ} {ts : List SpannedLexeme} {extent : Extent} → IsCut p o text ts extent
    → all_scalars text ≡ true → AllByRecursion (λ t. IsSpelled t.placed.lexeme) ts
cut_spelled at_end all = tt
cut_spelled (at_nothing none) all = tt
cut_spelled (at_too_great great) all = tt
cut_spelled (past_blank cs after e blank rest) all =
    cut_spelled rest (scalars-parts cs after (ap all_scalars (sym e) ∙ all)).1
cut_spelled (past_token {lexeme = lexeme} cs after e longest spells rest) all =
    let parts = scalars-parts cs after (ap all_scalars (sym e) ∙ all) in
    (spelled lexeme cs spells parts.0, cut_spelled rest parts.1)

-- each terminal is spelled
abbrev pub AllSpelled : List Terminal → Type 0
AllSpelled terminals = AllByRecursion (λ t. IsSpelled t.lexeme) terminals

terminals_spelled : (ts : List SpannedLexeme) (terminals : List Terminal) → Spell (without_spans ts) terminals
    → AllByRecursion (λ t. IsSpelled t.placed.lexeme) ts → AllSpelled terminals
terminals_spelled [] [] h all = tt
terminals_spelled [] (terminal ∷ terminals) h all = absurd h
terminals_spelled (t ∷ ts) [] h all = absurd h
terminals_spelled (t ∷ ts) (terminal ∷ terminals) h all =
    (subst IsSpelled h.0 all.0, terminals_spelled ts terminals h.2 all.1)

pub text_spelled : (text : List ℕ) (ts : List SpannedLexeme) (terminals : List Terminal) → HasTokens text ts
    → Spell (without_spans ts) terminals → AllSpelled terminals
text_spelled text ts terminals h spell =
    terminals_spelled ts terminals spell (cut_spelled h.1 (scalars-chars text h.0))

-- the parts
parted : (a b : List Terminal) → AllSpelled (a ++ b) → AllSpelled a × AllSpelled b
parted [] b h = (tt, h)
parted (x ∷ a) b h = let rest = parted a b h.1 in ((h.0, rest.0), rest.1)

unplaced : (at : Place) (terminals : List Terminal) → AllSpelled (standing_at at terminals) → AllSpelled terminals
unplaced at [] h = tt
unplaced at (first ∷ more) h = (h.0, h.1)

-- the literals of the expression may be written
abbrev pub HasSpelledLiterals : ExprSyntax → Type 0
HasSpelledLiterals (NameExpr at name) = Unit {0}
HasSpelledLiterals (LiteralExpr at literal) = IsWrittenLiteral literal
HasSpelledLiterals (ParenthesizedExpr at inner) = HasSpelledLiterals inner
HasSpelledLiterals (ValExpr at name written right body) = HasSpelledLiterals right × HasSpelledLiterals body
HasSpelledLiterals (FunExpr at parameter takes body) = HasSpelledLiterals body
HasSpelledLiterals (TypeFunExpr at parameter bound body) = HasSpelledLiterals body
HasSpelledLiterals (IfExpr at gives test positive negative) =
    HasSpelledLiterals test × HasSpelledLiterals positive × HasSpelledLiterals negative
HasSpelledLiterals (BoundaryExpr at gives exit body) = HasSpelledLiterals body
HasSpelledLiterals (OperatorExpr at operator left right) = HasSpelledLiterals left × HasSpelledLiterals right
HasSpelledLiterals (BoxExpr at content) = HasSpelledLiterals content
HasSpelledLiterals (UnboxExpr at captures content) = HasSpelledLiterals content
HasSpelledLiterals (CallExpr at function argument) = HasSpelledLiterals function × HasSpelledLiterals argument
HasSpelledLiterals (TypeCallExpr at function argument) = HasSpelledLiterals function
HasSpelledLiterals (AskExpr at operation receiver) = HasSpelledLiterals receiver
HasSpelledLiterals (TellExpr at operation receiver argument) = HasSpelledLiterals receiver × HasSpelledLiterals argument
HasSpelledLiterals (ExitExpr at gives exit value) = HasSpelledLiterals exit × HasSpelledLiterals value
HasSpelledLiterals (RepeatExpr at count function) = HasSpelledLiterals count × HasSpelledLiterals function

literal_written : (literal : Literal) → IsSpelled (literal_lexeme literal) → IsWrittenLiteral literal
literal_written UnitLiteral h = tt
literal_written (TruthLiteral truth) h = tt
literal_written (NumberLiteral number) h = h
literal_written (TextLiteral text) h = h

literals_spelled : (e : ExprSyntax) → AllSpelled (expr_terminals e) → HasSpelledLiterals e
literals_spelled (NameExpr at name) h = tt
literals_spelled (LiteralExpr at literal) h = literal_written literal h.0
literals_spelled (ParenthesizedExpr at inner) h = literals_spelled inner (parted (expr_terminals inner) _ h.1).0
literals_spelled (ValExpr at name written right body) h =
    let typed = parted (written_terminals written) _ h.1.1 in
    let value = parted (expr_terminals right) _ typed.1.1 in
    (literals_spelled right value.0, literals_spelled body value.1.1)
literals_spelled (FunExpr at parameter takes body) h =
    let typed = parted (type_terminals takes) _ h.1.1.1.1 in literals_spelled body typed.1.1.1
literals_spelled (TypeFunExpr at parameter bound body) h =
    let typed = parted (shape_terminals bound) _ h.1.1.1.1 in literals_spelled body typed.1.1.1
literals_spelled (IfExpr at gives test positive negative) h =
    let typed = parted (type_terminals gives) _ h.1.1 in
    let condition = parted (expr_terminals test) _ typed.1.1 in
    let branch = parted (expr_terminals positive) _ condition.1.1 in
    (literals_spelled test condition.0, literals_spelled positive branch.0, literals_spelled negative branch.1.1)
literals_spelled (BoundaryExpr at gives exit body) h =
    let typed = parted (shape_terminals gives) _ h.1.1 in literals_spelled body typed.1.1.1.1
literals_spelled (OperatorExpr at operator left right) h =
    let parts = parted (expr_terminals left) _ (unplaced at _ h) in
    (literals_spelled left parts.0, literals_spelled right parts.1.1)
literals_spelled (BoxExpr at content) h = literals_spelled content h.1
literals_spelled (UnboxExpr at captures content) h =
    literals_spelled content (parted (captures_terminals captures) _ h.1).1
literals_spelled (CallExpr at function argument) h =
    let parts = parted (expr_terminals function) _ (unplaced at _ h) in
    (literals_spelled function parts.0, literals_spelled argument (parted (expr_terminals argument) _ parts.1.1).0)
literals_spelled (TypeCallExpr at function argument) h =
    literals_spelled function (parted (expr_terminals function) _ (unplaced at _ h)).0
literals_spelled (AskExpr at operation receiver) h =
    literals_spelled receiver (parted (expr_terminals receiver) _ (unplaced at _ h)).0
literals_spelled (TellExpr at operation receiver argument) h =
    let parts = parted (expr_terminals receiver) _ (unplaced at _ h) in
    (literals_spelled receiver parts.0, literals_spelled argument (parted (expr_terminals argument) _ parts.1.1.1.1).0)
literals_spelled (ExitExpr at gives exit value) h =
    let typed = parted (type_terminals gives) _ h.1.1 in
    let parts = parted (expr_terminals exit) _ typed.1.1.1 in
    (literals_spelled exit parts.0, literals_spelled value (parted (expr_terminals value) _ parts.1.1).0)
literals_spelled (RepeatExpr at count function) h =
    let parts = parted (expr_terminals count) _ h.1.1 in
    (literals_spelled count parts.0, literals_spelled function (parted (expr_terminals function) _ parts.1.1).0)

-- the definition has a name, its literals may be written, and its trees are low
pub record IsGoodDef (def : DefSyntax) : Type 0 where
  pub named : IsName def.name
  pub literals : HasSpelledLiterals def.right
  pub low : IsLowDef def

def_good : (def : DefSyntax) → AllSpelled (def_terminals def) → IsLowDef def → IsGoodDef def
def_good def h low =
    let own : List Terminal = if def.own then word words.Rec ∷ [] else [] in
    let name : List Terminal = standing_at def.name_at (named def.name ∷ []) in
    let right = parted ((own ++ name) ++ written_terminals def.written)
    (symbol symbols.Equals ∷ expr_terminals def.right) h.1 in
    let typed = parted (own ++ name) (written_terminals def.written) right.0 in
    let called = parted own name typed.0 in
    record { named = called.1.0; literals = literals_spelled def.right right.1.1; low = low }

pub defs_good : (defs : List DefSyntax) → AllSpelled (flat_map def_terminals defs) → AreLowDefs defs
    → AllByRecursion IsGoodDef defs
defs_good [] h low = tt
defs_good (def ∷ defs) h low =
    let parts = parted (def_terminals def) _ h in (def_good def parts.0 low.0, defs_good defs parts.1 low.1)

pub imports_named : (imports : List ImportSyntax) → AllSpelled (flat_map import_terminals imports)
    → AllByRecursion (λ one. IsName one.name) imports
imports_named [] h = tt
imports_named (one ∷ imports) h =
    let parts = parted (import_terminals one) _ h in (parts.0.1.1.1.0, imports_named imports parts.1)

pub module_parts : (it : ModuleSyntax) → AllSpelled (module_terminals it)
    → AllSpelled (flat_map import_terminals it.imports) × AllSpelled (flat_map def_terminals it.defs)
module_parts it h = parted (flat_map import_terminals it.imports) (flat_map def_terminals it.defs) h
