-- What the rules of expressions make of their pieces.
use Rattle.std.proofs.Common.{◌≡◌, ℕ, ◌+◌, ◌≤◌, max, true, false, List, [], ◌∷◌, ◌++◌, Some, refl, subst, arith}
use Rattle.std.specs.Prelude.{⊤}
use Rattle.std.proofs.lemmas.List.{append-nil}
use Rattle.cc_base.specs.declared.place.Place.{Place}
use Rattle.cc_base.specs.declared.literal.Operator.{Operator}
use Rattle.cc_base.specs.declared.literal.Operator.TheVariants as operators
use Rattle.cc_lex.specs.declared.token.Word.TheVariants as words
use Rattle.cc_lex.specs.declared.token.Symbol.TheVariants as symbols
use Rattle.cc_lex.specs.Lexemes.{Lexeme, NameLexeme, NumberLexeme, TextLexeme, WordLexeme, SymbolLexeme, PlacedLexeme}
use Rattle.cc_grammar.specs.Syntax.{ExprSyntax, NameExpr, LiteralExpr, ParenthesizedExpr, ValExpr, FunExpr, TypeFunExpr, IfExpr, BoundaryExpr, OperatorExpr, BoxExpr, UnboxExpr, CallExpr, TypeCallExpr, AskExpr, TellExpr, ExitExpr, RepeatExpr, expr_height}
use Rattle.cc_grammar.specs.Grammar.{Terminal, word, symbol, named, standing_at, Spell, expr_terminals, operator_symbol, operation_name, takes_argument, operator_level, left_level, level, IsExpr}
use Rattle.cc_grammar.specs.Reading.{Parts, ExprRule, ParenRule, ValRule, FunRule, TypeFunRule, IfRule, BoundaryRule, BoxRule, UnboxRule, ExitRule, RepeatRule, expr_pieces, expr_tree, rule_level, ExprStart, FunStart, RuleStart, WholeExpr, StartsExpr, expr_head, Link, OperatorLink, CallLink, TypeCallLink, DotLink, link_of, LinkRule, OperatorRule, CallRule, TypeCallRule, AskRule, TellRule, link_pieces, expr_place, link_tree}
use Rattle.cc_grammar.proofs.Spelling.{First, first-standing}
use Rattle.cc_grammar.proofs.PieceLanguages.{parts_terminals, parts_height, AreParts, AreFair}

pub expr-positive : (e : ExprSyntax) → 1 ≤ expr_height e
expr-positive (NameExpr at name) = omega arith
expr-positive (LiteralExpr at literal) = omega arith
expr-positive (ParenthesizedExpr at inner) = omega arith
expr-positive (ValExpr at name written right body) = omega arith
expr-positive (FunExpr at parameter takes body) = omega arith
expr-positive (TypeFunExpr at parameter bound body) = omega arith
expr-positive (IfExpr at gives test positive negative) = omega arith
expr-positive (BoundaryExpr at gives exit body) = omega arith
expr-positive (OperatorExpr at operator l r) = omega arith
expr-positive (BoxExpr at content) = omega arith
expr-positive (UnboxExpr at captures content) = omega arith
expr-positive (CallExpr at function argument) = omega arith
expr-positive (TypeCallExpr at function argument) = omega arith
expr-positive (AskExpr at operation receiver) = omega arith
expr-positive (TellExpr at operation receiver argument) = omega arith
expr-positive (ExitExpr at gives exit value) = omega arith
expr-positive (RepeatExpr at count function) = omega arith

-- RULES

abbrev pub expr_front : ExprRule → List Terminal
expr_front ParenRule = symbol symbols.Open ∷ []
expr_front ValRule = word words.Val ∷ []
expr_front FunRule = word words.Fun ∷ []
expr_front TypeFunRule = word words.Fun ∷ []
expr_front IfRule = word words.If ∷ []
expr_front BoundaryRule = word words.Boundary ∷ []
expr_front BoxRule = word words.Box ∷ []
expr_front UnboxRule = word words.Unbox ∷ []
expr_front ExitRule = word words.Exit ∷ []
expr_front RepeatRule = word words.Repeat ∷ []

pub expr-terminals : (rule : ExprRule) (at : Place) (p : Parts (expr_pieces rule)) → expr_terminals (expr_tree rule at p) ≡ standing_at at (expr_front rule) ++ parts_terminals (expr_pieces rule) p
expr-terminals ParenRule at (inner, (close, end)) = refl
expr-terminals ValRule at (name, (written, (equals, (right, (semicolon, (body, end)))))) = rw append-nil refl
expr-terminals FunRule at (opening, (parameter, (colon, (takes, (close, (arrow, (body, end))))))) = rw append-nil refl
expr-terminals TypeFunRule at (opening, (parameter, (below, (bound, (close, (arrow, (body, end))))))) = rw append-nil refl
expr-terminals IfRule at (opening, (gives, (close, (test, (then', (positive, (else', (negative, end)))))))) = rw append-nil refl
expr-terminals BoundaryRule at (opening, (gives, (close, (exit, (arrow, (body, end)))))) = rw append-nil refl
expr-terminals BoxRule at (content, end) = rw append-nil refl
expr-terminals UnboxRule at (captures, (content, end)) = rw append-nil refl
expr-terminals ExitRule at (opening, (gives, (close, (paren, (exit, (comma, (value, (end, all)))))))) = refl
expr-terminals RepeatRule at (opening, (count, (comma, (function, (close, end))))) = refl

pub expr-height : (rule : ExprRule) (at : Place) (p : Parts (expr_pieces rule)) → expr_height (expr_tree rule at p) ≡ 1 + max 1 (parts_height (expr_pieces rule) p)
expr-height ParenRule at (inner, (close, end)) = omega (arith, expr-positive inner)
expr-height ValRule at (name, (written, (equals, (right, (semicolon, (body, end)))))) = omega (arith, expr-positive right)
expr-height FunRule at (opening, (parameter, (colon, (takes, (close, (arrow, (body, end))))))) = omega (arith, expr-positive body)
expr-height TypeFunRule at (opening, (parameter, (below, (bound, (close, (arrow, (body, end))))))) = omega (arith, expr-positive body)
expr-height IfRule at (opening, (gives, (close, (test, (then', (positive, (else', (negative, end)))))))) = omega (arith, expr-positive test)
expr-height BoundaryRule at (opening, (gives, (close, (exit, (arrow, (body, end)))))) = omega (arith, expr-positive body)
expr-height BoxRule at (content, end) = omega (arith, expr-positive content)
expr-height UnboxRule at (captures, (content, end)) = omega (arith, expr-positive content)
expr-height ExitRule at (opening, (gives, (close, (paren, (exit, (comma, (value, (end, all)))))))) = omega (arith, expr-positive exit)
expr-height RepeatRule at (opening, (count, (comma, (function, (close, end))))) = omega (arith, expr-positive count)

pub expr-made : (rule : ExprRule) (at : Place) (p : Parts (expr_pieces rule)) → AreParts (expr_pieces rule) p → IsExpr (expr_tree rule at p)
expr-made ParenRule at (inner, (close, end)) ((a, l), b) = a
expr-made ValRule at (name, (written, (equals, (right, (semicolon, (body, end)))))) (a, (b, (c, ((d, l), (e, ((f, m), g)))))) = (b, d, f)
expr-made FunRule at (opening, (parameter, (colon, (takes, (close, (arrow, (body, end))))))) (a, (b, (c, (d, (e, (f, ((g, l), h))))))) = (d, g)
expr-made TypeFunRule at (opening, (parameter, (below, (bound, (close, (arrow, (body, end))))))) (a, (b, (c, (d, (e, (f, ((g, l), h))))))) = (d, g)
expr-made IfRule at (opening, (gives, (close, (test, (then', (positive, (else', (negative, end)))))))) (a, (b, (c, ((d, l), (e, ((f, m), (g, ((h, n), i)))))))) = (b, d, f, h)
expr-made BoundaryRule at (opening, (gives, (close, (exit, (arrow, (body, end)))))) (a, (b, (c, (d, (e, ((f, l), g)))))) = (b, f)
expr-made BoxRule at (content, end) ((a, l), b) = (a, l)
expr-made UnboxRule at (captures, (content, end)) (a, ((b, l), c)) = (b, l)
expr-made ExitRule at (opening, (gives, (close, (paren, (exit, (comma, (value, (end, all)))))))) (a, (b, (c, (d, ((e, l), (f, ((g, m), h))))))) = (b, e, g)
expr-made RepeatRule at (opening, (count, (comma, (function, (close, end))))) (a, ((b, l), (c, ((d, m), e)))) = (b, d)

pub expr-level : (rule : ExprRule) (at : Place) (p : Parts (expr_pieces rule)) → level (expr_tree rule at p) ≡ rule_level rule
expr-level ParenRule at p = refl
expr-level ValRule at p = refl
expr-level FunRule at p = refl
expr-level TypeFunRule at p = refl
expr-level IfRule at p = refl
expr-level BoundaryRule at p = refl
expr-level BoxRule at p = refl
expr-level UnboxRule at p = refl
expr-level ExitRule at p = refl
expr-level RepeatRule at p = refl

pub expr-fair : (rule : ExprRule) → AreFair (expr_pieces rule)
expr-fair ParenRule = (omega arith, (tt, tt))
expr-fair ValRule = (tt, (tt, (tt, (omega arith, (tt, (omega arith, tt))))))
expr-fair FunRule = (tt, (tt, (tt, (tt, (tt, (tt, (omega arith, tt)))))))
expr-fair TypeFunRule = (tt, (tt, (tt, (tt, (tt, (tt, (omega arith, tt)))))))
expr-fair IfRule = (tt, (tt, (tt, (omega arith, (tt, (omega arith, (tt, (omega arith, tt))))))))
expr-fair BoundaryRule = (tt, (tt, (tt, (tt, (tt, (omega arith, tt))))))
expr-fair BoxRule = (omega arith, tt)
expr-fair UnboxRule = (tt, (omega arith, tt))
expr-fair ExitRule = (tt, (tt, (tt, (tt, (omega arith, (tt, (omega arith, (tt, tt))))))))
expr-fair RepeatRule = (tt, (omega arith, (tt, (omega arith, (tt, tt)))))

-- LINKS

abbrev pub link_front : LinkRule → List Terminal
link_front (OperatorRule operator) = symbol (operator_symbol operator) ∷ []
link_front CallRule = symbol symbols.Open ∷ []
link_front TypeCallRule = symbol symbols.OpenBracket ∷ []
link_front (AskRule operation) = symbol symbols.Dot ∷ named (operation_name operation) ∷ []
link_front (TellRule operation) = symbol symbols.Dot ∷ named (operation_name operation) ∷ []

pub link-terminals : (rule : LinkRule) (e : ExprSyntax) (p : Parts (link_pieces rule)) → expr_terminals (link_tree rule e p) ≡ standing_at (expr_place e) (expr_terminals e ++ (link_front rule ++ parts_terminals (link_pieces rule) p))
link-terminals (OperatorRule operator) e (right, end) = rw append-nil refl
link-terminals CallRule e (argument, (close, end)) = refl
link-terminals TypeCallRule e (argument, (close, end)) = refl
link-terminals (AskRule operation) e (opening, (close, end)) = refl
link-terminals (TellRule operation) e (opening, (argument, (close, end))) = refl

pub link-height : (rule : LinkRule) (e : ExprSyntax) (p : Parts (link_pieces rule)) → expr_height (link_tree rule e p) ≡ 1 + max (expr_height e) (parts_height (link_pieces rule) p)
link-height (OperatorRule operator) e (right, end) = omega arith
link-height CallRule e (argument, (close, end)) = omega arith
link-height TypeCallRule e (argument, (close, end)) = omega arith
link-height (AskRule operation) e (opening, (close, end)) = omega arith
link-height (TellRule operation) e (opening, (argument, (close, end))) = omega arith

-- how tight what the rule goes on has to be, and how tight what it makes is
abbrev pub rule_left : LinkRule → ℕ
rule_left (OperatorRule operator) = left_level operator
rule_left CallRule = 5
rule_left TypeCallRule = 5
rule_left (AskRule operation) = 5
rule_left (TellRule operation) = 5

abbrev pub rule_made : LinkRule → ℕ
rule_made (OperatorRule operator) = operator_level operator
rule_made CallRule = 5
rule_made TypeCallRule = 5
rule_made (AskRule operation) = 5
rule_made (TellRule operation) = 5

-- the operation is one with, or without, an argument
abbrev pub IsRule : LinkRule → Type 0
IsRule (OperatorRule operator) = ⊤
IsRule CallRule = ⊤
IsRule TypeCallRule = ⊤
IsRule (AskRule operation) = takes_argument operation ≡ false
IsRule (TellRule operation) = takes_argument operation ≡ true

pub link-made : (rule : LinkRule) (e : ExprSyntax) (p : Parts (link_pieces rule)) → IsExpr e → rule_left rule ≤ level e → IsRule rule → AreParts (link_pieces rule) p → IsExpr (link_tree rule e p)
link-made (OperatorRule operator) e (right, end) i l r ((a, m), b) = (i, a, l, m)
link-made CallRule e (argument, (close, end)) i l r ((a, m), b) = (i, a, l)
link-made TypeCallRule e (argument, (close, end)) i l r (a, b) = (i, a, l)
link-made (AskRule operation) e (opening, (close, end)) i l r a = (i, l, r)
link-made (TellRule operation) e (opening, (argument, (close, end))) i l r (a, ((b, m), c)) = (i, b, l, r)

pub link-level : (rule : LinkRule) (e : ExprSyntax) (p : Parts (link_pieces rule)) → level (link_tree rule e p) ≡ rule_made rule
link-level (OperatorRule operator) e p = refl
link-level CallRule e p = refl
link-level TypeCallRule e p = refl
link-level (AskRule operation) e p = refl
link-level (TellRule operation) e p = refl

operator-fair : (o : Operator) → 1 + operator_level o ≤ 5
operator-fair operators.Add = omega arith
operator-fair operators.Sub = omega arith
operator-fair operators.Mul = omega arith
operator-fair operators.Less = omega arith
operator-fair operators.Equal = omega arith

pub link-fair : (rule : LinkRule) → AreFair (link_pieces rule)
link-fair (OperatorRule operator) = (operator-fair operator, tt)
link-fair CallRule = (omega arith, (tt, tt))
link-fair TypeCallRule = (tt, (tt, tt))
link-fair (AskRule operation) = (tt, (tt, tt))
link-fair (TellRule operation) = (tt, (omega arith, (tt, tt)))

-- the token of a link
abbrev pub link_lexeme : Link → Lexeme
link_lexeme (OperatorLink operator) = SymbolLexeme (operator_symbol operator)
link_lexeme CallLink = SymbolLexeme symbols.Open
link_lexeme TypeCallLink = SymbolLexeme symbols.OpenBracket
link_lexeme DotLink = SymbolLexeme symbols.Dot

link-from : (l : Lexeme) (r s : Link) → l ≡ link_lexeme r → Some r ≡ Some s → l ≡ link_lexeme s
link-from l r s w e = let h : r ≡ s = cc in subst (λ x. l ≡ link_lexeme x) h w

pub link-is : (l : Lexeme) (link : Link) → link_of l ≡ Some link → l ≡ link_lexeme link
link-is (SymbolLexeme symbols.Plus) link e = link-from _ (OperatorLink operators.Add) link refl e
link-is (SymbolLexeme symbols.Minus) link e = link-from _ (OperatorLink operators.Sub) link refl e
link-is (SymbolLexeme symbols.Star) link e = link-from _ (OperatorLink operators.Mul) link refl e
link-is (SymbolLexeme symbols.Less) link e = link-from _ (OperatorLink operators.Less) link refl e
link-is (SymbolLexeme symbols.DoubleEquals) link e = link-from _ (OperatorLink operators.Equal) link refl e
link-is (SymbolLexeme symbols.Open) link e = link-from _ CallLink link refl e
link-is (SymbolLexeme symbols.OpenBracket) link e = link-from _ TypeCallLink link refl e
link-is (SymbolLexeme symbols.Dot) link e = link-from _ DotLink link refl e
link-is (SymbolLexeme _) link e = cc
link-is (NameLexeme x) link e = cc
link-is (NumberLexeme x) link e = cc
link-is (TextLexeme x) link e = cc
link-is (WordLexeme x) link e = cc

-- HEADS

-- an expression of one token
pub record WholeAt (at : Place) (l : Lexeme) (e : ExprSyntax) : Type 0 where
  pub is : IsExpr e
  pub tight : level e ≡ 5
  pub spelled : Spell (record { lexeme = l; at = at } ∷ []) (expr_terminals e)
  pub height : expr_height e ≡ 1

whole-from : (at : Place) (l : Lexeme) (r s : ExprSyntax) → WholeAt at l r → WholeExpr r ≡ WholeExpr s → WholeAt at l s
whole-from at l r s w e = let h : r ≡ s = cc in subst (WholeAt at l) h w

pub expr-whole : (at : Place) (l : Lexeme) (s : ExprSyntax) → expr_head at l ≡ WholeExpr s → WholeAt at l s
expr-whole at (NameLexeme x) s e = whole-from at _ _ s (record { is = tt; tight = refl; spelled = (refl, (refl, tt), tt); height = refl }) e
expr-whole at (NumberLexeme x) s e = whole-from at _ _ s (record { is = tt; tight = refl; spelled = (refl, (refl, tt), tt); height = refl }) e
expr-whole at (TextLexeme x) s e = whole-from at _ _ s (record { is = tt; tight = refl; spelled = (refl, (refl, tt), tt); height = refl }) e
expr-whole at (WordLexeme words.True) s e = whole-from at _ _ s (record { is = tt; tight = refl; spelled = (refl, (refl, tt), tt); height = refl }) e
expr-whole at (WordLexeme words.False) s e = whole-from at _ _ s (record { is = tt; tight = refl; spelled = (refl, (refl, tt), tt); height = refl }) e
expr-whole at (WordLexeme words.Unit) s e = whole-from at _ _ s (record { is = tt; tight = refl; spelled = (refl, (refl, tt), tt); height = refl }) e
expr-whole at (WordLexeme words.Val) s e = cc
expr-whole at (WordLexeme words.Fun) s e = cc
expr-whole at (WordLexeme words.If) s e = cc
expr-whole at (WordLexeme words.Boundary) s e = cc
expr-whole at (WordLexeme words.Box) s e = cc
expr-whole at (WordLexeme words.Unbox) s e = cc
expr-whole at (WordLexeme words.Exit) s e = cc
expr-whole at (WordLexeme words.Repeat) s e = cc
expr-whole at (WordLexeme _) s e = cc
expr-whole at (SymbolLexeme symbols.Open) s e = cc
expr-whole at (SymbolLexeme _) s e = cc

-- the token with which it starts
abbrev pub rule_lexeme : ExprRule → Lexeme
rule_lexeme ParenRule = SymbolLexeme symbols.Open
rule_lexeme ValRule = WordLexeme words.Val
rule_lexeme FunRule = WordLexeme words.Fun
rule_lexeme TypeFunRule = WordLexeme words.Fun
rule_lexeme IfRule = WordLexeme words.If
rule_lexeme BoundaryRule = WordLexeme words.Boundary
rule_lexeme BoxRule = WordLexeme words.Box
rule_lexeme UnboxRule = WordLexeme words.Unbox
rule_lexeme ExitRule = WordLexeme words.Exit
rule_lexeme RepeatRule = WordLexeme words.Repeat

pub rule-front : (rule : ExprRule) (t : PlacedLexeme) → t.lexeme ≡ rule_lexeme rule → Spell (t ∷ []) (standing_at t.at (expr_front rule))
rule-front ParenRule t e = (e, (refl, tt), tt)
rule-front ValRule t e = (e, (refl, tt), tt)
rule-front FunRule t e = (e, (refl, tt), tt)
rule-front TypeFunRule t e = (e, (refl, tt), tt)
rule-front IfRule t e = (e, (refl, tt), tt)
rule-front BoundaryRule t e = (e, (refl, tt), tt)
rule-front BoxRule t e = (e, (refl, tt), tt)
rule-front UnboxRule t e = (e, (refl, tt), tt)
rule-front ExitRule t e = (e, (refl, tt), tt)
rule-front RepeatRule t e = (e, (refl, tt), tt)

-- one rule of a start
abbrev pub start_rule : ExprStart → ExprRule
start_rule FunStart = FunRule
start_rule (RuleStart rule) = rule

starts-from : (l : Lexeme) (r s : ExprStart) → l ≡ rule_lexeme (start_rule r) → StartsExpr r ≡ StartsExpr s → l ≡ rule_lexeme (start_rule s)
starts-from l r s w e = let h : r ≡ s = cc in subst (λ x. l ≡ rule_lexeme (start_rule x)) h w

pub expr-starts : (at : Place) (l : Lexeme) (s : ExprStart) → expr_head at l ≡ StartsExpr s → l ≡ rule_lexeme (start_rule s)
expr-starts at (NameLexeme x) s e = cc
expr-starts at (NumberLexeme x) s e = cc
expr-starts at (TextLexeme x) s e = cc
expr-starts at (WordLexeme words.True) s e = cc
expr-starts at (WordLexeme words.False) s e = cc
expr-starts at (WordLexeme words.Unit) s e = cc
expr-starts at (WordLexeme words.Val) s e = starts-from _ (RuleStart ValRule) s refl e
expr-starts at (WordLexeme words.Fun) s e = starts-from _ FunStart s refl e
expr-starts at (WordLexeme words.If) s e = starts-from _ (RuleStart IfRule) s refl e
expr-starts at (WordLexeme words.Boundary) s e = starts-from _ (RuleStart BoundaryRule) s refl e
expr-starts at (WordLexeme words.Box) s e = starts-from _ (RuleStart BoxRule) s refl e
expr-starts at (WordLexeme words.Unbox) s e = starts-from _ (RuleStart UnboxRule) s refl e
expr-starts at (WordLexeme words.Exit) s e = starts-from _ (RuleStart ExitRule) s refl e
expr-starts at (WordLexeme words.Repeat) s e = starts-from _ (RuleStart RepeatRule) s refl e
expr-starts at (WordLexeme _) s e = cc
expr-starts at (SymbolLexeme symbols.Open) s e = starts-from _ (RuleStart ParenRule) s refl e
expr-starts at (SymbolLexeme _) s e = cc

-- the place of an expression is that of its first token
pub expr-first : (e : ExprSyntax) (ts : List PlacedLexeme) → Spell ts (expr_terminals e) → First (expr_place e) ts
expr-first (NameExpr at name) ts h = first-standing at [] _ _ ts h
expr-first (LiteralExpr at literal) ts h = first-standing at [] _ _ ts h
expr-first (ParenthesizedExpr at inner) ts h = first-standing at [] _ _ ts h
expr-first (ValExpr at name written right body) ts h = first-standing at [] _ _ ts h
expr-first (FunExpr at parameter takes body) ts h = first-standing at [] _ _ ts h
expr-first (TypeFunExpr at parameter bound body) ts h = first-standing at [] _ _ ts h
expr-first (IfExpr at gives test positive negative) ts h = first-standing at [] _ _ ts h
expr-first (BoundaryExpr at gives exit body) ts h = first-standing at [] _ _ ts h
expr-first (OperatorExpr at operator l r) ts h = first-standing at (expr_terminals l) _ _ ts h
expr-first (BoxExpr at content) ts h = first-standing at [] _ _ ts h
expr-first (UnboxExpr at captures content) ts h = first-standing at [] _ _ ts h
expr-first (CallExpr at function argument) ts h = first-standing at (expr_terminals function) _ _ ts h
expr-first (TypeCallExpr at function argument) ts h = first-standing at (expr_terminals function) _ _ ts h
expr-first (AskExpr at operation receiver) ts h = first-standing at (expr_terminals receiver) _ _ ts h
expr-first (TellExpr at operation receiver argument) ts h = first-standing at (expr_terminals receiver) _ _ ts h
expr-first (ExitExpr at gives exit value) ts h = first-standing at [] _ _ ts h
expr-first (RepeatExpr at count function) ts h = first-standing at [] _ _ ts h
