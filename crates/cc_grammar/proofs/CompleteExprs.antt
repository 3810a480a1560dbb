-- On the tokens of an expression its reader comes to the expression and reads what goes on it, or has no room for it.
use Rattle.std.proofs.Common.{◌≡◌, ◌∙◌, ◌⊎◌, inl, inr, ℕ, zero, suc, ◌+◌, ◌-◌, ◌<◌, ◌≤◌, min, max, Bool, true, false, nat_le, List, [], ◌∷◌, ◌++◌, Option, Some, None, refl, sym, ap, subst, append_assoc, arith}
use Rattle.std.proofs.lemmas.List.{append-nil}
use Rattle.std.proofs.lemmas.Bool.{le-leb}
use Rattle.std.proofs.lemmas.Bool.Decides.{leb_tells}
use Rattle.cc_base.specs.declared.place.Place.{Place}
use Rattle.cc_base.specs.declared.literal.Operator.{Operator}
use Rattle.cc_base.specs.declared.literal.Operator.TheVariants as operators
use Rattle.cc_base.specs.declared.literal.Op.{Op}
use Rattle.cc_base.specs.Literals.{Literal, UnitLiteral, TruthLiteral, NumberLiteral, TextLiteral}
use Rattle.cc_lex.specs.declared.token.Word.TheVariants as words
use Rattle.cc_lex.specs.declared.token.Symbol.TheVariants as symbols
use Rattle.cc_lex.specs.Lexemes.{NameLexeme, WordLexeme, SymbolLexeme, PlacedLexeme}
use Rattle.cc_grammar.specs.Syntax.{ElementSyntax, TypeSyntax, ShapeSyntax, ExprSyntax, NameExpr, LiteralExpr, ParenthesizedExpr, ValExpr, FunExpr, TypeFunExpr, IfExpr, BoundaryExpr, OperatorExpr, BoxExpr, UnboxExpr, CallExpr, TypeCallExpr, AskExpr, TellExpr, ExitExpr, RepeatExpr, expr_height}
use Rattle.cc_grammar.specs.Grammar.{word, symbol, named, standing_at, Spell, literal_lexeme, operator_symbol, operation_name, takes_argument, captures_terminals, written_terminals, type_terminals, shape_terminals, expr_terminals, IsWritten, IsExpr, operator_level, left_level, level}
use Rattle.cc_grammar.specs.Tests.{begins_symbol, is_symbol, operation_of}
use Rattle.cc_grammar.specs.Reading.{Found, Got, Wrong, High, Readers, ◌>>=◌, ShapePart, TypePart, ExprPart, Parts, pieces_at, ExprRule, ParenRule, ValRule, FunRule, TypeFunRule, IfRule, BoundaryRule, BoxRule, UnboxRule, ExitRule, RepeatRule, expr_pieces, expr_tree, expr_rule_at, fun_at, ExprStart, FunStart, RuleStart, start_level, expr_start_at, WholeExpr, StartsExpr, NoExpr, expr_head, Link, OperatorLink, CallLink, TypeCallLink, DotLink, link_of, link_level, link_left, LinkRule, OperatorRule, CallRule, TypeCallRule, AskRule, TellRule, link_pieces, expr_place, link_tree, link_rule_at, operation_at, dot_at, link_at, if_on, next_link, links_at, expr_over, nothing_at, part_at}
use Rattle.cc_grammar.proofs.Spelling.{symbol-is, is_symbol-same, operation_of-same, Split, spell-split, spell-unplaced, First, first-more, standing-place}
use Rattle.cc_grammar.proofs.PieceLanguages.{parts_terminals, parts_height}
use Rattle.cc_grammar.proofs.ExprRules.{expr-positive, expr-height, link_front, link-height, expr-first}
use Rattle.cc_grammar.proofs.Complete.{IsHigh, high-then, Bounded, BoundedBy, Loose, CapturesStop, Stopper, IsSane, StopsAll, LastStops, sane-stops, KindReads, WrittenReads, AllRead, pieces-read}
use Rattle.cc_grammar.proofs.CompleteShapes.{stop_close, stop_close_bracket, shape-read, type-read}

-- the readers of the parts one level below
abbrev pub below : ℕ → Readers
below zero = nothing_at
below (suc n) = part_at n

-- the reader comes to the expression, with the room that it leaves, and goes on behind it
pub record Reaches (height n least : ℕ) (e : ExprSyntax) (rest : List PlacedLexeme) (found : Found ExprSyntax) : Type 0 where
  pub low : height ≤ suc n → (steps : ℕ) × (suc n - height ≤ steps) × (found ≡ links_at (below n) least steps e (suc n - height) rest)
  pub high : suc n < height → IsHigh found

abbrev pub ExprReads : ExprSyntax → Type 0
ExprReads e = (n least : ℕ) (ts rest : List PlacedLexeme) → least ≤ level e → Spell ts (expr_terminals e) → Loose (suc (level e)) rest → Reaches (expr_height e) n least e rest (part_at n (ExprPart least) (ts ++ rest))

-- WHERE NOTHING GOES ON

not_le : (a b : ℕ) → b < a → nat_le a b ≡ false
not_le a b h = go (leb_tells a b)
  where
    go : ((nat_le a b ≡ true) × (a ≤ b)) ⊎ ((nat_le a b ≡ false) × (b < a)) → nat_le a b ≡ false
    go (inl k) = absurd (omega (arith, k.1))
    go (inr k) = k.0

next-none : (least : ℕ) (e : ExprSyntax) (rest : List PlacedLexeme) → Loose least rest → next_link least e rest ≡ None
unfolding next_link
next-none least e [] loose = refl
next-none least e (t ∷ ts) loose = go (link_of t.lexeme) refl
  where
    go : (o : Option Link) → link_of t.lexeme ≡ o → if_on least e o ≡ None
    go None h = refl
    go (Some link) h = rw (not_le least (link_level link) (loose link h)) refl

links-end : (rd : Readers) (least steps : ℕ) (e : ExprSyntax) (s : ℕ) (rest : List PlacedLexeme) → Loose least rest → links_at rd least steps e s rest ≡ Got e s rest
unfolding links_at
links-end rd least zero e s rest loose = rw (next-none least e rest loose, links_at) refl
links-end rd least (suc steps) e s rest loose = rw (next-none least e rest loose, links_at) refl

-- an expression as a part
pub kind-reads : (least : ℕ) (e : ExprSyntax) → least ≤ level e → ExprReads e → KindReads (ExprPart least) e
kind-reads least e le reads n ts rest h loose =
    let r = reads n least ts rest le h (λ link f. let small = loose link f in omega arith) in
    record { low = λ small. let k = r.low small in k.2 ∙ links-end (below n) least k.0 e _ rest loose; high = r.high }

link-positive : (link : Link) → 1 ≤ link_level link
link-positive (OperatorLink operators.Add) = omega arith
link-positive (OperatorLink operators.Sub) = omega arith
link-positive (OperatorLink operators.Mul) = omega arith
link-positive (OperatorLink operators.Less) = omega arith
link-positive (OperatorLink operators.Equal) = omega arith
link-positive CallLink = omega arith
link-positive TypeCallLink = omega arith
link-positive DotLink = omega arith

link-not-four : (link : Link) → link_level link < 5 → link_level link < 4
link-not-four (OperatorLink operators.Add) h = omega arith
link-not-four (OperatorLink operators.Sub) h = omega arith
link-not-four (OperatorLink operators.Mul) h = omega arith
link-not-four (OperatorLink operators.Less) h = omega arith
link-not-four (OperatorLink operators.Equal) h = omega arith
link-not-four CallLink h = omega arith
link-not-four TypeCallLink h = omega arith
link-not-four DotLink h = omega arith

pub loose-zero : (rest : List PlacedLexeme) → Loose 1 rest → Loose 0 rest
loose-zero rest loose link e = absurd (omega (arith, link-positive link, loose link e))

loose-four : (rest : List PlacedLexeme) → Loose 5 rest → Loose 4 rest
loose-four rest loose link e = link-not-four link (loose link e)

-- RULES

expr_rule-read : (rule : ExprRule) (at : Place) (p : Parts (expr_pieces rule)) → AllRead (expr_pieces rule) p → (m : ℕ) (ts rest : List PlacedLexeme) → StopsAll (expr_pieces rule) p rest → Spell ts (parts_terminals (expr_pieces rule) p) → Bounded (expr_height (expr_tree rule at p)) (suc m) (expr_rule_at (part_at m) m at rule (ts ++ rest)) (expr_tree rule at p) rest
unfolding expr_rule_at
expr_rule-read rule at p reads m ts rest stops h =
    let b = pieces-read (expr_pieces rule) p reads m m (omega arith) ts rest h stops in
    let height = expr-height rule at p in
    record {
      low = λ small.
          let spares : min m (suc m - parts_height (expr_pieces rule) p) ≡ suc (suc m) - expr_height (expr_tree rule at p) = omega arith in
          rw (b.low (omega arith)) (ap (λ x. Got (expr_tree rule at p) x rest) spares);
      high = λ great. high-then (pieces_at (part_at m) (expr_pieces rule) m (ts ++ rest)) _ (b.high (omega arith));
    }

-- an expression of more than one token, from its first token on
started : (start : ExprStart) (tree : Place → ExprSyntax) (height least : ℕ) (at : Place) (t : PlacedLexeme) (us rest : List PlacedLexeme) → expr_head t.at t.lexeme ≡ StartsExpr start → least ≤ start_level start → t.at ≡ at → 2 ≤ height → ((m : ℕ) → Bounded height (suc m) (expr_start_at (part_at m) m t.at start us) (tree t.at) rest) → (n : ℕ) → Reaches height n least (tree at) rest (part_at n (ExprPart least) (t ∷ us))
unfolding part_at expr_over
started start tree height least at t us rest e le p tall read zero =
    let f : nat_le least (start_level start) ≡ true = le-leb least (start_level start) le in
    let here : part_at zero (ExprPart least) (t ∷ us) ≡ High (t ∷ us) = rw (e, f, expr_over) refl in
    record { low = λ h. absurd (omega arith); high = λ h. subst IsHigh (sym here) tt }
started start tree height least at t us rest e le p tall read (suc m) =
    let f : nat_le least (start_level start) ≡ true = le-leb least (start_level start) le in
    let here : part_at (suc m) (ExprPart least) (t ∷ us) ≡ (expr_start_at (part_at m) m t.at start us >>= λ v s r. links_at (part_at m) least s v s r) = rw (e, f, expr_over) refl in
    let b = read m in
    record {
      low = λ h. (suc (suc m) - height, omega arith, here ∙ (rw (b.low h) (ap (λ a. links_at (part_at m) least (suc (suc m) - height) (tree a) (suc (suc m) - height) rest) p)));
      high = λ h. subst IsHigh (sym here) (high-then (expr_start_at (part_at m) m t.at start us) _ (b.high h));
    }

-- an expression of one token
whole : (tree : Place → ExprSyntax) (least : ℕ) (at : Place) (t : PlacedLexeme) (rest : List PlacedLexeme) → expr_head t.at t.lexeme ≡ WholeExpr (tree t.at) → t.at ≡ at → (n : ℕ) → Reaches 1 n least (tree at) rest (part_at n (ExprPart least) (t ∷ rest))
unfolding part_at expr_over
whole tree least at t rest e p n = record { low = λ h. (n, omega arith, here n ∙ ap (λ a. links_at (below n) least n (tree a) n rest) p ∙ ap (λ x. links_at (below n) least n (tree at) x rest) (omega arith)); high = λ h. absurd (omega arith) }
  where
    here : (n : ℕ) → part_at n (ExprPart least) (t ∷ rest) ≡ links_at (below n) least n (tree t.at) n rest
    here zero = rw (e, expr_over) refl
    here (suc m) = rw (e, expr_over) refl

name-reads : (at : Place) (x : List ℕ) → ExprReads (NameExpr at x)
name-reads at x n least [] rest le h loose = absurd h
name-reads at x n least (t ∷ []) rest le (l, (p, q), h) loose = whole (λ a. NameExpr a x) least at t rest (rw l refl) p n
name-reads at x n least (t ∷ u ∷ us) rest le (l, p, h) loose = absurd h

literal-head : (at : Place) (v : Literal) → expr_head at (literal_lexeme v) ≡ WholeExpr (LiteralExpr at v)
literal-head at UnitLiteral = refl
literal-head at (TruthLiteral true) = refl
literal-head at (TruthLiteral false) = refl
literal-head at (NumberLiteral number) = refl
literal-head at (TextLiteral text) = refl

literal-reads : (at : Place) (v : Literal) → ExprReads (LiteralExpr at v)
literal-reads at v n least [] rest le h loose = absurd h
literal-reads at v n least (t ∷ []) rest le (l, (p, q), h) loose = whole (λ a. LiteralExpr a v) least at t rest (ap (expr_head t.at) l ∙ literal-head t.at v) p n
literal-reads at v n least (t ∷ u ∷ us) rest le (l, p, h) loose = absurd h

pub stop_equals : Stopper (SymbolLexeme symbols.Equals)
stop_equals = record { link = refl; caret = refl; colon = refl; brace = refl }

stop_semicolon : Stopper (SymbolLexeme symbols.Semicolon)
stop_semicolon = record { link = refl; caret = refl; colon = refl; brace = refl }

stop_comma : Stopper (SymbolLexeme symbols.Comma)
stop_comma = record { link = refl; caret = refl; colon = refl; brace = refl }

stop_then : Stopper (WordLexeme words.Then)
stop_then = record { link = refl; caret = refl; colon = refl; brace = refl }

stop_else : Stopper (WordLexeme words.Else)
stop_else = record { link = refl; caret = refl; colon = refl; brace = refl }

-- any expression, where no tightness is wanted
pub any : (e : ExprSyntax) → ExprReads e → KindReads (ExprPart 0) e
any e reads = kind-reads 0 e (omega arith) reads

paren-reads : (at : Place) (inner : ExprSyntax) → ExprReads inner → ExprReads (ParenthesizedExpr at inner)
unfolding expr_start_at
paren-reads at inner reads n least [] rest le h loose = absurd h
paren-reads at inner reads n least (t ∷ us) rest le (l, (p, q), h) loose =
    started (RuleStart ParenRule) (λ a. ParenthesizedExpr a inner) (expr_height (ParenthesizedExpr at inner)) least at t (us ++ rest) rest (rw l refl) le p (omega (arith, expr-positive inner))
    (λ m. expr_rule-read ParenRule t.at (inner, (tt, tt)) (any inner reads, (tt, tt)) m us rest (sane-stops (expr_pieces ParenRule) (inner, (tt, tt)) rest (stop_close, tt) tt) h) n

pub written-reads : (written : Option TypeSyntax) → IsWritten written → WrittenReads written
written-reads None is = tt
written-reads (Some written) is = type-read written is

val-reads : (at : Place) (x : List ℕ) (written : Option TypeSyntax) (right body : ExprSyntax) → IsWritten written → ExprReads right → ExprReads body → ExprReads (ValExpr at x written right body)
unfolding expr_start_at
val-reads at x written right body is reads more n least [] rest le h loose = absurd h
val-reads at x written right body is reads more n least (t ∷ us) rest le (l, (p, q), h) loose =
    let same : named x ∷ (written_terminals written ++ symbol symbols.Equals ∷ (expr_terminals right ++ symbol symbols.Semicolon ∷ expr_terminals body)) ≡ parts_terminals (expr_pieces ValRule) (x, (written, (tt, (right, (tt, (body, tt)))))) = rw append-nil refl in
    started (RuleStart ValRule) (λ a. ValExpr a x written right body) (expr_height (ValExpr at x written right body)) least at t (us ++ rest) rest (rw l refl) le p (omega (arith, expr-positive right))
    (λ m. expr_rule-read ValRule t.at (x, (written, (tt, (right, (tt, (body, tt)))))) (tt, (written-reads written is, (tt, (any right reads, (tt, (any body more, tt)))))) m us rest (sane-stops (expr_pieces ValRule) (x, (written, (tt, (right, (tt, (body, tt)))))) rest (tt, (stop_equals, (tt, (stop_semicolon, (tt, tt))))) (loose-zero rest loose)) (subst (Spell us) same h)) n

fun-open : (rd : Readers) (m : ℕ) (at : Place) (u : PlacedLexeme) (us : List PlacedLexeme) → u.lexeme ≡ SymbolLexeme symbols.Open → fun_at rd m at (u ∷ us) ≡ expr_rule_at rd m at FunRule (u ∷ us)
unfolding fun_at
fun-open rd m at u us l = rw (is_symbol-same symbols.Open u.lexeme l) refl

fun-bracket : (rd : Readers) (m : ℕ) (at : Place) (u : PlacedLexeme) (us : List PlacedLexeme) → u.lexeme ≡ SymbolLexeme symbols.OpenBracket → fun_at rd m at (u ∷ us) ≡ expr_rule_at rd m at TypeFunRule (u ∷ us)
unfolding fun_at
fun-bracket rd m at u us l = let other : is_symbol symbols.Open u.lexeme ≡ false = rw l refl in rw other refl

fun-reads : (at : Place) (x : List ℕ) (takes : TypeSyntax) (body : ExprSyntax) → KindReads TypePart takes → ExprReads body → ExprReads (FunExpr at x takes body)
unfolding expr_start_at
fun-reads at x takes body reads more n least [] rest le h loose = absurd h
fun-reads at x takes body reads more n least (t ∷ []) rest le (l, (p, q), h) loose = absurd h
fun-reads at x takes body reads more n least (t ∷ u ∷ us) rest le (l, (p, q), (k, r, h)) loose =
    let same : symbol symbols.Open ∷ named x ∷ symbol symbols.Colon ∷ (type_terminals takes ++ symbol symbols.Close ∷ symbol symbols.DoubleArrow ∷ expr_terminals body) ≡ parts_terminals (expr_pieces FunRule) (tt, (x, (tt, (takes, (tt, (tt, (body, tt))))))) = rw append-nil refl in
    started FunStart (λ a. FunExpr a x takes body) (expr_height (FunExpr at x takes body)) least at t (u ∷ (us ++ rest)) rest (rw l refl) le p (omega (arith, expr-positive body))
    (λ m. subst (λ f. Bounded (expr_height (FunExpr at x takes body)) (suc m) f (FunExpr t.at x takes body) rest) (sym (fun-open (part_at m) m t.at u (us ++ rest) k))
    (expr_rule-read FunRule t.at (tt, (x, (tt, (takes, (tt, (tt, (body, tt))))))) (tt, (tt, (tt, (reads, (tt, (tt, (any body more, tt))))))) m (u ∷ us) rest (sane-stops (expr_pieces FunRule) (tt, (x, (tt, (takes, (tt, (tt, (body, tt))))))) rest (tt, (tt, (tt, (stop_close, (tt, (tt, tt)))))) (loose-zero rest loose)) (subst (Spell (u ∷ us)) same (k, r, h)))) n

type_fun-reads : (at : Place) (x : List ℕ) (bound : ShapeSyntax) (body : ExprSyntax) → KindReads ShapePart bound → ExprReads body → ExprReads (TypeFunExpr at x bound body)
unfolding expr_start_at
type_fun-reads at x bound body reads more n least [] rest le h loose = absurd h
type_fun-reads at x bound body reads more n least (t ∷ []) rest le (l, (p, q), h) loose = absurd h
type_fun-reads at x bound body reads more n least (t ∷ u ∷ us) rest le (l, (p, q), (k, r, h)) loose =
    let same : symbol symbols.OpenBracket ∷ named x ∷ symbol symbols.Below ∷ (shape_terminals bound ++ symbol symbols.CloseBracket ∷ symbol symbols.DoubleArrow ∷ expr_terminals body) ≡ parts_terminals (expr_pieces TypeFunRule) (tt, (x, (tt, (bound, (tt, (tt, (body, tt))))))) = rw append-nil refl in
    started FunStart (λ a. TypeFunExpr a x bound body) (expr_height (TypeFunExpr at x bound body)) least at t (u ∷ (us ++ rest)) rest (rw l refl) le p (omega (arith, expr-positive body))
    (λ m. subst (λ f. Bounded (expr_height (TypeFunExpr at x bound body)) (suc m) f (TypeFunExpr t.at x bound body) rest) (sym (fun-bracket (part_at m) m t.at u (us ++ rest) k))
    (expr_rule-read TypeFunRule t.at (tt, (x, (tt, (bound, (tt, (tt, (body, tt))))))) (tt, (tt, (tt, (reads, (tt, (tt, (any body more, tt))))))) m (u ∷ us) rest (sane-stops (expr_pieces TypeFunRule) (tt, (x, (tt, (bound, (tt, (tt, (body, tt))))))) rest (tt, (tt, (tt, (stop_close_bracket, (tt, (tt, tt)))))) (loose-zero rest loose)) (subst (Spell (u ∷ us)) same (k, r, h)))) n

if-reads : (at : Place) (gives : TypeSyntax) (test positive negative : ExprSyntax) → KindReads TypePart gives → ExprReads test → ExprReads positive → ExprReads negative → ExprReads (IfExpr at gives test positive negative)
unfolding expr_start_at
if-reads at gives test positive negative reads a b c n least [] rest le h loose = absurd h
if-reads at gives test positive negative reads a b c n least (t ∷ us) rest le (l, (p, q), h) loose =
    let same : symbol symbols.OpenBracket ∷ (type_terminals gives ++ symbol symbols.CloseBracket ∷ (expr_terminals test ++ word words.Then ∷ (expr_terminals positive ++ word words.Else ∷ expr_terminals negative))) ≡ parts_terminals (expr_pieces IfRule) (tt, (gives, (tt, (test, (tt, (positive, (tt, (negative, tt)))))))) = rw append-nil refl in
    started (RuleStart IfRule) (λ a. IfExpr a gives test positive negative) (expr_height (IfExpr at gives test positive negative)) least at t (us ++ rest) rest (rw l refl) le p (omega (arith, expr-positive test))
    (λ m. expr_rule-read IfRule t.at (tt, (gives, (tt, (test, (tt, (positive, (tt, (negative, tt)))))))) (tt, (reads, (tt, (any test a, (tt, (any positive b, (tt, (any negative c, tt)))))))) m us rest (sane-stops (expr_pieces IfRule) (tt, (gives, (tt, (test, (tt, (positive, (tt, (negative, tt)))))))) rest (tt, (stop_close_bracket, (tt, (stop_then, (tt, (stop_else, (tt, tt))))))) (loose-zero rest loose)) (subst (Spell us) same h)) n

boundary-reads : (at : Place) (gives : ShapeSyntax) (exit : List ℕ) (body : ExprSyntax) → KindReads ShapePart gives → ExprReads body → ExprReads (BoundaryExpr at gives exit body)
unfolding expr_start_at
boundary-reads at gives exit body reads more n least [] rest le h loose = absurd h
boundary-reads at gives exit body reads more n least (t ∷ us) rest le (l, (p, q), h) loose =
    let same : symbol symbols.OpenBracket ∷ (shape_terminals gives ++ symbol symbols.CloseBracket ∷ named exit ∷ symbol symbols.DoubleArrow ∷ expr_terminals body) ≡ parts_terminals (expr_pieces BoundaryRule) (tt, (gives, (tt, (exit, (tt, (body, tt)))))) = rw append-nil refl in
    started (RuleStart BoundaryRule) (λ a. BoundaryExpr a gives exit body) (expr_height (BoundaryExpr at gives exit body)) least at t (us ++ rest) rest (rw l refl) le p (omega (arith, expr-positive body))
    (λ m. expr_rule-read BoundaryRule t.at (tt, (gives, (tt, (exit, (tt, (body, tt)))))) (tt, (reads, (tt, (tt, (tt, (any body more, tt)))))) m us rest (sane-stops (expr_pieces BoundaryRule) (tt, (gives, (tt, (exit, (tt, (body, tt)))))) rest (tt, (stop_close_bracket, (tt, (tt, (tt, tt))))) (loose-zero rest loose)) (subst (Spell us) same h)) n

box-reads : (at : Place) (content : ExprSyntax) → 4 ≤ level content → ExprReads content → ExprReads (BoxExpr at content)
unfolding expr_start_at
box-reads at content tight reads n least [] rest le h loose = absurd h
box-reads at content tight reads n least (t ∷ us) rest le (l, (p, q), h) loose =
    let same : expr_terminals content ≡ parts_terminals (expr_pieces BoxRule) (content, tt) = rw append-nil refl in
    started (RuleStart BoxRule) (λ a. BoxExpr a content) (expr_height (BoxExpr at content)) least at t (us ++ rest) rest (rw l refl) le p (omega (arith, expr-positive content))
    (λ m. expr_rule-read BoxRule t.at (content, tt) (kind-reads 4 content tight reads, tt) m us rest (sane-stops (expr_pieces BoxRule) (content, tt) rest tt (loose-four rest loose)) (subst (Spell us) same h)) n

exit-reads : (at : Place) (gives : TypeSyntax) (exit value : ExprSyntax) → KindReads TypePart gives → ExprReads exit → ExprReads value → ExprReads (ExitExpr at gives exit value)
unfolding expr_start_at
exit-reads at gives exit value reads a b n least [] rest le h loose = absurd h
exit-reads at gives exit value reads a b n least (t ∷ us) rest le (l, (p, q), h) loose =
    started (RuleStart ExitRule) (λ a. ExitExpr a gives exit value) (expr_height (ExitExpr at gives exit value)) least at t (us ++ rest) rest (rw l refl) le p (omega (arith, expr-positive exit))
    (λ m. expr_rule-read ExitRule t.at (tt, (gives, (tt, (tt, (exit, (tt, (value, (tt, tt)))))))) (tt, (reads, (tt, (tt, (any exit a, (tt, (any value b, (tt, tt)))))))) m us rest (sane-stops (expr_pieces ExitRule) (tt, (gives, (tt, (tt, (exit, (tt, (value, (tt, tt)))))))) rest (tt, (stop_close_bracket, (tt, (tt, (stop_comma, (tt, (stop_close, tt))))))) tt) h) n

repeat-reads : (at : Place) (count function : ExprSyntax) → ExprReads count → ExprReads function → ExprReads (RepeatExpr at count function)
unfolding expr_start_at
repeat-reads at count function a b n least [] rest le h loose = absurd h
repeat-reads at count function a b n least (t ∷ us) rest le (l, (p, q), h) loose =
    started (RuleStart RepeatRule) (λ a. RepeatExpr a count function) (expr_height (RepeatExpr at count function)) least at t (us ++ rest) rest (rw l refl) le p (omega (arith, expr-positive count))
    (λ m. expr_rule-read RepeatRule t.at (tt, (count, (tt, (function, (tt, tt))))) (tt, (any count a, (tt, (any function b, (tt, tt))))) m us rest (sane-stops (expr_pieces RepeatRule) (tt, (count, (tt, (function, (tt, tt))))) rest (tt, (stop_comma, (tt, (stop_close, tt)))) tt) h) n

-- no expression begins with a brace
no-brace : (e : ExprSyntax) → ExprReads e → (ts rest : List PlacedLexeme) → Spell ts (expr_terminals e) → begins_symbol symbols.OpenBrace (ts ++ rest) ≡ false
unfolding part_at expr_over
no-brace e reads [] rest h = let f = expr-first e [] h in let g : [] ≡ f.token ∷ f.more = f.whole in cc
no-brace e reads (t ∷ ts) rest h = go (is_symbol symbols.OpenBrace t.lexeme) refl
  where
    refused : (n : ℕ) → t.lexeme ≡ SymbolLexeme symbols.OpenBrace → part_at n (ExprPart 0) (t ∷ (ts ++ [])) ≡ Wrong (t ∷ (ts ++ []))
    refused zero l = let e : expr_head t.at t.lexeme ≡ NoExpr = rw l refl in rw (e, expr_over) refl
    refused (suc n) l = let e : expr_head t.at t.lexeme ≡ NoExpr = rw l refl in rw (e, expr_over) refl

    no_link : (k : ℕ) → Loose k []
    no_link k link f = let g : None ≡ Some link = f in cc

    go : (b : Bool) → is_symbol symbols.OpenBrace t.lexeme ≡ b → is_symbol symbols.OpenBrace t.lexeme ≡ false
    go false f = f
    go true f =
        let r = (reads (expr_height e) 0 (t ∷ ts) [] (omega arith) h (no_link (suc (level e)))).low (omega arith) in
        let both : Wrong (t ∷ (ts ++ [])) ≡ Got e (suc (expr_height e) - expr_height e) [] = sym (refused (expr_height e) (symbol-is symbols.OpenBrace t.lexeme f)) ∙ r.2 ∙ links-end (below (expr_height e)) 0 r.0 e _ [] (no_link 0) in
        cc

unbox-reads : (at : Place) (captures : Option (List ElementSyntax)) (content : ExprSyntax) → 4 ≤ level content → ExprReads content → ExprReads (UnboxExpr at captures content)
unfolding expr_start_at
unbox-reads at captures content tight reads n least [] rest le h loose = absurd h
unbox-reads at captures content tight reads n least (t ∷ us) rest le (l, (p, q), h) loose =
    let same : captures_terminals captures ++ expr_terminals content ≡ parts_terminals (expr_pieces UnboxRule) (captures, (content, tt)) = rw append-nil refl in
    started (RuleStart UnboxRule) (λ a. UnboxExpr a captures content) (expr_height (UnboxExpr at captures content)) least at t (us ++ rest) rest (rw l refl) le p (omega (arith, expr-positive content))
    (λ m. expr_rule-read UnboxRule t.at (captures, (content, tt)) (tt, (kind-reads 4 content tight reads, tt)) m us rest (λ ts k. brace captures ts k, (λ ts k. last ts k, tt)) (subst (Spell us) same h)) n
  where
    brace : (c : Option (List ElementSyntax)) (ts : List PlacedLexeme) → Spell ts (expr_terminals content ++ []) → CapturesStop c (ts ++ rest)
    brace None ts k = no-brace content reads ts rest (subst (Spell ts) (append-nil (expr_terminals content)) k)
    brace (Some elements) ts k = tt

    last : (ts : List PlacedLexeme) → Spell ts [] → Loose 4 (ts ++ rest)
    last [] k = loose-four rest loose
    last (u ∷ ts) k = absurd k

-- LINKS

-- the tokens of a link and of what is behind it
record Dispatch (link : Link) (rule : LinkRule) (p : Parts (link_pieces rule)) (expr : ExprSyntax) (rest back : List PlacedLexeme) : Type 0 where
  token : PlacedLexeme
  more : List PlacedLexeme
  parts : List PlacedLexeme
  whole : back ≡ token ∷ more
  links : link_of token.lexeme ≡ Some link
  spelled : Spell parts (parts_terminals (link_pieces rule) p)
  same : (rd : Readers) (k : ℕ) → link_at rd k expr link (more ++ rest) ≡ link_rule_at rd k expr rule (parts ++ rest)

-- a link that goes on is the next one
next-some : (least : ℕ) (e : ExprSyntax) (t : PlacedLexeme) (ts : List PlacedLexeme) (link : Link) → link_of t.lexeme ≡ Some link → least ≤ link_level link → link_left link ≤ level e → next_link least e (t ∷ ts) ≡ Some link
unfolding next_link
next-some least e t ts link h a b = rw h (rw (le-leb least (link_level link) a) (rw (le-leb (link_left link) (level e) b) refl))

link-step : (rd : Readers) (least steps : ℕ) (e : ExprSyntax) (k : ℕ) (t : PlacedLexeme) (ts : List PlacedLexeme) (link : Link) → next_link least e (t ∷ ts) ≡ Some link → links_at rd least (suc steps) e (suc k) (t ∷ ts) ≡ (link_at rd k e link ts >>= λ more less r. links_at rd least steps more less r)
unfolding links_at
link-step rd least steps e k t ts link h = rw (h, links_at) refl

link-high : (rd : Readers) (least steps : ℕ) (e : ExprSyntax) (t : PlacedLexeme) (ts : List PlacedLexeme) (link : Link) → next_link least e (t ∷ ts) ≡ Some link → IsHigh (links_at rd least steps e zero (t ∷ ts))
unfolding links_at
link-high rd least zero e t ts link h = let f : links_at rd least zero e zero (t ∷ ts) ≡ High (t ∷ ts) = rw (h, links_at) refl in subst IsHigh (sym f) tt
link-high rd least (suc steps) e t ts link h = let f : links_at rd least (suc steps) e zero (t ∷ ts) ≡ High (t ∷ ts) = rw (h, links_at) refl in subst IsHigh (sym f) tt

-- the construct of a rule, behind its expression
link_rule-read : (rule : LinkRule) (e : ExprSyntax) (p : Parts (link_pieces rule)) → AllRead (link_pieces rule) p → IsSane (link_pieces rule) → (m k : ℕ) → k ≤ m → (ts rest : List PlacedLexeme) → LastStops (link_pieces rule) p rest → Spell ts (parts_terminals (link_pieces rule) p) → BoundedBy (parts_height (link_pieces rule) p) m k (link_rule_at (part_at m) k e rule (ts ++ rest)) (link_tree rule e p) rest
unfolding link_rule_at
link_rule-read rule e p reads sane m k le ts rest last h =
    let b = pieces-read (link_pieces rule) p reads m k le ts rest h (sane-stops (link_pieces rule) p rest sane last) in
    record { low = λ small. rw (b.low small) refl; high = λ great. high-then (pieces_at (part_at m) (link_pieces rule) k (ts ++ rest)) _ (b.high great) }

linked : (link : Link) (rule : LinkRule) (e : ExprSyntax) (p : Parts (link_pieces rule)) → ExprReads e → AllRead (link_pieces rule) p → IsSane (link_pieces rule) → link_level link ≤ link_left link → link_left link ≤ level e → (n least : ℕ) (front back rest : List PlacedLexeme) → least ≤ link_level link → Spell front (expr_terminals e) → Dispatch link rule p e rest back → LastStops (link_pieces rule) p rest → Reaches (expr_height (link_tree rule e p)) n least (link_tree rule e p) rest (part_at n (ExprPart least) (front ++ (back ++ rest)))
linked link rule e p reads all sane order tight n least front back rest le sp d last =
    subst (λ x. Reaches (expr_height (link_tree rule e p)) n least (link_tree rule e p) rest (part_at n (ExprPart least) (front ++ (x ++ rest)))) (sym d.whole)
    (go n (part_at n (ExprPart least) (front ++ (t ∷ ws))) (reads n least front (t ∷ ws) (omega arith) sp loose))
  where
    t : PlacedLexeme
    t = d.token

    ws : List PlacedLexeme
    ws = d.more ++ rest

    hl : ℕ
    hl = expr_height e

    ph : ℕ
    ph = parts_height (link_pieces rule) p

    height : expr_height (link_tree rule e p) ≡ 1 + max hl ph
    height = link-height rule e p

    positive : 1 ≤ hl
    positive = expr-positive e

    loose : Loose (suc (level e)) (t ∷ ws)
    loose k f =
        let g : Some link ≡ Some k = sym d.links ∙ f in
        let same : link ≡ k = cc in
        subst (λ x. link_level x < suc (level e)) same (omega arith)

    next : next_link least e (t ∷ ws) ≡ Some link
    next = next-some least e t ws link d.links le tight

    parts : (m k : ℕ) → k ≤ m → BoundedBy ph m k (link_at (part_at m) k e link ws) (link_tree rule e p) rest
    parts m k small = subst (λ x. BoundedBy ph m k x (link_tree rule e p) rest) (sym (d.same (part_at m) k)) (link_rule-read rule e p all sane m k small d.parts rest last d.spelled)

    low : (m : ℕ) (found : Found ExprSyntax) → expr_height (link_tree rule e p) ≤ suc (suc m) → (steps : ℕ) → suc (suc m) - hl ≤ steps → found ≡ links_at (part_at m) least steps e (suc (suc m) - hl) (t ∷ ws) → (more : ℕ) × (suc (suc m) - expr_height (link_tree rule e p) ≤ more) × (found ≡ links_at (part_at m) least more (link_tree rule e p) (suc (suc m) - expr_height (link_tree rule e p)) rest)
    low m found small zero enough f = absurd (omega (arith, height, positive))
    low m found small (suc steps) enough f =
        let spare : suc (suc m) - hl ≡ suc (suc m - hl) = omega (arith, height, positive) in
        let q : link_at (part_at m) (suc m - hl) e link ws ≡ Got (link_tree rule e p) (min (suc m - hl) (suc m - ph)) rest = (parts m (suc m - hl) (omega (arith, height, positive))).low (omega (arith, height, positive)) in
        let last_spare : min (suc m - hl) (suc m - ph) ≡ suc (suc m) - expr_height (link_tree rule e p) = omega (arith, height, positive) in (
          steps,
          omega (arith, height, positive),
          f ∙ ap (λ x. links_at (part_at m) least (suc steps) e x (t ∷ ws)) spare ∙ link-step (part_at m) least steps e (suc m - hl) t ws link next ∙
              (rw q (ap (λ x. links_at (part_at m) least steps (link_tree rule e p) x rest) last_spare)),
        )

    blocked : (rd : Readers) (found : Found ExprSyntax) (steps s : ℕ) → s ≡ 0 → found ≡ links_at rd least steps e s (t ∷ ws) → IsHigh found
    blocked rd found steps s none f = subst IsHigh (sym (f ∙ ap (λ x. links_at rd least steps e x (t ∷ ws)) none)) (link-high rd least steps e t ws link next)

    high : (m : ℕ) (found : Found ExprSyntax) → suc (suc m) < expr_height (link_tree rule e p) → hl ≤ suc m → (steps : ℕ) → suc (suc m) - hl ≤ steps → found ≡ links_at (part_at m) least steps e (suc (suc m) - hl) (t ∷ ws) → IsHigh found
    high m found great fits zero enough f = absurd (omega (arith, height, positive))
    high m found great fits (suc steps) enough f =
        let spare : suc (suc m) - hl ≡ suc (suc m - hl) = omega (arith, height, positive) in
        let g : found ≡ (link_at (part_at m) (suc m - hl) e link ws >>= λ more less r. links_at (part_at m) least steps more less r) = f ∙ ap (λ x. links_at (part_at m) least (suc steps) e x (t ∷ ws)) spare ∙ link-step (part_at m) least steps e (suc m - hl) t ws link next in
        subst IsHigh (sym g) (high-then (link_at (part_at m) (suc m - hl) e link ws) _ ((parts m (suc m - hl) (omega (arith, height, positive))).high (omega (arith, height, positive))))

    go : (n : ℕ) (found : Found ExprSyntax) → Reaches hl n least e (t ∷ ws) found → Reaches (expr_height (link_tree rule e p)) n least (link_tree rule e p) rest found
    go zero found r = record { low = λ h. absurd (omega (arith, height, positive)); high = λ h. alone (leb_tells hl 1) }
      where
        alone : ((nat_le hl 1 ≡ true) × (hl ≤ 1)) ⊎ ((nat_le hl 1 ≡ false) × (1 < hl)) → IsHigh found
        alone (inl k) = let q = r.low k.1 in blocked nothing_at found q.0 (1 - hl) (omega (arith, height, positive, k.1)) q.2
        alone (inr k) = r.high k.1
    go (suc m) found r = record { low = λ h. (let q = r.low (omega (arith, height, positive)) in low m found h q.0 q.1 q.2); high = λ h. alone h (leb_tells hl (suc (suc m))) (leb_tells hl (suc m)) }
      where
        alone : suc (suc m) < expr_height (link_tree rule e p) → ((nat_le hl (suc (suc m)) ≡ true) × (hl ≤ suc (suc m))) ⊎ ((nat_le hl (suc (suc m)) ≡ false) × (suc (suc m) < hl)) → ((nat_le hl (suc m) ≡ true) × (hl ≤ suc m)) ⊎ ((nat_le hl (suc m) ≡ false) × (suc m < hl)) → IsHigh found
        alone h (inr k) other = r.high k.1
        alone h (inl k) (inl j) = let q = r.low k.1 in high m found h j.1 q.0 q.1 q.2
        alone h (inl k) (inr j) = let q = r.low k.1 in blocked (part_at m) found q.0 (suc (suc m) - hl) (omega (arith, height, positive, k.1, j.1)) q.2

-- an expression that begins with one
link-reads : (link : Link) (rule : LinkRule) (at : Place) (tree : Place → ExprSyntax) (e : ExprSyntax) (p : Parts (link_pieces rule)) → link_tree rule e p ≡ tree (expr_place e) → level (tree at) ≡ link_level link → expr_height (tree at) ≡ expr_height (link_tree rule e p) → ((ts : List PlacedLexeme) → Spell ts (expr_terminals (tree at)) → Spell ts (standing_at at (expr_terminals e ++ (link_front rule ++ parts_terminals (link_pieces rule) p)))) → ExprReads e → AllRead (link_pieces rule) p → IsSane (link_pieces rule) → link_level link ≤ link_left link → link_left link ≤ level e → ((back rest : List PlacedLexeme) → Spell back (link_front rule ++ parts_terminals (link_pieces rule) p) → Dispatch link rule p e rest back) → ((rest : List PlacedLexeme) → Loose (suc (link_level link)) rest → LastStops (link_pieces rule) p rest) → ExprReads (tree at)
link-reads link rule at tree e p whole lev high tokens reads all sane order tight dispatch last n least ts rest le h loose =
    subst (λ x. Reaches (expr_height (tree at)) n least x rest (part_at n (ExprPart least) (ts ++ rest))) (whole ∙ ap tree place)
    (subst (λ x. Reaches x n least (link_tree rule e p) rest (part_at n (ExprPart least) (ts ++ rest))) (sym high)
    (subst (λ x. Reaches (expr_height (link_tree rule e p)) n least (link_tree rule e p) rest (part_at n (ExprPart least) x)) (sym split_whole)
    (linked link rule e p reads all sane order tight n least split.front split.back rest (subst (λ x. least ≤ x) lev le) split.first (dispatch split.back rest split.second) (last rest (subst (λ x. Loose (suc x) rest) lev loose)))))
  where
    spelled : Spell ts (standing_at at (expr_terminals e ++ (link_front rule ++ parts_terminals (link_pieces rule) p)))
    spelled = tokens ts h

    split : Split ts (expr_terminals e) (link_front rule ++ parts_terminals (link_pieces rule) p)
    split = spell-split (expr_terminals e) (link_front rule ++ parts_terminals (link_pieces rule) p) ts (spell-unplaced at ts _ spelled)

    split_whole : ts ++ rest ≡ split.front ++ (split.back ++ rest)
    split_whole = ap (λ x. x ++ rest) split.whole ∙ append_assoc split.front split.back rest

    first : First (expr_place e) ts
    first = subst (First (expr_place e)) (sym split.whole) (first-more (expr_place e) split.front split.back (expr-first e split.front split.first))

    stands : (us : List PlacedLexeme) → First (expr_place e) us → Spell us (standing_at at (expr_terminals e ++ (link_front rule ++ parts_terminals (link_pieces rule) p))) → expr_place e ≡ at
    stands [] f k = let g : [] ≡ f.token ∷ f.more = f.whole in cc
    stands (u ∷ us) f k =
        let g : u ∷ us ≡ f.token ∷ f.more = f.whole in
        let same : u ≡ f.token = cc in
        sym f.place ∙ ap (λ x. x.at) (sym same) ∙ standing-place at u us _ k

    place : expr_place e ≡ at
    place = stands ts first spelled

operator-link : (o : Operator) → link_of (SymbolLexeme (operator_symbol o)) ≡ Some (OperatorLink o)
operator-link operators.Add = refl
operator-link operators.Sub = refl
operator-link operators.Mul = refl
operator-link operators.Less = refl
operator-link operators.Equal = refl

operator-order : (o : Operator) → operator_level o ≤ left_level o
operator-order operators.Add = omega arith
operator-order operators.Sub = omega arith
operator-order operators.Mul = omega arith
operator-order operators.Less = omega arith
operator-order operators.Equal = omega arith

operator-reads : (at : Place) (o : Operator) (l r : ExprSyntax) → ExprReads l → ExprReads r → left_level o ≤ level l → 1 + operator_level o ≤ level r → ExprReads (OperatorExpr at o l r)
unfolding link_at
operator-reads at o l r reads more tight tighter =
    link-reads (OperatorLink o) (OperatorRule o) at (λ a. OperatorExpr a o l r) l (r, tt) refl refl refl
    (λ ts h. subst (Spell ts) same h) reads (kind-reads (1 + operator_level o) r tighter more, tt) tt (operator-order o) tight dispatch (λ rest loose link e. let small = loose link e in omega arith)
  where
    same : expr_terminals (OperatorExpr at o l r) ≡ standing_at at (expr_terminals l ++ (link_front (OperatorRule o) ++ parts_terminals (link_pieces (OperatorRule o)) (r, tt)))
    same = rw append-nil refl

    dispatch : (back rest : List PlacedLexeme) → Spell back (link_front (OperatorRule o) ++ parts_terminals (link_pieces (OperatorRule o)) (r, tt)) → Dispatch (OperatorLink o) (OperatorRule o) (r, tt) l rest back
    dispatch [] rest h = absurd h
    dispatch (t ∷ us) rest (e, p, h) = record { token = t; more = us; parts = us; whole = refl; links = ap link_of e ∙ operator-link o; spelled = h; same = λ rd k. refl }

call-reads : (at : Place) (f a : ExprSyntax) → ExprReads f → ExprReads a → 5 ≤ level f → ExprReads (CallExpr at f a)
unfolding link_at
call-reads at f a reads more tight =
    link-reads CallLink CallRule at (λ q. CallExpr q f a) f (a, (tt, tt)) refl refl refl
    (λ ts h. h) reads (any a more, (tt, tt)) (stop_close, tt) (omega arith) tight dispatch (λ rest loose. tt)
  where
    dispatch : (back rest : List PlacedLexeme) → Spell back (link_front CallRule ++ parts_terminals (link_pieces CallRule) (a, (tt, tt))) → Dispatch CallLink CallRule (a, (tt, tt)) f rest back
    dispatch [] rest h = absurd h
    dispatch (t ∷ us) rest (e, p, h) = record { token = t; more = us; parts = us; whole = refl; links = ap link_of e; spelled = h; same = λ rd k. refl }

type_call-reads : (at : Place) (f : ExprSyntax) (a : ShapeSyntax) → ExprReads f → KindReads ShapePart a → 5 ≤ level f → ExprReads (TypeCallExpr at f a)
unfolding link_at
type_call-reads at f a reads more tight =
    link-reads TypeCallLink TypeCallRule at (λ q. TypeCallExpr q f a) f (a, (tt, tt)) refl refl refl
    (λ ts h. h) reads (more, (tt, tt)) (stop_close_bracket, tt) (omega arith) tight dispatch (λ rest loose. tt)
  where
    dispatch : (back rest : List PlacedLexeme) → Spell back (link_front TypeCallRule ++ parts_terminals (link_pieces TypeCallRule) (a, (tt, tt))) → Dispatch TypeCallLink TypeCallRule (a, (tt, tt)) f rest back
    dispatch [] rest h = absurd h
    dispatch (t ∷ us) rest (e, p, h) = record { token = t; more = us; parts = us; whole = refl; links = ap link_of e; spelled = h; same = λ rd k. refl }

dot-ask : (rd : Readers) (k : ℕ) (e : ExprSyntax) (o : Op) (u : PlacedLexeme) (ts : List PlacedLexeme) → u.lexeme ≡ NameLexeme (operation_name o) → takes_argument o ≡ false → link_at rd k e DotLink (u ∷ ts) ≡ link_rule_at rd k e (AskRule o) ts
unfolding link_at dot_at operation_at
dot-ask rd k e o u ts l f = let g : operation_of u.lexeme ≡ Some o = operation_of-same u.lexeme o l in rw (g, dot_at) (rw f refl)

dot-tell : (rd : Readers) (k : ℕ) (e : ExprSyntax) (o : Op) (u : PlacedLexeme) (ts : List PlacedLexeme) → u.lexeme ≡ NameLexeme (operation_name o) → takes_argument o ≡ true → link_at rd k e DotLink (u ∷ ts) ≡ link_rule_at rd k e (TellRule o) ts
unfolding link_at dot_at operation_at
dot-tell rd k e o u ts l f = let g : operation_of u.lexeme ≡ Some o = operation_of-same u.lexeme o l in rw (g, dot_at) (rw f refl)

ask-reads : (at : Place) (o : Op) (e : ExprSyntax) → ExprReads e → 5 ≤ level e → takes_argument o ≡ false → ExprReads (AskExpr at o e)
ask-reads at o e reads tight takes =
    link-reads DotLink (AskRule o) at (λ q. AskExpr q o e) e (tt, (tt, tt)) refl refl (omega arith)
    (λ ts h. h) reads (tt, (tt, tt)) (tt, tt) (omega arith) tight dispatch (λ rest loose. tt)
  where
    dispatch : (back rest : List PlacedLexeme) → Spell back (link_front (AskRule o) ++ parts_terminals (link_pieces (AskRule o)) (tt, (tt, tt))) → Dispatch DotLink (AskRule o) (tt, (tt, tt)) e rest back
    dispatch [] rest h = absurd h
    dispatch (t ∷ []) rest (l, p, h) = absurd h
    dispatch (t ∷ u ∷ us) rest (l, p, (m, q, h)) = record { token = t; more = u ∷ us; parts = us; whole = refl; links = ap link_of l; spelled = h; same = λ rd k. dot-ask rd k e o u (us ++ rest) m takes }

tell-reads : (at : Place) (o : Op) (e a : ExprSyntax) → ExprReads e → ExprReads a → 5 ≤ level e → takes_argument o ≡ true → ExprReads (TellExpr at o e a)
tell-reads at o e a reads more tight takes =
    link-reads DotLink (TellRule o) at (λ q. TellExpr q o e a) e (tt, (a, (tt, tt))) refl refl refl
    (λ ts h. h) reads (tt, (any a more, (tt, tt))) (tt, (stop_close, tt)) (omega arith) tight dispatch (λ rest loose. tt)
  where
    dispatch : (back rest : List PlacedLexeme) → Spell back (link_front (TellRule o) ++ parts_terminals (link_pieces (TellRule o)) (tt, (a, (tt, tt)))) → Dispatch DotLink (TellRule o) (tt, (a, (tt, tt))) e rest back
    dispatch [] rest h = absurd h
    dispatch (t ∷ []) rest (l, p, h) = absurd h
    dispatch (t ∷ u ∷ us) rest (l, p, (m, q, h)) = record { token = t; more = u ∷ us; parts = us; whole = refl; links = ap link_of l; spelled = h; same = λ rd k. dot-tell rd k e o u (us ++ rest) m takes }

pub expr-read : (e : ExprSyntax) → IsExpr e → ExprReads e
expr-read (NameExpr at name) is = name-reads at name
expr-read (LiteralExpr at literal) is = literal-reads at literal
expr-read (ParenthesizedExpr at inner) is = paren-reads at inner (expr-read inner is)
expr-read (ValExpr at name written right body) is = val-reads at name written right body is.0 (expr-read right is.1) (expr-read body is.2)
expr-read (FunExpr at parameter takes body) is = fun-reads at parameter takes body (type-read takes is.0) (expr-read body is.1)
expr-read (TypeFunExpr at parameter bound body) is = type_fun-reads at parameter bound body (shape-read bound is.0) (expr-read body is.1)
expr-read (IfExpr at gives test positive negative) is = if-reads at gives test positive negative (type-read gives is.0) (expr-read test is.1) (expr-read positive is.2) (expr-read negative is.3)
expr-read (BoundaryExpr at gives exit body) is = boundary-reads at gives exit body (shape-read gives is.0) (expr-read body is.1)
expr-read (OperatorExpr at operator l r) is = operator-reads at operator l r (expr-read l is.0) (expr-read r is.1) is.2 is.3
expr-read (BoxExpr at content) is = box-reads at content is.1 (expr-read content is.0)
expr-read (UnboxExpr at captures content) is = unbox-reads at captures content is.1 (expr-read content is.0)
expr-read (CallExpr at function argument) is = call-reads at function argument (expr-read function is.0) (expr-read argument is.1) is.2
expr-read (TypeCallExpr at function argument) is = type_call-reads at function argument (expr-read function is.0) (shape-read argument is.1) is.2
expr-read (AskExpr at operation receiver) is = ask-reads at operation receiver (expr-read receiver is.0) is.1 is.2
expr-read (TellExpr at operation receiver argument) is = tell-reads at operation receiver argument (expr-read receiver is.0) (expr-read argument is.1) is.2 is.3
expr-read (ExitExpr at gives exit value) is = exit-reads at gives exit value (type-read gives is.0) (expr-read exit is.1) (expr-read value is.2)
expr-read (RepeatExpr at count function) is = repeat-reads at count function (expr-read count is.0) (expr-read function is.1)
