-- What the readers of expressions find is so.
use Rattle.std.proofs.Common.{◌≡◌, ◌∙◌, ℕ, zero, suc, ◌+◌, ◌≤◌, Bool, true, false, nat_le, ◌&&◌, List, [], ◌∷◌, ◌++◌, Option, Some, None, refl, sym, subst, append_assoc, arith, if◌then◌else◌}
use Rattle.std.proofs.lemmas.List.{append-nil}
use Rattle.std.proofs.lemmas.Bool.{leb-true}
use Rattle.cc_base.specs.declared.place.Place.{Place}
use Rattle.cc_base.specs.declared.literal.Op.{Op}
use Rattle.cc_base.specs.declared.literal.Op.TheVariants as ops
use Rattle.cc_lex.specs.declared.token.Symbol.TheVariants as symbols
use Rattle.cc_lex.specs.Lexemes.{Lexeme, NameLexeme, SymbolLexeme, PlacedLexeme}
use Rattle.cc_grammar.specs.Syntax.{ExprSyntax, expr_height}
use Rattle.cc_grammar.specs.Grammar.{standing_at, Spell, expr_terminals, operation_name, takes_argument, IsExpr, level}
use Rattle.cc_grammar.specs.Tests.{begins_symbol, operation_of}
use Rattle.cc_grammar.specs.Reading.{Found, Got, Wrong, High, Reader, Readers, ◌>>=◌, ShapePart, TypePart, ExprPart, Parts, pieces_at, ExprRule, FunRule, TypeFunRule, expr_pieces, expr_tree, rule_level, expr_rule_at, fun_at, ExprStart, FunStart, RuleStart, start_level, expr_start_at, ExprHead, WholeExpr, StartsExpr, NoExpr, expr_head, Link, OperatorLink, CallLink, TypeCallLink, DotLink, link_of, link_level, link_left, LinkRule, OperatorRule, CallRule, TypeCallRule, AskRule, TellRule, link_pieces, expr_place, link_tree, link_rule_at, operation_at, dot_at, link_at, goes_on, if_on, next_link, links_at, expr_over, part_over, part_at, nothing_at}
use Rattle.cc_grammar.proofs.Spelling.{operation-is, spell-append, spell-standing}
use Rattle.cc_grammar.proofs.Sure.{Language, SureAt, BeginsIn, BeginsSome, made-sure, shift-sure, chain-sure}
use Rattle.cc_grammar.proofs.PieceLanguages.{kind_language, parts_language, parts_height, parts_terminals, kind-filler, parts-filler}
use Rattle.cc_grammar.proofs.SurePieces.{via, refused, AreSure, pieces_at-sure}
use Rattle.cc_grammar.proofs.SureShapes.{AreSureBelow, TypesEnd, shape_over-sure, type_over-sure, type_over-ends}
use Rattle.cc_grammar.proofs.ExprRules.{expr_front, expr-terminals, expr-height, expr-made, expr-level, expr-fair, link_front, link-terminals, link-height, rule_left, rule_made, IsRule, link-made, link-level, link-fair, link_lexeme, link-is, WholeAt, expr-whole, rule_lexeme, rule-front, start_rule, expr-starts, expr-first}

-- expressions that are at least so tight
abbrev pub exprs : ℕ → Language ExprSyntax
exprs least = kind_language (ExprPart least)

-- RULES

lift : (least : ℕ) (rule : ExprRule) (at : Place) (pre : List PlacedLexeme) → least ≤ rule_level rule → Spell pre (standing_at at (expr_front rule)) → (p : Parts (expr_pieces rule)) (xs : List PlacedLexeme) → (parts_language (expr_pieces rule)).spells p xs → (exprs least).spells (expr_tree rule at p) (pre ++ xs)
lift least rule at pre le front p xs (are, sp) =
    ((expr-made rule at p are, rw (expr-level rule at p) le), subst (Spell (pre ++ xs)) (sym (expr-terminals rule at p)) (spell-append pre xs _ _ front sp))

expr_rule_at-sure : (rd : Readers) (n : ℕ) → AreSure rd n → (least : ℕ) (at : Place) (rule : ExprRule) (pre : List PlacedLexeme) → least ≤ rule_level rule → Spell pre (standing_at at (expr_front rule)) → (ts : List PlacedLexeme) → SureAt (exprs least) (suc (suc n)) (suc n) pre ts (expr_rule_at rd n at rule ts)
unfolding expr_rule_at
expr_rule_at-sure rd n sure least at rule pre le front ts =
    made-sure (parts_language (expr_pieces rule)) (exprs least) (expr_tree rule at) pre (lift least rule at pre le front) (suc n) n (suc (suc n)) (suc n)
    (λ a h. rw (expr-height rule at a) (omega arith))
    (λ a s h h'. (omega arith, rw (expr-height rule at a) (omega arith)))
    ts (pieces_at rd (expr_pieces rule) n ts) (pieces_at-sure rd n sure (expr_pieces rule) (expr-fair rule) n (omega arith) ts)

-- some expression of the rule goes on behind its front
begun : (least : ℕ) (at : Place) (rule : ExprRule) (pre : List PlacedLexeme) → least ≤ rule_level rule → Spell pre (standing_at at (expr_front rule)) → BeginsSome (exprs least) pre
begun least at rule pre le front =
    let f = parts-filler (expr_pieces rule) (expr-fair rule) in
    (expr_tree rule at f.value, f.tokens, lift least rule at pre le front f.value f.tokens f.spelled)

expr_start_at-sure : (rd : Readers) (n : ℕ) → AreSure rd n → (least : ℕ) (start : ExprStart) (t : PlacedLexeme) → least ≤ start_level start → t.lexeme ≡ rule_lexeme (start_rule start) → (ts : List PlacedLexeme) → SureAt (exprs least) (suc (suc n)) (suc n) (t ∷ []) ts (expr_start_at rd n t.at start ts)
unfolding expr_start_at fun_at
expr_start_at-sure rd n sure least (RuleStart rule) t le e ts = expr_rule_at-sure rd n sure least t.at rule (t ∷ []) le (rule-front rule t e) ts
expr_start_at-sure rd n sure least FunStart t le e ts = go (begins_symbol symbols.Open ts)
  where
    go : (b : Bool) → SureAt (exprs least) (suc (suc n)) (suc n) (t ∷ []) ts (if b then expr_rule_at rd n t.at FunRule ts else expr_rule_at rd n t.at TypeFunRule ts)
    go true = expr_rule_at-sure rd n sure least t.at FunRule (t ∷ []) le (rule-front FunRule t e) ts
    go false = expr_rule_at-sure rd n sure least t.at TypeFunRule (t ∷ []) le (rule-front TypeFunRule t e) ts

-- LINKS

-- an expression that the link goes on, behind the tokens that are its own, at a place that wants so tight a one
record Linked (least : ℕ) (e : ExprSyntax) (pre : List PlacedLexeme) (needs makes : ℕ) : Type 0 where
  is : IsExpr e
  spelled : Spell pre (expr_terminals e)
  tight : needs ≤ level e
  made : least ≤ makes

link_lift : (least : ℕ) (rule : LinkRule) (e : ExprSyntax) (pre front : List PlacedLexeme) → Linked least e pre (rule_left rule) (rule_made rule) → IsRule rule → Spell front (link_front rule) → (p : Parts (link_pieces rule)) (xs : List PlacedLexeme) → (parts_language (link_pieces rule)).spells p xs → (exprs least).spells (link_tree rule e p) (pre ++ front ++ xs)
link_lift least rule e pre front l is h p xs (are, sp) =
    let whole : Spell (pre ++ (front ++ xs)) (expr_terminals e ++ (link_front rule ++ parts_terminals (link_pieces rule) p)) = spell-append pre (front ++ xs) _ _ l.spelled (spell-append front xs _ _ h sp) in
    let stands = spell-standing (expr_place e) pre (front ++ xs) _ (expr-first e pre l.spelled) whole in
    ((link-made rule e p l.is l.tight is are, rw (link-level rule e p) l.made), subst (Spell (pre ++ front ++ xs)) (sym (link-terminals rule e p)) (rw append_assoc stands))

link_rule_at-sure : (rd : Readers) (n : ℕ) → AreSure rd n → (least k : ℕ) (rule : LinkRule) (e : ExprSyntax) (pre front : List PlacedLexeme) → Linked least e pre (rule_left rule) (rule_made rule) → IsRule rule → Spell front (link_front rule) → k ≤ n → k + expr_height e ≤ suc n → (ts : List PlacedLexeme) → SureAt (exprs least) (suc (suc n)) k (pre ++ front) ts (link_rule_at rd k e rule ts)
unfolding link_rule_at
link_rule_at-sure rd n sure least k rule e pre front l is h kn low ts =
    made-sure (parts_language (link_pieces rule)) (exprs least) (link_tree rule e) (pre ++ front) (link_lift least rule e pre front l is h) (suc n) k (suc (suc n)) k
    (λ a j. rw (link-height rule e a) (omega arith))
    (λ a s j j'. (j, rw (link-height rule e a) (omega arith)))
    ts (pieces_at rd (link_pieces rule) k ts) (pieces_at-sure rd n sure (link_pieces rule) (link-fair rule) k kn ts)

-- what the rule makes with parts of height 1
link_begun : (n least k : ℕ) (rule : LinkRule) (e : ExprSyntax) (pre front : List PlacedLexeme) → Linked least e pre (rule_left rule) (rule_made rule) → IsRule rule → Spell front (link_front rule) → expr_height e ≤ suc n → BeginsIn (exprs least) (suc (suc n)) (pre ++ front)
link_begun n least k rule e pre front l is h low =
    let f = parts-filler (link_pieces rule) (link-fair rule) in
    let small : parts_height (link_pieces rule) f.value ≤ 1 = f.low in
    (link_tree rule e f.value, f.tokens, rw (link-height rule e f.value) (omega arith), link_lift least rule e pre front l is h f.value f.tokens f.spelled)

any_read : PlacedLexeme
any_read = record { lexeme = NameLexeme (operation_name ops.Read); at = record { line = 1; col = 1 } }

-- some expression goes on behind a link
begun_link : (n least k : ℕ) (link : Link) (e : ExprSyntax) (pre : List PlacedLexeme) (t : PlacedLexeme) → Linked least e pre (link_left link) (link_level link) → t.lexeme ≡ link_lexeme link → expr_height e ≤ suc n → BeginsIn (exprs least) (suc (suc n)) (pre ++ t ∷ [])
unfolding any_read
begun_link n least k (OperatorLink operator) e pre t l h low = link_begun n least k (OperatorRule operator) e pre (t ∷ []) l tt (h, tt, tt) low
begun_link n least k CallLink e pre t l h low = link_begun n least k CallRule e pre (t ∷ []) l tt (h, tt, tt) low
begun_link n least k TypeCallLink e pre t l h low = link_begun n least k TypeCallRule e pre (t ∷ []) l tt (h, tt, tt) low
begun_link n least k DotLink e pre t l h low =
    let b = link_begun n least k (AskRule ops.Read) e pre (t ∷ any_read ∷ []) l refl (h, tt, (refl, tt, tt)) low in
    (b.0, any_read ∷ b.1, b.2, (b.3.0, subst (λ x. Spell x (expr_terminals b.0)) (append_assoc pre (t ∷ any_read ∷ []) b.1 ∙ sym (append_assoc pre (t ∷ []) (any_read ∷ b.1))) b.3.1))

-- a refusal before anything was taken
refused_at : (least room k : ℕ) (pre ts : List PlacedLexeme) → BeginsIn (exprs least) room pre → SureAt (exprs least) room k pre ts (Wrong ts)
refused_at least room k pre ts b = ([], refl, subst (BeginsIn (exprs least) room) (sym (append-nil pre)) b)

operation_at-sure : (rd : Readers) (n : ℕ) → AreSure rd n → (least k : ℕ) (o : Op) (e : ExprSyntax) (pre : List PlacedLexeme) (t u : PlacedLexeme) → Linked least e pre 5 5 → t.lexeme ≡ SymbolLexeme symbols.Dot → u.lexeme ≡ NameLexeme (operation_name o) → k ≤ n → k + expr_height e ≤ suc n → (ts : List PlacedLexeme) → SureAt (exprs least) (suc (suc n)) k (pre ++ t ∷ u ∷ []) ts (operation_at rd k e o ts)
unfolding operation_at
operation_at-sure rd n sure least k o e pre t u l h j kn low ts = go (takes_argument o) refl
  where
    go : (b : Bool) → takes_argument o ≡ b → SureAt (exprs least) (suc (suc n)) k (pre ++ t ∷ u ∷ []) ts (if b then link_rule_at rd k e (TellRule o) ts else link_rule_at rd k e (AskRule o) ts)
    go true f = link_rule_at-sure rd n sure least k (TellRule o) e pre (t ∷ u ∷ []) l f (h, tt, (j, tt, tt)) kn low ts
    go false f = link_rule_at-sure rd n sure least k (AskRule o) e pre (t ∷ u ∷ []) l f (h, tt, (j, tt, tt)) kn low ts

dot_at-sure : (rd : Readers) (n : ℕ) → AreSure rd n → (least k : ℕ) (e : ExprSyntax) (pre : List PlacedLexeme) (t : PlacedLexeme) → Linked least e pre 5 5 → t.lexeme ≡ SymbolLexeme symbols.Dot → k ≤ n → k + expr_height e ≤ suc n → (ts : List PlacedLexeme) → SureAt (exprs least) (suc (suc n)) k (pre ++ t ∷ []) ts (dot_at rd k e ts)
unfolding dot_at
dot_at-sure rd n sure least k e pre t l h kn low [] = refused_at least (suc (suc n)) k (pre ++ t ∷ []) [] (begun_link n least k DotLink e pre t l h (omega arith))
dot_at-sure rd n sure least k e pre t l h kn low (u ∷ us) = go (operation_of u.lexeme) refl
  where
    go : (o : Option Op) → operation_of u.lexeme ≡ o → SureAt (exprs least) (suc (suc n)) k (pre ++ t ∷ []) (u ∷ us) (dot_at rd k e (u ∷ us))
    go None f = via (exprs least) (suc (suc n)) k (pre ++ t ∷ []) (u ∷ us) (dot_at rd k e (u ∷ us)) (Wrong (u ∷ us)) (rw (f, dot_at) refl) (refused_at least (suc (suc n)) k (pre ++ t ∷ []) (u ∷ us) (begun_link n least k DotLink e pre t l h (omega arith)))
    go (Some o) f = via (exprs least) (suc (suc n)) k (pre ++ t ∷ []) (u ∷ us) (dot_at rd k e (u ∷ us)) (operation_at rd k e o us) (rw (f, dot_at) refl)
        (shift-sure (exprs least) (suc (suc n)) k (pre ++ t ∷ []) (u ∷ []) us (operation_at rd k e o us)
        (subst (λ x. SureAt (exprs least) (suc (suc n)) k x us (operation_at rd k e o us)) (sym (append_assoc pre (t ∷ []) (u ∷ [])))
        (operation_at-sure rd n sure least k o e pre t u l h (operation-is u.lexeme o f) kn low us)))

link_at-sure : (rd : Readers) (n : ℕ) → AreSure rd n → (least k : ℕ) (link : Link) (e : ExprSyntax) (pre : List PlacedLexeme) (t : PlacedLexeme) → Linked least e pre (link_left link) (link_level link) → t.lexeme ≡ link_lexeme link → k ≤ n → k + expr_height e ≤ suc n → (ts : List PlacedLexeme) → SureAt (exprs least) (suc (suc n)) k (pre ++ t ∷ []) ts (link_at rd k e link ts)
unfolding link_at
link_at-sure rd n sure least k (OperatorLink operator) e pre t l h kn low ts = link_rule_at-sure rd n sure least k (OperatorRule operator) e pre (t ∷ []) l tt (h, tt, tt) kn low ts
link_at-sure rd n sure least k CallLink e pre t l h kn low ts = link_rule_at-sure rd n sure least k CallRule e pre (t ∷ []) l tt (h, tt, tt) kn low ts
link_at-sure rd n sure least k TypeCallLink e pre t l h kn low ts = link_rule_at-sure rd n sure least k TypeCallRule e pre (t ∷ []) l tt (h, tt, tt) kn low ts
link_at-sure rd n sure least k DotLink e pre t l h kn low ts = dot_at-sure rd n sure least k e pre t l h kn low ts

-- a link that goes on
record GoesOn (least : ℕ) (e : ExprSyntax) (l : Lexeme) (link : Link) : Type 0 where
  is : l ≡ link_lexeme link
  made : least ≤ link_level link
  tight : link_left link ≤ level e

both : (a b : Bool) → (a && b) ≡ true → (a ≡ true) × (b ≡ true)
both true true e = (refl, refl)
both true false e = cc
both false b e = cc

goes-on : (least : ℕ) (e : ExprSyntax) (l : Lexeme) (link : Link) → if_on least e (link_of l) ≡ Some link → GoesOn least e l link
goes-on least e l link = go (link_of l) refl
  where
    here : (m : Link) → link_of l ≡ Some m → (b : Bool) → goes_on least e m ≡ b → (if b then Some m else None) ≡ Some link → GoesOn least e l link
    here m f false g h = cc
    here m f true g h =
        let same : m ≡ link = cc in
        let tests = both (nat_le least (link_level m)) (nat_le (link_left m) (level e)) g in
        subst (GoesOn least e l) same (record { is = link-is l m f; made = leb-true _ _ tests.0; tight = leb-true _ _ tests.1 })

    go : (o : Option Link) → link_of l ≡ o → if_on least e o ≡ Some link → GoesOn least e l link
    go None f h = cc
    go (Some m) f h = here m f (goes_on least e m) refl h

-- nothing goes on
done : (least room s : ℕ) (e : ExprSyntax) (pre ts : List PlacedLexeme) → IsExpr e → least ≤ level e → Spell pre (expr_terminals e) → s ≤ room → s + expr_height e ≤ suc room → SureAt (exprs least) (suc room) room pre ts (Got e s ts)
done least room s e pre ts is le sp sr low = ([], refl, ((is, le), subst (λ x. Spell x (expr_terminals e)) (sym (append-nil pre)) sp), sr, low)

-- what goes on is too high
high : (least room s : ℕ) (e : ExprSyntax) (pre : List PlacedLexeme) (t : PlacedLexeme) (ts : List PlacedLexeme) (link : Link) → IsExpr e → least ≤ level e → Spell pre (expr_terminals e) → s + expr_height e ≤ suc room → GoesOn least e t.lexeme link → SureAt (exprs least) (suc room) room pre (t ∷ ts) (High (t ∷ ts))
high least room s e pre t ts link is le sp low g =
    let b = begun_link (expr_height e) least zero link e pre t (record { is = is; spelled = sp; tight = g.tight; made = g.made }) g.is (omega arith) in (
      [],
      t,
      ts,
      refl,
      refl,
      (e, [], omega arith, ((is, le), subst (λ x. Spell x (expr_terminals e)) (sym (append-nil (pre ++ []) ∙ append-nil pre)) sp)),
      (b.0, b.1, subst (λ x. (exprs least).spells b.0 (x ++ t ∷ [] ++ b.1)) (sym (append-nil pre)) b.3),
    )

pub links_at-sure : (room : ℕ) (rd : Readers) → AreSureBelow room rd → (least steps : ℕ) (e : ExprSyntax) (s : ℕ) (pre : List PlacedLexeme) → IsExpr e → least ≤ level e → Spell pre (expr_terminals e) → s ≤ room → s ≤ steps → s + expr_height e ≤ suc room → (ts : List PlacedLexeme) → SureAt (exprs least) (suc room) room pre ts (links_at rd least steps e s ts)
unfolding links_at next_link
links_at-sure room rd sure least zero e s pre is le sp sr ss low [] = done least room s e pre [] is le sp sr low
links_at-sure room rd sure least zero e s pre is le sp sr ss low (t ∷ ts) = go (if_on least e (link_of t.lexeme)) refl
  where
    go : (o : Option Link) → if_on least e (link_of t.lexeme) ≡ o → SureAt (exprs least) (suc room) room pre (t ∷ ts) (links_at rd least zero e s (t ∷ ts))
    go None f = via (exprs least) (suc room) room pre (t ∷ ts) (links_at rd least zero e s (t ∷ ts)) (Got e s (t ∷ ts)) (rw (f, links_at) refl) (done least room s e pre (t ∷ ts) is le sp sr low)
    go (Some link) f = via (exprs least) (suc room) room pre (t ∷ ts) (links_at rd least zero e s (t ∷ ts)) (High (t ∷ ts)) (rw (f, links_at) refl) (high least room s e pre t ts link is le sp low (goes-on least e t.lexeme link f))
links_at-sure room rd sure least (suc steps) e s pre is le sp sr ss low [] = done least room s e pre [] is le sp sr low
links_at-sure room rd sure least (suc steps) e s pre is le sp sr ss low (t ∷ ts) = go room sure s sr ss low (if_on least e (link_of t.lexeme)) refl (λ n below v k q. links_at-sure (suc n) rd below least steps v k q)
  where
    more : (n k : ℕ) → ExprSyntax → Link → Found ExprSyntax
    more n k v link = link_at rd k v link ts >>= λ w less rest. links_at rd least steps w less rest

    go : (n : ℕ) → AreSureBelow n rd → (k : ℕ) → k ≤ n → k ≤ suc steps → k + expr_height e ≤ suc n → (o : Option Link) → if_on least e (link_of t.lexeme) ≡ o → ((m : ℕ) → AreSure rd m → (v : ExprSyntax) (j : ℕ) (q : List PlacedLexeme) → IsExpr v → least ≤ level v → Spell q (expr_terminals v) → j ≤ suc m → j ≤ steps → j + expr_height v ≤ suc (suc m) → (us : List PlacedLexeme) → SureAt (exprs least) (suc (suc m)) (suc m) q us (links_at rd least steps v j us)) → SureAt (exprs least) (suc n) n pre (t ∷ ts) (links_at rd least (suc steps) e k (t ∷ ts))
    go n below k kn ks low' None f next = via (exprs least) (suc n) n pre (t ∷ ts) (links_at rd least (suc steps) e k (t ∷ ts)) (Got e k (t ∷ ts)) (rw (f, links_at) refl) (done least n k e pre (t ∷ ts) is le sp kn low')
    go n below zero kn ks low' (Some link) f next = via (exprs least) (suc n) n pre (t ∷ ts) (links_at rd least (suc steps) e zero (t ∷ ts)) (High (t ∷ ts)) (rw (f, links_at) refl) (high least n zero e pre t ts link is le sp low' (goes-on least e t.lexeme link f))
    go zero below (suc k) kn ks low' (Some link) f next = absurd (omega arith)
    go (suc n) below (suc k) kn ks low' (Some link) f next =
        let g = goes-on least e t.lexeme link f in
        let linked : Linked least e pre (link_left link) (link_level link) = record { is = is; spelled = sp; tight = g.tight; made = g.made } in
        via (exprs least) (suc (suc n)) (suc n) pre (t ∷ ts) (links_at rd least (suc steps) e (suc k) (t ∷ ts)) (more n k e link) (rw (f, links_at) refl)
        (shift-sure (exprs least) (suc (suc n)) (suc n) pre (t ∷ []) ts (more n k e link)
        (chain-sure (exprs least) (suc (suc n)) k (suc n) (pre ++ t ∷ []) ts (link_at rd k e link ts) (links_at rd least steps)
        (link_at-sure rd n below least k link e pre t linked g.is (omega arith) (omega arith) ts)
        (λ v j front rest h jk small. next n below v j (pre ++ t ∷ [] ++ front) h.0.0 h.0.1 h.1 (omega arith) (omega arith) small rest)))

expr_over-sure : (room : ℕ) (rd : Readers) → AreSureBelow room rd → (least : ℕ) → least ≤ 5 → (ts : List PlacedLexeme) → SureAt (exprs least) (suc room) room [] ts (expr_over room rd least ts)
unfolding expr_over
expr_over-sure room rd sure least fair [] = refused (exprs least) (kind-filler (ExprPart least) fair) room room []
expr_over-sure room rd sure least fair (t ∷ ts) = go room sure (expr_head t.at t.lexeme) refl
  where
    starts : (n : ℕ) → AreSureBelow n rd → (start : ExprStart) (b : Bool) → expr_head t.at t.lexeme ≡ StartsExpr start → nat_le least (start_level start) ≡ b → SureAt (exprs least) (suc n) n [] (t ∷ ts) (expr_over n rd least (t ∷ ts))
    starts n below start false e f = via (exprs least) (suc n) n [] (t ∷ ts) (expr_over n rd least (t ∷ ts)) (Wrong (t ∷ ts)) (rw (e, f, expr_over) refl) (refused (exprs least) (kind-filler (ExprPart least) fair) n n (t ∷ ts))
    starts zero below start true e f =
        let filler = kind-filler (ExprPart least) fair in
        let b = begun least t.at (start_rule start) (t ∷ []) (tight start (leb-true _ _ f)) (rule-front (start_rule start) t (expr-starts t.at t.lexeme start e)) in
        via (exprs least) 1 zero [] (t ∷ ts) (expr_over zero rd least (t ∷ ts)) (High (t ∷ ts)) (rw (e, f, expr_over) refl) ([], t, ts, refl, refl, (filler.value, filler.tokens, filler.low, filler.spelled), (b.0, b.1, b.2))
      where
        tight : (start : ExprStart) → least ≤ start_level start → least ≤ rule_level (start_rule start)
        tight FunStart h = h
        tight (RuleStart rule) h = h
    starts (suc n) below start true e f =
        let next : ExprSyntax → ℕ → Reader ExprSyntax = λ v s rest. links_at rd least s v s rest in
        via (exprs least) (suc (suc n)) (suc n) [] (t ∷ ts) (expr_over (suc n) rd least (t ∷ ts)) (expr_start_at rd n t.at start ts >>= λ v s rest. links_at rd least s v s rest) (rw (e, f, expr_over) refl)
        (shift-sure (exprs least) (suc (suc n)) (suc n) [] (t ∷ []) ts (expr_start_at rd n t.at start ts >>= λ v s rest. links_at rd least s v s rest)
        (chain-sure (exprs least) (suc (suc n)) (suc n) (suc n) (t ∷ []) ts (expr_start_at rd n t.at start ts) (λ v s rest. links_at rd least s v s rest)
        (expr_start_at-sure rd n below least start t (leb-true _ _ f) (expr-starts t.at t.lexeme start e) ts)
        (λ v j front rest h jk small. links_at-sure (suc n) rd below least j v j (t ∷ front) h.0.0 h.0.1 h.1 jk (omega arith) small rest)))

    whole : (n : ℕ) → AreSureBelow n rd → (e : ExprSyntax) → WholeAt t.at t.lexeme e → SureAt (exprs least) (suc n) n [] (t ∷ ts) (links_at rd least n e n ts)
    whole n below e w = shift-sure (exprs least) (suc n) n [] (t ∷ []) ts (links_at rd least n e n ts) (links_at-sure n rd below least n e n (t ∷ []) w.is (rw w.tight fair) w.spelled (omega arith) (omega arith) (rw w.height (omega arith)) ts)

    go : (n : ℕ) → AreSureBelow n rd → (head : ExprHead) → expr_head t.at t.lexeme ≡ head → SureAt (exprs least) (suc n) n [] (t ∷ ts) (expr_over n rd least (t ∷ ts))
    go n below (WholeExpr e) f = via (exprs least) (suc n) n [] (t ∷ ts) (expr_over n rd least (t ∷ ts)) (links_at rd least n e n ts) (rw (f, expr_over) refl) (whole n below e (expr-whole t.at t.lexeme e f))
    go n below (StartsExpr start) f = starts n below start (nat_le least (start_level start)) f refl
    go n below NoExpr f = via (exprs least) (suc n) n [] (t ∷ ts) (expr_over n rd least (t ∷ ts)) (Wrong (t ∷ ts)) (rw (f, expr_over) refl) (refused (exprs least) (kind-filler (ExprPart least) fair) n n (t ∷ ts))

part_over-sure : (room : ℕ) (rd : Readers) → AreSureBelow room rd → TypesEnd rd → AreSure (part_over room rd) room
part_over-sure room rd sure ends ShapePart fair = shape_over-sure room rd sure
part_over-sure room rd sure ends TypePart fair = type_over-sure room rd sure ends
part_over-sure room rd sure ends (ExprPart least) fair = expr_over-sure room rd sure least fair

part_at-ends : (room : ℕ) → TypesEnd (part_at room)
unfolding part_at
part_at-ends zero = type_over-ends zero nothing_at
part_at-ends (suc room) = type_over-ends (suc room) (part_at room)

pub part_at-sure : (room : ℕ) → AreSure (part_at room) room
unfolding part_at
part_at-sure zero = part_over-sure zero nothing_at tt (λ ts. tt)
part_at-sure (suc room) = part_over-sure (suc room) (part_at room) (part_at-sure room) (part_at-ends room)
