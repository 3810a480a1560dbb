-- The tests of tokens say which token it is, and the tokens of several terminals are those of each.
use Rattle.std.proofs.Common.{◌≡◌, ◌∙◌, ℕ, Bool, true, false, List, [], ◌∷◌, ◌++◌, get_or, codes, Some, None, refl, sym, ap, subst, if◌then◌else◌}
use Rattle.std.specs.Str.{bytes_eq}
use Rattle.std.proofs.lemmas.Bool.{eqb-true, eq-eqb}
use Rattle.std.proofs.lemmas.Slice.Eq.{bytes_eq-Decides}
use Rattle.cc_base.specs.declared.place.Place.{Place}
use Rattle.cc_base.specs.declared.literal.Op.{Op}
use Rattle.cc_base.specs.declared.literal.Op.TheVariants as ops
use Rattle.cc_lex.specs.declared.token.Word.{Word}
use Rattle.cc_lex.specs.declared.token.Word.TheVariants as words
use Rattle.cc_lex.specs.declared.token.Symbol.{Symbol}
use Rattle.cc_lex.specs.declared.token.Symbol.TheVariants as symbols
use Rattle.cc_lex.specs.Lexemes.{Lexeme, NameLexeme, NumberLexeme, TextLexeme, WordLexeme, SymbolLexeme, PlacedLexeme}
use Rattle.cc_grammar.specs.Grammar.{Terminal, standing_at, Spell, operation_name}
use Rattle.cc_grammar.specs.Tests.{word_number, symbol_number, is_word, is_symbol, name_of, operation_named, operation_of}

all_words : List Word
all_words = words.Import ∷ words.Def ∷ words.Rec ∷ words.Fun ∷ words.Val ∷ words.If ∷ words.Then ∷ words.Else ∷ words.Box ∷ words.Unbox ∷ words.Boundary ∷ words.Exit ∷ words.Repeat ∷ words.True ∷ words.False ∷ words.Unit ∷ words.Cap ∷ words.UnitType ∷ words.BoolType ∷ words.IntType ∷ words.StrType ∷ words.AnyType ∷ words.ConsoleType ∷ words.FileType ∷ words.CounterType ∷ words.ExitType ∷ words.BoxType ∷ []

all_symbols : List Symbol
all_symbols = symbols.Open ∷ symbols.Close ∷ symbols.OpenBracket ∷ symbols.CloseBracket ∷ symbols.OpenBrace ∷ symbols.CloseBrace ∷ symbols.Comma ∷ symbols.Colon ∷ symbols.Semicolon ∷ symbols.Dot ∷ symbols.Caret ∷ symbols.Question ∷ symbols.Equals ∷ symbols.DoubleEquals ∷ symbols.DoubleArrow ∷ symbols.Arrow ∷ symbols.Below ∷ symbols.Less ∷ symbols.Plus ∷ symbols.Minus ∷ symbols.Star ∷ []

word_of : (w : Word) → get_or all_words (word_number w) words.Import ≡ w
unfolding all_words
word_of words.Import = refl
word_of _ = refl

symbol_of : (w : Symbol) → get_or all_symbols (symbol_number w) symbols.Open ≡ w
unfolding all_symbols
symbol_of symbols.Open = refl
symbol_of _ = refl

-- the test of a word says that it is this word
pub word-is : (w : Word) (l : Lexeme) → is_word w l ≡ true → l ≡ WordLexeme w
word-is w (WordLexeme v) e =
    let same : word_number w ≡ word_number v = eqb-true (word_number w) (word_number v) e in
    ap WordLexeme (sym (word_of v) ∙ ap (λ n. get_or all_words n words.Import) (sym same) ∙ word_of w)
word-is w (NameLexeme x) e = cc
word-is w (NumberLexeme x) e = cc
word-is w (TextLexeme x) e = cc
word-is w (SymbolLexeme x) e = cc

pub symbol-is : (w : Symbol) (l : Lexeme) → is_symbol w l ≡ true → l ≡ SymbolLexeme w
symbol-is w (SymbolLexeme v) e =
    let same : symbol_number w ≡ symbol_number v = eqb-true (symbol_number w) (symbol_number v) e in
    ap SymbolLexeme (sym (symbol_of v) ∙ ap (λ n. get_or all_symbols n symbols.Open) (sym same) ∙ symbol_of w)
symbol-is w (NameLexeme x) e = cc
symbol-is w (NumberLexeme x) e = cc
symbol-is w (TextLexeme x) e = cc
symbol-is w (WordLexeme x) e = cc

pub is_word-same : (w : Word) (l : Lexeme) → l ≡ WordLexeme w → is_word w l ≡ true
is_word-same w l e = rw e (eq-eqb (word_number w) (word_number w) refl)

pub is_symbol-same : (w : Symbol) (l : Lexeme) → l ≡ SymbolLexeme w → is_symbol w l ≡ true
is_symbol-same w l e = rw e (eq-eqb (symbol_number w) (symbol_number w) refl)

pub name-is : (l : Lexeme) (x : List ℕ) → name_of l ≡ Some x → l ≡ NameLexeme x
name-is (NameLexeme y) x e = cc
name-is (NumberLexeme y) x e = cc
name-is (TextLexeme y) x e = cc
name-is (WordLexeme y) x e = cc
name-is (SymbolLexeme y) x e = cc

same-name : (x y : List ℕ) → bytes_eq x y ≡ true → x ≡ y
same-name x y = (bytes_eq-Decides x y).0

operation_named-is : (x : List ℕ) (o : Op) → operation_named x ≡ Some o → x ≡ operation_name o
unfolding operation_named
operation_named-is x o = go (bytes_eq x (codes "print")) (bytes_eq x (codes "say")) (bytes_eq x (codes "read")) (bytes_eq x (codes "write")) (bytes_eq x (codes "tick")) refl refl refl refl refl
  where
    is : (p : Op) → x ≡ operation_name p → Some p ≡ Some o → x ≡ operation_name o
    is p e h = let same : p ≡ o = cc in subst (λ q. x ≡ operation_name q) same e

    go : (a b c d e : Bool) → bytes_eq x (codes "print") ≡ a → bytes_eq x (codes "say") ≡ b → bytes_eq x (codes "read") ≡ c → bytes_eq x (codes "write") ≡ d → bytes_eq x (codes "tick") ≡ e → (if a then Some ops.Print else if b then Some ops.Say else if c then Some ops.Read else if d then Some ops.Write else if e then Some ops.Tick else None) ≡ Some o → x ≡ operation_name o
    go true b c d e p q r s t h = is ops.Print (same-name x _ p) h
    go false true c d e p q r s t h = is ops.Say (same-name x _ q) h
    go false false true d e p q r s t h = is ops.Read (same-name x _ r) h
    go false false false true e p q r s t h = is ops.Write (same-name x _ s) h
    go false false false false true p q r s t h = is ops.Tick (same-name x _ t) h
    go false false false false false p q r s t h = cc

pub operation-is : (l : Lexeme) (o : Op) → operation_of l ≡ Some o → l ≡ NameLexeme (operation_name o)
operation-is (NameLexeme x) o e = ap NameLexeme (operation_named-is x o e)
operation-is (NumberLexeme y) o e = cc
operation-is (TextLexeme y) o e = cc
operation-is (WordLexeme y) o e = cc
operation-is (SymbolLexeme y) o e = cc

named_operation : (o : Op) → operation_named (operation_name o) ≡ Some o
unfolding operation_named
named_operation ops.Print = refl
named_operation ops.Say = refl
named_operation ops.Read = refl
named_operation ops.Write = refl
named_operation ops.Tick = refl

pub operation_of-same : (l : Lexeme) (o : Op) → l ≡ NameLexeme (operation_name o) → operation_of l ≡ Some o
operation_of-same l o e = rw e (named_operation o)

-- SPELLING

pub spell-append : (xs ys : List PlacedLexeme) (ms ns : List Terminal) → Spell xs ms → Spell ys ns → Spell (xs ++ ys) (ms ++ ns)
spell-append [] ys [] ns h k = k
spell-append [] ys (a ∷ ms) ns h k = absurd h
spell-append (x ∷ xs) ys [] ns h k = absurd h
spell-append (x ∷ xs) ys (a ∷ ms) ns (l, p, h) k = (l, p, spell-append xs ys ms ns h k)

-- the tokens of terminals in two parts are in two parts
pub record Split (ts : List PlacedLexeme) (ms ns : List Terminal) : Type 0 where
  pub front : List PlacedLexeme
  pub back : List PlacedLexeme
  pub whole : ts ≡ front ++ back
  pub first : Spell front ms
  pub second : Spell back ns

pub spell-split : (ms ns : List Terminal) (ts : List PlacedLexeme) → Spell ts (ms ++ ns) → Split ts ms ns
spell-split [] ns ts h = record { front = []; back = ts; whole = refl; first = tt; second = h }
spell-split (a ∷ ms) ns [] h = absurd h
spell-split (a ∷ ms) ns (t ∷ ts) (l, p, h) =
    let s = spell-split ms ns ts h in
    record { front = t ∷ s.front; back = s.back; whole = ap (λ x. t ∷ x) s.whole; first = (l, p, s.first); second = s.second }

-- the tokens begin with one at this place
pub record First (at : Place) (ts : List PlacedLexeme) : Type 0 where
  pub token : PlacedLexeme
  pub more : List PlacedLexeme
  pub whole : ts ≡ token ∷ more
  pub place : token.at ≡ at

pub first-standing : (at : Place) (ms : List Terminal) (b : Terminal) (ns : List Terminal) (ts : List PlacedLexeme) → Spell ts (standing_at at (ms ++ b ∷ ns)) → First at ts
first-standing at [] b ns [] h = absurd h
first-standing at [] b ns (t ∷ ts) (l, (p, q), h) = record { token = t; more = ts; whole = refl; place = p }
first-standing at (a ∷ ms) b ns [] h = absurd h
first-standing at (a ∷ ms) b ns (t ∷ ts) (l, (p, q), h) = record { token = t; more = ts; whole = refl; place = p }

standing-first : (at : Place) (t : PlacedLexeme) (ts : List PlacedLexeme) (ms : List Terminal) → t.at ≡ at → Spell (t ∷ ts) ms → Spell (t ∷ ts) (standing_at at ms)
standing-first at t ts [] e h = absurd h
standing-first at t ts (a ∷ ms) e (l, p, h) = (l, (e, p), h)

-- what begins at the place stands at it
pub spell-standing : (at : Place) (pre ts : List PlacedLexeme) (ms : List Terminal) → First at pre → Spell (pre ++ ts) ms → Spell (pre ++ ts) (standing_at at ms)
spell-standing at pre ts ms f h =
    subst (λ x. Spell (x ++ ts) (standing_at at ms)) (sym f.whole)
    (standing-first at f.token (f.more ++ ts) ms f.place (subst (λ x. Spell (x ++ ts) ms) f.whole h))

-- what stands at a place spells the same without it
pub spell-unplaced : (at : Place) (ts : List PlacedLexeme) (ms : List Terminal) → Spell ts (standing_at at ms) → Spell ts ms
spell-unplaced at [] [] h = h
spell-unplaced at [] (a ∷ ms) h = absurd h
spell-unplaced at (t ∷ ts) [] h = absurd h
spell-unplaced at (t ∷ ts) (a ∷ ms) (l, (e, p), h) = (l, p, h)

-- the first token stands at the place
pub standing-place : (at : Place) (t : PlacedLexeme) (ts : List PlacedLexeme) (ms : List Terminal) → Spell (t ∷ ts) (standing_at at ms) → t.at ≡ at
standing-place at t ts [] h = absurd h
standing-place at t ts (m ∷ ms) (l, (p, q), h) = p

pub first-more : (at : Place) (front back : List PlacedLexeme) → First at front → First at (front ++ back)
first-more at front back f = record { token = f.token; more = f.more ++ back; whole = ap (λ x. x ++ back) f.whole; place = f.place }
