-- Links and the room that is spare: what is found behind a link leaves less room, so that with as many steps as there is
-- spare room all links are read, and one turn of a loop over them is what follows.
use Rattle.std.proofs.Common.{◌≡◌, ℕ, zero, suc, ◌≤◌, min, Bool, true, false, List, [], ◌∷◌, Option, Some, None, refl, arith, if◌then◌else◌}
use Rattle.std.specs.Prelude.{⊤}
use Rattle.cc_base.specs.declared.literal.Op.{Op}
use Rattle.cc_lex.specs.declared.token.Word.{Word}
use Rattle.cc_lex.specs.declared.token.Symbol.{Symbol}
use Rattle.cc_lex.specs.declared.token.Symbol.TheVariants as symbols
use Rattle.cc_lex.specs.Lexemes.{PlacedLexeme}
use Rattle.cc_grammar.specs.Syntax.{ExprSyntax}
use Rattle.cc_grammar.specs.Grammar.{takes_argument}
use Rattle.cc_grammar.specs.Tests.{is_word, is_symbol, name_of, operation_of}
use Rattle.cc_grammar.specs.Reading.{Found, Got, Wrong, High, Reader, Readers, ◌>>=◌, TypePart, Piece, AWord, ASymbol, AName, APlacedName, Captures, Written, Part, word_at, symbol_at, name_at, placed_name_at, PlacedName, SetState, AtFirst, AtNext, Behind, SetStep, Ends, Takes, Separates, Misfits, set_step, elements_at, captures_at, written_at, one_part_at, piece_at, pieces_at, Link, OperatorLink, CallLink, TypeCallLink, DotLink, LinkRule, OperatorRule, CallRule, TypeCallRule, AskRule, TellRule, link_pieces, link_tree, link_rule_at, operation_at, dot_at, link_at, next_link, links_at, behind_first}

-- no more room is spare
abbrev pub LeavesAtMost : {A : Type 0} → ℕ → Found A → Type 0
LeavesAtMost top (Got v s rest) = s ≤ top
LeavesAtMost top (Wrong rest) = ⊤
LeavesAtMost top (High rest) = ⊤

most-then : {A B : Type 0} (top : ℕ) (found : Found A) (next : A → ℕ → Reader B) → LeavesAtMost top found → ((v : A) (s : ℕ) (rest : List PlacedLexeme) → s ≤ top → LeavesAtMost top (next v s rest)) → LeavesAtMost top (found >>= next)
most-then top (Got v s rest) next h k = k v s rest h
most-then top (Wrong rest) next h k = tt
most-then top (High rest) next h k = tt

most-made : {A B : Type 0} (top : ℕ) (found : Found A) (f : A → B) → LeavesAtMost top found → LeavesAtMost top (found >>= λ v s rest. Got (f v) s rest)
most-made top found f h = most-then top found (λ v s rest. Got (f v) s rest) h (λ v s rest le. le)

most-any : {A B : Type 0} (top : ℕ) (found : Found A) (f : A → B) → LeavesAtMost top (found >>= λ v s rest. Got (f v) (min top s) rest)
most-any top (Got v s rest) f = omega arith
most-any top (Wrong rest) f = tt
most-any top (High rest) f = tt

word_at-most : (w : Word) (s : ℕ) (ts : List PlacedLexeme) → LeavesAtMost s (word_at w s ts)
unfolding word_at
word_at-most w s [] = tt
word_at-most w s (t ∷ ts) = go (is_word w t.lexeme)
  where
    go : (b : Bool) → LeavesAtMost {A = Unit {0}} s (if b then Got tt s ts else Wrong (t ∷ ts))
    go true = omega arith
    go false = tt

symbol_at-most : (w : Symbol) (s : ℕ) (ts : List PlacedLexeme) → LeavesAtMost s (symbol_at w s ts)
unfolding symbol_at
symbol_at-most w s [] = tt
symbol_at-most w s (t ∷ ts) = go (is_symbol w t.lexeme)
  where
    go : (b : Bool) → LeavesAtMost {A = Unit {0}} s (if b then Got tt s ts else Wrong (t ∷ ts))
    go true = omega arith
    go false = tt

name_at-most : (s : ℕ) (ts : List PlacedLexeme) → LeavesAtMost s (name_at s ts)
unfolding name_at
name_at-most s [] = tt
name_at-most s (t ∷ ts) = go (name_of t.lexeme)
  where
    go : (o : Option (List ℕ)) → LeavesAtMost s (elim o [ None ↦ Wrong (t ∷ ts) | Some name ↦ Got name s ts ])
    go None = tt
    go (Some name) = omega arith

placed_name_at-most : (s : ℕ) (ts : List PlacedLexeme) → LeavesAtMost s (placed_name_at s ts)
unfolding placed_name_at
placed_name_at-most s [] = tt
placed_name_at-most s (t ∷ ts) = go (name_of t.lexeme)
  where
    go : (o : Option (List ℕ)) → LeavesAtMost {A = PlacedName} s (elim o [ None ↦ Wrong (t ∷ ts) | Some name ↦ Got (t.at, name) s ts ])
    go None = tt
    go (Some name) = omega arith

elements_at-most : (state : SetState) (s : ℕ) (ts : List PlacedLexeme) → LeavesAtMost s (elements_at state s ts)
unfolding elements_at
elements_at-most state s [] = tt
elements_at-most state s (t ∷ ts) = go (set_step state t.lexeme) (elements_at-most Behind s ts) (elements_at-most AtNext s ts)
  where
    go : (step : SetStep) → LeavesAtMost s (elements_at Behind s ts) → LeavesAtMost s (elements_at AtNext s ts) → LeavesAtMost s (elim step [ Ends ↦ Got [] s ts | Takes name ↦ elements_at Behind s ts >>= λ more left rest. Got (record { at = t.at; name = name } ∷ more) left rest | Separates ↦ elements_at AtNext s ts | Misfits ↦ Wrong (t ∷ ts) ])
    go Ends a b = omega arith
    go (Takes name) a b = most-made s (elements_at Behind s ts) (λ more. record { at = t.at; name = name } ∷ more) a
    go Separates a b = b
    go Misfits a b = tt

captures_at-most : (s : ℕ) (ts : List PlacedLexeme) → LeavesAtMost s (captures_at s ts)
unfolding captures_at
captures_at-most s [] = omega arith
captures_at-most s (t ∷ ts) = go (is_symbol symbols.OpenBrace t.lexeme)
  where
    go : (b : Bool) → LeavesAtMost s (if b then (elements_at AtFirst s ts >>= λ elements left rest. Got (Some elements) left rest) else Got None s (t ∷ ts))
    go true = most-made s (elements_at AtFirst s ts) (λ elements. Some elements) (elements_at-most AtFirst s ts)
    go false = omega arith

written_at-most : (rd : Readers) (s : ℕ) (ts : List PlacedLexeme) → LeavesAtMost s (written_at rd s ts)
unfolding written_at
written_at-most rd s [] = omega arith
written_at-most rd s (t ∷ ts) = go (is_symbol symbols.Colon t.lexeme)
  where
    go : (b : Bool) → LeavesAtMost s (if b then (rd TypePart ts >>= λ written left rest. Got (Some written) (min s left) rest) else Got None s (t ∷ ts))
    go true = most-any s (rd TypePart ts) (λ written. Some written)
    go false = omega arith

piece_at-most : (rd : Readers) (piece : Piece) (s : ℕ) (ts : List PlacedLexeme) → LeavesAtMost s (piece_at rd piece s ts)
unfolding one_part_at
piece_at-most rd (AWord w) s ts = word_at-most w s ts
piece_at-most rd (ASymbol w) s ts = symbol_at-most w s ts
piece_at-most rd AName s ts = name_at-most s ts
piece_at-most rd APlacedName s ts = placed_name_at-most s ts
piece_at-most rd Captures s ts = captures_at-most s ts
piece_at-most rd Written s ts = written_at-most rd s ts
piece_at-most rd (Part kind) s ts = most-any s (rd kind ts) (λ v. v)

most-more : {A : Type 0} (s top : ℕ) (found : Found A) → s ≤ top → LeavesAtMost s found → LeavesAtMost top found
most-more s top (Got v left rest) le h = omega arith
most-more s top (Wrong rest) le h = tt
most-more s top (High rest) le h = tt

-- the pieces leave no more room than they are given
pub pieces_at-most : (rd : Readers) (pieces : List Piece) (s : ℕ) (ts : List PlacedLexeme) → LeavesAtMost s (pieces_at rd pieces s ts)
pieces_at-most rd [] s ts = omega arith
pieces_at-most rd (piece ∷ pieces) s ts =
    most-then s (piece_at rd piece s ts) (λ value left rest. pieces_at rd pieces left rest >>= λ values less behind. Got (value, values) less behind) (piece_at-most rd piece s ts)
    (λ value left rest le. most-more left s (pieces_at rd pieces left rest >>= λ values less behind. Got (value, values) less behind) le (most-made left (pieces_at rd pieces left rest) (λ values. (value, values)) (pieces_at-most rd pieces left rest)))

link_rule_at-most : (rd : Readers) (s : ℕ) (e : ExprSyntax) (rule : LinkRule) (ts : List PlacedLexeme) → LeavesAtMost s (link_rule_at rd s e rule ts)
unfolding link_rule_at
link_rule_at-most rd s e rule ts = most-made s (pieces_at rd (link_pieces rule) s ts) (link_tree rule e) (pieces_at-most rd (link_pieces rule) s ts)

dot_at-most : (rd : Readers) (s : ℕ) (e : ExprSyntax) (ts : List PlacedLexeme) → LeavesAtMost s (dot_at rd s e ts)
unfolding dot_at operation_at
dot_at-most rd s e [] = tt
dot_at-most rd s e (t ∷ ts) = go (operation_of t.lexeme)
  where
    operation : (o : Op) (b : Bool) → LeavesAtMost s (if b then link_rule_at rd s e (TellRule o) ts else link_rule_at rd s e (AskRule o) ts)
    operation o true = link_rule_at-most rd s e (TellRule o) ts
    operation o false = link_rule_at-most rd s e (AskRule o) ts

    go : (o : Option Op) → LeavesAtMost s (elim o [ None ↦ Wrong (t ∷ ts) | Some operation ↦ operation_at rd s e operation ts ])
    go None = tt
    go (Some o) = operation o (takes_argument o)

-- a link leaves no more room than it is given
pub link_at-most : (rd : Readers) (s : ℕ) (e : ExprSyntax) (link : Link) (ts : List PlacedLexeme) → LeavesAtMost s (link_at rd s e link ts)
unfolding link_at
link_at-most rd s e (OperatorLink operator) ts = link_rule_at-most rd s e (OperatorRule operator) ts
link_at-most rd s e CallLink ts = link_rule_at-most rd s e CallRule ts
link_at-most rd s e TypeCallLink ts = link_rule_at-most rd s e TypeCallRule ts
link_at-most rd s e DotLink ts = dot_at-most rd s e ts

same-then : {A B : Type 0} (top : ℕ) (found : Found A) (f g : A → ℕ → Reader B) → LeavesAtMost top found → ((v : A) (s : ℕ) (rest : List PlacedLexeme) → s ≤ top → f v s rest ≡ g v s rest) → (found >>= f) ≡ (found >>= g)
same-then top (Got v s rest) f g h k = k v s rest h
same-then top (Wrong rest) f g h k = refl
same-then top (High rest) f g h k = refl

-- more steps than there is spare room make no difference
pub links_at-steps : (rd : Readers) (least j k : ℕ) (e : ExprSyntax) (s : ℕ) (ts : List PlacedLexeme) → s ≤ j → s ≤ k → links_at rd least j e s ts ≡ links_at rd least k e s ts
unfolding links_at
links_at-steps rd least zero zero e s ts a b = refl
links_at-steps rd least zero (suc k) e zero ts a b = refl
links_at-steps rd least zero (suc k) e (suc s) ts a b = absurd (omega arith)
links_at-steps rd least (suc j) zero e zero ts a b = refl
links_at-steps rd least (suc j) zero e (suc s) ts a b = absurd (omega arith)
links_at-steps rd least (suc j) (suc k) e zero ts a b = refl
links_at-steps rd least (suc j) (suc k) e (suc s) ts a b =
    go (next_link least e ts) refl (λ link. same-then s (link_at rd s e link (behind_first ts)) (links_at rd least j) (links_at rd least k) (link_at-most rd s e link (behind_first ts)) (λ more less rest le. links_at-steps rd least j k more less rest (omega arith) (omega arith)))
  where
    go : (o : Option Link) → next_link least e ts ≡ o → ((link : Link) → (link_at rd s e link (behind_first ts) >>= links_at rd least j) ≡ (link_at rd s e link (behind_first ts) >>= links_at rd least k)) → links_at rd least (suc j) e (suc s) ts ≡ links_at rd least (suc k) e (suc s) ts
    go None h same = rw (h, links_at) refl
    go (Some link) h same = rw (h, links_at) (same link)

-- where no link goes on, the expression is all
pub links_at-none : (rd : Readers) (least : ℕ) (e : ExprSyntax) (s : ℕ) (ts : List PlacedLexeme) → next_link least e ts ≡ None → links_at rd least s e s ts ≡ Got e s ts
unfolding links_at
links_at-none rd least e zero ts h = rw (h, links_at) refl
links_at-none rd least e (suc s) ts h = rw (h, links_at) refl

-- where one goes on and no room is spare, it is too high
pub links_at-high : (rd : Readers) (least : ℕ) (e : ExprSyntax) (ts : List PlacedLexeme) (link : Link) → next_link least e ts ≡ Some link → links_at rd least zero e zero ts ≡ High ts
unfolding links_at
links_at-high rd least e ts link h = rw (h, links_at) refl

-- where one goes on, it is read, and what goes on that
pub links_at-some : (rd : Readers) (least : ℕ) (e : ExprSyntax) (s : ℕ) (ts : List PlacedLexeme) (link : Link) → next_link least e ts ≡ Some link → links_at rd least (suc s) e (suc s) ts ≡ (link_at rd s e link (behind_first ts) >>= λ more less rest. links_at rd least less more less rest)
unfolding links_at
links_at-some rd least e s ts link h =
    rw (h, links_at)
    (same-then s (link_at rd s e link (behind_first ts)) (λ more less rest. links_at rd least s more less rest) (λ more less rest. links_at rd least less more less rest) (link_at-most rd s e link (behind_first ts)) (λ more less rest le. links_at-steps rd least s less more less rest le (omega arith)))
