-- On the tokens of a tree a reader gives the tree, with the room that it leaves, or has no room for it: it never refuses them.
use Rattle.std.proofs.Common.{◌≡◌, ◌∙◌, ◌⊎◌, inl, inr, ℕ, suc, ◌-◌, ◌<◌, ◌≤◌, min, max, true, false, nat_le, List, [], ◌∷◌, ◌++◌, Option, Some, None, refl, sym, ap, subst, append_assoc, arith}
use Rattle.std.specs.Prelude.{⊤}
use Rattle.std.proofs.lemmas.Bool.Decides.{leb_tells}
use Rattle.cc_base.specs.declared.place.Place.{Place}
use Rattle.cc_lex.specs.declared.token.Word.{Word}
use Rattle.cc_lex.specs.declared.token.Symbol.{Symbol}
use Rattle.cc_lex.specs.declared.token.Symbol.TheVariants as symbols
use Rattle.cc_lex.specs.Lexemes.{Lexeme, WordLexeme, SymbolLexeme, PlacedLexeme}
use Rattle.cc_grammar.specs.Syntax.{ElementSyntax, SetSyntax, AbsentSet, OmittedSet, WrittenSet, TypeSyntax, CapturingType, ShapeSyntax, FunctionShape, TypeFunctionShape, written_height, type_height}
use Rattle.cc_grammar.specs.Grammar.{Terminal, word, symbol, standing_at, Spell, element_lexeme, set_terminals, captures_terminals}
use Rattle.cc_grammar.specs.Tests.{is_symbol, begins_symbol}
use Rattle.cc_grammar.specs.Reading.{Found, Got, Wrong, High, Reader, ◌>>=◌, Kind, ShapePart, TypePart, ExprPart, Value, Piece, AWord, ASymbol, AName, APlacedName, Captures, Written, Part, PieceValue, Parts, word_at, symbol_at, name_at, placed_name_at, SetState, AtFirst, AtNext, Behind, Ends, Takes, Separates, set_step, elements_at, caret_at, set_at, captures_at, written_at, one_part_at, piece_at, pieces_at, Link, link_of, link_level, part_at}
use Rattle.cc_grammar.proofs.Spelling.{is_word-same, is_symbol-same, spell-split}
use Rattle.cc_grammar.proofs.PieceLanguages.{kind_terminals, kind_height, piece_terminals, piece_height, parts_terminals, parts_height}
use Rattle.cc_grammar.proofs.SurePieces.{state_terminals}

abbrev pub IsHigh : {A : Type 0} → Found A → Type 0
IsHigh (Got v s rest) = ⊥
IsHigh (Wrong rest) = ⊥
IsHigh (High rest) = ⊤

pub high-then : {A B : Type 0} (found : Found A) (next : A → ℕ → Reader B) → IsHigh found → IsHigh (found >>= next)
high-then (Got v s rest) next h = absurd h
high-then (Wrong rest) next h = absurd h
high-then (High rest) next h = tt

-- a value of this height, with so many levels below it and so much room spare
pub record BoundedBy {A : Type 0} (height n spare : ℕ) (found : Found A) (v : A) (rest : List PlacedLexeme) : Type 0 where
  pub low : height ≤ suc n → found ≡ Got v (min spare (suc n - height)) rest
  pub high : suc n < height → IsHigh found

pub record Bounded {A : Type 0} (height n : ℕ) (found : Found A) (v : A) (rest : List PlacedLexeme) : Type 0 where
  pub low : height ≤ suc n → found ≡ Got v (suc n - height) rest
  pub high : suc n < height → IsHigh found

flat : {A : Type 0} (n s : ℕ) (found : Found A) (v : A) (rest : List PlacedLexeme) → s ≤ n → found ≡ Got v s rest → BoundedBy 0 n s found v rest
flat n s found v rest le e = record { low = λ h. e ∙ ap (λ x. Got v x rest) (omega arith); high = λ h. absurd (omega arith) }

-- WHERE A PART STOPS

abbrev pub front_link : List PlacedLexeme → Option Link
front_link [] = None
front_link (t ∷ ts) = link_of t.lexeme

-- no link that is so tight, or tighter, follows
abbrev pub Loose : ℕ → List PlacedLexeme → Type 0
Loose least rest = (link : Link) → front_link rest ≡ Some link → link_level link < least

abbrev pub SetStops : SetSyntax → List PlacedLexeme → Type 0
SetStops AbsentSet rest = begins_symbol symbols.Caret rest ≡ false
SetStops (OmittedSet at) rest = ⊤
SetStops (WrittenSet elements) rest = ⊤

abbrev pub TypeStops : TypeSyntax → List PlacedLexeme → Type 0
TypeStops (CapturingType at shape set) rest = SetStops set rest

abbrev pub ShapeStops : ShapeSyntax → List PlacedLexeme → Type 0
ShapeStops (FunctionShape at x takes gives) rest = TypeStops gives rest
ShapeStops (TypeFunctionShape at x bound gives) rest = TypeStops gives rest
ShapeStops _ rest = ⊤

abbrev pub KindStops : (kind : Kind) → Value kind → List PlacedLexeme → Type 0
KindStops ShapePart v rest = ShapeStops v rest
KindStops TypePart v rest = TypeStops v rest
KindStops (ExprPart least) v rest = Loose least rest

abbrev pub CapturesStop : Option (List ElementSyntax) → List PlacedLexeme → Type 0
CapturesStop None rest = begins_symbol symbols.OpenBrace rest ≡ false
CapturesStop (Some elements) rest = ⊤

abbrev pub WrittenStops : Option TypeSyntax → List PlacedLexeme → Type 0
WrittenStops None rest = begins_symbol symbols.Colon rest ≡ false
WrittenStops (Some written) rest = TypeStops written rest

abbrev pub PieceStops : (piece : Piece) → PieceValue piece → List PlacedLexeme → Type 0
PieceStops (AWord w) v rest = ⊤
PieceStops (ASymbol w) v rest = ⊤
PieceStops AName v rest = ⊤
PieceStops APlacedName v rest = ⊤
PieceStops Captures v rest = CapturesStop v rest
PieceStops Written v rest = WrittenStops v rest
PieceStops (Part kind) v rest = KindStops kind v rest

-- a token before which every piece stops
pub record Stopper (l : Lexeme) : Type 0 where
  pub link : link_of l ≡ None
  pub caret : is_symbol symbols.Caret l ≡ false
  pub colon : is_symbol symbols.Colon l ≡ false
  pub brace : is_symbol symbols.OpenBrace l ≡ false

loose-before : (least : ℕ) (t : PlacedLexeme) (ts : List PlacedLexeme) → Stopper t.lexeme → Loose least (t ∷ ts)
loose-before least t ts s link e = let h : None ≡ Some link = sym s.link ∙ e in cc

set-before : (set : SetSyntax) (t : PlacedLexeme) (ts : List PlacedLexeme) → Stopper t.lexeme → SetStops set (t ∷ ts)
set-before AbsentSet t ts s = s.caret
set-before (OmittedSet at) t ts s = tt
set-before (WrittenSet elements) t ts s = tt

type-before : (v : TypeSyntax) (t : PlacedLexeme) (ts : List PlacedLexeme) → Stopper t.lexeme → TypeStops v (t ∷ ts)
type-before (CapturingType at shape set) t ts s = set-before set t ts s

shape-before : (v : ShapeSyntax) (t : PlacedLexeme) (ts : List PlacedLexeme) → Stopper t.lexeme → ShapeStops v (t ∷ ts)
shape-before (FunctionShape at x takes gives) t ts s = type-before gives t ts s
shape-before (TypeFunctionShape at x bound gives) t ts s = type-before gives t ts s
shape-before _ t ts s = tt

pub kind-before : (kind : Kind) (v : Value kind) (t : PlacedLexeme) (ts : List PlacedLexeme) → Stopper t.lexeme → KindStops kind v (t ∷ ts)
kind-before ShapePart v t ts s = shape-before v t ts s
kind-before TypePart v t ts s = type-before v t ts s
kind-before (ExprPart least) v t ts s = loose-before least t ts s

captures-before : (v : Option (List ElementSyntax)) (t : PlacedLexeme) (ts : List PlacedLexeme) → Stopper t.lexeme → CapturesStop v (t ∷ ts)
captures-before None t ts s = s.brace
captures-before (Some elements) t ts s = tt

written-before : (v : Option TypeSyntax) (t : PlacedLexeme) (ts : List PlacedLexeme) → Stopper t.lexeme → WrittenStops v (t ∷ ts)
written-before None t ts s = s.colon
written-before (Some written) t ts s = type-before written t ts s

piece-before : (piece : Piece) (v : PieceValue piece) (t : PlacedLexeme) (ts : List PlacedLexeme) → Stopper t.lexeme → PieceStops piece v (t ∷ ts)
piece-before (AWord w) v t ts s = tt
piece-before (ASymbol w) v t ts s = tt
piece-before AName v t ts s = tt
piece-before APlacedName v t ts s = tt
piece-before Captures v t ts s = captures-before v t ts s
piece-before Written v t ts s = written-before v t ts s
piece-before (Part kind) v t ts s = kind-before kind v t ts s

-- a part is followed by a word or a symbol before which it stops
abbrev pub IsNext : Piece → Type 0
IsNext (AWord w) = Stopper (WordLexeme w)
IsNext (ASymbol w) = Stopper (SymbolLexeme w)
IsNext AName = ⊥
IsNext APlacedName = ⊥
IsNext Captures = ⊥
IsNext Written = ⊥
IsNext (Part kind) = ⊥

abbrev pub IsFollowed : Piece → Piece → Type 0
IsFollowed (AWord w) next = ⊤
IsFollowed (ASymbol w) next = ⊤
IsFollowed AName next = ⊤
IsFollowed APlacedName next = ⊤
IsFollowed Captures next = IsNext next
IsFollowed Written next = IsNext next
IsFollowed (Part kind) next = IsNext next

abbrev pub IsSane : List Piece → Type 0
IsSane [] = ⊤
IsSane (piece ∷ []) = ⊤
IsSane (piece ∷ next ∷ pieces) = IsFollowed piece next × IsSane (next ∷ pieces)

-- each piece stops at what follows
abbrev pub StopsAll : (pieces : List Piece) → Parts pieces → List PlacedLexeme → Type 0
StopsAll [] v rest = ⊤
StopsAll (piece ∷ pieces) v rest = ((ts : List PlacedLexeme) → Spell ts (parts_terminals pieces v.1) → PieceStops piece v.0 (ts ++ rest)) × StopsAll pieces v.1 rest

abbrev pub LastStops : (pieces : List Piece) → Parts pieces → List PlacedLexeme → Type 0
LastStops [] v rest = ⊤
LastStops (piece ∷ []) v rest = PieceStops piece v.0 rest
LastStops (piece ∷ next ∷ pieces) v rest = LastStops (next ∷ pieces) v.1 rest

by-next : (piece : Piece) (v : PieceValue piece) (next : Piece) (w : PieceValue next) (ms : List Terminal) (rest : List PlacedLexeme) → IsNext next → (ts : List PlacedLexeme) → Spell ts (piece_terminals next w ++ ms) → PieceStops piece v (ts ++ rest)
by-next piece v (AWord x) w ms rest s [] h = absurd h
by-next piece v (AWord x) w ms rest s (t ∷ ts) (l, q, h) = piece-before piece v t (ts ++ rest) (subst Stopper (sym l) s)
by-next piece v (ASymbol x) w ms rest s [] h = absurd h
by-next piece v (ASymbol x) w ms rest s (t ∷ ts) (l, q, h) = piece-before piece v t (ts ++ rest) (subst Stopper (sym l) s)
by-next piece v AName w ms rest s ts h = absurd s
by-next piece v APlacedName w ms rest s ts h = absurd s
by-next piece v Captures w ms rest s ts h = absurd s
by-next piece v Written w ms rest s ts h = absurd s
by-next piece v (Part kind) w ms rest s ts h = absurd s

followed : (piece : Piece) (v : PieceValue piece) (next : Piece) (w : PieceValue next) (ms : List Terminal) (rest : List PlacedLexeme) → IsFollowed piece next → (ts : List PlacedLexeme) → Spell ts (piece_terminals next w ++ ms) → PieceStops piece v (ts ++ rest)
followed (AWord x) v next w ms rest s ts h = tt
followed (ASymbol x) v next w ms rest s ts h = tt
followed AName v next w ms rest s ts h = tt
followed APlacedName v next w ms rest s ts h = tt
followed Captures v next w ms rest s ts h = by-next Captures v next w ms rest s ts h
followed Written v next w ms rest s ts h = by-next Written v next w ms rest s ts h
followed (Part kind) v next w ms rest s ts h = by-next (Part kind) v next w ms rest s ts h

nothing-follows : (piece : Piece) (v : PieceValue piece) (rest ts : List PlacedLexeme) → Spell ts [] → PieceStops piece v rest → PieceStops piece v (ts ++ rest)
nothing-follows piece v rest [] h s = s
nothing-follows piece v rest (t ∷ ts) h s = absurd h

pub sane-stops : (pieces : List Piece) (p : Parts pieces) (rest : List PlacedLexeme) → IsSane pieces → LastStops pieces p rest → StopsAll pieces p rest
sane-stops [] p rest sane last = tt
sane-stops (piece ∷ []) p rest sane last = (λ ts h. nothing-follows piece p.0 rest ts h last, tt)
sane-stops (piece ∷ next ∷ pieces) p rest (f, sane) last = (λ ts h. followed piece p.0 next p.1.0 (parts_terminals pieces p.1.1) rest f ts h, sane-stops (next ∷ pieces) p.1 rest sane last)

-- PIECES

-- the reader of a part reads this value
abbrev pub KindReads : (kind : Kind) → Value kind → Type 0
KindReads kind v = (n : ℕ) (ts rest : List PlacedLexeme) → Spell ts (kind_terminals kind v) → KindStops kind v rest → Bounded (kind_height kind v) n (part_at n kind (ts ++ rest)) v rest

abbrev pub WrittenReads : Option TypeSyntax → Type 0
WrittenReads None = ⊤
WrittenReads (Some written) = KindReads TypePart written

abbrev pub PieceReads : (piece : Piece) → PieceValue piece → Type 0
PieceReads (AWord w) v = ⊤
PieceReads (ASymbol w) v = ⊤
PieceReads AName v = ⊤
PieceReads APlacedName v = ⊤
PieceReads Captures v = ⊤
PieceReads Written v = WrittenReads v
PieceReads (Part kind) v = KindReads kind v

abbrev pub AllRead : (pieces : List Piece) → Parts pieces → Type 0
AllRead [] v = ⊤
AllRead (piece ∷ pieces) v = PieceReads piece v.0 × AllRead pieces v.1

word-read : (w : Word) (v : Unit {0}) (s : ℕ) (ts rest : List PlacedLexeme) → Spell ts (word w ∷ []) → word_at w s (ts ++ rest) ≡ Got v s rest
unfolding word_at
word-read w v s [] rest h = absurd h
word-read w v s (t ∷ []) rest (l, q, h) = rw (is_word-same w t.lexeme l) refl
word-read w v s (t ∷ u ∷ ts) rest (l, p, h) = absurd h

symbol-read : (w : Symbol) (v : Unit {0}) (s : ℕ) (ts rest : List PlacedLexeme) → Spell ts (symbol w ∷ []) → symbol_at w s (ts ++ rest) ≡ Got v s rest
unfolding symbol_at
symbol-read w v s [] rest h = absurd h
symbol-read w v s (t ∷ []) rest (l, q, h) = rw (is_symbol-same w t.lexeme l) refl
symbol-read w v s (t ∷ u ∷ ts) rest (l, p, h) = absurd h

name-read : (x : List ℕ) (s : ℕ) (ts rest : List PlacedLexeme) → Spell ts (piece_terminals AName x) → name_at s (ts ++ rest) ≡ Got x s rest
unfolding name_at
name-read x s [] rest h = absurd h
name-read x s (t ∷ []) rest (l, q, h) = rw (l, name_at) refl
name-read x s (t ∷ u ∷ ts) rest (l, p, h) = absurd h

placed_name-read : (x : PieceValue APlacedName) (s : ℕ) (ts rest : List PlacedLexeme) → Spell ts (piece_terminals APlacedName x) → placed_name_at s (ts ++ rest) ≡ Got x s rest
unfolding placed_name_at
placed_name-read x s [] rest h = absurd h
placed_name-read x s (t ∷ []) rest (l, (p, q), h) = rw (l, placed_name_at) (ap (λ y. Got (y, x.1) s rest) p)
placed_name-read x s (t ∷ u ∷ ts) rest (l, p, h) = absurd h

first-step-of : (name : Option (List ℕ)) → set_step AtFirst (element_lexeme name) ≡ Takes name
first-step-of None = refl
first-step-of (Some x) = refl

next-step-of : (name : Option (List ℕ)) → set_step AtNext (element_lexeme name) ≡ Takes name
next-step-of None = refl
next-step-of (Some x) = refl

-- an element at the front
element-taken : (state : SetState) (e : ElementSyntax) (es : List ElementSyntax) (s : ℕ) (t : PlacedLexeme) (us rest : List PlacedLexeme) → set_step state (element_lexeme e.name) ≡ Takes e.name → t.lexeme ≡ element_lexeme e.name → t.at ≡ e.at → elements_at Behind s us ≡ Got es s rest → elements_at state s (t ∷ us) ≡ Got (e ∷ es) s rest
unfolding elements_at
element-taken state e es s t us rest step l p more =
    let here : set_step state t.lexeme ≡ Takes e.name = ap (set_step state) l ∙ step in
    rw (here, elements_at) (rw more (ap (λ y. Got (record { at = y; name = e.name } ∷ es) s rest) p))

set-ended : (state : SetState) (s : ℕ) (ts rest : List PlacedLexeme) → set_step state (SymbolLexeme symbols.CloseBrace) ≡ Ends → Spell ts (symbol symbols.CloseBrace ∷ []) → elements_at state s (ts ++ rest) ≡ Got [] s rest
unfolding elements_at
set-ended state s [] rest step h = absurd h
set-ended state s (t ∷ []) rest step (l, q, h) =
    let here : set_step state t.lexeme ≡ Ends = ap (set_step state) l ∙ step in
    rw (here, elements_at) refl
set-ended state s (t ∷ u ∷ ts) rest step (l, p, h) = absurd h

behind-read : (es : List ElementSyntax) (s : ℕ) (ts rest : List PlacedLexeme) → Spell ts (state_terminals Behind es) → elements_at Behind s (ts ++ rest) ≡ Got es s rest
unfolding elements_at
behind-read [] s ts rest h = set-ended Behind s ts rest refl h
behind-read (e ∷ es) s [] rest h = absurd h
behind-read (e ∷ es) s (t ∷ []) rest (l, p, h) = absurd h
behind-read (e ∷ es) s (t ∷ u ∷ us) rest (l, p, (m, (q, r), h)) =
    let here : set_step Behind t.lexeme ≡ Separates = ap (set_step Behind) l in
    rw (here, elements_at) (element-taken AtNext e es s u (us ++ rest) rest (next-step-of e.name) m q (behind-read es s us rest h))

elements-read : (es : List ElementSyntax) (s : ℕ) (ts rest : List PlacedLexeme) → Spell ts (state_terminals AtFirst es) → elements_at AtFirst s (ts ++ rest) ≡ Got es s rest
elements-read [] s ts rest h = set-ended AtFirst s ts rest refl h
elements-read (e ∷ es) s [] rest h = absurd h
elements-read (e ∷ es) s (t ∷ us) rest (m, (q, r), h) = element-taken AtFirst e es s t (us ++ rest) rest (first-step-of e.name) m q (behind-read es s us rest h)

omitted-read : (at : Place) (s : ℕ) (ts rest : List PlacedLexeme) → Spell ts (standing_at at (symbol symbols.Question ∷ [])) → caret_at s (ts ++ rest) ≡ Got (OmittedSet at) s rest
unfolding caret_at
omitted-read at s [] rest h = absurd h
omitted-read at s (t ∷ []) rest (l, (p, q), h) = rw (l, caret_at) (ap (λ y. Got (OmittedSet y) s rest) p)
omitted-read at s (t ∷ u ∷ ts) rest (l, p, h) = absurd h

written_set-read : (es : List ElementSyntax) (s : ℕ) (t : PlacedLexeme) (ts rest : List PlacedLexeme) → t.lexeme ≡ SymbolLexeme symbols.OpenBrace → Spell ts (state_terminals AtFirst es) → caret_at s (t ∷ (ts ++ rest)) ≡ Got (WrittenSet es) s rest
unfolding caret_at
written_set-read es s t ts rest l h = rw (l, caret_at) (rw (elements-read es s ts rest h) refl)

set_at-absent : (s : ℕ) (ts : List PlacedLexeme) → begins_symbol symbols.Caret ts ≡ false → set_at s ts ≡ Got AbsentSet s ts
unfolding set_at
set_at-absent s [] e = refl
set_at-absent s (t ∷ ts) e = rw e refl

pub set-read : (set : SetSyntax) (s : ℕ) (ts rest : List PlacedLexeme) → Spell ts (set_terminals set) → SetStops set rest → set_at s (ts ++ rest) ≡ Got set s rest
unfolding set_at
set-read AbsentSet s [] rest h stops = set_at-absent s rest stops
set-read AbsentSet s (t ∷ ts) rest h stops = absurd h
set-read (OmittedSet at) s [] rest h stops = absurd h
set-read (OmittedSet at) s (t ∷ ts) rest (l, p, h) stops = rw (is_symbol-same symbols.Caret t.lexeme l) (omitted-read at s ts rest h)
set-read (WrittenSet es) s [] rest h stops = absurd h
set-read (WrittenSet es) s (t ∷ []) rest (l, p, h) stops = absurd h
set-read (WrittenSet es) s (t ∷ u ∷ ts) rest (l, p, (m, q, h)) stops = rw (is_symbol-same symbols.Caret t.lexeme l) (written_set-read es s u ts rest m h)

captures_at-absent : (s : ℕ) (ts : List PlacedLexeme) → begins_symbol symbols.OpenBrace ts ≡ false → captures_at s ts ≡ Got None s ts
unfolding captures_at
captures_at-absent s [] e = refl
captures_at-absent s (t ∷ ts) e = rw e refl

captures-read : (v : Option (List ElementSyntax)) (s : ℕ) (ts rest : List PlacedLexeme) → Spell ts (captures_terminals v) → CapturesStop v rest → captures_at s (ts ++ rest) ≡ Got v s rest
unfolding captures_at
captures-read None s [] rest h stops = captures_at-absent s rest stops
captures-read None s (t ∷ ts) rest h stops = absurd h
captures-read (Some es) s [] rest h stops = absurd h
captures-read (Some es) s (t ∷ ts) rest (l, p, h) stops = rw (is_symbol-same symbols.OpenBrace t.lexeme l) (rw (elements-read es s ts rest h) refl)

-- less room is spare
lesser : {A B : Type 0} (height n s : ℕ) (found : Found A) (f : A → B) (v : A) (rest : List PlacedLexeme) → s ≤ n → Bounded height n found v rest → BoundedBy height n s (found >>= λ w left r. Got (f w) (min s left) r) (f v) rest
lesser height n s found f v rest le b = record { low = λ h. rw (b.low h) refl; high = λ h. high-then found _ (b.high h) }

bounded-via : {A : Type 0} (height n s : ℕ) (a b : Found A) (v : A) (rest : List PlacedLexeme) → a ≡ b → BoundedBy height n s b v rest → BoundedBy height n s a v rest
bounded-via height n s a b v rest e h = subst (λ x. BoundedBy height n s x v rest) (sym e) h

written-read : (v : Option TypeSyntax) → WrittenReads v → (n s : ℕ) → s ≤ n → (ts rest : List PlacedLexeme) → Spell ts (piece_terminals Written v) → WrittenStops v rest → BoundedBy (written_height v) n s (written_at (part_at n) s (ts ++ rest)) v rest
unfolding written_at
written-read None reads n s le [] rest h stops = flat n s (written_at (part_at n) s rest) None rest le (none rest stops)
  where
    none : (us : List PlacedLexeme) → begins_symbol symbols.Colon us ≡ false → written_at (part_at n) s us ≡ Got None s us
    none [] e = refl
    none (u ∷ us) e = rw e refl
written-read None reads n s le (t ∷ ts) rest h stops = absurd h
written-read (Some v) reads n s le [] rest h stops = absurd h
written-read (Some v) reads n s le (t ∷ ts) rest (l, p, h) stops =
    bounded-via (type_height v) n s _ (part_at n TypePart (ts ++ rest) >>= λ w left r. Got (Some w) (min s left) r) (Some v) rest (rw (is_symbol-same symbols.Colon t.lexeme l) refl)
    (lesser (type_height v) n s (part_at n TypePart (ts ++ rest)) (λ w. Some w) v rest le (reads n ts rest h stops))

one_part-read : (kind : Kind) (v : Value kind) → KindReads kind v → (n s : ℕ) → s ≤ n → (ts rest : List PlacedLexeme) → Spell ts (kind_terminals kind v) → KindStops kind v rest → BoundedBy (kind_height kind v) n s (one_part_at (part_at n) kind s (ts ++ rest)) v rest
unfolding one_part_at
one_part-read kind v reads n s le ts rest h stops = lesser (kind_height kind v) n s (part_at n kind (ts ++ rest)) (λ w. w) v rest le (reads n ts rest h stops)

piece-read : (piece : Piece) (v : PieceValue piece) → PieceReads piece v → (n s : ℕ) → s ≤ n → (ts rest : List PlacedLexeme) → Spell ts (piece_terminals piece v) → PieceStops piece v rest → BoundedBy (piece_height piece v) n s (piece_at (part_at n) piece s (ts ++ rest)) v rest
piece-read (AWord w) v reads n s le ts rest h stops = flat n s (word_at w s (ts ++ rest)) v rest le (word-read w v s ts rest h)
piece-read (ASymbol w) v reads n s le ts rest h stops = flat n s (symbol_at w s (ts ++ rest)) v rest le (symbol-read w v s ts rest h)
piece-read AName v reads n s le ts rest h stops = flat n s (name_at s (ts ++ rest)) v rest le (name-read v s ts rest h)
piece-read APlacedName v reads n s le ts rest h stops = flat n s (placed_name_at s (ts ++ rest)) v rest le (placed_name-read v s ts rest h)
piece-read Captures v reads n s le ts rest h stops = flat n s (captures_at s (ts ++ rest)) v rest le (captures-read v s ts rest h stops)
piece-read Written v reads n s le ts rest h stops = written-read v reads n s le ts rest h stops
piece-read (Part kind) v reads n s le ts rest h stops = one_part-read kind v reads n s le ts rest h stops

-- one and then another
then-read : {A B : Type 0} (a b n s : ℕ) (v : A) (w : B) (found : Found A) (mid rest : List PlacedLexeme) (next : A → ℕ → Reader B) → s ≤ n → BoundedBy a n s found v mid → ((left : ℕ) → left ≤ n → BoundedBy b n left (next v left mid) w rest) → BoundedBy {A = A × B} (max a b) n s (found >>= λ x left r. next x left r >>= λ y less q. Got (x, y) less q) (v, w) rest
then-read {A} {B} a b n s v w found mid rest next le first second = record {
  low = λ h.
      let e = first.low (omega arith) in
      let f = (second (min s (suc n - a)) (omega arith)).low (omega arith) in
      let spares : min (min s (suc n - a)) (suc n - b) ≡ min s (suc n - max a b) = omega arith in
      rw e (rw f (ap (λ x. Got (v, w) x rest) spares));
  high = λ h. go (leb_tells a (suc n)) h;
}
  where
    go : ((nat_le a (suc n) ≡ true) × (a ≤ suc n)) ⊎ ((nat_le a (suc n) ≡ false) × (suc n < a)) → suc n < max a b → IsHigh {A = A × B} (found >>= λ x left r. next x left r >>= λ y less q. Got (x, y) less q)
    go (inr k) h = high-then found _ (first.high k.1)
    go (inl k) h =
        let f = (second (min s (suc n - a)) (omega arith)).high (omega arith) in
        rw (first.low k.1) (high-then (next v (min s (suc n - a)) mid) _ f)

pub pieces-read : (pieces : List Piece) (p : Parts pieces) → AllRead pieces p → (n s : ℕ) → s ≤ n → (ts rest : List PlacedLexeme) → Spell ts (parts_terminals pieces p) → StopsAll pieces p rest → BoundedBy (parts_height pieces p) n s (pieces_at (part_at n) pieces s (ts ++ rest)) p rest
pieces-read [] p reads n s le [] rest h stops = flat n s (Got tt s rest) p rest le refl
pieces-read [] p reads n s le (t ∷ ts) rest h stops = absurd h
pieces-read (piece ∷ pieces) p (read, reads) n s le ts rest h (stop, stops) =
    let split = spell-split (piece_terminals piece p.0) (parts_terminals pieces p.1) ts h in
    let whole : ts ++ rest ≡ split.front ++ (split.back ++ rest) = ap (λ x. x ++ rest) split.whole ∙ append_assoc split.front split.back rest in
    subst (λ x. BoundedBy (max (piece_height piece p.0) (parts_height pieces p.1)) n s (pieces_at (part_at n) (piece ∷ pieces) s x) p rest) (sym whole)
    (then-read (piece_height piece p.0) (parts_height pieces p.1) n s p.0 p.1 (piece_at (part_at n) piece s (split.front ++ (split.back ++ rest))) (split.back ++ rest) rest (λ x. pieces_at (part_at n) pieces) le
    (piece-read piece p.0 read n s le split.front (split.back ++ rest) split.first (stop split.back split.second))
    (λ left small. pieces-read pieces p.1 reads n left small split.back rest split.second stops))
