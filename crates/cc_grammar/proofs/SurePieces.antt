-- What the readers of pieces find is so.
use Rattle.std.proofs.Common.{◌≡◌, ℕ, suc, ◌≤◌, min, Bool, true, false, List, [], ◌∷◌, ◌++◌, Option, Some, None, refl, sym, subst, arith}
use Rattle.std.specs.Prelude.{⊤}
use Rattle.cc_lex.specs.declared.token.Word.{Word}
use Rattle.cc_lex.specs.declared.token.Word.TheVariants as words
use Rattle.cc_lex.specs.declared.token.Symbol.{Symbol}
use Rattle.cc_lex.specs.declared.token.Symbol.TheVariants as symbols
use Rattle.cc_lex.specs.Lexemes.{Lexeme, NameLexeme, NumberLexeme, TextLexeme, WordLexeme, SymbolLexeme, PlacedLexeme}
use Rattle.cc_grammar.specs.Syntax.{ElementSyntax, SetSyntax, AbsentSet, OmittedSet, WrittenSet}
use Rattle.cc_grammar.specs.Grammar.{Terminal, symbol, standing_at, Spell, element_lexeme, element_terminals, more_elements_terminals, elements_terminals, braced_terminals, set_terminals}
use Rattle.cc_grammar.specs.Tests.{is_word, is_symbol, name_of}
use Rattle.cc_grammar.specs.Reading.{Found, Got, Wrong, High, Readers, ◌>>=◌, Kind, TypePart, Piece, AWord, ASymbol, AName, APlacedName, Captures, Written, Part, word_at, symbol_at, name_at, placed_name_at, SetState, AtFirst, AtNext, Behind, SetStep, Ends, Takes, Separates, Misfits, first_step, next_step, behind_step, set_step, elements_at, CaretStep, Omits, Opens, Fails, caret_step, caret_at, set_at, captures_at, written_at, one_part_at, piece_at, pieces_at}
use Rattle.cc_grammar.proofs.Spelling.{word-is, symbol-is, name-is, spell-append}
use Rattle.cc_grammar.proofs.Sure.{Language, SureAt, Filler, then-sure, made-sure, shift-sure}
use Rattle.cc_grammar.proofs.PieceLanguages.{kind_language, IsFair, piece_language, piece_terminals, IsFairPiece, parts_language, parts_terminals, AreFair, piece-filler, parts-filler, some_token, any_name, anywhere}

pub via : {A : Type 0} (l : Language A) (room top : ℕ) (pre ts : List PlacedLexeme) (a b : Found A) → a ≡ b → SureAt l room top pre ts b → SureAt l room top pre ts a
via l room top pre ts a b e h = subst (SureAt l room top pre ts) (sym e) h

-- one token is taken
took : {A : Type 0} (l : Language A) (v : A) (n s : ℕ) (t : PlacedLexeme) (ts : List PlacedLexeme) → l.spells v (t ∷ []) → l.height v ≡ 0 → s ≤ n → SureAt l (suc n) s [] (t ∷ ts) (Got v s ts)
took l v n s t ts h e le = (t ∷ [], refl, h, omega arith, omega arith)

-- none is taken
left : {A : Type 0} (l : Language A) (v : A) (n s : ℕ) (ts : List PlacedLexeme) → l.spells v [] → l.height v ≡ 0 → s ≤ n → SureAt l (suc n) s [] ts (Got v s ts)
left l v n s ts h e le = ([], refl, h, omega arith, omega arith)

-- the first token is refused
pub refused : {A : Type 0} (l : Language A) → Filler l → (n s : ℕ) (ts : List PlacedLexeme) → SureAt l (suc n) s [] ts (Wrong ts)
refused l f n s ts = let low : l.height f.value ≤ 1 = f.low in ([], refl, (f.value, f.tokens, omega arith, f.spelled))

-- words, symbols and names

word_at-sure : (w : Word) (n s : ℕ) → s ≤ n → (ts : List PlacedLexeme) → SureAt (piece_language (AWord w)) (suc n) s [] ts (word_at w s ts)
unfolding word_at
word_at-sure w n s le [] = refused (piece_language (AWord w)) (piece-filler (AWord w) tt) n s []
word_at-sure w n s le (t ∷ ts) = go (is_word w t.lexeme) refl
  where
    go : (b : Bool) → is_word w t.lexeme ≡ b → SureAt (piece_language (AWord w)) (suc n) s [] (t ∷ ts) (word_at w s (t ∷ ts))
    go true e = via (piece_language (AWord w)) (suc n) s [] (t ∷ ts) (word_at w s (t ∷ ts)) (Got tt s ts) (rw e refl) (took (piece_language (AWord w)) tt n s t ts (tt, (word-is w t.lexeme e, tt, tt)) refl le)
    go false e = via (piece_language (AWord w)) (suc n) s [] (t ∷ ts) (word_at w s (t ∷ ts)) (Wrong (t ∷ ts)) (rw e refl) (refused (piece_language (AWord w)) (piece-filler (AWord w) tt) n s (t ∷ ts))

symbol_at-sure : (w : Symbol) (n s : ℕ) → s ≤ n → (ts : List PlacedLexeme) → SureAt (piece_language (ASymbol w)) (suc n) s [] ts (symbol_at w s ts)
unfolding symbol_at
symbol_at-sure w n s le [] = refused (piece_language (ASymbol w)) (piece-filler (ASymbol w) tt) n s []
symbol_at-sure w n s le (t ∷ ts) = go (is_symbol w t.lexeme) refl
  where
    go : (b : Bool) → is_symbol w t.lexeme ≡ b → SureAt (piece_language (ASymbol w)) (suc n) s [] (t ∷ ts) (symbol_at w s (t ∷ ts))
    go true e = via (piece_language (ASymbol w)) (suc n) s [] (t ∷ ts) (symbol_at w s (t ∷ ts)) (Got tt s ts) (rw e refl) (took (piece_language (ASymbol w)) tt n s t ts (tt, (symbol-is w t.lexeme e, tt, tt)) refl le)
    go false e = via (piece_language (ASymbol w)) (suc n) s [] (t ∷ ts) (symbol_at w s (t ∷ ts)) (Wrong (t ∷ ts)) (rw e refl) (refused (piece_language (ASymbol w)) (piece-filler (ASymbol w) tt) n s (t ∷ ts))

name_at-sure : (n s : ℕ) → s ≤ n → (ts : List PlacedLexeme) → SureAt (piece_language AName) (suc n) s [] ts (name_at s ts)
unfolding name_at
name_at-sure n s le [] = refused (piece_language AName) (piece-filler AName tt) n s []
name_at-sure n s le (t ∷ ts) = go (name_of t.lexeme) refl
  where
    go : (o : Option (List ℕ)) → name_of t.lexeme ≡ o → SureAt (piece_language AName) (suc n) s [] (t ∷ ts) (name_at s (t ∷ ts))
    go (Some x) e = via (piece_language AName) (suc n) s [] (t ∷ ts) (name_at s (t ∷ ts)) (Got x s ts) (rw (e, name_at) refl) (took (piece_language AName) x n s t ts (tt, (name-is t.lexeme x e, tt, tt)) refl le)
    go None e = via (piece_language AName) (suc n) s [] (t ∷ ts) (name_at s (t ∷ ts)) (Wrong (t ∷ ts)) (rw (e, name_at) refl) (refused (piece_language AName) (piece-filler AName tt) n s (t ∷ ts))

placed_name_at-sure : (n s : ℕ) → s ≤ n → (ts : List PlacedLexeme) → SureAt (piece_language APlacedName) (suc n) s [] ts (placed_name_at s ts)
unfolding placed_name_at
placed_name_at-sure n s le [] = refused (piece_language APlacedName) (piece-filler APlacedName tt) n s []
placed_name_at-sure n s le (t ∷ ts) = go (name_of t.lexeme) refl
  where
    go : (o : Option (List ℕ)) → name_of t.lexeme ≡ o → SureAt (piece_language APlacedName) (suc n) s [] (t ∷ ts) (placed_name_at s (t ∷ ts))
    go (Some x) e = via (piece_language APlacedName) (suc n) s [] (t ∷ ts) (placed_name_at s (t ∷ ts)) (Got (t.at, x) s ts) (rw (e, placed_name_at) refl) (took (piece_language APlacedName) (t.at, x) n s t ts (tt, (name-is t.lexeme x e, (refl, tt), tt)) refl le)
    go None e = via (piece_language APlacedName) (suc n) s [] (t ∷ ts) (placed_name_at s (t ∷ ts)) (Wrong (t ∷ ts)) (rw (e, placed_name_at) refl) (refused (piece_language APlacedName) (piece-filler APlacedName tt) n s (t ∷ ts))

-- THE ELEMENTS OF A SET

-- the terminals from there on
abbrev pub state_terminals : SetState → List ElementSyntax → List Terminal
state_terminals AtFirst elements = elements_terminals elements ++ symbol symbols.CloseBrace ∷ []
state_terminals Behind elements = more_elements_terminals elements ++ symbol symbols.CloseBrace ∷ []
state_terminals AtNext [] = []
state_terminals AtNext (element ∷ elements) = element_terminals element ++ more_elements_terminals elements ++ symbol symbols.CloseBrace ∷ []

-- behind a comma there is an element
abbrev pub IsState : SetState → List ElementSyntax → Type 0
IsState AtFirst elements = ⊤
IsState Behind elements = ⊤
IsState AtNext [] = ⊥
IsState AtNext (element ∷ elements) = ⊤

abbrev pub state_language : SetState → Language (List ElementSyntax)
state_language state = record { spells = λ v ts. IsState state v × Spell ts (state_terminals state v); height = λ v. 0 }

any_element : ElementSyntax
any_element = record { at = anywhere; name = Some any_name }

state-filler : (state : SetState) → Filler (state_language state)
unfolding any_element
state-filler AtFirst = record { value = []; tokens = some_token (SymbolLexeme symbols.CloseBrace); spelled = (tt, (refl, tt, tt)); low = omega arith }
state-filler Behind = record { value = []; tokens = some_token (SymbolLexeme symbols.CloseBrace); spelled = (tt, (refl, tt, tt)); low = omega arith }
state-filler AtNext = record { value = any_element ∷ []; tokens = some_token (NameLexeme any_name) ++ some_token (SymbolLexeme symbols.CloseBrace); spelled = (tt, (refl, (refl, tt), (refl, tt, tt))); low = omega arith }

first-ends : (l : Lexeme) → first_step l ≡ Ends → l ≡ SymbolLexeme symbols.CloseBrace
first-ends (SymbolLexeme symbols.CloseBrace) e = refl
first-ends (SymbolLexeme _) e = cc
first-ends (NameLexeme x) e = cc
first-ends (NumberLexeme x) e = cc
first-ends (TextLexeme x) e = cc
first-ends (WordLexeme words.Cap) e = cc
first-ends (WordLexeme _) e = cc

behind-ends : (l : Lexeme) → behind_step l ≡ Ends → l ≡ SymbolLexeme symbols.CloseBrace
behind-ends (SymbolLexeme symbols.CloseBrace) e = refl
behind-ends (SymbolLexeme symbols.Comma) e = cc
behind-ends (SymbolLexeme _) e = cc
behind-ends (NameLexeme x) e = cc
behind-ends (NumberLexeme x) e = cc
behind-ends (TextLexeme x) e = cc
behind-ends (WordLexeme x) e = cc

next-ends : (l : Lexeme) → next_step l ≡ Ends → ⊥
next-ends (SymbolLexeme x) e = cc
next-ends (NameLexeme x) e = cc
next-ends (NumberLexeme x) e = cc
next-ends (TextLexeme x) e = cc
next-ends (WordLexeme words.Cap) e = cc
next-ends (WordLexeme _) e = cc

-- `}` ends the set
ends-is : (state : SetState) (t : PlacedLexeme) → set_step state t.lexeme ≡ Ends → IsState state [] × Spell (t ∷ []) (state_terminals state [])
ends-is AtFirst t e = (tt, (first-ends t.lexeme e, tt, tt))
ends-is Behind t e = (tt, (behind-ends t.lexeme e, tt, tt))
ends-is AtNext t e = absurd (next-ends t.lexeme e)

first-takes : (l : Lexeme) (name : Option (List ℕ)) → first_step l ≡ Takes name → l ≡ element_lexeme name
first-takes (SymbolLexeme symbols.CloseBrace) name e = cc
first-takes (SymbolLexeme _) name e = cc
first-takes (NameLexeme x) name e = let h : Some x ≡ name = cc in subst (λ n. NameLexeme x ≡ element_lexeme n) h refl
first-takes (NumberLexeme x) name e = cc
first-takes (TextLexeme x) name e = cc
first-takes (WordLexeme words.Cap) name e = let h : None ≡ name = cc in subst (λ n. WordLexeme words.Cap ≡ element_lexeme n) h refl
first-takes (WordLexeme _) name e = cc

next-takes : (l : Lexeme) (name : Option (List ℕ)) → next_step l ≡ Takes name → l ≡ element_lexeme name
next-takes (SymbolLexeme x) name e = cc
next-takes (NameLexeme x) name e = let h : Some x ≡ name = cc in subst (λ n. NameLexeme x ≡ element_lexeme n) h refl
next-takes (NumberLexeme x) name e = cc
next-takes (TextLexeme x) name e = cc
next-takes (WordLexeme words.Cap) name e = let h : None ≡ name = cc in subst (λ n. WordLexeme words.Cap ≡ element_lexeme n) h refl
next-takes (WordLexeme _) name e = cc

behind-takes : (l : Lexeme) (name : Option (List ℕ)) → behind_step l ≡ Takes name → ⊥
behind-takes (SymbolLexeme symbols.CloseBrace) name e = cc
behind-takes (SymbolLexeme symbols.Comma) name e = cc
behind-takes (SymbolLexeme _) name e = cc
behind-takes (NameLexeme x) name e = cc
behind-takes (NumberLexeme x) name e = cc
behind-takes (TextLexeme x) name e = cc
behind-takes (WordLexeme x) name e = cc

-- an element, and more elements behind it
takes-is : (state : SetState) (t : PlacedLexeme) (name : Option (List ℕ)) → set_step state t.lexeme ≡ Takes name → (elements : List ElementSyntax) (xs : List PlacedLexeme) → (state_language Behind).spells elements xs → (state_language state).spells (record { at = t.at; name = name } ∷ elements) (t ∷ xs)
takes-is AtFirst t name e elements xs h = (tt, (first-takes t.lexeme name e, (refl, tt), h.1))
takes-is AtNext t name e elements xs h = (tt, (next-takes t.lexeme name e, (refl, tt), h.1))
takes-is Behind t name e elements xs h = absurd (behind-takes t.lexeme name e)

first-separates : (l : Lexeme) → first_step l ≡ Separates → ⊥
first-separates (SymbolLexeme symbols.CloseBrace) e = cc
first-separates (SymbolLexeme _) e = cc
first-separates (NameLexeme x) e = cc
first-separates (NumberLexeme x) e = cc
first-separates (TextLexeme x) e = cc
first-separates (WordLexeme words.Cap) e = cc
first-separates (WordLexeme _) e = cc

next-separates : (l : Lexeme) → next_step l ≡ Separates → ⊥
next-separates (SymbolLexeme x) e = cc
next-separates (NameLexeme x) e = cc
next-separates (NumberLexeme x) e = cc
next-separates (TextLexeme x) e = cc
next-separates (WordLexeme words.Cap) e = cc
next-separates (WordLexeme _) e = cc

behind-separates : (l : Lexeme) → behind_step l ≡ Separates → l ≡ SymbolLexeme symbols.Comma
behind-separates (SymbolLexeme symbols.CloseBrace) e = cc
behind-separates (SymbolLexeme symbols.Comma) e = refl
behind-separates (SymbolLexeme _) e = cc
behind-separates (NameLexeme x) e = cc
behind-separates (NumberLexeme x) e = cc
behind-separates (TextLexeme x) e = cc
behind-separates (WordLexeme x) e = cc

-- a comma, and elements behind it
separates-is : (state : SetState) (t : PlacedLexeme) → set_step state t.lexeme ≡ Separates → (elements : List ElementSyntax) (xs : List PlacedLexeme) → (state_language AtNext).spells elements xs → (state_language state).spells elements (t ∷ xs)
separates-is AtFirst t e elements xs h = absurd (first-separates t.lexeme e)
separates-is AtNext t e elements xs h = absurd (next-separates t.lexeme e)
separates-is Behind t e [] xs h = absurd h.0
separates-is Behind t e (element ∷ elements) xs h = (tt, (behind-separates t.lexeme e, tt, h.1))

pub same-made : {A : Type 0} (found : Found A) → (found >>= λ v s rest. Got v s rest) ≡ found
same-made (Got v s rest) = refl
same-made (Wrong rest) = refl
same-made (High rest) = refl

-- what is made of a value without height, behind one token
made-flat : {A B : Type 0} (la : Language A) (lb : Language B) (f : A → B) (pre : List PlacedLexeme) (n s : ℕ) (ts : List PlacedLexeme) (found : Found A) → ((a : A) → lb.height (f a) ≡ la.height a) → ((a : A) (xs : List PlacedLexeme) → la.spells a xs → lb.spells (f a) (pre ++ xs)) → SureAt la n s [] ts found → SureAt lb n s [] (pre ++ ts) (found >>= λ v left rest. Got (f v) left rest)
made-flat la lb f pre n s ts found heights lift h =
    shift-sure lb n s [] pre ts (found >>= λ v left rest. Got (f v) left rest)
    (made-sure la lb f pre lift n s n s (λ a le. rw heights le) (λ a r le le'. (le, rw heights le')) ts found h)

pub elements_at-sure : (state : SetState) (n s : ℕ) → s ≤ n → (ts : List PlacedLexeme) → SureAt (state_language state) (suc n) s [] ts (elements_at state s ts)
unfolding elements_at
elements_at-sure state n s le [] = refused (state_language state) (state-filler state) n s []
elements_at-sure state n s le (t ∷ ts) = go (set_step state t.lexeme) refl (elements_at-sure Behind n s le ts) (elements_at-sure AtNext n s le ts)
  where
    go : (step : SetStep) → set_step state t.lexeme ≡ step → SureAt (state_language Behind) (suc n) s [] ts (elements_at Behind s ts) → SureAt (state_language AtNext) (suc n) s [] ts (elements_at AtNext s ts) → SureAt (state_language state) (suc n) s [] (t ∷ ts) (elements_at state s (t ∷ ts))
    go Ends e behind next = via (state_language state) (suc n) s [] (t ∷ ts) (elements_at state s (t ∷ ts)) (Got [] s ts) (rw (e, elements_at) refl) (took (state_language state) [] n s t ts (ends-is state t e) refl le)
    go (Takes name) e behind next = via (state_language state) (suc n) s [] (t ∷ ts) (elements_at state s (t ∷ ts)) (elements_at Behind s ts >>= λ more left rest. Got (record { at = t.at; name = name } ∷ more) left rest) (rw (e, elements_at) refl) (made-flat (state_language Behind) (state_language state) (λ more. record { at = t.at; name = name } ∷ more) (t ∷ []) (suc n) s ts (elements_at Behind s ts) (λ a. refl) (takes-is state t name e) behind)
    go Separates e behind next = via (state_language state) (suc n) s [] (t ∷ ts) (elements_at state s (t ∷ ts)) (elements_at AtNext s ts >>= λ v left rest. Got v left rest) (rw (e, elements_at) (sym (same-made (elements_at AtNext s ts)))) (made-flat (state_language AtNext) (state_language state) (λ v. v) (t ∷ []) (suc n) s ts (elements_at AtNext s ts) (λ a. refl) (separates-is state t e) next)
    go Misfits e behind next = via (state_language state) (suc n) s [] (t ∷ ts) (elements_at state s (t ∷ ts)) (Wrong (t ∷ ts)) (rw (e, elements_at) refl) (refused (state_language state) (state-filler state) n s (t ∷ ts))

-- SETS

-- behind `^`
abbrev caret_terminals : SetSyntax → List Terminal
caret_terminals AbsentSet = []
caret_terminals (OmittedSet at) = standing_at at (symbol symbols.Question ∷ [])
caret_terminals (WrittenSet elements) = braced_terminals elements

abbrev IsCaret : SetSyntax → Type 0
IsCaret AbsentSet = ⊥
IsCaret (OmittedSet at) = ⊤
IsCaret (WrittenSet elements) = ⊤

caret_language : Language SetSyntax
caret_language = record { spells = λ v ts. IsCaret v × Spell ts (caret_terminals v); height = λ v. 0 }

pub set_language : Language SetSyntax
set_language = record { spells = λ v ts. Spell ts (set_terminals v); height = λ v. 0 }

-- what a set's tokens are
pub set-spells : (v : SetSyntax) (ts : List PlacedLexeme) → set_language.spells v ts → Spell ts (set_terminals v)
unfolding set_language
set-spells v ts h = h

caret-filler : Filler caret_language
unfolding caret_language
caret-filler = record { value = OmittedSet anywhere; tokens = some_token (SymbolLexeme symbols.Question); spelled = (tt, (refl, (refl, tt), tt)); low = omega arith }

caret-omits : (l : Lexeme) → caret_step l ≡ Omits → l ≡ SymbolLexeme symbols.Question
caret-omits (SymbolLexeme symbols.Question) e = refl
caret-omits (SymbolLexeme symbols.OpenBrace) e = cc
caret-omits (SymbolLexeme _) e = cc
caret-omits (NameLexeme x) e = cc
caret-omits (NumberLexeme x) e = cc
caret-omits (TextLexeme x) e = cc
caret-omits (WordLexeme x) e = cc

caret-opens : (l : Lexeme) → caret_step l ≡ Opens → l ≡ SymbolLexeme symbols.OpenBrace
caret-opens (SymbolLexeme symbols.Question) e = cc
caret-opens (SymbolLexeme symbols.OpenBrace) e = refl
caret-opens (SymbolLexeme _) e = cc
caret-opens (NameLexeme x) e = cc
caret-opens (NumberLexeme x) e = cc
caret-opens (TextLexeme x) e = cc
caret-opens (WordLexeme x) e = cc

caret_at-sure : (n s : ℕ) → s ≤ n → (ts : List PlacedLexeme) → SureAt caret_language (suc n) s [] ts (caret_at s ts)
unfolding caret_at caret_language
caret_at-sure n s le [] = refused caret_language caret-filler n s []
caret_at-sure n s le (t ∷ ts) = go (caret_step t.lexeme) refl
  where
    go : (step : CaretStep) → caret_step t.lexeme ≡ step → SureAt caret_language (suc n) s [] (t ∷ ts) (caret_at s (t ∷ ts))
    go Omits e = via caret_language (suc n) s [] (t ∷ ts) (caret_at s (t ∷ ts)) (Got (OmittedSet t.at) s ts) (rw (e, caret_at) refl) (took caret_language (OmittedSet t.at) n s t ts (tt, (caret-omits t.lexeme e, (refl, tt), tt)) refl le)
    go Opens e = via caret_language (suc n) s [] (t ∷ ts) (caret_at s (t ∷ ts)) (elements_at AtFirst s ts >>= λ elements left rest. Got (WrittenSet elements) left rest) (rw (e, caret_at) refl) (made-flat (state_language AtFirst) caret_language WrittenSet (t ∷ []) (suc n) s ts (elements_at AtFirst s ts) (λ a. refl) (λ a xs h. (tt, (caret-opens t.lexeme e, tt, h.1))) (elements_at-sure AtFirst n s le ts))
    go Fails e = via caret_language (suc n) s [] (t ∷ ts) (caret_at s (t ∷ ts)) (Wrong (t ∷ ts)) (rw (e, caret_at) refl) (refused caret_language caret-filler n s (t ∷ ts))

caret-set : (v : SetSyntax) (t : PlacedLexeme) (xs : List PlacedLexeme) → t.lexeme ≡ SymbolLexeme symbols.Caret → IsCaret v → Spell xs (caret_terminals v) → Spell (t ∷ xs) (set_terminals v)
caret-set AbsentSet t xs e i h = absurd i
caret-set (OmittedSet at) t xs e i h = (e, tt, h)
caret-set (WrittenSet elements) t xs e i h = (e, tt, h)

pub set_at-sure : (n s : ℕ) → s ≤ n → (ts : List PlacedLexeme) → SureAt set_language (suc n) s [] ts (set_at s ts)
unfolding set_at set_language caret_language
set_at-sure n s le [] = left set_language AbsentSet n s [] tt refl le
set_at-sure n s le (t ∷ ts) = go (is_symbol symbols.Caret t.lexeme) refl
  where
    go : (b : Bool) → is_symbol symbols.Caret t.lexeme ≡ b → SureAt set_language (suc n) s [] (t ∷ ts) (set_at s (t ∷ ts))
    go true e = via set_language (suc n) s [] (t ∷ ts) (set_at s (t ∷ ts)) (caret_at s ts >>= λ v left rest. Got v left rest) (rw e (sym (same-made (caret_at s ts)))) (made-flat caret_language set_language (λ v. v) (t ∷ []) (suc n) s ts (caret_at s ts) (λ a. refl) (λ a xs h. caret-set a t xs (symbol-is symbols.Caret t.lexeme e) h.0 h.1) (caret_at-sure n s le ts))
    go false e = via set_language (suc n) s [] (t ∷ ts) (set_at s (t ∷ ts)) (Got AbsentSet s (t ∷ ts)) (rw e refl) (left set_language AbsentSet n s (t ∷ ts) tt refl le)

captures_at-sure : (n s : ℕ) → s ≤ n → (ts : List PlacedLexeme) → SureAt (piece_language Captures) (suc n) s [] ts (captures_at s ts)
unfolding captures_at
captures_at-sure n s le [] = left (piece_language Captures) None n s [] (tt, tt) refl le
captures_at-sure n s le (t ∷ ts) = go (is_symbol symbols.OpenBrace t.lexeme) refl
  where
    go : (b : Bool) → is_symbol symbols.OpenBrace t.lexeme ≡ b → SureAt (piece_language Captures) (suc n) s [] (t ∷ ts) (captures_at s (t ∷ ts))
    go true e = via (piece_language Captures) (suc n) s [] (t ∷ ts) (captures_at s (t ∷ ts)) (elements_at AtFirst s ts >>= λ elements left rest. Got (Some elements) left rest) (rw e refl) (made-flat (state_language AtFirst) (piece_language Captures) (λ elements. Some elements) (t ∷ []) (suc n) s ts (elements_at AtFirst s ts) (λ a. refl) (λ a xs h. (tt, (symbol-is symbols.OpenBrace t.lexeme e, tt, h.1))) (elements_at-sure AtFirst n s le ts))
    go false e = via (piece_language Captures) (suc n) s [] (t ∷ ts) (captures_at s (t ∷ ts)) (Got None s (t ∷ ts)) (rw e refl) (left (piece_language Captures) None n s (t ∷ ts) (tt, tt) refl le)

-- PARTS

-- the readers of parts, each with so many levels below it
abbrev pub AreSure : Readers → ℕ → Type 0
AreSure rd n = (kind : Kind) → IsFair kind → (ts : List PlacedLexeme) → SureAt (kind_language kind) (suc n) n [] ts (rd kind ts)

-- less room may be spare
lesser : {A B : Type 0} (la : Language A) (lb : Language B) (f : A → B) (pre : List PlacedLexeme) (n s : ℕ) (ts : List PlacedLexeme) (found : Found A) → ((a : A) → lb.height (f a) ≡ la.height a) → ((a : A) (xs : List PlacedLexeme) → la.spells a xs → lb.spells (f a) (pre ++ xs)) → SureAt la (suc n) n [] ts found → SureAt lb (suc n) s pre ts (found >>= λ v left rest. Got (f v) (min s left) rest)
lesser la lb f pre n s ts (Got v left rest) heights lift (front, e, sp, sc, sr) = (front, e, lift v front sp, omega arith, rw heights (omega arith))
lesser la lb f pre n s ts (Wrong rest) heights lift h = made-sure la lb f pre lift (suc n) n (suc n) n (λ a le. rw heights le) (λ a r le le'. (le, rw heights le')) ts (Wrong rest) h
lesser la lb f pre n s ts (High rest) heights lift h = made-sure la lb f pre lift (suc n) n (suc n) n (λ a le. rw heights le) (λ a r le le'. (le, rw heights le')) ts (High rest) h

one_part_at-sure : (rd : Readers) (n : ℕ) → AreSure rd n → (kind : Kind) → IsFair kind → (s : ℕ) (ts : List PlacedLexeme) → SureAt (piece_language (Part kind)) (suc n) s [] ts (one_part_at rd kind s ts)
unfolding one_part_at
one_part_at-sure rd n sure kind fair s ts = lesser (kind_language kind) (piece_language (Part kind)) (λ v. v) [] n s ts (rd kind ts) (λ a. refl) (λ a xs h. h) (sure kind fair ts)

written_at-sure : (rd : Readers) (n : ℕ) → AreSure rd n → (s : ℕ) → s ≤ n → (ts : List PlacedLexeme) → SureAt (piece_language Written) (suc n) s [] ts (written_at rd s ts)
unfolding written_at
written_at-sure rd n sure s le [] = left (piece_language Written) None n s [] (tt, tt) refl le
written_at-sure rd n sure s le (t ∷ ts) = go (is_symbol symbols.Colon t.lexeme) refl
  where
    go : (b : Bool) → is_symbol symbols.Colon t.lexeme ≡ b → SureAt (piece_language Written) (suc n) s [] (t ∷ ts) (written_at rd s (t ∷ ts))
    go true e = via (piece_language Written) (suc n) s [] (t ∷ ts) (written_at rd s (t ∷ ts)) (rd TypePart ts >>= λ written left rest. Got (Some written) (min s left) rest) (rw e refl) (shift-sure (piece_language Written) (suc n) s [] (t ∷ []) ts (rd TypePart ts >>= λ written left rest. Got (Some written) (min s left) rest) (lesser (kind_language TypePart) (piece_language Written) (λ written. Some written) (t ∷ []) n s ts (rd TypePart ts) (λ a. refl) (λ a xs h. (h.0, (symbol-is symbols.Colon t.lexeme e, tt, h.1))) (sure TypePart tt ts)))
    go false e = via (piece_language Written) (suc n) s [] (t ∷ ts) (written_at rd s (t ∷ ts)) (Got None s (t ∷ ts)) (rw e refl) (left (piece_language Written) None n s (t ∷ ts) (tt, tt) refl le)

piece_at-sure : (rd : Readers) (n : ℕ) → AreSure rd n → (piece : Piece) → IsFairPiece piece → (s : ℕ) → s ≤ n → (ts : List PlacedLexeme) → SureAt (piece_language piece) (suc n) s [] ts (piece_at rd piece s ts)
piece_at-sure rd n sure (AWord w) fair s le ts = word_at-sure w n s le ts
piece_at-sure rd n sure (ASymbol w) fair s le ts = symbol_at-sure w n s le ts
piece_at-sure rd n sure AName fair s le ts = name_at-sure n s le ts
piece_at-sure rd n sure APlacedName fair s le ts = placed_name_at-sure n s le ts
piece_at-sure rd n sure Captures fair s le ts = captures_at-sure n s le ts
piece_at-sure rd n sure Written fair s le ts = written_at-sure rd n sure s le ts
piece_at-sure rd n sure (Part kind) fair s le ts = one_part_at-sure rd n sure kind fair s ts

pub pieces_at-sure : (rd : Readers) (n : ℕ) → AreSure rd n → (pieces : List Piece) → AreFair pieces → (s : ℕ) → s ≤ n → (ts : List PlacedLexeme) → SureAt (parts_language pieces) (suc n) s [] ts (pieces_at rd pieces s ts)
pieces_at-sure rd n sure [] fair s le ts = left (parts_language []) tt n s ts (tt, tt) refl le
pieces_at-sure rd n sure (piece ∷ pieces) (fair, fairs) s le ts =
    then-sure (piece_language piece) (parts_language pieces) (parts_language (piece ∷ pieces)) (λ v vs. (v, vs)) (λ a b xs ys h k. ((h.0, k.0), spell-append xs ys (piece_terminals piece a) (parts_terminals pieces b) h.1 k.1)) (λ a b. refl) (parts-filler pieces fairs) (suc n) s (omega arith) ts (piece_at rd piece s ts) (piece_at-sure rd n sure piece fair s le ts) (λ v. pieces_at rd pieces) (λ v less rest le'. pieces_at-sure rd n sure pieces fairs less (omega arith) rest)
