-- What the readers of shapes and types find is so.
use Rattle.std.proofs.Common.{◌≡◌, ℕ, zero, suc, ◌+◌, ◌≤◌, min, Bool, true, false, List, [], ◌∷◌, ◌++◌, Option, Some, None, refl, sym, subst, arith, if◌then◌else◌}
use Rattle.std.specs.Prelude.{⊤}
use Rattle.std.proofs.lemmas.List.{append-nil}
use Rattle.cc_base.specs.declared.place.Place.{Place}
use Rattle.cc_lex.specs.declared.token.Symbol.TheVariants as symbols
use Rattle.cc_lex.specs.Lexemes.{Lexeme, NameLexeme, SymbolLexeme, PlacedLexeme}
use Rattle.cc_grammar.specs.Syntax.{SetSyntax, AbsentSet, OmittedSet, WrittenSet, TypeSyntax, CapturingType, ShapeSyntax, BaseShape, AnyShape, NamedShape, ExitShape, BoxShape, ParenthesizedShape, FunctionShape, TypeFunctionShape, shape_height}
use Rattle.cc_grammar.specs.Grammar.{standing_at, Spell, shape_terminals, type_terminals, set_terminals, IsShape, CanTake}
use Rattle.cc_grammar.specs.Tests.{is_symbol, begins_symbol, name_of}
use Rattle.cc_grammar.specs.Reading.{Found, Got, Wrong, High, Reader, Readers, ◌>>=◌, ShapePart, TypePart, Piece, ASymbol, AName, Part, piece_at, PlacedName, Parts, pieces_at, CaretStep, Omits, Opens, Fails, caret_step, AtFirst, elements_at, caret_at, set_at, one_part_at, ShapeRule, ExitShapeRule, BoxShapeRule, InnerRule, NamedInnerRule, FunctionShapeRule, TypeFunctionShapeRule, shape_pieces, shape_tree, shape_rule_at, named_at, paren_at, ShapeStart, ExitStart, BoxStart, ParenStart, TypeFunctionStart, ShapeHead, WholeShape, StartsShape, NoShape, shape_head, shape_start_at, shape_over, shape_place, type_over}
use Rattle.cc_grammar.proofs.Spelling.{name-is, spell-append, spell-standing}
use Rattle.cc_grammar.proofs.Sure.{SureAt, BeginsIn, made-sure, shift-sure, resplit}
use Rattle.cc_grammar.proofs.PieceLanguages.{kind_language, parts_language, parts_height, kind-filler, parts-filler}
use Rattle.cc_grammar.proofs.SurePieces.{via, refused, AreSure, pieces_at-sure, set_language, set-spells, set_at-sure}
use Rattle.cc_grammar.proofs.ShapeRules.{shape-positive, type-positive, shape_front, shape-terminals, shape-height, shape-made, shape-fair, shape-first, WholeAt, shape-whole, shape_start, shape-starts}

-- what a rule makes of its pieces, behind its front
lift : (rule : ShapeRule) (at : Place) (pre : List PlacedLexeme) → Spell pre (standing_at at (shape_front rule)) → (p : Parts (shape_pieces rule)) (xs : List PlacedLexeme) → (parts_language (shape_pieces rule)).spells p xs → (kind_language ShapePart).spells (shape_tree rule at p) (pre ++ xs)
lift rule at pre front p xs (are, sp) =
    (shape-made rule at p are, subst (Spell (pre ++ xs)) (sym (shape-terminals rule at p)) (spell-append pre xs _ _ front sp))

shape_rule_at-sure : (rd : Readers) (n : ℕ) → AreSure rd n → (at : Place) (rule : ShapeRule) (pre : List PlacedLexeme) → Spell pre (standing_at at (shape_front rule)) → (ts : List PlacedLexeme) → SureAt (kind_language ShapePart) (suc (suc n)) (suc n) pre ts (shape_rule_at rd n at rule ts)
unfolding shape_rule_at
shape_rule_at-sure rd n sure at rule pre front ts =
    made-sure (parts_language (shape_pieces rule)) (kind_language ShapePart) (shape_tree rule at) pre (lift rule at pre front) (suc n) n (suc (suc n)) (suc n)
    (λ a le. rw (shape-height rule at a) (omega arith))
    (λ a s le le'. (omega arith, rw (shape-height rule at a) (omega arith)))
    ts (pieces_at rd (shape_pieces rule) n ts) (pieces_at-sure rd n sure (shape_pieces rule) (shape-fair rule) n (omega arith) ts)

-- some shape of the rule goes on behind its front, with parts of height 1
begun : (n : ℕ) (at : Place) (rule : ShapeRule) (pre : List PlacedLexeme) → Spell pre (standing_at at (shape_front rule)) → BeginsIn (kind_language ShapePart) (suc (suc n)) pre
begun n at rule pre front =
    let f = parts-filler (shape_pieces rule) (shape-fair rule) in
    let low : parts_height (shape_pieces rule) f.value ≤ 1 = f.low in
    (shape_tree rule at f.value, f.tokens, rw (shape-height rule at f.value) (omega arith), lift rule at pre front f.value f.tokens f.spelled)

named_at-sure : (rd : Readers) (n : ℕ) → AreSure rd n → (t u : PlacedLexeme) (x : List ℕ) → t.lexeme ≡ SymbolLexeme symbols.Open → u.lexeme ≡ NameLexeme x → (ts : List PlacedLexeme) → SureAt (kind_language ShapePart) (suc (suc n)) (suc n) (t ∷ u ∷ []) ts (named_at rd n t.at (u.at, x) ts)
unfolding named_at
named_at-sure rd n sure t u x e f ts = go (begins_symbol symbols.Colon ts)
  where
    go : (b : Bool) → SureAt (kind_language ShapePart) (suc (suc n)) (suc n) (t ∷ u ∷ []) ts (if b then shape_rule_at rd n t.at (FunctionShapeRule x) ts else shape_rule_at rd n t.at (NamedInnerRule u.at x) ts)
    go true = shape_rule_at-sure rd n sure t.at (FunctionShapeRule x) (t ∷ u ∷ []) (e, (refl, tt), (f, tt, tt)) ts
    go false = shape_rule_at-sure rd n sure t.at (NamedInnerRule u.at x) (t ∷ u ∷ []) (e, (refl, tt), (f, (refl, tt), tt)) ts

paren_at-sure : (rd : Readers) (n : ℕ) → AreSure rd n → (t : PlacedLexeme) → t.lexeme ≡ SymbolLexeme symbols.Open → (ts : List PlacedLexeme) → SureAt (kind_language ShapePart) (suc (suc n)) (suc n) (t ∷ []) ts (paren_at rd n t.at ts)
unfolding paren_at
paren_at-sure rd n sure t e [] = ([], refl, begun n t.at InnerRule (t ∷ []) (e, (refl, tt), tt))
paren_at-sure rd n sure t e (u ∷ us) = go (name_of u.lexeme) refl
  where
    go : (o : Option (List ℕ)) → name_of u.lexeme ≡ o → SureAt (kind_language ShapePart) (suc (suc n)) (suc n) (t ∷ []) (u ∷ us) (paren_at rd n t.at (u ∷ us))
    go None f = via (kind_language ShapePart) (suc (suc n)) (suc n) (t ∷ []) (u ∷ us) (paren_at rd n t.at (u ∷ us)) (shape_rule_at rd n t.at InnerRule (u ∷ us)) (rw (f, paren_at) refl) (shape_rule_at-sure rd n sure t.at InnerRule (t ∷ []) (e, (refl, tt), tt) (u ∷ us))
    go (Some x) f = via (kind_language ShapePart) (suc (suc n)) (suc n) (t ∷ []) (u ∷ us) (paren_at rd n t.at (u ∷ us)) (named_at rd n t.at (u.at, x) us) (rw (f, paren_at) refl) (shift-sure (kind_language ShapePart) (suc (suc n)) (suc n) (t ∷ []) (u ∷ []) us (named_at rd n t.at (u.at, x) us) (named_at-sure rd n sure t u x e (name-is u.lexeme x f) us))

-- the rule whose first token starts a shape
abbrev start_rule : ShapeStart → ShapeRule
start_rule ExitStart = ExitShapeRule
start_rule BoxStart = BoxShapeRule
start_rule ParenStart = InnerRule
start_rule TypeFunctionStart = TypeFunctionShapeRule

start-front : (start : ShapeStart) (t : PlacedLexeme) → t.lexeme ≡ shape_start start → Spell (t ∷ []) (standing_at t.at (shape_front (start_rule start)))
start-front ExitStart t e = (e, (refl, tt), tt)
start-front BoxStart t e = (e, (refl, tt), tt)
start-front ParenStart t e = (e, (refl, tt), tt)
start-front TypeFunctionStart t e = (e, (refl, tt), tt)

shape_start_at-sure : (rd : Readers) (n : ℕ) → AreSure rd n → (start : ShapeStart) (t : PlacedLexeme) → t.lexeme ≡ shape_start start → (ts : List PlacedLexeme) → SureAt (kind_language ShapePart) (suc (suc n)) (suc n) (t ∷ []) ts (shape_start_at rd n t.at start ts)
unfolding shape_start_at
shape_start_at-sure rd n sure ExitStart t e ts = shape_rule_at-sure rd n sure t.at ExitShapeRule (t ∷ []) (start-front ExitStart t e) ts
shape_start_at-sure rd n sure BoxStart t e ts = shape_rule_at-sure rd n sure t.at BoxShapeRule (t ∷ []) (start-front BoxStart t e) ts
shape_start_at-sure rd n sure ParenStart t e ts = paren_at-sure rd n sure t e ts
shape_start_at-sure rd n sure TypeFunctionStart t e ts = shape_rule_at-sure rd n sure t.at TypeFunctionShapeRule (t ∷ []) (start-front TypeFunctionStart t e) ts

-- the readers one level below, where there is one
abbrev pub AreSureBelow : ℕ → Readers → Type 0
AreSureBelow zero rd = ⊤
AreSureBelow (suc n) rd = AreSure rd n

pub shape_over-sure : (room : ℕ) (rd : Readers) → AreSureBelow room rd → (ts : List PlacedLexeme) → SureAt (kind_language ShapePart) (suc room) room [] ts (shape_over room rd ts)
unfolding shape_over
shape_over-sure room rd sure [] = refused (kind_language ShapePart) (kind-filler ShapePart tt) room room []
shape_over-sure room rd sure (t ∷ ts) = go room sure (shape_head t.at t.lexeme) refl
  where
    whole : (n : ℕ) (shape : ShapeSyntax) → WholeAt t.at t.lexeme shape → SureAt (kind_language ShapePart) (suc n) n [] (t ∷ ts) (Got shape n ts)
    whole n shape w = (t ∷ [], refl, (w.is, w.spelled), omega arith, rw w.height (omega arith))

    go : (n : ℕ) → AreSureBelow n rd → (head : ShapeHead) → shape_head t.at t.lexeme ≡ head → SureAt (kind_language ShapePart) (suc n) n [] (t ∷ ts) (shape_over n rd (t ∷ ts))
    go n below (WholeShape shape) e = via (kind_language ShapePart) (suc n) n [] (t ∷ ts) (shape_over n rd (t ∷ ts)) (Got shape n ts) (rw (e, shape_over) refl) (whole n shape (shape-whole t.at t.lexeme shape e))
    go zero below (StartsShape start) e =
        let f = kind-filler ShapePart tt in
        let b = begun zero t.at (start_rule start) (t ∷ []) (start-front start t (shape-starts t.at t.lexeme start e)) in
        via (kind_language ShapePart) 1 zero [] (t ∷ ts) (shape_over zero rd (t ∷ ts)) (High (t ∷ ts)) (rw (e, shape_over) refl) ([], t, ts, refl, refl, (f.value, f.tokens, f.low, f.spelled), (b.0, b.1, b.3))
    go (suc n) below (StartsShape start) e = via (kind_language ShapePart) (suc (suc n)) (suc n) [] (t ∷ ts) (shape_over (suc n) rd (t ∷ ts)) (shape_start_at rd n t.at start ts) (rw (e, shape_over) refl) (shift-sure (kind_language ShapePart) (suc (suc n)) (suc n) [] (t ∷ []) ts (shape_start_at rd n t.at start ts) (shape_start_at-sure rd n below start t (shape-starts t.at t.lexeme start e) ts))
    go n below NoShape e = via (kind_language ShapePart) (suc n) n [] (t ∷ ts) (shape_over n rd (t ∷ ts)) (Wrong (t ∷ ts)) (rw (e, shape_over) refl) (refused (kind_language ShapePart) (kind-filler ShapePart tt) n n (t ∷ ts))

-- WHERE A TYPE ENDS

-- what holds of the value that was found and of the tokens behind it
abbrev pub Behind : {A : Type 0} → (A → List PlacedLexeme → Type 0) → Found A → Type 0
Behind P (Got v s rest) = P v rest
Behind P (Wrong rest) = ⊤
Behind P (High rest) = ⊤

pub behind-then : {A B : Type 0} (P : B → List PlacedLexeme → Type 0) (found : Found A) (next : A → ℕ → Reader B) → ((v : A) (s : ℕ) (rest : List PlacedLexeme) → Behind P (next v s rest)) → Behind P (found >>= next)
behind-then P (Got v s rest) next h = h v s rest
behind-then P (Wrong rest) next h = tt
behind-then P (High rest) next h = tt

pub behind-made : {A B : Type 0} (P : A → List PlacedLexeme → Type 0) (Q : B → List PlacedLexeme → Type 0) (f : A → ℕ → ℕ) (g : A → B) → ((v : A) (rest : List PlacedLexeme) → P v rest → Q (g v) rest) → (found : Found A) → Behind P found → Behind Q (found >>= λ v s rest. Got (g v) (f v s) rest)
behind-made P Q f g k (Got v s rest) h = k v rest h
behind-made P Q f g k (Wrong rest) h = tt
behind-made P Q f g k (High rest) h = tt

abbrev pub HasSet : SetSyntax → Type 0
HasSet AbsentSet = ⊥
HasSet (OmittedSet at) = ⊤
HasSet (WrittenSet elements) = ⊤

abbrev pub type_has_set : TypeSyntax → Type 0
type_has_set (CapturingType at shape set) = HasSet set

-- no type without a set ends the shape
abbrev pub IsClosed : ShapeSyntax → Type 0
IsClosed (BaseShape at base) = ⊤
IsClosed (AnyShape at) = ⊤
IsClosed (NamedShape at name) = ⊤
IsClosed (ExitShape at gives) = ⊤
IsClosed (BoxShape at content) = ⊤
IsClosed (ParenthesizedShape at inner) = ⊤
IsClosed (FunctionShape at parameter takes gives) = type_has_set gives
IsClosed (TypeFunctionShape at parameter bound gives) = type_has_set gives

-- such a shape can take any set
pub closed-takes : (shape : ShapeSyntax) (set : SetSyntax) → IsClosed shape → CanTake shape set
closed-takes (BaseShape at base) AbsentSet h = tt
closed-takes (BaseShape at base) (OmittedSet q) h = tt
closed-takes (BaseShape at base) (WrittenSet es) h = tt
closed-takes (AnyShape at) AbsentSet h = tt
closed-takes (AnyShape at) (OmittedSet q) h = tt
closed-takes (AnyShape at) (WrittenSet es) h = tt
closed-takes (NamedShape at name) AbsentSet h = tt
closed-takes (NamedShape at name) (OmittedSet q) h = tt
closed-takes (NamedShape at name) (WrittenSet es) h = tt
closed-takes (ExitShape at gives) AbsentSet h = tt
closed-takes (ExitShape at gives) (OmittedSet q) h = tt
closed-takes (ExitShape at gives) (WrittenSet es) h = tt
closed-takes (BoxShape at content) AbsentSet h = tt
closed-takes (BoxShape at content) (OmittedSet q) h = tt
closed-takes (BoxShape at content) (WrittenSet es) h = tt
closed-takes (ParenthesizedShape at inner) AbsentSet h = tt
closed-takes (ParenthesizedShape at inner) (OmittedSet q) h = tt
closed-takes (ParenthesizedShape at inner) (WrittenSet es) h = tt
closed-takes (FunctionShape at x takes gives) AbsentSet h = tt
closed-takes (FunctionShape at x takes (CapturingType p s AbsentSet)) (OmittedSet q) h = absurd h
closed-takes (FunctionShape at x takes (CapturingType p s (OmittedSet r))) (OmittedSet q) h = tt
closed-takes (FunctionShape at x takes (CapturingType p s (WrittenSet fs))) (OmittedSet q) h = tt
closed-takes (FunctionShape at x takes (CapturingType p s AbsentSet)) (WrittenSet es) h = absurd h
closed-takes (FunctionShape at x takes (CapturingType p s (OmittedSet r))) (WrittenSet es) h = tt
closed-takes (FunctionShape at x takes (CapturingType p s (WrittenSet fs))) (WrittenSet es) h = tt
closed-takes (TypeFunctionShape at x bound gives) AbsentSet h = tt
closed-takes (TypeFunctionShape at x bound (CapturingType p s AbsentSet)) (OmittedSet q) h = absurd h
closed-takes (TypeFunctionShape at x bound (CapturingType p s (OmittedSet r))) (OmittedSet q) h = tt
closed-takes (TypeFunctionShape at x bound (CapturingType p s (WrittenSet fs))) (OmittedSet q) h = tt
closed-takes (TypeFunctionShape at x bound (CapturingType p s AbsentSet)) (WrittenSet es) h = absurd h
closed-takes (TypeFunctionShape at x bound (CapturingType p s (OmittedSet r))) (WrittenSet es) h = tt
closed-takes (TypeFunctionShape at x bound (CapturingType p s (WrittenSet fs))) (WrittenSet es) h = tt

-- where a caret follows, there is a set before it
abbrev pub SetEnds : SetSyntax → List PlacedLexeme → Type 0
SetEnds set rest = begins_symbol symbols.Caret rest ≡ true → HasSet set

abbrev pub TypeEnds : TypeSyntax → List PlacedLexeme → Type 0
TypeEnds it rest = begins_symbol symbols.Caret rest ≡ true → type_has_set it

abbrev pub ShapeEnds : ShapeSyntax → List PlacedLexeme → Type 0
ShapeEnds shape rest = begins_symbol symbols.Caret rest ≡ true → IsClosed shape

caret_at-ends : (s : ℕ) (ts : List PlacedLexeme) → Behind SetEnds (caret_at s ts)
unfolding caret_at
caret_at-ends s [] = tt
caret_at-ends s (t ∷ ts) = go (caret_step t.lexeme)
  where
    go : (step : CaretStep) → Behind SetEnds (elim step [ Omits ↦ Got (OmittedSet t.at) s ts | Opens ↦ (elements_at AtFirst s ts >>= λ elements left rest. Got (WrittenSet elements) left rest) | Fails ↦ Wrong (t ∷ ts) ])
    go Omits = λ e. tt
    go Opens = behind-then SetEnds (elements_at AtFirst s ts) _ (λ v left rest. λ e. tt)
    go Fails = tt

set_at-ends : (s : ℕ) (ts : List PlacedLexeme) → Behind SetEnds (set_at s ts)
unfolding set_at
set_at-ends s [] = λ e. cc
set_at-ends s (t ∷ ts) = go (is_symbol symbols.Caret t.lexeme) refl
  where
    go : (b : Bool) → is_symbol symbols.Caret t.lexeme ≡ b → Behind SetEnds (if b then caret_at s ts else Got AbsentSet s (t ∷ ts))
    go true e = caret_at-ends s ts
    go false e = λ f. cc

pub type_over-ends : (room : ℕ) (rd : Readers) (ts : List PlacedLexeme) → Behind TypeEnds (type_over room rd ts)
unfolding type_over
type_over-ends room rd ts = behind-then TypeEnds (shape_over room rd ts) _ (λ shape s rest. behind-made SetEnds TypeEnds (λ v less. less) (CapturingType (shape_place shape) shape) (λ v more h. h) (set_at s rest) (set_at-ends s rest))

-- the readers one level below, where there is one, end types so
abbrev pub TypesEnd : Readers → Type 0
TypesEnd rd = (ts : List PlacedLexeme) → Behind TypeEnds (rd TypePart ts)

-- a production that ends in a type
abbrev EndsBy : (pieces : List Piece) → Parts (pieces ++ Part TypePart ∷ []) → List PlacedLexeme → Type 0
EndsBy [] v rest = TypeEnds v.0 rest
EndsBy (piece ∷ pieces) v rest = EndsBy pieces v.1 rest

ends-by : (rd : Readers) → TypesEnd rd → (pieces : List Piece) (s : ℕ) (ts : List PlacedLexeme) → Behind (EndsBy pieces) (pieces_at rd (pieces ++ Part TypePart ∷ []) s ts)
unfolding one_part_at
ends-by rd ends [] s ts =
    behind-made TypeEnds (EndsBy []) (λ v less. less) (λ v. (v, tt)) (λ v r h. h) (one_part_at rd TypePart s ts)
    (behind-made TypeEnds TypeEnds (λ v less. min s less) (λ v. v) (λ v r h. h) (rd TypePart ts) (ends ts))
ends-by rd ends (piece ∷ pieces) s ts = behind-then (EndsBy (piece ∷ pieces)) (piece_at rd piece s ts) _ (λ v l r. behind-made (EndsBy pieces) (EndsBy (piece ∷ pieces)) (λ w less. less) (λ vs. (v, vs)) (λ w q h. h) (pieces_at rd (pieces ++ Part TypePart ∷ []) l r) (ends-by rd ends pieces l r))

shape_rule_at-ends : (rd : Readers) → TypesEnd rd → (n : ℕ) (at : Place) (rule : ShapeRule) (ts : List PlacedLexeme) → Behind ShapeEnds (shape_rule_at rd n at rule ts)
unfolding shape_rule_at
shape_rule_at-ends rd ends n at ExitShapeRule ts = behind-then ShapeEnds (pieces_at rd (shape_pieces ExitShapeRule) n ts) _ (λ v s rest e. tt)
shape_rule_at-ends rd ends n at BoxShapeRule ts = behind-then ShapeEnds (pieces_at rd (shape_pieces BoxShapeRule) n ts) _ (λ v s rest e. tt)
shape_rule_at-ends rd ends n at InnerRule ts = behind-then ShapeEnds (pieces_at rd (shape_pieces InnerRule) n ts) _ (λ v s rest e. tt)
shape_rule_at-ends rd ends n at (NamedInnerRule p x) ts = behind-then ShapeEnds (pieces_at rd (shape_pieces (NamedInnerRule p x)) n ts) _ (λ v s rest e. tt)
shape_rule_at-ends rd ends n at (FunctionShapeRule x) ts =
    behind-made (EndsBy (ASymbol symbols.Colon ∷ Part TypePart ∷ ASymbol symbols.Close ∷ ASymbol symbols.Arrow ∷ [])) ShapeEnds (λ v less. less) (shape_tree (FunctionShapeRule x) at) (λ v r h. h) (pieces_at rd (shape_pieces (FunctionShapeRule x)) n ts)
    (ends-by rd ends (ASymbol symbols.Colon ∷ Part TypePart ∷ ASymbol symbols.Close ∷ ASymbol symbols.Arrow ∷ []) n ts)
shape_rule_at-ends rd ends n at TypeFunctionShapeRule ts =
    behind-made (EndsBy (AName ∷ ASymbol symbols.Below ∷ Part ShapePart ∷ ASymbol symbols.CloseBracket ∷ ASymbol symbols.Arrow ∷ [])) ShapeEnds (λ v less. less) (shape_tree TypeFunctionShapeRule at) (λ v r h. h) (pieces_at rd (shape_pieces TypeFunctionShapeRule) n ts)
    (ends-by rd ends (AName ∷ ASymbol symbols.Below ∷ Part ShapePart ∷ ASymbol symbols.CloseBracket ∷ ASymbol symbols.Arrow ∷ []) n ts)

named_at-ends : (rd : Readers) → TypesEnd rd → (n : ℕ) (at : Place) (name : PlacedName) (ts : List PlacedLexeme) → Behind ShapeEnds (named_at rd n at name ts)
unfolding named_at
named_at-ends rd ends n at name ts = go (begins_symbol symbols.Colon ts)
  where
    go : (b : Bool) → Behind ShapeEnds (if b then shape_rule_at rd n at (FunctionShapeRule name.1) ts else shape_rule_at rd n at (NamedInnerRule name.0 name.1) ts)
    go true = shape_rule_at-ends rd ends n at (FunctionShapeRule name.1) ts
    go false = shape_rule_at-ends rd ends n at (NamedInnerRule name.0 name.1) ts

paren_at-ends : (rd : Readers) → TypesEnd rd → (n : ℕ) (at : Place) (ts : List PlacedLexeme) → Behind ShapeEnds (paren_at rd n at ts)
unfolding paren_at
paren_at-ends rd ends n at [] = tt
paren_at-ends rd ends n at (t ∷ ts) = go (name_of t.lexeme)
  where
    go : (o : Option (List ℕ)) → Behind ShapeEnds (elim o [ None ↦ shape_rule_at rd n at InnerRule (t ∷ ts) | Some name ↦ named_at rd n at (t.at, name) ts ])
    go None = shape_rule_at-ends rd ends n at InnerRule (t ∷ ts)
    go (Some x) = named_at-ends rd ends n at (t.at, x) ts

shape_start_at-ends : (rd : Readers) → TypesEnd rd → (n : ℕ) (at : Place) (start : ShapeStart) (ts : List PlacedLexeme) → Behind ShapeEnds (shape_start_at rd n at start ts)
unfolding shape_start_at
shape_start_at-ends rd ends n at ExitStart ts = shape_rule_at-ends rd ends n at ExitShapeRule ts
shape_start_at-ends rd ends n at BoxStart ts = shape_rule_at-ends rd ends n at BoxShapeRule ts
shape_start_at-ends rd ends n at ParenStart ts = paren_at-ends rd ends n at ts
shape_start_at-ends rd ends n at TypeFunctionStart ts = shape_rule_at-ends rd ends n at TypeFunctionShapeRule ts

leaf-closed : (at : Place) (l : Lexeme) (s : ShapeSyntax) → WholeAt at l s → IsClosed s
leaf-closed at l (BaseShape p base) w = tt
leaf-closed at l (AnyShape p) w = tt
leaf-closed at l (NamedShape p name) w = tt
leaf-closed at l (ExitShape p gives) w = tt
leaf-closed at l (BoxShape p content) w = tt
leaf-closed at l (ParenthesizedShape p inner) w = tt
leaf-closed at l (FunctionShape p x takes gives) w = absurd (omega (arith, w.height, type-positive takes))
leaf-closed at l (TypeFunctionShape p x bound gives) w = absurd (omega (arith, w.height, shape-positive bound))

shape_over-ends : (room : ℕ) (rd : Readers) → TypesEnd rd → (ts : List PlacedLexeme) → Behind ShapeEnds (shape_over room rd ts)
unfolding shape_over
shape_over-ends room rd ends [] = tt
shape_over-ends room rd ends (t ∷ ts) = go room (shape_head t.at t.lexeme) refl
  where
    start : (n : ℕ) (s : ShapeStart) → Behind ShapeEnds (elim n [ zero ↦ High (t ∷ ts) | suc below ↦ shape_start_at rd below t.at s ts ])
    start zero s = tt
    start (suc n) s = shape_start_at-ends rd ends n t.at s ts

    go : (n : ℕ) (head : ShapeHead) → shape_head t.at t.lexeme ≡ head → Behind ShapeEnds (elim head [ WholeShape shape ↦ Got shape n ts | StartsShape s ↦ (elim n [ zero ↦ High (t ∷ ts) | suc below ↦ shape_start_at rd below t.at s ts ]) | NoShape ↦ Wrong (t ∷ ts) ])
    go n (WholeShape shape) e = λ f. leaf-closed t.at t.lexeme shape (shape-whole t.at t.lexeme shape e)
    go n (StartsShape s) e = start n s
    go n NoShape e = tt

-- TYPES

type-spelled : (shape : ShapeSyntax) (set : SetSyntax) (xs ys : List PlacedLexeme) → Spell xs (shape_terminals shape) → Spell ys (set_terminals set) → Spell (xs ++ ys) (type_terminals (CapturingType (shape_place shape) shape set))
type-spelled shape set xs ys h k = spell-standing (shape_place shape) xs ys (shape_terminals shape ++ set_terminals set) (shape-first shape xs h) (spell-append xs ys (shape_terminals shape) (set_terminals set) h k)

without_set : ShapeSyntax → TypeSyntax
without_set shape = CapturingType (shape_place shape) shape AbsentSet

without-set : (shape : ShapeSyntax) (xs : List PlacedLexeme) → (kind_language ShapePart).spells shape xs → (kind_language TypePart).spells (without_set shape) xs
unfolding without_set
without-set shape xs (is, h) = ((is, tt), subst (λ y. Spell y (type_terminals (CapturingType (shape_place shape) shape AbsentSet))) (append-nil xs) (type-spelled shape AbsentSet xs [] h tt))

set_at-absent : (s : ℕ) (ts : List PlacedLexeme) → begins_symbol symbols.Caret ts ≡ false → set_at s ts ≡ Got AbsentSet s ts
unfolding set_at
set_at-absent s [] e = refl
set_at-absent s (t ∷ ts) e = rw e refl

pub type_over-sure : (room : ℕ) (rd : Readers) → AreSureBelow room rd → TypesEnd rd → (ts : List PlacedLexeme) → SureAt (kind_language TypePart) (suc room) room [] ts (type_over room rd ts)
unfolding type_over without_set
type_over-sure room rd sure ends ts = go (shape_over room rd ts) (shape_over-sure room rd sure ts) (shape_over-ends room rd ends ts)
  where
    typed : ShapeSyntax → ℕ → Reader TypeSyntax
    typed shape s rest = set_at s rest >>= λ set left behind. Got (CapturingType (shape_place shape) shape set) left behind

    set : (shape : ShapeSyntax) (s : ℕ) (rest front : List PlacedLexeme) → ts ≡ front ++ rest → IsShape shape → Spell front (shape_terminals shape) → s ≤ room → s + shape_height shape ≤ suc room → ShapeEnds shape rest → (b : Bool) → begins_symbol symbols.Caret rest ≡ b → SureAt (kind_language TypePart) (suc room) room [] ts (typed shape s rest)
    set shape s rest front e is sp le le' closes true caret =
        resplit (kind_language TypePart) (suc room) room [] (front ++ rest) ts (typed shape s rest) e
        (shift-sure (kind_language TypePart) (suc room) room [] front rest (typed shape s rest)
        (made-sure set_language (kind_language TypePart) (CapturingType (shape_place shape) shape) front
        (λ a xs h. ((is, closed-takes shape a (closes caret)), type-spelled shape a front xs sp (set-spells a xs h)))
        (suc room) s (suc room) room (λ a h. omega arith) (λ a r h h'. (omega arith, omega arith)) rest (set_at s rest) (set_at-sure room s le rest)))
    set shape s rest front e is sp le le' closes false caret =
        via (kind_language TypePart) (suc room) room [] ts (typed shape s rest) (Got (CapturingType (shape_place shape) shape AbsentSet) s rest) (rw (set_at-absent s rest caret) refl)
        (front, e, without-set shape front (is, sp), le, le')

    go : (found : Found ShapeSyntax) → SureAt (kind_language ShapePart) (suc room) room [] ts found → Behind ShapeEnds found → SureAt (kind_language TypePart) (suc room) room [] ts (found >>= typed)
    go (Got shape s rest) (front, e, (is, sp), le, le') closes = set shape s rest front e is sp le le' closes (begins_symbol symbols.Caret rest) refl
    go (Wrong rest) h closes = made-sure (kind_language ShapePart) (kind_language TypePart) without_set [] without-set (suc room) room (suc room) room (λ a k. k) (λ a s k k'. (k, k')) ts (Wrong rest) h
    go (High rest) h closes = made-sure (kind_language ShapePart) (kind_language TypePart) without_set [] without-set (suc room) room (suc room) room (λ a k. k) (λ a s k k'. (k, k')) ts (High rest) h
