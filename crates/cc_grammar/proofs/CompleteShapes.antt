-- On the tokens of a shape or a type its reader gives it, or has no room for it.
use Rattle.std.proofs.Common.{◌≡◌, ◌∙◌, ℕ, zero, suc, ◌+◌, ◌-◌, ◌≤◌, min, max, false, List, [], ◌∷◌, ◌++◌, None, refl, sym, ap, subst, append_assoc, arith}
use Rattle.std.proofs.lemmas.List.{append-nil}
use Rattle.cc_base.specs.declared.place.Place.{Place}
use Rattle.cc_base.specs.declared.literal.Base.{Base}
use Rattle.cc_base.specs.declared.literal.Base.TheVariants as bases
use Rattle.cc_lex.specs.declared.token.Symbol.TheVariants as symbols
use Rattle.cc_lex.specs.Lexemes.{NameLexeme, WordLexeme, SymbolLexeme, PlacedLexeme}
use Rattle.cc_grammar.specs.Syntax.{SetSyntax, AbsentSet, OmittedSet, WrittenSet, TypeSyntax, CapturingType, ShapeSyntax, BaseShape, AnyShape, NamedShape, ExitShape, BoxShape, ParenthesizedShape, FunctionShape, TypeFunctionShape, shape_height, type_height}
use Rattle.cc_grammar.specs.Grammar.{symbol, named, Spell, base_word, shape_terminals, type_terminals, set_terminals, IsShape, IsType, CanTake}
use Rattle.cc_grammar.specs.Tests.{begins_symbol, is_symbol, name_of}
use Rattle.cc_grammar.specs.Reading.{Got, High, ◌>>=◌, ShapePart, TypePart, Parts, pieces_at, set_at, ShapeRule, ExitShapeRule, BoxShapeRule, InnerRule, NamedInnerRule, FunctionShapeRule, TypeFunctionShapeRule, shape_pieces, shape_tree, shape_rule_at, named_at, paren_at, ShapeStart, ExitStart, BoxStart, ParenStart, TypeFunctionStart, WholeShape, StartsShape, shape_head, shape_start_at, shape_over, shape_place, type_over, part_at}
use Rattle.cc_grammar.proofs.Spelling.{is_symbol-same, Split, spell-split, spell-unplaced, First, first-more, standing-place}
use Rattle.cc_grammar.proofs.PieceLanguages.{parts_terminals, parts_height}
use Rattle.cc_grammar.proofs.ShapeRules.{shape-positive, type-positive, shape-height, shape-first}
use Rattle.cc_grammar.proofs.Complete.{IsHigh, high-then, Bounded, SetStops, TypeStops, ShapeStops, Stopper, IsSane, LastStops, sane-stops, KindReads, AllRead, pieces-read, set-read}

-- SIGNS BEFORE WHICH ALL STOPS

pub stop_close : Stopper (SymbolLexeme symbols.Close)
stop_close = record { link = refl; caret = refl; colon = refl; brace = refl }

pub stop_close_bracket : Stopper (SymbolLexeme symbols.CloseBracket)
stop_close_bracket = record { link = refl; caret = refl; colon = refl; brace = refl }

-- RULES

shape_rule-read : (rule : ShapeRule) (at : Place) (p : Parts (shape_pieces rule)) → AllRead (shape_pieces rule) p → IsSane (shape_pieces rule) → (m : ℕ) (ts rest : List PlacedLexeme) → LastStops (shape_pieces rule) p rest → Spell ts (parts_terminals (shape_pieces rule) p) → Bounded (shape_height (shape_tree rule at p)) (suc m) (shape_rule_at (part_at m) m at rule (ts ++ rest)) (shape_tree rule at p) rest
unfolding shape_rule_at
shape_rule-read rule at p reads sane m ts rest last h =
    let b = pieces-read (shape_pieces rule) p reads m m (omega arith) ts rest h (sane-stops (shape_pieces rule) p rest sane last) in
    let height = shape-height rule at p in
    record {
      low = λ small.
          let spares : min m (suc m - parts_height (shape_pieces rule) p) ≡ suc (suc m) - shape_height (shape_tree rule at p) = omega arith in
          rw (b.low (omega arith)) (ap (λ x. Got (shape_tree rule at p) x rest) spares);
      high = λ great. high-then (pieces_at (part_at m) (shape_pieces rule) m (ts ++ rest)) _ (b.high (omega arith));
    }

-- a shape of more than one token, from its first token on
started : (start : ShapeStart) (tree : Place → ShapeSyntax) (height : ℕ) (at : Place) (t : PlacedLexeme) (us rest : List PlacedLexeme) → shape_head t.at t.lexeme ≡ StartsShape start → t.at ≡ at → 2 ≤ height → ((m : ℕ) → Bounded height (suc m) (shape_start_at (part_at m) m t.at start us) (tree t.at) rest) → (n : ℕ) → Bounded height n (part_at n ShapePart (t ∷ us)) (tree at) rest
unfolding part_at shape_over
started start tree height at t us rest e p tall read zero =
    let here : part_at zero ShapePart (t ∷ us) ≡ High (t ∷ us) = rw (e, shape_over) refl in
    record { low = λ h. absurd (omega arith); high = λ h. subst IsHigh (sym here) tt }
started start tree height at t us rest e p tall read (suc m) =
    let here : part_at (suc m) ShapePart (t ∷ us) ≡ shape_start_at (part_at m) m t.at start us = rw (e, shape_over) refl in
    subst (λ a. Bounded height (suc m) (part_at (suc m) ShapePart (t ∷ us)) (tree a) rest) p
    (subst (λ x. Bounded height (suc m) x (tree t.at) rest) (sym here) (read m))

-- a shape of one token
whole : (tree : Place → ShapeSyntax) (at : Place) (t : PlacedLexeme) (rest : List PlacedLexeme) → shape_head t.at t.lexeme ≡ WholeShape (tree t.at) → t.at ≡ at → shape_height (tree at) ≡ 1 → (n : ℕ) → Bounded (shape_height (tree at)) n (part_at n ShapePart (t ∷ rest)) (tree at) rest
unfolding part_at shape_over
whole tree at t rest e p height n = record { low = λ h. here n ∙ ap (λ a. Got (tree a) n rest) p ∙ ap (λ x. Got (tree at) x rest) (omega arith); high = λ h. absurd (omega arith) }
  where
    here : (n : ℕ) → part_at n ShapePart (t ∷ rest) ≡ Got (tree t.at) n rest
    here zero = rw (e, shape_over) refl
    here (suc m) = rw (e, shape_over) refl

base-head : (at : Place) (b : Base) → shape_head at (WordLexeme (base_word b)) ≡ WholeShape (BaseShape at b)
base-head at bases.Unit = refl
base-head at bases.Bool = refl
base-head at bases.Int = refl
base-head at bases.Str = refl
base-head at bases.Console = refl
base-head at bases.File = refl
base-head at bases.Counter = refl

base-read : (at : Place) (b : Base) → KindReads ShapePart (BaseShape at b)
base-read at b n [] rest h stops = absurd h
base-read at b n (t ∷ []) rest (l, (p, q), h) stops = whole (λ a. BaseShape a b) at t rest (ap (shape_head t.at) l ∙ base-head t.at b) p refl n
base-read at b n (t ∷ u ∷ us) rest (l, p, h) stops = absurd h

any-read : (at : Place) → KindReads ShapePart (AnyShape at)
any-read at n [] rest h stops = absurd h
any-read at n (t ∷ []) rest (l, (p, q), h) stops = whole AnyShape at t rest (rw l refl) p refl n
any-read at n (t ∷ u ∷ us) rest (l, p, h) stops = absurd h

named-read : (at : Place) (x : List ℕ) → KindReads ShapePart (NamedShape at x)
named-read at x n [] rest h stops = absurd h
named-read at x n (t ∷ []) rest (l, (p, q), h) stops = whole (λ a. NamedShape a x) at t rest (rw l refl) p refl n
named-read at x n (t ∷ u ∷ us) rest (l, p, h) stops = absurd h

exit-read : (at : Place) (gives : ShapeSyntax) → KindReads ShapePart gives → KindReads ShapePart (ExitShape at gives)
unfolding shape_start_at
exit-read at gives read n [] rest h stops = absurd h
exit-read at gives read n (t ∷ us) rest (l, (p, q), h) stops =
    started ExitStart (λ a. ExitShape a gives) (1 + shape_height gives) at t (us ++ rest) rest (rw l refl) p (omega (arith, shape-positive gives))
    (λ m. shape_rule-read ExitShapeRule t.at (tt, (gives, (tt, tt))) (tt, (read, (tt, tt))) (tt, (stop_close_bracket, tt)) m us rest tt h) n

box-read : (at : Place) (content : TypeSyntax) → KindReads TypePart content → KindReads ShapePart (BoxShape at content)
unfolding shape_start_at
box-read at content read n [] rest h stops = absurd h
box-read at content read n (t ∷ us) rest (l, (p, q), h) stops =
    started BoxStart (λ a. BoxShape a content) (1 + type_height content) at t (us ++ rest) rest (rw l refl) p (omega (arith, type-positive content))
    (λ m. shape_rule-read BoxShapeRule t.at (tt, (content, (tt, tt))) (tt, (read, (tt, tt))) (tt, (stop_close_bracket, tt)) m us rest tt h) n

type_function-read : (at : Place) (x : List ℕ) (bound : ShapeSyntax) (gives : TypeSyntax) → KindReads ShapePart bound → KindReads TypePart gives → KindReads ShapePart (TypeFunctionShape at x bound gives)
unfolding shape_start_at
type_function-read at x bound gives read more n [] rest h stops = absurd h
type_function-read at x bound gives read more n (t ∷ us) rest (l, (p, q), h) stops =
    let same : named x ∷ symbol symbols.Below ∷ (shape_terminals bound ++ symbol symbols.CloseBracket ∷ symbol symbols.Arrow ∷ type_terminals gives) ≡ parts_terminals (shape_pieces TypeFunctionShapeRule) (x, (tt, (bound, (tt, (tt, (gives, tt)))))) = rw append-nil refl in
    started TypeFunctionStart (λ a. TypeFunctionShape a x bound gives) (1 + max (shape_height bound) (type_height gives)) at t (us ++ rest) rest (rw l refl) p (omega (arith, shape-positive bound))
    (λ m. shape_rule-read TypeFunctionShapeRule t.at (x, (tt, (bound, (tt, (tt, (gives, tt)))))) (tt, (tt, (read, (tt, (tt, (more, tt)))))) (tt, (tt, (stop_close_bracket, (tt, (tt, tt))))) m us rest stops (subst (Spell us) same h)) n

paren-function : (x : List ℕ) (t u w : PlacedLexeme) (ws : List PlacedLexeme) (m : ℕ) → u.lexeme ≡ NameLexeme x → w.lexeme ≡ SymbolLexeme symbols.Colon → paren_at (part_at m) m t.at (u ∷ w ∷ ws) ≡ shape_rule_at (part_at m) m t.at (FunctionShapeRule x) (w ∷ ws)
unfolding paren_at named_at
paren-function x t u w ws m k c = rw (k, paren_at) (rw (is_symbol-same symbols.Colon w.lexeme c) refl)

function-read : (at : Place) (x : List ℕ) (takes gives : TypeSyntax) → KindReads TypePart takes → KindReads TypePart gives → KindReads ShapePart (FunctionShape at x takes gives)
unfolding shape_start_at
function-read at x takes gives read more n [] rest h stops = absurd h
function-read at x takes gives read more n (t ∷ []) rest (l, (p, q), h) stops = absurd h
function-read at x takes gives read more n (t ∷ u ∷ []) rest (l, (p, q), (k, r, h)) stops = absurd h
function-read at x takes gives read more n (t ∷ u ∷ w ∷ ws) rest (l, (p, q), (k, r, (c, s, h))) stops =
    let same : symbol symbols.Colon ∷ (type_terminals takes ++ symbol symbols.Close ∷ symbol symbols.Arrow ∷ type_terminals gives) ≡ parts_terminals (shape_pieces (FunctionShapeRule x)) (tt, (takes, (tt, (tt, (gives, tt))))) = rw append-nil refl in
    started ParenStart (λ a. FunctionShape a x takes gives) (1 + max (type_height takes) (type_height gives)) at t (u ∷ w ∷ (ws ++ rest)) rest (rw l refl) p (omega (arith, type-positive takes))
    (λ m. subst (λ f. Bounded (1 + max (type_height takes) (type_height gives)) (suc m) f (FunctionShape t.at x takes gives) rest) (sym (paren-function x t u w (ws ++ rest) m k c))
    (shape_rule-read (FunctionShapeRule x) t.at (tt, (takes, (tt, (tt, (gives, tt))))) (tt, (read, (tt, (tt, (more, tt))))) (tt, (stop_close, (tt, (tt, tt)))) m (w ∷ ws) rest stops (subst (Spell (w ∷ ws)) same (c, s, h)))) n

-- a shape in parentheses that is no name
inner-read : (inner : ShapeSyntax) → KindReads ShapePart inner → (at : Place) (m : ℕ) (u : PlacedLexeme) (us rest : List PlacedLexeme) → name_of u.lexeme ≡ None → Spell (u ∷ us) (shape_terminals inner ++ symbol symbols.Close ∷ []) → Bounded (1 + shape_height inner) (suc m) (paren_at (part_at m) m at (u ∷ (us ++ rest))) (ParenthesizedShape at inner) rest
unfolding paren_at
inner-read inner read at m u us rest e h =
    subst (λ f. Bounded (1 + shape_height inner) (suc m) f (ParenthesizedShape at inner) rest) (sym here)
    (shape_rule-read InnerRule at (inner, (tt, tt)) (read, (tt, tt)) (stop_close, tt) m (u ∷ us) rest tt h)
  where
    here : paren_at (part_at m) m at (u ∷ (us ++ rest)) ≡ shape_rule_at (part_at m) m at InnerRule (u ∷ (us ++ rest))
    here = rw (e, paren_at) refl

-- a name in parentheses
inner_name-read : (place : Place) (x : List ℕ) (at : Place) (m : ℕ) (us rest : List PlacedLexeme) → Spell us (shape_terminals (NamedShape place x) ++ symbol symbols.Close ∷ []) → Bounded 2 (suc m) (paren_at (part_at m) m at (us ++ rest)) (ParenthesizedShape at (NamedShape place x)) rest
unfolding paren_at named_at
inner_name-read place x at m [] rest h = absurd h
inner_name-read place x at m (u ∷ []) rest (l, p, h) = absurd h
inner_name-read place x at m (u ∷ w ∷ v ∷ vs) rest (l, p, (c, r, h)) = absurd h
inner_name-read place x at m (u ∷ w ∷ []) rest (l, (p, q), (c, r, h)) =
    subst (λ f. Bounded 2 (suc m) f (ParenthesizedShape at (NamedShape place x)) rest) (sym here)
    (shape_rule-read (NamedInnerRule place x) at (tt, tt) (tt, tt) tt m (w ∷ []) rest tt (c, r, tt))
  where
    closes : is_symbol symbols.Colon w.lexeme ≡ false
    closes = rw c refl

    here : paren_at (part_at m) m at (u ∷ w ∷ rest) ≡ shape_rule_at (part_at m) m at (NamedInnerRule place x) (w ∷ rest)
    here = rw (l, paren_at) (rw closes (ap (λ a. shape_rule_at (part_at m) m at (NamedInnerRule a x) (w ∷ rest)) p))

paren-read : (inner : ShapeSyntax) → KindReads ShapePart inner → (at : Place) (m : ℕ) (us rest : List PlacedLexeme) → Spell us (shape_terminals inner ++ symbol symbols.Close ∷ []) → Bounded (1 + shape_height inner) (suc m) (paren_at (part_at m) m at (us ++ rest)) (ParenthesizedShape at inner) rest
paren-read (NamedShape place x) read at m us rest h = inner_name-read place x at m us rest h
paren-read (BaseShape place b) read at m [] rest h = absurd h
paren-read (BaseShape place b) read at m (u ∷ us) rest h = inner-read (BaseShape place b) read at m u us rest (ap name_of h.0) h
paren-read (AnyShape place) read at m [] rest h = absurd h
paren-read (AnyShape place) read at m (u ∷ us) rest h = inner-read (AnyShape place) read at m u us rest (ap name_of h.0) h
paren-read (ExitShape place gives) read at m [] rest h = absurd h
paren-read (ExitShape place gives) read at m (u ∷ us) rest h = inner-read (ExitShape place gives) read at m u us rest (ap name_of h.0) h
paren-read (BoxShape place content) read at m [] rest h = absurd h
paren-read (BoxShape place content) read at m (u ∷ us) rest h = inner-read (BoxShape place content) read at m u us rest (ap name_of h.0) h
paren-read (ParenthesizedShape place inner) read at m [] rest h = absurd h
paren-read (ParenthesizedShape place inner) read at m (u ∷ us) rest h = inner-read (ParenthesizedShape place inner) read at m u us rest (ap name_of h.0) h
paren-read (FunctionShape place x takes gives) read at m [] rest h = absurd h
paren-read (FunctionShape place x takes gives) read at m (u ∷ us) rest h = inner-read (FunctionShape place x takes gives) read at m u us rest (ap name_of h.0) h
paren-read (TypeFunctionShape place x bound gives) read at m [] rest h = absurd h
paren-read (TypeFunctionShape place x bound gives) read at m (u ∷ us) rest h = inner-read (TypeFunctionShape place x bound gives) read at m u us rest (ap name_of h.0) h

parenthesized-read : (at : Place) (inner : ShapeSyntax) → KindReads ShapePart inner → KindReads ShapePart (ParenthesizedShape at inner)
unfolding shape_start_at
parenthesized-read at inner read n [] rest h stops = absurd h
parenthesized-read at inner read n (t ∷ us) rest (l, (p, q), h) stops =
    started ParenStart (λ a. ParenthesizedShape a inner) (1 + shape_height inner) at t (us ++ rest) rest (rw l refl) p (omega (arith, shape-positive inner))
    (λ m. paren-read inner read t.at m us rest h) n

-- TYPES

part-type : (n : ℕ) (ts : List PlacedLexeme) → part_at n TypePart ts ≡ (part_at n ShapePart ts >>= λ shape spare rest. set_at spare rest >>= λ set left behind. Got (CapturingType (shape_place shape) shape set) left behind)
unfolding part_at type_over
part-type zero ts = refl
part-type (suc n) ts = refl

pub same-place : (a b : Place) (front back : List PlacedLexeme) → First a front → First b (front ++ back) → a ≡ b
same-place a b front back f g =
    let e : f.token ∷ (f.more ++ back) ≡ g.token ∷ g.more = subst (λ x. x ++ back ≡ g.token ∷ g.more) f.whole g.whole in
    let same : f.token ≡ g.token = cc in
    sym f.place ∙ ap (λ t. t.at) same ∙ g.place

gives-stops : (gives : TypeSyntax) (set : SetSyntax) (back rest : List PlacedLexeme) → ((at : Place) (s : ShapeSyntax) → gives ≡ CapturingType at s AbsentSet → set ≡ AbsentSet) → Spell back (set_terminals set) → SetStops set rest → TypeStops gives (back ++ rest)
gives-stops (CapturingType at s (OmittedSet q)) set back rest only h stops = tt
gives-stops (CapturingType at s (WrittenSet es)) set back rest only h stops = tt
gives-stops (CapturingType at s AbsentSet) set back rest only h stops = go set back (only at s refl) h stops
  where
    go : (set : SetSyntax) (back : List PlacedLexeme) → set ≡ AbsentSet → Spell back (set_terminals set) → SetStops set rest → begins_symbol symbols.Caret (back ++ rest) ≡ false
    go AbsentSet [] e h stops = stops
    go AbsentSet (t ∷ ts) e h stops = absurd h
    go (OmittedSet q) back e h stops = cc
    go (WrittenSet es) back e h stops = cc

function-only : (at : Place) (x : List ℕ) (takes gives : TypeSyntax) (set : SetSyntax) → CanTake (FunctionShape at x takes gives) set → (p : Place) (s : ShapeSyntax) → gives ≡ CapturingType p s AbsentSet → set ≡ AbsentSet
function-only at x takes gives AbsentSet can p s e = refl
function-only at x takes gives (OmittedSet q) can p s e = absurd (subst (λ g. CanTake (FunctionShape at x takes g) (OmittedSet q)) e can)
function-only at x takes gives (WrittenSet es) can p s e = absurd (subst (λ g. CanTake (FunctionShape at x takes g) (WrittenSet es)) e can)

type_function-only : (at : Place) (x : List ℕ) (bound : ShapeSyntax) (gives : TypeSyntax) (set : SetSyntax) → CanTake (TypeFunctionShape at x bound gives) set → (p : Place) (s : ShapeSyntax) → gives ≡ CapturingType p s AbsentSet → set ≡ AbsentSet
type_function-only at x bound gives AbsentSet can p s e = refl
type_function-only at x bound gives (OmittedSet q) can p s e = absurd (subst (λ g. CanTake (TypeFunctionShape at x bound g) (OmittedSet q)) e can)
type_function-only at x bound gives (WrittenSet es) can p s e = absurd (subst (λ g. CanTake (TypeFunctionShape at x bound g) (WrittenSet es)) e can)

-- a shape stops at the set of its type
shape-stops : (shape : ShapeSyntax) (set : SetSyntax) (back rest : List PlacedLexeme) → CanTake shape set → Spell back (set_terminals set) → SetStops set rest → ShapeStops shape (back ++ rest)
shape-stops (FunctionShape at x takes gives) set back rest can h stops = gives-stops gives set back rest (function-only at x takes gives set can) h stops
shape-stops (TypeFunctionShape at x bound gives) set back rest can h stops = gives-stops gives set back rest (type_function-only at x bound gives set can) h stops
shape-stops _ set back rest can h stops = tt

type-first : (at : Place) (shape : ShapeSyntax) (set : SetSyntax) (ts : List PlacedLexeme) → Spell ts (type_terminals (CapturingType at shape set)) → First (shape_place shape) ts → shape_place shape ≡ at
type-first at shape set [] h f = let e : [] ≡ f.token ∷ f.more = f.whole in cc
type-first at shape set (t ∷ ts) h f =
    let e : t ∷ ts ≡ f.token ∷ f.more = f.whole in
    let same : t ≡ f.token = cc in
    sym f.place ∙ ap (λ x. x.at) (sym same) ∙ standing-place at t ts _ h

capturing-read : (at : Place) (shape : ShapeSyntax) (set : SetSyntax) → CanTake shape set → KindReads ShapePart shape → KindReads TypePart (CapturingType at shape set)
capturing-read at shape set can read n ts rest h stops = record {
  low = λ small.
      part-type n (ts ++ rest) ∙
      (let e : part_at n ShapePart (ts ++ rest) ≡ Got shape (suc n - shape_height shape) (split.back ++ rest) = ap (part_at n ShapePart) whole ∙ b.low small in
      let g : set_at (suc n - shape_height shape) (split.back ++ rest) ≡ Got set (suc n - shape_height shape) rest = set-read set (suc n - shape_height shape) split.back rest split.second stops in
      rw e (rw g (ap (λ a. Got (CapturingType a shape set) (suc n - shape_height shape) rest) place)));
  high = λ great. subst IsHigh (sym (part-type n (ts ++ rest))) (high-then (part_at n ShapePart (ts ++ rest)) _ (subst IsHigh (sym (ap (part_at n ShapePart) whole)) (b.high great)));
}
  where
    split : Split ts (shape_terminals shape) (set_terminals set)
    split = spell-split (shape_terminals shape) (set_terminals set) ts (spell-unplaced at ts _ h)

    place : shape_place shape ≡ at
    place = type-first at shape set ts h (subst (First (shape_place shape)) (sym split.whole) (first-more (shape_place shape) split.front split.back (shape-first shape split.front split.first)))

    whole : ts ++ rest ≡ split.front ++ (split.back ++ rest)
    whole = ap (λ x. x ++ rest) split.whole ∙ append_assoc split.front split.back rest

    b : Bounded (shape_height shape) n (part_at n ShapePart (split.front ++ (split.back ++ rest))) shape (split.back ++ rest)
    b = read n split.front (split.back ++ rest) split.first (shape-stops shape set split.back rest can split.second stops)

mutual
  pub shape-read : (s : ShapeSyntax) → IsShape s → KindReads ShapePart s
  shape-read (BaseShape at base) is = base-read at base
  shape-read (AnyShape at) is = any-read at
  shape-read (NamedShape at name) is = named-read at name
  shape-read (ExitShape at gives) is = exit-read at gives (shape-read gives is)
  shape-read (BoxShape at content) is = box-read at content (type-read content is)
  shape-read (ParenthesizedShape at inner) is = parenthesized-read at inner (shape-read inner is)
  shape-read (FunctionShape at x takes gives) is = function-read at x takes gives (type-read takes is.0) (type-read gives is.1)
  shape-read (TypeFunctionShape at x bound gives) is = type_function-read at x bound gives (shape-read bound is.0) (type-read gives is.1)

  pub type-read : (t : TypeSyntax) → IsType t → KindReads TypePart t
  type-read (CapturingType at shape set) is = capturing-read at shape set is.1 (shape-read shape is.0)
