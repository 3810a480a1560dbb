-- The readers of parts in a room, by what the first token is.
use Rattle.std.proofs.Common.{◌≡◌, ℕ, zero, suc, ◌<◌, ◌≤◌, ◌-◌, length, get_or, List, [], ◌∷◌, refl, sym, ap, ◌∙◌, arith, nat_le, true, false}
use Rattle.std.proofs.lemmas.Bool.Decides.{nat_tests}
use Rattle.cc_lex.specs.declared.token.Token.{Token}
use Rattle.cc_lex.specs.Lexemes.{PlacedLexeme, lexeme_of, placed_of, placed_all}
use Rattle.cc_parse.proofs.FirstTokens.{others, placed-nothing, placed-split}
use Rattle.cc_base.specs.declared.place.Place.{Place}
use Rattle.cc_grammar.specs.Syntax.{ExprSyntax, ShapeSyntax, CapturingType}
use Rattle.cc_grammar.specs.Reading.{ExprPart, ExprStart, WholeExpr, StartsExpr, NoExpr, expr_head, start_level, links_at, expr_over, nothing_at, Found, Got, Wrong, High, ◌>>=◌, ShapePart, TypePart, ShapeStart, WholeShape, StartsShape, NoShape, shape_head, shape_start_at, shape_over, shape_place, set_at, type_over, part_at}
use Rattle.cc_parse.specs.declared.tree.ShapeForm.{ShapeForm}
use Rattle.cc_parse.specs.declared.tree.ShapeForm.TheVariants as shapes
use Rattle.cc_parse.specs.Trees.{shape_form_syntax}
use Rattle.cc_parse.specs.Steps.{started_at}

pub shape_part-nothing : (room : ℕ) → part_at room ShapePart [] ≡ Wrong []
unfolding part_at shape_over
shape_part-nothing zero = refl
shape_part-nothing (suc n) = refl

pub shape_part-whole : (room : ℕ) (token : PlacedLexeme) (rest : List PlacedLexeme) (shape : ShapeSyntax) → shape_head token.at token.lexeme ≡ WholeShape shape → part_at room ShapePart (token ∷ rest) ≡ Got shape room rest
unfolding part_at shape_over
shape_part-whole zero token rest shape h = rw (h, shape_over) refl
shape_part-whole (suc n) token rest shape h = rw (h, shape_over) refl

pub shape_part-none : (room : ℕ) (token : PlacedLexeme) (rest : List PlacedLexeme) → shape_head token.at token.lexeme ≡ NoShape → part_at room ShapePart (token ∷ rest) ≡ Wrong (token ∷ rest)
unfolding part_at shape_over
shape_part-none zero token rest h = rw (h, shape_over) refl
shape_part-none (suc n) token rest h = rw (h, shape_over) refl

pub shape_part-high : (room : ℕ) (token : PlacedLexeme) (rest : List PlacedLexeme) (start : ShapeStart) → room ≡ 0 → shape_head token.at token.lexeme ≡ StartsShape start → part_at room ShapePart (token ∷ rest) ≡ High (token ∷ rest)
unfolding part_at shape_over
shape_part-high zero token rest start z h = rw (h, shape_over) refl
shape_part-high (suc n) token rest start z h = absurd (omega arith)

pub shape_part-starts : (room : ℕ) (token : PlacedLexeme) (rest : List PlacedLexeme) (start : ShapeStart) → 0 < room → shape_head token.at token.lexeme ≡ StartsShape start → part_at room ShapePart (token ∷ rest) ≡ shape_start_at (part_at (room - 1)) (room - 1) token.at start rest
unfolding part_at shape_over
shape_part-starts zero token rest start some h = absurd (omega arith)
shape_part-starts (suc n) token rest start some h =
    let e : suc n - 1 ≡ n = omega arith in
    rw (h, shape_over, e) refl

-- the same of the program's tokens
pub shape_found-empty : (room : ℕ) (tokens : List Token) → length tokens < 1 → part_at room ShapePart (placed_all tokens) ≡ Wrong (placed_all tokens)
shape_found-empty room tokens none = rw (placed-nothing tokens none) (shape_part-nothing room)

module _ (room : ℕ) (tokens : List Token) (token : Token) (some : 1 ≤ length tokens) (first : token ≡ get_or tokens 0 token) where
  pub shape_found-whole : (shape : ShapeSyntax) → shape_head token.at (lexeme_of token.kind) ≡ WholeShape shape → part_at room ShapePart (placed_all tokens) ≡ Got shape room (placed_all (others tokens))
  shape_found-whole shape h =
      ap (part_at room ShapePart) (placed-split tokens token some first) ∙ shape_part-whole room (placed_of token) (placed_all (others tokens)) shape h

  pub shape_found-high : (start : ShapeStart) → room ≡ 0 → shape_head token.at (lexeme_of token.kind) ≡ StartsShape start → part_at room ShapePart (placed_all tokens) ≡ High (placed_all tokens)
  shape_found-high start z h =
      let split = placed-split tokens token some first in
      ap (part_at room ShapePart) split ∙ (shape_part-high room (placed_of token) (placed_all (others tokens)) start z h ∙ ap (λ ts. High ts) (sym split))

  pub shape_found-none : shape_head token.at (lexeme_of token.kind) ≡ NoShape → part_at room ShapePart (placed_all tokens) ≡ Wrong (placed_all tokens)
  shape_found-none h =
      let split = placed-split tokens token some first in
      ap (part_at room ShapePart) split ∙ (shape_part-none room (placed_of token) (placed_all (others tokens)) h ∙ ap (λ ts. Wrong ts) (sym split))

  pub shape_found-starts : (start : ShapeStart) → 0 < room → shape_head token.at (lexeme_of token.kind) ≡ StartsShape start → part_at room ShapePart (placed_all tokens) ≡ shape_start_at (part_at (room - 1)) (room - 1) token.at start (placed_all (others tokens))
  shape_found-starts start h e =
      ap (part_at room ShapePart) (placed-split tokens token some first) ∙ shape_part-starts room (placed_of token) (placed_all (others tokens)) start h e

-- what is found of an expression that is at least so tight
module _ (room least : ℕ) where
  expr_part-nothing : part_at room (ExprPart least) [] ≡ Wrong []
  unfolding part_at expr_over
  expr_part-nothing = by_room room
    where
      by_room : (r : ℕ) → part_at r (ExprPart least) [] ≡ Wrong []
      by_room zero = refl
      by_room (suc n) = refl

  module _ (token : PlacedLexeme) (rest : List PlacedLexeme) where
    expr_part-none : expr_head token.at token.lexeme ≡ NoExpr → part_at room (ExprPart least) (token ∷ rest) ≡ Wrong (token ∷ rest)
    unfolding part_at expr_over
    expr_part-none h = by_room room
      where
        by_room : (r : ℕ) → part_at r (ExprPart least) (token ∷ rest) ≡ Wrong (token ∷ rest)
        by_room zero = rw (h, expr_over) refl
        by_room (suc n) = rw (h, expr_over) refl

    expr_part-alone : (expr : ExprSyntax) → room ≡ 0 → expr_head token.at token.lexeme ≡ WholeExpr expr → part_at room (ExprPart least) (token ∷ rest) ≡ links_at nothing_at least 0 expr 0 rest
    unfolding part_at expr_over
    expr_part-alone expr z h = by_room room z
      where
        by_room : (r : ℕ) → r ≡ 0 → part_at r (ExprPart least) (token ∷ rest) ≡ links_at nothing_at least 0 expr 0 rest
        by_room zero i = rw (h, expr_over) refl
        by_room (suc n) i = absurd (omega arith)

    expr_part-whole : (expr : ExprSyntax) → 0 < room → expr_head token.at token.lexeme ≡ WholeExpr expr → part_at room (ExprPart least) (token ∷ rest) ≡ links_at (part_at (room - 1)) least room expr room rest
    unfolding part_at expr_over
    expr_part-whole expr some h = by_room room some
      where
        by_room : (r : ℕ) → 0 < r → part_at r (ExprPart least) (token ∷ rest) ≡ links_at (part_at (r - 1)) least r expr r rest
        by_room zero i = absurd (omega arith)
        by_room (suc n) i =
            let e : suc n - 1 ≡ n = omega arith in
            rw (h, expr_over, e) refl

    expr_part-loose : (start : ExprStart) → nat_le least (start_level start) ≡ false → expr_head token.at token.lexeme ≡ StartsExpr start → part_at room (ExprPart least) (token ∷ rest) ≡ Wrong (token ∷ rest)
    unfolding part_at expr_over
    expr_part-loose start loose h = by_room room
      where
        by_room : (r : ℕ) → part_at r (ExprPart least) (token ∷ rest) ≡ Wrong (token ∷ rest)
        by_room zero = rw (h, expr_over, loose) refl
        by_room (suc n) = rw (h, expr_over, loose) refl

    expr_part-high : (start : ExprStart) → nat_le least (start_level start) ≡ true → room ≡ 0 → expr_head token.at token.lexeme ≡ StartsExpr start → part_at room (ExprPart least) (token ∷ rest) ≡ High (token ∷ rest)
    unfolding part_at expr_over
    expr_part-high start tight z h = by_room room z
      where
        by_room : (r : ℕ) → r ≡ 0 → part_at r (ExprPart least) (token ∷ rest) ≡ High (token ∷ rest)
        by_room zero i = rw (h, expr_over, tight) refl
        by_room (suc n) i = absurd (omega arith)

    expr_part-starts : (start : ExprStart) → nat_le least (start_level start) ≡ true → 0 < room → expr_head token.at token.lexeme ≡ StartsExpr start → part_at room (ExprPart least) (token ∷ rest) ≡ started_at (room - 1) least token.at start rest
    unfolding part_at expr_over started_at
    expr_part-starts start tight some h = by_room room some
      where
        by_room : (r : ℕ) → 0 < r → part_at r (ExprPart least) (token ∷ rest) ≡ started_at (r - 1) least token.at start rest
        by_room zero i = absurd (omega arith)
        by_room (suc n) i =
            let e : suc n - 1 ≡ n = omega arith in
            rw (h, expr_over, tight, e) refl

  -- the same of the program's tokens
  pub expr_found-empty : (tokens : List Token) → length tokens < 1 → part_at room (ExprPart least) (placed_all tokens) ≡ Wrong (placed_all tokens)
  expr_found-empty tokens none = rw (placed-nothing tokens none) expr_part-nothing

  module _ (tokens : List Token) (token : Token) (some : 1 ≤ length tokens) (first : token ≡ get_or tokens 0 token) where
    at_first : (found : Found ExprSyntax) → part_at room (ExprPart least) (placed_of token ∷ placed_all (others tokens)) ≡ found → part_at room (ExprPart least) (placed_all tokens) ≡ found
    at_first found h = ap (part_at room (ExprPart least)) (placed-split tokens token some first) ∙ h

    whole_again : (f : List PlacedLexeme → Found ExprSyntax) → f (placed_of token ∷ placed_all (others tokens)) ≡ f (placed_all tokens)
    whole_again f = ap f (sym (placed-split tokens token some first))

    pub expr_found-none : expr_head token.at (lexeme_of token.kind) ≡ NoExpr → part_at room (ExprPart least) (placed_all tokens) ≡ Wrong (placed_all tokens)
    expr_found-none h = at_first _ (expr_part-none (placed_of token) (placed_all (others tokens)) h ∙ whole_again (λ ts. Wrong ts))

    pub expr_found-alone : (expr : ExprSyntax) → room ≡ 0 → expr_head token.at (lexeme_of token.kind) ≡ WholeExpr expr → part_at room (ExprPart least) (placed_all tokens) ≡ links_at nothing_at least 0 expr 0 (placed_all (others tokens))
    expr_found-alone expr z h = at_first _ (expr_part-alone (placed_of token) (placed_all (others tokens)) expr z h)

    pub expr_found-whole : (expr : ExprSyntax) → 0 < room → expr_head token.at (lexeme_of token.kind) ≡ WholeExpr expr → part_at room (ExprPart least) (placed_all tokens) ≡ links_at (part_at (room - 1)) least room expr room (placed_all (others tokens))
    expr_found-whole expr more h = at_first _ (expr_part-whole (placed_of token) (placed_all (others tokens)) expr more h)

    pub expr_found-loose : (start : ExprStart) → start_level start < least → expr_head token.at (lexeme_of token.kind) ≡ StartsExpr start → part_at room (ExprPart least) (placed_all tokens) ≡ Wrong (placed_all tokens)
    expr_found-loose start loose h = at_first _ (expr_part-loose (placed_of token) (placed_all (others tokens)) start (grind (arith, nat_tests)) h ∙ whole_again (λ ts. Wrong ts))

    pub expr_found-high : (start : ExprStart) → least ≤ start_level start → room ≡ 0 → expr_head token.at (lexeme_of token.kind) ≡ StartsExpr start → part_at room (ExprPart least) (placed_all tokens) ≡ High (placed_all tokens)
    expr_found-high start tight z h = at_first _ (expr_part-high (placed_of token) (placed_all (others tokens)) start (grind (arith, nat_tests)) z h ∙ whole_again (λ ts. High ts))

    pub expr_found-starts : (start : ExprStart) → least ≤ start_level start → 0 < room → expr_head token.at (lexeme_of token.kind) ≡ StartsExpr start → part_at room (ExprPart least) (placed_all tokens) ≡ started_at (room - 1) least token.at start (placed_all (others tokens))
    expr_found-starts start tight more h = at_first _ (expr_part-starts (placed_of token) (placed_all (others tokens)) start (grind (arith, nat_tests)) more h)

pub type_part : (room : ℕ) (tokens : List PlacedLexeme) → part_at room TypePart tokens ≡ (part_at room ShapePart tokens >>= λ shape spare rest. set_at spare rest >>= λ set left behind. Got (CapturingType (shape_place shape) shape set) left behind)
unfolding part_at type_over
type_part zero tokens = refl
type_part (suc n) tokens = refl

pub shape_place-form : (at : Place) (form : ShapeForm) → shape_place (shape_form_syntax at form) ≡ at
shape_place-form at (shapes.Base base) = refl
shape_place-form at shapes.Any = refl
shape_place-form at (shapes.Name name) = refl
shape_place-form at (shapes.Exit' p place form) = refl
shape_place-form at (shapes.Boxed' p place shape_place form set) = refl
shape_place-form at (shapes.Paren' p place form) = refl
shape_place-form at (shapes.Fun' x p a b c d q e f g h) = refl
shape_place-form at (shapes.TFun' x p a b q c d e f) = refl

pub ruleset type_parts = (type_part, shape_place-form)
