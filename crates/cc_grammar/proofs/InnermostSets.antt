-- A set behind a shape belongs to the innermost type that can take it.
use Rattle.std.proofs.Common.{◌≡◌, ◌∙◌, ◌↔◌, ℕ, false, List, [], ◌∷◌, ◌++◌, Option, Some, None, codes, refl, sym, ap, subst, append_assoc, append-nil}
use Rattle.cc_base.specs.declared.place.Place.{Place}
use Rattle.cc_base.specs.Literals.{UnitLiteral}
use Rattle.cc_lex.specs.declared.token.Word.TheVariants as words
use Rattle.cc_lex.specs.declared.token.Symbol.TheVariants as symbols
use Rattle.cc_lex.specs.Lexemes.{Lexeme, NameLexeme, WordLexeme, SymbolLexeme, PlacedLexeme}
use Rattle.cc_grammar.specs.Syntax.{SetSyntax, AbsentSet, OmittedSet, WrittenSet, TypeSyntax, CapturingType, ShapeSyntax, BaseShape, AnyShape, NamedShape, ExitShape, BoxShape, ParenthesizedShape, FunctionShape, TypeFunctionShape, LiteralExpr, DefSyntax, ModuleSyntax}
use Rattle.cc_grammar.specs.Grammar.{Terminal, word, symbol, named, standing_at, Spell, set_terminals, type_terminals, shape_terminals, literal_lexeme, terminal, CanTake, IsType, IsShape, IsModule}
use Rattle.cc_grammar.specs.GrammarLaws.{with_set_inside, SetsBelongToInnermostTypes}
use Rattle.cc_grammar.proofs.Spelling.{spell-append}
use Rattle.cc_grammar.proofs.Readings.{modules_have_one_tree}

abbrev HasSome : List Terminal → Type 0
HasSome [] = ⊥
HasSome (first ∷ rest) = Unit {0}

shape_has_some : (shape : ShapeSyntax) → HasSome (shape_terminals shape)
shape_has_some (BaseShape at base) = tt
shape_has_some _ = tt

-- only the first terminal stands at the place
standing_front : (at : Place) (front back : List Terminal) → HasSome front → standing_at at (front ++ back) ≡ standing_at at (front ++ []) ++ back
standing_front at [] back some = absurd some
standing_front at (first ∷ rest) back some =
    ap (λ x. record { lexeme = first.lexeme; places = at ∷ first.places } ∷ (x ++ back)) (sym (append-nil rest))

-- what stands behind the last part of a list stands behind the list
behind_last : (front : List Terminal) (one other : Terminal) (last longer back : List Terminal) → longer ≡ last ++ back
    → (front ++ one ∷ other ∷ longer) ++ [] ≡ (front ++ one ∷ other ∷ last) ++ back
behind_last front one other last longer back e =
    append-nil (front ++ one ∷ other ∷ longer) ∙ ap (λ x. front ++ one ∷ other ∷ x) e ∙ sym (append_assoc front (one ∷ other ∷ last) back)

-- the terminals are the same
same_terminals : (at : Place) (shape : ShapeSyntax) (set : SetSyntax) → type_terminals (with_set_inside at shape set) ≡ type_terminals (CapturingType at shape set)
same_terminals at (FunctionShape place parameter takes (CapturingType start gives AbsentSet)) set =
    ap (λ x. record { lexeme = SymbolLexeme symbols.Open; places = at ∷ place ∷ [] } ∷ named parameter ∷ symbol symbols.Colon ∷ x)
    (behind_last (type_terminals takes) (symbol symbols.Close) (symbol symbols.Arrow) (standing_at start (shape_terminals gives ++ [])) _ (set_terminals set)
    (same_terminals start gives set ∙ standing_front start (shape_terminals gives) (set_terminals set) (shape_has_some gives)))
same_terminals at (TypeFunctionShape place parameter bound (CapturingType start gives AbsentSet)) set =
    ap (λ x. record { lexeme = SymbolLexeme symbols.OpenBracket; places = at ∷ place ∷ [] } ∷ named parameter ∷ symbol symbols.Below ∷ x)
    (behind_last (shape_terminals bound) (symbol symbols.CloseBracket) (symbol symbols.Arrow) (standing_at start (shape_terminals gives ++ [])) _ (set_terminals set)
    (same_terminals start gives set ∙ standing_front start (shape_terminals gives) (set_terminals set) (shape_has_some gives)))
same_terminals at shape set = refl

-- a shape that can take some set can take each
can_take : (shape : ShapeSyntax) → CanTake shape (WrittenSet []) → (set : SetSyntax) → CanTake shape set
can_take shape can AbsentSet = tt
can_take (FunctionShape place parameter takes (CapturingType start gives AbsentSet)) can set = absurd can
can_take (TypeFunctionShape place parameter bound (CapturingType start gives AbsentSet)) can set = absurd can
can_take shape can set = tt

is_type : (at : Place) (shape : ShapeSyntax) (set : SetSyntax) → IsShape shape → IsType (with_set_inside at shape set)
is_type at (FunctionShape place parameter takes (CapturingType start gives AbsentSet)) set (p, (q, r)) = ((p, is_type start gives set q), tt)
is_type at (TypeFunctionShape place parameter bound (CapturingType start gives AbsentSet)) set (p, (q, r)) = ((p, is_type start gives set q), tt)
is_type at shape set is = (is, can_take shape tt set)

-- the module of one definition that has the type
abbrev around : Place → TypeSyntax → ModuleSyntax
around at it = record {
  imports = [];
  defs = record { own = false; name = codes "a"; name_at = at; written = Some it; right = LiteralExpr at UnitLiteral } ∷ [];
}

abbrev placed : Place → Lexeme → PlacedLexeme
placed at lexeme = record { lexeme = lexeme; at = at }

-- its tokens
abbrev tokens_around : Place → List PlacedLexeme → List PlacedLexeme
tokens_around at tokens =
    placed at (WordLexeme words.Def) ∷ placed at (NameLexeme (codes "a")) ∷ placed at (SymbolLexeme symbols.Colon)
    ∷ ((tokens ++ placed at (SymbolLexeme symbols.Equals) ∷ placed at (WordLexeme words.Unit) ∷ []) ++ [])

is_module : (at : Place) (tokens : List PlacedLexeme) (it : TypeSyntax) → IsType it → Spell tokens (type_terminals it) → IsModule (tokens_around at tokens) (around at it)
is_module at tokens it is spells = record {
  grammatical = ((is, tt, tt), tt);
  spelled = (
    refl,
    tt,
    (
      refl,
      (refl, tt),
      (
        refl,
        tt,
        spell-append (tokens ++ placed at (SymbolLexeme symbols.Equals) ∷ placed at (WordLexeme words.Unit) ∷ []) []
            (type_terminals it ++ symbol symbols.Equals ∷ standing_at at (terminal (literal_lexeme UnitLiteral) ∷ [])) []
            (spell-append tokens _ (type_terminals it) _ spells (refl, tt, (refl, (refl, tt), tt))) tt,
      ),
    ),
  );
}

abbrev type_or : TypeSyntax → Option TypeSyntax → TypeSyntax
type_or other None = other
type_or other (Some it) = it

abbrev type_in_defs : TypeSyntax → List DefSyntax → TypeSyntax
type_in_defs other [] = other
type_in_defs other (def ∷ defs) = type_or other def.written

-- no tokens are those of two types
types_have_one_tree : (at : Place) (tokens : List PlacedLexeme) (a b : TypeSyntax) → IsType a → Spell tokens (type_terminals a) → IsType b → Spell tokens (type_terminals b) → a ≡ b
types_have_one_tree at tokens a b p q r s =
    ap (λ m. type_in_defs a m.defs) (modules_have_one_tree (tokens_around at tokens) (around at a) (around at b) (is_module at tokens a p q) (is_module at tokens b r s))

pub sets_belong_to_innermost_types : SetsBelongToInnermostTypes
sets_belong_to_innermost_types tokens at shape set is spells it =
    let typed : IsType (with_set_inside at shape set) = is_type at shape set is in
    let spelled : Spell tokens (type_terminals (with_set_inside at shape set)) = subst (Spell tokens) (sym (same_terminals at shape set)) spells in (
      (λ h. types_have_one_tree at tokens it (with_set_inside at shape set) h.0 h.1 typed spelled),
      (λ e. subst (λ x. IsType x × Spell tokens (type_terminals x)) (sym e) (typed, spelled)),
    )
