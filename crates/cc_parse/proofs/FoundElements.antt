-- What is found of a set's elements behind those that are read already.
use Rattle.std.proofs.Common.{◌≡◌, ℕ, List, [], ◌∷◌, ◌++◌, refl, sym, ap, ◌∙◌, ◌≤◌, length, get_or, Option}
use Rattle.cc_base.specs.declared.place.Place.{Place}
use Rattle.std.proofs.lemmas.List.{map-append}
use Rattle.cc_lex.specs.Lexemes.{PlacedLexeme, lexeme_of, placed_of, placed_all}
use Rattle.cc_lex.specs.declared.token.Token.{Token}
use Rattle.cc_grammar.specs.Syntax.{ElementSyntax}
use Rattle.cc_grammar.specs.Reading.{Found, Got, ◌>>=◌, SetState, Behind, Takes, set_step, elements_at}
use Rattle.cc_parse.specs.declared.tree.ElemTree.{ElemTree}
use Rattle.cc_parse.proofs.FoundLists.{behind-more}
use Rattle.cc_parse.specs.Agreement.{behind}
use Rattle.cc_parse.proofs.FirstTokens.{others, placed-split}
use Rattle.cc_parse.specs.Trees.{element_syntax, elements_syntax}

-- the element that a token is
abbrev pub element_at : Place → Option (List ℕ) → ElemTree
element_at at name = record { at = at; name = name }

elements_at-takes : (state : SetState) (spare : ℕ) (token : PlacedLexeme) (rest : List PlacedLexeme) (name : Option (List ℕ)) → set_step state token.lexeme ≡ Takes name → elements_at state spare (token ∷ rest) ≡ (elements_at Behind spare rest >>= λ more less after. Got (element_syntax (element_at token.at name) ∷ more) less after)
unfolding elements_at
elements_at-takes state spare token rest name h = rw (h, elements_at) refl

module _ (before after : List ElemTree) (state : SetState) (spare : ℕ) (left : List Token) (token : Token) (name : Option (List ℕ)) (whole : Found (List ElementSyntax)) where
  -- an element is read: it goes behind those that are read already
  pub takes_next : 1 ≤ length left → token ≡ get_or left 0 token → set_step state (lexeme_of token.kind) ≡ Takes name → after ≡ before ++ element_at token.at name ∷ [] → behind (elements_syntax before) (elements_at state spare (placed_all left)) ≡ whole
      → behind (elements_syntax after) (elements_at Behind spare (placed_all (others left))) ≡ whole
  takes_next some first step now_is until_now =
      let rest = placed_all (others left) in
      let one = element_at token.at name in
      ap (λ es. behind (elements_syntax es) (elements_at Behind spare rest)) now_is
      ∙ ap (λ es. behind es (elements_at Behind spare rest)) (map-append element_syntax before (one ∷ []))
      ∙ behind-more (elements_syntax before) (element_syntax one) (elements_at Behind spare rest)
      ∙ ap (λ found. behind (elements_syntax before) found) (sym (elements_at-takes state spare (placed_of token) rest name step))
      ∙ ap (λ ts. behind (elements_syntax before) (elements_at state spare ts)) (sym (placed-split left token some first))
      ∙ until_now
