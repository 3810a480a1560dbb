-- Of the last token behind a front with which low modules begin: what is read tells whether it is refused, and it is where
-- a token is that is like it.
use Rattle.std.proofs.Common.{◌≡◌, ◌∙◌, ◌⊎◌, inl, inr, ◌+◌, List, [], ◌∷◌, ◌++◌, refl, sym, ap, subst, append_assoc, arith}
use Rattle.std.proofs.lemmas.List.{append-nil}
use Rattle.cc_base.specs.declared.place.Place.{Place}
use Rattle.cc_lex.specs.Lexemes.{PlacedLexeme}
use Rattle.cc_grammar.specs.Syntax.{ModuleSyntax}
use Rattle.cc_grammar.specs.Grammar.{IsModule}
use Rattle.cc_grammar.specs.Reads.{Begins, BeginsLow, NoneGoesOn, OnlyHighGoOn, place_of, ModuleReading, TreeOf, SyntaxError, TooHigh, Reads}
use Rattle.cc_grammar.specs.Reading.{Found, module_at, reading_from, reading_of}
use Rattle.cc_grammar.proofs.Readings.{tokens_read_as_they_are}
use Rattle.cc_wanted.proofs.LikeTokens.{IsLike, like_end, like_more, front-like}
use Rattle.cc_wanted.proofs.LikeReaders.{Like, like_got, like_wrong, like_high, AnyTwo, module_at-like}

-- the second front is all but the last token, or ends before it
data Cut (a : List PlacedLexeme) (t : PlacedLexeme) (b : List PlacedLexeme) (r : PlacedLexeme) : Type 0 where
  last : a ≡ b → t ≡ r → Cut a t b r
  before : (mid : List PlacedLexeme) → a ≡ b ++ r ∷ mid → Cut a t b r

cut-next : (x y : PlacedLexeme) → x ≡ y → (a : List PlacedLexeme) (t : PlacedLexeme) (b : List PlacedLexeme) (r : PlacedLexeme) → Cut a t b r → Cut (x ∷ a) t (y ∷ b) r
cut-next x y e a t b r (last f g) = last (cc) g
cut-next x y e a t b r (before mid f) = before mid (cc)

no-token : (a : List PlacedLexeme) (x : PlacedLexeme) (xs : List PlacedLexeme) → [] ≡ a ++ x ∷ xs → ⊥
no-token [] x xs e = cc
no-token (y ∷ a) x xs e = cc

cut-of : (a : List PlacedLexeme) (t : PlacedLexeme) (b : List PlacedLexeme) (r : PlacedLexeme) (rest : List PlacedLexeme) → a ++ t ∷ [] ≡ b ++ r ∷ rest → Cut a t b r
cut-of [] t [] r rest e = last refl (cc)
cut-of [] t (y ∷ b) r rest e = let f : t ∷ [] ≡ y ∷ (b ++ r ∷ rest) = e in absurd (no-token b r rest (cc))
cut-of (x ∷ a) t [] r rest e = before a (let f : x ∷ (a ++ t ∷ []) ≡ r ∷ rest = e in cc)
cut-of (x ∷ a) t (y ∷ b) r rest e = let f : x ∷ (a ++ t ∷ []) ≡ y ∷ (b ++ r ∷ rest) = e in cut-next x y (cc) a t b r (cut-of a t b r rest (cc))

-- what begins with more tokens begins with fewer
shorter : (front : List PlacedLexeme) (t : PlacedLexeme) (mid : List PlacedLexeme) → BeginsLow (front ++ t ∷ mid) → BeginsLow (front ++ t ∷ [])
shorter front t mid (more, it, is, low) =
    (mid ++ more, it, subst (λ x. IsModule x it) (append_assoc front (t ∷ mid) more ∙ sym (append_assoc front (t ∷ []) (mid ++ more))) is, low)

some-begins : (front : List PlacedLexeme) → BeginsLow front → Begins front
some-begins front (more, it, is, low) = (more, it, is)

-- what a reading says of the last token: it goes on, or it is refused at its place
abbrev pub LastIs : List PlacedLexeme → PlacedLexeme → Place → ModuleReading → Type 0
LastIs front t end (TreeOf it) = Begins (front ++ t ∷ [])
LastIs front t end (SyntaxError at) =
    ((at ≡ end) × Begins (front ++ t ∷ [])) ⊎ ((at ≡ t.at) × (Begins (front ++ t ∷ []) → ⊥))
LastIs front t end (TooHigh at) = Begins (front ++ t ∷ [])

refused_last : (front : List PlacedLexeme) (t : PlacedLexeme) (end at : Place) → BeginsLow front → (b rest : List PlacedLexeme) → front ++ t ∷ [] ≡ b ++ rest → at ≡ place_of rest end → BeginsLow b → NoneGoesOn b rest → LastIs front t end (SyntaxError at)
refused_last front t end at low b [] e f begins none = inl (f, subst Begins (sym (e ∙ append-nil b)) (some-begins b begins))
refused_last front t end at low b (r ∷ rest) e f begins none = go (cut-of front t b r rest e)
  where
    go : Cut front t b r → LastIs front t end (SyntaxError at)
    go (last g h) = inr (f ∙ ap (λ x. x.at) (sym h), subst (λ x. Begins (x ++ t ∷ []) → ⊥) (sym g) (subst (λ x. Begins (b ++ x ∷ []) → ⊥) (sym h) none))
    go (before mid g) = absurd (none (some-begins (b ++ r ∷ []) (shorter b r mid (subst BeginsLow g low))))

high_last : (front : List PlacedLexeme) (t : PlacedLexeme) (end at : Place) → BeginsLow front → (b rest : List PlacedLexeme) → front ++ t ∷ [] ≡ b ++ rest → OnlyHighGoOn b rest → LastIs front t end (TooHigh at)
high_last front t end at low b [] e only = absurd only
high_last front t end at low b (r ∷ rest) e only = go (cut-of front t b r rest e)
  where
    go : Cut front t b r → Begins (front ++ t ∷ [])
    go (last g h) = subst (λ x. Begins (x ++ t ∷ [])) (sym g) (subst (λ x. Begins (b ++ x ∷ [])) (sym h) only.0)
    go (before mid g) = absurd (only.1 (shorter b r mid (subst BeginsLow g low)))

last_of : (front : List PlacedLexeme) (t : PlacedLexeme) (end : Place) (r : ModuleReading) → BeginsLow front → Reads (front ++ t ∷ []) end r → LastIs front t end r
last_of front t end (TreeOf it) low (is, h) = ([], it, subst (λ x. IsModule x it) (sym (append-nil (front ++ t ∷ []))) is)
last_of front t end (SyntaxError at) low (b, rest, e, f, begins, none) = refused_last front t end at low b rest e f begins none
last_of front t end (TooHigh at) low (b, rest, e, f, begins, only) = high_last front t end at low b rest e only

-- what is read of the front and a token says whether the token goes on
pub last_read : (front : List PlacedLexeme) (t : PlacedLexeme) (end : Place) → BeginsLow front → LastIs front t end (reading_of (front ++ t ∷ []) end)
last_read front t end low = last_of front t end (reading_of (front ++ t ∷ []) end) low (tokens_read_as_they_are (front ++ t ∷ []) end)

-- another place
abbrev beyond : Place → Place
beyond at = record { line = at.line + 1; col = at.col }

no-beyond : (at : Place) → at ≡ beyond at → ⊥
no-beyond at e = let same : at.line ≡ at.line + 1 = ap (λ x. x.line) e in omega arith

-- where a token is refused, each that is like it is
pub refused-like : (front : List PlacedLexeme) (t u : PlacedLexeme) → IsLike t.lexeme u.lexeme → BeginsLow front → (Begins (front ++ t ∷ []) → ⊥) → Begins (front ++ u ∷ []) → ⊥
unfolding reading_of
refused-like front t u like low none begins =
    go (module_at (front ++ t ∷ [])) (module_at (front ++ u ∷ [])) (module_at-like (front-like front (like_more t u [] [] like like_end))) (last_read front t (beyond t.at) low) (λ end. last_read front u end low)
  where
    go : (f g : Found ModuleSyntax) → Like AnyTwo f g → LastIs front t (beyond t.at) (reading_from (beyond t.at) f) → ((end : Place) → LastIs front u end (reading_from end g)) → ⊥
    go f g (like_got v w s ts us e h) is other = none is
    go f g (like_high ts us h) is other = none is
    go f g (like_wrong ts us like_end) is other = elim is [ inl p ↦ none p.1 | inr p ↦ no-beyond t.at (sym p.0) ]
    go f g (like_wrong ts us (like_more x y xs ys l h)) is other = elim (other (beyond y.at)) [ inl p ↦ no-beyond y.at p.0 | inr p ↦ p.1 begins ]
