-- The kinds that are found by trying are those that are wanted, and they are one list.
use Rattle.std.proofs.Common.{◌≡◌, ◌∙◌, ◌⊎◌, inl, inr, ℕ, Bool, true, false, ◌||◌, ◌↔◌, filter, List, [], ◌∷◌, ◌++◌, codes, Option, Some, None, refl, sym, ap, subst}
use Rattle.std.specs.Prelude.{IsTrue}
use Rattle.std.specs.List.{list_any}
use Rattle.cc_base.specs.declared.literal.Op.{Op}
use Rattle.cc_base.specs.declared.literal.Op.TheVariants as ops
use Rattle.cc_lex.specs.Lexemes.{Lexeme, NameLexeme, NumberLexeme, TextLexeme, WordLexeme, SymbolLexeme, PlacedLexeme}
use Rattle.cc_grammar.specs.Reads.{Begins, BeginsLow, ModuleReading, TreeOf, SyntaxError, TooHigh}
use Rattle.cc_grammar.specs.Tests.{operation_named}
use Rattle.cc_grammar.specs.Reading.{reading_of}
use Rattle.cc_parse.specs.Answers.{refusal_of}
use Rattle.cc_wanted.specs.declared.kind.Kind.{Kind}
use Rattle.cc_wanted.specs.declared.kind.Kind.TheVariants as kinds
use Rattle.cc_wanted.specs.WantedTokens.{IsOfKind, GoesOnWith, every_kind, AreWanted, TokensWantOneListOfKinds}
use Rattle.cc_wanted.specs.WantedLaws.{KindsFoundByTryingAreWanted}
use Rattle.cc_wanted.specs.Trying.{end_tried, tried, passes, goes_on, samples, goes_on_with}
use Rattle.cc_wanted.proofs.LikeTokens.{IsLike, like_name, like_number, like_text, like_word, like_symbol}
use Rattle.cc_wanted.proofs.LastTokens.{LastIs, last_read, refused-like}

-- THE LAST TOKEN

passes-begins : (front : List PlacedLexeme) (l : Lexeme) (r : ModuleReading) → LastIs front (tried l) end_tried r → passes (refusal_of r) ≡ true → Begins (front ++ tried l ∷ [])
passes-begins front l (TreeOf it) is e = is
passes-begins front l (SyntaxError at) (inl p) e = p.1
passes-begins front l (SyntaxError at) (inr p) e = let same : at.line ≡ 1 = ap (λ x. x.line) p.0 in let f : false ≡ true = rw same at e in cc
passes-begins front l (TooHigh at) is e = is

begins-passes : (front : List PlacedLexeme) (l : Lexeme) (r : ModuleReading) → LastIs front (tried l) end_tried r → Begins (front ++ tried l ∷ []) → passes (refusal_of r) ≡ true
begins-passes front l (TreeOf it) is b = refl
begins-passes front l (SyntaxError at) (inl p) b = let same : at.line ≡ 0 = ap (λ x. x.line) p.0 in rw same refl
begins-passes front l (SyntaxError at) (inr p) b = absurd (p.1 b)
begins-passes front l (TooHigh at) is b = refl

goes_on-begins : (front : List PlacedLexeme) (l : Lexeme) → BeginsLow front → goes_on front l ≡ true → Begins (front ++ tried l ∷ [])
unfolding goes_on
goes_on-begins front l low e = passes-begins front l (reading_of (front ++ tried l ∷ []) end_tried) (last_read front (tried l) end_tried low) e

begins-goes_on : (front : List PlacedLexeme) (l : Lexeme) → BeginsLow front → Begins (front ++ tried l ∷ []) → goes_on front l ≡ true
unfolding goes_on
begins-goes_on front l low b = begins-passes front l (reading_of (front ++ tried l ∷ []) end_tried) (last_read front (tried l) end_tried low) b

-- what goes on with a token goes on with each that is like it
like-goes_on : (front : List PlacedLexeme) (l : Lexeme) (token : PlacedLexeme) → BeginsLow front → IsLike l token.lexeme → Begins (front ++ token ∷ []) → goes_on front l ≡ true
like-goes_on front l token low like b = go (goes_on front l) refl
  where
    go : (c : Bool) → goes_on front l ≡ c → c ≡ true
    go true e = refl
    go false e = absurd (refused-like front (tried l) token like low (λ h. let f : true ≡ false = sym (begins-goes_on front l low h) ∙ e in cc) b)

-- SAMPLES

-- each is of the kind
abbrev AllOfKind : Kind → List Lexeme → Type 0
AllOfKind kind [] = Unit {0}
AllOfKind kind (l ∷ ls) = IsOfKind kind l × AllOfKind kind ls

-- one of them is like the other
abbrev HasLike : List Lexeme → Lexeme → Type 0
HasLike [] m = ⊥
HasLike (l ∷ ls) m = IsLike l m ⊎ HasLike ls m

samples-kind : (kind : Kind) → AllOfKind kind (samples kind)
samples-kind kinds.Name = (tt, (tt, (tt, (tt, (tt, (tt, tt))))))
samples-kind kinds.Number = (tt, tt)
samples-kind kinds.Text = (tt, tt)
samples-kind (kinds.Word word) = (refl, tt)
samples-kind (kinds.Symbol symbol) = (refl, tt)

name-sampled : (y : List ℕ) (o : Option Op) → operation_named y ≡ o → HasLike (samples kinds.Name) (NameLexeme y)
unfolding operation_named
name-sampled y None e = inl (like_name (codes "x") y (sym e))
name-sampled y (Some ops.Print) e = inr (inl (like_name (codes "print") y (sym e)))
name-sampled y (Some ops.Say) e = inr (inr (inl (like_name (codes "say") y (sym e))))
name-sampled y (Some ops.Read) e = inr (inr (inr (inl (like_name (codes "read") y (sym e)))))
name-sampled y (Some ops.Write) e = inr (inr (inr (inr (inl (like_name (codes "write") y (sym e))))))
name-sampled y (Some ops.Tick) e = inr (inr (inr (inr (inr (inl (like_name (codes "tick") y (sym e)))))))

-- each token of the kind is like a sample
sampled : (kind : Kind) (l : Lexeme) → IsOfKind kind l → HasLike (samples kind) l
sampled kinds.Name (NameLexeme y) is = name-sampled y (operation_named y) refl
sampled kinds.Name (NumberLexeme a) is = absurd is
sampled kinds.Name (TextLexeme a) is = absurd is
sampled kinds.Name (WordLexeme w) is = absurd is
sampled kinds.Name (SymbolLexeme w) is = absurd is
sampled kinds.Number (NumberLexeme a) is = inl (like_number _ a)
sampled kinds.Number (NameLexeme a) is = absurd is
sampled kinds.Number (TextLexeme a) is = absurd is
sampled kinds.Number (WordLexeme w) is = absurd is
sampled kinds.Number (SymbolLexeme w) is = absurd is
sampled kinds.Text (TextLexeme a) is = inl (like_text _ a)
sampled kinds.Text (NameLexeme a) is = absurd is
sampled kinds.Text (NumberLexeme a) is = absurd is
sampled kinds.Text (WordLexeme w) is = absurd is
sampled kinds.Text (SymbolLexeme w) is = absurd is
sampled (kinds.Word word) (WordLexeme w) is = inl (subst (λ v. IsLike (WordLexeme word) (WordLexeme v)) is (like_word word))
sampled (kinds.Word word) (NameLexeme a) is = absurd is
sampled (kinds.Word word) (NumberLexeme a) is = absurd is
sampled (kinds.Word word) (TextLexeme a) is = absurd is
sampled (kinds.Word word) (SymbolLexeme w) is = absurd is
sampled (kinds.Symbol symbol) (SymbolLexeme w) is = inl (subst (λ v. IsLike (SymbolLexeme symbol) (SymbolLexeme v)) is (like_symbol symbol))
sampled (kinds.Symbol symbol) (NameLexeme a) is = absurd is
sampled (kinds.Symbol symbol) (NumberLexeme a) is = absurd is
sampled (kinds.Symbol symbol) (TextLexeme a) is = absurd is
sampled (kinds.Symbol symbol) (WordLexeme w) is = absurd is

some-goes_on : (front : List PlacedLexeme) (kind : Kind) (ls : List Lexeme) → BeginsLow front → AllOfKind kind ls → list_any (goes_on front) ls ≡ true → GoesOnWith front kind
some-goes_on front kind [] low all e = cc
some-goes_on front kind (l ∷ ls) low (is, all) e = go (goes_on front l) refl e (some-goes_on front kind ls low all)
  where
    go : (b : Bool) → goes_on front l ≡ b → (b || list_any (goes_on front) ls) ≡ true → (list_any (goes_on front) ls ≡ true → GoesOnWith front kind) → GoesOnWith front kind
    go true f g more = (tried l, is, goes_on-begins front l low f)
    go false f g more = more g

any-goes_on : (front : List PlacedLexeme) (token : PlacedLexeme) (ls : List Lexeme) → BeginsLow front → HasLike ls token.lexeme → Begins (front ++ token ∷ []) → list_any (goes_on front) ls ≡ true
any-goes_on front token [] low has b = absurd has
any-goes_on front token (l ∷ ls) low (inl like) b = rw (like-goes_on front l token low like b) refl
any-goes_on front token (l ∷ ls) low (inr has) b = go (goes_on front l) (any-goes_on front token ls low has b)
  where
    go : (c : Bool) → list_any (goes_on front) ls ≡ true → (c || list_any (goes_on front) ls) ≡ true
    go true e = refl
    go false e = e

-- what is found by trying is what goes on
pub goes_on_with-is : (front : List PlacedLexeme) (kind : Kind) → BeginsLow front → IsTrue (goes_on_with front kind) ↔ GoesOnWith front kind
goes_on_with-is front kind low =
    (λ e. some-goes_on front kind (samples kind) low (samples-kind kind) e, λ (token, is, b). any-goes_on front token (samples kind) low (sampled kind token.lexeme is) b)

-- the kinds with which it goes on are those that are wanted
pub are-wanted : (front : List PlacedLexeme) (told : List Kind) → BeginsLow front → told ≡ filter (goes_on_with front) every_kind → AreWanted front told
are-wanted front told low e = (goes_on_with front, e, λ kind. goes_on_with-is front kind low)

pub kinds_found_by_trying_are_wanted : KindsFoundByTryingAreWanted
kinds_found_by_trying_are_wanted front low = are-wanted front (filter (goes_on_with front) every_kind) low refl

-- ONE LIST

same-answer : (a b : Bool) (P : Type 0) → IsTrue a ↔ P → IsTrue b ↔ P → a ≡ b
same-answer true true P f g = refl
same-answer true false P f g = sym (g.1 (f.0 refl))
same-answer false true P f g = f.1 (g.0 refl)
same-answer false false P f g = refl

pub tokens_want_one_list_of_kinds : TokensWantOneListOfKinds
tokens_want_one_list_of_kinds front one other (wants, e, f) (also, g, h) =
    let same : (kind : Kind) → wants kind ≡ also kind = λ kind. same-answer (wants kind) (also kind) (GoesOnWith front kind) (f kind) (h kind) in
    let all : wants ≡ also = λ j kind. same kind j in
    e ∙ ap (λ w. filter w every_kind) all ∙ sym g
