-- The tokens of bytes: each is spelled by the bytes that it spans, the spans lie in order, and what a token holds is well formed.
use Rattle.std.proofs.Common.{◌≡◌, ℕ, ◌+◌, ◌-◌, ◌<◌, ◌≤◌, List, [], ◌∷◌, ◌++◌, map, length, take, drop, refl, sym, ap, ◌∙◌, arith, pos, ◌≤ℤ◌, encode_utf8, encode_utf8_all, length-append}
use Rattle.std.specs.List.{AllByRecursion}
use Rattle.std.specs.Str.{chars, IsUtf8}
use Rattle.std.specs.Str.Parse.{digits_value}
use Rattle.std.proofs.lemmas.Int.{ints}
use Rattle.std.proofs.lemmas.List.Elements.{All-from_recursion}
use Rattle.std.proofs.lemmas.Str.{encodes-append, encodes-chars, scalars-chars}
use Rattle.cc_base.specs.declared.place.Place.{Place}
use Rattle.cc_lex.specs.declared.token.Token.{Token}
use Rattle.cc_lex.specs.declared.token.Tokens.{Tokens}
use Rattle.cc_lex.specs.Lexemes.{placed_of, placed_all, Lexeme, NameLexeme, NumberLexeme, TextLexeme, WordLexeme, SymbolLexeme}
use Rattle.cc_lex.specs.Forms.{IsForm, greatest_number, Spells}
use Rattle.cc_lex.specs.Lexical.{byte_count, SpannedLexeme, spanned_of, spanned_all, without_spans, Extent, IsCut, at_end, at_nothing, at_too_great, past_blank, past_token}
use Rattle.cc_lex.specs.TokenLaws.{IsSpelledBySpan, SpansSpellTheirTokens, AreInOrder, SpansAreInOrder, IsWellFormed, TokensAreWellFormed}
use Rattle.cc_lex.proofs.LongestForms.{form-some}
use Rattle.cc_lex.proofs.TextSlices.{GoesOn, goes_on-past, goes_on-bytes, some-byte}

-- spans

spelled-span : (bytes : List ℕ) (o to : ℕ) (cs after : List ℕ) → GoesOn bytes o (cs ++ after) → to ≡ o + byte_count cs → take (to - o) (drop o bytes) ≡ encode_utf8_all cs
spelled-span bytes o to cs after h e =
    let size : to - o ≡ byte_count cs = omega arith in
    ap (λ n. take n (drop o bytes)) size ∙ goes_on-bytes bytes o cs after h

cut-spans : (bytes : List ℕ) {p : Place} {o : ℕ} {text : List ℕ} {ts : List SpannedLexeme} {extent : Extent} → IsCut p o text ts extent → GoesOn bytes o text → AllByRecursion (IsSpelledBySpan bytes) ts
cut-spans bytes at_end h = tt
cut-spans bytes (at_nothing b) h = tt
cut-spans bytes (at_too_great b) h = tt
cut-spans bytes (past_blank {o = o} cs after e b r) h = (let here = rw e at h in cut-spans bytes r (goes_on-past bytes o cs after here))
cut-spans bytes (past_token {o = o} cs after e longest s r) h =
    let here = rw e at h in
    ((cs, s, spelled-span bytes o (o + byte_count cs) cs after here refl), cut-spans bytes r (goes_on-past bytes o cs after here))

whole : (bytes : List ℕ) → IsUtf8 bytes → GoesOn bytes 0 (chars bytes)
whole bytes u = (sym (encodes-chars bytes u), scalars-chars bytes u)

pub spans_spell : SpansSpellTheirTokens
spans_spell bytes ts h = All-from_recursion (IsSpelledBySpan bytes) ts (cut-spans bytes h.1 (whole bytes h.0))

-- order

in_order-from : (from later to : ℕ) (ts : List SpannedLexeme) → from ≤ later → AreInOrder later ts to → AreInOrder from ts to
in_order-from from later to [] l h = omega arith
in_order-from from later to (t ∷ ts) l h = (omega (arith, h.0), h.1, h.2)

some-bytes : (cs : List ℕ) → IsForm cs → 0 < byte_count cs
some-bytes [] h = absurd (form-some [] h refl)
some-bytes (c ∷ cs) h =
    let some = some-byte c in
    let parts = length-append (encode_utf8 c) (encode_utf8_all cs) in
    omega arith

count-parts : (o : ℕ) (text cs after : List ℕ) → text ≡ cs ++ after → (o + byte_count cs) + byte_count after ≡ o + byte_count text
count-parts o text cs after e =
    let parts = ap length (encodes-append cs after) ∙ length-append (encode_utf8_all cs) (encode_utf8_all after) in
    let same = ap byte_count e in
    omega arith

cut-order : {p : Place} {o : ℕ} {text : List ℕ} {ts : List SpannedLexeme} {extent : Extent} → IsCut p o text ts extent → AreInOrder o ts (o + byte_count text)
cut-order at_end = omega arith
cut-order (at_nothing b) = omega arith
cut-order (at_too_great b) = omega arith
cut-order (past_blank {o = o} {text = text} {ts = ts} cs after e b r) =
    let behind : AreInOrder (o + byte_count cs) ts (o + byte_count text) = rw (← count-parts o text cs after e) (cut-order r) in
    in_order-from o (o + byte_count cs) (o + byte_count text) ts (omega arith) behind
cut-order (past_token {o = o} {text = text} {ts = ts} cs after e longest s r) =
    let behind : AreInOrder (o + byte_count cs) ts (o + byte_count text) = rw (← count-parts o text cs after e) (cut-order r) in
    let some = some-bytes cs longest.form in
    (omega arith, omega arith, behind)

order-to : (ts : List SpannedLexeme) (from to end : ℕ) → to ≡ end → AreInOrder from ts to → AreInOrder from ts end
order-to ts from to end e h = rw (← e) h

pub spans_in_order : SpansAreInOrder
spans_in_order bytes ts h =
    let count : 0 + byte_count (chars bytes) ≡ length bytes = (let same = ap length (encodes-chars bytes h.0) in omega arith) in
    order-to ts 0 (0 + byte_count (chars bytes)) (length bytes) count (cut-order h.1)

-- what tokens hold

number-formed : (v : ℕ) → v ≤ greatest_number → (pos 0 ≤ℤ pos v) × (pos v ≤ℤ pos greatest_number)
number-formed v h = (omega (arith, ints), omega (arith, ints))

spelled-formed : (lexeme : Lexeme) (cs : List ℕ) → Spells lexeme cs → IsWellFormed lexeme
spelled-formed (NameLexeme name) cs s = rw s.1 s.0
spelled-formed (NumberLexeme number) cs s = rw s.2 (number-formed (digits_value 10 cs) s.1)
spelled-formed (TextLexeme text) cs s = (s.1, s.2)
spelled-formed (WordLexeme word) cs s = tt
spelled-formed (SymbolLexeme symbol) cs s = tt

cut-formed : {p : Place} {o : ℕ} {text : List ℕ} {ts : List SpannedLexeme} {extent : Extent} → IsCut p o text ts extent → AllByRecursion (λ t. IsWellFormed t.placed.lexeme) ts
cut-formed at_end = tt
cut-formed (at_nothing b) = tt
cut-formed (at_too_great b) = tt
cut-formed (past_blank cs after e b r) = cut-formed r
cut-formed (past_token {lexeme = lexeme} cs after e longest s r) = (spelled-formed lexeme cs s, cut-formed r)

pub well_formed : TokensAreWellFormed
well_formed bytes ts h = All-from_recursion (λ t. IsWellFormed t.placed.lexeme) ts (cut-formed h.1)

-- the tokens without their spans are those that the program holds
same_placed : (tokens : List Token) → without_spans (map spanned_of tokens) ≡ placed_all tokens
same_placed [] = refl
same_placed (t ∷ ts) = ap (λ xs. placed_of t ∷ xs) (same_placed ts)

pub without_spans-spanned_all : (tokens : Tokens) → without_spans (spanned_all tokens) ≡ placed_all tokens.tokens.items
without_spans-spanned_all tokens = same_placed tokens.tokens.items
