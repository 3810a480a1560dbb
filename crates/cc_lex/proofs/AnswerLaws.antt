-- Bytes have tokens or a refusal, in one way.
use Rattle.std.proofs.Common.{◌≡◌, ℕ, Bool, true, false, List, take, refl, sym, ap, ◌∙◌, ◌⊎◌, inl, inr, Ok, Err}
use Rattle.std.specs.Str.{chars, IsUtf8, is_utf8}
use Rattle.std.specs.Str.Lossy.{utf8_valid_len}
use Rattle.std.proofs.lemmas.Str.{IsUtf8-from_is_utf8, is_utf8-from_IsUtf8}
use Rattle.cc_base.specs.declared.place.Place.{Place}
use Rattle.cc_base.specs.declared.code.Code.{Code}
use Rattle.cc_base.specs.declared.code.Code.TheVariants.{E01, E02}
use Rattle.cc_base.specs.declared.code.Diag.{Diag}
use Rattle.cc_lex.specs.declared.error.LexError.TheVariants.{Refused, NoMemory}
use Rattle.cc_lex.specs.Lexical.{place_past, start, SpannedLexeme, spanned_all, Extent, ToTheEnd, UpTo, IsCut, HasTokens, IsRefusedAs, IsRefused}
use Rattle.cc_lex.specs.Cutting.{cut}
use Rattle.cc_lex.specs.TokenLaws.{BytesHaveTokensOrARefusal, NoBytesHaveTokensAndARefusal, BytesHaveOneListOfTokens, BytesHaveOneRefusal, TokensAreGiven, RefusalsAreGiven}
use Rattle.cc_lex.proofs.Booleans.{opposite}
use Rattle.cc_lex.proofs.CuttingLaws.{cut-is, IsCut-same}

-- tokens or a refusal
abbrev Either : List ℕ → Type 0
Either bytes = ((ts : List SpannedLexeme) × HasTokens bytes ts) ⊎ ((diag : Diag) × IsRefused bytes diag)

text-either : (bytes : List ℕ) → IsUtf8 bytes → (ts : List SpannedLexeme) (extent : Extent) → IsCut start 0 (chars bytes) ts extent → Either bytes
text-either bytes u ts ToTheEnd r = inl (ts, (u, r))
text-either bytes u ts (UpTo place) r = inr (record { code = E02; place = place }, (u, (ts, r)))

bytes-either : (bytes : List ℕ) (b : Bool) → is_utf8 bytes ≡ b → Either bytes
bytes-either bytes true e =
    let found = cut 0 start 0 (chars bytes) in
    text-either bytes (IsUtf8-from_is_utf8 bytes e) found.tokens found.extent (cut-is start 0 (chars bytes))
bytes-either bytes false e =
    let place = place_past start (chars (take (utf8_valid_len bytes) bytes)) in
    inr (record { code = E01; place = place }, (λ u. opposite (is_utf8 bytes) (is_utf8-from_IsUtf8 bytes u) e, refl))

pub tokens_or_refusal : BytesHaveTokensOrARefusal
tokens_or_refusal bytes = bytes-either bytes (is_utf8 bytes) refl

-- what a refusal says

refused-cases : (bytes : List ℕ) (code : Code) (place : Place) → IsRefusedAs bytes code place → ((code ≡ E01) × IsRefusedAs bytes E01 place) ⊎ ((code ≡ E02) × IsRefusedAs bytes E02 place)
refused-cases bytes E01 place r = inl (refl, r)
refused-cases bytes E02 place r = inr (refl, r)
refused-cases bytes _ place r = absurd r

end_is_no_place : (place : Place) → ToTheEnd ≡ UpTo place → ⊥
end_is_no_place place h = cc

place-same : (p q : Place) → UpTo p ≡ UpTo q → p ≡ q
place-same p q h = cc

pub not_both : NoBytesHaveTokensAndARefusal
not_both bytes ts diag h r =
    elim (refused-cases bytes diag.code diag.place r) as (λ _. ⊥) [
      | inl w ↦ w.1.0 h.0
      | inr w ↦ end_is_no_place diag.place (IsCut-same h.1 w.1.1.1).1
    ]

pub one_list : BytesHaveOneListOfTokens
one_list bytes ts us h k = (IsCut-same h.1 k.1).0

-- refusals

same_diag : (diag other : Diag) (code : Code) → diag.code ≡ code → other.code ≡ code → diag.place ≡ other.place → diag ≡ other
same_diag diag other code e f h =
    ap (λ c. record { code = c; place = diag.place }) (e ∙ sym f) ∙ ap (λ p. record { code = other.code; place = p }) h

invalid-same : (bytes : List ℕ) (diag other : Diag) → diag.code ≡ E01 → IsRefusedAs bytes E01 diag.place → ((other.code ≡ E01) × IsRefusedAs bytes E01 other.place) ⊎ ((other.code ≡ E02) × IsRefusedAs bytes E02 other.place) → diag ≡ other
invalid-same bytes diag other e r (inl w) = same_diag diag other E01 e w.0 (r.1 ∙ sym w.1.1)
invalid-same bytes diag other e r (inr w) = absurd (r.0 w.1.0)

stopped-same : (bytes : List ℕ) (diag other : Diag) → diag.code ≡ E02 → IsRefusedAs bytes E02 diag.place → ((other.code ≡ E01) × IsRefusedAs bytes E01 other.place) ⊎ ((other.code ≡ E02) × IsRefusedAs bytes E02 other.place) → diag ≡ other
stopped-same bytes diag other e r (inl w) = absurd (w.1.0 r.0)
stopped-same bytes diag other e r (inr w) =
    same_diag diag other E02 e w.0 (place-same diag.place other.place (IsCut-same r.1.1 w.1.1.1).1)

pub one_refusal : BytesHaveOneRefusal
one_refusal bytes diag other r s =
    let right = refused-cases bytes other.code other.place s in
    elim (refused-cases bytes diag.code diag.place r) as (λ _. diag ≡ other) [
      | inl w ↦ invalid-same bytes diag other w.0 w.1 right
      | inr w ↦ stopped-same bytes diag other w.0 w.1 right
    ]

-- answers

pub tokens_given : TokensAreGiven
tokens_given bytes ts (Ok tokens) h k = one_list bytes (spanned_all tokens) ts k.0 h
tokens_given bytes ts (Err (Refused diag)) h k = not_both bytes ts diag h k
tokens_given bytes ts (Err NoMemory) h k = tt

pub refusal_given : RefusalsAreGiven
refusal_given bytes diag (Ok tokens) r k = not_both bytes (spanned_all tokens) diag k.0 r
refusal_given bytes diag (Err (Refused other)) r k = one_refusal bytes other diag k r
refusal_given bytes diag (Err NoMemory) r k = tt
