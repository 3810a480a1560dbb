-- Tokens are refused where the first of them stands that is found at the place, or behind all of them.
use Rattle.std.proofs.Common.{◌≡◌, ℕ, List, ◌++◌, take, drop, length, Option, Some, sym, ap, subst, ◌∙◌}
use Rattle.std.specs.Prelude.{not}
use Rattle.std.specs.List.{prefix_len}
use Rattle.std.proofs.lemmas.List.{take_at, drop_at, take-map, drop-map}
use Rattle.cc_base.specs.declared.code.Code.{Code}
use Rattle.cc_base.specs.declared.code.Code.TheVariants.{E03, E04}
use Rattle.cc_base.specs.declared.code.Diag.{Diag}
use Rattle.cc_base.specs.declared.place.Place.{Place}
use Rattle.cc_grammar.specs.Reads.{TreeOf, SyntaxError, TooHigh, Reads, BeginsLow, NoneGoesOn, place_of}
use Rattle.cc_lex.specs.declared.token.Token.{Token}
use Rattle.cc_lex.specs.Lexemes.{Lexeme, PlacedLexeme, placed_of, placed_all}
use Rattle.cc_text_reasons.specs.TextReasons.{first_of, Unwanted}
use Rattle.cc_text_reasons.specs.TextReasons as plain
use Rattle.cc_text_reasoning.specs.Places.{is_same_place, DoPlacesRise, stands_elsewhere}
use Rattle.cc_text_reasoning.specs.TokenReasons.{AreRefused, HaveReason, are_unwanted, are_too_high}
use Rattle.cc_text_reasoning.proofs.PlaceLaws.{front_found, count_placed}
use Rattle.cc_wanted.specs.declared.kind.Kind.{Kind}
use Rattle.cc_wanted.specs.WantedTokens.{AreWanted}

take_placed : (n : ℕ) (tokens : List Token) → placed_all (take n tokens) ≡ take n (placed_all tokens)
take_placed n tokens = sym (take-map placed_of n tokens)

drop_placed : (n : ℕ) (tokens : List Token) → placed_all (drop n tokens) ≡ drop n (placed_all tokens)
drop_placed n tokens = sym (drop-map placed_of n tokens)

-- none goes on behind the first n tokens, which begin a module
pub record IsFound (tokens : List Token) (end at : Place) (n : ℕ) : Type 0 where
  pub joined : placed_all tokens ≡ placed_all (take n tokens) ++ placed_all (drop n tokens)
  pub there : at ≡ place_of (placed_all (drop n tokens)) end
  pub low : BeginsLow (placed_all (take n tokens))
  pub none : NoneGoesOn (placed_all (take n tokens)) (placed_all (drop n tokens))

pub found : (tokens : List Token) (end at : Place) (n : ℕ) → n ≡ prefix_len (stands_elsewhere at) tokens
    → DoPlacesRise (placed_all tokens) end → Reads (placed_all tokens) end (SyntaxError at) → IsFound tokens end at n
found tokens end at n e rise (front, rest, is, place, low, none) =
    let count : n ≡ length front =
    e ∙ count_placed at tokens ∙ ap (λ ts. prefix_len (λ token. not (is_same_place token.at at)) ts) is
    ∙ front_found front rest end at (subst (λ ts. DoPlacesRise ts end) is rise) place in
    let before : placed_all (take n tokens) ≡ front = take_placed n tokens ∙ ap (take n) is ∙ take_at front rest n (sym count) in
    let behind : placed_all (drop n tokens) ≡ rest = drop_placed n tokens ∙ ap (drop n) is ∙ drop_at front rest n (sym count) in
    record {
      joined = is ∙ (λ i. sym before i ++ sym behind i);
      there = place ∙ ap (λ ts. place_of ts end) (sym behind);
      low = subst BeginsLow (sym before) low;
      none = subst (λ ts. NoneGoesOn ts (placed_all (drop n tokens))) (sym before) (subst (NoneGoesOn front) (sym behind) none);
    }

pub have_unwanted : (tokens : List Token) (end at : Place) (n : ℕ) (told : Option Lexeme) (wanted : List Kind) → IsFound tokens end at n
    → told ≡ first_of (placed_all (drop n tokens)) → AreWanted (placed_all (take n tokens)) wanted
    → HaveReason (placed_all tokens) end (Unwanted told wanted) at
have_unwanted tokens end at n told wanted it e wants =
    subst (λ place. HaveReason (placed_all tokens) end (Unwanted told wanted) place) (sym it.there)
    (subst (λ first. HaveReason (placed_all tokens) end (Unwanted first wanted) (place_of (placed_all (drop n tokens)) end)) (sym e)
    (are_unwanted (placed_all (take n tokens)) (placed_all (drop n tokens)) wanted it.joined it.low it.none wants))

-- what a refusal is, by its code

place_is : (code : Code) (at : Place) (refusal : Diag) → Some (record { code = code; place = at }) ≡ Some refusal → at ≡ refusal.place
place_is code at refusal e = ap (λ it. it.place) (one e)
  where
    one : Some (record { code = code; place = at }) ≡ Some refusal → record { code = code; place = at } ≡ refusal
    one e = cc

code_is : (code : Code) (at : Place) (refusal : Diag) → Some (record { code = code; place = at }) ≡ Some refusal → code ≡ refusal.code
code_is code at refusal e = ap (λ it. it.code) (one e)
  where
    one : Some (record { code = code; place = at }) ≡ Some refusal → record { code = code; place = at } ≡ refusal
    one e = cc

pub refused_there : (tokens : List PlacedLexeme) (end : Place) (refusal : Diag) → AreRefused tokens end refusal → refusal.code ≡ E03
    → Reads tokens end (SyntaxError refusal.place)
refused_there tokens end refusal (TreeOf it, reads, e) code = cc
refused_there tokens end refusal (SyntaxError at, reads, e) code = subst (λ place. Reads tokens end (SyntaxError place)) (place_is E03 at refusal e) reads
refused_there tokens end refusal (TooHigh at, reads, e) code = absurd (differ (code_is E04 at refusal e ∙ code))
  where
    differ : E04 ≡ E03 → ⊥
    differ e = cc

pub have_high : (tokens : List PlacedLexeme) (end : Place) (refusal : Diag) → AreRefused tokens end refusal → (refusal.code ≡ E03 → ⊥)
    → HaveReason tokens end plain.TooHigh refusal.place
have_high tokens end refusal (TreeOf it, reads, e) other = cc
have_high tokens end refusal (SyntaxError at, reads, e) other = absurd (other (sym (code_is E03 at refusal e)))
have_high tokens end refusal (TooHigh at, (front, rest, is, place, low, high), e) other =
    subst (HaveReason tokens end plain.TooHigh) (sym place ∙ place_is E04 at refusal e) (are_too_high front rest is low high)
