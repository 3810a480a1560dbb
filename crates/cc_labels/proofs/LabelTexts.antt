-- The text of a label.
use Rattle.std.proofs.Common.{◌≡◌, ℕ, zero, suc, ◌<◌, ◌^◌, List, ◌++◌, codes, encode_utf8_all, Result, Ok, Err, OnOk, sym, ap, ◌∙◌, append_assoc, arith}
use Rattle.std.proofs.lemmas.Fmt.{IsAscii-decimal}
use Rattle.std.proofs.lemmas.Str.{IsAscii-append, encodes-append, encodes-IsAscii}
use Rattle.std.specs.Fmt.{decimal}
use Rattle.std.specs.Str.{IsAscii}
use Rattle.cc_base.specs.declared.place.Place.{Place}
use Rattle.cc_base.specs.Texts.{place_text}

at_sign : IsAscii (codes "@")
at_sign zero = omega arith
at_sign (suc i) = omega arith

colon : IsAscii (codes ":")
colon zero = omega arith
colon (suc i) = omega arith

-- a place has no character beyond ASCII, so it stands as it is in what is encoded
pub place_encoded : (name : List ℕ) (at : Place) → at.line < 2 ^ 64 → at.col < 2 ^ 64
    → encode_utf8_all (name ++ codes "@" ++ place_text at) ≡ encode_utf8_all name ++ (codes "@" ++ place_text at)
place_encoded name at line col =
    let inside = IsAscii-append (codes "@") (place_text at) at_sign
    (IsAscii-append (decimal at.line ++ codes ":") (decimal at.col) (IsAscii-append (decimal at.line) (codes ":") (IsAscii-decimal at.line line) colon)
    (IsAscii-decimal at.col col)) in
    ap encode_utf8_all (append_assoc name (codes "@") (place_text at)) ∙ encodes-append name (codes "@" ++ place_text at)
    ∙ ap (λ t. encode_utf8_all name ++ t) (encodes-IsAscii (codes "@" ++ place_text at) inside)

-- the name of a local variable, and its place behind it
pub local_told : (name : List ℕ) (line col : ℕ) → line < 2 ^ 64 → col < 2 ^ 64 → (old named place later : List ℕ)
    → named ≡ old ++ encode_utf8_all name → place ≡ codes "@" ++ (decimal line ++ (codes ":" ++ decimal col)) → later ≡ named ++ place
    → later ≡ old ++ encode_utf8_all (name ++ codes "@" ++ place_text (record { line = line; col = col }))
local_told name line col l c old named place later first second both =
    both ∙ ap (λ t. t ++ place) first ∙ append_assoc old (encode_utf8_all name) place
    ∙ ap (λ t. old ++ (encode_utf8_all name ++ t)) (second ∙ ap (λ t. codes "@" ++ t) (sym (append_assoc (decimal line) (codes ":") (decimal col))))
    ∙ ap (λ t. old ++ t) (sym (place_encoded name (record { line = line; col = col }) l c))

pub on_ok : {T E : Type 0} (result : Result T E) (P Q : Type 0) → (P → Q) → OnOk result P → OnOk result Q
on_ok (Ok value) P Q step h = step h
on_ok (Err error) P Q step h = h
