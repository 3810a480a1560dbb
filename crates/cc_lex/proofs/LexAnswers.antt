-- What is found in the text of bytes is the answer for the bytes.
use Rattle.std.proofs.Common.{◌≡◌, ℕ, List, refl, ap, Result, Ok, Err, IfOk}
use Rattle.std.specs.Str.{chars, IsUtf8}
use Rattle.cc_base.specs.declared.place.Place.{Place}
use Rattle.cc_base.specs.declared.code.Code.{Code}
use Rattle.cc_base.specs.declared.code.Code.TheVariants.{E02}
use Rattle.cc_lex.specs.declared.error.LexError.{LexError}
use Rattle.cc_lex.specs.declared.error.LexError.TheVariants.{Refused, NoMemory}
use Rattle.cc_lex.specs.declared.token.Tokens.{Tokens}
use Rattle.cc_lex.specs.Lexical.{place_past, start, SpannedLexeme, spanned_all, Extent, ToTheEnd, UpTo, IsCut, IsRefusedAs, Lexes}
use Rattle.cc_lex.specs.Cutting.{cut, Gives}
use Rattle.cc_lex.proofs.CuttingLaws.{cut-is}

cut-as : (p : Place) (o : ℕ) (text : List ℕ) (ts : List SpannedLexeme) (extent : Extent) → (cut 0 p o text).tokens ≡ ts → (cut 0 p o text).extent ≡ extent → IsCut p o text ts extent
cut-as p o text ts extent e f = rw (← e, ← f) (cut-is p o text)

refused-as : (bytes : List ℕ) (code : Code) (place : Place) → code ≡ E02 → IsRefusedAs bytes E02 place → IsRefusedAs bytes code place
refused-as bytes code place e h = rw e h

pub lexes-cut : (bytes cs : List ℕ) (r : Result Tokens LexError) → IsUtf8 bytes → cs ≡ chars bytes → Gives r (cut 0 start 0 cs) → IfOk r (λ tokens. tokens.end ≡ place_past start cs) → Lexes bytes r
lexes-cut bytes cs (Ok tokens) u e h k =
    let found = rw e at h in
    ((u, cut-as start 0 (chars bytes) (spanned_all tokens) ToTheEnd (ap (λ x. x.tokens) found) (ap (λ x. x.extent) found)), rw e at k)
lexes-cut bytes cs (Err (Refused diag)) u e h k =
    let found = rw e at h.1 in
    let cutting = cut 0 start 0 (chars bytes) in
    refused-as bytes diag.code diag.place (ap (λ x. x.code) h.0) (u, (cutting.tokens, cut-as start 0 (chars bytes) cutting.tokens (UpTo diag.place) refl found))
lexes-cut bytes cs (Err NoMemory) u e h k = tt
