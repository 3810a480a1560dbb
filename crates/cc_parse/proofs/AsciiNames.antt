-- A name compared with an ASCII text, by its bytes.
use Rattle.std.proofs.Common.{◌≡◌, ℕ, zero, suc, Bool, true, false, ◌&&◌, ltb, List, [], ◌∷◌, IsTrue, refl, sym, ap, ◌∙◌, arith}
use Rattle.std.specs.List.{list_all}
use Rattle.std.specs.Str.{bytes_eq, IsAscii}
use Rattle.std.proofs.lemmas.Str.{encodes-IsAscii}
use Rattle.std.proofs.lemmas.Bool.Decides.{Decides-ltb}
use Rattle.cc_base.specs.NameTexts.{bytes_eq-encodes}
use lib.Utf8.{encodes}

-- each byte is that of an ASCII character
abbrev is_ascii : List ℕ → Bool
is_ascii = list_all (λ b. ltb b 128)

both : (a b : Bool) → IsTrue (a && b) → (a ≡ true) × (IsTrue b)
both true b h = (refl, h)
both false b h = cc

IsAscii-is_ascii : (bs : List ℕ) → IsTrue (is_ascii bs) → IsAscii bs
IsAscii-is_ascii [] h zero = omega arith
IsAscii-is_ascii [] h (suc i) = omega arith
IsAscii-is_ascii (b ∷ bs) h zero = (Decides-ltb b 128).0 (both (ltb b 128) (is_ascii bs) h).0
IsAscii-is_ascii (b ∷ bs) h (suc i) = IsAscii-is_ascii bs (both (ltb b 128) (is_ascii bs) h).1 i

pub bytes_eq-ascii : (name text : List ℕ) → IsTrue (is_ascii text) → bytes_eq (encodes name) text ≡ bytes_eq name text
bytes_eq-ascii name text h =
    let same = encodes-IsAscii text (IsAscii-is_ascii text h) in
    ap (bytes_eq (encodes name)) (sym same) ∙ bytes_eq-encodes name text
