-- Texts behind what stands there.
use Rattle.std.proofs.Common.{◌≡◌, ℕ, List, ◌++◌, sym, ap, ◌∙◌, append_assoc}
use Rattle.std.specs.Prelude.{encode_utf8_all}
use Rattle.std.specs.Str.{IsUtf8, chars}
use Rattle.std.proofs.lemmas.Str.{encodes-chars}

-- three pieces behind what stands there
pub three_pieces : (old a b c front both new : List ℕ) → front ≡ old ++ a → both ≡ front ++ b → new ≡ both ++ c → new ≡ old ++ (a ++ b ++ c)
three_pieces old a b c front both new first second third =
    third ∙ ap (λ t. t ++ c) (second ∙ ap (λ t. t ++ b) first ∙ append_assoc old a b) ∙ append_assoc old (a ++ b) c

-- the bytes of a text are those of its characters
pub text_put : (text old new : List ℕ) → IsUtf8 text → new ≡ old ++ text → new ≡ old ++ encode_utf8_all (chars text)
text_put text old new utf8 is = is ∙ ap (λ t. old ++ t) (sym (encodes-chars text utf8))
