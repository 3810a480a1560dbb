-- The position of a name among names, as a table finds it.
use Rattle.std.proofs.Common.{◌≡◌, ℕ, zero, suc, ◌+◌, Bool, true, false, cond, List, [], ◌∷◌, Option, Some, None, option_map}
use Rattle.std.proofs.Common.{refl, ap, ◌∙◌, arith}
use Rattle.std.specs.Prelude.{encode_utf8_all}
use Rattle.std.specs.List.{position, position_from}
use Rattle.std.specs.Str.{bytes_eq}
use Rattle.std.specs.Cmp.Lexicographic.{nat_list_eq_equiv}
use Rattle.std.proofs.lemmas.Iterator.Adapters.{position_from-zero}
use Rattle.cc_certificate_text.specs.Reading.{spelled_position}

-- the test by which a table finds the word
abbrev pub is_spelled : List ℕ → List ℕ → Bool
is_spelled word name = bytes_eq word (encode_utf8_all name)

further : (start : ℕ) (found : Option ℕ) → option_map (λ i. start + 1 + i) found ≡ option_map (λ i. start + i) (option_map suc found)
further start None = refl
further start (Some i) = ap Some (omega arith)

from_here : (start : ℕ) (rest : Option ℕ) (found : Option ℕ) → rest ≡ option_map (λ i. start + 1 + i) found → (here : Bool)
    → cond here (Some start) rest ≡ option_map (λ i. start + i) (cond here (Some zero) (option_map suc found))
from_here start rest found h true = ap Some (omega arith)
from_here start rest found h false = h ∙ further start found

position_from-position_of : (word : List ℕ) (names : List (List ℕ)) (start : ℕ)
    → position_from (is_spelled word) start names ≡ option_map (λ i. start + i) (spelled_position names word)
position_from-position_of word [] start = refl
position_from-position_of word (name ∷ names) start =
    ap (λ here. cond here (Some start) (position_from (is_spelled word) (start + 1) names)) (nat_list_eq_equiv.symm word (encode_utf8_all name))
    ∙ from_here start (position_from (is_spelled word) (start + 1) names) (spelled_position names word) (position_from-position_of word names (start + 1))
    (bytes_eq (encode_utf8_all name) word)

itself : (found : Option ℕ) → option_map (λ i. 0 + i) found ≡ found
itself None = refl
itself (Some i) = ap Some (omega arith)

pub position_spelled : (names : List (List ℕ)) (word : List ℕ) → position (is_spelled word) names ≡ spelled_position names word
position_spelled names word = position_from-zero (is_spelled word) names ∙ (position_from-position_of word names 0 ∙ itself (spelled_position names word))
