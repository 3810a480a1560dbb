-- Lists of code points, compared by their texts.
use Rattle.std.proofs.Common.{◌≡◌, ℕ, List, sym, ap, ◌∙◌}
use Rattle.std.specs.Str.{bytes_eq}
use Rattle.std.proofs.lemmas.Str.{encodes_same}
use Rattle.std.proofs.lemmas.Slice.Eq.{bytes_eq-Decides}
use Rattle.std.proofs.lemmas.Bool.Decides.{same_from_decides}
use Rattle.std.specs.Ordering.{eq_by_cmp, nat_cmp, on}
use Rattle.std.specs.Cmp.Lexicographic.{slice_cmp, texts_ties}
use lib.Utf8.{encodes}

-- Two lists of code points are equal exactly where their texts are.
pub bytes_eq-encodes : (xs ys : List ℕ) → bytes_eq (encodes xs) (encodes ys) ≡ bytes_eq xs ys
bytes_eq-encodes xs ys =
    let texts = bytes_eq-Decides (encodes xs) (encodes ys) in
    let lists = bytes_eq-Decides xs ys in
    same_from_decides _ _ texts (λ h. ap encodes (lists.0 h), λ h. lists.1 (encodes_same xs ys h))

-- Names are equal exactly where the order of their texts says so.
pub bytes_eq-order : (xs ys : List ℕ) → bytes_eq xs ys ≡ eq_by_cmp (on encodes (slice_cmp nat_cmp)) xs ys
bytes_eq-order xs ys = sym (bytes_eq-encodes xs ys) ∙ texts_ties (encodes xs) (encodes ys)
