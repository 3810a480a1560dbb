-- Three names of which no two are one.
use Rattle.std.proofs.Common.{◌≡◌, ℕ, List, [], ◌∷◌, false}
use Rattle.std.specs.List.{IsDistinct}
use Rattle.std.specs.Str.{bytes_eq}

pub three_differ : (first second third : List ℕ) → bytes_eq first second ≡ false → bytes_eq first third ≡ false
    → bytes_eq second third ≡ false → IsDistinct bytes_eq (first ∷ second ∷ third ∷ [])
unfolding IsDistinct
three_differ first second third a b c = ((a, (b, tt)), ((c, tt), (tt, tt)))
