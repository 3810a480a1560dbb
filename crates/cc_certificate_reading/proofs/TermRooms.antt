-- What is read in some room, and in none.
use Rattle.std.proofs.Common.{◌≡◌, ℕ, zero, suc, ◌-◌, ◌<◌, List, refl, arith}
use Rattle.cc_certificate_text.specs.Reading.{Wrong, Counted, shape_at, term_parts, term_over, term_at}

pub term_nowhere : (names : List (List ℕ)) (room depth : ℕ) (bytes : List ℕ) → room ≡ 0
    → term_at names room depth bytes ≡ Wrong
unfolding term_at
term_nowhere names zero depth bytes e = refl
term_nowhere names (suc room) depth bytes e = absurd (omega arith)

pub term_above : (names : List (List ℕ)) (room depth : ℕ) (bytes : List ℕ) → 0 < room
    → term_at names room depth bytes
    ≡ term_over names (term_parts names (room - 1) (shape_at Counted names (room - 1)) (term_at names (room - 1))) (room - 1) depth bytes
unfolding term_at
term_above names zero depth bytes low = absurd (omega arith)
term_above names (suc room) depth bytes low =
    let e : suc room - 1 ≡ room = omega arith in rw e refl
