-- What is read in some room, and in none.
use Rattle.std.proofs.Common.{◌≡◌, ℕ, zero, suc, ◌-◌, ◌<◌, List, refl, arith}
use Rattle.cc_certificate_text.specs.Reading.{Wrong, Locals, shape_at, shape_over, shape_parts}

pub shape_nowhere : (locals : Locals) (names : List (List ℕ)) (room depth : ℕ) (bytes : List ℕ) → room ≡ 0
    → shape_at locals names room depth bytes ≡ Wrong
unfolding shape_at
shape_nowhere locals names zero depth bytes e = refl
shape_nowhere locals names (suc room) depth bytes e = absurd (omega arith)

pub shape_above : (locals : Locals) (names : List (List ℕ)) (room depth : ℕ) (bytes : List ℕ) → 0 < room
    → shape_at locals names room depth bytes
    ≡ shape_over locals (shape_parts locals names (shape_at locals names (room - 1))) depth bytes
unfolding shape_at
shape_above locals names zero depth bytes low = absurd (omega arith)
shape_above locals names (suc room) depth bytes low =
    let e : suc room - 1 ≡ room = omega arith in rw e refl
