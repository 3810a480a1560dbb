-- The first number in some room, and in none.
use Rattle.std.proofs.Common.{◌≡◌, ℕ, zero, suc, ◌-◌, ◌<◌, List, refl, arith}
use Rattle.cc_certificate_text.specs.Reading.{Wrong}
use Rattle.cc_certificate_text.specs.LineReading.{first_over, first_at}

pub first_nowhere : (room : ℕ) (bytes : List ℕ) → room ≡ 0 → first_at room bytes ≡ Wrong
unfolding first_at
first_nowhere zero bytes e = refl
first_nowhere (suc room) bytes e = absurd (omega arith)

pub first_above : (room : ℕ) (bytes : List ℕ) → 0 < room → first_at room bytes ≡ first_over (first_at (room - 1)) bytes
unfolding first_at
first_above zero bytes low = absurd (omega arith)
first_above (suc room) bytes low = let e : suc room - 1 ≡ room = omega arith in rw e refl
