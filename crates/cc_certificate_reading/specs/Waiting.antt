-- Reading by a loop over what waits: what stands round the part that is read, the innermost first. It serves the code
-- alone.
use Rattle.std.specs.Prelude.{◌≡◌, List, [], ◌∷◌}
use Rattle.cc_certificate_text.specs.Reading.{Found, Reader, ◌>>=◌}

-- what is found for the whole, where this is found for the part that the innermost one waits for, and each reads on
-- behind what it waits for
abbrev pub resumed : {W A : Type 0} → (W → A → Reader A) → List W → Found A → Found A
resumed around [] found = found
resumed around (next ∷ waiting) found = resumed around waiting (found >>= around next)

-- each of those that wait is as is said
abbrev pub AreFit : {W : Type 0} → (W → Type 0) → List W → Type 0
AreFit IsFit [] = Unit {0}
AreFit IsFit (next ∷ waiting) = IsFit next × AreFit IsFit waiting

-- What was to be found for one part is found for the whole once this is found for another: the whole stays, and so does
-- what is said of those that wait.
pub record Leads {W A : Type 0} (around : W → A → Reader A) (IsFit : W → Type 0) (old : List W) (found : Found A) (new : List W) (next : Found A) : Type 0 where
  pub stays : resumed around new next ≡ resumed around old found
  pub fit : AreFit IsFit old → AreFit IsFit new
