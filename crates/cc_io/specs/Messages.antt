-- What a writer of messages is given.
use Rattle.std.specs.Prelude.{◌≡◌, ℕ, List, ◌++◌, codes, Option, Some, None, Result}
use Rattle.std.specs.declared.io.Error.{Error}

-- The text and a line feed were given to the writer in one call, whatever the call answered: all of these bytes are
-- written, or a front of them where it answered an error. Where there is no text, the writer is as it was.
abbrev pub IsTold : {W : Type 0} → (W → List ℕ → Result (Unit {0}) Error → W → Type 0) → Option (List ℕ) → W → W
    → Type 0
IsTold gives None old new = new ≡ old
IsTold gives (Some text) old new = (answer : Result (Unit {0}) Error) × gives old (text ++ codes "\n") answer new
