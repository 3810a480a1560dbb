-- How the program ends, for whatever the system answers when it is asked for the words of the command line, and what it
-- says then.
use Rattle.std.specs.Prelude.{◌≡◌, ℕ, List, Option, Result}
use Rattle.std.specs.declared.io.Error.{Error}
use Rattle.std.specs.declared.vec.IntoIter.{IntoIter}
use Rattle.cc_arguments.specs.GivenWords as given
use Rattle.cc_io.specs.Messages.{IsTold}
use Rattle.cc_program.specs.declared.status.Status.{Status}
use Rattle.cc_program.specs.declared.status.Status.TheVariants.{NoMemory, BadWords}
use Rattle.cc_program.specs.Status.{message_of}

-- `Calls words status` says that the program read its source and wrote to its sink as a call with these words does that
-- ends so; `Untouched` says that it touched neither.

-- The words are all that the system gives but the first, which is the program's name, unless memory lacks for them.
-- Where the system gives none, its error says how the program ends.
abbrev pub EndsBy : {X Z : Type 0} → (List X → Status → Type 0) → Type 0 → Result (IntoIter X Z) Error → Status → Type 0
EndsBy Calls Untouched answer status = given.EndsBy NoMemory BadWords Calls Untouched answer status

-- Behind bad words one text more may be said, the usage text. No clause tells what it says, and none is said where
-- memory lacks for it.
abbrev pub IsUsageTold : {W : Type 0} → (W → List ℕ → Result (Unit {0}) Error → W → Type 0) → Status → W → W → Type 0
IsUsageTold gives BadWords old new = (usage : Option (List ℕ)) × IsTold gives usage old new
IsUsageTold gives status old new = new ≡ old

-- What is said: the message of the status, in one call, where it has one; and behind bad words at most one text more.
abbrev pub IsSaid : {W : Type 0} → (W → List ℕ → Result (Unit {0}) Error → W → Type 0) → Status → W → W → Type 0
IsSaid {W = W} gives status old new =
    (between : W) × IsTold gives (message_of status) old between × IsUsageTold gives status between new
