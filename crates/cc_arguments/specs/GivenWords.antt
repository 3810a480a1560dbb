-- How a program ends, for whatever the system answers when it is asked for the words of the command line.
use Rattle.std.specs.Prelude.{◌≡◌, ◌⊎◌, List, drop, Result, Ok, Err}
use Rattle.std.specs.IoError.{error_kind}
use Rattle.std.specs.Vec.Iter.{into_iter_items}
use Rattle.std.specs.declared.io.Error.{Error}
use Rattle.std.specs.declared.io.ErrorKind.{ErrorKind}
use Rattle.std.specs.declared.io.ErrorKind.TheVariants.{OutOfMemory}
use Rattle.std.specs.declared.vec.IntoIter.{IntoIter}

-- `no_memory` and `bad_words` are how the program ends for want of memory and at words that it does not have.

-- Where the system gives no words, want of memory is told as such; every other error says that the words are no texts.
abbrev pub ending_without_words : {S : Type 0} → (no_memory bad_words : S) → ErrorKind → S
ending_without_words no_memory bad_words OutOfMemory = no_memory
ending_without_words no_memory bad_words kind = bad_words

-- `Calls words status` says that the program read its source and wrote to its sink as a call with these words does that
-- ends so; `Untouched` says that it touched neither.

-- The words are all that the system gives but the first, which is the program's name, unless memory lacks for them.
-- Where the system gives none, its error says how the program ends.
abbrev pub EndsBy : {S X Z : Type 0} → (no_memory bad_words : S) → (List X → S → Type 0) → Type 0
    → Result (IntoIter X Z) Error → S → Type 0
EndsBy no_memory bad_words Calls Untouched (Ok args) status =
    Calls (drop 1 (into_iter_items args)) status ⊎ ((status ≡ no_memory) × Untouched)
EndsBy no_memory bad_words Calls Untouched (Err error) status =
    (status ≡ ending_without_words no_memory bad_words (error_kind error)) × Untouched
