-- Reading the words of a command line. It serves the code alone.
use Rattle.std.specs.Prelude.{ℕ, zero, suc, List, [], ◌∷◌, codes, Option, Some, None, if◌then◌else◌}
use Rattle.std.specs.Option.{option_and_then}
use Rattle.std.specs.Str.{bytes_eq}
use Rattle.cc_words.specs.Words.{after_prefix, number_of}
use Rattle.cc_arguments.specs.declared.words.Asked.{Asked}
use Rattle.cc_arguments.specs.declared.words.Asked.TheVariants.{Job, Workload, Nothing}
use Rattle.cc_arguments.specs.Words.{most_modules}

-- a number that is not 0
abbrev pub at_least_one : Option ℕ → Option ℕ
at_least_one None = None
at_least_one (Some zero) = None
at_least_one (Some (suc n)) = Some (suc n)

-- the number of a workload that a word writes
abbrev pub workload_number : List ℕ → Option ℕ
workload_number word = at_least_one (number_of most_modules word)

-- the workload with the number, if there is one
abbrev pub asked_for : Option ℕ → Asked
asked_for None = Nothing
asked_for (Some n) = Workload n

-- what a word alone asks for
abbrev pub asked_by_one : List ℕ → Asked
asked_by_one word = asked_for (option_and_then workload_number (after_prefix word (codes "--workload=")))

-- what two words ask for
abbrev pub asked_by_two : List ℕ → List ℕ → Asked
asked_by_two option digits =
    if bytes_eq option (codes "--workload") then asked_for (workload_number digits) else Nothing

-- what words ask for
abbrev pub asked_by : List (List ℕ) → Asked
asked_by [] = Job
asked_by (word ∷ []) = asked_by_one word
asked_by (option ∷ digits ∷ []) = asked_by_two option digits
asked_by (option ∷ digits ∷ more ∷ words) = Nothing
