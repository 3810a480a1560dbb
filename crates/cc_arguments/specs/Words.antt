-- What the words of a command line ask for.
use Rattle.std.specs.Prelude.{◌≡◌, ℕ, ◌≤◌, ◌⊎◌, List, [], ◌∷◌, ◌++◌, codes}
use Rattle.std.specs.Fmt.{decimal}
use Rattle.cc_arguments.specs.declared.words.Asked.{Asked}
use Rattle.cc_arguments.specs.declared.words.Asked.TheVariants.{Job, Workload, Nothing}

-- the greatest workload
abbrev pub most_modules : ℕ
most_modules = 200

-- a workload is asked for by the option with its number in decimal, as two words or as one with an equals sign between
abbrev pub AsksForWorkload : List (List ℕ) → ℕ → Type 0
AsksForWorkload words n =
    (1 ≤ n) × (n ≤ most_modules)
    × ((words ≡ codes "--workload" ∷ decimal n ∷ []) ⊎ (words ≡ (codes "--workload=" ++ decimal n) ∷ []))

-- No word asks for the job of the source. Words in no other form than these ask for nothing.
abbrev pub AsksFor : List (List ℕ) → Asked → Type 0
AsksFor words Job = words ≡ []
AsksFor words (Workload n) = AsksForWorkload words n
AsksFor words Nothing = (words ≡ [] → ⊥) × ((n : ℕ) → AsksForWorkload words n → ⊥)

-- any words ask for one thing
abbrev pub WordsAskForOneThing : Type 0
WordsAskForOneThing = (words : List (List ℕ)) (one other : Asked) → AsksFor words one → AsksFor words other → one ≡ other

-- each form of words is there, and is what the texts say
abbrev pub WordsInForms : Type 0
WordsInForms =
    AsksFor [] Job × AsksFor (codes "--workload" ∷ codes "2" ∷ []) (Workload 2)
    × AsksFor (codes "--workload=2" ∷ []) (Workload 2) × AsksFor (codes "--workload" ∷ codes "200" ∷ []) (Workload 200)
    × AsksFor (codes "--workload=1" ∷ []) (Workload 1)

-- words that are in no form: the option alone, a number that is too small, too great, or not written as decimal numbers
-- are, words before or behind, and other options
abbrev pub WordsInNoForm : Type 0
WordsInNoForm =
    AsksFor (codes "--workload" ∷ []) Nothing × AsksFor (codes "--workload=" ∷ []) Nothing
    × AsksFor (codes "--workload" ∷ codes "0" ∷ []) Nothing × AsksFor (codes "--workload" ∷ codes "201" ∷ []) Nothing
    × AsksFor (codes "--workload=201" ∷ []) Nothing × AsksFor (codes "--workload" ∷ codes "07" ∷ []) Nothing
    × AsksFor (codes "--workload" ∷ codes "+2" ∷ []) Nothing × AsksFor (codes "--workload=" ∷ codes "2" ∷ []) Nothing
    × AsksFor (codes "--workload" ∷ codes "2" ∷ codes "x" ∷ []) Nothing
    × AsksFor (codes "--workload" ∷ codes "2" ∷ codes "--workload" ∷ codes "2" ∷ []) Nothing
    × AsksFor (codes "--" ∷ codes "--workload" ∷ codes "2" ∷ []) Nothing × AsksFor (codes "--help" ∷ []) Nothing
    × AsksFor (codes "2" ∷ []) Nothing × AsksFor ([] ∷ []) Nothing
