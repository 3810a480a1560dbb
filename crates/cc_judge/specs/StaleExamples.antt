-- When a module is stale by example: each cause alone, and none of them; and how many of the present modules are.
use Rattle.std.specs.Prelude.{◌≡◌, ℕ, true, false, codes, List, [], ◌∷◌, refl}
use Rattle.std.specs.Str.{chars, is_utf8}
use Rattle.cc_capture.specs.Sets.{empty, same_set}
use Rattle.cc_core.specs.Shapes.{capturing}
use Rattle.cc_verdicts.specs.ModuleVerdicts.{Finding, FoundDefinition, NoModule, InCycle, RefusedModule}
use Rattle.cc_verdicts.specs.ModuleVerdicts.{NoDefinition, ModuleVerdict, IsAccepted}
use Rattle.cc_verdicts.specs.PresentTexts.{Texts}
use Rattle.cc_verdicts.specs.Readings.{reading_of_text}
use Rattle.cc_checking.specs.ComparisonExamples.{number, nothing}
use Rattle.cc_judge.specs.Judgements.{Judgement, is_stale, stale_count}

abbrev a : List ℕ
a = codes "a"

abbrev b : List ℕ
b = codes "b"

-- a text with one import, and another
abbrev importing : List ℕ
importing = codes "import b.f"

abbrev importing_other : List ℕ
importing_other = codes "import b.g"

-- a number was found for the import
abbrev a_number : List Finding
a_number = FoundDefinition (capturing number empty) ∷ []

-- a was judged with the first text, where a number was found
abbrev judged : List Judgement
judged = record { name = a; text = importing; findings = a_number; verdict = IsAccepted [] } ∷ []

-- the same again is not stale, whether the module was present all the while or not
pub same_again : is_stale judged a importing a_number ≡ false
unfolding same_set empty
same_again = refl

-- it was not judged before: a module of another name was, or none
pub not_judged : is_stale judged b importing a_number ≡ true
unfolding same_set empty
not_judged = refl

pub none_judged : is_stale [] a importing a_number ≡ true
none_judged = refl

-- it was judged with another text
pub other_text : is_stale judged a importing_other a_number ≡ true
unfolding same_set empty
other_text = refl

-- something else was found: a definition of another type, or none, for whatever reason
pub other_type : is_stale judged a importing (FoundDefinition (capturing nothing empty) ∷ []) ≡ true
unfolding same_set empty
other_type = refl

pub nothing_found : is_stale judged a importing (NoModule ∷ []) ≡ true
nothing_found = refl

pub found_in_cycle : is_stale judged a importing (InCycle ∷ []) ≡ true
found_in_cycle = refl

pub found_refused : is_stale judged a importing (RefusedModule ∷ []) ≡ true
found_refused = refl

pub no_definition_found : is_stale judged a importing (NoDefinition ∷ []) ≡ true
no_definition_found = refl

-- a module whose import is in a cycle is stale where it was refused for another reason before
abbrev judged_without : List Judgement
judged_without = record { name = a; text = importing; findings = NoModule ∷ []; verdict = IsAccepted [] } ∷ []

pub no_more_absent : is_stale judged_without a importing (InCycle ∷ []) ≡ true
no_more_absent = refl

pub still_absent : is_stale judged_without a importing (NoModule ∷ []) ≡ false
still_absent = refl

-- Three modules whose texts are no characters, so that they have no imports. The first was judged so, the second with
-- another text, and the third was not.
abbrev no_character : List ℕ
no_character = 255 ∷ []

abbrev three_texts : Texts
three_texts = (a, no_character) ∷ (b, no_character) ∷ (codes "c", no_character) ∷ []

abbrev two_judged : List Judgement
two_judged =
    record { name = a; text = no_character; findings = []; verdict = IsAccepted [] }
    ∷ record { name = b; text = 254 ∷ []; findings = []; verdict = IsAccepted [] }
    ∷ []

abbrev all_accepted : List ℕ → ModuleVerdict
all_accepted name = IsAccepted []

pub two_of_three : stale_count two_judged three_texts all_accepted ≡ 2
unfolding reading_of_text is_utf8 chars
two_of_three = refl

pub all_at_first : stale_count [] three_texts all_accepted ≡ 3
all_at_first = refl
