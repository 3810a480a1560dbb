-- What is said of two worked texts: that they say the same.
use Rattle.std.specs.Prelude.{◌≡◌, ℕ, Bool, true, codes, List, ◌++◌, map, Option, Some, None, is_some}
use Rattle.cc_core.specs.Terms.{Note, Term}
use Rattle.cc_mnf.specs.ElaboratedModules.{CoreDefinition, Elaboration, IsElaborated, IsRefused, elaboration}
use Rattle.cc_mnf.specs.ElaboratedModules.{device_names}
use Rattle.cc_verdicts.specs.Readings.{TextReading, IsTree, IsNoModule, reading_of_text}
use Rattle.cc_worked_texts.specs.TextVerdicts.{devices}

-- What a definition says, apart from its places: its name, the type that is written for it, whether it is recursive,
-- and its right side, in which local names are indices and operands are named.
pub record Meaning : Type 0 where
  pub name : List ℕ
  pub note : Note
  pub recursive : Bool
  pub right : Term

-- what an elaborated definition says
abbrev pub meaning : CoreDefinition → Meaning
meaning it = record { name = it.name; note = it.note; recursive = it.recursive; right = it.right }

-- what the definitions say, where nothing is refused
abbrev pub meanings_in : Elaboration → Option (List Meaning)
meanings_in (IsElaborated core) = Some (map meaning core.definitions)
meanings_in (IsRefused code at) = None

-- the same of a reading
abbrev pub meanings_read : TextReading → Option (List Meaning)
meanings_read (IsTree tree) = meanings_in (elaboration (device_names devices) tree)
meanings_read (IsNoModule code at) = None

-- the same of a text
abbrev pub meanings_of : List ℕ → Option (List Meaning)
meanings_of text = meanings_read (reading_of_text text)

-- both texts are modules that are not refused before they are checked, and their definitions say the same
abbrev pub SayTheSame : List ℕ → List ℕ → Type 0
SayTheSame text other = (is_some (meanings_of text) ≡ true) × (meanings_of text ≡ meanings_of other)

-- the definition of a function of four numbers, which are called `a`, `b`, `c` and `d`
abbrev pub over_numbers : List ℕ → List ℕ
over_numbers body = codes "def f = fun (a: Int) => fun (b: Int) => fun (c: Int) => fun (d: Int) => " ++ body
