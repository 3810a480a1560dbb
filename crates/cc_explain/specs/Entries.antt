-- Entries of definitions, each with the targets that its definition links to.
use Rattle.std.specs.Prelude.{ℕ, ◌<◌, List, [], slice_index_or}
use Rattle.std.specs.List.{Contains}
use Rattle.cc_explain.specs.declared.target.Target.{Target}
use Rattle.cc_explain.specs.declared.target.Target.TheVariants.{Definition, Device, Cap}

-- An entry for each definition: the list of its targets. The number of a definition is the place of its entry.
abbrev pub Entries : Type 0
Entries = List (List Target)

-- the entry of a target; a device and the universal capability link to nothing
abbrev pub targets_of : Entries → Target → List Target
targets_of links (Definition number) = slice_index_or links number []
targets_of links (Device number) = []
targets_of links Cap = []

-- each definition that an entry names has an earlier entry
abbrev pub NamesEarlier : Entries → Type 0
NamesEarlier links =
    (number named : ℕ) → Contains (targets_of links (Definition number)) (Definition named) → named < number
