-- Where the definitions of a module stand, by their names. It serves the code alone.
use Rattle.std.specs.Prelude.{◌≡◌, ℕ, List, [], ◌∷◌, Option, Some, None, slice_get, if◌then◌else◌}
use Rattle.std.specs.BTreeMap.{get}
use Rattle.std.specs.Str.{bytes_eq}
use Rattle.cc_base.specs.Names.{compare_names}
use Rattle.cc_module.specs.declared.judgement.CheckedDef.{CheckedDef}
use Rattle.cc_module.specs.declared.definitions.Places.{Places}

-- the place of the name, if it has one
abbrev pub place_in : Places → List ℕ → Option ℕ
place_in places name = get compare_names places.places name

-- the first definition of the name, if there is one
abbrev pub first_named : List ℕ → List CheckedDef → Option CheckedDef
first_named name [] = None
first_named name (first ∷ rest) = if bytes_eq first.name name then Some first else first_named name rest

-- the definition at the place, if there is one
abbrev pub definition_at : List CheckedDef → Option ℕ → Option CheckedDef
definition_at defs (Some place) = slice_get defs place
definition_at defs None = None

-- by its place each name leads to the first definition of its own
abbrev pub FindsFirst : Places → List CheckedDef → Type 0
FindsFirst places defs = (name : List ℕ) → definition_at defs (place_in places name) ≡ first_named name defs
