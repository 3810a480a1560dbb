-- Paths of links: what leads on from a target to another. The first of the shortest ones, and how it is computed.
use Rattle.std.specs.Prelude.{◌≡◌, ℕ, zero, suc, ◌+◌, ◌≤◌, if◌then◌else◌, List, [], ◌∷◌, length, Option, Some, None, option_map}
use Rattle.cc_explain.specs.Chains.{LeadsAlong, LeadsBefore}
use Rattle.cc_explain.specs.Entries.{Entries, targets_of}
use Rattle.cc_explain.specs.Targets.{same_target}
use Rattle.cc_explain.specs.declared.target.Target.{Target}
use Rattle.cc_explain.specs.declared.target.Target.TheVariants.{Definition}

-- The first of the shortest paths from a target to another.
pub record IsFirstPath (links : Entries) (from to : Target) (path : List Target) : Type 0 where
  pub leads : LeadsAlong (targets_of links) from path to
  pub shortest : (other : List Target) → LeadsAlong (targets_of links) from other to → length path ≤ length other
  pub first : (other : List Target) → LeadsAlong (targets_of links) from other to → length other ≡ length path
      → LeadsBefore (targets_of links) from other path
      → ⊥

-- a path through the next target, where one leads on from there, and else another
abbrev pub through : Target → Option (List Target) → Option (List Target) → Option (List Target)
through next None other = other
through next (Some path) other = Some (next ∷ path)

-- a path through the first of the targets from which there is one
abbrev pub first_through : (Target → Option (List Target)) → List Target → Option (List Target)
first_through paths [] = None
first_through paths (next ∷ others) = through next (paths next) (first_through paths others)

-- the first path of so many steps
unfoldable pub path_of : Entries → Target → ℕ → Target → Option (List Target)
path_of links to zero from = if same_target from to then Some [] else None
path_of links to (suc steps) from = first_through (path_of links to steps) (targets_of links from)

-- the first path there is of two
abbrev pub sooner : Option (List Target) → Option (List Target) → Option (List Target)
sooner None other = other
sooner (Some path) other = Some path

-- the first of the shortest paths of so many steps at least, where so many lengths are tried
unfoldable pub path_from : Entries → Target → Target → ℕ → ℕ → Option (List Target)
path_from links to from steps zero = None
path_from links to from steps (suc tries) =
    sooner (path_of links to steps from) (path_from links to from (suc steps) tries)

-- The first of the shortest chains, where entries name earlier ones alone: one from the definition has at most as many
-- steps as there are entries up to its own.
abbrev pub chain_of : Entries → ℕ → Target → Option (List Target)
chain_of links from to =
    option_map (λ path. Definition from ∷ path) (path_from links to (Definition from) 0 (from + 2))
