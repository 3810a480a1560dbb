-- Which events are well scoped, by example.
use Rattle.std.specs.Prelude.{List, [], ◌∷◌, pos}
use Rattle.cc_base.specs.declared.literal.Op.TheVariants as operations
use Rattle.cc_base.specs.Literals.{NumberLiteral}
use Rattle.cc_device.specs.Events.{Event, Operated, Entered, Ended, Exited, IsWellScoped}

-- the events cannot be of a run that begins with no boundary
abbrev pub IsIllScoped : List Event → Type 0
IsIllScoped events = IsWellScoped events → ⊥

-- Boundaries may stand in each other and after each other, and may be left open; an exit leaves all those within its
-- own.
abbrev pub ScopesThatFit : Type 0
ScopesThatFit =
    IsWellScoped (Entered 0 ∷ Entered 1 ∷ Ended 1 ∷ Ended 0 ∷ Entered 2 ∷ [])
    × IsWellScoped (Entered 0 ∷ Entered 1 ∷ Entered 2 ∷ Exited 1 ∷ Ended 0 ∷ [])
    × IsWellScoped (Entered 0 ∷ Operated 0 operations.Print (NumberLiteral (pos 5)) ∷ Ended 0 ∷ [])

-- A boundary neither ends nor is left before it is entered, or twice; it does not end while one within it stands; and
-- an exit leaves those within its own for good.
abbrev pub ScopesThatDoNotFit : Type 0
ScopesThatDoNotFit =
    IsIllScoped (Ended 0 ∷ [])
    × IsIllScoped (Exited 0 ∷ [])
    × IsIllScoped (Entered 0 ∷ Ended 0 ∷ Exited 0 ∷ [])
    × IsIllScoped (Entered 0 ∷ Entered 1 ∷ Ended 0 ∷ [])
    × IsIllScoped (Entered 0 ∷ Entered 1 ∷ Exited 0 ∷ Ended 1 ∷ [])
