-- What a shape is exposed to.
use Rattle.std.specs.Prelude.{ℕ, nat_eq, [], ◌∷◌, length, if◌then◌else◌}
use Rattle.cc_capture.specs.declared.var.Var.TheVariants.{Free}
use Rattle.cc_core.specs.Shapes.{Shape, TypeVariable}
use Rattle.cc_core.specs.Contexts.{Bind, TypeEntry, Context}

-- the type variable of an entry at a position, as its bound
abbrev pub followed : Bind → ℕ → Shape → Shape
followed (TypeEntry bound) position (TypeVariable (Free other)) =
    if nat_eq other position then bound else TypeVariable (Free other)
followed _ position shape = shape

-- Type variables are followed to their bounds until there is none. It is done entry by entry, the newest first, since a
-- bound names older entries alone.
abbrev pub exposed : Context → Shape → Shape
exposed [] shape = shape
exposed (entry ∷ older) shape = exposed older (followed entry (length older) shape)
