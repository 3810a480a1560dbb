-- Contexts: what stands at each free position.
use Rattle.std.specs.Prelude.{ℕ, nat_eq, List, [], ◌∷◌, length, Option, Some, None, if◌then◌else◌}
use Rattle.cc_capture.specs.Sets.{Set}
use Rattle.cc_core.specs.Shapes.{Shape, CapturingType}

-- an entry of a context: a variable of terms with its type, or a type variable with its bound
pub data Bind : Type 0 where
  TermEntry : (shape : Shape) (set : Set) → Bind
  TypeEntry : (bound : Shape) → Bind

-- a context is the list of its entries, the newest first
abbrev pub Context : Type 0
Context = List Bind

-- What stands at a position. The position of an entry is the number of entries before it, so it stays the same when
-- entries are added.
abbrev pub lookup : {A : Type 0} → List A → ℕ → Option A
lookup [] position = None
lookup (newest ∷ older) position = if nat_eq position (length older) then Some newest else lookup older position

-- the entry of a variable of the type
abbrev pub entry_of : CapturingType → Bind
entry_of type = TermEntry type.shape type.set
