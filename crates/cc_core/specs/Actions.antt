-- The actions that the code can take.
use Rattle.std.specs.Prelude.{ℕ, List, slice_index_or}
use Rattle.cc_capture.specs.declared.var.Elem.TheVariants.{Hole}
use Rattle.cc_capture.specs.Sets.{Set}
use Rattle.cc_core.specs.declared.acting.Action.{Action as DeclaredAction}
use Rattle.cc_core.specs.declared.acting.Action.TheVariants as actions
use Rattle.cc_core.specs.Traversal.{Action}
use Rattle.cc_core.specs.Substitution.{single, putting, putting_shape, closing, renaming, filling_in}
use Rattle.cc_core.specs.Reading.{reading, writing}
use Rattle.cc_core.specs.TermViews.{shape_of}

-- the position that a list has for a position; one past the list stays
abbrev pub renamed_by : List ℕ → ℕ → ℕ
renamed_by to position = slice_index_or to position position

-- the set that a list has for a hole; a hole past the list stays
abbrev pub filled_by : List Set → ℕ → Set
filled_by sets hole = slice_index_or sets hole (single (Hole hole))

-- the action that a value stands for
abbrev pub action_of : DeclaredAction → Action
action_of (actions.Put by) = putting by
action_of (actions.PutShape by) = putting_shape (shape_of by.now.value)
action_of (actions.Rename to) = renaming (renamed_by to.now)
action_of (actions.Close position) = closing position
action_of (actions.Fill sets) = filling_in (filled_by sets.now)
action_of (actions.Read entries) = reading entries
action_of (actions.Write root entries) = writing root entries
