-- Terms that are gone into without being opened, and what is found for them. Each binder that is passed puts one
-- entry into the context, so an index that counts a binder outside of the part stands for an entry, counted from the
-- newest. Reading makes such an index the position of its entry, and writing makes a position an index again.
use Rattle.std.specs.Prelude.{ℕ, zero, suc, ◌+◌, ◌-◌, nat_lt, nat_le, ◌&&◌, if◌then◌else◌}
use Rattle.cc_capture.specs.declared.var.Var.{Var}
use Rattle.cc_capture.specs.declared.var.Var.TheVariants.{Bound, Free}
use Rattle.cc_capture.specs.Sets.{Set}
use Rattle.cc_core.specs.Shapes.{Shape, CapturingType}
use Rattle.cc_core.specs.Terms.{Term}
use Rattle.cc_core.specs.Traversal.{Action, act, act_set, act_type, act_term}
use Rattle.cc_core.specs.Substitution.{moving}

-- The variable, in a part under so many binders, among so many entries: an index that counts a binder outside of the
-- part becomes the position of the entry that many from the newest. One for which there is no entry stays.
abbrev pub read_variable : ℕ → ℕ → Var → Var
read_variable entries depth (Bound index) =
    if nat_le depth index && nat_lt (index - depth) entries
    then Free (entries - suc (index - depth))
    else Bound index
read_variable entries depth (Free position) = Free position

-- The other way: a position from the root on becomes the index of its binder. A position that has no entry stays.
abbrev pub written_variable : ℕ → ℕ → ℕ → Var → Var
written_variable root entries depth (Bound index) = Bound index
written_variable root entries depth (Free position) =
    if nat_le root position && nat_lt position entries
    then Bound (depth + (entries - suc position))
    else Free position

-- reads each index among so many entries
abbrev pub reading : ℕ → Action
reading entries = moving (read_variable entries)

-- writes each position of the entries from the root on
abbrev pub writing : ℕ → ℕ → Action
writing root entries = moving (written_variable root entries)

-- what stands in a term at a place where the context has so many entries, as it stands in that context
abbrev pub read_set : ℕ → Set → Set
read_set entries = act_set (reading entries) zero

-- the same of shapes
abbrev pub read_shape : ℕ → Shape → Shape
read_shape entries = act (reading entries) zero

-- the same of types
abbrev pub read_type : ℕ → CapturingType → CapturingType
read_type entries = act_type (reading entries) zero

-- the same of terms
abbrev pub read_term : ℕ → Term → Term
read_term entries = act_term (reading entries) zero

-- what was found in a context of so many entries, as it stands in a term whose binders put the entries from the root on
abbrev pub written_set : ℕ → ℕ → Set → Set
written_set root entries = act_set (writing root entries) zero

-- the same of types
abbrev pub written_type : ℕ → ℕ → CapturingType → CapturingType
written_type root entries = act_type (writing root entries) zero

-- the same of terms
abbrev pub written_term : ℕ → ℕ → Term → Term
written_term root entries = act_term (writing root entries) zero
