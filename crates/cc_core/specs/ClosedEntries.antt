-- How far a context is known without what is put in for holes: what stands before all entries whose declared sets have
-- some. The globals do.
use Rattle.std.specs.Prelude.{ℕ, zero, suc, nat_lt, Bool, false, ◌||◌, [], ◌∷◌, length, if◌then◌else◌}
use Rattle.std.specs.List.{list_any}
use Rattle.cc_core.specs.Contexts.{Bind, TermEntry, TypeEntry, Context}
use Rattle.cc_core.specs.Questions.{is_hole}

-- whether the declared set of the entry has a hole
abbrev pub is_open : Bind → Bool
is_open (TermEntry shape declared) = list_any is_hole declared.list
is_open (TypeEntry bound) = false

-- How many entries are older than all that are open: all of them, where none is.
abbrev pub closed_entries : Context → ℕ
closed_entries [] = zero
closed_entries (entry ∷ older) =
    if nat_lt (closed_entries older) (length older) || is_open entry then closed_entries older else suc (length older)
