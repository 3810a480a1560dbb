-- The entries by which a comparison goes, by marks at their positions: those that its shapes name, and those by which
-- these are declared. This serves proofs alone.
use Rattle.std.specs.Prelude.{◌≡◌, ℕ, ◌<◌, ◌≤◌, Bool, true, false, not, List, length, Option, Some, None, slice_get}
use Rattle.std.specs.List.{list_all}
use Rattle.std.specs.Option.{option_map}
use Rattle.cc_capture.specs.declared.var.Var.{Var}
use Rattle.cc_capture.specs.declared.var.Var.TheVariants.{Bound, Free}
use Rattle.cc_capture.specs.declared.var.Elem.{Elem}
use Rattle.cc_capture.specs.declared.var.Elem.TheVariants.{Var as Variable, Cap, Hole}
use Rattle.cc_core.specs.ClosedEntries.{closed_entries}
use Rattle.cc_core.specs.Contexts.{Bind, TermEntry, TypeEntry, Context, lookup}
use Rattle.cc_core.specs.Questions.{Question, occurs}
use Rattle.cc_core.specs.Shapes.{Shape}
use Rattle.cc_known.specs.ComparedAgain.{seen}

-- the mark at a position, and none beyond all
abbrev pub mark_in : Option Bool → Bool
mark_in (Some mark) = mark
mark_in None = false

-- whether the position has a mark
abbrev pub is_marked : List Bool → ℕ → Bool
is_marked marks position = mark_in (slice_get marks position)

-- whether the variable has, if it is free
abbrev pub is_marked_variable : List Bool → Var → Bool
is_marked_variable marks (Free position) = is_marked marks position
is_marked_variable marks (Bound index) = true

-- the same of an element that is a variable
abbrev pub is_marked_element : List Bool → Elem → Bool
is_marked_element marks (Variable variable) = is_marked_variable marks variable
is_marked_element marks Cap = true
is_marked_element marks (Hole number) = true

-- whether a position without a mark occurs
abbrev pub unmarked : List Bool → Question
unmarked marks =
    record {
      in_set = λ set. not (list_all (is_marked_element marks) set.list);
      at = λ variable. not (is_marked_variable marks variable);
    }

-- whether one occurs in what a comparison sees of an entry
abbrev pub occurs_in_entry : Question → Bind → Bool
occurs_in_entry question (TermEntry shape set) = question.in_set set
occurs_in_entry question (TypeEntry bound) = occurs question bound

-- the same of an entry that may be there
abbrev pub occurs_where : Question → Option Bind → Bool
occurs_where question (Some entry) = occurs_in_entry question entry
occurs_where question None = false

-- Each entry with a mark is declared by such entries alone.
abbrev pub DeclaresMarked : List Bool → Context → Type 0
DeclaresMarked marks context =
    (p : ℕ) → p < length context → is_marked marks p ≡ true → occurs_where (unmarked marks) (lookup context p) ≡ false

-- Two shapes of a context go by the entries with marks.
abbrev pub GoesBy : List Bool → Context → Shape → Shape → Type 0
GoesBy marks context left right =
    (occurs (unmarked marks) left ≡ false) × (occurs (unmarked marks) right ≡ false) × DeclaresMarked marks context

-- What a comparison sees of the entries with marks stands in another context, each at its position.
abbrev pub StandsMarked : List Bool → Context → Context → Type 0
StandsMarked marks small context =
    (p : ℕ) → p < length small → is_marked marks p ≡ true → option_map seen (lookup context p) ≡ option_map seen (lookup small p)

-- The other context is no shorter, and as far as the small one goes, the entries before all with holes are the same.
pub record IsClosedAlike (small context : Context) : Type 0 where
  pub long : length small ≤ length context
  pub some : closed_entries small < length small → closed_entries context ≡ closed_entries small
  pub all : length small ≤ closed_entries small → length small ≤ closed_entries context
