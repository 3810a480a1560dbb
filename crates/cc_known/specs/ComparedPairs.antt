-- What is remembered of two shapes that were compared. This serves proofs alone.
use Rattle.std.specs.Prelude.{ℕ, Bool, false, ◌&&◌, List, [], length}
use Rattle.cc_base.specs.declared.place.Place.{Place}
use Rattle.cc_core.specs.Contexts.{Context}
use Rattle.cc_core.specs.Shapes.{Shape}
use Rattle.cc_core.specs.TermViews.{shape_of, context_of}
use Rattle.cc_core.specs.WellFormed.{kinds_of, is_well_formed_context, is_well_formed_shape}
use Rattle.cc_checking.specs.Comparison.{Comparison, comparison}
use Rattle.cc_checking.specs.Outcomes.{Placed}
use Rattle.cc_known.specs.ComparedAgain.{told}
use Rattle.cc_known.specs.EndsAgain.{comes_again}
use Rattle.cc_known.specs.KeptWalks.{Keeps, is_told}
use Rattle.cc_known.specs.declared.marked.Compared.{Compared}

-- Whether a comparison matches, with demands of which none is kept behind the log wherever they come again with the
-- oldest variables where they are.
abbrev pub keeps_nothing : ℕ → List Placed → Comparison → Bool
keeps_nothing oldest log compared = is_told (told (comes_again oldest log) compared)

-- whether that of two shapes of a context does so, with all variables of the context where they are
unfoldable pub is_compared_as : ℕ → List Placed → Context → Shape → Shape → Bool
is_compared_as steps log context left right =
    is_well_formed_context context
    && ((is_well_formed_shape (kinds_of context) [] left && is_well_formed_shape (kinds_of context) [] right)
    && keeps_nothing (length context) log (comparison steps context left right))

-- the same of a pair as it is stored
abbrev pub is_compared : ℕ → List Placed → Compared → Bool
is_compared steps log pair = is_compared_as steps log (context_of pair.context) (shape_of pair.left) (shape_of pair.right)

-- What is kept of a comparison that ends, by whether the two match. Nothing is said of what comes again.
abbrev pub IsKept : Place → Comparison → Bool → List Placed → List Placed → Type 0
IsKept at compared matched before after = Keeps 0 false at compared matched false false before after
