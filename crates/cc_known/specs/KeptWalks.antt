-- How a comparison is gone through where what it demands is kept as it is found, and what is known on the way. This
-- serves proofs alone.
use Rattle.std.specs.Prelude.{◌≡◌, ℕ, Bool, true, false, ◌&&◌, ◌||◌, not, map, List, [], ◌++◌, length, Option}
use Rattle.std.specs.Prelude.{Some, None, if◌then◌else◌}
use Rattle.std.specs.List.{list_all}
use Rattle.cc_base.specs.declared.place.Place.{Place}
use Rattle.cc_capture.specs.declared.var.Var.{Var}
use Rattle.cc_capture.specs.Sets.{Set}
use Rattle.cc_core.specs.Contexts.{Context}
use Rattle.cc_core.specs.Equality.{same_shape}
use Rattle.cc_core.specs.Reading.{read_shape}
use Rattle.cc_core.specs.Shapes.{Shape, TypeVariable}
use Rattle.cc_core.specs.TermViews.{shape_of, context_of}
use Rattle.cc_core.specs.WellFormed.{kinds_of, is_well_formed_context, is_well_formed_shape, IsWellFormedSet}
use Rattle.cc_checking.specs.Comparison.{Demand, demanded, Comparison, Unfinished, Mismatch, Matches, bound_of}
use Rattle.cc_checking.specs.Comparison.{bound_compared, by_form, comparison}
use Rattle.cc_checking.specs.Outcomes.{IsBelow, Placed}
use Rattle.cc_checking.specs.Inference.{demand_at}
use Rattle.cc_known.specs.ComparedAgain.{told}
use Rattle.cc_known.specs.EndsAgain.{comes_again}
use Rattle.cc_known.specs.Keeping.{has_hole, is_demand_settled, is_repeated, keeping}
use Rattle.cc_known.specs.declared.keys.KeyedPair.{KeyedPair}
use Rattle.cc_known.specs.declared.pairs.Pair.{Pair}

-- The list with all that is asked then behind it: the whole of it, or what is not needless.
abbrev pub put : Bool → List Placed → List Placed → List Placed
put true before more = before ++ more
put false before more = keeping before more

-- What is kept of a comparison that ends, by whether the whole is kept: the two do not match, or they do, and what they
-- demand is kept behind the log. Where it is said afterwards that all is needless wherever it comes again, it was so
-- before, and each of the demands is so then, with the oldest variables where they are.
abbrev pub Keeps : ℕ → Bool → Place → Comparison → Bool → Bool → Bool → List Placed → List Placed → Type 0
Keeps oldest whole at Unfinished matched was is before after = ⊥
Keeps oldest whole at Mismatch matched was is before after = matched ≡ false
Keeps oldest whole at (Matches demands) matched was is before after =
    (matched ≡ true) × (after ≡ put whole before (map (demand_at at) demands))
    × (is ≡ true → (was ≡ true) × (list_all (comes_again oldest after) demands ≡ true))

-- the comparison of two shapes, read in the context, by their forms alone where they are not one
abbrev pub form_compared : ℕ → Context → Shape → Shape → Comparison
form_compared steps context left right =
    if same_shape (read_shape (length context) left) (read_shape (length context) right)
    then Matches []
    else by_form (comparison steps) context (read_shape (length context) left) (read_shape (length context) right)

-- the comparison of a type variable with a shape that is read in the context, by its bound where they are not one
abbrev pub variable_compared : ℕ → Context → Var → Shape → Comparison
variable_compared steps context variable right =
    if same_shape (TypeVariable variable) (read_shape (length context) right)
    then Matches []
    else bound_compared (comparison steps) context (bound_of context variable) (read_shape (length context) right)

-- the context has entries on top of those of another
pub record StandsOn (base context : Context) : Type 0 where
  pub passed : Context
  pub is : context ≡ passed ++ base

-- two well-formed sets, of which it is settled that the left one is below the right one
pub record IsKnown (context : Context) (left right : Set) : Type 0 where
  pub lower : IsWellFormedSet context left
  pub upper : IsWellFormedSet context right
  pub settled : is_demand_settled (demanded context left right) ≡ true

-- two well-formed sets, of which it is asked already that the left one is below the right one
pub record IsKnownAgain (context : Context) (log : List Placed) (left right : Set) : Type 0 where
  pub lower : IsWellFormedSet context left
  pub upper : IsWellFormedSet context right
  pub again : is_repeated log (IsBelow (demanded context left right)) ≡ true

-- Whether a demand that comes again with the oldest variables where they are is not kept behind the log, or else behind
-- one where something is lost.
abbrev pub goes : ℕ → List Placed → Bool → Demand → Bool
goes oldest log lost demand = comes_again oldest log demand || (lost && not (has_hole demand.right))

-- it is told, and told that they pass
abbrev pub is_told : Option Bool → Bool
is_told (Some all) = all
is_told None = false

-- whether the comparison of a type variable's bound with a shape matches in so many steps, with demands that are not
-- kept behind the log
abbrev pub is_matched : ℕ → List Placed → Context → Bool → ℕ → Var → Shape → Bool
is_matched oldest log context lost steps variable right =
    is_told (told (goes oldest log lost) (bound_compared (comparison steps) context (bound_of context variable) right))

-- whether, besides, the type variable and the shape are a name and a shape of the context
abbrev pub is_remembered_as : ℕ → List Placed → Context → Bool → ℕ → Var → Shape → Bool
is_remembered_as oldest log context lost steps variable right =
    (is_well_formed_shape (kinds_of context) [] (TypeVariable variable) && is_well_formed_shape (kinds_of context) [] right)
    && is_matched oldest log context lost steps variable right

-- the same of a pair as it is stored, with all variables of the context where they are
abbrev pub is_remembered : List Placed → Context → Pair → Bool
is_remembered log context pair =
    is_remembered_as (length context) log context pair.lost pair.steps pair.variable (shape_of pair.right)

-- The same of a pair that is stored with the entries that it goes by, where they stand on top of a base, with the
-- variables of the base where they are.
abbrev pub is_keyed : List Placed → Context → KeyedPair → Bool
is_keyed log base pair =
    is_well_formed_context (context_of pair.entries ++ base)
    && is_remembered_as (length base) log (context_of pair.entries ++ base) pair.lost pair.steps pair.variable (shape_of pair.right.value)
