-- What is kept once, wherever it comes again.
use Rattle.std.specs.Prelude.{◌≡◌, ℕ, nat_lt, Bool, true, ◌&&◌, ◌||◌, List, [], ◌∷◌, ◌++◌, length}
use Rattle.std.specs.List.{list_all}
use Rattle.cc_base.specs.declared.place.Place.{Place}
use Rattle.cc_core.specs.ClosedEntries.{closed_entries}
use Rattle.cc_core.specs.Contexts.{Context}
use Rattle.cc_core.specs.Shapes.{Shape}
use Rattle.cc_core.specs.WellFormed.{IsWellFormedContext, IsWellFormedShape}
use Rattle.cc_checking.specs.Comparison.{Demand, comparison}
use Rattle.cc_checking.specs.Inference.{demand_at}
use Rattle.cc_checking.specs.Outcomes.{IsBelow, Placed}
use Rattle.cc_known.specs.ComparedAgain.{told}
use Rattle.cc_known.specs.Keeping.{is_among_oldest, is_demand_settled, is_repeated, with_one}

-- Whether what may be put in for holes of a demand's right set is the same wherever the demand comes again with the
-- oldest variables where they are: one of these has a hole, or the right set names no other.
abbrev pub stays_fillable : ℕ → Demand → Bool
stays_fillable oldest demand =
    nat_lt (closed_entries demand.context) oldest || list_all (is_among_oldest oldest) demand.right.list

-- Whether a demand is needless behind the log wherever it comes again so: it is settled, or repeats something.
abbrev pub comes_again : ℕ → List Placed → Demand → Bool
comes_again oldest log demand =
    is_demand_settled demand || (stays_fillable oldest demand && is_repeated log (IsBelow demand))

-- A comparison that comes again where entries were passed on top of a base matches alike, and its demands are needless
-- alike.
abbrev pub KeptComparedAgain : Type 0
KeptComparedAgain =
    (log : List Placed) (base passed : Context) (steps : ℕ) (left right : Shape) → IsWellFormedContext base
    → IsWellFormedShape base left → IsWellFormedShape base right
    → told (comes_again (length base) log) (comparison steps (passed ++ base) left right)
    ≡ told (comes_again (length base) log) (comparison steps base left right)

-- What is needless so stays needless behind a longer log,
abbrev pub ComesBehindMore : Type 0
ComesBehindMore =
    (oldest : ℕ) (log : List Placed) (more : Placed) (demand : Demand) → comes_again oldest log demand ≡ true
    → comes_again oldest (log ++ more ∷ []) demand ≡ true

-- and is not kept.
abbrev pub ComesNeedless : Type 0
ComesNeedless =
    (oldest : ℕ) (log : List Placed) (at : Place) (demand : Demand) → comes_again oldest log demand ≡ true
    → with_one log (demand_at at demand) ≡ log
