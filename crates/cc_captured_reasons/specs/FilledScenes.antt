-- What is asked of a context and a set whose chains are looked for: it holds where holes are filled as a least filling does.
use Rattle.std.specs.Prelude.{length}
use Rattle.cc_capture.specs.Sets.{Set}
use Rattle.cc_core.specs.Contexts.{Context}
use Rattle.cc_core.specs.Occurrences.{HasNoHoleInSet}
use Rattle.cc_core.specs.Substitution.{filled_set}
use Rattle.cc_core.specs.WellFormed.{IsWellFormedContext, IsWellFormedSet}
use Rattle.cc_checking.specs.Comparison.{Demand}
use Rattle.cc_checking.specs.Fillings.{Filling, filled_context, IsOverGlobals}
use Rattle.cc_checking.specs.Outcomes.{IsBelow}
use Rattle.cc_checking_laws.specs.FillingLaws.{AreGlobals, IsFit}
use Rattle.cc_captured_reasons.specs.Nearness.{HasNoHoleInSets}

-- the context and the set are well formed, and no hole is left in the set nor in a declared set
pub record IsFilledScene (context : Context) (left : Set) : Type 0 where
  pub formed : IsWellFormedContext context
  pub closed : HasNoHoleInSets context
  pub left_formed : IsWellFormedSet context left
  pub left_closed : HasNoHoleInSet left

-- what is fit has such a context and such a left set under each filling over the globals
abbrev pub FilledDemandsAreScenes : Type 0
FilledDemandsAreScenes =
    (globals : Context) (filling : Filling) (demand : Demand)
    → AreGlobals globals → IsOverGlobals (length globals) filling → IsFit globals (IsBelow demand)
    → IsFilledScene (filled_context filling demand.context) (filled_set filling demand.left)
