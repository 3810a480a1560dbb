-- Inference repeated: the completed and filled term is inferred once more.
use Rattle.std.specs.Prelude.{◌≡◌, ℕ, List, [], ◌∷◌, ◌++◌, length, IsTrue}
use Rattle.cc_core.specs.Terms.{Term}
use Rattle.cc_core.specs.Contexts.{Context}
use Rattle.cc_core.specs.Places.{Places}
use Rattle.cc_core.specs.Subcapturing.{SubcapturesSet}
use Rattle.cc_core.specs.Substitution.{filled_type, filled_term}
use Rattle.cc_core.specs.Typing.{HasNoCap}
use Rattle.cc_core.specs.WellFormed.{kinds_of, is_well_formed_term, IsWellFormedContext}
use Rattle.cc_checking.specs.Outcomes.{Asked, IsBelow, IsCapless, Placed, Found}
use Rattle.cc_checking.specs.Inference.{Result, result, unlimited, inferred, Infers}
use Rattle.cc_checking.specs.Fillings.{Filling, filled_context, AllServed, IsOverGlobals}
use Rattle.cc_checking_laws.specs.FillingLaws.{AreGlobals}

-- what is asked holds as it stands
abbrev pub Holds : Asked → Type 0
Holds (IsBelow demand) = SubcapturesSet demand.context demand.left demand.right
Holds (IsCapless set) = HasNoCap set

-- all that is asked does
abbrev pub AllHold : List Placed → Type 0
AllHold [] = Unit {0}
AllHold (first ∷ rest) = Holds first.asked × AllHold rest

-- Where a filling over the globals serves all that is asked of a term, the completed term with its holes filled is
-- inferred again in the filled context: its type is the filled one, nothing more is put in, and all that is then asked
-- holds. Its types may be larger than those before, so no size is tested. The globals are at the bottom of the context,
-- which for a recursive definition has its own name besides.
abbrev pub FilledTermsAreInferredAgain : Type 0
FilledTermsAreInferredAgain =
    (globals own : Context) (term : Term) (places places' : Places) (found : Result) (asked : List Placed)
    (filling : Filling)
    → AreGlobals globals → IsWellFormedContext (own ++ globals)
    → IsTrue (is_well_formed_term (kinds_of (own ++ globals)) [] term)
    → Infers (length (own ++ globals)) (own ++ globals) term places (Found found asked)
    → IsOverGlobals (length globals) filling → AllServed filling asked
    → (steps : ℕ) × (again : List Placed)
    × (inferred (unlimited steps) (length (own ++ globals)) (filled_context filling (own ++ globals))
    (filled_term filling found.completed) places'
    ≡ Found (result (filled_type filling found.type) (filled_term filling found.completed)) again)
    × AllHold again
