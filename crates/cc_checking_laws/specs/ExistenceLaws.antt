-- What is well formed has an outcome, a least filling and a verdict.
use Rattle.std.specs.Prelude.{ℕ, List, [], length, IsTrue}
use Rattle.cc_core.specs.Terms.{Term}
use Rattle.cc_core.specs.Contexts.{Context}
use Rattle.cc_core.specs.Places.{Places}
use Rattle.cc_core.specs.WellFormed.{kinds_of, is_well_formed_term, IsWellFormedContext}
use Rattle.cc_checking.specs.Outcomes.{Outcome, Placed}
use Rattle.cc_checking.specs.Inference.{Result, Infers}
use Rattle.cc_checking.specs.Fillings.{Filling, IsLeast}
use Rattle.cc_checking.specs.Verdicts.{Definition, Checking, Verdict, IsChecked, HasVerdict}
use Rattle.cc_core.specs.Holes.{HolesAreOfParameters}
use Rattle.cc_checking_laws.specs.FillingLaws.{AreFit}
use Rattle.cc_checking_laws.specs.CheckingLaws.{Fits}

-- inference of a well-formed term ends
abbrev pub WellFormedTermsHaveAnOutcome : Type 0
WellFormedTermsHaveAnOutcome =
    (context : Context) (term : Term) (places : Places) → IsWellFormedContext context
    → IsTrue (is_well_formed_term (kinds_of context) [] term)
    → (outcome : Outcome Result) × Infers (length context) context term places outcome

-- so does the checking of a definition, recursive or not
abbrev pub WellFormedDefinitionsAreChecked : Type 0
WellFormedDefinitionsAreChecked =
    (devices : ℕ) (globals : Context) (definition : Definition) → Fits globals definition
    → (outcome : Outcome Checking) × IsChecked devices globals definition outcome

-- what is fit for a filling has a least one
abbrev pub LeastFillingsExist : Type 0
LeastFillingsExist =
    (globals : Context) (list : List Placed) → AreFit globals list
    → (least : Filling) × IsLeast (length globals) list least

-- so a well-formed definition has a verdict
abbrev pub WellFormedDefinitionsHaveAVerdict : Type 0
WellFormedDefinitionsHaveAVerdict =
    (devices : ℕ) (globals : Context) (definition : Definition) → Fits globals definition
    → HolesAreOfParameters definition.right → (verdict : Verdict) × HasVerdict devices globals definition verdict
