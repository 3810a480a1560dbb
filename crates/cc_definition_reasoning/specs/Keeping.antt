-- What is kept of all that is asked for a definition, each with the local variables where it is asked. This serves proofs
-- alone.
use Rattle.std.specs.Prelude.{◌≡◌, ◌≢◌, ℕ, List, [], take, slice_get, Option, Some, None}
use Rattle.cc_capture.specs.Sets.{Set}
use Rattle.cc_core.specs.Actions.{filled_by}
use Rattle.cc_core.specs.Contexts.{Context}
use Rattle.cc_core.specs.Shapes.{CapturingType}
use Rattle.cc_core.specs.Substitution.{filled_type}
use Rattle.cc_checking.specs.Fillings.{Filling, AllServed, IsServed}
use Rattle.cc_checking.specs.Outcomes.{Placed}
use Rattle.cc_checking.specs.Verdicts.{Definition, Checking, signature_of, signature_under}
use Rattle.cc_subty.specs.declared.demands.Demand.{Demand as DeclaredDemand}
use Rattle.cc_subty.specs.Demands.{asked_of, demand_of}
use Rattle.cc_type.specs.Rows.{ways}
use Rattle.cc_reasons.specs.Causes.{Local, Located, Found}
use Rattle.cc_reasons.specs.DefinitionReasons.{unsigned_cause, explained_definition}
use Rattle.cc_reasons.specs.ExplainedInference.{BinderNames}
use Rattle.cc_reasoning.specs.LocatedLogs.{keeping, beside}
use Rattle.cc_causes.specs.Views.{cause_of}
use Rattle.cc_causes.specs.declared.reason.Cause.{Cause}

-- this is found for the definition, and this is kept of what is asked, with these local variables
abbrev pub Keeps : ℕ → Context → Definition → BinderNames → Checking → List Placed → List (List Local) → Type 0
Keeps devices globals definition names found kept locals =
    (asked : List Located) × (explained_definition ways devices globals definition names ≡ Found found asked)
    × (beside kept locals ≡ keeping [] asked)

-- the one at the place is the first of what is asked that the filling does not serve
abbrev pub FailsAt : Filling → List DeclaredDemand → ℕ → Type 0
FailsAt filling demands place =
    (failing : DeclaredDemand) × (slice_get demands place ≡ Some failing)
    × AllServed filling (asked_of (take place demands)) × (IsServed filling (demand_of failing).asked → ⊥)

-- a type has no signature for this cause; where none is told, it has one
abbrev pub IsUnsignedType : ℕ → Context → CapturingType → Option Cause → Type 0
IsUnsignedType devices globals type None = signature_of devices globals type ≢ None
IsUnsignedType devices globals type (Some cause) =
    (signature_of devices globals type ≡ None) × (cause_of cause ≡ unsigned_cause globals type)

-- the same of what is found, where a list of sets fills the holes
abbrev pub IsUnsigned : ℕ → Context → List Set → Checking → Option Cause → Type 0
IsUnsigned devices globals sets found None = signature_under (filled_by sets) devices globals found ≢ None
IsUnsigned devices globals sets found (Some cause) =
    (signature_under (filled_by sets) devices globals found ≡ None)
    × (cause_of cause ≡ unsigned_cause globals (filled_type (filled_by sets) found.type))
