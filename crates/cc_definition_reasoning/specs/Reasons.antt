-- What the program answers where it is asked why a definition is refused.
use Rattle.std.specs.Prelude.{◌≡◌, ℕ, List, slice_get, Option, Some, None, Result, Ok, Err}
use Rattle.std.specs.declared.alloc.AllocError.{AllocError}
use Rattle.cc_base.specs.declared.place.Place.{Place}
use Rattle.cc_capture.specs.Sets.{Set}
use Rattle.cc_core.specs.Contexts.{Context}
use Rattle.cc_checking.specs.Fillings.{filled_context}
use Rattle.cc_checking.specs.Verdicts.{Definition}
use Rattle.cc_solve.specs.Solutions.{filling_of}
use Rattle.cc_subty.specs.declared.demands.Demand.{Demand as DeclaredDemand}
use Rattle.cc_subty.specs.Demands.{demand_of}
use Rattle.cc_reasons.specs.Causes.{Local, Scene}
use Rattle.cc_reasons.specs.DefinitionReasons.{DefinitionReason, OfStep, NotBelow, WithCap, unserved, HasReason}
use Rattle.cc_reasons.specs.ExplainedInference.{BinderNames}
use Rattle.cc_causes.specs.declared.reason.Halt.{Halt}
use Rattle.cc_causes.specs.declared.reason.Halt.TheVariants as halts
use Rattle.cc_causes.specs.Views.{locals_of, scene_of, cause_of}
use Rattle.cc_definition_reasoning.specs.declared.reason.DefinitionReason.{DefinitionReason as DeclaredReason}
use Rattle.cc_definition_reasoning.specs.declared.reason.DefinitionReason.TheVariants as reasons
use Rattle.cc_definition_reasoning.specs.declared.reason.Reasoned.{Reasoned}

-- the scene with the holes of its context filled by the list of sets
abbrev pub filled_scene : List Set → Scene → Scene
filled_scene sets scene =
    record { context = filled_context (filling_of sets) scene.context; locals = scene.locals }

-- why a definition is refused
abbrev pub reason_of : DeclaredReason → DefinitionReason
reason_of (reasons.OfStep cause) = OfStep (cause_of cause.value)
reason_of (reasons.NotBelow scene filling left right) = NotBelow (filled_scene filling (scene_of scene)) left right
reason_of (reasons.WithCap locals set) = WithCap (locals_of locals.value) set

-- The answer is why the definition is refused and where; there is none where it has no reason to be refused.
abbrev pub IsAnswered : ℕ → Context → Definition → BinderNames → Option Reasoned → Type 0
IsAnswered devices globals definition names None =
    (reason : DefinitionReason) (at : Place) → HasReason devices globals definition names reason at → ⊥
IsAnswered devices globals definition names (Some found) =
    HasReason devices globals definition names (reason_of found.reason) found.at

-- The answer is why the filling does not serve the one of what is asked that stands at the place, and where that is asked. It
-- serves the code alone.
abbrev pub IsUnservedAt : List Set → List DeclaredDemand → List (List Local) → ℕ → Reasoned → Type 0
IsUnservedAt sets demands locals place found =
    (one : DeclaredDemand) (here : List Local) → slice_get demands place ≡ Some one → slice_get locals place ≡ Some here
    → (reason_of found.reason ≡ unserved (filling_of sets) here (demand_of one).asked) × (found.at ≡ (demand_of one).at)

-- The answer is the cause where a step is refused, and where. It serves the code alone.
abbrev pub IsRefusal : Halt → Result (Option Reasoned) AllocError → Type 0
IsRefusal (halts.Refused cause at) (Ok (Some found)) =
    (reason_of found.reason ≡ OfStep (cause_of cause.value)) × (found.at ≡ at)
IsRefusal (halts.Refused cause at) (Ok None) = ⊥
IsRefusal halts.NoMemory (Ok found) = ⊥
IsRefusal halt (Err error) = Unit {0}
