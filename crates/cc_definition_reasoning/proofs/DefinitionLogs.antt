-- The rows of any definition that is explained are what explains it.
use Rattle.std.proofs.Common.{◌≡◌, ℕ, Bool, true, false, cond, List, [], Option, Some, None, refl}
use Rattle.cc_base.specs.declared.code.Code.TheVariants.{E17}
use Rattle.cc_base.specs.declared.place.Place.{Place}
use Rattle.cc_core.specs.Contexts.{Context}
use Rattle.cc_core.specs.Shapes.{capturing}
use Rattle.cc_core.specs.Terms.{Note, Absent, Written, Own}
use Rattle.cc_checking.specs.Outcomes.{found_or}
use Rattle.cc_checking.specs.Verdicts.{Definition, signature_of}
use Rattle.cc_type.specs.Rows.{ways}
use Rattle.cc_reasons.specs.Causes.{Cause, Located, Explained, NoAnswer, Refused, Found, asked_before, ◌>>=◌, because}
use Rattle.cc_reasons.specs.DefinitionReasons.{unsigned_cause, explained_plain, explained_recursion, explained_recursive}
use Rattle.cc_reasons.specs.DefinitionReasons.{explained_definition}
use Rattle.cc_reasons.specs.ExplainedInference.{BinderNames}
use Rattle.cc_reasoning.specs.LocatedLogs.{after}
use Rattle.cc_definition_reasoning.specs.ExplainedDefinitions.{plainly, recursive_log, definition_log}

-- nothing was asked before
nothing_before : {A : Type 0} (log : List Located) (o : Explained A) → after log o ≡ after log (asked_before [] o)
nothing_before log NoAnswer = refl
nothing_before log (Refused cause at) = refl
nothing_before log (Found value asked) = refl

-- a step that finds a value or is refused asks nothing
option_first : {A B : Type 0} (log : List Located) (cause : Cause) (at : Place) (o : Option A) (next : A → Explained B)
    → plainly (because cause [] (found_or E17 at o)) (λ a. after log (next a))
    ≡ after log (◌>>=◌ (because cause [] (found_or E17 at o)) next)
unfolding ◌>>=◌
option_first log cause at (Some a) next = nothing_before log (next a)
option_first log cause at None next = refl

recursive_logs : (devices : ℕ) (globals : Context) (definition : Definition) (names : BinderNames) (note : Note)
    (log : List Located)
    → recursive_log devices globals definition names note log
    ≡ after log (explained_recursive ways devices globals definition names note)
recursive_logs devices globals definition names (Written shape set) log =
    option_first log (unsigned_cause globals (capturing shape set)) definition.name_at
    (signature_of devices globals (capturing shape set))
    (λ signature. explained_recursion ways globals definition names signature)
recursive_logs devices globals definition names Absent log = refl
recursive_logs devices globals definition names (Own shape) log = refl

pub definition_logs : (devices : ℕ) (globals : Context) (definition : Definition) (names : BinderNames) (log : List Located)
    → definition_log devices globals definition names log
    ≡ after log (explained_definition ways devices globals definition names)
definition_logs devices globals definition names log = by_kind definition.recursive
  where
    by_kind : (b : Bool)
        → cond b (recursive_log devices globals definition names definition.note log)
        (after log (explained_plain ways globals definition names))
        ≡ after log
        (cond b (explained_recursive ways devices globals definition names definition.note)
        (explained_plain ways globals definition names))
    by_kind true = recursive_logs devices globals definition names definition.note log
    by_kind false = refl
