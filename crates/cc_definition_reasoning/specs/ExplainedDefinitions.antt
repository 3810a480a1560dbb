-- What is found for a definition that is explained, as the program goes through it. This serves proofs alone.
use Rattle.std.specs.Prelude.{ℕ, List, [], length, Some, None, if◌then◌else◌}
use Rattle.std.specs.Option.{option_map}
use Rattle.cc_base.specs.declared.code.Code.TheVariants.{E17}
use Rattle.cc_core.specs.Contexts.{Context}
use Rattle.cc_core.specs.Places.{spots}
use Rattle.cc_core.specs.Shapes.{CapturingType, capturing}
use Rattle.cc_core.specs.Terms.{Note, Absent, Written, Own}
use Rattle.cc_core.specs.TermViews.{type_of, note_of, term_of}
use Rattle.cc_checking.specs.Outcomes.{found_or}
use Rattle.cc_checking.specs.Verdicts.{Definition, Checking, checking, signature_of}
use Rattle.cc_type.specs.Rows.{ways}
use Rattle.cc_reasons.specs.Causes.{Located, Scene, NothingThere, Explained, NoAnswer, Refused, Found, because}
use Rattle.cc_reasons.specs.DefinitionReasons.{unsigned_cause, explained_plain, explained_recursion}
use Rattle.cc_reasons.specs.ExplainedInference.{BinderNames, explained, explained_below, explained_note}
use Rattle.cc_definition_reasoning.specs.declared.definitions.Checking.{Checking as DeclaredChecking}
use Rattle.cc_reasoning.specs.LocatedLogs.{Reached, Lost, Stopped, Got, after, followed}

-- what is found for it, before any hole is filled
abbrev pub checking_of : DeclaredChecking → Checking
checking_of found =
    checking (note_of found.note) (term_of found.completed.value) (type_of found.ty) (option_map type_of found.settled)

-- a definition whose own name is not visible
abbrev pub plain_log : Scene → Definition → BinderNames → List Located → Reached Checking
plain_log scene definition names log =
    followed
    (after log (explained ways (length scene.context) scene definition.right definition.places names))
    λ found log.
    followed
    (after log
    (explained_note ways (length scene.context) (spots definition.places).at scene definition.note found.type))
    λ named log.
    Got (checking named.note found.completed named.type None) log

-- a right side below its signature, in the scene that has the definition's own name
abbrev pub recursion_log :
    Scene → Definition → BinderNames → CapturingType → List Located → Reached Checking
recursion_log scene definition names signature log =
    followed
    (after log (explained ways (length scene.context) scene definition.right definition.places names))
    λ found log.
    followed (after log (explained_below ways (spots definition.places).at scene found.type signature))
    λ done log.
    Got (checking (Written signature.shape signature.set) found.completed signature (Some signature)) log

-- a step that asks nothing, and then others for its value
abbrev pub plainly : {A B : Type 0} → Explained A → (A → Reached B) → Reached B
plainly NoAnswer next = Lost
plainly (Refused cause at) next = Stopped cause at
plainly (Found value asked) next = next value

-- a recursive definition, of which this is written
abbrev pub recursive_log : ℕ → Context → Definition → BinderNames → Note → List Located → Reached Checking
recursive_log devices globals definition names (Written shape set) log =
    plainly
    (because (unsigned_cause globals (capturing shape set)) []
    (found_or E17 definition.name_at (signature_of devices globals (capturing shape set))))
    λ signature. after log (explained_recursion ways globals definition names signature)
recursive_log devices globals definition names Absent log = Stopped NothingThere definition.name_at
recursive_log devices globals definition names (Own shape) log = Stopped NothingThere definition.name_at

-- any definition
abbrev pub definition_log : ℕ → Context → Definition → BinderNames → List Located → Reached Checking
definition_log devices globals definition names log =
    if definition.recursive
    then recursive_log devices globals definition names definition.note log
    else after log (explained_plain ways globals definition names)
