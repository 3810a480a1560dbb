-- The rows of a definition that is explained are what explains it.
use Rattle.std.proofs.Common.{◌≡◌, List, ◌∷◌, length, refl, ap, ◌∙◌}
use Rattle.cc_core.specs.Contexts.{Context, entry_of}
use Rattle.cc_core.specs.Places.{spots}
use Rattle.cc_core.specs.Shapes.{CapturingType}
use Rattle.cc_checking.specs.Verdicts.{Definition}
use Rattle.cc_type.specs.Rows.{ways}
use Rattle.cc_reasons.specs.Causes.{Located, Scene}
use Rattle.cc_reasons.specs.DefinitionReasons.{outermost, explained_plain, explained_recursion}
use Rattle.cc_reasons.specs.ExplainedInference.{BinderNames, explained, explained_below, explained_note}
use Rattle.cc_reasoning.specs.LocatedLogs.{after}
use Rattle.cc_definition_reasoning.specs.ExplainedDefinitions.{plain_log, recursion_log}
use Rattle.cc_reasoning.proofs.ExplainedLogs.{joined}

outermost_logs : (globals : Context) (definition : Definition) (names : BinderNames) (log : List Located)
    → plain_log (outermost globals) definition names log ≡ after log (explained_plain ways globals definition names)
outermost_logs globals definition names log =
    let right = explained ways (length globals) (outermost globals) definition.right definition.places names in
    joined log (after log right) _ right _ refl
    (λ found l. joined l
    (after l
    (explained_note ways (length globals) (spots definition.places).at (outermost globals) definition.note found.type)) _
    (explained_note ways (length globals) (spots definition.places).at (outermost globals) definition.note found.type) _
    refl (λ named k. refl))

pub plain_logs : (scene : Scene) (definition : Definition) (names : BinderNames) (log : List Located)
    → scene ≡ outermost scene.context
    → plain_log scene definition names log ≡ after log (explained_plain ways scene.context definition names)
plain_logs scene definition names log outer =
    ap (λ s. plain_log s definition names log) outer ∙ outermost_logs scene.context definition names log

-- the same where the definition's own name is visible
own_logs : (globals : Context) (definition : Definition) (names : BinderNames) (signature : CapturingType)
    (log : List Located)
    → recursion_log (outermost (entry_of signature ∷ globals)) definition names signature log
    ≡ after log (explained_recursion ways globals definition names signature)
own_logs globals definition names signature log =
    let scene = outermost (entry_of signature ∷ globals) in
    let right = explained ways (length scene.context) scene definition.right definition.places names in
    joined log (after log right) _ right _ refl
    (λ found l. joined l
    (after l (explained_below ways (spots definition.places).at scene found.type signature)) _
    (explained_below ways (spots definition.places).at scene found.type signature) _
    refl (λ done k. refl))

pub recursion_logs : (scene : Scene) (globals : Context) (definition : Definition) (names : BinderNames)
    (signature : CapturingType) (log : List Located)
    → scene ≡ outermost (entry_of signature ∷ globals)
    → recursion_log scene definition names signature log
    ≡ after log (explained_recursion ways globals definition names signature)
recursion_logs scene globals definition names signature log outer =
    ap (λ s. recursion_log s definition names signature log) outer
    ∙ own_logs globals definition names signature log
