-- Why a definition is refused, with the local variables as its author knows them.
use Rattle.std.specs.Prelude.{◌≡◌, ◌⊎◌, ℕ, suc, List, [], ◌∷◌, ◌++◌, map, length, Option, Some, None, if◌then◌else◌}
use Rattle.cc_base.specs.declared.code.Code.{Code}
use Rattle.cc_base.specs.declared.code.Code.TheVariants.{E15, E16, E17}
use Rattle.cc_base.specs.declared.place.Place.{Place}
use Rattle.cc_capture.specs.Sets.{Set}
use Rattle.cc_core.specs.Shapes.{CapturingType, capturing}
use Rattle.cc_core.specs.Terms.{Note, Absent, Written, Own}
use Rattle.cc_core.specs.Contexts.{Context, entry_of}
use Rattle.cc_core.specs.Places.{spots}
use Rattle.cc_core.specs.Substitution.{filled_set, filled_type}
use Rattle.cc_checking.specs.Avoidance.{Positive, avoided_type}
use Rattle.cc_checking.specs.Fillings.{Filling, IsServed, AllServed, IsLeast, filled_context}
use Rattle.cc_checking.specs.Inference.{Ways, limited}
use Rattle.cc_checking.specs.Outcomes.{Asked, IsBelow, IsCapless, Placed, found_or}
use Rattle.cc_checking.specs.Verdicts.{Definition, Checking, checking, declared_set, signature_of, signature_under}
use Rattle.cc_reasons.specs.Causes.{Local, Scene, Cause, NothingThere, Unavoidable, code_of, Located, Explained}
use Rattle.cc_reasons.specs.Causes.{NoAnswer, Refused, Found, finds, ◌>>=◌, ◌>>◌, because}
use Rattle.cc_reasons.specs.ExplainedInference.{BinderNames, explained, explained_below, explained_note}

-- the scene of globals, where no binder is around
abbrev pub outermost : Context → Scene
outermost globals = record { context = globals; locals = [] }

-- the cause where a type is none, or else what is told of it
abbrev pub none_or : Option CapturingType → Cause → (CapturingType → Cause) → Cause
none_or None cause tells = cause
none_or (Some type) cause tells = tells type

-- Why a type has no signature, which stands in the whole of the globals, where those behind these are avoided: of these the
-- newest that cannot be avoided in what is left of the type.
abbrev pub unsigned_among : Context → Context → CapturingType → Cause
unsigned_among globals [] type = Unavoidable (outermost globals) 0 type
unsigned_among globals (newest ∷ older) type =
    none_or (avoided_type Positive (length older) (declared_set newest) type)
    (Unavoidable (outermost globals) (length older) type)
    (λ rest. unsigned_among globals older rest)

-- why a type has no signature: of the imports and definitions, the newest that cannot be avoided
abbrev pub unsigned_cause : Context → CapturingType → Cause
unsigned_cause globals type = unsigned_among globals globals type

-- a definition whose own name is not visible
abbrev pub explained_plain : Ways → Context → Definition → BinderNames → Explained Checking
explained_plain ways globals definition names = do
  found ← explained ways (length globals) (outermost globals) definition.right definition.places names
  named ← explained_note ways (length globals) (spots definition.places).at (outermost globals) definition.note found.type
  finds (checking named.note found.completed named.type None)

-- a right side below its signature, where the name has the signature's type
abbrev pub explained_recursion : Ways → Context → Definition → BinderNames → CapturingType → Explained Checking
explained_recursion ways globals definition names signature = do
  found ← explained ways (suc (length globals)) (outermost (entry_of signature ∷ globals)) definition.right
      definition.places names
  explained_below ways (spots definition.places).at (outermost (entry_of signature ∷ globals)) found.type signature
  finds (checking (Written signature.shape signature.set) found.completed signature (Some signature))

-- a recursive definition, of which this is written
abbrev pub explained_recursive : Ways → ℕ → Context → Definition → BinderNames → Note → Explained Checking
explained_recursive ways devices globals definition names (Written shape set) = do
  signature ← because (unsigned_cause globals (capturing shape set)) []
      (found_or E17 definition.name_at (signature_of devices globals (capturing shape set)))
  explained_recursion ways globals definition names signature
explained_recursive ways devices globals definition names Absent = Refused NothingThere definition.name_at
explained_recursive ways devices globals definition names (Own shape) = Refused NothingThere definition.name_at

-- what is found for a definition, before any hole is filled, or why it is refused
abbrev pub explained_definition : Ways → ℕ → Context → Definition → BinderNames → Explained Checking
explained_definition ways devices globals definition names =
    if definition.recursive
    then explained_recursive ways devices globals definition names definition.note
    else explained_plain ways globals definition names

-- Why a definition is refused: a step is; or under the least filling a set is not below another in a scene; or a set has the
-- universal capability.
pub data DefinitionReason : Type 0 where
  OfStep : (cause : Cause) → DefinitionReason
  NotBelow : (scene : Scene) (left right : Set) → DefinitionReason
  WithCap : (locals : List Local) (set : Set) → DefinitionReason

-- the code of a refusal for the reason
abbrev pub code_of_reason : DefinitionReason → Code
code_of_reason (OfStep cause) = code_of cause
code_of_reason (NotBelow scene left right) = E15
code_of_reason (WithCap locals set) = E16

-- the reason where the filling does not serve what is asked
abbrev pub unserved : Filling → List Local → Asked → DefinitionReason
unserved filling locals (IsBelow demand) =
    NotBelow (record { context = filled_context filling demand.context; locals = locals })
    (filled_set filling demand.left) (filled_set filling demand.right)
unserved filling locals (IsCapless set) = WithCap locals (filled_set filling set)

-- what is asked, without the local variables
abbrev pub placed_of : List Located → List Placed
placed_of asked = map (λ one. one.placed) asked

-- This is the first that the filling does not serve.
pub record FailsFirstAs (filling : Filling) (asked : List Located) (failing : Located) : Type 0 where
  pub before : List Located
  pub after : List Located
  pub stands : asked ≡ before ++ failing ∷ after
  pub served : AllServed filling (placed_of before)
  pub fails : IsServed filling failing.placed.asked → ⊥

-- The reason for what is found, and its place: that of a refusal; else that of the first that the least filling does not
-- serve; and if it serves all, that there is no signature.
abbrev pub Tells : ℕ → Context → Definition → Explained Checking → DefinitionReason → Place → Type 0
Tells devices globals definition NoAnswer reason at = ⊥
Tells devices globals definition (Refused cause place) reason at = (reason ≡ OfStep cause) × (at ≡ place)
Tells devices globals definition (Found found asked) reason at =
    (filling : Filling) × IsLeast (length globals) (placed_of asked) filling
    × (((failing : Located) × FailsFirstAs filling asked failing
    × (reason ≡ unserved filling failing.locals failing.placed.asked) × (at ≡ failing.placed.at))
    ⊎ (AllServed filling (placed_of asked) × (signature_under filling devices globals found ≡ None)
    × (reason ≡ OfStep (unsigned_cause globals (filled_type filling found.type))) × (at ≡ definition.name_at)))

-- the definition is refused for this reason, at this place
abbrev pub HasReason : ℕ → Context → Definition → BinderNames → DefinitionReason → Place → Type 0
HasReason devices globals definition names reason at =
    (steps : ℕ) × Tells devices globals definition (explained_definition (limited steps) devices globals definition names)
    reason at
