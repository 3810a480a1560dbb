-- Typing is kept along each map of contexts.
use Rattle.std.specs.Prelude.{ℕ, zero}
use Rattle.cc_core.specs.Shapes.{Shape, CapturingType}
use Rattle.cc_core.specs.Terms.{Term}
use Rattle.cc_core.specs.Contexts.{Context}
use Rattle.cc_core.specs.Traversal.{act_type, act_term}
use Rattle.cc_core.specs.Substitution.{freely, renaming}
use Rattle.cc_core.specs.WellFormed.{IsWellFormedContext}
use Rattle.cc_core.specs.Typing.{HasType}
use Rattle.cc_typing_laws.specs.ContextMaps.{RenamesEntries, IsContextMap}

-- What is typed becomes what is typed in the well-formed context that the map goes into.
abbrev pub TypingAlongMaps : Type 0
TypingAlongMaps =
    (source target : Context) (to : ℕ → ℕ) (shapes : ℕ → Shape) → IsContextMap source target to shapes
    → IsWellFormedContext target
    → (term : Term) (type : CapturingType) → HasType source term type
    → HasType target (act_term (freely to shapes) zero term) (act_type (freely to shapes) zero type)

-- renamed, where each entry is found, renamed, at its new position
abbrev pub TypingRenames : Type 0
TypingRenames =
    (source target : Context) (to : ℕ → ℕ)
    → RenamesEntries source target to
    → IsWellFormedContext target
    → (term : Term) (type : CapturingType) → HasType source term type
    → HasType target (act_term (renaming to) zero term) (act_type (renaming to) zero type)
