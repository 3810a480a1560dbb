-- Accepted definitions: the contexts of their right sides, and their canonical derivations.
use Rattle.std.specs.Prelude.{◌∷◌, if◌then◌else◌}
use Rattle.cc_core.specs.Shapes.{CapturingType}
use Rattle.cc_core.specs.Contexts.{Context, entry_of}
use Rattle.cc_core.specs.Derivations.{Derivation}
use Rattle.cc_checking.specs.Verdicts.{Definition, Accepted}
use Rattle.cc_checking.specs.CanonicalDerivations.{canonical_shapes, noted_derived, term_derived, definition_derived}

-- the context of a definition's right side: the globals, and its own name with its signature where it is recursive
abbrev pub definition_context : Context → Definition → CapturingType → Context
definition_context globals definition signature =
    if definition.recursive then entry_of signature ∷ globals else globals

-- the canonical derivation of an accepted definition's right side, up to the type that was found or written
abbrev pub right_side_derived : Context → Accepted → Derivation
right_side_derived context accepted =
    noted_derived canonical_shapes context accepted.note (term_derived canonical_shapes context accepted.filled)

-- and up to the type that others see
abbrev pub accepted_derived : Context → Accepted → Derivation
accepted_derived context accepted =
    definition_derived canonical_shapes context accepted.note accepted.filled accepted.signature
