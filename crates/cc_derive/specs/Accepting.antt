-- When a definition is accepted in a context, and its canonical derivation there.
use Rattle.std.specs.Prelude.{◌≡◌, ℕ}
use Rattle.cc_core.specs.declared.terms.Checked.{Checked}
use Rattle.cc_core.specs.Contexts.{Context}
use Rattle.cc_core.specs.Derivations.{Derivation}
use Rattle.cc_core.specs.TermViews.{type_of, note_of, term_of}
use Rattle.cc_checking.specs.CanonicalDerivations.{canonical_shapes, definition_derived}
use Rattle.cc_checking.specs.Verdicts.{Definition, IsAccepted, HasVerdict}
use Rattle.cc_checking_laws.specs.CheckingLaws.{Fits}
use Rattle.cc_checking_laws.specs.AcceptedDefinitions.{definition_context}

-- This is what some definition that fits some globals is accepted with, for some number of devices, and the context is
-- that of its right side: the globals, and its own name with its signature where it is recursive.
pub record IsAcceptedIn (context : Context) (checked : Checked) : Type 0 where
  pub devices : ℕ
  pub globals : Context
  pub definition : Definition
  pub fits : Fits globals definition
  pub accepted : HasVerdict devices globals definition
      (IsAccepted
      (record {
        note = note_of checked.note;
        filled = term_of checked.filled.value;
        type = type_of checked.ty;
        signature = type_of checked.sig;
      }))
  pub is : context ≡ definition_context globals definition (type_of checked.sig)

-- the canonical derivation of the filled right side, up to the type that others see
abbrev pub checked_derived : Context → Checked → Derivation
checked_derived context checked =
    definition_derived canonical_shapes context (note_of checked.note) (term_of checked.filled.value) (type_of checked.sig)
