-- The certificate of an accepted definition: of its filled right side, with the canonical derivation.
use Rattle.std.specs.Prelude.{ℕ, List}
use Rattle.cc_core.specs.Contexts.{Context}
use Rattle.cc_checking.specs.Verdicts.{Accepted}
use Rattle.cc_checking_laws.specs.AcceptedDefinitions.{accepted_derived}
use Rattle.cc_certificate_writing.specs.Certificates.{certificate_lines, certificate_text}

-- its lines, where the positions of the context of the right side have these names
abbrev pub definition_certificate_lines : List (List ℕ) → Context → Accepted → List (List ℕ)
definition_certificate_lines names context accepted =
    certificate_lines names context accepted.filled (accepted_derived context accepted)

-- its text
abbrev pub definition_certificate : List (List ℕ) → Context → Accepted → List ℕ
definition_certificate names context accepted =
    certificate_text names context accepted.filled (accepted_derived context accepted)
