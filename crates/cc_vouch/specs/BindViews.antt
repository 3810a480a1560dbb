-- Binds of the program as plain ones, and how far a walk over them has come. It serves the code alone.
use Rattle.std.specs.Prelude.{◌≡◌, ℕ, ◌+◌, List, [], map, Option}
use Rattle.std.specs.Option.{option_map}
use Rattle.cc_core.specs.Contexts.{Context}
use Rattle.cc_core.specs.Shapes.{CapturingType}
use Rattle.cc_core.specs.TermViews.{type_of}
use Rattle.cc_core.specs.declared.types.Ty.{Ty}
use Rattle.cc_checking.specs.Verdicts.{signature_of}
use Rattle.cc_certificate_judging.specs.CertificateParts.{CertificateBind, bound_context}
use Rattle.cc_vouching.specs.VouchedDefinitions.{first_difference}

-- a bind of the program
abbrev pub bind_of : List ℕ × Ty → CertificateBind
bind_of bind = (bind.0, type_of bind.1)

-- the binds, and the context of them
abbrev pub binds_of : List (List ℕ × Ty) → List CertificateBind
binds_of binds = map bind_of binds

abbrev pub context_of : List (List ℕ × Ty) → Context
context_of binds = bound_context (binds_of binds)

-- The type has in the context of these binds the signature that the other one has in that of those.
abbrev pub SignsAs : ℕ → List (List ℕ × Ty) → CapturingType → List (List ℕ × Ty) → CapturingType → Type 0
SignsAs devices rest type binds other =
    signature_of devices (context_of rest) type ≡ signature_of devices (context_of binds) other

-- the number of a difference behind so many binds
abbrev pub behind : ℕ → Option ℕ → Option ℕ
behind count difference = option_map (λ number. count + number) difference

-- The first difference of the whole lists is that of what is left of them behind so many binds.
abbrev pub DiffersAs : ℕ → List (List ℕ × Ty) → List (List ℕ × Ty) → List (List ℕ × Ty) → List (List ℕ × Ty) → Type 0
DiffersAs count ones others binds known =
    behind count (first_difference (binds_of ones) (binds_of others))
    ≡ first_difference (binds_of binds) (binds_of known)
