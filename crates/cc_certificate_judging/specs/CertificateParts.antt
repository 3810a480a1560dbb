-- The parts of a certificate: its binds, its term and its nodes.
use Rattle.std.specs.Prelude.{ℕ, List, [], ◌∷◌, ◌++◌, map}
use Rattle.cc_core.specs.Shapes.{CapturingType}
use Rattle.cc_core.specs.Terms.{Term}
use Rattle.cc_core.specs.Contexts.{Context}
use Rattle.cc_certificate_text.specs.Certificates.{CertificateNode, Line, Opens, Binds, States, Concludes}
use Rattle.cc_certificate_judging.specs.Judging.{with_binds}

-- a bind: its name and its type
abbrev pub CertificateBind : Type 0
CertificateBind = List ℕ × CapturingType

abbrev pub bind_line : CertificateBind → Line
bind_line bind = Binds bind.0 bind.1

-- the lines of a certificate with these binds, the oldest first, this term and these nodes
abbrev pub parts_lines : List CertificateBind → Term → List CertificateNode → List Line
parts_lines binds term nodes = Opens ∷ (map bind_line binds ++ States term ∷ map Concludes nodes)

-- the context of the binds
abbrev pub bound_context : List CertificateBind → Context
bound_context binds = with_binds [] (map (λ bind. bind.1) binds)

-- the names of the binds
abbrev pub bound_names : List CertificateBind → List (List ℕ)
bound_names binds = map (λ bind. bind.0) binds
