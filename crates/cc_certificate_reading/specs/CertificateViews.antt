-- The plain values that the program's values stand for.
use Rattle.std.specs.Prelude.{ℕ, List, ◌∷◌, ◌++◌, map, Option, Result, Ok, Err}
use Rattle.cc_core.specs.declared.types.Ty.{Ty}
use Rattle.cc_core.specs.TermViews.{type_of, term_of}
use Rattle.cc_derivation.specs.declared.derivation.Claim.{Claim as DeclaredClaim}
use Rattle.cc_derivation.specs.DerivationViews.{rule_of, claim_of}
use Rattle.cc_certificate_text.specs.Certificates.{CertificateNode, Line, Opens, Binds, States, Concludes}
use Rattle.cc_certificate_text.specs.Certificates.{IsCertificate, IsBadLine}
use Rattle.cc_certificate_text.specs.Certificates.{ClaimKind, OfSets, OfShapes, OfTypes, OfTerms}
use Rattle.cc_certificate_text.specs.LineReading.{NumberedClaim}
use Rattle.cc_certificate_reading.specs.declared.certificate.CertNode.{CertNode}
use Rattle.cc_certificate_reading.specs.declared.certificate.Cert.{Cert}
use Rattle.cc_certificate_reading.specs.declared.certificate.ReadCertError.{ReadCertError}
use Rattle.cc_certificate_reading.specs.declared.certificate.ReadCertError.TheVariants.{NoMemory, BadCert}
use Rattle.cc_certificate_reading.specs.declared.claims.ClaimKind.{ClaimKind as DeclaredKind}
use Rattle.cc_certificate_reading.specs.declared.claims.ClaimKind.TheVariants as kinds

-- the node
abbrev pub node_of : CertNode → CertificateNode
node_of node = record {
  rule = rule_of node.rule;
  premises = node.premises.items;
  first = node.first;
  claim = claim_of node.claim;
}

-- the line of a node, and that of a bind
abbrev pub node_line_of : CertNode → Line
node_line_of node = Concludes (node_of node)

abbrev pub bind_line_of : List ℕ × Ty → Line
bind_line_of bind = Binds bind.0 (type_of bind.1)

-- the lines of a certificate
abbrev pub lines_of : Cert → List Line
lines_of cert =
    (Opens ∷ map bind_line_of cert.binds.items)
    ++ (States (term_of cert.term.value) ∷ map node_line_of cert.nodes.items)

-- What reading answers: the certificate whose bytes they are, or the bad line.
abbrev pub ReadsCertificate : List ℕ → Result Cert ReadCertError → Type 0
ReadsCertificate bytes (Ok cert) = IsCertificate bytes (lines_of cert)
ReadsCertificate bytes (Err (BadCert line)) = IsBadLine bytes line
ReadsCertificate bytes (Err NoMemory) = Unit {0}

-- a claim with the number of its binders
abbrev pub numbered_of : Option ℕ × DeclaredClaim → NumberedClaim
numbered_of numbered = (numbered.0, claim_of numbered.1)

abbrev pub kind_of : DeclaredKind → ClaimKind
kind_of kinds.OfSets = OfSets
kind_of kinds.OfShapes = OfShapes
kind_of kinds.OfTypes = OfTypes
kind_of kinds.OfTerms = OfTerms
