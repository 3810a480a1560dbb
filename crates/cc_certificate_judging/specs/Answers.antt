-- What is found of bytes as a certificate, and what is written of it.
use Rattle.std.specs.Prelude.{◌≡◌, ℕ, Bool, true, false, List, ◌++◌, codes}
use Rattle.std.specs.Fmt.{decimal}
use Rattle.cc_core.specs.Shapes.{CapturingType}
use Rattle.cc_core.specs.Terms.{Term}
use Rattle.cc_core.specs.Typing.{HasType}
use Rattle.cc_print.specs.TypeTexts.{type_text}
use Rattle.cc_certificate_text.specs.Certificates.{CertificateNode, IsCertificate, IsBadLine}
use Rattle.cc_certificate_judging.specs.CertificateParts.{CertificateBind, parts_lines, bound_context, bound_names}
use Rattle.cc_certificate_judging.specs.Judging.{IsValidAt, IsBadNode, IsJudged}

-- What is found of bytes: they are a valid certificate, with binds of these names, and prove this type of its term; they
-- are none, and this is their first bad line; or they are one that is not valid, and this is its least bad node.
pub data Found : Type 0 where
  ProvesType : (names : List (List ℕ)) (type : CapturingType) → Found
  HasBadLine : (line : ℕ) → Found
  HasBadNode : (number : ℕ) → Found

-- The bytes are a certificate with binds of these names. The tree of its nodes is a valid derivation of its term, which
-- concludes the type; and by the rules the term has that type in the context of the binds.
pub record IsProof (bytes : List ℕ) (names : List (List ℕ)) (type : CapturingType) : Type 0 where
  pub binds : List CertificateBind
  pub term : Term
  pub nodes : List CertificateNode
  pub certificate : IsCertificate bytes (parts_lines binds term nodes)
  pub named : bound_names binds ≡ names
  pub judged : IsJudged (bound_context binds) term nodes (IsValidAt type)
  pub typed : HasType (bound_context binds) term type

-- The bytes are a certificate, and this is the least number of a node that breaks its rule, or whose names do not fit its
-- place.
pub record IsBroken (bytes : List ℕ) (number : ℕ) : Type 0 where
  pub binds : List CertificateBind
  pub term : Term
  pub nodes : List CertificateNode
  pub certificate : IsCertificate bytes (parts_lines binds term nodes)
  pub judged : IsJudged (bound_context binds) term nodes (IsBadNode number)

-- This is found of the bytes.
abbrev pub IsFound : List ℕ → Found → Type 0
IsFound bytes (ProvesType names type) = IsProof bytes names type
IsFound bytes (HasBadLine line) = IsBadLine bytes line
IsFound bytes (HasBadNode number) = IsBroken bytes number

-- what is written of it, before a line feed
abbrev pub found_text : Found → List ℕ
found_text (ProvesType names type) = codes "valid " ++ type_text names 0 type
found_text (HasBadLine line) = codes "bad line " ++ decimal line
found_text (HasBadNode number) = codes "bad node " ++ decimal number

-- whether it is a valid certificate
abbrev pub is_valid : Found → Bool
is_valid (ProvesType names type) = true
is_valid (HasBadLine line) = false
is_valid (HasBadNode number) = false
