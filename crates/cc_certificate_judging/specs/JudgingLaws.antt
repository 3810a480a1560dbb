-- The laws of judged certificates.
use Rattle.std.specs.Prelude.{◌≡◌, ℕ, List, [], length, None, map}
use Rattle.cc_core.specs.Shapes.{CapturingType}
use Rattle.cc_core.specs.Terms.{Term}
use Rattle.cc_core.specs.Contexts.{Context}
use Rattle.cc_core.specs.TermViews.{term_of}
use Rattle.cc_core.specs.WellFormed.{kinds_of}
use Rattle.cc_core.specs.Typing.{HasTyping}
use Rattle.cc_core.specs.Derivations.{Rule, IsValidTyping}
use Rattle.cc_derivation.specs.Rows.{Place, row_at}
use Rattle.cc_certificate_text.specs.Certificates.{CertificateNode, rule_kind, Concludes, Proving, AllFit, IsWhole}
use Rattle.cc_certificate_text.specs.Certificates.{behind_lines, IsCertificate}
use Rattle.cc_certificate_reading.specs.declared.certificate.Cert.{Cert}
use Rattle.cc_certificate_reading.specs.CertificateViews.{node_of, lines_of}
use Rattle.cc_certificate_judging.specs.Judging.{NodeTree, listed, claim_of_another_kind, read_tree, binds_of}
use Rattle.cc_certificate_judging.specs.Judging.{Judgement, IsValidAt, IsBadNode, IsJudged}

-- a node whose claim is of another kind than its rule concludes fits no place
abbrev pub ClaimsOfAnotherKindFitNoPlace : Type 0
ClaimsOfAnotherKindFitNoPlace =
    (place : Place) (rule : Rule) → row_at place rule (claim_of_another_kind (rule_kind rule)) ≡ None

-- nodes are those of one tree at most
abbrev pub TreesAreOne : Type 0
TreesAreOne = (tree other : NodeTree) → listed 0 tree ≡ listed 0 other → tree ≡ other

-- where a certificate is judged to be valid at a type, the rules give the term that type
abbrev pub JudgedTypesAreGiven : Type 0
JudgedTypesAreGiven =
    (context : Context) (term : Term) (nodes : List CertificateNode) (type : CapturingType)
    → IsJudged context term nodes (IsValidAt type) → HasTyping context term type.shape type.set

-- where it is judged to be bad, the derivation that its nodes are is not valid for the term
abbrev pub BadNodesAreNotValid : Type 0
BadNodesAreNotValid =
    (context : Context) (term : Term) (tree : NodeTree) (number : ℕ)
    → IsJudged context term (listed 0 tree) (IsBadNode number)
    → IsValidTyping context term (read_tree (length context) (kinds_of context) tree) → ⊥

-- the nodes of a certificate are those of a tree
abbrev pub CertificatesAreTrees : Type 0
CertificatesAreTrees =
    (names : List (List ℕ)) (nodes : List CertificateNode)
    → AllFit (Proving names 0 []) (map Concludes nodes)
    → IsWhole (behind_lines (Proving names 0 []) (map Concludes nodes))
    → (tree : NodeTree) × (listed 0 tree ≡ nodes)

-- Each certificate that was read is judged: it is valid at a type, or a node is bad.
abbrev pub CertificatesAreJudged : Type 0
CertificatesAreJudged =
    (bytes : List ℕ) (cert : Cert) → IsCertificate bytes (lines_of cert)
    → (answer : Judgement)
    × IsJudged (binds_of cert) (term_of cert.term.value) (map node_of cert.nodes.items) answer

-- So are the nodes of any tree, in any context and for any term.
abbrev pub TreesAreJudged : Type 0
TreesAreJudged =
    (context : Context) (term : Term) (tree : NodeTree)
    → (answer : Judgement) × IsJudged context term (listed 0 tree) answer

-- And there is one judgement at most.
abbrev pub JudgementsAreOne : Type 0
JudgementsAreOne =
    (context : Context) (term : Term) (nodes : List CertificateNode) (answer other : Judgement)
    → IsJudged context term nodes answer → IsJudged context term nodes other → answer ≡ other
