-- What is written for a valid derivation is judged to be valid.
use Rattle.std.specs.Prelude.{◌≡◌, ℕ, ◌≤◌, List, [], ◌∷◌, ◌++◌, length, map}
use Rattle.std.specs.List.{AllByRecursion}
use Rattle.cc_core.specs.Shapes.{CapturingType}
use Rattle.cc_core.specs.Terms.{Term}
use Rattle.cc_core.specs.Contexts.{Context}
use Rattle.cc_core.specs.WellFormed.{kinds_of, IsWellFormedContext, IsWellFormedTerm}
use Rattle.cc_core.specs.Derivations.{OfType, Derivation, Node, Premises, NoPremise, Premise, Concludes, IsValidTyping}
use Rattle.cc_checking.specs.DerivationSizes.{nodes}
use Rattle.cc_checking.specs.Verdicts.{Definition, Accepted, IsAccepted, HasVerdict}
use Rattle.cc_checking_laws.specs.CheckingLaws.{Fits}
use Rattle.cc_checking_laws.specs.AcceptedDefinitions.{definition_context, accepted_derived}
use Rattle.cc_certificate_writing.specs.Certificates.{binds_first, binds_others, with_binder, certificate_text}
use Rattle.cc_certificate_text.specs.Certificates.{CertificateNode, Concludes as ConcludesNode, IsCertificate}
use Rattle.cc_certificate_judging.specs.CertificateParts.{CertificateBind, parts_lines, bound_context}
use Rattle.cc_certificate_judging.specs.Judging.{NodeTree, Grown, NodeTrees, NoTree, Tree, listed}
use Rattle.cc_certificate_judging.specs.Judging.{read_tree}
use Rattle.cc_certificate_judging.specs.Judging.{Judgement, IsValidAt, IsBadNode, IsJudged}
use Rattle.cc_certificate_laws.specs.CertificateLines.{numbered_claim, outermost_number, concluded_lines}
use Rattle.cc_certificate_laws.specs.DefinitionLaws.{IsWithinLimits}
use Rattle.cc_certificate_laws.specs.CertificateLaws.{IsTermEntry, IsFinished, IsPresentableContext, IsPresentableTerm}

abbrev mutual
  -- the tree of a certificate's nodes that is written for a derivation, where so many local binders stand at its root
  pub written_tree : ℕ → ℕ → Derivation → NodeTree
  written_tree names locals (Node rule premises claim) =
      Grown rule (outermost_number locals claim) (numbered_claim names locals claim)
      (written_trees names (with_binder (binds_first rule) locals) (with_binder (binds_others rule) locals) premises)

  -- the same of premises, where so many stand at the first one, and so many at those behind it
  pub written_trees : ℕ → ℕ → ℕ → Premises → NodeTrees
  written_trees names first_locals other_locals NoPremise = NoTree
  written_trees names first_locals other_locals (Premise first rest) =
      Tree (written_tree names first_locals first) (written_trees names other_locals other_locals rest)

-- The nodes that are written for a derivation are those of the tree.
abbrev pub WrittenNodesAreOfTheTree : Type 0
WrittenNodesAreOfTheTree =
    (names before locals : ℕ) (derivation : Derivation)
    → concluded_lines names before locals derivation
    ≡ map ConcludesNode (listed before (written_tree names locals derivation))

-- The tree of a valid derivation is read as the derivation.
abbrev pub DerivationsAreReadBack : Type 0
DerivationsAreReadBack =
    (context : Context) (term : Term) (derivation : Derivation) → AllByRecursion IsTermEntry context
    → IsWellFormedContext context → IsWellFormedTerm context term → IsValidTyping context term derivation
    → IsFinished derivation
    → read_tree (length context) (kinds_of context) (written_tree (length context) 0 derivation) ≡ derivation

-- So what is written for it is judged to be valid, of the type that it concludes.
abbrev pub ValidDerivationsAreJudgedValid : Type 0
ValidDerivationsAreJudgedValid =
    (context : Context) (term : Term) (derivation : Derivation) (type : CapturingType)
    → AllByRecursion IsTermEntry context
    → IsWellFormedContext context → IsWellFormedTerm context term → IsValidTyping context term derivation
    → IsFinished derivation → Concludes derivation (OfType type)
    → IsJudged context term (listed 0 (written_tree (length context) 0 derivation)) (IsValidAt type)

-- What is read back from the text of a valid derivation binds its context, states its term, and has the nodes of the
-- derivation.
abbrev pub PartsAreReadBack : Type 0
PartsAreReadBack =
    (names : List (List ℕ)) (context : Context) (term : Term) (derivation : Derivation)
    (binds : List CertificateBind) (stated : Term) (listing : List CertificateNode)
    → IsPresentableContext names context → IsPresentableTerm context term
    → IsValidTyping context term derivation → IsFinished derivation → nodes derivation ≤ 100000
    → IsCertificate (certificate_text names context term derivation) (parts_lines binds stated listing)
    → (bound_context binds ≡ context) × (stated ≡ term)
    × (listing ≡ listed 0 (written_tree (length context) 0 derivation))

-- the judgement is that it is valid at the type that the derivation concludes
abbrev pub AnswersAs : Derivation → Judgement → Type 0
AnswersAs derivation (IsValidAt type) = Concludes derivation (OfType type)
AnswersAs derivation (IsBadNode number) = ⊥

-- And it is judged to be valid, at the type that the derivation concludes.
abbrev pub WrittenCertificatesAreFoundValid : Type 0
WrittenCertificatesAreFoundValid =
    (names : List (List ℕ)) (context : Context) (term : Term) (derivation : Derivation)
    (binds : List CertificateBind) (stated : Term) (listing : List CertificateNode) (answer : Judgement)
    → IsPresentableContext names context → IsPresentableTerm context term
    → IsValidTyping context term derivation → IsFinished derivation → nodes derivation ≤ 100000
    → IsCertificate (certificate_text names context term derivation) (parts_lines binds stated listing)
    → IsJudged (bound_context binds) stated listing answer
    → AnswersAs derivation answer

-- And its tree is read as the derivation.
abbrev pub WrittenTreesAreReadBack : Type 0
WrittenTreesAreReadBack =
    (names : List (List ℕ)) (context : Context) (term : Term) (derivation : Derivation)
    (binds : List CertificateBind) (stated : Term) (tree : NodeTree)
    → IsPresentableContext names context → IsPresentableTerm context term
    → IsValidTyping context term derivation → IsFinished derivation → nodes derivation ≤ 100000
    → IsCertificate (certificate_text names context term derivation) (parts_lines binds stated (listed 0 tree))
    → read_tree (length (bound_context binds)) (kinds_of (bound_context binds)) tree ≡ derivation

-- What is read back from the text of an accepted definition's canonical derivation is judged to be valid, at the type
-- that others see.
abbrev pub CertificatesOfDefinitionsAreFoundValid : Type 0
CertificatesOfDefinitionsAreFoundValid =
    (devices : ℕ) (globals : Context) (definition : Definition) (accepted : Accepted) (names : List (List ℕ))
    (binds : List CertificateBind) (stated : Term) (listing : List CertificateNode) (answer : Judgement)
    → Fits globals definition → HasVerdict devices globals definition (IsAccepted accepted)
    → IsWithinLimits names (definition_context globals definition accepted.signature) accepted
    → IsCertificate
    (certificate_text names (definition_context globals definition accepted.signature) accepted.filled
    (accepted_derived (definition_context globals definition accepted.signature) accepted))
    (parts_lines binds stated listing)
    → IsJudged (bound_context binds) stated listing answer
    → answer ≡ IsValidAt accepted.signature

-- And its tree is read as the canonical derivation.
abbrev pub TreesOfDefinitionsAreReadBack : Type 0
TreesOfDefinitionsAreReadBack =
    (devices : ℕ) (globals : Context) (definition : Definition) (accepted : Accepted) (names : List (List ℕ))
    (binds : List CertificateBind) (stated : Term) (tree : NodeTree)
    → Fits globals definition → HasVerdict devices globals definition (IsAccepted accepted)
    → IsWithinLimits names (definition_context globals definition accepted.signature) accepted
    → IsCertificate
    (certificate_text names (definition_context globals definition accepted.signature) accepted.filled
    (accepted_derived (definition_context globals definition accepted.signature) accepted))
    (parts_lines binds stated (listed 0 tree))
    → read_tree (length (bound_context binds)) (kinds_of (bound_context binds)) tree
    ≡ accepted_derived (definition_context globals definition accepted.signature) accepted
