-- The two passes over the nodes of a certificate: from the last node to the first the claims are read at their places,
-- and from the first to the last the derivations are built.
use Rattle.std.specs.Prelude.{◌≡◌, ℕ, zero, suc, List, [], ◌∷◌, ◌++◌, length}
use Rattle.cc_core.specs.WellFormed.{Kind}
use Rattle.cc_core.specs.Derivations.{Rule, Claim, Derivation, Node, Premises, NoPremise, Premise}
use Rattle.cc_certificate_text.specs.Certificates.{CertificateNode}
use Rattle.cc_certificate_judging.specs.Judging.{under_binder, binder_at, claim_at}

-- a node as it is read: its rule, how many premises it has, and its claim
pub record PlainReadNode : Type 0 where
  pub rule : Rule
  pub count : ℕ
  pub claim : Claim

-- the node at a place where the kinds are in scope
abbrev pub read_at : ℕ → List Kind → CertificateNode → PlainReadNode
read_at names kinds node = record {
  rule = node.rule;
  count = length node.premises;
  claim = claim_at names kinds node.rule node.first node.claim;
}

-- the kinds in scope at the places of so many premises of a rule, from the index on
abbrev pub kinds_above : List Kind → Rule → ℕ → ℕ → List (List Kind)
kinds_above kinds rule index zero = []
kinds_above kinds rule index (suc count) =
    under_binder (binder_at rule index) kinds ∷ kinds_above kinds rule (suc index) count

-- The nodes, the last one first, are read as these where the places wait, the next one last.
abbrev pub AreRead : ℕ → List (List Kind) → List CertificateNode → List PlainReadNode → Type 0
AreRead names waiting [] reads = (waiting ≡ []) × (reads ≡ [])
AreRead names waiting (node ∷ nodes) reads =
    (front : List (List Kind)) × (kinds : List Kind) × (others : List PlainReadNode)
    × (waiting ≡ front ++ kinds ∷ []) × (reads ≡ read_at names kinds node ∷ others)
    × AreRead names (front ++ kinds_above kinds node.rule 0 (length node.premises)) nodes others

-- the derivations as premises, in order
abbrev pub as_premises : List Derivation → Premises
as_premises [] = NoPremise
as_premises (first ∷ rest) = Premise first (as_premises rest)

-- The nodes, in order, build one derivation over those that are built and are a premise of no other yet.
abbrev pub Builds : List Derivation → List PlainReadNode → Derivation → Type 0
Builds built [] root = built ≡ root ∷ []
Builds built (node ∷ nodes) root =
    (front : List Derivation) × (premises : List Derivation) × (built ≡ front ++ premises)
    × (length premises ≡ node.count)
    × Builds (front ++ Node node.rule (as_premises premises) node.claim ∷ []) nodes root
