-- The nodes of a certificate's parts are those of a tree, and a certificate in the program has parts.
use Rattle.std.proofs.Common.{◌≡◌, ℕ, ◌+◌, ◌≤◌, List, [], ◌∷◌, ◌++◌, length, map, refl, ap, subst, arith}
use Rattle.cc_core.specs.declared.types.Ty.{Ty}
use Rattle.cc_core.specs.TermViews.{type_of, term_of}
use Rattle.cc_core.specs.Terms.{Term}
use Rattle.cc_core.specs.Contexts.{Context, entry_of}
use Rattle.cc_certificate_text.specs.Certificates.{CertificateNode, Line, Opens, States, Concludes, Start, Binding, Proving, AllFit, IsWhole, behind_lines}
use Rattle.cc_certificate_reading.specs.declared.certificate.CertNode.{CertNode}
use Rattle.cc_certificate_reading.specs.declared.certificate.Cert.{Cert}
use Rattle.cc_certificate_reading.specs.CertificateViews.{node_of, node_line_of, bind_line_of, lines_of}
use Rattle.cc_certificate_judging.specs.CertificateParts.{CertificateBind, bind_line, parts_lines, bound_context, bound_names}
use Rattle.cc_certificate_judging.specs.Judging.{NodeTree, listed, with_binds, bind_type, binds_of}
use Rattle.cc_certificate_judging.proofs.GrownTrees.{certificate_tree, few_nodes}

-- what the lines of binds leave for those behind them
pub record Behind (names : List (List ℕ)) (context : Context) (lines rest : List Line) : Type 0 where
  pub later : List (List ℕ)
  pub inner : Context
  pub fit : AllFit (Binding later inner) rest
  pub stage : behind_lines (Binding names context) lines ≡ behind_lines (Binding later inner) rest

behind_binds : (binds : List CertificateBind) (names : List (List ℕ)) (context : Context) (rest : List Line)
    → AllFit (Binding names context) (map bind_line binds ++ rest) → Behind names context (map bind_line binds ++ rest) rest
behind_binds [] names context rest fit = record { later = names; inner = context; fit = fit; stage = refl }
behind_binds (bind ∷ binds) names context rest fit =
    let b = behind_binds binds (names ++ bind.0 ∷ []) (entry_of bind.1 ∷ context) rest fit.1 in
    record { later = b.later; inner = b.inner; fit = b.fit; stage = b.stage }

-- the nodes are those of a tree, and not too many
pub parts_tree : (binds : List CertificateBind) (term : Term) (nodes : List CertificateNode)
    → AllFit Start (parts_lines binds term nodes) → IsWhole (behind_lines Start (parts_lines binds term nodes))
    → (tree : NodeTree) × (listed 0 tree ≡ nodes)
parts_tree binds term nodes fit whole =
    let b = behind_binds binds [] [] _ fit.1 in
    certificate_tree b.later nodes b.fit.1 (subst IsWhole b.stage whole)

pub parts_nodes : (binds : List CertificateBind) (term : Term) (nodes : List CertificateNode)
    → AllFit Start (parts_lines binds term nodes) → length nodes ≤ 100000
parts_nodes binds term nodes fit =
    let b = behind_binds binds [] [] _ fit.1 in
    let few : 0 + length nodes ≤ 100000 = few_nodes b.later nodes 0 [] (omega arith) b.fit.1 in
    omega arith

-- a bind in the program
abbrev pub plain_bind : List ℕ × Ty → CertificateBind
plain_bind bind = (bind.0, type_of bind.1)

bind_lines : (binds : List (List ℕ × Ty)) → map bind_line_of binds ≡ map bind_line (map plain_bind binds)
bind_lines [] = refl
bind_lines (bind ∷ binds) = ap (λ l. bind_line_of bind ∷ l) (bind_lines binds)

node_lines : (nodes : List CertNode) → map node_line_of nodes ≡ map Concludes (map node_of nodes)
node_lines [] = refl
node_lines (node ∷ nodes) = ap (λ l. Concludes (node_of node) ∷ l) (node_lines nodes)

bind_types : (binds : List (List ℕ × Ty)) → map bind_type binds ≡ map (λ bind. bind.1) (map plain_bind binds)
bind_types [] = refl
bind_types (bind ∷ binds) = ap (λ l. type_of bind.1 ∷ l) (bind_types binds)

bind_names : (binds : List (List ℕ × Ty)) → map (λ bind. bind.0) binds ≡ bound_names (map plain_bind binds)
bind_names [] = refl
bind_names (bind ∷ binds) = ap (λ l. bind.0 ∷ l) (bind_names binds)

-- the parts of a certificate in the program
pub cert_lines : (cert : Cert)
    → lines_of cert ≡ parts_lines (map plain_bind cert.binds.items) (term_of cert.term.value) (map node_of cert.nodes.items)
cert_lines cert =
    λ i. Opens ∷ (bind_lines cert.binds.items i ++ States (term_of cert.term.value) ∷ node_lines cert.nodes.items i)

pub cert_context : (cert : Cert) → binds_of cert ≡ bound_context (map plain_bind cert.binds.items)
cert_context cert = ap (with_binds []) (bind_types cert.binds.items)

pub cert_names : (cert : Cert) → map (λ bind. bind.0) cert.binds.items ≡ bound_names (map plain_bind cert.binds.items)
cert_names cert = bind_names cert.binds.items
