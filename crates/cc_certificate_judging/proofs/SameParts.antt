-- The parts of a certificate are told from its lines.
use Rattle.std.proofs.Common.{◌≡◌, ℕ, List, [], ◌∷◌, ◌++◌, map, refl, sym, ap}
use Rattle.cc_core.specs.Shapes.{CapturingType}
use Rattle.cc_core.specs.Terms.{Term}
use Rattle.cc_certificate_text.specs.Certificates.{CertificateNode, Binds, States, Concludes as ConcludesNode}
use Rattle.cc_certificate_judging.specs.CertificateParts.{CertificateBind, bind_line}

pub same_tail : {A : Type 0} {x y : A} {xs ys : List A} → x ∷ xs ≡ y ∷ ys → xs ≡ ys
same_tail e = cc

same_head : {A : Type 0} {x y : A} {xs ys : List A} → x ∷ xs ≡ y ∷ ys → x ≡ y
same_head e = cc

same_bind : (n m : List ℕ) (t u : CapturingType) → Binds n t ≡ Binds m u → ◌≡◌ {A = CertificateBind} (n, t) (m, u)
same_bind n m t u e =
    let names : n ≡ m = cc in
    let types : t ≡ u = cc in
    λ i. (names i, types i)

no_bind : (n : List ℕ) (t : CapturingType) (term : Term) → Binds n t ≡ States term → ⊥
no_bind n t term e = cc

same_term : (t u : Term) → States t ≡ States u → t ≡ u
same_term t u e = cc

same_node : (n m : CertificateNode) → ConcludesNode n ≡ ConcludesNode m → n ≡ m
same_node n m e = cc

same_nodes : (ns ms : List CertificateNode) → map ConcludesNode ns ≡ map ConcludesNode ms → ns ≡ ms
same_nodes [] [] e = refl
same_nodes [] (m ∷ ms) e = cc
same_nodes (n ∷ ns) [] e = cc
same_nodes (n ∷ ns) (m ∷ ms) e =
    let first = same_node n m (same_head e) in
    let rest = same_nodes ns ms (same_tail e) in
    λ i. first i ∷ rest i

pub same_parts : (bs cs : List CertificateBind) (t u : Term) (ns ms : List CertificateNode)
    → map bind_line bs ++ States t ∷ map ConcludesNode ns ≡ map bind_line cs ++ States u ∷ map ConcludesNode ms
    → (bs ≡ cs) × (t ≡ u) × (ns ≡ ms)
same_parts [] [] t u ns ms e = (refl, same_term t u (same_head e), same_nodes ns ms (same_tail e))
same_parts [] (c ∷ cs) t u ns ms e = absurd (no_bind c.0 c.1 t (sym (same_head e)))
same_parts (b ∷ bs) [] t u ns ms e = absurd (no_bind b.0 b.1 u (same_head e))
same_parts (b ∷ bs) (c ∷ cs) t u ns ms e =
    let first = same_bind b.0 c.0 b.1 c.1 (same_head e) in
    let rest = same_parts bs cs t u ns ms (same_tail e) in
    ((λ i. first i ∷ rest.0 i), rest.1, rest.2)
