-- What the answer says.
use Rattle.std.proofs.Common.{◌≡◌, ℕ, ◌+◌, ◌<◌, ◌≤◌, ◌^◌, List, [], ◌∷◌, ◌++◌, length, map, refl, ap, sym, ◌∙◌, subst, arith, get_or, drop, Result, Ok, Err, IfOk, IsErrAnd}
use mathlib.Core.List.{reverse}
use Rattle.std.proofs.lemmas.List.{append-nil, reverse-reverse, at_drop_more}
use Rattle.cc_core.specs.declared.types.Ty.{Ty}
use Rattle.cc_core.specs.TermViews.{type_of, term_of}
use Rattle.cc_core.specs.Shapes.{CapturingType}
use Rattle.cc_core.specs.Terms.{Term}
use Rattle.cc_core.specs.Contexts.{Context, entry_of}
use Rattle.cc_core.specs.WellFormed.{Kind, kinds_of}
use Rattle.cc_core.specs.Derivations.{Rule, Claim, SetBelow, ShapeBelow, TypeBelow, OfType, Derivation, Node, Premises, Concludes}
use Rattle.cc_derivation.specs.DerivationViews.{claim_of}
use Rattle.cc_derivation.specs.declared.derivation.Claim.{Claim as DeclaredClaim}
use Rattle.cc_derivation.specs.declared.derivation.Claim.TheVariants as claims
use Rattle.cc_derivation.specs.Rows.{TypeOf}
use Rattle.cc_derivation.specs.Broken.{broken}
use Rattle.cc_checking.specs.DerivationSizes.{nodes}
use Rattle.cc_certificate_text.specs.Certificates.{CertificateNode, Line, Start, AllFit, IsWhole, behind_lines}
use Rattle.cc_certificate_reading.specs.declared.certificate.Cert.{Cert}
use Rattle.cc_certificate_reading.specs.CertificateViews.{node_of, lines_of}
use Rattle.cc_certificate_judging.specs.Judging.{NodeTree, listed, read_tree, with_binds, bind_type, Judgement, IsValidAt, IsBadNode, IsAnswer, IsJudged}
use Rattle.cc_certificate_judging.specs.JudgedResults.{OnJudgement}
use Rattle.cc_certificate_judging.specs.declared.error.JudgeError.{JudgeError}
use Rattle.cc_certificate_judging.specs.declared.error.JudgeError.TheVariants.{NoMemory, BadNode}
use Rattle.cc_certificate_judging.specs.Passes.{PlainReadNode, AreRead, Builds}
use Rattle.cc_certificate_judging.proofs.PartsTrees.{parts_tree, parts_nodes, plain_bind, cert_lines}
use Rattle.cc_certificate_judging.proofs.PassesOnce.{are_read_once, builds_once}
use Rattle.cc_certificate_judging.proofs.TreePasses.{reads_of, tree_is_read, tree_builds, nodes-read_tree, length-listed}

-- a claim that is of no type says so
pub no_type : (claim : DeclaredClaim) (type : CapturingType) → ((ty : Ty) → claim ≡ claims.Typed ty → ⊥) → claim_of claim ≡ OfType type → ⊥
no_type (claims.Typed ty) type not e = not ty refl
no_type (claims.TypeBelow left right) type not e = cc
no_type (claims.ShapeBelow left right) type not e = cc
no_type (claims.SetBelow left right) type not e = cc

some_number : {B : Type 0} (n : ℕ) → n ∷ [] ≡ [] → B
some_number n e = cc

-- where no node breaks its rule at a place of a term, a type is concluded
concludes_type : (before : ℕ) (context : Context) (term : Term) (rule : Rule) (premises : Premises) (claim : Claim)
    → broken before (TypeOf context term) (Node rule premises claim) ≡ [] → (type : CapturingType) × (claim ≡ OfType type)
concludes_type before context term rule premises (OfType type) whole = (type, refl)
concludes_type before context term rule premises (SetBelow left right) whole = some_number _ whole
concludes_type before context term rule premises (ShapeBelow left right) whole = some_number _ whole
concludes_type before context term rule premises (TypeBelow left right) whole = some_number _ whole

pub whole_concludes : (context : Context) (term : Term) (derivation : Derivation) → broken 0 (TypeOf context term) derivation ≡ []
    → (type : CapturingType) × Concludes derivation (OfType type)
whole_concludes context term (Node rule premises claim) whole = concludes_type 0 context term rule premises claim whole

-- the nodes of a certificate in the program are those of a tree, and not too many
pub cert_tree : (cert : Cert) → AllFit Start (lines_of cert) → IsWhole (behind_lines Start (lines_of cert))
    → (tree : NodeTree) × (listed 0 tree ≡ map node_of cert.nodes.items)
cert_tree cert fit whole =
    parts_tree (map plain_bind cert.binds.items) (term_of cert.term.value) (map node_of cert.nodes.items)
    (subst (AllFit Start) (cert_lines cert) fit)
    (subst (λ (l : List Line). IsWhole (behind_lines Start l)) (cert_lines cert) whole)

pub cert_nodes : (cert : Cert) → AllFit Start (lines_of cert) → length (map node_of cert.nodes.items) ≤ 100000
cert_nodes cert fit =
    parts_nodes (map plain_bind cert.binds.items) (term_of cert.term.value) (map node_of cert.nodes.items)
    (subst (AllFit Start) (cert_lines cert) fit)

-- the derivation of a tree with so many nodes
pub few_in_tree : (names : ℕ) (kinds : List Kind) (tree : NodeTree) (ns : List CertificateNode) (d : Derivation)
    → listed 0 tree ≡ ns → d ≡ read_tree names kinds tree → length ns ≤ 100000 → nodes d < 2 ^ 32
few_in_tree names kinds tree ns d whole is few =
    let n : nodes d ≡ length ns = ap nodes is ∙ nodes-read_tree names kinds tree ∙ sym (length-listed 0 tree) ∙ ap length whole in
    omega arith

-- the passes over the nodes of a tree
passes_read : (names : ℕ) (kinds : List Kind) (tree : NodeTree) → AreRead names (kinds ∷ []) (reverse (listed 0 tree)) (reverse (reads_of names 0 kinds tree))
passes_read names kinds tree =
    subst (λ (l : List CertificateNode). AreRead names (kinds ∷ []) l (reverse (reads_of names 0 kinds tree))) (append-nil (reverse (listed 0 tree)))
    (subst (λ (l : List PlainReadNode). AreRead names (kinds ∷ []) (reverse (listed 0 tree) ++ []) l) (append-nil (reverse (reads_of names 0 kinds tree)))
    (tree_is_read names 0 kinds tree [] [] [] (refl, refl)))

pub first_pass : (names : ℕ) (kinds : List Kind) (ns : List CertificateNode) → (tree : NodeTree) × (listed 0 tree ≡ ns)
    → (reads : List PlainReadNode) × AreRead names (kinds ∷ []) (reverse ns) reads
first_pass names kinds ns t =
    (reverse (reads_of names 0 kinds t.0), subst (λ (l : List CertificateNode). AreRead names (kinds ∷ []) (reverse l) (reverse (reads_of names 0 kinds t.0))) t.1 (passes_read names kinds t.0))

reverse_twice : {A : Type 0} (l : List A) → reverse (reverse l) ≡ l
reverse_twice l = reverse-reverse l

builds_tree : (names : ℕ) (kinds : List Kind) (tree : NodeTree) (reads : List PlainReadNode)
    → AreRead names (kinds ∷ []) (reverse (listed 0 tree)) reads → Builds [] (reverse reads) (read_tree names kinds tree)
builds_tree names kinds tree reads r =
    let e : reads ≡ reverse (reads_of names 0 kinds tree) = are_read_once names (reverse (listed 0 tree)) (kinds ∷ []) reads (reverse (reads_of names 0 kinds tree)) r (passes_read names kinds tree) in
    let turned : reads_of names 0 kinds tree ≡ reverse reads = sym (reverse_twice (reads_of names 0 kinds tree)) ∙ ap reverse (sym e) in
    subst (λ (l : List PlainReadNode). Builds [] l (read_tree names kinds tree)) (append-nil (reads_of names 0 kinds tree) ∙ turned)
    (tree_builds names 0 kinds tree [] [] (read_tree names kinds tree) refl)

pub second_pass : (names : ℕ) (kinds : List Kind) (ns : List CertificateNode) (reads : List PlainReadNode) → (tree : NodeTree) × (listed 0 tree ≡ ns)
    → AreRead names (kinds ∷ []) (reverse ns) reads → (root : Derivation) × Builds [] (reverse reads) root
second_pass names kinds ns reads t r =
    (read_tree names kinds t.0, builds_tree names kinds t.0 reads (subst (λ (l : List CertificateNode). AreRead names (kinds ∷ []) (reverse l) reads) (sym t.1) r))

pub passes_give : (names : ℕ) (kinds : List Kind) (ns : List CertificateNode) (reads : List PlainReadNode) (d : Derivation)
    → AreRead names (kinds ∷ []) (reverse ns) reads → Builds [] (reverse reads) d
    → (tree : NodeTree) → listed 0 tree ≡ ns → d ≡ read_tree names kinds tree
passes_give names kinds ns reads d r b tree whole =
    builds_once (reverse reads) [] d (read_tree names kinds tree) b
    (builds_tree names kinds tree reads (subst (λ (l : List CertificateNode). AreRead names (kinds ∷ []) (reverse l) reads) (sym whole) r))

-- one bind more
pub bind_step : (binds : List (List ℕ × Ty)) (i : ℕ) (item : List ℕ × Ty) (context inner start : Context)
    → i < length binds → item ≡ get_or binds i item → inner ≡ entry_of (type_of item.1) ∷ context
    → with_binds context (map bind_type (drop i binds)) ≡ start → with_binds inner (map bind_type (drop (i + 1) binds)) ≡ start
bind_step binds i item context inner start low is own was =
    let more : with_binds context (map bind_type (drop i binds)) ≡ with_binds (entry_of (bind_type (get_or binds i item)) ∷ context) (map bind_type (drop (i + 1) binds)) =
    at_drop_more (λ l. with_binds context (map bind_type l)) binds i item low in
    ap (λ c. with_binds c (map bind_type (drop (i + 1) binds))) own
    ∙ ap (λ (x : List ℕ × Ty). with_binds (entry_of (bind_type x) ∷ context) (map bind_type (drop (i + 1) binds))) is ∙ sym more ∙ was

-- the passes over the nodes give the derivation of their tree
pub passes_answer : {T E : Type 0} (f : T → Derivation) (r : Result T E) (names : ℕ) (kinds : List Kind) (ns : List CertificateNode) (reads : List PlainReadNode)
    → AreRead names (kinds ∷ []) (reverse ns) reads → IfOk r (λ d. Builds [] (reverse reads) (f d))
    → IfOk r (λ d. (tree : NodeTree) → listed 0 tree ≡ ns → f d ≡ read_tree names kinds tree)
passes_answer f (Ok d) names kinds ns reads a b = λ tree whole. passes_give names kinds ns reads (f d) a b tree whole
passes_answer f (Err e) names kinds ns reads a b = tt

-- want of memory says nothing
pub no_memory : (fact : Judgement → Type 0) (result : Result Ty JudgeError) → IsErrAnd result (λ e. e ≡ NoMemory)
    → OnJudgement fact result
no_memory fact (Ok type) e = absurd e
no_memory fact (Err error) e = subst (λ (x : JudgeError). OnJudgement fact (Err x)) (sym e) tt

on_judgement : (fact other : Judgement → Type 0) (result : Result Ty JudgeError)
    → ((judgement : Judgement) → fact judgement → other judgement) → OnJudgement fact result → OnJudgement other result
on_judgement fact other (Ok type) f h = f (IsValidAt (type_of type)) h
on_judgement fact other (Err NoMemory) f h = tt
on_judgement fact other (Err (BadNode number)) f h = f (IsBadNode number) h

-- the answer for the derivation of the tree is that for the certificate
pub answered : (context own : Context) (term : Term) (ns : List CertificateNode) (result : Result Ty JudgeError) (names : ℕ) (kinds : List Kind) (d : Derivation)
    → (tree : NodeTree) × (listed 0 tree ≡ ns) → own ≡ context → names ≡ length own → kinds ≡ kinds_of own
    → ((tree : NodeTree) → listed 0 tree ≡ ns → d ≡ read_tree names kinds tree)
    → OnJudgement (IsAnswer own term d) result → OnJudgement (IsJudged context term ns) result
answered context own term ns result names kinds d t same n k is a =
    let e : d ≡ read_tree (length own) (kinds_of own) t.0 = is t.0 t.1 ∙ ap (λ i. read_tree i kinds t.0) n ∙ ap (λ (l : List Kind). read_tree (length own) l t.0) k in
    on_judgement (IsAnswer own term d) (IsJudged context term ns) result
    (λ answer told. subst (λ (g : Context). IsJudged g term ns answer) same
    (record { tree = t.0; whole = t.1; told = subst (λ (x : Derivation). IsAnswer own term x answer) e told })) a
