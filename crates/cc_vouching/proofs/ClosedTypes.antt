-- What a certificate is valid at has no hole, and it binds globals alone.
use Rattle.std.proofs.Common.{◌≡◌, ℕ, zero, suc, Bool, true, false, cond, List, [], ◌∷◌, ◌++◌, length, map, refl, sym, ap, subst, ◌∙◌, inl, inr, if◌then◌else◌}
use Rattle.std.specs.List.{AllByRecursion}
use Rattle.std.proofs.lemmas.Bool.{or_cases}
use Rattle.cc_capture.specs.declared.var.Var.{Var}
use Rattle.cc_capture.specs.declared.var.Elem.{Elem}
use Rattle.cc_capture.specs.declared.var.Elem.TheVariants.{Var as Variable, Cap, Hole}
use Rattle.cc_capture.specs.ElementOrder.{same_element-true}
use Rattle.cc_capture.specs.Rising.{is_listed}
use Rattle.cc_capture.specs.Sets.{Set, Member, contains, empty}
use Rattle.cc_core.specs.Contexts.{Context, entry_of}
use Rattle.cc_core.specs.Derivations.{Rule, Claim, SetBelow, ShapeBelow, TypeBelow, OfType, Concludes}
use Rattle.cc_core.specs.Occurrences.{Meets, MeetsInSet, MeetsInType, IsNoHole, without_holes, HasNoHoleInType}
use Rattle.cc_core.specs.Shapes.{Shape, BaseShape, AnyShape, TypeVariable, FunctionShape, TypeFunctionShape, BoxShape, ExitShape, CapturingType, capturing}
use Rattle.cc_core.specs.Substitution.{single}
use Rattle.cc_core.specs.Terms.{Term}
use Rattle.cc_core.specs.Traversal.{act_type}
use Rattle.cc_core.specs.WellFormed.{Kind, kinds_of}
use Rattle.cc_core.proofs.Conditions.{Brings, MeetsInType-act}
use Rattle.cc_core.proofs.Moving.{Member-single}
use Rattle.cc_checking_laws.specs.FillingLaws.{AreGlobals}
use Rattle.cc_certificate_text.specs.Certificates.{CertificateNode, Line, States, Concludes as ConcludesNode, Binding, Proving, Start, used_up, binder_number, rule_kind, AllFit, IsCertificate, ClaimKind}
use Rattle.cc_certificate_text.specs.LocalNames.{IsNamedElement, IsNamedSet, IsNamedShape, IsNamedType, IsNamedClaim, IsLocalNumber}
use Rattle.cc_certificate_judging.specs.CertificateParts.{CertificateBind, bind_line, parts_lines, bound_context}
use Rattle.cc_certificate_judging.specs.Judging.{NodeTree, Grown, NodeTrees, listed, listed_all, root_numbers, numbered, read_variable, reading, read_claim, fits_place, is_of_sets, claim_of_another_kind, claim_at, read_tree, with_binds, IsValidAt, IsJudged}
use Rattle.cc_vouching.specs.VouchedDefinitions.{Proof, IsProofOf}

-- NAMES

named_element : (local : ℕ → Type 0) (names : ℕ) (e : Elem) → IsNamedElement local names e → IsNoHole e
named_element local names (Variable v) h = tt
named_element local names Cap h = tt
named_element local names (Hole n) h = absurd h

named_listed : (local : ℕ → Type 0) (names : ℕ) (xs : List Elem) → AllByRecursion (IsNamedElement local names) xs
    → (e : Elem) → is_listed e xs ≡ true → IsNoHole e
named_listed local names [] all e m = cc
named_listed local names (x ∷ xs) all e m =
    elim (or_cases _ _ m) [
      | inl here ↦ subst IsNoHole (sym (same_element-true e x here)) (named_element local names x all.0)
      | inr there ↦ named_listed local names xs all.1 e there
    ]

named_set : (local : ℕ → Type 0) (names d : ℕ) (c : Set) → IsNamedSet local names c → MeetsInSet without_holes d c
unfolding contains
named_set local names d c h = named_listed local names c.list h

named_shape : (local : ℕ → ℕ → Type 0) (names depth d : ℕ) (s : Shape) → IsNamedShape local names depth s
    → Meets without_holes d s
named_shape local names depth d (BaseShape b) h = tt
named_shape local names depth d AnyShape h = tt
named_shape local names depth d (TypeVariable v) h = tt
named_shape local names depth d (FunctionShape t c u e) h = (
  named_shape local names depth d t h.1,
  named_set (local depth) names d c h.2,
  named_shape local names (suc depth) (suc d) u h.3,
  named_set (local (suc depth)) names (suc d) e h.4,
)
named_shape local names depth d (TypeFunctionShape b u e) h = (
  named_shape local names depth d b h.1,
  named_shape local names (suc depth) (suc d) u h.2,
  named_set (local (suc depth)) names (suc d) e h.3,
)
named_shape local names depth d (BoxShape t c) h =
    (named_shape local names depth d t h.0, named_set (local depth) names d c h.1)
named_shape local names depth d (ExitShape t) h = named_shape local names depth d t h

named_type : (names depth : ℕ) (type : CapturingType) → IsNamedType names depth type → HasNoHoleInType type
named_type names depth type h =
    (named_shape IsLocalNumber names depth 0 type.shape h.0, named_set (IsLocalNumber depth) names 0 type.set h.1)

-- READING

one_element : (y : Elem) → IsNoHole y → (e : Elem) → Member e (single y) → IsNoHole e
one_element y h e m = subst IsNoHole (sym (Member-single e y m)) h

reading_brings : (names locals : ℕ) → Brings (reading names locals) without_holes without_holes
reading_brings names locals = record { element = element; shape = λ d v h. tt; variable = λ d v h. tt }
  where
    element : (d : ℕ) (x : Elem) → IsNoHole x → MeetsInSet without_holes d ((reading names locals).element d x)
    element d (Variable v) h = one_element (Variable (read_variable names locals d v)) tt
    element d Cap h = one_element Cap tt
    element d (Hole n) h = absurd h

read_closed : (names locals : ℕ) (type : CapturingType) → HasNoHoleInType type
    → HasNoHoleInType (act_type (reading names locals) zero type)
read_closed names locals type h =
    MeetsInType-act (reading names locals) without_holes without_holes (reading_brings names locals) zero type h

same_claim_type : (type other : CapturingType) → OfType type ≡ OfType other → type ≡ other
same_claim_type type other e = cc

claim_closed : (names locals depth n : ℕ) (claim : Claim) → IsNamedClaim n depth claim → (type : CapturingType)
    → read_claim names locals claim ≡ OfType type → HasNoHoleInType type
claim_closed names locals depth n (SetBelow left right) h type e = cc
claim_closed names locals depth n (ShapeBelow left right) h type e = cc
claim_closed names locals depth n (TypeBelow left right) h type e = cc
claim_closed names locals depth n (OfType t) h type e =
    subst HasNoHoleInType (same_claim_type (act_type (reading names locals) zero t) type e)
    (read_closed names locals t (named_type n depth t h))

none_in_empty : HasNoHoleInType (capturing AnyShape empty)
unfolding empty contains
none_in_empty = (tt, λ e m. cc)

other_closed : (test : Bool) (type : CapturingType)
    → (if test then OfType (capturing AnyShape empty) else SetBelow empty empty) ≡ OfType type → HasNoHoleInType type
other_closed true type e = subst HasNoHoleInType (same_claim_type (capturing AnyShape empty) type e) none_in_empty
other_closed false type e = cc

placed_closed : (test : Bool) (names locals depth n : ℕ) (kind : ClaimKind) (claim : Claim) → IsNamedClaim n depth claim
    → (type : CapturingType)
    → (if test then read_claim names locals claim else claim_of_another_kind kind) ≡ OfType type
    → HasNoHoleInType type
placed_closed true names locals depth n kind claim h type e = claim_closed names locals depth n claim h type e
placed_closed false names locals depth n kind claim h type e = other_closed (is_of_sets kind) type e

-- NODES

abbrev IsNamedNode : ℕ → CertificateNode → Type 0
IsNamedNode names node = IsNamedClaim names (binder_number node.first) node.claim

nodes_named : (names : List (List ℕ)) (count : ℕ) (unused : List ℕ) (nodes : List CertificateNode)
    → AllFit (Proving names count unused) (map ConcludesNode nodes) → AllByRecursion (IsNamedNode (length names)) nodes
nodes_named names count unused [] fit = tt
nodes_named names count unused (node ∷ nodes) fit =
    (fit.0.named, nodes_named names (suc count) (used_up unused node (suc count)) nodes fit.1)

parts_named : (binds : List CertificateBind) (names : List (List ℕ)) (context : Context) (term : Term)
    (nodes : List CertificateNode)
    → AllFit (Binding names context) (map bind_line binds ++ States term ∷ map ConcludesNode nodes)
    → (n : ℕ) × AllByRecursion (IsNamedNode n) nodes
parts_named [] names context term nodes fit = (length names, nodes_named names 0 [] nodes fit.1)
parts_named (bind ∷ binds) names context term nodes fit =
    parts_named binds (names ++ bind.0 ∷ []) (entry_of bind.1 ∷ context) term nodes fit.1

last_named : (n : ℕ) (nodes : List CertificateNode) (node : CertificateNode)
    → AllByRecursion (IsNamedNode n) (nodes ++ node ∷ []) → IsNamedNode n node
last_named n [] node all = all.0
last_named n (first ∷ nodes) node all = last_named n nodes node all.1

root_closed : (names : ℕ) (kinds : List Kind) (n : ℕ) (tree : NodeTree) (nodes : List CertificateNode)
    → listed 0 tree ≡ nodes → AllByRecursion (IsNamedNode n) nodes → (type : CapturingType)
    → Concludes (read_tree names kinds tree) (OfType type) → HasNoHoleInType type
root_closed names kinds n (Grown rule first claim premises) nodes whole all type is =
    let node : CertificateNode =
    record { rule = rule; premises = root_numbers 0 premises; first = first; claim = claim } in
    let here : AllByRecursion (IsNamedNode n) (listed_all 0 premises ++ node ∷ []) =
    subst (AllByRecursion (IsNamedNode n)) (sym whole) all in
    placed_closed (fits_place names kinds first claim) names _ (binder_number first) n (rule_kind rule) claim
    (last_named n (listed_all 0 premises) node here) type is

-- the type at which a certificate is valid has no hole
pub proven_closed : (bytes : List ℕ) (proof : Proof) → IsProofOf bytes proof → HasNoHoleInType proof.type
proven_closed bytes proof is =
    let named = parts_named proof.binds [] [] proof.term is.nodes is.certificate.fit.1 in
    root_closed (length (bound_context proof.binds)) (kinds_of (bound_context proof.binds)) named.0 is.judged.tree is.nodes
    is.judged.whole named.1 proof.type is.judged.told.1

-- BINDS

binds_alone : (binds : List CertificateBind) (names : List (List ℕ)) (context : Context) (rest : List Line)
    → AreGlobals context → AllFit (Binding names context) (map bind_line binds ++ rest)
    → AreGlobals (with_binds context (map (λ bind. bind.1) binds))
binds_alone [] names context rest alone fit = alone
binds_alone (bind ∷ binds) names context rest alone fit =
    binds_alone binds (names ++ bind.0 ∷ []) (entry_of bind.1 ∷ context) rest (fit.0.3.0, fit.0.3.1, alone) fit.1

-- what it assumes are variables of terms, without holes
pub proven_globals : (bytes : List ℕ) (proof : Proof) → IsProofOf bytes proof → AreGlobals (bound_context proof.binds)
proven_globals bytes proof is =
    binds_alone proof.binds [] [] (States proof.term ∷ map ConcludesNode is.nodes) tt is.certificate.fit.1
