-- The tree that is written for a valid derivation is read as the derivation.
use Rattle.std.proofs.Common.{◌≡◌, ℕ, zero, suc, ◌+◌, ◌-◌, ◌≤◌, Bool, true, false, ◌&&◌, List, [], ◌∷◌, ◌++◌, map, length, Option, Some, None, inl, inr, refl, sym, ap, subst, ◌∙◌, arith}
use Rattle.std.specs.Prelude.{if◌then◌else◌}
use Rattle.std.proofs.lemmas.Bool.{and_from, eq-eqb}
use Rattle.cc_core.specs.WellFormed.{Kind, TypeKind, kind_of, kinds_of}
use Rattle.cc_core.specs.Derivations.{Rule, Claim, SetBelow, ShapeBelow, TypeBelow, OfType, Derivation, Premises, Node, NoPremise, Premise}
use Rattle.cc_core.proofs.KindFacts.{IsKindedSet-test, IsKinded-test, IsKindedType-test, IsKindedTerm-from}
use Rattle.cc_core.proofs.Lookups.{length_map, lookup-cases}
use Rattle.cc_core.proofs.SubcapturingContexts.{IsKindedContext-from}
use Rattle.cc_derivation.specs.Numbers.{own_number, premise_numbers}
use Rattle.cc_checking.specs.DerivationSizes.{nodes, nodes_of}
use Rattle.cc_certificate_writing.specs.Certificates.{binds_first, binds_others, with_binder}
use Rattle.cc_certificate_text.specs.Certificates.{Concludes as ConcludesNode}
use Rattle.cc_certificate_text.specs.LocalNames.{claim_has_binder}
use Rattle.cc_certificate_judging.specs.Judging.{size_of, sizes_of, root_numbers, listed, listed_all, binder_at, under_binder, read_claim, is_in_scope, begins_at, read_tree, read_trees, IsValidAt, IsAnswer}
use Rattle.cc_certificate_laws.specs.CertificateLines.{numbered_claim, outermost_number, certificate_node, concluded_lines, premises_concluded}
use Rattle.cc_certificate_laws.specs.CertificateLaws.{IsClosedClaim, HasNoHoleInClaim}
use Rattle.cc_certificate_laws.proofs.ClosedSyntax.{AreNames, set_closed, shape_closed, type_closed}
use Rattle.cc_certificate_laws.proofs.Places.{none_of_types}
use Rattle.cc_certificate_laws.specs.JudgedCertificates.{written_tree, written_trees, WrittenNodesAreOfTheTree, DerivationsAreReadBack, ValidDerivationsAreJudgedValid}
use Rattle.cc_certificate_laws.proofs.ReadClaims.{claim_back}
use Rattle.cc_certificate_laws.proofs.Settled.{HasKindsInClaim, plus_binder, IsSettled, AreSettled}
use Rattle.cc_certificate_laws.proofs.SettledTypings.{typing_settled}
use Rattle.cc_certificate_laws.proofs.ContextBinds.{map_append}

-- what is well formed and has no hole is closed
claim_closed : (names locals : ℕ) (kinds : List Kind) → length kinds ≡ names + locals → AreNames names kinds → (claim : Claim)
    → HasKindsInClaim kinds claim → HasNoHoleInClaim claim → IsClosedClaim names locals claim
claim_closed names locals kinds size old (SetBelow left right) is holes = (
  set_closed names locals kinds size old [] 0 zero left refl is.0 holes.0,
  set_closed names locals kinds size old [] 0 zero right refl is.1 holes.1,
)
claim_closed names locals kinds size old (ShapeBelow left right) is holes = (
  shape_closed names locals kinds size old [] 0 zero left refl is.0 holes.0,
  shape_closed names locals kinds size old [] 0 zero right refl is.1 holes.1,
)
claim_closed names locals kinds size old (TypeBelow left right) is holes =
    (type_closed names locals kinds size old left is.0 holes.0, type_closed names locals kinds size old right is.1 holes.1)
claim_closed names locals kinds size old (OfType type) is holes = type_closed names locals kinds size old type is holes

in_scope : (kinds : List Kind) (claim : Claim) → HasKindsInClaim kinds claim → is_in_scope kinds claim ≡ true
in_scope kinds (SetBelow left right) is =
    and_from _ _ (IsKindedSet-test kinds [] left is.0) (IsKindedSet-test kinds [] right is.1)
in_scope kinds (ShapeBelow left right) is = and_from _ _ (IsKinded-test kinds [] left is.0) (IsKinded-test kinds [] right is.1)
in_scope kinds (TypeBelow left right) is =
    and_from _ _ (IsKindedType-test kinds [] left is.0) (IsKindedType-test kinds [] right is.1)
in_scope kinds (OfType type) is = IsKindedType-test kinds [] type is

begins : (b : Bool) (n : ℕ) → begins_at n (if b then Some n else None) ≡ true
begins true n = eq-eqb n n refl
begins false n = refl

where_true : (b : Bool) (x y : Claim) → b ≡ true → (if b then x else y) ≡ x
where_true true x y e = refl
where_true false x y e = cc

module _ (names : ℕ) where
  -- the claim is read at its place
  claim_read : (kinds : List Kind) (locals n : ℕ) (rule : Rule) (claim other : Claim) → n ≡ locals → length kinds ≡ names + locals
      → AreNames names kinds → HasKindsInClaim kinds claim → HasNoHoleInClaim claim
      → (if begins_at n (outermost_number locals claim) && is_in_scope kinds (read_claim names n (numbered_claim names locals claim))
      then read_claim names n (numbered_claim names locals claim) else other) ≡ claim
  claim_read kinds locals n rule claim other same size old is holes =
      let back = claim_back names locals claim (claim_closed names locals kinds size old claim is holes) in
      let test : (begins_at locals (outermost_number locals claim)
      && is_in_scope kinds (read_claim names locals (numbered_claim names locals claim))) ≡ true =
      and_from _ _ (begins (claim_has_binder claim) locals) (ap (is_in_scope kinds) back ∙ in_scope kinds claim is) in
      subst (λ m. (if begins_at m (outermost_number locals claim) && is_in_scope kinds (read_claim names m (numbered_claim names locals claim))
      then read_claim names m (numbered_claim names locals claim) else other) ≡ claim) (sym same)
      (where_true _ _ other test ∙ back)

  more_names : (kinds : List Kind) (o : Option Kind) → names ≤ length kinds → AreNames names kinds → AreNames names (under_binder o kinds)
  more_names kinds None few old = old
  more_names kinds (Some k) few old = λ p found.
      elim (lookup-cases k kinds p TypeKind found) as (λ _. names ≤ p) [
        | inl here ↦ omega (arith, here.0, few)
        | inr there ↦ old p there
      ]

  more_size : (kinds : List Kind) (o : Option Kind) (locals : ℕ) → length kinds ≡ names + locals
      → length (under_binder o kinds) ≡ names + plus_binder o locals
  more_size kinds None locals size = size
  more_size kinds (Some k) locals size = (let s : suc (length kinds) ≡ names + suc locals = omega (arith, size) in s)

  mutual
    pub settled_read : (d : Derivation) (kinds : List Kind) (locals : ℕ) → length kinds ≡ names + locals → AreNames names kinds
        → IsSettled locals kinds d → read_tree names kinds (written_tree names locals d) ≡ d
    settled_read (Node rule premises claim) kinds locals size old is =
        let here = claim_read kinds locals (length kinds - names) rule claim _ (omega (arith, size)) size old is.0 is.1 in
        let there = all_read premises kinds locals rule 0 (with_binder (binds_first rule) locals)
        (with_binder (binds_others rule) locals) size old is.2 in
        λ i. Node rule (there i) (here i)

    all_read : (ps : Premises) (kinds : List Kind) (locals : ℕ) (rule : Rule) (index first_locals other_locals : ℕ)
        → length kinds ≡ names + locals → AreNames names kinds
        → AreSettled locals kinds rule index first_locals other_locals ps
        → read_trees names kinds rule index (written_trees names first_locals other_locals ps) ≡ ps
    all_read NoPremise kinds locals rule index first_locals other_locals size old is = refl
    all_read (Premise first rest) kinds locals rule index first_locals other_locals size old is =
        let deeper : length (under_binder (binder_at rule index) kinds) ≡ names + first_locals =
        more_size kinds (binder_at rule index) locals size ∙ ap (λ n. names + n) (sym is.0) in
        let one = settled_read first (under_binder (binder_at rule index) kinds) first_locals deeper
        (more_names kinds (binder_at rule index) (omega (arith, size)) old) is.1 in
        let two = all_read rest kinds locals rule (suc index) other_locals other_locals size old is.2 in
        λ i. Premise (one i) (two i)

mutual
  same_size : (names locals : ℕ) (d : Derivation) → size_of (written_tree names locals d) ≡ nodes d
  same_size names locals (Node rule premises claim) =
      ap (λ n. 1 + n) (same_sizes names (with_binder (binds_first rule) locals) (with_binder (binds_others rule) locals) premises)

  same_sizes : (names first_locals other_locals : ℕ) (ps : Premises)
      → sizes_of (written_trees names first_locals other_locals ps) ≡ nodes_of ps
  same_sizes names first_locals other_locals NoPremise = refl
  same_sizes names first_locals other_locals (Premise first rest) =
      λ i. same_size names first_locals first i + same_sizes names other_locals other_locals rest i

same_numbers : (names before first_locals other_locals : ℕ) (ps : Premises)
    → root_numbers before (written_trees names first_locals other_locals ps) ≡ premise_numbers before ps
same_numbers names before first_locals other_locals NoPremise = refl
same_numbers names before first_locals other_locals (Premise first rest) =
    let own = ap (λ n. before + n) (same_size names first_locals first) in
    (λ i. own i ∷ root_numbers (own i) (written_trees names other_locals other_locals rest))
    ∙ ap (λ ns. own_number before first ∷ ns) (same_numbers names (own_number before first) other_locals other_locals rest)

mutual
  nodes_of_tree : (names before locals : ℕ) (d : Derivation)
      → concluded_lines names before locals d ≡ map ConcludesNode (listed before (written_tree names locals d))
  nodes_of_tree names before locals (Node rule premises claim) =
      let trees = written_trees names (with_binder (binds_first rule) locals) (with_binder (binds_others rule) locals) premises in
      let first = nodes_of_trees names before (with_binder (binds_first rule) locals) (with_binder (binds_others rule) locals) premises in
      let numbers = same_numbers names before (with_binder (binds_first rule) locals) (with_binder (binds_others rule) locals) premises in
      (λ i. first i ++ ConcludesNode (certificate_node names locals rule (sym numbers i) claim) ∷ [])
      ∙ sym (map_append ConcludesNode (listed_all before trees)
      (certificate_node names locals rule (root_numbers before trees) claim ∷ []))

  nodes_of_trees : (names before first_locals other_locals : ℕ) (ps : Premises)
      → premises_concluded names before first_locals other_locals ps
      ≡ map ConcludesNode (listed_all before (written_trees names first_locals other_locals ps))
  nodes_of_trees names before first_locals other_locals NoPremise = refl
  nodes_of_trees names before first_locals other_locals (Premise first rest) =
      let one = nodes_of_tree names before first_locals first in
      let two = nodes_of_trees names (own_number before first) other_locals other_locals rest in
      let own = ap (λ n. before + n) (sym (same_size names first_locals first)) in
      (λ i. one i ++ two i)
      ∙ ((λ i. map ConcludesNode (listed before (written_tree names first_locals first))
      ++ map ConcludesNode (listed_all (own i) (written_trees names other_locals other_locals rest)))
      ∙ sym (map_append ConcludesNode (listed before (written_tree names first_locals first))
      (listed_all (before + size_of (written_tree names first_locals first)) (written_trees names other_locals other_locals rest))))

pub written_nodes : WrittenNodesAreOfTheTree
written_nodes = nodes_of_tree

pub derivations_back : DerivationsAreReadBack
derivations_back context term derivation all formed is valid done =
    settled_read (length context) derivation (kinds_of context) 0
    (let size : length (kinds_of context) ≡ length context + 0 = omega (arith, length_map kind_of context) in size)
    (λ p found. absurd (none_of_types context all p found))
    (typing_settled derivation context term 0 (IsKindedContext-from context formed)
    (IsKindedTerm-from (kinds_of context) [] term is) valid done)

pub judged_valid : ValidDerivationsAreJudgedValid
judged_valid context term derivation type all formed is valid done concludes =
    let back = derivations_back context term derivation all formed is valid done in record {
      tree = written_tree (length context) 0 derivation;
      whole = refl;
      told = subst (λ d. IsAnswer context term d (IsValidAt type)) (sym back) (valid, concludes);
    }
