-- The lines of nodes fit and are written as the nodes of the derivation are.
use Rattle.std.proofs.Common.{◌≡◌, ℕ, suc, ◌+◌, ◌-◌, ◌<◌, ◌≤◌, Bool, true, false, List, [], ◌∷◌, ◌++◌, length, take, codes, refl, sym, ap, subst, ◌∙◌, arith, append_assoc, append-nil, length-append}
use Rattle.std.specs.Fmt.{decimal}
use Rattle.std.proofs.lemmas.Bool.{or_left, or_right}
use Rattle.std.proofs.lemmas.List.{take_all, take-append-le}
use Rattle.cc_core.specs.Derivations.{Rule, Claim, SetBelow, ShapeBelow, TypeBelow, OfType, Derivation, Premises, Node, NoPremise, Premise}
use Rattle.cc_core.specs.Occurrences.{MeetsInType}
use Rattle.cc_core.specs.Shapes.{CapturingType}
use Rattle.cc_derivation.specs.Numbers.{own_number, premise_numbers}
use Rattle.cc_checking.specs.DerivationSizes.{nodes, nodes_of}
use Rattle.cc_print.specs.TypeTexts.{type_text}
use Rattle.cc_certificate_writing.specs.Certificates.{binds_first, binds_others, with_binder, node_lines, premise_lines}
use Rattle.cc_certificate_text.specs.NodeTexts.{rule_text, numbers_text, claim_text, node_line}
use Rattle.cc_certificate_text.specs.Certificates.{Concludes, Proving, binder_number, line_text, rule_kind, claim_kind, claim_height}
use Rattle.cc_certificate_text.specs.LocalNames.{placed_claim, placed_type, has_binder, claim_has_binder}
use Rattle.cc_certificate_laws.specs.CertificateLines.{numbered_claim, numbered_type, outermost_number, certificate_node, concluded_lines, premises_concluded}
use Rattle.cc_certificate_laws.specs.CertificateLaws.{IsClosedClaim, closed_at, IsPresentable, ArePresentable}
use Rattle.cc_certificate_laws.proofs.NumberedTexts.{set_seen, shape_seen, type_seen}
use Rattle.cc_certificate_laws.proofs.NumberedNames.{binders_numbered, number_of_place, same_kind, same_claim_height, claim_has_names}
use Rattle.cc_certificate_laws.proofs.LinesThatFit.{Leads, no_line, one_line, and_then, leads_to}

module _ (names : List (List ℕ)) where
  type_text_seen : (locals other : ℕ) (type : CapturingType) → MeetsInType (closed_at (length names) locals) 0 type
      → (has_binder type.shape ≡ true → other ≡ locals)
      → type_text names locals type
      ≡ type_text names other (placed_type (length names) (numbered_type (length names) locals type))
  type_text_seen locals other type closed same = type_seen names locals 0 locals other type (omega arith) closed same

  claim_seen : (locals other : ℕ) (claim : Claim) → IsClosedClaim (length names) locals claim
      → (claim_has_binder claim ≡ true → other ≡ locals)
      → claim_text names locals claim
      ≡ claim_text names other (placed_claim (length names) (numbered_claim (length names) locals claim))
  claim_seen locals other (SetBelow left right) closed same =
      let first = set_seen names locals 0 locals other left (omega arith) closed.0 in
      let second = set_seen names locals 0 locals other right (omega arith) closed.1 in
      λ i. first i ++ codes " <: " ++ second i
  claim_seen locals other (ShapeBelow left right) closed same =
      let first = shape_seen names locals 0 locals other left (omega arith) closed.0
      (λ h. same (or_left (has_binder left) (has_binder right) h)) in
      let second = shape_seen names locals 0 locals other right (omega arith) closed.1
      (λ h. same (or_right (has_binder left) (has_binder right) h)) in
      λ i. first i ++ codes " <: " ++ second i
  claim_seen locals other (TypeBelow left right) closed same =
      let first = type_text_seen locals other left closed.0
      (λ h. same (or_left (has_binder left.shape) (has_binder right.shape) h)) in
      let second = type_text_seen locals other right closed.1
      (λ h. same (or_right (has_binder left.shape) (has_binder right.shape) h)) in
      λ i. first i ++ codes " <: " ++ second i
  claim_seen locals other (OfType type) closed same =
      ap (λ t. codes ": " ++ t) (type_text_seen locals other type closed same)

  node_written : (locals count number : ℕ) (unused premises : List ℕ) (rule : Rule) (claim : Claim)
      → suc count ≡ number → IsClosedClaim (length names) locals claim
      → line_text (Proving names count unused) (Concludes (certificate_node (length names) locals rule premises claim))
      ≡ node_line names locals number rule premises claim
  node_written locals count number unused premises rule claim is closed =
      let text = claim_seen locals (binder_number (outermost_number locals claim)) claim closed (number_of_place locals claim) in
      λ i. decimal (is i) ++ codes " " ++ rule_text rule ++ codes " [" ++ numbers_text premises ++ codes "] " ++ sym text i

  kept_front : (unused premises : List ℕ) → take (length (unused ++ premises) - length premises) (unused ++ premises) ≡ unused
  kept_front unused premises =
      let size : length (unused ++ premises) - length premises ≡ length unused = omega (arith, length-append unused premises) in
      ap (λ n. take n (unused ++ premises)) size
      ∙ (take-append-le (length unused) unused premises (omega arith) ∙ take_all (length unused) unused (omega arith))

  node_leads : (locals count number : ℕ) (unused premises : List ℕ) (rule : Rule) (claim : Claim)
      → suc count ≡ number → count < 100000 → locals ≤ 100000 → rule_kind rule ≡ claim_kind claim
      → IsClosedClaim (length names) locals claim → claim_height claim ≤ 5000
      → Leads (Proving names count (unused ++ premises))
      (Concludes (certificate_node (length names) locals rule premises claim) ∷ [])
      (node_line names locals number rule premises claim ∷ []) (Proving names number (unused ++ number ∷ []))
  node_leads locals count number unused premises rule claim is few low kind closed height =
      one_line (Proving names count (unused ++ premises))
      (Concludes (certificate_node (length names) locals rule premises claim))
      (node_line names locals number rule premises claim) (Proving names number (unused ++ number ∷ []))
      (record {
        few = few;
        kind = kind ∙ sym (same_kind (length names) locals claim);
        named = claim_has_names (length names) locals claim low height closed;
        binders = binders_numbered (length names) locals claim;
        low = subst (λ n. n ≤ 5000) (sym (same_claim_height (length names) locals claim)) height;
        kept = unused;
        premises = refl;
      })
      (node_written locals count number (unused ++ premises) premises rule claim is closed)
      (λ i. Proving names (is i) (kept_front unused premises i ++ is i ∷ []))

  fewer : (b : Bool) (locals : ℕ) → with_binder b locals ≤ suc locals
  fewer true locals = omega arith
  fewer false locals = omega arith

  mutual
    -- the lines of a derivation's nodes
    pub nodes_lead : (before locals : ℕ) (unused : List ℕ) (d : Derivation) → IsPresentable (length names) locals d
        → before + nodes d ≤ 100000 → locals + nodes d ≤ 100000
        → Leads (Proving names before unused) (concluded_lines (length names) before locals d)
        (node_lines names before locals d) (Proving names (own_number before d) (unused ++ own_number before d ∷ []))
    nodes_lead before locals unused (Node rule premises claim) can few low =
        let first = fewer (binds_first rule) locals in
        let others = fewer (binds_others rule) locals in
        and_then (Proving names before unused)
        (Proving names (before + nodes_of premises) (unused ++ premise_numbers before premises))
        (Proving names (own_number before (Node rule premises claim)) (unused ++ own_number before (Node rule premises claim) ∷ []))
        _ _ _ _
        (premises_lead before (with_binder (binds_first rule) locals) (with_binder (binds_others rule) locals) unused premises
        can.3 (omega (arith, few)) (omega (arith, low, first)) (omega (arith, low, others)))
        (node_leads locals (before + nodes_of premises) (own_number before (Node rule premises claim)) unused
        (premise_numbers before premises) rule claim (omega arith) (omega (arith, few)) (omega (arith, low)) can.0 can.1 can.2)

    premises_lead : (before first_locals other_locals : ℕ) (unused : List ℕ) (ps : Premises)
        → ArePresentable (length names) first_locals other_locals ps → before + nodes_of ps ≤ 100000
        → first_locals + nodes_of ps ≤ 100000 → other_locals + nodes_of ps ≤ 100000
        → Leads (Proving names before unused) (premises_concluded (length names) before first_locals other_locals ps)
        (premise_lines names before first_locals other_locals ps)
        (Proving names (before + nodes_of ps) (unused ++ premise_numbers before ps))
    premises_lead before first_locals other_locals unused NoPremise can few low low' =
        leads_to (Proving names before unused) (Proving names before unused) _ [] []
        (λ i. Proving names (let e : before ≡ before + 0 = omega arith in e i) (sym (append-nil unused) i))
        (no_line (Proving names before unused))
    premises_lead before first_locals other_locals unused (Premise first rest) can few low low' =
        let own = own_number before first in
        let count : own + nodes_of rest ≡ before + (nodes first + nodes_of rest) = omega arith in
        let list = append_assoc unused (own ∷ []) (premise_numbers own rest) in
        leads_to (Proving names before unused) (Proving names (own + nodes_of rest) ((unused ++ own ∷ []) ++ premise_numbers own rest))
        _ _ _ (λ i. Proving names (count i) (list i))
        (and_then (Proving names before unused) (Proving names own (unused ++ own ∷ []))
        (Proving names (own + nodes_of rest) ((unused ++ own ∷ []) ++ premise_numbers own rest)) _ _ _ _
        (nodes_lead before first_locals unused first can.0 (omega (arith, few)) (omega (arith, low)))
        (premises_lead own other_locals other_locals (unused ++ own ∷ []) rest can.1 (omega (arith, few)) (omega (arith, low'))
        (omega (arith, low'))))
