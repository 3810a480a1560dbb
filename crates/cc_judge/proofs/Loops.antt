-- Steps of the loops of judging.
use Rattle.std.proofs.Common.{◌≡◌, ℕ, ◌+◌, ◌<◌, ◌≤◌, true, false, ◌&&◌, List, [], length, get_or, map, drop}
use Rattle.std.proofs.Common.{Some, ap, ◌∙◌, sym, refl, arith}
use Rattle.std.proofs.lemmas.Bool.{and_left}
use Rattle.std.proofs.lemmas.List.{drop_all}
use Rattle.std.specs.Str.{bytes_eq}
use Rattle.cc_verdicts.specs.PresentTexts.{definition_named}
use Rattle.cc_module.specs.Judgements.{checked_definition_of}
use Rattle.cc_module.specs.declared.judgement.CheckedDef.{CheckedDef}
use Rattle.cc_module.specs.Findings.{finding_of}
use Rattle.cc_module.specs.declared.finding.Finding.{Finding as DeclaredFinding}
use Rattle.cc_judge.specs.SameFindings as plain
use Rattle.cc_judge.proofs.Lists.{drop_read, pairs_from}

-- the definition that stands there has the name
pub named_here : (name : List ℕ) (defs : List CheckedDef) (i : ℕ) (def : CheckedDef) → i < length defs
    → def ≡ get_or defs i def → bytes_eq def.name name ≡ true
    → definition_named name (map checked_definition_of (drop i defs)) ≡ Some (checked_definition_of def)
named_here name defs i def within is same =
    ap (λ ds. definition_named name (map checked_definition_of ds)) (drop_read defs i def within is)
    ∙ rw same refl

pub named_later : (name : List ℕ) (defs : List CheckedDef) (i : ℕ) (def : CheckedDef) → i < length defs
    → def ≡ get_or defs i def → bytes_eq def.name name ≡ false
    → definition_named name (map checked_definition_of (drop i defs))
    ≡ definition_named name (map checked_definition_of (drop (i + 1) defs))
named_later name defs i def within is other =
    ap (λ ds. definition_named name (map checked_definition_of ds)) (drop_read defs i def within is)
    ∙ rw other refl

-- two findings that stand at a place of both
pub findings_differ : (left right : List DeclaredFinding) (i : ℕ) (x y : DeclaredFinding) → i < length left
    → i < length right → x ≡ get_or left i x → y ≡ get_or right i y
    → plain.same_findings (map finding_of (drop i left)) (map finding_of (drop i right))
    ≡ plain.same_findings (map finding_of left) (map finding_of right)
    → plain.same_finding (finding_of x) (finding_of y) ≡ false
    → false ≡ plain.same_findings (map finding_of left) (map finding_of right)
findings_differ left right i x y in_left in_right one other rest differ =
    sym (sym rest ∙ pairs_from finding_of plain.same_finding left right i x y in_left in_right one other
    ∙ and_left (plain.same_finding (finding_of x) (finding_of y))
    (plain.same_findings (map finding_of (drop (i + 1) left)) (map finding_of (drop (i + 1) right))) differ)

pub findings_agree : (left right : List DeclaredFinding) (i : ℕ) (x y : DeclaredFinding) → i < length left
    → i < length right → x ≡ get_or left i x → y ≡ get_or right i y
    → plain.same_findings (map finding_of (drop i left)) (map finding_of (drop i right))
    ≡ plain.same_findings (map finding_of left) (map finding_of right)
    → plain.same_finding (finding_of x) (finding_of y) ≡ true
    → plain.same_findings (map finding_of (drop (i + 1) left)) (map finding_of (drop (i + 1) right))
    ≡ plain.same_findings (map finding_of left) (map finding_of right)
findings_agree left right i x y in_left in_right one other rest agree =
    sym (pairs_from finding_of plain.same_finding left right i x y in_left in_right one other
    ∙ ap (λ b. b && plain.same_findings (map finding_of (drop (i + 1) left)) (map finding_of (drop (i + 1) right)))
    agree) ∙ rest

pub findings_end : (left right : List DeclaredFinding) (i : ℕ) → length left ≤ i → length left ≡ length right
    → plain.same_findings (map finding_of (drop i left)) (map finding_of (drop i right))
    ≡ plain.same_findings (map finding_of left) (map finding_of right)
    → true ≡ plain.same_findings (map finding_of left) (map finding_of right)
findings_end left right i past long rest =
    sym (ap (λ xs. plain.same_findings (map finding_of xs) (map finding_of (drop i right))) (drop_all i left past)
    ∙ ap (λ ys. plain.same_findings [] (map finding_of ys)) (drop_all i right (omega arith)))
    ∙ rest
