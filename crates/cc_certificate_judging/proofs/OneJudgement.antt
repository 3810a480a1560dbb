-- Each certificate that was read is judged in one way.
use Rattle.std.proofs.Common.{◌≡◌, ◌<◌, ◌≤◌, ℕ, List, [], ◌∷◌, length, map, sym, ap, subst, ◌∙◌, refl, arith}
use Rattle.std.specs.Prelude.{Contains}
use Rattle.cc_core.specs.Shapes.{CapturingType}
use Rattle.cc_core.specs.Terms.{Term}
use Rattle.cc_core.specs.Contexts.{Context}
use Rattle.cc_core.specs.TermViews.{term_of}
use Rattle.cc_core.specs.WellFormed.{kinds_of}
use Rattle.cc_core.specs.Derivations.{OfType, Derivation}
use Rattle.cc_derivation.specs.Numbers.{own_number}
use Rattle.cc_derivation.specs.Rows.{TypeOf}
use Rattle.cc_derivation.specs.Broken.{broken, IsLeast}
use Rattle.cc_derivation.specs.ValidityLaws.{RiseWithin}
use Rattle.cc_derivation.proofs.BrokenNodes.{valid_typings}
use Rattle.cc_derivation.proofs.RisingNumbers.{numbers_rise, first_is_least}
use Rattle.cc_certificate_reading.specs.CertificateViews.{node_of}
use Rattle.cc_certificate_judging.specs.Judging.{NodeTree, listed, read_tree, binds_of, Judgement, IsValidAt, IsBadNode, IsAnswer, IsJudged}
use Rattle.cc_certificate_judging.specs.JudgingLaws as law
use Rattle.cc_certificate_judging.proofs.JudgedAnswers.{whole_concludes, cert_tree}
use Rattle.cc_certificate_judging.proofs.JudgedTypes.{contains_none}
use Rattle.cc_certificate_judging.proofs.OneTree.{one_tree}

-- no node is bad, or the first bad one is the least
answer_by : (context : Context) (term : Term) (d : Derivation) (numbers : List ℕ) → numbers ≡ broken 0 (TypeOf context term) d
    → (answer : Judgement) × IsAnswer context term d answer
answer_by context term d [] e =
    let concludes = whole_concludes context term d (sym e) in
    (IsValidAt concludes.0, ((valid_typings 0 context term d).0 (sym e), concludes.1))
answer_by context term d (number ∷ numbers) e =
    let rises : RiseWithin 0 (number ∷ numbers) (own_number 0 d) =
    subst (λ l. RiseWithin 0 l (own_number 0 d)) (sym e) (numbers_rise 0 (TypeOf context term) d) in
    (IsBadNode number, subst (IsLeast number) e (first_is_least 0 (own_number 0 d) number numbers rises))

pub trees_are_judged : law.TreesAreJudged
trees_are_judged context term tree =
    let answer = answer_by context term (read_tree (length context) (kinds_of context) tree) _ refl in
    (answer.0, record { tree = tree; whole = refl; told = answer.1 })

pub certificates_are_judged : law.CertificatesAreJudged
certificates_are_judged bytes cert is =
    let tree = cert_tree cert is.fit is.whole in
    let judged = trees_are_judged (binds_of cert) (term_of cert.term.value) tree.0 in
    (judged.0, subst (λ l. IsJudged (binds_of cert) (term_of cert.term.value) l judged.0) tree.1 judged.1)

same_claims : (one other : CapturingType) → OfType one ≡ OfType other → one ≡ other
same_claims one other e = cc

same_numbers : (one other : ℕ) → one ≤ other → other ≤ one → one ≡ other
same_numbers one other h k = omega arith

answers_are_one : (context : Context) (term : Term) (d : Derivation) (answer other : Judgement)
    → IsAnswer context term d answer → IsAnswer context term d other → answer ≡ other
answers_are_one context term d (IsValidAt type) (IsValidAt other) h k = ap IsValidAt (same_claims type other (sym h.1 ∙ k.1))
answers_are_one context term d (IsValidAt type) (IsBadNode number) h k =
    contains_none number _ ((valid_typings 0 context term d).1 h.0) k.0
answers_are_one context term d (IsBadNode number) (IsValidAt type) h k =
    contains_none number _ ((valid_typings 0 context term d).1 k.0) h.0
answers_are_one context term d (IsBadNode number) (IsBadNode other) h k =
    ap IsBadNode (same_numbers number other (h.1 other k.0) (k.1 number h.0))

pub judgements_are_one : law.JudgementsAreOne
judgements_are_one context term nodes answer other h k =
    let same = one_tree k.tree h.tree (k.whole ∙ sym h.whole) in
    answers_are_one context term (read_tree (length context) (kinds_of context) h.tree) answer other h.told
    (subst (λ t. IsAnswer context term (read_tree (length context) (kinds_of context) t) other) same k.told)
