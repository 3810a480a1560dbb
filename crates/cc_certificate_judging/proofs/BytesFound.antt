-- Something is found of any bytes, and one thing alone.
use Rattle.std.proofs.Common.{◌≡◌, ℕ, suc, List, [], ◌∷◌, ◌++◌, map, refl, sym, ap, subst, ◌∙◌, ⊎_elim}
use Rattle.cc_core.specs.Shapes.{CapturingType}
use Rattle.cc_core.specs.Terms.{Term}
use Rattle.cc_core.specs.Contexts.{Context, entry_of}
use Rattle.cc_certificate_text.specs.Certificates.{CertificateNode, Line, Opens, Binds, States, Concludes, Start, Binding, Proving, used_up, AllFit, IsWhole, behind_lines, IsCertificate, IsBadLine}
use Rattle.cc_certificate_text.proofs.Certified.{certificate_or_bad_line, one_certificate, one_bad_line, never_both}
use Rattle.cc_certificate_judging.specs.CertificateParts.{CertificateBind, bind_line, parts_lines, bound_context, bound_names}
use Rattle.cc_certificate_judging.specs.Judging.{Judgement, IsValidAt, IsBadNode, IsJudged}
use Rattle.cc_certificate_judging.specs.Answers.{Found, ProvesType, HasBadLine, HasBadNode, IsProof, IsBroken, IsFound}
use Rattle.cc_certificate_judging.specs.AnswerLaws as law
use Rattle.cc_certificate_judging.proofs.FormedAnswers.{parts_have_type}
use Rattle.cc_certificate_judging.proofs.OneJudgement.{trees_are_judged, judgements_are_one}
use Rattle.cc_certificate_judging.proofs.PartsTrees.{parts_tree}
use Rattle.cc_certificate_judging.proofs.SameParts.{same_tail, same_parts}

-- lines of nodes
nodes_in : (names : List (List ℕ)) (count : ℕ) (unused : List ℕ) (lines : List Line) → AllFit (Proving names count unused) lines
    → (nodes : List CertificateNode) × (lines ≡ map Concludes nodes)
nodes_in names count unused [] fit = ([], refl)
nodes_in names count unused (Opens ∷ lines) fit = absurd fit.0
nodes_in names count unused (Binds name type ∷ lines) fit = absurd fit.0
nodes_in names count unused (States term ∷ lines) fit = absurd fit.0
nodes_in names count unused (Concludes node ∷ lines) fit =
    let rest = nodes_in names (suc count) (used_up unused node (suc count)) lines fit.1 in
    (node ∷ rest.0, ap (λ l. Concludes node ∷ l) rest.1)

-- the parts of whole lines behind the first
record Parts (lines : List Line) : Type 0 where
  binds : List CertificateBind
  term : Term
  nodes : List CertificateNode
  are : lines ≡ map bind_line binds ++ States term ∷ map Concludes nodes

parts_in : (names : List (List ℕ)) (context : Context) (lines : List Line) → AllFit (Binding names context) lines
    → IsWhole (behind_lines (Binding names context) lines) → Parts lines
parts_in names context [] fit whole = absurd whole
parts_in names context (Opens ∷ lines) fit whole = absurd fit.0
parts_in names context (Binds name type ∷ lines) fit whole =
    let rest = parts_in (names ++ name ∷ []) (entry_of type ∷ context) lines fit.1 whole in
    record { binds = (name, type) ∷ rest.binds; term = rest.term; nodes = rest.nodes; are = ap (λ l. Binds name type ∷ l) rest.are }
parts_in names context (States term ∷ lines) fit whole =
    let rest = nodes_in names 0 [] lines fit.1 in
    record { binds = []; term = term; nodes = rest.0; are = ap (λ l. States term ∷ l) rest.1 }
parts_in names context (Concludes node ∷ lines) fit whole = absurd fit.0

-- what is found of a certificate with these parts
module _ (bytes : List ℕ) (binds : List CertificateBind) (term : Term) (nodes : List CertificateNode)
    (is : IsCertificate bytes (parts_lines binds term nodes)) where
  judged_found : (judgement : Judgement) → IsJudged (bound_context binds) term nodes judgement → (found : Found) × IsFound bytes found
  judged_found (IsValidAt type) judged = (
    ProvesType (bound_names binds) type,
    record {
      binds = binds;
      term = term;
      nodes = nodes;
      certificate = is;
      named = refl;
      judged = judged;
      typed = parts_have_type binds term nodes type is.fit judged;
    },
  )
  judged_found (IsBadNode number) judged =
      (HasBadNode number, record { binds = binds; term = term; nodes = nodes; certificate = is; judged = judged })

  parts_found : (found : Found) × IsFound bytes found
  parts_found =
      let tree = parts_tree binds term nodes is.fit is.whole in
      let judged = trees_are_judged (bound_context binds) term tree.0 in
      judged_found judged.0 (subst (λ l. IsJudged (bound_context binds) term l judged.0) tree.1 judged.1)

lines_found : (bytes : List ℕ) (lines : List Line) → AllFit Start lines → IsWhole (behind_lines Start lines)
    → IsCertificate bytes lines → (found : Found) × IsFound bytes found
lines_found bytes [] fit whole is = absurd whole
lines_found bytes (Opens ∷ lines) fit whole is =
    let parts = parts_in [] [] lines fit.1 whole in
    parts_found bytes parts.binds parts.term parts.nodes (subst (λ l. IsCertificate bytes (Opens ∷ l)) parts.are is)
lines_found bytes (Binds name type ∷ lines) fit whole is = absurd fit.0
lines_found bytes (States term ∷ lines) fit whole is = absurd fit.0
lines_found bytes (Concludes node ∷ lines) fit whole is = absurd fit.0

pub something_is_found : law.SomethingIsFound
something_is_found bytes =
    ⊎_elim (λ one. lines_found bytes one.0 one.1.fit one.1.whole one.1) (λ bad. (HasBadLine bad.0, bad.1))
    (certificate_or_bad_line bytes)

-- ---- one thing
judged_once : (bytes : List ℕ) (binds others : List CertificateBind) (term stated : Term) (nodes listing : List CertificateNode)
    (judgement other : Judgement)
    → IsCertificate bytes (parts_lines binds term nodes) → IsCertificate bytes (parts_lines others stated listing)
    → IsJudged (bound_context binds) term nodes judgement → IsJudged (bound_context others) stated listing other
    → (binds ≡ others) × (judgement ≡ other)
judged_once bytes binds others term stated nodes listing judgement other is are h k =
    let same = same_parts binds others term stated nodes listing (same_tail (one_certificate bytes _ _ is are)) in
    let bound = subst (λ l. IsJudged (bound_context l) stated listing other) (sym same.0) k in
    let said = subst (λ t. IsJudged (bound_context binds) t listing other) (sym same.1) bound in
    let here = subst (λ l. IsJudged (bound_context binds) term l other) (sym same.2) said in
    (same.0, judgements_are_one (bound_context binds) term nodes judgement other h here)

same_type : (type other : CapturingType) → IsValidAt type ≡ IsValidAt other → type ≡ other
same_type type other e = cc

same_number : (number other : ℕ) → IsBadNode number ≡ IsBadNode other → number ≡ other
same_number number other e = cc

never_valid : {B : Type 0} (type : CapturingType) (number : ℕ) → IsValidAt type ≡ IsBadNode number → B
never_valid type number e = cc

proof_and_broken : {B : Type 0} (bytes : List ℕ) (names : List (List ℕ)) (type : CapturingType) (number : ℕ)
    → IsProof bytes names type → IsBroken bytes number → B
proof_and_broken bytes names type number h k =
    let once = judged_once bytes h.binds k.binds h.term k.term h.nodes k.nodes (IsValidAt type) (IsBadNode number) h.certificate
    k.certificate h.judged k.judged in
    never_valid type number once.1

pub one_thing_is_found : law.OneThingIsFound
one_thing_is_found bytes (ProvesType names type) (ProvesType others other) h k =
    let once = judged_once bytes h.binds k.binds h.term k.term h.nodes k.nodes (IsValidAt type) (IsValidAt other) h.certificate
    k.certificate h.judged k.judged in
    let named : names ≡ others = sym h.named ∙ (ap bound_names once.0 ∙ k.named) in
    let typed : type ≡ other = same_type type other once.1 in
    λ i. ProvesType (named i) (typed i)
one_thing_is_found bytes (ProvesType names type) (HasBadLine line) h k = absurd (never_both bytes _ line h.certificate k)
one_thing_is_found bytes (ProvesType names type) (HasBadNode number) h k = proof_and_broken bytes names type number h k
one_thing_is_found bytes (HasBadLine line) (ProvesType names type) h k = absurd (never_both bytes _ line k.certificate h)
one_thing_is_found bytes (HasBadLine line) (HasBadLine other) h k = ap HasBadLine (one_bad_line bytes line other h k)
one_thing_is_found bytes (HasBadLine line) (HasBadNode number) h k = absurd (never_both bytes _ line k.certificate h)
one_thing_is_found bytes (HasBadNode number) (ProvesType names type) h k = proof_and_broken bytes names type number k h
one_thing_is_found bytes (HasBadNode number) (HasBadLine line) h k = absurd (never_both bytes _ line h.certificate k)
one_thing_is_found bytes (HasBadNode number) (HasBadNode other) h k =
    let once = judged_once bytes h.binds k.binds h.term k.term h.nodes k.nodes (IsBadNode number) (IsBadNode other) h.certificate
    k.certificate h.judged k.judged in
    ap HasBadNode (same_number number other once.1)
