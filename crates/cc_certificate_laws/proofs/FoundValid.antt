-- What is read back from the text of a valid derivation is judged to be valid.
use Rattle.std.proofs.Common.{◌≡◌, ◌<◌, ℕ, List, [], ◌∷◌, ◌++◌, map, length, sym, ap, subst, ◌∙◌, arith}
use Rattle.std.specs.Prelude.{Contains}
use Rattle.cc_core.specs.Terms.{Term}
use Rattle.cc_core.specs.Contexts.{Context}
use Rattle.cc_core.specs.WellFormed.{kinds_of}
use Rattle.cc_core.specs.Derivations.{OfType, Derivation, Concludes, IsValidTyping}
use Rattle.cc_derivation.specs.Rows.{TypeOf}
use Rattle.cc_derivation.specs.Broken.{broken, IsLeast}
use Rattle.cc_derivation.proofs.BrokenNodes.{valid_typings}
use Rattle.cc_certificate_text.specs.Certificates.{States, Concludes as ConcludesNode}
use Rattle.cc_certificate_judging.specs.CertificateParts.{bind_line, parts_lines, bound_context}
use Rattle.cc_certificate_judging.specs.Judging.{NodeTree, listed, read_tree, Judgement, IsValidAt, IsBadNode, IsJudged}
use Rattle.cc_certificate_judging.proofs.OneTree.{one_tree}
use Rattle.cc_certificate_judging.proofs.SameParts.{same_tail, same_parts}
use Rattle.cc_certificate_laws.specs.CertificateLaws.{IsPresentable}
use Rattle.cc_checking_laws.specs.AcceptedDefinitions.{definition_context, accepted_derived}
use Rattle.cc_core.specs.Shapes.{CapturingType}
use Rattle.cc_certificate_laws.proofs.DefinitionCertificates.{accepted_certifiable}
use Rattle.cc_certificate_laws.proofs.PresentableTypings.{valid_presentable}
use Rattle.cc_certificate_laws.proofs.WholeCertificates.{written_are_read_back}
use Rattle.cc_certificate_laws.proofs.ValidCertificates.{term_entries}
use Rattle.cc_certificate_laws.specs.JudgedCertificates.{written_tree, PartsAreReadBack, AnswersAs, WrittenCertificatesAreFoundValid, WrittenTreesAreReadBack, CertificatesOfDefinitionsAreFoundValid, TreesOfDefinitionsAreReadBack}
use Rattle.cc_certificate_laws.proofs.ReadTrees.{written_nodes, derivations_back}
use Rattle.cc_certificate_laws.proofs.ContextBinds.{binds_in, bound_are_binds, context_of_binds}

pub parts_back : PartsAreReadBack
parts_back names context term derivation binds stated listing open_context open_term valid done few text =
    let all = term_entries context open_context.entries in
    let can = subst (λ n. IsPresentable n 0 derivation) (sym open_context.each)
    (valid_presentable context term derivation all open_context.formed open_term.formed valid done) in
    let lines = written_are_read_back names context term derivation (parts_lines binds stated listing) open_context open_term can
    few text in
    let names_alike : written_tree (length names) 0 derivation ≡ written_tree (length context) 0 derivation =
    ap (λ n. written_tree n 0 derivation) open_context.each in
    let written : map bind_line binds ++ States stated ∷ map ConcludesNode listing
    ≡ map bind_line (binds_in names context) ++ States term ∷ map ConcludesNode (listed 0 (written_tree (length context) 0 derivation)) =
    same_tail lines
    ∙ (λ i. bound_are_binds names context all i
    ++ States term ∷ (written_nodes (length names) 0 0 derivation ∙ ap (λ tree. map ConcludesNode (listed 0 tree)) names_alike) i) in
    let parts = same_parts binds (binds_in names context) stated term listing (listed 0 (written_tree (length context) 0 derivation)) written in
    (ap bound_context parts.0 ∙ context_of_binds names context all, parts.1, parts.2)

contains_none : {B : Type 0} (number : ℕ) (numbers : List ℕ) → numbers ≡ [] → Contains numbers number → B
contains_none number numbers e h = let at : h.0 < length numbers = h.1 in absurd (omega (arith, ap length e, at))

answered : (context : Context) (term : Term) (derivation : Derivation) (tree : NodeTree) (answer : Judgement)
    → IsValidTyping context term derivation → read_tree (length context) (kinds_of context) tree ≡ derivation
    → IsJudged context term (listed 0 tree) answer → AnswersAs derivation answer
answered context term derivation tree (IsValidAt type) valid back judged =
    let same = one_tree judged.tree tree judged.whole in
    subst (λ d. Concludes d (OfType type))
    (ap (read_tree (length context) (kinds_of context)) same ∙ back) judged.told.1
answered context term derivation tree (IsBadNode number) valid back judged =
    let same = one_tree judged.tree tree judged.whole in
    let least = subst (λ d. IsLeast number (broken 0 (TypeOf context term) d))
    (ap (read_tree (length context) (kinds_of context)) same ∙ back) judged.told in
    contains_none number _ ((valid_typings 0 context term derivation).1 valid) least.0

pub found_valid : WrittenCertificatesAreFoundValid
found_valid names context term derivation binds stated listing answer open_context open_term valid done few text judged =
    let parts = parts_back names context term derivation binds stated listing open_context open_term valid done few text in
    let all = term_entries context open_context.entries in
    let here = subst (λ g. IsJudged g stated listing answer) parts.0 judged in
    let stated_here = subst (λ t. IsJudged context t listing answer) parts.1 here in
    let listed_here = subst (λ l. IsJudged context term l answer) parts.2 stated_here in
    answered context term derivation (written_tree (length context) 0 derivation) answer valid
    (derivations_back context term derivation all open_context.formed open_term.formed valid done) listed_here

pub tree_back : WrittenTreesAreReadBack
tree_back names context term derivation binds stated tree open_context open_term valid done few text =
    let parts = parts_back names context term derivation binds stated (listed 0 tree) open_context open_term valid done few
    text in
    let all = term_entries context open_context.entries in
    let same = one_tree tree (written_tree (length context) 0 derivation) parts.2 in
    (λ i. read_tree (length (parts.0 i)) (kinds_of (parts.0 i)) (same i))
    ∙ derivations_back context term derivation all open_context.formed open_term.formed valid done

same_type : {t u : CapturingType} → OfType t ≡ OfType u → t ≡ u
same_type e = cc

type_told : (derivation : Derivation) (wanted : CapturingType) (answer : Judgement)
    → Concludes derivation (OfType wanted) → AnswersAs derivation answer → answer ≡ IsValidAt wanted
type_told derivation wanted (IsValidAt type) concludes told = ap IsValidAt (same_type (sym told ∙ concludes))
type_told derivation wanted (IsBadNode number) concludes told = absurd told

pub definitions_found_valid : CertificatesOfDefinitionsAreFoundValid
definitions_found_valid devices globals definition accepted names binds stated listing answer fits verdict limits text judged =
    let g = definition_context globals definition accepted.signature in
    let can = accepted_certifiable devices globals definition accepted names fits verdict limits in
    type_told (accepted_derived g accepted) accepted.signature answer can.concludes
    (found_valid names g accepted.filled (accepted_derived g accepted) binds stated listing answer can.context can.term can.valid
    can.done limits.few text judged)

pub tree_of_definition_back : TreesOfDefinitionsAreReadBack
tree_of_definition_back devices globals definition accepted names binds stated tree fits verdict limits text =
    let g = definition_context globals definition accepted.signature in
    let can = accepted_certifiable devices globals definition accepted names fits verdict limits in
    tree_back names g accepted.filled (accepted_derived g accepted) binds stated tree can.context can.term can.valid can.done
    limits.few text
