-- The elements of the outermost set of a signature have explanations, and one each.
use Rattle.std.proofs.Common.{◌≡◌, ℕ, suc, Bool, true, false, ◌&&◌, ◌==◌, List, [], ◌∷◌, length, Some, None, Result, Ok, Err, refl, sym, ap, subst, ◌∙◌, arith}
use Rattle.std.specs.List.{Contains}
use Rattle.std.specs.Str.{bytes_eq}
use Rattle.std.proofs.lemmas.Bool.{eq-eqb, eqb-true}
use Rattle.std.proofs.lemmas.Slice.Eq.{bytes_eq-Decides}
use Rattle.cc_base.specs.declared.code.Code.{Code}
use Rattle.cc_base.specs.declared.device.DeviceDecl.{DeviceDecl}
use Rattle.cc_capture.proofs.Membership.{Member-list}
use Rattle.cc_capture.specs.declared.var.Elem.{Elem}
use Rattle.cc_explain.specs.Chains.{IsFirstShortest}
use Rattle.cc_entry_laws.proofs.Linked.{elements_are_linked}
use Rattle.cc_entry_laws.specs.PresentLinks.{Target, DefinitionOf, DeviceAt, Universal, element_of, entry_or_none, entry_in}
use Rattle.cc_verdicts.specs.ModuleLaws.{NamesOfDevicesDiffer}
use Rattle.cc_verdicts.specs.ModuleVerdicts.{ModuleVerdict}
use Rattle.cc_verdicts.specs.PresentTexts.{Texts, ArePresent, AreVerdicts}
use Rattle.cc_verdicts.specs.StandingDefinitions.{Standing, standing_in}
use Rattle.cc_replies.proofs.FirstChains.{first_chains_are_one, first_chains_exist}
use Rattle.cc_replies.specs.ExplainReplies.{Explains, AreExplained, IsExplainAnswer}
use Rattle.cc_replies.specs.ReplyTexts.{Reply, Explanation, Explained, ExplainRefused}

-- TARGETS ARE TOLD APART
-- whether two targets are the same
abbrev pub same_target : Target → Target → Bool
same_target (DefinitionOf m n) (DefinitionOf o p) = bytes_eq m o && bytes_eq n p
same_target (DefinitionOf m n) (DeviceAt b) = false
same_target (DefinitionOf m n) Universal = false
same_target (DeviceAt a) (DefinitionOf o p) = false
same_target (DeviceAt a) (DeviceAt b) = a == b
same_target (DeviceAt a) Universal = false
same_target Universal (DefinitionOf o p) = false
same_target Universal (DeviceAt b) = false
same_target Universal Universal = true

both : (a b : Bool) → (a && b) ≡ true → (a ≡ true) × (b ≡ true)
both true true h = (refl, refl)
both true false h = cc
both false b h = cc

pub same_target-true : (a b : Target) → same_target a b ≡ true → a ≡ b
same_target-true (DefinitionOf m n) (DefinitionOf o p) h =
    let parts = both (bytes_eq m o) (bytes_eq n p) h in
    let modules = (bytes_eq-Decides m o).0 parts.0 in
    let names = (bytes_eq-Decides n p).0 parts.1 in
    λ i. DefinitionOf (modules i) (names i)
same_target-true (DefinitionOf m n) (DeviceAt b) h = cc
same_target-true (DefinitionOf m n) Universal h = cc
same_target-true (DeviceAt a) (DefinitionOf o p) h = cc
same_target-true (DeviceAt a) (DeviceAt b) h = ap (λ n. DeviceAt n) (eqb-true a b h)
same_target-true (DeviceAt a) Universal h = cc
same_target-true Universal (DefinitionOf o p) h = cc
same_target-true Universal (DeviceAt b) h = cc
same_target-true Universal Universal h = refl

pub same_target-itself : (a : Target) → same_target a a ≡ true
same_target-itself (DefinitionOf m n) = rw ((bytes_eq-Decides m m).1 refl, (bytes_eq-Decides n n).1 refl) refl
same_target-itself (DeviceAt a) = eq-eqb a a refl
same_target-itself Universal = refl

-- ONE EXPLANATION

-- targets that are one element are one
one_element : (a b : Target) (e : Elem) → element_of a ≡ Some e → element_of b ≡ Some e → a ≡ b
one_element (DefinitionOf m n) b e x y = cc
one_element (DeviceAt a) (DefinitionOf o p) e x y = cc
one_element (DeviceAt a) (DeviceAt b) e x y = ap (λ n. DeviceAt n) (by_elements (x ∙ sym y))
  where
    by_elements : element_of (DeviceAt a) ≡ element_of (DeviceAt b) → a ≡ b
    by_elements h = cc
one_element (DeviceAt a) Universal e x y = cc
one_element Universal (DefinitionOf o p) e x y = cc
one_element Universal (DeviceAt b) e x y = cc
one_element Universal Universal e x y = refl

explained_once : (entry : Target → List Target) (from : Target) (elements : List Elem) (one other : List Explanation)
    → AreExplained entry from elements one → AreExplained entry from elements other → one ≡ other
explained_once entry from [] one other x y = x ∙ sym y
explained_once entry from (element ∷ elements) one other (it, later, explains, are, is) (it', later', explains', are', is') =
    let target : it.target ≡ it'.target = one_element it.target it'.target element explains.is_element explains'.is_element in
    let chain : it.chain ≡ it'.chain =
    first_chains_are_one Target same_target same_target-true same_target-itself entry from it.target it.chain it'.chain explains.has_chain
    (subst (λ t. IsFirstShortest entry from t it'.chain) (sym target) explains'.has_chain) in
    let rest = explained_once entry from elements later later' are are' in
    is ∙ (λ i. record { target = target i; chain = chain i } ∷ rest i) ∙ sym is'

-- entries are by the definitions that stand
same_entries : (devices : List DeviceDecl) (texts : Texts) (first second : List ℕ → ModuleVerdict)
    → ((module_name name : List ℕ) → standing_in texts first module_name name ≡ standing_in texts second module_name name)
    → entry_in devices texts first ≡ entry_in devices texts second
same_entries devices texts first second same = λ i target. at target i
  where
    at : (target : Target) → entry_in devices texts first target ≡ entry_in devices texts second target
    at (DefinitionOf module_name name) = ap (entry_or_none devices module_name) (same module_name name)
    at (DeviceAt number) = refl
    at Universal = refl

same_standing : (it again : Standing) → ◌≡◌ {A = Result Standing Code} (Ok it) (Ok again) → it ≡ again
same_standing it again h = cc

same_refusal : (code again : Code) → ◌≡◌ {A = Result Standing Code} (Err code) (Err again) → code ≡ again
same_refusal code again h = cc

pub explain_alike : (devices : List DeviceDecl) (texts : Texts) (first second : List ℕ → ModuleVerdict)
    → ((module_name name : List ℕ) → standing_in texts first module_name name ≡ standing_in texts second module_name name)
    → (module_name name : List ℕ) (r s : Result Standing Code) (one other : Reply) → r ≡ s
    → IsExplainAnswer devices texts first module_name name r one
    → IsExplainAnswer devices texts second module_name name s other → one ≡ other
explain_alike devices texts first second same module_name name (Ok it) (Ok again) one other alike x y =
    let entries = same_entries devices texts first second same in
    let it_same = same_standing it again alike in
    let from = DefinitionOf module_name name in
    let moved = subst (λ entry. AreExplained entry from again.definition.accepted.signature.set.list y.0) (sym entries) y.1 in
    let here = subst (λ (s : Standing). AreExplained (entry_in devices texts first) from s.definition.accepted.signature.set.list y.0) (sym it_same) moved in
    x.2 ∙ ap (λ es. Explained module_name name es)
    (explained_once (entry_in devices texts first) from it.definition.accepted.signature.set.list x.0 y.0 x.1 here) ∙ sym y.2
explain_alike devices texts first second same module_name name (Ok it) (Err code) one other alike x y = cc
explain_alike devices texts first second same module_name name (Err code) (Ok again) one other alike x y = cc
explain_alike devices texts first second same module_name name (Err code) (Err again) one other alike x y =
    x ∙ ap (λ c. ExplainRefused module_name name c) (same_refusal code again alike) ∙ sym y

-- EACH IS EXPLAINED

explained_all : (entry : Target → List Target) (from : Target) (elements : List Elem)
    → ((element : Elem) → Contains elements element → (it : Explanation) × Explains entry from element it)
    → (explanations : List Explanation) × AreExplained entry from elements explanations
explained_all entry from [] each = ([], refl)
explained_all entry from (element ∷ elements) each =
    let (it, explains) = each element (0, omega arith, refl) in
    let (later, are) = explained_all entry from elements (λ other among. each other (behind other among)) in
    (it ∷ later, (it, later, explains, are, refl))
  where
    behind : (other : Elem) → Contains elements other → Contains (element ∷ elements) other
    behind other (k, below, is) = (suc k, omega arith, is)

pub explain_answer : (devices : List DeviceDecl) (texts : Texts) (verdicts : List ℕ → ModuleVerdict) → NamesOfDevicesDiffer devices
    → ArePresent texts → AreVerdicts devices texts verdicts → (module_name name : List ℕ) (r : Result Standing Code)
    → standing_in texts verdicts module_name name ≡ r → (reply : Reply) × IsExplainAnswer devices texts verdicts module_name name r reply
explain_answer devices texts verdicts differ sorted are module_name name (Ok it) stands =
    let entry = entry_in devices texts verdicts in
    let from = DefinitionOf module_name name in
    let set = it.definition.accepted.signature.set in
    let (explanations, is) = explained_all entry from set.list (λ element among.
    let linked = (elements_are_linked devices texts verdicts differ sorted are module_name name it stands element).0 ((Member-list element set).1 among) in
    let (chain, first) = first_chains_exist Target same_target same_target-true same_target-itself entry linked.0 from linked.1 linked.3 in
    (record { target = linked.0; chain = chain }, record { is_element = linked.2; has_chain = first })) in
    (Explained module_name name explanations, (explanations, is, refl))
explain_answer devices texts verdicts differ sorted are module_name name (Err code) stands = (ExplainRefused module_name name code, refl)
