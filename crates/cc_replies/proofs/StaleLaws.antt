-- The commands of a job find one number of modules stale.
use Rattle.std.proofs.Common.{◌≡◌, ℕ, ◌+◌, Bool, true, false, List, [], ◌∷◌, map, Some, refl, sym, ap, subst, ◌∙◌, if◌then◌else◌}
use Rattle.std.specs.Option.{is_some}
use Rattle.std.specs.Map.{lookup}
use Rattle.std.specs.Prelude.{count_by, unwrap_or}
use Rattle.std.specs.Str.{bytes_eq}
use Rattle.std.proofs.lemmas.Slice.Eq.{bytes_eq-Decides}
use Rattle.cc_base.specs.declared.device.DeviceDecl.{DeviceDecl}
use Rattle.cc_graph.specs.Graph.{reaches}
use Rattle.cc_grammar.specs.Syntax.{ImportSyntax}
use Rattle.cc_judge.specs.Judgements.{Judgement, judgement_in, judgements, is_stale, stale_count}
use Rattle.cc_verdicts.specs.ModuleLaws.{NamesOfDevicesDiffer}
use Rattle.cc_verdicts.proofs.PresentLaws.{present_verdicts_exist, present_verdicts_are_unique}
use Rattle.cc_verdicts.specs.ModuleVerdicts.{Finding, InCycle, NoModule, ModuleVerdict}
use Rattle.cc_verdicts.specs.PresentTexts.{Texts, ArePresent, text_of, graph_of, finding_in, finding_for, findings_for, AreVerdicts}
use Rattle.cc_verdicts.specs.Readings.{imports_of}
use Rattle.cc_replies.specs.ReplyLaws.{StaleModulesAreCounted}
use Rattle.cc_replies.specs.Replies.{after}
use Rattle.cc_replies.specs.Requests.{Request, PutText, DropModule, SetPolicy, VerifyText, Ask, JobState}
use Rattle.cc_replies.specs.StaleModules.{Checks, FindsStale, AreStale, StaleModulesAreCountedOnce}
use Rattle.cc_replies.proofs.PresentAfter.{texts_stay_present}
use Rattle.cc_replies.proofs.ReplyLaws.{some_of, found_first, found_later}

-- verdicts that agree on the present modules
abbrev Agree : Texts → (List ℕ → ModuleVerdict) → (List ℕ → ModuleVerdict) → Type 0
Agree texts first second = (name : List ℕ) → is_some (text_of texts name) ≡ true → first name ≡ second name

chosen : {A : Type 0} (b : Bool) (x y z : A) → (b ≡ true → x ≡ y) → (if b then x else z) ≡ (if b then y else z)
chosen true x y z h = h refl
chosen false x y z h = refl

finding_alike : (texts : Texts) (first second : List ℕ → ModuleVerdict) → Agree texts first second → (name : List ℕ) (one : ImportSyntax)
    → finding_for texts first name one ≡ finding_for texts second name one
unfolding finding_for
finding_alike texts first second agree name one =
    chosen (is_some (text_of texts one.source))
    (if reaches (graph_of texts) one.source name then InCycle else finding_in (first one.source) one.name)
    (if reaches (graph_of texts) one.source name then InCycle else finding_in (second one.source) one.name)
    NoModule
    (λ there. ap (λ v. if reaches (graph_of texts) one.source name then InCycle else finding_in v one.name) (agree one.source there))

findings_alike : (texts : Texts) (first second : List ℕ → ModuleVerdict) → Agree texts first second → (name text : List ℕ)
    → findings_for texts first name text ≡ findings_for texts second name text
findings_alike texts first second agree name text =
    λ i. map (λ one. finding_alike texts first second agree name one i) (unwrap_or (imports_of text) [])

-- what is the same for each present module is the same for all
mapped_alike : {B : Type 0} (f g : List ℕ × List ℕ → B) (texts : Texts)
    → ((one : List ℕ × List ℕ) → is_some (text_of texts one.0) ≡ true → f one ≡ g one) → map f texts ≡ map g texts
mapped_alike f g [] alike = refl
mapped_alike f g (one ∷ others) alike =
    let here = alike one (found_first (bytes_eq one.0 one.0) one.1 (lookup (bytes_eq one.0) others) ((bytes_eq-Decides one.0 one.0).1 refl)) in
    let rest = mapped_alike f g others (λ other there. alike other (found_later (bytes_eq other.0 one.0) one.1 (lookup (bytes_eq other.0) others) there)) in
    λ i. here i ∷ rest i

judgement_alike : (texts : Texts) (first second : List ℕ → ModuleVerdict) → Agree texts first second → (one : List ℕ × List ℕ)
    → is_some (text_of texts one.0) ≡ true → judgement_in texts first one ≡ judgement_in texts second one
judgement_alike texts first second agree one there = λ i. record {
  name = one.0;
  text = one.1;
  findings = findings_alike texts first second agree one.0 one.1 i;
  verdict = agree one.0 there i;
}

judgements_alike : (texts : Texts) (first second : List ℕ → ModuleVerdict) → Agree texts first second
    → judgements texts first ≡ judgements texts second
judgements_alike texts first second agree =
    mapped_alike (judgement_in texts first) (judgement_in texts second) texts (judgement_alike texts first second agree)

stale_alike : (last : List Judgement) (texts : Texts) (first second : List ℕ → ModuleVerdict) → Agree texts first second
    → stale_count last texts first ≡ stale_count last texts second
stale_alike last texts first second agree =
    λ i. count_by (λ one. is_stale last one.0 one.1 (findings_alike texts first second agree one.0 one.1 i)) texts

all_agree : (devices : List DeviceDecl) (texts : Texts) (first second : List ℕ → ModuleVerdict) → ArePresent texts
    → AreVerdicts devices texts first → AreVerdicts devices texts second → Agree texts first second
all_agree devices texts first second sorted a b name there =
    let found = some_of (text_of texts name) there in present_verdicts_are_unique devices texts first second sorted a b name found.0 found.1

-- a request finds some number of modules stale
pub finds_exist : (devices : List DeviceDecl) (state : JobState) (last : List Judgement) (request : Request)
    → NamesOfDevicesDiffer devices → ArePresent state.texts
    → (count : ℕ) × (next : List Judgement) × FindsStale devices state last request count next
finds_exist devices state last (PutText name text) differ sorted = (0, last, (refl, refl))
finds_exist devices state last (DropModule name) differ sorted = (0, last, (refl, refl))
finds_exist devices state last (SetPolicy rules) differ sorted = (0, last, (refl, refl))
finds_exist devices state last (VerifyText text) differ sorted = (0, last, (refl, refl))
finds_exist devices state last (Ask question) differ sorted =
    let (verdicts, are) = present_verdicts_exist devices state.texts differ sorted in
    (stale_count last state.texts verdicts, judgements state.texts verdicts, (verdicts, are, refl, refl))

pub stale_exist : StaleModulesAreCounted
stale_exist devices state last [] differ sorted = (0, refl)
stale_exist devices state last (first ∷ others) differ sorted =
    let (count, next, finds) = finds_exist devices state last first differ sorted in
    let (later, are) = stale_exist devices (after state first) next others differ (texts_stay_present state first sorted) in
    (count + later, (count, next, later, finds, are, refl))

checks_alike : (devices : List DeviceDecl) (texts : Texts) (last : List Judgement) → ArePresent texts
    → (m n : ℕ) (a b : List Judgement) → Checks devices texts last m a → Checks devices texts last n b → (m ≡ n) × (a ≡ b)
checks_alike devices texts last sorted m n a b p q =
    let agree = all_agree devices texts p.0 q.0 sorted p.1 q.1 in (
      p.2 ∙ stale_alike last texts p.0 q.0 agree ∙ sym q.2,
      p.3 ∙ judgements_alike texts p.0 q.0 agree ∙ sym q.3,
    )

finds_alike : (devices : List DeviceDecl) (state : JobState) (last : List Judgement) (request : Request) → ArePresent state.texts
    → (m n : ℕ) (a b : List Judgement) → FindsStale devices state last request m a → FindsStale devices state last request n b
    → (m ≡ n) × (a ≡ b)
finds_alike devices state last (PutText name text) sorted m n a b p q = (p.0 ∙ sym q.0, p.1 ∙ sym q.1)
finds_alike devices state last (DropModule name) sorted m n a b p q = (p.0 ∙ sym q.0, p.1 ∙ sym q.1)
finds_alike devices state last (SetPolicy rules) sorted m n a b p q = (p.0 ∙ sym q.0, p.1 ∙ sym q.1)
finds_alike devices state last (VerifyText text) sorted m n a b p q = (p.0 ∙ sym q.0, p.1 ∙ sym q.1)
finds_alike devices state last (Ask question) sorted m n a b p q = checks_alike devices state.texts last sorted m n a b p q

pub stale_is_one : StaleModulesAreCountedOnce
stale_is_one devices state last [] first second sorted a b = a ∙ sym b
stale_is_one devices state last (one ∷ others) first second sorted a b =
    let (m, next, later, finds, are, sum) = a in
    let (n, next', later', finds', are', sum') = b in
    let same = finds_alike devices state last one sorted m n next next' finds finds' in
    let moved = subst (λ js. AreStale devices (after state one) js others later) same.1 are in
    let rest = stale_is_one devices (after state one) next' others later later' (texts_stay_present state one sorted) moved are' in
    sum ∙ (λ i. same.0 i + rest i) ∙ sym sum'
