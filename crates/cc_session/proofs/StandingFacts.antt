-- Definitions where they stand, by the last judgements of a session.
use Rattle.std.proofs.Common.{◌≡◌, ◌<◌, ◌+◌, ℕ, true, false, List, [], ◌∷◌, ◌++◌, length, map, take, get_or, Option, Some, None, Result, Ok, Err}
use Rattle.std.proofs.Common.{refl, sym, ap, ◌∙◌, subst, inl, inr, arith}
use Rattle.std.specs.Prelude.{zero, suc, IfOk}
use Rattle.std.proofs.lemmas.Bool.{cases_Bool, or_parts}
use Rattle.std.proofs.lemmas.Cmp.{nat_list_eq_equiv}
use Rattle.std.proofs.lemmas.List.{take_more}
use Rattle.std.proofs.lemmas.Map.Keys.{IsDistinct-head, IsDistinct-tail}
use Rattle.std.proofs.lemmas.Map.Entries.{length-keys_of}
use Rattle.std.proofs.lemmas.Option.{same_Some, slice_get_read, slice_get_within}
use Rattle.std.specs.List.{AllByRecursion, IsDistinct, list_any, slice_get}
use Rattle.std.specs.List.Sorted.{IsStrictlySortedBy}
use Rattle.std.specs.Map.{keys_of}
use Rattle.std.specs.Option.{option_map, unwrap_or}
use Rattle.std.specs.Str.{bytes_eq}
use Rattle.cc_base.specs.declared.code.Code.{Code}
use Rattle.cc_base.specs.declared.code.Code.TheVariants.{E32, E34}
use Rattle.cc_base.specs.declared.device.DeviceDecl.{DeviceDecl}
use Rattle.cc_base.specs.declared.place.Place.{Place}
use Rattle.cc_check.specs.Definitions.{accepted_of}
use Rattle.cc_core.specs.TermViews.{context_of}
use Rattle.cc_derive.specs.Accepting.{IsAcceptedIn}
use Rattle.cc_base.specs.Names.{compare_names}
use Rattle.cc_graph.proofs.NameLemmas.{same_name, is_same_name}
use Rattle.cc_judge.specs.declared.grounds.Grounds.{Grounds}
use Rattle.cc_judge.specs.Judgements.{Judgement, judgement_in, AreCurrent}
use Rattle.cc_judge.specs.Kept.{judged_on, judgements_from}
use Rattle.cc_judge.specs.Places.{IsAbsentKey}
use Rattle.cc_judge.proofs.TextPlaces.{distinct_keys}
use Rattle.cc_checking_laws.specs.AcceptedDefinitions.{definition_context}
use Rattle.cc_verdicts.specs.ModuleLaws.{NamesOfDevicesDiffer}
use Rattle.cc_verdicts.specs.ModuleVerdicts.{CheckedDefinition, ModuleVerdict, IsAccepted, IsRefused}
use Rattle.cc_verdicts.specs.PresentTexts.{Texts, ArePresent, text_of, AreVerdicts}
use Rattle.cc_verdicts.specs.Readings.{imports_of}
use Rattle.cc_verdicts.specs.StandingDefinitions.{Standing, first_named, standing_by, standing_from, standing_in}
use Rattle.cc_verdicts.proofs.FoundStanding.{found_by_texts}
use Rattle.cc_verdicts.proofs.PlacedDefinitions.{standing_accepted}
use Rattle.cc_module.specs.declared.judgement.CheckedDef.{CheckedDef}
use Rattle.cc_module.specs.declared.judgement.ModuleVerdict.{ModuleVerdict as DeclaredVerdict}
use Rattle.cc_module.specs.Findings.{finding_of}
use Rattle.cc_module.specs.Judgements.{checked_definition_of, module_verdict_of}
use Rattle.cc_checking.specs.Verdicts.{Accepted, HasVerdict}
use Rattle.cc_checking.specs.Verdicts as definitions
use Rattle.cc_session.specs.StandingAnswers.{IsStanding, AnswersStanding, judgement_named, standing_judged, standing_last}
use Rattle.cc_session.specs.declared.standing.Standing.{Standing as DeclaredStanding}
use Rattle.cc_session.specs.declared.standing.StandingError.{StandingError}
use Rattle.cc_session.proofs.SessionFacts.{apart_at}

-- ---- the judgement of a name
pub judgement_at : (verdicts : List (List ℕ × DeclaredVerdict)) (grounds : List Grounds) (at : ℕ) (name : List ℕ)
    (entry : List ℕ × DeclaredVerdict) (ground : Grounds) → length grounds ≡ length verdicts
    → IsDistinct bytes_eq (keys_of verdicts) → slice_get (keys_of verdicts) at ≡ Some name
    → slice_get verdicts at ≡ Some entry → slice_get grounds at ≡ Some ground
    → judgement_named name (judgements_from verdicts grounds) ≡ Some (judged_on entry ground)
judgement_at [] grounds at name entry ground same distinct named stands on = cc
judgement_at (first ∷ rest) [] at name entry ground same distinct named stands on = absurd (omega arith)
judgement_at (first ∷ rest) (one ∷ more) zero name entry ground same distinct named stands on =
    rw (is_same_name name first.0 (sym (same_Some first.0 name named)))
    (let alike = same_Some first entry stands in
    let based = same_Some one ground on in
    (λ j. Some (judged_on (alike j) (based j))))
judgement_at (first ∷ rest) (one ∷ more) (suc at) name entry ground same distinct named stands on =
    let apart : bytes_eq name first.0 ≡ false =
    nat_list_eq_equiv.symm name first.0
    ∙ apart_at (keys_of rest) first.0 name at (IsDistinct-head bytes_eq first.0 (keys_of rest) distinct) named in
    rw apart
    (judgement_at rest more at name entry ground (omega arith)
    (IsDistinct-tail bytes_eq first.0 (keys_of rest) distinct) named stands on)

pub judgement_absent : (verdicts : List (List ℕ × DeclaredVerdict)) (grounds : List Grounds) (name : List ℕ)
    → length grounds ≡ length verdicts → IsAbsentKey (keys_of verdicts) name
    → judgement_named name (judgements_from verdicts grounds) ≡ None
judgement_absent [] grounds name same absent = refl
judgement_absent (first ∷ rest) [] name same absent = absurd (omega arith)
judgement_absent (first ∷ rest) (one ∷ more) name same absent =
    let parts = or_parts (bytes_eq name first.0) (list_any (bytes_eq name) (keys_of rest)) absent in
    rw parts.0 (judgement_absent rest more name (omega arith) parts.1)

-- some grounds stand at the place
grounds_at : (grounds : List Grounds) (at : ℕ) → at < length grounds
    → (ground : Grounds) × (slice_get grounds at ≡ Some ground)
grounds_at [] at below = absurd (omega arith)
grounds_at (ground ∷ grounds) zero below = (ground, refl)
grounds_at (ground ∷ grounds) (suc at) below = grounds_at grounds at (omega arith)

module _ (verdicts : List (List ℕ × DeclaredVerdict)) (grounds : List Grounds)
    (same : length grounds ≡ length verdicts) where
  pub last_absent : (module_name name : List ℕ) → IsAbsentKey (keys_of verdicts) module_name
      → standing_last (judgements_from verdicts grounds) module_name name ≡ Err E32
  last_absent module_name name absent =
      ap (standing_judged name) (judgement_absent verdicts grounds module_name same absent)

  module _ (sorted : IsStrictlySortedBy compare_names (keys_of verdicts)) (at : ℕ) (module_name : List ℕ)
      (named : slice_get (keys_of verdicts) at ≡ Some module_name) (entry : List ℕ × DeclaredVerdict)
      (is : entry ≡ get_or verdicts at entry) where
    within : at < length verdicts
    within = omega (arith, slice_get_within (keys_of verdicts) at module_name named, length-keys_of verdicts)

    judged : (ground : Grounds) → ground ≡ get_or grounds at ground
        → judgement_named module_name (judgements_from verdicts grounds) ≡ Some (judged_on entry ground)
    judged ground on =
        judgement_at verdicts grounds at module_name entry ground same (distinct_keys verdicts sorted) named
        (slice_get_read verdicts (length verdicts) at entry refl within is)
        (slice_get_read grounds (length grounds) at ground refl (let there = within in omega (arith, there)) on)

    pub last_accepted : (ground : Grounds) → ground ≡ get_or grounds at ground
        → (definitions : List CheckedDefinition) → module_verdict_of entry.1 ≡ IsAccepted definitions
        → (name : List ℕ)
        → standing_by (unwrap_or (imports_of ground.text) []) (map finding_of ground.findings) (IsAccepted definitions)
        name
        ≡ standing_last (judgements_from verdicts grounds) module_name name
    last_accepted ground on definitions accepted name =
        sym (ap (standing_judged name) (judged ground on)
        ∙ ap (λ v. standing_by (unwrap_or (imports_of ground.text) []) (map finding_of ground.findings) v name) accepted)

    pub last_refused : (code : Code) (place : Place) → module_verdict_of entry.1 ≡ IsRefused code place
        → (name : List ℕ) → standing_last (judgements_from verdicts grounds) module_name name ≡ Err E34
    last_refused code place refused name =
        let (ground, on) = grounds_at grounds at (let there = within in omega (arith, there)) in
        ap (standing_judged name)
        (judgement_at verdicts grounds at module_name entry ground same (distinct_keys verdicts sorted) named
        (slice_get_read verdicts (length verdicts) at entry refl within is) on)
        ∙ ap (λ v. standing_by (unwrap_or (imports_of ground.text) []) (map finding_of ground.findings) v name) refused

judgement_by_text : (texts : Texts) (all : List ℕ → ModuleVerdict) (name : List ℕ) (judged : Texts)
    → judgement_named name (map (judgement_in texts all) judged)
    ≡ option_map (λ text. judgement_in texts all (name, text)) (text_of judged name)
judgement_by_text texts all name [] = refl
judgement_by_text texts all name (first ∷ rest) =
    elim (cases_Bool (bytes_eq name first.0)) [
      | inl same ↦
          rw same (ap (λ n. Some (judgement_in texts all (n, first.1))) (sym (same_name name first.0 same)))
      | inr other ↦ rw other (judgement_by_text texts all name rest)
    ]

-- ---- what is found by the last judgements is what the verdicts of the texts say
standing_of_text : (texts : Texts) (all : List ℕ → ModuleVerdict) (module_name name : List ℕ) (text : Option (List ℕ))
    → standing_judged name (option_map (λ t. judgement_in texts all (module_name, t)) text)
    ≡ standing_from texts all module_name name text
standing_of_text texts all module_name name None = refl
standing_of_text texts all module_name name (Some text) = refl

pub stands_by_last : (devices : List DeviceDecl) (texts : Texts) (last : List Judgement) → ArePresent texts
    → AreCurrent devices texts last → (all : List ℕ → ModuleVerdict) → AreVerdicts devices texts all
    → (module_name name : List ℕ) → standing_last last module_name name ≡ standing_in texts all module_name name
stands_by_last devices texts last sorted (some, are, same) all others module_name name =
    ap (λ l. standing_last l module_name name) same
    ∙ ap (standing_judged name) (judgement_by_text texts some module_name texts)
    ∙ standing_of_text texts some module_name name (text_of texts module_name)
    ∙ found_by_texts devices texts some all sorted are others module_name name

-- what is answered is accepted where it stands
accepted_standing : (devices : List DeviceDecl) (texts : Texts) (last : List Judgement) → NamesOfDevicesDiffer devices
    → ArePresent texts → AreCurrent devices texts last → (module_name name : List ℕ) (it : Standing)
    → standing_last last module_name name ≡ Ok it → (answer : DeclaredStanding) → IsStanding devices it answer
    → IsAcceptedIn (context_of answer.ctx) answer.def.now.checked
accepted_standing devices texts last differ sorted (all, are, same) module_name name it found answer is =
    let at = sym (stands_by_last devices texts last sorted (all, are, same) all are module_name name) ∙ found in
    let (globals, definition, fits, has, context) =
    standing_accepted devices texts all module_name name it differ sorted are at in
    let accepted : it.definition.accepted ≡ accepted_of answer.def.now.checked =
    sym (ap (λ (d : CheckedDefinition). d.accepted) is.definition) in
    record {
      devices = length devices;
      globals = globals;
      definition = definition;
      fits = fits;
      accepted =
          subst (λ (a : Accepted). HasVerdict (length devices) globals definition (definitions.IsAccepted a)) accepted
          has;
      is =
          is.context ∙ context
          ∙ ap (λ (a : Accepted). definition_context globals definition a.signature) accepted;
    }

pub accepted_answer : (devices : List DeviceDecl) (texts : Texts) (last : List Judgement)
    → NamesOfDevicesDiffer devices → ArePresent texts → AreCurrent devices texts last → (module_name name : List ℕ)
    (answer : Result DeclaredStanding StandingError)
    → AnswersStanding devices (standing_last last module_name name) answer
    → IfOk answer (λ standing. IsAcceptedIn (context_of standing.ctx) standing.def.now.checked)
accepted_answer devices texts last differ sorted current module_name name (Ok answer) (it, found, is) =
    accepted_standing devices texts last differ sorted current module_name name it found answer is
accepted_answer devices texts last differ sorted current module_name name (Err error) is = tt

-- ---- the place of the first definition of a name
pub all_push : {A : Type 0} (P : A → Type 0) (xs : List A) (x : A) → AllByRecursion P xs → P x
    → AllByRecursion P (xs ++ x ∷ [])
all_push P [] x all last = (last, tt)
all_push P (y ∷ xs) x all last = (all.0, all_push P xs x all.1 last)

-- the definition has another name
abbrev pub HasOtherName : List ℕ → CheckedDef → Type 0
HasOtherName name one = bytes_eq one.name name ≡ false

pub others_more : (name : List ℕ) (defs : List CheckedDef) (i : ℕ) (one : CheckedDef) → i < length defs
    → one ≡ get_or defs i one → AllByRecursion (HasOtherName name) (take i defs) → HasOtherName name one
    → AllByRecursion (HasOtherName name) (take (i + 1) defs)
others_more name defs i one within is all other =
    subst (AllByRecursion (HasOtherName name))
    (sym (take_more defs i one within ∙ ap (λ x. take i defs ++ x ∷ []) (sym is)))
    (all_push (HasOtherName name) (take i defs) one all other)

pub found_first : (name : List ℕ) (defs : List CheckedDef) (i : ℕ) (one : CheckedDef)
    → AllByRecursion (HasOtherName name) (take i defs) → slice_get defs i ≡ Some one → bytes_eq one.name name ≡ true
    → first_named name (map checked_definition_of defs)
    ≡ Some (map checked_definition_of (take i defs), checked_definition_of one)
found_first name [] i one all stands same = cc
found_first name (first ∷ defs) zero one all stands same =
    let is = same_Some first one stands in
    let here : bytes_eq first.name name ≡ true = ap (λ (d : CheckedDef). bytes_eq d.name name) is ∙ same in
    rw here (ap (λ (d : CheckedDef). Some ([], checked_definition_of d)) is)
found_first name (first ∷ defs) (suc i) one all stands same =
    rw all.0
    (ap (option_map (λ found. (checked_definition_of first ∷ found.0, found.1)))
    (found_first name defs i one all.1 stands same))

pub found_nowhere : (name : List ℕ) (defs : List CheckedDef) → AllByRecursion (HasOtherName name) defs
    → first_named name (map checked_definition_of defs) ≡ None
found_nowhere name [] all = refl
found_nowhere name (first ∷ defs) all =
    rw all.0
    (ap (option_map (λ found. (checked_definition_of first ∷ found.0, found.1))) (found_nowhere name defs all.1))
