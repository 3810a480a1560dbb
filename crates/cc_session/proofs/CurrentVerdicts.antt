-- The verdicts that a session has are those of its texts.
use Rattle.std.proofs.Common.{◌≡◌, ℕ, List, [], ◌∷◌, length, map, Option, Some, None, Ok, Err}
use Rattle.std.proofs.Common.{refl, sym, ap, ◌∙◌, inl, inr, if◌then◌else◌, arith}
use Rattle.std.proofs.lemmas.Bool.{cases_Bool}
use Rattle.std.proofs.lemmas.List.{length-map}
use Rattle.std.proofs.lemmas.Simd.{map-map}
use Rattle.std.specs.Option.{is_some, option_map}
use Rattle.std.specs.Str.{bytes_eq}
use Rattle.cc_base.specs.declared.code.Code.{Code}
use Rattle.cc_base.specs.declared.code.Code.TheVariants.{E32}
use Rattle.cc_base.specs.declared.device.DeviceDecl.{DeviceDecl}
use Rattle.cc_entry_laws.specs.PresentEntries.{started_or, started_by, started_in}
use Rattle.cc_graph.proofs.NameLemmas.{same_name, is_same_name}
use Rattle.cc_graph.proofs.Paths.{IsAmong}
use Rattle.cc_judge.specs.declared.grounds.Grounds.{Grounds}
use Rattle.cc_judge.specs.Judgements.{Judgement, judgement_in, AreCurrent}
use Rattle.cc_judge.specs.declared.last.Last.{Last}
use Rattle.cc_judge.specs.Kept.{judgements_from, judgements_of}
use Rattle.cc_verdicts.specs.ModuleVerdicts.{CheckedDefinition, ModuleVerdict, IsAccepted, IsRefused}
use Rattle.cc_verdicts.specs.PresentTexts.{Texts, ArePresent, text_of, AreVerdicts, definition_named}
use Rattle.cc_verdicts.proofs.Asking.{map_same}
use Rattle.cc_verdicts.proofs.PresentLaws.{present_verdicts_are_unique}
use Rattle.cc_module.specs.declared.judgement.ModuleVerdict.{ModuleVerdict as DeclaredVerdict}
use Rattle.cc_module.specs.Judgements.{module_verdict_of}
use Rattle.cc_session.specs.EntryParts.{HaveVerdicts, HaveCurrentVerdicts, IsDefinitionOf}
use Rattle.cc_session.specs.Sessions.{SessionState, IsUpToDate, IsSession}
use Rattle.cc_session.specs.Signatures.{verdict_named, shown_definitions, definitions_or, definition_or, definition_among}
use Rattle.cc_session.specs.Signatures.{definition_in}

-- what stands among the texts has one
among_text : (texts : Texts) (entry : List ℕ × List ℕ) → IsAmong entry texts
    → (text : List ℕ) × (text_of texts entry.0 ≡ Some text)
among_text [] entry among = absurd among
among_text (first ∷ rest) entry (inl same) =
    (first.1, rw (is_same_name entry.0 first.0 (sym (ap (λ e. e.0) same))) refl)
among_text (first ∷ rest) entry (inr among) =
    elim (cases_Bool (bytes_eq entry.0 first.0)) [
      | inl same ↦ (first.1, rw same refl)
      | inr other ↦ (let (text, is) = among_text rest entry among in (text, rw other is))
    ]

-- verdicts that are those of the texts are all of them
pub have_verdicts : (devices : List DeviceDecl) (texts : Texts) (verdicts : List (List ℕ × DeclaredVerdict))
    → ArePresent texts → HaveCurrentVerdicts devices texts verdicts → (all : List ℕ → ModuleVerdict)
    → AreVerdicts devices texts all → HaveVerdicts texts all verdicts
have_verdicts devices texts verdicts sorted (some, are, have) all others =
    have
    ∙ map_same (λ (one : List ℕ × List ℕ). some one.0) (λ (one : List ℕ × List ℕ). all one.0) texts
    (λ one among.
    let (text, is_text) = among_text texts one among in
    present_verdicts_are_unique devices texts some all sorted are others one.0 text is_text)

pub as_many : (texts : Texts) (all : List ℕ → ModuleVerdict) (verdicts : List (List ℕ × DeclaredVerdict))
    → HaveVerdicts texts all verdicts → length verdicts ≡ length texts
as_many texts all verdicts have =
    sym (length-map verdicts (λ (one : List ℕ × DeclaredVerdict). module_verdict_of one.1)) ∙ ap length have
    ∙ length-map texts (λ (one : List ℕ × List ℕ). all one.0)

verdicts_from : (verdicts : List (List ℕ × DeclaredVerdict)) (grounds : List Grounds)
    → length grounds ≡ length verdicts
    → map (λ one. one.verdict) (judgements_from verdicts grounds) ≡ map (λ one. module_verdict_of one.1) verdicts
verdicts_from [] grounds same = refl
verdicts_from (first ∷ rest) [] same = absurd (omega arith)
verdicts_from (first ∷ rest) (one ∷ others) same =
    ap (λ vs. module_verdict_of first.1 ∷ vs) (verdicts_from rest others (omega arith))

-- the verdicts of a session that is up to date are current
pub current_verdicts : (session : SessionState) (last : Last) → IsSession session last
    → session.last ≡ judgements_of last → IsUpToDate session
    → HaveCurrentVerdicts session.devices session.present last.verdicts.items
current_verdicts session last is kept (all, are, current) = (
  all,
  are,
  sym (verdicts_from last.verdicts.items last.grounds.items is.kept.one_each)
      ∙ ap (map (λ (one : Judgement). one.verdict)) (sym kept ∙ current)
      ∙ map-map (λ (one : Judgement). one.verdict) (judgement_in session.present all) session.present,
)

-- ---- definitions by their names
verdict_by_text : (texts : Texts) (all : List ℕ → ModuleVerdict) (name : List ℕ) (judged : Texts)
    → verdict_named name (map (judgement_in texts all) judged) ≡ option_map (λ text. all name) (text_of judged name)
verdict_by_text texts all name [] = refl
verdict_by_text texts all name (first ∷ rest) =
    elim (cases_Bool (bytes_eq name first.0)) [
      | inl same ↦ rw same (ap (λ n. Some (all n)) (sym (same_name name first.0 same)))
      | inr other ↦ rw other (verdict_by_text texts all name rest)
    ]

found_some : (one : Option CheckedDefinition) (found : CheckedDefinition) → definition_or one ≡ Ok found
    → started_or one ≡ started_or (Some found)
found_some (Some one) found is = ap (λ d. started_or (Some d)) (let same : one ≡ found = cc in same)
found_some None found is = cc

found_none : (one : Option CheckedDefinition) (code : Code) → definition_or one ≡ Err code → started_or one ≡ Err code
found_none (Some one) code is = cc
found_none None code is = cc

found_by_verdict : (verdict : ModuleVerdict) (name : List ℕ) (found : CheckedDefinition)
    → definition_among name (shown_definitions verdict) ≡ Ok found → started_by verdict name ≡ started_or (Some found)
found_by_verdict (IsAccepted definitions) name found is = found_some (definition_named name definitions) found is
found_by_verdict (IsRefused code at) name found is = cc

refused_by_verdict : (verdict : ModuleVerdict) (name : List ℕ) (code : Code)
    → definition_among name (shown_definitions verdict) ≡ Err code → started_by verdict name ≡ Err code
refused_by_verdict (IsAccepted definitions) name code is = found_none (definition_named name definitions) code is
refused_by_verdict (IsRefused other at) name code is = cc

found_by_text : (text : Option (List ℕ)) (verdict : ModuleVerdict) (name : List ℕ) (found : CheckedDefinition)
    → definition_among name (definitions_or (option_map (λ t. verdict) text)) ≡ Ok found
    → (if is_some text then started_by verdict name else Err E32) ≡ started_or (Some found)
found_by_text (Some text) verdict name found is = found_by_verdict verdict name found is
found_by_text None verdict name found is = cc

refused_by_text : (text : Option (List ℕ)) (verdict : ModuleVerdict) (name : List ℕ) (code : Code)
    → definition_among name (definitions_or (option_map (λ t. verdict) text)) ≡ Err code
    → (if is_some text then started_by verdict name else Err E32) ≡ Err code
refused_by_text (Some text) verdict name code is = refused_by_verdict verdict name code is
refused_by_text None verdict name code is = cc

alike : (text : Option (List ℕ)) (first second : ModuleVerdict) → ((t : List ℕ) → text ≡ Some t → first ≡ second)
    → option_map (λ t. first) text ≡ option_map (λ t. second) text
alike None first second same = refl
alike (Some t) first second same = ap Some (same t refl)

-- what is asked of the last judgements is what the verdicts of the texts say
by_texts : (devices : List DeviceDecl) (texts : Texts) (last : List Judgement) → ArePresent texts
    → AreCurrent devices texts last → (all : List ℕ → ModuleVerdict) → AreVerdicts devices texts all
    → (module_name name : List ℕ)
    → definition_in last module_name name
    ≡ definition_among name (definitions_or (option_map (λ t. all module_name) (text_of texts module_name)))
by_texts devices texts last sorted (some, are, same) all others module_name name =
    ap (λ l. definition_in l module_name name) same
    ∙ ap (λ o. definition_among name (definitions_or o)) (verdict_by_text texts some module_name texts)
    ∙ ap (λ o. definition_among name (definitions_or o))
    (alike (text_of texts module_name) (some module_name) (all module_name)
    (λ text is_text. present_verdicts_are_unique devices texts some all sorted are others module_name text is_text))

pub found_definition : (session : SessionState) (last : Last) → IsSession session last → IsUpToDate session
    → (module_name name : List ℕ) (found : CheckedDefinition) → definition_in session.last module_name name ≡ Ok found
    → IsDefinitionOf session.devices session.present module_name name found
found_definition session last is current module_name name found finds all are =
    found_by_text (text_of session.present module_name) (all module_name) name found
    (sym (by_texts session.devices session.present session.last is.present current all are module_name name) ∙ finds)

pub refused_definition : (session : SessionState) (last : Last) → IsSession session last → IsUpToDate session
    → (module_name name : List ℕ) (code : Code) → definition_in session.last module_name name ≡ Err code
    → (all : List ℕ → ModuleVerdict) → AreVerdicts session.devices session.present all
    → started_in session.present all module_name name ≡ Err code
refused_definition session last is current module_name name code refused all are =
    refused_by_text (text_of session.present module_name) (all module_name) name code
    (sym (by_texts session.devices session.present session.last is.present current all are module_name name)
    ∙ refused)
