-- A definition of an accepted module is accepted where it stands.
use Rattle.std.proofs.Common.{◌≡◌, ℕ, List, [], ◌∷◌, ◌++◌, length, Some, refl, sym, ap, ◌∙◌, subst, if◌then◌else◌}
use Rattle.cc_base.specs.declared.device.DeviceDecl.{DeviceDecl}
use Rattle.cc_core.specs.Contexts.{Context, entry_of}
use Rattle.cc_mnf.specs.ElaboratedModules.{CoreDefinition}
use Rattle.cc_checking.specs.Verdicts.{Definition}
use Rattle.cc_checking.specs.Verdicts as definitions
use Rattle.cc_checking_laws.specs.CheckingLaws.{Fits}
use Rattle.cc_verdicts.specs.ModuleLaws.{NamesOfDevicesDiffer, AreFit}
use Rattle.cc_verdicts.specs.ModuleVerdicts.{Finding, CheckedDefinition, ModuleVerdict, IsAccepted, declared_context, with_findings, to_be_checked, checked_as, AreJudged, no_more, refused_first, accepted_first, HasModuleVerdict, is_no_module, import_is_missing, is_not_elaborated, is_judged}
use Rattle.cc_verdicts.specs.PresentTexts.{Texts, ArePresent, AreVerdicts, text_of, findings_for}
use Rattle.cc_verdicts.specs.ReadyDefinitions.{AreReady}
use Rattle.cc_verdicts.specs.StandingDefinitions.{with_definitions}
use Rattle.cc_verdicts.specs.StandingLaws.{StandingDefinitionsAreAccepted}
use Rattle.cc_verdicts.proofs.FoundStanding.{definitions_stand}
use Rattle.cc_verdicts.proofs.GlobalContexts.{module_ready}
use Rattle.cc_verdicts.proofs.JudgedDefinitions.{after_parts, accepted_parts, first_fits, ready_more}
use Rattle.cc_verdicts.proofs.ModuleVerdictLaws.{fits_tree}
use Rattle.cc_verdicts.proofs.PresentLaws.{present_findings_fit}

-- what the definition comes from, which fits the context and is accepted in it
pub record Placed (devices : ℕ) (g : Context) (one : CheckedDefinition) : Type 0 where
  pub definition : Definition
  pub recursive : definition.recursive ≡ one.recursive
  pub fits : Fits g definition
  pub has : definitions.HasVerdict devices g definition (definitions.IsAccepted one.accepted)

first_part : (one first : CheckedDefinition) (after others : List CheckedDefinition) → one ∷ after ≡ first ∷ others
    → one ≡ first
first_part one first after others e = cc

rest_part : (one first : CheckedDefinition) (after others : List CheckedDefinition) → one ∷ after ≡ first ∷ others
    → after ≡ others
rest_part one first after others e = cc

place : (devices : ℕ) (g : Context) (defs : List CoreDefinition) (v : ModuleVerdict) → AreReady g defs
    → AreJudged devices g defs v
    → (before : List CheckedDefinition) (one : CheckedDefinition) (after : List CheckedDefinition)
    → v ≡ IsAccepted (before ++ one ∷ after) → Placed devices (with_definitions g before) one
place devices g [] v ready no_more [] one after e = let same = accepted_parts [] (one ∷ after) e in cc
place devices g [] v ready no_more (b ∷ before) one after e = let same =
    accepted_parts [] ((b ∷ before) ++ one ∷ after) e in cc
place devices g (first ∷ rest) v ready (refused_first has) before one after e = cc
place devices g (first ∷ rest) v ready (accepted_first {accepted = accepted} {verdict = next} has others) [] one after
    e =
    let parts = after_parts (checked_as first accepted) next (one ∷ after) e in
    subst (Placed devices g) (sym (first_part one (checked_as first accepted) after parts.0 parts.2))
    (record {
      definition = to_be_checked first;
      recursive = refl;
      fits = first_fits g first rest ready;
      has = has;
    })
place devices g (first ∷ rest) v ready (accepted_first {accepted = accepted} {verdict = next} has others) (b ∷ before)
    one after e =
    let parts = after_parts (checked_as first accepted) next (b ∷ (before ++ one ∷ after)) e in
    let same = first_part b (checked_as first accepted) (before ++ one ∷ after) parts.0 parts.2 in
    let rest_is = rest_part b (checked_as first accepted) (before ++ one ∷ after) parts.0 parts.2 in
    subst (λ (x : CheckedDefinition). Placed devices (with_definitions (entry_of x.accepted.signature ∷ g) before) one)
    (sym same)
    (place devices (entry_of accepted.signature ∷ g) rest next (ready_more devices g first rest accepted ready has)
    others before one after (parts.1 ∙ ap IsAccepted (sym rest_is)))

-- a definition of a module that is accepted
placed_in : (devices : List DeviceDecl) (text : List ℕ) (findings : List Finding) (before : List CheckedDefinition)
    (one : CheckedDefinition) (after : List CheckedDefinition) (v : ModuleVerdict)
    → HasModuleVerdict devices text findings v → v ≡ IsAccepted (before ++ one ∷ after)
    → AreFit devices text findings
    → Placed (length devices) (with_definitions (with_findings (declared_context devices) findings) before) one
placed_in devices text findings before one after v (is_no_module reading) e fit = cc
placed_in devices text findings before one after v (import_is_missing reading missing) e fit = cc
placed_in devices text findings before one after v (is_not_elaborated reading found is) e fit = cc
placed_in devices text findings before one after v (is_judged {tree = tree} {core = core} {verdict = verdict} reading
    found is judged) e fit =
    let g : Context = with_findings (declared_context devices) findings in
    let ready = module_ready devices tree findings core (fits_tree devices text findings tree fit reading)
    fit.over_devices found is in
    place (length devices) g core.definitions verdict ready judged before one after e

-- a definition that stands in a present module
pub standing_placed : (devices : List DeviceDecl) (texts : Texts) (verdicts : List ℕ → ModuleVerdict)
    (findings : List Finding) (before : List CheckedDefinition) (one : CheckedDefinition) (after : List CheckedDefinition)
    (name text : List ℕ)
    → NamesOfDevicesDiffer devices → ArePresent texts → AreVerdicts devices texts verdicts
    → text_of texts name ≡ Some text → findings ≡ findings_for texts verdicts name text
    → verdicts name ≡ IsAccepted (before ++ one ∷ after)
    → Placed (length devices) (with_definitions (with_findings (declared_context devices) findings) before) one
standing_placed devices texts verdicts findings before one after name text differ present are is found accepted =
    let same : findings_for texts verdicts name text ≡ findings = sym found in
    placed_in devices text findings before one after (verdicts name)
    (subst (λ (fs : List Finding). HasModuleVerdict devices text fs (verdicts name)) same (are name text is)) accepted
    (subst (AreFit devices text) same
    (present_findings_fit devices texts verdicts differ present are name text is))

pub standing_accepted : StandingDefinitionsAreAccepted
standing_accepted devices texts verdicts module_name name it differ present are e =
    let (stands, here, named) = definitions_stand devices texts verdicts module_name name it are e in
    let g : Context = with_definitions (with_findings (declared_context devices) it.findings) it.before in
    let p = standing_placed devices texts verdicts it.findings it.before it.definition stands.after stands.name
    stands.text differ present are stands.present stands.findings_are stands.accepted in (
      g,
      p.definition,
      p.fits,
      p.has,
      ap (λ r. if r then entry_of it.definition.accepted.signature ∷ g else g) (sym p.recursive),
    )
