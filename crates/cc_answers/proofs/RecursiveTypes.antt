-- The type of a recursive definition is its signature, so that it does not link to itself.
use Rattle.std.proofs.Common.{◌≡◌, ℕ, ◌<◌, Bool, true, false, cond, List, [], ◌∷◌, ◌++◌, length, Some, refl, sym, ap, subst, ◌∙◌}
use Rattle.cc_base.specs.declared.device.DeviceDecl.{DeviceDecl}
use Rattle.cc_capture.specs.declared.var.Var.TheVariants.{Free}
use Rattle.cc_capture.specs.declared.var.Elem.TheVariants.{Var as Variable}
use Rattle.cc_capture.specs.Sets.{Member}
use Rattle.cc_core.proofs.Sorts.{TypeSort}
use Rattle.cc_core.specs.Contexts.{Context, entry_of}
use Rattle.cc_core.specs.Shapes.{CapturingType}
use Rattle.cc_core.specs.Substitution.{filled_type}
use Rattle.cc_core.specs.Terms.{Note, Absent, Written, Own}
use Rattle.cc_mnf.specs.ElaboratedModules.{CoreDefinition}
use Rattle.cc_checking_laws.proofs.CheckedDefinitions.{accepted_parts, accepted_sound}
use Rattle.cc_checking_laws.proofs.FoundFindings.{then_came, finds_came}
use Rattle.cc_checking_laws.proofs.LeastFillings.{filled-still}
use Rattle.cc_entry_laws.proofs.Reached.{StandsIn, globals_of, checked_there, signed_over}
use Rattle.cc_verdicts.proofs.JudgedDefinitions.{after_parts, accepted_parts as definitions_parts}
use Rattle.cc_verdicts.specs.ModuleLaws.{NamesOfDevicesDiffer}
use Rattle.cc_verdicts.specs.ModuleVerdicts.{Finding, CheckedDefinition, ModuleVerdict, IsAccepted, declared_context, with_findings, to_be_checked, checked_as, AreJudged, no_more, refused_first, accepted_first, HasModuleVerdict, is_no_module, import_is_missing, is_not_elaborated, is_judged}
use Rattle.cc_verdicts.specs.PresentTexts.{Texts, ArePresent, AreVerdicts, findings_for}
use Rattle.cc_verdicts.specs.StandingDefinitions.{Standing}
use Rattle.cc_checking.specs.Fillings.{Filling}
use Rattle.cc_checking.specs.Inference.{limited}
use Rattle.cc_checking.specs.Outcomes.{Placed, Found}
use Rattle.cc_checking.specs.Verdicts.{Definition, Checking, Accepted, recursive_checked, plain_checked, signature_under}
use Rattle.cc_checking.specs.Verdicts as definitions

same_type : (a b : CapturingType) → Some a ≡ Some b → a ≡ b
same_type a b e = cc

-- what is found for a recursive definition is its signature
signature_found : (devices : ℕ) (globals : Context) (definition : Definition) (note : Note) (n : ℕ) (found : Checking) (list : List Placed)
    (f : Filling) (signature : CapturingType) → recursive_checked (limited n) devices globals definition note ≡ Found found list
    → signature_under f devices globals found ≡ Some signature → found.type ≡ signature
signature_found devices globals definition Absent n found list f signature is signs = cc
signature_found devices globals definition (Own s) n found list f signature is signs = cc
signature_found devices globals definition (Written s c) n found list f signature is signs =
    let first = then_came (list, is, refl) in
    let second = then_came first.rest in
    let third = then_came second.rest in
    let last = finds_came third.rest in
    let settled : Some first.value ≡ Some signature = ap (λ (x : Checking). signature_under f devices globals x) (sym last.0) ∙ signs in
    ap (λ (x : Checking). x.type) last.0 ∙ same_type first.value signature settled

by_kind : (b : Bool) → b ≡ true → (devices : ℕ) (globals : Context) (definition : Definition) (n : ℕ) (found : Checking) (list : List Placed)
    (f : Filling) (signature : CapturingType)
    → cond b (recursive_checked (limited n) devices globals definition definition.note) (plain_checked (limited n) globals definition) ≡ Found found list
    → signature_under f devices globals found ≡ Some signature → found.type ≡ signature
by_kind true recursive devices globals definition n found list f signature is signs =
    signature_found devices globals definition definition.note n found list f signature is signs
by_kind false recursive devices globals definition n found list f signature is signs = cc

-- the type is the signature, filled
abbrev HasOwnType : CheckedDefinition → Type 0
HasOwnType one = one.recursive ≡ true → (f : Filling) × (one.accepted.type ≡ filled_type f one.accepted.signature)

recursive_type : (devices : ℕ) (globals : Context) (definition : Definition) (accepted : Accepted) → definition.recursive ≡ true
    → definitions.HasVerdict devices globals definition (definitions.IsAccepted accepted)
    → (f : Filling) × (accepted.type ≡ filled_type f accepted.signature)
recursive_type devices globals definition accepted recursive verdict =
    let p = accepted_parts devices globals definition accepted verdict in
    let same = by_kind definition.recursive recursive devices globals definition p.steps p.found p.asked p.filling p.signature p.is p.signs in (
      p.filling,
      ap (λ (a : Accepted). a.type) p.accepts ∙ ap (filled_type p.filling) (same ∙ sym (ap (λ (a : Accepted). a.signature) p.accepts)),
    )

first_of : (one first : CheckedDefinition) (after others : List CheckedDefinition) → one ∷ after ≡ first ∷ others → one ≡ first
first_of one first after others e = cc

rest_of : (one first : CheckedDefinition) (after others : List CheckedDefinition) → one ∷ after ≡ first ∷ others → after ≡ others
rest_of one first after others e = cc

own_behind : (devices : ℕ) (g : Context) (defs : List CoreDefinition) (v : ModuleVerdict) → AreJudged devices g defs v
    → (before : List CheckedDefinition) (one : CheckedDefinition) (after : List CheckedDefinition)
    → v ≡ IsAccepted (before ++ one ∷ after) → HasOwnType one
own_behind devices g [] v no_more [] one after e = let same = definitions_parts [] (one ∷ after) e in cc
own_behind devices g [] v no_more (b ∷ before) one after e = let same = definitions_parts [] ((b ∷ before) ++ one ∷ after) e in cc
own_behind devices g (first ∷ rest) v (refused_first has) before one after e = cc
own_behind devices g (first ∷ rest) v (accepted_first {accepted = accepted} {verdict = next} has others) [] one after e =
    let parts = after_parts (checked_as first accepted) next (one ∷ after) e in
    subst HasOwnType (sym (first_of one (checked_as first accepted) after parts.0 parts.2))
    (λ recursive. recursive_type devices g (to_be_checked first) accepted recursive has)
own_behind devices g (first ∷ rest) v (accepted_first {accepted = accepted} {verdict = next} has others) (b ∷ before) one after e =
    let parts = after_parts (checked_as first accepted) next (b ∷ (before ++ one ∷ after)) e in
    let rest_is = rest_of b (checked_as first accepted) (before ++ one ∷ after) parts.0 parts.2 in
    own_behind devices (entry_of accepted.signature ∷ g) rest next others before one after (parts.1 ∙ ap IsAccepted (sym rest_is))

own_in_module : (devices : List DeviceDecl) (text : List ℕ) (findings : List Finding) (before : List CheckedDefinition) (one : CheckedDefinition)
    (after : List CheckedDefinition) (v : ModuleVerdict) → HasModuleVerdict devices text findings v → v ≡ IsAccepted (before ++ one ∷ after)
    → HasOwnType one
own_in_module devices text findings before one after v (is_no_module reading) e = cc
own_in_module devices text findings before one after v (import_is_missing reading missing) e = cc
own_in_module devices text findings before one after v (is_not_elaborated reading found is) e = cc
own_in_module devices text findings before one after v (is_judged {core = core} {verdict = verdict} reading found is judged) e =
    own_behind (length devices) (with_findings (declared_context devices) findings) core.definitions verdict judged before one after e

-- what stands in the set of its type is a device
pub own_set_is_over_devices : (declared : List DeviceDecl) (texts : Texts) (verdicts : List ℕ → ModuleVerdict) → NamesOfDevicesDiffer declared
    → ArePresent texts → AreVerdicts declared texts verdicts → (module_name : List ℕ) (it : Standing) → StandsIn texts verdicts module_name it
    → it.definition.recursive ≡ true → (position : ℕ) → Member (Variable (Free position)) it.definition.accepted.type.set
    → position < length declared
own_set_is_over_devices declared texts verdicts differ present are module_name it stands recursive position member =
    let (f, is) = own_in_module declared stands.text (findings_for texts verdicts module_name stands.text) it.before it.definition stands.after
    (verdicts module_name) (are module_name stands.text stands.is_text) stands.accepted recursive in
    let checked = checked_there declared texts verdicts differ present are module_name it stands in
    let sound = accepted_sound (length declared) (globals_of declared it) checked.definition it.definition.accepted checked.fits checked.has in
    let signature = it.definition.accepted.signature in
    let still : filled_type f signature ≡ signature = filled-still TypeSort f 0 signature sound.signature_closed in
    let same : it.definition.accepted.type ≡ signature = is ∙ still in
    signed_over declared texts verdicts differ present are module_name it stands (Variable (Free position))
    (subst (λ (t : CapturingType). Member (Variable (Free position)) t.set) same member)
