-- Definitions in order have one verdict, and those of an accepted module are sound.
use Rattle.std.proofs.Common.{◌≡◌, ℕ, Bool, true, false, cond, List, [], ◌∷◌, ◌++◌, map, reverse, length, refl, sym, ap, ◌∙◌, subst, append_assoc}
use Rattle.std.specs.Prelude.{nat_lt, IsTrue}
use Rattle.std.specs.List.{AllByRecursion}
use Rattle.std.proofs.lemmas.Bool.{and_from}
use Rattle.std.proofs.lemmas.List.{reverse-append}
use Rattle.cc_base.specs.declared.code.Code.{Code}
use Rattle.cc_base.specs.declared.device.DeviceDecl.{DeviceDecl}
use Rattle.cc_base.specs.declared.place.Place.{Place}
use Rattle.cc_core.specs.Contexts.{Bind, Context, entry_of}
use Rattle.cc_core.specs.Programs.{Definition as ProgramDefinition, definition_context, AreTyped, is_definable}
use Rattle.cc_core.specs.WellFormed.{kinds_of, is_well_formed_type, is_well_formed_context, IsWellFormedType}
use Rattle.cc_core.proofs.Sorts.{TypeSort}
use Rattle.cc_core.proofs.WellFormedness.{more-well_formed}
use Rattle.cc_checking.specs.Verdicts.{Accepted}
use Rattle.cc_checking.specs.Verdicts as definitions
use Rattle.cc_checking_laws.specs.CheckingLaws.{Fits, oldest}
use Rattle.cc_checking_laws.proofs.CheckedDefinitions.{accepted_sound}
use Rattle.cc_checking_laws.proofs.OneVerdict.{one_verdict}
use Rattle.cc_checking_laws.proofs.VerdictsExist.{has_verdict}
use Rattle.cc_mnf.specs.ElaboratedModules.{CoreDefinition}
use Rattle.cc_verdicts.specs.ModuleLaws.{IsOverDevices}
use Rattle.cc_verdicts.specs.ModuleVerdicts.{CheckedDefinition, ModuleVerdict, IsAccepted, IsRefused}
use Rattle.cc_verdicts.specs.ModuleVerdicts.{declared_context, to_be_checked, checked_as, after_definition}
use Rattle.cc_verdicts.specs.ModuleVerdicts.{AreJudged, no_more, refused_first, accepted_first, in_program}
use Rattle.cc_verdicts.specs.ReadyDefinitions.{AreReady}
use Rattle.cc_verdicts.proofs.FilledValues.{accepted_right}
use Rattle.cc_verdicts.proofs.GlobalContexts.{HasBase, base_more, oldest_of_base}

-- the first definition fits the globals
pub first_fits : (g : Context) (first : CoreDefinition) (rest : List CoreDefinition) → AreReady g (first ∷ rest)
    → Fits g (to_be_checked first)
first_fits g first rest ready =
    record {
      formed = ready.formed;
      globals_alone = ready.globals_alone;
      note_formed = ready.each.0.note_formed;
      note_closed = ready.each.0.note_closed;
      right_formed = ready.each.0.right_formed;
    }

-- the oldest entries stand at the bottom
part_by : (b : Bind) (g older : Context) (test : Bool) → (later : Context) × (g ≡ later ++ older)
    → (later : Context) × (b ∷ g ≡ later ++ cond test (b ∷ g) older)
part_by b g older true part = ([], refl)
part_by b g older false part = (b ∷ part.0, ap (λ x. b ∷ x) part.1)

oldest_part : (n : ℕ) (g : Context) → (later : Context) × (g ≡ later ++ oldest n g)
oldest_part n [] = ([], refl)
oldest_part n (b ∷ g) = part_by b g (oldest n g) (nat_lt (length g) n) (oldest_part n g)

-- the others are ready after one that is accepted
pub ready_more : (devices : ℕ) (g : Context) (first : CoreDefinition) (rest : List CoreDefinition) (accepted : Accepted)
    → AreReady g (first ∷ rest)
    → definitions.HasVerdict devices g (to_be_checked first) (definitions.IsAccepted accepted)
    → AreReady (entry_of accepted.signature ∷ g) rest
ready_more devices g first rest accepted ready has =
    let sound = accepted_sound devices g (to_be_checked first) accepted (first_fits g first rest ready) has in
    let part = oldest_part devices g in
    let here : IsWellFormedType g accepted.signature =
    subst (λ x. IsWellFormedType x accepted.signature) (sym part.1)
    (more-well_formed TypeSort part.0 (oldest devices g) accepted.signature sound.over_devices) in
    record {
      formed =
          and_from (is_well_formed_type (kinds_of g) [] accepted.signature) (is_well_formed_context g) here ready.formed;
      globals_alone = (sound.signature_closed.0, sound.signature_closed.1, ready.globals_alone);
      each = ready.each.1;
    }

-- definitions have a verdict
exists_by : (devices : ℕ) (g : Context) (first : CoreDefinition) (rest : List CoreDefinition)
    (verdict : definitions.Verdict) → definitions.HasVerdict devices g (to_be_checked first) verdict
    → ((accepted : Accepted) → definitions.HasVerdict devices g (to_be_checked first) (definitions.IsAccepted accepted)
    → (v : ModuleVerdict) × AreJudged devices (entry_of accepted.signature ∷ g) rest v)
    → (v : ModuleVerdict) × AreJudged devices g (first ∷ rest) v
exists_by devices g first rest (definitions.IsRefused code at) has others = (IsRefused code at, refused_first has)
exists_by devices g first rest (definitions.IsAccepted accepted) has others =
    let next = others accepted has in
    (after_definition (checked_as first accepted) next.0, accepted_first has next.1)

pub judged_exist : (devices : ℕ) (g : Context) (defs : List CoreDefinition) → AreReady g defs
    → (v : ModuleVerdict) × AreJudged devices g defs v
judged_exist devices g [] ready = (IsAccepted [], no_more)
judged_exist devices g (first ∷ rest) ready =
    let found = has_verdict devices g (to_be_checked first) (first_fits g first rest ready) ready.each.0.holes in
    exists_by devices g first rest found.0 found.1
    (λ accepted has. judged_exist devices (entry_of accepted.signature ∷ g) rest (ready_more devices g first rest accepted ready has))

-- and one alone
refusals_alike : (devices : ℕ) (g : Context) (d : definitions.Definition) (code code' : Code) (at at' : Place)
    → definitions.HasVerdict devices g d (definitions.IsRefused code at)
    → definitions.HasVerdict devices g d (definitions.IsRefused code' at') → IsRefused code at ≡ IsRefused code' at'
refusals_alike devices g d code code' at at' one other =
    let same = one_verdict devices g d (definitions.IsRefused code at) (definitions.IsRefused code' at') one other in cc

accepted_alike : (devices : ℕ) (g : Context) (d : definitions.Definition) (one other : Accepted)
    → definitions.HasVerdict devices g d (definitions.IsAccepted one)
    → definitions.HasVerdict devices g d (definitions.IsAccepted other) → one ≡ other
accepted_alike devices g d one other has also =
    let same = one_verdict devices g d (definitions.IsAccepted one) (definitions.IsAccepted other) has also in cc

not_both : (devices : ℕ) (g : Context) (d : definitions.Definition) (accepted : Accepted) (code : Code) (at : Place)
    → definitions.HasVerdict devices g d (definitions.IsAccepted accepted)
    → definitions.HasVerdict devices g d (definitions.IsRefused code at) → ⊥
not_both devices g d accepted code at has also =
    let same = one_verdict devices g d (definitions.IsAccepted accepted) (definitions.IsRefused code at) has also in cc

pub judged_alike : (devices : ℕ) (g : Context) (defs : List CoreDefinition) (v w : ModuleVerdict)
    → AreJudged devices g defs v → AreJudged devices g defs w → v ≡ w
judged_alike devices g [] v w no_more no_more = refl
judged_alike devices g (first ∷ rest) v w (refused_first {code = code} {at = at} has) (refused_first {code = code'} {at = at'} also) =
    refusals_alike devices g (to_be_checked first) code code' at at' has also
judged_alike devices g (first ∷ rest) v w (refused_first {code = code} {at = at} has) (accepted_first {accepted = accepted} also others) =
    absurd (not_both devices g (to_be_checked first) accepted code at also has)
judged_alike devices g (first ∷ rest) v w (accepted_first {accepted = accepted} has others) (refused_first {code = code} {at = at} also) =
    absurd (not_both devices g (to_be_checked first) accepted code at has also)
judged_alike devices g (first ∷ rest) v w (accepted_first {accepted = one} {verdict = x} has others) (accepted_first {accepted = other} {verdict = y} also more) =
    let same = accepted_alike devices g (to_be_checked first) one other has also in
    let behind = judged_alike devices (entry_of one.signature ∷ g) rest x y others
    (subst (λ (a : Accepted). AreJudged devices (entry_of a.signature ∷ g) rest y) (sym same) more) in
    ap (λ (a : Accepted). after_definition (checked_as first a) x) same ∙ ap (after_definition (checked_as first other)) behind

-- what an accepted verdict has behind its first definition
pub after_parts : (one : CheckedDefinition) (v : ModuleVerdict) (checked : List CheckedDefinition)
    → after_definition one v ≡ IsAccepted checked
    → (others : List CheckedDefinition) × (v ≡ IsAccepted others) × (checked ≡ one ∷ others)
after_parts one (IsAccepted others) checked e = (others, refl, cc)
after_parts one (IsRefused code at) checked e = cc

pub accepted_parts : (one other : List CheckedDefinition) → IsAccepted one ≡ IsAccepted other → one ≡ other
accepted_parts one other e = cc

-- What holds of accepted definitions that stand behind others.
pub record Follow (devices : List DeviceDecl) (base : Context) (earlier : List ProgramDefinition)
    (defs : List CoreDefinition) (checked : List CheckedDefinition) : Type 0 where
  pub names : map (λ (one : CheckedDefinition). one.name) checked ≡ map (λ (one : CoreDefinition). one.name) defs
  pub values : AllByRecursion (λ one. IsTrue (is_definable (in_program one))) checked
  pub over_devices : AllByRecursion (λ one. IsOverDevices devices one.accepted.signature) checked
  pub typed : AreTyped base (reverse (map in_program checked) ++ earlier)

-- turned round, the first one stands behind the others
turned : (first : ProgramDefinition) (rest earlier : List ProgramDefinition)
    → reverse (first ∷ rest) ++ earlier ≡ reverse rest ++ first ∷ earlier
turned first rest earlier =
    ap (λ l. l ++ earlier) (reverse-append (first ∷ []) rest) ∙ append_assoc (reverse rest) (first ∷ []) earlier

pub accepted_follow : (devices : List DeviceDecl) (base : Context) (earlier : List ProgramDefinition)
    (defs : List CoreDefinition) (checked : List CheckedDefinition) (v : ModuleVerdict)
    → HasBase (declared_context devices) (definition_context base earlier)
    → AreReady (definition_context base earlier) defs → AreTyped base earlier
    → AreJudged (length devices) (definition_context base earlier) defs v → v ≡ IsAccepted checked
    → Follow devices base earlier defs checked
accepted_follow devices base earlier [] checked v over ready typed no_more e =
    subst (Follow devices base earlier []) (accepted_parts [] checked e)
    (record { names = refl; values = tt; over_devices = tt; typed = typed })
accepted_follow devices base earlier (first ∷ rest) checked v over ready typed (refused_first has) e = cc
accepted_follow devices base earlier (first ∷ rest) checked v over ready typed (accepted_first {accepted = accepted} {verdict = next} has others) e =
    let g = definition_context base earlier in
    let one : CheckedDefinition = checked_as first accepted in
    let parts = after_parts one next checked e in
    let sound = accepted_sound (length devices) g (to_be_checked first) accepted (first_fits g first rest ready) has in
    let signed : IsOverDevices devices accepted.signature = (
      subst (λ x. IsWellFormedType x accepted.signature) (oldest_of_base devices g over) sound.over_devices,
      sound.signature_closed,
    ) in
    let more = accepted_follow devices base (in_program one ∷ earlier) rest parts.0 next
    (base_more (declared_context devices) g accepted.signature over signed.0 signed.1)
    (ready_more (length devices) g first rest accepted ready has) (sound.types.1, typed) others parts.1 in
    subst (Follow devices base earlier (first ∷ rest)) (sym parts.2)
    (record {
      names = ap (λ l. first.name ∷ l) more.names;
      values = (accepted_right first.recursive (length devices) g (to_be_checked first) accepted has ∙ ready.each.0.may_be_defined, more.values);
      over_devices = (signed, more.over_devices);
      typed = subst (AreTyped base) (sym (turned (in_program one) (map in_program parts.0) earlier)) more.typed;
    })
