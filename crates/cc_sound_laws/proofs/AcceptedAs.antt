-- The verdicts of definitions: what is accepted is accepted by its types, and what is refused has none.
use Rattle.std.proofs.Common.{◌≡◌, ℕ, Bool, true, false, cond, List, [], ◌∷◌, ◌++◌, map, reverse, length, refl, sym, ap, ◌∙◌, subst, append_assoc}
use Rattle.std.specs.Prelude.{nat_lt, IsTrue}
use Rattle.std.specs.List.{AllByRecursion}
use Rattle.std.proofs.lemmas.Bool.{and_from}
use Rattle.std.proofs.lemmas.List.{reverse-append}
use Rattle.cc_base.specs.declared.code.Code.{Code}
use Rattle.cc_base.specs.declared.device.DeviceDecl.{DeviceDecl}
use Rattle.cc_base.specs.declared.place.Place.{Place}
use Rattle.cc_core.specs.Shapes.{CapturingType}
use Rattle.cc_core.specs.Terms.{Term}
use Rattle.cc_core.specs.Contexts.{Bind, Context, entry_of}
use Rattle.cc_core.specs.Holes.{HolesAreOfParameters}
use Rattle.cc_core.specs.Programs.{Definition, definition_context, own_context, AreTyped, is_definable}
use Rattle.cc_core.specs.Typing.{HasType}
use Rattle.cc_core.specs.WellFormed.{kinds_of, is_well_formed_type, is_well_formed_context, IsWellFormedType}
use Rattle.cc_core.proofs.Sorts.{TypeSort}
use Rattle.cc_core.proofs.WellFormedness.{more-well_formed}
use Rattle.cc_checking.specs.Outcomes.{Placed, Found}
use Rattle.cc_checking.specs.Fillings.{Filling, AllServed, IsOverGlobals}
use Rattle.cc_checking.specs.Verdicts.{Checking, Accepted}
use Rattle.cc_checking.specs.Verdicts as definitions
use Rattle.cc_checking_laws.specs.CheckingLaws.{Fits, oldest}
use Rattle.cc_checking_laws.proofs.AlikeSignatures.{refused_has_no_type}
use Rattle.cc_checking_laws.proofs.CheckedDefinitions.{accepted_parts}
use Rattle.cc_checking_laws.proofs.FitDemands.{asked_is_fit}
use Rattle.cc_checking_laws.proofs.LeastFillings.{least_over_globals, least_below}
use Rattle.cc_checking_laws.proofs.OneVerdict.{one_checking}
use Rattle.cc_mnf.specs.ElaboratedModules.{CoreDefinition, is_right_side}
use Rattle.cc_verdicts.specs.ModuleLaws.{IsOverDevices}
use Rattle.cc_verdicts.specs.ModuleVerdicts.{CheckedDefinition, ModuleVerdict, IsAccepted, IsRefused, declared_context}
use Rattle.cc_verdicts.specs.ModuleVerdicts.{to_be_checked, checked_as, after_definition, AreJudged, refused_first}
use Rattle.cc_verdicts.specs.ModuleVerdicts.{accepted_first, in_program}
use Rattle.cc_verdicts.specs.ModuleVerdicts as verdicts
use Rattle.cc_verdicts.specs.ReadyDefinitions.{AreReady}
use Rattle.cc_verdicts.proofs.GlobalContexts.{HasBase, base_more, oldest_of_base}
use Rattle.cc_verdicts.proofs.JudgedDefinitions.{first_fits, ready_more, after_parts}
use Rattle.cc_sound_laws.specs.DefinedAs.{IsDefinedAs, IsAcceptedAs, AreAcceptedAs, no_more, one_more, OneHasNoType, the_first, a_later}
use Rattle.cc_sound_laws.proofs.Defined.{IsTypedAs, checked_defined, defined_checked, defined_typed, defined_right}

lists_of : {A : Type 0} {a b : A} {x y : List Placed} → Found a x ≡ Found b y → x ≡ y
lists_of e = cc

-- ---- one definition
module _ (devices : ℕ) (globals : Context) (definition : CoreDefinition) (fits : Fits globals (to_be_checked definition))
    (holes : HolesAreOfParameters definition.right) where
  pub accepted_as : (accepted : Accepted)
      → definitions.HasVerdict devices globals (to_be_checked definition) (definitions.IsAccepted accepted)
      → IsAcceptedAs devices globals definition (in_program (checked_as definition accepted))
  accepted_as accepted has =
      let p = accepted_parts devices globals (to_be_checked definition) accepted has in
      let over = least_over_globals (length globals) p.asked p.filling p.least in
      subst (λ (a : Accepted). IsAcceptedAs devices globals definition (in_program (checked_as definition a))) (sym p.accepts)
      (record {
        named = refl;
        same_kind = refl;
        filling = p.filling;
        over = over;
        defined = checked_defined devices globals definition p.filling over p.steps p.found p.asked p.is p.served p.signature p.signs;
        least = λ other value signature over' defined.
            let c = defined_checked devices globals definition other over' fits holes value signature defined in
            let same : c.asked ≡ p.asked =
            lists_of (one_checking devices globals (to_be_checked definition) (Found c.found c.asked) (Found p.found p.asked) c.is (p.steps, p.is, λ none. cc)) in
            least_below globals p.asked
            (asked_is_fit devices globals (to_be_checked definition) p.found p.asked fits holes (p.steps, p.is, λ none. cc))
            p.filling other p.least over' (subst (AllServed other) same c.served);
      })

  pub refused_as : (code : Code) (at : Place)
      → definitions.HasVerdict devices globals (to_be_checked definition) (definitions.IsRefused code at)
      → (f : Filling) (value : Term) (signature : CapturingType) → IsOverGlobals (length globals) f
      → IsDefinedAs devices globals definition f value signature → ⊥
  refused_as code at has f value signature over defined =
      let c = defined_checked devices globals definition f over fits holes value signature defined in
      refused_has_no_type devices globals (to_be_checked definition) code at f fits holes has over
      (c.found, c.asked, c.is, c.served, (signature, c.signs))

-- ---- definitions in order
refusal_behind : (one : CheckedDefinition) (v : ModuleVerdict) (code : Code) (at : Place)
    → after_definition one v ≡ IsRefused code at → v ≡ IsRefused code at
refusal_behind one (IsAccepted others) code at e = cc
refusal_behind one (IsRefused code' at') code at e = e

lists_alike : (a b : List CheckedDefinition) → IsAccepted a ≡ IsAccepted b → a ≡ b
lists_alike a b e = cc

pub judged_accepted : (devices : ℕ) (g : Context) (defs : List CoreDefinition) (checked : List CheckedDefinition)
    (v : ModuleVerdict) → AreReady g defs → AreJudged devices g defs v → v ≡ IsAccepted checked
    → AreAcceptedAs devices g defs (map in_program checked)
judged_accepted devices g [] checked v ready verdicts.no_more e =
    subst (λ (l : List CheckedDefinition). AreAcceptedAs devices g [] (map in_program l)) (lists_alike [] checked e) no_more
judged_accepted devices g (first ∷ rest) checked v ready (refused_first has) e = cc
judged_accepted devices g (first ∷ rest) checked v ready (accepted_first {accepted = accepted} {verdict = next} has others) e =
    let parts = after_parts (checked_as first accepted) next checked e in
    subst (λ (l : List CheckedDefinition). AreAcceptedAs devices g (first ∷ rest) (map in_program l)) (sym parts.2)
    (one_more (accepted_as devices g first (first_fits g first rest ready) ready.each.0.holes accepted has)
    (judged_accepted devices (entry_of accepted.signature ∷ g) rest parts.0 next (ready_more devices g first rest accepted ready has) others parts.1))

pub judged_refused : (devices : ℕ) (g : Context) (defs : List CoreDefinition) (code : Code) (at : Place)
    (v : ModuleVerdict) → AreReady g defs → AreJudged devices g defs v → v ≡ IsRefused code at
    → OneHasNoType devices g defs
judged_refused devices g [] code at v ready verdicts.no_more e = cc
judged_refused devices g (first ∷ rest) code at v ready (refused_first {code = code'} {at = at'} has) e =
    the_first (λ f value signature over defined. refused_as devices g first (first_fits g first rest ready) ready.each.0.holes code' at' has f value signature over defined)
judged_refused devices g (first ∷ rest) code at v ready (accepted_first {accepted = accepted} {verdict = next} has others) e =
    a_later (accepted_as devices g first (first_fits g first rest ready) ready.each.0.holes accepted has)
    (judged_refused devices (entry_of accepted.signature ∷ g) rest code at next (ready_more devices g first rest accepted ready has) others
    (refusal_behind (checked_as first accepted) next code at e))

-- ---- what is accepted so is typed
part_by : (b : Bind) (g older : Context) (test : Bool) → (later : Context) × (g ≡ later ++ older)
    → (later : Context) × (b ∷ g ≡ later ++ cond test (b ∷ g) older)
part_by b g older true part = ([], refl)
part_by b g older false part = (b ∷ part.0, ap (λ x. b ∷ x) part.1)

-- the oldest entries stand at the bottom
oldest_part : (n : ℕ) (g : Context) → (later : Context) × (g ≡ later ++ oldest n g)
oldest_part n [] = ([], refl)
oldest_part n (b ∷ g) = part_by b g (oldest n g) (nat_lt (length g) n) (oldest_part n g)

-- the others are ready behind a signature over the devices
ready_behind : (devices : ℕ) (g : Context) (first : CoreDefinition) (rest : List CoreDefinition) (value : Term)
    (signature : CapturingType) → AreReady g (first ∷ rest) → IsTypedAs devices g first value signature
    → AreReady (entry_of signature ∷ g) rest
ready_behind devices g first rest value signature ready typed =
    let part = oldest_part devices g in
    let here : IsWellFormedType g signature =
    subst (λ x. IsWellFormedType x signature) (sym part.1)
    (more-well_formed TypeSort part.0 (oldest devices g) signature typed.over_devices) in
    record {
      formed = and_from (is_well_formed_type (kinds_of g) [] signature) (is_well_formed_context g) here ready.formed;
      globals_alone = (typed.closed.0, typed.closed.1, ready.globals_alone);
      each = ready.each.1;
    }

-- What holds of definitions that are accepted behind others.
pub record Follow (devices : List DeviceDecl) (base : Context) (earlier : List Definition) (defs : List CoreDefinition)
    (ones : List Definition) : Type 0 where
  pub names : map (λ (one : Definition). one.name) ones ≡ map (λ (one : CoreDefinition). one.name) defs
  pub values : AllByRecursion (λ one. IsTrue (is_definable one)) ones
  pub over_devices : AllByRecursion (λ one. IsOverDevices devices one.signature) ones
  pub typed : AreTyped base (reverse ones ++ earlier)

-- turned round, the first one stands behind the others
turned : (first : Definition) (rest earlier : List Definition)
    → reverse (first ∷ rest) ++ earlier ≡ reverse rest ++ first ∷ earlier
turned first rest earlier =
    ap (λ l. l ++ earlier) (reverse-append (first ∷ []) rest) ∙ append_assoc (reverse rest) (first ∷ []) earlier

pub accepted_follow : (devices : List DeviceDecl) (base : Context) (earlier : List Definition) (defs : List CoreDefinition)
    (ones : List Definition) → HasBase (declared_context devices) (definition_context base earlier)
    → AreReady (definition_context base earlier) defs → AreTyped base earlier
    → AreAcceptedAs (length devices) (definition_context base earlier) defs ones → Follow devices base earlier defs ones
accepted_follow devices base earlier [] [] over ready typed no_more =
    record { names = refl; values = tt; over_devices = tt; typed = typed }
accepted_follow devices base earlier [] (one ∷ others) over ready typed accepted = elim accepted [ ]
accepted_follow devices base earlier (first ∷ rest) [] over ready typed accepted = elim accepted [ ]
accepted_follow devices base earlier (first ∷ rest) (one ∷ others) over ready typed (one_more accepted more) =
    let g = definition_context base earlier in
    let its = defined_typed (length devices) g first accepted.filling one.value one.signature (first_fits g first rest ready)
    ready.each.0.holes accepted.over accepted.defined in
    let signed : IsOverDevices devices one.signature = (
      subst (λ x. IsWellFormedType x one.signature) (oldest_of_base devices g over) its.over_devices,
      its.closed,
    ) in
    let here : HasType (own_context g one) one.value one.signature =
    subst (λ b. HasType (cond b (entry_of one.signature ∷ g) g) one.value one.signature) (sym accepted.same_kind) its.has_type in
    let behind = accepted_follow devices base (one ∷ earlier) rest others
    (base_more (declared_context devices) g one.signature over signed.0 signed.1)
    (ready_behind (length devices) g first rest one.value one.signature ready its) (here, typed) more in
    record {
      names = (λ j. accepted.named j ∷ behind.names j);
      values = (
        ap (λ b. is_right_side b one.value) accepted.same_kind
            ∙ defined_right first.recursive (length devices) g first accepted.filling one.value one.signature accepted.defined
            ∙ ready.each.0.may_be_defined,
        behind.values,
      );
      over_devices = (signed, behind.over_devices);
      typed = subst (AreTyped base) (sym (turned one others earlier)) behind.typed;
    }
