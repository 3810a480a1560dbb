-- The contexts that the definitions of a module are checked in: the devices are the oldest.
use Rattle.std.proofs.Common.{◌≡◌, ℕ, ◌+◌, ◌≤◌, Bool, true, false, cond, List, [], ◌∷◌, ◌++◌, map, reverse, length, None, refl, sym, ap, ◌∙◌, subst, arith}
use Rattle.std.specs.Prelude.{nat_lt}
use Rattle.std.specs.List.{AllByRecursion}
use Rattle.std.proofs.lemmas.Bool.{and_from, ltb-true, ltb-false}
use Rattle.std.proofs.lemmas.List.{length-append, length-reverse}
use Rattle.cc_base.specs.declared.device.DeviceDecl.{DeviceDecl}
use Rattle.cc_base.specs.declared.literal.Base.{Base}
use Rattle.cc_capture.specs.declared.var.Elem.TheVariants.{Cap}
use Rattle.cc_core.specs.Contexts.{Bind, Context, entry_of}
use Rattle.cc_core.specs.Occurrences.{IsNoHole, HasNoHoleInSet, HasNoHoleInType}
use Rattle.cc_core.specs.Programs.{device_entry}
use Rattle.cc_core.specs.Shapes.{CapturingType}
use Rattle.cc_core.specs.Substitution.{single}
use Rattle.cc_core.specs.WellFormed.{Kind, kinds_of, is_well_formed_entry, is_well_formed_set, is_well_formed_type, is_well_formed_context, IsWellFormedContext, IsWellFormedType}
use Rattle.cc_core.proofs.KindFacts.{IsKindedSet-test}
use Rattle.cc_core.proofs.Lookups.{length_map}
use Rattle.cc_core.proofs.Moving.{Member-single}
use Rattle.cc_core.proofs.Sorts.{TypeSort}
use Rattle.cc_core.proofs.WellFormedness.{more-well_formed}
use Rattle.cc_device.specs.Declarations.{declared_base, declared_bases}
use Rattle.cc_grammar.specs.Syntax.{ImportSyntax}
use Rattle.cc_checking_laws.specs.FillingLaws.{AreGlobals}
use Rattle.cc_checking_laws.specs.CheckingLaws.{oldest}
use Rattle.cc_typing_laws.proofs.FormedContexts.{kinded_single}
use Rattle.cc_mnf.specs.ElaboratedModules.{CoreModule, IsElaborated, elaboration, device_names}
use Rattle.cc_grammar.specs.Syntax.{ModuleSyntax}
use Rattle.cc_verdicts.specs.ModuleLaws.{FitsDevices}
use Rattle.cc_verdicts.specs.ModuleVerdicts.{Finding, FoundDefinition, NoModule, InCycle, RefusedModule, NoDefinition, first_missing, declared_context, with_finding, with_findings}
use Rattle.cc_verdicts.specs.ReadyDefinitions.{EachIsReady, AreReady}
use Rattle.cc_verdicts.proofs.ReadyModules.{values, kinds_of_globals, elaborated_ready}

-- The context has the other one at its bottom, is well formed, and has globals alone.
pub record HasBase (base g : Context) : Type 0 where
  pub later : Context
  pub is : g ≡ later ++ base
  pub formed : IsWellFormedContext g
  pub globals_alone : AreGlobals g

-- the same with one entry more, whose type is well formed in the base
pub base_more : (base g : Context) (type : CapturingType) → HasBase base g → IsWellFormedType base type
    → HasNoHoleInType type → HasBase base (entry_of type ∷ g)
base_more base g type h wf closed =
    let here : IsWellFormedType g type =
    subst (λ x. IsWellFormedType x type) (sym h.is) (more-well_formed TypeSort h.later base type wf) in
    record {
      later = entry_of type ∷ h.later;
      is = ap (λ x. entry_of type ∷ x) h.is;
      formed = and_from (is_well_formed_type (kinds_of g) [] type) (is_well_formed_context g) here h.formed;
      globals_alone = (closed.0, closed.1, h.globals_alone);
    }

cap_alone : HasNoHoleInSet (single Cap)
cap_alone e m = subst IsNoHole (sym (Member-single e Cap m)) tt

device_formed : (kinds : List Kind) (base : Base) → is_well_formed_entry kinds (device_entry base) ≡ true
device_formed kinds base =
    and_from true (is_well_formed_set kinds [] (single Cap)) refl
    (IsKindedSet-test kinds [] (single Cap) (kinded_single kinds [] Cap tt))

devices_formed : (bases : List Base) → IsWellFormedContext (map device_entry bases)
devices_formed [] = refl
devices_formed (base ∷ bases) =
    and_from (is_well_formed_entry (kinds_of (map device_entry bases)) (device_entry base))
    (is_well_formed_context (map device_entry bases)) (device_formed (kinds_of (map device_entry bases)) base)
    (devices_formed bases)

devices_alone : (bases : List Base) → AreGlobals (map device_entry bases)
devices_alone [] = tt
devices_alone (base ∷ bases) = (tt, cap_alone, devices_alone bases)

-- the devices alone
pub devices_base : (devices : List DeviceDecl) → HasBase (declared_context devices) (declared_context devices)
devices_base devices =
    record {
      later = [];
      is = refl;
      formed = devices_formed (reverse (declared_bases devices));
      globals_alone = devices_alone (reverse (declared_bases devices));
    }

finding_base : (devices : List DeviceDecl) (g : Context) (finding : Finding) → HasBase (declared_context devices) g
    → FitsDevices devices finding → HasBase (declared_context devices) (with_finding g finding)
finding_base devices g (FoundDefinition signature) h fit = base_more (declared_context devices) g signature h fit.0 fit.1
finding_base devices g NoModule h fit = h
finding_base devices g InCycle h fit = h
finding_base devices g RefusedModule h fit = h
finding_base devices g NoDefinition h fit = h

findings_base : (devices : List DeviceDecl) (g : Context) (findings : List Finding) → HasBase (declared_context devices) g
    → AllByRecursion (FitsDevices devices) findings → HasBase (declared_context devices) (with_findings g findings)
findings_base devices g [] h fit = h
findings_base devices g (first ∷ rest) h fit =
    findings_base devices (with_finding g first) rest (finding_base devices g first h fit.0) fit.1

-- the devices, and what is found for the imports
pub found_base : (devices : List DeviceDecl) (findings : List Finding) → AllByRecursion (FitsDevices devices) findings
    → HasBase (declared_context devices) (with_findings (declared_context devices) findings)
found_base devices findings fit = findings_base devices (declared_context devices) findings (devices_base devices) fit

-- how many positions there are with what is found for the imports
pub found_count : (g : Context) (imports : List ImportSyntax) (findings : List Finding)
    → length findings ≡ length imports → first_missing imports findings ≡ None
    → length (with_findings g findings) ≡ length g + length imports
found_count g [] [] l n = omega arith
found_count g [] (finding ∷ findings) l n = absurd (omega arith)
found_count g (one ∷ imports) [] l n = absurd (omega arith)
found_count g (one ∷ imports) (FoundDefinition signature ∷ findings) l n =
    let rest = found_count (entry_of signature ∷ g) imports findings (omega arith) n in omega arith
found_count g (one ∷ imports) (NoModule ∷ findings) l n = cc
found_count g (one ∷ imports) (InCycle ∷ findings) l n = cc
found_count g (one ∷ imports) (RefusedModule ∷ findings) l n = cc
found_count g (one ∷ imports) (NoDefinition ∷ findings) l n = cc

pub count_devices : (devices : List DeviceDecl) → length (declared_context devices) ≡ length devices
count_devices devices =
    let bases : List Base = declared_bases devices in
    length_map device_entry (reverse bases) ∙ length-reverse bases
    ∙ length_map (λ (device : DeviceDecl). declared_base device.kind) devices

-- the definitions of a module are ready in the context of the devices and of what is found
pub module_ready : (devices : List DeviceDecl) (tree : ModuleSyntax) (findings : List Finding) (core : CoreModule)
    → length findings ≡ length tree.imports → AllByRecursion (FitsDevices devices) findings
    → first_missing tree.imports findings ≡ None → elaboration (device_names devices) tree ≡ IsElaborated core
    → AreReady (with_findings (declared_context devices) findings) core.definitions
module_ready devices tree findings core l fit found e =
    let g = with_findings (declared_context devices) findings in
    let base = found_base devices findings fit in
    let all = found_count (declared_context devices) tree.imports findings l found in
    let declared = count_devices devices in
    let named = length_map (λ (device : DeviceDecl). device.name) devices in
    let count : length (device_names devices) + length tree.imports ≡ length g = omega arith in
    record {
      formed = base.formed;
      globals_alone = base.globals_alone;
      each =
          subst (λ kinds. EachIsReady kinds core.definitions) (ap values count ∙ sym (kinds_of_globals g base.globals_alone))
          (elaborated_ready (device_names devices) tree core e);
    }

-- the oldest entries are the base
oldest_by : (n : ℕ) (x : Bind) (g base : Context) (test : Bool) → test ≡ false → oldest n g ≡ base
    → cond test (x ∷ g) (oldest n g) ≡ base
oldest_by n x g base true h is = cc
oldest_by n x g base false h is = is

all_oldest : (n : ℕ) (base : Context) → n ≡ length base → oldest n base ≡ base
all_oldest n [] is = refl
all_oldest n (x ∷ base) is = by_test (nat_lt (length base) n) refl
  where
    by_test : (test : Bool) → nat_lt (length base) n ≡ test → cond test (x ∷ base) (oldest n base) ≡ x ∷ base
    by_test true h = refl
    by_test false h = let most = ltb-false (length base) n h in absurd (omega arith)

not_oldest : (n m : ℕ) → n ≤ m → nat_lt m n ≡ false
not_oldest n m le = by_test (nat_lt m n) refl
  where
    by_test : (test : Bool) → nat_lt m n ≡ test → nat_lt m n ≡ false
    by_test true h = let less = ltb-true m n h in absurd (omega arith)
    by_test false h = h

oldest_is : (n : ℕ) (later base : Context) → n ≡ length base → oldest n (later ++ base) ≡ base
oldest_is n [] base is = all_oldest n base is
oldest_is n (x ∷ later) base is =
    let count = length-append later base in
    oldest_by n x (later ++ base) base (nat_lt (length (later ++ base)) n)
    (not_oldest n (length (later ++ base)) (omega arith)) (oldest_is n later base is)

pub oldest_of_base : (devices : List DeviceDecl) (g : Context) → HasBase (declared_context devices) g
    → oldest (length devices) g ≡ declared_context devices
oldest_of_base devices g h =
    ap (oldest (length devices)) h.is
    ∙ oldest_is (length devices) h.later (declared_context devices) (sym (count_devices devices))
