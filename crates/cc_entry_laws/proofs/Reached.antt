-- Definitions that stand in accepted present modules, and what the positions before them stand for.
use Rattle.std.proofs.Common.{◌≡◌, ℕ, ◌<◌, ◌≤◌, Bool, true, false, List, [], ◌∷◌, ◌++◌, map, length, Some, Ok, inl, inr, refl, sym, ap, subst, ◌∙◌, append_assoc, arith}
use Rattle.std.proofs.lemmas.Bool.{cases_Bool}
use Rattle.std.specs.List.{AllByRecursion}
use Rattle.std.specs.Option.{is_some, option_map, unwrap_or}
use Rattle.std.specs.Str.{bytes_eq}
use Rattle.cc_base.specs.declared.device.DeviceDecl.{DeviceDecl}
use Rattle.cc_capture.specs.declared.var.Var.TheVariants.{Bound, Free}
use Rattle.cc_capture.specs.declared.var.Elem.{Elem}
use Rattle.cc_capture.specs.declared.var.Elem.TheVariants.{Var as Variable, Cap, Hole}
use Rattle.cc_capture.specs.Sets.{Set, Member}
use Rattle.cc_core.specs.Contexts.{TermEntry, Context, entry_of}
use Rattle.cc_core.specs.Occurrences.{IsNoHole, HasNoHoleInSet}
use Rattle.cc_core.specs.Shapes.{Shape, CapturingType}
use Rattle.cc_core.specs.WellFormed.{kind_of, kinds_of}
use Rattle.cc_core.proofs.KindFacts.{IsKindedElement, IsKindedSet, IsKindedType-from}
use Rattle.cc_core.proofs.Lookups.{lookup-below, length_map}
use Rattle.cc_grammar.specs.Syntax.{ImportSyntax}
use Rattle.cc_graph.specs.Graph.{reaches}
use Rattle.cc_graph.proofs.Paths.{IsAmong}
use Rattle.cc_checking.specs.Fillings.{IsGlobal}
use Rattle.cc_checking_laws.specs.CheckingLaws.{SetsAreOverDevices}
use Rattle.cc_entry_laws.proofs.AcceptedImports.{found_imports}
use Rattle.cc_verdicts.specs.ModuleLaws.{NamesOfDevicesDiffer, IsOverDevices}
use Rattle.cc_verdicts.specs.ModuleVerdicts.{Finding, FoundDefinition, CheckedDefinition, ModuleVerdict, IsAccepted, IsRefused, HasModuleVerdict, declared_context, with_findings}
use Rattle.cc_verdicts.specs.PresentTexts.{Texts, ArePresent, text_of, graph_of, definition_named, found_or_none, finding_in, finding_for, findings_for, AreVerdicts}
use Rattle.cc_verdicts.specs.Readings.{imports_of}
use Rattle.cc_verdicts.specs.StandingDefinitions.{Standing, StandsInPresentModule, with_definitions, first_named, standing_or, standing_by, standing_from, standing_in}
use Rattle.cc_verdicts.proofs.Asking.{Asks, some_of, found_by, asks_source}
use Rattle.cc_verdicts.proofs.FoundStanding.{definitions_stand, definitions_found}
use Rattle.cc_verdicts.proofs.GlobalContexts.{count_devices}
use Rattle.cc_verdicts.proofs.ModuleVerdictLaws.{accepted_modules_are_sound}
use Rattle.cc_verdicts.proofs.PresentLaws.{present_findings_fit}
use Rattle.cc_verdicts.proofs.PlacedDefinitions.{Placed, standing_placed}
use Rattle.cc_entry_laws.proofs.Positions.{IsNamed, StandsFor, ArePaired, target_at, declared_pairs, IsFoundAs, import_pairs, name_pairs, with_findings_longer}
use Rattle.cc_entry_laws.specs.PresentLinks.{Target, DefinitionOf, DeviceAt, Universal, device_targets, with_imports, earlier_targets}

-- ---- what is found for an import
found_parts : (present cyclic : Bool) (finding : Finding) (signature : CapturingType)
    → found_by present cyclic finding ≡ FoundDefinition signature
    → (present ≡ true) × (cyclic ≡ false) × (finding ≡ FoundDefinition signature)
found_parts true false finding signature is = (refl, refl, is)
found_parts true true finding signature is = cc
found_parts false cyclic finding signature is = cc

in_verdict : (verdict : ModuleVerdict) (name : List ℕ) (signature : CapturingType)
    → finding_in verdict name ≡ FoundDefinition signature
    → (definitions : List CheckedDefinition) × (verdict ≡ IsAccepted definitions)
    × (found_or_none (definition_named name definitions) ≡ FoundDefinition signature)
in_verdict (IsAccepted definitions) name signature is = (definitions, refl, is)
in_verdict (IsRefused code at) name signature is = cc

same_signature : (one other : CapturingType) → FoundDefinition one ≡ FoundDefinition other → one ≡ other
same_signature one other e = cc

-- the first definition of the name, with what stands before it
record IsFirst (name : List ℕ) (definitions : List CheckedDefinition) (signature : CapturingType) : Type 0 where
  found : List CheckedDefinition × CheckedDefinition
  is : first_named name definitions ≡ Some found
  signed : found.1.accepted.signature ≡ signature

first_of_name : (name : List ℕ) (definitions : List CheckedDefinition) (signature : CapturingType)
    → found_or_none (definition_named name definitions) ≡ FoundDefinition signature → IsFirst name definitions signature
first_of_name name [] signature is = cc
first_of_name name (first ∷ rest) signature is =
    elim (cases_Bool (bytes_eq first.name name)) [
      | inl same ↦
          record {
            found = ([], first);
            is = rw same refl;
            signed = same_signature first.accepted.signature signature (rw same at is);
          }
      | inr other ↦
          let behind = first_of_name name rest signature (rw other at is) in
          record {
            found = (first ∷ behind.found.0, behind.found.1);
            is = rw other (ap (option_map (λ (found : List CheckedDefinition × CheckedDefinition). (first ∷ found.0, found.1))) behind.is);
            signed = behind.signed;
          }
    ]

-- the definition that is found so
abbrev first_standing : Texts → (List ℕ → ModuleVerdict) → List ℕ → List ℕ → List CheckedDefinition × CheckedDefinition
    → Standing
first_standing texts verdicts source text found = record {
  imports = unwrap_or (imports_of text) [];
  findings = findings_for texts verdicts source text;
  before = found.0;
  definition = found.1;
}

first_found : (texts : Texts) (verdicts : List ℕ → ModuleVerdict) (source name text : List ℕ)
    (definitions : List CheckedDefinition) (found : List CheckedDefinition × CheckedDefinition)
    → text_of texts source ≡ Some text → verdicts source ≡ IsAccepted definitions
    → first_named name definitions ≡ Some found
    → standing_in texts verdicts source name ≡ Ok (first_standing texts verdicts source text found)
first_found texts verdicts source name text definitions found is_text accepted is =
    ap (standing_from texts verdicts source name) is_text
    ∙ ap (λ v. standing_by (unwrap_or (imports_of text) []) (findings_for texts verdicts source text) v name) accepted
    ∙ ap (standing_or (unwrap_or (imports_of text) []) (findings_for texts verdicts source text)) is

-- ---- the elements of a set over devices
within_devices : (g : Context) (c : Set) → IsKindedSet (kinds_of g) [] c → HasNoHoleInSet c → (e : Elem) → Member e c
    → IsGlobal (length g) e
within_devices g c kinded none e m = by_element e (kinded e m) (none e m)
  where
    by_element : (e : Elem) → IsKindedElement (kinds_of g) [] e → IsNoHole e → IsGlobal (length g) e
    by_element (Variable (Free p)) k n =
        let below : p < length (kinds_of g) = lookup-below (kinds_of g) p _ k in
        subst (λ m. p < m) (length_map kind_of g) below
    by_element (Variable (Bound i)) k n = cc
    by_element Cap k n = tt
    by_element (Hole h) k n = absurd n

over_devices : (declared : List DeviceDecl) (type : CapturingType) → IsOverDevices declared type → (e : Elem)
    → Member e type.set → IsGlobal (length declared) e
over_devices declared type over e m =
    subst (λ n. IsGlobal n e) (count_devices declared)
    (within_devices (declared_context declared) type.set
    (IsKindedType-from (kinds_of (declared_context declared)) [] type over.0).1 over.1.1 e m)

one_of : (P : CheckedDefinition → Type 0) (before : List CheckedDefinition) (one : CheckedDefinition)
    (after : List CheckedDefinition) → AllByRecursion P (before ++ one ∷ after) → P one
one_of P [] one after all = all.0
one_of P (first ∷ before) one after all = one_of P before one after all.1

-- ---- where a definition stands
pub record StandsIn (texts : Texts) (verdicts : List ℕ → ModuleVerdict) (name : List ℕ) (it : Standing) : Type 0 where
  pub text : List ℕ
  pub is_text : text_of texts name ≡ Some text
  pub imports_are : imports_of text ≡ Some it.imports
  pub findings_are : it.findings ≡ findings_for texts verdicts name text
  pub after : List CheckedDefinition
  pub accepted : verdicts name ≡ IsAccepted (it.before ++ it.definition ∷ after)

-- the context before it
abbrev pub globals_of : List DeviceDecl → Standing → Context
globals_of declared it = with_definitions (with_findings (declared_context declared) it.findings) it.before

module _ (declared : List DeviceDecl) (texts : Texts) (verdicts : List ℕ → ModuleVerdict)
    (differ : NamesOfDevicesDiffer declared) (present : ArePresent texts) (are : AreVerdicts declared texts verdicts) where
  pub stands_in : (module_name name : List ℕ) (it : Standing) → standing_in texts verdicts module_name name ≡ Ok it
      → StandsIn texts verdicts module_name it × (it.definition.name ≡ name)
  stands_in module_name name it found =
      let (stands, here, named) = definitions_stand declared texts verdicts module_name name it are found in
      let P : List ℕ → Type 0 = λ x. StandsIn texts verdicts x it in (
        subst P here
            (record {
              text = stands.text;
              is_text = stands.present;
              imports_are = stands.imports_are;
              findings_are = stands.findings_are;
              after = stands.after;
              accepted = stands.accepted;
            }),
        named,
      )

  pub found_in : (module_name : List ℕ) (it : Standing) → StandsIn texts verdicts module_name it
      → standing_in texts verdicts module_name it.definition.name ≡ Ok it
  found_in module_name it stands =
      let in_module : StandsInPresentModule declared texts verdicts it.imports it.findings it.before it.definition =
      record {
        name = module_name;
        text = stands.text;
        present = stands.is_text;
        imports_are = stands.imports_are;
        findings_are = stands.findings_are;
        after = stands.after;
        accepted = stands.accepted;
      } in
      definitions_found declared texts verdicts it.imports it.findings it.before it.definition differ present are in_module

  pub checked_there : (module_name : List ℕ) (it : Standing) → StandsIn texts verdicts module_name it
      → Placed (length declared) (globals_of declared it) it.definition
  checked_there module_name it stands =
      standing_placed declared texts verdicts it.findings it.before it.definition stands.after module_name stands.text
      differ present are stands.is_text stands.findings_are stands.accepted

  -- its signature is over the devices
  pub signed_over : (module_name : List ℕ) (it : Standing) → StandsIn texts verdicts module_name it
      → (e : Elem) → Member e it.definition.accepted.signature.set → IsGlobal (length declared) e
  signed_over module_name it stands =
      let has : HasModuleVerdict declared stands.text (findings_for texts verdicts module_name stands.text)
      (IsAccepted (it.before ++ it.definition ∷ stands.after)) =
      subst (HasModuleVerdict declared stands.text (findings_for texts verdicts module_name stands.text)) stands.accepted
      (are module_name stands.text stands.is_text) in
      let sound =
      accepted_modules_are_sound declared stands.text (findings_for texts verdicts module_name stands.text)
      (it.before ++ it.definition ∷ stands.after) differ
      (present_findings_fit declared texts verdicts differ present are module_name stands.text stands.is_text) has in
      over_devices declared it.definition.accepted.signature
      (one_of (λ one. IsOverDevices declared one.accepted.signature) it.before it.definition stands.after sound.over_devices)

  -- a definition before it, with what stands before that one
  abbrev pub earlier_one : Standing → List CheckedDefinition → CheckedDefinition → Standing
  earlier_one it front one =
      record { imports = it.imports; findings = it.findings; before = front; definition = one }

  pub stands_earlier : (module_name : List ℕ) (it : Standing) → StandsIn texts verdicts module_name it
      → (front : List CheckedDefinition) (one : CheckedDefinition) (rest : List CheckedDefinition)
      → it.before ≡ front ++ one ∷ rest → StandsIn texts verdicts module_name (earlier_one it front one)
  stands_earlier module_name it stands front one rest is =
      record {
        text = stands.text;
        is_text = stands.is_text;
        imports_are = stands.imports_are;
        findings_are = stands.findings_are;
        after = rest ++ it.definition ∷ stands.after;
        accepted = stands.accepted
            ∙ ap IsAccepted
            (ap (λ before. before ++ it.definition ∷ stands.after) is
            ∙ append_assoc front (one ∷ rest) (it.definition ∷ stands.after));
      }

  -- ---- what the positions before it stand for, where something holds of all that it may name
  module _ (Holds : List ℕ → List ℕ → Type 0) where
    import_found : (module_name : List ℕ) (it : Standing) → StandsIn texts verdicts module_name it
        → ((other : List ℕ) → Asks texts module_name other → (name : List ℕ) → Holds other name)
        → (one : ImportSyntax) → IsAmong one it.imports
        → IsFoundAs (length declared) texts verdicts Holds (finding_for texts verdicts module_name one) one
    unfolding finding_for
    import_found module_name it stands holds one among =
        let all = found_imports declared texts verdicts module_name stands.text
        (findings_for texts verdicts module_name stands.text) (verdicts module_name)
        (it.before ++ it.definition ∷ stands.after) refl (are module_name stands.text stands.is_text) stands.accepted in
        let same : all.imports ≡ it.imports = same_imports all.imports it.imports (sym all.is ∙ stands.imports_are) in
        let (signature, finds) = all.found one (subst (IsAmong one) (sym same) among) in
        let parts = found_parts (is_some (text_of texts one.source)) (reaches (graph_of texts) one.source module_name)
        (finding_in (verdicts one.source) one.name) signature finds in
        let (definitions, accepted, named) = in_verdict (verdicts one.source) one.name signature parts.2 in
        let first = first_of_name one.name definitions signature named in
        let (text, is_text) = some_of (text_of texts one.source) parts.0 in
        let listed : IsAmong one (unwrap_or (imports_of stands.text) []) =
        subst (λ imports. IsAmong one (unwrap_or imports [])) (sym stands.imports_are) among in
        let asks = asks_source texts module_name stands.text stands.is_text one listed parts.0 parts.1 in (
          first_standing texts verdicts one.source text first.found,
          first_found texts verdicts one.source one.name text definitions first.found is_text accepted first.is,
          finds ∙ ap FoundDefinition (sym first.signed),
          holds one.source asks one.name,
        )
      where
        same_imports : (a b : List ImportSyntax) → Some a ≡ Some b → a ≡ b
        same_imports a b e = cc

    each_named : (module_name : List ℕ) (it : Standing) → StandsIn texts verdicts module_name it
        → (front rest : List CheckedDefinition) → it.before ≡ front ++ rest
        → AllByRecursion (λ one. Holds module_name one.name) rest
        → AllByRecursion (λ one. IsNamed texts verdicts Holds module_name one.name (entry_of one.accepted.signature)) rest
    each_named module_name it stands front [] is holds = tt
    each_named module_name it stands front (one ∷ rest) is holds = (
      record {
        it = earlier_one it front one;
        found = found_in module_name (earlier_one it front one) (stands_earlier module_name it stands front one rest is);
        entry_is = refl;
        holds = holds.0;
      },
      each_named module_name it stands (front ++ one ∷ []) rest (is ∙ sym (append_assoc front (one ∷ []) rest)) holds.1,
    )

    pub globals_paired : (module_name : List ℕ) (it : Standing) → StandsIn texts verdicts module_name it
        → ((other : List ℕ) → Asks texts module_name other → (name : List ℕ) → Holds other name)
        → AllByRecursion (λ one. Holds module_name one.name) it.before
        → ArePaired (length declared) texts verdicts Holds (globals_of declared it) (earlier_targets declared module_name it)
    globals_paired module_name it stands imports_hold before_hold =
        let found : it.findings ≡ map (finding_for texts verdicts module_name) it.imports =
        stands.findings_are ∙ ap (λ imports. map (finding_for texts verdicts module_name) (unwrap_or imports [])) stands.imports_are in
        let low : length declared ≤ length (declared_context declared) = omega (arith, count_devices declared) in
        let low_found = with_findings_longer (length declared) texts verdicts Holds (declared_context declared) it.findings low in
        name_pairs (length declared) texts verdicts Holds module_name it.before
        (each_named module_name it stands [] it.before refl before_hold) (with_findings (declared_context declared) it.findings)
        (with_imports (device_targets (length declared)) it.imports) low_found
        (subst (λ findings. ArePaired (length declared) texts verdicts Holds
        (with_findings (declared_context declared) findings) (with_imports (device_targets (length declared)) it.imports))
        (sym found)
        (import_pairs (length declared) texts verdicts Holds (finding_for texts verdicts module_name) it.imports
        (import_found module_name it stands imports_hold) (declared_context declared)
        (device_targets (length declared)) low
        (declared_pairs (length declared) texts verdicts Holds declared refl)))

  -- the sets of the definitions before it are over the devices
  over_target : (position : ℕ) (shape : Shape) (set : Set) (e : Elem) → length declared ≤ position → Member e set
      → (target : Target)
      → StandsFor (length declared) texts verdicts (λ m n. Unit {0}) position (TermEntry shape set) target
      → IsGlobal (length declared) e
  over_target position shape set e low member (DefinitionOf module_name name) (named, above) =
      let stands = (stands_in module_name name named.it named.found).0 in
      signed_over module_name named.it stands e
      (subst (Member e) (set_part shape set named.it.definition.accepted.signature named.entry_is) member)
    where
      set_part : (shape : Shape) (set : Set) (type : CapturingType) → TermEntry shape set ≡ entry_of type → set ≡ type.set
      set_part shape set type is = cc
  over_target position shape set e low member (DeviceAt number) (same, below) = absurd (omega arith)
  over_target position shape set e low member Universal stands = absurd stands

  no_more_said : (before : List CheckedDefinition) → AllByRecursion (λ (one : CheckedDefinition). Unit {0}) before
  no_more_said [] = tt
  no_more_said (first ∷ rest) = (tt, no_more_said rest)

  pub paired_there : (module_name : List ℕ) (it : Standing) → StandsIn texts verdicts module_name it
      → ArePaired (length declared) texts verdicts (λ m n. Unit {0}) (globals_of declared it)
      (earlier_targets declared module_name it)
  paired_there module_name it stands =
      globals_paired (λ m n. Unit {0}) module_name it stands (λ other asks name. tt) (no_more_said it.before)

  pub globals_over : (module_name : List ℕ) (it : Standing) → StandsIn texts verdicts module_name it
      → SetsAreOverDevices (length declared) (globals_of declared it)
  globals_over module_name it stands position shape set e low is member =
      let at = target_at (length declared) texts verdicts (λ m n. Unit {0}) (globals_of declared it)
      (earlier_targets declared module_name it) (paired_there module_name it stands) position (TermEntry shape set) is in
      over_target position shape set e low member at.target at.stands
