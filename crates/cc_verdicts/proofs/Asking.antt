-- Which modules' verdicts are asked for that of a module, and what follows from what those are.
use Rattle.std.proofs.Common.{◌≡◌, ◌⊎◌, ℕ, Bool, true, false, List, [], ◌∷◌, ◌++◌, length, map, reverse, Option, Some, None}
use Rattle.std.proofs.Common.{ap, ◌∙◌, sym, subst, refl, inl, inr, if◌then◌else◌}
use Rattle.std.proofs.lemmas.Bool.{cases_Bool}
use Rattle.std.proofs.lemmas.List.{length-map, map_push, reverse-append}
use Rattle.std.specs.List.{AllByRecursion}
use Rattle.std.specs.Option.{unwrap_or, is_some}
use Rattle.std.specs.Str.{bytes_eq}
use Rattle.cc_base.specs.declared.device.DeviceDecl.{DeviceDecl}
use Rattle.cc_grammar.specs.Syntax.{ImportSyntax}
use Rattle.cc_graph.specs.Graph.{reaches}
use Rattle.cc_graph.proofs.Paths.{IsAmong}
use Rattle.cc_verdicts.specs.Readings.{imports_of}
use Rattle.cc_verdicts.specs.ModuleVerdicts.{Finding, NoModule, InCycle, CheckedDefinition}
use Rattle.cc_verdicts.specs.ModuleVerdicts.{ModuleVerdict, IsAccepted, IsRefused, HasModuleVerdict}
use Rattle.cc_verdicts.specs.PresentTexts.{Texts, text_of, graph_of, definition_named, found_or_none, finding_in}
use Rattle.cc_verdicts.specs.PresentTexts.{finding_for, findings_for}
use Rattle.cc_verdicts.specs.ModuleLaws.{NamesOfDevicesDiffer, IsOverDevices, FitsDevices, AreFit}
use Rattle.cc_verdicts.specs.ModuleLaws.{AcceptedModulesAreSound}

-- the module imports from the other one, which is present and does not reach back
pub record Asks (texts : Texts) (name other : List ℕ) : Type 0 where
  pub text : List ℕ
  pub is_text : text_of texts name ≡ Some text
  pub one : ImportSyntax
  pub among : IsAmong one (unwrap_or (imports_of text) [])
  pub source : one.source ≡ other
  pub present : is_some (text_of texts other) ≡ true
  pub ahead : reaches (graph_of texts) other name ≡ false

-- an option has a value, or none
pub cases_option : {A : Type 0} (o : Option A) → ((x : A) × (o ≡ Some x)) ⊎ (o ≡ None)
cases_option None = inr refl
cases_option (Some x) = inl (x, refl)

pub some_of : {A : Type 0} (o : Option A) → is_some o ≡ true → (x : A) × (o ≡ Some x)
some_of None h = cc
some_of (Some x) h = (x, refl)

pub map_same : {A B : Type 0} (f g : A → B) (xs : List A) → ((x : A) → IsAmong x xs → f x ≡ g x) → map f xs ≡ map g xs
map_same f g [] same = refl
map_same f g (x ∷ xs) same =
    ap (λ y. y ∷ map f xs) (same x (inl refl))
    ∙ ap (λ ys. g x ∷ ys) (map_same f g xs (λ y among. same y (inr among)))

pub map-reverse : {A B : Type 0} (f : A → B) (xs : List A) → map f (reverse xs) ≡ reverse (map f xs)
map-reverse f [] = refl
map-reverse f (x ∷ xs) =
    ap (map f) (reverse-append (x ∷ []) xs) ∙ map_push f (reverse xs) x
    ∙ ap (λ ys. ys ++ f x ∷ []) (map-reverse f xs) ∙ sym (reverse-append (f x ∷ []) (map f xs))

pub all_mapped : {A B : Type 0} (P : B → Type 0) (f : A → B) (xs : List A) → ((x : A) → IsAmong x xs → P (f x))
    → AllByRecursion P (map f xs)
all_mapped P f [] each = tt
all_mapped P f (x ∷ xs) each = (each x (inl refl), all_mapped P f xs (λ y among. each y (inr among)))

-- what is found, by whether the module is present and in a cycle
abbrev pub found_by : Bool → Bool → Finding → Finding
found_by present cyclic finding = if present then (if cyclic then InCycle else finding) else NoModule

pub found_by_same : (present cyclic : Bool) (a b : Finding) → (present ≡ true → cyclic ≡ false → a ≡ b)
    → found_by present cyclic a ≡ found_by present cyclic b
found_by_same false cyclic a b same = refl
found_by_same true true a b same = refl
found_by_same true false a b same = same refl refl

pub found_by_fits : (devices : List DeviceDecl) (present cyclic : Bool) (finding : Finding)
    → (present ≡ true → cyclic ≡ false → FitsDevices devices finding)
    → FitsDevices devices (found_by present cyclic finding)
found_by_fits devices false cyclic finding fits = tt
found_by_fits devices true true finding fits = tt
found_by_fits devices true false finding fits = fits refl refl

-- the import of the module asks the other one, where that is present and does not reach back
pub asks_source : (texts : Texts) (name text : List ℕ) → text_of texts name ≡ Some text → (one : ImportSyntax)
    → IsAmong one (unwrap_or (imports_of text) []) → is_some (text_of texts one.source) ≡ true
    → reaches (graph_of texts) one.source name ≡ false → Asks texts name one.source
asks_source texts name text is_text one among present ahead =
    record {
      text = text;
      is_text = is_text;
      one = one;
      among = among;
      source = refl;
      present = present;
      ahead = ahead;
    }

finding_same : (texts : Texts) (first second : List ℕ → ModuleVerdict) (name : List ℕ) (one : ImportSyntax)
    → (is_some (text_of texts one.source) ≡ true → reaches (graph_of texts) one.source name ≡ false
    → first one.source ≡ second one.source)
    → finding_for texts first name one ≡ finding_for texts second name one
unfolding finding_for
finding_same texts first second name one same =
    found_by_same (is_some (text_of texts one.source)) (reaches (graph_of texts) one.source name)
    (finding_in (first one.source) one.name) (finding_in (second one.source) one.name)
    (λ present ahead. ap (λ v. finding_in v one.name) (same present ahead))

-- where what is asked is the same, the findings are
pub findings_same : (texts : Texts) (first second : List ℕ → ModuleVerdict) (name text : List ℕ)
    → text_of texts name ≡ Some text
    → ((other : List ℕ) → Asks texts name other → first other ≡ second other)
    → findings_for texts first name text ≡ findings_for texts second name text
findings_same texts first second name text is_text same =
    map_same (finding_for texts first name) (finding_for texts second name) (unwrap_or (imports_of text) [])
    (λ one among.
    finding_same texts first second name one
    (λ present ahead. same one.source (asks_source texts name text is_text one among present ahead)))

-- the signatures of an accepted module are over the devices
abbrev pub AreSignaturesOver : List DeviceDecl → ModuleVerdict → Type 0
AreSignaturesOver devices (IsAccepted definitions) =
    AllByRecursion (λ one. IsOverDevices devices one.accepted.signature) definitions
AreSignaturesOver devices (IsRefused code at) = Unit {0}

found_over : (devices : List DeviceDecl) (name : List ℕ) (definitions : List CheckedDefinition)
    → AllByRecursion (λ one. IsOverDevices devices one.accepted.signature) definitions
    → FitsDevices devices (found_or_none (definition_named name definitions))
found_over devices name [] all = tt
found_over devices name (first ∷ rest) all =
    elim (cases_Bool (bytes_eq first.name name)) [
      | inl same ↦ rw same all.0
      | inr other ↦ rw other (found_over devices name rest all.1)
    ]

finding_over : (devices : List DeviceDecl) (verdict : ModuleVerdict) (name : List ℕ)
    → AreSignaturesOver devices verdict → FitsDevices devices (finding_in verdict name)
finding_over devices (IsAccepted definitions) name over = found_over devices name definitions over
finding_over devices (IsRefused code at) name over = tt

finding_fits : (devices : List DeviceDecl) (texts : Texts) (verdicts : List ℕ → ModuleVerdict) (name : List ℕ)
    (one : ImportSyntax)
    → (is_some (text_of texts one.source) ≡ true → reaches (graph_of texts) one.source name ≡ false
    → AreSignaturesOver devices (verdicts one.source))
    → FitsDevices devices (finding_for texts verdicts name one)
unfolding finding_for
finding_fits devices texts verdicts name one over =
    found_by_fits devices (is_some (text_of texts one.source)) (reaches (graph_of texts) one.source name)
    (finding_in (verdicts one.source) one.name)
    (λ present ahead. finding_over devices (verdicts one.source) one.name (over present ahead))

-- where the modules that are asked have signatures over the devices, the findings fit
pub findings_fit : (devices : List DeviceDecl) (texts : Texts) (verdicts : List ℕ → ModuleVerdict) (name text : List ℕ)
    → text_of texts name ≡ Some text
    → ((other : List ℕ) → Asks texts name other → AreSignaturesOver devices (verdicts other))
    → AreFit devices text (findings_for texts verdicts name text)
findings_fit devices texts verdicts name text is_text over =
    record {
      one_each = length-map (unwrap_or (imports_of text) []) (finding_for texts verdicts name);
      over_devices = all_mapped (FitsDevices devices) (finding_for texts verdicts name)
          (unwrap_or (imports_of text) [])
          (λ one among.
          finding_fits devices texts verdicts name one
          (λ present ahead. over one.source (asks_source texts name text is_text one among present ahead)));
    }

-- a verdict that is deserved with findings that fit has signatures over the devices
pub verdict_over : AcceptedModulesAreSound → (devices : List DeviceDecl) (text : List ℕ) (findings : List Finding)
    (verdict : ModuleVerdict) → NamesOfDevicesDiffer devices → AreFit devices text findings
    → HasModuleVerdict devices text findings verdict → AreSignaturesOver devices verdict
verdict_over sound devices text findings (IsAccepted definitions) differ fit has =
    (sound devices text findings definitions differ fit has).over_devices
verdict_over sound devices text findings (IsRefused code at) differ fit has = tt
