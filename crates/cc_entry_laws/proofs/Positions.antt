-- What the positions of a context stand for: position by position an entry with the target that it is the entry of.
use Rattle.std.proofs.Common.{◌≡◌, ◌⊎◌, ℕ, zero, suc, ◌<◌, ◌≤◌, List, [], ◌∷◌, map, length, Option, Some, None, Ok, inl, inr, refl, sym, ap, subst, ◌∙◌, arith}
use Rattle.std.specs.List.{AllByRecursion, Contains, filter_map}
use Rattle.std.specs.List.{cons_option}
use Rattle.cc_base.specs.declared.device.DeviceDecl.{DeviceDecl}
use Rattle.cc_core.specs.Contexts.{Bind, Context, lookup, entry_of}
use Rattle.cc_core.proofs.Lookups.{lookup-newest, lookup-older, lookup-cases}
use Rattle.cc_grammar.specs.Syntax.{ImportSyntax}
use Rattle.cc_graph.proofs.Paths.{IsAmong}
use Rattle.cc_verdicts.specs.ModuleVerdicts.{Finding, FoundDefinition, CheckedDefinition, ModuleVerdict, declared_context, with_finding, with_findings}
use Rattle.cc_verdicts.specs.PresentTexts.{Texts}
use Rattle.cc_verdicts.specs.StandingDefinitions.{Standing, with_definitions, standing_in}
use Rattle.cc_verdicts.proofs.GlobalContexts.{count_devices}
use Rattle.cc_entry_laws.specs.PresentLinks.{Target, DefinitionOf, DeviceAt, Universal, device_targets, with_imports, with_names}

-- A definition is found by the names, has the signature, and something holds of the names.
pub record IsNamed (texts : Texts) (verdicts : List ℕ → ModuleVerdict) (Holds : List ℕ → List ℕ → Type 0) (module_name name : List ℕ) (entry : Bind) : Type 0 where
  pub it : Standing
  pub found : standing_in texts verdicts module_name name ≡ Ok it
  pub entry_is : entry ≡ entry_of it.definition.accepted.signature
  pub holds : Holds module_name name

module _ (devices : ℕ) (texts : Texts) (verdicts : List ℕ → ModuleVerdict) (Holds : List ℕ → List ℕ → Type 0) where
  -- the entry at the position is that of the target
  abbrev pub StandsFor : ℕ → Bind → Target → Type 0
  StandsFor position entry (DefinitionOf module_name name) =
      IsNamed texts verdicts Holds module_name name entry × (devices ≤ position)
  StandsFor position entry (DeviceAt number) = (number ≡ position) × (position < devices)
  StandsFor position entry Universal = ⊥

  -- each entry of the context with what its position stands for
  abbrev pub ArePaired : Context → List Target → Type 0
  ArePaired [] [] = Unit {0}
  ArePaired [] (target ∷ targets) = ⊥
  ArePaired (entry ∷ context) [] = ⊥
  ArePaired (entry ∷ context) (target ∷ targets) = StandsFor (length context) entry target × ArePaired context targets

  pub paired_length : (context : Context) (targets : List Target) → ArePaired context targets
      → length context ≡ length targets
  paired_length [] [] paired = refl
  paired_length [] (target ∷ targets) paired = absurd paired
  paired_length (entry ∷ context) [] paired = absurd paired
  paired_length (entry ∷ context) (target ∷ targets) paired = ap suc (paired_length context targets paired.1)

  -- what stands for a target has an entry
  pub record HasEntry (context : Context) (position : ℕ) (target : Target) : Type 0 where
    pub entry : Bind
    pub is : lookup context position ≡ Some entry
    pub stands : StandsFor position entry target

  -- what has an entry stands for a target
  pub record HasTarget (targets : List Target) (position : ℕ) (entry : Bind) : Type 0 where
    pub target : Target
    pub is : lookup targets position ≡ Some target
    pub stands : StandsFor position entry target

  pub entry_at : (context : Context) (targets : List Target) → ArePaired context targets → (position : ℕ) (target : Target)
      → lookup targets position ≡ Some target → HasEntry context position target
  entry_at [] [] paired position target is = none_at is
    where
      none_at : {B : Type 0} → None ≡ Some target → B
      none_at h = cc
  entry_at [] (first ∷ targets) paired position target is = absurd paired
  entry_at (entry ∷ context) [] paired position target is = absurd paired
  entry_at (entry ∷ context) (first ∷ targets) paired position target is =
      let same : length context ≡ length targets = paired_length context targets paired.1 in
      elim (lookup-cases first targets position target is) [
        | inl (at, is_it) ↦
            let here : position ≡ length context = at ∙ sym same in
            record {
              entry = entry;
              is = ap (lookup (entry ∷ context)) here ∙ lookup-newest entry context;
              stands = subst (λ p. StandsFor p entry target) (sym here) (subst (StandsFor (length context) entry) is_it paired.0);
            }
        | inr there ↦
            let found = entry_at context targets paired.1 position target there in
            record { entry = found.entry; is = lookup-older entry context position found.entry found.is; stands = found.stands }
      ]

  pub target_at : (context : Context) (targets : List Target) → ArePaired context targets → (position : ℕ) (entry : Bind)
      → lookup context position ≡ Some entry → HasTarget targets position entry
  target_at [] [] paired position entry is = none_at is
    where
      none_at : {B : Type 0} → None ≡ Some entry → B
      none_at h = cc
  target_at [] (first ∷ targets) paired position entry is = absurd paired
  target_at (newest ∷ context) [] paired position entry is = absurd paired
  target_at (newest ∷ context) (first ∷ targets) paired position entry is =
      let same : length context ≡ length targets = paired_length context targets paired.1 in
      elim (lookup-cases newest context position entry is) [
        | inl (at, is_it) ↦
            let here : position ≡ length targets = at ∙ same in
            record {
              target = first;
              is = ap (lookup (first ∷ targets)) here ∙ lookup-newest first targets;
              stands = subst (λ p. StandsFor p entry first) (sym at) (subst (λ b. StandsFor (length context) b first) is_it paired.0);
            }
        | inr there ↦
            let found = target_at context targets paired.1 position entry there in
            record { target = found.target; is = lookup-older first targets position found.target found.is; stands = found.stands }
      ]

  -- the devices alone
  device_pairs : (context : Context) → length context ≤ devices → ArePaired context (device_targets (length context))
  device_pairs [] low = tt
  device_pairs (entry ∷ context) low = ((refl, omega arith), device_pairs context (omega arith))

  pub declared_pairs : (declared : List DeviceDecl) → length declared ≡ devices
      → ArePaired (declared_context declared) (device_targets devices)
  declared_pairs declared is =
      let count : length (declared_context declared) ≡ devices = count_devices declared ∙ is in
      subst (λ n. ArePaired (declared_context declared) (device_targets n)) count
      (device_pairs (declared_context declared) (omega arith))

  -- what is found for an import
  abbrev pub IsFoundAs : Finding → ImportSyntax → Type 0
  IsFoundAs finding one =
      (it : Standing) × (standing_in texts verdicts one.source one.name ≡ Ok it)
      × (finding ≡ FoundDefinition it.definition.accepted.signature) × Holds one.source one.name

  pub import_pairs : (f : ImportSyntax → Finding) (imports : List ImportSyntax)
      → ((one : ImportSyntax) → IsAmong one imports → IsFoundAs (f one) one)
      → (context : Context) (targets : List Target) → devices ≤ length context → ArePaired context targets
      → ArePaired (with_findings context (map f imports)) (with_imports targets imports)
  import_pairs f [] each context targets low paired = paired
  import_pairs f (first ∷ rest) each context targets low paired =
      let (it, found, is, holds) = each first (inl refl) in
      let entry : Bind = entry_of it.definition.accepted.signature in
      let named : IsNamed texts verdicts Holds first.source first.name entry = record { it = it; found = found; entry_is = refl; holds = holds } in
      subst (λ finding. ArePaired (with_findings (with_finding context finding) (map f rest)) (with_imports (DefinitionOf first.source first.name ∷ targets) rest))
      (sym is)
      (import_pairs f rest (λ one among. each one (inr among)) (entry ∷ context)
      (DefinitionOf first.source first.name ∷ targets) (omega arith) ((named, low), paired))

  -- definitions of the module
  pub name_pairs : (module_name : List ℕ) (before : List CheckedDefinition)
      → AllByRecursion (λ one. IsNamed texts verdicts Holds module_name one.name (entry_of one.accepted.signature)) before
      → (context : Context) (targets : List Target) → devices ≤ length context → ArePaired context targets
      → ArePaired (with_definitions context before) (with_names module_name targets before)
  name_pairs module_name [] each context targets low paired = paired
  name_pairs module_name (first ∷ rest) each context targets low paired =
      name_pairs module_name rest each.1 (entry_of first.accepted.signature ∷ context)
      (DefinitionOf module_name first.name ∷ targets) (omega arith) ((each.0, low), paired)

  pub with_findings_longer : (context : Context) (findings : List Finding) → devices ≤ length context
      → devices ≤ length (with_findings context findings)
  with_findings_longer context [] low = low
  with_findings_longer context (first ∷ rest) low =
      with_findings_longer (with_finding context first) rest (longer first)
    where
      longer : (finding : Finding) → devices ≤ length (with_finding context finding)
      longer (FoundDefinition signature) = omega arith
      longer _ = low

-- members of a list that a function gives something for
in_first : {A : Type 0} (x : A) (xs : List A) → Contains (x ∷ xs) x
in_first x xs = (0, omega arith, refl)

in_rest : {A : Type 0} (x : A) (xs : List A) (y : A) → Contains xs y → Contains (x ∷ xs) y
in_rest x xs y (k, below, is) = (suc k, omega arith, is)

pub first_or_rest : {A : Type 0} (x : A) (xs : List A) (y : A) → Contains (x ∷ xs) y → (x ≡ y) ⊎ Contains xs y
first_or_rest x xs y (zero, below, is) = inl is
first_or_rest x xs y (suc k, below, is) = inr (k, omega arith, is)

pub in_nothing : {A B : Type 0} (y : A) → Contains [] y → B
in_nothing y (k, below, is) = absurd (omega arith)

some_same : {B : Type 0} (x y : B) → Some x ≡ Some y → x ≡ y
some_same x y e = cc

given_first : {B : Type 0} (o : Option B) (ys : List B) (y : B) → o ≡ Some y → Contains (cons_option o ys) y
given_first None ys y is = cc
given_first (Some x) ys y is = (0, omega arith, some_same x y is)

given_rest : {B : Type 0} (o : Option B) (ys : List B) (y : B) → Contains ys y → Contains (cons_option o ys) y
given_rest None ys y among = among
given_rest (Some x) ys y among = in_rest x ys y among

given_cases : {B : Type 0} (o : Option B) (ys : List B) (y : B) → Contains (cons_option o ys) y
    → (o ≡ Some y) ⊎ Contains ys y
given_cases None ys y among = inr among
given_cases (Some x) ys y among =
    elim (first_or_rest x ys y among) [ inl is ↦ inl (ap (λ z. Some z) is) | inr rest ↦ inr rest ]

pub in_given : {A B : Type 0} (f : A → Option B) (xs : List A) (x : A) (y : B) → Contains xs x → f x ≡ Some y
    → Contains (filter_map f xs) y
in_given f [] x y among is = in_nothing x among
in_given f (first ∷ rest) x y among is =
    elim (first_or_rest first rest x among) [
      | inl same ↦ given_first (f first) (filter_map f rest) y (ap f same ∙ is)
      | inr there ↦ given_rest (f first) (filter_map f rest) y (in_given f rest x y there is)
    ]

pub from_given : {A B : Type 0} (f : A → Option B) (xs : List A) (y : B) → Contains (filter_map f xs) y
    → (x : A) × Contains xs x × (f x ≡ Some y)
from_given f [] y among = in_nothing y among
from_given f (first ∷ rest) y among =
    elim (given_cases (f first) (filter_map f rest) y among) [
      | inl is ↦ (first, in_first first rest, is)
      | inr there ↦ let (x, is_there, is) = from_given f rest y there in (x, in_rest first rest x is_there, is)
    ]
