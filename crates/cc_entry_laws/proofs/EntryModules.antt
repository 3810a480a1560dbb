-- The accepted modules that an entry lists, one by one: what holds of each by its verdict and those before it.
use Rattle.std.proofs.Common.{◌≡◌, ℕ, Bool, true, false, List, [], ◌∷◌, ◌++◌, reverse, map}
use Rattle.std.proofs.Common.{Option, Some, None, refl, sym, ap, ◌∙◌, subst, inl, inr}
use Rattle.std.proofs.lemmas.Bool.{cases_Bool, and_parts}
use Rattle.std.proofs.lemmas.Cmp.{nat_list_eq_equiv}
use Rattle.std.proofs.lemmas.Grind.{reverse_onto}
use Rattle.std.specs.List.{AllByRecursion, IsDistinct}
use Rattle.std.specs.Option.{unwrap_or, is_some, option_map}
use mathlib.Core.List.{reverse_aux}
use Rattle.std.specs.Str.{bytes_eq}
use Rattle.cc_base.specs.declared.device.DeviceDecl.{DeviceDecl}
use Rattle.cc_core.specs.Programs.{Definition, definition_named}
use Rattle.cc_core.specs.Shapes.{CapturingType}
use Rattle.cc_entry_laws.specs.PresentEntries.{import_of}
use Rattle.cc_grammar.specs.Syntax.{ImportSyntax}
use Rattle.cc_graph.specs.Graph.{reaches}
use Rattle.cc_graph.proofs.NameLemmas.{same_name}
use Rattle.cc_graph.proofs.Paths.{IsAmong}
use Rattle.cc_verdicts.specs.ModuleLaws.{NamesOfDevicesDiffer, AreSound}
use Rattle.cc_verdicts.specs.ModuleVerdicts.{Finding, FoundDefinition, CheckedDefinition, ModuleVerdict, IsAccepted}
use Rattle.cc_verdicts.specs.ModuleVerdicts.{IsRefused, HasModuleVerdict, in_program}
use Rattle.cc_verdicts.specs.PresentTexts.{Texts, ArePresent, text_of, graph_of, found_or_none, finding_in, finding_for}
use Rattle.cc_verdicts.specs.PresentTexts.{findings_for, AreVerdicts}
use Rattle.cc_verdicts.specs.PresentTexts as present
use Rattle.cc_verdicts.specs.Readings.{imports_of}
use Rattle.cc_verdicts.proofs.Asking.{some_of, found_by}
use Rattle.cc_verdicts.proofs.ModuleVerdictLaws.{accepted_modules_are_sound}
use Rattle.cc_verdicts.proofs.PresentLaws.{present_findings_fit}
use Rattle.cc_entry_laws.specs.LinkOrders.{is_accepted, is_accepted_module}
use Rattle.cc_entry_laws.proofs.AcceptedImports.{found_imports}
use Rattle.cc_entry_laws.proofs.PlainEntries.{definitions_of, present_module}

-- ---- lists
all_onto : {A : Type 0} (P : A → Type 0) (xs ys : List A) → AllByRecursion P xs → AllByRecursion P ys
    → AllByRecursion P (reverse_aux xs ys)
all_onto P [] ys front back = back
all_onto P (x ∷ xs) ys front back = all_onto P xs (x ∷ ys) front.1 (front.0, back)

-- what holds of each element holds of each one of the list turned round
pub all_turned : {A : Type 0} (P : A → Type 0) (xs : List A) → AllByRecursion P xs → AllByRecursion P (reverse xs)
all_turned P xs all = all_onto P xs [] all tt

pub all_over : {A B : Type 0} (P : B → Type 0) (f : A → B) (xs : List A) → AllByRecursion (λ x. P (f x)) xs
    → AllByRecursion P (map f xs)
all_over P f [] all = tt
all_over P f (x ∷ xs) all = (all.0, all_over P f xs all.1)

-- ---- what is found for an import
found_parts : (cyclic there : Bool) (finding : Finding) (signature : CapturingType)
    → found_by there cyclic finding ≡ FoundDefinition signature
    → (there ≡ true) × (finding ≡ FoundDefinition signature)
found_parts false true finding signature is = (refl, is)
found_parts true true finding signature is = cc
found_parts cyclic false finding signature is = cc

-- in a module with this verdict a definition of the name is found, with this signature
pub record IsFound (verdict : ModuleVerdict) (name : List ℕ) (signature : CapturingType) : Type 0 where
  pub definitions : List CheckedDefinition
  pub accepted : verdict ≡ IsAccepted definitions
  pub one : CheckedDefinition
  pub named : present.definition_named name definitions ≡ Some one
  pub typed : one.accepted.signature ≡ signature

found_one : (definitions : List CheckedDefinition) (name : List ℕ) (signature : CapturingType)
    (one : Option CheckedDefinition) → present.definition_named name definitions ≡ one
    → found_or_none one ≡ FoundDefinition signature → IsFound (IsAccepted definitions) name signature
found_one definitions name signature (Some one) named is =
    record { definitions = definitions; accepted = refl; one = one; named = named; typed = cc }
found_one definitions name signature None named is = cc

is_found : (verdict : ModuleVerdict) (name : List ℕ) (signature : CapturingType)
    → finding_in verdict name ≡ FoundDefinition signature → IsFound verdict name signature
is_found (IsAccepted definitions) name signature is =
    found_one definitions name signature (present.definition_named name definitions) refl is
is_found (IsRefused code at) name signature is = cc

pub found_by_import : (texts : Texts) (all : List ℕ → ModuleVerdict) (name : List ℕ) (one : ImportSyntax)
    (signature : CapturingType) → finding_for texts all name one ≡ FoundDefinition signature
    → (is_some (text_of texts one.source) ≡ true) × IsFound (all one.source) one.name signature
unfolding finding_for
found_by_import texts all name one signature is =
    let parts = found_parts (reaches (graph_of texts) one.source name) (is_some (text_of texts one.source))
    (finding_in (all one.source) one.name) signature is in
    (parts.0, is_found (all one.source) one.name signature parts.1)

-- ---- a definition by its name, from the first on and from the last on
abbrev or_else : Option Definition → Option Definition → Option Definition
or_else (Some one) other = Some one
or_else None other = other

or_none : (o : Option Definition) → or_else o None ≡ o
or_none (Some one) = refl
or_none None = refl

named_behind : (name : List ℕ) (ds : List Definition) (last : Definition)
    → definition_named name (ds ++ last ∷ [])
    ≡ or_else (definition_named name ds) (definition_named name (last ∷ []))
named_behind name [] last = refl
named_behind name (first ∷ rest) last =
    elim (cases_Bool (bytes_eq first.name name)) [
      | inl same ↦ rw same refl
      | inr other ↦ rw other (named_behind name rest last)
    ]

none_named : (name first : List ℕ) (ds : List CheckedDefinition) → first ≡ name
    → AllByRecursion (λ y. bytes_eq first y ≡ false) (map (λ one. one.name) ds)
    → present.definition_named name ds ≡ None
none_named name first [] same apart = refl
none_named name first (next ∷ rest) same apart =
    let other : bytes_eq next.name name ≡ false =
    nat_list_eq_equiv.symm next.name name ∙ ap (λ n. bytes_eq n next.name) (sym same) ∙ apart.0 in
    rw other (none_named name first rest same apart.1)

pub named_alike : (name : List ℕ) (ds : List CheckedDefinition) → IsDistinct bytes_eq (map (λ one. one.name) ds)
    → definition_named name (reverse (map in_program ds)) ≡ option_map in_program (present.definition_named name ds)
unfolding IsDistinct
named_alike name [] distinct = refl
named_alike name (first ∷ rest) distinct =
    ap (definition_named name) (reverse_onto (map in_program rest) (in_program first) [])
    ∙ named_behind name (reverse (map in_program rest)) (in_program first)
    ∙ ap (λ o. or_else o (definition_named name (in_program first ∷ []))) (named_alike name rest distinct.1)
    ∙ elim (cases_Bool (bytes_eq first.name name)) [
      | inl same ↦
          rw same
          (ap (λ o. or_else (option_map in_program o) (Some (in_program first)))
          (none_named name first.name rest (same_name first.name name same) distinct.0))
      | inr other ↦ rw other (or_none (option_map in_program (present.definition_named name rest)))
    ]

-- ---- an accepted module
-- the text, the imports and the definitions of an accepted module, with what holds of them
pub record IsModule (devices : List DeviceDecl) (texts : Texts) (all : List ℕ → ModuleVerdict) (name : List ℕ) :
    Type 0 where
  pub text : List ℕ
  pub is_text : text_of texts name ≡ Some text
  pub imports : List ImportSyntax
  pub reads : imports_of text ≡ Some imports
  pub definitions : List CheckedDefinition
  pub accepted : all name ≡ IsAccepted definitions
  pub found : (one : ImportSyntax) → IsAmong one imports
      → (signature : CapturingType) × (finding_for texts all name one ≡ FoundDefinition signature)
  pub sound : AreSound devices (map (finding_for texts all name) imports) definitions

accepted_definitions : (verdict : ModuleVerdict) → is_accepted verdict ≡ true
    → (definitions : List CheckedDefinition) × (verdict ≡ IsAccepted definitions)
accepted_definitions (IsAccepted definitions) is = (definitions, refl)
accepted_definitions (IsRefused code at) is = cc

pub accepted_module : (devices : List DeviceDecl) (texts : Texts) (all : List ℕ → ModuleVerdict)
    → NamesOfDevicesDiffer devices → ArePresent texts → AreVerdicts devices texts all → (name : List ℕ)
    → is_accepted_module texts all name ≡ true → IsModule devices texts all name
accepted_module devices texts all differ sorted are name is =
    let parts = and_parts (is_some (text_of texts name)) (is_accepted (all name)) is in
    let (text, is_text) = some_of (text_of texts name) parts.0 in
    let (definitions, accepted) = accepted_definitions (all name) parts.1 in
    let it = found_imports devices texts all name text (findings_for texts all name text) (all name) definitions refl
    (are name text is_text) accepted in
    let V : ModuleVerdict → Type 0 = λ v. HasModuleVerdict devices text (findings_for texts all name text) v in
    let F : List Finding → Type 0 = λ fs. AreSound devices fs definitions in
    record {
      text = text;
      is_text = is_text;
      imports = it.imports;
      reads = it.is;
      definitions = definitions;
      accepted = accepted;
      found = it.found;
      sound =
          subst F (ap (λ o. map (finding_for texts all name) (unwrap_or o [])) it.is)
          (accepted_modules_are_sound devices text (findings_for texts all name text) definitions differ
          (present_findings_fit devices texts all differ sorted are name text is_text)
          (subst V accepted (are name text is_text)));
    }

-- the imports and the definitions of the module as one of a program
pub its_imports : (devices : List DeviceDecl) (texts : Texts) (all : List ℕ → ModuleVerdict) (name : List ℕ)
    (it : IsModule devices texts all name) → (present_module texts all name).imports ≡ map import_of it.imports
its_imports devices texts all name it =
    ap (λ o. map import_of (unwrap_or (imports_of (unwrap_or o [])) [])) it.is_text
    ∙ ap (λ o. map import_of (unwrap_or o [])) it.reads

pub its_definitions : (devices : List DeviceDecl) (texts : Texts) (all : List ℕ → ModuleVerdict) (name : List ℕ)
    (it : IsModule devices texts all name) → (present_module texts all name).definitions ≡ map in_program it.definitions
its_definitions devices texts all name it = ap definitions_of it.accepted
