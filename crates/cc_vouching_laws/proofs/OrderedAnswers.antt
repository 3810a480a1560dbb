-- Accepted modules, each behind those that it imports from, are vouched for one after another.
use Rattle.std.proofs.Common.{◌≡◌, ℕ, Bool, true, false, cond, ◌||◌, List, [], ◌∷◌, ◌++◌, map, Option, Some, None, refl, sym, ap, subst, ◌∙◌}
use Rattle.std.specs.Prelude.{IsTrue}
use Rattle.std.specs.List.{AllByRecursion}
use Rattle.std.specs.Map.{lookup}
use Rattle.std.specs.Option.{unwrap_or, is_some}
use Rattle.std.specs.Str.{bytes_eq}
use Rattle.std.proofs.lemmas.List.{map-append}
use Rattle.std.proofs.lemmas.Slice.Eq.{bytes_eq-Decides}
use Rattle.cc_base.specs.declared.device.DeviceDecl.{DeviceDecl}
use Rattle.cc_core.specs.Programs.{Definition}
use Rattle.cc_core.specs.Programs as programs
use Rattle.cc_core.specs.Shapes.{CapturingType}
use Rattle.cc_graph.specs.Graph.{reaches}
use Rattle.cc_grammar.specs.Syntax.{ImportSyntax}
use Rattle.cc_verdicts.specs.ModuleVerdicts.{Finding, FoundDefinition, NoModule, InCycle, RefusedModule, NoDefinition, CheckedDefinition, ModuleVerdict, IsAccepted, first_missing, HasModuleVerdict, is_no_module, import_is_missing, is_not_elaborated, is_judged, in_program}
use Rattle.cc_verdicts.specs.PresentTexts.{Texts, ArePresent, text_of, graph_of, definition_named, found_or_none, finding_in, finding_for, findings_for, AreVerdicts}
use Rattle.cc_verdicts.specs.Readings.{IsTree, imports_in, imports_of}
use Rattle.cc_verdicts.proofs.ReadingLaws.{text_has_one_reading}
use Rattle.cc_certificate_laws.specs.ModuleCertificates.{AreNamed}
use Rattle.cc_vouching.specs.VouchedModules.{Answered, found_in, vouched_finding, vouched_findings, HaveAnswers, none_left, and_then}
use Rattle.cc_vouching.specs.VouchedModules as vouched
use Rattle.cc_vouching_laws.specs.Orders.{AcceptedModule, submitted, vouched_so, is_among, AreInOrder, AcceptedModulesInOrderAreVouchedFor}
use Rattle.cc_vouching_laws.proofs.AcceptedAnswers.{accepted_modules_vouched}

-- the definition of a name is the same one in the program
named_by : (test : Bool) (first : CheckedDefinition) (one : Option CheckedDefinition) (other : Option Definition)
    → found_or_none one ≡ vouched.found_or_none other
    → found_or_none (cond test (Some first) one) ≡ vouched.found_or_none (cond test (Some (in_program first)) other)
named_by true first one other e = refl
named_by false first one other e = e

named_in_program : (name : List ℕ) (checked : List CheckedDefinition)
    → found_or_none (definition_named name checked)
    ≡ vouched.found_or_none (programs.definition_named name (map in_program checked))
named_in_program name [] = refl
named_in_program name (first ∷ rest) =
    named_by (bytes_eq first.name name) first (definition_named name rest)
    (programs.definition_named name (map in_program rest)) (named_in_program name rest)

-- the finding is a definition
abbrev IsFound : Finding → Type 0
IsFound finding = (signature : CapturingType) × (finding ≡ FoundDefinition signature)

none_missing : (found : ImportSyntax → Finding) (imports : List ImportSyntax)
    → first_missing imports (map found imports) ≡ None → AllByRecursion (λ one. IsFound (found one)) imports
none_missing found [] e = tt
none_missing found (one ∷ imports) e = by_finding found one imports (found one) refl e (none_missing found imports)
  where
    by_finding : (found : ImportSyntax → Finding) (one : ImportSyntax) (imports : List ImportSyntax) (f : Finding)
        → found one ≡ f → first_missing (one ∷ imports) (f ∷ map found imports) ≡ None
        → (first_missing imports (map found imports) ≡ None → AllByRecursion (λ one. IsFound (found one)) imports)
        → AllByRecursion (λ one. IsFound (found one)) (one ∷ imports)
    by_finding found one imports (FoundDefinition signature) is e others = ((signature, is), others e)
    by_finding found one imports NoModule is e others = cc
    by_finding found one imports InCycle is e others = cc
    by_finding found one imports RefusedModule is e others = cc
    by_finding found one imports NoDefinition is e others = cc

-- a definition is found where no imports lead back
finding_by : (there cycle : Bool) (inside : Finding) → there ≡ true
    → IsFound (cond there (cond cycle InCycle inside) NoModule)
    → cond there (cond cycle InCycle inside) NoModule ≡ inside
finding_by true true inside e f = let clash = f.1 in cc
finding_by true false inside e f = refl
finding_by false cycle inside e f = cc

some_there : {A : Type 0} (o : Option A) (x : A) → o ≡ Some x → is_some o ≡ true
some_there o x e = ap is_some e

module _ (devices : List DeviceDecl) (texts : Texts) (verdicts : List ℕ → ModuleVerdict) where
  abbrev Module : Type 0
  Module = AcceptedModule devices texts verdicts

  abbrev answered_of : List Module → Answered
  answered_of before = map (λ (it : Module). (it.name, vouched_so devices texts verdicts it)) before

  -- one of the modules before it has the name
  record Earlier (before : List Module) (name : List ℕ) : Type 0 where
    one : Module
    named : name ≡ one.name
    answer : lookup (bytes_eq name) (answered_of before) ≡ Some (vouched_so devices texts verdicts one)

  earlier_by : (test : Bool) (first : Module) (rest : List Module) (name : List ℕ) → bytes_eq name first.name ≡ test
      → (is_among devices texts verdicts rest name ≡ true → Earlier rest name)
      → IsTrue (is_among devices texts verdicts (first ∷ rest) name) → Earlier (first ∷ rest) name
  earlier_by true first rest name same others e = record {
    one = first;
    named = (bytes_eq-Decides name first.name).0 same;
    answer =
        ap (λ t. cond t (Some (vouched_so devices texts verdicts first)) (lookup (bytes_eq name) (answered_of rest))) same;
  }
  earlier_by false first rest name other others e =
      let found = others (sym (ap (λ t. t || is_among devices texts verdicts rest name) other) ∙ e) in
      record {
        one = found.one;
        named = found.named;
        answer =
            ap (λ t. cond t (Some (vouched_so devices texts verdicts first)) (lookup (bytes_eq name) (answered_of rest)))
            other ∙ found.answer;
      }

  earlier : (before : List Module) (name : List ℕ) → IsTrue (is_among devices texts verdicts before name)
      → Earlier before name
  earlier [] name e = cc
  earlier (first ∷ rest) name e =
      earlier_by (bytes_eq name first.name) first rest name refl (earlier rest name) e

  same_finding : (before : List Module) (name : List ℕ) (one : ImportSyntax)
      → IsTrue (is_among devices texts verdicts before one.source) → IsFound (finding_for texts verdicts name one)
      → vouched_finding (answered_of before) one ≡ finding_for texts verdicts name one
  unfolding finding_for
  same_finding before name one among found =
      let e = earlier before one.source among in
      let there : is_some (text_of texts one.source) ≡ true =
      some_there (text_of texts one.source) e.one.text (ap (text_of texts) e.named ∙ e.one.present) in
      let accepted : verdicts one.source ≡ IsAccepted e.one.checked = ap verdicts e.named ∙ e.one.accepted in
      ap (λ o. found_in o one.name) e.answer
      ∙ sym (named_in_program one.name e.one.checked)
      ∙ sym (ap (λ v. finding_in v one.name) accepted)
      ∙ sym (finding_by (is_some (text_of texts one.source)) (reaches (graph_of texts) one.source name)
      (finding_in (verdicts one.source) one.name) there found)

  same_findings : (before : List Module) (name : List ℕ) (imports : List ImportSyntax)
      → AllByRecursion (λ (one : ImportSyntax). IsTrue (is_among devices texts verdicts before one.source)) imports
      → AllByRecursion (λ one. IsFound (finding_for texts verdicts name one)) imports
      → vouched_findings (answered_of before) imports ≡ map (finding_for texts verdicts name) imports
  same_findings before name [] among found = refl
  same_findings before name (one ∷ imports) among found =
      let first = same_finding before name one among.0 found.0 in
      let rest = same_findings before name imports among.1 found.1 in
      λ i. first i ∷ rest i

  -- nothing is missing for an accepted module
  missing_by : (text : List ℕ) (imports : List ImportSyntax) (findings : List Finding) (checked : List CheckedDefinition)
      (v : ModuleVerdict) → imports_of text ≡ Some imports → HasModuleVerdict devices text findings v
      → v ≡ IsAccepted checked → first_missing imports findings ≡ None
  missing_by text imports findings checked v are (is_no_module reading) e = cc
  missing_by text imports findings checked v are (import_is_missing reading missing) e = cc
  missing_by text imports findings checked v are (is_not_elaborated reading found is) e = cc
  missing_by text imports findings checked v are (is_judged {tree = tree} reading found is judged) e =
      let same = ap imports_in ((text_has_one_reading text (IsTree tree)).0 reading) ∙ are in
      subst (λ l. first_missing l findings ≡ None) (same_list tree.imports imports same) found
    where
      same_list : (a b : List ImportSyntax) → Some a ≡ Some b → a ≡ b
      same_list a b e = cc

  in_order : (named : AreNamed devices) → ArePresent texts → AreVerdicts devices texts verdicts
      → (before rest : List Module) → AreInOrder devices texts verdicts before rest
      → HaveAnswers devices (answered_of before) (map (submitted devices texts verdicts) rest)
      (map (vouched_so devices texts verdicts) rest)
  in_order named there are before [] order = none_left
  in_order named there are before (first ∷ rest) order =
      let found = finding_for texts verdicts first.name in
      let all : findings_for texts verdicts first.name first.text ≡ map found first.imports =
      ap (λ o. map found (unwrap_or o [])) first.imports_are in
      let verdict =
      subst (HasModuleVerdict devices first.text (findings_for texts verdicts first.name first.text)) first.accepted
      (are first.name first.text first.present) in
      let missing =
      subst (λ l. first_missing first.imports l ≡ None) all
      (missing_by first.text first.imports (findings_for texts verdicts first.name first.text) first.checked
      (IsAccepted first.checked) first.imports_are verdict refl) in
      let agree : vouched_findings (answered_of before) first.imports
      ≡ findings_for texts verdicts first.name first.text =
      same_findings before first.name first.imports order.0 (none_missing found first.imports missing) ∙ sym all in
      and_then
      (accepted_modules_vouched devices texts verdicts (answered_of before) first.name first.text first.imports
      first.checked named there are first.present first.imports_are first.accepted first.few agree)
      (subst (λ l. HaveAnswers devices l (map (submitted devices texts verdicts) rest)
      (map (vouched_so devices texts verdicts) rest))
      (map-append (λ (it : Module). (it.name, vouched_so devices texts verdicts it)) before (first ∷ []))
      (in_order named there are (before ++ first ∷ []) rest order.1))

pub accepted_modules_in_order : AcceptedModulesInOrderAreVouchedFor
accepted_modules_in_order devices texts verdicts modules named there are order =
    in_order devices texts verdicts named there are [] modules order
