-- Replies that explain signatures where the present texts are given, by computation.
use Rattle.std.proofs.Common.{◌≡◌, ◌∙◌, ℕ, true, false, List, [], ◌∷◌, map, Option, Some, None, Ok, Err, refl, sym, ap, subst}
use Rattle.std.specs.Prelude.{Result}
use Rattle.std.specs.List.{flat_map}
use Rattle.std.specs.Option.{unwrap_or}
use Rattle.cc_base.specs.declared.code.Code.{Code}
use Rattle.cc_base.specs.declared.code.Code.TheVariants.{E32}
use Rattle.cc_base.specs.declared.device.DeviceDecl.{DeviceDecl}
use Rattle.cc_capture.specs.declared.var.Elem.{Elem}
use Rattle.cc_explain.specs.Chains.{IsFirstShortest}
use Rattle.cc_grammar.specs.Syntax.{ImportSyntax}
use Rattle.cc_graph.specs.Graph.{ImportMap}
use Rattle.cc_entry_laws.specs.PresentLinks.{Target, DefinitionOf, DeviceAt, Universal, element_of, entry_or_none, entry_in}
use Rattle.cc_verdicts.specs.ModuleVerdicts.{CheckedDefinition, Finding, ModuleVerdict, IsAccepted, IsRefused}
use Rattle.cc_verdicts.specs.PresentTexts.{Texts, text_of, findings_for}
use Rattle.cc_verdicts.specs.Readings.{imports_in, imports_of}
use Rattle.cc_verdicts.specs.StandingDefinitions.{Standing, first_named, standing_or, standing_by, standing_from, standing_in}
use Rattle.cc_mnf.specs.ElaboratedModules.{device_names}
use Rattle.cc_replies.proofs.ExplainLaws.{same_target, same_target-true, same_target-itself}
use Rattle.cc_replies.proofs.FirstChains.{path_from, first_chain_found}
use Rattle.cc_replies.specs.ExplainReplies.{Explains, AreExplained, IsExplainAnswer}
use Rattle.cc_replies.specs.ReplyTexts.{Explanation, Explained, ExplainRefused, line, reply_text}
use Rattle.cc_replies.specs.Requests.{ExplainDefinition}
use Rattle.cc_worked_texts.proofs.QuickTokens.{quick_reading, same_reading}
use Rattle.cc_worked_replies.proofs.ComputedReplies.{AreJudged}
use Rattle.cc_worked_replies.specs.TextReplies.{RepliesWith}

-- the imports of a text, with less computation
abbrev imports_quickly : List ℕ → List ImportSyntax
imports_quickly text = unwrap_or (imports_in (quick_reading text)) []

module _ (devices : List DeviceDecl) (texts : Texts) (verdicts : List ℕ → ModuleVerdict) where
  -- the definition of a module, without what is found for its imports
  abbrev quick_from : List ℕ → List ℕ → Option (List ℕ) → List Target
  quick_from module_name name (Some text) = entry_or_none devices module_name (standing_by (imports_quickly text) [] (verdicts module_name) name)
  quick_from module_name name None = []

  -- what a target links to, with less computation
  unfoldable pub quick_entry : Target → List Target
  quick_entry (DefinitionOf module_name name) = quick_from module_name name (text_of texts module_name)
  quick_entry (DeviceAt number) = []
  quick_entry Universal = []

  by_found : (module_name : List ℕ) (imports : List ImportSyntax) (f g : List Finding) (o : Option (List CheckedDefinition × CheckedDefinition))
      → entry_or_none devices module_name (standing_or imports f o) ≡ entry_or_none devices module_name (standing_or imports g o)
  by_found module_name imports f g (Some found) = refl
  by_found module_name imports f g None = refl

  by_verdict : (module_name name : List ℕ) (imports : List ImportSyntax) (f g : List Finding) (v : ModuleVerdict)
      → entry_or_none devices module_name (standing_by imports f v name) ≡ entry_or_none devices module_name (standing_by imports g v name)
  by_verdict module_name name imports f g (IsAccepted definitions) = by_found module_name imports f g (first_named name definitions)
  by_verdict module_name name imports f g (IsRefused code at) = refl

  by_text : (module_name name : List ℕ) (o : Option (List ℕ))
      → entry_or_none devices module_name (standing_from texts verdicts module_name name o) ≡ quick_from module_name name o
  by_text module_name name (Some text) =
      ap (λ r. entry_or_none devices module_name (standing_by (unwrap_or (imports_in r) []) (findings_for texts verdicts module_name text) (verdicts module_name) name))
      (same_reading text)
      ∙ by_verdict module_name name (imports_quickly text) (findings_for texts verdicts module_name text) [] (verdicts module_name)
  by_text module_name name None = refl

  same_entry : (target : Target) → quick_entry target ≡ entry_in devices texts verdicts target
  unfolding quick_entry
  same_entry (DefinitionOf module_name name) = sym (by_text module_name name (text_of texts module_name))
  same_entry (DeviceAt number) = refl
  same_entry Universal = refl

  -- the explanation of a target by the path that is found to it
  abbrev pub explanation_by : List ℕ → List ℕ → Target → Explanation
  explanation_by module_name name target = record {
    target = target;
    chain = DefinitionOf module_name name ∷ unwrap_or (path_from Target same_target quick_entry target (DefinitionOf module_name name) 0 8) [];
  }

  some_path : (module_name name : List ℕ) (target : Target) (o : Option (List Target))
      → path_from Target same_target quick_entry target (DefinitionOf module_name name) 0 8 ≡ o → (path : List Target) → o ≡ Some path
      → IsFirstShortest (entry_in devices texts verdicts) (DefinitionOf module_name name) target (explanation_by module_name name target).chain
  some_path module_name name target o is path found =
      subst (λ (e : Target → List Target). IsFirstShortest e (DefinitionOf module_name name) target (explanation_by module_name name target).chain)
      (λ i t. same_entry t i)
      (subst (λ p. IsFirstShortest quick_entry (DefinitionOf module_name name) target (DefinitionOf module_name name ∷ unwrap_or p []))
      (sym (is ∙ found))
      (first_chain_found Target same_target same_target-true same_target-itself quick_entry target (DefinitionOf module_name name) 8 path (is ∙ found)))

  -- an element whose path is found is explained
  pub explains : (module_name name : List ℕ) (target : Target) (element : Elem) (path : List Target) → element_of target ≡ Some element
      → path_from Target same_target quick_entry target (DefinitionOf module_name name) 0 8 ≡ Some path
      → Explains (entry_in devices texts verdicts) (DefinitionOf module_name name) element (explanation_by module_name name target)
  explains module_name name target element path is found = record {
    is_element = is;
    has_chain = some_path module_name name target (path_from Target same_target quick_entry target (DefinitionOf module_name name) 0 8) refl path found;
  }

  -- the elements, or why there is none
  abbrev told_of : Result Standing Code → Result (List Elem) Code
  told_of (Ok it) = Ok it.definition.accepted.signature.set.list
  told_of (Err code) = Err code

  abbrev pub told_from : List ℕ → List ℕ → Option (List ℕ) → Result (List Elem) Code
  told_from module_name name (Some text) = told_of (standing_by (imports_quickly text) [] (verdicts module_name) name)
  told_from module_name name None = Err E32

  told_found : (imports other : List ImportSyntax) (f g : List Finding) (o : Option (List CheckedDefinition × CheckedDefinition))
      → told_of (standing_or imports f o) ≡ told_of (standing_or other g o)
  told_found imports other f g (Some found) = refl
  told_found imports other f g None = refl

  told_verdict : (name : List ℕ) (imports other : List ImportSyntax) (f g : List Finding) (v : ModuleVerdict)
      → told_of (standing_by imports f v name) ≡ told_of (standing_by other g v name)
  told_verdict name imports other f g (IsAccepted definitions) = told_found imports other f g (first_named name definitions)
  told_verdict name imports other f g (IsRefused code at) = refl

  told_text : (module_name name : List ℕ) (o : Option (List ℕ)) → told_of (standing_from texts verdicts module_name name o) ≡ told_from module_name name o
  told_text module_name name (Some text) =
      told_verdict name (unwrap_or (imports_of text) []) (imports_quickly text) (findings_for texts verdicts module_name text) [] (verdicts module_name)
  told_text module_name name None = refl

  same_elements : (a b : List Elem) → ◌≡◌ {A = Result (List Elem) Code} (Ok a) (Ok b) → a ≡ b
  same_elements a b h = cc

  same_code : (a b : Code) → ◌≡◌ {A = Result (List Elem) Code} (Err a) (Err b) → a ≡ b
  same_code a b h = cc

  answer_is : (module_name name : List ℕ) (r : Result Standing Code) (elements : List Elem) (explanations : List Explanation)
      → told_of r ≡ Ok elements → AreExplained (entry_in devices texts verdicts) (DefinitionOf module_name name) elements explanations
      → IsExplainAnswer devices texts verdicts module_name name r (Explained module_name name explanations)
  answer_is module_name name (Ok it) elements explanations is explained = (
    explanations,
    subst (λ es. AreExplained (entry_in devices texts verdicts) (DefinitionOf module_name name) es explanations)
        (sym (same_elements it.definition.accepted.signature.set.list elements is)) explained,
    refl,
  )
  answer_is module_name name (Err code) elements explanations is explained = cc

  refusal_is : (module_name name : List ℕ) (r : Result Standing Code) (code : Code) → told_of r ≡ Err code
      → IsExplainAnswer devices texts verdicts module_name name r (ExplainRefused module_name name code)
  refusal_is module_name name (Ok it) code is = cc
  refusal_is module_name name (Err other) code is = ap (λ c. ExplainRefused module_name name c) (sym (same_code other code is))

  module _ (graph : ImportMap) (names : List (List ℕ)) (judged : AreJudged devices texts verdicts graph names) where
    -- the reply has the lines of the explanations
    pub explain_replies : (module_name name : List ℕ) (elements : List Elem) (explanations : List Explanation) (lines : List (List ℕ))
        → told_from module_name name (text_of texts module_name) ≡ Ok elements
        → AreExplained (entry_in devices texts verdicts) (DefinitionOf module_name name) elements explanations
        → reply_text (device_names devices) (Explained module_name name explanations) ≡ flat_map line lines
        → RepliesWith devices texts (ExplainDefinition module_name name) lines false
    explain_replies module_name name elements explanations lines told explained text = (
      Explained module_name name explanations,
      (
        verdicts,
        judged.are,
        answer_is module_name name (standing_in texts verdicts module_name name) elements explanations
            (told_text module_name name (text_of texts module_name) ∙ told) explained,
      ),
      text,
      refl,
    )

    -- or that of the refusal
    pub explain_refused : (module_name name : List ℕ) (code : Code) (lines : List (List ℕ))
        → told_from module_name name (text_of texts module_name) ≡ Err code
        → reply_text (device_names devices) (ExplainRefused module_name name code) ≡ flat_map line lines
        → RepliesWith devices texts (ExplainDefinition module_name name) lines true
    explain_refused module_name name code lines told text = (
      ExplainRefused module_name name code,
      (
        verdicts,
        judged.are,
        refusal_is module_name name (standing_in texts verdicts module_name name) code (told_text module_name name (text_of texts module_name) ∙ told),
      ),
      text,
      refl,
    )
