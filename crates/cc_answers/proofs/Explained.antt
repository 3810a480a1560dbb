-- The chains that are found by numbers explain the signature.
use Rattle.std.proofs.Common.{◌≡◌, ℕ, suc, Bool, true, false, ◌&&◌, List, [], ◌∷◌, ◌++◌, length, map, slice_get, Option, Some, None, Result, Ok, Err, refl, sym, ap, subst, ◌∙◌, arith}
use Rattle.std.specs.List.{AllByRecursion, Contains, filter}
use Rattle.std.specs.Option.{option_to_list, is_some}
use Rattle.std.proofs.lemmas.Bool.{eq-eqb, eqb-true}
use Rattle.cc_base.specs.declared.device.DeviceDecl.{DeviceDecl}
use Rattle.cc_capture.proofs.Membership.{Member-list}
use Rattle.cc_capture.specs.Sets.{Set, Member}
use Rattle.cc_capture.specs.declared.var.Var.TheVariants.{Free}
use Rattle.cc_capture.specs.declared.var.Elem.{Elem}
use Rattle.cc_capture.specs.declared.var.Elem.TheVariants.{Var as Variable, Cap}
use Rattle.cc_explain.specs.Chains.{LeadsAlong, IsFirstShortest}
use Rattle.cc_explain.specs.Entries.{Entries, targets_of}
use Rattle.cc_explain.specs.Targets as numbered_targets
use Rattle.cc_explain.specs.declared.target.Target.{Target as NumberedTarget}
use Rattle.cc_explain.specs.declared.target.Target.TheVariants as numbers
use Rattle.cc_graph.specs.Graph.{IsOrder}
use Rattle.cc_entry_laws.specs.LinkOrders.{is_reached, is_accepted, is_accepted_module}
use Rattle.cc_entry_laws.specs.PresentEntries.{CheckedModule, present_module}
use Rattle.cc_entry_laws.proofs.Linked.{elements_are_linked}
use Rattle.cc_entry_laws.proofs.Reached.{stands_in}
use Rattle.cc_entry_laws.specs.PresentLinks.{Target, DefinitionOf, DeviceAt, Universal, element_of, entry_in}
use Rattle.cc_verdicts.specs.ModuleLaws.{NamesOfDevicesDiffer}
use Rattle.cc_verdicts.specs.ModuleVerdicts.{ModuleVerdict}
use Rattle.cc_verdicts.specs.PresentTexts.{Texts, ArePresent, text_of, graph_of, AreVerdicts}
use Rattle.cc_verdicts.specs.StandingDefinitions.{Standing, standing_in}
use Rattle.cc_link.specs.ModuleLinkLaws.{numbered}
use Rattle.cc_link.specs.ModuleLinks.{links_in}
use Rattle.cc_replies.proofs.ExplainLaws.{same_target, same_target-true, same_target-itself}
use Rattle.cc_replies.proofs.FirstChains.{first_chains_are_one, first_chains_exist}
use Rattle.cc_replies.specs.ExplainReplies.{Explains, AreExplained}
use Rattle.cc_replies.specs.Explanations.{definition_or, target_named, explanation_named}
use Rattle.cc_replies.specs.ReplyTexts.{Explanation, Explained, reply_text}
use Rattle.cc_replies.specs.declared.chains.FoundChain.{FoundChain}
use Rattle.cc_session.specs.LinkedModules.{AreLinked}
use Rattle.cc_answers.proofs.CarriedChains.{first_carried}
use Rattle.cc_answers.proofs.DefinitionNumbers.{named_at, named_is_placed}
use Rattle.cc_answers.proofs.LinkedDefinitions.{linked, number, Known, placed, known, numbered_so, closed, carried}
use Rattle.cc_answers.specs.Explaining.{definition_names, variable_element, element_target, FindsChain, FindsAll, FindsLinked, TellsExplanations}

-- TARGETS WITH NUMBERS ARE TOLD APART
numbered_true : (a b : NumberedTarget) → numbered_targets.same_target a b ≡ true → a ≡ b
numbered_true (numbers.Definition n) (numbers.Definition m) h = ap (λ k. numbers.Definition k) (eqb-true n m h)
numbered_true (numbers.Definition n) (numbers.Device m) h = cc
numbered_true (numbers.Definition n) numbers.Cap h = cc
numbered_true (numbers.Device n) (numbers.Definition m) h = cc
numbered_true (numbers.Device n) (numbers.Device m) h = ap (λ k. numbers.Device k) (eqb-true n m h)
numbered_true (numbers.Device n) numbers.Cap h = cc
numbered_true numbers.Cap (numbers.Definition m) h = cc
numbered_true numbers.Cap (numbers.Device m) h = cc
numbered_true numbers.Cap numbers.Cap h = refl

numbered_itself : (a : NumberedTarget) → numbered_targets.same_target a a ≡ true
numbered_itself (numbers.Definition n) = eq-eqb n n refl
numbered_itself (numbers.Device n) = eq-eqb n n refl
numbered_itself numbers.Cap = refl

some_same : {A : Type 0} (a b : A) → Some a ≡ Some b → a ≡ b
some_same a b h = cc

-- the element that a target is has a number as it has
element_numbered : (number : List ℕ → List ℕ → ℕ) (target : Target) (e : Elem) → element_of target ≡ Some e
    → element_target e ≡ Some (numbered number target)
element_numbered number (DefinitionOf m n) e is = cc
element_numbered number (DeviceAt device) e is = ap element_target (sym (some_same (Variable (Free device)) e is))
element_numbered number Universal e is = ap element_target (sym (some_same Cap e is))

module _ (devices : List DeviceDecl) (texts : Texts) (verdicts : List ℕ → ModuleVerdict) (differ : NamesOfDevicesDiffer devices)
    (sorted : ArePresent texts) (are : AreVerdicts devices texts verdicts) (module_name name : List ℕ) (it : Standing)
    (stands : standing_in texts verdicts module_name name ≡ Ok it) where
  pub starting : is_accepted_module texts verdicts module_name ≡ true
  starting =
      let there = (stands_in devices texts verdicts differ sorted are module_name name it stands).0 in
      ap (λ o. is_some o && is_accepted (verdicts module_name)) there.is_text ∙ ap is_accepted there.accepted

  module _ (names : List (List ℕ)) (order : IsOrder (graph_of texts) names) (place : ℕ)
      (at : slice_get (definition_names (linked devices texts verdicts differ sorted are module_name starting names order)) place ≡ Some (module_name, name)) where
    abbrev to : List ℕ → List ℕ → ℕ
    to = number devices texts verdicts differ sorted are module_name starting names order

    abbrev IsKnown : Target → Type 0
    IsKnown = Known devices texts verdicts differ sorted are module_name starting names order

    abbrev links : Entries
    links = links_in (length devices) (linked devices texts verdicts differ sorted are module_name starting names order)

    abbrev entry : Target → List Target
    entry = entry_in devices texts verdicts

    abbrev definitions : List (List ℕ × List ℕ)
    definitions = definition_names (linked devices texts verdicts differ sorted are module_name starting names order)

    known_from : IsKnown (DefinitionOf module_name name)
    known_from =
        known devices texts verdicts differ sorted are module_name starting names order module_name name place
        (named_is_placed (linked devices texts verdicts differ sorted are module_name starting names order) module_name name place at)

    place_is : to module_name name ≡ place
    place_is =
        numbered_so devices texts verdicts differ sorted are module_name starting names order module_name name place
        (named_is_placed (linked devices texts verdicts differ sorted are module_name starting names order) module_name name place at)

    -- a target has its name back
    named_back : (target : Target) → IsKnown target → target_named definitions (numbered to target) ≡ target
    named_back (DefinitionOf m n) k =
        ap definition_or (named_at (linked devices texts verdicts differ sorted are module_name starting names order) m n (to m n)
        (placed devices texts verdicts differ sorted are module_name starting names order m n k))
    named_back (DeviceAt device) k = refl
    named_back Universal k = refl

    apart : (x y : Target) → IsKnown x → IsKnown y → numbered to x ≡ numbered to y → x ≡ y
    apart x y known_x known_y same = sym (named_back x known_x) ∙ ap (target_named definitions) same ∙ named_back y known_y

    path_known : (target from : Target) (path : List Target) → IsKnown from → LeadsAlong entry from path target → AllByRecursion IsKnown path
    path_known target from [] known_it leads = tt
    path_known target from (next ∷ path) known_it leads =
        let here = closed devices texts verdicts differ sorted are module_name starting names order from next known_it leads.0 in
        (here, path_known target next path here leads.1)

    path_back : (path : List Target) → AllByRecursion IsKnown path → map (target_named definitions) (map (numbered to) path) ≡ path
    path_back [] all = refl
    path_back (target ∷ path) all = λ i. named_back target all.0 i ∷ path_back path all.1 i

    chain_back : (target : Target) (chain : List Target) → IsFirstShortest entry (DefinitionOf module_name name) target chain
        → map (target_named definitions) (map (numbered to) chain) ≡ chain
    chain_back target [] is = refl
    chain_back target (first ∷ path) is =
        let begins : first ≡ DefinitionOf module_name name = is.leads.0 in
        path_back (first ∷ path) (
          subst IsKnown (sym begins) known_from,
          path_known target first path (subst IsKnown (sym begins) known_from) is.leads.1,
        )

    element_known : (target : Target) (e : Elem) → element_of target ≡ Some e → IsKnown target
    element_known (DefinitionOf m n) e is = cc
    element_known (DeviceAt device) e is = tt
    element_known Universal e is = tt

    -- an element of the signature is explained by the chain that is found
    record IsExplained (e : Elem) (one : Option FoundChain) : Type 0 where
      chain : FoundChain
      found : one ≡ Some chain
      explains : Explains entry (DefinitionOf module_name name) e (explanation_named definitions chain)

    explained_one : (e : Elem) → Member e it.definition.accepted.signature.set → (one : Option FoundChain) → FindsChain links place e one → IsExplained e one
    explained_one e member one finds =
        let reached = (elements_are_linked devices texts verdicts differ sorted are module_name name it stands e).0 member in
        let target = reached.0 in
        let (first, is_first) = first_chains_exist Target same_target same_target-true same_target-itself entry target (DefinitionOf module_name name) reached.1 reached.3 in
        let over : IsFirstShortest (targets_of links) (numbers.Definition (to module_name name)) (numbered to target) (map (numbered to) first) =
        first_carried Target NumberedTarget (numbered to) IsKnown entry (targets_of links)
        (closed devices texts verdicts differ sorted are module_name starting names order)
        (carried devices texts verdicts differ sorted are module_name starting names order) apart
        (DefinitionOf module_name name) target known_from (element_known target e reached.2) first is_first in
        let here : IsFirstShortest (targets_of links) (numbers.Definition place) (numbered to target) (map (numbered to) first) =
        subst (λ n. IsFirstShortest (targets_of links) (numbers.Definition n) (numbered to target) (map (numbered to) first)) place_is over in
        by_found target first is_first reached.2 here one finds
      where
        by_found : (target : Target) (first : List Target) → IsFirstShortest entry (DefinitionOf module_name name) target first
            → element_of target ≡ Some e
            → IsFirstShortest (targets_of links) (numbers.Definition place) (numbered to target) (map (numbered to) first)
            → (one : Option FoundChain) → FindsChain links place e one → IsExplained e one
        by_found target first is_first is here None none =
            absurd (none (numbered to target) (element_numbered to target e is) (map (numbered to) first) here.leads)
        by_found target first is_first is here (Some found) (at, best) =
            let same : found.target ≡ numbered to target = some_same found.target (numbered to target) (sym at ∙ element_numbered to target e is) in
            let chain : found.chain.items ≡ map (numbered to) first =
            first_chains_are_one NumberedTarget numbered_targets.same_target numbered_true numbered_itself (targets_of links) (numbers.Definition place) (numbered to target)
            found.chain.items (map (numbered to) first)
            (subst (λ t. IsFirstShortest (targets_of links) (numbers.Definition place) t found.chain.items) same best) here in
            let target_is : target_named definitions found.target ≡ target = ap (target_named definitions) same ∙ named_back target (element_known target e is) in
            let chain_is : map (target_named definitions) found.chain.items ≡ first = ap (map (target_named definitions)) chain ∙ chain_back target first is_first in
            record {
              chain = found;
              found = refl;
              explains = record {
                is_element = ap element_of target_is ∙ is;
                has_chain = subst (λ t. IsFirstShortest entry (DefinitionOf module_name name) t (map (target_named definitions) found.chain.items)) (sym target_is)
                    (subst (IsFirstShortest entry (DefinitionOf module_name name) target) (sym chain_is) is_first);
              };
            }

    pub explained : (elements : List Elem) → ((e : Elem) → Contains elements e → Member e it.definition.accepted.signature.set)
        → (found : List FoundChain) → FindsAll links place elements found
        → AreExplained entry (DefinitionOf module_name name) elements (map (explanation_named definitions) found)
    explained [] members found is = ap (map (explanation_named definitions)) is
    explained (e ∷ elements) members found (one, later, finds, rest, is) =
        let first = explained_one e (members e (0, omega arith, refl)) one finds in (
          explanation_named definitions first.chain,
          map (explanation_named definitions) later,
          first.explains,
          explained elements (λ other among. members other (behind other among)) later rest,
          ap (map (explanation_named definitions)) (is ∙ ap (λ o. option_to_list o ++ later) first.found),
        )
      where
        behind : (other : Elem) → Contains elements other → Contains (e ∷ elements) other
        behind other (k, below, same) = (suc k, omega arith, same)

-- what is written of the chains that are found tells the explanations
pub explanations_told : (devices : List DeviceDecl) (texts : Texts) → NamesOfDevicesDiffer devices → ArePresent texts
    → (module_name name : List ℕ) (modules : List CheckedModule) → AreLinked devices texts module_name modules
    → (set : Set) (names : List (List ℕ)) (found : List FoundChain) → FindsLinked (length devices) modules module_name name set.list found
    → (verdicts : List ℕ → ModuleVerdict) → AreVerdicts devices texts verdicts
    → (it : Standing) → standing_in texts verdicts module_name name ≡ Ok it → set ≡ it.definition.accepted.signature.set
    → TellsExplanations devices texts verdicts names module_name name set.list
    (reply_text names (Explained module_name name (map (explanation_named (definition_names modules)) found)))
explanations_told devices texts differ sorted module_name name modules (graph_names, order, these) set names found (place, at, finds) verdicts are it stands set_is =
    let begun = starting devices texts verdicts differ sorted are module_name name it stands in
    let ms = linked devices texts verdicts differ sorted are module_name begun graph_names order in
    let same : modules ≡ ms = these verdicts are in
    let members : (e : Elem) → Contains set.list e → Member e it.definition.accepted.signature.set =
    λ e among. subst (λ s. Member e s) set_is ((Member-list e set).1 among) in (
      map (explanation_named (definition_names ms)) found,
      explained devices texts verdicts differ sorted are module_name name it stands graph_names order place
          (subst (λ m. slice_get (definition_names m) place ≡ Some (module_name, name)) same at) set.list members found
          (subst (λ m. FindsAll (links_in (length devices) m) place set.list found) same finds),
      ap (λ m. reply_text names (Explained module_name name (map (explanation_named (definition_names m)) found))) same,
    )
