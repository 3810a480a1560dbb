-- What an accepted module reaches.
use Rattle.std.proofs.Common.{◌≡◌, ◌⊎◌, ℕ, Bool, true, false, List, [], ◌∷◌, map, Some}
use Rattle.std.proofs.Common.{ap, ◌∙◌, sym, subst, refl, inl, inr}
use Rattle.std.proofs.lemmas.Bool.{cases_Bool, and_parts, and_from}
use Rattle.std.specs.List.{list_any}
use Rattle.std.specs.Option.{unwrap_or, is_some}
use Rattle.std.specs.Str.{bytes_eq}
use Rattle.cc_base.specs.declared.device.DeviceDecl.{DeviceDecl}
use Rattle.cc_core.specs.Shapes.{CapturingType}
use Rattle.cc_grammar.specs.Syntax.{ImportSyntax}
use Rattle.cc_graph.specs.Graph.{ImportMap, does_import, Reaches, reaches, one_step, more_steps}
use Rattle.cc_graph.proofs.NameLemmas.{same_name}
use Rattle.cc_graph.proofs.OrderLemmas.{clash, among_listed}
use Rattle.cc_graph.proofs.Paths.{IsAmong, reaches-path, path-reaches}
use Rattle.cc_verdicts.specs.ModuleVerdicts.{FoundDefinition, CheckedDefinition, ModuleVerdict, IsAccepted, IsRefused}
use Rattle.cc_verdicts.specs.PresentTexts.{Texts, text_of, graph_of, finding_in, finding_for, findings_for, AreVerdicts}
use Rattle.cc_verdicts.proofs.Asking.{some_of, found_by}
use Rattle.cc_verdicts.proofs.Schedules.{lookup_graph}
use Rattle.cc_entry_laws.specs.LinkOrders.{AreClosed, is_reached, is_accepted, is_accepted_module}
use Rattle.cc_entry_laws.specs.LinkOrders.{AcceptedModulesReachAccepted, AcceptedOrdersAreLinkOrders}
use Rattle.cc_entry_laws.proofs.AcceptedImports.{FoundImports, found_imports}
use Rattle.cc_entry_laws.proofs.ChosenOrders.{chosen_order}

accepted_where_found : (verdict : ModuleVerdict) (name : List ℕ) (signature : CapturingType)
    → finding_in verdict name ≡ FoundDefinition signature → is_accepted verdict ≡ true
accepted_where_found (IsAccepted definitions) name signature is = refl
accepted_where_found (IsRefused code at) name signature is = cc

found_parts : (present cyclic : Bool) (verdict : ModuleVerdict) (name : List ℕ) (signature : CapturingType)
    → found_by present cyclic (finding_in verdict name) ≡ FoundDefinition signature
    → (present ≡ true) × (cyclic ≡ false) × (is_accepted verdict ≡ true)
found_parts true false verdict name signature is = (refl, refl, accepted_where_found verdict name signature is)
found_parts true true verdict name signature is = cc
found_parts false cyclic verdict name signature is = cc

among_sources : (imports : List ImportSyntax) (other : List ℕ) → IsAmong other (map (λ i. i.source) imports)
    → (one : ImportSyntax) × IsAmong one imports × (one.source ≡ other)
among_sources [] other among = absurd among
among_sources (first ∷ rest) other (inl same) = (first, inl refl, same)
among_sources (first ∷ rest) other (inr among) =
    let (one, there, source) = among_sources rest other among in (one, inr there, source)

definitions_of : (verdict : ModuleVerdict) → is_accepted verdict ≡ true
    → (definitions : List CheckedDefinition) × (verdict ≡ IsAccepted definitions)
definitions_of (IsAccepted definitions) is = (definitions, refl)
definitions_of (IsRefused code at) is = cc

-- the text of an accepted module, and what is found for its imports
record AcceptedText (texts : Texts) (verdicts : List ℕ → ModuleVerdict) (name : List ℕ) : Type 0 where
  text : List ℕ
  is_text : text_of texts name ≡ Some text
  found : FoundImports texts verdicts name text

-- a module that an accepted one imports
record IsAhead (texts : Texts) (verdicts : List ℕ → ModuleVerdict) (name other : List ℕ) : Type 0 where
  chosen : is_accepted_module texts verdicts other ≡ true
  ahead : reaches (graph_of texts) other name ≡ false

accepted_text : (devices : List DeviceDecl) (texts : Texts) (verdicts : List ℕ → ModuleVerdict)
    → AreVerdicts devices texts verdicts → (name : List ℕ) → is_accepted_module texts verdicts name ≡ true
    → AcceptedText texts verdicts name
accepted_text devices texts verdicts are name is =
    let parts = and_parts (is_some (text_of texts name)) (is_accepted (verdicts name)) is in
    let (text, is_text) = some_of (text_of texts name) parts.0 in
    let (definitions, accepted) = definitions_of (verdicts name) parts.1 in
    record {
      text = text;
      is_text = is_text;
      found = found_imports devices texts verdicts name text (findings_for texts verdicts name text) (verdicts name)
          definitions refl (are name text is_text) accepted;
    }

ahead_of : (devices : List DeviceDecl) (texts : Texts) (verdicts : List ℕ → ModuleVerdict)
    → AreVerdicts devices texts verdicts → (name other : List ℕ) → is_accepted_module texts verdicts name ≡ true
    → does_import (graph_of texts) name other ≡ true → IsAhead texts verdicts name other
unfolding does_import finding_for
ahead_of devices texts verdicts are name other is by =
    let its = accepted_text devices texts verdicts are name is in
    let listed : list_any (bytes_eq other) (map (λ i. i.source) its.found.imports) ≡ true =
    sym (ap (λ o. list_any (bytes_eq other) (unwrap_or o []))
    (lookup_graph texts name its.text its.found.imports its.is_text its.found.is)) ∙ by in
    let (one, among, source) = among_sources its.found.imports other
    (among_listed (map (λ i. i.source) its.found.imports) other listed) in
    let (signature, finds) = its.found.found one among in
    let parts = found_parts (is_some (text_of texts one.source)) (reaches (graph_of texts) one.source name)
    (verdicts one.source) one.name signature finds in
    let P : List ℕ → Type 0 = λ x. IsAhead texts verdicts name x in
    subst P source (record { chosen = and_from _ _ parts.0 parts.2; ahead = parts.1 })

first_step : (imports : ImportMap) (from to : List ℕ) → Reaches imports from to
    → (next : List ℕ) × (does_import imports from next ≡ true) × ((next ≡ to) ⊎ Reaches imports next to)
first_step imports from to (one_step is) = (to, is, inl refl)
first_step imports from to (more_steps {between = between} is rest) = (between, is, inr rest)

no_way_round : (devices : List DeviceDecl) (texts : Texts) (verdicts : List ℕ → ModuleVerdict)
    → AreVerdicts devices texts verdicts → (name : List ℕ) → is_accepted_module texts verdicts name ≡ true
    → Reaches (graph_of texts) name name → ⊥
no_way_round devices texts verdicts are name is path =
    let (next, by, rest) = first_step (graph_of texts) name name path in
    let it = ahead_of devices texts verdicts are name next is by in
    elim rest [
      | inl same ↦
          (let P : List ℕ → Type 0 = λ x. reaches (graph_of texts) x name ≡ true in
          clash (reaches (graph_of texts) next name) (subst P (sym same) (path-reaches (graph_of texts) name name path))
          it.ahead)
      | inr onward ↦
          clash (reaches (graph_of texts) next name) (path-reaches (graph_of texts) next name onward) it.ahead
    ]

accepted_closed : (devices : List DeviceDecl) (texts : Texts) (verdicts : List ℕ → ModuleVerdict)
    → AreVerdicts devices texts verdicts → AreClosed (graph_of texts) (is_accepted_module texts verdicts)
accepted_closed devices texts verdicts are = record {
  imports_chosen = λ name other is by. (ahead_of devices texts verdicts are name other is by).chosen;
  imports_present = λ name other is by.
      let it = accepted_text devices texts verdicts are other (ahead_of devices texts verdicts are name other is by).chosen in
      ap (λ o. is_some o) (lookup_graph texts other it.text it.found.imports it.is_text it.found.is);
  no_cycle = no_way_round devices texts verdicts are;
}

-- what a chosen module reaches is chosen
chosen_along : (imports : ImportMap) (chosen : List ℕ → Bool) → AreClosed imports chosen → (from to : List ℕ)
    → chosen from ≡ true → Reaches imports from to → chosen to ≡ true
chosen_along imports chosen closed from to is (one_step by) = closed.imports_chosen from to is by
chosen_along imports chosen closed from to is (more_steps {between = between} by rest) =
    chosen_along imports chosen closed between to (closed.imports_chosen from between is by) rest

step_on : (imports : ImportMap) (from to after : List ℕ) → Reaches imports from to
    → does_import imports to after ≡ true → Reaches imports from after
step_on imports from to after (one_step by) last = more_steps by (one_step last)
step_on imports from to after (more_steps {between = between} by rest) last =
    more_steps by (step_on imports between to after rest last)

reached_cases : (imports : ImportMap) (from name : List ℕ) → is_reached imports from name ≡ true
    → (from ≡ name) ⊎ Reaches imports from name
reached_cases imports from name is =
    elim (cases_Bool (bytes_eq from name)) [
      | inl same ↦ inl (same_name from name same)
      | inr other ↦ inr (reaches-path imports from name (rw other at is))
    ]

reached_where : (imports : ImportMap) (from name : List ℕ) → Reaches imports from name
    → is_reached imports from name ≡ true
reached_where imports from name path =
    elim (cases_Bool (bytes_eq from name)) [
      | inl same ↦ rw same refl
      | inr other ↦ rw other (path-reaches imports from name path)
    ]

reached_chosen : (imports : ImportMap) (chosen : List ℕ → Bool) → AreClosed imports chosen → (from name : List ℕ)
    → chosen from ≡ true → is_reached imports from name ≡ true → chosen name ≡ true
reached_chosen imports chosen closed from name is reached =
    elim (reached_cases imports from name reached) [
      | inl same ↦ (let P : List ℕ → Type 0 = λ x. chosen x ≡ true in subst P same is)
      | inr path ↦ chosen_along imports chosen closed from name is path
    ]

reached_next : (imports : ImportMap) (from name other : List ℕ) → is_reached imports from name ≡ true
    → does_import imports name other ≡ true → is_reached imports from other ≡ true
reached_next imports from name other reached by =
    elim (reached_cases imports from name reached) [
      | inl same ↦
          (let P : List ℕ → Type 0 = λ x. does_import imports x other ≡ true in
          reached_where imports from other (one_step (subst P (sym same) by)))
      | inr path ↦ reached_where imports from other (step_on imports from name other path by)
    ]

reached_closed : (imports : ImportMap) (chosen : List ℕ → Bool) → AreClosed imports chosen → (from : List ℕ)
    → chosen from ≡ true → AreClosed imports (is_reached imports from)
reached_closed imports chosen closed from is = record {
  imports_chosen = reached_next imports from;
  imports_present = λ name other reached by.
      closed.imports_present name other (reached_chosen imports chosen closed from name is reached) by;
  no_cycle = λ name reached.
      closed.no_cycle name (reached_chosen imports chosen closed from name is reached);
}

pub reach_accepted : AcceptedModulesReachAccepted
reach_accepted devices texts verdicts are from is = (
  λ name reached.
      reached_chosen (graph_of texts) (is_accepted_module texts verdicts) (accepted_closed devices texts verdicts are)
      from name is reached,
  no_way_round devices texts verdicts are from is,
)

pub linked_orders : AcceptedOrdersAreLinkOrders
linked_orders devices texts verdicts are from is names order =
    chosen_order (graph_of texts) names (is_reached (graph_of texts) from) order
    (reached_closed (graph_of texts) (is_accepted_module texts verdicts) (accepted_closed devices texts verdicts are)
    from is)
