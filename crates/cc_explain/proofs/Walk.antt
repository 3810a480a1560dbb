-- The walk along first steps, which writes the first shortest chain.
use Rattle.std.proofs.Common.{◌≡◌, ℕ, ◌+◌, ◌<◌, ◌≤◌, List, [], ◌∷◌, ◌++◌, length, Option, Some, None, sym, ap, subst, ◌∙◌, append_assoc, arith}
use Rattle.std.proofs.lemmas.List.{append-nil}
use Rattle.cc_explain.proofs.FirstPaths.{path_behind}
use Rattle.cc_explain.proofs.FirstSteps.{goes_on, no_next}
use Rattle.cc_explain.proofs.Orders.{chain_from_path, one_path}
use Rattle.cc_explain.specs.Chains.{LeadsAlong, IsChain, IsFirstShortest}
use Rattle.cc_explain.specs.Entries.{Entries, targets_of}
use Rattle.cc_explain.specs.Paths.{IsFirstPath}
use Rattle.cc_explain.specs.Steps.{next_of, AreFirstSteps}
use Rattle.cc_explain.specs.Targets.{IsElement, rank}
use Rattle.cc_explain.specs.declared.step.Step.{Step}
use Rattle.cc_explain.specs.declared.target.Target.{Target}
use Rattle.cc_explain.specs.declared.target.Target.TheVariants.{Definition}

-- The walk has come to a target: what was written and the first shortest path from there are the chain.
pub record StandsAt (links : Entries) (from : ℕ) (to : Target) (count : ℕ) (at : Target) (written : List Target) : Type 0 where
  pub within : rank at ≤ count
  pub rest : List Target
  pub path : IsFirstPath links at to rest
  pub whole : IsFirstShortest (targets_of links) (Definition from) to (written ++ rest)

pub begins :
    (links : Entries) (from : ℕ) (to : Target) (steps : List (Option Step)) (next : Target)
    → length steps ≡ from + 1 → AreFirstSteps links to steps → next_of steps (Definition from) ≡ Some next
    → StandsAt links from to (length steps) (Definition from) (Definition from ∷ [])
begins links from to steps next count are is =
    let low : rank (Definition from) ≤ length steps = omega arith in
    let on = goes_on links to steps are (Definition from) next low is in
    record { within = low; rest = next ∷ on.rest; path = on.path; whole = chain_from_path links from to (next ∷ on.rest) on.path }

-- a first step from where the walk stands leads to an earlier entry
pub falls :
    (links : Entries) (from : ℕ) (to : Target) (steps : List (Option Step)) (at next : Target) (written : List Target)
    → AreFirstSteps links to steps → StandsAt links from to (length steps) at written → next_of steps at ≡ Some next
    → rank next < rank at
falls links from to steps at next written are stands is = (goes_on links to steps are at next stands.within is).earlier

pub walks :
    (links : Entries) (from : ℕ) (to : Target) (steps : List (Option Step)) (at next : Target) (written : List Target)
    → AreFirstSteps links to steps → StandsAt links from to (length steps) at written → next_of steps at ≡ Some next
    → StandsAt links from to (length steps) next (written ++ next ∷ [])
walks links from to steps at next written are stands is =
    let on = goes_on links to steps are at next stands.within is in
    let same : stands.rest ≡ next ∷ on.rest = one_path links to at stands.rest (next ∷ on.rest) stands.path on.path in
    let low = on.earlier in
    let within = stands.within in
    record {
      within = omega arith;
      rest = on.rest;
      path = path_behind links to at next on.rest on.path;
      whole = subst (IsFirstShortest (targets_of links) (Definition from) to)
          (ap (λ rest. written ++ rest) same ∙ sym (append_assoc written (next ∷ []) on.rest)) stands.whole;
    }

pub ends :
    (links : Entries) (from : ℕ) (to : Target) (steps : List (Option Step)) (at : Target) (written : List Target)
    → AreFirstSteps links to steps → StandsAt links from to (length steps) at written → next_of steps at ≡ None
    → IsFirstShortest (targets_of links) (Definition from) to written
ends links from to steps at written are stands none =
    let nothing : stands.rest ≡ [] = no_next links to steps are at stands.within none stands.rest stands.path.leads in
    subst (IsFirstShortest (targets_of links) (Definition from) to) (ap (λ rest. written ++ rest) nothing ∙ append-nil written) stands.whole

no_definition_left :
    (links : Entries) (from : ℕ) (to : Target) (path : List Target) → IsElement to
    → LeadsAlong (targets_of links) (Definition from) path to → path ≡ [] → ⊥
no_definition_left links from to [] element leads is = subst IsElement (sym leads) element
no_definition_left links from to (next ∷ path) element leads is = cc

pub no_chains :
    (links : Entries) (from : ℕ) (to : Target) (steps : List (Option Step))
    → length steps ≡ from + 1 → IsElement to → AreFirstSteps links to steps → next_of steps (Definition from) ≡ None
    → (chain : List Target) → IsChain (targets_of links) (Definition from) to chain → ⊥
no_chains links from to steps count element are none [] is = is
no_chains links from to steps count element are none (first ∷ path) is =
    let leads : LeadsAlong (targets_of links) (Definition from) path to = subst (λ t. LeadsAlong (targets_of links) t path to) is.0 is.1 in
    no_definition_left links from to path element leads
    (no_next links to steps are (Definition from) (omega arith) none path leads)
