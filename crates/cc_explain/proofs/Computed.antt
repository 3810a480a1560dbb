-- What the functions of paths give is the first of the shortest paths.
use Rattle.std.proofs.Common.{◌≡◌, ℕ, zero, suc, ◌+◌, ◌<◌, ◌≤◌, Bool, true, false, if◌then◌else◌, List, [], ◌∷◌, ◌++◌, length, Option, Some, None, option_map, MatchOption, inl, inr, refl, sym, ap, subst, ◌∙◌, append_assoc, arith}
use Rattle.std.specs.List.{Contains}
use Rattle.std.proofs.lemmas.Bool.{cases_lt}
use Rattle.std.proofs.lemmas.List.{append-nil}
use Rattle.std.proofs.lemmas.List.Elements.{Contains-append_right, Contains-append_cases}
use Rattle.cc_explain.proofs.FirstPaths.{in_head, head_or_tail}
use Rattle.cc_explain.proofs.Orders.{chain_from_path}
use Rattle.cc_explain.proofs.Targets.{in_none, in_front, link_falls, same_target-true, same_target-false}
use Rattle.cc_explain.specs.Chains.{LeadsAlong, StandsBefore, LeadsBefore, IsChain, IsFirstShortest}
use Rattle.cc_explain.specs.Entries.{Entries, targets_of, NamesEarlier}
use Rattle.cc_explain.specs.ChainLaws.{FirstChainsExist, ChainsAreBounded, FirstChainsAreComputed}
use Rattle.cc_explain.specs.Paths.{IsFirstPath, through, first_through, path_of, sooner, path_from}
use Rattle.cc_explain.specs.Targets.{same_target, rank}
use Rattle.cc_explain.specs.declared.target.Target.{Target}
use Rattle.cc_explain.specs.declared.target.Target.TheVariants.{Definition}

-- the first path of so many steps
pub record IsPathOf (links : Entries) (to : Target) (steps : ℕ) (from : Target) (path : List Target) : Type 0 where
  pub leads : LeadsAlong (targets_of links) from path to
  pub long : length path ≡ steps
  pub first : (other : List Target) → LeadsAlong (targets_of links) from other to → length other ≡ steps
      → LeadsBefore (targets_of links) from other path
      → ⊥

-- the first one, if there is one
abbrev pub IsSomePathOf : Entries → Target → ℕ → Target → Option (List Target) → Type 0
IsSomePathOf links to steps from None =
    (other : List Target) → LeadsAlong (targets_of links) from other to → length other ≡ steps → ⊥
IsSomePathOf links to steps from (Some path) = IsPathOf links to steps from path

at_once :
    (links : Entries) (to from : Target) (test : Bool) → same_target from to ≡ test
    → IsSomePathOf links to 0 from (if test then Some [] else None)
at_once links to from true holds =
    record { leads = same_target-true from to holds; long = refl; first = none_before }
  where
    none_before : (other : List Target) → LeadsAlong (targets_of links) from other to → length other ≡ 0
        → LeadsBefore (targets_of links) from other []
        → ⊥
    none_before [] leads same before = before
    none_before (next ∷ other) leads same before = before
at_once links to from false fails = none_there
  where
    none_there : (other : List Target) → LeadsAlong (targets_of links) from other to → length other ≡ 0 → ⊥
    none_there [] leads same = same_target-false from to fails leads
    none_there (next ∷ other) leads same = omega arith

module _ (links : Entries) (to from : Target) (steps : ℕ) (paths : Target → Option (List Target)) (are : (target : Target)
    → IsSomePathOf links to steps target (paths target)) where
  -- from no target of the list is there a path
  abbrev NoneFrom : List Target → Type 0
  NoneFrom front =
      (target : Target) → Contains front target → (other : List Target) → LeadsAlong (targets_of links) target other to
      → length other ≡ steps
      → ⊥

  none_more :
      (front : List Target) (next : Target) → NoneFrom front
      → ((other : List Target) → LeadsAlong (targets_of links) next other to → length other ≡ steps → ⊥)
      → NoneFrom (front ++ next ∷ [])
  none_more front next none here target among =
      elim (Contains-append_cases front (next ∷ []) target among) [
        | inl is ↦ none target is
        | inr last ↦
            elim (head_or_tail next [] target last) [
              | inl same ↦
                  subst (λ t. (other : List Target) → LeadsAlong (targets_of links) t other to → length other ≡ steps → ⊥) same here
              | inr nowhere ↦ in_none target nowhere
            ]
      ]

  through_next :
      (front : List Target) (next : Target) (others path : List Target)
      → targets_of links from ≡ front ++ next ∷ others → NoneFrom front → IsPathOf links to steps next path
      → IsPathOf links to (suc steps) from (next ∷ path)
  through_next front next others path stands none is =
      record {
        leads = (
          subst (λ s. Contains s next) (sym stands)
              (Contains-append_right front (next ∷ others) next (in_head next others)),
          is.leads,
        );
        long = ap suc is.long;
        first = none_before;
      }
    where
      none_before : (other : List Target) → LeadsAlong (targets_of links) from other to → length other ≡ suc steps
          → LeadsBefore (targets_of links) from other (next ∷ path)
          → ⊥
      none_before [] leads same before = before
      none_before (target ∷ other) leads same (inl before) =
          none target
          (in_front front next others target (subst (λ s. StandsBefore s target next) stands before)) other leads.1
          (omega arith)
      none_before (target ∷ other) leads same (inr (is_next, before)) =
          is.first other (subst (λ t. LeadsAlong (targets_of links) t other to) is_next leads.1) (omega arith)
          (subst (λ t. LeadsBefore (targets_of links) t other path) is_next before)

  none_at_all :
      NoneFrom (targets_of links from) → (other : List Target) → LeadsAlong (targets_of links) from other to
      → length other ≡ suc steps
      → ⊥
  none_at_all none [] leads same = omega arith
  none_at_all none (target ∷ other) leads same = none target leads.0 other leads.1 (omega arith)

  next_one :
      (front : List Target) (next : Target) (others : List Target) (found : Option (List Target))
      (rest : Option (List Target))
      → targets_of links from ≡ front ++ next ∷ others → NoneFrom front → IsSomePathOf links to steps next found
      → (NoneFrom (front ++ next ∷ []) → IsSomePathOf links to (suc steps) from rest)
      → IsSomePathOf links to (suc steps) from (through next found rest)
  next_one front next others None rest stands none here behind = behind (none_more front next none here)
  next_one front next others (Some path) rest stands none here behind =
      through_next front next others path stands none here

  first_through_is :
      (front others : List Target) → targets_of links from ≡ front ++ others → NoneFrom front
      → IsSomePathOf links to (suc steps) from (first_through paths others)
  first_through_is front [] stands none =
      none_at_all (subst NoneFrom (sym (stands ∙ append-nil front)) none)
  first_through_is front (next ∷ others) stands none =
      next_one front next others (paths next) (first_through paths others) stands none (are next)
      (first_through_is (front ++ next ∷ []) others (stands ∙ sym (append_assoc front (next ∷ []) others)))

pub path_of_is :
    (links : Entries) (to : Target) (steps : ℕ) (from : Target)
    → IsSomePathOf links to steps from (path_of links to steps from)
unfolding path_of
path_of_is links to zero from = at_once links to from (same_target from to) refl
path_of_is links to (suc steps) from =
    first_through_is links to from steps (path_of links to steps) (path_of_is links to steps) []
    (targets_of links from) refl
    (λ target among other leads same. in_none target among)

-- the first of the shortest paths, if one has fewer steps than so many
abbrev pub IsPathBelow : Entries → Target → Target → ℕ → Option (List Target) → Type 0
IsPathBelow links to from high None = (other : List Target) → LeadsAlong (targets_of links) from other to → high ≤ length other
IsPathBelow links to from high (Some path) = IsFirstPath links from to path

-- no path has fewer steps
abbrev NoneBelow : Entries → Target → Target → ℕ → Type 0
NoneBelow links to from low = (other : List Target) → LeadsAlong (targets_of links) from other to → low ≤ length other

one_longer :
    (links : Entries) (to from : Target) (low : ℕ) → NoneBelow links to from low
    → ((other : List Target) → LeadsAlong (targets_of links) from other to → length other ≡ low → ⊥)
    → NoneBelow links to from (suc low)
one_longer links to from low none here other leads =
    let below = none other leads in
    elim (cases_lt low (length other)) [
      | inl longer ↦ omega arith
      | inr high ↦ absurd (here other leads (omega arith))
    ]

soonest :
    (links : Entries) (to from : Target) (low high : ℕ) (found rest : Option (List Target))
    → NoneBelow links to from low → IsSomePathOf links to low from found
    → (NoneBelow links to from (suc low) → IsPathBelow links to from high rest)
    → IsPathBelow links to from high (sooner found rest)
soonest links to from low high None rest none here behind = behind (one_longer links to from low none here)
soonest links to from low high (Some path) rest none is behind =
    record {
      leads = is.leads;
      shortest = λ other leads. let below = none other leads in let long = is.long in omega arith;
      first = λ other leads same before. is.first other leads (same ∙ is.long) before;
    }

pub path_from_is :
    (links : Entries) (to from : Target) (low tries : ℕ) → NoneBelow links to from low
    → IsPathBelow links to from (low + tries) (path_from links to from low tries)
unfolding path_from
path_from_is links to from low zero none = λ other leads. let below = none other leads in omega arith
path_from_is links to from low (suc tries) none =
    soonest links to from low (low + suc tries) (path_of links to low from) (path_from links to from (suc low) tries)
    none (path_of_is links to low from)
    (λ more.
    subst (λ high. IsPathBelow links to from high (path_from links to from (suc low) tries)) (moved low tries)
    (path_from_is links to from (suc low) tries more))
  where
    moved : (a b : ℕ) → suc a + b ≡ a + suc b
    moved a b = omega arith

pub path_below :
    (links : Entries) (to from : Target) (tries : ℕ)
    → IsPathBelow links to from (0 + tries) (path_from links to from 0 tries)
path_below links to from tries = path_from_is links to from 0 tries (λ other leads. omega arith)

some_chain :
    (links : Entries) (from : ℕ) (to : Target) (found : Option (List Target)) (path : List Target)
    → IsPathBelow links to (Definition from) (0 + (length path + 1)) found
    → LeadsAlong (targets_of links) (Definition from) path to
    → (first : List Target) × IsFirstShortest (targets_of links) (Definition from) to first
some_chain links from to None path is leads = let low = is path leads in absurd (omega arith)
some_chain links from to (Some first) path is leads = (Definition from ∷ first, chain_from_path links from to first is)

pub first_chains_exist : FirstChainsExist
first_chains_exist links from to [] is = absurd is
first_chains_exist links from to (first ∷ path) is =
    some_chain links from to (path_from links to (Definition from) 0 (length path + 1)) path
    (path_below links to (Definition from) (length path + 1))
    (subst (λ t. LeadsAlong (targets_of links) t path to) is.0 is.1)

-- a path has no more steps than there are entries up to that of its first definition
pub path_bounded :
    (links : Entries) → NamesEarlier links → (to from : Target) (path : List Target) → LeadsAlong (targets_of links) from path to
    → length path ≤ rank from
path_bounded links earlier to from [] leads = omega arith
path_bounded links earlier to from (next ∷ path) leads =
    let rest = path_bounded links earlier to next path leads.1 in
    let falls = link_falls links earlier from next leads.0 in
    omega arith

pub chains_are_bounded : ChainsAreBounded
chains_are_bounded links from to [] earlier is = absurd is
chains_are_bounded links from to (first ∷ path) earlier is =
    let low : length path ≤ rank (Definition from) =
    path_bounded links earlier to (Definition from) path (subst (λ t. LeadsAlong (targets_of links) t path to) is.0 is.1) in
    omega arith

no_chain :
    (links : Entries) (from : ℕ) (to : Target)
    → ((path : List Target) → LeadsAlong (targets_of links) (Definition from) path to → ⊥)
    → (chain : List Target) → IsChain (targets_of links) (Definition from) to chain → ⊥
no_chain links from to none [] is = is
no_chain links from to none (first ∷ path) is = none path (subst (λ t. LeadsAlong (targets_of links) t path to) is.0 is.1)

-- The chain of the first shortest path, if there is a path.
pub chain_found :
    (links : Entries) (from : ℕ) (to : Target) (high : ℕ) (found : Option (List Target))
    → NamesEarlier links → from + 1 < high → IsPathBelow links to (Definition from) high found
    → MatchOption (option_map (λ path. Definition from ∷ path) found) ((chain : List Target) → IsChain (targets_of links) (Definition from) to chain → ⊥) (λ chain. IsFirstShortest (targets_of links) (Definition from) to chain)
chain_found links from to high None earlier low is =
    no_chain links from to
    (λ path leads.
    let far = is path leads in
    let near : length path ≤ rank (Definition from) = path_bounded links earlier to (Definition from) path leads in
    absurd (omega arith))
chain_found links from to high (Some path) earlier low is = chain_from_path links from to path is

pub first_chains_are_computed : FirstChainsAreComputed
first_chains_are_computed links from to earlier =
    chain_found links from to (0 + (from + 2)) (path_from links to (Definition from) 0 (from + 2)) earlier (omega arith)
    (path_below links to (Definition from) (from + 2))
