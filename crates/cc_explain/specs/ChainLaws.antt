-- The laws of chains.
use Rattle.std.specs.Prelude.{◌≡◌, ℕ, ◌+◌, ◌≤◌, List, length, MatchOption}
use Rattle.cc_explain.specs.declared.target.Target.TheVariants.{Definition}
use Rattle.cc_explain.specs.Chains.{IsChain, IsFirstShortest}
use Rattle.cc_explain.specs.Entries.{Entries, NamesEarlier, targets_of}
use Rattle.cc_explain.specs.Paths.{chain_of}
use Rattle.cc_explain.specs.declared.target.Target.{Target}

-- there is at most one first shortest chain
abbrev pub FirstChainsAreUnique : Type 0
FirstChainsAreUnique =
    (links : Entries) (from : ℕ) (to : Target) (chain other : List Target)
    → IsFirstShortest (targets_of links) (Definition from) to chain → IsFirstShortest (targets_of links) (Definition from) to other → chain ≡ other

-- where there is a chain there is a first shortest one
abbrev pub FirstChainsExist : Type 0
FirstChainsExist =
    (links : Entries) (from : ℕ) (to : Target) (chain : List Target)
    → IsChain (targets_of links) (Definition from) to chain → (first : List Target) × IsFirstShortest (targets_of links) (Definition from) to first

-- Where entries name earlier ones alone, a chain has at most one target more than there are entries up to that of its
-- first definition.
abbrev pub ChainsAreBounded : Type 0
ChainsAreBounded =
    (links : Entries) (from : ℕ) (to : Target) (chain : List Target)
    → NamesEarlier links → IsChain (targets_of links) (Definition from) to chain → length chain ≤ from + 2

-- where entries name earlier ones alone, the first shortest chain is that of its function
abbrev pub FirstChainsAreComputed : Type 0
FirstChainsAreComputed =
    (links : Entries) (from : ℕ) (to : Target)
    → NamesEarlier links
    → MatchOption (chain_of links from to) ((chain : List Target) → IsChain (targets_of links) (Definition from) to chain → ⊥) (λ chain. IsFirstShortest (targets_of links) (Definition from) to chain)
