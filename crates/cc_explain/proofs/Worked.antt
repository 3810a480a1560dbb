-- Worked chains.
use Rattle.std.proofs.Common.{◌≡◌, ℕ, zero, suc, ◌+◌, ◌<◌, ◌≤◌, Bool, true, ◌&&◌, nat_lt, List, [], ◌∷◌, length, Some, None, slice_index_or, inl, inr, refl, subst, arith}
use Rattle.std.specs.List.{Contains}
use Rattle.std.proofs.lemmas.Bool.{and_parts, ltb-true}
use Rattle.cc_explain.proofs.Computed.{IsPathBelow, path_below, path_bounded}
use Rattle.cc_explain.proofs.FirstPaths.{head_or_tail}
use Rattle.cc_explain.proofs.Orders.{chain_from_path}
use Rattle.cc_explain.proofs.Targets.{in_none}
use Rattle.cc_explain.specs.Chains.{LeadsAlong, IsChain, IsFirstShortest}
use Rattle.cc_explain.specs.Entries.{Entries, NamesEarlier, targets_of}
use Rattle.cc_explain.specs.ChainExamples as example
use Rattle.cc_explain.specs.Paths.{path_of, path_from}
use Rattle.cc_explain.specs.Targets.{rank}
use Rattle.cc_explain.specs.declared.target.Target.{Target}
use Rattle.cc_explain.specs.declared.target.Target.TheVariants.{Definition, Device, Cap}

-- a chain that is computed
found :
    (links : Entries) (from : ℕ) (to : Target) (path : List Target)
    → path_from links to (Definition from) 0 9 ≡ Some path → IsFirstShortest (targets_of links) (Definition from) to (Definition from ∷ path)
found links from to path is =
    chain_from_path links from to path
    (subst (IsPathBelow links to (Definition from) (0 + 9)) is (path_below links to (Definition from) 9))

-- whether the definitions that are named have earlier entries
names_below : ℕ → Target → Bool
names_below number (Definition named) = nat_lt named number
names_below number (Device device) = true
names_below number Cap = true

all_below : ℕ → List Target → Bool
all_below number [] = true
all_below number (target ∷ others) = names_below number target && all_below number others

entries_below : ℕ → Entries → Bool
entries_below number [] = true
entries_below number (entry ∷ others) = all_below number entry && entries_below (suc number) others

all_below-true :
    (number : ℕ) (entry : List Target) → all_below number entry ≡ true
    → (named : ℕ) → Contains entry (Definition named) → named < number
unfolding all_below names_below
all_below-true number [] holds named among = in_none (Definition named) among
all_below-true number (target ∷ others) holds named among =
    let parts = and_parts (names_below number target) (all_below number others) holds in
    elim (head_or_tail target others (Definition named) among) [
      | inl same ↦ ltb-true named number (subst (λ t. names_below number t ≡ true) same parts.0)
      | inr rest ↦ all_below-true number others parts.1 named rest
    ]

entries_below-true :
    (number : ℕ) (links : Entries) → entries_below number links ≡ true
    → (k named : ℕ) → Contains (slice_index_or links k []) (Definition named) → named < number + k
unfolding entries_below
entries_below-true number [] holds k named among = in_none (Definition named) among
entries_below-true number (entry ∷ others) holds zero named among =
    let low = all_below-true number entry (and_parts (all_below number entry) (entries_below (suc number) others) holds).0 named among in
    omega arith
entries_below-true number (entry ∷ others) holds (suc k) named among =
    let low =
    entries_below-true (suc number) others
    (and_parts (all_below number entry) (entries_below (suc number) others) holds).1 k named among in
    omega arith

-- the devices' entries name earlier ones alone
pub two_devices_earlier : NamesEarlier example.two_devices
unfolding entries_below all_below names_below
two_devices_earlier = λ number named among.
    let low = entries_below-true 0 example.two_devices refl number named among in omega arith

-- that there is none is computed
none_found :
    (links : Entries) (from : ℕ) (to : Target) → entries_below 0 links ≡ true → from < 8
    → path_from links to (Definition from) 0 9 ≡ None
    → (chain : List Target) → IsChain (targets_of links) (Definition from) to chain → ⊥
none_found links from to earlier few none [] is = is
none_found links from to earlier few none (first ∷ path) is =
    let leads : LeadsAlong (targets_of links) (Definition from) path to = subst (λ t. LeadsAlong (targets_of links) t path to) is.0 is.1 in
    let names : NamesEarlier links = λ number named among.
    let low = entries_below-true 0 links earlier number named among in omega arith in
    let near : length path ≤ rank (Definition from) = path_bounded links names to (Definition from) path leads in
    let far : 0 + 9 ≤ length path =
    subst (IsPathBelow links to (Definition from) (0 + 9)) none (path_below links to (Definition from) 9) path leads in
    omega arith

pub through_the_one_that_has_it : example.ThroughTheOneThatHasIt
unfolding path_from path_of
through_the_one_that_has_it = (
  found example.two_devices 2 example.out (Definition 0 ∷ example.out ∷ []) refl,
  found example.two_devices 2 example.hits (Definition 1 ∷ example.hits ∷ []) refl,
  found example.two_devices 0 example.out (example.out ∷ []) refl,
)

pub in_turn : example.InTurn
unfolding path_from path_of
in_turn =
    found example.in_turn 3 example.out (Definition 2 ∷ Definition 1 ∷ Definition 0 ∷ example.out ∷ []) refl

pub least_length : example.LeastLength
unfolding path_from path_of
least_length = (
  found example.longer_first 2 example.out (Definition 0 ∷ example.out ∷ []) refl,
  found example.longer_first 3 example.out (example.out ∷ []) refl,
)

pub first_of_as_long : example.FirstOfAsLong
unfolding path_from path_of
first_of_as_long = (
  found example.as_long 2 example.out (Definition 1 ∷ example.out ∷ []) refl,
  found example.as_long 3 example.out (Definition 0 ∷ example.out ∷ []) refl,
  found example.as_long 4 example.out (Definition 3 ∷ Definition 0 ∷ example.out ∷ []) refl,
  found example.as_long 5 example.out (Definition 2 ∷ Definition 1 ∷ example.out ∷ []) refl,
)

pub universal_capability : example.UniversalCapability
unfolding path_from path_of
universal_capability = (
  found example.universal 1 Cap (Definition 0 ∷ Cap ∷ []) refl,
  found example.universal 1 example.out (example.out ∷ []) refl,
)

pub no_chain : example.NoChain
unfolding path_from path_of entries_below all_below names_below
no_chain = (
  none_found example.universal 0 example.out refl (omega arith) refl,
  none_found example.universal 1 example.hits refl (omega arith) refl,
  none_found example.universal 3 Cap refl (omega arith) refl,
)
