-- The first of the shortest chains from a target to an end, by computation.
use Rattle.std.proofs.Common.{◌≡◌, ℕ, zero, suc, ◌<◌, ◌≤◌, Bool, true, false, not, ◌&&◌, ◌||◌, cond, List, [], ◌∷◌, length, slice_get, Some, IsTrue, refl, sym, ap, subst, arith}
use Rattle.std.proofs.lemmas.Bool.{and_parts}
use Rattle.cc_explain.specs.Chains.{LeadsAlong}
use Rattle.cc_module_reasons.proofs.NearestWays.{place_in, IsFar, IsFirstWay, at_end, through, first_chain}
use Rattle.cc_reasons.specs.ShortestChains.{IsFirstShortestToEnd}

some_is : {A : Type 0} {left right : A} → Some left ≡ Some right → left ≡ right
some_is e = cc

or_parts : (a b : Bool) → (a || b) ≡ false → (a ≡ false) × (b ≡ false)
or_parts true b e = cc
or_parts false b e = (refl, e)

contrary : {A : Type 0} (b : Bool) → b ≡ true → b ≡ false → A
contrary b e f = cc

is_not : (b : Bool) → not b ≡ true → b ≡ false
is_not true e = cc
is_not false e = refl

module _ {T : Type 0} (entry : T → List T) (is_end : T → Bool) (eq : T → T → Bool) (eq_is : (left right : T) → eq left right ≡ true → left ≡ right) where
  -- whether one of the targets passes
  unfoldable pub some_passes : (T → Bool) → List T → Bool
  some_passes passes [] = false
  some_passes passes (target ∷ targets) = passes target || some_passes passes targets

  -- whether an end is reached from the target in so many links at most
  unfoldable pub is_near : ℕ → T → Bool
  is_near zero from = is_end from
  is_near (suc links) from = is_end from || some_passes (is_near links) (entry from)

  -- whether the target is among these, and from none before it an end is reached in so many links
  unfoldable pub is_nearest : ℕ → T → List T → Bool
  is_nearest links next [] = false
  is_nearest links next (target ∷ targets) = cond (eq target next) true (not (is_near links target) && is_nearest links next targets)

  -- whether these targets are the first of the shortest ways on
  unfoldable pub is_first_way : T → List T → Bool
  is_first_way from [] = is_end from
  is_first_way from (next ∷ others) =
      not (is_near (length others) from) && (is_nearest (length others) next (entry from) && is_first_way next others)

  none_passes : (passes : T → Bool) (targets : List T) → some_passes passes targets ≡ false
      → (at : ℕ) (target : T) → slice_get targets at ≡ Some target → passes target ≡ false
  unfolding some_passes
  none_passes passes [] e at target stands = cc
  none_passes passes (first ∷ targets) e zero target stands =
      subst (λ t. passes t ≡ false) (some_is stands) (or_parts (passes first) (some_passes passes targets) e).0
  none_passes passes (first ∷ targets) e (suc at) target stands =
      none_passes passes targets (or_parts (passes first) (some_passes passes targets) e).1 at target stands

  is_far : (links : ℕ) (from : T) → is_near links from ≡ false → IsFar entry is_end (suc links) from
  unfolding is_near
  is_far zero from e [] end ends leads = contrary (is_end from) (subst (λ t. IsTrue (is_end t)) (sym leads) ends) e
  is_far zero from e (next ∷ other) end ends leads = omega arith
  is_far (suc links) from e [] end ends leads =
      contrary (is_end from) (subst (λ t. IsTrue (is_end t)) (sym leads) ends) (or_parts (is_end from) (some_passes (is_near links) (entry from)) e).0
  is_far (suc links) from e (next ∷ other) end ends leads =
      let (at, stands) = place_in (entry from) next leads.0 in
      let none = (or_parts (is_end from) (some_passes (is_near links) (entry from)) e).1 in
      let long = is_far links next (none_passes (is_near links) (entry from) none at next stands) other end ends leads.1 in
      omega arith

  record Nearest (links : ℕ) (next : T) (targets : List T) : Type 0 where
    place : ℕ
    stands : slice_get targets place ≡ Some next
    before : (at : ℕ) (target : T) → at < place → slice_get targets at ≡ Some target → is_near links target ≡ false

  nearest : (links : ℕ) (next : T) (targets : List T) → is_nearest links next targets ≡ true → Nearest links next targets
  unfolding is_nearest
  nearest links next [] e = cc
  nearest links next (target ∷ targets) e = by (nearest links next targets) (eq target next) refl e
    where
      earlier : is_near links target ≡ false → (place : ℕ)
          → ((at : ℕ) (other : T) → at < place → slice_get targets at ≡ Some other → is_near links other ≡ false)
          → (at : ℕ) (other : T) → at < suc place → slice_get (target ∷ targets) at ≡ Some other → is_near links other ≡ false
      earlier far place before zero other low stands = subst (λ t. is_near links t ≡ false) (some_is stands) far
      earlier far place before (suc at) other low stands = before at other (omega arith) stands

      by : (is_nearest links next targets ≡ true → Nearest links next targets)
          → (same : Bool) → eq target next ≡ same → cond same true (not (is_near links target) && is_nearest links next targets) ≡ true
          → Nearest links next (target ∷ targets)
      by later true same e =
          record { place = 0; stands = ap (λ t. Some t) (eq_is target next same); before = λ at other low stands. absurd (omega arith) }
      by later false same e =
          let parts = and_parts (not (is_near links target)) (is_nearest links next targets) e in
          let it = later parts.1 in
          record {
            place = suc it.place;
            stands = it.stands;
            before = earlier (is_not (is_near links target) parts.0) it.place it.before;
          }

  first_way : (from : T) (others : List T) → is_first_way from others ≡ true → IsFirstWay entry is_end from others
  unfolding is_first_way
  first_way from [] e = at_end entry is_end from e
  first_way from (next ∷ others) e =
      let parts = and_parts (not (is_near (length others) from)) (is_nearest (length others) next (entry from) && is_first_way next others) e in
      let more = and_parts (is_nearest (length others) next (entry from)) (is_first_way next others) parts.1 in
      let it = nearest (length others) next (entry from) more.0 in
      through entry is_end from next others it.place it.stands (first_way next others more.1)
      (is_far (length others) from (is_not (is_near (length others) from) parts.0))
      (λ at target low stands. is_far (length others) target (it.before at target low stands))

  -- what is found so is the first of the shortest chains
  pub first_chain_found : (from : T) (others : List T) → is_first_way from others ≡ true → IsFirstShortestToEnd entry is_end from (from ∷ others)
  first_chain_found from others e = first_chain entry is_end from others (first_way from others e)
