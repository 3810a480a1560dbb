-- The numbers of broken nodes rise, so the first one is the least.
use Rattle.std.proofs.Common.{◌≡◌, ℕ, zero, suc, ◌+◌, ◌<◌, ◌≤◌, Bool, true, false, List, [], ◌∷◌, ◌++◌, length, Option, Some, None, refl, sym, subst, arith}
use Rattle.std.specs.Prelude.{Contains, if◌then◌else◌}
use Rattle.cc_core.specs.Derivations.{Rule, Claim, Derivation, Node, Premises, NoPremise, Premise}
use Rattle.cc_checking.specs.DerivationSizes.{nodes, nodes_of}
use Rattle.cc_derivation.specs.Numbers.{own_number}
use Rattle.cc_derivation.specs.Rows.{Place, Nowhere, TypeOf, SetsBelow, ShapesBelow, TypesBelow, Row, row_at}
use Rattle.cc_derivation.specs.Broken.{claims_of, are_as_many, broken_at, broken, broken_among, IsLeast}
use Rattle.cc_derivation.specs.ValidityLaws.{RiseWithin, BrokenNumbersRise}

start_lower : (low low' high : ℕ) (xs : List ℕ) → low ≤ low' → RiseWithin low' xs high → RiseWithin low xs high
start_lower low low' high [] le h = omega arith
start_lower low low' high (x ∷ xs) le h = let first : low' < x = h.0 in (omega arith, h.1)

end_higher : (low high high' : ℕ) (xs : List ℕ) → high ≤ high' → RiseWithin low xs high → RiseWithin low xs high'
end_higher low high high' [] le h = omega arith
end_higher low high high' (x ∷ xs) le h = (h.0, end_higher x high high' xs le h.1)

rise_both : (low middle high : ℕ) (xs ys : List ℕ) → RiseWithin low xs middle → RiseWithin middle ys high → RiseWithin low (xs ++ ys) high
rise_both low middle high [] ys h k = start_lower low middle high ys h k
rise_both low middle high (x ∷ xs) ys h k = (h.0, rise_both x middle high xs ys h.1 k)

node_rises : (before last : ℕ) (row : Option Row) (claims : List Claim) (inner : List Place → List ℕ)
    → ((places : List Place) → RiseWithin before (inner places) last) → before ≤ last
    → RiseWithin before (broken_at (suc last) row claims inner) (suc last)
node_rises before last None claims inner h le = (omega arith, omega arith)
node_rises before last (Some row) claims inner h le =
    counted (are_as_many (row.places claims) claims)
  where
    counted : (b : Bool) → RiseWithin before (if b then inner (row.places claims) ++ (if row.is_instance claims then [] else suc last ∷ []) else suc last ∷ []) (suc last)
    counted true =
        let own : (c : Bool) → RiseWithin last (if c then [] else suc last ∷ []) (suc last) = λ c. elim c as (λ c. RiseWithin last (if c then [] else suc last ∷ []) (suc last)) [ true ↦ omega arith | false ↦ (omega arith, omega arith) ] in
        rise_both before last (suc last) (inner (row.places claims)) _ (h (row.places claims)) (own (row.is_instance claims))
    counted false = (omega arith, omega arith)

at_own : (before count : ℕ) (row : Option Row) (claims : List Claim) (inner : List Place → List ℕ)
    → ((places : List Place) → RiseWithin before (inner places) (before + count))
    → RiseWithin before (broken_at (before + (1 + count)) row claims inner) (before + (1 + count))
at_own before count row claims inner h =
    let e : suc (before + count) ≡ before + (1 + count) = omega arith in
    let le : before ≤ before + count = omega arith in
    subst (λ n. RiseWithin before (broken_at n row claims inner) n) e (node_rises before (before + count) row claims inner h le)

mutual
  broken_rises : (before : ℕ) (place : Place) (d : Derivation) → RiseWithin before (broken before place d) (own_number before d)
  broken_rises before Nowhere d = omega arith
  broken_rises before (TypeOf g t) (Node rule premises claim) =
      at_own before (nodes_of premises) (row_at (TypeOf g t) rule claim) (claims_of premises) (λ places. broken_among before places premises) (λ places. among_rises before places premises)
  broken_rises before (SetsBelow g) (Node rule premises claim) =
      at_own before (nodes_of premises) (row_at (SetsBelow g) rule claim) (claims_of premises) (λ places. broken_among before places premises) (λ places. among_rises before places premises)
  broken_rises before (ShapesBelow g) (Node rule premises claim) =
      at_own before (nodes_of premises) (row_at (ShapesBelow g) rule claim) (claims_of premises) (λ places. broken_among before places premises) (λ places. among_rises before places premises)
  broken_rises before (TypesBelow g) (Node rule premises claim) =
      at_own before (nodes_of premises) (row_at (TypesBelow g) rule claim) (claims_of premises) (λ places. broken_among before places premises) (λ places. among_rises before places premises)

  among_rises : (before : ℕ) (places : List Place) (premises : Premises) → RiseWithin before (broken_among before places premises) (before + nodes_of premises)
  among_rises before (place ∷ places) (Premise first rest) =
      let e : own_number before first + nodes_of rest ≡ before + (nodes first + nodes_of rest) = omega arith in
      let others : RiseWithin (own_number before first) (broken_among (own_number before first) places rest) (before + (nodes first + nodes_of rest)) =
      subst (λ n. RiseWithin (own_number before first) (broken_among (own_number before first) places rest) n) e (among_rises (own_number before first) places rest) in
      rise_both before (own_number before first) (before + (nodes first + nodes_of rest)) (broken before place first) _ (broken_rises before place first) others
  among_rises before (place ∷ places) NoPremise = omega arith
  among_rises before [] premises = omega arith

pub numbers_rise : BrokenNumbersRise
numbers_rise = broken_rises

-- the first of numbers that rise is the least

all_above : (low high : ℕ) (xs : List ℕ) → RiseWithin low xs high → (m : ℕ) → Contains xs m → low < m
all_above low high [] h m (k, within, is) = absurd (omega arith)
all_above low high (x ∷ xs) h m (zero, within, is) = let first : low < x = h.0 in let same : x ≡ m = is in omega arith
all_above low high (x ∷ xs) h m (suc k, within, is) =
    let first : low < x = h.0 in
    let inside : k < length xs = omega arith in
    let later : x < m = all_above x high xs h.1 m (k, inside, is) in
    omega arith

pub first_is_least : (low high number : ℕ) (numbers : List ℕ) → RiseWithin low (number ∷ numbers) high → IsLeast number (number ∷ numbers)
first_is_least low high number numbers h = (
  (zero, omega arith, refl),
  λ other there. least other there,
)
  where
    least : (other : ℕ) → Contains (number ∷ numbers) other → number ≤ other
    least other (zero, within, is) = let same : number ≡ other = is in omega arith
    least other (suc k, within, is) =
        let inside : k < length numbers = omega arith in
        let later : number < other = all_above number high numbers h.1 other (k, inside, is) in
        omega arith
