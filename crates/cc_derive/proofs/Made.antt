-- What is made of nodes and premises.
use Rattle.std.proofs.Common.{◌≡◌, ℕ, ◌+◌, ◌≤◌, ◌<◌, Bool, false, List, [], ◌∷◌, ◌++◌, map, Option, Some, None, inl, inr, refl, sym, ap, ◌∙◌, subst, arith}
use Rattle.std.specs.Prelude.{nat_lt}
use Rattle.std.specs.Option.{MatchOption}
use Rattle.std.proofs.lemmas.Bool.{cases_lt, lt-ltb}
use Rattle.cc_core.specs.Derivations.{Derivation}
use Rattle.cc_checking.specs.DerivationSizes.{nodes, nodes_of}
use Rattle.cc_derivation.specs.DerivationViews.{der_of}
use Rattle.cc_derive.specs.declared.trees.Tree.{Tree}
use Rattle.cc_derive.specs.declared.trees.Parts.{Parts}
use Rattle.cc_derive.specs.Trees.{IsCounted, IsTree, IsMade, IsParts, listed, capped}
use Rattle.cc_derive.proofs.Counts.{counted-append}
use Rattle.cc_derive.specs.declared.trees.Making.{Making}

-- Sums that stop at the greatest number are counted as far as their parts are.
sum_counted : (limit a b c n m : ℕ) → c ≡ capped (a + b) → IsCounted limit a n → IsCounted limit b m → IsCounted limit c (n + m)
sum_counted limit a b c n m is p q = record {
  within = omega (arith, is, p.within, q.within);
  exact = λ h.
      let first = p.exact (omega (arith, is, h)) in
      let second = q.exact (omega (arith, is, h)) in
      omega (arith, is, h, first, second);
}

-- one premise more
pub with_part : (build : Making) (parts : Parts) (tree : Tree) (whole : Parts) (ds : List Derivation) (d : Derivation)
    → whole.nodes ≡ capped (parts.nodes + tree.nodes)
    → MatchOption whole.ders (build.whole ≡ false) (λ v. map (λ x. der_of x.value) v.items ≡ ds ++ d ∷ [])
    → IsParts build parts ds → IsMade build tree d → IsParts build whole (ds ++ d ∷ [])
with_part build parts tree whole ds d counted built p t = record {
  counted =
      subst (IsCounted build.limit whole.nodes) (sym (counted-append ds d))
      (sum_counted build.limit parts.nodes tree.nodes whole.nodes (nodes_of (listed ds)) (nodes d) counted p.counted t.counted);
  built = built;
}

-- What is counted up to the greatest number is the number, or else the greatest.
counted_all : (c n : ℕ) → IsCounted 18446744073709551615 c n → c ≡ capped n
counted_all c n p =
    elim (cases_lt c 18446744073709551615) as (λ _. c ≡ capped n) [
      | inl below ↦ let same = p.exact (omega (arith, below)) in omega (arith, below, same)
      | inr reached ↦ omega (arith, reached, p.within)
    ]

pub made_tree : (whole : Bool) (tree : Tree) (d : Derivation) → IsMade (record { whole = whole; limit = 18446744073709551615 }) tree d
    → IsTree whole tree d
made_tree whole tree d made = record { counted = counted_all tree.nodes (nodes d) made.counted; built = made.built }

-- What is counted is more than a number below the limit exactly where there are more.
pub counted_more : (limit most c n : ℕ) → limit ≡ most + 1 → most < 4294967296 → IsCounted limit c n → nat_lt most c ≡ nat_lt most n
counted_more limit most c n is fits p =
    elim (cases_lt most c) as (λ _. nat_lt most c ≡ nat_lt most n) [
      | inl more ↦ lt-ltb most c more ∙ sym (lt-ltb most n (omega (arith, more, p.within)))
      | inr not_more ↦ let same = p.exact (omega (arith, is, fits, not_more)) in ap (nat_lt most) same
    ]
