-- The oldest entries of a context, and what is settled among them.
use Rattle.std.proofs.Common.{◌≡◌, ℕ, ◌+◌, true, false, [], ◌∷◌, ◌++◌, length, length-append, Option, Some, None}
use Rattle.std.proofs.Common.{refl, sym, ap, ◌∙◌, subst, arith}
use Rattle.std.specs.Option.{unwrap_or, is_some}
use Rattle.std.proofs.lemmas.List.{append-nil}
use Rattle.cc_capture.specs.Sets.{Set}
use Rattle.cc_core.specs.Contexts.{Bind, Context, lookup}
use Rattle.cc_core.specs.Substitution.{renamed_set}
use Rattle.cc_core.specs.WellFormed.{IsWellFormedContext, IsWellFormedSet}
use Rattle.cc_core.proofs.Lookups.{lookup-newest, lookup-other, lookup-below}
use Rattle.cc_core.proofs.Sorts.{SetSort}
use Rattle.cc_core.proofs.SubcapturingContexts.{IsKindedContext-from}
use Rattle.cc_core.proofs.WellFormedness.{well_formed-positions_below}
use Rattle.cc_checking.specs.Comparison.{demanded}
use Rattle.cc_known.specs.Keeping.{is_demand_settled}
use Rattle.cc_known.specs.KeptWalks.{StandsOn, IsKnown}
use Rattle.cc_known.proofs.ComparedAgain.{renamed_same, embeds_deeper, settled_embedded}
use Rattle.cc_known.proofs.RememberedPairs.{older_formed}

-- the entry at the length of the oldest ones is the next one
next_stands : (passed base : Context) (b : Bind) → lookup (passed ++ base) (length base) ≡ Some b
    → StandsOn (b ∷ base) (passed ++ base)
next_stands [] base b e = let low = lookup-below base (length base) b e in absurd (omega (arith, low))
next_stands (x ∷ []) base b e = record { passed = []; is = ap (λ y. y ∷ base) (some_same (sym (lookup-newest x base) ∙ e)) }
  where
    some_same : Some x ≡ Some b → x ≡ b
    some_same q = cc
next_stands (x ∷ y ∷ passed) base b e =
    let long = length-append passed base in
    let rest = next_stands (y ∷ passed) base b (sym (lookup-other x (y ∷ passed ++ base) (length base) (λ same. omega (arith, same, long))) ∙ e) in
    record { passed = x ∷ rest.passed; is = ap (λ l. x ∷ l) rest.is }

pub stands_longer : (base more g : Context) (p : ℕ) (b : Bind) → StandsOn base g → length base ≡ p → lookup g p ≡ Some b
    → more ≡ b ∷ base → StandsOn more g
stands_longer base more g p b on long there is =
    subst (λ x. StandsOn x g) (sym is)
    (subst (λ x. StandsOn (b ∷ base) x) (sym on.is)
    (next_stands on.passed base b ((λ i. lookup (sym on.is i) (long i)) ∙ there)))

pub length_longer : (base more : Context) (p : ℕ) (b : Bind) → length base ≡ p → more ≡ b ∷ base → length more ≡ p + 1
length_longer base more p b long is = let same = ap length is in omega (arith, same, long)

pub stands_empty : (g : Context) → StandsOn [] g
stands_empty g = record { passed = g; is = sym (append-nil g) }

-- what is settled of two sets of the oldest entries is settled among these
pub learned : (base here : Context) (lr rr : Option Set) (l r : Set) → IsWellFormedContext here → StandsOn base here
    → is_some lr ≡ false → is_some rr ≡ false → IsWellFormedSet base l → IsWellFormedSet base r
    → is_demand_settled (demanded here (unwrap_or lr l) (unwrap_or rr r)) ≡ true → IsKnown base l r
learned base here (Some x) rr l r formed on p q low up settled = cc
learned base here None (Some x) l r formed on p q low up settled = cc
learned base here None None l r formed on p q low up settled =
    let larger = subst IsWellFormedContext on.is formed in
    let older = older_formed on.passed base larger in
    let still : (s : Set) → IsWellFormedSet base s → renamed_set (λ p. p) s ≡ s =
    λ s h. renamed_same SetSort (length base) (λ p. p) (λ p l. refl) s (well_formed-positions_below SetSort base s h) in
    record {
      lower = low;
      upper = up;
      settled =
          sym (settled_embedded base (on.passed ++ base) (λ p. p) l r older larger (embeds_deeper on.passed base (IsKindedContext-from base older)) low up)
          ∙ (λ i. is_demand_settled (demanded (on.passed ++ base) (still l low i) (still r up i)))
          ∙ subst (λ x. is_demand_settled (demanded x l r) ≡ true) on.is settled;
    }
