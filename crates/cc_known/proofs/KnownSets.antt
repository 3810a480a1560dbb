-- What is settled in a context is so in each one on top of it.
use Rattle.std.proofs.Common.{◌≡◌, ℕ, Bool, true, false, cond, List, [], ◌∷◌, ◌++◌}
use Rattle.std.proofs.Common.{refl, sym, ap, ◌∙◌, subst}
use Rattle.std.proofs.lemmas.Bool.{or_right}
use Rattle.cc_base.specs.declared.place.Place.{Place}
use Rattle.cc_capture.specs.declared.var.Elem.{Elem}
use Rattle.cc_capture.specs.Sets.{Set, empty, is_subset}
use Rattle.cc_core.specs.Contexts.{Bind, TermEntry, TypeEntry, Context}
use Rattle.cc_core.specs.Reading.{read_set}
use Rattle.cc_core.specs.WellFormed.{kinds_of, IsWellFormedSet}
use Rattle.cc_core.proofs.CapturedKinds.{empty_kinded}
use Rattle.cc_core.proofs.KindFacts.{IsKindedSet-test}
use Rattle.cc_core.proofs.ReadingAndWriting.{read_set-still}
use Rattle.cc_core.proofs.Sorts.{SetSort}
use Rattle.cc_core.proofs.WellFormedness.{well_formed-bound_within}
use Rattle.cc_checking.specs.Comparison.{demanded}
use Rattle.cc_checking.specs.Outcomes.{Placed}
use Rattle.cc_checking.specs.Inference.{demand_at}
use Rattle.cc_known.specs.Keeping.{is_element_below, is_below, has_hole, is_demand_settled, with_one}
use Rattle.cc_known.specs.KeptWalks.{StandsOn, IsKnown}
use Rattle.cc_known.proofs.KeptDemands.{all_pass, listed_passes}
use Rattle.cc_known.proofs.KeptWalks.{one_settled, settled_goes}

-- contexts on top of another
pub stands_here : (base g : Context) → base ≡ g → StandsOn base g
stands_here base g e = record { passed = []; is = sym e }

pub stands_same : (base other g : Context) → other ≡ base → StandsOn base g → StandsOn other g
stands_same base other g e s = subst (λ x. StandsOn x g) (sym e) s

pub stands_deeper : (base g under : Context) (b : Bind) → under ≡ b ∷ g → StandsOn base g → StandsOn base under
stands_deeper base g under b is s = record { passed = b ∷ s.passed; is = is ∙ ap (λ x. b ∷ x) s.is }

-- an element that is below among the older entries is below
element_deeper : (b : Bind) (g : Context) (r : Set) (e : Elem) → is_element_below g r e ≡ true
    → is_element_below (b ∷ g) r e ≡ true
element_deeper (TermEntry s d) g r e h = or_right _ (is_element_below g r e) h
element_deeper (TypeEntry b) g r e h = h

settled_deeper : (b : Bind) (g : Context) (l r : Set) → is_demand_settled (demanded g l r) ≡ true
    → is_demand_settled (demanded (b ∷ g) l r) ≡ true
settled_deeper b g l r h = by_test (has_hole r) h
  where
    by_test : (t : Bool) → cond t (is_subset l r) (is_below g l r) ≡ true
        → cond t (is_subset l r) (is_below (b ∷ g) l r) ≡ true
    by_test true k = k
    by_test false k =
        all_pass (is_element_below (b ∷ g) r) l.list
        (λ e m. element_deeper b g r e (listed_passes (is_element_below g r) l.list k e m))

settled_on : (passed base : Context) (l r : Set) → is_demand_settled (demanded base l r) ≡ true
    → is_demand_settled (demanded (passed ++ base) l r) ≡ true
settled_on [] base l r h = h
settled_on (b ∷ passed) base l r h = settled_deeper b (passed ++ base) l r (settled_on passed base l r h)

-- a well-formed set stands as it is read
pub still : (n : ℕ) (g : Context) (x : Set) → IsWellFormedSet g x → read_set n x ≡ x
still n g x h = read_set-still n 0 x (well_formed-bound_within SetSort g x h)

-- two sets that are known
pub known_settled : (n : ℕ) (base g : Context) (l r : Set) → StandsOn base g → IsKnown base l r
    → is_demand_settled (demanded g (read_set n l) (read_set n r)) ≡ true
known_settled n base g l r s k =
    let p = still n base l k.lower in
    let q = still n base r k.upper in
    let here : is_demand_settled (demanded g l r) ≡ true =
    subst (λ x. is_demand_settled (demanded x l r) ≡ true) (sym s.is) (settled_on s.passed base l r k.settled) in
    (λ i. is_demand_settled (demanded g (p i) (q i))) ∙ here

pub known_goes : (at : Place) (n : ℕ) (base g : Context) (l r : Set) (log : List Placed) → StandsOn base g
    → IsKnown base l r → log ≡ with_one log (demand_at at (demanded g (read_set n l) (read_set n r)))
known_goes at n base g l r log s k =
    sym (settled_goes log (demand_at at (demanded g (read_set n l) (read_set n r))) (known_settled n base g l r s k))

pub none_known : (g : Context) → IsKnown g empty empty
none_known g = record {
  lower = IsKindedSet-test (kinds_of g) [] empty (empty_kinded (kinds_of g) []);
  upper = IsKindedSet-test (kinds_of g) [] empty (empty_kinded (kinds_of g) []);
  settled = one_settled (demanded g empty empty) refl;
}

pub known_as : (g : Context) (l r l' r' : Set) → l' ≡ l → r' ≡ r → IsKnown g l r → IsKnown g l' r'
known_as g l r l' r' p q k = subst (λ x. IsKnown g x r') (sym p) (subst (λ x. IsKnown g l x) (sym q) k)
