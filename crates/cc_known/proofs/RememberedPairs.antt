-- What is remembered of a pair in the context in which a comparison began holds in each context on top of it.
use Rattle.std.proofs.Common.{◌≡◌, ℕ, zero, suc, ◌≤◌, ◌<◌, Bool, true, false, ◌&&◌, ◌||◌, not, cond, map, List, [], ◌∷◌}
use Rattle.std.proofs.Common.{◌++◌, length, length-append, Option, Some, None, inl, inr, refl, sym, ap, ◌∙◌, subst, arith}
use Rattle.std.specs.Prelude.{get_or}
use Rattle.std.specs.List.{list_all}
use Rattle.std.proofs.lemmas.Bool.{and_from, and_parts, or_cases, or_left, or_right, not_from_false}
use Rattle.cc_base.specs.declared.place.Place.{Place}
use Rattle.cc_capture.specs.declared.var.Var.{Var}
use Rattle.cc_capture.specs.declared.var.Var.TheVariants.{Bound, Free}
use Rattle.cc_core.specs.Shapes.{Shape, TypeVariable}
use Rattle.cc_core.specs.Contexts.{TypeEntry, Context}
use Rattle.cc_core.specs.Reading.{read_shape}
use Rattle.cc_core.specs.TermViews.{shape_of}
use Rattle.cc_core.specs.WellFormed.{kinds_of, is_well_formed_shape, is_well_formed_entry, is_well_formed_context}
use Rattle.cc_core.specs.WellFormed.{IsWellFormedContext, IsWellFormedShape}
use Rattle.cc_core.proofs.KindFacts.{IsKinded-from, IsKinded-test}
use Rattle.cc_core.proofs.Lookups.{lookup-more}
use Rattle.cc_core.proofs.ReadingAndWriting.{read-still}
use Rattle.cc_core.proofs.Sorts.{ShapeSort}
use Rattle.cc_core.proofs.SubcapturingContexts.{entry_of_type, IsKindedContext-from}
use Rattle.cc_core.proofs.WellFormedness.{well_formed-bound_within}
use Rattle.cc_typing_laws.proofs.ComparisonLemmas.{comparison_more}
use Rattle.cc_checking.specs.Comparison.{Demand, Comparison, Unfinished, Mismatch, Matches, bound_in, bound_of}
use Rattle.cc_checking.specs.Comparison.{bound_compared, comparison}
use Rattle.cc_checking.specs.Outcomes.{IsBelow, Placed}
use Rattle.cc_checking.specs.Inference.{demand_at}
use Rattle.cc_subty.proofs.BoundsFollowed.{entry_at}
use Rattle.cc_known.specs.ComparedAgain.{told}
use Rattle.cc_known.specs.Keeping.{has_hole, is_demand_settled, has_lost}
use Rattle.cc_known.specs.Keeping.{is_repeated, is_needless, with_one, keeping}
use Rattle.cc_known.specs.KeptWalks.{Keeps, StandsOn, goes, is_told, is_remembered_as, is_remembered}
use Rattle.cc_known.specs.declared.pairs.Pair.{Pair}
use Rattle.cc_known.specs.EndsAgain.{comes_again}
use Rattle.cc_known.proofs.ComparedAgain.{TestsAgain, has_hole-renamed, told_again}
use Rattle.cc_known.proofs.EndsAgain.{comes_again_tests, comes_needless}
use Rattle.cc_known.proofs.NeedlessLater.{comes_behind_more, settled_comes}
use Rattle.cc_known.proofs.RepeatedDemands.{repeated_has_none}

pub untrue : false ≡ true → ⊥
untrue e = cc

pub older_formed : (passed base : Context) → IsWellFormedContext (passed ++ base) → IsWellFormedContext base
older_formed [] base h = h
older_formed (b ∷ passed) base h =
    older_formed passed base (and_parts (is_well_formed_entry (kinds_of (passed ++ base)) b) (is_well_formed_context (passed ++ base)) h).1

-- the bound of a variable of the base is there
older_bound : (passed base : Context) (v : Var) (bound : Shape) → IsWellFormedShape base (TypeVariable v)
    → bound_of (passed ++ base) v ≡ Some bound → bound_of base v ≡ Some bound
older_bound passed base (Bound i) bound h there = there
older_bound passed base (Free p) bound h there =
    let own = entry_of_type base p (IsKinded-from (kinds_of base) [] (TypeVariable (Free p)) h) in
    ap bound_in own.1 ∙ sym (ap bound_in (lookup-more passed base p (TypeEntry own.0) own.1)) ∙ there

still : (g : Context) (n : ℕ) (s : Shape) → IsWellFormedShape g s → read_shape n s ≡ s
still g n s h = read-still n 0 s (well_formed-bound_within ShapeSort g s h)

-- what is settled is not kept, and where something is lost what has no hole on the right is not
pub lost_goes : (log : List Placed) (at : Place) (d : Demand) → has_lost log ≡ true → not (has_hole d.right) ≡ true
    → with_one log (demand_at at d) ≡ log
lost_goes log at d l h =
    ap (λ b. cond b log (log ++ demand_at at d ∷ []))
    (or_left ((has_lost log && not (has_hole d.right)) || is_demand_settled d) (is_repeated log (IsBelow d))
    (or_left (has_lost log && not (has_hole d.right)) (is_demand_settled d) (and_from (has_lost log) (not (has_hole d.right)) l h)))

-- Where the log has not grown, nothing had to be kept.
no_shorter : (log list : List Placed) → length log ≤ length (keeping log list)
no_shorter log [] = omega arith
no_shorter log (p ∷ list) =
    elim (is_needless log p.asked) as (λ b. length log ≤ length (keeping (cond b log (log ++ p ∷ [])) list)) [
      | true ↦ no_shorter log list
      | false ↦
          let more = no_shorter (log ++ p ∷ []) list in
          let long = length-append log (p ∷ []) in
          omega (arith, more, long)
    ]

abbrev AllNeedless : List Placed → List Placed → Type 0
AllNeedless log [] = Unit {0}
AllNeedless log (p ∷ list) = (is_needless log p.asked ≡ true) × AllNeedless log list

all_needless : (log list : List Placed) → length (keeping log list) ≡ length log → AllNeedless log list
all_needless log [] e = tt
all_needless log (p ∷ list) e =
    elim (is_needless log p.asked) as (λ b. is_needless log p.asked ≡ b → length (keeping (cond b log (log ++ p ∷ [])) list) ≡ length log
    → (is_needless log p.asked ≡ true) × AllNeedless log list) [
      | true ↦ λ is same. (is, all_needless log list same)
      | false ↦ λ is same.
          let more = no_shorter (log ++ p ∷ []) list in
          let long = length-append log (p ∷ []) in
          absurd (omega (arith, more, long, same))
    ] refl e

module _ (oldest : ℕ) where
  -- the test is the same for what comes again
  pub goes_again : (log : List Placed) (lost : Bool) → TestsAgain oldest (goes oldest log lost)
  goes_again log lost small real to back moves within stays more l r i =
      comes_again_tests oldest log small real to back moves within stays more l r i
      || (lost && not (has_hole-renamed small real to back moves r i))

  one_goes : (lost : Bool) (log : List Placed) (at : Place) (d : Demand) → (lost ≡ true → has_lost log ≡ true)
      → goes oldest log lost d ≡ true → with_one log (demand_at at d) ≡ log
  one_goes lost log at d l h =
      elim (or_cases (comes_again oldest log d) (lost && not (has_hole d.right)) h) as (λ _. with_one log (demand_at at d) ≡ log) [
        | inl needless ↦ comes_needless oldest log at d needless
        | inr both ↦
            let parts = and_parts lost (not (has_hole d.right)) both in
            lost_goes log at d (l parts.0) parts.1
      ]

  pub all_go : (lost : Bool) (log : List Placed) (at : Place) (ds : List Demand) → (lost ≡ true → has_lost log ≡ true)
      → list_all (goes oldest log lost) ds ≡ true → keeping log (map (demand_at at) ds) ≡ log
  all_go lost log at [] l h = refl
  all_go lost log at (d ∷ ds) l h =
      let both = and_parts (goes oldest log lost d) (list_all (goes oldest log lost) ds) h in
      ap (λ x. keeping x (map (demand_at at) ds)) (one_goes lost log at d l both.0) ∙ all_go lost log at ds l both.1

  needless_all : (log : List Placed) (ds : List Demand) → list_all (goes oldest log false) ds ≡ true → list_all (comes_again oldest log) ds ≡ true
  needless_all log [] h = refl
  needless_all log (d ∷ ds) h =
      let both = and_parts (goes oldest log false d) (list_all (goes oldest log false) ds) h in
      and_from (comes_again oldest log d) (list_all (comes_again oldest log) ds) (alone (comes_again oldest log d) both.0) (needless_all log ds both.1)
    where
      alone : (b : Bool) → (b || false) ≡ true → b ≡ true
      alone true e = refl
      alone false e = e

  go_all : (log : List Placed) (ds : List Demand) → list_all (comes_again oldest log) ds ≡ true → list_all (goes oldest log false) ds ≡ true
  go_all log [] h = refl
  go_all log (d ∷ ds) h =
      let both = and_parts (comes_again oldest log d) (list_all (comes_again oldest log) ds) h in
      and_from (goes oldest log false d) (list_all (goes oldest log false) ds) (or_left (comes_again oldest log d) false both.0) (go_all log ds both.1)

  pub told_keeps : (lost : Bool) (at : Place) (c : Comparison) (was is : Bool) (log : List Placed)
      → (lost ≡ true → has_lost log ≡ true) → (is ≡ true → (was ≡ true) × (lost ≡ false))
      → is_told (told (goes oldest log lost) c) ≡ true → Keeps oldest false at c true was is log log
  told_keeps lost at Unfinished was is log l w h = untrue h
  told_keeps lost at Mismatch was is log l w h = sym h
  told_keeps lost at (Matches ds) was is log l w h = (
    refl,
    sym (all_go lost log at ds l h),
    λ e. let known = w e in (known.0, needless_all log ds (subst (λ b. list_all (goes oldest log b) ds ≡ true) known.1 h)),
  )

  pub settled_told : (at : Place) (c : Comparison) (was is : Bool) (before after : List Placed) → is ≡ true
      → Keeps oldest false at c true was is before after → is_told (told (goes oldest after false) c) ≡ true
  settled_told at Unfinished was is before after e k = absurd k
  settled_told at Mismatch was is before after e k = sym k
  settled_told at (Matches ds) was is before after e k = go_all after ds (k.2 e).1

  needless_goes : (log other : List Placed) (d : Demand) → is_needless log (IsBelow d) ≡ true → goes oldest other true d ≡ true
  needless_goes log other d h =
      elim (or_cases ((has_lost log && not (has_hole d.right)) || is_demand_settled d) (is_repeated log (IsBelow d)) h) as (λ _. goes oldest other true d ≡ true) [
        | inl first ↦
            elim (or_cases (has_lost log && not (has_hole d.right)) (is_demand_settled d) first) as (λ _. goes oldest other true d ≡ true) [
              | inl lost ↦ or_right (comes_again oldest other d) (not (has_hole d.right)) (and_parts (has_lost log) (not (has_hole d.right)) lost).1
              | inr settled ↦ or_left (comes_again oldest other d) (not (has_hole d.right)) (settled_comes oldest other d settled)
            ]
        | inr again ↦ or_right (comes_again oldest other d) (not (has_hole d.right)) (not_from_false (has_hole d.right)
            (repeated_has_none log d again))
      ]

  needless_go : (at : Place) (log other : List Placed) (ds : List Demand) → AllNeedless log (map (demand_at at) ds)
      → list_all (goes oldest other true) ds ≡ true
  needless_go at log other [] h = refl
  needless_go at log other (d ∷ ds) h =
      and_from (goes oldest other true d) (list_all (goes oldest other true) ds) (needless_goes log other d h.0) (needless_go at log other ds h.1)

  pub lost_told : (at : Place) (c : Comparison) (was is : Bool) (before after : List Placed) → length after ≡ length before
      → Keeps oldest false at c true was is before after → is_told (told (goes oldest after true) c) ≡ true
  lost_told at Unfinished was is before after e k = absurd k
  lost_told at Mismatch was is before after e k = sym k
  lost_told at (Matches ds) was is before after e k =
      needless_go at before after ds (all_needless before (map (demand_at at) ds) (ap length (sym k.1) ∙ e))

  -- more steps
  pub more_keep : (at : Place) (few many : ℕ) (g : Context) (l r : Shape) (matched was is : Bool)
      (before after : List Placed) → few ≤ many
      → Keeps oldest false at (comparison few g l r) matched was is before after → Keeps oldest false at (comparison many g l r) matched was is before after
  more_keep at few many g l r matched was is before after h k =
      subst (λ c. Keeps oldest false at c matched was is before after)
      (sym (comparison_more g l r few many h (λ none. subst (λ c. Keeps oldest false at c matched was is before after) none k))) k

  -- what is said afterwards where it was first taken for so
  pub anew_keeps : (at : Place) (c : Comparison) (matched was is all : Bool) (before after : List Placed)
      → all ≡ (was && is) → Keeps oldest false at c matched true is before after → Keeps oldest false at c matched was all before after
  anew_keeps at Unfinished matched was is all before after e k = absurd k
  anew_keeps at Mismatch matched was is all before after e k = k
  anew_keeps at (Matches ds) matched was is all before after e k = (
    k.0,
    k.1,
    λ h. let both = and_parts was is (sym e ∙ h) in (both.0, (k.2 both.1).1),
  )

  -- what is told of so many steps is told of more
  told_more : (log : List Placed) (lost : Bool) (g : Context) (found : Option Shape) (right : Shape) (few many : ℕ) → few ≤ many
      → is_told (told (goes oldest log lost) (bound_compared (comparison few) g found right)) ≡ true
      → is_told (told (goes oldest log lost) (bound_compared (comparison many) g found right)) ≡ true
  told_more log lost g None right few many h k = k
  told_more log lost g (Some bound) right few many h k =
      subst (λ c. is_told (told (goes oldest log lost) c) ≡ true)
      (sym
      (comparison_more g bound right few many h
      (λ none. untrue (subst (λ c. is_told (told (goes oldest log lost) c) ≡ true) none k))))
      k

  pub remembered_more : (log : List Placed) (lost : Bool) (g : Context) (v : Var) (right : Shape) (few many : ℕ) → few ≤ many
      → is_remembered_as oldest log g lost few v right ≡ true → is_remembered_as oldest log g lost many v right ≡ true
  remembered_more log lost g v right few many h k =
      let both = and_parts (is_well_formed_shape (kinds_of g) [] (TypeVariable v) && is_well_formed_shape (kinds_of g) [] right)
      (is_told (told (goes oldest log lost) (bound_compared (comparison few) g (bound_of g v) right))) k in
      and_from (is_well_formed_shape (kinds_of g) [] (TypeVariable v) && is_well_formed_shape (kinds_of g) [] right) _ both.0
      (told_more log lost g (bound_of g v) right few many h both.1)

  -- What is remembered behind a log is so behind a longer one.
  goes_later : (log : List Placed) (p : Placed) (lost : Bool) (d : Demand) → goes oldest log lost d ≡ true → goes oldest (log ++ p ∷ []) lost d ≡ true
  goes_later log p lost d h =
      elim (or_cases (comes_again oldest log d) (lost && not (has_hole d.right)) h) as (λ _. goes oldest (log ++ p ∷ []) lost d ≡ true) [
        | inl needless ↦ or_left (comes_again oldest (log ++ p ∷ []) d) (lost && not (has_hole d.right)) (comes_behind_more oldest log p d needless)
        | inr both ↦ or_right (comes_again oldest (log ++ p ∷ []) d) (lost && not (has_hole d.right)) both
      ]

  all_later : (log : List Placed) (p : Placed) (lost : Bool) (ds : List Demand) → list_all (goes oldest log lost) ds ≡ true
      → list_all (goes oldest (log ++ p ∷ []) lost) ds ≡ true
  all_later log p lost [] h = refl
  all_later log p lost (d ∷ ds) h =
      let both = and_parts (goes oldest log lost d) (list_all (goes oldest log lost) ds) h in
      and_from (goes oldest (log ++ p ∷ []) lost d) (list_all (goes oldest (log ++ p ∷ []) lost) ds)
      (goes_later log p lost d both.0) (all_later log p lost ds both.1)

  pub told_later : (log : List Placed) (p : Placed) (lost : Bool) (c : Comparison) → is_told (told (goes oldest log lost) c) ≡ true
      → is_told (told (goes oldest (log ++ p ∷ []) lost) c) ≡ true
  told_later log p lost Unfinished h = h
  told_later log p lost Mismatch h = h
  told_later log p lost (Matches ds) h = all_later log p lost ds h

  pub remembered_as_later : (log : List Placed) (p : Placed) (g : Context) (lost : Bool) (steps : ℕ) (v : Var) (right : Shape)
      → is_remembered_as oldest log g lost steps v right ≡ true → is_remembered_as oldest (log ++ p ∷ []) g lost steps v right ≡ true
  remembered_as_later log p g lost steps v right h =
      let names = is_well_formed_shape (kinds_of g) [] (TypeVariable v) && is_well_formed_shape (kinds_of g) [] right in
      let c = bound_compared (comparison steps) g (bound_of g v) right in
      let both = and_parts names (is_told (told (goes oldest log lost) c)) h in
      and_from names (is_told (told (goes oldest (log ++ p ∷ []) lost) c)) both.0 (told_later log p lost c both.1)

-- what is told of the pair in the base is told of it here
told_alike : (log : List Placed) (lost : Bool) (base g : Context) (v : Var) (bound right : Shape) (steps : ℕ)
    → IsWellFormedContext g → StandsOn base g → bound_of g v ≡ Some bound
    → IsWellFormedShape base (TypeVariable v) → IsWellFormedShape base right
    → told (goes (length base) log lost) (comparison steps g (read_shape (length g) bound) (read_shape (length g) right))
    ≡ told (goes (length base) log lost) (bound_compared (comparison steps) base (bound_of base v) right)
told_alike log lost base g v bound right steps formed on there named shape =
    let passed = on.passed in
    let formed' = subst IsWellFormedContext on.is formed in
    let older = older_formed passed base formed' in
    let own = older_bound passed base v bound named (subst (λ x. bound_of x v ≡ Some bound) on.is there) in
    let kinded = entry_at base v bound (IsKindedContext-from base older) own in
    let below = IsKinded-test (kinds_of base) [] bound kinded in
    (λ i. told (goes (length base) log lost) (comparison steps g (still base (length g) bound below i) (still base (length g) right shape i)))
    ∙ ap (λ x. told (goes (length base) log lost) (comparison steps x bound right)) on.is
    ∙ told_again base (goes (length base) log lost) (goes_again (length base) log lost) passed steps bound right older below shape
    ∙ ap (λ o. told (goes (length base) log lost) (bound_compared (comparison steps) base o right)) (sym own)

-- A pair that is remembered need not be gone through.
pub remembered_keeps : (lost : Bool) (at : Place) (base g : Context) (v : Var) (bound right : Shape) (steps : ℕ)
    (was is : Bool) (log : List Placed)
    → IsWellFormedContext g → StandsOn base g → bound_of g v ≡ Some bound
    → (lost ≡ true → has_lost log ≡ true) → (is ≡ true → (was ≡ true) × (lost ≡ false))
    → is_remembered_as (length base) log base lost steps v right ≡ true
    → Keeps (length base) false at (comparison steps g (read_shape (length g) bound) (read_shape (length g) right)) true was is log log
remembered_keeps lost at base g v bound right steps was is log formed on there l w h =
    let both = and_parts (is_well_formed_shape (kinds_of base) [] (TypeVariable v) && is_well_formed_shape (kinds_of base) [] right)
    (is_told (told (goes (length base) log lost) (bound_compared (comparison steps) base (bound_of base v) right))) h in
    let names = and_parts (is_well_formed_shape (kinds_of base) [] (TypeVariable v)) (is_well_formed_shape (kinds_of base) [] right) both.0 in
    told_keeps (length base) lost at (comparison steps g (read_shape (length g) bound) (read_shape (length g) right)) was is log l w
    (subst (λ o. is_told o ≡ true) (sym (told_alike log lost base g v bound right steps formed on there names.0 names.1)) both.1)

-- What is told of a pair that was gone through is remembered.
remembers : (log : List Placed) (lost : Bool) (base g : Context) (v : Var) (bound right : Shape) (steps : ℕ)
    → IsWellFormedContext g → StandsOn base g → bound_of g v ≡ Some bound
    → IsWellFormedShape base (TypeVariable v) → IsWellFormedShape base right
    → is_told (told (goes (length base) log lost) (comparison steps g (read_shape (length g) bound) (read_shape (length g) right))) ≡ true
    → is_remembered_as (length base) log base lost steps v right ≡ true
remembers log lost base g v bound right steps formed on there named shape h =
    and_from (is_well_formed_shape (kinds_of base) [] (TypeVariable v) && is_well_formed_shape (kinds_of base) [] right) _
    (and_from (is_well_formed_shape (kinds_of base) [] (TypeVariable v)) (is_well_formed_shape (kinds_of base) [] right) named shape)
    (subst (λ o. is_told o ≡ true) (told_alike log lost base g v bound right steps formed on there named shape) h)

pub remembers_settled : (at : Place) (base g : Context) (v : Var) (bound right : Shape) (steps : ℕ) (was is : Bool)
    (before after : List Placed)
    → IsWellFormedContext g → StandsOn base g → bound_of g v ≡ Some bound
    → IsWellFormedShape base (TypeVariable v) → IsWellFormedShape base right → is ≡ true
    → Keeps (length base) false at (comparison steps g (read_shape (length g) bound) (read_shape (length g) right)) true was is before after
    → is_remembered_as (length base) after base false steps v right ≡ true
remembers_settled at base g v bound right steps was is before after formed on there named shape e k =
    remembers after false base g v bound right steps formed on there named shape
    (settled_told (length base) at (comparison steps g (read_shape (length g) bound) (read_shape (length g) right)) was is before after e k)

pub remembers_lost : (at : Place) (base g : Context) (v : Var) (bound right : Shape) (steps : ℕ) (was is : Bool)
    (before after : List Placed)
    → IsWellFormedContext g → StandsOn base g → bound_of g v ≡ Some bound
    → IsWellFormedShape base (TypeVariable v) → IsWellFormedShape base right → length after ≡ length before
    → Keeps (length base) false at (comparison steps g (read_shape (length g) bound) (read_shape (length g) right)) true was is before after
    → is_remembered_as (length base) after base true steps v right ≡ true
remembers_lost at base g v bound right steps was is before after formed on there named shape e k =
    remembers after true base g v bound right steps formed on there named shape
    (lost_told (length base) at (comparison steps g (read_shape (length g) bound) (read_shape (length g) right)) was is before after e k)

-- a pair that is remembered is so as another one that it is, in more steps
remembered_here : (log : List Placed) (g : Context) (pair : Pair) (v : Var) (right : Shape) (steps : ℕ) (lost : Bool)
    → pair.variable ≡ v → shape_of pair.right ≡ right → pair.steps ≤ steps → pair.lost ≡ lost
    → is_remembered log g pair ≡ true → is_remembered_as (length g) log g lost steps v right ≡ true
remembered_here log g pair v right steps lost a b h l k =
    remembered_more (length g) log lost g v right pair.steps steps h
    (subst (λ x. x ≡ true) (λ i. is_remembered_as (length g) log g (l i) pair.steps (a i) (b i)) k)

-- one of the pairs that are remembered
pub among_here : (log : List Placed) (g : Context) (pairs : List Pair) (i : ℕ) (pair : Pair) (v : Var) (right : Shape) (steps : ℕ)
    (lost : Bool) → i < length pairs → pair ≡ get_or pairs i pair
    → pair.variable ≡ v → shape_of pair.right ≡ right → pair.steps ≤ steps → pair.lost ≡ lost
    → list_all (is_remembered log g) pairs ≡ true → is_remembered_as (length g) log g lost steps v right ≡ true
among_here log g [] i pair v right steps lost below is a b h l k = absurd (omega arith)
among_here log g (x ∷ pairs) zero pair v right steps lost below is a b h l k =
    remembered_here log g pair v right steps lost a b h l
    (ap (is_remembered log g) is ∙ (and_parts (is_remembered log g x) (list_all (is_remembered log g) pairs) k).0)
among_here log g (x ∷ pairs) (suc i) pair v right steps lost below is a b h l k =
    among_here log g pairs i pair v right steps lost (omega arith) is a b h l
    (and_parts (is_remembered log g x) (list_all (is_remembered log g) pairs) k).1

-- nothing is remembered at first
pub none_remembered : (log : List Placed) (g : Context) (pairs : List Pair) → pairs ≡ [] → list_all (is_remembered log g) pairs ≡ true
none_remembered log g pairs e = ap (list_all (is_remembered log g)) e

pub remembered_later : (log : List Placed) (p : Placed) (g : Context) (pairs : List Pair) → list_all (is_remembered log g) pairs ≡ true
    → list_all (is_remembered (log ++ p ∷ []) g) pairs ≡ true
remembered_later log p g [] h = refl
remembered_later log p g (x ∷ pairs) h =
    let both = and_parts (is_remembered log g x) (list_all (is_remembered log g) pairs) h in
    and_from (is_remembered (log ++ p ∷ []) g x) (list_all (is_remembered (log ++ p ∷ []) g) pairs)
    (remembered_as_later (length g) log p g x.lost x.steps x.variable (shape_of x.right) both.0) (remembered_later log p g pairs both.1)
