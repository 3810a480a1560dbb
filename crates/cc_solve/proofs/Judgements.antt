-- Judging what is asked, one after the other.
use Rattle.std.proofs.Common.{◌≡◌, ◌↔◌, ℕ, zero, suc, ◌+◌, ◌<◌, ◌≤◌, Bool, true, false, not, IsTrue, List, [], ◌∷◌}
use Rattle.std.proofs.Common.{◌++◌, take, length, get_or, Option, None, refl, sym, ap, ◌∙◌, subst, arith}
use Rattle.std.specs.Option.{option_map}
use denote.Bor.{Bor}
use Rattle.cc_base.specs.declared.code.Code.{Code}
use Rattle.cc_base.specs.declared.place.Place.{Place}
use Rattle.cc_capture.specs.declared.set.CapSet.{CapSet}
use Rattle.cc_capture.specs.declared.var.Elem.TheVariants.{Cap}
use Rattle.cc_capture.specs.Sets.{Set, Member, empty, contains}
use Rattle.cc_core.specs.declared.context.Bind.{Bind as DeclaredBind}
use Rattle.cc_core.specs.Contexts.{Context}
use Rattle.cc_core.specs.Subcapturing.{SubcapturesSet}
use Rattle.cc_core.specs.Substitution.{filled_set}
use Rattle.cc_core.specs.TermViews.{context_of}
use Rattle.cc_core.specs.WellFormed.{kinds_of, IsWellFormedContext, IsWellFormedSet}
use Rattle.cc_core.proofs.KindFacts.{IsKindedSet-from, IsKindedSet-test}
use Rattle.cc_core.proofs.Sorts.{SetSort}
use Rattle.cc_core.proofs.SubcapturingContexts.{IsKindedContext, IsKindedContext-from}
use Rattle.cc_typing_laws.proofs.FormedContexts.{IsKindedContext-test}
use Rattle.cc_checking.specs.Comparison.{Demand, demanded}
use Rattle.cc_checking.specs.Outcomes.{IsBelow, Placed, placed_at}
use Rattle.cc_checking.specs.Fillings.{Filling, filled_context, IsServed, AllServed, IsAskedIn, FailsFirst, code_of_failure}
use Rattle.cc_subty.specs.declared.demands.Demand.{Demand as DeclaredDemand}
use Rattle.cc_subty.specs.declared.demands.Demand.TheVariants as demands
use Rattle.cc_subty.specs.Demands.{demand_of, asked_of}
use Rattle.cc_checking_laws.proofs.ServedDemands.{fill_kept, filled_context_kinded}
use Rattle.cc_solve.specs.Solutions.{CanBeJudged, set_or_none}
use Rattle.cc_solve.proofs.CollectedDemands.{asked_first, asked_one, one_asked, take_one, take_whole}

-- nothing is behind no reference
pub none_now : (o : Option (Bor CapSet)) → o ≡ None → set_or_none (option_map (λ s. s.now) o) ≡ empty
none_now o none = ap (λ x. set_or_none (option_map (λ s. s.now) x)) none

-- one of them can be judged where all can
pub judged_one : (f : Filling) (ds : List DeclaredDemand) (i : ℕ) (d : DeclaredDemand) → CanBeJudged f (asked_of ds) → i < length ds → d ≡ get_or ds i d
    → CanBeJudged f (demand_of d ∷ [])
judged_one f ds i d (base, fit, over) below is = (
  base,
  record {
    formed = fit.formed;
    globals_alone = fit.globals_alone;
    each = λ asked a. fit.each asked (one_asked ds i d below is asked (asked_one (demand_of d) asked a));
  },
  over,
)

-- all up to one more
served_both : (f : Filling) (one : List Placed) (p : Placed) → AllServed f one → IsServed f p.asked → AllServed f (one ++ p ∷ [])
served_both f [] p all last = (last, tt)
served_both f (q ∷ one) p all last = (all.0, served_both f one p all.1 last)

pub served_next : (f : Filling) (ds : List DeclaredDemand) (i : ℕ) (d : DeclaredDemand) → i < length ds → d ≡ get_or ds i d → AllServed f (asked_of (take i ds))
    → (b : Bool) → IsTrue b ↔ IsServed f (demand_of d).asked → b ≡ true → AllServed f (asked_of (take (i + 1) ds))
served_next f ds i d below is all b decides holds =
    subst (AllServed f) (sym (take_one ds i d below is)) (served_both f (asked_of (take i ds)) (demand_of d) all (decides.0 holds))

pub served_whole : (f : Filling) (ds : List DeclaredDemand) (i : ℕ) → length ds ≤ i → AllServed f (asked_of (take i ds)) → AllServed f (asked_of ds)
served_whole f ds i past all = subst (λ l. AllServed f (asked_of l)) (take_whole ds i past) all

-- the first that fails
around_one : (ds : List DeclaredDemand) (i : ℕ) (d : DeclaredDemand) → i < length ds → d ≡ get_or ds i d
    → (after : List Placed) × (asked_of ds ≡ asked_of (take i ds) ++ demand_of d ∷ after)
around_one [] i d below is = absurd (omega arith)
around_one (x ∷ ds) zero d below is = (asked_of ds, ap (λ y. demand_of y ∷ asked_of ds) (sym is))
around_one (x ∷ ds) (suc i) d below is =
    let rest = around_one ds i d (omega arith) is in (rest.0, ap (λ l. demand_of x ∷ l) rest.1)

not_true : (b : Bool) → b ≡ false → IsTrue b → ⊥
not_true b h k = cc

pub fails_here : (f : Filling) (ds : List DeclaredDemand) (i : ℕ) (d : DeclaredDemand) → i < length ds → d ≡ get_or ds i d → AllServed f (asked_of (take i ds))
    → (b : Bool) → IsTrue b ↔ IsServed f (demand_of d).asked → b ≡ false → (code : Code) (at : Place) → code ≡ code_of_failure (demand_of d).asked
    → at ≡ (demand_of d).at → FailsFirst f (asked_of ds) code at
fails_here f ds i d below is all b decides fails code at c a =
    let around = around_one ds i d below is in
    (asked_of (take i ds), demand_of d, around.0, around.1, all, (λ served. not_true b fails (decides.1 served)), c, a)

-- one demand
module _ (f : Filling) (context : List DeclaredBind) (left right : Set) (at : Place) (judged : CanBeJudged f (demand_of (demands.Sub context left right at) ∷ [])) where
  abbrev base : Context
  base = judged.0

  abbrev one : Demand
  one = demanded (context_of context) left right

  here : IsAskedIn (demand_of (demands.Sub context left right at) ∷ []) (IsBelow one)
  here = asked_first (placed_at at (IsBelow one)) [] (IsBelow one) refl

  from_base : (g later : Context) → g ≡ later ++ base → IsWellFormedContext g → IsWellFormedContext (filled_context f g)
  from_base g later is formed =
      subst (λ h. IsWellFormedContext (filled_context f h)) (sym is)
      (IsKindedContext-test (filled_context f (later ++ base))
      (filled_context_kinded base judged.1.globals_alone f judged.2 later (subst IsKindedContext is (IsKindedContext-from g formed))))

  set_from_base : (g later : Context) (s : Set) → g ≡ later ++ base → IsWellFormedSet g s → IsWellFormedSet (filled_context f g) (filled_set f s)
  set_from_base g later s is formed =
      subst (λ h. IsWellFormedSet (filled_context f h) (filled_set f s)) (sym is)
      (IsKindedSet-test (kinds_of (filled_context f (later ++ base))) [] (filled_set f s)
      (fill_kept base judged.1.globals_alone f judged.2 later SetSort s
      (IsKindedSet-from (kinds_of (later ++ base)) [] s (subst (λ h. IsWellFormedSet h s) is formed))))

  pub judged_context : IsWellFormedContext (filled_context f (context_of context))
  judged_context =
      let own = judged.1.each (IsBelow one) here in from_base (context_of context) own.0.0 own.0.1 own.1

  pub judged_left : IsWellFormedSet (filled_context f (context_of context)) (filled_set f left)
  judged_left =
      let own = judged.1.each (IsBelow one) here in set_from_base (context_of context) own.0.0 left own.0.1 own.2

pub served_below : (f : Filling) (d : DeclaredDemand) (context : List DeclaredBind) (left right whole : Set) (at : Place) → d ≡ demands.Sub context left right at
    → whole ≡ filled_set f right → (b : Bool) → IsTrue b ↔ SubcapturesSet (filled_context f (context_of context)) (filled_set f left) whole
    → IsTrue b ↔ IsServed f (demand_of d).asked
served_below f d context left right whole at is filled b decides =
    subst (λ x. IsTrue b ↔ IsServed f (demand_of x).asked) (sym is)
    (subst (λ s. IsTrue b ↔ SubcapturesSet (filled_context f (context_of context)) (filled_set f left) s) filled decides)

no_cap : (b : Bool) (s : Set) → b ≡ contains Cap s → IsTrue (not b) ↔ (Member Cap s → ⊥)
no_cap true s is = (λ h. cc, λ none. absurd (none (sym is)))
no_cap false s is = (λ h m. apart (is ∙ m), λ none. refl)
  where
    apart : false ≡ true → ⊥
    apart h = cc

pub served_capless : (f : Filling) (d : DeclaredDemand) (set whole : Set) (at : Place) → d ≡ demands.NoCap set at → whole ≡ filled_set f set
    → (b : Bool) → b ≡ contains Cap whole → IsTrue (not b) ↔ IsServed f (demand_of d).asked
served_capless f d set whole at is filled b tested =
    subst (λ x. IsTrue (not b) ↔ IsServed f (demand_of x).asked) (sym is) (no_cap b (filled_set f set) (tested ∙ ap (contains Cap) filled))
