-- What is remembered stays so where a demand is put behind the others.
use Rattle.std.proofs.Common.{◌≡◌, ℕ, true, false, None, ◌&&◌, not, List, [], ◌∷◌, ◌++◌, length, Result, Ok, Err, OnOk, refl, sym, ap, ◌∙◌, subst}
use Rattle.std.specs.Prelude.{nat_lt}
use Rattle.std.specs.List.{list_all}
use Rattle.std.proofs.lemmas.Bool.{and_from, or_left, or_right, not_from_false, lt-ltb}
use Rattle.std.proofs.lemmas.List.{map-append}
use Rattle.cc_capture.specs.declared.var.Var.TheVariants.{Bound, Free}
use Rattle.cc_capture.specs.declared.var.Elem.{Elem}
use Rattle.cc_capture.specs.declared.var.Elem.TheVariants.{Var as Variable, Cap, Hole}
use Rattle.cc_capture.specs.Rising.{is_listed}
use Rattle.cc_core.specs.ClosedEntries.{closed_entries}
use Rattle.cc_core.specs.Contexts.{Context}
use Rattle.cc_core.specs.WellFormed.{IsWellFormedSet}
use Rattle.cc_sets.proofs.SubcapturingSearch.{set_lower}
use Rattle.cc_subty.specs.Demands.{demand_of, asked_of}
use Rattle.cc_subty.specs.declared.demands.Demand.{Demand as DeclaredDemand}
use Rattle.cc_known.specs.KeptWalks.{is_remembered, is_keyed}
use Rattle.cc_known.specs.declared.keys.KeyedPair.{KeyedPair}
use Rattle.cc_known.specs.declared.pairs.Pair.{Pair}
use Rattle.cc_checking.specs.Comparison.{Demand, demanded}
use Rattle.cc_capture.specs.Sets.{Set, contains}
use Rattle.cc_core.specs.Reading.{read_set}
use Rattle.cc_known.specs.KeptWalks.{StandsOn, IsKnownAgain}
use Rattle.cc_checking.specs.Inference.{demand_at}
use Rattle.cc_checking.specs.Outcomes.{IsBelow, Placed}
use Rattle.cc_base.specs.declared.place.Place.{Place}
use Rattle.cc_capture.proofs.Equality.{same_set-decides}
use Rattle.cc_known.specs.ComparedPairs.{is_compared}
use Rattle.cc_known.specs.declared.marked.Compared.{Compared}
use Rattle.cc_known.specs.declared.ended.EndedDemand.{EndedDemand}
use Rattle.cc_known.specs.EndedDemands.{HasEnds, AreThose}
use Rattle.cc_known.specs.EndsAgain.{stays_fillable, comes_again}
use Rattle.cc_known.specs.Keeping.{is_among_oldest, has_hole, is_demand_settled, ends_beyond, fillable, is_ended_so, has_ended_so, is_repeated}
use Rattle.cc_type.specs.Comparing.{most_steps}
use Rattle.cc_known.proofs.ComparedPairs.{compared_later}
use Rattle.cc_known.proofs.EndedLists.{those_still, again_repeated, set_still}
use Rattle.cc_known.proofs.KeptDemands.{all_pass}
use Rattle.cc_known.proofs.KeyedPairs.{keyed_later}
use Rattle.cc_known.proofs.RememberedPairs.{remembered_later}

pub remembered_added : (ds ds' : List DeclaredDemand) (d : DeclaredDemand) (g : Context) (pairs : List Pair)
    → ds' ≡ ds ++ d ∷ [] → list_all (is_remembered (asked_of ds) g) pairs ≡ true
    → list_all (is_remembered (asked_of ds') g) pairs ≡ true
remembered_added ds ds' d g pairs is h =
    subst (λ l. list_all (is_remembered l g) pairs ≡ true) (sym (ap asked_of is ∙ map-append demand_of ds (d ∷ [])))
    (remembered_later (asked_of ds) (demand_of d) g pairs h)

pub keyed_added : (ds ds' : List DeclaredDemand) (d : DeclaredDemand) (g : Context) (pairs : List KeyedPair)
    → ds' ≡ ds ++ d ∷ [] → list_all (is_keyed (asked_of ds) g) pairs ≡ true
    → list_all (is_keyed (asked_of ds') g) pairs ≡ true
keyed_added ds ds' d g pairs is h =
    subst (λ l. list_all (is_keyed l g) pairs ≡ true) (sym (ap asked_of is ∙ map-append demand_of ds (d ∷ [])))
    (keyed_later (asked_of ds) (demand_of d) g pairs h)

pub compared_added : (ds ds' : List DeclaredDemand) (d : DeclaredDemand) (pairs : List Compared)
    → ds' ≡ ds ++ d ∷ [] → list_all (is_compared most_steps (asked_of ds)) pairs ≡ true
    → list_all (is_compared most_steps (asked_of ds')) pairs ≡ true
compared_added ds ds' d pairs is h =
    subst (λ l. list_all (is_compared most_steps l) pairs ≡ true) (sym (ap asked_of is ∙ map-append demand_of ds (d ∷ [])))
    (compared_later most_steps (asked_of ds) (demand_of d) pairs h)

-- one without ends leaves the ends
pub those_kept : (keys : List EndedDemand) (ds ds' : List DeclaredDemand) (d : DeclaredDemand) → ds' ≡ ds ++ d ∷ []
    → HasEnds None (demand_of d).asked → AreThose keys (asked_of ds) → AreThose keys (asked_of ds')
those_kept keys ds ds' d is none old =
    subst (AreThose keys) (sym (ap asked_of is ∙ map-append demand_of ds (d ∷ []))) (those_still keys (asked_of ds) (demand_of d) none old)

-- What is kept without a hole on its right side repeats itself.
itself_ended : (d : Demand) → has_hole d.right ≡ false
    → is_ended_so (ends_beyond d.context d.right d.left) (fillable d.context d.right) (IsBelow d) ≡ true
itself_ended d none =
    let e = ends_beyond d.context d.right d.left in
    let r = fillable d.context d.right in
    and_from (not (has_hole d.right)) _ (not_from_false (has_hole d.right) none)
    (and_from _ _ ((same_set-decides e e).1 refl) ((same_set-decides r r).1 refl))

last_ended : (log : List Placed) (at : Place) (d : Demand) → has_hole d.right ≡ false
    → has_ended_so (log ++ demand_at at d ∷ []) (ends_beyond d.context d.right d.left) (fillable d.context d.right) ≡ true
last_ended [] at d none =
    or_left (is_ended_so (ends_beyond d.context d.right d.left) (fillable d.context d.right) (IsBelow d)) false (itself_ended d none)
last_ended (p ∷ log) at d none =
    or_right (is_ended_so (ends_beyond d.context d.right d.left) (fillable d.context d.right) p.asked)
    (has_ended_so (log ++ demand_at at d ∷ []) (ends_beyond d.context d.right d.left) (fillable d.context d.right))
    (last_ended log at d none)

pub repeats : (oldest : ℕ) (log : List Placed) (d : Demand) → stays_fillable oldest d ≡ true → is_repeated log (IsBelow d) ≡ true
    → comes_again oldest log d ≡ true
repeats oldest log d stays is =
    or_right (is_demand_settled d) (stays_fillable oldest d && is_repeated log (IsBelow d))
    (and_from (stays_fillable oldest d) (is_repeated log (IsBelow d)) stays is)

pub kept_comes : (oldest : ℕ) (log log' : List Placed) (at : Place) (d : Demand) (p : Placed) → log' ≡ log ++ p ∷ []
    → p ≡ demand_at at d → stays_fillable oldest d ≡ true → has_hole d.right ≡ false → comes_again oldest log' d ≡ true
kept_comes oldest log log' at d p is at_d stays none =
    subst (λ l. comes_again oldest l d ≡ true) (sym (is ∙ ap (λ q. log ++ q ∷ []) at_d))
    (repeats oldest (log ++ demand_at at d ∷ []) d stays (last_ended log at d none))

-- a set of a base names no other variables than those of the base
names_base : (base : Context) (r : Set) → IsWellFormedSet base r → list_all (is_among_oldest (length base)) r.list ≡ true
unfolding contains
names_base base r formed = all_pass (is_among_oldest (length base)) r.list each
  where
    each : (e : Elem) → is_listed e r.list ≡ true → is_among_oldest (length base) e ≡ true
    each (Variable (Free q)) m = lt-ltb q (length base) (set_lower base r formed q m)
    each (Variable (Bound i)) m = refl
    each Cap m = refl
    each (Hole n) m = refl

-- What is known to repeat something repeats it where it is read, and so wherever it comes again.
pub again_comes : (n : ℕ) (base g : Context) (l r : Set) (log : List Placed) → StandsOn base g → IsKnownAgain base log l r
    → comes_again (length base) log (demanded g (read_set n l) (read_set n r)) ≡ true
again_comes n base g l r log s k =
    repeats (length base) log (demanded g (read_set n l) (read_set n r))
    (or_right (nat_lt (closed_entries g) (length base)) (list_all (is_among_oldest (length base)) (read_set n r).list)
    (ap (λ c. list_all (is_among_oldest (length base)) c.list) (set_still n base r k.upper) ∙ names_base base r k.upper))
    (again_repeated n base g l r log s k)

-- what holds however a call ends
pub however : {T E : Type 0} (result : Result T E) (Holds : Type 0) → Holds → OnOk result Holds
however (Ok value) Holds holds = holds
however (Err error) Holds holds = tt
