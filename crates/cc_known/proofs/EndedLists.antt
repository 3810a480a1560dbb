-- The ends of what is kept, and what is known of ends in the context in which a comparison began.
use Rattle.std.proofs.Common.{◌≡◌, ℕ, zero, suc, ◌<◌, ◌≤◌, Bool, true, false, not, cond, ◌||◌, ◌&&◌, List, []}
use Rattle.std.proofs.Common.{◌∷◌, ◌++◌, length, Some, None, refl, sym, ap, ◌∙◌, subst, arith}
use Rattle.std.proofs.Common.{length-append, set, get_or}
use Rattle.cc_subty.specs.declared.demands.Demand.{Demand as DeclaredDemand}
use Rattle.cc_subty.specs.Demands.{demand_of, asked_of}
use Rattle.std.specs.List.{list_all}
use Rattle.std.proofs.lemmas.Bool.{and_parts, and_from, or_right}
use Rattle.cc_base.specs.declared.place.Place.{Place}
use Rattle.cc_capture.specs.declared.var.Var.TheVariants.{Free}
use Rattle.cc_capture.specs.declared.var.Elem.TheVariants.{Var as Variable}
use Rattle.cc_capture.specs.Sets.{Set, Member, empty, contains, same_set, same_set-equivalence, union, retain, remove}
use Rattle.cc_capture.proofs.Equality.{same_set-decides}
use Rattle.cc_capture.proofs.Membership.{same_members, Member-empty, Member-retain}
use Rattle.cc_core.specs.Contexts.{Context, lookup}
use Rattle.cc_core.specs.Reading.{read_set}
use Rattle.cc_core.specs.WellFormed.{kinds_of, is_well_formed_set, is_well_formed_entry, is_well_formed_context}
use Rattle.cc_core.specs.WellFormed.{IsWellFormedContext, IsWellFormedSet}
use Rattle.cc_core.proofs.CapturedKinds.{empty_kinded}
use Rattle.cc_core.proofs.KindFacts.{IsKindedSet-test}
use Rattle.cc_core.proofs.Lookups.{lookup-within, lookup-more}
use Rattle.cc_checking.specs.Comparison.{demanded}
use Rattle.cc_checking.specs.Outcomes.{Asked, IsBelow, IsCapless, Placed}
use Rattle.cc_checking.specs.Inference.{demand_at}
use Rattle.cc_sets.proofs.SubcapturingSearch.{set_lower}
use Rattle.cc_known.specs.declared.ended.EndedDemand.{EndedDemand}
use Rattle.cc_known.specs.declared.known.KnownEnds.{KnownEnds}
use Rattle.cc_known.specs.EndedDemands.{same_ended, HasEnds, is_among, AreThose, IsEndedIn, is_known_end}
use Rattle.cc_known.specs.Keeping.{is_end, beyond, declared_of, given_way, all_given_way, ends_beyond, fillable}
use Rattle.cc_known.specs.Keeping.{is_ended_so, has_ended_so, is_repeated, is_settled, may_force, has_lost, with_one}
use Rattle.cc_known.specs.KeptWalks.{StandsOn, IsKnownAgain}
use Rattle.cc_known.proofs.DemandEnds.{beyond_both, stays}
use Rattle.cc_known.proofs.FillableSets.{Member-fillable, fillable_on}
use Rattle.cc_known.proofs.KnownSets.{still}

-- one more in a list
has_ended-append : (list more : List Placed) (ends right : Set)
    → has_ended_so (list ++ more) ends right ≡ (has_ended_so list ends right || has_ended_so more ends right)
has_ended-append [] more ends right = refl
has_ended-append (p ∷ list) more ends right =
    ap (λ b. is_ended_so ends right p.asked || b) (has_ended-append list more ends right)
    ∙ or_grouped (is_ended_so ends right p.asked) (has_ended_so list ends right) (has_ended_so more ends right)
  where
    or_grouped : (a b c : Bool) → (a || (b || c)) ≡ ((a || b) || c)
    or_grouped true b c = refl
    or_grouped false b c = refl

-- what is ended so is what has these ends
ended_as : (ended other : EndedDemand) (a : Asked) → HasEnds (Some ended) a
    → is_ended_so other.ends other.right a ≡ same_ended ended other
ended_as ended other (IsBelow d) is =
    (λ i. not (is.0 i) && (same_set other.ends (sym is.1 i) && same_set other.right (sym is.2 i)))
    ∙ (λ i. same_set-equivalence.symm other.ends ended.ends i && same_set-equivalence.symm other.right ended.right i)
ended_as ended other (IsCapless c) is = absurd is

pub those_more : (before after : List EndedDemand) (asked : List Placed) (p : Placed) (ended : EndedDemand)
    → ((other : EndedDemand) → is_among after other ≡ cond (same_ended ended other) true (is_among before other))
    → HasEnds (Some ended) p.asked → AreThose before asked → AreThose after (asked ++ p ∷ [])
those_more before after asked p ended put is old other =
    put other
    ∙ ap (cond (same_ended ended other) true) (old other)
    ∙ either (same_ended ended other) (has_ended_so asked other.ends other.right)
    ∙ ap (λ b. has_ended_so asked other.ends other.right || (b || false)) (sym (ended_as ended other p.asked is))
    ∙ sym (has_ended-append asked (p ∷ []) other.ends other.right)
  where
    either : (a b : Bool) → cond a true b ≡ (b || (a || false))
    either true true = refl
    either true false = refl
    either false true = refl
    either false false = refl

-- what has no ends to be noted changes nothing
not_ended : (ends right : Set) (a : Asked) → HasEnds None a → is_ended_so ends right a ≡ false
not_ended ends right (IsBelow d) is =
    ap
    (λ h. not h && (same_set ends (ends_beyond d.context d.right d.left) && same_set right (fillable d.context d.right)))
    is
not_ended ends right (IsCapless c) is = refl

pub those_still : (before : List EndedDemand) (asked : List Placed) (p : Placed) → HasEnds None p.asked
    → AreThose before asked → AreThose before (asked ++ p ∷ [])
those_still before asked p is old other =
    old other
    ∙ sym (or_false (has_ended_so asked other.ends other.right))
    ∙ ap (λ b. has_ended_so asked other.ends other.right || (b || false))
    (sym (not_ended other.ends other.right p.asked is))
    ∙ sym (has_ended-append asked (p ∷ []) other.ends other.right)
  where
    or_false : (b : Bool) → (b || (false || false)) ≡ b
    or_false true = refl
    or_false false = refl

pub none_those : (keys : List EndedDemand) → keys ≡ [] → AreThose keys []
none_those keys none other = ap (λ k. is_among k other) none

-- the same ends in a context with entries on top
lookup_on : (passed base : Context) (p : ℕ) → p < length base → lookup (passed ++ base) p ≡ lookup base p
lookup_on passed base p below =
    let there = lookup-within base p below in lookup-more passed base p there.0 there.1 ∙ sym there.1

given_alike : (passed base : Context) (right set : Set) (n : ℕ) → n ≤ length base
    → all_given_way (passed ++ base) right n set ≡ all_given_way base right n set
given_alike passed base right set zero within = refl
given_alike passed base right set (suc n) within =
    ap (λ e. all_given_way (passed ++ base) right n
    (cond (contains (Variable (Free n)) set) (union (remove (Variable (Free n)) set) (beyond right (declared_of e))) set))
    (lookup_on passed base n (omega (arith, within)))
    ∙ given_alike passed base right (given_way base right n set) n (omega (arith, within))

pub ends_on : (passed base : Context) (right left : Set) → IsWellFormedSet base left
    → ends_beyond (passed ++ base) right left ≡ ends_beyond base right left
ends_on passed base right left formed =
    let longer = length-append passed base in
    ap (retain is_end)
    (stays (passed ++ base) right (beyond right left) (length base) (length (passed ++ base)) (omega (arith, longer))
    (λ q from to m.
    let low = set_lower base left formed q (beyond_both right left (Variable (Free q)) m).0 in omega (arith, low, from))
    ∙ given_alike passed base right (beyond right left) (length base) (omega arith))

-- a set of the base is read as it stands
pub set_still : (n : ℕ) (base : Context) (c : Set) → IsWellFormedSet base c → read_set n c ≡ c
set_still n base c h = still n base c h

-- what is known to repeat something repeats it where it is read
pub again_repeated : (n : ℕ) (base g : Context) (l r : Set) (log : List Placed) → StandsOn base g → IsKnownAgain base log l r
    → is_repeated log (IsBelow (demanded g (read_set n l) (read_set n r))) ≡ true
again_repeated n base g l r log s k =
    let p = still n base l k.lower in
    let q = still n base r k.upper in
    let here : is_repeated log (IsBelow (demanded g l r)) ≡ true =
    subst (λ x. is_repeated log (IsBelow (demanded x l r)) ≡ true) (sym s.is)
    ((λ i. has_ended_so log (ends_on s.passed base r l k.lower i) (fillable_on s.passed base r k.upper i)) ∙ k.again) in
    (λ i. is_repeated log (IsBelow (demanded g (p i) (q i)))) ∙ here

-- a demand that is known to repeat something is not kept
pub again_goes : (at : Place) (n : ℕ) (base g : Context) (l r : Set) (log : List Placed) → StandsOn base g
    → IsKnownAgain base log l r → log ≡ with_one log (demand_at at (demanded g (read_set n l) (read_set n r)))
again_goes at n base g l r log s k =
    sym
    (repeated_goes log (demand_at at (demanded g (read_set n l) (read_set n r))) (again_repeated n base g l r log s k))
  where
    repeated_goes : (list : List Placed) (placed : Placed) → is_repeated list placed.asked ≡ true
        → with_one list placed ≡ list
    repeated_goes list placed is =
        ap (λ b. cond b list (list ++ placed ∷ []))
        (or_right ((has_lost list && not (may_force placed.asked)) || is_settled placed.asked)
        (is_repeated list placed.asked) is)

pub known_again : (base : Context) (log : List Placed) (l r : Set) (ended : EndedDemand) → IsEndedIn base l r ended
    → has_ended_so log ended.ends ended.right ≡ true → IsKnownAgain base log l r
known_again base log l r ended is again = record {
  lower = is.lower;
  upper = is.upper;
  again = (λ i. has_ended_so log (sym is.ends i) (sym is.filled i)) ∙ again;
}

-- the base of a well-formed context is well formed
pub base_formed : (base g : Context) → StandsOn base g → IsWellFormedContext g → IsWellFormedContext base
base_formed base g s formed = without s.passed (subst IsWellFormedContext s.is formed)
  where
    without : (passed : Context) → IsWellFormedContext (passed ++ base) → IsWellFormedContext base
    without [] h = h
    without (b ∷ passed) h =
        without passed
        (and_parts (is_well_formed_entry (kinds_of (passed ++ base)) b) (is_well_formed_context (passed ++ base)) h).1

-- sets without members have no ends
pub no_ends_known : (context : Context) (known : KnownEnds) → known.left ≡ empty → known.right ≡ empty
    → known.demand.ends ≡ empty → known.demand.right ≡ empty → is_known_end context known ≡ true
no_ends_known context known left right ends filled =
    (λ i. (is_well_formed_set (kinds_of context) [] (left i) && is_well_formed_set (kinds_of context) [] (right i))
    && (same_set (ends i) (ends_beyond context (right i) (left i)) && same_set (filled i) (fillable context (right i))))
    ∙ and_from (is_well_formed_set (kinds_of context) [] empty && is_well_formed_set (kinds_of context) [] empty)
    (same_set empty (ends_beyond context empty empty) && same_set empty (fillable context empty))
    (and_from (is_well_formed_set (kinds_of context) [] empty) (is_well_formed_set (kinds_of context) [] empty) formed formed)
    (and_from (same_set empty (ends_beyond context empty empty)) (same_set empty (fillable context empty))
    ((same_set-decides empty (ends_beyond context empty empty)).1 none)
    ((same_set-decides empty (fillable context empty)).1 nothing))
  where
    formed : is_well_formed_set (kinds_of context) [] empty ≡ true
    formed = IsKindedSet-test (kinds_of context) [] empty (empty_kinded (kinds_of context) [])

    no_member : (e : _) → Member e (beyond empty empty) → ⊥
    no_member e m = Member-empty e (beyond_both empty empty e m).0

    none : empty ≡ ends_beyond context empty empty
    none =
        same_members empty (ends_beyond context empty empty) (λ e m. absurd (Member-empty e m))
        (λ e m.
        let here = ((Member-retain is_end e (all_given_way context empty (length context) (beyond empty empty))).0 m).1 in
        absurd
        (no_member e
        (subst (Member e)
        (stays context empty (beyond empty empty) zero (length context) (omega arith)
        (λ q from to l. no_member (Variable (Free q)) l)) here)))

    nothing : empty ≡ fillable context empty
    nothing =
        same_members empty (fillable context empty) (λ e m. absurd (Member-empty e m))
        (λ e m. absurd (Member-empty e ((Member-fillable context e empty).0 m).1))

-- what is known of a set, as a fact
pub ended_known : (context : Context) (known : KnownEnds) (left right : Set) → known.left ≡ left
    → known.right ≡ right → is_known_end context known ≡ true → IsEndedIn context left right known.demand
ended_known context known left right same same' is =
    let k = and_parts (is_well_formed_set (kinds_of context) [] known.left
    && is_well_formed_set (kinds_of context) [] known.right)
    (same_set known.demand.ends (ends_beyond context known.right known.left)
    && same_set known.demand.right (fillable context known.right)) is in
    let both = and_parts (is_well_formed_set (kinds_of context) [] known.left)
    (is_well_formed_set (kinds_of context) [] known.right) k.0 in
    let sets = and_parts (same_set known.demand.ends (ends_beyond context known.right known.left))
    (same_set known.demand.right (fillable context known.right)) k.1 in
    record {
      lower = subst (IsWellFormedSet context) same both.0;
      upper = subst (IsWellFormedSet context) same' both.1;
      ends =
          (same_set-decides known.demand.ends (ends_beyond context known.right known.left)).0 sets.0
          ∙ (λ i. ends_beyond context (same' i) (same i));
      filled =
          (same_set-decides known.demand.right (fillable context known.right)).0 sets.1
          ∙ (λ i. fillable context (same' i));
    }

pub known_ended : (context : Context) (known : KnownEnds) (left right : Set) (demand : EndedDemand) → known.left ≡ left
    → known.right ≡ right → known.demand ≡ demand → IsEndedIn context left right demand → is_known_end context known ≡ true
known_ended context known left right demand same upper same' is =
    (λ i. (is_well_formed_set (kinds_of context) [] (same i)
    && is_well_formed_set (kinds_of context) [] (upper i))
    && (same_set (same' i).ends (ends_beyond context (upper i) (same i))
    && same_set (same' i).right (fillable context (upper i))))
    ∙ and_from (is_well_formed_set (kinds_of context) [] left && is_well_formed_set (kinds_of context) [] right)
    (same_set demand.ends (ends_beyond context right left) && same_set demand.right (fillable context right))
    (and_from (is_well_formed_set (kinds_of context) [] left) (is_well_formed_set (kinds_of context) [] right)
    is.lower is.upper)
    (and_from (same_set demand.ends (ends_beyond context right left)) (same_set demand.right (fillable context right))
    ((same_set-decides demand.ends (ends_beyond context right left)).1 is.ends)
    ((same_set-decides demand.right (fillable context right)).1 is.filled))

pub none_ended : (context : Context) (known : List KnownEnds) → known ≡ [] → list_all (is_known_end context) known ≡ true
none_ended context known none = ap (list_all (is_known_end context)) none

-- with one more
pub known-push : (context : Context) (known : List KnownEnds) (more : KnownEnds)
    → list_all (is_known_end context) known ≡ true → is_known_end context more ≡ true
    → list_all (is_known_end context) (known ++ more ∷ []) ≡ true
known-push context [] more all is = ap (λ b. b && true) is
known-push context (k ∷ known) more all is =
    let both = and_parts (is_known_end context k) (list_all (is_known_end context) known) all in
    and_from (is_known_end context k) (list_all (is_known_end context) (known ++ more ∷ [])) both.0
    (known-push context known more both.1 is)

-- one more of the program's demands
asked-push : (ds : List DeclaredDemand) (d : DeclaredDemand) → asked_of (ds ++ d ∷ []) ≡ asked_of ds ++ demand_of d ∷ []
asked-push [] d = refl
asked-push (x ∷ ds) d = ap (λ l. demand_of x ∷ l) (asked-push ds d)

pub those_added : (before middle after : List EndedDemand) (ds ds' : List DeclaredDemand) (d : DeclaredDemand)
    (ended : EndedDemand) → ((other : EndedDemand) → is_among middle other ≡ is_among before other)
    → ((other : EndedDemand) → is_among after other ≡ cond (same_ended ended other) true (is_among middle other))
    → HasEnds (Some ended) (demand_of d).asked → ds' ≡ ds ++ d ∷ [] → AreThose before (asked_of ds)
    → AreThose after (asked_of ds')
those_added before middle after ds ds' d ended same put is more old =
    subst (AreThose after) (sym (ap asked_of more ∙ asked-push ds d))
    (those_more middle after (asked_of ds) (demand_of d) ended put is (λ other. same other ∙ old other))

-- one of many that pass a test
pub passes-at : {A : Type 0} (test : A → Bool) (xs : List A) (i : ℕ) (x : A) → i < length xs → x ≡ get_or xs i x
    → list_all test xs ≡ true → test x ≡ true
passes-at test [] i x below is all = absurd (omega arith)
passes-at test (y ∷ xs) zero x below is all = ap test is ∙ (and_parts (test y) (list_all test xs) all).0
passes-at test (y ∷ xs) (suc i) x below is all = passes-at test xs i x (omega arith) is (and_parts (test y) (list_all test xs) all).1

-- and with another one at a place
pub passes-set : {A : Type 0} (test : A → Bool) (xs : List A) (i : ℕ) (x : A) → list_all test xs ≡ true → test x ≡ true
    → list_all test (set xs i x) ≡ true
passes-set test [] i x all is = refl
passes-set test (y ∷ xs) zero x all is = and_from (test x) (list_all test xs) is (and_parts (test y) (list_all test xs) all).1
passes-set test (y ∷ xs) (suc i) x all is =
    let both = and_parts (test y) (list_all test xs) all in
    and_from (test y) (list_all test (set xs i x)) both.0 (passes-set test xs i x both.1 is)
