-- What is remembered of two shapes: what was gone through with nothing to be kept where it comes again.
use Rattle.std.proofs.Common.{◌≡◌, ℕ, Bool, true, false, ◌&&◌, map, List, [], ◌∷◌, ◌++◌, length}
use Rattle.std.proofs.Common.{refl, sym, ap, ◌∙◌, subst}
use Rattle.std.specs.List.{list_all}
use Rattle.std.proofs.lemmas.Bool.{and_from, and_parts}
use Rattle.cc_base.specs.declared.place.Place.{Place}
use Rattle.cc_core.specs.Contexts.{Context}
use Rattle.cc_core.specs.Shapes.{Shape}
use Rattle.cc_core.specs.TermViews.{shape_of, context_of}
use Rattle.cc_core.specs.WellFormed.{kinds_of, is_well_formed_context, is_well_formed_shape}
use Rattle.cc_core.specs.WellFormed.{IsWellFormedContext, IsWellFormedShape}
use Rattle.cc_checking.specs.Comparison.{Demand, Comparison, Unfinished, Mismatch, Matches, comparison}
use Rattle.cc_checking.specs.Inference.{demand_at}
use Rattle.cc_checking.specs.Outcomes.{Placed}
use Rattle.cc_known.specs.ComparedAgain.{told}
use Rattle.cc_known.specs.ComparedPairs.{keeps_nothing, is_compared_as, is_compared, IsKept}
use Rattle.cc_known.specs.EndsAgain.{comes_again}
use Rattle.cc_known.specs.Keeping.{keeping}
use Rattle.cc_known.specs.KeptWalks.{Keeps, StandsOn, is_told}
use Rattle.cc_known.specs.declared.marked.Compared.{Compared}
use Rattle.cc_known.proofs.ComparedAgain.{told_again}
use Rattle.cc_known.proofs.EndsAgain.{comes_again_tests, comes_needless}
use Rattle.cc_known.proofs.NeedlessLater.{all_put}
use Rattle.cc_known.proofs.RememberedPairs.{untrue, older_formed}

-- nothing is kept of demands that are needless wherever they come again
none_kept : (oldest : ℕ) (at : Place) (log : List Placed) (ds : List Demand) → list_all (comes_again oldest log) ds ≡ true
    → keeping log (map (demand_at at) ds) ≡ log
none_kept oldest at log [] h = refl
none_kept oldest at log (d ∷ ds) h =
    let both = and_parts (comes_again oldest log d) (list_all (comes_again oldest log) ds) h in
    ap (λ x. keeping x (map (demand_at at) ds)) (comes_needless oldest log at d both.0) ∙ none_kept oldest at log ds both.1

pub kept_nothing : (oldest : ℕ) (at : Place) (log : List Placed) (c : Comparison) → keeps_nothing oldest log c ≡ true
    → IsKept at c true log log
kept_nothing oldest at log Unfinished h = untrue h
kept_nothing oldest at log Mismatch h = sym h
kept_nothing oldest at log (Matches ds) h = (refl, sym (none_kept oldest at log ds h), λ e. absurd (untrue e))

-- nothing is said of what comes again
pub forgotten : (oldest : ℕ) (at : Place) (c : Comparison) (matched was is : Bool) (before after : List Placed)
    → Keeps oldest false at c matched was is before after → IsKept at c matched before after
forgotten oldest at Unfinished matched was is before after k = absurd k
forgotten oldest at Mismatch matched was is before after k = k
forgotten oldest at (Matches ds) matched was is before after k = (k.0, k.1, λ e. absurd (untrue e))

-- what was gone through with nothing to be kept where it comes again is remembered
all_told : (oldest : ℕ) (at : Place) (c : Comparison) (was is : Bool) (before after : List Placed) → is ≡ true
    → Keeps oldest false at c true was is before after → keeps_nothing oldest after c ≡ true
all_told oldest at Unfinished was is before after e k = absurd k
all_told oldest at Mismatch was is before after e k = sym k
all_told oldest at (Matches ds) was is before after e k = (k.2 e).1

pub keeps_compared : (steps : ℕ) (at : Place) (base g : Context) (l r : Shape) (was is : Bool) (before after : List Placed)
    → IsWellFormedContext g → StandsOn base g → IsWellFormedShape base l → IsWellFormedShape base r → is ≡ true
    → Keeps (length base) false at (comparison steps g l r) true was is before after → is_compared_as steps after base l r ≡ true
unfolding is_compared_as
keeps_compared steps at base g l r was is before after formed on left right e k =
    let older = older_formed on.passed base (subst IsWellFormedContext on.is formed) in
    and_from (is_well_formed_context base) _ older
    (and_from (is_well_formed_shape (kinds_of base) [] l && is_well_formed_shape (kinds_of base) [] r) _
    (and_from (is_well_formed_shape (kinds_of base) [] l) (is_well_formed_shape (kinds_of base) [] r) left right)
    (ap is_told (sym (told_again base (comes_again (length base) after) (comes_again_tests (length base) after) on.passed steps l r older left right)
    ∙ ap (λ x. told (comes_again (length base) after) (comparison steps x l r)) (sym on.is))
    ∙ all_told (length base) at (comparison steps g l r) was is before after e k))

-- what is remembered stays so where something is put behind the log
later : (oldest : ℕ) (log : List Placed) (p : Placed) (c : Comparison) → keeps_nothing oldest log c ≡ true
    → keeps_nothing oldest (log ++ p ∷ []) c ≡ true
later oldest log p Unfinished h = h
later oldest log p Mismatch h = h
later oldest log p (Matches ds) h = all_put oldest true log (p ∷ []) ds h

as_later : (steps : ℕ) (log : List Placed) (p : Placed) (g : Context) (l r : Shape) → is_compared_as steps log g l r ≡ true
    → is_compared_as steps (log ++ p ∷ []) g l r ≡ true
unfolding is_compared_as
as_later steps log p g l r h =
    let shapes = is_well_formed_shape (kinds_of g) [] l && is_well_formed_shape (kinds_of g) [] r in
    let first = and_parts (is_well_formed_context g) (shapes && keeps_nothing (length g) log (comparison steps g l r)) h in
    let second = and_parts shapes (keeps_nothing (length g) log (comparison steps g l r)) first.1 in
    and_from (is_well_formed_context g) _ first.0
    (and_from shapes _ second.0 (later (length g) log p (comparison steps g l r) second.1))

pub compared_later : (steps : ℕ) (log : List Placed) (p : Placed) (pairs : List Compared)
    → list_all (is_compared steps log) pairs ≡ true → list_all (is_compared steps (log ++ p ∷ [])) pairs ≡ true
compared_later steps log p [] h = refl
compared_later steps log p (x ∷ pairs) h =
    let both = and_parts (is_compared steps log x) (list_all (is_compared steps log) pairs) h in
    and_from (is_compared steps (log ++ p ∷ []) x) (list_all (is_compared steps (log ++ p ∷ [])) pairs)
    (as_later steps log p (context_of x.context) (shape_of x.left) (shape_of x.right) both.0)
    (compared_later steps log p pairs both.1)

-- nothing is remembered at first
pub none_compared : (steps : ℕ) (log : List Placed) (pairs : List Compared) → pairs ≡ []
    → list_all (is_compared steps log) pairs ≡ true
none_compared steps log pairs e = ap (list_all (is_compared steps log)) e
