-- A walk that keeps what a comparison demands as it is found leaves the log with all that is kept of it.
use Rattle.std.proofs.Common.{◌≡◌, ℕ, zero, suc, ◌-◌, Bool, true, false, ◌&&◌, ◌||◌, not, cond, map, List, [], ◌∷◌}
use Rattle.std.proofs.Common.{◌++◌, length, Option, Err, refl, sym, ap, ◌∙◌, subst, arith}
use Rattle.std.specs.List.{list_all}
use Rattle.std.proofs.lemmas.Bool.{or_left, or_right, and_from, and_parts}
use Rattle.std.proofs.lemmas.List.{append_assoc, map-append, append-nil}
use Rattle.cc_base.specs.declared.code.Code.TheVariants.{E14}
use Rattle.cc_base.specs.declared.place.Place.{Place}
use Rattle.cc_capture.specs.declared.var.Var.{Var}
use Rattle.cc_capture.specs.Sets.{Set, Member, contains, is_subset}
use Rattle.cc_core.specs.Shapes.{Shape, BaseShape, AnyShape, TypeVariable, FunctionShape, TypeFunctionShape, BoxShape}
use Rattle.cc_core.specs.Shapes.{ExitShape, CapturingType}
use Rattle.cc_core.specs.Contexts.{Bind, TypeEntry, Context, entry_of}
use Rattle.cc_core.specs.Equality.{same_shape, same_type}
use Rattle.cc_core.specs.Reading.{reading, read_set, read_shape, read_type}
use Rattle.cc_core.specs.Substitution.{opened_type}
use Rattle.cc_core.specs.Traversal.{act_type}
use Rattle.cc_core.specs.WellFormed.{IsWellFormedShape, IsWellFormedType}
use Rattle.cc_core.proofs.Comparisons.{same_shape-decides, same_type-decides}
use Rattle.cc_core.proofs.ReadingAndWriting.{opened_type-read, read-still, read_type-still}
use Rattle.cc_core.proofs.Sorts.{ShapeSort, TypeSort}
use Rattle.cc_core.proofs.WellFormedness.{well_formed-bound_within}
use Rattle.cc_checking.specs.Comparison.{Demand, demanded, Comparison, Unfinished, Mismatch, Matches, and_then, is_any}
use Rattle.cc_checking.specs.Comparison.{type_comparison, bound_of, bound_compared, function_compared}
use Rattle.cc_checking.specs.Comparison.{type_function_compared, box_compared, by_form, comparison}
use Rattle.cc_checking.specs.Outcomes.{Placed}
use Rattle.cc_checking.specs.Inference.{demand_at, compared_at}
use Rattle.cc_subty.specs.Parts.{is_variable}
use Rattle.cc_known.specs.Keeping.{is_element_below, is_below, has_hole, is_demand_settled, is_settled, may_force, has_lost}
use Rattle.cc_known.specs.Keeping.{is_repeated, with_one}
use Rattle.cc_known.specs.KeptWalks.{put, Keeps, form_compared, variable_compared}
use Rattle.cc_known.specs.declared.stop.Stop.{Stop}
use Rattle.cc_known.specs.declared.stop.Stop.TheVariants as stops
use Rattle.cc_known.specs.Logs.{Logged, Stopped, Got, after, Meets}
use Rattle.cc_known.specs.EndsAgain.{comes_again}
use Rattle.cc_known.proofs.ComparedAgain.{all_both}
use Rattle.cc_known.proofs.KeptDemands.{all_pass, member_below}
use Rattle.cc_known.proofs.KeptLists.{kept_of_both}
use Rattle.cc_known.proofs.NeedlessLater.{comes_put, all_put}

-- that a set is below itself is settled
pub one_settled : (d : Demand) → d.left ≡ d.right → is_demand_settled d ≡ true
unfolding contains is_subset
one_settled d same =
    elim (has_hole d.right)
    as (λ b. cond b (is_subset d.left d.right) (is_below d.context d.left d.right) ≡ true) [
      | true ↦ all_pass (λ e. contains e d.right) d.left.list (λ e m. subst (Member e) same m)
      | false ↦
          all_pass (is_element_below d.context d.right) d.left.list
          (λ e m. member_below d.context d.right e (subst (Member e) same m))
    ]

-- what is settled is not kept
pub settled_goes : (log : List Placed) (p : Placed) → is_settled p.asked ≡ true → with_one log p ≡ log
settled_goes log p h =
    ap (λ b. cond b log (log ++ p ∷ []))
    (or_left ((has_lost log && not (may_force p.asked)) || is_settled p.asked) (is_repeated log p.asked)
    (or_right (has_lost log && not (may_force p.asked)) (is_settled p.asked) h))

-- Both are put behind the list as one after the other.
put_both : (whole : Bool) (before one other : List Placed)
    → put whole (put whole before one) other ≡ put whole before (one ++ other)
put_both true before one other = append_assoc before one other
put_both false before one other = sym (kept_of_both before one other)

put_nothing : (whole : Bool) (before : List Placed) → put whole before [] ≡ before
put_nothing true before = append-nil before
put_nothing false before = refl

is_variable-same : (n : ℕ) (v : Var) (right : Shape) → is_variable n v right ≡ same_shape (TypeVariable v) (read_shape n right)
is_variable-same n v (BaseShape other) = refl
is_variable-same n v AnyShape = refl
is_variable-same n v (TypeVariable w) = refl
is_variable-same n v (FunctionShape t c g e) = refl
is_variable-same n v (TypeFunctionShape b g e) = refl
is_variable-same n v (BoxShape t c) = refl
is_variable-same n v (ExitShape g) = refl

pub read-any : (n : ℕ) (shape : Shape) → is_any (read_shape n shape) ≡ is_any shape
read-any n (BaseShape base) = refl
read-any n AnyShape = refl
read-any n (TypeVariable v) = refl
read-any n (FunctionShape t c g e) = refl
read-any n (TypeFunctionShape b g e) = refl
read-any n (BoxShape t c) = refl
read-any n (ExitShape g) = refl

-- two sets that are one as they stand
pub one_read : (context : Context) (n : ℕ) (left right : Set) → left ≡ right
    → is_demand_settled (demanded context (read_set n left) (read_set n right)) ≡ true
one_read context n left right same = one_settled (demanded context (read_set n left) (read_set n right)) (ap (read_set n) same)

pub one_goes : (at : Place) (context : Context) (n : ℕ) (left right : Set) (log : List Placed) → left ≡ right
    → log ≡ with_one log (demand_at at (demanded context (read_set n left) (read_set n right)))
one_goes at context n left right log same =
    sym
    (settled_goes log (demand_at at (demanded context (read_set n left) (read_set n right)))
    (one_read context n left right same))

-- a refusal of the comparison
pub refused_met : (log : List Placed) (stop : Stop) (at : Place) (steps : Logged (Unit {0}))
    → stop ≡ stops.Refused (record { code = E14; place = at }) → steps ≡ Stopped E14 at
    → Meets {A = Unit {0}} {B = Unit {0}} (λ u. u) (Err stop) log steps
refused_met log stop at steps is met =
    subst (λ s. Meets {A = Unit {0}} {B = Unit {0}} (λ u. u) (Err s) log steps) (sym is) met

module _ (oldest : ℕ) where
  -- What is kept of one demand, and then of the others.
  pub types_keep : (whole : Bool) (at : Place) (d : Demand) (c : Comparison) (matched was mid is : Bool) (before between after : List Placed)
      → between ≡ put whole before (demand_at at d ∷ []) → (mid ≡ true → was ≡ true) → (mid ≡ true → comes_again oldest between d ≡ true)
      → Keeps oldest whole at c matched mid is between after → Keeps oldest whole at (and_then (Matches (d ∷ [])) c) matched was is before after
  types_keep whole at d Unfinished matched was mid is before between after e w s k = absurd k
  types_keep whole at d Mismatch matched was mid is before between after e w s k = k
  types_keep whole at d (Matches ds) matched was mid is before between after e w s k = (
    k.0,
    k.1 ∙ ap (λ l. put whole l (map (demand_at at) ds)) e
        ∙ put_both whole before (demand_at at d ∷ []) (map (demand_at at) ds),
    λ h. let rest = k.2 h in (
      w rest.0,
      and_from (comes_again oldest after d) (list_all (comes_again oldest after) ds)
          (subst (λ l. comes_again oldest l d ≡ true) (sym k.1) (comes_put oldest whole between (map (demand_at at) ds) d (s rest.0))) rest.1,
    ),
  )

  -- What is kept of two comparisons in a row.
  pub then_keep : (whole : Bool) (at : Place) (a b : Comparison) (matched was mid is : Bool) (before between after : List Placed)
      → Keeps oldest whole at a true was mid before between → Keeps oldest whole at b matched mid is between after
      → Keeps oldest whole at (and_then a b) matched was is before after
  then_keep whole at Unfinished b matched was mid is before between after k l = absurd k
  then_keep whole at Mismatch b matched was mid is before between after k l = cc
  then_keep whole at (Matches ds) Unfinished matched was mid is before between after k l = absurd l
  then_keep whole at (Matches ds) Mismatch matched was mid is before between after k l = l
  then_keep whole at (Matches ds) (Matches es) matched was mid is before between after k l = (
    l.0,
    l.1 ∙ ap (λ x. put whole x (map (demand_at at) es)) k.1
        ∙ put_both whole before (map (demand_at at) ds) (map (demand_at at) es)
        ∙ ap (put whole before) (sym (map-append (demand_at at) ds es)),
    λ h. let rest = l.2 h in let first = k.2 rest.0 in (
      first.0,
      all_both (comes_again oldest after) ds es
          ∙ and_from (list_all (comes_again oldest after) ds) (list_all (comes_again oldest after) es)
          (subst (λ x. list_all (comes_again oldest x) ds ≡ true) (sym l.1) (all_put oldest whole between (map (demand_at at) es) ds first.1)) rest.1,
    ),
  )

  pub apart_keep : (whole : Bool) (at : Place) (a : Comparison) (was is : Bool) (before after : List Placed)
      → Keeps oldest whole at a false was is before after → a ≡ Mismatch
  apart_keep whole at Unfinished was is before after k = absurd k
  apart_keep whole at Mismatch was is before after k = refl
  apart_keep whole at (Matches ds) was is before after k = absurd (untrue k.0)
    where
      untrue : false ≡ true → ⊥
      untrue e = cc

  pub nothing_keeps : (whole : Bool) (at : Place) (a : Comparison) (was is : Bool) (before after : List Placed) → a ≡ Mismatch
      → Keeps oldest whole at a false was is before after
  nothing_keeps whole at a was is before after e = subst (λ c. Keeps oldest whole at c false was is before after) (sym e) refl

  -- Two that are one demand nothing that is kept.
  abbrev pub Stays : Bool → Bool → Bool → List Placed → List Placed → Type 0
  Stays matched was is before after = (matched ≡ true) × (after ≡ before) × (is ≡ true → was ≡ true)

  pub unless_keep : (whole : Bool) (at : Place) (s : Bool) (c : Comparison) (matched was is : Bool)
      (before after : List Placed) → (whole ≡ true → s ≡ false)
      → (whole ≡ false → s ≡ true → Stays matched was is before after) → Keeps oldest whole at c matched was is before after
      → Keeps oldest whole at (cond s (Matches []) c) matched was is before after
  unless_keep true at true c matched was is before after apart one k = absurd (untrue (apart refl))
    where
      untrue : true ≡ false → ⊥
      untrue e = cc
  unless_keep false at true c matched was is before after apart one k =
      let stays = one refl refl in (stays.0, stays.1, λ h. (stays.2 h, refl))
  unless_keep true at false c matched was is before after apart one k = k
  unless_keep false at false c matched was is before after apart one k = k

  ones_matched : (at : Place) (d : Demand) (c : Comparison) (matched was is : Bool) (before after : List Placed)
      → d.left ≡ d.right → c ≡ Matches []
      → Keeps oldest false at (and_then (Matches (d ∷ [])) c) matched was is before after → Stays matched was is before after
  ones_matched at d c matched was is before after same e k =
      let l = subst (λ x. Keeps oldest false at (and_then (Matches (d ∷ [])) x) matched was is before after) e k in (
        l.0,
        l.1 ∙ settled_goes before (demand_at at d) (one_settled d same),
        λ h. (l.2 h).0,
      )

  pub types_one : (at : Place) (steps : ℕ) (context : Context) (t : CapturingType) (matched was is : Bool)
      (before after : List Placed)
      → Keeps oldest false at (type_comparison steps context t t) matched was is before after → Stays matched was is before after
  unfolding comparison
  types_one at zero context t matched was is before after k = absurd k
  types_one at (suc steps) context t matched was is before after k =
      ones_matched at (demanded context t.set t.set) _ matched was is before after refl
      (ap (λ b. cond b (Matches []) (cond (is_any t.shape) (Matches []) (by_form (comparison steps) context t.shape t.shape)))
      ((same_shape-decides t.shape t.shape).1 refl)) k

  pub types_same : (at : Place) (steps : ℕ) (context : Context) (t u : CapturingType) (matched was is : Bool)
      (before after : List Placed) → t ≡ u
      → Keeps oldest false at (type_comparison steps context t u) matched was is before after → Stays matched was is before after
  types_same at steps context t u matched was is before after e k =
      types_one at steps context u matched was is before after
      (subst (λ x. Keeps oldest false at (type_comparison steps context x u) matched was is before after) e k)

  -- functions
  pub functions_keep : (whole : Bool) (at : Place) (steps : ℕ) (context : Context) (t u t' u' : CapturingType)
      (matched was mid is : Bool) (before between after : List Placed)
      → (whole ≡ true → (same_type t t' && same_type u u') ≡ false)
      → Keeps oldest whole at (type_comparison steps context t' t) true was mid before between
      → Keeps oldest whole at (type_comparison steps (entry_of t' ∷ context) (opened_type (length context) u) (opened_type (length context) u'))
      matched mid is between after
      → Keeps oldest whole at (cond (same_type t t' && same_type u u') (Matches [])
      (function_compared (comparison steps) context t u (FunctionShape t'.shape t'.set u'.shape u'.set))) matched was is before after
  functions_keep whole at steps context t u t' u' matched was mid is before between after apart k l =
      unless_keep whole at (same_type t t' && same_type u u') _ matched was is before after apart
      (λ kept one.
      let both = and_parts (same_type t t') (same_type u u') one in
      let first = types_same at steps context t' t true was mid before between (sym ((same_type-decides t t').0 both.0))
      (subst (λ w. Keeps oldest w at (type_comparison steps context t' t) true was mid before between) kept k) in
      let rest = types_same at steps (entry_of t' ∷ context) (opened_type (length context) u) (opened_type (length context) u')
      matched mid is between after (ap (opened_type (length context)) ((same_type-decides u u').0 both.1))
      (subst (λ w. Keeps oldest w at (type_comparison steps (entry_of t' ∷ context) (opened_type (length context) u) (opened_type (length context) u'))
      matched mid is between after) kept l) in
      (rest.0, rest.1 ∙ first.1, λ h. first.2 (rest.2 h)))
      (then_keep whole at _ _ matched was mid is before between after k l)

  pub functions_apart : (whole : Bool) (at : Place) (steps : ℕ) (context : Context) (t u t' u' : CapturingType) (was is : Bool)
      (before after : List Placed) → (whole ≡ true → (same_type t t' && same_type u u') ≡ false)
      → Keeps oldest whole at (type_comparison steps context t' t) false was is before after
      → Keeps oldest whole at (cond (same_type t t' && same_type u u') (Matches [])
      (function_compared (comparison steps) context t u (FunctionShape t'.shape t'.set u'.shape u'.set))) false was is before after
  functions_apart whole at steps context t u t' u' was is before after apart k =
      unless_keep whole at (same_type t t' && same_type u u') _ false was is before after apart
      (λ kept one.
      let both = and_parts (same_type t t') (same_type u u') one in
      types_same at steps context t' t false was is before after (sym ((same_type-decides t t').0 both.0))
      (subst (λ w. Keeps oldest w at (type_comparison steps context t' t) false was is before after) kept k))
      (nothing_keeps whole at _ was is before after
      (ap (λ a. and_then a (type_comparison steps (entry_of t' ∷ context) (opened_type (length context) u) (opened_type (length context) u')))
      (apart_keep whole at (type_comparison steps context t' t) was is before after k)))

  -- type functions
  pub type_functions_keep : (whole : Bool) (at : Place) (steps : ℕ) (context : Context) (b b' : Shape) (u u' : CapturingType)
      (matched was is : Bool) (before after : List Placed) → (whole ≡ true → (same_shape b b' && same_type u u') ≡ false)
      → same_shape b b' ≡ true
      → Keeps oldest whole at (type_comparison steps (TypeEntry b ∷ context) (opened_type (length context) u) (opened_type (length context) u'))
      matched was is before after
      → Keeps oldest whole at (cond (same_shape b b' && same_type u u') (Matches [])
      (type_function_compared (comparison steps) context b u (TypeFunctionShape b' u'.shape u'.set))) matched was is before after
  type_functions_keep whole at steps context b b' u u' matched was is before after apart same k =
      let body : Comparison = type_comparison steps (TypeEntry b ∷ context) (opened_type (length context) u) (opened_type (length context) u') in
      unless_keep whole at (same_shape b b' && same_type u u') _ matched was is before after apart
      (λ kept one.
      let both = and_parts (same_shape b b') (same_type u u') one in
      types_same at steps (TypeEntry b ∷ context) (opened_type (length context) u) (opened_type (length context) u')
      matched was is before after (ap (opened_type (length context)) ((same_type-decides u u').0 both.1))
      (subst (λ w. Keeps oldest w at body matched was is before after) kept k))
      (subst (λ s. Keeps oldest whole at (cond s body Mismatch) matched was is before after) (sym same) k)

  pub type_functions_apart : (whole : Bool) (at : Place) (steps : ℕ) (context : Context) (b b' : Shape) (u u' : CapturingType)
      (was : Bool) (before : List Placed) → same_shape b b' ≡ false
      → Keeps oldest whole at (cond (same_shape b b' && same_type u u') (Matches [])
      (type_function_compared (comparison steps) context b u (TypeFunctionShape b' u'.shape u'.set))) false was was before before
  type_functions_apart whole at steps context b b' u u' was before other =
      let body : Comparison = type_comparison steps (TypeEntry b ∷ context) (opened_type (length context) u) (opened_type (length context) u') in
      subst (λ s. Keeps oldest whole at (cond (s && same_type u u') (Matches []) (cond s body Mismatch)) false was was before before)
      (sym other) refl

  -- boxes
  pub boxes_keep : (whole : Bool) (at : Place) (steps : ℕ) (context : Context) (t t' : CapturingType) (matched was is : Bool)
      (before after : List Placed) → (whole ≡ true → same_type t t' ≡ false)
      → Keeps oldest whole at (type_comparison steps context t t') matched was is before after
      → Keeps oldest whole at (cond (same_type t t') (Matches []) (box_compared (comparison steps) context t (BoxShape t'.shape t'.set)))
      matched was is before after
  boxes_keep whole at steps context t t' matched was is before after apart k =
      unless_keep whole at (same_type t t') _ matched was is before after apart
      (λ kept one. types_same at steps context t t' matched was is before after ((same_type-decides t t').0 one)
      (subst (λ w. Keeps oldest w at (type_comparison steps context t t') matched was is before after) kept k)) k

  -- the same of what is read in the context, with what stands under a binder read there
  bodies_read : (whole : Bool) (at : Place) (steps : ℕ) (g under : Context) (b : Bind) (u u' : CapturingType) (matched was is : Bool)
      (before after : List Placed) → under ≡ b ∷ g
      → Keeps oldest whole at (type_comparison steps under (read_type (length under) u) (read_type (length under) u')) matched was is before after
      → Keeps oldest whole at (type_comparison steps (b ∷ g) (opened_type (length g) (act_type (reading (length g)) 1 u))
      (opened_type (length g) (act_type (reading (length g)) 1 u'))) matched was is before after
  bodies_read whole at steps g under b u u' matched was is before after e k =
      subst (λ c. Keeps oldest whole at c matched was is before after)
      (λ i. type_comparison steps (b ∷ g) (sym (opened_type-read (length g) u) i) (sym (opened_type-read (length g) u') i))
      (subst (λ x. Keeps oldest whole at (type_comparison steps x (read_type (length x) u) (read_type (length x) u')) matched was is before after) e k)

  pub functions_kept : (whole : Bool) (at : Place) (steps : ℕ) (g under : Context) (t u t' u' : CapturingType)
      (matched was mid is : Bool) (before between after : List Placed)
      → (whole ≡ true → same_shape (read_shape (length g) (FunctionShape t.shape t.set u.shape u.set))
      (read_shape (length g) (FunctionShape t'.shape t'.set u'.shape u'.set)) ≡ false)
      → under ≡ entry_of (read_type (length g) t') ∷ g
      → Keeps oldest whole at (type_comparison steps g (read_type (length g) t') (read_type (length g) t)) true was mid before between
      → Keeps oldest whole at (type_comparison steps under (read_type (length under) u) (read_type (length under) u')) matched mid is between after
      → Keeps oldest whole at (form_compared steps g (FunctionShape t.shape t.set u.shape u.set) (FunctionShape t'.shape t'.set u'.shape u'.set))
      matched was is before after
  unfolding by_form
  functions_kept whole at steps g under t u t' u' matched was mid is before between after apart e k l =
      let n = length g in
      functions_keep whole at steps g (read_type n t) (act_type (reading n) 1 u) (read_type n t') (act_type (reading n) 1 u')
      matched was mid is before between after apart k
      (bodies_read whole at steps g under (entry_of (read_type n t')) u u' matched mid is between after e l)

  pub functions_parted : (whole : Bool) (at : Place) (steps : ℕ) (g : Context) (t u t' u' : CapturingType) (was is : Bool)
      (before after : List Placed)
      → (whole ≡ true → same_shape (read_shape (length g) (FunctionShape t.shape t.set u.shape u.set))
      (read_shape (length g) (FunctionShape t'.shape t'.set u'.shape u'.set)) ≡ false)
      → Keeps oldest whole at (type_comparison steps g (read_type (length g) t') (read_type (length g) t)) false was is before after
      → Keeps oldest whole at (form_compared steps g (FunctionShape t.shape t.set u.shape u.set) (FunctionShape t'.shape t'.set u'.shape u'.set))
      false was is before after
  unfolding by_form
  functions_parted whole at steps g t u t' u' was is before after apart k =
      let n = length g in
      functions_apart whole at steps g (read_type n t) (act_type (reading n) 1 u) (read_type n t') (act_type (reading n) 1 u')
      was is before after apart k

  pub type_functions_kept : (whole : Bool) (at : Place) (steps : ℕ) (g under : Context) (b b' : Shape) (u u' : CapturingType)
      (matched was is : Bool) (before after : List Placed)
      → (whole ≡ true → same_shape (read_shape (length g) (TypeFunctionShape b u.shape u.set))
      (read_shape (length g) (TypeFunctionShape b' u'.shape u'.set)) ≡ false)
      → under ≡ TypeEntry (read_shape (length g) b) ∷ g
      → same_shape (read_shape (length g) b) (read_shape (length g) b') ≡ true
      → Keeps oldest whole at (type_comparison steps under (read_type (length under) u) (read_type (length under) u')) matched was is before after
      → Keeps oldest whole at (form_compared steps g (TypeFunctionShape b u.shape u.set) (TypeFunctionShape b' u'.shape u'.set))
      matched was is before after
  unfolding by_form
  type_functions_kept whole at steps g under b b' u u' matched was is before after apart e same k =
      let n = length g in
      type_functions_keep whole at steps g (read_shape n b) (read_shape n b') (act_type (reading n) 1 u) (act_type (reading n) 1 u')
      matched was is before after apart same
      (bodies_read whole at steps g under (TypeEntry (read_shape n b)) u u' matched was is before after e k)

  pub type_functions_parted : (whole : Bool) (at : Place) (steps : ℕ) (g : Context) (b b' : Shape) (u u' : CapturingType) (was : Bool)
      (before : List Placed) → same_shape (read_shape (length g) b) (read_shape (length g) b') ≡ false
      → Keeps oldest whole at (form_compared steps g (TypeFunctionShape b u.shape u.set) (TypeFunctionShape b' u'.shape u'.set))
      false was was before before
  unfolding by_form
  type_functions_parted whole at steps g b b' u u' was before other =
      let n = length g in
      type_functions_apart whole at steps g (read_shape n b) (read_shape n b') (act_type (reading n) 1 u) (act_type (reading n) 1 u')
      was before other

  pub boxes_kept : (whole : Bool) (at : Place) (steps : ℕ) (g : Context) (t t' : CapturingType) (matched was is : Bool)
      (before after : List Placed)
      → (whole ≡ true → same_shape (read_shape (length g) (BoxShape t.shape t.set))
      (read_shape (length g) (BoxShape t'.shape t'.set)) ≡ false)
      → Keeps oldest whole at (type_comparison steps g (read_type (length g) t) (read_type (length g) t')) matched was is before after
      → Keeps oldest whole at (form_compared steps g (BoxShape t.shape t.set) (BoxShape t'.shape t'.set)) matched was is before after
  unfolding by_form
  boxes_kept whole at steps g t t' matched was is before after apart k =
      boxes_keep whole at steps g (read_type (length g) t) (read_type (length g) t') matched was is before after apart k

  -- shapes that match no others
  pub itself_keeps : (whole : Bool) (at : Place) (s matched was : Bool) (before : List Placed) → matched ≡ s
      → Keeps oldest whole at (cond s (Matches []) Mismatch) matched was was before before
  itself_keeps whole at true matched was before e = (e, sym (put_nothing whole before), λ h. (h, refl))
  itself_keeps whole at false matched was before e = e

  -- type variables
  pub variable_itself : (whole : Bool) (at : Place) (steps : ℕ) (context : Context) (v : Var) (right : Shape) (was : Bool)
      (before : List Placed) → is_variable (length context) v right ≡ true
      → Keeps oldest whole at (variable_compared steps context v right) true was was before before
  variable_itself whole at steps context v right was before h =
      subst (λ s. Keeps oldest whole at (cond s (Matches []) (bound_compared (comparison steps) context (bound_of context v) (read_shape (length context) right)))
      true was was before before)
      (sym (sym (is_variable-same (length context) v right) ∙ h)) (refl, sym (put_nothing whole before), λ k. (k, refl))

  pub variable_keeps : (whole : Bool) (at : Place) (steps : ℕ) (context : Context) (v : Var) (right : Shape) (found : Option Shape)
      (matched was is : Bool) (before after : List Placed) → is_variable (length context) v right ≡ false
      → bound_of context v ≡ found
      → Keeps oldest whole at (bound_compared (comparison steps) context found (read_shape (length context) right)) matched was is before after
      → Keeps oldest whole at (variable_compared steps context v right) matched was is before after
  variable_keeps whole at steps context v right found matched was is before after h there k =
      subst (λ s. Keeps oldest whole at (cond s (Matches []) (bound_compared (comparison steps) context (bound_of context v) (read_shape (length context) right)))
      matched was is before after)
      (sym (sym (is_variable-same (length context) v right) ∙ h))
      (subst (λ o. Keeps oldest whole at (bound_compared (comparison steps) context o (read_shape (length context) right)) matched was is before after)
      (sym there) k)

  -- one level more
  pub any_keeps : (whole : Bool) (at : Place) (steps : ℕ) (context : Context) (left right : Shape) (was : Bool) (before : List Placed)
      → (steps ≡ 0 → ⊥) → is_any right ≡ true
      → Keeps oldest whole at (comparison steps context (read_shape (length context) left) (read_shape (length context) right))
      true was was before before
  unfolding comparison
  any_keeps whole at zero context left right was before positive any = absurd (positive refl)
  any_keeps whole at (suc steps) context left right was before positive any =
      let n = length context in
      subst (λ b. Keeps oldest whole at (cond (same_shape (read_shape n left) (read_shape n right)) (Matches [])
      (cond b (Matches []) (by_form (comparison steps) context (read_shape n left) (read_shape n right)))) true was was before before)
      (sym (read-any n right ∙ any))
      (either (same_shape (read_shape n left) (read_shape n right)))
    where
      either : (s : Bool) → Keeps oldest whole at (cond s (Matches []) (Matches [])) true was was before before
      either true = (refl, sym (put_nothing whole before), λ h. (h, refl))
      either false = (refl, sym (put_nothing whole before), λ h. (h, refl))

  pub same_keeps : (whole : Bool) (at : Place) (steps : ℕ) (context : Context) (left right : Shape) (was : Bool)
      (before : List Placed) → (steps ≡ 0 → ⊥)
      → same_shape (read_shape (length context) left) (read_shape (length context) right) ≡ true
      → Keeps oldest whole at (comparison steps context (read_shape (length context) left) (read_shape (length context) right))
      true was was before before
  unfolding comparison
  same_keeps whole at zero context left right was before positive same = absurd (positive refl)
  same_keeps whole at (suc steps) context left right was before positive same =
      let n = length context in
      subst (λ s. Keeps oldest whole at (cond s (Matches [])
      (cond (is_any (read_shape n right)) (Matches []) (by_form (comparison steps) context (read_shape n left) (read_shape n right)))) true was was before before)
      (sym same) (refl, sym (put_nothing whole before), λ h. (h, refl))

  pub step_keeps : (whole : Bool) (at : Place) (steps : ℕ) (context : Context) (left right : Shape) (matched was is : Bool)
      (before after : List Placed) → (steps ≡ 0 → ⊥) → is_any right ≡ false
      → Keeps oldest whole at (form_compared (steps - 1) context left right) matched was is before after
      → Keeps oldest whole at (comparison steps context (read_shape (length context) left) (read_shape (length context) right))
      matched was is before after
  unfolding comparison
  step_keeps whole at zero context left right matched was is before after positive other k = absurd (positive refl)
  step_keeps whole at (suc steps) context left right matched was is before after positive other k =
      let n = length context in
      let less : suc steps - 1 ≡ steps = omega arith in
      subst (λ b. Keeps oldest whole at (cond (same_shape (read_shape n left) (read_shape n right)) (Matches [])
      (cond b (Matches []) (by_form (comparison steps) context (read_shape n left) (read_shape n right)))) matched was is before after)
      (sym (read-any n right ∙ other))
      (subst (λ m. Keeps oldest whole at (form_compared m context left right) matched was is before after) less k)

  -- what a walk comes to is what the comparison comes to
  pub matched_after : (at : Place) (c : Comparison) (was is : Bool) (log more : List Placed)
      → Keeps oldest false at c true was is log more → after log (compared_at at c) ≡ Got tt more
  matched_after at Unfinished was is log more k = absurd k
  matched_after at Mismatch was is log more k = cc
  matched_after at (Matches ds) was is log more k = ap (Got tt) (sym k.1)

  pub apart_after : (at : Place) (c : Comparison) (was is : Bool) (log more : List Placed)
      → Keeps oldest false at c false was is log more → after log (compared_at at c) ≡ Stopped E14 at
  apart_after at c was is log more k =
      ap (λ x. after log (compared_at at x)) (apart_keep false at c was is log more k)

  -- at the root nothing is read otherwise than it stands
  pub shapes_root : (whole : Bool) (at : Place) (steps : ℕ) (g : Context) (l r : Shape) (matched was is : Bool) (before after : List Placed)
      → IsWellFormedShape g l → IsWellFormedShape g r
      → Keeps oldest whole at (comparison steps g (read_shape (length g) l) (read_shape (length g) r)) matched was is before after
      → Keeps oldest whole at (comparison steps g l r) matched was is before after
  shapes_root whole at steps g l r matched was is before after hl hr k =
      let p = read-still (length g) 0 l (well_formed-bound_within ShapeSort g l hl) in
      let q = read-still (length g) 0 r (well_formed-bound_within ShapeSort g r hr) in
      subst (λ c. Keeps oldest whole at c matched was is before after) (λ i. comparison steps g (p i) (q i)) k

  pub types_root : (whole : Bool) (at : Place) (steps : ℕ) (g : Context) (l r : CapturingType) (matched was is : Bool)
      (before after : List Placed)
      → IsWellFormedType g l → IsWellFormedType g r
      → Keeps oldest whole at (type_comparison steps g (read_type (length g) l) (read_type (length g) r)) matched was is before after
      → Keeps oldest whole at (type_comparison steps g l r) matched was is before after
  types_root whole at steps g l r matched was is before after hl hr k =
      let p = read_type-still (length g) 0 l (well_formed-bound_within TypeSort g l hl) in
      let q = read_type-still (length g) 0 r (well_formed-bound_within TypeSort g r hr) in
      subst (λ c. Keeps oldest whole at c matched was is before after) (λ i. type_comparison steps g (p i) (q i)) k
