use Rattle.std.proofs.Common.{◌≡◌, ◌-◌, length, true, false, Some, refl, sym, ap, ◌∙◌, subst, arith}
use Rattle.std.proofs.lemmas.Bool.{and_parts}
use Rattle.std.specs.Prelude.{IfSome}
use Rattle.std.proofs.lemmas.List.{length-map}
use Rattle.std.proofs.lemmas.Result.{IfOk-weaker}
use Rattle.cc_core.specs.Equality.{same_shape}
use Rattle.cc_core.specs.Contexts.{TypeEntry, entry_of}
use Rattle.cc_core.specs.Reading.{read_set, read_shape}
use Rattle.cc_core.specs.TermViews.{shape_of, type_of, context_of}
use Rattle.cc_checking.specs.Comparison.{demanded, comparison, type_comparison}
use Rattle.cc_checking.specs.Inference.{shape_in, type_in}
use Rattle.cc_subty.specs.Demands.{demand_of, asked_of}
use Rattle.cc_subty.specs.Parts.{is_variable}
use Rattle.cc_known.specs.Keeping.{has_lost}
use Rattle.cc_known.specs.KeptWalks.{Keeps, StandsOn, is_matched, is_remembered_as}
use Rattle.cc_type.specs.WholeLogs.{listed}
use Rattle.cc_known.proofs.KeptWalks.{types_keep, step_keeps, any_keeps, same_keeps, functions_kept, functions_parted, boxes_kept, variable_keeps}
use Rattle.cc_known.proofs.KeptWalks.{type_functions_kept, type_functions_parted}
use Rattle.cc_known.proofs.KeyedPairs.{matched_keeps, settled_matched, lost_matched}
use Rattle.cc_known.proofs.KnownSets.{stands_same, stands_deeper}
use Rattle.cc_known.proofs.RememberedPairs.{remembered_keeps, remembers_settled, remembers_lost, more_keep}
use Rattle.cc_known.proofs.WalkedParts.{under_takes, gives_part, under_bound, result_part, bound_part, bound_read}
use Rattle.cc_type.proofs.walking.+walk.Goals as goal

pub keep_bound-keep_shapes-requires : goal.keep_bound-keep_shapes-requires
keep_bound-keep_shapes-requires t c =
    let g = context_of c.args.ctx.now in (
      omega arith,
      (
        c.requires.context,
        (
          bound_part g c.args.variable (shape_of c.args.bound.now) c.requires.context c.requires.there,
          (c.requires.right, c.requires.base),
        ),
      ),
    )

pub keep_bound-returns-then-matches-clause-kept : goal.keep_bound-returns-then-matches-clause-kept
keep_bound-returns-then-matches-clause-kept t c =
    let log = c.args.log.now in
    remembered_keeps false c.args.at (context_of log.known.base) (context_of c.args.ctx.now) c.args.variable
    (shape_of c.args.bound.now) (shape_of c.args.right.now) c.args.steps log.settled log.settled (asked_of log.demands)
    c.requires.context c.requires.base c.requires.there (λ e. cc) (λ e. (e, refl))
    (c.matches.ensures c.if-matches.true (asked_of log.demands) log.remembered)

pub keep_bound-returns-then-matches-2-clause-kept : goal.keep_bound-returns-then-matches-2-clause-kept
keep_bound-returns-then-matches-2-clause-kept t c =
    let log = c.args.log.now in
    remembered_keeps true c.args.at (context_of log.known.base) (context_of c.args.ctx.now) c.args.variable
    (shape_of c.args.bound.now) (shape_of c.args.right.now) c.args.steps log.settled false (asked_of log.demands)
    c.requires.context c.requires.base c.requires.there (λ e. sym c.is_lost.ensures ∙ c.if-is_lost.true) (λ e. cc)
    (c.matches-then-is_lost.ensures c.if-matches-2.true (asked_of log.demands) log.remembered)

pub keep_bound-returns-clause-kept : goal.keep_bound-returns-clause-kept
keep_bound-returns-clause-kept t c =
    let oldest = length (context_of c.args.log.now.known.base) in
    let g = context_of c.args.ctx.now in
    let log = c.args.log.now in
    let after = c.keep_new.new.log in
    IfOk-weaker c.keep_new.result _ _
    (λ m k.
    more_keep oldest c.args.at (c.args.steps - 262144) c.args.steps g (shape_in g (shape_of c.args.bound.now))
    (shape_in g (shape_of c.args.right.now)) m log.settled after.settled (asked_of log.demands) (asked_of after.demands)
    (omega arith) k)
    c.keep_new.ensures.kept

pub keep_boxes-returns-clause-kept : goal.keep_boxes-returns-clause-kept
keep_boxes-returns-clause-kept t c =
    let oldest = length (context_of c.args.log.now.known.base) in
    let log = c.args.log.now in
    let after = c.keep_types.new.log in
    IfOk-weaker c.keep_types.result _ _
    (λ m k.
    boxes_kept oldest c.args.whole c.args.at c.args.steps (context_of c.args.ctx.now) (type_of c.args.content.now) (type_of c.args.other.now) m
    log.settled after.settled (listed c.args.whole log) (listed c.args.whole after) c.requires.apart k)
    c.keep_types.ensures.kept

pub keep_functions-returns-then-not-branch-clause-kept : goal.keep_functions-returns-then-not-branch-clause-kept
keep_functions-returns-then-not-branch-clause-kept t c =
    let oldest = length (context_of c.args.log.now.known.base) in
    let g = context_of c.args.ctx.now in
    let log = c.args.log.now in
    let after = c.keep_types.new.log in
    let takes = type_of c.args.takes.now in
    let others = type_of c.args.others.now in
    functions_parted oldest c.args.whole c.args.at c.args.steps g takes (type_of c.args.gives.now) others (type_of c.args.other_gives.now)
    log.settled after.settled (listed c.args.whole log) (listed c.args.whole after) c.requires.apart
    (subst (λ m. Keeps oldest c.args.whole c.args.at (type_comparison c.args.steps g (type_in g others) (type_in g takes)) m log.settled
    after.settled (listed c.args.whole log) (listed c.args.whole after)) c.if-not-branch.true c.in_ok-keep_types.ensures.kept)

pub keep_functions-keep_types-requires-2 : goal.keep_functions-keep_types-requires-2
keep_functions-keep_types-requires-2 t c =
    let g = context_of c.args.ctx.now in
    let under = context_of c.in_ok-under.under in
    let others = type_of c.args.others.now in
    let other_gives = type_of c.args.other_gives.now in
    let base = context_of c.keep_types.new.log.known.base in
    let is = c.in_ok-under.ensures in (
      omega arith,
      (
        under_takes g under others other_gives c.requires.context c.requires.right is,
        (
          gives_part g under others (type_of c.args.takes.now) (type_of c.args.gives.now) c.requires.left is,
          (
            gives_part g under others others other_gives c.requires.right is,
            stands_deeper base g under (entry_of (type_in g others)) is
                (stands_same (context_of c.args.log.now.known.base) base g
                (ap context_of c.keep_types.ensures.base) c.requires.base),
          ),
        ),
      ),
    )

pub keep_functions-returns-clause-kept : goal.keep_functions-returns-clause-kept
keep_functions-returns-clause-kept t c =
    let oldest = length (context_of c.args.log.now.known.base) in
    let g = context_of c.args.ctx.now in
    let under = context_of c.in_ok-under.under in
    let log = c.args.log.now in
    let mid = c.keep_types.new.log in
    let after = c.keep_types-2.new.log in
    let takes = type_of c.args.takes.now in
    let others = type_of c.args.others.now in
    let first =
    subst (λ m. Keeps oldest c.args.whole c.args.at (type_comparison c.args.steps g (type_in g others) (type_in g takes)) m log.settled
    mid.settled (listed c.args.whole log) (listed c.args.whole mid)) c.if-not-branch.false c.in_ok-keep_types.ensures.kept in
    IfOk-weaker c.keep_types-2.result _ _
    (λ m k.
    functions_kept oldest c.args.whole c.args.at c.args.steps g under takes (type_of c.args.gives.now) others (type_of c.args.other_gives.now) m
    log.settled mid.settled after.settled (listed c.args.whole log) (listed c.args.whole mid) (listed c.args.whole after)
    c.requires.apart c.in_ok-under.ensures first
    (subst (λ b. Keeps (length (context_of b)) c.args.whole c.args.at
    (type_comparison c.args.steps under (type_in under (type_of c.args.gives.now)) (type_in under (type_of c.args.other_gives.now))) m
    mid.settled after.settled (listed c.args.whole mid) (listed c.args.whole after)) c.keep_types.ensures.base k))
    c.keep_types-2.ensures.kept

pub keep_keyed-keep_shapes-requires : goal.keep_keyed-keep_shapes-requires
keep_keyed-keep_shapes-requires t c =
    let g = context_of c.args.ctx.now in (
      omega arith,
      (
        c.requires.context,
        (
          bound_part g c.args.variable (shape_of c.args.bound.now) c.requires.context c.requires.there,
          (c.requires.right, c.requires.base),
        ),
      ),
    )

pub keep_keyed-remember_keyed-requires : goal.keep_keyed-remember_keyed-requires
keep_keyed-remember_keyed-requires t c =
    let oldest = length (context_of c.args.log.now.known.base) in
    let g = context_of c.args.ctx.now in
    let log = c.args.log.now in
    let after = c.keep_shapes.new.log in
    let bound = shape_of c.args.bound.now in
    let right = shape_of c.args.right.now in
    let kept =
    subst (λ m. Keeps oldest false c.args.at (comparison c.args.steps g (shape_in g bound) (shape_in g right)) m true after.settled
    (asked_of log.demands) (asked_of after.demands)) c.if-not-matched.false c.in_ok-matched.ensures.kept in
    record {
      context = c.requires.context;
      base = subst (λ b. StandsOn (context_of b) g) (sym c.keep_shapes.ensures.base) c.requires.base;
      matched =
          subst (λ b. is_matched (length (context_of b)) (asked_of after.demands) g false c.args.steps c.args.variable
          (shape_of c.args.read.now.value) ≡ true) (sym c.keep_shapes.ensures.base)
          (settled_matched oldest c.args.at g c.args.variable bound right (shape_of c.args.read.now.value) c.args.steps true
          after.settled (asked_of log.demands) (asked_of after.demands) c.requires.context c.requires.there
          c.requires.read c.if-all.true kept);
    }

pub keep_keyed-remember_keyed-requires-then-len-count : goal.keep_keyed-remember_keyed-requires-then-len-count
keep_keyed-remember_keyed-requires-then-len-count t c =
    let oldest = length (context_of c.args.log.now.known.base) in
    let g = context_of c.args.ctx.now in
    let log = c.args.log.now in
    let after = c.keep_shapes.new.log in
    let bound = shape_of c.args.bound.now in
    let right = shape_of c.args.right.now in
    let kept =
    subst (λ m. Keeps oldest false c.args.at (comparison c.args.steps g (shape_in g bound) (shape_in g right)) m true after.settled
    (asked_of log.demands) (asked_of after.demands)) c.if-not-matched.false c.in_ok-matched.ensures.kept in
    let same : length (asked_of after.demands) ≡ length (asked_of log.demands) =
    length-map after.demands demand_of ∙ sym c.len.ensures ∙ c.if-len-count.true ∙ c.len-count.ensures
    ∙ sym (length-map log.demands demand_of) in
    record {
      context = c.requires.context;
      base = subst (λ b. StandsOn (context_of b) g) (sym c.keep_shapes.ensures.base) c.requires.base;
      matched =
          subst (λ b. is_matched (length (context_of b)) (asked_of after.demands) g true c.args.steps c.args.variable
          (shape_of c.args.read.now.value) ≡ true) (sym c.keep_shapes.ensures.base)
          (lost_matched oldest c.args.at g c.args.variable bound right (shape_of c.args.read.now.value) c.args.steps true
          after.settled (asked_of log.demands) (asked_of after.demands) c.requires.context c.requires.there
          c.requires.read same kept);
    }

pub keep_own-returns-then-lost-clause-kept : goal.keep_own-returns-then-lost-clause-kept
keep_own-returns-then-lost-clause-kept t c =
    let oldest = length (context_of c.args.log.now.known.base) in
    let log = c.args.log.now in
    let g = context_of c.args.ctx.now in
    let read = shape_of c.in_ok-read.read.value in
    matched_keeps oldest c.in-Some.lost c.args.at g c.args.variable (shape_of c.args.bound.now) (shape_of c.args.right.now) read
    c.args.steps log.settled false (asked_of log.demands) c.requires.context c.requires.there
    (c.in_ok-read.ensures ∙ ap (λ n. read_shape n (shape_of c.args.right.now)) c.entries.ensures)
    (subst (λ o. IfSome o (λ lost. lost ≡ true → has_lost (asked_of log.demands) ≡ true)) c.in-Some.is
    c.in_ok-lost.ensures.lost) (λ e. cc)
    (subst (λ o. IfSome o (λ lost. is_matched oldest (asked_of log.demands) g lost c.args.steps c.args.variable read ≡ true)) c.in-Some.is
    c.in_ok-lost.ensures.matched)

pub keep_own-returns-in-Some-clause-kept : goal.keep_own-returns-in-Some-clause-kept
keep_own-returns-in-Some-clause-kept t c =
    let oldest = length (context_of c.args.log.now.known.base) in
    let log = c.args.log.now in
    let g = context_of c.args.ctx.now in
    let read = shape_of c.in_ok-read.read.value in
    matched_keeps oldest c.in-Some.lost c.args.at g c.args.variable (shape_of c.args.bound.now) (shape_of c.args.right.now) read
    c.args.steps log.settled log.settled (asked_of log.demands) c.requires.context c.requires.there
    (c.in_ok-read.ensures ∙ ap (λ n. read_shape n (shape_of c.args.right.now)) c.entries.ensures)
    (subst (λ o. IfSome o (λ lost. lost ≡ true → has_lost (asked_of log.demands) ≡ true)) c.in-Some.is
    c.in_ok-lost.ensures.lost) (λ e. (e, c.if-lost.false))
    (subst (λ o. IfSome o (λ lost. is_matched oldest (asked_of log.demands) g lost c.args.steps c.args.variable read ≡ true)) c.in-Some.is
    c.in_ok-lost.ensures.matched)

pub keep_own-returns-clause-kept : goal.keep_own-returns-clause-kept
keep_own-returns-clause-kept t c =
    let oldest = length (context_of c.args.log.now.known.base) in
    let g = context_of c.args.ctx.now in
    let log = c.args.log.now in
    let after = c.keep_keyed.new.log in
    IfOk-weaker c.keep_keyed.result _ _
    (λ m k.
    more_keep oldest c.args.at (c.args.steps - 262144) c.args.steps g (shape_in g (shape_of c.args.bound.now))
    (shape_in g (shape_of c.args.right.now)) m log.settled after.settled (asked_of log.demands) (asked_of after.demands)
    (omega arith) k)
    c.keep_keyed.ensures.kept

pub keep_new-keep_shapes-requires : goal.keep_new-keep_shapes-requires
keep_new-keep_shapes-requires t c =
    let g = context_of c.args.ctx.now in (
      omega arith,
      (
        c.requires.context,
        (
          bound_part g c.args.variable (shape_of c.args.bound.now) c.requires.context c.requires.there,
          (c.requires.right, c.requires.base),
        ),
      ),
    )

pub keep_new-remember-requires : goal.keep_new-remember-requires
keep_new-remember-requires t c =
    let oldest = length (context_of c.args.log.now.known.base) in
    let g = context_of c.args.ctx.now in
    let log = c.args.log.now in
    let after = c.keep_shapes.new.log in
    let bound = shape_of c.args.bound.now in
    let right = shape_of c.args.right.now in
    let kept =
    subst (λ m. Keeps oldest false c.args.at (comparison c.args.steps g (shape_in g bound) (shape_in g right)) m true after.settled
    (asked_of log.demands) (asked_of after.demands)) c.if-not-matched.false c.in_ok-matched.ensures.kept in
    subst (λ b. is_remembered_as (length (context_of b)) (asked_of after.demands) (context_of b) false c.args.steps c.args.variable right ≡ true)
    (sym c.keep_shapes.ensures.base)
    (remembers_settled c.args.at (context_of log.known.base) g c.args.variable bound right c.args.steps true after.settled
    (asked_of log.demands) (asked_of after.demands) c.requires.context c.requires.base c.requires.there c.requires.named
    c.requires.shape c.if-all.true kept)

pub keep_new-remember-requires-then-len-count : goal.keep_new-remember-requires-then-len-count
keep_new-remember-requires-then-len-count t c =
    let oldest = length (context_of c.args.log.now.known.base) in
    let g = context_of c.args.ctx.now in
    let log = c.args.log.now in
    let after = c.keep_shapes.new.log in
    let bound = shape_of c.args.bound.now in
    let right = shape_of c.args.right.now in
    let kept =
    subst (λ m. Keeps oldest false c.args.at (comparison c.args.steps g (shape_in g bound) (shape_in g right)) m true after.settled
    (asked_of log.demands) (asked_of after.demands)) c.if-not-matched.false c.in_ok-matched.ensures.kept in
    let same : length (asked_of after.demands) ≡ length (asked_of log.demands) =
    length-map after.demands demand_of ∙ sym c.len.ensures ∙ c.if-len-count.true ∙ c.len-count.ensures
    ∙ sym (length-map log.demands demand_of) in
    subst (λ b. is_remembered_as (length (context_of b)) (asked_of after.demands) (context_of b) true c.args.steps c.args.variable right ≡ true)
    (sym c.keep_shapes.ensures.base)
    (remembers_lost c.args.at (context_of log.known.base) g c.args.variable bound right c.args.steps true after.settled
    (asked_of log.demands) (asked_of after.demands) c.requires.context c.requires.base c.requires.there c.requires.named
    c.requires.shape same kept)

pub keep_shapes-returns-then-is_any-clause-kept : goal.keep_shapes-returns-then-is_any-clause-kept
keep_shapes-returns-then-is_any-clause-kept t c =
    let oldest = length (context_of c.args.log.now.known.base) in
    any_keeps oldest c.args.whole c.args.at c.args.steps (context_of c.args.ctx.now) (shape_of c.args.left.now) (shape_of c.args.right.now)
    c.args.log.now.settled (listed c.args.whole c.args.log.now) c.if-steps-eq0.false (sym c.is_any.ensures ∙ c.if-is_any.true)

pub keep_shapes-returns-clause-kept : goal.keep_shapes-returns-clause-kept
keep_shapes-returns-clause-kept t c =
    let oldest = length (context_of c.args.log.now.known.base) in
    let log = c.args.log.now in
    let after = c.keep_form.new.log in
    IfOk-weaker c.keep_form.result _ _
    (λ m k.
    step_keeps oldest c.args.whole c.args.at c.args.steps (context_of c.args.ctx.now) (shape_of c.args.left.now) (shape_of c.args.right.now) m
    log.settled after.settled (listed c.args.whole log) (listed c.args.whole after) c.if-steps-eq0.false
    (sym c.is_any.ensures ∙ c.if-is_any.false) k)
    c.keep_form.ensures.kept

pub keep_shapes-returns-then-branch-clause-kept : goal.keep_shapes-returns-then-branch-clause-kept
keep_shapes-returns-then-branch-clause-kept t c =
    let oldest = length (context_of c.args.log.now.known.base) in
    let g = context_of c.args.ctx.now in
    let both = and_parts c.args.whole (same_shape (shape_in g (shape_of c.args.left.now)) (shape_in g (shape_of c.args.right.now)))
    (sym c.in_ok-are_one.ensures ∙ c.if-branch.true) in
    same_keeps oldest c.args.whole c.args.at c.args.steps g (shape_of c.args.left.now) (shape_of c.args.right.now)
    c.args.log.now.settled (listed c.args.whole c.args.log.now) c.if-steps-eq0.false both.1

pub keep_type_functions-returns-then-not-branch-clause-kept :
    goal.keep_type_functions-returns-then-not-branch-clause-kept
keep_type_functions-returns-then-not-branch-clause-kept t c =
    let oldest = length (context_of c.args.log.now.known.base) in
    type_functions_parted oldest c.args.whole c.args.at c.args.steps (context_of c.args.ctx.now) (shape_of c.args.bound.now.value)
    (shape_of c.args.other.now.value) (type_of c.args.gives.now) (type_of c.args.other_gives.now) c.args.log.now.settled
    (listed c.args.whole c.args.log.now)
    (sym (λ i. same_shape (read_shape (c.entries.ensures i) (shape_of (c.deref.ensures i)))
    (read_shape (c.entries.ensures i) (shape_of (c.deref-2.ensures i))))
    ∙ sym c.in_ok-same_read.ensures ∙ c.if-not-branch.true)

pub keep_type_functions-keep_types-requires : goal.keep_type_functions-keep_types-requires
keep_type_functions-keep_types-requires t c =
    let g = context_of c.args.ctx.now in
    let under = context_of c.in_ok-under.under in
    let bound = shape_of c.args.bound.now.value in
    let gives = type_of c.args.gives.now in
    let is = c.in_ok-under.ensures in (
      omega arith,
      (
        under_bound g under bound gives c.requires.context c.requires.left is,
        (
          result_part g under bound bound gives c.requires.left is,
          (
            result_part g under bound (shape_of c.args.other.now.value) (type_of c.args.other_gives.now)
                c.requires.right is,
            stands_deeper (context_of c.args.log.now.known.base) g under (TypeEntry (shape_in g bound)) is
                c.requires.base,
          ),
        ),
      ),
    )

pub keep_type_functions-returns-clause-kept : goal.keep_type_functions-returns-clause-kept
keep_type_functions-returns-clause-kept t c =
    let oldest = length (context_of c.args.log.now.known.base) in
    let g = context_of c.args.ctx.now in
    let under = context_of c.in_ok-under.under in
    let log = c.args.log.now in
    let after = c.keep_types.new.log in
    let same : same_shape (read_shape (length g) (shape_of c.args.bound.now.value)) (read_shape (length g) (shape_of c.args.other.now.value)) ≡ true =
    sym (λ i. same_shape (read_shape (c.entries.ensures i) (shape_of (c.deref.ensures i)))
    (read_shape (c.entries.ensures i) (shape_of (c.deref-2.ensures i))))
    ∙ sym c.in_ok-same_read.ensures ∙ c.if-not-branch.false in
    IfOk-weaker c.keep_types.result _ _
    (λ m k.
    type_functions_kept oldest c.args.whole c.args.at c.args.steps g under (shape_of c.args.bound.now.value) (shape_of c.args.other.now.value)
    (type_of c.args.gives.now) (type_of c.args.other_gives.now) m log.settled after.settled (listed c.args.whole log)
    (listed c.args.whole after) c.requires.apart c.in_ok-under.ensures same k)
    c.keep_types.ensures.kept

pub keep_variable-returns-in-Some-clause-kept : goal.keep_variable-returns-in-Some-clause-kept
keep_variable-returns-in-Some-clause-kept t c =
    let oldest = length (context_of c.args.log.now.known.base) in
    let g = context_of c.args.ctx.now in
    let log = c.args.log.now in
    let after = c.walk_bound.new.log in
    let bound = shape_of c.deref.result.now in
    let right = shape_of c.args.right.now in
    let there = sym c.in-Some.ensures ∙ ap (λ s. Some (shape_of s)) (sym c.deref.ensures) in
    IfOk-weaker c.walk_bound.result _ _
    (λ m k.
    variable_keeps oldest c.args.whole c.args.at c.args.steps g c.args.variable right (Some bound) m log.settled after.settled
    (listed c.args.whole log) (listed c.args.whole after)
    (subst (λ n. is_variable n c.args.variable right ≡ false) c.entries.ensures
    (sym c.is_variable.ensures ∙ c.if-is_variable.false)) there
    (subst (λ b. Keeps oldest c.args.whole c.args.at (comparison c.args.steps g b (shape_in g right)) m log.settled after.settled
    (listed c.args.whole log) (listed c.args.whole after)) (bound_read g c.args.variable bound c.requires.context there) k))
    c.walk_bound.ensures.kept

pub walk_bound-keep_shapes-requires : goal.walk_bound-keep_shapes-requires
walk_bound-keep_shapes-requires t c =
    let g = context_of c.args.ctx.now in (
      omega arith,
      (
        c.requires.context,
        (
          bound_part g c.args.variable (shape_of c.args.bound.now) c.requires.context c.requires.there,
          (c.requires.right, c.requires.base),
        ),
      ),
    )

pub keep_types-returns-clause-kept : goal.keep_types-returns-clause-kept
keep_types-returns-clause-kept t c =
    let oldest = length (context_of c.args.log.now.known.base) in
    let g = context_of c.args.ctx.now in
    let log = c.args.log.now in
    let mid = c.ask_sets.new.log in
    let after = c.keep_shapes.new.log in
    let left = type_of c.args.left.now in
    let right = type_of c.args.right.now in
    IfOk-weaker c.keep_shapes.result
    (λ m. Keeps (length (context_of mid.known.base)) c.args.whole c.args.at
    (comparison c.args.steps g (shape_in g (shape_of c.deref.result.now)) (shape_in g (shape_of c.deref-2.result.now))) m
    mid.settled after.settled (listed c.args.whole mid) (listed c.args.whole after)) _
    (λ m k.
    types_keep oldest c.args.whole c.args.at (demanded g (read_set (length g) left.set) (read_set (length g) right.set))
    (comparison c.args.steps g (shape_in g left.shape) (shape_in g right.shape)) m log.settled mid.settled after.settled
    (listed c.args.whole log) (listed c.args.whole mid) (listed c.args.whole after)
    c.in_ok-ask_sets.ensures.kept c.in_ok-ask_sets.ensures.before c.in_ok-ask_sets.ensures.settled
    (subst (λ x. Keeps oldest c.args.whole c.args.at x m mid.settled after.settled (listed c.args.whole mid) (listed c.args.whole after))
    (λ i. comparison c.args.steps g (shape_in g (shape_of (c.deref.ensures i))) (shape_in g (shape_of (c.deref-2.ensures i))))
    (subst (λ b. Keeps (length (context_of b)) c.args.whole c.args.at
    (comparison c.args.steps g (shape_in g (shape_of c.deref.result.now)) (shape_in g (shape_of c.deref-2.result.now))) m
    mid.settled after.settled (listed c.args.whole mid) (listed c.args.whole after)) c.ask_sets.ensures.base k)))
    c.keep_shapes.ensures.kept
