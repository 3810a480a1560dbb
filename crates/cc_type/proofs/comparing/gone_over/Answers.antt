use Rattle.std.proofs.Common.{true, false, subst, sym, ◌∙◌, length}
use Rattle.cc_core.specs.TermViews.{shape_of, context_of}
use Rattle.cc_checking.specs.Comparison.{comparison}
use Rattle.cc_checking.specs.Inference.{shape_in}
use Rattle.cc_type.specs.Comparing.{most_steps}
use Rattle.cc_subty.specs.Demands.{asked_of}
use Rattle.cc_known.specs.ComparedPairs.{IsKept}
use Rattle.cc_known.specs.KeptWalks.{Keeps, StandsOn}
use Rattle.cc_known.proofs.ComparedPairs.{forgotten, keeps_compared}
use Rattle.cc_known.proofs.KeptWalks.{shapes_root}
use Rattle.cc_known.proofs.WalkedParts.{shape_standing}
use Rattle.cc_type.proofs.comparing.gone_over.Goals as goal

pub keep_shapes-requires-clause-left : goal.keep_shapes-requires-clause-left
keep_shapes-requires-clause-left c = shape_standing (context_of c.args.ctx.now) (shape_of c.args.left.now) c.requires.left

pub keep_shapes-requires-clause-right : goal.keep_shapes-requires-clause-right
keep_shapes-requires-clause-right c = shape_standing (context_of c.args.ctx.now) (shape_of c.args.right.now) c.requires.right

pub keep_shapes-requires-clause-base : goal.keep_shapes-requires-clause-base
keep_shapes-requires-clause-base c =
    subst (λ b. StandsOn (context_of b) (context_of c.args.ctx.now)) (sym (c.new.ensures.base ∙ c.in_ok-clone.ensures.cases))
    c.in_ok-base.ensures

pub remember-requires : goal.remember-requires
remember-requires c = λ named shape.
    let g = context_of c.args.ctx.now in
    let left = shape_of c.args.left.now in
    let right = shape_of c.args.right.now in
    let base = context_of c.in_ok-base.base in
    let now = c.keep_shapes.new.log in
    let log = asked_of c.args.log.now.demands in
    let more = asked_of now.demands in
    keeps_compared most_steps c.args.at base g left right true now.settled log more c.requires.context c.in_ok-base.ensures
    named shape c.if-not-all.false
    (subst (λ b. Keeps (length (context_of b)) false c.args.at (comparison most_steps g left right) true true now.settled log more)
    (c.new.ensures.base ∙ c.in_ok-clone.ensures.cases)
    (shapes_root (length (context_of c.new.result.base)) false c.args.at most_steps g left right true true now.settled log more
    c.requires.left c.requires.right
    (subst (λ m. Keeps (length (context_of c.new.result.base)) false c.args.at (comparison most_steps g (shape_in g left) (shape_in g right)) m
    true now.settled log more) c.if-not-matched.false c.in_ok-matched.ensures.kept)))

pub returns-then-not-matched : goal.returns-then-not-matched
returns-then-not-matched c =
    let g = context_of c.args.ctx.now in
    let base = context_of c.new.result.base in
    let left = shape_of c.args.left.now in
    let right = shape_of c.args.right.now in
    let now = c.keep_shapes.new.log in
    let log = asked_of c.args.log.now.demands in
    let more = asked_of now.demands in
    forgotten (length base) c.args.at (comparison most_steps g left right) false true now.settled log more
    (shapes_root (length base) false c.args.at most_steps g left right false true now.settled log more c.requires.left c.requires.right
    (subst (λ m. Keeps (length base) false c.args.at (comparison most_steps g (shape_in g left) (shape_in g right)) m true now.settled log more)
    c.if-not-matched.true c.in_ok-matched.ensures.kept))

pub returns-then-not-all : goal.returns-then-not-all
returns-then-not-all c =
    let g = context_of c.args.ctx.now in
    let base = context_of c.new.result.base in
    let left = shape_of c.args.left.now in
    let right = shape_of c.args.right.now in
    let now = c.keep_shapes.new.log in
    let log = asked_of c.args.log.now.demands in
    let more = asked_of now.demands in
    forgotten (length base) c.args.at (comparison most_steps g left right) true true now.settled log more
    (shapes_root (length base) false c.args.at most_steps g left right true true now.settled log more c.requires.left c.requires.right
    (subst (λ m. Keeps (length base) false c.args.at (comparison most_steps g (shape_in g left) (shape_in g right)) m true now.settled log more)
    c.if-not-matched.false c.in_ok-matched.ensures.kept))

pub returns-then-not-remembered : goal.returns-then-not-remembered
returns-then-not-remembered c =
    let g = context_of c.args.ctx.now in
    let base = context_of c.new.result.base in
    let left = shape_of c.args.left.now in
    let right = shape_of c.args.right.now in
    let now = c.keep_shapes.new.log in
    let log = asked_of c.args.log.now.demands in
    let more = asked_of now.demands in
    forgotten (length base) c.args.at (comparison most_steps g left right) true true now.settled log more
    (shapes_root (length base) false c.args.at most_steps g left right true true now.settled log more c.requires.left c.requires.right
    (subst (λ m. Keeps (length base) false c.args.at (comparison most_steps g (shape_in g left) (shape_in g right)) m true now.settled log more)
    c.if-not-matched.false c.in_ok-matched.ensures.kept))

pub returns : goal.returns
returns c =
    let g = context_of c.args.ctx.now in
    let base = context_of c.new.result.base in
    let left = shape_of c.args.left.now in
    let right = shape_of c.args.right.now in
    let now = c.keep_shapes.new.log in
    let log = asked_of c.args.log.now.demands in
    let more = asked_of now.demands in
    subst (λ ds. IsKept c.args.at (comparison most_steps g left right) true log (asked_of ds)) (sym c.remember.ensures)
    (forgotten (length base) c.args.at (comparison most_steps g left right) true true now.settled log more
    (shapes_root (length base) false c.args.at most_steps g left right true true now.settled log more c.requires.left c.requires.right
    (subst (λ m. Keeps (length base) false c.args.at (comparison most_steps g (shape_in g left) (shape_in g right)) m true now.settled log more)
    c.if-not-matched.false c.in_ok-matched.ensures.kept)))
