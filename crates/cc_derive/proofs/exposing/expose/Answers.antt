use Rattle.std.proofs.Common.{◌≤◌, length, sym, ap, ◌∙◌, arith}
use Rattle.cc_core.specs.TermViews.{shape_of, context_of}
use Rattle.cc_checking.specs.Exposing.{exposed}
use Rattle.cc_derive.specs.Older.{position_before}
use Rattle.cc_derive.proofs.ExposedOlder.{older_all, follows, ends, stops}
use Rattle.cc_derive.proofs.exposing.expose.Goals as goal

pub loop-position-init : goal.loop-position-init
loop-position-init c =
    let all : length (context_of c.args.ctx.now) ≤ c.entries-limit.result = omega arith in
    ap (λ h. exposed h (shape_of c.args.shape.now.value)) (older_all (context_of c.args.ctx.now) c.entries-limit.result all)

pub loop-position-preserved : goal.loop-position-preserved
loop-position-preserved c =
    let is = ap (λ s. position_before (shape_of s) c.loop-position.limit) (sym c.deref.ensures) ∙ sym c.in-Some.ensures in
    let followed = follows (context_of c.args.ctx.now) c.loop-position.limit c.in-Some.position
    (shape_of c.loop-position.reached.now.value) (shape_of c.in-Some-bound_of.bound.now.value) is
    (sym c.in-Some-bound_of.ensures) in
    sym followed.1 ∙ c.loop-position.invariant

pub returns-in-None : goal.returns-in-None
returns-in-None c =
    let is = ap (λ s. position_before (shape_of s) c.loop-position.limit) (sym c.deref.ensures) ∙ sym c.in-Some.ensures in
    sym (stops (context_of c.args.ctx.now) c.loop-position.limit c.in-Some.position
    (shape_of c.loop-position.reached.now.value) is (sym c.in-None.ensures))
    ∙ c.loop-position.invariant

pub returns : goal.returns
returns c =
    let is = ap (λ s. position_before (shape_of s) c.loop-position.limit) (sym c.deref.ensures) ∙ sym c.in_default.ensures in
    sym (ends (context_of c.args.ctx.now) c.loop-position.limit (shape_of c.loop-position.reached.now.value) is)
    ∙ c.loop-position.invariant
