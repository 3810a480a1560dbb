use Rattle.std.proofs.Common.{◌≡◌, ◌&&◌, ◌++◌, length, length-append, true, sym, subst, arith}
use Rattle.cc_core.specs.Actions.{renamed_by}
use Rattle.cc_core.specs.Shapes.{TypeVariable}
use Rattle.cc_core.specs.TermViews.{shape_of, context_of}
use Rattle.cc_core.specs.WellFormed.{is_well_formed_context, IsWellFormedContext, IsWellFormedShape}
use Rattle.cc_known.specs.KeptWalks.{is_remembered_as}
use Rattle.cc_known.proofs.KeyedPairs.{matches_keyed}
use Rattle.cc_known.proofs.keys.pair_with.Goals as goal

pub returns : goal.returns
returns c = λ log matched.
    let base = context_of c.args.base.now in
    let small = context_of c.args.entries.own ++ base in
    let name = c.args.key.now.variable in
    let key = shape_of c.args.key.now.right.value in
    subst (λ s. (is_well_formed_context small && is_remembered_as (length base) log small c.args.lost c.args.steps name s) ≡ true)
    (sym c.in_ok-shared.ensures)
    (matches_keyed (length base) log small (context_of c.args.ctx.now) (renamed_by c.as_slice-to.result.now) name c.args.variable key
    (shape_of c.args.right.now.value) c.args.steps c.args.lost
    (let long = length-append (context_of c.args.entries.own) base in omega (arith, long))
    (c.in_ok-stand_in.ensures c.if-not-branch-4.false).1 (subst IsWellFormedContext c.requires.whole c.requires.formed) c.requires.context
    (c.in_ok-stand_in.ensures c.if-not-branch-4.false).0
    (subst (λ g. IsWellFormedShape g (TypeVariable name)) c.requires.whole (c.in_ok-is_name.ensures c.if-not-branch.false))
    (subst (λ g. IsWellFormedShape g key) c.requires.whole (c.in_ok-is_well_formed_shape.ensures c.if-not-branch-2.false))
    (c.is_renamed_name.ensures c.if-not-is_renamed_name.false) (c.in_ok-is_renamed.ensures c.if-not-branch-3.false)
    matched)
