use Rattle.std.proofs.Common.{◌-◌, ◌^◌, ap, refl, arith}
use Rattle.cc_core.specs.Sizes as plain
use Rattle.cc_core.specs.TermViews.{shape_of, type_of}
use Rattle.cc_core.proofs.SizeLemmas.{counted_shape-capped}
use Rattle.cc_core.proofs.ShapeSizes.{size_with-counted}
use Rattle.cc_core.proofs.sizes.subst_size.Goals as goal

pub returns : goal.returns
returns c =
    let by = shape_of c.args.by.now in
    let shape = shape_of c.args.ty.now.shape.value in
    let capped = ap (λ s. plain.counted_shape s 0 shape) c.shape_size.ensures in
    omega (arith, capped, c.type_size_with.ensures 0 refl, counted_shape-capped (plain.shape_size by) (2 ^ 64 - 1) 0 shape, size_with-counted by (type_of c.args.ty.now))
