use Rattle.std.proofs.Common.{◌≡◌, length, arith}
use Rattle.cc_core.specs.TermViews.{bind_of, context_of}
use Rattle.cc_core.proofs.Lookups.{length_map}
use Rattle.cc_certificate_writing.proofs.Lines.{more_binds, all_binds}
use Rattle.cc_certificate_writing.proofs.certificates.put_binds.Goals as goal

pub loop-position-preserved : goal.loop-position-preserved
loop-position-preserved c =
    let size : length (context_of c.args.ctx.now) ≡ length c.args.ctx.now = length_map bind_of c.args.ctx.now in
    more_binds c.args.front.now c.args.names.now.names.items (context_of c.args.ctx.now) c.loop-position.position _ _ _ (omega arith)
    c.loop-position.invariant c.in_ok-put_bind_at.ensures

pub returns : goal.returns
returns c =
    let size : length (context_of c.args.ctx.now) ≡ length c.args.ctx.now = length_map bind_of c.args.ctx.now in
    all_binds c.args.front.now c.args.names.now.names.items (context_of c.args.ctx.now) c.loop-position.position _ _ (omega arith)
    c.loop-position.invariant
