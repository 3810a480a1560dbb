use Rattle.std.proofs.Common.{sym, ap, ◌∙◌, subst}
use Rattle.std.specs.Option.{option_map}
use Rattle.cc_core.specs.TermViews.{shape_of, type_of, context_of}
use Rattle.cc_known.specs.Measures.{IsMeasuredBy}
use Rattle.cc_check.proofs.SignedTogether.{signature_together}
use Rattle.cc_check.proofs.SignedAlong.{measured_signed}
use Rattle.cc_check.proofs.signature.measured_signature.Goals as goal

pub sign_whole-requires-clause-measured : goal.sign_whole-requires-clause-measured
sign_whole-requires-clause-measured c =
    c.known_from-known.ensures.from (shape_of c.args.ty.now.shape.value) c.requires.measured

pub measured_size-size-requires : goal.measured_size-size-requires
measured_size-size-requires c =
    subst (λ s. IsMeasuredBy c.known_from-known.result (shape_of s)) (sym c.deref.ensures)
    (c.known_from-known.ensures.by_it (shape_of c.in-Some.sig.shape.value)
    (measured_signed c.args.devices (context_of c.args.ctx.now) c.known_from-known.result (type_of c.args.ty.now)
    (type_of c.in-Some.sig)
    (c.known_from-known.ensures.from (shape_of c.args.ty.now.shape.value) c.requires.measured)
    (sym (ap (option_map type_of) (sym c.in-Some.is) ∙ c.in_ok-sig.ensures))))

pub returns-in-Some-clause-is : goal.returns-in-Some-clause-is
returns-in-Some-clause-is c =
    ap (option_map type_of) (sym c.in-Some.is) ∙ c.in_ok-sig.ensures
    ∙ sym (signature_together c.args.devices (context_of c.args.ctx.now) (type_of c.args.ty.now))

pub returns-in-None-clause-is : goal.returns-in-None-clause-is
returns-in-None-clause-is c =
    ap (option_map type_of) (sym c.in-None.is) ∙ c.in_ok-sig.ensures
    ∙ sym (signature_together c.args.devices (context_of c.args.ctx.now) (type_of c.args.ty.now))
