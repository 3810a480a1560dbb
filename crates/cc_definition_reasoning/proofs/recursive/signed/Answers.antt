use Rattle.std.proofs.Common.{sym, ap, ◌∙◌}
use Rattle.std.specs.Option.{option_map}
use Rattle.cc_core.specs.TermViews.{type_of, context_of}
use Rattle.cc_check.proofs.SignedTypes.{signature_well_formed}
use Rattle.cc_definition_reasoning.proofs.recursive.signed.Goals as goal

pub returns-in-Some-clause-formed : goal.returns-in-Some-clause-formed
returns-in-Some-clause-formed c =
    signature_well_formed c.args.devices (context_of c.args.ctx.now) (type_of c.args.ty.now) (type_of c.in-Some.sig)
    c.requires.context c.requires.globals c.requires.ty
    (sym c.in_ok-sig.ensures ∙ ap (option_map type_of) c.in-Some.is)
