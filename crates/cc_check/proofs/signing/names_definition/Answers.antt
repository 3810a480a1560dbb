use Rattle.std.proofs.Common.{◌<◌, sym, ◌∙◌, subst}
use Rattle.std.proofs.lemmas.List.{length-map}
use Rattle.cc_core.specs.TermViews.{bind_of, shape_of, context_of}
use Rattle.cc_check.proofs.SignedTogether.{names_none, names_one}
use Rattle.cc_check.proofs.signing.names_definition.Goals as goal

pub returns-then-position-len : goal.returns-then-position-len
returns-then-position-len c =
    sym
    (names_one c.args.devices (context_of c.args.ctx.now) (shape_of c.args.shape.now) c.in-Some.position
    (sym c.in-Some.ensures)
    (subst (λ n. c.in-Some.position < n) (c.len.ensures ∙ sym (length-map c.args.ctx.now bind_of))
    c.if-position-len.true))

pub returns-in-None : goal.returns-in-None
returns-in-None c =
    sym (names_none c.args.devices (context_of c.args.ctx.now) (shape_of c.args.shape.now) (sym c.in-None.ensures))
