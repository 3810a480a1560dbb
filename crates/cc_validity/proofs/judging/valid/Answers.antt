use Rattle.std.proofs.Common.{sym, ◌∙◌}
use Rattle.cc_core.specs.TermViews.{term_of, context_of}
use Rattle.cc_derivation.specs.DerivationViews.{der_of}
use Rattle.cc_validity.proofs.JudgedRoots.{whole_found, valid_found, least_found, not_valid}
use Rattle.cc_validity.proofs.judging.valid.Goals as goal

pub returns-in-None-clause-whole : goal.returns-in-None-clause-whole
returns-in-None-clause-whole c =
    whole_found (context_of c.args.ctx.now) (term_of c.args.term.now.value) (der_of c.args.der.now.value)
    (sym c.in-None.is ∙ c.in_ok-first_broken.ensures)

pub returns-in-None-clause-valid : goal.returns-in-None-clause-valid
returns-in-None-clause-valid c =
    valid_found (context_of c.args.ctx.now) (term_of c.args.term.now.value) (der_of c.args.der.now.value)
    (sym c.in-None.is ∙ c.in_ok-first_broken.ensures)

pub returns-in-Some-clause-bad : goal.returns-in-Some-clause-bad
returns-in-Some-clause-bad c =
    least_found (context_of c.args.ctx.now) (term_of c.args.term.now.value) (der_of c.args.der.now.value) c.in-Some.number
    (sym c.in-Some.is ∙ c.in_ok-first_broken.ensures)

pub returns-in-Some-clause-invalid : goal.returns-in-Some-clause-invalid
returns-in-Some-clause-invalid c =
    not_valid (context_of c.args.ctx.now) (term_of c.args.term.now.value) (der_of c.args.der.now.value) c.in-Some.number
    (sym c.in-Some.is ∙ c.in_ok-first_broken.ensures)
