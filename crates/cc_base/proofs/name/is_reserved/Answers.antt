use Rattle.std.proofs.Common.{◌∙◌, false, refl, arith}
use Rattle.cc_base.proofs.ReservedWords.{is_reserved-chars, is_reserved-length, is_reserved-longer}
use Rattle.cc_base.proofs.name.is_reserved.Goals as goal

pub returns-then-text-gt8 : goal.returns-then-text-gt8
returns-then-text-gt8 c = is_reserved-longer c.args.text.now c.utf8.text (omega (arith, c.if-text-gt8.true))

pub returns-in-1 : goal.returns-in-1
returns-in-1 c = is_reserved-length 1 c.args.text.now false c.utf8.text c.in-1.is refl

pub returns-in-2 : goal.returns-in-2
returns-in-2 c = is_reserved-length 2 c.args.text.now c.is_among.result c.utf8.text c.in-2.is c.is_among.ensures

pub returns-in-3 : goal.returns-in-3
returns-in-3 c = is_reserved-length 3 c.args.text.now c.is_among-in-3.result c.utf8.text c.in-3.is c.is_among-in-3.ensures

pub returns-in-4 : goal.returns-in-4
returns-in-4 c = is_reserved-length 4 c.args.text.now c.is_among-in-4.result c.utf8.text c.in-4.is c.is_among-in-4.ensures

pub returns-in-5 : goal.returns-in-5
returns-in-5 c = is_reserved-length 5 c.args.text.now c.is_among-in-5.result c.utf8.text c.in-5.is c.is_among-in-5.ensures

pub returns-in-6 : goal.returns-in-6
returns-in-6 c = is_reserved-length 6 c.args.text.now c.is_among-in-6.result c.utf8.text c.in-6.is c.is_among-in-6.ensures

pub returns-in-7 : goal.returns-in-7
returns-in-7 c = is_reserved-length 7 c.args.text.now c.is_among-in-7.result c.utf8.text c.in-7.is c.is_among-in-7.ensures

pub returns-in-8 : goal.returns-in-8
returns-in-8 c = is_reserved-length 8 c.args.text.now c.is_among-in-8.result c.utf8.text c.in-8.is c.is_among-in-8.ensures

pub returns-in_default : goal.returns-in_default
returns-in_default c = c.is_among-in_default.ensures ∙ is_reserved-chars c.args.text.now c.utf8.text
