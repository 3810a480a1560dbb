use Rattle.std.proofs.Common.{sym, ◌∙◌}
use Rattle.cc_solve.proofs.HolesAlone.{not_one, one_is_hole, one_is_there}
use Rattle.cc_solve.proofs.solving.hole_alone.Goals as goal

pub returns-then-len-ne1 : goal.returns-then-len-ne1
returns-then-len-ne1 c = λ hole is. not_one c.args.set.now hole is (λ long. c.if-len-ne1.true (c.len.ensures ∙ long))

pub returns-in-Some : goal.returns-in-Some
returns-in-Some c =
    one_is_hole c.args.set.now c.in-Some.elem c.hole_of.result (sym c.len.ensures ∙ c.if-len-ne1.false) (sym c.get.ensures ∙ c.in-Some.is) c.hole_of.ensures

pub returns-in-None : goal.returns-in-None
returns-in-None c = λ hole is. one_is_there c.args.set.now hole is (sym c.get.ensures ∙ c.in-None.is)
