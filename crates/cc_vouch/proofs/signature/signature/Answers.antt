use Rattle.std.proofs.Common.{◌≡◌, ◌<◌, ◌≤◌, Option, Some, None, length, sym, subst, ◌∙◌, arith}
use Rattle.std.specs.Option.{option_map}
use Rattle.cc_core.specs.TermViews.{type_of}
use Rattle.cc_checking.specs.Avoidance.{Positive, avoided_type}
use Rattle.cc_vouch.proofs.SignedBinds.{signs_on, signed_end}
use Rattle.cc_vouch.proofs.signature.signature.Goals as goal

pub loop-rest-preserved : goal.loop-rest-preserved
loop-rest-preserved c =
    signs_on c.args.devices c.loop-rest.rest.now c.in-Some.earlier.now c.args.binds.now c.in-Some.last.now
    (type_of c.loop-rest.left) (type_of c.args.ty.now) (Some c.in-Some-2.next) c.in-Some.ensures.cases.0
    c.loop-rest-test.true c.in-Some.ensures.cases.1
    (subst (λ o. option_map type_of o
    ≡ avoided_type Positive (length c.in-Some.earlier.now) (type_of c.in-Some.last.now.1).set (type_of c.loop-rest.left))
    c.in-Some-2.is c.in_ok-next-in-Some.ensures) c.loop-rest.invariant

pub returns-in-None-2 : goal.returns-in-None-2
returns-in-None-2 c =
    signs_on c.args.devices c.loop-rest.rest.now c.in-Some.earlier.now c.args.binds.now c.in-Some.last.now
    (type_of c.loop-rest.left) (type_of c.args.ty.now) None c.in-Some.ensures.cases.0
    c.loop-rest-test.true c.in-Some.ensures.cases.1
    (subst (λ o. option_map type_of o
    ≡ avoided_type Positive (length c.in-Some.earlier.now) (type_of c.in-Some.last.now.1).set (type_of c.loop-rest.left))
    c.in-None-2.is c.in_ok-next-in-Some.ensures) c.loop-rest.invariant

pub returns : goal.returns
returns c =
    let few : length c.loop-rest.rest.now ≤ c.args.devices = omega (arith, c.loop-rest-test.false) in
    sym (signed_end c.args.devices c.loop-rest.rest.now (type_of c.loop-rest.left) few) ∙ c.loop-rest.invariant
