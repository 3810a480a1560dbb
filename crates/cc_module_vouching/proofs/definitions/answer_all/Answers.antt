use Rattle.std.proofs.Common.{List, Option, map, sym, subst}
use Rattle.std.proofs.lemmas.List.{drop_all}
use Rattle.std.proofs.lemmas.Result.{IfOk-weaker}
use Rattle.cc_mnf.specs.CoreModules as core
use Rattle.cc_vouch.specs.VouchViews.{definition_of}
use Rattle.cc_vouch.specs.declared.definitions.Reason.{Reason}
use Rattle.cc_vouch.specs.declared.definitions.Vouched.{Vouched}
use Rattle.cc_module_vouching.specs.AnswerViews.{answer_of}
use Rattle.cc_module_vouching.specs.AnsweredDefinitions.{GoesOn}
use Rattle.cc_module_vouching.specs.ClaimViews.{claim_of}
use Rattle.cc_module_vouching.proofs.VouchedInOrder.{StandsAt, stands_first, stands_more, stands_refused, stands_last}
use Rattle.cc_module_vouching.proofs.definitions.answer_all.Goals as goal

pub loop-def-init : goal.loop-def-init
loop-def-init c =
    let all = map core.definition_of c.args.defs.now in
    subst (λ (v : List Vouched). StandsAt c.args.devices c.args.known.items (map claim_of c.args.claims.now) all
    c.args.known.items (map definition_of v) all) (sym c.in_ok-vouched.ensures.items)
    (stands_first c.args.devices c.args.known.items (map claim_of c.args.claims.now) all)

pub loop-def-preserved : goal.loop-def-preserved
loop-def-preserved c =
    let claims = map claim_of c.args.claims.now in
    stands_more c.args.devices c.args.known.items claims c.args.defs.now c.loop-def.def-index
    c.def-item.result c.loop-def.known.items c.vouch_next.new.known.items c.loop-def.vouched.items
    c.vouch_next.new.vouched.items c.loop-def-test.true c.def-item.is c.loop-def.invariant
    (subst (λ (r : Option Reason). GoesOn c.args.devices claims (core.definition_of c.def-item.result)
    c.loop-def.known.items c.loop-def.vouched.items c.vouch_next.new.known.items c.vouch_next.new.vouched.items r)
    c.in_default.is c.in_ok-refusal.ensures)

pub returns-in-Some : goal.returns-in-Some
returns-in-Some c =
    let claims = map claim_of c.args.claims.now in
    IfOk-weaker c.refused.result _ _
    (λ a h.
    stands_refused c.args.devices c.args.known.items claims c.args.defs.now c.loop-def.def-index
    c.def-item.result c.loop-def.known.items c.vouch_next.new.known.items c.loop-def.vouched.items
    c.vouch_next.new.vouched.items c.in-Some.reason (answer_of a) c.loop-def-test.true c.def-item.is c.loop-def.invariant
    (subst (λ (r : Option Reason). GoesOn c.args.devices claims (core.definition_of c.def-item.result)
    c.loop-def.known.items c.loop-def.vouched.items c.vouch_next.new.known.items c.vouch_next.new.vouched.items r)
    c.in-Some.is c.in_ok-refusal.ensures) h)
    c.refused.ensures

pub returns : goal.returns
returns c =
    stands_last c.args.devices c.args.known.items (map claim_of c.args.claims.now) c.args.defs.now c.loop-def.def-index
    c.loop-def.known.items c.loop-def.vouched.items
    (drop_all c.loop-def.def-index c.args.defs.now c.loop-def-test.false) c.loop-def.invariant
