use Rattle.std.proofs.Common.{map, subst}
use Rattle.cc_mnf.specs.CoreModules as core
use Rattle.cc_vouch.specs.VouchViews.{outcome_of, Grows}
use Rattle.cc_vouch.specs.declared.definitions.Outcome.{Outcome}
use Rattle.cc_module_vouching.specs.ClaimViews.{claim_of}
use Rattle.cc_module_vouching.specs.AnsweredDefinitions.{ComesOf}
use Rattle.cc_module_vouching.proofs.definitions.vouch_next.Goals as goal

pub returns-in_ok-push-in-VouchedFor : goal.returns-in_ok-push-in-VouchedFor
returns-in_ok-push-in-VouchedFor c =
    let known = c.args.known.now.items in
    record {
      next = c.in-VouchedFor.it;
      comes =
          subst (λ (o : Outcome). ComesOf c.args.devices known (core.definition_of c.args.def.now)
          (map claim_of c.args.claims.now) (outcome_of o)) c.in-VouchedFor.is c.in_ok-outcome.ensures.outcome;
      grown =
          subst (λ (o : Outcome). Grows known o c.outcome_claimed.new.known.items) c.in-VouchedFor.is
          c.in_ok-outcome.ensures.known;
      put = c.in_ok-push-in-VouchedFor.ensures.items;
    }

pub returns-in-NotVouchedFor : goal.returns-in-NotVouchedFor
returns-in-NotVouchedFor c =
    subst (λ (o : Outcome). ComesOf c.args.devices c.args.known.now.items (core.definition_of c.args.def.now)
    (map claim_of c.args.claims.now) (outcome_of o)) c.in-NotVouchedFor.is c.in_ok-outcome.ensures.outcome
