use Rattle.std.proofs.Common.{◌≡◌, suc, ◌<◌, Some, sym, ap, ◌∙◌, subst, arith}
use Rattle.std.proofs.lemmas.List.{length-map}
use Rattle.cc_core.specs.TermViews.{bind_of, type_of, context_of}
use Rattle.cc_checking.specs.Verdicts.{signature_of}
use Rattle.cc_definition_reasoning.proofs.UnsignedTypes.{signature_late, unsigned_is, unsigned_within}
use Rattle.cc_definition_reasoning.proofs.unsigned.unsigned_cause.Goals as goal

pub loop-serves-init : goal.loop-serves-init
loop-serves-init c =
    let count = c.len-serves.ensures ∙ sym (length-map c.args.ctx.now bind_of) in
    record {
      none = c.requires.unsigned;
      some = signature_late c.len-serves.result (context_of c.args.ctx.now) (type_of c.args.ty.now) (omega (arith, count))
          ∙ ap (λ t. Some t) (sym c.in_ok-left.ensures.cases);
      apart = subst (λ n. c.args.devices < n) (sym count)
          (unsigned_within (context_of c.args.ctx.now) c.args.devices (type_of c.args.ty.now) c.requires.unsigned);
      within = omega (arith, c.len-serves.ensures);
    }

pub returns : goal.returns
returns c =
    let next : c.loop-serves.serves ≡ suc c.loop-serves.fails =
    omega (arith, c.loop-serves-test.false, c.loop-serves.invariant.apart) in
    c.in_ok-cause.ensures
    ∙ sym (unsigned_is (context_of c.args.ctx.now) c.loop-serves.fails (type_of c.args.ty.now) (type_of c.loop-serves.left)
    c.loop-serves.invariant.none
    (subst (λ n. signature_of n (context_of c.args.ctx.now) (type_of c.args.ty.now) ≡ Some (type_of c.loop-serves.left)) next
    c.loop-serves.invariant.some))
