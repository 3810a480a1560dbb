use Rattle.std.proofs.Common.{◌≡◌, sym, ◌∙◌, subst, arith}
use Rattle.cc_job.specs.Reading.{Are, rules_cut}
use Rattle.cc_job.proofs.RuleCuts.{reads_none, reads_few, reads_bad, reads_more, reads_all}
use Rattle.cc_job.proofs.rules.rules_cut.Goals as goal

pub loop-number-init : goal.loop-number-init
loop-number-init c = reads_none c.args.count c.args.bytes.now c.new-rules.result.items c.new-rules.ensures.items

pub returns-then-is_empty : goal.returns-then-is_empty
returns-then-is_empty c =
    reads_few c.args.count c.args.bytes.now c.loop-number.number c.loop-number.rules.items c.loop-number.rest.now c.loop-number.invariant c.loop-number-test.true
    (sym c.is_empty.ensures ∙ c.if-is_empty.true)

pub returns-in_default : goal.returns-in_default
returns-in_default c =
    reads_bad c.args.count c.args.bytes.now c.loop-number.number c.loop-number.rules.items c.loop-number.rest.now c.loop-number.invariant c.loop-number-test.true
    (sym c.is_empty.ensures ∙ c.if-is_empty.false) c.next_line.result.0.now c.next_line.result.1.now c.next_line.ensures (sym c.in_default.is ∙ c.in_ok-rule.ensures)

pub loop-number-preserved : goal.loop-number-preserved
loop-number-preserved c =
    reads_more c.args.count c.args.bytes.now c.loop-number.number c.loop-number.rules.items c.loop-number.rest.now c.loop-number.invariant c.loop-number-test.true
    (sym c.is_empty.ensures ∙ c.if-is_empty.false) c.next_line.result.0.now c.next_line.result.1.now c.next_line.ensures c.in-Some.rule (sym c.in-Some.is ∙ c.in_ok-rule.ensures)
    c.push.new.self.items c.in_ok-push.ensures.items

pub new-requires : goal.new-requires
new-requires c = omega (arith, c.loop-number.invariant.many, c.loop-number.auto.number-end, c.ranges.count.fits)

pub returns : goal.returns
returns c =
    subst (λ it. rules_cut c.args.count c.args.bytes.now ≡ Are it c.loop-number.rest.now) (sym c.new.ensures)
    (reads_all c.args.count c.args.bytes.now c.loop-number.number c.loop-number.rules.items c.loop-number.rest.now c.loop-number.invariant (omega (arith, c.loop-number-test.false)))
