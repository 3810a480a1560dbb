use Rattle.std.proofs.Common.{Bool, ◌-◌, length, take, refl, ap, ◌∙◌, arith}
use Rattle.cc_item_reading.proofs.Hearing.{rules_none, rules_line, rules_bad, rules_end, rules_failed, rules_all, room_left, cause_any, slice_is}
use Rattle.cc_item_reading.proofs.reading.hear_rules.Goals as goal

pub loop-init : goal.loop-init
loop-init g c = record {
  reading = rules_none c.args.reader.now (g.S.Source.left c.args.source.now) c.args.room c.args.lines.now c.new-bytes.result.items c.args.rules.now.items c.new-bytes.ensures.items c.requires.empty;
  known = c.requires.known;
  no_fault = refl;
}

pub hear_line-requires-clause-count : goal.hear_line-requires-clause-count
hear_line-requires-clause-count g c = omega (arith, c.loop.invariant.no_fault, c.requires.count)

pub hear_line-requires-clause-short : goal.hear_line-requires-clause-short
hear_line-requires-clause-short g c = room_left _ _ _ _ _ _ _ _ _ c.loop.invariant.reading.reading

pub hear_line-requires-clause-known : goal.hear_line-requires-clause-known
hear_line-requires-clause-known g c = c.loop.invariant.known

pub returns-in-Ok-false-clause-heard : goal.returns-in-Ok-false-clause-heard
returns-in-Ok-false-clause-heard g c =
    rules_end _ _ _ _ _ _ _ _ _ _ _ _ c.loop.bytes.items c.hear_line.new.bytes.items _ _ c.loop.invariant.reading c.in-Ok-false.field-0-test c.in-Ok-false.ensures.heard c.loop-test.true

pub returns-in-Ok-false-clause-cause : goal.returns-in-Ok-false-clause-cause
returns-in-Ok-false-clause-cause g c = c.in-Ok-false.ensures.cause ∙ c.loop.invariant.no_fault

pub returns-in-Err-clause-heard : goal.returns-in-Err-clause-heard
returns-in-Err-clause-heard g c =
    rules_failed _ _ _ _ _ _ _ _ _ _ _ _ c.loop.bytes.items c.hear_line.new.bytes.items _ c.in-Err.error c.loop.invariant.reading c.in-Err.ensures.heard c.loop-test.true

pub returns-in-Err-clause-cause : goal.returns-in-Err-clause-cause
returns-in-Err-clause-cause g c = cause_any Bool (Unit {0}) _ _ _ c.in-Err.error c.loop.invariant.no_fault c.in-Err.ensures.cause

pub returns-clause-heard : goal.returns-clause-heard
returns-clause-heard g c =
    rules_all _ _ _ _ _ _ _ _ _ c.loop.bytes.items _ c.loop.invariant.reading (omega (arith, c.loop-test.false, c.loop.auto.counter-end))

pub returns-clause-known : goal.returns-clause-known
returns-clause-known g c = c.loop.invariant.known

pub returns-clause-cause : goal.returns-clause-cause
returns-clause-cause g c = c.loop.invariant.no_fault

pub returns-in-Err-hear_rule-clause-heard : goal.returns-in-Err-hear_rule-clause-heard
returns-in-Err-hear_rule-clause-heard g c =
    rules_bad _ _ _ _ _ _ _ _ _ _ _ _ c.loop.bytes.items c.hear_line.new.bytes.items _ _ c.loop.invariant.reading c.in-Ok-true.field-0-test c.in-Ok-true.ensures.heard
    c.without_feed.result.now (c.without_feed.ensures ∙ ap (λ it. take (length it - 1) it) (slice_is c.hear_line.new.bytes.items c.deref.result.now c.loop.bytes.items c.len-from.result
    c.deref.ensures.value (c.len-from.ensures ∙ c.loop.bytes.ok.0))) _ c.in-Err-hear_rule.error c.in-Err-hear_rule.ensures c.loop-test.true

pub loop-preserved : goal.loop-preserved
loop-preserved g c = record {
  reading = rules_line _ _ _ _ _ _ _ _ _ _ _ c.loop.bytes.items c.hear_line.new.bytes.items _ _ c.loop.invariant.reading c.in-Ok-true.field-0-test c.in-Ok-true.ensures.heard
      c.without_feed.result.now (c.without_feed.ensures ∙ ap (λ it. take (length it - 1) it) (slice_is c.hear_line.new.bytes.items c.deref.result.now c.loop.bytes.items c.len-from.result
      c.deref.ensures.value (c.len-from.ensures ∙ c.loop.bytes.ok.0))) _ c.in_default.ensures;
  known = c.in-Ok-true.ensures.known;
  no_fault = c.in-Ok-true.ensures.cause ∙ c.loop.invariant.no_fault;
}
