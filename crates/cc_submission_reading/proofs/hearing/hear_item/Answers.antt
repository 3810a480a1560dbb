use Rattle.std.proofs.Common.{◌-◌, length, take, sym, ap, ◌∙◌, arith}
use Rattle.cc_submission_reading.proofs.ItemFronts.{none_says, none_stands}
use Rattle.cc_submission_reading.proofs.NextItems.{first_failed, first_came, next_bad, next_behind}
use Rattle.cc_submission_reading.proofs.hearing.hear_item.Goals as goal

pub returns-in-Err-clause-heard : goal.returns-in-Err-clause-heard
returns-in-Err-clause-heard g c =
    first_failed c.args.so_far.now _ _ _ _ _ _ c.hear_line.new.bytes.items c.new-bytes.result.items c.in-Err.error c.new-bytes.ensures.items c.in-Err.ensures.heard

pub returns-in-Ok-None-clause-heard : goal.returns-in-Ok-None-clause-heard
returns-in-Ok-None-clause-heard g c =
    next_bad c.args.so_far.now _ _ _ _ _ _ _ _
    (first_came _ _ _ _ _ _ c.new-bytes.result.items c.hear_line.new.bytes.items c.without_feed-line.result.now _ c.new-bytes.ensures.items c.in-Ok-true.field-0-test
    c.in-Ok-true.ensures.heard (c.without_feed-line.ensures ∙ ap (λ it. take (length it - 1) it) c.deref.ensures.value))
    (none_says c.args.so_far.now c.without_feed-line.result.now (sym c.in-Ok-None.ensures ∙ c.in-Ok-None.field-0-is))

pub returns-then-not-may_stand-clause-heard : goal.returns-then-not-may_stand-clause-heard
returns-then-not-may_stand-clause-heard g c =
    next_bad c.args.so_far.now _ _ _ _ _ _ _ _
    (first_came _ _ _ _ _ _ c.new-bytes.result.items c.hear_line.new.bytes.items c.without_feed-line.result.now _ c.new-bytes.ensures.items c.in-Ok-true.field-0-test
    c.in-Ok-true.ensures.heard (c.without_feed-line.ensures ∙ ap (λ it. take (length it - 1) it) c.deref.ensures.value))
    (none_stands c.args.so_far.now c.without_feed-line.result.now c.in-Ok-Some.head (sym c.in-Ok-Some.ensures ∙ c.in-Ok-Some.field-0-is)
    (sym c.may_stand.ensures ∙ c.if-not-may_stand.true))

pub returns-clause-heard : goal.returns-clause-heard
returns-clause-heard g c =
    next_behind c.args.so_far.now _ _ _ _ _ _ _ _ _ _ _ c.in-Ok-Some.head _ c.hear_behind.result c.requires.in_order
    (first_came _ _ _ _ _ _ c.new-bytes.result.items c.hear_line.new.bytes.items c.without_feed-line.result.now _ c.new-bytes.ensures.items c.in-Ok-true.field-0-test
    c.in-Ok-true.ensures.heard (c.without_feed-line.ensures ∙ ap (λ it. take (length it - 1) it) c.deref.ensures.value)) (sym c.in-Ok-Some.ensures ∙ c.in-Ok-Some.field-0-is)
    (sym c.may_stand.ensures ∙ c.if-not-may_stand.false) (omega (arith, c.len.ensures, c.hear_line.new.bytes.ok.0)) c.hear_behind.ensures.heard
