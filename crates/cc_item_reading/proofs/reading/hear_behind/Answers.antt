use Rattle.cc_item_reading.proofs.NextItems.{behind_ok, behind_failed}
use Rattle.cc_item_reading.proofs.reading.hear_behind.Goals as goal

pub returns-in-Ok-hear_rules-clause-heard : goal.returns-in-Ok-hear_rules-clause-heard
returns-in-Ok-hear_rules-clause-heard g c =
    behind_ok c.args.head _ _ c.args.room _ _ _ _ _ _ _ _ _ c.hear_text.new.text.items c.hear_rules.new.rules.items c.heard_with.result
    c.text_size-size.ensures c.rule_count-count.ensures c.in-Ok.ensures.heard c.in-Ok-hear_rules.ensures.heard c.heard_with.ensures

pub returns-in-Err-hear_rules-clause-heard : goal.returns-in-Err-hear_rules-clause-heard
returns-in-Err-hear_rules-clause-heard g c =
    behind_failed c.args.head _ _ c.args.room _ _ _ _ _ _ _ _ _ c.hear_text.new.text.items c.hear_rules.new.rules.items c.in-Err-hear_rules.error
    c.text_size-size.ensures c.rule_count-count.ensures c.in-Ok.ensures.heard c.in-Err-hear_rules.ensures.heard
