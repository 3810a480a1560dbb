use Rattle.std.proofs.Common.{◌≡◌, ◌<◌, length, slice_index_or, subst}
use Rattle.std.specs.List.{flat_map}
use Rattle.std.specs.String.{string_bytes}
use Rattle.cc_binding.specs.Binding.{unused_rules}
use Rattle.cc_hosting.specs.HostedRuns.{unused_line}
use Rattle.cc_hosting.proofs.UnusedLines.{one_more_told}
use Rattle.cc_hosting.proofs.texts.put_unused.Goals as goal

pub loop-at-preserved : goal.loop-at-preserved
loop-at-preserved c =
    one_more_told c.args.session.now.present c.args.names.now.names.items c.args.policy.now c.loop-at.at c.rule-item.result (string_bytes c.args.out.now)
    (string_bytes c.loop-at.out) (string_bytes c.put_if_unused.new.out)
    (flat_map unused_line (unused_rules c.args.session.now.present c.args.names.now.names.items c.args.policy.now))
    (subst (λ rs. c.loop-at.at < length rs) c.rules-rule-items.ensures c.loop-at-test.true)
    (subst (λ rs. c.rule-item.result ≡ slice_index_or rs c.loop-at.at c.rule-item.result) c.rules-rule-items.ensures c.rule-item.is) c.loop-at.invariant c.in_ok-put_if_unused.ensures
