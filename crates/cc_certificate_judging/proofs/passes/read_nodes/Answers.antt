use Rattle.std.proofs.Common.{[], ◌∷◌, length, map, ap, sym, ◌∙◌, ◌≡◌, ◌++◌, arith}
use mathlib.Core.List.{reverse}
use Rattle.cc_derivation.specs.DerivationViews.{rule_of}
use Rattle.cc_certificate_reading.specs.CertificateViews.{node_of}
use Rattle.cc_certificate_judging.specs.Passes.{read_at, kinds_above}
use Rattle.cc_certificate_judging.specs.PassViews.{kinds_in, plain_read}
use Rattle.cc_certificate_judging.proofs.PassSteps.{some_waits, read_step, read_start, read_all}
use Rattle.cc_certificate_judging.proofs.passes.read_nodes.Goals as goal

pub unreachable-requires : goal.unreachable-requires
unreachable-requires c =
    some_waits node_of kinds_in (length c.args.ctx.now) (kinds_in c.args.ctx.now ∷ []) (reverse (map node_of c.args.nodes.now)) (map plain_read c.loop-node.reads.items)
    c.loop-node.node-iterator.iter.rest.now c.next.new.self.iter.rest.now c.in-Some.node.now c.loop-node.waiting.items
    c.in-Some.ensures.steps (sym c.loop-node.waiting.ok.0 ∙ c.in_default.ensures.cases.0) c.loop-node.invariant

pub loop-node-init : goal.loop-node-init
loop-node-init c =
    let same = ap (λ i. i.iter.rest.now) c.into_iter-node-iterator.ensures.into_iter_gives ∙ ap (λ i. i.rest.now) c.rev-node-items.ensures.source ∙ c.iter.ensures.rest in
    read_start node_of plain_read kinds_in (length c.args.ctx.now) (kinds_in c.args.ctx.now) c.into_iter-node-iterator.result.iter.rest.now c.args.nodes.now c.push.new.self.items c.in_ok-clone.field-0 c.new-reads.result.items
    same (c.in_ok-push.ensures.items ∙ ap (λ l. l ++ c.in_ok-clone.field-0 ∷ []) c.new-waiting.ensures.items)
    (ap kinds_in c.in_ok-clone.ensures.cases) c.new-reads.ensures.items c.requires

pub loop-node-preserved : goal.loop-node-preserved
loop-node-preserved c =
    let many : c.len.result ≡ length c.in-Some.node.now.premises.items = omega arith in
    let next = c.in_ok-wait_for.ensures ∙ ap (λ n. map kinds_in c.pop.new.self.items ++ kinds_above (kinds_in c.in-Some-pop.place) (rule_of c.in-Some.node.now.rule) 0 n) many in
    let own = c.in_ok-read_node.ensures ∙ ap (λ n. read_at n (kinds_in c.in-Some-pop.place) (node_of c.in-Some.node.now)) c.len-names.ensures in
    read_step node_of plain_read kinds_in (length c.args.ctx.now) (kinds_in c.args.ctx.now ∷ []) (reverse (map node_of c.args.nodes.now))
    c.loop-node.node-iterator.iter.rest.now c.next.new.self.iter.rest.now c.in-Some.node.now c.loop-node.waiting.items c.pop.new.self.items c.wait_for.new.waiting.items c.in-Some-pop.place
    c.loop-node.reads.items c.push-in-loop-node.new.self.items c.in_ok-read_node.field-0
    c.in-Some.ensures.steps c.in-Some-pop.ensures.items c.in_ok-push-2.ensures.items own next c.loop-node.invariant

pub returns : goal.returns
returns c =
    read_all node_of plain_read kinds_in (length c.args.ctx.now) (kinds_in c.args.ctx.now ∷ []) (reverse (map node_of c.args.nodes.now))
    c.loop-node.node-iterator.iter.rest.now c.loop-node.waiting.items c.loop-node.reads.items c.in-None.ensures.steps.0 c.loop-node.invariant
