use Rattle.std.proofs.Common.{map, ap, sym, ◌∙◌}
use mathlib.Core.List.{reverse}
use Rattle.cc_derivation.specs.DerivationViews.{der_of, premises_of}
use Rattle.cc_certificate_judging.specs.PassViews.{plain_read}
use Rattle.cc_certificate_judging.proofs.PassSteps.{enough_built, build_step, build_start, some_built, root_built}
use Rattle.cc_certificate_judging.proofs.passes.build.Goals as goal

pub take_premises-requires : goal.take_premises-requires
take_premises-requires c =
    enough_built (λ d. der_of d.value) plain_read (reverse (map plain_read c.args.reads.items)) c.loop-node.built.items c.loop-node.left.items c.pop.new.self.items c.in-Some.node
    c.in-Some.ensures.items c.loop-node.invariant

pub unreachable-requires : goal.unreachable-requires
unreachable-requires c =
    some_built (λ d. der_of d.value) plain_read (reverse (map plain_read c.args.reads.items)) c.loop-node.built.items c.loop-node.left.items
    (sym c.loop-node.left.ok.0 ∙ c.in_default.ensures.cases.0) (sym c.loop-node.built.ok.0 ∙ c.in-None.ensures.cases.0) c.loop-node.invariant

pub loop-node-init : goal.loop-node-init
loop-node-init c = build_start (λ d. der_of d.value) plain_read c.args.reads.items c.new-built.result.items c.new-built.ensures.items c.requires

pub loop-node-preserved : goal.loop-node-preserved
loop-node-preserved c =
    build_step (λ d. der_of d.value) plain_read (reverse (map plain_read c.args.reads.items)) c.loop-node.built.items c.take_premises.new.built.items c.push.new.self.items
    c.loop-node.left.items c.pop.new.self.items c.in-Some.node (premises_of c.in_ok-premises.premises) c.in_ok-made.made
    c.in-Some.ensures.items c.in_ok-premises.ensures.taken c.in_ok-premises.ensures.count c.in_ok-push.ensures.items
    (ap der_of c.in_ok-made.ensures.ok) c.loop-node.invariant

pub returns : goal.returns
returns c =
    root_built (λ d. der_of d.value) plain_read (reverse (map plain_read c.args.reads.items)) c.loop-node.built.items c.pop-2.new.self.items c.in-Some-pop.root c.loop-node.left.items
    (sym c.loop-node.left.ok.0 ∙ c.in_default.ensures.cases.0) c.in-Some-pop.ensures.items c.loop-node.invariant
