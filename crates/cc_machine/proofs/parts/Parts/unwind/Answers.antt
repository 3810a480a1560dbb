use Rattle.std.proofs.Common.{◌∷◌, ap, ◌∙◌}
use Rattle.cc_runs.specs.Machine.{below_scope}
use Rattle.cc_machine.specs.Parts.{frame_in, configuration_of}
use Rattle.cc_machine.proofs.Repeating.{unwinding_more, unwinds_found, scope_here, scope_elsewhere}
use Rattle.cc_machine.proofs.parts.Parts.unwind.Goals as goal

pub returns-then-other-label : goal.returns-then-other-label
returns-then-other-label c =
    let now = configuration_of c.pop.new.self in
    unwinds_found c.loop-frame.invariant c.in-Some.ensures
    (ap (λ f. below_scope c.args.label (frame_in c.pop.new.self.links.items f ∷ now.stack)) c.in-Scope.is
    ∙ scope_here c.args.label c.in-Scope.other now.stack c.if-other-label.true)

pub loop-frame-preserved-else-other-label : goal.loop-frame-preserved-else-other-label
loop-frame-preserved-else-other-label c =
    let now = configuration_of c.pop.new.self in
    unwinding_more c.loop-frame.invariant c.in-Some.ensures
    (ap (λ f. below_scope c.args.label (frame_in c.pop.new.self.links.items f ∷ now.stack)) c.in-Scope.is
    ∙ scope_elsewhere c.args.label c.in-Scope.other now.stack c.if-other-label.false)

pub loop-frame-preserved-in-Body : goal.loop-frame-preserved-in-Body
loop-frame-preserved-in-Body c =
    let now = configuration_of c.pop.new.self in
    unwinding_more c.loop-frame.invariant c.in-Some.ensures
    (ap (λ f. below_scope c.args.label (frame_in c.pop.new.self.links.items f ∷ now.stack)) c.in-Body.is)

pub loop-frame-preserved : goal.loop-frame-preserved
loop-frame-preserved c =
    let now = configuration_of c.pop.new.self in
    unwinding_more c.loop-frame.invariant c.in-Some.ensures
    (ap (λ f. below_scope c.args.label (frame_in c.pop.new.self.links.items f ∷ now.stack)) c.in-Repeat.is)
