use Rattle.std.proofs.Common.{◌≡◌, ◌++◌, ◌-◌, map, length, replicate}
use Rattle.cc_causes.specs.Views.{locals_of}
use Rattle.cc_reasoning.proofs.located.fill.Given as goal

abbrev pub invariant-loop-known : goal.invariant-loop-known
invariant-loop-known l =
    map (λ x. locals_of x.value) l.known.items
    ++ replicate (l.count - length l.known.items) (locals_of l.locals.value)
    ≡ map (λ x. locals_of x.value) l.initial.known.items
    ++ replicate (l.count - length l.initial.known.items) (locals_of l.locals.value)

abbrev pub decreases-loop-known : goal.decreases-loop-known
decreases-loop-known l = l.count - length l.known.items
