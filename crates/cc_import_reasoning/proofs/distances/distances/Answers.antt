use Rattle.std.proofs.Common.{◌+◌, Some, sym, subst, ◌∙◌, arith}
use Rattle.std.proofs.lemmas.List.{length-set}
use Rattle.cc_import_reasoning.specs.Distances.{AreKnown, AreKnownTo}
use Rattle.cc_import_reasoning.proofs.FartherDistances.{all_known, begun_at, unknown_at_first}
use Rattle.cc_import_reasoning.proofs.distances.distances.Goals as goal

pub loop-links-init : goal.loop-links-init
loop-links-init c =
    let all = c.in_ok-distances.distances.items in
    let none = c.in_ok-distances.ensures.none in
    let count = c.in_ok-distances.ensures.count in
    let first = unknown_at_first all none c.args.end 0 (let low = c.requires in omega arith) in
    record {
      count = length-set all c.args.end (Some 0) ∙ count;
      known = λ entry named are. begun_at all none entry named c.args.rows.now c.args.end count are c.requires;
      fewer = omega arith;
    }

pub returns-then-not-go_farther-clause-known : goal.returns-then-not-go_farther-clause-known
returns-then-not-go_farther-clause-known c = λ entry named are.
    let before = c.loop-links.invariant in
    let is = c.go_farther.ensures.same c.if-not-go_farther.true in
    let after = c.go_farther.ensures.known entry named c.args.end are c.requires (before.known entry named are) in
    subst (λ d. AreKnown entry named (named c.args.end) d) (sym is)
    (all_known entry named c.args.rows.now c.args.end c.loop-links.links are c.requires c.loop-links.distances.items before.count
    (before.known entry named are) (subst (λ d. AreKnownTo entry named (named c.args.end) (c.loop-links.links + 1) d) is after))
