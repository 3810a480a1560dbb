use Rattle.std.proofs.Common.{◌≡◌, ◌+◌, ◌<◌, List, [], ◌∷◌, ◌++◌, map, ap, sym, ◌∙◌, arith}
use Rattle.std.proofs.lemmas.List.{map_push}
use Rattle.cc_derivation.specs.DerivationViews.{der_of}
use Rattle.cc_validity.specs.Spots.{place_of}
use Rattle.cc_checking.specs.DerivationSizes.{nodes}
use Rattle.cc_validity.specs.Waiting.{Standing, standing_of, nodes_in, broken_in, first_or}
use Rattle.cc_validity.proofs.PassedNodes.{last_number, fewer_wait, found_first}
use Rattle.cc_validity.proofs.waiting.least_broken.Goals as goal

pub pass-requires : goal.pass-requires
pass-requires c =
    let front = map standing_of c.pop.new.self.items in
    let last : List Standing = front ++ standing_of c.in-Some.next ∷ [] in
    let e : map standing_of c.loop-next.waiting.items ≡ last = ap (map standing_of) c.in-Some.ensures.items ∙ map_push standing_of c.pop.new.self.items c.in-Some.next in
    let is : c.loop-next.number ≡ nodes_in last = c.loop-next.invariant.number ∙ ap nodes_in e in
    let all : nodes_in last ≡ nodes_in front + nodes (der_of c.in-Some.next.der.value) = last_number front (place_of c.in-Some.next.spot) (der_of c.in-Some.next.der.value) in
    omega (arith, c.loop-next.auto.number-fits)

pub overflow_sub-number : goal.overflow_sub-number
overflow_sub-number c =
    let front = map standing_of c.pop.new.self.items in
    let e = ap (map standing_of) c.in-Some.ensures.items ∙ map_push standing_of c.pop.new.self.items c.in-Some.next in
    let fewer : c.loop-next.number ≡ c.in_ok-passed.passed.nodes + nodes_in (map standing_of c.pass.new.waiting.items) =
    fewer_wait front (map standing_of c.pass.new.waiting.items) (place_of c.in-Some.next.spot) (der_of c.in-Some.next.der.value) c.in_ok-passed.passed c.loop-next.number c.in_ok-passed.ensures
    (c.loop-next.invariant.number ∙ ap nodes_in e) in
    omega arith

pub loop-next-smaller : goal.loop-next-smaller
loop-next-smaller c =
    let front = map standing_of c.pop.new.self.items in
    let e = ap (map standing_of) c.in-Some.ensures.items ∙ map_push standing_of c.pop.new.self.items c.in-Some.next in
    let fewer : c.loop-next.number ≡ c.in_ok-passed.passed.nodes + nodes_in (map standing_of c.pass.new.waiting.items) =
    fewer_wait front (map standing_of c.pass.new.waiting.items) (place_of c.in-Some.next.spot) (der_of c.in-Some.next.der.value) c.in_ok-passed.passed c.loop-next.number c.in_ok-passed.ensures
    (c.loop-next.invariant.number ∙ ap nodes_in e) in
    let some : 0 < c.in_ok-passed.passed.nodes = c.in_ok-passed.ensures.some in
    omega arith

pub loop-next-preserved : goal.loop-next-preserved
loop-next-preserved c =
    let front = map standing_of c.pop.new.self.items in
    let new = map standing_of c.pass.new.waiting.items in
    let e = ap (map standing_of) c.in-Some.ensures.items ∙ map_push standing_of c.pop.new.self.items c.in-Some.next in
    let is = c.loop-next.invariant.number ∙ ap nodes_in e in
    let fewer : c.loop-next.number ≡ c.in_ok-passed.passed.nodes + nodes_in new =
    fewer_wait front new (place_of c.in-Some.next.spot) (der_of c.in-Some.next.der.value) c.in_ok-passed.passed c.loop-next.number c.in_ok-passed.ensures is in
    record {
      number = omega arith;
      least =
          ap (first_or (broken_in 0 new)) c.first_found-least.ensures
          ∙ found_first front new (place_of c.in-Some.next.spot) (der_of c.in-Some.next.der.value) c.in_ok-passed.passed c.loop-next.number c.in_ok-passed.ensures is c.loop-next.least
          ∙ ap (λ l. first_or (broken_in 0 l) c.loop-next.least) (sym e)
          ∙ c.loop-next.invariant.least;
    }
