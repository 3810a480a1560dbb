use Rattle.std.proofs.Common.{◌≡◌, ◌+◌, ◌<◌, [], length, get_or, set, Some, inl, inr, sym, ap, subst, ◌∙◌, arith}
use Rattle.std.proofs.lemmas.Bool.{cases_Bool}
use Rattle.std.proofs.lemmas.List.{get_or_default, length-set}
use Rattle.cc_import_reasoning.specs.Distances.{HasNear, HasNoneNear, unknown_count}
use Rattle.cc_import_reasoning.proofs.FartherDistances.{AreKnownPartly, turn_put, turn_left, ended, fewer_unknown}
use Rattle.cc_import_reasoning.proofs.distances.go_farther.Goals.{then-reach, else-reach}
use Rattle.cc_import_reasoning.proofs.distances.go_farther.Goals as goal

pub loop-place-preserved : goal.loop-place-preserved
loop-place-preserved c =
    let rows = c.args.rows.now in
    let place = c.loop-place.place in
    let links = c.args.links in
    let distances = c.loop-place.distances.items in
    let before = c.loop-place.invariant in
    let low = c.loop-place-test.true in
    let row_is : c.index-rows-place.result ≡ get_or rows place [] = c.index-rows-place.is ∙ get_or_default rows place c.index-rows-place.result [] low in
    elim c.if-reach.branch [
      | then-reach w ↦
          (let (unknown, near, is) = c.reach.ensures.yes w.if-reach.true in
          let fewer = fewer_unknown distances place (links + 1) (let count = before.count in let same = c.requires.count in omega arith) unknown in
          record {
            count = ap length is ∙ length-set distances place (Some (links + 1)) ∙ before.count;
            known = λ entry named end are within old.
                subst (λ d. AreKnownPartly entry named rows end links are within (place + 1) d) (sym is)
                (turn_put entry named rows end links are within place distances low unknown (subst (λ r. HasNear r distances links) row_is near)
                (before.known entry named end are within old));
            fewer = λ changed.
                subst (λ d. unknown_count d < unknown_count c.args.distances.now.items) (sym is)
                (elim (cases_Bool c.loop-place.changed) [
                  | inl earlier ↦ (let less = before.fewer earlier in omega arith)
                  | inr first ↦ subst (λ d. unknown_count (set distances place (Some (links + 1))) < unknown_count d) (before.same first) fewer
                ]);
            same = λ same. cc;
          })
      | else-reach w ↦
          (let is = c.reach.ensures.no w.if-reach.false in
          record {
            count = ap length is ∙ before.count;
            known = λ entry named end are within old.
                subst (λ d. AreKnownPartly entry named rows end links are within (place + 1) d) (sym is)
                (turn_left entry named rows end links are within place distances low
                (λ unknown. subst (λ r. HasNoneNear r distances links) row_is (c.reach.ensures.none w.if-reach.false unknown))
                (before.known entry named end are within old));
            fewer = λ changed.
                subst (λ d. unknown_count d < unknown_count c.args.distances.now.items) (sym is) (before.fewer (sym w.changed-is ∙ changed));
            same = λ same. is ∙ before.same (sym w.changed-is ∙ same);
          })
    ]

pub returns-clause-known : goal.returns-clause-known
returns-clause-known c = λ entry named end are within old.
    ended entry named c.args.rows.now end c.args.links are within c.loop-place.place c.loop-place.distances.items c.loop-place-test.false
    (c.loop-place.invariant.known entry named end are within old)
