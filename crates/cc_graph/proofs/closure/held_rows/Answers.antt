use Rattle.std.proofs.Common.{◌≡◌, ◌+◌, ◌<◌, false, not, ◌&&◌, [], ◌∷◌, ◌++◌, length, get_or, arith, inl, inr, ap, ◌∙◌}
use Rattle.std.proofs.Common.{length-append}
use Rattle.std.proofs.lemmas.Bool.{cases_lt}
use Rattle.std.proofs.lemmas.List.{get_or_default}
use Rattle.cc_graph.proofs.BitLemmas.{past_words}
use Rattle.cc_graph.proofs.RowLemmas.{each_pushed, no_row}
use Rattle.cc_graph.specs.Places.{has_bit, has_at, width_for}
use Rattle.cc_graph.proofs.closure.held_rows.Goals as goal

pub loop-at-init : goal.loop-at-init
loop-at-init c =
    let none = c.in_ok-all.ensures.items in
    record {
      count = ap length none;
      wide = λ row below. absurd (omega (arith, ap length none));
      bits = λ from to below within. absurd (omega arith);
      inside = λ from to past. ap (λ rows. has_at rows from to) none ∙ past_words to;
    }

pub loop-at-preserved : goal.loop-at-preserved
loop-at-preserved c =
    let items : c.push.new.self.items ≡ c.loop-at.all.items ++ c.in_ok-held.held ∷ [] = c.in_ok-push.ensures.items in
    let kept = c.loop-at.invariant in
    let longer : length c.push.new.self.items ≡ c.loop-at.at + 1 =
    omega (arith, kept.count, ap length items, length-append c.loop-at.all.items (c.in_ok-held.held ∷ [])) in
    let within_rows : c.loop-at.at < length c.args.rows.now = c.loop-at-test.true in
    let row : c.index-rows-at.result ≡ get_or c.args.rows.now c.loop-at.at [] =
    c.index-rows-at.is ∙ get_or_default c.args.rows.now c.loop-at.at c.index-rows-at.result [] within_rows in
    record {
      count = longer;
      wide = λ from below.
          rw items
          (each_pushed (λ k r. length r ≡ width_for
          (length c.args.rows.now)) c.loop-at.all.items c.in_ok-held.held [] c.loop-at.at kept.count
          (λ k low. kept.wide k (omega arith)) (omega (arith, c.in_ok-held.ensures.width, c.requires)) from
          (omega arith));
      bits = λ from to below within.
          rw items
          (each_pushed (λ k r. has_bit r to ≡ (has_at c.args.rows.now k to && not
          (has_at c.args.closed.now to k))) c.loop-at.all.items c.in_ok-held.held [] c.loop-at.at kept.count
          (λ k low. kept.bits k to low within)
          (c.in_ok-held.ensures.bits to (omega (arith, c.requires))
          ∙ ap (λ r. has_bit r to && not (has_at c.args.closed.now to c.loop-at.at)) row) from below);
      inside = λ from to past.
          elim (cases_lt from (c.loop-at.at + 1)) [
            | inl low ↦
                rw items
                (each_pushed (λ k r. has_bit r to ≡ false) c.loop-at.all.items c.in_ok-held.held [] c.loop-at.at
                kept.count
                (λ k less. kept.inside k to past) (c.in_ok-held.ensures.inside to (omega (arith, c.requires))) from low)
            | inr beyond ↦ no_row c.push.new.self.items from to (omega arith)
          ];
    }
